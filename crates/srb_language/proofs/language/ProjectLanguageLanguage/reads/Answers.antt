use Rattle.std.proofs.Common.{◌≡◌, IfOk, subst, sym, ◌∙◌}
use Rattle.srb_terms.specs.declared.outline.Outline.{Outline}
use Rattle.srb_terms.specs.declared.world.World.{World}
use Rattle.srb_sig.specs.Types.{type_of}
use Rattle.srb_sig.specs.Views.{view_at}
use Rattle.srb_language.specs.Knowledge.{knowledge_at}
use Rattle.srb_language.proofs.Texts.{text_is}
use Rattle.srb_language.proofs.language.ProjectLanguageLanguage.reads.Goals as goal

pub returns : goal.returns
returns c =
    subst (λ (x : Outline). IfOk c.type_or_untyped.result (λ r. r ≡ type_of (view_at c.args.self.now) c.args.scope.now x))
    (c.in_ok-outline.ensures ∙ sym (text_is (knowledge_at c.args.self.now) c.args.text.now))
    (subst (λ (w : World). IfOk c.type_or_untyped.result (λ r. r ≡ type_of (view_at w) c.args.scope.now c.in_ok-outline.field-0)) c.self.view_is c.type_or_untyped.ensures.table)
