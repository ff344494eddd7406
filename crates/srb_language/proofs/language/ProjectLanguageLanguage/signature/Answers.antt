use Rattle.std.proofs.Common.{◌≡◌, IfOk, option_map, subst, sym}
use Rattle.srb_terms.specs.declared.outline.Outline.{Outline}
use Rattle.srb_terms.specs.declared.world.World.{World}
use Rattle.rb_outline.specs.Outlines.{outline_of}
use Rattle.srb_judgement.specs.Views.{seen_signature}
use Rattle.srb_language.specs.Asked.{signature_of}
use Rattle.srb_language.specs.Knowledge.{knowledge_at}
use Rattle.srb_language.proofs.Texts.{text_is}
use Rattle.srb_language.proofs.language.ProjectLanguageLanguage.signature.Goals as goal

pub returns : goal.returns
returns c =
    subst (λ (x : Outline). IfOk c.signature.result (λ r. option_map seen_signature r ≡ signature_of (knowledge_at c.args.self.now) c.args.scope.now x c.args.params.now))
    (sym (text_is (knowledge_at c.args.self.now) c.args.sig.now))
    (subst (λ (w : World). IfOk c.signature.result (λ r. option_map seen_signature r ≡ signature_of (knowledge_at w) c.args.scope.now (outline_of c.args.sig.now) c.args.params.now))
    c.self.view_is c.signature.ensures)
