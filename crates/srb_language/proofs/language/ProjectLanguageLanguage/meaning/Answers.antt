use Rattle.std.proofs.Common.{◌≡◌, IfOk, subst}
use Rattle.srb_terms.specs.declared.world.World.{World}
use Rattle.srb_judgement.specs.Views.{seen_meaning}
use Rattle.srb_language.specs.Asked.{meaning_of}
use Rattle.srb_language.specs.Knowledge.{knowledge_at}
use Rattle.srb_language.proofs.language.ProjectLanguageLanguage.meaning.Goals as goal

pub returns : goal.returns
returns c =
    subst (λ (w : World). IfOk c.meaning.result (λ r. seen_meaning r ≡ meaning_of (knowledge_at w) c.args.scope.now c.args.path.now))
    c.self.view_is c.meaning.ensures
