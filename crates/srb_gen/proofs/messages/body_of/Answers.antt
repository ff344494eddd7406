use Rattle.std.proofs.Common.{sym, Result, Ok, Err, IfOk}
use Rattle.std.proofs.lemmas.Result.{IfOk-weaker}
use Rattle.lsp_msg.proofs.Bodies.{says_its_value}
use Rattle.srb_gen.proofs.messages.body_of.Goals as goal

both : {X E : Type 0} (r : Result X E) (P Q : X → Type 0) → IfOk r P → IfOk r Q → IfOk r (λ x. P x × Q x)
both (Ok x) P Q p q = (p, q)
both (Err e) P Q p q = tt

pub returns-clause-says : goal.returns-clause-says
returns-clause-says c =
    IfOk-weaker c.to_vec.result _ _
    (λ body h. sym (says_its_value _ _ (h.0, h.1 c.requires.shallow)))
    (both c.to_vec.result _ _ c.to_vec.ensures.utf8 c.to_vec.ensures.reads_back)
