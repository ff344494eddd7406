use Rattle.std.proofs.Common.{sym, ◌∙◌}
use Rattle.lsp_frame.proofs.HeadLemmas.{head_from-settled}
use Rattle.lsp_frame.proofs.head.read_head.Goals as goal

pub returns-in_default : goal.returns-in_default
returns-in_default c = let h = c.in_default.not-Unended in c.settled.ensures ∙ sym (head_from-settled _ _ c.loop-head.rest.now (λ e. h (c.settled.ensures ∙ e))) ∙ c.loop-head.invariant.same
