use Rattle.std.proofs.Common.{false, sym, ◌∙◌, subst, arith}
use Rattle.std.specs.Prelude.{None}
use Rattle.lsp_docs.specs.Documents.{no_documents}
use Rattle.run_core.specs.Sessions.{Waiting}
use Rattle.run_core.specs.Cores.{IsCore, state_of}
use Rattle.run_core.proofs.CoreSteps.{opening_core, opening_state}
use Rattle.run_core.proofs.core_calls.Core.new.Goals as goal

pub invariant_of-result : goal.invariant_of-result
invariant_of-result c = record {
  core = subst (λ d. IsCore Waiting d false c.in_ok-rows.rows.entries c.in_ok-job.job) (sym c.in_ok-docs.ensures)
      (subst (λ rows. IsCore Waiting (no_documents c.args.files) false rows c.in_ok-job.job) (sym c.in_ok-rows.ensures) (opening_core c.args.files c.in_ok-job.job));
  since = λ begun fresh. absurd (grind (arith, begun));
}

pub returns-clause-state : goal.returns-clause-state
returns-clause-state c = (λ i. state_of (c.in_ok-docs.ensures i) Waiting (c.in_ok-rows.ensures i) 0 false false None None) ∙ opening_state c.args.files
