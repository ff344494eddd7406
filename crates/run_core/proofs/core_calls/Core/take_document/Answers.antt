use Rattle.std.proofs.Common.{ap, subst}
use Rattle.lsp_docs.specs.Documents.{IsAccepted}
use Rattle.lsp_docs.specs.Rows.{planned, told_of_plan}
use Rattle.run_core.specs.Cores.{Account}
use Rattle.run_core.proofs.CoreSteps.{edit_makes}
use Rattle.run_core.proofs.core_calls.Core.take_document.Goals as goal

pub returns-then-plan-clause-makes : goal.returns-then-plan-clause-makes
returns-then-plan-clause-makes c =
    let docs = c.args.self.now.state.session.documents in
    let plan = c.in-Ok.plan in
    edit_makes c.args.self.now.state c.take_edit.new.self.state (planned plan docs) c.args.msg.now (told_of_plan plan) c.requires.phase c.requires.ended
    (subst (λ d. IsAccepted d c.args.msg.now (planned plan d) (told_of_plan plan)) (ap (λ (a : Account). a.state.session.documents) c.self.view_is) c.in-Ok.ensures.accepted)
    c.if-plan.true c.in_ok-take_edit-in-Ok.ensures.state
