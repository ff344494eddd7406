use Rattle.std.proofs.Common.{sym}
use Rattle.run_serve.proofs.Owed.{owed_some}
use Rattle.run_serve.proofs.turning.go_on.Goals as goal

pub returns-else-rest-clause-checks : goal.returns-else-rest-clause-checks
returns-else-rest-clause-checks g c = λ some whole. c.work.ensures.checks (owed_some c.args.core.now.state whole (sym c.if-is_stale.ensures) (sym c.if-rest.ensures))
