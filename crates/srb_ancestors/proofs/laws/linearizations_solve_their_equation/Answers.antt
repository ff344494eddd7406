use Rattle.srb_ancestors.proofs.LawProofs.{equation_holds, one_solution}
use Rattle.srb_ancestors.proofs.laws.linearizations_solve_their_equation.Goals as goal

pub returns-clause-holds : goal.returns-clause-holds
returns-clause-holds c = equation_holds

pub returns-clause-one : goal.returns-clause-one
returns-clause-one c = one_solution
