use Rattle.srb_conflicts_laws.proofs.Agree.{bodies-agree, constants-agree, extends-agree, includes-agree, superclasses-agree}
use Rattle.srb_conflicts_laws.proofs.errors_are_those_of_facts.Goals as goal

pub returns-clause-bodies : goal.returns-clause-bodies
returns-clause-bodies c = bodies-agree

pub returns-clause-constants : goal.returns-clause-constants
returns-clause-constants c = constants-agree

pub returns-clause-superclasses : goal.returns-clause-superclasses
returns-clause-superclasses c = superclasses-agree

pub returns-clause-includes : goal.returns-clause-includes
returns-clause-includes c = includes-agree

pub returns-clause-extends : goal.returns-clause-extends
returns-clause-extends c = extends-agree
