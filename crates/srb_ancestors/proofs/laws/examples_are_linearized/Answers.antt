use Rattle.std.proofs.Common.{refl}
use Rattle.srb_rules.specs.Lin.{lin_of}
use Rattle.srb_ancestors.proofs.laws.examples_are_linearized.Goals as goal

pub returns-clause-mixed : goal.returns-clause-mixed
unfolding lin_of
returns-clause-mixed c = refl

pub returns-clause-nested : goal.returns-clause-nested
unfolding lin_of
returns-clause-nested c = refl

pub returns-clause-circular : goal.returns-clause-circular
returns-clause-circular c = refl

pub returns-clause-counted : goal.returns-clause-counted
returns-clause-counted c = refl

pub returns-clause-all_count : goal.returns-clause-all_count
returns-clause-all_count c = refl
