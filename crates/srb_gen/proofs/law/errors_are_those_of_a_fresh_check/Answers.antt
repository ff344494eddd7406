use Rattle.srb_gen.proofs.FreshLists.{errors_are_fresh}
use Rattle.srb_gen.proofs.law.errors_are_those_of_a_fresh_check.Goals as goal

pub returns : goal.returns
returns c = λ language base steps laws order run over begun. errors_are_fresh language laws base order steps run over begun
