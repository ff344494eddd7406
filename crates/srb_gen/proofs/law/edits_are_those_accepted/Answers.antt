use Rattle.srb_gen.proofs.Taken.{edits_are_taken}
use Rattle.srb_gen.proofs.law.edits_are_those_accepted.Goals as goal

pub returns : goal.returns
returns c = edits_are_taken
