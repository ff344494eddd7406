use Rattle.srb_check.proofs.FactLists.{same_facts-decides}
use Rattle.run_core.proofs.law.an_edit_keeps_by_its_own_file.Goals as goal

pub returns : goal.returns
returns c = λ p e. same_facts-decides _ _
