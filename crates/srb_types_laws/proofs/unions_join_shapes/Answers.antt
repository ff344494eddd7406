use Rattle.srb_types_laws.proofs.Parts.{any-normal}
use Rattle.srb_types_laws.proofs.Joined.{any-has}
use Rattle.srb_types_laws.proofs.unions_join_shapes.Goals as goal

pub returns-clause-normal : goal.returns-clause-normal
returns-clause-normal c = any-normal

pub returns-clause-shapes : goal.returns-clause-shapes
returns-clause-shapes c L t u s laws valid = any-has L laws s valid t u
