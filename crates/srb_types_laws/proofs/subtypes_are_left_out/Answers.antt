use Rattle.std.proofs.Common.{false}
use Rattle.srb_types_laws.proofs.Left.{without-normal, without-untyped, left-to, left-from, without-less, without-keeps}
use Rattle.srb_types_laws.proofs.subtypes_are_left_out.Goals as goal

pub returns-clause-normal : goal.returns-clause-normal
returns-clause-normal c = without-normal

pub returns-clause-parts : goal.returns-clause-parts
returns-clause-parts c L t u laws n = (without-untyped L t u, λ typed p. (left-to L laws t u n typed p, left-from L laws t u n typed p))

pub returns-clause-shapes : goal.returns-clause-shapes
returns-clause-shapes c L t u s laws valid = (without-less false L t u s, without-keeps L t u s laws valid)
