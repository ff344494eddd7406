use Rattle.srb_types_laws.proofs.Inhabited.{part-shape, part-apart}
use Rattle.srb_types_laws.proofs.parts_are_apart.Goals as goal

pub returns-clause-shapes : goal.returns-clause-shapes
returns-clause-shapes c L t p laws n typed a = part-shape L laws t n typed p a

pub returns-clause-apart : goal.returns-clause-apart
returns-clause-apart c L t p q laws n typed a b h = part-apart L laws t n typed p q a b h
