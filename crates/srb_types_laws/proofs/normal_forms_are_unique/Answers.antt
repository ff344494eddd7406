use Rattle.srb_types_laws.proofs.Algebra.{by-shapes, any-turned, any-joined, any-itself}
use Rattle.srb_types_laws.proofs.Lattice.{all-turned, all-itself, any-absorbs, all-absorbs}
use Rattle.srb_types_laws.proofs.normal_forms_are_unique.Goals as goal

pub returns-clause-unique : goal.returns-clause-unique
returns-clause-unique c L t u laws circles tell n m same = by-shapes L laws circles tell t u n m same

pub returns-clause-unions : goal.returns-clause-unions
returns-clause-unions c L t u v laws circles tell n m k =
    (any-turned L laws circles tell t u n m, any-joined L laws circles tell t u v n m k, any-itself L laws circles tell t n)

pub returns-clause-intersections : goal.returns-clause-intersections
returns-clause-intersections c L t u laws circles tell n m first second = (
  all-turned L laws circles tell t u n m first second,
  all-itself L laws circles tell t u n m first second,
  any-absorbs L laws circles tell t u n m first second,
  all-absorbs L laws circles tell t u n m first second,
)
