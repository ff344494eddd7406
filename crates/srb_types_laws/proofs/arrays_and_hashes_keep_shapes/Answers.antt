use Rattle.srb_types_laws.proofs.Cutting.{array-normal, hash-normal, array-keeps, hash-keeps, array-stays, hash-stays}
use Rattle.srb_types_laws.proofs.arrays_and_hashes_keep_shapes.Goals as goal

pub returns-clause-normal : goal.returns-clause-normal
returns-clause-normal c L t u laws n m = (array-normal L laws t n, hash-normal L laws t u n m)

pub returns-clause-shapes : goal.returns-clause-shapes
returns-clause-shapes c L t u s laws n m valid =
    (array-keeps L laws t s n valid, hash-keeps L laws t u s n m valid, array-stays L t, hash-stays L t u)
