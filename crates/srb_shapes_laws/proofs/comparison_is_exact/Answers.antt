use Rattle.std.proofs.Common.{◌≡◌, Bool, true, false, ◌⊎◌}
use Rattle.std.specs.Bool.{IsTrue}
use Rattle.srb_terms.specs.declared.ty.Ty.{Ty}
use Rattle.srb_shapes.specs.Lineages.{Lineage, IsLineage}
use Rattle.srb_shapes.specs.Comparing.{within}
use Rattle.srb_shapes.specs.Shapes.{Shape, IsShape, belongs, fits}
use Rattle.srb_shapes_laws.proofs.Bools.{either, by-test}
use Rattle.srb_shapes_laws.proofs.Sound.{sound}
use Rattle.srb_shapes_laws.proofs.Complete.{complete}
use Rattle.srb_shapes_laws.proofs.comparison_is_exact.Goals as goal

exact : (extra : Bool) (L : Lineage) (t u : Ty) → IsLineage L → IsTrue (fits L t) →
    ((s : Shape) → IsShape extra L s → IsTrue (belongs extra L t s) → IsTrue (belongs true L u s)) → IsTrue (within extra L t u)
exact extra L t u laws fit included = either (λ w. w)
    (λ f. let c = complete extra L laws t fit u f in absurd (c.outside (included c.shape c.valid c.inside)))
    (by-test (within extra L t u))

pub returns-clause-subtypes : goal.returns-clause-subtypes
returns-clause-subtypes c L t u laws fit = (λ w s v h. sound L laws false t u s v h w, exact false L t u laws fit)

pub returns-clause-parts : goal.returns-clause-parts
returns-clause-parts c L t u laws fit = (λ w s v h. sound L laws true t u s v h w, exact true L t u laws fit)
