-- The linearizations that are kept beside the parts of a union.
use Rattle.std.specs.Prelude.{ℕ, List, [], map}
use Rattle.srb_terms.specs.declared.ty.Ty.{Ty, out-Ty}
use Rattle.srb_terms.specs.declared.ty.Ty.TheOpen.{Ty-F}
use Rattle.srb_shapes.specs.Lineages.{Lineage}

abbrev pub lin_at : {X : Type 0} → Lineage → Ty-F X → List (List ℕ)
lin_at L (Ty-F.Class name) = L.lin name
lin_at L _ = []

-- that of a class or module, and none for any other part
unfoldable pub lin_of : Lineage → Ty → List (List ℕ)
lin_of L t = lin_at L (out-Ty t)

abbrev pub lins_of : Lineage → List Ty → List (List (List ℕ))
lins_of L ts = map (lin_of L) ts
