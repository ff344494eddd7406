-- The parts of a type, of which it is the union.
use Rattle.std.specs.Prelude.{List, [], ◌∷◌}
use Rattle.srb_terms.specs.declared.ty.Ty.{Ty, out-Ty}
use Rattle.srb_terms.specs.declared.ty.Ty.TheVariants as ty
use Rattle.srb_terms.specs.declared.ty.Ty.TheOpen.{Ty-F}

abbrev pub parts_at : Ty → Ty-F Ty → List Ty
parts_at t Ty-F.Never = []
parts_at t (Ty-F.Any parts) = parts
parts_at t _ = t ∷ []

-- those of a union are the types that it joins, `T.noreturn` has none, and any other type is its one part
unfoldable pub parts_of : Ty → List Ty
parts_of t = parts_at t (out-Ty t)

-- the type that has these parts
abbrev pub of_parts : List Ty → Ty
of_parts [] = ty.Never
of_parts (part ∷ []) = part
of_parts (first ∷ second ∷ rest) = ty.Any (first ∷ second ∷ rest)
