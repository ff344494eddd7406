-- Types by names, as a list.
use Rattle.std.specs.Prelude.{ℕ, List, [], ◌∷◌}
use Rattle.srb_terms.specs.declared.ty.Ty.{Ty}
use Rattle.srb_sig.specs.declared.named.Named.{Named}
use Rattle.srb_sig.specs.declared.named.Named.TheVariants as variant

-- the names and their types, in the order in which they came
abbrev pub entries_of : Named → List (List ℕ × Ty)
entries_of variant.Empty = []
entries_of (variant.One name ty) = (name, ty) ∷ []
entries_of (variant.Many map) = map.entries
