-- One step of the comparison of a path's names with words.
use Rattle.std.proofs.Common.{◌≡◌, ℕ, true, false, List, [], ◌∷◌, bytes_eq, refl}
use Rattle.rb_tree.specs.declared.syntax.PlacedName.{PlacedName}
use Rattle.rb_views.specs.Paths.{spelled}

pub spelled_none : (ns : List PlacedName) (word : List ℕ) (words : List (List ℕ)) → ns ≡ [] → spelled ns (word ∷ words) ≡ false
spelled_none ns word words e = rw e refl

pub spelled_other : (ns rest : List PlacedName) (n : PlacedName) (word : List ℕ) (words : List (List ℕ)) → ns ≡ n ∷ rest → bytes_eq n.name word ≡ false → spelled ns (word ∷ words) ≡ false
spelled_other ns rest n word words e f = rw (e, f) refl

pub spelled_same : (ns rest : List PlacedName) (n : PlacedName) (word : List ℕ) (words : List (List ℕ)) → ns ≡ n ∷ rest → bytes_eq n.name word ≡ true → spelled ns (word ∷ words) ≡ spelled rest words
spelled_same ns rest n word words e f = rw (e, f) refl
