-- The names of the classes and modules of a list, one member after the other.
use Rattle.std.proofs.Common.{◌≡◌, ℕ, suc, ◌+◌, ◌<◌, List, [], ◌∷◌, ◌++◌, Option, None, Some, length, get_or, drop, append_assoc, add-one, ap, sym, ◌∙◌}
use Rattle.std.proofs.Math.Seq.{drop-cons}
use Rattle.srb_terms.specs.declared.ty.Ty.{Ty, out-Ty}
use Rattle.srb_types.specs.Normal.{class_name_at, class_names, name_before}

nil_append : (xs ys : List (List ℕ)) → (xs ++ []) ++ ys ≡ xs ++ ys
nil_append xs ys = append_assoc xs [] ys

before_append : (o : Option (List ℕ)) (xs ys : List (List ℕ)) → (xs ++ name_before o []) ++ ys ≡ xs ++ name_before o ys
before_append None xs ys = nil_append xs ys
before_append (Some name) xs ys = append_assoc xs (name ∷ []) ys

pub named_step : (members : List Ty) (i : ℕ) (t : Ty) (old new whole : List (List ℕ)) → i < length members → t ≡ get_or members i t
    → new ≡ old ++ name_before (class_name_at (out-Ty t)) [] → old ++ class_names (drop i members) ≡ whole
    → new ++ class_names (drop (i + 1) members) ≡ whole
named_step members i t old new whole within is now before =
    ap (λ xs. xs ++ class_names (drop (i + 1) members)) now
    ∙ ap (λ n. (old ++ name_before (class_name_at (out-Ty t)) []) ++ class_names (drop n members)) (add-one i)
    ∙ before_append (class_name_at (out-Ty t)) old (class_names (drop (suc i) members))
    ∙ ap (λ xs. old ++ class_names xs) (ap (λ y. y ∷ drop (suc i) members) is ∙ sym (drop-cons members i t within))
    ∙ before
