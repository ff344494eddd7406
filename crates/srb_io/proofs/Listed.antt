-- Paths in order, and which paths are among them.
use Rattle.std.proofs.Common.{◌≡◌, ℕ, Bool, true, false, ◌&&◌, ◌||◌, List, [], ◌∷◌, map, string_bytes, bytes_eq, refl, sym, ap, ◌∙◌, subst, cond, Option, Some, IsTrue, is_none}
use Rattle.std.specs.Cmp.Lexicographic.{texts_ties}
use Rattle.std.specs.List.{dedup, dedup_from, AllByRecursion}
use Rattle.std.specs.List.Sorted.{IsSorted, IsStrictlySortedBy, IsPermutation}
use Rattle.std.specs.List.Retain.{IsFiltered, DiffersFromLast}
use Rattle.std.specs.declared.cmp.Ordering.TheVariants.{Less}
use Rattle.std.specs.declared.string.String.{String}
use Rattle.std.specs.String.{string_cmp, string_eq, string_cmp_total}
use Rattle.std.proofs.lemmas.List.Filters.{dedup_is}
use Rattle.std.proofs.lemmas.List.Kept.{IsStrictlySortedBy-dedup}
use Rattle.std.proofs.lemmas.List.Sorted.{list_any-IsPermutation, IsPermutation-map}
use Rattle.std.proofs.lemmas.Slice.Eq.{bytes_eq-Decides}
use Rattle.srb_io.specs.Files.{IsBeforeEach, AreInOrder, is_among, is_there, ruby_paths, ends_in_rb, FolderFile}

-- ---- in order
before_each : {Z : Type 0} (x : String Z) (xs : List (String Z)) → AllByRecursion (λ y. string_cmp x y ≡ Less) xs
    → IsBeforeEach (string_bytes x) (map string_bytes xs)
before_each x [] all = tt
before_each x (y ∷ ys) all = (all.0, before_each x ys all.1)

in_order : {Z : Type 0} (xs : List (String Z)) → IsStrictlySortedBy string_cmp xs → AreInOrder (map string_bytes xs)
unfolding IsStrictlySortedBy
in_order [] sorted = tt
in_order (x ∷ xs) sorted = (before_each x xs sorted.0, in_order xs sorted.1)

pub AreInOrder-sorted : {Z : Type 0} (xs ys : List (String Z)) → IsSorted string_cmp xs
    → IsFiltered (DiffersFromLast string_eq) [] xs ys → AreInOrder (map string_bytes ys)
AreInOrder-sorted xs ys sorted left =
    in_order ys (subst (IsStrictlySortedBy string_cmp) (sym (dedup_is _ xs ys left))
    (IsStrictlySortedBy-dedup string_cmp_total (λ x y. texts_ties (string_bytes x) (string_bytes y)) xs sorted))

-- ---- among them
once : (a b c d : Bool) → (a ≡ true → b ≡ c) → cond a (b || d) (b || (c || d)) ≡ (b || (c || d))
once true true c d same = refl
once true false true d same = absurd (Rattle.std.proofs.lemmas.Bool.true≢false (sym (same refl)))
once true false false d same = refl
once false b c d same = refl

among_dedup_from : {Z : Type 0} (path : List ℕ) (k : String Z) (xs : List (String Z))
    → is_among path (map string_bytes (dedup_from string_eq k xs)) ≡ is_among path (map string_bytes (k ∷ xs))
among_dedup_from path k [] = refl
among_dedup_from path k (x ∷ xs) =
    by (string_eq x k) refl (among_dedup_from path k xs) (among_dedup_from path x xs)
  where
    by : (b : Bool) → string_eq x k ≡ b
        → is_among path (map string_bytes (dedup_from string_eq k xs)) ≡ is_among path (map string_bytes (k ∷ xs))
        → is_among path (map string_bytes (dedup_from string_eq x xs)) ≡ is_among path (map string_bytes (x ∷ xs))
        → is_among path (map string_bytes (cond b (dedup_from string_eq k xs) (k ∷ dedup_from string_eq x xs)))
        ≡ is_among path (map string_bytes (k ∷ x ∷ xs))
    by true is kept dropped =
        kept ∙ once true (bytes_eq path (string_bytes k)) (bytes_eq path (string_bytes x)) (is_among path (map string_bytes xs))
        (λ _. ap (bytes_eq path) (sym ((bytes_eq-Decides (string_bytes x) (string_bytes k)).0 is)))
    by false is kept dropped = ap (λ b. bytes_eq path (string_bytes k) || b) dropped

among_dedup : {Z : Type 0} (path : List ℕ) (xs : List (String Z))
    → is_among path (map string_bytes (dedup string_eq xs)) ≡ is_among path (map string_bytes xs)
among_dedup path [] = refl
among_dedup path (x ∷ xs) = among_dedup_from path x xs

pub is_among-sorted : {Z : Type 0} (given xs ys : List (String Z)) → IsPermutation given xs
    → IsFiltered (DiffersFromLast string_eq) [] xs ys
    → (path : List ℕ) → is_among path (map string_bytes ys) ≡ is_among path (map string_bytes given)
is_among-sorted given xs ys moved left path =
    ap (λ zs. is_among path (map string_bytes zs)) (dedup_is _ xs ys left) ∙ among_dedup path xs
    ∙ sym (list_any-IsPermutation (λ p. bytes_eq path p) _ _ (IsPermutation-map string_bytes given xs moved))

-- ---- the paths that end in `.rb`
ends_alike : (path other : List ℕ) (a : Bool) → bytes_eq path other ≡ a → (a && ends_in_rb other) ≡ (ends_in_rb path && a)
ends_alike path other true same = ap ends_in_rb (sym ((bytes_eq-Decides path other).0 same)) ∙ sym (and_true (ends_in_rb path))
  where
    and_true : (b : Bool) → (b && true) ≡ b
    and_true true = refl
    and_true false = refl
ends_alike path other false same = sym (and_false (ends_in_rb path))
  where
    and_false : (b : Bool) → (b && false) ≡ false
    and_false true = refl
    and_false false = refl

spread : (e a rest b : Bool) → (a && b) ≡ (e && a) → cond b (a || (e && rest)) (e && rest) ≡ (e && (a || rest))
spread true true rest true same = refl
spread true false rest true same = refl
spread false true rest true same = same
spread false false rest true same = refl
spread true true rest false same = absurd (Rattle.std.proofs.lemmas.Bool.true≢false (sym same))
spread true false rest false same = refl
spread false a rest false same = refl

pub among_ruby_paths : (path : List ℕ) (files : List FolderFile)
    → is_among path (ruby_paths files) ≡ (ends_in_rb path && is_there path files)
among_ruby_paths path [] = none (ends_in_rb path)
  where
    none : (b : Bool) → false ≡ (b && false)
    none true = refl
    none false = refl
among_ruby_paths path (file ∷ files) =
    by (ends_in_rb file.0) (among_ruby_paths path files)
    ∙ spread (ends_in_rb path) (bytes_eq path file.0) (is_there path files) (ends_in_rb file.0) (ends_alike path file.0 (bytes_eq path file.0) refl)
  where
    by : (b : Bool) → is_among path (ruby_paths files) ≡ (ends_in_rb path && is_there path files)
        → is_among path (cond b (file.0 ∷ ruby_paths files) (ruby_paths files))
        ≡ cond b (bytes_eq path file.0 || (ends_in_rb path && is_there path files)) (ends_in_rb path && is_there path files)
    by true later = ap (λ r. bytes_eq path file.0 || r) later
    by false later = later

-- ---- a call that does not fail
pub fails_not : {P : Type 0} (a c : Bool) (o : Option (List ℕ)) (bytes : List ℕ) → a ≡ c → a ≡ false → o ≡ Some bytes → (P → ⊥)
    → (P → IsTrue (c || is_none o)) × (IsTrue (c || is_none o) → P)
fails_not {P} a c o bytes same none there never =
    let none : (c || is_none o) ≡ false = ap (λ d. d || is_none o) (sym same ∙ none) ∙ ap is_none there in
    (λ p. absurd (never p), λ holds. absurd (Rattle.std.proofs.lemmas.Bool.true≢false (sym holds ∙ none)))
