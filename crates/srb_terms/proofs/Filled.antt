-- Texts in place, compared with what fills their room.
use Rattle.std.proofs.Common.{◌≡◌, ◌≢◌, ℕ, ◌≤◌, ◌-◌, false, ◌&&◌, List, ◌++◌, length, take, drop, replicate, nat_eq, bytes_eq, sym, ap, subst, ◌∙◌, arith, take-append-drop, length-take-le}
use Rattle.std.proofs.lemmas.Bool.Decides.{same_from_decides, Decides-and, Decides-like, Decides-eqb, nat_tests}
use Rattle.std.proofs.lemmas.Slice.Eq.{bytes_eq-Decides}
use Rattle.std.proofs.lemmas.List.{drop-replicate, drop-append-le, drop_all, length-append, length-drop, length-replicate, take-append-le, take_all}
use Rattle.std.proofs.lemmas.Grind.{merely}
use Rattle.std.specs.Str.{IsUtf8}
use Rattle.srb_terms.specs.Spellings.{IsHeld}
use Rattle.srb_terms.specs.declared.spelling.Bytes.TheVariants.{Short}

-- Two rooms whose texts end where zeros begin are equal, and so are the numbers of their bytes, exactly where the texts are equal.
pub same_filled : (m n : ℕ) (x y : List ℕ) → m ≤ 14 → n ≤ 14 → length x ≡ 14 → length y ≡ 14
    → drop m x ≡ replicate (14 - m) 0 → drop n y ≡ replicate (14 - n) 0
    → (nat_eq m n && bytes_eq x y) ≡ bytes_eq (take m x) (take n y)
same_filled m n x y short others full filled zeros more =
    same_from_decides (nat_eq m n && bytes_eq x y) (bytes_eq (take m x) (take n y))
    (Decides-like (nat_eq m n && bytes_eq x y) there back (Decides-and (nat_eq m n) (bytes_eq x y) (Decides-eqb m n) (bytes_eq-Decides x y)))
    (bytes_eq-Decides (take m x) (take n y))
  where
    there : (m ≡ n) × (x ≡ y) → take m x ≡ take n y
    there same = λ i. take (same.0 i) (same.1 i)

    back : take m x ≡ take n y → (m ≡ n) × (x ≡ y)
    back same =
        let xs : length (take m x) ≡ m = length-take-le m x (omega arith) in
        let ys : length (take n y) ≡ n = length-take-le n y (omega arith) in
        let size : m ≡ n = sym xs ∙ ap length same ∙ ys in
        let rest : drop m x ≡ drop n y = zeros ∙ ap (λ k. replicate (14 - k) 0) size ∙ sym more in
        (size, sym (take-append-drop m x) ∙ (λ i. same i ++ rest i) ∙ take-append-drop n y)

pub other_number : (m n : ℕ) → m ≢ n → nat_eq m n ≡ false
other_number m n other = grind (arith, nat_tests)

-- A room of zeros with a text at its front holds the text.
pub is_held_filled : (t : List ℕ) → length t ≤ 14 → IsUtf8 t → IsHeld (Short (length t) (t ++ drop (length t) (replicate 14 0)))
is_held_filled t short text =
    let rest = drop (length t) (replicate 14 0) in
    let zeros : rest ≡ replicate (14 - length t) 0 = drop-replicate (length t) 14 0 in
    let front : take (length t) (t ++ rest) ≡ t = take-append-le (length t) t rest (omega arith) ∙ take_all (length t) t (omega arith) in
    let behind : drop (length t) (t ++ rest) ≡ rest = drop-append-le (length t) t rest (omega arith) ∙ ap (λ (zs : List ℕ). zs ++ rest) (drop_all (length t) t (omega arith)) in
    let size : length (t ++ rest) ≡ 14 = grind (arith, length-append, length-drop, length-replicate) in
    (short, (merely (subst IsUtf8 (sym front) text), (size, behind ∙ zeros)))
