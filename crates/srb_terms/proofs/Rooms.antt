-- Rooms of 14 bytes, compared as two numbers of eight bytes.
use Rattle.std.proofs.Common.{◌≡◌, ℕ, List, ◌++◌, length, take, drop, nat_eq, bytes_eq, sym, ap, ◌∙◌, arith, take-append-drop}
use Rattle.std.proofs.lemmas.Bool.Decides.{same_from_decides, Decides-like, Decides-eqb}
use Rattle.std.proofs.lemmas.List.{take_all, length-drop, drop-drop}
use Rattle.std.proofs.lemmas.Slice.Eq.{bytes_eq-Decides}
use Rattle.std.specs.Int.{w64, from_le_bytes, to_le_bytes}

-- Where the first words of two rooms are equal, the second ones are equal exactly where the rooms are.
pub same_second : (x y : List ℕ) (a b c d : ℕ) → length x ≡ 14 → length y ≡ 14 → a ≡ b
    → to_le_bytes w64 a ≡ take 8 (drop 0 x) → to_le_bytes w64 b ≡ take 8 (drop 0 y)
    → to_le_bytes w64 c ≡ take 8 (drop 6 x) → to_le_bytes w64 d ≡ take 8 (drop 6 y)
    → c ≡ from_le_bytes w64 (take 8 (drop 6 x)) → d ≡ from_le_bytes w64 (take 8 (drop 6 y))
    → nat_eq c d ≡ bytes_eq x y
same_second x y a b c d full filled first one two three four read others =
    same_from_decides (nat_eq c d) (bytes_eq x y) (Decides-like (nat_eq c d) there back (Decides-eqb c d)) (bytes_eq-Decides x y)
  where
    behind : (z : List ℕ) → length z ≡ 14 → drop 2 (take 8 (drop 6 z)) ≡ drop 8 z
    behind z size = ap (drop 2) (take_all 8 (drop 6 z) (grind (arith, length-drop))) ∙ drop-drop 2 6 z

    there : c ≡ d → x ≡ y
    there same =
        let fronts : take 8 x ≡ take 8 y = sym one ∙ ap (to_le_bytes w64) first ∙ two in
        let ends : take 8 (drop 6 x) ≡ take 8 (drop 6 y) = sym three ∙ ap (to_le_bytes w64) same ∙ four in
        let rest : drop 8 x ≡ drop 8 y = sym (behind x full) ∙ ap (drop 2) ends ∙ behind y filled in
        sym (take-append-drop 8 x) ∙ (λ i. fronts i ++ rest i) ∙ take-append-drop 8 y

    back : x ≡ y → c ≡ d
    back same = read ∙ ap (λ z. from_le_bytes w64 (take 8 (drop 6 z))) same ∙ sym others
