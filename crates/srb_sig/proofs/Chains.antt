-- The last call of a chain stands after the calls before it.
use Rattle.std.proofs.Common.{◌≡◌, ◌≤◌, ◌-◌, ◌+◌, List, [], ◌∷◌, ◌++◌, length, take, Option, refl, ap, sym, ◌∙◌, arith}
use Rattle.std.proofs.Math.ListN.{get_or}
use Rattle.std.proofs.lemmas.List.{take_more, take_all}
use Rattle.srb_terms.specs.declared.outline.Outline.{Outline}
use Rattle.srb_sig.specs.Forms.{kind_of, words_of, parts_of}
use Rattle.srb_sig.specs.Chains.{Said, last_call_at, with_last, with_suffix, with_suffixes}

last-is : (s : Option Said) (front : List Outline) (last : Outline) (arguments : Option (List Outline)) →
    with_last s (front ++ last ∷ []) arguments ≡ last_call_at (with_suffixes s front) (kind_of last) (words_of last) (parts_of last) arguments
last-is s [] last arguments = refl
last-is s (x ∷ []) last arguments = refl
last-is s (x ∷ y ∷ front) last arguments = last-is (with_suffix s x) (y ∷ front) last arguments

-- a list is what stands before its last element, and that
whole : (xs : List Outline) (last : Outline) → 1 ≤ length xs → last ≡ get_or xs (length xs - 1) last → xs ≡ take (length xs - 1) xs ++ last ∷ []
whole xs last some is =
    let count : length xs - 1 + 1 ≡ length xs = omega (arith, some) in
    sym (take_all (length xs) xs (omega arith))
    ∙ ap (λ n. take n xs) (sym count)
    ∙ take_more xs (length xs - 1) last (omega (arith, some))
    ∙ ap (λ y. take (length xs - 1) xs ++ y ∷ []) (sym is)

pub last_of : (s : Option Said) (xs : List Outline) (last : Outline) (arguments : Option (List Outline)) →
    1 ≤ length xs → last ≡ get_or xs (length xs - 1) last →
    with_last s xs arguments ≡ last_call_at (with_suffixes s (take (length xs - 1) xs)) (kind_of last) (words_of last) (parts_of last) arguments
last_of s xs last arguments some is =
    ap (λ ys. with_last s ys arguments) (whole xs last some is) ∙ last-is s (take (length xs - 1) xs) last arguments
