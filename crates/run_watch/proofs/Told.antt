-- Watchers that are told a step one after the other, in one list, of which those that stay come to stand in front.
use Rattle.std.proofs.Common.{◌≡◌, ℕ, zero, suc, ◌+◌, ◌<◌, ◌≤◌, Bool, true, false, not, if◌then◌else◌, List, [], ◌∷◌, ◌++◌, length, take, drop, refl, sym, ap, ◌∙◌, subst, arith, append_assoc, append-nil}
use Rattle.std.specs.Prelude.{Option}
use Rattle.std.specs.List.{swap}
use Rattle.run_watch.specs.declared.step.Step.{Step}
use Rattle.run_watch.specs.Told.{Learns, AreTold}
use lib.ListN.{get_or, set, length-set, drop_of_length-le}
use lib.Seq.{drop-cons, drop-set-lt, take-set-le, take-suc, get_or-set_same}
use Rattle.std.proofs.lemmas.List.Edits.{swap_is, swapped_from_swap, length-swap}

drop_more : {W : Type 0} (i : ℕ) (xs : List W) → drop (suc i) xs ≡ drop 1 (drop i xs)
drop_more zero xs = refl
drop_more (suc i) [] = refl
drop_more (suc i) (x ∷ xs) = drop_more i xs

same_later : {W : Type 0} (xs ys : List W) (i : ℕ) → drop i ys ≡ drop i xs → drop (suc i) ys ≡ drop (suc i) xs
same_later xs ys i e = drop_more i ys ∙ ap (drop 1) e ∙ sym (drop_more i xs)

front_is : {W : Type 0} (xs ys : List W) → take (length xs) (xs ++ ys) ≡ xs
front_is [] ys = refl
front_is (x ∷ xs) ys = ap (λ l. x ∷ l) (front_is xs ys)

pub taken : {W : Type 0} (xs ys : List W) (n : ℕ) → n ≡ length xs → take n (xs ++ ys) ≡ xs
taken xs ys n is = ap (λ k. take k (xs ++ ys)) is ∙ front_is xs ys

module _ {W : Type 0} (seen : W → Option (List Step)) (leaves : W → Step → Bool) (x : Step) (xs : List W) where
  -- The first `at` were told, and `kept` of them stay; from there on the list is as it was.
  pub record Sifts (ys : List W) (kept at : ℕ) : Type 0 where
    pub after : kept ≤ at
    pub long : length ys ≡ length xs
    pub rest : drop at ys ≡ drop at xs
    pub told : (zs : List W) → AreTold seen leaves x (drop at xs) zs → AreTold seen leaves x xs (take kept ys ++ zs)

  pub sifts_none : Sifts xs 0 0
  sifts_none = record { after = omega arith; long = refl; rest = refl; told = λ zs told. told }

  pub sifts_all : (ys : List W) (kept at : ℕ) → Sifts ys kept at → length xs ≤ at → (zs : List W) → zs ≡ take kept ys → AreTold seen leaves x xs zs
  sifts_all ys kept at s le zs is =
      subst (AreTold seen leaves x xs) (append-nil (take kept ys) ∙ sym is) (s.told [] (subst (λ l. AreTold seen leaves x l []) (sym (drop_of_length-le xs le)) refl))

  module _ (ys : List W) (kept at : ℕ) (s : Sifts ys kept at) (w told : W) (lt : at < length ys) (is : w ≡ get_or ys at w) (learns : Learns (seen w) (seen told) x) where
    here : drop at xs ≡ w ∷ drop (suc at) xs
    here = sym s.rest ∙ drop-cons ys at w lt ∙ ap (λ v. v ∷ drop (suc at) ys) (sym is) ∙ ap (λ l. w ∷ l) (same_later xs ys at s.rest)

    rest_is : drop (suc at) (set ys at told) ≡ drop (suc at) xs
    rest_is = drop-set-lt (suc at) ys at told (omega arith) ∙ same_later xs ys at s.rest

    -- one that leaves
    sifts_gone : leaves w x ≡ true → Sifts (set ys at told) kept (suc at)
    sifts_gone gone = record {
      after = let b = s.after in omega (arith, b);
      long = length-set ys at told ∙ s.long;
      rest = rest_is;
      told = λ zs are.
          subst (λ l. AreTold seen leaves x xs (l ++ zs)) (sym (take-set-le kept ys at told s.after))
          (s.told zs (subst (λ l. AreTold seen leaves x l zs) (sym here) (told, learns, zs, are, ap (λ b. if b then zs else told ∷ zs) (sym gone))));
    }

    -- one that stays
    sifts_kept : leaves w x ≡ false → Sifts (swap (set ys at told) kept at) (suc kept) (suc at)
    sifts_kept stays =
        let b = s.after in
        let told_in = set ys at told in
        let long = length-set ys at told in
        let low : kept < length told_in = omega (arith, b, long, lt) in
        let high : at < length told_in = omega (arith, long, lt) in
        let after = swap told_in kept at in
        let same_long = length-swap told_in kept at in
        let pieces = swap_is told_in kept at told low high in
        let first = set told_in kept (get_or told_in at told) in
        let there : get_or after kept told ≡ told = (swapped_from_swap told_in after kept at told low high refl).0 ∙ get_or-set_same ys at told told lt in
        let front : take kept after ≡ take kept ys =
        ap (take kept) (sym pieces) ∙ take-set-le kept first at (get_or told_in kept told) s.after
        ∙ take-set-le kept told_in kept (get_or told_in at told) (omega arith) ∙ take-set-le kept ys at told s.after in
        let more : take (suc kept) after ≡ take kept ys ++ told ∷ [] =
        take-suc after kept told (omega (arith, same_long, low)) ∙ ap (λ l. l ++ get_or after kept told ∷ []) front ∙ ap (λ v. take kept ys ++ v ∷ []) there in
        record {
          after = omega (arith, b);
          long = same_long ∙ long ∙ s.long;
          rest = ap (drop (suc at)) (sym pieces) ∙ drop-set-lt (suc at) first at (get_or told_in kept told) (omega arith)
              ∙ drop-set-lt (suc at) told_in kept (get_or told_in at told) (omega (arith, b)) ∙ rest_is;
          told = λ zs are.
              subst (AreTold seen leaves x xs) (sym (ap (λ l. l ++ zs) more ∙ append_assoc (take kept ys) (told ∷ []) zs))
              (s.told (told ∷ zs) (subst (λ l. AreTold seen leaves x l (told ∷ zs)) (sym here) (told, learns, zs, are, ap (λ b. if b then zs else told ∷ zs) (sym stays))));
        }

    -- one that was told, by what it answered
    pub sifts_on : (zs : List W) (kept' : ℕ) (stays : Bool) → stays ≡ not (leaves w x)
        → zs ≡ (if stays then swap (set ys at told) kept at else set ys at told) → kept' ≡ (if stays then kept + 1 else kept) → Sifts zs kept' (at + 1)
    sifts_on zs kept' stays by is count = decided (leaves w x) refl
      where
        one_more : (n : ℕ) → suc n ≡ n + 1
        one_more n = omega arith

        decided : (l : Bool) → leaves w x ≡ l → Sifts zs kept' (at + 1)
        decided true e =
            let no : stays ≡ false = by ∙ ap not e in
            let list : zs ≡ set ys at told = is ∙ ap (λ b. if b then swap (set ys at told) kept at else set ys at told) no in
            let number : kept' ≡ kept = count ∙ ap (λ b. if b then kept + 1 else kept) no in
            subst (Sifts zs kept') (one_more at) (subst (λ l. Sifts l kept' (suc at)) (sym list) (subst (λ n. Sifts (set ys at told) n (suc at)) (sym number) (sifts_gone e)))
        decided false e =
            let yes_stays : stays ≡ true = by ∙ ap not e in
            let list : zs ≡ swap (set ys at told) kept at = is ∙ ap (λ b. if b then swap (set ys at told) kept at else set ys at told) yes_stays in
            let number : kept' ≡ suc kept = count ∙ ap (λ b. if b then kept + 1 else kept) yes_stays ∙ sym (one_more kept) in
            subst (Sifts zs kept') (one_more at)
            (subst (λ l. Sifts l kept' (suc at)) (sym list) (subst (λ n. Sifts (swap (set ys at told) kept at) n (suc at)) (sym number) (sifts_kept e)))
