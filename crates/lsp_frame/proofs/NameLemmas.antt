-- The name of the line that gives the length, matched byte by byte.
use Rattle.std.proofs.Common.{◌≡◌, ◌==◌, ℕ, ◌+◌, ◌<◌, nat_lt, Bool, true, false, ◌&&◌, if◌then◌else◌, zero, suc, List, [], ◌∷◌, ◌++◌, length, map, drop, None, Some, refl, sym, ap, ◌∙◌, subst, arith, append-nil, add-one, drop-cons}
use Rattle.std.specs.List.{slice_index}
use Rattle.std.specs.Char.{to_ascii_lowercase}
use Rattle.std.proofs.lemmas.Bool.Decides.{nat_tests}
use Rattle.lsp_frame.specs.Bytes.{content_length}
use Rattle.lsp_frame.specs.Grammar.{IsLengthName}
use Rattle.lsp_frame.proofs.ScanLemmas.{matched}

none_matched : (xs : List ℕ) → matched None xs ≡ None
none_matched [] = refl
none_matched (x ∷ xs) = none_matched xs

both : (a b : Bool) → (a && b) ≡ true → (a ≡ true) × (b ≡ true)
both true b e = (refl, e)
both false b e = absurd (let wrong : false ≡ true = e in cc)

less : (a b : ℕ) → nat_lt a b ≡ true → a < b
less a b e = grind (arith, nat_tests)

same : (a b : ℕ) → (a == b) ≡ true → a ≡ b
same a b e = grind (arith, nat_tests)

-- one more byte of a name that goes on to match
one_matched : (test : Bool) (k : ℕ) (xs : List ℕ) (j : ℕ) → matched (if test then Some (k + 1) else None) xs ≡ Some j → (test ≡ true) × (matched (Some (k + 1)) xs ≡ Some j)
one_matched true k xs j e = (refl, e)
one_matched false k xs j e = absurd (let wrong : None ≡ Some j = sym (none_matched xs) ∙ e in cc)

-- what matches is a part of the name
pub matched-sound : (k : ℕ) (xs : List ℕ) (j : ℕ) → matched (Some k) xs ≡ Some j → drop k content_length ≡ map to_ascii_lowercase xs ++ drop j content_length
matched-sound k [] j e = let is : k ≡ j = cc in ap (λ i. drop i content_length) is
matched-sound k (x ∷ xs) j e =
    let is = one_matched (nat_lt k 14 && (slice_index content_length k == to_ascii_lowercase x)) k xs j e in
    let tests = both (nat_lt k 14) (slice_index content_length k == to_ascii_lowercase x) is.0 in
    let inside : k < length content_length = less k 14 tests.0 in
    let byte : slice_index content_length k ≡ to_ascii_lowercase x = same _ _ tests.1 in
    let later : drop (suc k) content_length ≡ map to_ascii_lowercase xs ++ drop j content_length = subst (λ i. drop i content_length ≡ map to_ascii_lowercase xs ++ drop j content_length) (add-one k) (matched-sound (k + 1) xs j is.1) in
    drop-cons content_length k 0 inside ∙ ap (λ b. b ∷ drop (suc k) content_length) byte ∙ ap (λ l. to_ascii_lowercase x ∷ l) later

-- a name that matches to its end is that of the length
pub matched-name : (xs : List ℕ) → matched (Some 0) xs ≡ Some 14 → IsLengthName xs
matched-name xs e = sym (matched-sound 0 xs 14 e ∙ append-nil (map to_ascii_lowercase xs))

lesser : (a b : ℕ) → a < b → nat_lt a b ≡ true
lesser a b e = grind (arith, nat_tests)

equal : (a b : ℕ) → a ≡ b → (a == b) ≡ true
equal a b e = grind (arith, nat_tests)

both_true : (a b : Bool) → a ≡ true → b ≡ true → (a && b) ≡ true
both_true true true p q = refl
both_true true false p q = absurd (let wrong : false ≡ true = q in cc)
both_true false b p q = absurd (let wrong : false ≡ true = p in cc)

is_true : (test : Bool) (k : ℕ) (xs : List ℕ) → test ≡ true → matched (if test then Some (k + 1) else None) xs ≡ matched (Some (k + 1)) xs
is_true true k xs e = refl
is_true false k xs e = absurd (let wrong : false ≡ true = e in cc)

-- what is a part of the name matches
drop_nonempty : (k : ℕ) (xs : List ℕ) (y : ℕ) (ys : List ℕ) → drop k xs ≡ y ∷ ys → k < length xs
drop_nonempty zero [] y ys e = absurd (let wrong : [] ≡ y ∷ ys = e in cc)
drop_nonempty zero (x ∷ xs) y ys e = omega arith
drop_nonempty (suc k) [] y ys e = absurd (let wrong : [] ≡ y ∷ ys = e in cc)
drop_nonempty (suc k) (x ∷ xs) y ys e = let h : k < length xs = drop_nonempty k xs y ys e in omega arith

pub matched-complete : (k : ℕ) (xs rest : List ℕ) → drop k content_length ≡ map to_ascii_lowercase xs ++ rest → matched (Some k) xs ≡ Some (k + length xs)
matched-complete k [] rest e = let z : k + 0 ≡ k = omega arith in ap Some (sym z)
matched-complete k (x ∷ xs) rest e =
    let inside : k < 14 = drop_nonempty k content_length _ _ e in
    let split : slice_index content_length k ∷ drop (suc k) content_length ≡ to_ascii_lowercase x ∷ (map to_ascii_lowercase xs ++ rest) = sym (drop-cons content_length k 0 inside) ∙ e in
    let byte : slice_index content_length k ≡ to_ascii_lowercase x = cc in
    let later : drop (suc k) content_length ≡ map to_ascii_lowercase xs ++ rest = cc in
    let later_one : drop (k + 1) content_length ≡ map to_ascii_lowercase xs ++ rest = ap (λ i. drop i content_length) (add-one k) ∙ later in
    let count : k + 1 + length xs ≡ k + suc (length xs) = omega arith in
    is_true (nat_lt k 14 && (slice_index content_length k == to_ascii_lowercase x)) k xs (both_true _ _ (lesser k 14 inside) (equal _ _ byte)) ∙ matched-complete (k + 1) xs rest later_one ∙ ap Some count

length_map : (f : ℕ → ℕ) (xs : List ℕ) → length (map f xs) ≡ length xs
length_map f [] = refl
length_map f (x ∷ xs) = ap suc (length_map f xs)

pub name-matched : (xs : List ℕ) → IsLengthName xs → matched (Some 0) xs ≡ Some 14
name-matched xs is =
    let long : length xs ≡ 14 = sym (length_map to_ascii_lowercase xs) ∙ ap length is in
    let sum : 0 + length xs ≡ 14 = omega (arith, long) in
    matched-complete 0 xs [] (sym is ∙ sym (append-nil (map to_ascii_lowercase xs))) ∙ ap Some sum
