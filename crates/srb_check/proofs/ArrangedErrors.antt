-- Errors in order: two lists that strictly rise and have the same errors are one.
use Rattle.std.proofs.Common.{◌≡◌, ℕ, zero, suc, ◌<◌, List, [], ◌∷◌, length, get_or, refl, sym, ap, ◌∙◌, ◌⊎◌, inl, inr, ⊎_elim, Contains, IsPermutation, IsSorted, Ordering, Less, Equal, Greater, is_lt, true, true≢false, subst, arith}
use Rattle.std.specs.Cmp.{IsTotalOrder, IsEquivalence, both_tied, unsigned_ties}
use Rattle.std.specs.Cmp.Lexicographic.{nat_list_cmp_total, nat_list_eq_equiv, texts_ties}
use Rattle.std.specs.List.{AllByRecursion, dedup}
use Rattle.std.specs.List.Sorted.{IsStrictlySortedBy}
use Rattle.std.specs.Ordering.{match_ordering, ordering_reverse, is_eq, eq_by_cmp}
use Rattle.std.proofs.lemmas.Cmp.{tied_itself, then_total, on_total, nat_cmp_total, and_equiv, on_equiv, nat_eq_equiv}
use Rattle.std.proofs.lemmas.List.Kept.{Contains-dedup, Contains-from_dedup, IsStrictlySortedBy-dedup}
use Rattle.std.proofs.lemmas.List.Sorted.{Contains-permutation, IsPermutation-sym}
use Rattle.std.proofs.lemmas.Map.Lookups.{CmpEqualImpliesEq, exact_pairs, exact_unsigned, exact_bytes}
use Rattle.srb_terms.specs.DiagOrder.{diag_cmp, diag_eq}
use Rattle.srb_terms.specs.declared.diag.Diag.{Diag}
use Rattle.srb_check.specs.Arranged.{put_error, arranged}

-- ---- elements

-- x is an element of the list
abbrev In : {X : Type 0} → X → List X → Type 0
In x [] = ⊥
In x (y ∷ ys) = (y ≡ x) ⊎ In x ys

In-from_at : {X : Type 0} (x : X) (xs : List X) (k : ℕ) → k < length xs → get_or xs k x ≡ x → In x xs
In-from_at x [] k within e = absurd (omega arith)
In-from_at x (y ∷ ys) zero within e = inl e
In-from_at x (y ∷ ys) (suc k) within e = inr (In-from_at x ys k (omega arith) e)

In-from_Contains : {X : Type 0} (x : X) (xs : List X) → Contains xs x → In x xs
In-from_Contains x xs c = In-from_at x xs c.0 c.1 c.2

Contains-from_In : {X : Type 0} (x : X) (xs : List X) → In x xs → Contains xs x
Contains-from_In x [] h = absurd h
Contains-from_In x (y ∷ ys) (inl e) = (zero, omega arith, e)
Contains-from_In x (y ∷ ys) (inr h) = let c = Contains-from_In x ys h in (suc c.0, omega (arith, c.1), c.2)

-- what holds of each holds of one that is there
all-at : {X : Type 0} (P : X → Type 0) (xs : List X) (x : X) → AllByRecursion P xs → In x xs → P x
all-at P [] x all h = absurd h
all-at P (y ∷ ys) x all (inl e) = rw (← e) all.0
all-at P (y ∷ ys) x all (inr h) = all-at P ys x all.1 h

all-weaker : {X : Type 0} (P Q : X → Type 0) → ((x : X) → P x → Q x) → (xs : List X) → AllByRecursion P xs → AllByRecursion Q xs
all-weaker P Q f [] all = tt
all-weaker P Q f (x ∷ xs) all = (f x all.0, all-weaker P Q f xs all.1)

-- ---- lists that strictly rise

-- each of the three answers
cases_order : (r : Ordering) {G : Type 0} → (r ≡ Less → G) → (r ≡ Equal → G) → (r ≡ Greater → G) → G
cases_order Less l e g = l refl
cases_order Equal l e g = e refl
cases_order Greater l e g = g refl

Less≢Equal : Less ≡ Equal → ⊥
Less≢Equal e = true≢false (ap is_lt e)

module _ {K : Type 0} {R : K → K → Ordering} (o : IsTotalOrder R) (exact : CmpEqualImpliesEq R) where
  -- nothing is below itself
  below_itself : (x : K) → R x x ≡ Less → ⊥
  below_itself x h = Less≢Equal (sym h ∙ tied_itself o x)

  -- the first of a list that rises isn't among the rest
  not_again : (x : K) (xs : List K) → IsStrictlySortedBy R (x ∷ xs) → In x xs → ⊥
  unfolding IsStrictlySortedBy
  not_again x xs h again = below_itself x (all-at (λ y. R x y ≡ Less) xs x h.0 again)

  -- an element that is below the first of a list that rises isn't in it
  not_below : (x y : K) (ys : List K) → IsStrictlySortedBy R (y ∷ ys) → R x y ≡ Less → In x (y ∷ ys) → ⊥
  unfolding IsStrictlySortedBy
  not_below x y ys h less (inl e) = below_itself x (subst (λ z. R x z ≡ Less) e less)
  not_below x y ys h less (inr among) = below_itself x (o.trans x y x less (all-at (λ z. R y z ≡ Less) ys x h.0 among))

  -- an element of a list that isn't its first is among the rest
  rest_of : (x z : K) (xs : List K) → (x ≡ z → ⊥) → In z (x ∷ xs) → In z xs
  rest_of x z xs other (inl e) = absurd (other e)
  rest_of x z xs other (inr h) = h

  -- two lists that strictly rise and have the same elements are one
  same_rising : (xs ys : List K) → IsStrictlySortedBy R xs → IsStrictlySortedBy R ys → ((z : K) → In z xs → In z ys) → ((z : K) → In z ys → In z xs) → xs ≡ ys
  unfolding IsStrictlySortedBy
  same_rising [] [] s t there back = refl
  same_rising [] (y ∷ ys) s t there back = absurd (back y (inl refl))
  same_rising (x ∷ xs) [] s t there back = absurd (there x (inl refl))
  same_rising (x ∷ xs) (y ∷ ys) s t there back =
      cases_order (R x y)
      (λ less. absurd (not_below x y ys t less (there x (inl refl))))
      (λ equal.
      let e = exact x y equal in
      let tails = same_rising xs ys s.1 t.1
      (λ z h. rest_of y z ys (λ same. not_again x xs s (subst (λ w. In w xs) (sym (e ∙ same)) h)) (there z (inr h)))
      (λ z h. rest_of x z xs (λ same. not_again y ys t (subst (λ w. In w ys) (sym same ∙ e) h)) (back z (inr h))) in
      rw (e, tails) refl)
      (λ greater. absurd (not_below y x xs s (o.antisymm y x ∙ ap ordering_reverse greater) (back y (inl refl))))

-- ---- the order of errors

pub diag_cmp-total : IsTotalOrder diag_cmp
diag_cmp-total = then_total (on_total (λ d. d.span.start) nat_cmp_total) (then_total (on_total (λ d. d.span.end) nat_cmp_total) (then_total (on_total (λ d. d.number) nat_cmp_total) (on_total (λ d. d.text) nat_list_cmp_total)))

-- errors that compare alike are one
pub diag_cmp-exact : CmpEqualImpliesEq diag_cmp
diag_cmp-exact a b h =
    ap (λ (p : ℕ × (ℕ × (ℕ × List ℕ))). record { span = record { start = p.0; end = p.1.0 }; number = p.1.1.0; text = p.1.1.1 })
    (exact_pairs _ _ exact_unsigned (exact_pairs _ _ exact_unsigned (exact_pairs _ _ exact_unsigned exact_bytes)) (a.span.start, (a.span.end, (a.number, a.text))) (b.span.start, (b.span.end, (b.number, b.text))) h)

-- ---- an error put among errors in order

-- what holds of each of the three holds of the one that is taken
match_ordering-cases : {X : Type 0} (Q : X → Type 0) (r : Ordering) (a b c : X) → (r ≡ Less → Q a) → (r ≡ Equal → Q b) → (r ≡ Greater → Q c) → Q (match_ordering r a b c)
match_ordering-cases Q Less a b c l e g = l refl
match_ordering-cases Q Equal a b c l e g = e refl
match_ordering-cases Q Greater a b c l e g = g refl

-- what holds of each list that can come out holds of the one that does
pub put_error-cases : (Q : List Diag → Type 0) (error first : Diag) (errors : List Diag) → Q (error ∷ first ∷ errors) → Q (first ∷ errors) → Q (first ∷ put_error error errors) → Q (put_error error (first ∷ errors))
put_error-cases Q error first errors before there after =
    match_ordering-cases Q (diag_cmp error first) (error ∷ first ∷ errors) (first ∷ errors) (first ∷ put_error error errors) (λ _. before) (λ _. there) (λ _. after)

-- what holds of the error and of those that were there holds of each
put_error-all : (P : Diag → Type 0) (error : Diag) (errors : List Diag) → P error → AllByRecursion P errors → AllByRecursion P (put_error error errors)
put_error-all P error [] h all = (h, tt)
put_error-all P error (first ∷ errors) h all =
    put_error-cases (AllByRecursion P) error first errors (h, all) all (all.0, put_error-all P error errors h all.1)

-- errors that strictly rise still do with one more
put_error-rises : (error : Diag) (errors : List Diag) → IsStrictlySortedBy diag_cmp errors → IsStrictlySortedBy diag_cmp (put_error error errors)
unfolding IsStrictlySortedBy
put_error-rises error [] h = (tt, tt)
put_error-rises error (first ∷ errors) h =
    match_ordering-cases (IsStrictlySortedBy diag_cmp) (diag_cmp error first) (error ∷ first ∷ errors) (first ∷ errors) (first ∷ put_error error errors)
    (λ less. ((less, all-weaker (λ d. diag_cmp first d ≡ Less) (λ d. diag_cmp error d ≡ Less) (λ d more. diag_cmp-total.trans error first d less more) errors h.0), h))
    (λ _. h)
    (λ greater. (put_error-all (λ d. diag_cmp first d ≡ Less) error errors (diag_cmp-total.antisymm first error ∙ ap ordering_reverse greater) h.0, put_error-rises error errors h.1))

-- the error and those that were there are there, and no other
put_error-keeps : (error d : Diag) (errors : List Diag) → In d (error ∷ errors) → In d (put_error error errors)
put_error-keeps error d [] h = h
put_error-keeps error d (first ∷ errors) h =
    match_ordering-cases (In d) (diag_cmp error first) (error ∷ first ∷ errors) (first ∷ errors) (first ∷ put_error error errors)
    (λ _. h)
    (λ equal. ⊎_elim (λ e. inl (sym (diag_cmp-exact error first equal) ∙ e)) (λ there. there) h)
    (λ _. ⊎_elim (λ e. inr (put_error-keeps error d errors (inl e))) (λ there. ⊎_elim (λ e. inl e) (λ among. inr (put_error-keeps error d errors (inr among))) there) h)

put_error-adds_none : (error d : Diag) (errors : List Diag) → In d (put_error error errors) → In d (error ∷ errors)
put_error-adds_none error d [] h = h
put_error-adds_none error d (first ∷ errors) h =
    put_error-cases (λ ds. In d ds → In d (error ∷ first ∷ errors)) error first errors
    (λ there. there)
    (λ there. inr there)
    (λ there. ⊎_elim (λ e. inr (inl e)) (λ among. ⊎_elim (λ e. inl e) (λ old. inr (inr old)) (put_error-adds_none error d errors among)) there)
    h

-- ---- errors in order

arranged-rises : (errors : List Diag) → IsStrictlySortedBy diag_cmp (arranged errors)
unfolding arranged IsStrictlySortedBy
arranged-rises [] = tt
arranged-rises (error ∷ errors) = put_error-rises error (arranged errors) (arranged-rises errors)

arranged-keeps : (d : Diag) (errors : List Diag) → In d errors → In d (arranged errors)
unfolding arranged
arranged-keeps d [] h = h
arranged-keeps d (error ∷ errors) (inl e) = put_error-keeps error d (arranged errors) (inl e)
arranged-keeps d (error ∷ errors) (inr h) = put_error-keeps error d (arranged errors) (inr (arranged-keeps d errors h))

arranged-adds_none : (d : Diag) (errors : List Diag) → In d (arranged errors) → In d errors
unfolding arranged
arranged-adds_none d [] h = h
arranged-adds_none d (error ∷ errors) h =
    ⊎_elim (λ e. inl e) (λ among. inr (arranged-adds_none d errors among)) (put_error-adds_none error d (arranged errors) h)

-- ---- a sort, and then no error twice

-- errors are equal where they compare alike
ties : (a b : Diag) → diag_eq a b ≡ eq_by_cmp diag_cmp a b
ties a b =
    both_tied _ _ _ _ (unsigned_ties a.span.start b.span.start)
    (both_tied _ _ _ _ (unsigned_ties a.span.end b.span.end)
    (both_tied _ _ _ _ (unsigned_ties a.number b.number) (texts_ties a.text b.text)))

equal-same : (a b : Diag) → diag_eq a b ≡ true → a ≡ b
equal-same a b h = diag_cmp-exact a b (is_eq-Equal (diag_cmp a b) (sym (ties a b) ∙ h))
  where
    is_eq-Equal : (r : Ordering) → is_eq r ≡ true → r ≡ Equal
    is_eq-Equal Less e = absurd (true≢false (sym e))
    is_eq-Equal Equal e = refl
    is_eq-Equal Greater e = absurd (true≢false (sym e))

diag_eq-equiv : IsEquivalence diag_eq
diag_eq-equiv =
    and_equiv (on_equiv (λ d. d.span.start) nat_eq_equiv)
    (and_equiv (on_equiv (λ d. d.span.end) nat_eq_equiv)
    (and_equiv (on_equiv (λ d. d.number) nat_eq_equiv) (on_equiv (λ d. d.text) nat_list_eq_equiv)))

-- errors sorted, of which no one is kept twice, are the errors arranged
pub dedup-arranged : (errors sorted : List Diag) → IsPermutation errors sorted → IsSorted diag_cmp sorted → dedup diag_eq sorted ≡ arranged errors
dedup-arranged errors sorted moved rises =
    same_rising diag_cmp-total diag_cmp-exact (dedup diag_eq sorted) (arranged errors)
    (IsStrictlySortedBy-dedup diag_cmp-total ties sorted rises)
    (arranged-rises errors)
    (λ d h. arranged-keeps d errors (In-from_Contains d errors (Contains-permutation sorted errors d (IsPermutation-sym errors sorted moved) (Contains-from_dedup diag_eq sorted d (Contains-from_In d (dedup diag_eq sorted) h)))))
    (λ d h. In-from_Contains d (dedup diag_eq sorted) (Contains-dedup diag_eq-equiv equal-same sorted d (Contains-permutation errors sorted d moved (Contains-from_In d errors (arranged-adds_none d errors h)))))
