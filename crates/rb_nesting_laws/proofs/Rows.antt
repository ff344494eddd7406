-- Places in a row, and parts in a row.
use Rattle.std.proofs.Common.{◌≡◌, ℕ, ◌≤◌, List, [], ◌∷◌, ◌++◌, refl, sym, ap, subst, ◌∙◌, append_assoc, append-nil, inl, inr, arith}
use Rattle.srb_terms.specs.declared.span.Span.{Span}
use Rattle.rb_tree.specs.declared.token.Token.{Token}
use Rattle.rb_rules.specs.Spans.{last_of}
use Rattle.rb_rules.specs.Tokens.{IsOneOf}
use Rattle.rb_nesting_laws.specs.Parts.{Parts, nothing, both, all_of}
use Rattle.rb_nesting_laws.specs.Nesting.{Each, Rise, end_of_last, StandInARow, LiesIn, NestedPartsLieInTheWhole}

-- ---- lists

pub each-append : {A : Type 0} (P : A → Type 0) (xs ys : List A) → Each P xs → Each P ys → Each P (xs ++ ys)
each-append P [] ys a b = b
each-append P (x ∷ xs) ys a b = (a.0, each-append P xs ys a.1 b)

pub each-one : {A : Type 0} (P : A → Type 0) (xs : List A) (x : A) → Each P xs → IsOneOf xs x → P x
each-one P [] x a i = absurd i
each-one P (y ∷ ys) x a (inl e) = subst P (sym e) a.0
each-one P (y ∷ ys) x a (inr i) = each-one P ys x a.1 i

-- ---- places in a row

pub rise-from : (p q : ℕ) (ss : List Span) → q ≤ p → Rise p ss → Rise q ss
rise-from p q [] h r = tt
rise-from p q (s ∷ ss) h r = (let k : p ≤ s.start = r.0 in omega arith, r.1, r.2)

pub end-from : (p q : ℕ) (ss : List Span) → q ≤ p → end_of_last q ss ≤ end_of_last p ss
end-from p q [] h = h
end-from p q (s ∷ ss) h = omega arith

-- the last place ends where the first begins, or after that
pub end-after : (p : ℕ) (ss : List Span) → Rise p ss → p ≤ end_of_last p ss
end-after p [] r = omega arith
end-after p (s ∷ ss) r = let a : p ≤ s.start = r.0 in let b : s.start ≤ s.end = r.1 in let c = end-after s.end ss r.2 in omega arith

pub rise-append : (p : ℕ) (ss ts : List Span) → Rise p ss → Rise (end_of_last p ss) ts → Rise p (ss ++ ts)
rise-append p [] ts r k = k
rise-append p (s ∷ ss) ts r k = (r.0, r.1, rise-append s.end ss ts r.2 k)

pub end-append : (p : ℕ) (ss ts : List Span) → end_of_last p (ss ++ ts) ≡ end_of_last (end_of_last p ss) ts
end-append p [] ts = refl
end-append p (s ∷ ss) ts = end-append s.end ss ts

pub row-from : (p q : ℕ) (xs : List Token) → q ≤ p → StandInARow p xs → StandInARow q xs
row-from p q [] h r = tt
row-from p q (t ∷ ts) h r = (let k : p ≤ t.span.start = r.0 in omega arith, r.1, r.2)

-- what rises lies between
lie-from : (whole : Span) (p : ℕ) (ss : List Span) → whole.start ≤ p → Rise p ss → end_of_last p ss ≤ whole.end → Each (LiesIn whole) ss
lie-from whole p [] h r k = tt
lie-from whole p (s ∷ ss) h r k =
    let a : p ≤ s.start = r.0 in let b : s.start ≤ s.end = r.1 in let c : s.end ≤ end_of_last s.end ss = end-after s.end ss r.2 in
    ((omega arith, omega arith), lie-from whole s.end ss (omega arith) r.2 k)

pub nested-parts-lie-in-the-whole : NestedPartsLieInTheWhole
nested-parts-lie-in-the-whole whole parts n = lie-from whole whole.start parts (omega arith) n.rise n.within

-- ---- parts in a row

pub both-nothing : (a : Parts) → both a nothing ≡ a
both-nothing a = λ i. record { places = append-nil a.places i; holders = append-nil a.holders i; trees = append-nil a.trees i }

pub both-assoc : (a b c : Parts) → both (both a b) c ≡ both a (both b c)
both-assoc a b c = λ i. record {
  places = append_assoc a.places b.places c.places i;
  holders = append_assoc a.holders b.holders c.holders i;
  trees = append_assoc a.trees b.trees c.trees i;
}

pub all-more : {A : Type 0} (parts : A → Parts) (xs : List A) (x : A) → all_of parts (xs ++ x ∷ []) ≡ both (all_of parts xs) (parts x)
all-more parts [] x = both-nothing (parts x)
all-more parts (y ∷ ys) x = ap (both (parts y)) (all-more parts ys x) ∙ sym (both-assoc (parts y) (all_of parts ys) (parts x))

-- where the last of parts in a row ends, if each ends where its place does
pub end-of-all : {A : Type 0} (parts : A → Parts) (place : A → Span) → ((x : A) (p : ℕ) → end_of_last p (parts x).places ≡ (place x).end) →
    (p : ℕ) (x : A) (xs : List A) → end_of_last p (all_of parts (x ∷ xs)).places ≡ (place (last_of x xs)).end
end-of-all parts place h p x [] = ap (end_of_last p) (append-nil (parts x).places) ∙ h x p
end-of-all parts place h p x (y ∷ ys) =
    end-append p (parts x).places (all_of parts (y ∷ ys)).places ∙ end-of-all parts place h (end_of_last p (parts x).places) y ys
