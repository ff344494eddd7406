-- What stands in the list of a name, by its own links.
use Rattle.std.proofs.Common.{◌≡◌, ℕ, ◌⊎◌, Bool, true, false, not, ◌||◌, List, [], ◌∷◌, ◌++◌, Option, Some, cond, bytes_eq, refl, sym, ap, subst, ◌∙◌, inl, inr}
use Rattle.std.specs.List.{filter}
use Rattle.srb_terms.specs.NameSets.{has_name}
use Rattle.srb_terms.specs.declared.fact.How.{How}
use Rattle.srb_terms.specs.declared.fact.How.TheVariants.{Super, Include, Extend}
use Rattle.srb_terms.specs.declared.fact.Kind.{Kind}
use Rattle.srb_terms.specs.declared.fact.Kind.TheVariants as kind
use Rattle.srb_rules.specs.declared.link.Link.{Link}
use Rattle.srb_rules.specs.Lin.{is_super, is_include, superclass_in, included_after, included_in, joined, with_modules, lin_below}
use Rattle.srb_ancestors.specs.Placing.{Each}
use Rattle.srb_ancestors.specs.Ways.{HasEnd}
use Rattle.srb_ancestors.proofs.LinProofs.{each_append, each_has}
use Rattle.srb_shapes.specs.Lineages.{Has}
use Rattle.srb_shapes_laws.proofs.Bools.{either, or-cases, or-left, or-right, same-name, name-itself, has-append}
use Rattle.srb_lineage_laws.proofs.Links.{GoodAs, IsGood, EachLink}

-- ---- lists of names

pub in-first : (a : List ℕ) (xs ys : List (List ℕ)) → Has xs a → Has (xs ++ ys) a
in-first a xs ys h = has-append a xs ys ∙ or-left (has_name a xs) _ h

pub in-second : (a : List ℕ) (xs ys : List (List ℕ)) → Has ys a → Has (xs ++ ys) a
in-second a xs ys h = has-append a xs ys ∙ or-right (has_name a xs) _ h

pub in-one : (a : List ℕ) (xs ys : List (List ℕ)) → Has (xs ++ ys) a → Has xs a ⊎ Has ys a
in-one a xs ys h = or-cases (has_name a xs) _ (sym (has-append a xs ys) ∙ h)

from-filter : (a : List ℕ) (test : List ℕ → Bool) (xs : List (List ℕ)) → Has (filter test xs) a → Has xs a
from-filter a test [] h = h
from-filter a test (x ∷ xs) h = go (test x) h (from-filter a test xs)
  where
    later : (b : Bool) → Has xs a → cond b true (has_name a xs) ≡ true
    later true k = refl
    later false k = k

    kept : (b : Bool) → cond b true (has_name a (filter test xs)) ≡ true → (Has (filter test xs) a → Has xs a) → cond b true (has_name a xs) ≡ true
    kept true k rest = refl
    kept false k rest = rest k

    go : (t : Bool) → Has (cond t (x ∷ filter test xs) (filter test xs)) a → (Has (filter test xs) a → Has xs a) → Has (x ∷ xs) a
    go true k rest = kept (bytes_eq x a) k rest
    go false k rest = later (bytes_eq x a) (rest k)

to-filter : (a : List ℕ) (test : List ℕ → Bool) (xs : List (List ℕ)) → test a ≡ true → Has xs a → Has (filter test xs) a
to-filter a test [] p h = h
to-filter a test (x ∷ xs) p h = go (bytes_eq x a) refl h (to-filter a test xs p)
  where
    more : (t : Bool) → Has (filter test xs) a → Has (cond t (x ∷ filter test xs) (filter test xs)) a
    more true k = elim (bytes_eq x a) as (λ b. cond b true (has_name a (filter test xs)) ≡ true) [ true ↦ refl | false ↦ k ]
    more false k = k

    go : (b : Bool) → bytes_eq x a ≡ b → cond b true (has_name a xs) ≡ true → (Has xs a → Has (filter test xs) a) → Has (cond (test x) (x ∷ filter test xs) (filter test xs)) a
    go true e k rest =
        let same : x ≡ a = same-name x a e in
        let passed : test x ≡ true = subst (λ y. test y ≡ true) (sym same) p in
        let first : Has (x ∷ filter test xs) a = ap (λ b. cond b true (has_name a (filter test xs))) e in
        subst (λ t. Has (cond t (x ∷ filter test xs) (filter test xs)) a) (sym passed) first
    go false e k rest = more (test x) (rest k)

-- ---- what a module adds

from-joined : (a : List ℕ) (below here more : List (List ℕ)) → Has (joined below here more) a → Has here a ⊎ Has more a
from-joined a below here more h = either inl (λ k. inr (from-filter a (λ name. not (has_name name below || has_name name here)) more k))
    (in-one a here (filter (λ name. not (has_name name below || has_name name here)) more) h)

to-joined : (a : List ℕ) (below here more : List (List ℕ)) → Has more a → Has below a ⊎ Has (joined below here more) a
to-joined a below here more h = go (has_name a below) refl (has_name a here) refl
  where
    go : (b : Bool) → has_name a below ≡ b → (c : Bool) → has_name a here ≡ c → Has below a ⊎ Has (joined below here more) a
    go true e c f = inl e
    go false e true f = inr (in-first a here (filter (λ name. not (has_name name below || has_name name here)) more) f)
    go false e false f = inr (in-second a here (filter (λ name. not (has_name name below || has_name name here)) more)
        (to-filter a (λ name. not (has_name name below || has_name name here)) more (λ i. not (e i || f i)) h))

-- a module of these whose list has the name
pub record FromModule (f : List ℕ → List (List ℕ)) (ms : List (List ℕ)) (a : List ℕ) : Type 0 where
  pub name : List ℕ
  pub among : Has ms name
  pub inside : Has (f name) a

from-first : (f : List ℕ → List (List ℕ)) (m : List ℕ) (ms : List (List ℕ)) (a : List ℕ) → Has (f m) a → FromModule f (m ∷ ms) a
from-first f m ms a h = record { name = m; among = ap (λ b. cond b true (has_name m ms)) (name-itself m); inside = h }

later-has : (m x : List ℕ) (ms : List (List ℕ)) → Has ms x → Has (m ∷ ms) x
later-has m x ms h = elim (bytes_eq m x) as (λ b. cond b true (has_name x ms) ≡ true) [ true ↦ refl | false ↦ h ]

from-later : (f : List ℕ → List (List ℕ)) (m : List ℕ) (ms : List (List ℕ)) (a : List ℕ) → FromModule f ms a → FromModule f (m ∷ ms) a
from-later f m ms a r = record { name = r.name; among = later-has m r.name ms r.among; inside = r.inside }

pub modules-from : (f : List ℕ → List (List ℕ)) (below : List (List ℕ)) (c : List ℕ) (ms : List (List ℕ)) (a : List ℕ) → Has (with_modules f below c ms) a → (c ≡ a) ⊎ FromModule f ms a
modules-from f below c [] a h = go (bytes_eq c a) refl h
  where
    go : (b : Bool) → bytes_eq c a ≡ b → cond b true false ≡ true → (c ≡ a) ⊎ FromModule f [] a
    go true e k = inl (same-name c a e)
    go false e k = cc
modules-from f below c (m ∷ ms) a h = either
    (λ k. either inl (λ r. inr (from-later f m ms a r)) (modules-from f below c ms a k))
    (λ k. inr (from-first f m ms a k))
    (from-joined a below (with_modules f below c ms) (f m) h)

pub modules-own : (f : List ℕ → List (List ℕ)) (below : List (List ℕ)) (c : List ℕ) (ms : List (List ℕ)) → Has (with_modules f below c ms) c
modules-own f below c [] = ap (λ b. cond b true false) (name-itself c)
modules-own f below c (m ∷ ms) = in-first c (with_modules f below c ms) _ (modules-own f below c ms)

pub modules-add : (f : List ℕ → List (List ℕ)) (below : List (List ℕ)) (c : List ℕ) (ms : List (List ℕ)) (m a : List ℕ) → Has ms m → Has (f m) a
    → Has below a ⊎ Has (with_modules f below c ms) a
modules-add f below c [] m a h k = cc
modules-add f below c (x ∷ ms) m a h k = go (bytes_eq x m) refl h (modules-add f below c ms m a)
  where
    go : (b : Bool) → bytes_eq x m ≡ b → cond b true (has_name m ms) ≡ true → (Has ms m → Has (f m) a → Has below a ⊎ Has (with_modules f below c ms) a)
        → Has below a ⊎ Has (with_modules f below c (x ∷ ms)) a
    go true e h rest = to-joined a below (with_modules f below c ms) (f x) (subst (λ y. Has (f y) a) (sym (same-name x m e)) k)
    go false e h rest = either inl (λ r. inr (in-first a (with_modules f below c ms) _ r)) (rest h k)

-- ---- the list of the superclass

-- it is the list of the end of a link
pub record FromBelow (f : List ℕ → List (List ℕ)) (row : List Link) : Type 0 where
  pub name : List ℕ
  pub linked : HasEnd row name
  pub same : lin_below f (superclass_in row) ≡ f name

pub below-from : (f : List ℕ → List (List ℕ)) (row : List Link) (a : List ℕ) → Has (lin_below f (superclass_in row)) a → FromBelow f row
below-from f [] a h = cc
below-from f (l ∷ row) a h = go (is_super l.how) refl h (below-from f row a)
  where
    go : (t : Bool) → is_super l.how ≡ t → Has (lin_below f (cond t (Some l.to) (superclass_in row))) a → (Has (lin_below f (superclass_in row)) a → FromBelow f row)
        → FromBelow f (l ∷ row)
    go true e k rest = record { name = l.to; linked = inl refl; same = ap (λ t. lin_below f (cond t (Some l.to) (superclass_in row))) e }
    go false e k rest = let r = rest k in
        record { name = r.name; linked = inr r.linked; same = ap (λ t. lin_below f (cond t (Some l.to) (superclass_in row))) e ∙ r.same }

-- ---- included modules are modules

included-after : (kinds : List ℕ → Option Kind) (before : List (List ℕ)) (row : List Link) → Each (λ m. kinds m ≡ Some kind.Module) before
    → EachLink (IsGood kinds) row → Each (λ m. kinds m ≡ Some kind.Module) (included_after before row)
included-after kinds before [] h good = h
included-after kinds before (l ∷ row) h good = included-after kinds (cond (is_include l.how) (cond (has_name l.to before) before (before ++ l.to ∷ [])) before) row (go l.how good.0) good.1
  where
    go : (how : How) → GoodAs kinds how l.of l.to →
        Each (λ m. kinds m ≡ Some kind.Module) (cond (is_include how) (cond (has_name l.to before) before (before ++ l.to ∷ [])) before)
    go Super g = h
    go Include g = elim (has_name l.to before) as (λ t. Each (λ m. kinds m ≡ Some kind.Module) (cond t before (before ++ l.to ∷ []))) [
      | true ↦ h
      | false ↦ each_append (λ m. kinds m ≡ Some kind.Module) before (l.to ∷ []) h (g, tt)
    ]
    go Extend g = h

pub included-modules : (kinds : List ℕ → Option Kind) (row : List Link) → EachLink (IsGood kinds) row → (m : List ℕ) → Has (included_in row) m → kinds m ≡ Some kind.Module
included-modules kinds row good m h = each_has (λ m. kinds m ≡ Some kind.Module) (included_in row) (included-after kinds [] row tt good) m h
