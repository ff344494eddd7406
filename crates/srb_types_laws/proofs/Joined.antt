-- The shapes of a union are those of its parts.
use Rattle.std.proofs.Common.{◌≡◌, ℕ, ◌⊎◌, Bool, true, false, not, cond, ◌||◌, List, [], ◌∷◌, inl, inr, refl, sym, ap, ◌∙◌, if◌then◌else◌}
use Rattle.std.specs.Bool.{IsTrue}
use Rattle.std.specs.List.{filter, list_any}
use Rattle.srb_terms.specs.declared.ty.Ty.{Ty, out-Ty}
use Rattle.srb_terms.specs.declared.ty.Ty.TheOpen.{Ty-F}
use Rattle.srb_terms.specs.declared.ty.Ty.TheVariants as ty
use Rattle.srb_terms.specs.declared.ty.Ty.TheVariants.{rolls-Untyped, rolls-Never, rolls-Any}
use Rattle.srb_shapes.specs.Comparing.{lies_in}
use Rattle.srb_shapes.specs.Lineages.{Lineage, IsLineage}
use Rattle.srb_shapes.specs.Parts.{of_parts, parts_at, parts_of}
use Rattle.srb_shapes.specs.Shapes.{Shape, IsShape, belongs_at, belongs}
use Rattle.srb_shapes_laws.proofs.Bools.{either, or-left, or-right, or-cases, or-map}
use Rattle.srb_shapes_laws.proofs.Equations.{belongs_roll, belongs_is}
use Rattle.srb_shapes_laws.proofs.Sound.{sound}
use Rattle.srb_types.specs.Normal.{is_untyped_at, is_untyped, one_untyped, with_part, with_parts, any_of}
use Rattle.srb_types.specs.Order.{before_all, placed}
use Rattle.srb_types.specs.Shown.{shown}

-- tests that follow from each other answer the same
pub same-answer : (a b : Bool) → (IsTrue a → IsTrue b) → (IsTrue b → IsTrue a) → a ≡ b
same-answer true b f g = sym (f refl)
same-answer false true f g = g refl
same-answer false false f g = refl

pub or-nothing : (a : Bool) → (a || false) ≡ a
or-nothing true = refl
or-nothing false = refl

or-swap : (a b c : Bool) → (a || (b || c)) ≡ (b || (a || c))
or-swap true true c = refl
or-swap true false c = refl
or-swap false b c = refl

-- ---- lists

pub any-placed : {A : Type 0} (f : A → Bool) (text : A → List ℕ) (x : A) (xs : List A) → list_any f (placed text x xs) ≡ (f x || list_any f xs)
any-placed f text x [] = refl
any-placed f text x (y ∷ ys) = go (before_all text (text x) (y ∷ ys)) (any-placed f text x ys)
  where
    go : (b : Bool) → list_any f (placed text x ys) ≡ (f x || list_any f ys)
        → list_any f (if b then x ∷ y ∷ ys else y ∷ placed text x ys) ≡ (f x || (f y || list_any f ys))
    go true e = refl
    go false e = ap (λ b. f y || b) e ∙ or-swap (f y) (f x) (list_any f ys)

pub any-filtered : {A : Type 0} (f test : A → Bool) (xs : List A) → IsTrue (list_any f (filter test xs)) → IsTrue (list_any f xs)
any-filtered f test [] h = h
any-filtered f test (x ∷ xs) h = go (test x) h (any-filtered f test xs)
  where
    go : (b : Bool) → IsTrue (list_any f (cond b (x ∷ filter test xs) (filter test xs))) → (IsTrue (list_any f (filter test xs)) → IsTrue (list_any f xs))
        → IsTrue (f x || list_any f xs)
    go true h next = or-map (f x) _ (f x) _ (λ k. k) next h
    go false h next = or-right (f x) _ (next h)

-- one that passes is left, or what follows from being left out holds
pub any-left : {A : Type 0} {P : Type 0} (f out : A → Bool) (xs : List A) → ((x : A) → IsTrue (out x) → IsTrue (f x) → P)
    → IsTrue (list_any f xs) → P ⊎ IsTrue (list_any f (filter (λ x. not (out x)) xs))
any-left {P} f out [] drop h = inr h
any-left {P} f out (x ∷ xs) drop h = either
    (λ k. go (out x) refl k)
    (λ k. either (λ p. inl p) (λ l. inr (later (out x) l)) (any-left f out xs drop k))
    (or-cases (f x) _ h)
  where
    go : (b : Bool) → out x ≡ b → IsTrue (f x) → P ⊎ IsTrue (list_any f (cond (not b) (x ∷ filter (λ y. not (out y)) xs) (filter (λ y. not (out y)) xs)))
    go true e k = inl (drop x e k)
    go false e k = inr (or-left (f x) _ k)

    later : (b : Bool) → IsTrue (list_any f (filter (λ y. not (out y)) xs)) → IsTrue (list_any f (cond (not b) (x ∷ filter (λ y. not (out y)) xs) (filter (λ y. not (out y)) xs)))
    later true l = l
    later false l = or-right (f x) _ l

-- ---- types and their parts

module _ (r : Bool) (L : Lineage) (s : Shape) where
  pub has-parts : (t : Ty) → belongs r L t s ≡ list_any (λ p. belongs r L p s) (parts_of t)
  unfolding parts_of
  has-parts t = go (out-Ty t) refl
    where
      go : (x : Ty-F Ty) → out-Ty t ≡ x → belongs r L t s ≡ list_any (λ p. belongs r L p s) (parts_at t x)
      go Ty-F.Never e = belongs_is r L t s ∙ ap (λ y. belongs_at (belongs r L) r L y s) e
      go (Ty-F.Any ps) e = belongs_is r L t s ∙ ap (λ y. belongs_at (belongs r L) r L y s) e
      go Ty-F.Untyped e = sym (or-nothing (belongs r L t s))
      go (Ty-F.Class d) e = sym (or-nothing (belongs r L t s))
      go (Ty-F.Meta d) e = sym (or-nothing (belongs r L t s))
      go (Ty-F.Arr d) e = sym (or-nothing (belongs r L t s))
      go (Ty-F.Hsh k v) e = sym (or-nothing (belongs r L t s))
      go (Ty-F.All ms) e = sym (or-nothing (belongs r L t s))

  pub of-parts-has : (ps : List Ty) → belongs r L (of_parts ps) s ≡ list_any (λ p. belongs r L p s) ps
  of-parts-has [] = ap (λ t. belongs r L t s) (sym rolls-Never) ∙ belongs_roll r L Ty-F.Never s
  of-parts-has (p ∷ []) = sym (or-nothing (belongs r L p s))
  of-parts-has (p ∷ q ∷ ps) = ap (λ t. belongs r L t s) (sym (rolls-Any (p ∷ q ∷ ps))) ∙ belongs_roll r L (Ty-F.Any (p ∷ q ∷ ps)) s

-- each shape belongs to `T.untyped`
pub untyped-has : (L : Lineage) (s : Shape) (t : Ty) → is_untyped t ≡ true → IsTrue (belongs true L t s)
untyped-has L s t u = belongs_is true L t s ∙ go (out-Ty t) u
  where
    go : (x : Ty-F Ty) → is_untyped_at x ≡ true → IsTrue (belongs_at (belongs true L) true L x s)
    go Ty-F.Untyped e = refl
    go Ty-F.Never e = cc
    go (Ty-F.Any ps) e = cc
    go (Ty-F.Class d) e = cc
    go (Ty-F.Meta d) e = cc
    go (Ty-F.Arr d) e = cc
    go (Ty-F.Hsh k v) e = cc
    go (Ty-F.All ms) e = cc

-- ---- unions

module _ (L : Lineage) (laws : IsLineage L) (s : Shape) (valid : IsShape true L s) where
  abbrev In : List Ty → Bool
  In ps = list_any (λ p. belongs true L p s) ps

  lies : (p : Ty) (ps : List Ty) → IsTrue (list_any (λ q. lies_in L p q) ps) → IsTrue (belongs true L p s) → IsTrue (list_any (λ q. belongs true L q s) ps)
  lies p [] h b = h
  lies p (q ∷ ps) h b = or-map (lies_in L p q) _ (belongs true L q s) _ (λ w. sound L laws true p q s valid b w) (λ k. lies p ps k b) h

  part-to : (ps : List Ty) (p : Ty) → IsTrue (In (with_part L ps p)) → IsTrue (In ps || belongs true L p s)
  unfolding with_part
  part-to ps p h = go (list_any (λ q. lies_in L p q) ps) h
    where
      go : (b : Bool) → IsTrue (In (if b then ps else placed shown p (filter (λ q. not (lies_in L q p)) ps))) → IsTrue (In ps || belongs true L p s)
      go true k = or-left (In ps) _ k
      go false k = either
          (λ b. or-right (In ps) _ b)
          (λ b. or-left (In ps) _ (any-filtered (λ q. belongs true L q s) (λ q. not (lies_in L q p)) ps b))
          (or-cases (belongs true L p s) _ (sym (any-placed (λ q. belongs true L q s) shown p (filter (λ q. not (lies_in L q p)) ps)) ∙ k))

  part-from : (ps : List Ty) (p : Ty) → IsTrue (In ps || belongs true L p s) → IsTrue (In (with_part L ps p))
  unfolding with_part
  part-from ps p h = go (list_any (λ q. lies_in L p q) ps) refl
    where
      go : (b : Bool) → list_any (λ q. lies_in L p q) ps ≡ b → IsTrue (In (if b then ps else placed shown p (filter (λ q. not (lies_in L q p)) ps)))
      go true e = either (λ k. k) (λ k. lies p ps e k) (or-cases (In ps) _ h)
      go false e = any-placed (λ q. belongs true L q s) shown p (filter (λ q. not (lies_in L q p)) ps) ∙ either
          (λ k. either (λ b. or-left (belongs true L p s) _ b) (λ b. or-right (belongs true L p s) _ b)
          (any-left (λ q. belongs true L q s) (λ q. lies_in L q p) ps (λ q w b. sound L laws true q p s valid b w) k))
          (λ k. or-left (belongs true L p s) _ k)
          (or-cases (In ps) _ h)

  pub part-adds : (ps : List Ty) (p : Ty) → In (with_part L ps p) ≡ (In ps || belongs true L p s)
  part-adds ps p = same-answer (In (with_part L ps p)) (In ps || belongs true L p s) (part-to ps p) (part-from ps p)

  or-assoc : (a b c : Bool) → ((a || b) || c) ≡ (a || (b || c))
  or-assoc true b c = refl
  or-assoc false b c = refl

  pub parts-add : (ps more : List Ty) → In (with_parts L ps more) ≡ (In ps || In more)
  parts-add ps [] = sym (or-nothing (In ps))
  parts-add ps (p ∷ more) = parts-add (with_part L ps p) more ∙ ap (λ b. b || In more) (part-adds ps p) ∙ or-assoc (In ps) (belongs true L p s) (In more)

  untyped-both : (t u : Ty) → one_untyped t u ≡ true → (belongs true L t s || belongs true L u s) ≡ true
  untyped-both t u e = either
      (λ k. or-left (belongs true L t s) _ (untyped-has L s t k))
      (λ k. or-right (belongs true L t s) _ (untyped-has L s u k))
      (or-cases (is_untyped t) _ e)

  -- a shape belongs to the union exactly where it belongs to one of the two
  pub any-has : (t u : Ty) → belongs true L (any_of L t u) s ≡ (belongs true L t s || belongs true L u s)
  unfolding any_of
  any-has t u = go (one_untyped t u) refl
    where
      go : (b : Bool) → one_untyped t u ≡ b
          → belongs true L (if b then ty.Untyped else of_parts (with_parts L (parts_of t) (parts_of u))) s ≡ (belongs true L t s || belongs true L u s)
      go true e = ap (λ t. belongs true L t s) (sym rolls-Untyped) ∙ belongs_roll true L Ty-F.Untyped s ∙ sym (untyped-both t u e)
      go false e = of-parts-has true L s (with_parts L (parts_of t) (parts_of u)) ∙ parts-add (parts_of t) (parts_of u)
          ∙ (let a = has-parts true L s t in let b = has-parts true L s u in λ i. sym a i || sym b i)
