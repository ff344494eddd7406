-- The text of a union tells the texts of its parts.
use Rattle.std.proofs.Common.{◌≡◌, ℕ, ◌⊎◌, Bool, true, false, not, ◌&&◌, List, [], ◌∷◌, ◌++◌, inl, inr, refl, sym, ap, subst, ◌∙◌, nat_eq, append_assoc, append-nil, codes, bytes_eq, if◌then◌else◌}
use Rattle.std.specs.Bool.{IsTrue}
use Rattle.std.specs.List.{list_all}
use Rattle.srb_terms.specs.NameSets.{has_name}
use Rattle.srb_shapes.specs.Lineages.{Has}
use Rattle.srb_types.specs.Order.{is_before, before_all, placed}
use Rattle.srb_types.specs.Shown.{NIL, TRUE, FALSE, BOOLEAN, commas_after, listed, ordered_after, all_but, with_boolean, any_text, nilable_text, ordered_text}
use Rattle.srb_shapes_laws.proofs.Bools.{either, and-both, and-first, and-second, by-test, same-name, name-itself}
use Rattle.srb_types_laws.specs.NormalForms.{Among, in_order}
use Rattle.srb_types_laws.proofs.Elements.{among-all, among-kept, kept-among, among-placed, placed-among, not-both}
use Rattle.srb_types_laws.proofs.Rendering.{IsText, AreTexts, word-text, tail_text, one-listed, more-listed, node-text, node-tells, text-ends}

-- ---- names in lists

pub has-among : (u : List ℕ) (ts : List (List ℕ)) → Has ts u → Among u ts
has-among u [] h = cc
has-among u (t ∷ ts) h = go (bytes_eq t u) refl h (has-among u ts)
  where
    go : (b : Bool) → bytes_eq t u ≡ b → IsTrue (if b then true else has_name u ts) → (Has ts u → Among u ts) → Among u (t ∷ ts)
    go true e k next = inl (same-name t u e)
    go false e k next = inr (next k)

pub among-has : (u : List ℕ) (ts : List (List ℕ)) → Among u ts → Has ts u
among-has u [] h = absurd h
among-has u (t ∷ ts) (inl e) = ap (λ b. if b then true else has_name u ts) (ap (λ n. bytes_eq n u) e ∙ name-itself u)
among-has u (t ∷ ts) (inr h) = go (bytes_eq t u) (among-has u ts h)
  where
    go : (b : Bool) → Has ts u → IsTrue (if b then true else has_name u ts)
    go true k = refl
    go false k = k

-- ---- texts that are in order already

-- one that stands before none of a list is placed at its end
placed-last : (t : List ℕ) (xs : List (List ℕ)) → IsTrue (list_all (λ x. not (is_before t x)) xs) → placed (λ u. u) t xs ≡ xs ++ (t ∷ [])
placed-last t [] h = refl
placed-last t (x ∷ xs) h = go (is_before t x) (and-first _ _ h) (placed-last t xs (and-second (not (is_before t x)) _ h))
  where
    go : (b : Bool) → IsTrue (not b) → placed (λ u. u) t xs ≡ xs ++ (t ∷ [])
        → (if (b && before_all (λ (u : List ℕ). u) t xs) then t ∷ x ∷ xs else x ∷ placed (λ u. u) t xs) ≡ x ∷ (xs ++ (t ∷ []))
    go true k e = cc
    go false k e = ap (λ ys. x ∷ ys) e

among-middle : (t : List ℕ) (xs ys : List (List ℕ)) → Among t (xs ++ (t ∷ ys))
among-middle t [] ys = inl refl
among-middle t (x ∷ xs) ys = inr (among-middle t xs ys)

front-upto : (t : List ℕ) (xs ys : List (List ℕ)) → IsTrue (in_order (λ (u : List ℕ). u) (xs ++ (t ∷ ys))) → IsTrue (list_all (λ x. not (is_before t x)) xs)
front-upto t [] ys h = refl
front-upto t (x ∷ xs) ys h = and-both (not (is_before t x)) _
    (among-all (λ y. not (is_before y x)) t (xs ++ (t ∷ ys)) (among-middle t xs ys) (and-first _ _ h))
    (front-upto t xs ys (and-second (list_all (λ y. not (is_before y x)) (xs ++ (t ∷ ys))) _ h))

pub ordered-stays : (xs ts : List (List ℕ)) → IsTrue (in_order (λ (u : List ℕ). u) (xs ++ ts)) → ordered_after xs ts ≡ xs ++ ts
ordered-stays xs [] h = sym (append-nil xs)
ordered-stays xs (t ∷ ts) h = ap (λ ys. ordered_after ys ts) (placed-last t xs (front-upto t xs ts h))
    ∙ ordered-stays (xs ++ (t ∷ [])) ts (subst (λ ys. IsTrue (in_order (λ (u : List ℕ). u) ys)) (sym (append_assoc xs (t ∷ []) ts)) h)
    ∙ append_assoc xs (t ∷ []) ts

-- ---- the texts that are shown

-- what is shown of texts in order: all but `NilClass`, with one text for `TrueClass` and `FalseClass`
unfoldable pub left_texts : Bool → List (List ℕ) → List (List ℕ)
left_texts true ts = all_but NIL (with_boolean ts)
left_texts false ts = with_boolean ts

unfoldable pub closed_text : Bool → List (List ℕ) → List ℕ
closed_text true fs = nilable_text fs
closed_text false fs = any_text fs

pub ordered-is : (ts : List (List ℕ)) → ordered_text ts ≡ closed_text (has_name NIL ts) (left_texts (has_name NIL ts) ts)
unfolding left_texts closed_text
ordered-is ts = go (has_name NIL ts)
  where
    go : (b : Bool) → (if b then nilable_text (all_but NIL (with_boolean ts)) else any_text (with_boolean ts)) ≡ closed_text b (left_texts b ts)
    go true = refl
    go false = refl

pub differ : (t u : List ℕ) → bytes_eq t u ≡ false → t ≡ u → ⊥
differ t u f e = not-both (bytes_eq t u) (ap not f) (ap (λ x. bytes_eq t x) (sym e) ∙ name-itself t)

-- ---- with `T::Boolean`

module _ (ts : List (List ℕ)) where
  -- a text that is shown by itself
  pub boolean-keeps : (u : List ℕ) → Among u ts → bytes_eq u TRUE ≡ false → bytes_eq u FALSE ≡ false → Among u (with_boolean ts)
  boolean-keeps u a t f = go (has_name TRUE ts && has_name FALSE ts)
    where
      go : (b : Bool) → Among u (if b then placed (λ x. x) BOOLEAN (all_but TRUE (all_but FALSE ts)) else ts)
      go true = placed-among (λ x. x) BOOLEAN u (all_but TRUE (all_but FALSE ts))
          (inr (kept-among (λ x. not (bytes_eq x TRUE)) u (all_but FALSE ts) (kept-among (λ x. not (bytes_eq x FALSE)) u ts a (ap not f)) (ap not t)))
      go false = a

  -- `TrueClass` and `FalseClass` stay, or they are shown together
  pub boolean-joins : (u : List ℕ) → Among u ts → Among u (with_boolean ts) ⊎ Among BOOLEAN (with_boolean ts)
  boolean-joins u a = go (has_name TRUE ts && has_name FALSE ts)
    where
      go : (b : Bool) → Among u (if b then placed (λ x. x) BOOLEAN (all_but TRUE (all_but FALSE ts)) else ts)
          ⊎ Among BOOLEAN (if b then placed (λ x. x) BOOLEAN (all_but TRUE (all_but FALSE ts)) else ts)
      go true = inr (placed-among (λ x. x) BOOLEAN BOOLEAN (all_but TRUE (all_but FALSE ts)) (inl refl))
      go false = inl a

  pub boolean-adds : (u : List ℕ) → Among u (with_boolean ts) → (BOOLEAN ≡ u) ⊎ Among u ts
  boolean-adds u h = go (has_name TRUE ts && has_name FALSE ts) h
    where
      go : (b : Bool) → Among u (if b then placed (λ x. x) BOOLEAN (all_but TRUE (all_but FALSE ts)) else ts) → (BOOLEAN ≡ u) ⊎ Among u ts
      go true a = either (λ e. inl e)
          (λ k. let l = among-kept (λ x. not (bytes_eq x TRUE)) u (all_but FALSE ts) k in
          let m = among-kept (λ x. not (bytes_eq x FALSE)) u ts l.0 in inr m.0)
          (among-placed (λ x. x) BOOLEAN u (all_but TRUE (all_but FALSE ts)) a)
      go false a = inr a

  -- where no part is shown as `T::Boolean`, it stands for both
  pub boolean-means : (Among BOOLEAN ts → ⊥) → Among BOOLEAN (with_boolean ts) → Among TRUE ts × Among FALSE ts
  boolean-means none h = go (has_name TRUE ts && has_name FALSE ts) refl h
    where
      go : (b : Bool) → (has_name TRUE ts && has_name FALSE ts) ≡ b → Among BOOLEAN (if b then placed (λ x. x) BOOLEAN (all_but TRUE (all_but FALSE ts)) else ts)
          → Among TRUE ts × Among FALSE ts
      go true e a = (has-among TRUE ts (and-first _ _ e), has-among FALSE ts (and-second (has_name TRUE ts) _ e))
      go false e a = absurd (none a)

  -- one of `TrueClass` and `FalseClass` alone, by which no text is lost
  pub boolean-apart : (u : List ℕ) → Among u (with_boolean ts) → u ≡ BOOLEAN ⊎ Among u ts
  boolean-apart u h = either (λ e. inl (sym e)) (λ a. inr a) (boolean-adds u h)

-- ---- from the shown texts back to those of the parts

-- a text stands among the parts' texts, by what is shown
pub data Stands (n : Bool) (fs : List (List ℕ)) (u : List ℕ) : Type 0 where
  as_nil : u ≡ NIL → IsTrue n → Stands n fs u
  as_boolean : (u ≡ TRUE) ⊎ (u ≡ FALSE) → Among BOOLEAN fs → Stands n fs u
  as_itself : Among u fs → (u ≡ BOOLEAN → ⊥) → Stands n fs u

left-keeps : (n : Bool) (ts : List (List ℕ)) (u : List ℕ) → bytes_eq u NIL ≡ false → Among u (with_boolean ts) → Among u (left_texts n ts)
unfolding left_texts
left-keeps true ts u f a = kept-among (λ x. not (bytes_eq x NIL)) u (with_boolean ts) a (ap not f)
left-keeps false ts u f a = a

pub left-adds : (n : Bool) (ts : List (List ℕ)) (u : List ℕ) → Among u (left_texts n ts) → Among u (with_boolean ts)
unfolding left_texts
left-adds true ts u a = let k = among-kept (λ x. not (bytes_eq x NIL)) u (with_boolean ts) a in k.0
left-adds false ts u a = a

module _ (ts : List (List ℕ)) (none : Among BOOLEAN ts → ⊥) where
  pub stands-to : (u : List ℕ) → Among u ts → Stands (has_name NIL ts) (left_texts (has_name NIL ts) ts) u
  stands-to u a = either
      (λ e. as_nil (same-name u NIL e) (among-has NIL ts (subst (λ x. Among x ts) (same-name u NIL e) a)))
      (λ f. either
      (λ b. as_itself (left-keeps (has_name NIL ts) ts u f b) (λ e. none (subst (λ x. Among x ts) e a)))
      (λ b. others (by-test (bytes_eq u TRUE)) (by-test (bytes_eq u FALSE)) f b)
      (boolean-joins ts u a))
      (by-test (bytes_eq u NIL))
    where
      others : (bytes_eq u TRUE ≡ true) ⊎ (bytes_eq u TRUE ≡ false) → (bytes_eq u FALSE ≡ true) ⊎ (bytes_eq u FALSE ≡ false) → bytes_eq u NIL ≡ false
          → Among BOOLEAN (with_boolean ts) → Stands (has_name NIL ts) (left_texts (has_name NIL ts) ts) u
      others (inl e) g f b = as_boolean (inl (same-name u TRUE e)) (left-keeps (has_name NIL ts) ts BOOLEAN refl b)
      others (inr e) (inl g) f b = as_boolean (inr (same-name u FALSE g)) (left-keeps (has_name NIL ts) ts BOOLEAN refl b)
      others (inr e) (inr g) f b = as_itself (left-keeps (has_name NIL ts) ts u f (boolean-keeps ts u a e g)) (λ h. none (subst (λ x. Among x ts) h a))

  pub stands-from : (u : List ℕ) → Stands (has_name NIL ts) (left_texts (has_name NIL ts) ts) u → Among u ts
  stands-from u (as_nil e n) = subst (λ x. Among x ts) (sym e) (has-among NIL ts n)
  stands-from u (as_boolean (inl e) b) = let k = boolean-means ts none (left-adds (has_name NIL ts) ts BOOLEAN b) in subst (λ x. Among x ts) (sym e) k.0
  stands-from u (as_boolean (inr e) b) = let k = boolean-means ts none (left-adds (has_name NIL ts) ts BOOLEAN b) in subst (λ x. Among x ts) (sym e) k.1
  stands-from u (as_itself a other) = either (λ e. absurd (other e)) (λ k. k) (boolean-apart ts u (left-adds (has_name NIL ts) ts u a))

-- what stands among the texts of one stands among those of another, where the same is shown
pub stands-same : (ts us : List (List ℕ)) → (Among BOOLEAN ts → ⊥) → (Among BOOLEAN us → ⊥) → has_name NIL ts ≡ has_name NIL us
    → left_texts (has_name NIL ts) ts ≡ left_texts (has_name NIL us) us → (u : List ℕ) → Among u ts → Among u us
stands-same ts us p q n f u a = stands-from us q u (subst (λ (z : Bool × List (List ℕ)). Stands z.0 z.1 u) (λ i. (n i, f i)) (stands-to ts p u a))

-- ---- texts of lists

commas-are : (a : List ℕ) (ts : List (List ℕ)) → commas_after a ts ≡ a ++ tail_text ts
unfolding tail_text
commas-are a [] = sym (append-nil a)
commas-are a (t ∷ ts) = commas-are ((a ++ codes ", ") ++ t) ts ∙ append_assoc (a ++ codes ", ") t (tail_text ts) ∙ append_assoc a (codes ", ") (t ++ tail_text ts)

pub listed-is : (start t : List ℕ) (ts : List (List ℕ)) → listed start (t ∷ ts) ≡ start ++ ((t ++ tail_text ts) ++ codes ")")
listed-is start t ts = ap (λ s. s ++ codes ")") (commas-are (start ++ t) ts ∙ append_assoc start t (tail_text ts)) ∙ append_assoc start (t ++ tail_text ts) (codes ")")

pub all-listed : (t : List ℕ) (ts : List (List ℕ)) → ((u : List ℕ) → Among u (t ∷ ts) → IsText u) → AreTexts t ts
all-listed t [] h = one-listed t (h t (inl refl))
all-listed t (u ∷ us) h = more-listed t u us (h t (inl refl)) (all-listed u us (λ v a. h v (inr a)))

-- ---- the text of a union

-- what is shown of a union in normal form: `T::Boolean` alone, several texts, or some beside `NilClass`
abbrev pub IsProper : Bool → List (List ℕ) → Type 0
IsProper true [] = ⊥
IsProper true (f ∷ fs) = Unit {0}
IsProper false [] = ⊥
IsProper false (f ∷ []) = f ≡ BOOLEAN
IsProper false (f ∷ g ∷ fs) = Unit {0}

-- a text that isn't that of a union of several parts
abbrev pub IsNoUnion : List ℕ → Type 0
IsNoUnion f = (r : List ℕ) → f ≡ codes "T.any(" ++ r → ⊥

unfoldable pub AreShown : List (List ℕ) → Type 0
AreShown fs = (f : List ℕ) → Among f fs → IsText f × IsNoUnion f

any-texts : (fs : List (List ℕ)) → AreShown fs → IsText (any_text fs)
unfolding AreShown
any-texts [] h = word-text (codes "T.noreturn") refl
any-texts (f ∷ []) h = let k = h f (inl refl) in k.0
any-texts (f ∷ g ∷ fs) h = subst IsText (sym (listed-is (codes "T.any(") f (g ∷ fs)))
    (node-text (codes "T.any") false f (g ∷ fs) refl (all-listed f (g ∷ fs) (λ u a. let k = h u a in k.0)))

no-tail : (s : List ℕ) → s ++ tail_text [] ≡ s
unfolding tail_text
no-tail s = append-nil s

pub closed-text : (n : Bool) (fs : List (List ℕ)) → AreShown fs → IsText (closed_text n fs)
unfolding closed_text
closed-text false fs h = any-texts fs h
closed-text true [] h = word-text NIL refl
closed-text true (f ∷ fs) h = subst IsText (ap (λ s. codes "T.nilable(" ++ (s ++ codes ")")) (no-tail (any_text (f ∷ fs))))
    (node-text (codes "T.nilable") false (any_text (f ∷ fs)) [] refl (one-listed (any_text (f ∷ fs)) (any-texts (f ∷ fs) h)))

list-tells : (f g e d : List ℕ) (fs gs : List (List ℕ)) → AreShown (f ∷ g ∷ fs) → AreShown (e ∷ d ∷ gs)
    → listed (codes "T.any(") (f ∷ g ∷ fs) ≡ listed (codes "T.any(") (e ∷ d ∷ gs) → f ∷ g ∷ fs ≡ e ∷ d ∷ gs
unfolding AreShown
list-tells f g e d fs gs a b h = node-tells false f e (g ∷ fs) (d ∷ gs)
    (all-listed f (g ∷ fs) (λ u m. let k = a u m in k.0)) (all-listed e (d ∷ gs) (λ u m. let k = b u m in k.0))
    (after-start ((f ++ tail_text (g ∷ fs)) ++ codes ")") ((e ++ tail_text (d ∷ gs)) ++ codes ")")
    (sym (listed-is (codes "T.any(") f (g ∷ fs)) ∙ h ∙ listed-is (codes "T.any(") e (d ∷ gs)))
  where
    after-start : (r s : List ℕ) → codes "T.any(" ++ r ≡ codes "T.any(" ++ s → r ≡ s
    after-start r s k = cc

any-tells : (f g : List ℕ) (fs gs : List (List ℕ)) → AreShown (f ∷ fs) → AreShown (g ∷ gs) → any_text (f ∷ fs) ≡ any_text (g ∷ gs) → f ∷ fs ≡ g ∷ gs
unfolding AreShown
any-tells f g [] [] a b h = ap (λ u. u ∷ []) h
any-tells f g [] (d ∷ gs) a b h = let k = a f (inl refl) in
    absurd (k.1 ((g ++ tail_text (d ∷ gs)) ++ codes ")") (h ∙ listed-is (codes "T.any(") g (d ∷ gs)))
any-tells f g (e ∷ fs) [] a b h = let k = b g (inl refl) in
    absurd (k.1 ((f ++ tail_text (e ∷ fs)) ++ codes ")") (sym h ∙ listed-is (codes "T.any(") f (e ∷ fs)))
any-tells f g (e ∷ fs) (d ∷ gs) a b h = list-tells f e g d fs gs a b h

-- the text of a union tells what is shown of it
unfoldable pub third : List ℕ → Bool
third (a ∷ b ∷ c ∷ r) = nat_eq c 97
third _ = false

unfoldable pub second : List ℕ → Bool
second (a ∷ b ∷ r) = nat_eq b 58
second _ = false

pub closed-tells : (n m : Bool) (fs gs : List (List ℕ)) → IsProper n fs → IsProper m gs → AreShown fs → AreShown gs → closed_text n fs ≡ closed_text m gs
    → (n ≡ m) × (fs ≡ gs)
unfolding closed_text third second
closed-tells true true (f ∷ fs) (g ∷ gs) p q a b h = (
  refl,
  any-tells f g fs gs a b (let
      r : any_text (f ∷ fs) ++ codes ")" ≡ any_text (g ∷ gs) ++ codes ")" = cc in let
      k = text-ends (any_text (f ∷ fs)) (any_text (g ∷ gs)) (any-texts (f ∷ fs) a) (any-texts (g ∷ gs) b) (codes ")") (codes ")") refl refl r in k.0),
)
closed-tells false false (f ∷ []) (g ∷ []) p q a b h = (refl, ap (λ u. u ∷ []) h)
closed-tells false false (f ∷ e ∷ fs) (g ∷ d ∷ gs) p q a b h = (refl, list-tells f e g d fs gs a b h)
closed-tells false false (f ∷ []) (g ∷ d ∷ gs) p q a b h =
    absurd (not-both false refl (ap second (sym (listed-is (codes "T.any(") g (d ∷ gs)) ∙ sym h ∙ p)))
closed-tells false false (f ∷ e ∷ fs) (g ∷ []) p q a b h =
    absurd (not-both false refl (ap second (sym (listed-is (codes "T.any(") f (e ∷ fs)) ∙ h ∙ q)))
closed-tells true false (f ∷ fs) (g ∷ []) p q a b h = absurd (not-both false refl (ap second (h ∙ q)))
closed-tells true false (f ∷ fs) (g ∷ d ∷ gs) p q a b h = absurd (not-both false refl (ap third (h ∙ listed-is (codes "T.any(") g (d ∷ gs))))
closed-tells false true (f ∷ []) (g ∷ gs) p q a b h = absurd (not-both false refl (ap second (sym h ∙ p)))
closed-tells false true (f ∷ e ∷ fs) (g ∷ gs) p q a b h = absurd (not-both false refl (ap third (sym h ∙ listed-is (codes "T.any(") f (e ∷ fs))))
closed-tells true m [] gs p q a b h = absurd p
closed-tells false m [] gs p q a b h = absurd p
closed-tells true true (f ∷ fs) [] p q a b h = absurd q
closed-tells true false (f ∷ fs) [] p q a b h = absurd q
closed-tells false m (f ∷ []) [] p q a b h = absurd (never-proper m q)
  where
    never-proper : (k : Bool) → IsProper k [] → ⊥
    never-proper true x = x
    never-proper false x = x
closed-tells false m (f ∷ e ∷ fs) [] p q a b h = absurd (never-proper m q)
  where
    never-proper : (k : Bool) → IsProper k [] → ⊥
    never-proper true x = x
    never-proper false x = x
