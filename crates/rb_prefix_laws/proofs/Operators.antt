-- Operations are read alike. A sign is told by the token after it, and whether it belongs to a number by the one after that.
use Rattle.std.proofs.Common.{◌≡◌, ℕ, suc, ◌+◌, ◌-◌, Bool, true, false, not, ◌&&◌, ◌||◌, if◌then◌else◌, List, [], ◌∷◌, Option, Some, None, refl, sym, ap, subst, ◌∙◌, ◌⊎◌, inl, inr, ◌≤◌, ◌++◌, length, Err, arith}
use Rattle.rb_tree.specs.Tokens.{shape_of, same_shape}
use Rattle.rb_tree.specs.declared.syntax.Binary.{Binary}
use Rattle.rb_tree.specs.declared.syntax.Binary.TheVariants as binary
use Rattle.rb_tree.specs.declared.syntax.Unary.{Unary}
use Rattle.rb_tree.specs.declared.syntax.Unary.TheVariants as unary
use Rattle.rb_tree.specs.declared.syntax.Tree.{Tree}
use Rattle.rb_tree.specs.declared.token.Token.{Token}
use Rattle.rb_tree.specs.declared.token.Shape.{Shape}
use Rattle.rb_tree.specs.declared.token.Shape.TheVariants as shape
use Rattle.rb_expr.specs.declared.form.Form.{Form}
use Rattle.rb_expr.specs.declared.form.Form.TheVariants as form
use Rattle.rb_expr.specs.Reading.{Parser, peek, sees, after}
use Rattle.rb_expr.specs.Shapes.{level_of, ceiling, operator_between, sees_number, is_signed, is_sign, is_negation, prefix_by, prefix_of}
use Rattle.rb_expr.specs.Operands.{post, primary}
use Rattle.rb_expr.specs.Operators.{unary_operation, binary_operation, prefixed_by, prefixed, powered, power, negated, climb_by, climb_from, climb, operation, alternatives, chosen, tern, tern_after}
use Rattle.rb_rules.specs.Tokens.{Is}
use Rattle.rb_grammar.proofs.Steps.{same}
use Rattle.rb_grammar.proofs.Lists.{and-left, and-right}
use Rattle.rb_prefix_laws.proofs.Steps.{Looks, Same, first, same-first, one, sees-one, peek-one, Fits, less-fits}
use Rattle.rb_prefix_laws.proofs.Cuts.{Cut, bind, weaker, answering, looking-far, choosing, done, take-next, taken-in, expecting, loop-at, choose-some, looking-or, TakenOr, Usual, expect-next}
use Rattle.rb_prefix_laws.proofs.Steps.Amount.{answer, any}
use Rattle.rb_prefix_laws.specs.Laws.{usual}
use Rattle.rb_prefix_laws.proofs.Nested.{hold_by, grip_by, grip, Nests}
use Rattle.rb_prefix_laws.proofs.Operands.{signed-one}
use Rattle.rb_prefix_laws.proofs.Suffixes.{post-alike}

-- ---- signs

pub sign-far : (n : ℕ) (xs ys : List Token) → Same (suc n) xs ys → is_sign xs ≡ is_sign ys
unfolding is_sign
sign-far n [] [] h = refl
sign-far n [] (y ∷ ys) h = absurd h
sign-far n (x ∷ xs) [] h = absurd h
sign-far n (x ∷ xs) (y ∷ ys) h = signed-one x.span xs ys (same-first n xs ys h.1) ∙ ap (λ t. is_signed t.span ys) h.0

power-far : (xs ys : List Token) → Same 2 xs ys → sees shape.Power (after (after xs)) ≡ sees shape.Power (after (after ys))
power-far [] [] h = refl
power-far [] (y ∷ ys) h = absurd h
power-far (x ∷ xs) [] h = absurd h
power-far (x ∷ []) (y ∷ []) h = refl
power-far (x ∷ []) (y ∷ z ∷ zs) h = absurd h.1
power-far (x ∷ z ∷ zs) (y ∷ []) h = absurd h.1
power-far (x ∷ a ∷ as') (y ∷ b ∷ bs) h = sees-one shape.Power as' bs h.1.1

negation-two : (xs ys : List Token) → Same 2 xs ys → is_negation xs ≡ is_negation ys
unfolding is_negation
negation-two xs ys h = ap (λ b. b && (not (is_sign xs) || sees shape.Power (after (after xs)))) (sees-one shape.Minus xs ys (same-first 2 xs ys h))
    ∙ ap (λ b. sees shape.Minus ys && (not b || sees shape.Power (after (after xs)))) (sign-far 1 xs ys h)
    ∙ ap (λ b. sees shape.Minus ys && (not (is_sign ys) || b)) (power-far xs ys h)

unsigned : (xs : List Token) → is_sign xs ≡ false → is_negation xs ≡ (sees shape.Minus xs && true)
unfolding is_negation
unsigned xs e = ap (λ b. sees shape.Minus xs && (not b || sees shape.Power (after (after xs)))) e

negation-one : (xs ys : List Token) → is_sign xs ≡ false → Same 1 xs ys → is_negation xs ≡ is_negation ys
negation-one xs ys e h = unsigned xs e ∙ ap (λ b. b && true) (sees-one shape.Minus xs ys (same-first 1 xs ys h)) ∙ sym (unsigned ys (sym (sign-far 0 xs ys h) ∙ e))

no-minus : (xs : List Token) → sees shape.Minus xs ≡ false → is_negation xs ≡ false
unfolding is_negation
no-minus xs e = ap (λ b. b && (not (is_sign xs) || sees shape.Power (after (after xs)))) e

negation-none : (xs ys : List Token) → sees shape.Minus xs ≡ false → first xs ≡ first ys → is_negation xs ≡ is_negation ys
negation-none xs ys e h = no-minus xs e ∙ sym (no-minus ys (sym (sees-one shape.Minus xs ys h) ∙ e))

negation-by : (s : Shape) (t : Token) (ts ys : List Token) → Is s t → Same (grip_by s t ts) (t ∷ ts) ys → is_negation (t ∷ ts) ≡ is_negation ys
unfolding same_shape is_sign
negation-by shape.Minus t ts ys is h = go (is_signed t.span ts) refl h
  where
    go : (b : Bool) → is_signed t.span ts ≡ b → Same (if b then 2 else 1) (t ∷ ts) ys → is_negation (t ∷ ts) ≡ is_negation ys
    go true e h = negation-two (t ∷ ts) ys h
    go false e h = negation-one (t ∷ ts) ys e h
negation-by s t ts ys is h = negation-none (t ∷ ts) ys (ap (λ c. same_shape c shape.Minus) is) (same-first (grip_by s t ts) (t ∷ ts) ys h)

pub negation-far : (xs ys : List Token) → Same (grip xs) xs ys → is_negation xs ≡ is_negation ys
negation-far [] ys h = negation-none [] ys refl h
negation-far (t ∷ ts) ys h = negation-by (shape_of t.kind) t ts ys refl h

prefix-one : (n : ℕ) (xs ys : List Token) → Same (suc n) xs ys → prefix_of xs ≡ prefix_of ys
unfolding prefix_of
prefix-one n xs ys h = ap (λ b. prefix_by b (peek xs)) (sign-far n xs ys h) ∙ ap (λ v. prefix_by (is_sign ys) v) (peek-one xs ys (same-first (suc n) xs ys h))

-- no sign
prefix-other : (s : Shape) (t : Token) (ts ys : List Token) → Is s t → ((a b : Bool) → prefix_by a (Some s) ≡ prefix_by b (Some s)) → first (t ∷ ts) ≡ first ys → prefix_of (t ∷ ts) ≡ prefix_of ys
unfolding prefix_of
prefix-other s t ts ys is either h = ap (λ c. prefix_by (is_sign (t ∷ ts)) (Some c)) is ∙ either (is_sign (t ∷ ts)) (is_sign ys) ∙ ap (λ c. prefix_by (is_sign ys) (Some c)) (sym is) ∙ ap (λ v. prefix_by (is_sign ys) v) (peek-one (t ∷ ts) ys h)

prefix-by-far : (s : Shape) (t : Token) (ts ys : List Token) → Is s t → Same (grip_by s t ts) (t ∷ ts) ys → prefix_of (t ∷ ts) ≡ prefix_of ys
prefix-by-far shape.Plus t ts ys is h = go (is_signed t.span ts) h
  where
    go : (b : Bool) → Same (if b then 2 else 1) (t ∷ ts) ys → prefix_of (t ∷ ts) ≡ prefix_of ys
    go true h = prefix-one 1 (t ∷ ts) ys h
    go false h = prefix-one 0 (t ∷ ts) ys h
prefix-by-far s t ts ys is h = prefix-other s t ts ys is (λ a b. refl) (same-first (grip_by s t ts) (t ∷ ts) ys h)

pub prefix-far : (xs ys : List Token) → Same (grip xs) xs ys → prefix_of xs ≡ prefix_of ys
prefix-far [] [] h = refl
prefix-far [] (y ∷ ys) h = absurd (cc)
prefix-far (t ∷ ts) ys h = prefix-by-far (shape_of t.kind) t ts ys refl h

-- ---- where the tokens end

-- `+` before what is left is none of a number
alone-by : (s : Shape) (m r : Token) (rs : List Token) → grip_by s m (r ∷ rs) ≤ 1 → prefix_by (is_signed m.span []) (Some s) ≡ prefix_by (is_signed m.span (r ∷ rs)) (Some s)
unfolding is_signed
alone-by shape.Plus m r rs le = go (is_signed m.span (r ∷ rs)) le
  where
    go : (b : Bool) → (if b then 2 else 1) ≤ 1 → prefix_by false (Some shape.Plus) ≡ prefix_by b (Some shape.Plus)
    go true le = absurd (let f : ⊥ = omega arith in f)
    go false le = refl
alone-by s m r rs le = refl

front-prefix : (front rest : List Token) → Usual rest → grip (front ++ rest) ≤ length front → (prefix_of front ≡ prefix_of (front ++ rest)) ⊎ (front ≡ [])
unfolding prefix_of is_sign
front-prefix [] rest u le = inr refl
front-prefix (m ∷ []) [] u le = absurd u
front-prefix (m ∷ []) (r ∷ rs) u le = inl (alone-by (shape_of m.kind) m r rs le)
front-prefix (m ∷ n ∷ front) rest u le = inl (prefix-one 0 (m ∷ n ∷ front) (m ∷ n ∷ (front ++ rest)) (refl, refl))

pub prefix-there : (xs front rest : List Token) → xs ≡ front ++ rest → Usual rest → grip xs ≤ length front → (prefix_of front ≡ prefix_of xs) ⊎ (front ≡ [])
prefix-there xs front rest e u le = subst (λ us. (prefix_of front ≡ prefix_of us) ⊎ (front ≡ [])) (sym e) (front-prefix front rest u (subst (λ us. grip us ≤ length front) e le))

-- a `-` before what is left is no sign
alone-minus : (s : Shape) (m r : Token) (rs : List Token) → grip_by s m (r ∷ rs) ≤ 1 → same_shape s shape.Minus ≡ true → is_signed m.span (r ∷ rs) ≡ false
unfolding same_shape
alone-minus shape.Minus m r rs le e = go (is_signed m.span (r ∷ rs)) le
  where
    go : (b : Bool) → (if b then 2 else 1) ≤ 1 → b ≡ false
    go true le = absurd (let f : ⊥ = omega arith in f)
    go false le = refl
alone-minus s m r rs le e = absurd (cc)

no-power : (rest : List Token) → Usual rest → sees shape.Power rest ≡ false
no-power [] u = refl
no-power (t ∷ ts) u = go (same_shape (shape_of t.kind) shape.Power) refl
  where
    go : (b : Bool) → same_shape (shape_of t.kind) shape.Power ≡ b → b ≡ false
    go true e = absurd (let n : false ≡ true = subst (λ c. usual c ≡ true) (same _ _ e) u in cc)
    go false e = refl

front-negation : (front rest : List Token) → Usual rest → grip (front ++ rest) ≤ length front → (is_negation front ≡ is_negation (front ++ rest)) ⊎ (front ≡ [])
unfolding is_negation is_sign is_signed
front-negation [] rest u le = inr refl
front-negation (m ∷ []) [] u le = absurd u
front-negation (m ∷ []) (r ∷ rs) u le = inl (go (same_shape (shape_of m.kind) shape.Minus) refl)
  where
    go : (b : Bool) → same_shape (shape_of m.kind) shape.Minus ≡ b → (b && true) ≡ (b && (not (is_signed m.span (r ∷ rs)) || sees shape.Power rs))
    go true e = sym (ap (λ c. not c || sees shape.Power rs) (alone-minus (shape_of m.kind) m r rs le e))
    go false e = refl
front-negation (m ∷ n ∷ []) rest u le = inl (ap (λ b. same_shape (shape_of m.kind) shape.Minus && (not (is_sign (m ∷ n ∷ [])) || b)) (sym (no-power rest u))
    ∙ ap (λ b. same_shape (shape_of m.kind) shape.Minus && (not b || sees shape.Power rest)) (sign-far 0 (m ∷ n ∷ []) (m ∷ n ∷ rest) (refl, refl)))
front-negation (m ∷ n ∷ p ∷ front) rest u le = inl (negation-two (m ∷ n ∷ p ∷ front) (m ∷ n ∷ p ∷ (front ++ rest)) (refl, (refl, refl)))

pub negation-there : (xs front rest : List Token) → xs ≡ front ++ rest → Usual rest → grip xs ≤ length front → (is_negation front ≡ is_negation xs) ⊎ (front ≡ [])
negation-there xs front rest e u le = subst (λ us. (is_negation front ≡ is_negation us) ⊎ (front ≡ [])) (sym e) (front-negation front rest u (subst (λ us. grip us ≤ length front) e le))

-- a number takes one token
number-by-grip : (s : Shape) (t : Token) (ts : List Token) → (same_shape s shape.Whole || same_shape s shape.Float) ≡ true → grip_by s t ts ≡ 1
unfolding same_shape
number-by-grip shape.Whole t ts e = refl
number-by-grip shape.Float t ts e = refl
number-by-grip s t ts e = absurd (let f : false ≡ true = e in cc)

number-grip : (xs : List Token) → sees_number xs ≡ true → grip xs ≡ 1
unfolding sees_number
number-grip [] e = absurd (cc)
number-grip (t ∷ ts) e = number-by-grip (shape_of t.kind) t ts e

signed-grip : (place : Token) (ts : List Token) → is_signed place.span ts ≡ true → grip ts ≡ 1
unfolding is_signed
signed-grip place ts e = number-grip ts (and-right _ _ e)

module _ (nested other : Form → Bool → Parser Tree) (turns more : ℕ) (ih : Nests nested other turns more) (free : Bool) where
  -- ---- operators in front

  unary-next : (k : ℕ) → Fits turns more k → (operator : Unary) (f : Form) (t : Token) (ts : List Token) → Cut k (any 1) (t ∷ ts) (unary_operation nested turns free operator f (t ∷ ts)) (unary_operation other more free operator f)
  unfolding unary_operation
  unary-next k fit operator f t ts = bind (take-next t ts) (λ mark r. bind ((ih k fit).reads f free r) (λ operand r. done _))

  -- a `-` before a number that is raised to a power
  minus-next : (k : ℕ) → Fits turns more k → (t : Token) (ts : List Token) → is_signed t.span ts ≡ true → Cut k (any 2) (t ∷ ts) (unary_operation nested turns free unary.Minus form.Negated (t ∷ ts)) (unary_operation other more free unary.Minus form.Negated)
  unfolding unary_operation
  minus-next k fit t ts e = taken-in (bind (subst (λ n. Cut (k - 1) (any n) ts (nested form.Negated free ts) (other form.Negated free)) (signed-grip t ts e) ((ih k fit).negated free ts)) (λ operand r. done _))

  binary-next : (k : ℕ) → Fits turns more k → (operator : Binary) (f : Form) (left : Tree) (t : Token) (ts : List Token) → Cut k (any 1) (t ∷ ts) (binary_operation nested turns free operator f left (t ∷ ts)) (binary_operation other more free operator f left)
  unfolding binary_operation
  binary-next k fit operator f left t ts = bind (take-next t ts) (λ mark r. bind ((ih k fit).reads f free r) (λ right r. done _))

  prefix-by-alike : (k : ℕ) → Fits turns more k → (s : Shape) (t : Token) (ts : List Token) → Cut k (answer (hold_by s t ts)) (t ∷ ts) (post nested turns free (t ∷ ts)) (post other more free) →
      Cut k (answer (grip_by s t ts)) (t ∷ ts) (prefixed_by nested turns free (prefix_by (is_signed t.span ts) (Some s)) (t ∷ ts)) (prefixed_by other more free (prefix_by (is_signed t.span ts) (Some s)))
  prefix-by-alike k fit shape.Not t ts h = answering (unary-next k fit unary.Not form.Prefixed t ts)
  prefix-by-alike k fit shape.Tilde t ts h = answering (unary-next k fit unary.Tilde form.Prefixed t ts)
  prefix-by-alike k fit shape.Plus t ts h = go (is_signed t.span ts) h
    where
      go : (b : Bool) → Cut k (answer (if b then 2 else 1)) (t ∷ ts) (post nested turns free (t ∷ ts)) (post other more free) →
          Cut k (answer (if b then 2 else 1)) (t ∷ ts) (prefixed_by nested turns free (prefix_by b (Some shape.Plus)) (t ∷ ts)) (prefixed_by other more free (prefix_by b (Some shape.Plus)))
      go true h = h
      go false h = answering (unary-next k fit unary.Plus form.Prefixed t ts)
  prefix-by-alike k fit s t ts h = h

  -- where the test of what is in front says the same, or nothing is in front
  prefixed-there : (xs front : List Token) → (prefix_of front ≡ prefix_of xs) ⊎ (front ≡ []) → (prefixed_by other more free (prefix_of front) front ≡ prefixed_by other more free (prefix_of xs) front) ⊎ (prefixed_by other more free (prefix_of front) front ≡ Err [])
  unfolding prefix_of post primary
  prefixed-there xs front (inl e) = inl (ap (λ v. prefixed_by other more free v front) e)
  prefixed-there xs front (inr e) = inr (subst (λ us. prefixed_by other more free (prefix_of us) us ≡ Err []) (sym e) refl)

  pub prefixed-alike : (k : ℕ) → Fits turns more k → (xs : List Token) → Cut k (answer (grip xs)) xs (prefixed nested turns free xs) (prefixed other more free)
  unfolding prefixed prefix_of is_sign
  prefixed-alike k fit [] = looking-far prefix_of (prefixed_by other more free) (prefix-far []) (λ front e u le. prefixed-there [] front (prefix-there [] front _ e u le)) (post-alike nested other turns more ih free k fit [])
  prefixed-alike k fit (t ∷ ts) = looking-far prefix_of (prefixed_by other more free) (prefix-far (t ∷ ts)) (λ front e u le. prefixed-there (t ∷ ts) front (prefix-there (t ∷ ts) front _ e u le))
      (prefix-by-alike k fit (shape_of t.kind) t ts (post-alike nested other turns more ih free k fit (t ∷ ts)))

  powered-by : (k : ℕ) → Fits turns more k → (left : Tree) (xs : List Token) → sees shape.Power xs ≡ true → Cut k (any 1) xs (binary_operation nested turns free binary.Power form.Negated left xs) (binary_operation other more free binary.Power form.Negated left)
  powered-by k fit left [] e = absurd (cc)
  powered-by k fit left (t ∷ ts) e = binary-next k fit binary.Power form.Negated left t ts

  powered-alike : (k : ℕ) → Fits turns more k → (left : Tree) (xs : List Token) → Cut k (any 0) xs (powered nested turns free left xs) (powered other more free left)
  unfolding powered
  powered-alike k fit left xs = choose-some (sees shape.Power) (sees-one shape.Power) refl (λ e. powered-by k fit left xs e) (λ e. done _)

  power-alike : (k : ℕ) → Fits turns more k → (xs : List Token) → Cut k (answer (grip xs)) xs (power nested turns free xs) (power other more free)
  unfolding power
  power-alike k fit xs = bind (prefixed-alike k fit xs) (λ left r. powered-alike (k - 1) (less-fits fit) left r)

  minus-alike : (k : ℕ) → Fits turns more k → (xs : List Token) → is_negation xs ≡ true → Cut k (answer (grip xs)) xs (unary_operation nested turns free unary.Minus form.Negated xs) (unary_operation other more free unary.Minus form.Negated)
  unfolding is_negation
  minus-alike k fit [] e = absurd (cc)
  minus-alike k fit (t ∷ ts) e =
      subst (λ s. Cut k (answer (grip_by s t ts)) (t ∷ ts) (unary_operation nested turns free unary.Minus form.Negated (t ∷ ts)) (unary_operation other more free unary.Minus form.Negated)) (sym (same (shape_of t.kind) shape.Minus (and-left _ _ e))) (go (is_signed t.span ts) refl)
    where
      go : (b : Bool) → is_signed t.span ts ≡ b → Cut k (answer (if b then 2 else 1)) (t ∷ ts) (unary_operation nested turns free unary.Minus form.Negated (t ∷ ts)) (unary_operation other more free unary.Minus form.Negated)
      go true e = answering (minus-next k fit t ts e)
      go false e = answering (unary-next k fit unary.Minus form.Negated t ts)

  pub negated-alike : (k : ℕ) → Fits turns more k → (xs : List Token) → Cut k (answer (grip xs)) xs (negated nested turns free xs) (negated other more free)
  unfolding negated power prefixed prefix_of post primary is_negation
  negated-alike k fit xs = choosing is_negation (unary_operation other more free unary.Minus form.Negated) (power other more free) (negation-far xs) (λ front rest e u le. negation-there xs front rest e u le) refl (λ e. minus-alike k fit xs e) (λ e. power-alike k fit xs)

  -- ---- operators between

  operator-one : (least most : ℕ) → Looks (λ ys. operator_between (peek ys) least most)
  operator-one least most = one (λ ys. operator_between (peek ys) least most) (λ t ts. refl)

  climb-by-alike : (k : ℕ) → Fits turns more k → (again again2 : ℕ → Tree → Parser Tree) → ((most : ℕ) (left : Tree) (xs : List Token) → Cut (k - 1) (any 0) xs (again most left xs) (again2 most left)) → (least most : ℕ) (left : Tree) (operator : Option Binary) (xs : List Token) → operator_between (peek xs) least most ≡ operator →
      TakenOr k xs (climb_by nested turns free again left operator xs) (climb_by other more free again2 left operator) (climb_by other more free again2 left None)
  unfolding operator_between
  climb-by-alike k fit again again2 h least most left None xs e = inl (refl, done _)
  climb-by-alike k fit again again2 h least most left (Some operator) [] e = absurd (cc)
  climb-by-alike k fit again again2 h least most left (Some operator) (t ∷ ts) e = inr (bind (binary-next k fit operator (form.Operation (level_of operator + 1)) left t ts) (λ longer r. h (ceiling operator) longer r))

  climb-alike : (k : ℕ) → Fits turns more k → (least : ℕ) (left : Tree) (xs : List Token) → Cut k (any 0) xs (climb nested turns free least left xs) (climb other more free least left)
  unfolding climb climb_from operator_between
  climb-alike k fit least left xs = loop-at {S = ℕ × Tree} turns more (λ n s. climb_from nested turns free least n s.0 s.1) (λ n s. climb_from other more free least n s.0 s.1)
      (λ k n m fit again s xs. looking-or (λ ys. operator_between (peek ys) least s.0) (climb_by other more free (climb_from other more free least m) s.1) (operator-one least s.0)
      (climb-by-alike k fit (climb_from nested turns free least n) (climb_from other more free least m) (λ most left xs. again (most, left) xs) least s.0 s.1 (operator_between (peek xs) least s.0) xs refl))
      k fit (9, left) xs

  pub operation-alike : (k : ℕ) → Fits turns more k → (least : ℕ) (xs : List Token) → Cut k (answer (grip xs)) xs (operation nested turns free least xs) (operation other more free least)
  unfolding operation
  operation-alike k fit least xs = bind (negated-alike k fit xs) (λ left r. climb-alike (k - 1) (less-fits fit) least left r)

  alternatives-next : (k : ℕ) → Fits turns more k → (condition : Tree) (xs : List Token) → sees shape.Question xs ≡ true → Cut k (any 1) xs (alternatives nested turns free condition xs) (alternatives other more free condition)
  unfolding alternatives
  alternatives-next k fit condition xs e = bind (expect-next shape.Question xs e) (λ mark r. bind ((ih k fit).reads form.Tern free r) (λ positive r. weaker (bind (expecting shape.Colon r) (λ colon r. bind ((ih (k - 1) (less-fits fit)).reads form.Tern free r) (λ negative r. done _)))))

  chosen-alike : (k : ℕ) → Fits turns more k → (condition : Tree) (xs : List Token) → Cut k (any 0) xs (chosen nested turns free condition xs) (chosen other more free condition)
  unfolding chosen
  chosen-alike k fit condition xs = choose-some (sees shape.Question) (sees-one shape.Question) refl (λ e. alternatives-next k fit condition xs e) (λ e. done _)

  pub tern-alike : (k : ℕ) → Fits turns more k → (xs : List Token) → Cut k (answer (grip xs)) xs (tern nested turns free xs) (tern other more free)
  unfolding tern
  tern-alike k fit xs = bind (operation-alike k fit 1 xs) (λ condition r. chosen-alike (k - 1) (less-fits fit) condition r)

  pub after-alike : (k : ℕ) → Fits turns more k → (left : Tree) (xs : List Token) → Cut k (any 0) xs (tern_after nested turns free left xs) (tern_after other more free left)
  unfolding tern_after
  after-alike k fit left xs = bind (powered-alike k fit left xs) (λ left r. bind (climb-alike k fit 1 left r) (λ condition r. chosen-alike k fit condition r))
