-- Steps of reading that go through, tables of tokens, and what may follow a form.
use Rattle.std.proofs.Common.{◌≡◌, ℕ, suc, ◌≤◌, ◌<◌, Bool, true, false, not, ◌&&◌, ◌||◌, if◌then◌else◌, List, [], ◌∷◌, ◌++◌, length, ◌+◌, Ok, inl, inr, refl, sym, ap, subst, ◌∙◌, length-append, arith}
use Rattle.rb_tree.specs.Tokens.{shape_of, same_shape}
use Rattle.rb_tree.specs.declared.syntax.PlacedName.{PlacedName}
use Rattle.rb_tree.specs.declared.token.Token.{Token}
use Rattle.rb_tree.specs.declared.token.Shape.{Shape}
use Rattle.rb_tree.specs.declared.token.Shape.TheVariants as shape
use Rattle.rb_expr.specs.Reading.{Outcome, Parser, and_then, sees, words_of, expect, named, worded, skip_separators}
use Rattle.rb_rules.specs.Tokens.{Is, IsAny, IsOneOf, StartsWith, IsIdentifier, IsConstant, IsInstanceVariable, IsLabel, IsSymbol, IsWhole, IsFloat, IsText}
use Rattle.rb_rules.specs.Grammar.{Gap, IsRow}
use Rattle.rb_rules.specs.Grammar.Gap.{Closed, Wide}
use Rattle.rb_grammar.proofs.Steps.{same, shown, Within, within-self, within-token, within-more}
use Rattle.rb_grammar_laws.specs.Ends.{Ends}

-- ---- steps in a row

pub on : {A B : Type 0} {o : Outcome A} {a : A} {ys : List Token} {r : Outcome B} (f : A → Parser B) → o ≡ Ok (a, ys) → f a ys ≡ r → and_then o f ≡ r
on f e h = ap (λ o. and_then o f) e ∙ h

pub taken : {A : Type 0} {b : Bool} {r : A} (x y : A) → b ≡ true → x ≡ r → (if b then x else y) ≡ r
taken x y e h = ap (λ b. if b then x else y) e ∙ h

pub passed : {A : Type 0} {b : Bool} {r : A} (x y : A) → b ≡ false → y ≡ r → (if b then x else y) ≡ r
passed x y e h = ap (λ b. if b then x else y) e ∙ h

-- ---- lists and tables

pub and-left : (a b : Bool) → (a && b) ≡ true → a ≡ true
and-left true b h = refl
and-left false b h = h

pub and-right : (a b : Bool) → (a && b) ≡ true → b ≡ true
and-right true b h = h
and-right false b h = absurd (cc)

pub not-false : (b : Bool) → not b ≡ true → b ≡ false
not-false true e = sym e
not-false false e = refl

-- the test holds of each of the list
abbrev pub all_hold : (Shape → Bool) → List Shape → Bool
all_hold test [] = true
all_hold test (s ∷ ss) = test s && all_hold test ss

pub each : (test : Shape → Bool) (ss : List Shape) → all_hold test ss ≡ true → (s : Shape) → IsOneOf ss s → test s ≡ true
each test [] e s h = absurd h
each test (x ∷ ss) e s (inl is) = ap test is ∙ and-left _ _ e
each test (x ∷ ss) e s (inr h) = each test ss (and-right _ _ e) s h

-- whether the shape stands in the list
abbrev pub is_in : List Shape → Shape → Bool
is_in [] s = false
is_in (x ∷ xs) s = same_shape s x || is_in xs s

pub in-list : (ss : List Shape) (s : Shape) → is_in ss s ≡ true → IsOneOf ss s
in-list [] s e = absurd (cc)
in-list (x ∷ ss) s e = go (same_shape s x) refl e (λ h. in-list ss s h)
  where
    go : (b : Bool) → same_shape s x ≡ b → (b || is_in ss s) ≡ true → (is_in ss s ≡ true → IsOneOf ss s) → IsOneOf (x ∷ ss) s
    go true is h more = inl (same s x is)
    go false non h more = inr (more h)

-- a table holds what each of its rows does
abbrev pub AllRows : {A B : Type 0} → List (A × B) → (A → B → Type 0) → Type 0
AllRows [] P = Unit {0}
AllRows (row ∷ rows) P = P row.0 row.1 × AllRows rows P

pub by-row : {A B : Type 0} (rows : List (A × B)) (P : A → B → Type 0) → AllRows rows P → (a : A) (b : B) → IsRow rows a b → P a b
by-row [] P all a b h = absurd h
by-row (row ∷ rows) P all a b (inl h) = subst (λ x. P x b) (sym h.0) (subst (λ y. P row.0 y) (sym h.1) all.0)
by-row (row ∷ rows) P all a b (inr h) = by-row rows P all.1 a b h

-- ---- the next token

pub expects : (s : Shape) (t : Token) (ts : List Token) → Is s t → expect s (t ∷ ts) ≡ Ok (t.span, ts)
expects s t ts is = taken _ _ (shown s t ts is) refl

as_name : Token → List ℕ → PlacedName
as_name t w = record { name = w; span = t.span }

pub names : (s : Shape) (t : Token) (ts : List Token) (w : List ℕ) → Is s t → words_of t.kind ≡ w → named s (t ∷ ts) ≡ Ok (record { name = w; span = t.span }, ts)
unfolding as_name
names s t ts w is e = taken _ _ (shown s t ts is) (ap (λ w. Ok (as_name t w, ts)) e)

pub words : (s : Shape) (t : Token) (ts : List Token) (w : List ℕ) → Is s t → words_of t.kind ≡ w → worded s (t ∷ ts) ≡ Ok ((w, t.span), ts)
words s t ts w is e = taken _ _ (shown s t ts is) (ap (λ w. Ok ((w, t.span), ts)) e)

-- a token of one shape has no other
pub other : (s c : Shape) (t : Token) (ts : List Token) → Is c t → same_shape c s ≡ false → sees s (t ∷ ts) ≡ false
other s c t ts is e = ap (λ x. same_shape x s) is ∙ e

pub identifier : (t : Token) (w : List ℕ) → IsIdentifier t w → Is shape.Identifier t
unfolding shape_of
identifier t w e = ap shape_of e

pub constant : (t : Token) (w : List ℕ) → IsConstant t w → Is shape.Constant t
unfolding shape_of
constant t w e = ap shape_of e

pub instance_variable : (t : Token) (w : List ℕ) → IsInstanceVariable t w → Is shape.InstanceVariable t
unfolding shape_of
instance_variable t w e = ap shape_of e

pub label : (t : Token) (w : List ℕ) → IsLabel t w → Is shape.Label t
unfolding shape_of
label t w e = ap shape_of e

pub symbol : (t : Token) (w : List ℕ) → IsSymbol t w → Is shape.Symbol t
unfolding shape_of
symbol t w e = ap shape_of e

pub whole : (t : Token) (w : List ℕ) → IsWhole t w → Is shape.Whole t
unfolding shape_of
whole t w e = ap shape_of e

pub float : (t : Token) (w : List ℕ) → IsFloat t w → Is shape.Float t
unfolding shape_of
float t w e = ap shape_of e

pub text : (t : Token) (w : List ℕ) → IsText t w → Is shape.Text t
unfolding shape_of
text t w e = ap shape_of e

-- the token has one of the shapes
pub any-of : (ss : List Shape) (s : Shape) (t : Token) → is_in ss s ≡ true → Is s t → IsAny ss t
any-of ss s t e is = subst (λ c. IsOneOf ss c) (sym is) (in-list ss s e)

-- what one of these begins does not see another shape
pub unseen : (s : Shape) (ss : List Shape) → all_hold (λ c. not (same_shape c s)) ss ≡ true → (xs : List Token) → StartsWith ss xs → sees s xs ≡ false
unseen s ss e [] h = refl
unseen s ss e (t ∷ ts) h = not-false _ (each (λ c. not (same_shape c s)) ss e _ h)

pub wider : (ss more : List Shape) → all_hold (is_in more) ss ≡ true → (c : Shape) → IsOneOf ss c → IsOneOf more c
wider ss more e c h = in-list more c (each (is_in more) ss e c h)

-- ---- tokens passed over

-- the second list is an end of the first, and not all of it
abbrev pub Past : List Token → List Token → Type 0
Past xs ys = (t : Token) × (ts : List Token) × (xs ≡ t ∷ ts) × Within ts ys

pub past-token : {xs ys : List Token} (t : Token) → Within xs ys → Past (t ∷ xs) ys
past-token {xs = xs} t w = (t, xs, refl, w)

pub past-within : {xs ys : List Token} → Past xs ys → Within xs ys
past-within {ys = ys} p = subst (λ us. Within us ys) (sym p.2) (within-token p.0 p.3)

pub past-more : {xs ys zs : List Token} → Past xs ys → Within ys zs → Past xs zs
past-more p w = (p.0, p.1, p.2, within-more p.3 w)

pub within-past : {xs ys zs : List Token} → Within xs ys → Past ys zs → Past xs zs
within-past {xs = xs} {ys = ys} {zs = zs} w p = subst (λ us. Past us zs) (sym w.1) (go w.0)
  where
    go : (front : List Token) → Past (front ++ ys) zs
    go [] = p
    go (t ∷ front) = (t, front ++ ys, refl, within-more {xs = front ++ ys} {ys = ys} (front, refl) (past-within p))

pub within-length : {xs ys : List Token} → Within xs ys → length ys ≤ length xs
within-length {xs = xs} {ys = ys} w =
    let e : length xs ≡ length (w.0 ++ ys) = ap (λ us. length us) w.1 in
    let f : length (w.0 ++ ys) ≡ length w.0 + length ys = length-append w.0 ys in
    omega arith

pub past-length : {xs ys : List Token} → Past xs ys → length ys < length xs
past-length {xs = xs} {ys = ys} p =
    let e : length xs ≡ suc (length p.1) = ap (λ us. length us) p.2 in
    let h = within-length p.3 in
    omega arith

-- ---- separators

pub unskipped : (xs : List Token) → sees shape.Separator xs ≡ false → skip_separators xs ≡ xs
unskipped [] e = refl
unskipped (t ∷ ts) e = passed _ _ e refl

-- separators are skipped up to what is none
pub skipped : (xs ys : List Token) → Gap xs ys → sees shape.Separator ys ≡ false → skip_separators xs ≡ ys
skipped xs ys (Closed _) e = unskipped ys e
skipped xs ys (Wide t us _ is g) e = taken _ _ (shown shape.Separator t us is) (skipped us ys g e)

pub gap-within : (xs ys : List Token) → Gap xs ys → Within xs ys
gap-within xs ys (Closed _) = within-self _
gap-within xs ys (Wide t us _ is g) = within-token t (gap-within us ys g)

-- ---- what follows a form

pub ends-unseen : (s : Shape) (ss : List Shape) → all_hold (λ c. not (same_shape c s)) ss ≡ true → (free : Bool) (xs : List Token) → Ends ss free xs → sees s xs ≡ false
ends-unseen s ss e free [] h = refl
ends-unseen s ss e free (t ∷ ts) h = not-false _ (each (λ c. not (same_shape c s)) ss e _ h.0)

pub ends-wider : (ss more : List Shape) → all_hold (is_in more) ss ≡ true → (free : Bool) (xs : List Token) → Ends ss free xs → Ends more free xs
ends-wider ss more e free [] h = tt
ends-wider ss more e free (t ∷ ts) h = (wider ss more e _ h.0, h.1)

-- where no call may take a `do`
pub ends-taking-none : (ss : List Shape) (free : Bool) (xs : List Token) → Ends ss free xs → Ends ss false xs
ends-taking-none ss free [] h = tt
ends-taking-none ss free (t ∷ ts) h = (h.0, λ e. absurd (cc))

-- a token that is no `do`
pub ends-by : (ss : List Shape) (s : Shape) → is_in ss s ≡ true → same_shape s shape.Do ≡ false → (free : Bool) (t : Token) (ts : List Token) → Is s t → Ends ss free (t ∷ ts)
ends-by ss s e non free t ts is = (any-of ss s t e is, λ f d. let both : same_shape s shape.Do ≡ true = ap (λ c. same_shape c shape.Do) (sym is) ∙ shown shape.Do t ts d in absurd (cc))

pub no-do : (ss : List Shape) (free : Bool) (xs : List Token) → Ends ss free xs → (free && sees shape.Do xs) ≡ false
no-do ss true [] h = refl
no-do ss false [] h = refl
no-do ss false (t ∷ ts) h = refl
no-do ss true (t ∷ ts) h = go (same_shape (shape_of t.kind) shape.Do) refl
  where
    go : (b : Bool) → same_shape (shape_of t.kind) shape.Do ≡ b → b ≡ false
    go true e = absurd (h.1 refl (same _ _ e))
    go false e = refl
