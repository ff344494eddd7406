-- Methods are read alike. A visibility is told by the `def` after it.
use Rattle.std.proofs.Common.{◌≡◌, ℕ, ◌-◌, Bool, true, false, ◌==◌, if◌then◌else◌, List, [], ◌∷◌, length, Option, Some, None, is_some, Ok, Err, refl, sym, ap, subst, ◌∙◌}
use Rattle.srb_terms.specs.declared.span.Span.{Span}
use Rattle.rb_tree.specs.Tokens.{shape_of}
use Rattle.rb_tree.specs.declared.syntax.PlacedName.{PlacedName}
use Rattle.rb_tree.specs.declared.syntax.Tree.{Tree}
use Rattle.rb_tree.specs.declared.syntax.Visibility.{Visibility}
use Rattle.rb_tree.specs.declared.token.Token.{Token}
use Rattle.rb_tree.specs.declared.token.TokenKind.{TokenKind}
use Rattle.rb_tree.specs.declared.token.TokenKind.TheVariants as kind
use Rattle.rb_tree.specs.declared.token.Shape.TheVariants as shape
use Rattle.rb_expr.specs.Reading.{Outcome, Parser, ◌>>=◌, pure, sees, after, expect}
use Rattle.rb_expr.specs.Grammar.{parsed}
use Rattle.rb_expr.specs.Rules.{guarded}
use Rattle.rb_decl.specs.Methods.{visibility_of, visibility, operator_text, plain_name, method_name, own, method_head, defined, start_of, method}
use Rattle.rb_prefix_laws.proofs.Steps.{Alike, Same, first, same-first, bind, weaker, lower, answering, one, choose, looking, looking-far, sees-one, done, like, empty, taken-in, refused-at, expecting, stepping, Fits, less-fits}
use Rattle.rb_prefix_laws.proofs.Steps.Amount.{answer, any}
use Rattle.rb_prefix_laws.proofs.Nested.{grip}
use Rattle.rb_prefix_laws.proofs.Branches.{guarded-alike}
use Rattle.rb_prefix_laws.proofs.Forms.{nests}
use Rattle.rb_prefix_laws.proofs.Parameters.{parameters-alike}

-- ---- the visibility

-- no visibility, whatever stands after the token
none-far : (r : Token) (ts ys : List Token) → ((us : List Token) → visibility (r ∷ us) ≡ None) → first (r ∷ ts) ≡ first ys → visibility (r ∷ ts) ≡ visibility ys
none-far r ts [] none e = absurd (cc)
none-far r ts (u ∷ us) none e = let e' : r ≡ u = cc in none ts ∙ sym (none us) ∙ ap (λ t. visibility (t ∷ us)) e'

word-far : (w : List ℕ) (s : Span) (ts ys : List Token) → Same 1 (record { kind = kind.Identifier w; span = s } ∷ ts) ys → visibility (record { kind = kind.Identifier w; span = s } ∷ ts) ≡ visibility ys
unfolding visibility
word-far w s ts [] h = absurd h
word-far w s ts (u ∷ us) h = ap (λ b. if b then visibility_of w else None) (sees-one shape.Def ts us h.1) ∙ ap (λ t. visibility (t ∷ us)) h.0

visibility-at : (c : TokenKind) (s : Span) (ts ys : List Token) → Same (grip (record { kind = c; span = s } ∷ ts)) (record { kind = c; span = s } ∷ ts) ys → visibility (record { kind = c; span = s } ∷ ts) ≡ visibility ys
unfolding visibility shape_of
visibility-at (kind.Identifier w) s ts ys h = word-far w s ts ys h
visibility-at c s ts ys h = none-far (record { kind = c; span = s }) ts ys (λ us. refl) (same-first (grip (record { kind = c; span = s } ∷ ts)) (record { kind = c; span = s } ∷ ts) ys h)

pub visibility-far : (xs ys : List Token) → Same (grip xs) xs ys → visibility xs ≡ visibility ys
visibility-far [] [] h = refl
visibility-far [] (y ∷ ys) h = absurd (cc)
visibility-far (t ∷ ts) ys h = visibility-at t.kind t.span ts ys h

some-grip : (c : TokenKind) (s : Span) (ts : List Token) (w : Visibility) → visibility (record { kind = c; span = s } ∷ ts) ≡ Some w → grip (record { kind = c; span = s } ∷ ts) ≡ 1
unfolding visibility shape_of
some-grip (kind.Identifier x) s ts w e = refl
some-grip c s ts w e = absurd (let n : None ≡ Some w = e in cc)

-- ---- the name

name-plain : (k : ℕ) (words : List ℕ) (span : Span) (xs : List Token) → Alike k (any 0) xs (plain_name words span xs) (plain_name words span)
unfolding plain_name
name-plain k words span xs = choose (sees shape.Assign) (sees-one shape.Assign) (λ e. weaker (bind (expecting shape.Assign xs) (λ equals r. done _))) (λ e. done _)

spelled : Token → List Token → PlacedName → Bool → Outcome PlacedName
spelled t ys n b = if b then Err (t ∷ ys) else Ok (n, ys)

operator-by : (k : ℕ) (t : Token) (ts : List Token) (n : PlacedName) (b : Bool) → ((ys : List Token) → method_name (t ∷ ys) ≡ spelled t ys n b) → Alike k (answer 0) (t ∷ ts) (spelled t ts n b) method_name
unfolding spelled
operator-by k t ts n true h = refused-at t ts method_name h
operator-by k t ts n false h = lower (answering (taken-in (like h (done n))))

name-at : (k : ℕ) (c : TokenKind) (s : Span) (ts : List Token) → Alike k (answer 0) (record { kind = c; span = s } ∷ ts) (method_name (record { kind = c; span = s } ∷ ts)) method_name
unfolding method_name spelled
name-at k (kind.Identifier w) s ts = lower (answering (taken-in (name-plain (k - 1) w s ts)))
name-at k (kind.Constant w) s ts = lower (answering (taken-in (done _)))
name-at k c s ts = operator-by k (record { kind = c; span = s }) ts (record { name = operator_text (shape_of c); span = s }) (length (operator_text (shape_of c)) == 0) (λ ys. refl)

name-alike : (k : ℕ) (xs : List Token) → Alike k (answer 0) xs (method_name xs) method_name
unfolding method_name
name-alike k [] = empty method_name refl
name-alike k (t ∷ ts) = name-at k t.kind t.span ts

own-alike : (k : ℕ) (xs : List Token) → Alike k (any 0) xs (own xs) own
unfolding own
own-alike k xs = choose (sees shape.SelfWord) (sees-one shape.SelfWord) (λ e. weaker (stepping xs (expect shape.Dot >>= (λ _. pure true)) (expect shape.Dot >>= (λ _. pure true)) shape.SelfWord e (weaker (bind (expecting shape.Dot (after xs)) (λ mark r. done true))))) (λ e. done false)

-- ---- the whole

module _ (turns more : ℕ) where
  head-alike : (k : ℕ) → Fits turns more k → (v : Option Visibility) (start : ℕ) (xs : List Token) → Alike k (answer 0) xs (method_head turns v start xs) (method_head more v start)
  unfolding method_head
  head-alike k fit v start xs = bind (expecting shape.Def xs) (λ word r. bind (own-alike (k - 1) r) (λ mine r. weaker (bind (name-alike (k - 1) r) (λ name r. bind (parameters-alike turns more (k - 1 - 1) (less-fits (less-fits fit)) r) (λ found r. done _)))))

  rest-alike : (k : ℕ) → Fits turns more k → (xs : List Token) → Alike (k - 1) (any 0) xs (guarded turns xs) (guarded more)
  unfolding guarded
  rest-alike k fit xs = (guarded-alike (parsed turns) (parsed more) turns more (nests turns more) true k fit xs).alike

  defined-alike : (k : ℕ) → Fits turns more k → (v : Option Visibility) (start : ℕ) (xs : List Token) → Alike k (answer 0) xs (defined turns v start xs) (defined more v start)
  unfolding defined
  defined-alike k fit v start xs = bind (head-alike k fit v start xs) (λ head r. bind (rest-alike k fit r) (λ found r. weaker (bind (expecting shape.End r) (λ closing r. done _))))

  -- with what its front says
  abbrev By : ℕ → Option Visibility → Parser Tree
  By d v = λ i. if is_some v then defined d v (start_of i) (after i) else defined d v (start_of i) i

  some-alike : (k : ℕ) → Fits turns more k → (w : Visibility) (t : Token) (ts : List Token) → Alike k (any 1) (t ∷ ts) (defined turns (Some w) (start_of (t ∷ ts)) ts) (λ i. defined more (Some w) (start_of i) (after i))
  some-alike k fit w t ts = looking start_of (λ n i. defined more (Some w) n (after i)) (one start_of (λ t ts. refl)) (taken-in (weaker (defined-alike (k - 1) (less-fits fit) (Some w) (start_of (t ∷ ts)) ts)))

  by-alike : (k : ℕ) → Fits turns more k → (xs : List Token) (v : Option Visibility) → visibility xs ≡ v → (is_some v ≡ false → grip xs ≡ 0) → Alike k (answer (grip xs)) xs (By turns v xs) (By more v)
  unfolding visibility
  by-alike k fit [] (Some w) e none = absurd (cc)
  by-alike k fit (t ∷ ts) (Some w) e none = subst (λ n. Alike k (answer n) (t ∷ ts) (defined turns (Some w) (start_of (t ∷ ts)) ts) (λ i. defined more (Some w) (start_of i) (after i))) (sym (some-grip t.kind t.span ts w e)) (answering (some-alike k fit w t ts))
  by-alike k fit xs None e none = subst (λ n. Alike k (answer n) xs (defined turns None (start_of xs) xs) (λ i. defined more None (start_of i) i)) (sym (none refl)) (looking start_of (defined more None) (one start_of (λ t ts. refl)) (defined-alike k fit None (start_of xs) xs))

  pub method-alike : (k : ℕ) → Fits turns more k → (xs : List Token) → (is_some (visibility xs) ≡ false → grip xs ≡ 0) → Alike k (answer (grip xs)) xs (method turns xs) (method more)
  unfolding method
  method-alike k fit xs none = looking-far visibility (By more) (visibility-far xs) (by-alike k fit xs (visibility xs) refl none)
