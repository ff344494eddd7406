-- Constants and paths of them are read alike.
use Rattle.std.proofs.Common.{◌≡◌, ℕ, ◌-◌, ◌≤◌, Bool, true, List, [], ◌∷◌, ◌++◌, Option, Some, None, refl, arith}
use Rattle.srb_terms.specs.declared.span.Span.{Span}
use Rattle.rb_tree.specs.declared.syntax.PlacedName.{PlacedName}
use Rattle.rb_tree.specs.declared.token.Token.{Token}
use Rattle.rb_tree.specs.declared.token.TokenKind.{TokenKind}
use Rattle.rb_tree.specs.declared.token.TokenKind.TheVariants as kind
use Rattle.rb_tree.specs.declared.token.Shape.TheVariants as shape
use Rattle.rb_expr.specs.Reading.{◌>>=◌, pure, sees, after}
use Rattle.rb_decl.specs.Names.{constant, goes_on, path_from, path, reference, superclass}
use Rattle.rb_grammar.proofs.Lists.{and-right}
use Rattle.rb_prefix_laws.proofs.Steps.{Alike, bind, weaker, one, choose, sees-one, done, by_token, told, token, likewise, expecting, stepping, narrow, Fits, less-fits, loop-at}
use Rattle.rb_prefix_laws.proofs.Steps.Amount.{answer, any}

constant_in : Token → TokenKind → Option PlacedName
constant_in t (kind.Constant words) = Some (record { name = words; span = t.span })
constant_in t _ = None

same-constant-at : (k : TokenKind) (s : Span) (ts : List Token) → constant (record { kind = k; span = s } ∷ ts) ≡ told (record { kind = k; span = s }) ts (constant_in (record { kind = k; span = s }) k)
unfolding constant constant_in
same-constant-at (kind.Constant words) s ts = refl
same-constant-at k s ts = refl

same-constant : (ys : List Token) → constant ys ≡ by_token (λ t. constant_in t t.kind) ys
unfolding constant
same-constant [] = refl
same-constant (t ∷ ts) = same-constant-at t.kind t.span ts

pub constant-alike : (k : ℕ) (xs : List Token) → Alike k (answer 0) xs (constant xs) constant
constant-alike k xs = likewise xs (by_token (λ t. constant_in t t.kind)) constant same-constant (token xs (λ t. constant_in t t.kind))

once : (k : ℕ) → k - 1 ≤ k
once k = omega arith

module _ (turns more : ℕ) where
  pub path-alike : (k : ℕ) → Fits turns more k → (long : Bool) (xs : List Token) → Alike k (any 0) xs (path turns long xs) (path more long)
  unfolding path path_from
  path-alike k fit long xs = loop-at {S = List PlacedName} turns more (λ n s. path_from long n s) (λ n s. path_from long n s)
      (λ k n m fit again s xs. weaker (bind (constant-alike k xs) (λ x r. choose (goes_on long) (one (goes_on long) (λ t ts. refl))
      (λ e. weaker (stepping r (path_from long n (s ++ x ∷ [])) (path_from long m (s ++ x ∷ [])) shape.Scope (and-right _ _ e) (narrow (once (k - 1)) (again (s ++ x ∷ []) (after r)))))
      (λ e. done _))))
      k fit [] xs

  pub reference-alike : (k : ℕ) → Fits turns more k → (xs : List Token) → Alike k (any 0) xs (reference turns xs) (reference more)
  unfolding reference
  reference-alike k fit xs = choose (sees shape.Scope) (sees-one shape.Scope)
      (λ e. weaker (bind (expecting shape.Scope xs) (λ scope r. bind (path-alike (k - 1) (less-fits fit) true r) (λ names r. done _))))
      (λ e. bind (path-alike k fit true xs) (λ names r. done _))

  pub superclass-alike : (k : ℕ) → Fits turns more k → (xs : List Token) → Alike k (any 0) xs (superclass turns xs) (superclass more)
  unfolding superclass
  superclass-alike k fit xs = choose (sees shape.Less) (sees-one shape.Less)
      (λ e. weaker (stepping xs (reference turns >>= (λ r. pure (Some r))) (reference more >>= (λ r. pure (Some r))) shape.Less e (bind (reference-alike (k - 1) (less-fits fit) (after xs)) (λ above r. done _))))
      (λ e. done _)
