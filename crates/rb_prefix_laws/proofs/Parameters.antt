-- The parameters of a method are read alike.
use Rattle.std.proofs.Common.{◌≡◌, ℕ, ◌-◌, ◌≤◌, Bool, true, false, not, ◌||◌, if◌then◌else◌, List, [], ◌∷◌, ◌++◌, Option, Some, None, Ok, Err, refl, arith}
use Rattle.srb_terms.specs.declared.param_kind.ParamKind.TheVariants as param_kind
use Rattle.srb_terms.specs.declared.span.Span.{Span}
use Rattle.rb_tree.specs.declared.syntax.Tree.{Tree}
use Rattle.rb_tree.specs.declared.syntax.Parameter.{Parameter}
use Rattle.rb_tree.specs.declared.token.Token.{Token}
use Rattle.rb_tree.specs.declared.token.TokenKind.{TokenKind}
use Rattle.rb_tree.specs.declared.token.TokenKind.TheVariants as kind
use Rattle.rb_tree.specs.declared.token.Shape.TheVariants as shape
use Rattle.rb_expr.specs.Reading.{Outcome, Parser, ◌>>=◌, pure, sees, after, skip_separators, expect}
use Rattle.rb_expr.specs.Rules.{tern}
use Rattle.rb_expr.specs.Grammar.{parsed}
use Rattle.rb_decl.specs.Parameters.{parameter_of, stage_after, fresh, noted, is_first, is_last, plain, has_no_default, keyword, block, parameter, after_comma, is_over, row_from, row, bracketed, bare, parameters_of}
use Rattle.rb_decl.specs.declared.parameter.Stage.{Stage}
use Rattle.rb_decl.specs.declared.parameter.Stage.TheVariants as stages
use Rattle.rb_prefix_laws.proofs.Steps.{Alike, bind, weaker, lower, answering, empty, one, choose, sees-one, done, refusing, like, taken-in, refused-at, expecting, stepping, skipping, narrow, Fits, less-fits, loop-at}
use Rattle.rb_prefix_laws.proofs.Steps.Amount.{answer, any}
use Rattle.rb_prefix_laws.proofs.Operators.{tern-alike}
use Rattle.rb_prefix_laws.proofs.Forms.{nests}

once : (k : ℕ) → k - 1 ≤ k
once k = omega arith

either : {A : Type 0} {k : ℕ} {xs : List Token} (b : Bool) (a : A) → Alike k (any 0) xs (if b then Ok (a, xs) else Err xs) (λ ys. if b then Ok (a, ys) else Err ys)
either true a = done a
either false a = refusing

-- ---- names that are new

-- by whether a name is new, where the token that is next has it
by-name : {A : Type 0} {k : ℕ} (t : Token) (ts : List Token) (v : Option (List ℕ)) (f g : List ℕ → Parser A) (q : Parser A) → ((ys : List Token) → q (t ∷ ys) ≡ elim v as (λ o. Outcome A) [ Some name ↦ g name ys | None ↦ Err (t ∷ ys) ]) → ((name : List ℕ) → Alike (k - 1) (any 0) ts (f name ts) (g name)) →
    Alike k (answer 0) (t ∷ ts) (elim v as (λ o. Outcome A) [ Some name ↦ f name ts | None ↦ Err (t ∷ ts) ]) q
by-name t ts (Some name) f g q h more = lower (answering (taken-in (like h (more name))))
by-name t ts None f g q h more = refused-at t ts q h

block-at : (k : ℕ) (names : List (List ℕ)) (c : TokenKind) (s : Span) (ts : List Token) → Alike k (answer 0) (record { kind = c; span = s } ∷ ts) (block names (record { kind = c; span = s } ∷ ts)) (block names)
unfolding block
block-at k names (kind.Identifier w) s ts = by-name (record { kind = kind.Identifier w; span = s }) ts (fresh names w) (λ name ys. Ok (parameter_of param_kind.Block name s None, ys)) (λ name ys. Ok (parameter_of param_kind.Block name s None, ys)) (block names) (λ ys. refl) (λ name. done _)
block-at k names c s ts = refused-at (record { kind = c; span = s }) ts (block names) (λ ys. refl)

block-alike : (k : ℕ) (names : List (List ℕ)) (xs : List Token) → Alike k (answer 0) xs (block names xs) (block names)
unfolding block
block-alike k names [] = empty (block names) refl
block-alike k names (t ∷ ts) = block-at k names t.kind t.span ts

-- ---- commas

over : (stage : Stage) (xs : List Token) → is_over stage xs ≡ false → sees shape.Comma xs ≡ true
over stage xs e = go (is_last stage) (sees shape.Comma xs) e
  where
    go : (a b : Bool) → (a || not b) ≡ false → b ≡ true
    go true b e = absurd (cc)
    go false true e = refl
    go false false e = absurd (cc)

comma-after : {A : Type 0} (k : ℕ) (in_brackets : Bool) (p q : Parser A) (xs : List Token) → sees shape.Comma xs ≡ true → ((zs : List Token) → Alike (k - 1) (any 0) zs (p zs) q) → Alike k (any 1) xs (p (after_comma in_brackets xs)) (λ ys. q (after_comma in_brackets ys))
comma-after k true p q xs e h = stepping xs (λ ys. p (skip_separators ys)) (λ ys. q (skip_separators ys)) shape.Comma e (skipping (after xs) p q (h (skip_separators (after xs))))
comma-after k false p q xs e h = stepping xs p q shape.Comma e (h (after xs))

module _ (turns more : ℕ) where
  default-alike : (k : ℕ) → Fits turns more k → (xs : List Token) → Alike k (any 0) xs (tern turns xs) (tern more)
  unfolding tern
  default-alike k fit xs = weaker (tern-alike (parsed turns) (parsed more) turns more (nests turns more) true k fit xs).alike

  plain-alike : (k : ℕ) → Fits turns more k → (stage : Stage) (words : List ℕ) (span : Span) (xs : List Token) → Alike k (any 0) xs (plain turns stage words span xs) (plain more stage words span)
  unfolding plain
  plain-alike k fit stage words span xs = choose (sees shape.Assign) (sees-one shape.Assign)
      (λ e. weaker (stepping xs (tern turns >>= (λ default. pure (parameter_of param_kind.Optional words span (Some default)))) (tern more >>= (λ default. pure (parameter_of param_kind.Optional words span (Some default)))) shape.Assign e (bind (default-alike (k - 1) (less-fits fit) (after xs)) (λ default r. done _))))
      (λ e. either (is_first stage) (parameter_of param_kind.Required words span None))

  keyword-alike : (k : ℕ) → Fits turns more k → (words : List ℕ) (span : Span) (xs : List Token) → Alike k (any 0) xs (keyword turns words span xs) (keyword more words span)
  unfolding keyword
  keyword-alike k fit words span xs = choose has_no_default (one has_no_default (λ t ts. refl)) (λ e. done _) (λ e. bind (default-alike k fit xs) (λ default r. done _))

  parameter-at : (k : ℕ) → Fits turns more k → (stage : Stage) (names : List (List ℕ)) (c : TokenKind) (s : Span) (ts : List Token) → Alike k (answer 0) (record { kind = c; span = s } ∷ ts) (parameter turns stage names (record { kind = c; span = s } ∷ ts)) (parameter more stage names)
  unfolding parameter
  parameter-at k fit stages.Required names (kind.Identifier w) s ts = by-name (record { kind = kind.Identifier w; span = s }) ts (fresh names w) (λ name. plain turns stages.Required name s) (λ name. plain more stages.Required name s) (parameter more stages.Required names) (λ ys. refl) (λ name. plain-alike (k - 1) (less-fits fit) stages.Required name s ts)
  parameter-at k fit stages.Optional names (kind.Identifier w) s ts = by-name (record { kind = kind.Identifier w; span = s }) ts (fresh names w) (λ name. plain turns stages.Optional name s) (λ name. plain more stages.Optional name s) (parameter more stages.Optional names) (λ ys. refl) (λ name. plain-alike (k - 1) (less-fits fit) stages.Optional name s ts)
  parameter-at k fit stage names (kind.Label w) s ts = by-name (record { kind = kind.Label w; span = s }) ts (fresh names w) (λ name. keyword turns name s) (λ name. keyword more name s) (parameter more stage names) (λ ys. refl) (λ name. keyword-alike (k - 1) (less-fits fit) name s ts)
  parameter-at k fit stage names kind.Ampersand s ts = lower (answering (taken-in (weaker (block-alike (k - 1) names ts))))
  parameter-at k fit stage names c s ts = refused-at (record { kind = c; span = s }) ts (parameter more stage names) (λ ys. refl)

  parameter-alike : (k : ℕ) → Fits turns more k → (stage : Stage) (names : List (List ℕ)) (xs : List Token) → Alike k (answer 0) xs (parameter turns stage names xs) (parameter more stage names)
  unfolding parameter
  parameter-alike k fit stage names [] = empty (parameter more stage names) refl
  parameter-alike k fit stage names (t ∷ ts) = parameter-at k fit stage names t.kind t.span ts

  row-alike : (k : ℕ) → Fits turns more k → (in_brackets : Bool) (xs : List Token) → Alike k (any 0) xs (row turns in_brackets xs) (row more in_brackets)
  unfolding row row_from
  row-alike k fit in_brackets xs = loop-at {S = Stage × List (List ℕ) × List (Parameter Tree)} turns more (λ n s. row_from turns in_brackets n s.0 s.1 s.2) (λ n s. row_from more in_brackets n s.0 s.1 s.2)
      (λ k n m fit again s xs. weaker (bind (parameter-alike k fit s.0 s.1 xs) (λ x r. choose (is_over (stage_after x.kind)) (one (is_over (stage_after x.kind)) (λ t ts. refl))
      (λ e. done _)
      (λ e. weaker (comma-after (k - 1) in_brackets (row_from turns in_brackets n (stage_after x.kind) (noted s.1 x.name) (s.2 ++ x ∷ [])) (row_from more in_brackets m (stage_after x.kind) (noted s.1 x.name) (s.2 ++ x ∷ [])) r (over (stage_after x.kind) r e)
      (λ zs. narrow (once (k - 1)) (again (stage_after x.kind, noted s.1 x.name, s.2 ++ x ∷ []) zs)))))))
      k fit (stages.Required, [], []) xs

  bracketed-alike : (k : ℕ) → Fits turns more k → (xs : List Token) → Alike k (any 0) xs (bracketed turns xs) (bracketed more)
  unfolding bracketed
  bracketed-alike k fit xs = choose (sees shape.CloseParen) (sees-one shape.CloseParen)
      (λ e. weaker (stepping xs (λ ys. Ok ([], ys)) (λ ys. Ok ([], ys)) shape.CloseParen e (done [])))
      (λ e. bind (row-alike k fit true xs) (λ found r. skipping r (expect shape.CloseParen >>= (λ _. pure found)) (expect shape.CloseParen >>= (λ _. pure found)) (weaker (bind (expecting shape.CloseParen (skip_separators r)) (λ closing r. done _)))))

  bare-alike : (k : ℕ) → Fits turns more k → (xs : List Token) → Alike k (any 0) xs (bare turns xs) (bare more)
  unfolding bare
  bare-alike k fit xs = choose (sees shape.Separator) (sees-one shape.Separator) (λ e. done _) (λ e. bind (row-alike k fit false xs) (λ found r. choose (sees shape.Separator) (sees-one shape.Separator) (λ e. done _) (λ e. refusing)))

  pub parameters-alike : (k : ℕ) → Fits turns more k → (xs : List Token) → Alike k (any 0) xs (parameters_of turns xs) (parameters_of more)
  unfolding parameters_of
  parameters-alike k fit xs = choose (sees shape.OpenParen) (sees-one shape.OpenParen)
      (λ e. weaker (stepping xs (λ ys. bracketed turns (skip_separators ys)) (λ ys. bracketed more (skip_separators ys)) shape.OpenParen e (skipping (after xs) (bracketed turns) (bracketed more) (bracketed-alike (k - 1) (less-fits fit) (skip_separators (after xs))))))
      (λ e. bare-alike k fit xs)
