-- The arguments and blocks of calls are read alike.
use Rattle.std.proofs.Common.{◌≡◌, ℕ, zero, suc, ◌-◌, ◌≤◌, Bool, true, false, not, ◌&&◌, if◌then◌else◌, List, [], ◌∷◌, ◌++◌, Option, Some, None, Ok, Err, refl, sym, ap, subst, ◌∙◌, arith}
use Rattle.rb_tree.specs.declared.syntax.Argument.{Argument}
use Rattle.rb_tree.specs.declared.syntax.Argument.TheVariants as argument
use Rattle.rb_tree.specs.declared.syntax.PlacedName.{PlacedName}
use Rattle.rb_tree.specs.declared.syntax.Tree.{Tree}
use Rattle.rb_tree.specs.declared.token.Token.{Token}
use Rattle.rb_tree.specs.Tokens.{shape_of}
use Rattle.rb_tree.specs.declared.token.Shape.{Shape}
use Rattle.rb_tree.specs.declared.token.Shape.TheVariants as shape
use Rattle.rb_expr.specs.declared.form.Form.{Form}
use Rattle.rb_expr.specs.declared.form.Form.TheVariants as form
use Rattle.rb_expr.specs.declared.lists.Order.{Order}
use Rattle.rb_grammar.proofs.Lists.{and-right}
use Rattle.rb_expr.specs.Reading.{Parser, and_then, pure, refuse, peek, sees, after, skip_separators}
use Rattle.rb_expr.specs.Lists.{order_of, is_keyword, is_block, passes_block, goes_on, noted}
use Rattle.rb_expr.specs.Shapes.{begins_bare, begins_value, has_value}
use Rattle.rb_expr.specs.Statements.{begin_arguments}
use Rattle.rb_rules.specs.Tokens.{Is}
use Rattle.rb_expr.specs.Calls.{keyword, passed_block, positional, argument_by, one_argument, listed_from, listed, in_brackets, brackets, index_arguments, optional_brackets, bare_from, bare, bar_names_from, bar_names, bars, block, optional_do, any_block, optional_block, command_block}
use Rattle.rb_prefix_laws.proofs.Steps.{Looks, one, sees-one, peek-one, Fits, less-fits}
use Rattle.rb_prefix_laws.proofs.Cuts.{Cut, bind, weaker, looking, done, refusing, expecting, naming, stepping, skipping, fixed, loop-in, loop-at, narrow, choose-some, expect-next, name-next, looking-in, join, loops-in, nothing, one-of}
use Rattle.rb_prefix_laws.proofs.Steps.{Amount}
use Rattle.rb_prefix_laws.proofs.Steps.Amount.{any}
use Rattle.rb_prefix_laws.proofs.Nested.{grip, value-grip, Nests}
use Rattle.rb_prefix_laws.proofs.Lists.{never, after-argument-alike, fresh-alike}

goes-one : (given : Order) → Looks (goes_on given)
unfolding goes_on
goes-one given = one (goes_on given) (λ t ts. refl)

stops : (given : Order) → goes_on given [] ≡ false
unfolding goes_on
stops given = never (not (is_block given))

-- what begins the arguments of a command, but for a label, is taken
bare-value : (s : Shape) → begins_bare s ≡ true → begins_value s ≡ true
bare-value shape.Minus e = refl
bare-value shape.Plus e = refl
bare-value shape.Scope e = refl
bare-value shape.OpenParen e = refl
bare-value shape.OpenBracket e = refl
bare-value shape.OpenBrace e = refl
bare-value s e = e

grip-bare : (s : Shape) (t : Token) (ts : List Token) → Is s t → begins_bare s ≡ true → (n : ℕ) × (grip (t ∷ ts) ≡ suc n)
unfolding has_value
grip-bare s t ts is e = value-grip (t ∷ ts) (ap begins_value is ∙ bare-value s e)

comma : (given : Order) (xs : List Token) → goes_on given xs ≡ true → sees shape.Comma xs ≡ true
unfolding goes_on
comma given xs e = and-right _ _ e

once : (k : ℕ) → k - 1 ≤ k
once k = omega arith

module _ (nested other : Form → Bool → Parser Tree) (turns more : ℕ) (ih : Nests nested other turns more) (free : Bool) where
  keyword-alike : (k : ℕ) → Fits turns more k → (takes : Bool) (xs : List Token) → Cut k (any 0) xs (keyword nested turns free takes xs) (keyword other more free takes)
  unfolding keyword
  keyword-alike k fit takes xs = weaker (bind (naming shape.Label xs) (λ label r. bind ((ih k fit).reads form.Tern takes r) (λ value r. done _)))

  passed-alike : (k : ℕ) → Fits turns more k → (takes : Bool) (xs : List Token) → Cut k (any 0) xs (passed_block nested turns free takes xs) (passed_block other more free takes)
  unfolding passed_block
  passed-alike k fit takes xs = weaker (bind (expecting shape.Ampersand xs) (λ mark r. bind ((ih k fit).reads form.Tern takes r) (λ value r. done _)))

  -- by place, where something was taken before
  positional-alike : (k : ℕ) → Fits turns more k → (takes : Bool) (xs : List Token) → Cut (k - 1) (any 0) xs (positional nested turns free takes xs) (positional other more free takes)
  unfolding positional
  positional-alike k fit takes xs = bind ((ih k fit).reads form.Tern takes xs) (λ value r. done _)

  argument-by-alike : (k : ℕ) → Fits turns more k → (keywords takes : Bool) (v : Option Shape) (xs : List Token) → Cut (k - 1) (any 0) xs (argument_by nested turns free keywords takes v xs) (argument_by other more free keywords takes v)
  argument-by-alike k fit keywords takes (Some shape.Label) xs = keyword-alike (k - 1) (less-fits fit) takes xs
  argument-by-alike k fit keywords takes (Some shape.Ampersand) xs = passed-alike (k - 1) (less-fits fit) takes xs
  argument-by-alike k fit keywords takes v xs = fixed keywords refuse (positional nested turns free takes) refuse (positional other more free takes) refusing (positional-alike k fit takes xs)

  argument-alike : (k : ℕ) → Fits turns more k → (keywords takes : Bool) (xs : List Token) → Cut (k - 1) (any 0) xs (one_argument nested turns free keywords takes xs) (one_argument other more free keywords takes)
  unfolding one_argument positional
  argument-alike k fit keywords takes xs = looking peek (argument_by other more free keywords takes) peek-one (no-argument keywords) (argument-by-alike k fit keywords takes (peek xs) xs)
    where
      no-argument : (b : Bool) → (if b then refuse else positional other more free takes) [] ≡ Err []
      no-argument true = refl
      no-argument false = ap (λ o. and_then o (λ value rest. Ok (argument.Positional value, rest))) ((ih k fit).no_term takes)

  -- what begins the arguments of a command is taken
  argument-taken-by : (k : ℕ) → Fits turns more k → (s : Shape) (t : Token) (ts : List Token) → Is s t → begin_arguments (Some s) ≡ true → Cut (k - 1) (any 1) (t ∷ ts) (argument_by nested turns free false false (Some s) (t ∷ ts)) (argument_by other more free false false (Some s))
  unfolding keyword passed_block positional has_value
  argument-taken-by k fit shape.Label t ts is e = join (name-next shape.Label t ts is) (λ label r. bind ((ih k fit).reads form.Tern false r) (λ value r. done _))
  argument-taken-by k fit shape.Ampersand t ts is e = absurd (let f : false ≡ true = e in cc)
  argument-taken-by k fit s t ts is e = bind (one-of (subst (λ n. Cut (k - 1) (any n) (t ∷ ts) (nested form.Tern false (t ∷ ts)) (other form.Tern false)) (grip-bare s t ts is e).1 ((ih k fit).term false (t ∷ ts)))) (λ value r. done _)

  argument-taken : (k : ℕ) → Fits turns more k → (xs : List Token) → begin_arguments (peek xs) ≡ true → Cut (k - 1) (any 1) xs (one_argument nested turns free false false xs) (one_argument other more free false false)
  unfolding one_argument
  argument-taken k fit [] e = absurd (cc)
  argument-taken k fit (t ∷ ts) e = looking-in peek (argument_by other more free false false) peek-one (argument-taken-by k fit (shape_of t.kind) t ts refl e)

  -- inside brackets
  listed-alike : (k : ℕ) → Fits turns more k → (closer : Shape) (xs : List Token) → Cut (k - 1) (any 0) xs (listed nested turns free closer xs) (listed other more free closer)
  unfolding listed listed_from
  listed-alike k fit closer xs = loop-in {S = Bool × List (Argument Tree)} turns more (λ n s. listed_from nested turns free closer n s.0 s.1) (λ n s. listed_from other more free closer n s.0 s.1)
      (λ k n m fit again s xs. bind (argument-alike k fit s.0 true xs) (λ next r. weaker (bind (after-argument-alike (k - 1) closer (order_of next) r) (elim [ Some place ↦ λ r. done _ | None ↦ λ r. again (is_keyword (order_of next), s.1 ++ next ∷ []) r ]))))
      k fit (false, []) xs

  in-brackets-alike : (k : ℕ) → Fits turns more k → (xs : List Token) → Cut (k - 1) (any 0) xs (in_brackets nested turns free xs) (in_brackets other more free)
  unfolding in_brackets
  in-brackets-alike k fit xs = choose-some (sees shape.CloseParen) (sees-one shape.CloseParen) refl (λ e. bind (expect-next shape.CloseParen xs e) (λ closing r. done _)) (λ e. listed-alike k fit shape.CloseParen xs)

  brackets-next : (k : ℕ) → Fits turns more k → (xs : List Token) → sees shape.OpenParen xs ≡ true → Cut k (any 1) xs (brackets nested turns free xs) (brackets other more free)
  unfolding brackets
  brackets-next k fit xs e = bind (expect-next shape.OpenParen xs e) (λ opening r. skipping r (in_brackets nested turns free) (in_brackets other more free) (in-brackets-alike k fit (skip_separators r)))

  pub index-alike : (k : ℕ) → Fits turns more k → (xs : List Token) → Cut (k - 1) (any 0) xs (index_arguments nested turns free xs) (index_arguments other more free)
  unfolding index_arguments
  index-alike k fit xs = skipping xs (listed nested turns free shape.CloseBracket) (listed other more free shape.CloseBracket) (listed-alike k fit shape.CloseBracket (skip_separators xs))

  pub optional-alike : (k : ℕ) → Fits turns more k → (end : ℕ) (xs : List Token) → Cut k (any 0) xs (optional_brackets nested turns free end xs) (optional_brackets other more free end)
  unfolding optional_brackets
  optional-alike k fit end xs = choose-some (sees shape.OpenParen) (sees-one shape.OpenParen) refl (λ e. bind (brackets-next k fit xs e) (λ found r. done _)) (λ e. done _)

  -- after the callee
  abbrev Bare : ℕ → ℕ → ℕ → Type 0
  Bare k n m = (s : Bool × List (Argument Tree)) (xs : List Token) → Cut k (any 0) xs (bare_from nested turns free n s.0 s.1 xs) (bare_from other more free m s.0 s.1)

  bare-turn : (k n m : ℕ) (K : Amount) → Bare (k - 1 - 1) n m → (s : Bool × List (Argument Tree)) (xs : List Token) → Cut (k - 1) K xs (one_argument nested turns free s.0 false xs) (one_argument other more free s.0 false) →
      Cut (k - 1) K xs (bare_from nested turns free (suc n) s.0 s.1 xs) (bare_from other more free (suc m) s.0 s.1)
  unfolding bare_from
  bare-turn k n m K again s xs h = join h (λ next r. choose-some (goes_on (order_of next)) (goes-one (order_of next)) (stops (order_of next))
      (λ e. stepping r (bare_from nested turns free n (is_keyword (order_of next)) (s.1 ++ next ∷ [])) (bare_from other more free m (is_keyword (order_of next)) (s.1 ++ next ∷ [])) shape.Comma (comma (order_of next) r e) (again (is_keyword (order_of next), s.1 ++ next ∷ []) (after r)))
      (λ e. done _))

  bare-loop : (k n m : ℕ) → Fits turns more k → k - 1 ≤ n → k - 1 ≤ m → Bare (k - 1) n m
  bare-loop k n m fit a b s xs = loops-in {S = Bool × List (Argument Tree)} turns more (λ n s. bare_from nested turns free n s.0 s.1) (λ n s. bare_from other more free n s.0 s.1)
      (λ k n m fit again s xs. bare-turn k n m (any 0) again s xs (argument-alike k fit s.0 false xs)) k n m fit a b s xs

  -- after the callee
  pub bare-next : (k : ℕ) → Fits turns more k → (xs : List Token) → begin_arguments (peek xs) ≡ true → Cut (k - 1) (any 1) xs (bare nested turns free xs) (bare other more free)
  unfolding bare
  bare-next k fit xs e = go turns more k fit fit.one fit.two
    where
      less : (k n : ℕ) → k ≤ suc n → k - 1 - 1 ≤ n
      less k n h = omega arith

      go : (n m k : ℕ) → Fits turns more k → k ≤ n → k ≤ m → Cut (k - 1) (any 1) xs (bare_from nested turns free n false [] xs) (bare_from other more free m false [])
      go zero m k fit a b = let z : k - 1 ≡ zero = omega arith in subst (λ j. Cut j (any 1) xs (bare_from nested turns free zero false [] xs) (bare_from other more free m false [])) (sym z) nothing
      go (suc n) zero k fit a b = let z : k - 1 ≡ zero = omega arith in subst (λ j. Cut j (any 1) xs (bare_from nested turns free (suc n) false [] xs) (bare_from other more free zero false [])) (sym z) nothing
      go (suc n) (suc m) k fit a b = bare-turn k n m (any 1) (bare-loop (k - 1) n m (less-fits fit) (less k n a) (less k m b)) (false, []) xs (argument-taken k fit xs e)

  -- ---- blocks

  bar-names-alike : (k : ℕ) → Fits turns more k → (xs : List Token) → Cut k (any 0) xs (bar_names nested turns free xs) (bar_names other more free)
  unfolding bar_names bar_names_from
  bar-names-alike k fit xs = loop-at {S = List (List ℕ) × List PlacedName} turns more (λ n s. bar_names_from nested turns free n s.0 s.1) (λ n s. bar_names_from other more free n s.0 s.1)
      (λ k n m fit again s xs. weaker (bind (fresh-alike k s.0 xs) (λ next r. choose-some (sees shape.Comma) (sees-one shape.Comma) refl
      (λ e. stepping r (bar_names_from nested turns free n (noted s.0 next.name) (s.1 ++ next ∷ [])) (bar_names_from other more free m (noted s.0 next.name) (s.1 ++ next ∷ [])) shape.Comma e (narrow (once (k - 1)) (again (noted s.0 next.name, s.1 ++ next ∷ []) (after r))))
      (λ e. weaker (bind (expecting shape.Pipe r) (λ closing r. done _))))))
      k fit ([], []) xs

  bars-alike : (k : ℕ) → Fits turns more k → (xs : List Token) → Cut k (any 0) xs (bars nested turns free xs) (bars other more free)
  unfolding bars
  bars-alike k fit xs = choose-some (sees shape.Pipe) (sees-one shape.Pipe) refl (λ e. stepping xs (bar_names nested turns free) (bar_names other more free) shape.Pipe e (bar-names-alike (k - 1) (less-fits fit) (after xs))) (λ e. done _)

  block-next : (k : ℕ) → Fits turns more k → (opener closer : Shape) (xs : List Token) → sees opener xs ≡ true → Cut k (any 1) xs (block nested turns free opener closer xs) (block other more free opener closer)
  unfolding block
  block-next k fit opener closer xs e = bind (expect-next opener xs e) (λ opening r. bind (bars-alike (k - 1) (less-fits fit) r) (λ parameters r. bind ((ih k fit).reads form.Body true r) (λ body r. weaker (bind (expecting closer r) (λ closing r. done _)))))

  do-alike : (k : ℕ) → Fits turns more k → (xs : List Token) → Cut k (any 0) xs (optional_do nested turns free xs) (optional_do other more free)
  unfolding optional_do
  do-alike k fit xs = choose-some (λ ys. free && sees shape.Do ys) (one (λ ys. free && sees shape.Do ys) (λ t ts. refl)) (never free) (λ e. bind (block-next k fit shape.Do shape.End xs (and-right _ _ e)) (λ b r. done _)) (λ e. done _)

  any-block-alike : (k : ℕ) → Fits turns more k → (xs : List Token) → Cut k (any 0) xs (any_block nested turns free xs) (any_block other more free)
  unfolding any_block
  any-block-alike k fit xs = choose-some (sees shape.OpenBrace) (sees-one shape.OpenBrace) refl (λ e. bind (block-next k fit shape.OpenBrace shape.CloseBrace xs e) (λ b r. done _)) (λ e. do-alike k fit xs)

  pub optional-block-alike : (k : ℕ) → Fits turns more k → (given : Option (List (Argument Tree))) (xs : List Token) → Cut k (any 0) xs (optional_block nested turns free given xs) (optional_block other more free given)
  unfolding optional_block
  optional-block-alike k fit None xs = any-block-alike k fit xs
  optional-block-alike k fit (Some given) xs = fixed (passes_block given) (pure None) (any_block nested turns free) (pure None) (any_block other more free) (done None) (any-block-alike k fit xs)

  pub command-block-alike : (k : ℕ) → Fits turns more k → (given : List (Argument Tree)) (xs : List Token) → Cut k (any 0) xs (command_block nested turns free given xs) (command_block other more free given)
  unfolding command_block
  command-block-alike k fit given xs = fixed (passes_block given) (pure None) (optional_do nested turns free) (pure None) (optional_do other more free) (done None) (do-alike k fit xs)
