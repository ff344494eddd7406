-- Operands are read alike, and a name, a number or a sign that is next is taken.
use Rattle.std.proofs.Common.{◌≡◌, ℕ, ◌-◌, ◌≤◌, Bool, true, false, ◌||◌, if◌then◌else◌, List, [], ◌∷◌, ◌++◌, Option, Some, None, refl, ap, arith}
use Rattle.srb_terms.specs.declared.span.Span.{Span}
use Rattle.rb_tree.specs.Tokens.{shape_of, same_shape}
use Rattle.rb_tree.specs.declared.syntax.Pair.{Pair}
use Rattle.rb_tree.specs.declared.syntax.Piece.{Piece}
use Rattle.rb_tree.specs.declared.syntax.Piece.TheVariants as piece
use Rattle.rb_tree.specs.declared.syntax.Sign.{Sign}
use Rattle.rb_tree.specs.declared.syntax.Sign.TheVariants as sign
use Rattle.rb_tree.specs.declared.syntax.Test.TheVariants as test
use Rattle.rb_tree.specs.declared.syntax.Tree.{Tree}
use Rattle.rb_tree.specs.declared.token.Token.{Token}
use Rattle.rb_tree.specs.declared.token.Shape.{Shape}
use Rattle.rb_tree.specs.declared.token.Shape.TheVariants as shape
use Rattle.rb_expr.specs.declared.form.Form.{Form}
use Rattle.rb_expr.specs.declared.form.Form.TheVariants as form
use Rattle.rb_expr.specs.Reading.{Parser, ◌<$>◌, peek, sees, start_of, skip_separators, take_token}
use Rattle.rb_expr.specs.Shapes.{sees_number, is_signed}
use Rattle.rb_expr.specs.Operands.{number_by, number, touching, signed, unraised, negative, symbol, instance_variable, constant, top_constant, word_by, word, interpolation, pieces_from, pieces, text, called, yielding, super_call, elements_from, elements, array_from, array, label_pair, arrow_pair, a_pair, pairs_from, pairs, hash_from, hash, parens, primary_by, primary}
use Rattle.rb_rules.specs.Tokens.{Is}
use Rattle.rb_grammar.proofs.Lists.{and-right}
use Rattle.rb_prefix_laws.proofs.Steps.{Looks, one, sees-one, peek-one, Fits, less-fits}
use Rattle.rb_prefix_laws.proofs.Cuts.{Cut, bind, join, weaker, answering, choose, looking, done, refusing, refusing-here, expecting, naming, wording, name-next, word-next, taken-in, skipping, loop-in, loop-at, narrow, choose-some, choose-rare, looking-in, take-next, expect-next, name-seen}
use Rattle.rb_prefix_laws.proofs.Steps.Amount.{answer, any}
use Rattle.rb_prefix_laws.proofs.Nested.{hold_by, hold, Nests}
use Rattle.rb_prefix_laws.proofs.Lists.{element-alike}
use Rattle.rb_prefix_laws.proofs.Calls.{optional-alike, optional-block-alike}
use Rattle.rb_prefix_laws.proofs.Branches.{branch-next, repeated-next, choice-next, guards-next}

-- ---- literals and names

number-by-alike : (k : ℕ) (mark : Option Sign) (start : ℕ) (v : Option Shape) (xs : List Token) → Cut k (answer 0) xs (number_by mark start v xs) (number_by mark start v)
number-by-alike k mark start (Some shape.Whole) xs = bind (wording shape.Whole xs) (λ digits r. done _)
number-by-alike k mark start (Some shape.Float) xs = bind (wording shape.Float xs) (λ digits r. done _)
number-by-alike k mark start v xs = refusing-here

number-alike : (k : ℕ) (mark : Option Sign) (start : ℕ) (xs : List Token) → Cut k (answer 0) xs (number mark start xs) (number mark start)
unfolding number
number-alike k mark start xs = looking peek (number_by mark start) peek-one refl (number-by-alike k mark start (peek xs) xs)

-- a number that is next is taken
number-next-by : (k : ℕ) (mark : Option Sign) (start : ℕ) (t : Token) (ts : List Token) (s : Shape) → Is s t → (same_shape s shape.Whole || same_shape s shape.Float) ≡ true → Cut k (any 1) (t ∷ ts) (number_by mark start (Some s) (t ∷ ts)) (number_by mark start (Some s))
unfolding same_shape
number-next-by k mark start t ts shape.Whole is e = bind (word-next shape.Whole t ts is) (λ digits r. done _)
number-next-by k mark start t ts shape.Float is e = bind (word-next shape.Float t ts is) (λ digits r. done _)
number-next-by k mark start t ts s is e = absurd (cc)

number-next : (k : ℕ) (mark : Option Sign) (start : ℕ) (xs : List Token) → sees_number xs ≡ true → Cut k (any 1) xs (number mark start xs) (number mark start)
unfolding number sees_number
number-next k mark start [] e = absurd (cc)
number-next k mark start (t ∷ ts) e = looking-in peek (number_by mark start) peek-one (number-next-by k mark start t ts (shape_of t.kind) refl e)

unraised-alike : (k : ℕ) (value : Tree) (xs : List Token) → Cut k (any 0) xs (unraised value xs) (unraised value)
unfolding unraised
unraised-alike k value xs = choose-rare shape.Power refl (λ e. refusing) (λ e. done _)

pub signed-one : (place : Span) → Looks (is_signed place)
unfolding is_signed sees_number
signed-one place = one (is_signed place) (λ t ts. refl)

touching-alike : (k : ℕ) (mark : Sign) (place : Span) (xs : List Token) → Cut k (any 0) xs (touching mark place xs) (touching mark place)
unfolding touching is_signed
touching-alike k mark place xs = choose (is_signed place) (signed-one place) refl (λ e. weaker (number-alike k (Some mark) place.start xs)) (λ e. refusing)

number-there : (place : Span) (xs : List Token) → is_signed place xs ≡ true → sees_number xs ≡ true
unfolding is_signed
number-there place xs e = and-right _ _ e

touching-next : (k : ℕ) (mark : Sign) (place : Span) (xs : List Token) → is_signed place xs ≡ true → Cut k (any 1) xs (touching mark place xs) (touching mark place)
unfolding touching is_signed
touching-next k mark place xs h = choose (is_signed place) (signed-one place) refl (λ e. number-next k (Some mark) place.start xs (number-there place xs e)) (λ e. absurd (cc))

signed-alike : (k : ℕ) (mark : Sign) (t : Token) (ts : List Token) → Cut k (answer (if is_signed t.span ts then 2 else 1)) (t ∷ ts) (signed mark (t ∷ ts)) (signed mark)
unfolding signed
signed-alike k mark t ts = go (is_signed t.span ts) refl
  where
    go : (b : Bool) → is_signed t.span ts ≡ b → Cut k (answer (if b then 2 else 1)) (t ∷ ts) (signed mark (t ∷ ts)) (signed mark)
    go true e = answering (taken-in (touching-next (k - 1) mark t.span ts e))
    go false e = answering (taken-in (touching-alike (k - 1) mark t.span ts))

negative-alike : (k : ℕ) (t : Token) (ts : List Token) → Cut k (answer (if is_signed t.span ts then 2 else 1)) (t ∷ ts) (negative (t ∷ ts)) negative
unfolding negative
negative-alike k t ts = bind (signed-alike k sign.Minus t ts) (λ value r. unraised-alike _ value r)

word-taken : (k : ℕ) (t : Token) (ts : List Token) → Cut k (any 1) (t ∷ ts) (word (t ∷ ts)) word
unfolding word
word-taken k t ts = looking-in peek (λ v. word_by v <$> take_token) peek-one (bind (take-next t ts) (λ place r. done _))

top-taken : (k : ℕ) (t : Token) (ts : List Token) → Cut k (any 1) (t ∷ ts) (top_constant (t ∷ ts)) top_constant
unfolding top_constant
top-taken k t ts = bind (take-next t ts) (λ mark r. weaker (bind (naming shape.Constant r) (λ name r. done _)))

once : (k : ℕ) → k - 1 ≤ k
once k = omega arith

module _ (nested other : Form → Bool → Parser Tree) (turns more : ℕ) (ih : Nests nested other turns more) (free : Bool) where
  code-next : (k : ℕ) → Fits turns more k → (xs : List Token) → sees shape.Interpolation xs ≡ true → Cut k (any 1) xs (interpolation nested turns free xs) (interpolation other more free)
  unfolding interpolation
  code-next k fit xs e = bind (expect-next shape.Interpolation xs e) (λ opening r. bind ((ih k fit).reads form.Body true r) (λ body r. weaker (bind (expecting shape.CloseBrace r) (λ closing r. done _))))

  pieces-alike : (k : ℕ) → Fits turns more k → (first : Piece Tree) (span : Span) (xs : List Token) → Cut k (any 0) xs (pieces nested turns free first span xs) (pieces other more free first span)
  unfolding pieces pieces_from
  pieces-alike k fit first span xs = loop-at {S = ℕ × List (Piece Tree)} turns more (λ n s. pieces_from nested turns free span.start s.0 n s.1) (λ n s. pieces_from other more free span.start s.0 n s.1)
      (λ k n m fit again s xs. choose-some (sees shape.Interpolation) (sees-one shape.Interpolation) refl
      (λ e. bind (code-next k fit xs e) (λ code r. weaker (bind (wording shape.Text r) (λ words r. narrow (once (k - 1)) (again (words.1.end, (s.1 ++ code ∷ []) ++ piece.Words words.0 words.1 ∷ []) r)))))
      (λ e. done _))
      k fit (span.end, first ∷ []) xs

  text-next : (k : ℕ) → Fits turns more k → (t : Token) (ts : List Token) → Is shape.Text t → Cut k (any 1) (t ∷ ts) (text nested turns free (t ∷ ts)) (text other more free)
  unfolding text
  text-next k fit t ts is = bind (word-next shape.Text t ts is) (λ words r. pieces-alike (k - 1) (less-fits fit) (piece.Words words.0 words.1) words.1 r)

  called-next : (k : ℕ) → Fits turns more k → (t : Token) (ts : List Token) → Is shape.Identifier t → Cut k (any 1) (t ∷ ts) (called nested turns free (t ∷ ts)) (called other more free)
  unfolding called
  called-next k fit t ts is = bind (name-next shape.Identifier t ts is) (λ name r. bind (optional-alike nested other turns more ih free (k - 1) (less-fits fit) name.span.end r) (λ given r. bind (optional-block-alike nested other turns more ih free (k - 1) (less-fits fit) given.0 r) (λ b r. done _)))

  yielding-next : (k : ℕ) → Fits turns more k → (t : Token) (ts : List Token) → Cut k (any 1) (t ∷ ts) (yielding nested turns free (t ∷ ts)) (yielding other more free)
  unfolding yielding
  yielding-next k fit t ts = bind (take-next t ts) (λ mark r. bind (optional-alike nested other turns more ih free (k - 1) (less-fits fit) mark.end r) (λ given r. done _))

  super-next : (k : ℕ) → Fits turns more k → (t : Token) (ts : List Token) → Cut k (any 1) (t ∷ ts) (super_call nested turns free (t ∷ ts)) (super_call other more free)
  unfolding super_call
  super-next k fit t ts = bind (take-next t ts) (λ mark r. bind (optional-alike nested other turns more ih free (k - 1) (less-fits fit) mark.end r) (λ given r. done _))

  elements-alike : (k : ℕ) → Fits turns more k → (start : ℕ) (xs : List Token) → Cut (k - 1) (any 0) xs (elements nested turns free start xs) (elements other more free start)
  unfolding elements elements_from
  elements-alike k fit start xs = loop-in {S = List Tree} turns more (λ n s. elements_from nested turns free start n s) (λ n s. elements_from other more free start n s)
      (λ k n m fit again s xs. bind ((ih k fit).reads form.Tern true xs) (λ element r. weaker (bind (element-alike (k - 1) shape.CloseBracket r) (elim [ Some place ↦ λ r. done _ | None ↦ λ r. again (s ++ element ∷ []) r ]))))
      k fit [] xs

  array-from-alike : (k : ℕ) → Fits turns more k → (start : ℕ) (xs : List Token) → Cut (k - 1) (any 0) xs (array_from nested turns free start xs) (array_from other more free start)
  unfolding array_from
  array-from-alike k fit start xs = choose-some (sees shape.CloseBracket) (sees-one shape.CloseBracket) refl (λ e. bind (expect-next shape.CloseBracket xs e) (λ closing r. done _)) (λ e. elements-alike k fit start xs)

  array-next : (k : ℕ) → Fits turns more k → (t : Token) (ts : List Token) → Cut k (any 1) (t ∷ ts) (array nested turns free (t ∷ ts)) (array other more free)
  unfolding array
  array-next k fit t ts = bind (take-next t ts) (λ opening r. skipping r (array_from nested turns free opening.start) (array_from other more free opening.start) (array-from-alike k fit opening.start (skip_separators r)))

  label-next : (k : ℕ) → Fits turns more k → (xs : List Token) → sees shape.Label xs ≡ true → Cut (k - 1) (any 1) xs (label_pair nested turns free xs) (label_pair other more free)
  unfolding label_pair
  label-next k fit xs e = join (name-seen shape.Label xs e) (λ label r. bind ((ih k fit).reads form.Tern true r) (λ value r. done _))

  arrow-alike : (k : ℕ) → Fits turns more k → (xs : List Token) → Cut (k - 1) (any 0) xs (arrow_pair nested turns free xs) (arrow_pair other more free)
  unfolding arrow_pair
  arrow-alike k fit xs = bind ((ih k fit).reads form.Tern true xs) (λ key r. weaker (join (expecting shape.Arrow r) (λ mark r. bind ((ih k fit).reads form.Tern true r) (λ value r. done _))))

  pair-alike : (k : ℕ) → Fits turns more k → (xs : List Token) → Cut (k - 1) (any 0) xs (a_pair nested turns free xs) (a_pair other more free)
  unfolding a_pair
  pair-alike k fit xs = choose-some (sees shape.Label) (sees-one shape.Label) refl (λ e. label-next k fit xs e) (λ e. arrow-alike k fit xs)

  pairs-alike : (k : ℕ) → Fits turns more k → (start : ℕ) (xs : List Token) → Cut (k - 1) (any 0) xs (pairs nested turns free start xs) (pairs other more free start)
  unfolding pairs pairs_from
  pairs-alike k fit start xs = loop-in {S = List (Pair Tree)} turns more (λ n s. pairs_from nested turns free start n s) (λ n s. pairs_from other more free start n s)
      (λ k n m fit again s xs. bind (pair-alike k fit xs) (λ next r. weaker (bind (element-alike (k - 1) shape.CloseBrace r) (elim [ Some place ↦ λ r. done _ | None ↦ λ r. again (s ++ next ∷ []) r ]))))
      k fit [] xs

  hash-from-alike : (k : ℕ) → Fits turns more k → (start : ℕ) (xs : List Token) → Cut (k - 1) (any 0) xs (hash_from nested turns free start xs) (hash_from other more free start)
  unfolding hash_from
  hash-from-alike k fit start xs = choose-some (sees shape.CloseBrace) (sees-one shape.CloseBrace) refl (λ e. bind (expect-next shape.CloseBrace xs e) (λ closing r. done _)) (λ e. pairs-alike k fit start xs)

  hash-next : (k : ℕ) → Fits turns more k → (t : Token) (ts : List Token) → Cut k (any 1) (t ∷ ts) (hash nested turns free (t ∷ ts)) (hash other more free)
  unfolding hash
  hash-next k fit t ts = bind (take-next t ts) (λ opening r. skipping r (hash_from nested turns free opening.start) (hash_from other more free opening.start) (hash-from-alike k fit opening.start (skip_separators r)))

  parens-next : (k : ℕ) → Fits turns more k → (t : Token) (ts : List Token) → Cut k (any 1) (t ∷ ts) (parens nested turns free (t ∷ ts)) (parens other more free)
  unfolding parens
  parens-next k fit t ts = bind (take-next t ts) (λ opening r. bind ((ih k fit).reads form.Body true r) (λ body r. weaker (bind (expecting shape.CloseParen r) (λ closing r. done _))))

  number-here : (k : ℕ) (t : Token) (ts : List Token) → sees_number (t ∷ ts) ≡ true → Cut k (answer 1) (t ∷ ts) (number None (start_of (t ∷ ts)) (t ∷ ts)) (λ ys. number None (start_of ys) ys)
  number-here k t ts e = answering (looking-in start_of (λ n. number None n) (one start_of (λ t ts. refl)) (number-next k None (start_of (t ∷ ts)) (t ∷ ts) e))

  primary-by-alike : (k : ℕ) → Fits turns more k → (s : Shape) (t : Token) (ts : List Token) → Is s t → Cut k (answer (hold_by s t ts)) (t ∷ ts) (primary_by nested turns free (Some s) (t ∷ ts)) (primary_by other more free (Some s))
  unfolding sees_number same_shape symbol instance_variable constant
  primary-by-alike k fit shape.Identifier t ts is = answering (called-next k fit t ts is)
  primary-by-alike k fit shape.Constant t ts is = answering (bind (name-next shape.Constant t ts is) (λ name r. done _))
  primary-by-alike k fit shape.InstanceVariable t ts is = answering (bind (name-next shape.InstanceVariable t ts is) (λ name r. done _))
  primary-by-alike k fit shape.Symbol t ts is = answering (bind (word-next shape.Symbol t ts is) (λ name r. done _))
  primary-by-alike k fit shape.Whole t ts is = number-here k t ts (ap (λ c. same_shape c shape.Whole || same_shape c shape.Float) is)
  primary-by-alike k fit shape.Float t ts is = number-here k t ts (ap (λ c. same_shape c shape.Whole || same_shape c shape.Float) is)
  primary-by-alike k fit shape.Minus t ts is = negative-alike k t ts
  primary-by-alike k fit shape.Plus t ts is = signed-alike k sign.Plus t ts
  primary-by-alike k fit shape.Text t ts is = answering (text-next k fit t ts is)
  primary-by-alike k fit shape.Scope t ts is = answering (top-taken k t ts)
  primary-by-alike k fit shape.SelfWord t ts is = answering (word-taken k t ts)
  primary-by-alike k fit shape.Nil t ts is = answering (word-taken k t ts)
  primary-by-alike k fit shape.True t ts is = answering (word-taken k t ts)
  primary-by-alike k fit shape.False t ts is = answering (word-taken k t ts)
  primary-by-alike k fit shape.Yield t ts is = answering (yielding-next k fit t ts)
  primary-by-alike k fit shape.Super t ts is = answering (super-next k fit t ts)
  primary-by-alike k fit shape.OpenBracket t ts is = answering (array-next k fit t ts)
  primary-by-alike k fit shape.OpenBrace t ts is = answering (hash-next k fit t ts)
  primary-by-alike k fit shape.OpenParen t ts is = answering (parens-next k fit t ts)
  primary-by-alike k fit shape.If t ts is = answering (branch-next nested other turns more ih free k fit test.Positive t ts)
  primary-by-alike k fit shape.Unless t ts is = answering (branch-next nested other turns more ih free k fit test.Negative t ts)
  primary-by-alike k fit shape.While t ts is = answering (repeated-next nested other turns more ih free k fit test.Positive t ts)
  primary-by-alike k fit shape.Until t ts is = answering (repeated-next nested other turns more ih free k fit test.Negative t ts)
  primary-by-alike k fit shape.Case t ts is = answering (choice-next nested other turns more ih free k fit t ts)
  primary-by-alike k fit shape.Begin t ts is = answering (guards-next nested other turns more ih free k fit t ts)
  primary-by-alike k fit s t ts is = refusing-here

  pub primary-alike : (k : ℕ) → Fits turns more k → (xs : List Token) → Cut k (answer (hold xs)) xs (primary nested turns free xs) (primary other more free)
  unfolding primary
  primary-alike k fit [] = looking peek (primary_by other more free) peek-one refl refusing-here
  primary-alike k fit (t ∷ ts) = looking peek (primary_by other more free) peek-one refl (primary-by-alike k fit (shape_of t.kind) t ts refl)
