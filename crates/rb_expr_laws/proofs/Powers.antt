-- A term before `**` goes on with it: the last operand is raised to the power that stands there.
use Rattle.std.proofs.Common.{ℕ, Bool, List, [], ◌∷◌}
use Rattle.srb_terms.specs.declared.span.Span.{Span}
use Rattle.rb_tree.specs.declared.syntax.Argument.{Argument}
use Rattle.rb_tree.specs.declared.syntax.Argument.TheVariants as argument
use Rattle.rb_tree.specs.declared.syntax.Tree.{Tree}
use Rattle.rb_tree.specs.declared.token.Token.{Token}
use Rattle.rb_tree.specs.declared.token.Shape.TheVariants as shape
use Rattle.rb_rules.specs.Tokens.{Is}
use Rattle.rb_rules.specs.Forms.{AreOrdered, AreNamed}
use Rattle.rb_rules.specs.Grammar.{DerivesArguments, DerivesArgument, DerivesTerm, DerivesLevel}
use Rattle.rb_rules.specs.Grammar.DerivesArguments.{LastArgument, MoreArguments}
use Rattle.rb_rules.specs.Grammar.DerivesArgument.{ByPlace, ByName, AsBlock}
use Rattle.rb_rules.specs.Grammar.DerivesTerm.{Operated, Conditional}
use Rattle.rb_rules.specs.Grammar.DerivesLevel.{Tighter, FromLeft, Once, Negated, Raised, Plainly}

-- ---- arguments of the same kinds

-- of the same kind
pub data Same : Argument Tree → Argument Tree → Type 0 where
  Positions : {v w : Tree} → Same (argument.Positional v) (argument.Positional w)
  Keywords : {name : List ℕ} {span : Span} {v w : Tree} → Same (argument.Keyword name span v) (argument.Keyword name span w)
  Blocks : {span : Span} {v w : Tree} → Same (argument.Block span v) (argument.Block span w)

-- but for the last the arguments are the same, and that is of the same kind
pub data SameKinds : List (Argument Tree) → List (Argument Tree) → Type 0 where
  Last : {a b : Argument Tree} → Same a b → SameKinds (a ∷ []) (b ∷ [])
  Others : {a : Argument Tree} {first other : List (Argument Tree)} → SameKinds first other → SameKinds (a ∷ first) (a ∷ other)

named : {first other : List (Argument Tree)} → SameKinds first other → AreNamed first → AreNamed other
named (SameKinds.Last Same.Positions) h = absurd h
named (SameKinds.Last Same.Keywords) h = tt
named (SameKinds.Last Same.Blocks) h = tt
named (SameKinds.Others {a = argument.Positional v} k) h = absurd h
named (SameKinds.Others {a = argument.Keyword name span v} k) h = named k h
named (SameKinds.Others {a = argument.Block span v} (SameKinds.Last s)) h = absurd h
named (SameKinds.Others {a = argument.Block span v} (SameKinds.Others k)) h = absurd h

pub ordered : {first other : List (Argument Tree)} → SameKinds first other → AreOrdered first → AreOrdered other
ordered (SameKinds.Last Same.Positions) h = tt
ordered (SameKinds.Last Same.Keywords) h = tt
ordered (SameKinds.Last Same.Blocks) h = tt
ordered (SameKinds.Others {a = argument.Positional v} k) h = ordered k h
ordered (SameKinds.Others {a = argument.Keyword name span v} k) h = named k h
ordered (SameKinds.Others {a = argument.Block span v} (SameKinds.Last s)) h = absurd h
ordered (SameKinds.Others {a = argument.Block span v} (SameKinds.Others k)) h = absurd h

-- ---- the power

-- a `**`, and what it raises an operand to
module _ (power : Token) (is-power : Is shape.Power power) (ps ys : List Token) (to : (free : Bool) → (t : Tree) × DerivesLevel 9 free t ps ys) where
  level : {n : ℕ} {free : Bool} {t : Tree} {xs : List Token} → DerivesLevel n free t xs (power ∷ ps) → (u : Tree) × DerivesLevel n free u xs ys
  level (Tighter _ _ _ _ _ is d) = let u = level d in (u.0, Tighter _ _ _ _ _ is u.1)
  level (FromLeft _ _ _ _ _ _ _ _ _ is d is2 e) = let u = level e in (_, FromLeft _ _ _ _ _ _ _ _ _ is d is2 u.1)
  level (Once _ _ _ _ _ _ _ _ d is e) = let u = level e in (_, Once _ _ _ _ _ _ _ _ d is u.1)
  level (Negated _ _ _ _ _ is is2 d) = let u = level d in (_, Negated _ _ _ _ _ is is2 u.1)
  level (Raised _ _ _ _ _ _ _ d is e) = let u = level e in (_, Raised _ _ _ _ _ _ _ d is u.1)
  level (Plainly free _ _ _ d) = let u = to free in (_, Raised _ _ _ _ _ _ _ d is-power u.1)

  pub term : {free : Bool} {t : Tree} {xs : List Token} → DerivesTerm free t xs (power ∷ ps) → (u : Tree) × DerivesTerm free u xs ys
  term (Operated _ _ _ _ d) = let u = level d in (u.0, Operated _ _ _ _ u.1)
  term (Conditional _ _ _ _ _ _ _ _ _ _ d is e is2 f) = let u = term f in (_, Conditional _ _ _ _ _ _ _ _ _ _ d is e is2 u.1)

  argument-of : {free : Bool} {a : Argument Tree} {xs : List Token} → DerivesArgument free a xs (power ∷ ps) → (b : Argument Tree) × DerivesArgument free b xs ys × Same a b
  argument-of (ByPlace _ _ _ _ d) = let u = term d in (_, ByPlace _ _ _ _ u.1, Same.Positions)
  argument-of (ByName _ _ _ _ _ _ is d) = let u = term d in (_, ByName _ _ _ _ _ _ is u.1, Same.Keywords)
  argument-of (AsBlock _ _ _ _ _ is d) = let u = term d in (_, AsBlock _ _ _ _ _ is u.1, Same.Blocks)

  pub arguments : {bracketed free : Bool} {given : List (Argument Tree)} {xs : List Token} → DerivesArguments bracketed free given xs (power ∷ ps) → (other : List (Argument Tree)) × DerivesArguments bracketed free other xs ys × SameKinds given other
  arguments (LastArgument _ _ _ _ _ d) = let u = argument-of d in (_, LastArgument _ _ _ _ _ u.1, SameKinds.Last u.2)
  arguments (MoreArguments _ _ _ _ _ _ _ _ _ d is e f) = let u = arguments f in (_, MoreArguments _ _ _ _ _ _ _ _ _ d is e u.1, SameKinds.Others u.2)
