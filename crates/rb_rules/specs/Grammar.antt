-- Which trees a list of tokens has: the grammar, a constructor for each production, with the further rules as conditions. Each form
-- stands between two lists: what it reads, and what is left after it. `free` says that a call may take a `do`: not in the
-- condition of a loop, nor in the arguments of a command, unless inside brackets.
use Rattle.std.specs.Prelude.{◌≡◌, ◌≢◌, ℕ, suc, ◌<◌, ◌⊎◌, Bool, true, false, List, [], ◌∷◌, ◌++◌, codes, Option, Some, None, IsTrue}
use Rattle.srb_terms.specs.declared.span.Span.{Span}
use Rattle.rb_tree.specs.Tokens.{shape_of}
use Rattle.rb_tree.specs.Trees.{span_of}
use Rattle.rb_tree.specs.declared.token.Token.{Token}
use Rattle.rb_tree.specs.declared.token.Shape.{Shape}
use Rattle.rb_tree.specs.declared.token.Shape.TheVariants as shape
use Rattle.rb_tree.specs.declared.syntax.Tree.{Tree}
use Rattle.rb_tree.specs.Nodes as tree
use Rattle.rb_tree.specs.declared.syntax.Modifier.{Modifier}
use Rattle.rb_tree.specs.declared.syntax.Modifier.TheVariants as modifier
use Rattle.rb_tree.specs.declared.syntax.Jump.{Jump}
use Rattle.rb_tree.specs.declared.syntax.Jump.TheVariants as jump
use Rattle.rb_tree.specs.declared.syntax.Test.{Test}
use Rattle.rb_tree.specs.declared.syntax.Test.TheVariants as test
use Rattle.rb_tree.specs.declared.syntax.Sign.{Sign}
use Rattle.rb_tree.specs.declared.syntax.Sign.TheVariants as sign
use Rattle.rb_tree.specs.declared.syntax.Unary.{Unary}
use Rattle.rb_tree.specs.declared.syntax.Unary.TheVariants as unary
use Rattle.rb_tree.specs.declared.syntax.Binary.{Binary}
use Rattle.rb_tree.specs.declared.syntax.Binary.TheVariants as binary
use Rattle.rb_tree.specs.declared.syntax.Dot.{Dot}
use Rattle.rb_tree.specs.declared.syntax.Dot.TheVariants as dot
use Rattle.rb_tree.specs.declared.syntax.Visibility.{Visibility}
use Rattle.rb_tree.specs.declared.syntax.Visibility.TheVariants as visibility
use Rattle.rb_tree.specs.declared.syntax.Suffix.{Suffix}
use Rattle.rb_tree.specs.declared.syntax.Suffix.TheVariants as suffix
use Rattle.rb_tree.specs.declared.syntax.Argument.{Argument}
use Rattle.rb_tree.specs.declared.syntax.Argument.TheVariants as argument
use Rattle.rb_tree.specs.declared.syntax.Block.{Block}
use Rattle.rb_tree.specs.declared.syntax.Piece.{Piece}
use Rattle.rb_tree.specs.declared.syntax.Piece.TheVariants as piece
use Rattle.rb_tree.specs.declared.syntax.Pair.{Pair}
use Rattle.rb_tree.specs.declared.syntax.Pair.TheVariants as pair
use Rattle.rb_tree.specs.declared.syntax.Arm.{Arm}
use Rattle.rb_tree.specs.declared.syntax.When.{When}
use Rattle.rb_tree.specs.declared.syntax.PlacedName.{PlacedName}
use Rattle.rb_tree.specs.declared.syntax.Reference.{Reference}
use Rattle.rb_tree.specs.declared.syntax.Parameter.{Parameter}
use Rattle.rb_tree.specs.declared.syntax.Guarded.{Guarded}
use Rattle.rb_tree.specs.declared.syntax.Rescue.{Rescue}
use Rattle.srb_terms.specs.declared.param_kind.ParamKind.{ParamKind}
use Rattle.srb_terms.specs.declared.param_kind.ParamKind.TheVariants as param_kind
use Rattle.rb_rules.specs.Tokens.{Is, IsAny, StartsWith, Touches, IsIdentifier, IsConstant, IsInstanceVariable, IsLabel, IsSymbol, IsWhole, IsFloat, IsText, IsBeforeNumber, IsRaised}
use Rattle.rb_rules.specs.Spans.{across, last_of, suffix_span, argument_span, block_or}
use Rattle.rb_rules.specs.Forms.{Site, Top, Member, Inside, is_top, is_open, Operates, ASSIGNMENTS, METHODS, MODIFIERS, NO_COMMAND, MayModify, AreOrdered, HasNoBlock, LeavesBlock, AreParameters, AreDistinct, names_of, names_of_parameters}

-- ---- tables of words and operators

abbrev pub MODIFIER_WORDS : List (Shape × Modifier)
MODIFIER_WORDS = (shape.If, modifier.If) ∷ (shape.Unless, modifier.Unless) ∷ (shape.While, modifier.While) ∷ (shape.Until, modifier.Until) ∷ []

abbrev pub JUMP_WORDS : List (Shape × Jump)
JUMP_WORDS = (shape.Return, jump.Return) ∷ (shape.Break, jump.Break) ∷ (shape.Next, jump.Next) ∷ []

abbrev pub BRANCH_WORDS : List (Shape × Test)
BRANCH_WORDS = (shape.If, test.Positive) ∷ (shape.Unless, test.Negative) ∷ []

abbrev pub LOOP_WORDS : List (Shape × Test)
LOOP_WORDS = (shape.While, test.Positive) ∷ (shape.Until, test.Negative) ∷ []

abbrev pub SIGNS : List (Shape × Sign)
SIGNS = (shape.Minus, sign.Minus) ∷ (shape.Plus, sign.Plus) ∷ []

abbrev pub PREFIXES : List (Shape × Unary)
PREFIXES = (shape.Not, unary.Not) ∷ (shape.Tilde, unary.Tilde) ∷ (shape.Plus, unary.Plus) ∷ []

abbrev pub DOTS : List (Shape × Dot)
DOTS = (shape.Dot, dot.Plain) ∷ (shape.SafeDot, dot.Safe) ∷ []

abbrev pub VISIBILITIES : List (List ℕ × Visibility)
VISIBILITIES =
    (codes "private", visibility.Private) ∷ (codes "protected", visibility.Protected) ∷ (codes "public", visibility.Public)
    ∷ (codes "private_class_method", visibility.PrivateClassMethod) ∷ []

-- the row stands in the table
abbrev pub IsRow : {A B : Type 0} → List (A × B) → A → B → Type 0
IsRow [] a b = ⊥
IsRow (row ∷ rows) a b = ((a ≡ row.0) × (b ≡ row.1)) ⊎ IsRow rows a b

-- ---- trees of several parts

-- an operand with its suffixes
abbrev pub posted : Tree → List (Suffix Tree) → Tree
posted t [] = t
posted t (s ∷ ss) = tree.Post t (s ∷ ss) (across (span_of t) (suffix_span (last_of s ss)))

-- statements in a row
abbrev pub body_of : List Tree → Tree
body_of [] = tree.Body [] (record { start = 0; end = 0 })
body_of (s ∷ ss) = tree.Body (s ∷ ss) (across (span_of s) (span_of (last_of s ss)))

-- a plain call of a name after a dot
abbrev pub named_call : Token → Dot → Token → List ℕ → Suffix Tree
named_call d how n w = suffix.Call how w n.span None None (across d.span n.span)

abbrev pub named : Token → List ℕ → PlacedName
named t w = record { name = w; span = t.span }

-- the place of a parameter or argument list's last part, else the one before it
abbrev pub span_of_arguments : Span → List (Argument Tree) → Span
span_of_arguments span [] = span
span_of_arguments span (a ∷ more) = argument_span (last_of a more)

abbrev pub parameter : ParamKind → List ℕ → Span → Option Tree → Parameter Tree
parameter kind name span default = record { kind = kind; name = name; span = span; default = default }

-- where a method with this `def` begins
abbrev pub front_span : Token → Option Token → Span
front_span k None = k.span
front_span k (Some v) = v.span

-- ---- separators

-- any number of separators
pub data Gap : List Token → List Token → Type 0 where
  Closed : (xs : List Token) → Gap xs xs
  Wide : (t : Token) (xs ys : List Token) → Is shape.Separator t → Gap xs ys → Gap (t ∷ xs) ys

-- inside brackets separators may stand after the opening bracket, after `,` and before the closing bracket
pub data GapIn : Bool → List Token → List Token → Type 0 where
  Tight : (xs : List Token) → GapIn false xs xs
  Loose : (xs ys : List Token) → Gap xs ys → GapIn true xs ys

-- what stands between a condition and a body
pub data Then : List Token → List Token → Type 0 where
  Word : (t : Token) (xs : List Token) → Is shape.Then t → Then (t ∷ xs) xs
  Line : (t : Token) (xs : List Token) → Is shape.Separator t → Then (t ∷ xs) xs
  LineWord : (s t : Token) (xs : List Token) → Is shape.Separator s → Is shape.Then t → Then (s ∷ t ∷ xs) xs

-- ---- names in rows

-- names between the bars of a block
pub data BarNames : List PlacedName → List Token → List Token → Type 0 where
  LastBar : (t : Token) (w : List ℕ) (xs : List Token) → IsIdentifier t w → BarNames (named t w ∷ []) (t ∷ xs) xs
  MoreBars : (t c : Token) (w : List ℕ) (more : List PlacedName) (xs ys : List Token) → IsIdentifier t w → Is shape.Comma c → BarNames more xs ys → BarNames (named t w ∷ more) (t ∷ c ∷ xs) ys

-- the bars of a block, if they stand
pub data Bars : List PlacedName → List Token → List Token → Type 0 where
  NoBars : (xs : List Token) → Bars [] xs xs
  SomeBars : (a z : Token) (names : List PlacedName) (xs ys : List Token) → Is shape.Pipe a → BarNames names xs (z ∷ ys) → Is shape.Pipe z → AreDistinct (names_of names) → Bars names (a ∷ xs) ys

-- a path of constants; `long` says that it may have more than one
pub data Path : Bool → List PlacedName → List Token → List Token → Type 0 where
  LastName : (long : Bool) (t : Token) (w : List ℕ) (xs : List Token) → IsConstant t w → Path long (named t w ∷ []) (t ∷ xs) xs
  MoreNames : (t c : Token) (w : List ℕ) (more : List PlacedName) (xs ys : List Token) → IsConstant t w → Is shape.Scope c → Path true more xs ys → Path true (named t w ∷ more) (t ∷ c ∷ xs) ys

-- the superclass of a class, if one is named
pub data Superclass : Option Reference → List Token → List Token → Type 0 where
  NoSuperclass : (xs : List Token) → Superclass None xs xs
  Named : (l : Token) (n : PlacedName) (more : List PlacedName) (xs ys : List Token) → Is shape.Less l → Path true (n ∷ more) xs ys →
      Superclass (Some (record { top = false; path = n ∷ more; span = across n.span ((last_of n more).span) })) (l ∷ xs) ys
  NamedFromTop : (l c : Token) (n : PlacedName) (more : List PlacedName) (xs ys : List Token) → Is shape.Less l → Is shape.Scope c → Path true (n ∷ more) xs ys →
      Superclass (Some (record { top = true; path = n ∷ more; span = across c.span ((last_of n more).span) })) (l ∷ c ∷ xs) ys

-- the name of a method and its place
pub data MethodName : List ℕ → Span → List Token → List Token → Type 0 where
  Plain : (t : Token) (w : List ℕ) (xs : List Token) → IsIdentifier t w → MethodName w t.span (t ∷ xs) xs
  Writer : (t e : Token) (w : List ℕ) (xs : List Token) → IsIdentifier t w → Is shape.Assign e → MethodName (w ++ codes "=") (across t.span e.span) (t ∷ e ∷ xs) xs
  Capital : (t : Token) (w : List ℕ) (xs : List Token) → IsConstant t w → MethodName w t.span (t ∷ xs) xs
  Operator : (t : Token) (w : List ℕ) (xs : List Token) → IsRow METHODS (shape_of t.kind) w → MethodName w t.span (t ∷ xs) xs

-- `self.` before the name of a method, if it stands
pub data Owner : Bool → List Token → List Token → Type 0 where
  Other : (xs : List Token) → Owner false xs xs
  Own : (s d : Token) (xs : List Token) → Is shape.SelfWord s → Is shape.Dot d → Owner true (s ∷ d ∷ xs) xs

-- ---- guards

-- what stands between a body and a `rescue`: a separator, but after an empty body
pub data Parted : Tree → List Token → List Token → Type 0 where
  AfterNothing : (xs : List Token) → Parted (body_of []) xs xs
  AfterSeparator : (before : Tree) (t : Token) (xs : List Token) → Is shape.Separator t → Parted before (t ∷ xs) xs

-- the variable of a `rescue`, if it has one
pub data RescueVariable : Option PlacedName → List Token → List Token → Type 0 where
  NoVariable : (xs : List Token) → RescueVariable None xs xs
  Bound : (a t : Token) (w : List ℕ) (xs : List Token) → Is shape.Arrow a → IsIdentifier t w → RescueVariable (Some (named t w)) (a ∷ t ∷ xs) xs

-- ---- the grammar

mutual
  -- a body at a site
  pub data DerivesBody : Site → Bool → Tree → List Token → List Token → Type 0 where
    NoStatement : (at : Site) (free : Bool) (xs ys : List Token) → Gap xs ys → DerivesBody at free (body_of []) xs ys
    Statements : (at : Site) (free : Bool) (s : Tree) (ss : List Tree) (xs ps qs rs ys : List Token) →
        Gap xs ps → DerivesStatement at free s ps qs → DerivesMore at free ss qs rs → Gap rs ys → DerivesBody at free (body_of (s ∷ ss)) xs ys

  -- the statements after the first, each after at least one separator
  pub data DerivesMore : Site → Bool → List Tree → List Token → List Token → Type 0 where
    NoMore : (at : Site) (free : Bool) (xs : List Token) → DerivesMore at free [] xs xs
    Another : (at : Site) (free : Bool) (t : Token) (s : Tree) (ss : List Tree) (xs ps qs ys : List Token) →
        Is shape.Separator t → Gap xs ps → DerivesStatement at free s ps qs → DerivesMore at free ss qs ys → DerivesMore at free (s ∷ ss) (t ∷ xs) ys

  pub data DerivesStatement : Site → Bool → Tree → List Token → List Token → Type 0 where
    Declared : (at : Site) (free : Bool) (d : Tree) (xs ys : List Token) → IsTrue (is_open at) → DerivesDeclaration at d xs ys → DerivesStatement at free d xs ys
    Simply : (at : Site) (free : Bool) (s t : Tree) (xs ps ys : List Token) → DerivesSimple (is_open at) free s xs ps → DerivesModified free s t ps ys → DerivesStatement at free t xs ys

  -- the second tree is the first with the modifiers that stand here
  pub data DerivesModified : Bool → Tree → Tree → List Token → List Token → Type 0 where
    Unmodified : (free : Bool) (t : Tree) (xs : List Token) → DerivesModified free t t xs xs
    Modified : (free : Bool) (m : Token) (word : Modifier) (s c t : Tree) (xs ps ys : List Token) →
        IsRow MODIFIER_WORDS (shape_of m.kind) word → MayModify word s → DerivesSimple false free c xs ps →
        DerivesModified free (tree.Modified s word c (across (span_of s) (span_of c))) t ps ys → DerivesModified free s t (m ∷ xs) ys

  -- a simple statement; the first flag says that it may assign to a constant
  pub data DerivesSimple : Bool → Bool → Tree → List Token → List Token → Type 0 where
    Valued : (constants free : Bool) (t : Tree) (xs ys : List Token) → DerivesValue constants free t xs ys → DerivesSimple constants free t xs ys
    Jumps : (constants free : Bool) (j : Token) (word : Jump) (xs : List Token) →
        IsRow JUMP_WORDS (shape_of j.kind) word → DerivesSimple constants free (tree.Jump word None j.span) (j ∷ xs) xs
    JumpsWith : (constants free : Bool) (j : Token) (word : Jump) (v : Tree) (xs ys : List Token) →
        IsRow JUMP_WORDS (shape_of j.kind) word → ¬ StartsWith MODIFIERS xs → DerivesValue false free v xs ys →
        DerivesSimple constants free (tree.Jump word (Some v) (across j.span (span_of v))) (j ∷ xs) ys

  -- a command, an assignment or a term: what may stand on the right of an assignment
  pub data DerivesValue : Bool → Bool → Tree → List Token → List Token → Type 0 where
    Term : (constants free : Bool) (t : Tree) (xs ys : List Token) → DerivesTerm free t xs ys → DerivesValue constants free t xs ys
    Assigns : (constants free : Bool) (e : Token) (target v : Tree) (xs ps ys : List Token) →
        DerivesTarget constants free target xs (e ∷ ps) → Is shape.Assign e → DerivesValue false free v ps ys →
        DerivesValue constants free (tree.Assign target v (across (span_of target) (span_of v))) xs ys
    Computes : (constants free : Bool) (o : Token) (operator : Binary) (target v : Tree) (xs ps ys : List Token) →
        DerivesTarget false free target xs (o ∷ ps) → IsRow ASSIGNMENTS (shape_of o.kind) operator → DerivesValue false free v ps ys →
        DerivesValue constants free (tree.OperatorAssign target operator o.span v (across (span_of target) (span_of v))) xs ys
    Command : (constants free : Bool) (callee : Tree) (arguments : List (Argument Tree)) (block : Option (Block Tree)) (xs ps qs ys : List Token) →
        DerivesCallee free callee xs ps → ¬ StartsWith NO_COMMAND ps → DerivesArguments false false arguments ps qs → AreOrdered arguments →
        DerivesDo free block qs ys → (block ≡ None ⊎ HasNoBlock arguments) →
        DerivesValue constants free (tree.Command callee arguments block (across (span_of callee) (block_or (span_of_arguments (span_of callee) arguments) block))) xs ys

  -- what is assigned to
  pub data DerivesTarget : Bool → Bool → Tree → List Token → List Token → Type 0 where
    Variable : (constants free : Bool) (t : Token) (w : List ℕ) (xs : List Token) → IsIdentifier t w → DerivesTarget constants free (tree.Name w t.span) (t ∷ xs) xs
    Instance : (constants free : Bool) (t : Token) (w : List ℕ) (xs : List Token) → IsInstanceVariable t w → DerivesTarget constants free (tree.InstanceVariable w t.span) (t ∷ xs) xs
    Constant : (free : Bool) (t : Token) (w : List ℕ) (xs : List Token) → IsConstant t w → DerivesTarget true free (tree.Constant w t.span) (t ∷ xs) xs
    Attribute : (constants free : Bool) (last d n : Token) (r : Tree) (ss : List (Suffix Tree)) (w : List ℕ) (xs ys : List Token) →
        DerivesOperand free r ss last xs (d ∷ n ∷ ys) → Is shape.Dot d → IsIdentifier n w → DerivesTarget constants free (posted r (ss ++ named_call d dot.Plain n w ∷ [])) xs ys
    Element : (constants free : Bool) (before last : Token) (r : Tree) (ss : List (Suffix Tree)) (s : Suffix Tree) (xs ps ys : List Token) →
        DerivesOperand free r ss before xs ps → DerivesIndex s before last ps ys → DerivesTarget constants free (posted r (ss ++ s ∷ [])) xs ys

  -- what is called by a command
  pub data DerivesCallee : Bool → Tree → List Token → List Token → Type 0 where
    Own : (free : Bool) (t : Token) (w : List ℕ) (xs : List Token) → IsIdentifier t w → DerivesCallee free (tree.Name w t.span) (t ∷ xs) xs
    Of : (free : Bool) (last d n : Token) (how : Dot) (r : Tree) (ss : List (Suffix Tree)) (w : List ℕ) (xs ys : List Token) →
        DerivesOperand free r ss last xs (d ∷ n ∷ ys) → IsRow DOTS (shape_of d.kind) how → IsIdentifier n w → DerivesCallee free (posted r (ss ++ named_call d how n w ∷ [])) xs ys
    YieldWord : (free : Bool) (t : Token) (xs : List Token) → Is shape.Yield t → DerivesCallee free (tree.Yield None t.span) (t ∷ xs) xs
    SuperWord : (free : Bool) (t : Token) (xs : List Token) → Is shape.Super t → DerivesCallee free (tree.Super None t.span) (t ∷ xs) xs

  -- arguments with `,` between them, at least one; the first flag says that brackets are around them
  pub data DerivesArguments : Bool → Bool → List (Argument Tree) → List Token → List Token → Type 0 where
    LastArgument : (bracketed free : Bool) (a : Argument Tree) (xs ys : List Token) → DerivesArgument free a xs ys → DerivesArguments bracketed free (a ∷ []) xs ys
    MoreArguments : (bracketed free : Bool) (c : Token) (a : Argument Tree) (more : List (Argument Tree)) (xs ps qs ys : List Token) →
        DerivesArgument free a xs (c ∷ ps) → Is shape.Comma c → GapIn bracketed ps qs → DerivesArguments bracketed free more qs ys → DerivesArguments bracketed free (a ∷ more) xs ys

  pub data DerivesArgument : Bool → Argument Tree → List Token → List Token → Type 0 where
    ByPlace : (free : Bool) (t : Tree) (xs ys : List Token) → DerivesTerm free t xs ys → DerivesArgument free (argument.Positional t) xs ys
    ByName : (free : Bool) (l : Token) (w : List ℕ) (t : Tree) (xs ys : List Token) → IsLabel l w → DerivesTerm free t xs ys → DerivesArgument free (argument.Keyword w l.span t) (l ∷ xs) ys
    AsBlock : (free : Bool) (a : Token) (t : Tree) (xs ys : List Token) → Is shape.Ampersand a → DerivesTerm free t xs ys → DerivesArgument free (argument.Block a.span t) (a ∷ xs) ys

  pub data DerivesTerm : Bool → Tree → List Token → List Token → Type 0 where
    Operated : (free : Bool) (t : Tree) (xs ys : List Token) → DerivesLevel 0 free t xs ys → DerivesTerm free t xs ys
    Conditional : (free : Bool) (q k : Token) (c a b : Tree) (xs ps qs ys : List Token) →
        DerivesLevel 0 free c xs (q ∷ ps) → Is shape.Question q → DerivesTerm free a ps (k ∷ qs) → Is shape.Colon k → DerivesTerm free b qs ys →
        DerivesTerm free (tree.Conditional c a b (across (span_of c) (span_of b))) xs ys

  -- operators between operands, by the level of the loosest; after the last level `-` in front and `**`
  pub data DerivesLevel : ℕ → Bool → Tree → List Token → List Token → Type 0 where
    Tighter : (level : ℕ) (free : Bool) (t : Tree) (xs ys : List Token) → level < 9 → DerivesLevel (suc level) free t xs ys → DerivesLevel level free t xs ys
    FromLeft : (level : ℕ) (free : Bool) (o : Token) (operator : Binary) (a b : Tree) (xs ps ys : List Token) → level ≢ 2 →
        DerivesLevel level free a xs (o ∷ ps) → Operates level (shape_of o.kind) operator → DerivesLevel (suc level) free b ps ys →
        DerivesLevel level free (tree.Binary operator o.span a b (across (span_of a) (span_of b))) xs ys
    Once : (free : Bool) (o : Token) (operator : Binary) (a b : Tree) (xs ps ys : List Token) →
        DerivesLevel 3 free a xs (o ∷ ps) → Operates 2 (shape_of o.kind) operator → DerivesLevel 3 free b ps ys →
        DerivesLevel 2 free (tree.Binary operator o.span a b (across (span_of a) (span_of b))) xs ys
    Negated : (free : Bool) (m : Token) (a : Tree) (xs ys : List Token) → Is shape.Minus m → (¬ IsBeforeNumber m xs ⊎ IsRaised xs) →
        DerivesLevel 9 free a xs ys → DerivesLevel 9 free (tree.Unary unary.Minus a (across m.span (span_of a))) (m ∷ xs) ys
    Raised : (free : Bool) (o : Token) (a b : Tree) (xs ps ys : List Token) →
        DerivesPrefixed free a xs (o ∷ ps) → Is shape.Power o → DerivesLevel 9 free b ps ys →
        DerivesLevel 9 free (tree.Binary binary.Power o.span a b (across (span_of a) (span_of b))) xs ys
    Plainly : (free : Bool) (a : Tree) (xs ys : List Token) → DerivesPrefixed free a xs ys → DerivesLevel 9 free a xs ys

  pub data DerivesPrefixed : Bool → Tree → List Token → List Token → Type 0 where
    Prefixed : (free : Bool) (u : Token) (operator : Unary) (a : Tree) (xs ys : List Token) → IsRow PREFIXES (shape_of u.kind) operator →
        (operator ≡ unary.Plus → ¬ IsBeforeNumber u xs) → DerivesPrefixed free a xs ys → DerivesPrefixed free (tree.Unary operator a (across u.span (span_of a))) (u ∷ xs) ys
    Posted : (free : Bool) (last : Token) (p : Tree) (ss : List (Suffix Tree)) (xs ys : List Token) → DerivesOperand free p ss last xs ys → DerivesPrefixed free (posted p ss) xs ys

  -- an operand, its suffixes and its last token
  pub data DerivesOperand : Bool → Tree → List (Suffix Tree) → Token → List Token → List Token → Type 0 where
    Bare : (free : Bool) (last : Token) (p : Tree) (xs ys : List Token) → DerivesPrimary free p last xs ys → DerivesOperand free p [] last xs ys
    Suffixed : (free : Bool) (before last : Token) (p : Tree) (ss : List (Suffix Tree)) (s : Suffix Tree) (xs ps ys : List Token) →
        DerivesOperand free p ss before xs ps → DerivesSuffix free s before last ps ys → DerivesOperand free p (ss ++ s ∷ []) last xs ys

  -- a suffix, after this token and with this last one
  pub data DerivesSuffix : Bool → Suffix Tree → Token → Token → List Token → List Token → Type 0 where
    Calls : (free : Bool) (before d n middle last : Token) (how : Dot) (w : List ℕ) (arguments : Option (List (Argument Tree))) (block : Option (Block Tree)) (xs ps ys : List Token) →
        IsRow DOTS (shape_of d.kind) how → IsIdentifier n w → DerivesBrackets arguments n middle xs ps → DerivesBlockAfter free block middle last ps ys →
        (block ≡ None ⊎ LeavesBlock arguments) →
        DerivesSuffix free (suffix.Call how w n.span arguments block (across d.span last.span)) before last (d ∷ n ∷ xs) ys
    Within : (free : Bool) (before c n : Token) (w : List ℕ) (xs : List Token) → Is shape.Scope c → IsConstant n w → DerivesSuffix free (suffix.Constant w n.span (across c.span n.span)) before n (c ∷ n ∷ xs) xs
    Indexed : (free : Bool) (before last : Token) (s : Suffix Tree) (xs ys : List Token) → DerivesIndex s before last xs ys → DerivesSuffix free s before last xs ys

  -- an index: it touches its operand, but after a closing bracket
  pub data DerivesIndex : Suffix Tree → Token → Token → List Token → List Token → Type 0 where
    Index : (before o c : Token) (arguments : List (Argument Tree)) (xs ps qs ys : List Token) → Is shape.OpenBracket o →
        (Touches before o ⊎ IsAny (shape.CloseParen ∷ shape.CloseBracket ∷ shape.CloseBrace ∷ []) before) →
        Gap xs ps → DerivesArguments true true arguments ps qs → AreOrdered arguments → DerivesEnd qs (c ∷ ys) → Is shape.CloseBracket c →
        DerivesIndex (suffix.Index arguments (across o.span c.span)) before c (o ∷ xs) ys

  -- before a closing `]` or `}`: perhaps a last `,`, and separators
  pub data DerivesEnd : List Token → List Token → Type 0 where
    NoComma : (xs ys : List Token) → Gap xs ys → DerivesEnd xs ys
    LastComma : (c : Token) (ps ys : List Token) → Is shape.Comma c → Gap ps ys → DerivesEnd (c ∷ ps) ys

  -- the arguments in brackets of a call, if brackets stand; the last token is the one before where they don't
  pub data DerivesBrackets : Option (List (Argument Tree)) → Token → Token → List Token → List Token → Type 0 where
    NoBrackets : (before : Token) (xs : List Token) → DerivesBrackets None before before xs xs
    EmptyBrackets : (before o c : Token) (xs ys : List Token) → Is shape.OpenParen o → Gap xs (c ∷ ys) → Is shape.CloseParen c → DerivesBrackets (Some []) before c (o ∷ xs) ys
    Brackets : (before o c : Token) (arguments : List (Argument Tree)) (xs ps qs ys : List Token) → Is shape.OpenParen o →
        Gap xs ps → DerivesArguments true true arguments ps qs → AreOrdered arguments → Gap qs (c ∷ ys) → Is shape.CloseParen c → DerivesBrackets (Some arguments) before c (o ∷ xs) ys

  -- the block after a call, if one stands
  pub data DerivesBlockAfter : Bool → Option (Block Tree) → Token → Token → List Token → List Token → Type 0 where
    NoBlock : (free : Bool) (before : Token) (xs : List Token) → DerivesBlockAfter free None before before xs xs
    SomeBlock : (free : Bool) (before last : Token) (b : Block Tree) (xs ys : List Token) → DerivesBlock free b last xs ys → DerivesBlockAfter free (Some b) before last xs ys

  pub data DerivesBlock : Bool → Block Tree → Token → List Token → List Token → Type 0 where
    Braces : (free : Bool) (o c : Token) (names : List PlacedName) (body : Tree) (xs ps ys : List Token) → Is shape.OpenBrace o → Bars names xs ps →
        DerivesBody Inside true body ps (c ∷ ys) → Is shape.CloseBrace c → DerivesBlock free (record { parameters = names; body = body; span = across o.span c.span }) c (o ∷ xs) ys
    DoEnd : (o c : Token) (names : List PlacedName) (body : Tree) (xs ps ys : List Token) → Is shape.Do o → Bars names xs ps →
        DerivesBody Inside true body ps (c ∷ ys) → Is shape.End c → DerivesBlock true (record { parameters = names; body = body; span = across o.span c.span }) c (o ∷ xs) ys

  -- the `do` after a command, if one stands
  pub data DerivesDo : Bool → Option (Block Tree) → List Token → List Token → Type 0 where
    NoDo : (free : Bool) (xs : List Token) → DerivesDo free None xs xs
    SomeDo : (o last : Token) (b : Block Tree) (xs ys : List Token) → Is shape.Do o → DerivesBlock true b last (o ∷ xs) ys → DerivesDo true (Some b) (o ∷ xs) ys

  -- an operand without suffixes, and its last token
  pub data DerivesPrimary : Bool → Tree → Token → List Token → List Token → Type 0 where
    WholeNumber : (free : Bool) (t : Token) (w : List ℕ) (xs : List Token) → IsWhole t w → DerivesPrimary free (tree.Whole None w t.span) t (t ∷ xs) xs
    FloatNumber : (free : Bool) (t : Token) (w : List ℕ) (xs : List Token) → IsFloat t w → DerivesPrimary free (tree.Float None w t.span) t (t ∷ xs) xs
    SignedWhole : (free : Bool) (s t : Token) (how : Sign) (w : List ℕ) (xs : List Token) → IsRow SIGNS (shape_of s.kind) how → Touches s t → (how ≡ sign.Plus ⊎ ¬ StartsWith (shape.Power ∷ []) xs) →
        IsWhole t w → DerivesPrimary free (tree.Whole (Some how) w (across s.span t.span)) t (s ∷ t ∷ xs) xs
    SignedFloat : (free : Bool) (s t : Token) (how : Sign) (w : List ℕ) (xs : List Token) → IsRow SIGNS (shape_of s.kind) how → Touches s t → (how ≡ sign.Plus ⊎ ¬ StartsWith (shape.Power ∷ []) xs) →
        IsFloat t w → DerivesPrimary free (tree.Float (Some how) w (across s.span t.span)) t (s ∷ t ∷ xs) xs
    String : (free : Bool) (t last : Token) (w : List ℕ) (pieces : List (Piece Tree)) (xs ys : List Token) → IsText t w → DerivesPieces pieces t last xs ys →
        DerivesPrimary free (tree.Text (piece.Words w t.span ∷ pieces) (across t.span last.span)) last (t ∷ xs) ys
    SymbolName : (free : Bool) (t : Token) (w : List ℕ) (xs : List Token) → IsSymbol t w → DerivesPrimary free (tree.Symbol w t.span) t (t ∷ xs) xs
    InstanceName : (free : Bool) (t : Token) (w : List ℕ) (xs : List Token) → IsInstanceVariable t w → DerivesPrimary free (tree.InstanceVariable w t.span) t (t ∷ xs) xs
    ConstantName : (free : Bool) (t : Token) (w : List ℕ) (xs : List Token) → IsConstant t w → DerivesPrimary free (tree.Constant w t.span) t (t ∷ xs) xs
    FromTop : (free : Bool) (c t : Token) (w : List ℕ) (xs : List Token) → Is shape.Scope c → IsConstant t w → DerivesPrimary free (tree.TopConstant w t.span (across c.span t.span)) t (c ∷ t ∷ xs) xs
    SelfPlace : (free : Bool) (t : Token) (xs : List Token) → Is shape.SelfWord t → DerivesPrimary free (tree.SelfWord t.span) t (t ∷ xs) xs
    NilPlace : (free : Bool) (t : Token) (xs : List Token) → Is shape.Nil t → DerivesPrimary free (tree.Nil t.span) t (t ∷ xs) xs
    TruePlace : (free : Bool) (t : Token) (xs : List Token) → Is shape.True t → DerivesPrimary free (tree.True t.span) t (t ∷ xs) xs
    FalsePlace : (free : Bool) (t : Token) (xs : List Token) → Is shape.False t → DerivesPrimary free (tree.False t.span) t (t ∷ xs) xs
    NameAlone : (free : Bool) (t : Token) (w : List ℕ) (xs : List Token) → IsIdentifier t w → DerivesPrimary free (tree.Name w t.span) t (t ∷ xs) xs
    CallWithBrackets : (free : Bool) (t middle last : Token) (w : List ℕ) (arguments : List (Argument Tree)) (block : Option (Block Tree)) (xs ps ys : List Token) → IsIdentifier t w →
        DerivesBrackets (Some arguments) t middle xs ps → DerivesBlockAfter free block middle last ps ys → (block ≡ None ⊎ HasNoBlock arguments) →
        DerivesPrimary free (tree.Call w t.span (Some arguments) block (across t.span last.span)) last (t ∷ xs) ys
    CallWithBlock : (free : Bool) (t last : Token) (w : List ℕ) (block : Block Tree) (xs ys : List Token) → IsIdentifier t w → DerivesBlock free block last xs ys →
        DerivesPrimary free (tree.Call w t.span None (Some block) (across t.span last.span)) last (t ∷ xs) ys
    Yields : (free : Bool) (t last : Token) (arguments : Option (List (Argument Tree))) (xs ys : List Token) → Is shape.Yield t → DerivesBrackets arguments t last xs ys →
        DerivesPrimary free (tree.Yield arguments (across t.span last.span)) last (t ∷ xs) ys
    Supers : (free : Bool) (t last : Token) (arguments : Option (List (Argument Tree))) (xs ys : List Token) → Is shape.Super t → DerivesBrackets arguments t last xs ys →
        DerivesPrimary free (tree.Super arguments (across t.span last.span)) last (t ∷ xs) ys
    EmptyArray : (free : Bool) (o c : Token) (xs ys : List Token) → Is shape.OpenBracket o → Gap xs (c ∷ ys) → Is shape.CloseBracket c → DerivesPrimary free (tree.Array [] (across o.span c.span)) c (o ∷ xs) ys
    SomeArray : (free : Bool) (o c : Token) (elements : List Tree) (xs ps qs ys : List Token) → Is shape.OpenBracket o → Gap xs ps → DerivesElements elements ps qs → DerivesEnd qs (c ∷ ys) → Is shape.CloseBracket c →
        DerivesPrimary free (tree.Array elements (across o.span c.span)) c (o ∷ xs) ys
    EmptyHash : (free : Bool) (o c : Token) (xs ys : List Token) → Is shape.OpenBrace o → Gap xs (c ∷ ys) → Is shape.CloseBrace c → DerivesPrimary free (tree.Hash [] (across o.span c.span)) c (o ∷ xs) ys
    SomeHash : (free : Bool) (o c : Token) (pairs : List (Pair Tree)) (xs ps qs ys : List Token) → Is shape.OpenBrace o → Gap xs ps → DerivesPairs pairs ps qs → DerivesEnd qs (c ∷ ys) → Is shape.CloseBrace c →
        DerivesPrimary free (tree.Hash pairs (across o.span c.span)) c (o ∷ xs) ys
    InParens : (free : Bool) (o c : Token) (body : Tree) (xs ys : List Token) → Is shape.OpenParen o → DerivesBody Inside true body xs (c ∷ ys) → Is shape.CloseParen c →
        DerivesPrimary free (tree.Parens body (across o.span c.span)) c (o ∷ xs) ys
    Branches : (free : Bool) (k e : Token) (word : Test) (c body : Tree) (arms : List (Arm Tree)) (otherwise : Option Tree) (xs ps qs rs us ys : List Token) →
        IsRow BRANCH_WORDS (shape_of k.kind) word → DerivesSimple false free c xs ps → Then ps qs → DerivesBody Inside free body qs rs → DerivesArms free arms rs us →
        (word ≡ test.Positive ⊎ arms ≡ []) → DerivesElse free otherwise us (e ∷ ys) → Is shape.End e →
        DerivesPrimary free (tree.If word c body arms otherwise (across k.span e.span)) e (k ∷ xs) ys
    Loops : (free : Bool) (k d e : Token) (word : Test) (c body : Tree) (xs ps ys : List Token) →
        IsRow LOOP_WORDS (shape_of k.kind) word → DerivesSimple false false c xs (d ∷ ps) → IsAny (shape.Do ∷ shape.Separator ∷ []) d → DerivesBody Inside free body ps (e ∷ ys) → Is shape.End e →
        DerivesPrimary free (tree.While word c body (across k.span e.span)) e (k ∷ xs) ys
    Guards : (free : Bool) (k e : Token) (guarded : Guarded Tree) (xs ys : List Token) → Is shape.Begin k → DerivesGuarded free guarded xs (e ∷ ys) → Is shape.End e →
        DerivesPrimary free (tree.Begin guarded (across k.span e.span)) e (k ∷ xs) ys
    Cases : (free : Bool) (k e : Token) (subject : Option Tree) (arm : When Tree) (arms : List (When Tree)) (otherwise : Option Tree) (xs ps qs rs ys : List Token) →
        Is shape.Case k → DerivesSubject free subject xs ps → Gap ps qs → DerivesWhens free (arm ∷ arms) qs rs → DerivesElse free otherwise rs (e ∷ ys) → Is shape.End e →
        DerivesPrimary free (tree.Case subject (arm ∷ arms) otherwise (across k.span e.span)) e (k ∷ xs) ys

  -- the pieces of a string after its first
  pub data DerivesPieces : List (Piece Tree) → Token → Token → List Token → List Token → Type 0 where
    NoPiece : (before : Token) (xs : List Token) → DerivesPieces [] before before xs xs
    MorePieces : (before o c t last : Token) (body : Tree) (w : List ℕ) (more : List (Piece Tree)) (xs ps ys : List Token) → Is shape.Interpolation o → DerivesBody Inside true body xs (c ∷ t ∷ ps) → Is shape.CloseBrace c → IsText t w →
        DerivesPieces more t last ps ys → DerivesPieces (piece.Code body (across o.span c.span) ∷ piece.Words w t.span ∷ more) before last (o ∷ xs) ys

  pub data DerivesElements : List Tree → List Token → List Token → Type 0 where
    LastElement : (t : Tree) (xs ys : List Token) → DerivesTerm true t xs ys → DerivesElements (t ∷ []) xs ys
    MoreElements : (c : Token) (t : Tree) (more : List Tree) (xs ps qs ys : List Token) → DerivesTerm true t xs (c ∷ ps) → Is shape.Comma c → Gap ps qs → DerivesElements more qs ys → DerivesElements (t ∷ more) xs ys

  pub data DerivesPairs : List (Pair Tree) → List Token → List Token → Type 0 where
    LastPair : (p : Pair Tree) (xs ys : List Token) → DerivesPair p xs ys → DerivesPairs (p ∷ []) xs ys
    MorePairs : (c : Token) (p : Pair Tree) (more : List (Pair Tree)) (xs ps qs ys : List Token) → DerivesPair p xs (c ∷ ps) → Is shape.Comma c → Gap ps qs → DerivesPairs more qs ys → DerivesPairs (p ∷ more) xs ys

  pub data DerivesPair : Pair Tree → List Token → List Token → Type 0 where
    ByArrow : (a : Token) (k v : Tree) (xs ps ys : List Token) → DerivesTerm true k xs (a ∷ ps) → Is shape.Arrow a → DerivesTerm true v ps ys → DerivesPair (pair.Arrow k v) xs ys
    ByLabel : (l : Token) (w : List ℕ) (v : Tree) (xs ys : List Token) → IsLabel l w → DerivesTerm true v xs ys → DerivesPair (pair.Label w l.span v) (l ∷ xs) ys

  pub data DerivesArms : Bool → List (Arm Tree) → List Token → List Token → Type 0 where
    NoArm : (free : Bool) (xs : List Token) → DerivesArms free [] xs xs
    MoreArms : (free : Bool) (k : Token) (c body : Tree) (more : List (Arm Tree)) (xs ps qs rs ys : List Token) → Is shape.Elsif k → DerivesSimple false free c xs ps → Then ps qs → DerivesBody Inside free body qs rs →
        DerivesArms free more rs ys → DerivesArms free (record { condition = c; body = body } ∷ more) (k ∷ xs) ys

  pub data DerivesElse : Bool → Option Tree → List Token → List Token → Type 0 where
    NoElse : (free : Bool) (xs : List Token) → DerivesElse free None xs xs
    SomeElse : (free : Bool) (k : Token) (body : Tree) (xs ys : List Token) → Is shape.Else k → DerivesBody Inside free body xs ys → DerivesElse free (Some body) (k ∷ xs) ys

  pub data DerivesSubject : Bool → Option Tree → List Token → List Token → Type 0 where
    NoSubject : (free : Bool) (xs : List Token) → DerivesSubject free None xs xs
    SomeSubject : (free : Bool) (t : Tree) (xs ys : List Token) → DerivesSimple false free t xs ys → DerivesSubject free (Some t) xs ys

  pub data DerivesWhens : Bool → List (When Tree) → List Token → List Token → Type 0 where
    NoWhen : (free : Bool) (xs : List Token) → DerivesWhens free [] xs xs
    MoreWhens : (free : Bool) (k : Token) (patterns : List Tree) (body : Tree) (more : List (When Tree)) (xs ps qs rs ys : List Token) → Is shape.When k → DerivesPatterns free patterns xs ps → Then ps qs → DerivesBody Inside free body qs rs →
        DerivesWhens free more rs ys → DerivesWhens free (record { patterns = patterns; body = body } ∷ more) (k ∷ xs) ys

  pub data DerivesPatterns : Bool → List Tree → List Token → List Token → Type 0 where
    LastPattern : (free : Bool) (t : Tree) (xs ys : List Token) → DerivesTerm free t xs ys → DerivesPatterns free (t ∷ []) xs ys
    MorePatterns : (free : Bool) (c : Token) (t : Tree) (more : List Tree) (xs ps ys : List Token) → DerivesTerm free t xs (c ∷ ps) → Is shape.Comma c → DerivesPatterns free more ps ys → DerivesPatterns free (t ∷ more) xs ys

  -- a body and what guards it
  pub data DerivesGuarded : Bool → Guarded Tree → List Token → List Token → Type 0 where
    Unrescued : (free : Bool) (body : Tree) (ensure : Option Tree) (xs ps ys : List Token) → DerivesBody Inside free body xs ps → DerivesEnsure free ensure ps ys →
        DerivesGuarded free (record { body = body; rescues = []; otherwise = None; ensure = ensure }) xs ys
    Rescued : (free : Bool) (body : Tree) (clause : Rescue Tree) (clauses : List (Rescue Tree)) (otherwise ensure : Option Tree) (xs ps qs rs ys : List Token) →
        DerivesBody Inside free body xs ps → DerivesRescues free body (clause ∷ clauses) ps qs → DerivesElse free otherwise qs rs → DerivesEnsure free ensure rs ys →
        DerivesGuarded free (record { body = body; rescues = clause ∷ clauses; otherwise = otherwise; ensure = ensure }) xs ys

  -- the `rescue` clauses after the body that is given
  pub data DerivesRescues : Bool → Tree → List (Rescue Tree) → List Token → List Token → Type 0 where
    NoRescue : (free : Bool) (before : Tree) (xs : List Token) → DerivesRescues free before [] xs xs
    MoreRescues : (free : Bool) (k : Token) (before : Tree) (patterns : List Tree) (variable : Option PlacedName) (body : Tree) (more : List (Rescue Tree)) (xs ps qs rs us vs ys : List Token) →
        Parted before xs (k ∷ ps) → Is shape.Rescue k → DerivesRaised free patterns ps qs → RescueVariable variable qs rs → Then rs us → DerivesBody Inside free body us vs → DerivesRescues free body more vs ys →
        DerivesRescues free before (record { patterns = patterns; variable = variable; body = body } ∷ more) xs ys

  -- what a clause rescues, if it is told
  pub data DerivesRaised : Bool → List Tree → List Token → List Token → Type 0 where
    AnyError : (free : Bool) (xs : List Token) → DerivesRaised free [] xs xs
    SomeErrors : (free : Bool) (patterns : List Tree) (xs ys : List Token) → DerivesPatterns free patterns xs ys → DerivesRaised free patterns xs ys

  pub data DerivesEnsure : Bool → Option Tree → List Token → List Token → Type 0 where
    NoEnsure : (free : Bool) (xs : List Token) → DerivesEnsure free None xs xs
    SomeEnsure : (free : Bool) (k : Token) (body : Tree) (xs ys : List Token) → Is shape.Ensure k → DerivesBody Inside free body xs ys → DerivesEnsure free (Some body) (k ∷ xs) ys

  pub data DerivesDeclaration : Site → Tree → List Token → List Token → Type 0 where
    ClassOf : (at : Site) (k s e : Token) (path : List PlacedName) (superclass : Option Reference) (body : Tree) (xs ps qs ys : List Token) →
        Is shape.Class k → Path (is_top at) path xs ps → Superclass superclass ps (s ∷ qs) → Is shape.Separator s → DerivesBody Member true body qs (e ∷ ys) → Is shape.End e →
        DerivesDeclaration at (tree.Class path superclass body (across k.span e.span)) (k ∷ xs) ys
    ModuleOf : (at : Site) (k s e : Token) (path : List PlacedName) (body : Tree) (xs qs ys : List Token) →
        Is shape.Module k → Path (is_top at) path xs (s ∷ qs) → Is shape.Separator s → DerivesBody Member true body qs (e ∷ ys) → Is shape.End e →
        DerivesDeclaration at (tree.Module path body (across k.span e.span)) (k ∷ xs) ys
    Method : (at : Site) (d : Tree) (xs ys : List Token) → DerivesMethod None None d xs ys → DerivesDeclaration at d xs ys
    VisibleMethod : (at : Site) (v : Token) (w : List ℕ) (word : Visibility) (d : Tree) (xs ys : List Token) → IsIdentifier v w → IsRow VISIBILITIES w word → DerivesMethod (Some word) (Some v) d xs ys → DerivesDeclaration at d (v ∷ xs) ys

  -- a method, with what stands in front of its `def`
  pub data DerivesMethod : Option Visibility → Option Token → Tree → List Token → List Token → Type 0 where
    Def : (visible : Option Visibility) (front : Option Token) (k e : Token) (own : Bool) (name : List ℕ) (name_span : Span) (parameters : List (Parameter Tree)) (guarded : Guarded Tree) (xs ps qs rs ys : List Token) →
        Is shape.Def k → Owner own xs ps → MethodName name name_span ps qs → DerivesParameters parameters qs rs → AreParameters parameters → AreDistinct (names_of_parameters parameters) →
        DerivesGuarded true guarded rs (e ∷ ys) → Is shape.End e →
        DerivesMethod visible front (tree.Def visible own name name_span parameters guarded (across (front_span k front) e.span)) (k ∷ xs) ys

  -- parameters in brackets, or up to the end of the line
  pub data DerivesParameters : List (Parameter Tree) → List Token → List Token → Type 0 where
    NoParameters : (s : Token) (xs : List Token) → Is shape.Separator s → DerivesParameters [] (s ∷ xs) xs
    OpenParameters : (s : Token) (p : Parameter Tree) (more : List (Parameter Tree)) (xs ys : List Token) → DerivesParameterList false (p ∷ more) xs (s ∷ ys) → Is shape.Separator s → DerivesParameters (p ∷ more) xs ys
    EmptyParens : (o c : Token) (xs ys : List Token) → Is shape.OpenParen o → Gap xs (c ∷ ys) → Is shape.CloseParen c → DerivesParameters [] (o ∷ xs) ys
    InBrackets : (o c : Token) (p : Parameter Tree) (more : List (Parameter Tree)) (xs ps qs ys : List Token) → Is shape.OpenParen o → Gap xs ps → DerivesParameterList true (p ∷ more) ps qs → Gap qs (c ∷ ys) → Is shape.CloseParen c →
        DerivesParameters (p ∷ more) (o ∷ xs) ys

  pub data DerivesParameterList : Bool → List (Parameter Tree) → List Token → List Token → Type 0 where
    LastParameter : (bracketed : Bool) (p : Parameter Tree) (xs ys : List Token) → DerivesParameter p xs ys → DerivesParameterList bracketed (p ∷ []) xs ys
    MoreParameters : (bracketed : Bool) (c : Token) (p : Parameter Tree) (more : List (Parameter Tree)) (xs ps qs ys : List Token) → DerivesParameter p xs (c ∷ ps) → Is shape.Comma c → GapIn bracketed ps qs →
        DerivesParameterList bracketed more qs ys → DerivesParameterList bracketed (p ∷ more) xs ys

  pub data DerivesParameter : Parameter Tree → List Token → List Token → Type 0 where
    Required : (t : Token) (w : List ℕ) (xs : List Token) → IsIdentifier t w → DerivesParameter (parameter param_kind.Required w t.span None) (t ∷ xs) xs
    Optional : (t e : Token) (w : List ℕ) (v : Tree) (xs ys : List Token) → IsIdentifier t w → Is shape.Assign e → DerivesTerm true v xs ys → DerivesParameter (parameter param_kind.Optional w t.span (Some v)) (t ∷ e ∷ xs) ys
    RequiredKeyword : (l : Token) (w : List ℕ) (xs : List Token) → IsLabel l w → DerivesParameter (parameter param_kind.Key w l.span None) (l ∷ xs) xs
    OptionalKeyword : (l : Token) (w : List ℕ) (v : Tree) (xs ys : List Token) → IsLabel l w → DerivesTerm true v xs ys → DerivesParameter (parameter param_kind.KeyOptional w l.span (Some v)) (l ∷ xs) ys
    BlockParameter : (a t : Token) (w : List ℕ) (xs : List Token) → Is shape.Ampersand a → IsIdentifier t w → DerivesParameter (parameter param_kind.Block w t.span None) (a ∷ t ∷ xs) xs

-- ---- programs

-- The tokens are a program, and this is its tree.
abbrev pub Derives : List Token → Tree → Type 0
Derives tokens t = DerivesBody Top true t tokens []

-- The tokens begin some program: with others after them they are one.
abbrev pub Begins : List Token → Type 0
Begins tokens = (more : List Token) × (t : Tree) × Derives (tokens ++ more) t

-- The refused token: those before it begin a program, and with it they begin none.
pub record BadAt (tokens : List Token) (at : ℕ) : Type 0 where
  pub before : List Token
  pub bad : Token
  pub after : List Token
  pub whole : tokens ≡ before ++ bad ∷ after
  pub place : at ≡ bad.span.start
  pub begins : Begins before
  pub none : ¬ Begins (before ++ bad ∷ [])

-- The tokens end too early: they begin a program and are none.
pub record EndsEarly (tokens : List Token) : Type 0 where
  pub begins : Begins tokens
  pub none : (t : Tree) → ¬ Derives tokens t
