-- Operators, words and orders of the grammar: what is told by a token's shape, and the rules on lists that a form holds.
use Rattle.std.specs.Prelude.{◌≡◌, ◌≢◌, ℕ, Bool, true, false, ◌⊎◌, List, [], ◌∷◌, codes, Option, Some, None}
use Rattle.rb_tree.specs.declared.token.Shape.{Shape}
use Rattle.rb_tree.specs.declared.token.Shape.TheVariants as shape
use Rattle.srb_terms.specs.declared.param_kind.ParamKind.{ParamKind}
use Rattle.srb_terms.specs.declared.param_kind.ParamKind.TheVariants as param_kind
use Rattle.rb_tree.specs.declared.syntax.Tree.{Tree}
use Rattle.rb_tree.specs.declared.syntax.Node.{out-Node}
use Rattle.rb_tree.specs.declared.syntax.Node.TheOpen.{Node-F}
use Rattle.rb_tree.specs.declared.syntax.Binary.{Binary}
use Rattle.rb_tree.specs.declared.syntax.Binary.TheVariants as binary
use Rattle.rb_tree.specs.declared.syntax.Argument.{Argument}
use Rattle.rb_tree.specs.declared.syntax.Argument.TheVariants as argument
use Rattle.rb_tree.specs.declared.syntax.Modifier.{Modifier}
use Rattle.rb_tree.specs.declared.syntax.Modifier.TheVariants as modifier
use Rattle.rb_tree.specs.declared.syntax.Parameter.{Parameter}
use Rattle.rb_tree.specs.declared.syntax.PlacedName.{PlacedName}

-- Where statements stand: at top level, in the body of a class or module, or elsewhere. Declarations, and assignments to
-- constants, stand at the first two alone.
pub data Site : Type 0 where
  Top Member Inside : Site

abbrev pub is_top : Site → Bool
is_top Site.Top = true
is_top Site.Member = false
is_top Site.Inside = false

abbrev pub is_open : Site → Bool
is_open Site.Top = true
is_open Site.Member = true
is_open Site.Inside = false

-- ---- operators

-- a table of shapes
abbrev pub found : {A : Type 0} → List (Shape × A) → Shape → A → Type 0
found [] s a = ⊥
found (row ∷ rows) s a = ((s ≡ row.0) × (a ≡ row.1)) ⊎ found rows s a

-- The operators between two operands on each level, the loosest first. Those of the third stand once, those of all others are taken
-- from left to right.
abbrev pub LEVELS : List (List (Shape × Binary))
LEVELS =
    ((shape.OrOr, binary.Or) ∷ [])
    ∷ ((shape.AndAnd, binary.And) ∷ [])
    ∷ ((shape.Equal, binary.Equal) ∷ (shape.NotEqual, binary.NotEqual) ∷ (shape.CaseEqual, binary.CaseEqual) ∷ (shape.Compare, binary.Compare) ∷ [])
    ∷ ((shape.Less, binary.Less) ∷ (shape.Greater, binary.Greater) ∷ (shape.LessEqual, binary.LessEqual) ∷ (shape.GreaterEqual, binary.GreaterEqual) ∷ [])
    ∷ ((shape.Pipe, binary.Pipe) ∷ (shape.Caret, binary.Caret) ∷ [])
    ∷ ((shape.Ampersand, binary.Ampersand) ∷ [])
    ∷ ((shape.ShiftLeft, binary.ShiftLeft) ∷ (shape.ShiftRight, binary.ShiftRight) ∷ [])
    ∷ ((shape.Plus, binary.Plus) ∷ (shape.Minus, binary.Minus) ∷ [])
    ∷ ((shape.Star, binary.Star) ∷ (shape.Slash, binary.Slash) ∷ (shape.Percent, binary.Percent) ∷ [])
    ∷ []

-- what stands at a place of a list
abbrev pub IsAt : {A : Type 0} → List A → ℕ → A → Type 0
IsAt [] n x = ⊥
IsAt (y ∷ ys) ℕ.zero x = x ≡ y
IsAt (y ∷ ys) (ℕ.suc n) x = IsAt ys n x

-- the shape is this operator of the level
pub record Operates (level : ℕ) (s : Shape) (operator : Binary) : Type 0 where
  pub row : List (Shape × Binary)
  pub on_level : IsAt LEVELS level row
  pub listed : found row s operator

-- assignments that compute
abbrev pub ASSIGNMENTS : List (Shape × Binary)
ASSIGNMENTS =
    (shape.PlusAssign, binary.Plus) ∷ (shape.MinusAssign, binary.Minus) ∷ (shape.StarAssign, binary.Star) ∷ (shape.SlashAssign, binary.Slash)
    ∷ (shape.PercentAssign, binary.Percent) ∷ (shape.PowerAssign, binary.Power) ∷ (shape.OrAssign, binary.Or) ∷ (shape.AndAssign, binary.And)
    ∷ (shape.PipeAssign, binary.Pipe) ∷ (shape.AmpersandAssign, binary.Ampersand) ∷ (shape.CaretAssign, binary.Caret)
    ∷ (shape.ShiftLeftAssign, binary.ShiftLeft) ∷ (shape.ShiftRightAssign, binary.ShiftRight) ∷ []

-- operators that are names of methods, with their spellings
abbrev pub METHODS : List (Shape × List ℕ)
METHODS =
    (shape.Plus, codes "+") ∷ (shape.Minus, codes "-") ∷ (shape.Star, codes "*") ∷ (shape.Slash, codes "/") ∷ (shape.Percent, codes "%")
    ∷ (shape.Power, codes "**") ∷ (shape.Equal, codes "==") ∷ (shape.CaseEqual, codes "===") ∷ (shape.Compare, codes "<=>")
    ∷ (shape.Less, codes "<") ∷ (shape.Greater, codes ">") ∷ (shape.LessEqual, codes "<=") ∷ (shape.GreaterEqual, codes ">=")
    ∷ (shape.ShiftLeft, codes "<<") ∷ (shape.ShiftRight, codes ">>") ∷ (shape.Ampersand, codes "&") ∷ (shape.Pipe, codes "|")
    ∷ (shape.Caret, codes "^") ∷ (shape.Not, codes "!") ∷ (shape.Tilde, codes "~") ∷ (shape.Index, codes "[]")
    ∷ (shape.IndexAssign, codes "[]=") ∷ (shape.UnaryMinus, codes "-@") ∷ (shape.UnaryPlus, codes "+@") ∷ []

-- ---- what may not begin a form

-- the words that could be modifiers
abbrev pub MODIFIERS : List Shape
MODIFIERS = shape.If ∷ shape.Unless ∷ shape.While ∷ shape.Until ∷ []

-- what the arguments of a command don't begin with
abbrev pub NO_COMMAND : List Shape
NO_COMMAND =
    shape.Minus ∷ shape.Plus ∷ shape.Star ∷ shape.Power ∷ shape.Ampersand ∷ shape.Slash ∷ shape.Percent ∷ shape.OpenBracket
    ∷ shape.Scope ∷ shape.ShiftLeft ∷ shape.OpenParen ∷ shape.OpenBrace ∷ MODIFIERS

-- a `begin` with its `end` alone
abbrev pub is_begin_at : {X Y : Type 0} → Node-F X Y → Bool
is_begin_at (Node-F.Begin guarded span) = true
is_begin_at other = false

unfoldable pub is_begin : Tree → Bool
is_begin t = is_begin_at (out-Node t.node)

-- the words of modifiers that make a loop of what stands in front
abbrev pub repeats : Modifier → Bool
repeats modifier.If = false
repeats modifier.Unless = false
repeats modifier.While = true
repeats modifier.Until = true

-- the word may modify the statement: `while` and `until` don't stand after a `begin` with its `end` alone
abbrev pub MayModify : Modifier → Tree → Type 0
MayModify word statement = (repeats word ≡ false) ⊎ (is_begin statement ≡ false)

-- ---- orders

-- the arguments are of these kinds in this order: by place, by name, and at most one `&` at the end
abbrev pub EndsByBlock : List (Argument Tree) → Type 0
EndsByBlock [] = Unit {0}
EndsByBlock (argument.Block span value ∷ []) = Unit {0}
EndsByBlock (a ∷ more) = ⊥

abbrev pub AreNamed : List (Argument Tree) → Type 0
AreNamed (argument.Keyword name span value ∷ more) = AreNamed more
AreNamed more = EndsByBlock more

abbrev pub AreOrdered : List (Argument Tree) → Type 0
AreOrdered (argument.Positional value ∷ more) = AreOrdered more
AreOrdered more = AreNamed more

-- there is no `&` among them
abbrev pub HasNoBlock : List (Argument Tree) → Type 0
HasNoBlock [] = Unit {0}
HasNoBlock (argument.Block span value ∷ more) = ⊥
HasNoBlock (a ∷ more) = HasNoBlock more

abbrev pub LeavesBlock : Option (List (Argument Tree)) → Type 0
LeavesBlock None = Unit {0}
LeavesBlock (Some arguments) = HasNoBlock arguments

-- these kinds of parameters stand in this order: required, optional, by name, and at most one block at the end
abbrev pub EndsByBlockKind : List ParamKind → Type 0
EndsByBlockKind [] = Unit {0}
EndsByBlockKind (param_kind.Block ∷ []) = Unit {0}
EndsByBlockKind (kind ∷ more) = ⊥

abbrev pub AreKeyKinds : List ParamKind → Type 0
AreKeyKinds (param_kind.Key ∷ more) = AreKeyKinds more
AreKeyKinds (param_kind.KeyOptional ∷ more) = AreKeyKinds more
AreKeyKinds more = EndsByBlockKind more

abbrev pub AreOptionalKinds : List ParamKind → Type 0
AreOptionalKinds (param_kind.Optional ∷ more) = AreOptionalKinds more
AreOptionalKinds more = AreKeyKinds more

abbrev pub AreKinds : List ParamKind → Type 0
AreKinds (param_kind.Required ∷ more) = AreKinds more
AreKinds more = AreOptionalKinds more

abbrev pub kinds_of : List (Parameter Tree) → List ParamKind
kinds_of [] = []
kinds_of (p ∷ more) = p.kind ∷ kinds_of more

-- the parameters are in this order
abbrev pub AreParameters : List (Parameter Tree) → Type 0
AreParameters parameters = AreKinds (kinds_of parameters)

-- no name stands twice in the list
abbrev pub IsNot : List ℕ → List (List ℕ) → Type 0
IsNot w [] = Unit {0}
IsNot w (v ∷ vs) = (w ≢ v) × IsNot w vs

abbrev pub AreDistinct : List (List ℕ) → Type 0
AreDistinct [] = Unit {0}
AreDistinct (w ∷ ws) = IsNot w ws × AreDistinct ws

abbrev pub names_of_parameters : List (Parameter Tree) → List (List ℕ)
names_of_parameters [] = []
names_of_parameters (p ∷ more) = p.name ∷ names_of_parameters more

abbrev pub names_of : List PlacedName → List (List ℕ)
names_of [] = []
names_of (n ∷ more) = n.name ∷ names_of more
