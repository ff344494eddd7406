-- Outlines: a tree without its places.
use Rattle.std.specs.Prelude.{ℕ, Bool, true, false, List, [], ◌∷◌, ◌++◌, map, Option, Some, None, codes}
use Rattle.srb_terms.specs.declared.outline.Outline.{Outline}
use Rattle.srb_terms.specs.declared.outline.Outline.TheViews.{roll-Outline}
use Rattle.srb_terms.specs.declared.outline.NodeKind.{NodeKind}
use Rattle.srb_terms.specs.declared.outline.NodeKind.TheVariants as kind
use Rattle.srb_terms.specs.declared.param_kind.ParamKind.{ParamKind}
use Rattle.srb_terms.specs.declared.param_kind.ParamKind.TheVariants as param
use Rattle.rb_tree.specs.declared.syntax.Tree.{Tree, fold-Tree}
use Rattle.rb_tree.specs.declared.syntax.Node.TheOpen.{Node-F}
use Rattle.rb_tree.specs.declared.syntax.Modifier.{Modifier}
use Rattle.rb_tree.specs.declared.syntax.Modifier.TheVariants as modifier
use Rattle.rb_tree.specs.declared.syntax.Jump.{Jump}
use Rattle.rb_tree.specs.declared.syntax.Jump.TheVariants as jump
use Rattle.rb_tree.specs.declared.syntax.Test.{Test}
use Rattle.rb_tree.specs.declared.syntax.Test.TheVariants as test
use Rattle.rb_tree.specs.declared.syntax.Sign.{Sign}
use Rattle.rb_tree.specs.declared.syntax.Sign.TheVariants as sign
use Rattle.rb_tree.specs.declared.syntax.Unary.{Unary}
use Rattle.rb_tree.specs.declared.syntax.Unary.TheVariants as unary
use Rattle.rb_tree.specs.declared.syntax.Binary.{Binary}
use Rattle.rb_tree.specs.declared.syntax.Binary.TheVariants as binary
use Rattle.rb_tree.specs.declared.syntax.Dot.{Dot}
use Rattle.rb_tree.specs.declared.syntax.Dot.TheVariants as dot
use Rattle.rb_tree.specs.declared.syntax.Visibility.{Visibility}
use Rattle.rb_tree.specs.declared.syntax.Visibility.TheVariants as visibility
use Rattle.rb_tree.specs.declared.syntax.Suffix.{Suffix}
use Rattle.rb_tree.specs.declared.syntax.Suffix.TheVariants as suffix
use Rattle.rb_tree.specs.declared.syntax.Argument.{Argument}
use Rattle.rb_tree.specs.declared.syntax.Argument.TheVariants as argument
use Rattle.rb_tree.specs.declared.syntax.Block.{Block}
use Rattle.rb_tree.specs.declared.syntax.Piece.{Piece}
use Rattle.rb_tree.specs.declared.syntax.Piece.TheVariants as piece
use Rattle.rb_tree.specs.declared.syntax.Pair.{Pair}
use Rattle.rb_tree.specs.declared.syntax.Pair.TheVariants as pair
use Rattle.rb_tree.specs.declared.syntax.Arm.{Arm}
use Rattle.rb_tree.specs.declared.syntax.When.{When}
use Rattle.rb_tree.specs.declared.syntax.PlacedName.{PlacedName}
use Rattle.rb_tree.specs.declared.syntax.Reference.{Reference}
use Rattle.rb_tree.specs.declared.syntax.Parameter.{Parameter}
use Rattle.rb_tree.specs.declared.syntax.Guarded.{Guarded}
use Rattle.rb_tree.specs.declared.syntax.Rescue.{Rescue}

-- the outline of a kind, with words and parts
abbrev pub outline : NodeKind → List ℕ → List Outline → Outline
outline k words parts = roll-Outline (record { label = record { kind = k; words = words }; parts = parts })

-- the outline without parts
abbrev pub leaf : NodeKind → List ℕ → Outline
leaf k words = outline k words []

-- ---- words

-- the words of modifiers, jumps and tests, as they are spelled
abbrev pub modifier_words : Modifier → List ℕ
modifier_words modifier.If = codes "if"
modifier_words modifier.Unless = codes "unless"
modifier_words modifier.While = codes "while"
modifier_words modifier.Until = codes "until"

abbrev pub jump_words : Jump → List ℕ
jump_words jump.Return = codes "return"
jump_words jump.Break = codes "break"
jump_words jump.Next = codes "next"

abbrev pub if_words : Test → List ℕ
if_words test.Positive = codes "if"
if_words test.Negative = codes "unless"

abbrev pub while_words : Test → List ℕ
while_words test.Positive = codes "while"
while_words test.Negative = codes "until"

-- the spellings of signs and operators
abbrev pub sign_words : Sign → List ℕ
sign_words sign.Minus = codes "-"
sign_words sign.Plus = codes "+"

abbrev pub unary_words : Unary → List ℕ
unary_words unary.Minus = codes "-"
unary_words unary.Plus = codes "+"
unary_words unary.Not = codes "!"
unary_words unary.Tilde = codes "~"

abbrev pub binary_words : Binary → List ℕ
binary_words binary.Or = codes "||"
binary_words binary.And = codes "&&"
binary_words binary.Equal = codes "=="
binary_words binary.NotEqual = codes "!="
binary_words binary.CaseEqual = codes "==="
binary_words binary.Compare = codes "<=>"
binary_words binary.Less = codes "<"
binary_words binary.Greater = codes ">"
binary_words binary.LessEqual = codes "<="
binary_words binary.GreaterEqual = codes ">="
binary_words binary.Pipe = codes "|"
binary_words binary.Caret = codes "^"
binary_words binary.Ampersand = codes "&"
binary_words binary.ShiftLeft = codes "<<"
binary_words binary.ShiftRight = codes ">>"
binary_words binary.Plus = codes "+"
binary_words binary.Minus = codes "-"
binary_words binary.Star = codes "*"
binary_words binary.Slash = codes "/"
binary_words binary.Percent = codes "%"
binary_words binary.Power = codes "**"

-- what stands before the name of a method: a visibility, `def`, and whether it is one of the class object (`.`) or not (`#`)
abbrev pub own_mark : Bool → List ℕ
own_mark true = codes "def ."
own_mark false = codes "def #"

abbrev pub visibility_words : Option Visibility → List ℕ
visibility_words None = []
visibility_words (Some visibility.Private) = codes "private "
visibility_words (Some visibility.Protected) = codes "protected "
visibility_words (Some visibility.Public) = codes "public "
visibility_words (Some visibility.PrivateClassMethod) = codes "private_class_method "

-- what stands before the name of a parameter: its kind
abbrev pub param_words : ParamKind → List ℕ
param_words param.Required = codes "req "
param_words param.Optional = codes "opt "
param_words param.Key = codes "keyreq "
param_words param.KeyOptional = codes "key "
param_words param.Block = codes "block "
param_words param.Rest = codes "rest "

-- the words of a `rescue` clause: its variable after `=>`
abbrev pub variable_words : Option PlacedName → List ℕ
variable_words None = []
variable_words (Some name) = codes "=> " ++ name.name

-- the words of a superclass: `::` where it begins so
abbrev pub top_words : Bool → List ℕ
top_words true = codes "::"
top_words false = []

-- ---- parts

-- what may be left out: no part, or one
abbrev pub parts_if : {A : Type 0} → (A → Outline) → Option A → List Outline
parts_if f None = []
parts_if f (Some x) = f x ∷ []

-- the sign of a number
abbrev pub sign_outline : Sign → Outline
sign_outline s = leaf kind.Unary (sign_words s)

-- a name of a path, and one of a block's parameters
abbrev pub constant_outline : PlacedName → Outline
constant_outline name = leaf kind.Constant name.name

abbrev pub name_outline : PlacedName → Outline
name_outline name = leaf kind.Name name.name

-- a superclass: its path
abbrev pub superclass_outline : Reference → Outline
superclass_outline r = outline kind.Superclass (top_words r.top) (map constant_outline r.path)

-- a call by `.` and one by `&.`
abbrev pub dotted : Dot → NodeKind
dotted dot.Plain = kind.SuffixCall
dotted dot.Safe = kind.SafeCall

-- the parts of a node, where `f` is the outline of a tree in it
module _ {X : Type 0} (f : X → Outline) where
  -- an argument by its place is its value's outline
  abbrev pub argument_outline : Argument X → Outline
  argument_outline (argument.Positional value) = f value
  argument_outline (argument.Keyword name span value) = outline kind.Keyword name (f value ∷ [])
  argument_outline (argument.Block span value) = outline kind.BlockArgument [] (f value ∷ [])

  -- arguments in brackets
  abbrev pub brackets_outline : List (Argument X) → Outline
  brackets_outline arguments = outline kind.Brackets [] (map argument_outline arguments)

  -- a block: its parameters, and then its body
  abbrev pub block_outline : Block X → Outline
  block_outline b = outline kind.Block [] (map name_outline b.parameters ++ f b.body ∷ [])

  -- what stands after the name of a call: the brackets, and then the block
  abbrev pub call_parts : Option (List (Argument X)) → Option (Block X) → List Outline
  call_parts arguments block = parts_if brackets_outline arguments ++ parts_if block_outline block

  abbrev pub suffix_outline : Suffix X → Outline
  suffix_outline (suffix.Call how name name_span arguments block span) = outline (dotted how) name (call_parts arguments block)
  suffix_outline (suffix.Constant name name_span span) = leaf kind.SuffixConstant name
  suffix_outline (suffix.Index arguments span) = outline kind.Index [] (map argument_outline arguments)

  abbrev pub piece_outline : Piece X → Outline
  piece_outline (piece.Words words span) = leaf kind.Piece words
  piece_outline (piece.Code body span) = outline kind.Code [] (f body ∷ [])

  abbrev pub pair_outline : Pair X → Outline
  pair_outline (pair.Arrow key value) = outline kind.ArrowPair [] (f key ∷ f value ∷ [])
  pair_outline (pair.Label name span value) = outline kind.LabelPair name (f value ∷ [])

  -- an `elsif` arm, and a `when` arm with its patterns and then its body
  abbrev pub arm_outline : Arm X → Outline
  arm_outline a = outline kind.Elsif [] (f a.condition ∷ f a.body ∷ [])

  abbrev pub when_outline : When X → Outline
  when_outline w = outline kind.When [] (map f w.patterns ++ f w.body ∷ [])

  -- what stands after `else` and `ensure`
  abbrev pub else_outline : X → Outline
  else_outline x = outline kind.Else [] (f x ∷ [])

  abbrev pub ensure_outline : X → Outline
  ensure_outline x = outline kind.Ensure [] (f x ∷ [])

  -- a `rescue` clause: its expressions, and then its body
  abbrev pub rescue_outline : Rescue X → Outline
  rescue_outline r = outline kind.Rescue (variable_words r.variable) (map f r.patterns ++ f r.body ∷ [])

  -- a parameter, with its default value if it has one
  abbrev pub parameter_outline : Parameter X → Outline
  parameter_outline p = outline kind.Parameter (param_words p.kind ++ p.name) (parts_if f p.default)

  -- a body, its `rescue` clauses, and what stands after `else` and `ensure`
  abbrev pub guarded_parts : Guarded X → List Outline
  guarded_parts g = f g.body ∷ (map rescue_outline g.rescues ++ (parts_if else_outline g.otherwise ++ parts_if ensure_outline g.ensure))

-- ---- a node

-- the kind of a node
abbrev pub kind_at : {X Y : Type 0} → Node-F X Y → NodeKind
kind_at (Node-F.Body statements span) = kind.Body
kind_at (Node-F.Modified statement modifier condition span) = kind.Modified
kind_at (Node-F.Jump jump value span) = kind.Jump
kind_at (Node-F.Assign target value span) = kind.Assign
kind_at (Node-F.OperatorAssign target operator operator_span value span) = kind.OperatorAssign
kind_at (Node-F.Command callee arguments block span) = kind.Command
kind_at (Node-F.Conditional condition positive negative span) = kind.Conditional
kind_at (Node-F.Binary operator operator_span left right span) = kind.Binary
kind_at (Node-F.Unary operator operand span) = kind.Unary
kind_at (Node-F.Post receiver suffixes span) = kind.Post
kind_at (Node-F.Whole sign words span) = kind.Whole
kind_at (Node-F.Float sign words span) = kind.Float
kind_at (Node-F.Text pieces span) = kind.Text
kind_at (Node-F.Symbol words span) = kind.Symbol
kind_at (Node-F.InstanceVariable name span) = kind.InstanceVariable
kind_at (Node-F.Constant name span) = kind.Constant
kind_at (Node-F.TopConstant name name_span span) = kind.TopConstant
kind_at (Node-F.SelfWord span) = kind.SelfWord
kind_at (Node-F.Nil span) = kind.Nil
kind_at (Node-F.True span) = kind.True
kind_at (Node-F.False span) = kind.False
kind_at (Node-F.Name name span) = kind.Name
kind_at (Node-F.Call name name_span arguments block span) = kind.Call
kind_at (Node-F.Yield arguments span) = kind.Yield
kind_at (Node-F.Super arguments span) = kind.Super
kind_at (Node-F.Array elements span) = kind.Array
kind_at (Node-F.Hash pairs span) = kind.Hash
kind_at (Node-F.Parens body span) = kind.Parens
kind_at (Node-F.If test condition body arms otherwise span) = kind.If
kind_at (Node-F.While test condition body span) = kind.While
kind_at (Node-F.Case subject arms otherwise span) = kind.Case
kind_at (Node-F.Begin guarded span) = kind.Begin
kind_at (Node-F.Class path superclass body span) = kind.Class
kind_at (Node-F.Module path body span) = kind.Module
kind_at (Node-F.Def visibility own name name_span parameters guarded span) = kind.Def

-- the words of a node's label
abbrev pub words_at : {X Y : Type 0} → Node-F X Y → List ℕ
words_at (Node-F.Modified statement modifier condition span) = modifier_words modifier
words_at (Node-F.Jump jump value span) = jump_words jump
words_at (Node-F.OperatorAssign target operator operator_span value span) = binary_words operator
words_at (Node-F.Binary operator operator_span left right span) = binary_words operator
words_at (Node-F.Unary operator operand span) = unary_words operator
words_at (Node-F.Whole sign words span) = words
words_at (Node-F.Float sign words span) = words
words_at (Node-F.Symbol words span) = words
words_at (Node-F.InstanceVariable name span) = name
words_at (Node-F.Constant name span) = name
words_at (Node-F.TopConstant name name_span span) = name
words_at (Node-F.Name name span) = name
words_at (Node-F.Call name name_span arguments block span) = name
words_at (Node-F.If test condition body arms otherwise span) = if_words test
words_at (Node-F.While test condition body span) = while_words test
words_at (Node-F.Def visibility own name name_span parameters guarded span) = visibility_words visibility ++ (own_mark own ++ name)
words_at _ = []

-- the parts of a node, in the order of the text; the sign of a number is one, and so is each name of a declared path
abbrev pub parts_at : {X Y : Type 0} → (Y → Outline) → Node-F X Y → List Outline
parts_at f (Node-F.Body statements span) = map f statements
parts_at f (Node-F.Modified statement modifier condition span) = f statement ∷ f condition ∷ []
parts_at f (Node-F.Jump jump value span) = parts_if f value
parts_at f (Node-F.Assign target value span) = f target ∷ f value ∷ []
parts_at f (Node-F.OperatorAssign target operator operator_span value span) = f target ∷ f value ∷ []
parts_at f (Node-F.Command callee arguments block span) = f callee ∷ (map (argument_outline f) arguments ++ parts_if (block_outline f) block)
parts_at f (Node-F.Conditional condition positive negative span) = f condition ∷ f positive ∷ f negative ∷ []
parts_at f (Node-F.Binary operator operator_span left right span) = f left ∷ f right ∷ []
parts_at f (Node-F.Unary operator operand span) = f operand ∷ []
parts_at f (Node-F.Post receiver suffixes span) = f receiver ∷ map (suffix_outline f) suffixes
parts_at f (Node-F.Whole sign words span) = parts_if sign_outline sign
parts_at f (Node-F.Float sign words span) = parts_if sign_outline sign
parts_at f (Node-F.Text pieces span) = map (piece_outline f) pieces
parts_at f (Node-F.Call name name_span arguments block span) = call_parts f arguments block
parts_at f (Node-F.Yield arguments span) = parts_if (brackets_outline f) arguments
parts_at f (Node-F.Super arguments span) = parts_if (brackets_outline f) arguments
parts_at f (Node-F.Array elements span) = map f elements
parts_at f (Node-F.Hash pairs span) = map (pair_outline f) pairs
parts_at f (Node-F.Parens body span) = f body ∷ []
parts_at f (Node-F.If test condition body arms otherwise span) = f condition ∷ f body ∷ (map (arm_outline f) arms ++ parts_if (else_outline f) otherwise)
parts_at f (Node-F.While test condition body span) = f condition ∷ f body ∷ []
parts_at f (Node-F.Case subject arms otherwise span) = parts_if f subject ++ (map (when_outline f) arms ++ parts_if (else_outline f) otherwise)
parts_at f (Node-F.Begin guarded span) = guarded_parts f guarded
parts_at f (Node-F.Class path superclass body span) = map constant_outline path ++ (parts_if superclass_outline superclass ++ f body ∷ [])
parts_at f (Node-F.Module path body span) = map constant_outline path ++ f body ∷ []
parts_at f (Node-F.Def visibility own name name_span parameters guarded span) = map (parameter_outline f) parameters ++ guarded_parts f guarded
parts_at f _ = []

-- the outline of a node, where `f` is that of a tree in it
abbrev pub outline_at : {X Y : Type 0} → (Y → Outline) → Node-F X Y → Outline
outline_at f x = outline (kind_at x) (words_at x) (parts_at f x)

-- the outline of a tree: that of its node, with the outline of each child in its place
unfoldable pub outline_of : Tree → Outline
outline_of = fold-Tree Outline Outline (λ x. outline_at (λ o. o) x) (λ t. t.node)
