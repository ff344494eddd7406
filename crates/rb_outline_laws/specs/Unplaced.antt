-- Trees without their places.
use Rattle.std.specs.Prelude.{◌≡◌, ◌↔◌, map}
use Rattle.std.specs.Option.{option_map}
use Rattle.srb_terms.specs.declared.span.Span.{Span}
use Rattle.rb_tree.specs.declared.syntax.Tree.{Tree, fold-Tree}
use Rattle.rb_tree.specs.declared.syntax.Node.{Node}
use Rattle.rb_tree.specs.declared.syntax.Node.TheOpen.{Node-F}
use Rattle.rb_tree.specs.declared.syntax.Node.TheViews.{roll-Node}
use Rattle.rb_tree.specs.declared.syntax.Suffix.{Suffix}
use Rattle.rb_tree.specs.declared.syntax.Suffix.TheVariants as suffix
use Rattle.rb_tree.specs.declared.syntax.Argument.{Argument}
use Rattle.rb_tree.specs.declared.syntax.Argument.TheVariants as argument
use Rattle.rb_tree.specs.declared.syntax.Block.{Block}
use Rattle.rb_tree.specs.declared.syntax.Piece.{Piece}
use Rattle.rb_tree.specs.declared.syntax.Piece.TheVariants as piece
use Rattle.rb_tree.specs.declared.syntax.Pair.{Pair}
use Rattle.rb_tree.specs.declared.syntax.Pair.TheVariants as pair
use Rattle.rb_tree.specs.declared.syntax.PlacedName.{PlacedName}
use Rattle.rb_tree.specs.declared.syntax.Reference.{Reference}
use Rattle.rb_tree.specs.declared.syntax.Parameter.{Parameter}
use Rattle.rb_tree.specs.declared.syntax.Guarded.{Guarded}
use Rattle.rb_tree.specs.declared.syntax.Rescue.{Rescue}
use Rattle.rb_outline.specs.Outlines.{outline_of}

-- the place that stands for all places
abbrev pub nowhere : Span
nowhere = record { start = 0; end = 0 }

-- ---- parts: their own places are set, and the trees in them stay

-- a name, and a superclass
abbrev pub unplaced_name : PlacedName → PlacedName
unplaced_name n = record { name = n.name; span = nowhere }

abbrev pub unplaced_reference : Reference → Reference
unplaced_reference r = record { top = r.top; path = map unplaced_name r.path; span = nowhere }

-- `X` is the trees in a part
module _ {X : Type 0} where
  -- an argument
  abbrev pub unplaced_argument : Argument X → Argument X
  unplaced_argument (argument.Positional value) = argument.Positional value
  unplaced_argument (argument.Keyword name span value) = argument.Keyword name nowhere value
  unplaced_argument (argument.Block span value) = argument.Block nowhere value

  -- a block
  abbrev pub unplaced_block : Block X → Block X
  unplaced_block b = record { parameters = map unplaced_name b.parameters; body = b.body; span = nowhere }

  -- a suffix
  abbrev pub unplaced_suffix : Suffix X → Suffix X
  unplaced_suffix (suffix.Call how name name_span arguments block span) =
      suffix.Call how name nowhere (option_map (map unplaced_argument) arguments) (option_map unplaced_block block) nowhere
  unplaced_suffix (suffix.Constant name name_span span) = suffix.Constant name nowhere nowhere
  unplaced_suffix (suffix.Index arguments span) = suffix.Index (map unplaced_argument arguments) nowhere

  -- a piece of a string
  abbrev pub unplaced_piece : Piece X → Piece X
  unplaced_piece (piece.Words words span) = piece.Words words nowhere
  unplaced_piece (piece.Code body span) = piece.Code body nowhere

  -- a pair of a hash
  abbrev pub unplaced_pair : Pair X → Pair X
  unplaced_pair (pair.Arrow key value) = pair.Arrow key value
  unplaced_pair (pair.Label name span value) = pair.Label name nowhere value

  -- a `rescue` clause
  abbrev pub unplaced_rescue : Rescue X → Rescue X
  unplaced_rescue r = record { patterns = r.patterns; variable = option_map unplaced_name r.variable; body = r.body }

  -- a parameter
  abbrev pub unplaced_parameter : Parameter X → Parameter X
  unplaced_parameter p = record { kind = p.kind; name = p.name; span = nowhere; default = p.default }

  -- a body with its clauses
  abbrev pub unplaced_guarded : Guarded X → Guarded X
  unplaced_guarded g = record { body = g.body; rescues = map unplaced_rescue g.rescues; otherwise = g.otherwise; ensure = g.ensure }

-- ---- trees

-- a node, where the trees in it stay as they are
abbrev pub unplaced_node : {X Y : Type 0} → Node-F X Y → Node-F X Y
unplaced_node (Node-F.Body statements span) = Node-F.Body statements nowhere
unplaced_node (Node-F.Modified statement modifier condition span) = Node-F.Modified statement modifier condition nowhere
unplaced_node (Node-F.Jump jump value span) = Node-F.Jump jump value nowhere
unplaced_node (Node-F.Assign target value span) = Node-F.Assign target value nowhere
unplaced_node (Node-F.OperatorAssign target operator operator_span value span) = Node-F.OperatorAssign target operator nowhere value nowhere
unplaced_node (Node-F.Command callee arguments block span) =
    Node-F.Command callee (map unplaced_argument arguments) (option_map unplaced_block block) nowhere
unplaced_node (Node-F.Conditional condition positive negative span) = Node-F.Conditional condition positive negative nowhere
unplaced_node (Node-F.Binary operator operator_span left right span) = Node-F.Binary operator nowhere left right nowhere
unplaced_node (Node-F.Unary operator operand span) = Node-F.Unary operator operand nowhere
unplaced_node (Node-F.Post receiver suffixes span) = Node-F.Post receiver (map unplaced_suffix suffixes) nowhere
unplaced_node (Node-F.Whole sign words span) = Node-F.Whole sign words nowhere
unplaced_node (Node-F.Float sign words span) = Node-F.Float sign words nowhere
unplaced_node (Node-F.Text pieces span) = Node-F.Text (map unplaced_piece pieces) nowhere
unplaced_node (Node-F.Symbol words span) = Node-F.Symbol words nowhere
unplaced_node (Node-F.InstanceVariable name span) = Node-F.InstanceVariable name nowhere
unplaced_node (Node-F.Constant name span) = Node-F.Constant name nowhere
unplaced_node (Node-F.TopConstant name name_span span) = Node-F.TopConstant name nowhere nowhere
unplaced_node (Node-F.SelfWord span) = Node-F.SelfWord nowhere
unplaced_node (Node-F.Nil span) = Node-F.Nil nowhere
unplaced_node (Node-F.True span) = Node-F.True nowhere
unplaced_node (Node-F.False span) = Node-F.False nowhere
unplaced_node (Node-F.Name name span) = Node-F.Name name nowhere
unplaced_node (Node-F.Call name name_span arguments block span) =
    Node-F.Call name nowhere (option_map (map unplaced_argument) arguments) (option_map unplaced_block block) nowhere
unplaced_node (Node-F.Yield arguments span) = Node-F.Yield (option_map (map unplaced_argument) arguments) nowhere
unplaced_node (Node-F.Super arguments span) = Node-F.Super (option_map (map unplaced_argument) arguments) nowhere
unplaced_node (Node-F.Array elements span) = Node-F.Array elements nowhere
unplaced_node (Node-F.Hash pairs span) = Node-F.Hash (map unplaced_pair pairs) nowhere
unplaced_node (Node-F.Parens body span) = Node-F.Parens body nowhere
unplaced_node (Node-F.If test condition body arms otherwise span) = Node-F.If test condition body arms otherwise nowhere
unplaced_node (Node-F.While test condition body span) = Node-F.While test condition body nowhere
unplaced_node (Node-F.Case subject arms otherwise span) = Node-F.Case subject arms otherwise nowhere
unplaced_node (Node-F.Begin guarded span) = Node-F.Begin (unplaced_guarded guarded) nowhere
unplaced_node (Node-F.Class path superclass body span) = Node-F.Class (map unplaced_name path) (option_map unplaced_reference superclass) body nowhere
unplaced_node (Node-F.Module path body span) = Node-F.Module (map unplaced_name path) body nowhere
unplaced_node (Node-F.Def visibility own name name_span parameters guarded span) =
    Node-F.Def visibility own name nowhere (map unplaced_parameter parameters) (unplaced_guarded guarded) nowhere

-- a tree with each place in it, its own and those of its parts, set to 0 to 0
unfoldable pub unplaced : Tree → Tree
unplaced = fold-Tree Node Tree (λ x. roll-Node (unplaced_node x)) (λ t. record { node = t.node })

-- ---- the law

-- two trees have equal outlines exactly where they are equal without their places
abbrev pub OutlinesAreTreesWithoutPlaces : Type 0
OutlinesAreTreesWithoutPlaces = (t u : Tree) → (outline_of t ≡ outline_of u) ↔ (unplaced t ≡ unplaced u)
