-- What is known of the trees in a node: a node with, in the place of each tree in it, what the judgement knows of that tree.
use Rattle.std.specs.Prelude.{List, map, Option, option_map}
use Rattle.rb_tree.specs.declared.syntax.Argument.{Argument}
use Rattle.rb_tree.specs.declared.syntax.Argument.TheVariants as argument
use Rattle.rb_tree.specs.declared.syntax.Arm.{Arm}
use Rattle.rb_tree.specs.declared.syntax.Block.{Block}
use Rattle.rb_tree.specs.declared.syntax.Guarded.{Guarded}
use Rattle.rb_tree.specs.declared.syntax.Pair.{Pair}
use Rattle.rb_tree.specs.declared.syntax.Pair.TheVariants as pair
use Rattle.rb_tree.specs.declared.syntax.Parameter.{Parameter}
use Rattle.rb_tree.specs.declared.syntax.Piece.{Piece}
use Rattle.rb_tree.specs.declared.syntax.Piece.TheVariants as piece
use Rattle.rb_tree.specs.declared.syntax.Rescue.{Rescue}
use Rattle.rb_tree.specs.declared.syntax.Suffix.{Suffix}
use Rattle.rb_tree.specs.declared.syntax.Suffix.TheVariants as suffix
use Rattle.rb_tree.specs.declared.syntax.Tree.{Tree}
use Rattle.rb_tree.specs.declared.syntax.When.{When}
use Rattle.rb_tree.specs.declared.syntax.Node.{Node, out-Node}
use Rattle.rb_tree.specs.declared.syntax.Node.TheOpen.{Node-F}
use Rattle.srb_judgement.specs.Judgements.{part_at, part_of}
use Rattle.srb_judgement.specs.Languages.{Language}
use Rattle.srb_judgement.specs.Parts.{Part}

module _ {T X : Type 0} (L : Language T X) where
  abbrev pub part_in : Tree → Part T X
  part_in t = part_of L t

  -- ---- rows

  abbrev pub known_trees : List Tree → List (Part T X)
  known_trees trees = map (part_of L) trees

  abbrev pub known_option : Option Tree → Option (Part T X)
  known_option tree = option_map (part_of L) tree

  abbrev pub known_argument : Argument Tree → Argument (Part T X)
  known_argument (argument.Positional value) = argument.Positional (part_of L value)
  known_argument (argument.Keyword name span value) = argument.Keyword name span (part_of L value)
  known_argument (argument.Block span value) = argument.Block span (part_of L value)

  abbrev pub known_arguments : List (Argument Tree) → List (Argument (Part T X))
  known_arguments arguments = map known_argument arguments

  abbrev pub known_brackets : Option (List (Argument Tree)) → Option (List (Argument (Part T X)))
  known_brackets arguments = option_map known_arguments arguments

  abbrev pub known_block : Block Tree → Block (Part T X)
  known_block b = record { parameters = b.parameters; body = part_of L b.body; span = b.span }

  abbrev pub known_blocks : Option (Block Tree) → Option (Block (Part T X))
  known_blocks b = option_map known_block b

  abbrev pub known_suffix : Suffix Tree → Suffix (Part T X)
  known_suffix (suffix.Call dot name name_span arguments block span) =
      suffix.Call dot name name_span (known_brackets arguments) (known_blocks block) span
  known_suffix (suffix.Constant name name_span span) = suffix.Constant name name_span span
  known_suffix (suffix.Index arguments span) = suffix.Index (known_arguments arguments) span

  abbrev pub known_suffixes : List (Suffix Tree) → List (Suffix (Part T X))
  known_suffixes suffixes = map known_suffix suffixes

  abbrev pub known_piece : Piece Tree → Piece (Part T X)
  known_piece (piece.Words words span) = piece.Words words span
  known_piece (piece.Code body span) = piece.Code (part_of L body) span

  abbrev pub known_pieces : List (Piece Tree) → List (Piece (Part T X))
  known_pieces pieces = map known_piece pieces

  abbrev pub known_pair : Pair Tree → Pair (Part T X)
  known_pair (pair.Arrow key value) = pair.Arrow (part_of L key) (part_of L value)
  known_pair (pair.Label name span value) = pair.Label name span (part_of L value)

  abbrev pub known_pairs : List (Pair Tree) → List (Pair (Part T X))
  known_pairs pairs = map known_pair pairs

  abbrev pub known_arm : Arm Tree → Arm (Part T X)
  known_arm a = record { condition = part_of L a.condition; body = part_of L a.body }

  abbrev pub known_arms : List (Arm Tree) → List (Arm (Part T X))
  known_arms arms = map known_arm arms

  abbrev pub known_when : When Tree → When (Part T X)
  known_when w = record { patterns = known_trees w.patterns; body = part_of L w.body }

  abbrev pub known_whens : List (When Tree) → List (When (Part T X))
  known_whens whens = map known_when whens

  abbrev pub known_rescue : Rescue Tree → Rescue (Part T X)
  known_rescue r = record { patterns = known_trees r.patterns; variable = r.variable; body = part_of L r.body }

  abbrev pub known_rescues : List (Rescue Tree) → List (Rescue (Part T X))
  known_rescues rescues = map known_rescue rescues

  abbrev pub known_guarded : Guarded Tree → Guarded (Part T X)
  known_guarded g = record {
    body = part_of L g.body;
    rescues = known_rescues g.rescues;
    otherwise = known_option g.otherwise;
    ensure = known_option g.ensure;
  }

  abbrev pub known_parameter : Parameter Tree → Parameter (Part T X)
  known_parameter p = record { kind = p.kind; name = p.name; span = p.span; default = known_option p.default }

  abbrev pub known_parameters : List (Parameter Tree) → List (Parameter (Part T X))
  known_parameters parameters = map known_parameter parameters

  -- ---- nodes

  abbrev pub known_node : Node-F Node Tree → Node-F (Part T X) (Part T X)
  known_node (Node-F.Body statements span) = Node-F.Body (known_trees statements) span
  known_node (Node-F.Modified statement modifier condition span) = Node-F.Modified (part_of L statement) modifier (part_of L condition) span
  known_node (Node-F.Jump jump value span) = Node-F.Jump jump (known_option value) span
  known_node (Node-F.Assign target value span) = Node-F.Assign (part_of L target) (part_of L value) span
  known_node (Node-F.OperatorAssign target operator operator_span value span) =
      Node-F.OperatorAssign (part_of L target) operator operator_span (part_of L value) span
  known_node (Node-F.Command callee arguments block span) =
      Node-F.Command (part_of L callee) (known_arguments arguments) (known_blocks block) span
  known_node (Node-F.Conditional condition positive negative span) =
      Node-F.Conditional (part_of L condition) (part_of L positive) (part_of L negative) span
  known_node (Node-F.Binary operator operator_span left right span) =
      Node-F.Binary operator operator_span (part_of L left) (part_of L right) span
  known_node (Node-F.Unary operator operand span) = Node-F.Unary operator (part_of L operand) span
  known_node (Node-F.Post receiver suffixes span) = Node-F.Post (part_of L receiver) (known_suffixes suffixes) span
  known_node (Node-F.Whole sign words span) = Node-F.Whole sign words span
  known_node (Node-F.Float sign words span) = Node-F.Float sign words span
  known_node (Node-F.Text pieces span) = Node-F.Text (known_pieces pieces) span
  known_node (Node-F.Symbol words span) = Node-F.Symbol words span
  known_node (Node-F.InstanceVariable name span) = Node-F.InstanceVariable name span
  known_node (Node-F.Constant name span) = Node-F.Constant name span
  known_node (Node-F.TopConstant name name_span span) = Node-F.TopConstant name name_span span
  known_node (Node-F.SelfWord span) = Node-F.SelfWord span
  known_node (Node-F.Nil span) = Node-F.Nil span
  known_node (Node-F.True span) = Node-F.True span
  known_node (Node-F.False span) = Node-F.False span
  known_node (Node-F.Name name span) = Node-F.Name name span
  known_node (Node-F.Call name name_span arguments block span) =
      Node-F.Call name name_span (known_brackets arguments) (known_blocks block) span
  known_node (Node-F.Yield arguments span) = Node-F.Yield (known_brackets arguments) span
  known_node (Node-F.Super arguments span) = Node-F.Super (known_brackets arguments) span
  known_node (Node-F.Array elements span) = Node-F.Array (known_trees elements) span
  known_node (Node-F.Hash pairs span) = Node-F.Hash (known_pairs pairs) span
  known_node (Node-F.Parens body span) = Node-F.Parens (part_of L body) span
  known_node (Node-F.If test condition body arms otherwise span) =
      Node-F.If test (part_of L condition) (part_of L body) (known_arms arms) (known_option otherwise) span
  known_node (Node-F.While test condition body span) = Node-F.While test (part_of L condition) (part_of L body) span
  known_node (Node-F.Case subject arms otherwise span) =
      Node-F.Case (known_option subject) (known_whens arms) (known_option otherwise) span
  known_node (Node-F.Begin guarded span) = Node-F.Begin (known_guarded guarded) span
  known_node (Node-F.Class path superclass body span) = Node-F.Class path superclass (part_of L body) span
  known_node (Node-F.Module path body span) = Node-F.Module path (part_of L body) span
  known_node (Node-F.Def visibility own name name_span parameters guarded span) =
      Node-F.Def visibility own name name_span (known_parameters parameters) (known_guarded guarded) span

  -- what is known of a tree by its node
  unfoldable pub part_by_node : Tree → Part T X
  part_by_node t = part_at L (known_node (out-Node t.node))
