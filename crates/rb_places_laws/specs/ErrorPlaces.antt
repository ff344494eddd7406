-- The places in a tree at which errors of the judgement can stand: those of its nodes, of names and operators, of the words of jumps, of
-- operators in front, of the `[` of an index, and of the prefixes of rows of suffixes.
use Rattle.srb_terms.specs.declared.span.Span.{Span}
use Rattle.rb_tree.specs.Trees.{span_at, span_of}
use Rattle.rb_tree.specs.declared.syntax.Tree.{Tree}
use Rattle.rb_tree.specs.declared.syntax.Node.TheOpen.{Node-F}
use Rattle.rb_tree.specs.declared.syntax.Node.TheFolds.{rec-Tree}
use Rattle.rb_tree.specs.declared.syntax.Argument.{Argument}
use Rattle.rb_tree.specs.declared.syntax.Argument.TheVariants as argument
use Rattle.rb_tree.specs.declared.syntax.Arm.{Arm}
use Rattle.rb_tree.specs.declared.syntax.Block.{Block}
use Rattle.rb_tree.specs.declared.syntax.Guarded.{Guarded}
use Rattle.rb_tree.specs.declared.syntax.Pair.{Pair}
use Rattle.rb_tree.specs.declared.syntax.Pair.TheVariants as pair
use Rattle.rb_tree.specs.declared.syntax.Parameter.{Parameter}
use Rattle.rb_tree.specs.declared.syntax.Piece.{Piece}
use Rattle.rb_tree.specs.declared.syntax.Piece.TheVariants as piece
use Rattle.rb_tree.specs.declared.syntax.PlacedName.{PlacedName}
use Rattle.rb_tree.specs.declared.syntax.Rescue.{Rescue}
use Rattle.rb_tree.specs.declared.syntax.Suffix.{Suffix}
use Rattle.rb_tree.specs.declared.syntax.Suffix.TheVariants as suffix
use Rattle.rb_tree.specs.declared.syntax.When.{When}
use Rattle.rb_views.specs.Places.{open_bracket, prefix_operator, jump_word}
use Rattle.rb_grammar.specs.Places.{Each, IfThere}

-- from where a row begins to where one of its suffixes ends
abbrev pub prefix_to : Span → Span → Span
prefix_to front suffix = record { start = front.start; end = suffix.end }

module _ (P : Span → Type 0) where
  abbrev pub HasName : PlacedName → Type 0
  HasName n = P n.span

  -- ---- the parts of a node, where `Has` says that the places in a tree have the fact, and `place` is the place of a tree
  module _ {X : Type 0} (Has : X → Type 0) (place : X → Span) where
    abbrev pub HasArgument : Argument X → Type 0
    HasArgument (argument.Positional value) = Has value
    HasArgument (argument.Keyword name span value) = Has value
    HasArgument (argument.Block span value) = Has value

    abbrev pub HasBlock : Block X → Type 0
    HasBlock b = Has b.body

    -- a suffix in a row that begins at this place
    abbrev pub HasSuffix : Span → Suffix X → Type 0
    HasSuffix front (suffix.Call how name name_span arguments b span) =
        P (prefix_to front span) × P name_span × IfThere (Each HasArgument) arguments × IfThere HasBlock b
    HasSuffix front (suffix.Constant name name_span span) = P (prefix_to front span)
    HasSuffix front (suffix.Index arguments span) = P (prefix_to front span) × P (open_bracket span) × Each HasArgument arguments

    abbrev pub HasPiece : Piece X → Type 0
    HasPiece (piece.Words words span) = Unit {0}
    HasPiece (piece.Code body span) = Has body

    abbrev pub HasPair : Pair X → Type 0
    HasPair (pair.Arrow key value) = Has key × Has value
    HasPair (pair.Label name span value) = Has value

    abbrev pub HasArm : Arm X → Type 0
    HasArm a = Has a.condition × Has a.body

    abbrev pub HasWhen : When X → Type 0
    HasWhen w = Each Has w.patterns × Has w.body

    abbrev pub HasParameter : Parameter X → Type 0
    HasParameter p = IfThere Has p.default

    abbrev pub HasRescue : Rescue X → Type 0
    HasRescue r = Each Has r.patterns × IfThere HasName r.variable × Has r.body

    abbrev pub HasGuarded : Guarded X → Type 0
    HasGuarded g = Has g.body × Each HasRescue g.rescues × IfThere Has g.otherwise × IfThere Has g.ensure

    -- the places in a node but for its own
    abbrev pub HasParts : {N : Type 0} → Node-F N X → Type 0
    HasParts (Node-F.Body statements span) = Each Has statements
    HasParts (Node-F.Modified statement modifier condition span) = Has statement × Has condition
    HasParts (Node-F.Jump word value span) = P (jump_word word span) × IfThere Has value
    HasParts (Node-F.Assign target value span) = Has target × Has value
    HasParts (Node-F.OperatorAssign target operator operator_span value span) = Has target × P operator_span × Has value
    HasParts (Node-F.Command callee arguments b span) = Has callee × Each HasArgument arguments × IfThere HasBlock b
    HasParts (Node-F.Conditional condition positive negative span) = Has condition × Has positive × Has negative
    HasParts (Node-F.Binary operator operator_span left right span) = P operator_span × Has left × Has right
    HasParts (Node-F.Unary operator operand span) = P (prefix_operator span) × Has operand
    HasParts (Node-F.Post receiver suffixes span) = Has receiver × Each (HasSuffix (place receiver)) suffixes
    HasParts (Node-F.Text pieces span) = Each HasPiece pieces
    HasParts (Node-F.Call name name_span arguments b span) = P name_span × IfThere (Each HasArgument) arguments × IfThere HasBlock b
    HasParts (Node-F.Yield arguments span) = IfThere (Each HasArgument) arguments
    HasParts (Node-F.Super arguments span) = IfThere (Each HasArgument) arguments
    HasParts (Node-F.Array elements span) = Each Has elements
    HasParts (Node-F.Hash pairs span) = Each HasPair pairs
    HasParts (Node-F.Parens body span) = Has body
    HasParts (Node-F.If test condition body arms otherwise span) = Has condition × Has body × Each HasArm arms × IfThere Has otherwise
    HasParts (Node-F.While test condition body span) = Has condition × Has body
    HasParts (Node-F.Case subject whens otherwise span) = IfThere Has subject × Each HasWhen whens × IfThere Has otherwise
    HasParts (Node-F.Begin guarded span) = HasGuarded guarded
    HasParts (Node-F.Class path superclass body span) = Has body
    HasParts (Node-F.Module path body span) = Has body
    HasParts (Node-F.Def visibility own name name_span parameters guarded span) = P name_span × Each HasParameter parameters × HasGuarded guarded
    HasParts _ = Unit {0}

    -- the places in a node
    abbrev pub HasNode : {N : Type 0} → Node-F N X → Type 0
    HasNode n = P (span_at n) × HasParts n

  -- the fact holds of each place in the tree at which an error of the judgement can stand
  unfoldable pub HasErrorPlaces : Tree → Type 0
  HasErrorPlaces =
      rec-Tree (Type 0) (Type 0) (λ N X node tree node_has has n. HasNode has (λ x. span_of (tree x)) n) (λ N X node tree node_has has t. node_has t.node)
