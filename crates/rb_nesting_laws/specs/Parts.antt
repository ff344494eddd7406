-- The parts of a tree, in the order of the text: where they stand, those that have parts of their own, and the trees among them.
use Rattle.std.specs.Prelude.{List, [], ◌∷◌, ◌++◌, Option, Some, None}
use Rattle.srb_terms.specs.declared.span.Span.{Span}
use Rattle.rb_tree.specs.Trees.{span_at, span_of}
use Rattle.rb_tree.specs.declared.syntax.Tree.{Tree}
use Rattle.rb_tree.specs.declared.syntax.Node.{out-Node}
use Rattle.rb_tree.specs.declared.syntax.Node.TheOpen.{Node-F}
use Rattle.rb_tree.specs.declared.syntax.Argument.{Argument}
use Rattle.rb_tree.specs.declared.syntax.Argument.TheVariants as argument
use Rattle.rb_tree.specs.declared.syntax.Arm.{Arm}
use Rattle.rb_tree.specs.declared.syntax.Block.{Block}
use Rattle.rb_tree.specs.declared.syntax.Guarded.{Guarded}
use Rattle.rb_tree.specs.declared.syntax.Pair.{Pair}
use Rattle.rb_tree.specs.declared.syntax.Pair.TheVariants as pair
use Rattle.rb_tree.specs.declared.syntax.Parameter.{Parameter}
use Rattle.rb_tree.specs.declared.syntax.Piece.{Piece}
use Rattle.rb_tree.specs.declared.syntax.Piece.TheVariants as piece
use Rattle.rb_tree.specs.declared.syntax.PlacedName.{PlacedName}
use Rattle.rb_tree.specs.declared.syntax.Reference.{Reference}
use Rattle.rb_tree.specs.declared.syntax.Rescue.{Rescue}
use Rattle.rb_tree.specs.declared.syntax.Suffix.{Suffix}
use Rattle.rb_tree.specs.declared.syntax.Suffix.TheVariants as suffix
use Rattle.rb_tree.specs.declared.syntax.When.{When}

-- a place, and the places of the parts of what stands there
pub record Holder : Type 0 where
  pub whole : Span
  pub parts : List Span

-- The places of parts in a row. The holders are those parts that are no trees and have parts of their own, and those in them; the
-- trees are those among the parts and in the holders.
pub record Parts : Type 0 where
  pub places : List Span
  pub holders : List Holder
  pub trees : List Tree

-- ---- parts in a row

abbrev pub nothing : Parts
nothing = record { places = []; holders = []; trees = [] }

-- the second parts stand after the first
abbrev pub both : Parts → Parts → Parts
both a b = record { places = a.places ++ b.places; holders = a.holders ++ b.holders; trees = a.trees ++ b.trees }

-- the parts of each element
abbrev pub all_of : {A : Type 0} → (A → Parts) → List A → Parts
all_of parts [] = nothing
all_of parts (x ∷ xs) = both (parts x) (all_of parts xs)

-- the parts of what is there, if anything is
abbrev pub any_of : {A : Type 0} → (A → Parts) → Option A → Parts
any_of parts None = nothing
any_of parts (Some x) = parts x

-- a place that has no parts: that of a name or an operator
abbrev pub at_place : Span → Parts
at_place span = record { places = span ∷ []; holders = []; trees = [] }

-- a place with parts that is no tree
abbrev pub holding : Span → Parts → Parts
holding span parts = record { places = span ∷ []; holders = record { whole = span; parts = parts.places } ∷ parts.holders; trees = parts.trees }

-- a tree
abbrev pub of_tree : Tree → Parts
of_tree t = record { places = span_of t ∷ []; holders = []; trees = t ∷ [] }

-- a body stands nowhere if it has no statement
abbrev pub body_places : {N X : Type 0} → Node-F N X → List Span
body_places (Node-F.Body [] span) = []
body_places n = span_at n ∷ []

abbrev pub of_body : Tree → Parts
of_body t = record { places = body_places (out-Node t.node); holders = []; trees = t ∷ [] }

-- ---- parts of trees

abbrev pub of_name : PlacedName → Parts
of_name n = at_place n.span

abbrev pub of_reference : Reference → Parts
of_reference r = holding r.span (all_of of_name r.path)

abbrev pub of_argument : Argument Tree → Parts
of_argument (argument.Positional value) = of_tree value
of_argument (argument.Keyword name span value) = both (at_place span) (of_tree value)
of_argument (argument.Block span value) = both (at_place span) (of_tree value)

abbrev pub of_arguments : List (Argument Tree) → Parts
of_arguments arguments = all_of of_argument arguments

abbrev pub of_block : Block Tree → Parts
of_block b = holding b.span (both (all_of of_name b.parameters) (of_body b.body))

abbrev pub of_suffix : Suffix Tree → Parts
of_suffix (suffix.Call dot name name_span arguments block span) = holding span (both (both (at_place name_span) (any_of of_arguments arguments)) (any_of of_block block))
of_suffix (suffix.Constant name name_span span) = holding span (at_place name_span)
of_suffix (suffix.Index arguments span) = holding span (of_arguments arguments)

abbrev pub of_piece : Piece Tree → Parts
of_piece (piece.Words words span) = at_place span
of_piece (piece.Code body span) = holding span (of_body body)

abbrev pub of_pair : Pair Tree → Parts
of_pair (pair.Arrow key value) = both (of_tree key) (of_tree value)
of_pair (pair.Label name span value) = both (at_place span) (of_tree value)

abbrev pub of_arm : Arm Tree → Parts
of_arm a = both (of_tree a.condition) (of_body a.body)

abbrev pub of_when : When Tree → Parts
of_when w = both (all_of of_tree w.patterns) (of_body w.body)

abbrev pub of_parameter : Parameter Tree → Parts
of_parameter p = both (at_place p.span) (any_of of_tree p.default)

abbrev pub of_rescue : Rescue Tree → Parts
of_rescue r = both (both (all_of of_tree r.patterns) (any_of of_name r.variable)) (of_body r.body)

abbrev pub of_guarded : Guarded Tree → Parts
of_guarded g = both (both (both (of_body g.body) (all_of of_rescue g.rescues)) (any_of of_body g.otherwise)) (any_of of_body g.ensure)

-- the parts of a node
abbrev pub of_node : {N : Type 0} → Node-F N Tree → Parts
of_node (Node-F.Body statements span) = all_of of_tree statements
of_node (Node-F.Modified statement modifier condition span) = both (of_tree statement) (of_tree condition)
of_node (Node-F.Jump jump value span) = any_of of_tree value
of_node (Node-F.Assign target value span) = both (of_tree target) (of_tree value)
of_node (Node-F.OperatorAssign target operator operator_span value span) = both (both (of_tree target) (at_place operator_span)) (of_tree value)
of_node (Node-F.Command callee arguments block span) = both (both (of_tree callee) (of_arguments arguments)) (any_of of_block block)
of_node (Node-F.Conditional condition positive negative span) = both (both (of_tree condition) (of_tree positive)) (of_tree negative)
of_node (Node-F.Binary operator operator_span left right span) = both (both (of_tree left) (at_place operator_span)) (of_tree right)
of_node (Node-F.Unary operator operand span) = of_tree operand
of_node (Node-F.Post receiver suffixes span) = both (of_tree receiver) (all_of of_suffix suffixes)
of_node (Node-F.Text pieces span) = all_of of_piece pieces
of_node (Node-F.TopConstant name name_span span) = at_place name_span
of_node (Node-F.Call name name_span arguments block span) = both (both (at_place name_span) (any_of of_arguments arguments)) (any_of of_block block)
of_node (Node-F.Yield arguments span) = any_of of_arguments arguments
of_node (Node-F.Super arguments span) = any_of of_arguments arguments
of_node (Node-F.Array elements span) = all_of of_tree elements
of_node (Node-F.Hash pairs span) = all_of of_pair pairs
of_node (Node-F.Parens body span) = of_body body
of_node (Node-F.If test condition body arms otherwise span) = both (both (both (of_tree condition) (of_body body)) (all_of of_arm arms)) (any_of of_body otherwise)
of_node (Node-F.While test condition body span) = both (of_tree condition) (of_body body)
of_node (Node-F.Case subject arms otherwise span) = both (both (any_of of_tree subject) (all_of of_when arms)) (any_of of_body otherwise)
of_node (Node-F.Begin guarded span) = of_guarded guarded
of_node (Node-F.Class path superclass body span) = both (both (all_of of_name path) (any_of of_reference superclass)) (of_body body)
of_node (Node-F.Module path body span) = both (all_of of_name path) (of_body body)
of_node (Node-F.Def visibility own name name_span parameters guarded span) = both (both (at_place name_span) (all_of of_parameter parameters)) (of_guarded guarded)
of_node _ = nothing

-- the parts of a tree
abbrev pub parts_of : Tree → Parts
parts_of t = of_node (out-Node t.node)
