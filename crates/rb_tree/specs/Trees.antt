-- Trees: the place of a tree.
use Rattle.srb_terms.specs.declared.span.Span.{Span}
use Rattle.rb_tree.specs.declared.syntax.Tree.{Tree}
use Rattle.rb_tree.specs.declared.syntax.Node.{Node, out-Node}
use Rattle.rb_tree.specs.declared.syntax.Node.TheOpen.{Node-F}

-- the span of a node, whatever stands for the trees in it
abbrev pub span_at : {X Y : Type 0} → Node-F X Y → Span
span_at (Node-F.Body statements span) = span
span_at (Node-F.Modified statement modifier condition span) = span
span_at (Node-F.Jump jump value span) = span
span_at (Node-F.Assign target value span) = span
span_at (Node-F.OperatorAssign target operator operator_span value span) = span
span_at (Node-F.Command callee arguments block span) = span
span_at (Node-F.Conditional condition positive negative span) = span
span_at (Node-F.Binary operator operator_span left right span) = span
span_at (Node-F.Unary operator operand span) = span
span_at (Node-F.Post receiver suffixes span) = span
span_at (Node-F.Whole sign words span) = span
span_at (Node-F.Float sign words span) = span
span_at (Node-F.Text pieces span) = span
span_at (Node-F.Symbol words span) = span
span_at (Node-F.InstanceVariable name span) = span
span_at (Node-F.Constant name span) = span
span_at (Node-F.TopConstant name name_span span) = span
span_at (Node-F.SelfWord span) = span
span_at (Node-F.Nil span) = span
span_at (Node-F.True span) = span
span_at (Node-F.False span) = span
span_at (Node-F.Name name span) = span
span_at (Node-F.Call name name_span arguments block span) = span
span_at (Node-F.Yield arguments span) = span
span_at (Node-F.Super arguments span) = span
span_at (Node-F.Array elements span) = span
span_at (Node-F.Hash pairs span) = span
span_at (Node-F.Parens body span) = span
span_at (Node-F.If test condition body arms otherwise span) = span
span_at (Node-F.While test condition body span) = span
span_at (Node-F.Case subject arms otherwise span) = span
span_at (Node-F.Begin guarded span) = span
span_at (Node-F.Class path superclass body span) = span
span_at (Node-F.Module path body span) = span
span_at (Node-F.Def visibility own name name_span parameters guarded span) = span

-- the span of what a tree is
unfoldable pub span_of_node : Node → Span
span_of_node n = span_at (out-Node n)

-- the span of a tree
unfoldable pub span_of : Tree → Span
span_of t = span_of_node t.node
