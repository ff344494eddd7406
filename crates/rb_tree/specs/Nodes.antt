-- The tree of each kind of node.
use Rattle.std.specs.Prelude.{ℕ, Bool, List, Option}
use Rattle.srb_terms.specs.declared.span.Span.{Span}
use Rattle.rb_tree.specs.declared.syntax.Tree.{Tree}
use Rattle.rb_tree.specs.declared.syntax.Node.TheVariants as node
use Rattle.rb_tree.specs.declared.syntax.Modifier.{Modifier}
use Rattle.rb_tree.specs.declared.syntax.Jump.{Jump as JumpWord}
use Rattle.rb_tree.specs.declared.syntax.Test.{Test}
use Rattle.rb_tree.specs.declared.syntax.Sign.{Sign}
use Rattle.rb_tree.specs.declared.syntax.Unary.{Unary as Prefix}
use Rattle.rb_tree.specs.declared.syntax.Binary.{Binary as Operator}
use Rattle.rb_tree.specs.declared.syntax.Visibility.{Visibility}
use Rattle.rb_tree.specs.declared.syntax.Suffix.{Suffix}
use Rattle.rb_tree.specs.declared.syntax.Argument.{Argument}
use Rattle.rb_tree.specs.declared.syntax.Block.{Block}
use Rattle.rb_tree.specs.declared.syntax.Piece.{Piece}
use Rattle.rb_tree.specs.declared.syntax.Pair.{Pair}
use Rattle.rb_tree.specs.declared.syntax.Arm.{Arm}
use Rattle.rb_tree.specs.declared.syntax.When.{When}
use Rattle.rb_tree.specs.declared.syntax.PlacedName.{PlacedName}
use Rattle.rb_tree.specs.declared.syntax.Reference.{Reference}
use Rattle.rb_tree.specs.declared.syntax.Guarded.{Guarded}
use Rattle.rb_tree.specs.declared.syntax.Parameter.{Parameter}

abbrev pub Body : List Tree → Span → Tree
Body statements span = record { node = node.Body statements span }

abbrev pub Modified : Tree → Modifier → Tree → Span → Tree
Modified statement modifier condition span = record { node = node.Modified statement modifier condition span }

abbrev pub Jump : JumpWord → Option Tree → Span → Tree
Jump jump value span = record { node = node.Jump jump value span }

abbrev pub Assign : Tree → Tree → Span → Tree
Assign target value span = record { node = node.Assign target value span }

abbrev pub OperatorAssign : Tree → Operator → Span → Tree → Span → Tree
OperatorAssign target operator operator_span value span = record { node = node.OperatorAssign target operator operator_span value span }

abbrev pub Command : Tree → List (Argument Tree) → Option (Block Tree) → Span → Tree
Command callee arguments block span = record { node = node.Command callee arguments block span }

abbrev pub Conditional : Tree → Tree → Tree → Span → Tree
Conditional condition positive negative span = record { node = node.Conditional condition positive negative span }

abbrev pub Binary : Operator → Span → Tree → Tree → Span → Tree
Binary operator operator_span left right span = record { node = node.Binary operator operator_span left right span }

abbrev pub Unary : Prefix → Tree → Span → Tree
Unary operator operand span = record { node = node.Unary operator operand span }

abbrev pub Post : Tree → List (Suffix Tree) → Span → Tree
Post receiver suffixes span = record { node = node.Post receiver suffixes span }

abbrev pub Whole : Option Sign → List ℕ → Span → Tree
Whole sign words span = record { node = node.Whole sign words span }

abbrev pub Float : Option Sign → List ℕ → Span → Tree
Float sign words span = record { node = node.Float sign words span }

abbrev pub Text : List (Piece Tree) → Span → Tree
Text pieces span = record { node = node.Text pieces span }

abbrev pub Symbol : List ℕ → Span → Tree
Symbol words span = record { node = node.Symbol words span }

abbrev pub InstanceVariable : List ℕ → Span → Tree
InstanceVariable name span = record { node = node.InstanceVariable name span }

abbrev pub Constant : List ℕ → Span → Tree
Constant name span = record { node = node.Constant name span }

abbrev pub TopConstant : List ℕ → Span → Span → Tree
TopConstant name name_span span = record { node = node.TopConstant name name_span span }

abbrev pub SelfWord : Span → Tree
SelfWord span = record { node = node.SelfWord span }

abbrev pub Nil : Span → Tree
Nil span = record { node = node.Nil span }

abbrev pub True : Span → Tree
True span = record { node = node.True span }

abbrev pub False : Span → Tree
False span = record { node = node.False span }

abbrev pub Name : List ℕ → Span → Tree
Name name span = record { node = node.Name name span }

abbrev pub Call : List ℕ → Span → Option (List (Argument Tree)) → Option (Block Tree) → Span → Tree
Call name name_span arguments block span = record { node = node.Call name name_span arguments block span }

abbrev pub Yield : Option (List (Argument Tree)) → Span → Tree
Yield arguments span = record { node = node.Yield arguments span }

abbrev pub Super : Option (List (Argument Tree)) → Span → Tree
Super arguments span = record { node = node.Super arguments span }

abbrev pub Array : List Tree → Span → Tree
Array elements span = record { node = node.Array elements span }

abbrev pub Hash : List (Pair Tree) → Span → Tree
Hash pairs span = record { node = node.Hash pairs span }

abbrev pub Parens : Tree → Span → Tree
Parens body span = record { node = node.Parens body span }

abbrev pub If : Test → Tree → Tree → List (Arm Tree) → Option Tree → Span → Tree
If test condition body arms otherwise span = record { node = node.If test condition body arms otherwise span }

abbrev pub While : Test → Tree → Tree → Span → Tree
While test condition body span = record { node = node.While test condition body span }

abbrev pub Case : Option Tree → List (When Tree) → Option Tree → Span → Tree
Case subject arms otherwise span = record { node = node.Case subject arms otherwise span }

abbrev pub Begin : Guarded Tree → Span → Tree
Begin guarded span = record { node = node.Begin guarded span }

abbrev pub Class : List PlacedName → Option Reference → Tree → Span → Tree
Class path superclass body span = record { node = node.Class path superclass body span }

abbrev pub Module : List PlacedName → Tree → Span → Tree
Module path body span = record { node = node.Module path body span }

abbrev pub Def : Option Visibility → Bool → List ℕ → Span → List (Parameter Tree) → Guarded Tree → Span → Tree
Def visibility own name name_span parameters guarded span = record { node = node.Def visibility own name name_span parameters guarded span }
