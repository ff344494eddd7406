-- Calls: one view of a call, whatever its spelling.
use Rattle.std.specs.Prelude.{ℕ, Bool, true, false, List, [], Option, Some, None, option_map, codes}
use Rattle.std.specs.Option.{option_copied}
use Rattle.srb_terms.specs.declared.span.Span.{Span}
use Rattle.rb_tree.specs.Trees.{span_of}
use Rattle.rb_tree.specs.declared.syntax.Argument.{Argument}
use Rattle.rb_tree.specs.declared.syntax.Block.{Block}
use Rattle.rb_tree.specs.declared.syntax.Dot.{Dot}
use Rattle.rb_tree.specs.declared.syntax.Dot.TheVariants as dot
use Rattle.rb_tree.specs.declared.syntax.Suffix.{Suffix}
use Rattle.rb_tree.specs.declared.syntax.Suffix.TheVariants as suffix
use Rattle.rb_tree.specs.declared.syntax.Tree.{Tree}
use Rattle.rb_tree.specs.declared.syntax.Node.{Node, out-Node}
use Rattle.rb_tree.specs.declared.syntax.Node.TheOpen.{Node-F}
use Rattle.rb_views.specs.Places.{open_bracket}
use Rattle.rb_views.specs.Prefixes.{Prefix, seen_prefix, last_suffix, without_last, up_to_suffix}
use Rattle.rb_views.specs.Targets as targets
use Rattle.rb_views.specs.declared.call.Call as lent_call
use Rattle.rb_views.specs.declared.call.Receiver as lent_receiver

-- what a call is called on, and how it is joined
pub record Receiver : Type 0 where
  pub prefix : Prefix
  pub dot : Dot

-- a call
pub record Call : Type 0 where
  -- None for a call on `self` that does not say so
  pub receiver : Option Receiver
  -- the name, `[]` for an index
  pub name : List ℕ
  -- the place of the name, of an index that of its `[`
  pub name_span : Span
  pub arguments : List (Argument Tree)
  pub block : Option (Block Tree)
  -- from the receiver on
  pub span : Span
  -- whether it is a name alone, which is a variable where its body has one of this name
  pub alone : Bool

-- what a lent receiver and a lent call are
abbrev pub seen_receiver : lent_receiver.Receiver → Receiver
seen_receiver r = record { prefix = seen_prefix r.prefix; dot = r.dot }

abbrev pub seen_call : lent_call.Call → Call
seen_call c = record {
  receiver = option_map seen_receiver c.receiver;
  name = c.name.now;
  name_span = c.name_span;
  arguments = c.arguments.now;
  block = option_copied c.block;
  span = c.span;
  alone = c.alone;
}

-- arguments in brackets; none where no brackets stand
abbrev pub arguments_of : {X : Type 0} → Option (List (Argument X)) → List (Argument X)
arguments_of None = []
arguments_of (Some arguments) = arguments

-- a call on `self` that does not say so
abbrev pub own_call : List ℕ → Span → List (Argument Tree) → Option (Block Tree) → Span → Bool → Call
own_call name name_span arguments block span alone = record {
  receiver = None;
  name = name;
  name_span = name_span;
  arguments = arguments;
  block = block;
  span = span;
  alone = alone;
}

-- a call on a prefix
abbrev pub call_on : Prefix → Dot → List ℕ → Span → List (Argument Tree) → Option (Block Tree) → Span → Call
call_on p how name name_span arguments block span = record {
  receiver = Some (record { prefix = p; dot = how });
  name = name;
  name_span = name_span;
  arguments = arguments;
  block = block;
  span = span;
  alone = false;
}

-- ---- suffixes

-- the place of a prefix with one more suffix
abbrev pub span_with : Prefix → Suffix Tree → Span
span_with p s = up_to_suffix (span_of p.operand) (Some s)

-- the call that a suffix is after a prefix; None for a constant
abbrev pub call_by : Prefix → Suffix Tree → Option Call
call_by p (suffix.Call how name name_span arguments block span) =
    Some (call_on p how name name_span (arguments_of arguments) block (span_with p (suffix.Call how name name_span arguments block span)))
call_by p (suffix.Index arguments span) =
    Some (call_on p dot.Plain (codes "[]") (open_bracket span) arguments None (span_with p (suffix.Index arguments span)))
call_by p (suffix.Constant name name_span span) = None

-- the same where there is a suffix at all
abbrev pub call_by_last : Prefix → Option (Suffix Tree) → Option Call
call_by_last p None = None
call_by_last p (Some s) = call_by p s

-- the call that a prefix is by its last suffix
abbrev pub call_of_row : Prefix → Option Call
call_of_row p = call_by_last (without_last p) (last_suffix p.suffixes)

-- ---- commands

-- the call that a command is; None for `yield` and `super`
abbrev pub command : Option targets.Callee → List (Argument Tree) → Option (Block Tree) → Span → Option Call
command (Some (targets.Name name name_span)) arguments block span = Some (own_call name name_span arguments block span false)
command (Some (targets.Call p how name name_span)) arguments block span = Some (call_on p how name name_span arguments block span)
command _ arguments block span = None

-- ---- trees

abbrev pub call_at : Node-F Node Tree → Option Call
call_at (Node-F.Name name span) = Some (own_call name span [] None span true)
call_at (Node-F.Call name name_span arguments block span) = Some (own_call name name_span (arguments_of arguments) block span false)
call_at (Node-F.Post receiver suffixes span) = call_of_row (record { operand = receiver; suffixes = suffixes })
call_at (Node-F.Command callee arguments block span) = command (targets.callee_of callee) arguments block span
call_at _ = None

-- the call that a tree is; None for any other tree. `yield`, `super` and operators are no calls here
unfoldable pub call_of : Tree → Option Call
call_of t = call_at (out-Node t.node)
