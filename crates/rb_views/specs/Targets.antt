-- What an assignment assigns to, and what a command calls.
use Rattle.std.specs.Prelude.{ℕ, List, Option, Some, None}
use Rattle.srb_terms.specs.declared.span.Span.{Span}
use Rattle.rb_tree.specs.declared.syntax.Argument.{Argument}
use Rattle.rb_tree.specs.declared.syntax.Dot.{Dot}
use Rattle.rb_tree.specs.declared.syntax.Dot.TheVariants as dot
use Rattle.rb_tree.specs.declared.syntax.Suffix.{Suffix}
use Rattle.rb_tree.specs.declared.syntax.Suffix.TheVariants as suffix
use Rattle.rb_tree.specs.declared.syntax.Tree.{Tree}
use Rattle.rb_tree.specs.declared.syntax.Node.{Node, out-Node}
use Rattle.rb_tree.specs.declared.syntax.Node.TheOpen.{Node-F}
use Rattle.rb_views.specs.Places.{open_bracket}
use Rattle.rb_views.specs.Prefixes.{Prefix, seen_prefix, last_suffix, without_last}
use Rattle.rb_views.specs.declared.target.Callee as lent_callee
use Rattle.rb_views.specs.declared.target.Callee.TheVariants as callee
use Rattle.rb_views.specs.declared.target.Target as lent_target
use Rattle.rb_views.specs.declared.target.Target.TheVariants as target

-- ---- targets

-- what an assignment assigns to
pub data Target : Type 0 where
  -- a variable: its name and place
  Variable : List ℕ → Span → Target
  -- an instance variable: its name without `@`, and its place with it
  InstanceVariable : List ℕ → Span → Target
  -- a constant: its name and place
  Constant : List ℕ → Span → Target
  -- an attribute of a prefix: its name without `=`, and the place of the name
  Attribute : Prefix → List ℕ → Span → Target
  -- an element of a prefix: the arguments, and the place of the `[`
  Element : Prefix → List (Argument Tree) → Span → Target

-- the target that a prefix with one more suffix is
abbrev pub target_by : Prefix → Option (Suffix Tree) → Option Target
target_by p (Some (suffix.Call dot.Plain name name_span None None span)) = Some (Attribute p name name_span)
target_by p (Some (suffix.Index arguments span)) = Some (Element p arguments (open_bracket span))
target_by p _ = None

-- the target that an operand with these suffixes is
abbrev pub target_last : Prefix → Option Target
target_last p = target_by (without_last p) (last_suffix p.suffixes)

abbrev pub target_at : Node-F Node Tree → Option Target
target_at (Node-F.Name name span) = Some (Variable name span)
target_at (Node-F.InstanceVariable name span) = Some (InstanceVariable name span)
target_at (Node-F.Constant name span) = Some (Constant name span)
target_at (Node-F.Post receiver suffixes span) = target_last (record { operand = receiver; suffixes = suffixes })
target_at _ = None

-- what is assigned to by an assignment whose target is this tree; None where the tree is no target
unfoldable pub target_of : Tree → Option Target
target_of t = target_at (out-Node t.node)

-- what a lent target is
abbrev pub seen_target : lent_target.Target → Target
seen_target (target.Variable name span) = Variable name.now span
seen_target (target.InstanceVariable name span) = InstanceVariable name.now span
seen_target (target.Constant name span) = Constant name.now span
seen_target (target.Attribute prefix name name_span) = Attribute (seen_prefix prefix) name.now name_span
seen_target (target.Element prefix arguments bracket) = Element (seen_prefix prefix) arguments.now bracket

-- ---- callees

-- what a command calls
pub data Callee : Type 0 where
  -- a name, and its place
  Name : List ℕ → Span → Callee
  -- a call on a prefix: how it is joined, its name, and the place of the name
  Call : Prefix → Dot → List ℕ → Span → Callee
  Yield : Callee
  Super : Callee

-- the callee that a prefix with one more suffix is
abbrev pub callee_by : Prefix → Option (Suffix Tree) → Option Callee
callee_by p (Some (suffix.Call how name name_span None None span)) = Some (Call p how name name_span)
callee_by p _ = None

-- the callee that an operand with these suffixes is
abbrev pub callee_last : Prefix → Option Callee
callee_last p = callee_by (without_last p) (last_suffix p.suffixes)

abbrev pub callee_at : Node-F Node Tree → Option Callee
callee_at (Node-F.Name name span) = Some (Name name span)
callee_at (Node-F.Yield None span) = Some Yield
callee_at (Node-F.Super None span) = Some Super
callee_at (Node-F.Post receiver suffixes span) = callee_last (record { operand = receiver; suffixes = suffixes })
callee_at _ = None

-- what a command calls whose callee is this tree; None where the tree is no callee
unfoldable pub callee_of : Tree → Option Callee
callee_of t = callee_at (out-Node t.node)

-- what a lent callee is
abbrev pub seen_callee : lent_callee.Callee → Callee
seen_callee (callee.Name name span) = Name name.now span
seen_callee (callee.Call prefix how name name_span) = Call (seen_prefix prefix) how name.now name_span
seen_callee callee.Yield = Yield
seen_callee callee.Super = Super
