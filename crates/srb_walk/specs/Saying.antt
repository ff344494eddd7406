-- What the last suffix of a row says of a variable.
use Rattle.std.specs.Prelude.{Option, Some, None}
use Rattle.rb_tree.specs.declared.syntax.Dot.TheVariants as dot
use Rattle.rb_tree.specs.declared.syntax.Suffix.{Suffix}
use Rattle.rb_tree.specs.declared.syntax.Suffix.TheVariants as suffix
use Rattle.rb_tree.specs.declared.syntax.Tree.{Tree}
use Rattle.rb_views.specs.Calls.{arguments_of}
use Rattle.rb_views.specs.Prefixes.{Prefix}
use Rattle.srb_judgement.specs.Chains.{operands_of, says_of}
use Rattle.srb_judgement.specs.Languages.{Language}
use Rattle.srb_judgement.specs.Narrowing.{Says, SaysNothing}
use Rattle.srb_judgement.specs.States.{Context}
use Rattle.srb_walk.specs.Endings.{prefix_operand}
use Rattle.srb_walk.specs.Known.{known_arguments}

module _ {T X : Type 0} (L : Language T X) where
  -- what a suffix says on a prefix
  abbrev pub last_says : Prefix → Option (Suffix Tree) → Context T → Says T
  last_says p (Some (suffix.Call dot.Plain name name_span arguments None span)) c =
      says_of L (prefix_operand L p) dot.Plain name (operands_of (known_arguments L (arguments_of arguments))) None c
  last_says p _ c = SaysNothing
