-- What the functions of the walk ask of trees and of suffixes, by what is known of the trees in them.
use Rattle.std.specs.Prelude.{ℕ, List, []}
use Rattle.rb_tree.specs.declared.syntax.Suffix.{Suffix}
use Rattle.rb_tree.specs.declared.syntax.Suffix.TheVariants as suffix
use Rattle.rb_tree.specs.declared.syntax.Tree.{Tree}
use Rattle.rb_views.specs.Calls.{arguments_of}
use Rattle.srb_judgement.specs.Calls.{declared_by}
use Rattle.srb_judgement.specs.Chains.{operands_of}
use Rattle.srb_judgement.specs.Judgements.{part_of}
use Rattle.srb_judgement.specs.Languages.{Language}
use Rattle.srb_judgement.specs.Parts.{Ending}
use Rattle.srb_walk.specs.Known.{known_arguments, known_brackets}

module _ {T X : Type 0} (L : Language T X) where
  -- what the arguments of a suffix assign
  abbrev pub suffix_names : Suffix Tree → List (List ℕ)
  suffix_names (suffix.Call how name name_span arguments block span) = declared_by (operands_of (arguments_of (known_brackets L arguments)))
  suffix_names (suffix.Constant name name_span span) = []
  suffix_names (suffix.Index arguments span) = declared_by (operands_of (known_arguments L arguments))

  -- what stands at the end of a tree
  abbrev pub ending_in : Tree → Ending T X
  ending_in t = (part_of L t).ending
