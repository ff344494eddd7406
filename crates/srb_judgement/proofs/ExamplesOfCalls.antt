-- The examples of `ExamplesOfCalls`, computed: a tree is first what is known of it, and that is judged.
use Rattle.std.proofs.Common.{◌≡◌, ap}
use Rattle.srb_judgement.specs.Bodies.{program_errors}
use Rattle.srb_judgement.specs.ExampleLanguage.{SMALL}
use Rattle.srb_judgement.specs.ExampleTrees.{source, tree_of}
use Rattle.srb_judgement.specs.ExamplesOfCalls.{CallsAreJudgedInOrder, SafeNavigation, AssertionsHaveTypes, LEFT_TO_RIGHT, ON_SELF, UNTYPED, NO_RECEIVER, KEYWORD_PLACE, BLOCK_ARGUMENT, YIELD_AND_SUPER, SAFE_CALL, SAFE_ARGUMENTS, NOTHING_LEFT, LET, CAST, MUST, UNSAFE, REVEALED, OTHER_ARGUMENTS}
use Rattle.srb_judgement.specs.Judgements.{part_at, part_of, errors_of}
use Rattle.rb_tree.specs.declared.syntax.Node.{Node}
use Rattle.rb_tree.specs.declared.syntax.Tree.{Tree}
use Rattle.srb_judgement.proofs.Folds.{KNOWN, tree-part}

known_left_to_right : part_of SMALL (LEFT_TO_RIGHT Node Tree (source tree_of)) ≡ LEFT_TO_RIGHT KNOWN KNOWN (source (part_at SMALL))
known_left_to_right = simp tree-part

known_on_self : part_of SMALL (ON_SELF Node Tree (source tree_of)) ≡ ON_SELF KNOWN KNOWN (source (part_at SMALL))
known_on_self = simp tree-part

known_untyped : part_of SMALL (UNTYPED Node Tree (source tree_of)) ≡ UNTYPED KNOWN KNOWN (source (part_at SMALL))
known_untyped = simp tree-part

known_no_receiver : part_of SMALL (NO_RECEIVER Node Tree (source tree_of)) ≡ NO_RECEIVER KNOWN KNOWN (source (part_at SMALL))
known_no_receiver = simp tree-part

known_keyword_place : part_of SMALL (KEYWORD_PLACE Node Tree (source tree_of)) ≡ KEYWORD_PLACE KNOWN KNOWN (source (part_at SMALL))
known_keyword_place = simp tree-part

known_block_argument : part_of SMALL (BLOCK_ARGUMENT Node Tree (source tree_of)) ≡ BLOCK_ARGUMENT KNOWN KNOWN (source (part_at SMALL))
known_block_argument = simp tree-part

known_yield_and_super : part_of SMALL (YIELD_AND_SUPER Node Tree (source tree_of)) ≡ YIELD_AND_SUPER KNOWN KNOWN (source (part_at SMALL))
known_yield_and_super = simp tree-part

pub calls_are_judged_in_order : CallsAreJudgedInOrder
unfolding errors_of part_at
calls_are_judged_in_order = (ap (program_errors SMALL) known_left_to_right, ap (program_errors SMALL) known_on_self, ap (program_errors SMALL) known_untyped, ap (program_errors SMALL) known_no_receiver, ap (program_errors SMALL) known_keyword_place, ap (program_errors SMALL) known_block_argument, ap (program_errors SMALL) known_yield_and_super)

known_safe_call : part_of SMALL (SAFE_CALL Node Tree (source tree_of)) ≡ SAFE_CALL KNOWN KNOWN (source (part_at SMALL))
known_safe_call = simp tree-part

known_safe_arguments : part_of SMALL (SAFE_ARGUMENTS Node Tree (source tree_of)) ≡ SAFE_ARGUMENTS KNOWN KNOWN (source (part_at SMALL))
known_safe_arguments = simp tree-part

known_nothing_left : part_of SMALL (NOTHING_LEFT Node Tree (source tree_of)) ≡ NOTHING_LEFT KNOWN KNOWN (source (part_at SMALL))
known_nothing_left = simp tree-part

pub safe_navigation : SafeNavigation
unfolding errors_of part_at
safe_navigation = (ap (program_errors SMALL) known_safe_call, ap (program_errors SMALL) known_safe_arguments, ap (program_errors SMALL) known_nothing_left)

known_let : part_of SMALL (LET Node Tree (source tree_of)) ≡ LET KNOWN KNOWN (source (part_at SMALL))
known_let = simp tree-part

known_cast : part_of SMALL (CAST Node Tree (source tree_of)) ≡ CAST KNOWN KNOWN (source (part_at SMALL))
known_cast = simp tree-part

known_must : part_of SMALL (MUST Node Tree (source tree_of)) ≡ MUST KNOWN KNOWN (source (part_at SMALL))
known_must = simp tree-part

known_unsafe : part_of SMALL (UNSAFE Node Tree (source tree_of)) ≡ UNSAFE KNOWN KNOWN (source (part_at SMALL))
known_unsafe = simp tree-part

known_revealed : part_of SMALL (REVEALED Node Tree (source tree_of)) ≡ REVEALED KNOWN KNOWN (source (part_at SMALL))
known_revealed = simp tree-part

known_other_arguments : part_of SMALL (OTHER_ARGUMENTS Node Tree (source tree_of)) ≡ OTHER_ARGUMENTS KNOWN KNOWN (source (part_at SMALL))
known_other_arguments = simp tree-part

pub assertions_have_types : AssertionsHaveTypes
unfolding errors_of part_at
assertions_have_types = (ap (program_errors SMALL) known_let, ap (program_errors SMALL) known_cast, ap (program_errors SMALL) known_must, ap (program_errors SMALL) known_unsafe, ap (program_errors SMALL) known_revealed, ap (program_errors SMALL) known_other_arguments)
