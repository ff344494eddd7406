-- The examples of `ExamplesOfOperators`, computed: a tree is first what is known of it, and that is judged.
use Rattle.std.proofs.Common.{◌≡◌, ap}
use Rattle.srb_judgement.specs.Bodies.{program_errors}
use Rattle.srb_judgement.specs.ExampleLanguage.{SMALL}
use Rattle.srb_judgement.specs.ExampleTrees.{source, tree_of}
use Rattle.srb_judgement.specs.ExamplesOfOperators.{OperatorsAreCalls, BothSidesHaveTypes, OperatorsAssign, ReceiversAreJudgedOnce, WritersAreCalls, SUM, MINUS, DIFFERS, NOT, AND_TYPE, OR_TYPE, DEAD_SIDE_ADDS_NOTHING, SIDES_NARROW, JUMP_AFTER_OR, PLUS_ASSIGNED, OR_ASSIGNED, AND_ASSIGNED, WHOLE_STATEMENT, IVAR_READ, READ_AND_WRITTEN, RECEIVER_ONCE, INDEX_ONCE, ATTRIBUTE_WRITTEN, ELEMENT_WRITTEN, CONSTANT_ASSIGNED, ASSIGNMENT_TYPE}
use Rattle.srb_judgement.specs.Judgements.{part_at, part_of, errors_of}
use Rattle.rb_tree.specs.declared.syntax.Node.{Node}
use Rattle.rb_tree.specs.declared.syntax.Tree.{Tree}
use Rattle.srb_judgement.proofs.Folds.{KNOWN, tree-part}

known_sum : part_of SMALL (SUM Node Tree (source tree_of)) ≡ SUM KNOWN KNOWN (source (part_at SMALL))
known_sum = simp tree-part

known_minus : part_of SMALL (MINUS Node Tree (source tree_of)) ≡ MINUS KNOWN KNOWN (source (part_at SMALL))
known_minus = simp tree-part

known_differs : part_of SMALL (DIFFERS Node Tree (source tree_of)) ≡ DIFFERS KNOWN KNOWN (source (part_at SMALL))
known_differs = simp tree-part

known_not : part_of SMALL (NOT Node Tree (source tree_of)) ≡ NOT KNOWN KNOWN (source (part_at SMALL))
known_not = simp tree-part

pub operators_are_calls : OperatorsAreCalls
unfolding errors_of part_at
operators_are_calls = (ap (program_errors SMALL) known_sum, ap (program_errors SMALL) known_minus, ap (program_errors SMALL) known_differs, ap (program_errors SMALL) known_not)

known_and_type : part_of SMALL (AND_TYPE Node Tree (source tree_of)) ≡ AND_TYPE KNOWN KNOWN (source (part_at SMALL))
known_and_type = simp tree-part

known_or_type : part_of SMALL (OR_TYPE Node Tree (source tree_of)) ≡ OR_TYPE KNOWN KNOWN (source (part_at SMALL))
known_or_type = simp tree-part

known_dead_side_adds_nothing : part_of SMALL (DEAD_SIDE_ADDS_NOTHING Node Tree (source tree_of)) ≡ DEAD_SIDE_ADDS_NOTHING KNOWN KNOWN (source (part_at SMALL))
known_dead_side_adds_nothing = simp tree-part

known_sides_narrow : part_of SMALL (SIDES_NARROW Node Tree (source tree_of)) ≡ SIDES_NARROW KNOWN KNOWN (source (part_at SMALL))
known_sides_narrow = simp tree-part

known_jump_after_or : part_of SMALL (JUMP_AFTER_OR Node Tree (source tree_of)) ≡ JUMP_AFTER_OR KNOWN KNOWN (source (part_at SMALL))
known_jump_after_or = simp tree-part

pub both_sides_have_types : BothSidesHaveTypes
unfolding errors_of part_at
both_sides_have_types = (ap (program_errors SMALL) known_and_type, ap (program_errors SMALL) known_or_type, ap (program_errors SMALL) known_dead_side_adds_nothing, ap (program_errors SMALL) known_sides_narrow, ap (program_errors SMALL) known_jump_after_or)

known_plus_assigned : part_of SMALL (PLUS_ASSIGNED Node Tree (source tree_of)) ≡ PLUS_ASSIGNED KNOWN KNOWN (source (part_at SMALL))
known_plus_assigned = simp tree-part

known_or_assigned : part_of SMALL (OR_ASSIGNED Node Tree (source tree_of)) ≡ OR_ASSIGNED KNOWN KNOWN (source (part_at SMALL))
known_or_assigned = simp tree-part

known_and_assigned : part_of SMALL (AND_ASSIGNED Node Tree (source tree_of)) ≡ AND_ASSIGNED KNOWN KNOWN (source (part_at SMALL))
known_and_assigned = simp tree-part

known_whole_statement : part_of SMALL (WHOLE_STATEMENT Node Tree (source tree_of)) ≡ WHOLE_STATEMENT KNOWN KNOWN (source (part_at SMALL))
known_whole_statement = simp tree-part

known_ivar_read : part_of SMALL (IVAR_READ Node Tree (source tree_of)) ≡ IVAR_READ KNOWN KNOWN (source (part_at SMALL))
known_ivar_read = simp tree-part

known_read_and_written : part_of SMALL (READ_AND_WRITTEN Node Tree (source tree_of)) ≡ READ_AND_WRITTEN KNOWN KNOWN (source (part_at SMALL))
known_read_and_written = simp tree-part

pub operators_assign : OperatorsAssign
unfolding errors_of part_at
operators_assign = (ap (program_errors SMALL) known_plus_assigned, ap (program_errors SMALL) known_or_assigned, ap (program_errors SMALL) known_and_assigned, ap (program_errors SMALL) known_whole_statement, ap (program_errors SMALL) known_ivar_read, ap (program_errors SMALL) known_read_and_written)

known_receiver_once : part_of SMALL (RECEIVER_ONCE Node Tree (source tree_of)) ≡ RECEIVER_ONCE KNOWN KNOWN (source (part_at SMALL))
known_receiver_once = simp tree-part

known_index_once : part_of SMALL (INDEX_ONCE Node Tree (source tree_of)) ≡ INDEX_ONCE KNOWN KNOWN (source (part_at SMALL))
known_index_once = simp tree-part

pub receivers_are_judged_once : ReceiversAreJudgedOnce
unfolding errors_of part_at
receivers_are_judged_once = (ap (program_errors SMALL) known_receiver_once, ap (program_errors SMALL) known_index_once)

known_attribute_written : part_of SMALL (ATTRIBUTE_WRITTEN Node Tree (source tree_of)) ≡ ATTRIBUTE_WRITTEN KNOWN KNOWN (source (part_at SMALL))
known_attribute_written = simp tree-part

known_element_written : part_of SMALL (ELEMENT_WRITTEN Node Tree (source tree_of)) ≡ ELEMENT_WRITTEN KNOWN KNOWN (source (part_at SMALL))
known_element_written = simp tree-part

known_constant_assigned : part_of SMALL (CONSTANT_ASSIGNED Node Tree (source tree_of)) ≡ CONSTANT_ASSIGNED KNOWN KNOWN (source (part_at SMALL))
known_constant_assigned = simp tree-part

known_assignment_type : part_of SMALL (ASSIGNMENT_TYPE Node Tree (source tree_of)) ≡ ASSIGNMENT_TYPE KNOWN KNOWN (source (part_at SMALL))
known_assignment_type = simp tree-part

pub writers_are_calls : WritersAreCalls
unfolding errors_of part_at
writers_are_calls = (ap (program_errors SMALL) known_attribute_written, ap (program_errors SMALL) known_element_written, ap (program_errors SMALL) known_constant_assigned, ap (program_errors SMALL) known_assignment_type)
