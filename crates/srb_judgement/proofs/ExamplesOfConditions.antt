-- The examples of `ExamplesOfConditions`, computed: a tree is first what is known of it, and that is judged.
use Rattle.std.proofs.Common.{◌≡◌, ap}
use Rattle.srb_judgement.specs.Bodies.{program_errors}
use Rattle.srb_judgement.specs.ExampleLanguage.{SMALL}
use Rattle.srb_judgement.specs.ExampleTrees.{source, tree_of}
use Rattle.srb_judgement.specs.ExamplesOfConditions.{VariablesAreNarrowed, SidesAreJoined, TestsNarrow, SidesAreDead, VARIABLE, NEGATED, UNLESS, UNTIL, BRACKETS, ASSIGNED, OPERATOR_ASSIGNED, BOTH_HOLD, ONE_HOLDS, IS_NIL, EQUALS_NIL, DIFFERS_FROM_NIL, IS_A, KIND_OF, CASE_EQUAL, IS_ARRAY, VALUE_CONSTANT, TEST_IS_A_CALL, NEVER_FALSY, NEVER_A_STRING, NEVER_TRUTHY, ELSIF_PLACE}
use Rattle.srb_judgement.specs.Judgements.{part_at, part_of, errors_of}
use Rattle.rb_tree.specs.declared.syntax.Node.{Node}
use Rattle.rb_tree.specs.declared.syntax.Tree.{Tree}
use Rattle.srb_judgement.proofs.Folds.{KNOWN, tree-part}

known_variable : part_of SMALL (VARIABLE Node Tree (source tree_of)) ≡ VARIABLE KNOWN KNOWN (source (part_at SMALL))
known_variable = simp tree-part

known_negated : part_of SMALL (NEGATED Node Tree (source tree_of)) ≡ NEGATED KNOWN KNOWN (source (part_at SMALL))
known_negated = simp tree-part

known_unless : part_of SMALL (UNLESS Node Tree (source tree_of)) ≡ UNLESS KNOWN KNOWN (source (part_at SMALL))
known_unless = simp tree-part

known_until : part_of SMALL (UNTIL Node Tree (source tree_of)) ≡ UNTIL KNOWN KNOWN (source (part_at SMALL))
known_until = simp tree-part

known_brackets : part_of SMALL (BRACKETS Node Tree (source tree_of)) ≡ BRACKETS KNOWN KNOWN (source (part_at SMALL))
known_brackets = simp tree-part

known_assigned : part_of SMALL (ASSIGNED Node Tree (source tree_of)) ≡ ASSIGNED KNOWN KNOWN (source (part_at SMALL))
known_assigned = simp tree-part

known_operator_assigned : part_of SMALL (OPERATOR_ASSIGNED Node Tree (source tree_of)) ≡ OPERATOR_ASSIGNED KNOWN KNOWN (source (part_at SMALL))
known_operator_assigned = simp tree-part

pub variables_are_narrowed : VariablesAreNarrowed
unfolding errors_of part_at
variables_are_narrowed = (ap (program_errors SMALL) known_variable, ap (program_errors SMALL) known_negated, ap (program_errors SMALL) known_unless, ap (program_errors SMALL) known_until, ap (program_errors SMALL) known_brackets, ap (program_errors SMALL) known_assigned, ap (program_errors SMALL) known_operator_assigned)

known_both_hold : part_of SMALL (BOTH_HOLD Node Tree (source tree_of)) ≡ BOTH_HOLD KNOWN KNOWN (source (part_at SMALL))
known_both_hold = simp tree-part

known_one_holds : part_of SMALL (ONE_HOLDS Node Tree (source tree_of)) ≡ ONE_HOLDS KNOWN KNOWN (source (part_at SMALL))
known_one_holds = simp tree-part

pub sides_are_joined : SidesAreJoined
unfolding errors_of part_at
sides_are_joined = (ap (program_errors SMALL) known_both_hold, ap (program_errors SMALL) known_one_holds)

known_is_nil : part_of SMALL (IS_NIL Node Tree (source tree_of)) ≡ IS_NIL KNOWN KNOWN (source (part_at SMALL))
known_is_nil = simp tree-part

known_equals_nil : part_of SMALL (EQUALS_NIL Node Tree (source tree_of)) ≡ EQUALS_NIL KNOWN KNOWN (source (part_at SMALL))
known_equals_nil = simp tree-part

known_differs_from_nil : part_of SMALL (DIFFERS_FROM_NIL Node Tree (source tree_of)) ≡ DIFFERS_FROM_NIL KNOWN KNOWN (source (part_at SMALL))
known_differs_from_nil = simp tree-part

known_is_a : part_of SMALL (IS_A Node Tree (source tree_of)) ≡ IS_A KNOWN KNOWN (source (part_at SMALL))
known_is_a = simp tree-part

known_kind_of : part_of SMALL (KIND_OF Node Tree (source tree_of)) ≡ KIND_OF KNOWN KNOWN (source (part_at SMALL))
known_kind_of = simp tree-part

known_case_equal : part_of SMALL (CASE_EQUAL Node Tree (source tree_of)) ≡ CASE_EQUAL KNOWN KNOWN (source (part_at SMALL))
known_case_equal = simp tree-part

known_is_array : part_of SMALL (IS_ARRAY Node Tree (source tree_of)) ≡ IS_ARRAY KNOWN KNOWN (source (part_at SMALL))
known_is_array = simp tree-part

known_value_constant : part_of SMALL (VALUE_CONSTANT Node Tree (source tree_of)) ≡ VALUE_CONSTANT KNOWN KNOWN (source (part_at SMALL))
known_value_constant = simp tree-part

known_test_is_a_call : part_of SMALL (TEST_IS_A_CALL Node Tree (source tree_of)) ≡ TEST_IS_A_CALL KNOWN KNOWN (source (part_at SMALL))
known_test_is_a_call = simp tree-part

pub tests_narrow : TestsNarrow
unfolding errors_of part_at
tests_narrow = (ap (program_errors SMALL) known_is_nil, ap (program_errors SMALL) known_equals_nil, ap (program_errors SMALL) known_differs_from_nil, ap (program_errors SMALL) known_is_a, ap (program_errors SMALL) known_kind_of, ap (program_errors SMALL) known_case_equal, ap (program_errors SMALL) known_is_array, ap (program_errors SMALL) known_value_constant, ap (program_errors SMALL) known_test_is_a_call)

known_never_falsy : part_of SMALL (NEVER_FALSY Node Tree (source tree_of)) ≡ NEVER_FALSY KNOWN KNOWN (source (part_at SMALL))
known_never_falsy = simp tree-part

known_never_a_string : part_of SMALL (NEVER_A_STRING Node Tree (source tree_of)) ≡ NEVER_A_STRING KNOWN KNOWN (source (part_at SMALL))
known_never_a_string = simp tree-part

known_never_truthy : part_of SMALL (NEVER_TRUTHY Node Tree (source tree_of)) ≡ NEVER_TRUTHY KNOWN KNOWN (source (part_at SMALL))
known_never_truthy = simp tree-part

known_elsif_place : part_of SMALL (ELSIF_PLACE Node Tree (source tree_of)) ≡ ELSIF_PLACE KNOWN KNOWN (source (part_at SMALL))
known_elsif_place = simp tree-part

pub sides_are_dead : SidesAreDead
unfolding errors_of part_at
sides_are_dead = (ap (program_errors SMALL) known_never_falsy, ap (program_errors SMALL) known_never_a_string, ap (program_errors SMALL) known_never_truthy, ap (program_errors SMALL) known_elsif_place)
