-- The examples of `ExamplesOfBranches`, computed: a tree is first what is known of it, and that is judged.
use Rattle.std.proofs.Common.{◌≡◌, ap}
use Rattle.srb_judgement.specs.Bodies.{program_errors}
use Rattle.srb_judgement.specs.ExampleLanguage.{SMALL}
use Rattle.srb_judgement.specs.ExampleTrees.{source, tree_of}
use Rattle.srb_judgement.specs.ExamplesOfBranches.{BranchesAreJoined, CasesNarrow, JumpsEndTheirPath, CONDITIONAL, MISSING_BRANCH, LIVE_BRANCHES, ELSIF_NARROWS, MODIFIED_NARROWS, TEXT_ORDER, CASE_OF_VARIABLE, SEVERAL_PATTERNS, OTHER_PATTERN, CASE_IN_BRACKETS, CASE_OF_CALL, CASE_OF_CONDITIONS, CASE_WITHOUT_ELSE, RETURN_CHECKED, RETURN_ALONE, LAST_CHECKED, EMPTY_METHOD, VOID_METHOD, ABSTRACT_METHOD, RETURN_IN_BLOCK, BREAK_OUTSIDE}
use Rattle.srb_judgement.specs.Judgements.{part_at, part_of, errors_of}
use Rattle.rb_tree.specs.declared.syntax.Node.{Node}
use Rattle.rb_tree.specs.declared.syntax.Tree.{Tree}
use Rattle.srb_judgement.proofs.Folds.{KNOWN, tree-part}

known_conditional : part_of SMALL (CONDITIONAL Node Tree (source tree_of)) ≡ CONDITIONAL KNOWN KNOWN (source (part_at SMALL))
known_conditional = simp tree-part

known_missing_branch : part_of SMALL (MISSING_BRANCH Node Tree (source tree_of)) ≡ MISSING_BRANCH KNOWN KNOWN (source (part_at SMALL))
known_missing_branch = simp tree-part

known_live_branches : part_of SMALL (LIVE_BRANCHES Node Tree (source tree_of)) ≡ LIVE_BRANCHES KNOWN KNOWN (source (part_at SMALL))
known_live_branches = simp tree-part

known_elsif_narrows : part_of SMALL (ELSIF_NARROWS Node Tree (source tree_of)) ≡ ELSIF_NARROWS KNOWN KNOWN (source (part_at SMALL))
known_elsif_narrows = simp tree-part

known_modified_narrows : part_of SMALL (MODIFIED_NARROWS Node Tree (source tree_of)) ≡ MODIFIED_NARROWS KNOWN KNOWN (source (part_at SMALL))
known_modified_narrows = simp tree-part

known_text_order : part_of SMALL (TEXT_ORDER Node Tree (source tree_of)) ≡ TEXT_ORDER KNOWN KNOWN (source (part_at SMALL))
known_text_order = simp tree-part

pub branches_are_joined : BranchesAreJoined
unfolding errors_of part_at
branches_are_joined = (ap (program_errors SMALL) known_conditional, ap (program_errors SMALL) known_missing_branch, ap (program_errors SMALL) known_live_branches, ap (program_errors SMALL) known_elsif_narrows, ap (program_errors SMALL) known_modified_narrows, ap (program_errors SMALL) known_text_order)

known_case_of_variable : part_of SMALL (CASE_OF_VARIABLE Node Tree (source tree_of)) ≡ CASE_OF_VARIABLE KNOWN KNOWN (source (part_at SMALL))
known_case_of_variable = simp tree-part

known_several_patterns : part_of SMALL (SEVERAL_PATTERNS Node Tree (source tree_of)) ≡ SEVERAL_PATTERNS KNOWN KNOWN (source (part_at SMALL))
known_several_patterns = simp tree-part

known_other_pattern : part_of SMALL (OTHER_PATTERN Node Tree (source tree_of)) ≡ OTHER_PATTERN KNOWN KNOWN (source (part_at SMALL))
known_other_pattern = simp tree-part

known_case_in_brackets : part_of SMALL (CASE_IN_BRACKETS Node Tree (source tree_of)) ≡ CASE_IN_BRACKETS KNOWN KNOWN (source (part_at SMALL))
known_case_in_brackets = simp tree-part

known_case_of_call : part_of SMALL (CASE_OF_CALL Node Tree (source tree_of)) ≡ CASE_OF_CALL KNOWN KNOWN (source (part_at SMALL))
known_case_of_call = simp tree-part

known_case_of_conditions : part_of SMALL (CASE_OF_CONDITIONS Node Tree (source tree_of)) ≡ CASE_OF_CONDITIONS KNOWN KNOWN (source (part_at SMALL))
known_case_of_conditions = simp tree-part

known_case_without_else : part_of SMALL (CASE_WITHOUT_ELSE Node Tree (source tree_of)) ≡ CASE_WITHOUT_ELSE KNOWN KNOWN (source (part_at SMALL))
known_case_without_else = simp tree-part

pub cases_narrow : CasesNarrow
unfolding errors_of part_at
cases_narrow = (ap (program_errors SMALL) known_case_of_variable, ap (program_errors SMALL) known_several_patterns, ap (program_errors SMALL) known_other_pattern, ap (program_errors SMALL) known_case_in_brackets, ap (program_errors SMALL) known_case_of_call, ap (program_errors SMALL) known_case_of_conditions, ap (program_errors SMALL) known_case_without_else)

known_return_checked : part_of SMALL (RETURN_CHECKED Node Tree (source tree_of)) ≡ RETURN_CHECKED KNOWN KNOWN (source (part_at SMALL))
known_return_checked = simp tree-part

known_return_alone : part_of SMALL (RETURN_ALONE Node Tree (source tree_of)) ≡ RETURN_ALONE KNOWN KNOWN (source (part_at SMALL))
known_return_alone = simp tree-part

known_last_checked : part_of SMALL (LAST_CHECKED Node Tree (source tree_of)) ≡ LAST_CHECKED KNOWN KNOWN (source (part_at SMALL))
known_last_checked = simp tree-part

known_empty_method : part_of SMALL (EMPTY_METHOD Node Tree (source tree_of)) ≡ EMPTY_METHOD KNOWN KNOWN (source (part_at SMALL))
known_empty_method = simp tree-part

known_void_method : part_of SMALL (VOID_METHOD Node Tree (source tree_of)) ≡ VOID_METHOD KNOWN KNOWN (source (part_at SMALL))
known_void_method = simp tree-part

known_abstract_method : part_of SMALL (ABSTRACT_METHOD Node Tree (source tree_of)) ≡ ABSTRACT_METHOD KNOWN KNOWN (source (part_at SMALL))
known_abstract_method = simp tree-part

known_return_in_block : part_of SMALL (RETURN_IN_BLOCK Node Tree (source tree_of)) ≡ RETURN_IN_BLOCK KNOWN KNOWN (source (part_at SMALL))
known_return_in_block = simp tree-part

known_break_outside : part_of SMALL (BREAK_OUTSIDE Node Tree (source tree_of)) ≡ BREAK_OUTSIDE KNOWN KNOWN (source (part_at SMALL))
known_break_outside = simp tree-part

pub jumps_end_their_path : JumpsEndTheirPath
unfolding errors_of part_at
jumps_end_their_path = (ap (program_errors SMALL) known_return_checked, ap (program_errors SMALL) known_return_alone, ap (program_errors SMALL) known_last_checked, ap (program_errors SMALL) known_empty_method, ap (program_errors SMALL) known_void_method, ap (program_errors SMALL) known_abstract_method, ap (program_errors SMALL) known_return_in_block, ap (program_errors SMALL) known_break_outside)
