-- The examples of `ExamplesOfEnvironments`, computed: a tree is first what is known of it, and that is judged.
use Rattle.std.proofs.Common.{◌≡◌, ap}
use Rattle.srb_judgement.specs.Bodies.{program_errors}
use Rattle.srb_judgement.specs.ExampleLanguage.{SMALL}
use Rattle.srb_judgement.specs.ExampleTrees.{source, tree_of}
use Rattle.srb_judgement.specs.ExamplesOfEnvironments.{UnreachableCodeIsReportedOnce, EnvironmentsAreJoined, AFTER_RETURN, AFTER_RAISE, BOTH_BRANCHES_DEAD, ONE_BRANCH_SILENT, DECLARATIONS_ARE_REACHED, CALL_IS_JUDGED, ABSENT_IS_NIL, JOINED_TYPES, LIVE_WITH_DEAD, EMPTY_BODY}
use Rattle.srb_judgement.specs.Judgements.{part_at, part_of, errors_of}
use Rattle.rb_tree.specs.declared.syntax.Node.{Node}
use Rattle.rb_tree.specs.declared.syntax.Tree.{Tree}
use Rattle.srb_judgement.proofs.Folds.{KNOWN, tree-part}

known_after_return : part_of SMALL (AFTER_RETURN Node Tree (source tree_of)) ≡ AFTER_RETURN KNOWN KNOWN (source (part_at SMALL))
known_after_return = simp tree-part

known_after_raise : part_of SMALL (AFTER_RAISE Node Tree (source tree_of)) ≡ AFTER_RAISE KNOWN KNOWN (source (part_at SMALL))
known_after_raise = simp tree-part

known_both_branches_dead : part_of SMALL (BOTH_BRANCHES_DEAD Node Tree (source tree_of)) ≡ BOTH_BRANCHES_DEAD KNOWN KNOWN (source (part_at SMALL))
known_both_branches_dead = simp tree-part

known_one_branch_silent : part_of SMALL (ONE_BRANCH_SILENT Node Tree (source tree_of)) ≡ ONE_BRANCH_SILENT KNOWN KNOWN (source (part_at SMALL))
known_one_branch_silent = simp tree-part

known_declarations_are_reached : part_of SMALL (DECLARATIONS_ARE_REACHED Node Tree (source tree_of)) ≡ DECLARATIONS_ARE_REACHED KNOWN KNOWN (source (part_at SMALL))
known_declarations_are_reached = simp tree-part

known_call_is_judged : part_of SMALL (CALL_IS_JUDGED Node Tree (source tree_of)) ≡ CALL_IS_JUDGED KNOWN KNOWN (source (part_at SMALL))
known_call_is_judged = simp tree-part

pub unreachable_code_is_reported_once : UnreachableCodeIsReportedOnce
unfolding errors_of part_at
unreachable_code_is_reported_once = (ap (program_errors SMALL) known_after_return, ap (program_errors SMALL) known_after_raise, ap (program_errors SMALL) known_both_branches_dead, ap (program_errors SMALL) known_one_branch_silent, ap (program_errors SMALL) known_declarations_are_reached, ap (program_errors SMALL) known_call_is_judged)

known_absent_is_nil : part_of SMALL (ABSENT_IS_NIL Node Tree (source tree_of)) ≡ ABSENT_IS_NIL KNOWN KNOWN (source (part_at SMALL))
known_absent_is_nil = simp tree-part

known_joined_types : part_of SMALL (JOINED_TYPES Node Tree (source tree_of)) ≡ JOINED_TYPES KNOWN KNOWN (source (part_at SMALL))
known_joined_types = simp tree-part

known_live_with_dead : part_of SMALL (LIVE_WITH_DEAD Node Tree (source tree_of)) ≡ LIVE_WITH_DEAD KNOWN KNOWN (source (part_at SMALL))
known_live_with_dead = simp tree-part

known_empty_body : part_of SMALL (EMPTY_BODY Node Tree (source tree_of)) ≡ EMPTY_BODY KNOWN KNOWN (source (part_at SMALL))
known_empty_body = simp tree-part

pub environments_are_joined : EnvironmentsAreJoined
unfolding errors_of part_at
environments_are_joined = (ap (program_errors SMALL) known_absent_is_nil, ap (program_errors SMALL) known_joined_types, ap (program_errors SMALL) known_live_with_dead, ap (program_errors SMALL) known_empty_body)
