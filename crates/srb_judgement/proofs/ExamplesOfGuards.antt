-- The examples of `ExamplesOfGuards`, computed: a tree is first what is known of it, and that is judged.
use Rattle.std.proofs.Common.{◌≡◌, ap}
use Rattle.srb_judgement.specs.Bodies.{program_errors}
use Rattle.srb_judgement.specs.ExampleLanguage.{SMALL}
use Rattle.srb_judgement.specs.ExampleTrees.{source, tree_of}
use Rattle.srb_judgement.specs.ExamplesOfGuards.{ClausesSeeAssignments, EnsureIsJudgedOnce, RESCUED, ABSENT_BEFORE, LIVE_ASSIGNMENTS, CAUGHT, CAUGHT_IS_PINNED, ELSE_TYPE, ENDS_JOINED, PATTERNS_IN_ORDER, GUARD_UNREACHED, ENSURE_SEES, ENSURE_ASSIGNS, ENSURE_IN_JUMP, ENSURE_DEAD, ENSURE_SILENT, JUMPS_DROPPED, METHOD_GUARD}
use Rattle.srb_judgement.specs.Judgements.{part_at, part_of, errors_of}
use Rattle.rb_tree.specs.declared.syntax.Node.{Node}
use Rattle.rb_tree.specs.declared.syntax.Tree.{Tree}
use Rattle.srb_judgement.proofs.Folds.{KNOWN, tree-part}

known_rescued : part_of SMALL (RESCUED Node Tree (source tree_of)) ≡ RESCUED KNOWN KNOWN (source (part_at SMALL))
known_rescued = simp tree-part

known_absent_before : part_of SMALL (ABSENT_BEFORE Node Tree (source tree_of)) ≡ ABSENT_BEFORE KNOWN KNOWN (source (part_at SMALL))
known_absent_before = simp tree-part

known_live_assignments : part_of SMALL (LIVE_ASSIGNMENTS Node Tree (source tree_of)) ≡ LIVE_ASSIGNMENTS KNOWN KNOWN (source (part_at SMALL))
known_live_assignments = simp tree-part

known_caught : part_of SMALL (CAUGHT Node Tree (source tree_of)) ≡ CAUGHT KNOWN KNOWN (source (part_at SMALL))
known_caught = simp tree-part

known_caught_is_pinned : part_of SMALL (CAUGHT_IS_PINNED Node Tree (source tree_of)) ≡ CAUGHT_IS_PINNED KNOWN KNOWN (source (part_at SMALL))
known_caught_is_pinned = simp tree-part

known_else_type : part_of SMALL (ELSE_TYPE Node Tree (source tree_of)) ≡ ELSE_TYPE KNOWN KNOWN (source (part_at SMALL))
known_else_type = simp tree-part

known_ends_joined : part_of SMALL (ENDS_JOINED Node Tree (source tree_of)) ≡ ENDS_JOINED KNOWN KNOWN (source (part_at SMALL))
known_ends_joined = simp tree-part

known_patterns_in_order : part_of SMALL (PATTERNS_IN_ORDER Node Tree (source tree_of)) ≡ PATTERNS_IN_ORDER KNOWN KNOWN (source (part_at SMALL))
known_patterns_in_order = simp tree-part

known_guard_unreached : part_of SMALL (GUARD_UNREACHED Node Tree (source tree_of)) ≡ GUARD_UNREACHED KNOWN KNOWN (source (part_at SMALL))
known_guard_unreached = simp tree-part

pub clauses_see_assignments : ClausesSeeAssignments
unfolding errors_of part_at
clauses_see_assignments = (ap (program_errors SMALL) known_rescued, ap (program_errors SMALL) known_absent_before, ap (program_errors SMALL) known_live_assignments, ap (program_errors SMALL) known_caught, ap (program_errors SMALL) known_caught_is_pinned, ap (program_errors SMALL) known_else_type, ap (program_errors SMALL) known_ends_joined, ap (program_errors SMALL) known_patterns_in_order, ap (program_errors SMALL) known_guard_unreached)

known_ensure_sees : part_of SMALL (ENSURE_SEES Node Tree (source tree_of)) ≡ ENSURE_SEES KNOWN KNOWN (source (part_at SMALL))
known_ensure_sees = simp tree-part

known_ensure_assigns : part_of SMALL (ENSURE_ASSIGNS Node Tree (source tree_of)) ≡ ENSURE_ASSIGNS KNOWN KNOWN (source (part_at SMALL))
known_ensure_assigns = simp tree-part

known_ensure_in_jump : part_of SMALL (ENSURE_IN_JUMP Node Tree (source tree_of)) ≡ ENSURE_IN_JUMP KNOWN KNOWN (source (part_at SMALL))
known_ensure_in_jump = simp tree-part

known_ensure_dead : part_of SMALL (ENSURE_DEAD Node Tree (source tree_of)) ≡ ENSURE_DEAD KNOWN KNOWN (source (part_at SMALL))
known_ensure_dead = simp tree-part

known_ensure_silent : part_of SMALL (ENSURE_SILENT Node Tree (source tree_of)) ≡ ENSURE_SILENT KNOWN KNOWN (source (part_at SMALL))
known_ensure_silent = simp tree-part

known_jumps_dropped : part_of SMALL (JUMPS_DROPPED Node Tree (source tree_of)) ≡ JUMPS_DROPPED KNOWN KNOWN (source (part_at SMALL))
known_jumps_dropped = simp tree-part

known_method_guard : part_of SMALL (METHOD_GUARD Node Tree (source tree_of)) ≡ METHOD_GUARD KNOWN KNOWN (source (part_at SMALL))
known_method_guard = simp tree-part

pub ensure_is_judged_once : EnsureIsJudgedOnce
unfolding errors_of part_at
ensure_is_judged_once = (ap (program_errors SMALL) known_ensure_sees, ap (program_errors SMALL) known_ensure_assigns, ap (program_errors SMALL) known_ensure_in_jump, ap (program_errors SMALL) known_ensure_dead, ap (program_errors SMALL) known_ensure_silent, ap (program_errors SMALL) known_jumps_dropped, ap (program_errors SMALL) known_method_guard)
