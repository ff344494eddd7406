-- The examples of `ExamplesOfLoops`, computed: a tree is first what is known of it, and that is judged.
use Rattle.std.proofs.Common.{◌≡◌, ap}
use Rattle.srb_judgement.specs.Bodies.{program_errors}
use Rattle.srb_judgement.specs.ExampleLanguage.{SMALL}
use Rattle.srb_judgement.specs.ExampleTrees.{source, tree_of}
use Rattle.srb_judgement.specs.ExamplesOfLoops.{LoopsPinVariables, LoopsHaveTypes, BlocksPinVariables, STAYS_NIL, WIDE_ENOUGH, GETS_PINNED_TYPE, INNERMOST_PIN, NEW_VARIABLE, CONDITION_INSIDE, LOOP_TYPE, AFTER_LOOP, NEXT_IN_LOOP, ENDLESS, BLOCK_STAYS, AFTER_BLOCK, BLOCK_PARAMETER, BLOCK_TYPE, NEXT_ALONE, BLOCK_BREAKS, TWO_BLOCKS, BLOCK_IN_LOOP, DEAD_ENTRY, SUPER_BLOCK, SAFE_BREAK}
use Rattle.srb_judgement.specs.Judgements.{part_at, part_of, errors_of}
use Rattle.rb_tree.specs.declared.syntax.Node.{Node}
use Rattle.rb_tree.specs.declared.syntax.Tree.{Tree}
use Rattle.srb_judgement.proofs.Folds.{KNOWN, tree-part}

known_stays_nil : part_of SMALL (STAYS_NIL Node Tree (source tree_of)) ≡ STAYS_NIL KNOWN KNOWN (source (part_at SMALL))
known_stays_nil = simp tree-part

known_wide_enough : part_of SMALL (WIDE_ENOUGH Node Tree (source tree_of)) ≡ WIDE_ENOUGH KNOWN KNOWN (source (part_at SMALL))
known_wide_enough = simp tree-part

known_gets_pinned_type : part_of SMALL (GETS_PINNED_TYPE Node Tree (source tree_of)) ≡ GETS_PINNED_TYPE KNOWN KNOWN (source (part_at SMALL))
known_gets_pinned_type = simp tree-part

known_innermost_pin : part_of SMALL (INNERMOST_PIN Node Tree (source tree_of)) ≡ INNERMOST_PIN KNOWN KNOWN (source (part_at SMALL))
known_innermost_pin = simp tree-part

known_new_variable : part_of SMALL (NEW_VARIABLE Node Tree (source tree_of)) ≡ NEW_VARIABLE KNOWN KNOWN (source (part_at SMALL))
known_new_variable = simp tree-part

known_condition_inside : part_of SMALL (CONDITION_INSIDE Node Tree (source tree_of)) ≡ CONDITION_INSIDE KNOWN KNOWN (source (part_at SMALL))
known_condition_inside = simp tree-part

pub loops_pin_variables : LoopsPinVariables
unfolding errors_of part_at
loops_pin_variables = (ap (program_errors SMALL) known_stays_nil, ap (program_errors SMALL) known_wide_enough, ap (program_errors SMALL) known_gets_pinned_type, ap (program_errors SMALL) known_innermost_pin, ap (program_errors SMALL) known_new_variable, ap (program_errors SMALL) known_condition_inside)

known_loop_type : part_of SMALL (LOOP_TYPE Node Tree (source tree_of)) ≡ LOOP_TYPE KNOWN KNOWN (source (part_at SMALL))
known_loop_type = simp tree-part

known_after_loop : part_of SMALL (AFTER_LOOP Node Tree (source tree_of)) ≡ AFTER_LOOP KNOWN KNOWN (source (part_at SMALL))
known_after_loop = simp tree-part

known_next_in_loop : part_of SMALL (NEXT_IN_LOOP Node Tree (source tree_of)) ≡ NEXT_IN_LOOP KNOWN KNOWN (source (part_at SMALL))
known_next_in_loop = simp tree-part

known_endless : part_of SMALL (ENDLESS Node Tree (source tree_of)) ≡ ENDLESS KNOWN KNOWN (source (part_at SMALL))
known_endless = simp tree-part

pub loops_have_types : LoopsHaveTypes
unfolding errors_of part_at
loops_have_types = (ap (program_errors SMALL) known_loop_type, ap (program_errors SMALL) known_after_loop, ap (program_errors SMALL) known_next_in_loop, ap (program_errors SMALL) known_endless)

known_block_stays : part_of SMALL (BLOCK_STAYS Node Tree (source tree_of)) ≡ BLOCK_STAYS KNOWN KNOWN (source (part_at SMALL))
known_block_stays = simp tree-part

known_after_block : part_of SMALL (AFTER_BLOCK Node Tree (source tree_of)) ≡ AFTER_BLOCK KNOWN KNOWN (source (part_at SMALL))
known_after_block = simp tree-part

known_block_parameter : part_of SMALL (BLOCK_PARAMETER Node Tree (source tree_of)) ≡ BLOCK_PARAMETER KNOWN KNOWN (source (part_at SMALL))
known_block_parameter = simp tree-part

known_block_type : part_of SMALL (BLOCK_TYPE Node Tree (source tree_of)) ≡ BLOCK_TYPE KNOWN KNOWN (source (part_at SMALL))
known_block_type = simp tree-part

known_next_alone : part_of SMALL (NEXT_ALONE Node Tree (source tree_of)) ≡ NEXT_ALONE KNOWN KNOWN (source (part_at SMALL))
known_next_alone = simp tree-part

known_block_breaks : part_of SMALL (BLOCK_BREAKS Node Tree (source tree_of)) ≡ BLOCK_BREAKS KNOWN KNOWN (source (part_at SMALL))
known_block_breaks = simp tree-part

known_two_blocks : part_of SMALL (TWO_BLOCKS Node Tree (source tree_of)) ≡ TWO_BLOCKS KNOWN KNOWN (source (part_at SMALL))
known_two_blocks = simp tree-part

known_block_in_loop : part_of SMALL (BLOCK_IN_LOOP Node Tree (source tree_of)) ≡ BLOCK_IN_LOOP KNOWN KNOWN (source (part_at SMALL))
known_block_in_loop = simp tree-part

known_dead_entry : part_of SMALL (DEAD_ENTRY Node Tree (source tree_of)) ≡ DEAD_ENTRY KNOWN KNOWN (source (part_at SMALL))
known_dead_entry = simp tree-part

known_super_block : part_of SMALL (SUPER_BLOCK Node Tree (source tree_of)) ≡ SUPER_BLOCK KNOWN KNOWN (source (part_at SMALL))
known_super_block = simp tree-part

known_safe_break : part_of SMALL (SAFE_BREAK Node Tree (source tree_of)) ≡ SAFE_BREAK KNOWN KNOWN (source (part_at SMALL))
known_safe_break = simp tree-part

pub blocks_pin_variables : BlocksPinVariables
unfolding errors_of part_at
blocks_pin_variables = (ap (program_errors SMALL) known_block_stays, ap (program_errors SMALL) known_after_block, ap (program_errors SMALL) known_block_parameter, ap (program_errors SMALL) known_block_type, ap (program_errors SMALL) known_next_alone, ap (program_errors SMALL) known_block_breaks, ap (program_errors SMALL) known_two_blocks, ap (program_errors SMALL) known_block_in_loop, ap (program_errors SMALL) known_dead_entry, ap (program_errors SMALL) known_super_block, ap (program_errors SMALL) known_safe_break)
