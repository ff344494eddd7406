-- The examples of `ExamplesOfBodies`, computed: a tree is first what is known of it, and that is judged.
use Rattle.std.proofs.Common.{◌≡◌, ap}
use Rattle.srb_judgement.specs.Bodies.{program_errors}
use Rattle.srb_judgement.specs.ExampleLanguage.{SMALL}
use Rattle.srb_judgement.specs.ExampleTrees.{source, tree_of}
use Rattle.srb_judgement.specs.ExamplesOfBodies.{BodiesHaveContexts, DefaultsAreJudged, UsualPrograms, PARAMETERS, WITHOUT_SIG, MALFORMED_SIG, PRIVATE_METHOD, SIG_AT_TOP, DECLARING_CALLS, OWN_VARIABLES, WRONG_DEFAULT, AFTER_DEFAULT, EARLIER_PARAMETERS, LENGTH_OF_NIL, AFTER_A_RETURN, ARRAY_OF_ANY, STRONG, WRONG_RESULT, TEXT_AND_ENSURE}
use Rattle.srb_judgement.specs.Judgements.{part_at, part_of, errors_of}
use Rattle.rb_tree.specs.declared.syntax.Node.{Node}
use Rattle.rb_tree.specs.declared.syntax.Tree.{Tree}
use Rattle.srb_judgement.proofs.Folds.{KNOWN, tree-part}

known_parameters : part_of SMALL (PARAMETERS Node Tree (source tree_of)) ≡ PARAMETERS KNOWN KNOWN (source (part_at SMALL))
known_parameters = simp tree-part

known_without_sig : part_of SMALL (WITHOUT_SIG Node Tree (source tree_of)) ≡ WITHOUT_SIG KNOWN KNOWN (source (part_at SMALL))
known_without_sig = simp tree-part

known_malformed_sig : part_of SMALL (MALFORMED_SIG Node Tree (source tree_of)) ≡ MALFORMED_SIG KNOWN KNOWN (source (part_at SMALL))
known_malformed_sig = simp tree-part

known_private_method : part_of SMALL (PRIVATE_METHOD Node Tree (source tree_of)) ≡ PRIVATE_METHOD KNOWN KNOWN (source (part_at SMALL))
known_private_method = simp tree-part

known_sig_at_top : part_of SMALL (SIG_AT_TOP Node Tree (source tree_of)) ≡ SIG_AT_TOP KNOWN KNOWN (source (part_at SMALL))
known_sig_at_top = simp tree-part

known_declaring_calls : part_of SMALL (DECLARING_CALLS Node Tree (source tree_of)) ≡ DECLARING_CALLS KNOWN KNOWN (source (part_at SMALL))
known_declaring_calls = simp tree-part

known_own_variables : part_of SMALL (OWN_VARIABLES Node Tree (source tree_of)) ≡ OWN_VARIABLES KNOWN KNOWN (source (part_at SMALL))
known_own_variables = simp tree-part

pub bodies_have_contexts : BodiesHaveContexts
unfolding errors_of part_at
bodies_have_contexts = (ap (program_errors SMALL) known_parameters, ap (program_errors SMALL) known_without_sig, ap (program_errors SMALL) known_malformed_sig, ap (program_errors SMALL) known_private_method, ap (program_errors SMALL) known_sig_at_top, ap (program_errors SMALL) known_declaring_calls, ap (program_errors SMALL) known_own_variables)

known_wrong_default : part_of SMALL (WRONG_DEFAULT Node Tree (source tree_of)) ≡ WRONG_DEFAULT KNOWN KNOWN (source (part_at SMALL))
known_wrong_default = simp tree-part

known_after_default : part_of SMALL (AFTER_DEFAULT Node Tree (source tree_of)) ≡ AFTER_DEFAULT KNOWN KNOWN (source (part_at SMALL))
known_after_default = simp tree-part

known_earlier_parameters : part_of SMALL (EARLIER_PARAMETERS Node Tree (source tree_of)) ≡ EARLIER_PARAMETERS KNOWN KNOWN (source (part_at SMALL))
known_earlier_parameters = simp tree-part

pub defaults_are_judged : DefaultsAreJudged
unfolding errors_of part_at
defaults_are_judged = (ap (program_errors SMALL) known_wrong_default, ap (program_errors SMALL) known_after_default, ap (program_errors SMALL) known_earlier_parameters)

known_length_of_nil : part_of SMALL (LENGTH_OF_NIL Node Tree (source tree_of)) ≡ LENGTH_OF_NIL KNOWN KNOWN (source (part_at SMALL))
known_length_of_nil = simp tree-part

known_after_a_return : part_of SMALL (AFTER_A_RETURN Node Tree (source tree_of)) ≡ AFTER_A_RETURN KNOWN KNOWN (source (part_at SMALL))
known_after_a_return = simp tree-part

known_array_of_any : part_of SMALL (ARRAY_OF_ANY Node Tree (source tree_of)) ≡ ARRAY_OF_ANY KNOWN KNOWN (source (part_at SMALL))
known_array_of_any = simp tree-part

known_strong : part_of SMALL (STRONG Node Tree (source tree_of)) ≡ STRONG KNOWN KNOWN (source (part_at SMALL))
known_strong = simp tree-part

known_wrong_result : part_of SMALL (WRONG_RESULT Node Tree (source tree_of)) ≡ WRONG_RESULT KNOWN KNOWN (source (part_at SMALL))
known_wrong_result = simp tree-part

known_text_and_ensure : part_of SMALL (TEXT_AND_ENSURE Node Tree (source tree_of)) ≡ TEXT_AND_ENSURE KNOWN KNOWN (source (part_at SMALL))
known_text_and_ensure = simp tree-part

pub usual_programs : UsualPrograms
unfolding errors_of part_at
usual_programs = (ap (program_errors SMALL) known_length_of_nil, ap (program_errors SMALL) known_after_a_return, ap (program_errors SMALL) known_array_of_any, ap (program_errors SMALL) known_strong, ap (program_errors SMALL) known_wrong_result, ap (program_errors SMALL) known_text_and_ensure)
