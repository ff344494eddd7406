-- The examples of `ExamplesOfWords`, computed: a tree is first what is known of it, and that is judged.
use Rattle.std.proofs.Common.{◌≡◌, ap}
use Rattle.srb_judgement.specs.Bodies.{program_errors}
use Rattle.srb_judgement.specs.ExampleLanguage.{SMALL}
use Rattle.srb_judgement.specs.ExampleTrees.{source, tree_of}
use Rattle.srb_judgement.specs.ExamplesOfWords.{LiteralsHaveTheirClasses, SelfIsTheOwner, ConstantsHaveTypes, InstanceVariablesAreDeclared, LITERALS, ARRAYS, HASHES, INTERPOLATIONS, SELF_AT_TOP, SELF_IN_CLASS, METHOD_AT_TOP, CONSTANTS, CONSTANT_IN_SCOPE, CONSTANT_OF_VALUE, DECLARED, OF_CLASS_OBJECT, ASSIGNED_WRONG}
use Rattle.srb_judgement.specs.Judgements.{part_at, part_of, errors_of}
use Rattle.rb_tree.specs.declared.syntax.Node.{Node}
use Rattle.rb_tree.specs.declared.syntax.Tree.{Tree}
use Rattle.srb_judgement.proofs.Folds.{KNOWN, tree-part}

known_literals : part_of SMALL (LITERALS Node Tree (source tree_of)) ≡ LITERALS KNOWN KNOWN (source (part_at SMALL))
known_literals = simp tree-part

known_arrays : part_of SMALL (ARRAYS Node Tree (source tree_of)) ≡ ARRAYS KNOWN KNOWN (source (part_at SMALL))
known_arrays = simp tree-part

known_hashes : part_of SMALL (HASHES Node Tree (source tree_of)) ≡ HASHES KNOWN KNOWN (source (part_at SMALL))
known_hashes = simp tree-part

known_interpolations : part_of SMALL (INTERPOLATIONS Node Tree (source tree_of)) ≡ INTERPOLATIONS KNOWN KNOWN (source (part_at SMALL))
known_interpolations = simp tree-part

pub literals_have_their_classes : LiteralsHaveTheirClasses
unfolding errors_of part_at
literals_have_their_classes = (ap (program_errors SMALL) known_literals, ap (program_errors SMALL) known_arrays, ap (program_errors SMALL) known_hashes, ap (program_errors SMALL) known_interpolations)

known_self_at_top : part_of SMALL (SELF_AT_TOP Node Tree (source tree_of)) ≡ SELF_AT_TOP KNOWN KNOWN (source (part_at SMALL))
known_self_at_top = simp tree-part

known_self_in_class : part_of SMALL (SELF_IN_CLASS Node Tree (source tree_of)) ≡ SELF_IN_CLASS KNOWN KNOWN (source (part_at SMALL))
known_self_in_class = simp tree-part

known_method_at_top : part_of SMALL (METHOD_AT_TOP Node Tree (source tree_of)) ≡ METHOD_AT_TOP KNOWN KNOWN (source (part_at SMALL))
known_method_at_top = simp tree-part

pub self_is_the_owner : SelfIsTheOwner
unfolding errors_of part_at
self_is_the_owner = (ap (program_errors SMALL) known_self_at_top, ap (program_errors SMALL) known_self_in_class, ap (program_errors SMALL) known_method_at_top)

known_constants : part_of SMALL (CONSTANTS Node Tree (source tree_of)) ≡ CONSTANTS KNOWN KNOWN (source (part_at SMALL))
known_constants = simp tree-part

known_constant_in_scope : part_of SMALL (CONSTANT_IN_SCOPE Node Tree (source tree_of)) ≡ CONSTANT_IN_SCOPE KNOWN KNOWN (source (part_at SMALL))
known_constant_in_scope = simp tree-part

known_constant_of_value : part_of SMALL (CONSTANT_OF_VALUE Node Tree (source tree_of)) ≡ CONSTANT_OF_VALUE KNOWN KNOWN (source (part_at SMALL))
known_constant_of_value = simp tree-part

pub constants_have_types : ConstantsHaveTypes
unfolding errors_of part_at
constants_have_types = (ap (program_errors SMALL) known_constants, ap (program_errors SMALL) known_constant_in_scope, ap (program_errors SMALL) known_constant_of_value)

known_declared : part_of SMALL (DECLARED Node Tree (source tree_of)) ≡ DECLARED KNOWN KNOWN (source (part_at SMALL))
known_declared = simp tree-part

known_of_class_object : part_of SMALL (OF_CLASS_OBJECT Node Tree (source tree_of)) ≡ OF_CLASS_OBJECT KNOWN KNOWN (source (part_at SMALL))
known_of_class_object = simp tree-part

known_assigned_wrong : part_of SMALL (ASSIGNED_WRONG Node Tree (source tree_of)) ≡ ASSIGNED_WRONG KNOWN KNOWN (source (part_at SMALL))
known_assigned_wrong = simp tree-part

pub instance_variables_are_declared : InstanceVariablesAreDeclared
unfolding errors_of part_at
instance_variables_are_declared = (ap (program_errors SMALL) known_declared, ap (program_errors SMALL) known_of_class_object, ap (program_errors SMALL) known_assigned_wrong)
