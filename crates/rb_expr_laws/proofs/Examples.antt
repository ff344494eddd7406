-- The examples are computed.
use Rattle.std.proofs.Common.{refl}
use Rattle.rb_tree.specs.Tokens as tokens
use Rattle.rb_tree.specs.Trees as trees
use Rattle.rb_tree.specs.declared.syntax.Node as syntax
use denote.Hole.Carrier as carrier
use Rattle.rb_expr.specs.Shapes as expr_shapes
use Rattle.rb_expr.specs.Lists as expr_lists
use Rattle.rb_expr.specs.Calls as expr_calls
use Rattle.rb_expr.specs.Branches as expr_branches
use Rattle.rb_expr.specs.Operands as expr_operands
use Rattle.rb_expr.specs.Operators as expr_operators
use Rattle.rb_expr.specs.Statements as expr_statements
use Rattle.rb_expr.specs.Grammar as expr_grammar
use Rattle.rb_expr.specs.Rules as expr_rules
use Rattle.rb_weight.specs.Sorts as sorts
use Rattle.rb_weight.specs.Effects as effects
use Rattle.rb_weight.specs.Scans as scans
use Rattle.rb_expr.specs.Answers as answers
use Rattle.rb_expr_laws.specs.Examples.{TermIsRead, BodyIsRead, ConstantIsAssigned, OperandIsWanted, NegationIsDeep, BadIsToldFirst, RescueIsRefused, ComparisonIsRead, PowerIsRefused, PartedIsRead, JumpIsRead}

pub read : TermIsRead × BodyIsRead × ConstantIsAssigned × ComparisonIsRead × PartedIsRead × JumpIsRead
unfolding syntax.out-Node carrier.out tokens.shape_of tokens.same_shape trees.span_of trees.span_of_node expr_shapes.begins_statement expr_shapes.has_value expr_shapes.operator_between expr_shapes.sees_number expr_shapes.is_signed expr_shapes.is_sign expr_shapes.is_negation expr_shapes.prefix_of expr_shapes.has_prefix expr_shapes.is_index expr_lists.end_of_argument expr_lists.passes_block expr_lists.closed expr_lists.after_comma expr_lists.after_element expr_lists.after_last expr_lists.after_argument expr_lists.goes_on expr_lists.fresh_name expr_calls.keyword expr_calls.passed_block expr_calls.positional expr_calls.one_argument expr_calls.listed_from expr_calls.listed expr_calls.in_brackets expr_calls.brackets expr_calls.index_arguments expr_calls.optional_brackets expr_calls.bare_from expr_calls.bare expr_calls.bar_names_from expr_calls.bar_names expr_calls.bars expr_calls.block expr_calls.optional_do expr_calls.any_block expr_calls.optional_block expr_calls.command_block expr_branches.then_word expr_branches.do_word expr_branches.otherwise expr_branches.elsif_arm expr_branches.elsif_arms_from expr_branches.elsif_arms expr_branches.arms_of expr_branches.branch expr_branches.repeated expr_branches.subject expr_branches.patterns_from expr_branches.patterns expr_branches.when_arm expr_branches.when_arms_from expr_branches.when_arms expr_branches.choice expr_branches.rescues_all expr_branches.rescue_variable expr_branches.raised expr_branches.rescue_clause expr_branches.rescues_from expr_branches.rescues expr_branches.otherwise_after expr_branches.ensure expr_branches.guarded expr_branches.guards expr_operands.number expr_operands.touching expr_operands.signed expr_operands.unraised expr_operands.negative expr_operands.symbol expr_operands.instance_variable expr_operands.constant expr_operands.top_constant expr_operands.word expr_operands.interpolation expr_operands.pieces_from expr_operands.pieces expr_operands.text expr_operands.called expr_operands.yielding expr_operands.super_call expr_operands.elements_from expr_operands.elements expr_operands.array_from expr_operands.array expr_operands.label_pair expr_operands.arrow_pair expr_operands.a_pair expr_operands.pairs_from expr_operands.pairs expr_operands.hash_from expr_operands.hash expr_operands.parens expr_operands.primary expr_operands.call_suffix expr_operands.constant_suffix expr_operands.index_suffix expr_operands.a_suffix expr_operands.suffixes_from expr_operands.suffixes expr_operands.post expr_operators.across expr_operators.unary_operation expr_operators.binary_operation expr_operators.prefixed expr_operators.powered expr_operators.power expr_operators.negated expr_operators.climb_from expr_operators.climb expr_operators.operation expr_operators.alternatives expr_operators.chosen expr_operators.tern expr_operators.tern_after expr_statements.ending_of expr_statements.follower_of expr_statements.is_begin expr_statements.may_modify expr_statements.modifier_after expr_statements.ended expr_statements.assigned expr_statements.operator_assigned expr_statements.command expr_statements.followed expr_statements.from_operand expr_statements.value expr_statements.jump_value expr_statements.jump expr_statements.simple expr_statements.modified expr_statements.modifiers_from expr_statements.modifiers expr_statements.statement expr_statements.body_from expr_statements.statements expr_statements.body expr_grammar.parsed expr_rules.longest_body expr_rules.tern sorts.sort_of effects.effect_of effects.after effects.after_plain scans.done answers.ruled answers.whole answers.cut answers.answered
read = ((refl, refl), refl, (refl, refl), refl, (refl, refl), refl)

pub refused : OperandIsWanted × NegationIsDeep × BadIsToldFirst × RescueIsRefused × PowerIsRefused
unfolding syntax.out-Node carrier.out tokens.shape_of tokens.same_shape trees.span_of trees.span_of_node expr_shapes.begins_statement expr_shapes.has_value expr_shapes.operator_between expr_shapes.sees_number expr_shapes.is_signed expr_shapes.is_sign expr_shapes.is_negation expr_shapes.prefix_of expr_shapes.has_prefix expr_shapes.is_index expr_lists.end_of_argument expr_lists.passes_block expr_lists.closed expr_lists.after_comma expr_lists.after_element expr_lists.after_last expr_lists.after_argument expr_lists.goes_on expr_lists.fresh_name expr_calls.keyword expr_calls.passed_block expr_calls.positional expr_calls.one_argument expr_calls.listed_from expr_calls.listed expr_calls.in_brackets expr_calls.brackets expr_calls.index_arguments expr_calls.optional_brackets expr_calls.bare_from expr_calls.bare expr_calls.bar_names_from expr_calls.bar_names expr_calls.bars expr_calls.block expr_calls.optional_do expr_calls.any_block expr_calls.optional_block expr_calls.command_block expr_branches.then_word expr_branches.do_word expr_branches.otherwise expr_branches.elsif_arm expr_branches.elsif_arms_from expr_branches.elsif_arms expr_branches.arms_of expr_branches.branch expr_branches.repeated expr_branches.subject expr_branches.patterns_from expr_branches.patterns expr_branches.when_arm expr_branches.when_arms_from expr_branches.when_arms expr_branches.choice expr_branches.rescues_all expr_branches.rescue_variable expr_branches.raised expr_branches.rescue_clause expr_branches.rescues_from expr_branches.rescues expr_branches.otherwise_after expr_branches.ensure expr_branches.guarded expr_branches.guards expr_operands.number expr_operands.touching expr_operands.signed expr_operands.unraised expr_operands.negative expr_operands.symbol expr_operands.instance_variable expr_operands.constant expr_operands.top_constant expr_operands.word expr_operands.interpolation expr_operands.pieces_from expr_operands.pieces expr_operands.text expr_operands.called expr_operands.yielding expr_operands.super_call expr_operands.elements_from expr_operands.elements expr_operands.array_from expr_operands.array expr_operands.label_pair expr_operands.arrow_pair expr_operands.a_pair expr_operands.pairs_from expr_operands.pairs expr_operands.hash_from expr_operands.hash expr_operands.parens expr_operands.primary expr_operands.call_suffix expr_operands.constant_suffix expr_operands.index_suffix expr_operands.a_suffix expr_operands.suffixes_from expr_operands.suffixes expr_operands.post expr_operators.across expr_operators.unary_operation expr_operators.binary_operation expr_operators.prefixed expr_operators.powered expr_operators.power expr_operators.negated expr_operators.climb_from expr_operators.climb expr_operators.operation expr_operators.alternatives expr_operators.chosen expr_operators.tern expr_operators.tern_after expr_statements.ending_of expr_statements.follower_of expr_statements.is_begin expr_statements.may_modify expr_statements.modifier_after expr_statements.ended expr_statements.assigned expr_statements.operator_assigned expr_statements.command expr_statements.followed expr_statements.from_operand expr_statements.value expr_statements.jump_value expr_statements.jump expr_statements.simple expr_statements.modified expr_statements.modifiers_from expr_statements.modifiers expr_statements.statement expr_statements.body_from expr_statements.statements expr_statements.body expr_grammar.parsed expr_rules.longest_body expr_rules.tern sorts.sort_of effects.effect_of effects.after effects.after_plain scans.done answers.ruled answers.whole answers.cut answers.answered
refused = ((refl, refl), (refl, refl), refl, refl, refl)
