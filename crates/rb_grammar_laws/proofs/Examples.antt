-- Lists of tokens that are no program.
use Rattle.std.proofs.Common.{◌≡◌, ◌+◌, Bool, true, false, List, length, Result, Ok, Err, refl, sym, ap, ◌∙◌}
use Rattle.rb_tree.specs.Tokens.{shape_of, same_shape}
use Rattle.rb_tree.specs.Trees.{span_of, span_of_node}
use Rattle.rb_tree.specs.declared.syntax.Tree.{Tree}
use Rattle.rb_tree.specs.declared.syntax.Node as roll
use denote.Hole.Carrier as carrier
use Rattle.rb_tree.specs.declared.token.Token.{Token}
use Rattle.rb_decl.specs.Programs.{program}
use Rattle.rb_grammar_laws.specs.Examples.{HasNoTree, EQUALITIES, APART, DISORDER, TWICE, INNER, UNDIVIDED, REPEATED}
use Rattle.rb_grammar_laws.proofs.Answers.{programs-answer}
use Rattle.rb_expr.specs.Shapes as eshapes
use Rattle.rb_expr.specs.Lists as elists
use Rattle.rb_expr.specs.Calls as ecalls
use Rattle.rb_expr.specs.Branches as ebranches
use Rattle.rb_expr.specs.Operands as eoperands
use Rattle.rb_expr.specs.Operators as eoperators
use Rattle.rb_expr.specs.Statements as estatements
use Rattle.rb_expr.specs.Grammar as egrammar
use Rattle.rb_expr.specs.Rules as erules
use Rattle.rb_decl.specs.Names as dnames
use Rattle.rb_decl.specs.Parameters as dparameters
use Rattle.rb_decl.specs.Methods as dmethods
use Rattle.rb_decl.specs.Items as ditems
use Rattle.rb_decl.specs.Programs as dprograms

is_tree : {E : Type 0} → Result Tree E → Bool
is_tree (Ok t) = true
is_tree (Err e) = false

-- what the parser refuses has no tree
refused : (tokens : List Token) → is_tree (program (length tokens + 2) tokens) ≡ false → HasNoTree tokens
unfolding is_tree
refused tokens e t d = absurd (let f : true ≡ false = sym (ap is_tree (programs-answer tokens t d)) ∙ e in cc)

-- the parser refuses each of them
all-refused :
    (is_tree (program 7 EQUALITIES) ≡ false)
    × (is_tree (program 6 APART) ≡ false)
    × (is_tree (program 9 DISORDER) ≡ false)
    × (is_tree (program 10 TWICE) ≡ false)
    × (is_tree (program 10 INNER) ≡ false)
    × (is_tree (program 7 UNDIVIDED) ≡ false)
    × (is_tree (program 6 REPEATED) ≡ false)
unfolding is_tree shape_of same_shape span_of span_of_node
    eshapes.begins_statement eshapes.has_value eshapes.operator_between eshapes.sees_number eshapes.is_signed eshapes.is_sign eshapes.is_negation
    eshapes.prefix_of eshapes.has_prefix eshapes.is_index
    elists.end_of_argument elists.passes_block elists.closed elists.after_comma elists.after_element elists.after_last elists.after_argument
    elists.goes_on elists.fresh_name
    ecalls.keyword ecalls.passed_block ecalls.positional ecalls.one_argument ecalls.listed_from ecalls.listed ecalls.in_brackets ecalls.brackets
    ecalls.index_arguments ecalls.optional_brackets ecalls.bare_from ecalls.bare ecalls.bar_names_from ecalls.bar_names ecalls.bars ecalls.block
    ecalls.optional_do ecalls.any_block ecalls.optional_block ecalls.command_block
    ebranches.then_word ebranches.do_word ebranches.otherwise ebranches.elsif_arm ebranches.elsif_arms_from ebranches.elsif_arms ebranches.arms_of
    ebranches.branch ebranches.repeated ebranches.subject ebranches.patterns_from ebranches.patterns ebranches.when_arm ebranches.when_arms_from
    ebranches.when_arms ebranches.choice ebranches.rescues_all ebranches.rescue_variable ebranches.raised ebranches.rescue_clause ebranches.rescues_from
    ebranches.rescues ebranches.otherwise_after ebranches.ensure ebranches.guarded ebranches.guards
    eoperands.number eoperands.touching eoperands.signed eoperands.unraised eoperands.negative eoperands.symbol eoperands.instance_variable
    eoperands.constant eoperands.top_constant eoperands.word eoperands.interpolation eoperands.pieces_from eoperands.pieces eoperands.text
    eoperands.called eoperands.yielding eoperands.super_call eoperands.elements_from eoperands.elements eoperands.array_from eoperands.array
    eoperands.label_pair eoperands.arrow_pair eoperands.a_pair eoperands.pairs_from eoperands.pairs eoperands.hash_from eoperands.hash eoperands.parens
    eoperands.primary eoperands.call_suffix eoperands.constant_suffix eoperands.index_suffix eoperands.a_suffix eoperands.suffixes_from eoperands.suffixes
    eoperands.post
    eoperators.across eoperators.unary_operation eoperators.binary_operation eoperators.prefixed eoperators.powered eoperators.power eoperators.negated
    eoperators.climb_from eoperators.climb eoperators.operation eoperators.alternatives eoperators.chosen eoperators.tern eoperators.tern_after
    estatements.ending_of estatements.follower_of estatements.is_begin estatements.may_modify estatements.modifier_after estatements.ended
    estatements.assigned estatements.operator_assigned estatements.command estatements.followed estatements.from_operand estatements.value
    estatements.jump_value estatements.jump estatements.simple estatements.modified estatements.modifiers_from estatements.modifiers estatements.statement
    estatements.body_from estatements.statements estatements.body
    egrammar.parsed
    erules.statement erules.longest_body erules.guarded erules.tern
    dnames.constant dnames.path_from dnames.path dnames.reference dnames.superclass
    dparameters.fresh dparameters.plain dparameters.keyword dparameters.block dparameters.parameter dparameters.row_from dparameters.row
    dparameters.bracketed dparameters.bare dparameters.parameters_of
    dmethods.visibility dmethods.operator_text dmethods.plain_name dmethods.method_name dmethods.own dmethods.method_head dmethods.defined dmethods.method
    ditems.class_head ditems.module_head ditems.namespace_head ditems.statements_from ditems.statements ditems.namespace ditems.item
    dprograms.program
    roll.out-Node
    carrier.out
all-refused = (refl, refl, refl, refl, refl, refl, refl)

pub equalities-none : HasNoTree EQUALITIES
equalities-none = refused EQUALITIES all-refused.0

pub apart-none : HasNoTree APART
apart-none = refused APART all-refused.1

pub disorder-none : HasNoTree DISORDER
disorder-none = refused DISORDER all-refused.2

pub twice-none : HasNoTree TWICE
twice-none = refused TWICE all-refused.3

pub inner-none : HasNoTree INNER
inner-none = refused INNER all-refused.4

pub undivided-none : HasNoTree UNDIVIDED
undivided-none = refused UNDIVIDED all-refused.5

pub repeated-none : HasNoTree REPEATED
repeated-none = refused REPEATED all-refused.6
