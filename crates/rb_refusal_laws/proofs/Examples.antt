-- The examples are refused by the rules.
use Rattle.std.proofs.Common.{◌≡◌, [], ◌∷◌, codes, Err, refl}
use Rattle.rb_tree.specs.Tokens.{shape_of, same_shape}
use Rattle.rb_tree.specs.declared.syntax.Node as trees
use denote.Hole.Carrier as carrier
use Rattle.rb_tree.specs.declared.token.TokenKind.TheVariants as kind
use Rattle.rb_weight.specs.Sorts as sorts
use Rattle.rb_weight.specs.Effects as effects
use Rattle.rb_weight.specs.Scans as scans
use Rattle.rb_expr.specs.Shapes as shapes
use Rattle.rb_expr.specs.Branches as branches
use Rattle.rb_expr.specs.Calls as calls
use Rattle.rb_expr.specs.Grammar as grammar
use Rattle.rb_expr.specs.Operands as operands
use Rattle.rb_expr.specs.Operators as operators
use Rattle.rb_expr.specs.Statements as st
use Rattle.rb_expr.specs.Rules as rules
use Rattle.rb_expr.specs.declared.ParseEnd.TheVariants.{Bad}
use Rattle.rb_decl.specs.Methods as methods
use Rattle.rb_decl.specs.Items as items
use Rattle.rb_decl.specs.Programs.{program, parsed, whole}
use Rattle.rb_grammar.specs.Examples.{token}
use Rattle.rb_refusal_laws.specs.Examples.{CLOSED, AWAITED, LOOPED, BracketIsBad, NameIsAwaited, LoopIsBad}
use Rattle.rb_refusal_laws.proofs.Places.{bad-token, ends-early}

closed : program 5 CLOSED ≡ Err (token kind.CloseParen 2 3 ∷ token (kind.Whole (codes "2")) 4 5 ∷ [])
unfolding program items.statements items.statements_from items.item methods.visibility rules.statement st.statement st.simple st.value shapes.has_prefix shapes.is_negation shapes.prefix_of shapes.is_sign st.from_operand operands.post operands.primary operands.number operands.suffixes operands.suffixes_from operands.a_suffix st.followed st.ending_of st.follower_of operators.tern_after operators.powered operators.climb operators.climb_from shapes.operator_between operators.chosen st.modifiers st.modifiers_from st.modifier_after shape_of same_shape trees.out-Node carrier.out
closed = refl

closed-parsed : parsed CLOSED ≡ Err (Bad 2)
unfolding sorts.sort_of effects.effect_of scans.done whole program items.statements items.statements_from items.item methods.visibility rules.statement st.statement st.simple st.value shapes.has_prefix shapes.is_negation shapes.prefix_of shapes.is_sign st.from_operand operands.post operands.primary operands.number operands.suffixes operands.suffixes_from operands.a_suffix st.followed st.ending_of st.follower_of operators.tern_after operators.powered operators.climb operators.climb_from shapes.operator_between operators.chosen st.modifiers st.modifiers_from st.modifier_after shape_of same_shape trees.out-Node carrier.out
closed-parsed = refl

awaited : program 4 AWAITED ≡ Err []
unfolding program items.statements items.statements_from items.item methods.visibility rules.statement st.statement st.simple st.value shapes.has_prefix shapes.is_negation shapes.prefix_of shapes.is_sign st.from_operand operands.post operands.primary operands.called calls.optional_brackets calls.optional_block calls.any_block calls.optional_do operands.suffixes operands.suffixes_from operands.a_suffix operands.call_suffix shape_of same_shape
awaited = refl

awaited-parsed : parsed AWAITED ≡ Err (Bad 2)
unfolding sorts.sort_of effects.effect_of scans.done whole program items.statements items.statements_from items.item methods.visibility rules.statement st.statement st.simple st.value shapes.has_prefix shapes.is_negation shapes.prefix_of shapes.is_sign st.from_operand operands.post operands.primary operands.called calls.optional_brackets calls.optional_block calls.any_block calls.optional_do operands.suffixes operands.suffixes_from operands.a_suffix operands.call_suffix shape_of same_shape
awaited-parsed = refl

looped : program 9 LOOPED ≡ Err (token kind.While 12 17 ∷ token (kind.Identifier (codes "f")) 18 19 ∷ [])
unfolding program items.statements items.statements_from items.item methods.visibility rules.statement st.statement st.simple st.value st.from_operand st.followed st.follower_of st.ending_of st.is_begin st.may_modify st.modifier_after st.modifiers st.modifiers_from st.body st.statements st.body_from st.ended shapes.begins_statement shapes.has_prefix shapes.is_negation shapes.prefix_of shapes.is_sign shapes.is_signed shapes.sees_number shapes.is_index shapes.operator_between grammar.parsed operators.tern_after operators.powered operators.climb operators.climb_from operators.chosen operands.post operands.suffixes operands.suffixes_from operands.a_suffix operands.primary operands.number branches.guards branches.guarded branches.rescues branches.rescues_from branches.otherwise_after branches.ensure trees.out-Node carrier.out shape_of same_shape
looped = refl

looped-parsed : parsed LOOPED ≡ Err (Bad 12)
unfolding sorts.sort_of effects.effect_of effects.after effects.after_plain scans.done whole program items.statements items.statements_from items.item methods.visibility rules.statement st.statement st.simple st.value st.from_operand st.followed st.follower_of st.ending_of st.is_begin st.may_modify st.modifier_after st.modifiers st.modifiers_from st.body st.statements st.body_from st.ended shapes.begins_statement shapes.has_prefix shapes.is_negation shapes.prefix_of shapes.is_sign shapes.is_signed shapes.sees_number shapes.is_index shapes.operator_between grammar.parsed operators.tern_after operators.powered operators.climb operators.climb_from operators.chosen operands.post operands.suffixes operands.suffixes_from operands.a_suffix operands.primary operands.number branches.guards branches.guarded branches.rescues branches.rescues_from branches.otherwise_after branches.ensure trees.out-Node carrier.out shape_of same_shape
looped-parsed = refl

pub bracket-is-bad : BracketIsBad
bracket-is-bad = (bad-token CLOSED CLOSED [] (token kind.CloseParen 2 3) (token (kind.Whole (codes "2")) 4 5 ∷ []) refl closed, closed-parsed)

pub name-is-awaited : NameIsAwaited
name-is-awaited = (ends-early AWAITED awaited, awaited-parsed)

pub loop-is-bad : LoopIsBad
loop-is-bad = (bad-token LOOPED LOOPED [] (token kind.While 12 17) (token (kind.Identifier (codes "f")) 18 19 ∷ []) refl looped, looped-parsed)
