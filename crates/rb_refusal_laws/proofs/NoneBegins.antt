-- The parser refuses the last token of each example, so that no program begins with it.
use Rattle.std.proofs.Common.{◌≡◌, [], ◌∷◌, codes, Err, refl}
use Rattle.rb_tree.specs.Tokens.{shape_of, same_shape}
use Rattle.rb_tree.specs.declared.syntax.Node as trees
use denote.Hole.Carrier as carrier
use Rattle.rb_tree.specs.declared.token.TokenKind.TheVariants as kind
use Rattle.rb_expr.specs.Shapes as shapes
use Rattle.rb_expr.specs.Branches as branches
use Rattle.rb_expr.specs.Calls as calls
use Rattle.rb_expr.specs.Operands as operands
use Rattle.rb_expr.specs.Operators as operators
use Rattle.rb_expr.specs.Statements as st
use Rattle.rb_expr.specs.Grammar as grammar
use Rattle.rb_expr.specs.Rules as rules
use Rattle.rb_decl.specs.Parameters as parameters
use Rattle.rb_decl.specs.Methods as methods
use Rattle.rb_decl.specs.Items as items
use Rattle.rb_decl.specs.Programs.{program}
use Rattle.rb_grammar.specs.Examples.{token}
use Rattle.rb_refusal_laws.specs.NoneBegins.{CLOSED, NAMELESS, TWICE, GUARDED, LOOPED, NoneIsClosed, NoneIsNameless, NoneNamesTwice, NoneRescuesSo, NoneLoopsSo}
use Rattle.rb_refusal_laws.proofs.Begun.{no-program-begins-so}

closed : program 4 CLOSED ≡ Err (token kind.CloseParen 2 3 ∷ [])
unfolding program items.statements items.statements_from items.item methods.visibility rules.statement st.statement st.simple st.value shapes.has_prefix shapes.is_negation shapes.prefix_of shapes.is_sign st.from_operand operands.post operands.primary operands.number operands.suffixes operands.suffixes_from operands.a_suffix st.followed st.ending_of st.follower_of operators.tern_after operators.powered operators.climb operators.climb_from shapes.operator_between operators.chosen st.modifiers st.modifiers_from st.modifier_after shape_of same_shape trees.out-Node carrier.out
closed = refl

nameless : program 5 NAMELESS ≡ Err (token (kind.Whole (codes "1")) 2 3 ∷ [])
unfolding program items.statements items.statements_from items.item methods.visibility rules.statement st.statement st.simple st.value shapes.has_prefix shapes.is_negation shapes.prefix_of shapes.is_sign st.from_operand operands.post operands.primary operands.called calls.optional_brackets calls.optional_block calls.any_block calls.optional_do operands.suffixes operands.suffixes_from operands.a_suffix operands.call_suffix shape_of same_shape
nameless = refl

twice : program 8 TWICE ≡ Err (token (kind.Identifier (codes "a")) 9 10 ∷ [])
unfolding program items.statements items.statements_from items.item methods.visibility methods.method methods.defined methods.method_head methods.own methods.method_name methods.plain_name parameters.parameters_of parameters.bracketed parameters.row parameters.row_from parameters.parameter parameters.plain parameters.fresh shape_of same_shape
twice = refl

guarded : program 5 GUARDED ≡ Err (token kind.Rescue 8 14 ∷ [])
unfolding program items.statements items.statements_from items.item methods.visibility rules.statement st.statement st.simple st.value st.from_operand st.followed st.follower_of st.ending_of st.is_begin st.may_modify st.modifier_after st.modifiers st.modifiers_from st.body st.statements st.body_from st.ended shapes.begins_statement shapes.has_prefix shapes.is_negation shapes.prefix_of shapes.is_sign shapes.is_signed shapes.sees_number shapes.is_index shapes.operator_between grammar.parsed operators.tern_after operators.powered operators.climb operators.climb_from operators.chosen operands.post operands.suffixes operands.suffixes_from operands.a_suffix operands.primary operands.called calls.optional_brackets calls.optional_block calls.any_block calls.optional_do branches.guards branches.guarded branches.rescues branches.rescues_from branches.otherwise_after branches.ensure trees.out-Node carrier.out shape_of same_shape
guarded = refl

looped : program 5 LOOPED ≡ Err (token kind.While 10 15 ∷ [])
unfolding program items.statements items.statements_from items.item methods.visibility rules.statement st.statement st.simple st.value st.from_operand st.followed st.follower_of st.ending_of st.is_begin st.may_modify st.modifier_after st.modifiers st.modifiers_from st.body st.statements st.body_from st.ended shapes.begins_statement shapes.has_prefix shapes.is_negation shapes.prefix_of shapes.is_sign shapes.is_signed shapes.sees_number shapes.is_index shapes.operator_between grammar.parsed operators.tern_after operators.powered operators.climb operators.climb_from operators.chosen operands.post operands.suffixes operands.suffixes_from operands.a_suffix operands.primary operands.called calls.optional_brackets calls.optional_block calls.any_block calls.optional_do branches.guards branches.guarded branches.rescues branches.rescues_from branches.otherwise_after branches.ensure trees.out-Node carrier.out shape_of same_shape
looped = refl

pub none-is-closed : NoneIsClosed
none-is-closed = no-program-begins-so (token (kind.Whole (codes "1")) 0 1 ∷ []) (token kind.CloseParen 2 3) [] closed

pub none-is-nameless : NoneIsNameless
none-is-nameless = no-program-begins-so (token (kind.Identifier (codes "x")) 0 1 ∷ token kind.Dot 1 2 ∷ []) (token (kind.Whole (codes "1")) 2 3) [] nameless

pub none-names-twice : NoneNamesTwice
none-names-twice = no-program-begins-so
    (token kind.Def 0 3 ∷ token (kind.Identifier (codes "f")) 4 5 ∷ token kind.OpenParen 5 6 ∷ token (kind.Identifier (codes "a")) 6 7 ∷ token kind.Comma 7 8 ∷ [])
    (token (kind.Identifier (codes "a")) 9 10) [] twice

pub none-rescues-so : NoneRescuesSo
none-rescues-so = no-program-begins-so (token kind.Begin 0 5 ∷ token (kind.Identifier (codes "x")) 6 7 ∷ []) (token kind.Rescue 8 14) [] guarded

pub none-loops-so : NoneLoopsSo
none-loops-so = no-program-begins-so (token kind.Begin 0 5 ∷ token kind.End 6 9 ∷ []) (token kind.While 10 15) [] looped
