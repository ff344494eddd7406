-- A few tokens that are refused.
use Rattle.std.proofs.Common.{◌≡◌, List, [], ◌∷◌, ◌++◌, Err, refl}
use Rattle.rb_tree.specs.declared.token.Token.{Token}
use Rattle.rb_tree.specs.declared.token.TokenKind.TheVariants as kind
use Rattle.rb_tree.specs.Tokens.{shape_of, same_shape}
use Rattle.rb_tree.specs.declared.syntax.Node as syntax
use denote.Hole.Carrier as carrier
use Rattle.rb_expr.specs.Branches as branches
use Rattle.rb_expr.specs.Calls as calls
use Rattle.rb_expr.specs.Lists as lists
use Rattle.rb_expr.specs.Grammar.{parsed}
use Rattle.rb_expr.specs.Operands as operands
use Rattle.rb_expr.specs.Operators as operators
use Rattle.rb_expr.specs.Rules as rules'
use Rattle.rb_expr.specs.Shapes as shapes
use Rattle.rb_expr.specs.Statements as statements
use Rattle.rb_decl.specs.Items as items
use Rattle.rb_decl.specs.Methods as methods
use Rattle.rb_decl.specs.Programs.{program}
use Rattle.rb_completion_laws.specs.Examples.{RefusedAt, token, x, SignRefused, NameRefused, EndRefused, GuardRefused, LoopRefused}
use Rattle.rb_completion_laws.proofs.Laws.{fronts-begin}

refused-at : (before rest : List Token) → program 9 (before ++ rest) ≡ Err rest → RefusedAt before rest
refused-at before rest e = (e, fronts-begin 9 before rest e)

pub sign-refused : SignRefused
unfolding program items.statements items.statements_from items.item methods.visibility rules'.statement statements.statement statements.simple statements.value statements.from_operand shapes.has_prefix shapes.is_negation shapes.prefix_of shapes.is_sign shapes.is_signed shapes.sees_number operators.tern operators.operation operators.negated operators.power operators.prefixed operators.unary_operation parsed operands.post operands.primary operands.negative operands.signed operands.touching operands.unraised shape_of same_shape
sign-refused = refused-at (token kind.Not ∷ token kind.Minus ∷ []) (token kind.CloseParen ∷ []) refl

pub name-refused : NameRefused
unfolding program items.statements items.statements_from items.item methods.visibility rules'.statement statements.statement statements.simple statements.value statements.from_operand shapes.has_prefix shapes.is_negation shapes.prefix_of shapes.is_sign shapes.is_signed shapes.sees_number operands.post operands.primary operands.called calls.optional_brackets calls.optional_block calls.any_block calls.block calls.bars calls.bar_names calls.bar_names_from lists.fresh_name shape_of same_shape
name-refused = refused-at (x ∷ token kind.OpenBrace ∷ token kind.Pipe ∷ x ∷ token kind.Comma ∷ []) (x ∷ token kind.Pipe ∷ []) refl

pub end-refused : EndRefused
unfolding program items.statements items.statements_from items.item methods.visibility rules'.statement statements.statement statements.simple statements.value statements.from_operand shapes.has_prefix shapes.is_negation shapes.prefix_of shapes.is_sign shapes.is_signed shapes.sees_number parsed operators.tern operators.operation operators.negated operators.power operators.prefixed operands.post operands.primary operands.called calls.optional_brackets calls.brackets calls.in_brackets calls.listed calls.listed_from calls.one_argument calls.positional shape_of same_shape
end-refused = refused-at (x ∷ token kind.OpenParen ∷ []) [] refl

pub guard-refused : GuardRefused
unfolding program items.statements items.statements_from items.item methods.visibility rules'.statement statements.statement statements.simple statements.value statements.from_operand statements.followed statements.follower_of statements.ending_of statements.is_begin statements.may_modify statements.modifier_after statements.modifiers statements.modifiers_from statements.body statements.statements statements.body_from statements.ended shapes.begins_statement shapes.has_prefix shapes.is_negation shapes.prefix_of shapes.is_sign shapes.is_signed shapes.sees_number shapes.is_index shapes.operator_between parsed operators.tern_after operators.powered operators.climb operators.climb_from operators.chosen operands.post operands.suffixes operands.suffixes_from operands.a_suffix operands.primary operands.called calls.optional_brackets calls.optional_block calls.any_block calls.optional_do branches.guards branches.guarded branches.rescues branches.rescues_from branches.otherwise_after branches.ensure syntax.out-Node carrier.out shape_of same_shape
guard-refused = refused-at (token kind.Begin ∷ x ∷ []) (token kind.Rescue ∷ []) refl

pub loop-refused : LoopRefused
unfolding program items.statements items.statements_from items.item methods.visibility rules'.statement statements.statement statements.simple statements.value statements.from_operand statements.followed statements.follower_of statements.ending_of statements.is_begin statements.may_modify statements.modifier_after statements.modifiers statements.modifiers_from statements.body statements.statements statements.body_from statements.ended shapes.begins_statement shapes.has_prefix shapes.is_negation shapes.prefix_of shapes.is_sign shapes.is_signed shapes.sees_number shapes.is_index shapes.operator_between parsed operators.tern_after operators.powered operators.climb operators.climb_from operators.chosen operands.post operands.suffixes operands.suffixes_from operands.a_suffix operands.primary operands.called calls.optional_brackets calls.optional_block calls.any_block calls.optional_do branches.guards branches.guarded branches.rescues branches.rescues_from branches.otherwise_after branches.ensure syntax.out-Node carrier.out shape_of same_shape
loop-refused = refused-at (token kind.Begin ∷ token kind.End ∷ []) (token kind.While ∷ x ∷ []) refl
