-- Where the depth is not enough.
use Rattle.std.proofs.Common.{refl}
use Rattle.rb_tree.specs.Tokens.{shape_of, same_shape}
use Rattle.rb_expr.specs.Shapes as shapes
use Rattle.rb_expr.specs.Operands as operands
use Rattle.rb_expr.specs.Operators as operators
use Rattle.rb_expr.specs.Statements as st
use Rattle.rb_expr.specs.Grammar as grammar
use Rattle.rb_expr.specs.Rules as rules
use Rattle.rb_decl.specs.Methods as methods
use Rattle.rb_decl.specs.Items as items
use Rattle.rb_decl.specs.Programs.{program}
use Rattle.rb_prefix_laws.specs.Examples.{ShallowLooksFurther}

pub shallow-looks-further : ShallowLooksFurther
unfolding program items.statements items.statements_from items.item methods.visibility rules.statement st.statement st.simple st.value shapes.has_prefix shapes.is_negation shapes.prefix_of shapes.is_sign shapes.is_signed shapes.sees_number st.from_operand operands.post operands.primary operands.array operands.array_from operands.elements operands.elements_from grammar.parsed operators.tern operators.operation operators.negated operators.unary_operation operators.power operators.prefixed operands.negative operands.signed operands.touching operands.number operands.unraised operands.suffixes operands.suffixes_from shape_of same_shape
shallow-looks-further = (refl, refl)
