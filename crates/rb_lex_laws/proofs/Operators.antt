-- The lists of operators, against what is computed of the bytes of one.
use Rattle.std.proofs.Common.{◌≡◌, ℕ, List, length, refl}
use Rattle.std.specs.Prelude.{slice_index}
use Rattle.rb_tree.specs.declared.token.Shape.{Shape}
use Rattle.rb_lex.specs.Operators.{operator, method_name}
use Rattle.rb_lex.specs.declared.operator.Sign.TheVariants.{Operator, Foreign}
use Rattle.rb_rules.specs.Spellings.{OPERATORS, METHOD_OPERATORS, FOREIGN_OPERATORS}
use Rattle.rb_lex_laws.specs.Operators.{OperatorsAreFound, MethodOperatorsAreFound, ForeignOperatorsAreFound}
use Rattle.rb_lex_laws.proofs.Rows.{EachRow, at-row}

abbrev IsFound : Shape × List ℕ → Type 0
IsFound row = operator (slice_index row.1 0) (slice_index row.1 1) (slice_index row.1 2) ≡ Operator row.0 (length row.1)

abbrev IsFoundAsName : Shape × List ℕ → Type 0
IsFoundAsName row = method_name (slice_index row.1 0) (slice_index row.1 1) (slice_index row.1 2) ≡ Operator row.0 (length row.1)

abbrev IsKnown : List ℕ → Type 0
IsKnown w = operator (slice_index w 0) (slice_index w 1) (slice_index w 2) ≡ Foreign

operators : EachRow IsFound OPERATORS
unfolding operator
operators = (refl, (refl, (refl, (refl, (refl, (refl, (refl, (refl, (refl, (refl, (refl, (refl, (refl, (refl, (refl, (refl, (refl, (refl, (refl, (refl, (refl, (refl, (refl, (refl, (refl, (refl, (refl, (refl, (refl, (refl, (refl, (refl, (refl, (refl, (refl, (refl, (refl, (refl, (refl, (refl, (refl, (refl, (refl, (refl, (refl, (refl, (refl, (refl, (refl, (refl, tt))))))))))))))))))))))))))))))))))))))))))))))))))

method_operators : EachRow IsFoundAsName METHOD_OPERATORS
unfolding method_name
method_operators = (refl, (refl, (refl, (refl, tt))))

foreign : EachRow IsKnown FOREIGN_OPERATORS
unfolding operator
foreign = (refl, (refl, (refl, (refl, (refl, tt)))))

pub operators-found : OperatorsAreFound
operators-found s w held = at-row IsFound (s, w) OPERATORS operators held

pub method_operators-found : MethodOperatorsAreFound
method_operators-found s w held = at-row IsFoundAsName (s, w) METHOD_OPERATORS method_operators held

pub foreign-found : ForeignOperatorsAreFound
foreign-found w held = at-row IsKnown w FOREIGN_OPERATORS foreign held
