-- The operators against their list.
use Rattle.std.specs.Prelude.{◌≡◌, ℕ, List, length, slice_index}
use Rattle.rb_tree.specs.declared.token.Shape.{Shape}
use Rattle.rb_lex.specs.Operators.{operator, method_name}
use Rattle.rb_lex.specs.declared.operator.Sign.TheVariants.{Operator, Foreign}
use Rattle.rb_rules.specs.Spellings.{Holds, OPERATORS, METHOD_OPERATORS, FOREIGN_OPERATORS}

-- each operator is found where its spelling stands at the end of a text
abbrev pub OperatorsAreFound : Type 0
OperatorsAreFound =
    (s : Shape) (w : List ℕ) → Holds (s, w) OPERATORS → operator (slice_index w 0) (slice_index w 1) (slice_index w 2) ≡ Operator s (length w)

-- so is each that is one as a method's name alone
abbrev pub MethodOperatorsAreFound : Type 0
MethodOperatorsAreFound =
    (s : Shape) (w : List ℕ) → Holds (s, w) METHOD_OPERATORS → method_name (slice_index w 0) (slice_index w 1) (slice_index w 2) ≡ Operator s (length w)

-- and each that is outside the profile is known as one
abbrev pub ForeignOperatorsAreFound : Type 0
ForeignOperatorsAreFound =
    (w : List ℕ) → Holds w FOREIGN_OPERATORS → operator (slice_index w 0) (slice_index w 1) (slice_index w 2) ≡ Foreign
