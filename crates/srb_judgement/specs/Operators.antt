-- Operators: their methods, and `&&`, `||` and `!`, which are none.
use Rattle.std.specs.Prelude.{ℕ, List, [], ◌∷◌, codes, None}
use Rattle.srb_terms.specs.declared.span.Span.{Span}
use Rattle.rb_tree.specs.declared.syntax.Argument.TheVariants as argument
use Rattle.rb_tree.specs.declared.syntax.Binary.{Binary}
use Rattle.rb_tree.specs.declared.syntax.Binary.TheVariants as binary
use Rattle.rb_tree.specs.declared.syntax.Unary.{Unary}
use Rattle.rb_tree.specs.declared.syntax.Unary.TheVariants as unary
use Rattle.rb_views.specs.Places.{prefix_operator}
use Rattle.srb_judgement.specs.Calls.{call_on}
use Rattle.srb_judgement.specs.Environments.{Environment, joined, is_live}
use Rattle.srb_judgement.specs.Languages.{Language}
use Rattle.srb_judgement.specs.Narrowing.{Says, SaysNothing, says_equal, says_case_equal, exchanged_says, saying}
use Rattle.srb_judgement.specs.Parts.{Operand, Part}
use Rattle.srb_judgement.specs.States.{Context, Judged, Tested, Run, Test, judged, moved, seeing}
use Rattle.srb_judgement.specs.Types.{boolean_type, truthy, falsy, type_if}

-- the method that an operator calls: "`a != b` is judged as `a == b`"
abbrev pub method_name : Binary → List ℕ
method_name binary.Or = codes "||"
method_name binary.And = codes "&&"
method_name binary.Equal = codes "=="
method_name binary.NotEqual = codes "=="
method_name binary.CaseEqual = codes "==="
method_name binary.Compare = codes "<=>"
method_name binary.Less = codes "<"
method_name binary.Greater = codes ">"
method_name binary.LessEqual = codes "<="
method_name binary.GreaterEqual = codes ">="
method_name binary.Pipe = codes "|"
method_name binary.Caret = codes "^"
method_name binary.Ampersand = codes "&"
method_name binary.ShiftLeft = codes "<<"
method_name binary.ShiftRight = codes ">>"
method_name binary.Plus = codes "+"
method_name binary.Minus = codes "-"
method_name binary.Star = codes "*"
method_name binary.Slash = codes "/"
method_name binary.Percent = codes "%"
method_name binary.Power = codes "**"

module _ {T X : Type 0} (L : Language T X) where
  -- ---- `&&` and `||`: "`&&` and `||` use the condition of their left side"

  -- a condition after another one, which is judged in the environment of one of its sides
  abbrev pub and_sides : T → Environment T → Tested T → Tested T
  and_sides ty falsehood b = record {
    ty = L.any (type_if L (is_live falsehood) (falsy L ty)) (type_if L (is_live (joined L b.truth b.falsehood)) b.ty);
    truth = b.truth;
    falsehood = joined L falsehood b.falsehood;
    state = b.state;
  }

  abbrev pub and_tested : Tested T → Tested T → Tested T
  and_tested a b = and_sides a.ty a.falsehood b

  -- "`a || b`: join of both truths; falsehood of b after falsehood of a"
  abbrev pub or_sides : T → Environment T → Tested T → Tested T
  or_sides ty truth b = record {
    ty = L.any (type_if L (is_live truth) (truthy L ty)) (type_if L (is_live (joined L b.truth b.falsehood)) b.ty);
    truth = joined L truth b.truth;
    falsehood = b.falsehood;
    state = b.state;
  }

  abbrev pub or_tested : Tested T → Tested T → Tested T
  or_tested a b = or_sides a.ty a.truth b

  abbrev pub and_next : Test T → Context T → Tested T → Tested T
  and_next b c a = and_tested a (b c (moved a.truth a.state))

  abbrev pub or_next : Test T → Context T → Tested T → Tested T
  or_next b c a = or_tested a (b c (moved a.falsehood a.state))

  -- "`a && b`: truth of b after truth of a; join of both falsehoods"
  abbrev pub and_test : Test T → List (List ℕ) → Test T → Test T
  and_test a declared b c s = and_next b (seeing declared c) (a c s)

  abbrev pub or_test : Test T → List (List ℕ) → Test T → Test T
  or_test a declared b c s = or_next b (seeing declared c) (a c s)

  -- "`a && b` has `T.any(falsy(a), b)` .. where a dead side adds nothing": the environment is the join of the side that ends there and of
  -- that after b
  abbrev pub and_whole : T → Environment T → Judged T → Judged T
  and_whole ty falsehood b =
      judged (L.any (type_if L (is_live falsehood) (falsy L ty)) (type_if L (is_live b.state.environment) b.ty))
      (moved (joined L falsehood b.state.environment) b.state)

  abbrev pub and_ended : Tested T → Judged T → Judged T
  and_ended a b = and_whole a.ty a.falsehood b

  -- "`a || b` has `T.any(truthy(a), b)`"
  abbrev pub or_whole : T → Environment T → Judged T → Judged T
  or_whole ty truth b =
      judged (L.any (type_if L (is_live truth) (truthy L ty)) (type_if L (is_live b.state.environment) b.ty))
      (moved (joined L truth b.state.environment) b.state)

  abbrev pub or_ended : Tested T → Judged T → Judged T
  or_ended a b = or_whole a.ty a.truth b

  abbrev pub and_after : Run T → Context T → Tested T → Judged T
  and_after b c a = and_ended a (b c (moved a.truth a.state))

  abbrev pub or_after : Run T → Context T → Tested T → Judged T
  or_after b c a = or_ended a (b c (moved a.falsehood a.state))

  abbrev pub and_judged : Test T → List (List ℕ) → Run T → Run T
  and_judged a declared b c s = and_after b (seeing declared c) (a c s)

  abbrev pub or_judged : Test T → List (List ℕ) → Run T → Run T
  or_judged a declared b c s = or_after b (seeing declared c) (a c s)

  -- ---- `!`

  -- "`!a` is `T::Boolean`"; "`!a` outside conditions judges `a` plainly"
  abbrev pub as_boolean : Judged T → Judged T
  as_boolean j = judged (boolean_type L) j.state

  -- "`!a`: exchanged"
  abbrev pub exchanged : Tested T → Tested T
  exchanged t = record t { ty = boolean_type L; truth = t.falsehood; falsehood = t.truth }

  -- ---- operators that are calls

  abbrev pub after_left : Operand T X → List ℕ → Span → Context T → Judged T → Judged T
  after_left right name place c left = call_on L left.ty name place (argument.Positional right ∷ []) None c left.state

  -- "Other operators are calls", at the operator's token
  abbrev pub operator_judged : Operand T X → List ℕ → Span → Operand T X → Run T
  operator_judged left name place right c s = after_left right name place (seeing left.declares c) (left.judge c s)

  abbrev pub on_operand : List ℕ → Span → Context T → Judged T → Judged T
  on_operand name place c j = call_on L j.ty name place [] None c j.state

  -- "the `-` of `Neg` and the `+` of `Un` call `-@` and `+@`", `~` calls `~`
  abbrev pub unary_judged : Unary → Operand T X → Span → Run T
  unary_judged unary.Minus o span c s = on_operand (codes "-@") (prefix_operator span) (seeing o.declares c) (o.judge c s)
  unary_judged unary.Plus o span c s = on_operand (codes "+@") (prefix_operator span) (seeing o.declares c) (o.judge c s)
  unary_judged unary.Tilde o span c s = on_operand (codes "~") (prefix_operator span) (seeing o.declares c) (o.judge c s)
  unary_judged unary.Not o span c s = as_boolean (o.judge c s)

  -- an operator, as a value
  abbrev pub binary_judged : Binary → Span → Part T X → Part T X → Run T
  binary_judged binary.And place left right = and_judged left.test left.it.declares right.it.judge
  binary_judged binary.Or place left right = or_judged left.test left.it.declares right.it.judge
  binary_judged operator place left right = operator_judged left.it (method_name operator) place right.it

  -- ---- conditions

  abbrev pub says_operator : Binary → Operand T X → Operand T X → Context T → Says T
  says_operator binary.Equal left right c = says_equal L c left right
  says_operator binary.NotEqual left right c = exchanged_says (says_equal L c left right)
  says_operator binary.CaseEqual left right c = says_case_equal L (seeing left.declares c) left right
  says_operator _ left right c = SaysNothing

  -- an operator, as a condition
  abbrev pub binary_test : Binary → Span → Part T X → Part T X → Test T
  binary_test binary.And place left right = and_test left.test left.it.declares right.test
  binary_test binary.Or place left right = or_test left.test left.it.declares right.test
  binary_test operator place left right =
      λ c s. saying L (says_operator operator left.it right.it c) (operator_judged left.it (method_name operator) place right.it c s)
