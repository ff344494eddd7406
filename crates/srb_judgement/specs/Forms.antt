-- Calls that are tests of a variable or forms of `T`, by what the code knows of their arguments: how many there are by their places, and
-- how the only one is spelled.
use Rattle.std.specs.Prelude.{ℕ, List, [], ◌∷◌, codes, bytes_eq, if◌then◌else◌, Option, Some}
use Rattle.rb_tree.specs.declared.syntax.Argument.{Argument}
use Rattle.rb_tree.specs.declared.syntax.Argument.TheVariants as argument
use Rattle.srb_judgement.specs.declared.assertions.Form.{Form}
use Rattle.srb_judgement.specs.declared.assertions.Form.TheVariants as form
use Rattle.srb_judgement.specs.declared.spelling.Count.{Count}
use Rattle.srb_judgement.specs.declared.spelling.Count.TheVariants as count
use Rattle.srb_judgement.specs.Assertions.{Assertion, Let, Cast, Must, Unsafe, RevealType, NoAssertion, is_t}
use Rattle.srb_judgement.specs.Languages.{Language}
use Rattle.srb_judgement.specs.Narrowing.{Says, SaysNothing, says_is, class_in}
use Rattle.srb_judgement.specs.Parts.{Operand, Spelling}
use Rattle.srb_judgement.specs.Types.{nil_type}

-- ---- tests of variables

-- the arguments of a call: none, one by its place, which is spelled so, or anything else
pub data Sole : Type 0 where
  NoArgument : Sole
  OneArgument : Spelling → Sole
  OtherArguments : Sole

module _ {T X : Type 0} where
  abbrev pub sole : List (Argument (Operand T X)) → Sole
  sole [] = NoArgument
  sole (argument.Positional value ∷ []) = OneArgument value.spelling
  sole _ = OtherArguments

module _ {T X : Type 0} (L : Language T X) (scope : List (List ℕ)) where
  -- "`x.is_a?(C)`, `x.kind_of?(C)`"
  abbrev pub kind_said : Option (List ℕ) → Sole → Says T
  kind_said variable NoArgument = SaysNothing
  kind_said variable (OneArgument value) = says_is variable (class_in L scope value)
  kind_said variable OtherArguments = SaysNothing

  -- "`x.nil?`"
  abbrev pub nil_said : Option (List ℕ) → Sole → Says T
  nil_said variable NoArgument = says_is variable (Some (nil_type L))
  nil_said variable (OneArgument value) = SaysNothing
  nil_said variable OtherArguments = SaysNothing

  -- a call by `.` without a block, on what is this variable, or none
  abbrev pub call_said : Option (List ℕ) → List ℕ → Sole → Says T
  call_said variable name a =
      if bytes_eq name (codes "nil?") then nil_said variable a
      else (if bytes_eq name (codes "is_a?") then kind_said variable a
      else (if bytes_eq name (codes "kind_of?") then kind_said variable a else SaysNothing))

-- ---- forms of `T`

module _ {T X : Type 0} where
  -- which form an assertion is
  abbrev pub form_of : Assertion T X → Form
  form_of (Let e x) = form.Let
  form_of (Cast e x) = form.Cast
  form_of (Must e) = form.Must
  form_of (Unsafe e) = form.Unsafe
  form_of (RevealType e) = form.RevealType
  form_of NoAssertion = form.Call

  -- how many arguments there are by their places, where each stands by its place
  abbrev pub count_of : List (Argument (Operand T X)) → Count
  count_of (argument.Positional e ∷ []) = count.One
  count_of (argument.Positional e ∷ argument.Positional x ∷ []) = count.Two
  count_of _ = count.Other

abbrev pub one_named : List ℕ → Form
one_named name =
    if bytes_eq name (codes "must") then form.Must
    else (if bytes_eq name (codes "unsafe") then form.Unsafe
    else (if bytes_eq name (codes "reveal_type") then form.RevealType else form.Call))

abbrev pub two_named : List ℕ → Form
two_named name = if bytes_eq name (codes "let") then form.Let else (if bytes_eq name (codes "cast") then form.Cast else form.Call)

-- "Each is so only with exactly these arguments"
abbrev pub form_counted : List ℕ → Count → Form
form_counted name count.One = one_named name
form_counted name count.Two = two_named name
form_counted name count.Other = form.Call

-- the form of `T` that a call by `.` without a block is
abbrev pub form_by : Spelling → List ℕ → Count → Form
form_by receiver name n = if is_t receiver then form_counted name n else form.Call
