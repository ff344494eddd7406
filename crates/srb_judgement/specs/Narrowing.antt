-- Narrowing: which tests say something of a variable, and what each side then knows.
use Rattle.std.specs.Prelude.{ℕ, Bool, true, false, List, [], ◌∷◌, codes, bytes_eq, Option, Some, None, if◌then◌else◌}
use Rattle.rb_tree.specs.declared.syntax.Argument.{Argument}
use Rattle.rb_tree.specs.declared.syntax.Argument.TheVariants as argument
use Rattle.srb_judgement.specs.Environments.{Environment, Live, Dead, Silent, with_type, variable_type}
use Rattle.srb_judgement.specs.Languages.{Language, Meaning, ClassNamed, ModuleNamed, ValueOf, Unresolved}
use Rattle.srb_judgement.specs.Parts.{Operand, Spelling, NameAlone, NilWord, ConstantPath, Other}
use Rattle.srb_judgement.specs.States.{Context, Tested, Judged, is_visible}
use Rattle.srb_judgement.specs.Types.{nil_type, truthy, falsy}

-- What a test says of a variable: the side of truth keeps what its type has of some type, and the side of falsehood what it has without it.
pub data Says (T : Type 0) : Type 0 where
  -- the variable's truth itself: `truthy` on one side, `falsy` on the other
  SaysTruthy : List ℕ → Says T
  -- it meets a type where the test holds, and is without it where not
  SaysIs : List ℕ → T → Says T
  -- the same, exchanged
  SaysIsNot : List ℕ → T → Says T
  SaysNothing : Says T

-- ---- variables

abbrev pub if_visible : Bool → List ℕ → Option (List ℕ)
if_visible true name = Some name
if_visible false name = None

module _ {T : Type 0} where
  -- the variable that an operand is; brackets make it none
  abbrev pub variable_of : Context T → Spelling → Option (List ℕ)
  variable_of c (NameAlone name) = if_visible (is_visible c name) name
  variable_of c NilWord = None
  variable_of c (ConstantPath path) = None
  variable_of c Other = None

  abbrev pub says_is : Option (List ℕ) → Option T → Says T
  says_is (Some name) (Some ty) = SaysIs name ty
  says_is (Some name) None = SaysNothing
  says_is None ty = SaysNothing

  abbrev pub exchanged_says : Says T → Says T
  exchanged_says (SaysTruthy name) = SaysNothing
  exchanged_says (SaysIs name ty) = SaysIsNot name ty
  exchanged_says (SaysIsNot name ty) = SaysIs name ty
  exchanged_says SaysNothing = SaysNothing

-- ---- sides

module _ {T X : Type 0} (L : Language T X) where
  abbrev pub live_or_dead : Bool → Environment T → Environment T
  live_or_dead true e = Dead
  live_or_dead false e = e

  -- "A side on which a narrowed variable has `T.noreturn` .. is dead."
  abbrev pub narrowed : (T → T) → List ℕ → Environment T → Environment T
  narrowed f name (Live rows) =
      live_or_dead (L.is_never (f (variable_type L rows name))) (Live (with_type rows name (f (variable_type L rows name))))
  narrowed f name Dead = Dead
  narrowed f name Silent = Silent

  -- "x is `truthy`" and "x is `falsy`"; "x meets C" and "x without C"
  abbrev pub truth_side : Says T → Environment T → Environment T
  truth_side (SaysTruthy name) e = narrowed (truthy L) name e
  truth_side (SaysIs name ty) e = narrowed (λ t. L.meet t ty) name e
  truth_side (SaysIsNot name ty) e = narrowed (λ t. L.without t ty) name e
  truth_side SaysNothing e = e

  abbrev pub falsehood_side : Says T → Environment T → Environment T
  falsehood_side (SaysTruthy name) e = narrowed (falsy L) name e
  falsehood_side (SaysIs name ty) e = narrowed (λ t. L.without t ty) name e
  falsehood_side (SaysIsNot name ty) e = narrowed (λ t. L.meet t ty) name e
  falsehood_side SaysNothing e = e

  -- "Narrowing calls are judged as calls too": what is judged, and then what it says of each side
  abbrev pub saying : Says T → Judged T → Tested T
  saying says j = record {
    ty = j.ty;
    truth = truth_side says j.state.environment;
    falsehood = falsehood_side says j.state.environment;
    state = j.state;
  }

  -- ---- what a test says

  -- "C a class or module"; "`C` stands for `T::Array[T.untyped]` or `T::Hash[T.untyped, T.untyped]` where it is `Array` or `Hash`"
  abbrev pub class_meant : Meaning T → Option T
  class_meant (ClassNamed name) = Some (L.instance name)
  class_meant (ModuleNamed name) = Some (L.instance name)
  class_meant (ValueOf ty) = None
  class_meant Unresolved = None

  abbrev pub class_in : List (List ℕ) → Spelling → Option T
  class_in scope (ConstantPath path) = class_meant (L.meaning scope path)
  class_in scope (NameAlone name) = None
  class_in scope NilWord = None
  class_in scope Other = None

  abbrev pub class_of : Context T → Spelling → Option T
  class_of c spelling = class_in c.scope spelling

  abbrev pub nil_of : Spelling → Option T
  nil_of NilWord = Some (nil_type L)
  nil_of (NameAlone name) = None
  nil_of (ConstantPath path) = None
  nil_of Other = None

  abbrev pub equal_spelled : Context T → Spelling → Spelling → Says T
  equal_spelled c left right = says_is (variable_of c left) (nil_of right)

  -- "`x == nil` (`!=` exchanged)"
  abbrev pub says_equal : Context T → Operand T X → Operand T X → Says T
  says_equal c left right = equal_spelled c left.spelling right.spelling

  abbrev pub class_spelled : Context T → Spelling → Spelling → Says T
  class_spelled c variable class = says_is (variable_of c variable) (class_of c class)

  -- "`C === x`"
  abbrev pub says_case_equal : Context T → Operand T X → Operand T X → Says T
  says_case_equal c left right = class_spelled c right.spelling left.spelling

  -- "`x.is_a?(C)`, `x.kind_of?(C)`"
  abbrev pub says_kind : Context T → Spelling → List (Argument (Operand T X)) → Says T
  says_kind c receiver (argument.Positional value ∷ []) = class_spelled c receiver value.spelling
  says_kind c receiver _ = SaysNothing

  abbrev pub nil_spelled : Context T → Spelling → Says T
  nil_spelled c receiver = says_is (variable_of c receiver) (Some (nil_type L))

  -- "`x.nil?`"
  abbrev pub says_nil : Context T → Spelling → List (Argument (Operand T X)) → Says T
  says_nil c receiver [] = nil_spelled c receiver
  says_nil c receiver _ = SaysNothing

  -- a call by `.` without a block, on an operand with this spelling
  abbrev pub says_call : Context T → Spelling → List ℕ → List (Argument (Operand T X)) → Says T
  says_call c receiver name arguments =
      if bytes_eq name (codes "nil?") then says_nil c receiver arguments
      else (if bytes_eq name (codes "is_a?") then says_kind c receiver arguments
      else (if bytes_eq name (codes "kind_of?") then says_kind c receiver arguments else SaysNothing))

  -- "Where s is a variable, a pattern C acts as `C === s` and `nil` as `s.nil?`; other patterns narrow nothing."
  abbrev pub or_says : Says T → Says T → Says T
  or_says SaysNothing other = other
  or_says says other = says

  abbrev pub pattern_in : Option (List ℕ) → List (List ℕ) → Spelling → Says T
  pattern_in variable scope pattern = or_says (says_is variable (nil_of pattern)) (says_is variable (class_in scope pattern))

  abbrev pub says_pattern : Context T → Context T → Spelling → Operand T X → Says T
  says_pattern before c subject pattern = pattern_in (variable_of before subject) c.scope pattern.spelling
