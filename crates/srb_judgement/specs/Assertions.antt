-- Assertions: the forms of `T` that are no calls. "Each is so only with exactly these arguments; every other call on `T` is a call".
use Rattle.std.specs.Prelude.{ℕ, Bool, true, false, List, [], ◌∷◌, codes, bytes_eq, if◌then◌else◌}
use Rattle.srb_terms.specs.declared.span.Span.{Span}
use Rattle.rb_tree.specs.declared.syntax.Argument.{Argument}
use Rattle.rb_tree.specs.declared.syntax.Argument.TheVariants as argument
use Rattle.srb_judgement.specs.Errors.{revealed, wrong_type}
use Rattle.srb_judgement.specs.Languages.{Language}
use Rattle.srb_judgement.specs.Parts.{Operand, Spelling, NameAlone, NilWord, ConstantPath, Other}
use Rattle.srb_judgement.specs.States.{Judged, Run, judged, unless_error, with_error}
use Rattle.srb_judgement.specs.Types.{nil_type}

pub data Assertion (T X : Type 0) : Type 0 where
  Let : Operand T X → Operand T X → Assertion T X
  Cast : Operand T X → Operand T X → Assertion T X
  Must : Operand T X → Assertion T X
  Unsafe : Operand T X → Assertion T X
  RevealType : Operand T X → Assertion T X
  NoAssertion : Assertion T X

-- ---- which form it is

module _ {T X : Type 0} where
  -- with one argument, by its place
  abbrev pub named_one : List ℕ → Operand T X → Assertion T X
  named_one name e =
      if bytes_eq name (codes "must") then Must e
      else (if bytes_eq name (codes "unsafe") then Unsafe e
      else (if bytes_eq name (codes "reveal_type") then RevealType e else NoAssertion))

  -- with two arguments, by their places
  abbrev pub named_two : List ℕ → Operand T X → Operand T X → Assertion T X
  named_two name e x =
      if bytes_eq name (codes "let") then Let e x
      else (if bytes_eq name (codes "cast") then Cast e x else NoAssertion)

  abbrev pub by_arguments : List ℕ → List (Argument (Operand T X)) → Assertion T X
  by_arguments name (argument.Positional e ∷ []) = named_one name e
  by_arguments name (argument.Positional e ∷ argument.Positional x ∷ []) = named_two name e x
  by_arguments name _ = NoAssertion

  abbrev pub on_t : Bool → List ℕ → List (Argument (Operand T X)) → Assertion T X
  on_t true name arguments = by_arguments name arguments
  on_t false name arguments = NoAssertion

-- whether an operand is the constant `T`
abbrev pub is_t_path : List (List ℕ) → Bool
is_t_path (name ∷ []) = bytes_eq name (codes "T")
is_t_path _ = false

abbrev pub is_t : Spelling → Bool
is_t (ConstantPath path) = is_t_path path
is_t (NameAlone name) = false
is_t NilWord = false
is_t Other = false

-- the assertion that a call by `.` without a block is
abbrev pub assertion_of : {T X : Type 0} → Spelling → List ℕ → List (Argument (Operand T X)) → Assertion T X
assertion_of receiver name arguments = on_t (is_t receiver) name arguments

-- ---- how it is judged

module _ {T X : Type 0} (L : Language T X) where
  -- "`T.let(e, X)`: 7007 unless a subtype; type X."
  abbrev pub let_judged : T → Span → Judged T → Judged T
  let_judged x span e = judged x (unless_error (L.is_sub e.ty x) (wrong_type L span x e.ty) e.state)

  -- "`T.cast(e, X)`: type X."
  abbrev pub cast_judged : T → Judged T → Judged T
  cast_judged x e = judged x e.state

  -- "`T.must(e)`: without `NilClass`."
  abbrev pub must_judged : Judged T → Judged T
  must_judged e = judged (L.without e.ty (nil_type L)) e.state

  -- "`T.unsafe(e)`: `T.untyped`."
  abbrev pub unsafe_judged : Judged T → Judged T
  unsafe_judged e = judged L.untyped e.state

  -- "`T.reveal_type(e)`: 7014, e's type."
  abbrev pub reveal_judged : Span → Judged T → Judged T
  reveal_judged call e = judged e.ty (with_error (revealed L call e.ty) e.state)

  -- an assertion whose whole call stands at this place; `other` is the call that it is where it is none
  abbrev pub assertion_judged : Assertion T X → Span → Run T → Run T
  assertion_judged (Let e x) call other c s = let_judged (L.reads c.scope x.text) e.span (e.judge c s)
  assertion_judged (Cast e x) call other c s = cast_judged (L.reads c.scope x.text) (e.judge c s)
  assertion_judged (Must e) call other c s = must_judged (e.judge c s)
  assertion_judged (Unsafe e) call other c s = unsafe_judged (e.judge c s)
  assertion_judged (RevealType e) call other c s = reveal_judged call (e.judge c s)
  assertion_judged NoAssertion call other c s = other c s
