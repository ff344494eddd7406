-- What the rules know of an expression in another one: no tree, but its place, how it is spelled as far as a rule asks, and how it is judged.
use Rattle.std.specs.Prelude.{ℕ, Bool, List, Option}
use Rattle.srb_terms.specs.declared.diag.Diag.{Diag}
use Rattle.srb_terms.specs.declared.span.Span.{Span}
use Rattle.rb_tree.specs.declared.syntax.Argument.{Argument}
use Rattle.rb_tree.specs.declared.syntax.Dot.{Dot}
use Rattle.srb_judgement.specs.States.{Run, Test}

-- a spelling that a rule asks for
pub data Spelling : Type 0 where
  -- a name alone, which may be a variable
  NameAlone : List ℕ → Spelling
  -- `nil`
  NilWord : Spelling
  -- a path of constants and nothing else; one that begins with `::` has an empty first name
  ConstantPath : List (List ℕ) → Spelling
  Other : Spelling

-- an operand: an expression as a part of another one
pub record Operand (T X : Type 0) : Type 0 where
  pub span : Span
  pub spelling : Spelling
  -- the type expression that it may be
  pub text : X
  -- the variables that it assigns, and which are visible after it
  pub declares : List (List ℕ)
  -- the same with those of the blocks in it
  pub assigns : List (List ℕ)
  pub judge : Run T

-- what stands at the end of an expression: what an assignment assigns to, and what a command calls
pub data Ending (T X : Type 0) : Type 0 where
  -- a name and its place
  EndsInName : List ℕ → Span → Ending T X
  EndsInInstanceVariable : List ℕ → Span → Ending T X
  EndsInConstant : Ending T X
  -- a call without brackets and block: the receiver, the dot, the name and its place
  EndsInCall : Operand T X → Dot → List ℕ → Span → Ending T X
  -- an index: the receiver, the arguments, and the place of the `[`
  EndsInIndex : Operand T X → List (Argument (Operand T X)) → Span → Ending T X
  EndsInYield : Ending T X
  EndsInSuper : Ending T X
  EndsOtherwise : Ending T X

-- what a direct statement of a class or module body is: a call of `sig`, another call that declares, or anything else
pub data Standing : Type 0 where
  SigStatement : Standing
  DeclaringCall : Standing
  PlainStatement : Standing

pub record Part (T X : Type 0) : Type 0 where
  pub it : Operand T X
  pub test : Test T
  pub ending : Ending T X
  pub standing : Standing
  -- whether it is a body without a statement
  pub is_empty : Bool
  -- the place of the last statement of a body
  pub last : Span
  -- as the body of a class or module: judged without what declares there
  pub in_class : Run T
  -- the errors of the bodies that it declares, by the `sig` statement before it, if there is one, and the full names of the bodies around
  pub bodies : Option X → List (List ℕ) → List Diag
  -- the same of the statements of a body of a class or module
  pub inner : List (List ℕ) → List Diag
