-- What is around an expression, and what the judgement gives: the type, the environment after it, the jump environments and the errors.
use Rattle.std.specs.Prelude.{ℕ, Bool, true, false, ◌||◌, List, [], ◌∷◌, ◌++◌, Option}
use Rattle.srb_terms.specs.NameSets.{has_name}
use Rattle.srb_terms.specs.declared.diag.Diag.{Diag}
use Rattle.srb_judgement.specs.Environments.{Row, row, Environment, Live, Dead, Silent, ended, assigned_in}

-- ---- around an expression

pub record Context (T : Type 0) : Type 0 where
  -- the type of `self`
  pub self_type : T
  -- the full names of the bodies around, the innermost first
  pub scope : List (List ℕ)
  -- the class or module whose instances, or whose class object, has the instance variables
  pub owner : List ℕ
  pub meta : Bool
  -- the type against which results are checked; None where none is checked
  pub result : Option T
  -- whether a loop or block is around
  pub inside : Bool
  -- whether a loop is around
  pub looping : Bool
  -- The type at which a variable is pinned. A block's parameter hides an outer variable of its name, and isn't pinned by its own block.
  pub pins : List ℕ → Option T
  -- The variables that are visible: "a parameter of that name, or an assignment to it, begins earlier in the same body and, if that
  -- stands in a block, the block encloses the identifier". Earlier is told by the text, whatever is judged first.
  pub visible : List ℕ → Bool

-- ---- what is passed on

-- what a `break` or `next` carries: its type, and the environment in which it stands
pub record Left (T : Type 0) : Type 0 where
  pub ty : T
  pub rows : List (Row T)

pub record State (T : Type 0) : Type 0 where
  pub environment : Environment T
  -- the jump environments of the innermost loop or block around
  pub breaks : List (Left T)
  pub nexts : List (Left T)
  -- the types that live assignments gave to variables so far
  pub assigned : List (Row T)
  pub errors : List Diag

-- an expression's type, and what is after it
pub record Judged (T : Type 0) : Type 0 where
  pub ty : T
  pub state : State T

-- a condition's type, the environments for truth and for falsehood, and what is after it but for the environment
pub record Tested (T : Type 0) : Type 0 where
  pub ty : T
  pub truth : Environment T
  pub falsehood : Environment T
  pub state : State T

-- the types of several expressions, and what is after the last
pub record Several (T : Type 0) : Type 0 where
  pub types : List T
  pub state : State T

-- how an expression is judged, as a value and as a condition
abbrev pub Run : Type 0 → Type 0
Run T = Context T → State T → Judged T

abbrev pub Test : Type 0 → Type 0
Test T = Context T → State T → Tested T

-- ---- contexts

module _ {T : Type 0} where
  -- further variables are visible
  abbrev pub seeing : List (List ℕ) → Context T → Context T
  seeing names c = record c { visible = λ name. has_name name names || c.visible name }

  abbrev pub is_visible : Context T → List ℕ → Bool
  is_visible c name = c.visible name

  -- ---- states

  abbrev pub judged : T → State T → Judged T
  judged ty s = record { ty = ty; state = s }

  -- the same state in another environment
  abbrev pub moved : Environment T → State T → State T
  moved e s = record s { environment = e }

  abbrev pub stopped : State T → State T
  stopped s = moved (ended s.environment) s

  abbrev pub with_error : Diag → State T → State T
  with_error error s = record s { errors = s.errors ++ error ∷ [] }

  abbrev pub with_errors : List Diag → State T → State T
  with_errors errors s = record s { errors = s.errors ++ errors }

  -- an error, where a test fails
  abbrev pub unless_error : Bool → Diag → State T → State T
  unless_error true error s = s
  unless_error false error s = with_error error s

  -- a live assignment is noted
  abbrev pub noted : Environment T → List ℕ → T → List (Row T) → List (Row T)
  noted (Live rows) name ty so_far = so_far ++ row name ty ∷ []
  noted Dead name ty so_far = so_far
  noted Silent name ty so_far = so_far

  -- the variable gets this type
  abbrev pub given : List ℕ → T → State T → State T
  given name ty s = record s {
    environment = assigned_in s.environment name ty;
    assigned = noted s.environment name ty s.assigned;
  }

  -- the state at the entry of a loop, block or guard, whose jumps are its own
  abbrev pub without_jumps : State T → State T
  without_jumps s = record s { breaks = []; nexts = [] }

  -- the jumps of what is around, after those of a loop or block were caught
  abbrev pub with_jumps : List (Left T) → List (Left T) → State T → State T
  with_jumps breaks nexts s = record s { breaks = breaks; nexts = nexts }

  abbrev pub with_jumps_of : State T → State T → State T
  with_jumps_of outer s = with_jumps outer.breaks outer.nexts s
