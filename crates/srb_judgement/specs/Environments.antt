-- Environments: the types that variables have at a place of a body.
use Rattle.std.specs.Prelude.{ℕ, Bool, true, false, List, [], ◌∷◌, ◌++◌, map, bytes_eq, Option, Some, None}
use Rattle.srb_judgement.specs.Languages.{Language}
use Rattle.srb_judgement.specs.Types.{nil_type}

-- a variable and its type
pub record Row (T : Type 0) : Type 0 where
  pub name : List ℕ
  pub ty : T

abbrev pub row : {T : Type 0} → List ℕ → T → Row T
row name ty = record { name = name; ty = ty }

-- "An environment is live (a map from variables to types), dead or silent."
pub data Environment (T : Type 0) : Type 0 where
  Live : List (Row T) → Environment T
  Dead : Environment T
  Silent : Environment T

-- ---- rows

module _ {T : Type 0} where
  abbrev pub or_found : Bool → T → Option T → Option T
  or_found true ty rest = Some ty
  or_found false ty rest = rest

  -- the type of a variable, where the map has it
  abbrev pub type_in : List (Row T) → List ℕ → Option T
  type_in [] name = None
  type_in (r ∷ rows) name = or_found (bytes_eq r.name name) r.ty (type_in rows name)

  abbrev pub put_here : Bool → Row T → List (Row T) → List (Row T) → List (Row T)
  put_here true r rows rest = r ∷ rows
  put_here false r rows rest = rest

  -- the map with a variable's type given anew
  abbrev pub with_type : List (Row T) → List ℕ → T → List (Row T)
  with_type [] name ty = row name ty ∷ []
  with_type (r ∷ rows) name ty = put_here (bytes_eq r.name name) (row name ty) rows (r ∷ with_type rows name ty)

  -- whether the environment is live
  abbrev pub is_live : Environment T → Bool
  is_live (Live rows) = true
  is_live Dead = false
  is_live Silent = false

  -- what makes a live environment dead: an expression whose type is `T.noreturn`, a jump, or a side that is excluded
  abbrev pub ended : Environment T → Environment T
  ended (Live rows) = Dead
  ended Dead = Dead
  ended Silent = Silent

  -- the variable has this type, where the environment is live
  abbrev pub assigned_in : Environment T → List ℕ → T → Environment T
  assigned_in (Live rows) name ty = Live (with_type rows name ty)
  assigned_in Dead name ty = Dead
  assigned_in Silent name ty = Silent

-- ---- variables and joins

module _ {T X : Type 0} (L : Language T X) where
  abbrev pub or_nil : Option T → T
  or_nil None = nil_type L
  or_nil (Some ty) = ty

  -- "A variable that is absent has `NilClass`."
  abbrev pub variable_type : List (Row T) → List ℕ → T
  variable_type rows name = or_nil (type_in rows name)

  -- a variable of the first map, and one that stands in the second alone
  abbrev pub joined_row : List (Row T) → Row T → Row T
  joined_row others r = row r.name (L.any r.ty (variable_type others r.name))

  abbrev pub if_missing : Option T → Row T → List (Row T) → List (Row T)
  if_missing None r rows = row r.name (L.any (nil_type L) r.ty) ∷ rows
  if_missing (Some ty) r rows = rows

  abbrev pub missing_rows : List (Row T) → List (Row T) → List (Row T)
  missing_rows rows [] = []
  missing_rows rows (r ∷ others) = if_missing (type_in rows r.name) r (missing_rows rows others)

  abbrev pub joined_rows : List (Row T) → List (Row T) → List (Row T)
  joined_rows rows others = map (joined_row others) rows ++ missing_rows rows others

  -- "The join of two live ones joins by `T.any`; live with another is the live one; dead with silent is silent."
  abbrev pub joined : Environment T → Environment T → Environment T
  joined (Live rows) (Live others) = Live (joined_rows rows others)
  joined (Live rows) Dead = Live rows
  joined (Live rows) Silent = Live rows
  joined Dead (Live others) = Live others
  joined Dead Dead = Dead
  joined Dead Silent = Silent
  joined Silent (Live others) = Live others
  joined Silent Dead = Silent
  joined Silent Silent = Silent
