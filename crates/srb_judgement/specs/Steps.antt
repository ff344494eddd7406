-- The rules' steps in the order in which the code makes them: lists grow at their end, and a layer of pins takes one pin after the other.
use Rattle.std.specs.Prelude.{◌≡◌, ℕ, Bool, true, false, not, ◌&&◌, cond, map, List, [], ◌∷◌, ◌++◌, bytes_eq, Option, Some, None}
use Rattle.srb_terms.specs.NameSets.{has_name}
use Rattle.srb_terms.specs.declared.ty.Ty.{Ty}
use Rattle.srb_judgement.specs.declared.contexts.Context as kept
use Rattle.srb_judgement.specs.declared.contexts.Layer as layer
use Rattle.srb_judgement.specs.declared.states.Row as assigned
use Rattle.srb_judgement.specs.Blocks.{BlockJudged, after_block, left_type, new_type}
use Rattle.srb_judgement.specs.Environments.{Environment, Row, row, assigned_in, if_missing, is_live, joined_row, type_in, variable_type, with_type}
use Rattle.srb_judgement.specs.Kept.{own_pin, sees}
use Rattle.srb_judgement.specs.Languages.{Language}
use Rattle.srb_judgement.specs.States.{State, Judged, moved, without_jumps}
use Rattle.srb_judgement.specs.Types.{any_of, type_if}
use Rattle.srb_judgement.specs.Views.{seen_row}

-- ---- lists

-- with one item more, where it passes a test
abbrev pub added_if : {A : Type 0} → Bool → List A → A → List A
added_if true so_far x = so_far ++ x ∷ []
added_if false so_far x = so_far

-- with those that pass a test, in order
abbrev pub passed : {A : Type 0} → (A → Bool) → List A → List A → List A
passed test so_far [] = so_far
passed test so_far (x ∷ xs) = passed test (added_if (test x) so_far x) xs

-- the first type, or else this one, and those after the first
abbrev pub first_type : {T : Type 0} → T → List T → T
first_type otherwise [] = otherwise
first_type otherwise (t ∷ types) = t

abbrev pub other_types : {T : Type 0} → List T → List T
other_types [] = []
other_types (t ∷ types) = types

-- ---- rows

-- rows that are put one after the other
abbrev pub grown : {T : Type 0} → List (Row T) → List (Row T) → List (Row T)
grown rows [] = rows
grown rows (r ∷ more) = grown (with_type rows r.name r.ty) more

-- a row alone, where a map has one there
abbrev pub alone : {T : Type 0} → Row T → List (Row T)
alone r = r ∷ []

abbrev pub rows_at : {T : Type 0} → (Row T → List (Row T)) → Option (List ℕ × T) → List (Row T)
rows_at step None = []
rows_at step (Some e) = step (row e.0 e.1)

module _ {T X : Type 0} (L : Language T X) where
  -- a row with what others have of its variable
  abbrev pub joining : List (Row T) → Row T → List (Row T)
  joining others r = joined_row L others r ∷ []

  -- a row of others, where these rows have none of its variable
  abbrev pub missing : List (Row T) → Row T → List (Row T)
  missing rows r = if_missing L (type_in rows r.name) r []

-- ---- variables that aren't visible

abbrev pub unless_seen : Bool → List ℕ → Ty → Environment Ty → Environment Ty
unless_seen true name ty e = e
unless_seen false name ty e = assigned_in e name ty

-- each of these that isn't visible has this type
abbrev pub with_unseen : kept.Context → Ty → List (List ℕ) → Environment Ty → Environment Ty
with_unseen x ty [] e = e
with_unseen x ty (name ∷ names) e = with_unseen x ty names (unless_seen (sees x name) name ty e)

-- whether a variable that a block with these parameters assigns is an outer one
abbrev pub is_outer : kept.Context → List (List ℕ) → Row Ty → Bool
is_outer x parameters r = sees x r.name && not (has_name r.name parameters)

-- the assignments of a block to outer variables, after others
abbrev pub outer_after : kept.Context → List (List ℕ) → List assigned.Row → List assigned.Row → List assigned.Row
outer_after x parameters so_far [] = so_far
outer_after x parameters so_far (r ∷ rows) = outer_after x parameters (added_if (is_outer x parameters (seen_row r)) so_far r) rows

-- ---- pins

-- a layer takes one pin
abbrev pub Pins : List ℕ → Option Ty → layer.Layer → layer.Layer → Type 0
Pins name pin old new = (other : List ℕ) → own_pin new other ≡ cond (bytes_eq name other) (Some pin) (own_pin old other)

-- the pin of a name after these are hidden
abbrev pub hidden_after : List (List ℕ) → List ℕ → Option (Option Ty) → Option (Option Ty)
hidden_after [] other own = own
hidden_after (name ∷ names) other own = hidden_after names other (cond (bytes_eq name other) (Some None) own)

module _ {X : Type 0} (L : Language Ty X) (rows : List (Row Ty)) where
  -- the pin of a name after these are pinned
  abbrev pub pinned_after : List (List ℕ) → List ℕ → Option (Option Ty) → Option (Option Ty)
  pinned_after [] other own = own
  pinned_after (name ∷ names) other own = pinned_after names other (cond (bytes_eq name other) (Some (Some (variable_type L rows name))) own)

  abbrev pub PinnedAfter : List (List ℕ) → layer.Layer → layer.Layer → Type 0
  PinnedAfter names old new = (other : List ℕ) → own_pin new other ≡ pinned_after names other (own_pin old other)

abbrev pub HiddenAfter : List (List ℕ) → layer.Layer → layer.Layer → Type 0
HiddenAfter names old new = (other : List ℕ) → own_pin new other ≡ hidden_after names other (own_pin old other)

-- ---- loops and blocks, by the context of the code

-- the state after a block, with what was set aside
abbrev pub put_back : kept.Context → List (List ℕ) → State Ty → State Ty → State Ty
put_back x parameters before s = record s {
  environment = after_block before.environment s.environment;
  breaks = before.breaks;
  nexts = before.nexts;
  assigned = passed (is_outer x parameters) before.assigned s.assigned;
}

module _ {X : Type 0} (L : Language Ty X) where
  -- parameters have these types one after the other
  abbrev pub parameters_after : List (List ℕ) → List Ty → Environment Ty → Environment Ty
  parameters_after [] types e = e
  parameters_after (name ∷ names) types e = parameters_after names (other_types types) (assigned_in e name (first_type L.untyped types))

module _ {X : Type 0} (L : Language Ty X) (x : kept.Context) where
  abbrev pub head_kept : List (List ℕ) → State Ty → State Ty
  head_kept assigns s = without_jumps (moved (with_unseen x L.untyped assigns s.environment) s)

  abbrev pub entry_kept : List (List ℕ) → List (List ℕ) → List Ty → Environment Ty → Environment Ty
  entry_kept parameters assigns types e = parameters_after L parameters types (with_unseen x (new_type L x.looping) assigns e)

  abbrev pub begun_kept : List (List ℕ) → List (List ℕ) → List Ty → State Ty → State Ty
  begun_kept parameters assigns types s =
      record s { environment = entry_kept parameters assigns types s.environment; breaks = []; nexts = []; assigned = [] }

  abbrev pub left_kept : List (List ℕ) → State Ty → Judged Ty → BlockJudged Ty
  left_kept parameters before j = record {
    ty = any_of L (type_if L (is_live j.state.environment) j.ty ∷ map left_type j.state.nexts);
    breaks = map left_type j.state.breaks;
    state = put_back x parameters before j.state;
  }
