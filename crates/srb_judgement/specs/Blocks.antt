-- Blocks of calls.
use Rattle.std.specs.Prelude.{ℕ, Bool, true, false, not, ◌&&◌, List, [], ◌∷◌, ◌++◌, map}
use Rattle.std.specs.List.{filter}
use Rattle.srb_terms.specs.NameSets.{has_name}
use Rattle.rb_tree.specs.declared.syntax.Block.{Block}
use Rattle.rb_tree.specs.declared.syntax.PlacedName.{PlacedName}
use Rattle.srb_judgement.specs.Environments.{Row, Environment, Live, Dead, Silent, assigned_in, is_live}
use Rattle.srb_judgement.specs.Languages.{Language}
use Rattle.srb_judgement.specs.Parts.{Part}
use Rattle.srb_judgement.specs.Pins.{in_block}
use Rattle.srb_judgement.specs.States.{Context, State, Left, Judged}
use Rattle.srb_judgement.specs.Types.{nil_type, any_of, type_if}

-- a block that was judged: B, the types of its `break`s, and what is after it
pub record BlockJudged (T : Type 0) : Type 0 where
  pub ty : T
  pub breaks : List T
  pub state : State T

abbrev pub placed_name : PlacedName → List ℕ
placed_name n = n.name

abbrev pub left_type : {T : Type 0} → Left T → T
left_type l = l.ty

-- the names that a block gives to its parameters
abbrev pub parameter_names : {P : Type 0} → Block P → List (List ℕ)
parameter_names b = map placed_name b.parameters

module _ {T : Type 0} where
  -- "After a block call the environment is that at the block's entry." "After a block call whose entry isn't live the environment is that
  -- at the block's end."
  abbrev pub after_block : Environment T → Environment T → Environment T
  after_block (Live rows) end = Live rows
  after_block Dead end = end
  after_block Silent end = end

  -- what a block gave to outer variables
  abbrev pub outer_assigned : Context T → List (List ℕ) → List (Row T) → List (Row T)
  outer_assigned c parameters rows = filter (λ r. c.visible r.name && not (has_name r.name parameters)) rows

module _ {T X : Type 0} (L : Language T X) where
  -- "A block's parameters" have these types; those past the types `T.untyped`
  abbrev pub with_parameters : List (List ℕ) → List T → Environment T → Environment T
  with_parameters [] types e = e
  with_parameters (name ∷ names) [] e = with_parameters names [] (assigned_in e name L.untyped)
  with_parameters (name ∷ names) (t ∷ types) e = with_parameters names types (assigned_in e name t)

  -- "two blocks that assign the same new name have two variables": each begins absent, and in a loop as `T.untyped`, since "the variables
  -- that a loop assigns are also those of blocks inside it"
  abbrev pub new_type : Bool → T
  new_type true = L.untyped
  new_type false = nil_type L

  abbrev pub with_new : T → List (List ℕ) → Environment T → Environment T
  with_new t [] e = e
  with_new t (name ∷ names) e = with_new t names (assigned_in e name t)

  abbrev pub new_names : Context T → List (List ℕ) → List (List ℕ)
  new_names c assigns = filter (λ name. not (c.visible name)) assigns

  -- the environment in which a block begins
  abbrev pub entry_with : List (List ℕ) → List (List ℕ) → List T → Context T → Environment T → Environment T
  entry_with parameters assigns types c e = with_parameters parameters types (with_new (new_type c.looping) (new_names c assigns) e)

  abbrev pub block_entry : Block (Part T X) → List T → Context T → Environment T → Environment T
  block_entry b types c e = entry_with (parameter_names b) b.body.it.assigns types c e

  -- "`B` is the `T.any` of its last type and its `next` types"; "`break` types join the result"
  abbrev pub left_with : List (List ℕ) → Context T → State T → Judged T → BlockJudged T
  left_with parameters c before j = record {
    ty = any_of L (type_if L (is_live j.state.environment) j.ty ∷ map left_type j.state.nexts);
    breaks = map left_type j.state.breaks;
    state = record j.state {
      environment = after_block before.environment j.state.environment;
      breaks = before.breaks;
      nexts = before.nexts;
      assigned = before.assigned ++ outer_assigned c parameters j.state.assigned;
    };
  }

  abbrev pub block_left : Block (Part T X) → Context T → State T → Judged T → BlockJudged T
  block_left b c before j = left_with (parameter_names b) c before j

  -- the state in which a block begins: its jumps are its own
  abbrev pub state_with : List (List ℕ) → List (List ℕ) → List T → Context T → State T → State T
  state_with parameters assigns types c s =
      record s { environment = entry_with parameters assigns types c s.environment; breaks = []; nexts = []; assigned = [] }

  abbrev pub block_state : Block (Part T X) → List T → Context T → State T → State T
  block_state b types c s = state_with (parameter_names b) b.body.it.assigns types c s

  -- "The block is judged once", with these types of its parameters
  abbrev pub block_judged : Block (Part T X) → List T → Context T → State T → BlockJudged T
  block_judged b types c s =
      block_left b c s (b.body.it.judge (in_block L s.environment (parameter_names b) c) (block_state b types c s))
