-- Contexts as the code keeps them: the visible variables as a set, and the pins as a layer for each loop or block around, the innermost
-- last. A context of the code stands for each context of the definitions that says the same of each name.
use Rattle.std.specs.Prelude.{◌≡◌, ℕ, Bool, true, false, ◌||◌, List, [], ◌∷◌, ◌++◌, length, bytes_eq, Option, Some, None}
use Rattle.std.specs.List.{list_any}
use Rattle.std.specs.Option.{option_flatten}
use Rattle.srb_terms.specs.NameSets.{has_name}
use Rattle.srb_terms.specs.Worlds.{value_of}
use Rattle.srb_terms.specs.declared.ty.Ty.{Ty}
use Rattle.srb_judgement.specs.declared.contexts.Context as kept
use Rattle.srb_judgement.specs.declared.contexts.Layer as layer
use Rattle.srb_judgement.specs.Environments.{Environment, Live, Dead, Silent, variable_type}
use Rattle.srb_judgement.specs.Languages.{Language}
use Rattle.srb_judgement.specs.Pins.{pinned_by}
use Rattle.srb_judgement.specs.States.{Context, seeing}

-- ---- names

-- whether a name is visible
abbrev pub sees : kept.Context → List ℕ → Bool
sees x name = has_name name x.visible

-- the pin of a layer, where it has one
abbrev pub own_pin : layer.Layer → List ℕ → Option (Option Ty)
own_pin l name = value_of name l.pins.entries

abbrev pub or_before : Option (Option Ty) → Option (Option Ty) → Option (Option Ty)
or_before (Some pin) before = Some pin
or_before None before = before

-- the pin of the last layer that has one
abbrev pub last_pin : Option (Option Ty) → List layer.Layer → List ℕ → Option (Option Ty)
last_pin so_far [] name = so_far
last_pin so_far (l ∷ layers) name = last_pin (or_before (own_pin l name) so_far) layers name

-- "The innermost pin counts."
abbrev pub pin_in : List layer.Layer → List ℕ → Option Ty
pin_in layers name = option_flatten (last_pin None layers name)

-- ---- the context of the definitions

-- what a context of the code says of each name
abbrev pub seen_context : kept.Context → Context Ty
seen_context x = record {
  self_type = x.self_type;
  scope = x.scope;
  owner = x.owner;
  meta = x.meta;
  result = x.result;
  inside = x.inside;
  looping = x.looping;
  pins = pin_in x.pins;
  visible = sees x;
}

-- the context of the code stands for one of the definitions
abbrev pub SameContext : kept.Context → Context Ty → Type 0
SameContext x c = seen_context x ≡ c

-- something of the context of the definitions for which a context of the code stands
abbrev pub AtEach : kept.Context → (Context Ty → Type 0) → Type 0
AtEach x P = P (seen_context x)

-- ---- layers

-- the pin of a layer for a variable that is a parameter of the block
abbrev pub hidden_or : Bool → Option (Option Ty) → Option (Option Ty)
hidden_or true own = Some None
hidden_or false own = own

abbrev pub HidesAll : List (List ℕ) → layer.Layer → layer.Layer → Type 0
HidesAll names old new = (name : List ℕ) → own_pin new name ≡ hidden_or (has_name name names) (own_pin old name)

module _ {X : Type 0} (L : Language Ty X) where
  -- the pin that a layer has for a variable, by the environment in which the loop or block is entered, and whether the variable is visible
  abbrev pub pin_at : Environment Ty → Bool → List ℕ → Option (Option Ty)
  pin_at (Live rows) true name = Some (Some (variable_type L rows name))
  pin_at (Live rows) false name = None
  pin_at Dead visible name = None
  pin_at Silent visible name = None

  abbrev pub PinsAll : Environment Ty → List (List ℕ) → layer.Layer → Type 0
  PinsAll entry names l = (name : List ℕ) → own_pin l name ≡ pin_at entry (has_name name names) name
