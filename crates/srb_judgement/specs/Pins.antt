-- Pins: at a loop's or block's entry every visible variable is pinned, and assignments inside keep its type. No fixed point is sought.
use Rattle.std.specs.Prelude.{ℕ, Bool, true, false, ◌||◌, List, Option, Some, None}
use Rattle.srb_terms.specs.NameSets.{has_name}
use Rattle.srb_terms.specs.declared.span.Span.{Span}
use Rattle.srb_judgement.specs.Environments.{Environment, Live, Dead, Silent, variable_type}
use Rattle.srb_judgement.specs.Errors.{stays}
use Rattle.srb_judgement.specs.Languages.{Language}
use Rattle.srb_judgement.specs.States.{Context, State, with_error, given}

module _ {T X : Type 0} (L : Language T X) where
  -- "At a loop's or block's entry every variable visible there is pinned at its type." "The innermost pin counts."
  abbrev pub pinned_by : Environment T → Bool → List ℕ → Option T → Option T
  pinned_by (Live rows) true name around = Some (variable_type L rows name)
  pinned_by (Live rows) false name around = around
  pinned_by Dead visible name around = around
  pinned_by Silent visible name around = around

  -- a name that hides an outer variable, and isn't pinned
  abbrev pub hidden_by : Bool → Option T → Option T
  hidden_by true pin = None
  hidden_by false pin = pin

  -- inside a loop that is entered in this environment
  abbrev pub in_loop : Environment T → Context T → Context T
  in_loop entry c = record c { inside = true; looping = true; pins = λ name. pinned_by entry (c.visible name) name (c.pins name) }

  -- inside a block with these parameters that is entered in this environment: "Block parameters hide outer variables of their name and
  -- aren't pinned by their own block"
  abbrev pub in_block : Environment T → List (List ℕ) → Context T → Context T
  in_block entry parameters c = record c {
    inside = true;
    pins = λ name. hidden_by (has_name name parameters) (pinned_by entry (c.visible name) name (c.pins name));
    visible = λ name. has_name name parameters || c.visible name;
  }

  -- "Inside, an assignment of a type that isn't a subtype of the pinned one is 7001, and the variable gets the pinned type; else it gets
  -- the assigned type."
  abbrev pub kept : Bool → List ℕ → T → T → Span → State T → State T
  kept true name pinned ty span s = given name ty s
  kept false name pinned ty span s = with_error (stays L span name pinned ty) (given name pinned s)

  abbrev pub assigned_by : Option T → List ℕ → T → Span → State T → State T
  assigned_by None name ty span s = given name ty s
  assigned_by (Some pinned) name ty span s = kept (L.is_sub ty pinned) name pinned ty span s

  -- the variable is assigned a value of this type, which stands at this place
  abbrev pub assign : Context T → List ℕ → T → Span → State T → State T
  assign c name ty span s = assigned_by (c.pins name) name ty span s
