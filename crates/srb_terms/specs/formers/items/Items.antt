-- How an `Items` holds its elements, so that a type may hold itself in one.
use mathlib.Core.Path.{◌≡◌, refl, sym}
use mathlib.Core.List.{List, []}
use mathlib.Core.Former.{Former, this, list, via, children}
use base.Stored.{code_map}
use denote.RattleType.{RattleType}
use denote.HoleLaws.{Alike}
use denote.HolePlaces.{Recodes, struct_places, laid}
use denote.Hole.Carrier.{listed, list-listed}
use denote.Hole.Fix.{over}
use denote.Model.Placed.{view_places}
use denote.Param.Weighed.{Weighed, w_list}
use Rattle.std.specs.declared.alloc.Global.{Global}
use Rattle.std.specs.contracts.alloc.Global as global
use Rattle.std.specs.contracts.impls.GlobalAllocator.TheImpl.{ghosts}
use Rattle.std.specs.formers.vec.Vec as vec
use Rattle.srb_terms.specs.declared.items.Items.TheInside.{Inside}
use Rattle.srb_terms.specs.declared.items.Items.TheView.{view, invariant}
use Rattle.srb_terms.specs.contracts.items.Items as items
use Rattle.srb_terms.specs.contracts.items.Items.TheInside as inside

-- its value is a list
abbrev pub the_former : Former {0} → Former {0}
the_former element = list element

-- the largest measure among its elements
abbrev pub the_weighed : {element : Former {0}} → Weighed element → Weighed (the_former element)
the_weighed measure = w_list measure

-- the empty one
pub the_empty : List ⊥
the_empty = []

-- its elements, in order
abbrev pub the_items : (X : Type 0) → List X → List X
the_items X elements = elements

pub the_items_listed : (X : Type 0) (elements : List X) → listed _ (children (the_former this) X elements) ≡ the_items X elements
the_items_listed X elements = list-listed X elements

-- its one field, a vector of the elements
abbrev in_vec : Former {0}
in_vec = via (vec.the_former this Global) Inside (λ X fields. fields.elements) (λ X elements. record { elements = elements })
    (λ X fields. refl) (λ X elements. refl)

module _ (From To : RattleType) (change : From.Denot → To.Denot) where
  -- it owns and lends what its elements own and lend, one by one
  pub the_places : Alike From To change
      → Alike (items.the_row From) (items.the_row To) ((the_former this).map From.Denot To.Denot change)
  the_places alike =
      let fields = laid _ _ _ (vec.the_places global.the_row ghosts From To change alike) in
      let placed = struct_places (inside.the_type From) (inside.the_type To) (vec.mapped change, tt) _ (λ _. refl) refl (fields, tt) in
      view_places in_vec (list this) view (λ _ _ _ _. refl) (λ _ _. refl) From.Denot To.Denot change
      (items.the_row From).coded (items.the_row To).coded (invariant From.Denot) (invariant To.Denot)
      (λ _ _ _. refl) (λ _ _ _. refl) (λ _ _. tt) (λ _ _. tt) (over (inside.the_row From)) (over (inside.the_row To)) placed

  -- and is stored as they are
  pub the_codes_placed : Recodes From To change
      → Recodes (items.the_row From) (items.the_row To) ((the_former this).map From.Denot To.Denot change)
  the_codes_placed same elements = sym (code_map From.coded.code To.coded.code change (λ x. sym (same x)) elements)
