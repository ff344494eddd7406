-- How a `Boxed` holds its value, so that a type may hold itself in one.
use mathlib.Core.Path.{refl}
use mathlib.Core.Former.{Former, this, const, pair, via}
use base.Stored.{gnil}
use base.Fml.{ftrue}
use denote.RattleType.{RattleType}
use denote.RawPtr.{Ptr}
use denote.Memory.{part_of}
use denote.Sharing.{nothing}
use denote.HoleLaws.{Alike}
use denote.HolePlaces.{Recodes, struct_places, laid, one_value}
use denote.Hole.Fix.{over}
use denote.Model.Placed.{view_places}
use denote.Param.Weighed.{Weighed}
use Rattle.std.specs.declared.sync.Arc.{Arc}
use Rattle.std.specs.declared.alloc.Global.{Global}
use Rattle.std.specs.contracts.alloc.Global as global
use Rattle.std.specs.contracts.sync.Arc as arc
use Rattle.std.specs.contracts.impls.GlobalAllocator.TheImpl.{ghosts}
use Rattle.srb_terms.specs.declared.boxed.Boxed.TheInside.{Inside}
use Rattle.srb_terms.specs.declared.boxed.Boxed.TheView.{view, invariant}
use Rattle.srb_terms.specs.contracts.boxed.Boxed as boxed
use Rattle.srb_terms.specs.contracts.boxed.Boxed.TheInside as inside

-- its value is the value in it
abbrev pub the_former : Former {0} → Former {0}
the_former value = value

-- it measures what its value does
abbrev pub the_weighed : {value : Former {0}} → Weighed value → Weighed (the_former value)
the_weighed measure = measure

-- a shared cell's place, and the value in it
abbrev in_arc : Former {0}
in_arc = via (pair (const Ptr) this) Inside (λ X fields. (fields.held.ptr, fields.held.value))
    (λ X parts. record { held = record { ptr = parts.0; value = parts.1 } })
    (λ X fields. refl) (λ X parts. refl)

-- the same cell with another value in it
abbrev refilled : {X Y : Type 0} → Arc X Global → Y → Arc Y Global
refilled old value = record { ptr = old.ptr; value = value }

-- a shared cell of such values in the standard library
abbrev arc_row : RattleType → RattleType
arc_row Value = arc.the_row Value global.the_row ghosts

module _ (From To : RattleType) (change : From.Denot → To.Denot) where
  -- a cell owns and lends one value, and nothing else of that value's type matters to it
  arc_placed : Alike From To change → Alike (arc_row From) (arc_row To) (λ b. refilled b (change b.value))
  unfolding part_of
  arc_placed alike = record {
    mir_same = λ i. (arc_row (one_value From (alike.mir_same i) (λ _. ftrue) (λ _ _. nothing) gnil)).mir;
    own_same = λ b i. (arc_row (one_value From (alike.mir_same i) (alike.own_same b.value i) (alike.shr_same b.value i) gnil)).own_val (refilled b tt);
    shr_same = λ b i. (arc_row (one_value From (alike.mir_same i) (alike.own_same b.value i) (alike.shr_same b.value i) gnil)).shr_at (refilled b tt);
  }

  -- it owns and lends what its value owns and lends
  pub the_places : Alike From To change
      → Alike (boxed.the_row From) (boxed.the_row To) ((the_former this).map From.Denot To.Denot change)
  the_places alike =
      let fields = laid _ _ _ (arc_placed alike) in
      let placed = struct_places (inside.the_type From) (inside.the_type To) ((λ b. refilled b (change b.value)), tt) _ (λ _. refl) refl (fields, tt) in
      view_places in_arc this view (λ _ _ _ _. refl) (λ _ _. refl) From.Denot To.Denot change
      (boxed.the_row From).coded (boxed.the_row To).coded (invariant From.Denot) (invariant To.Denot)
      (λ _ _ _. refl) (λ _ _ _. refl) (λ _ _. tt) (λ _ _. tt) (over (inside.the_row From)) (over (inside.the_row To)) placed

  -- and is stored as it is
  pub the_codes_placed : Recodes From To change
      → Recodes (boxed.the_row From) (boxed.the_row To) ((the_former this).map From.Denot To.Denot change)
  the_codes_placed same value = same value
