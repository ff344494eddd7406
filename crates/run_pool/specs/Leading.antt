-- What a chief does.
use Rattle.std.specs.Prelude.{◌≡◌, Bool, ◌||◌, Option, None, Some, Result}
use Rattle.std.specs.declared.alloc.AllocError.{AllocError}
use Rattle.srb_check.specs.Jobs.{Known}

-- the chief may lead with passes that show this
abbrev pub IsReadyFor : {C : Type 0} → (C → Known → Type 0) → C → Option Known → Type 0
IsReadyFor ready chief None = ⊥
IsReadyFor ready chief (Some job) = ready chief job

-- a seat that had raised or not before has raised or not now, and the chief led so: it raised the seat in the call, or it did not
abbrev pub Led : {C : Type 0} → (C → Bool → Result (Unit {0}) AllocError → C → Type 0) → C → (before after : Bool) → Result (Unit {0}) AllocError → C → Type 0
Led led old before after answer new = (raised : Bool) × (after ≡ (before || raised)) × led old raised answer new
