-- What is dealt out to workers, and how it comes back.
use Rattle.std.specs.Prelude.{◌≡◌, ℕ, ◌+◌, ◌^◌, ◌≤◌, Bool, false, ◌||◌, List, [], ◌∷◌, length, sum_by, Some, Result}
use Rattle.std.specs.declared.alloc.AllocError.{AllocError}
use Rattle.srb_check.specs.Jobs.{Known}
use Rattle.run_gate.specs.declared.gate.Gate.{Gate}
use Rattle.run_gate.specs.Shows.{SeatView}
use Rattle.run_queues.specs.Handing.{EachIsRight}
use Rattle.run_queues.specs.Showings.{Places, Showing}
use Rattle.run_pool.specs.declared.path.Course.{Course}
use Rattle.run_pool.specs.declared.path.Place.{Place}
use Rattle.run_pool.specs.Found.{IsFoundBy}
use Rattle.run_pool.specs.Paths.{WorkersEnded}
use Rattle.run_pool.specs.Working.{file_count}

-- The seat and the pass are of this gate and this queue, the pass shows this job, nothing was done with them yet, and they have enough left.
pub record IsNew (job : Known) (gate : Gate) (queue : Places) (seat : SeatView) (pass : Showing Known) : Type 0 where
  pub seat_is : seat ≡ record { gate = gate; drawn = []; saw = false; raised = false; left = seat.left }
  pub pass_is : pass ≡ record { queue = queue.name; view = Some job; gave = []; got = []; left = pass.left }
  pub seat_left : 2 ^ 32 ≤ seat.left
  pub pass_left : 2 ^ 32 ≤ pass.left

-- each of the places is new
abbrev pub EachNew : Known → Gate → Places → List Place → Type 0
EachNew job gate queue [] = Unit {0}
EachNew job gate queue (place ∷ places) = IsNew job gate queue place.seat place.pass × EachNew job gate queue places

-- how many numbers the seats may still draw together
abbrev pub seats_left : List Place → ℕ
seats_left places = sum_by (λ place. place.seat.left) places

-- how many puts and takes the passes may still make together
abbrev pub passes_left : List Place → ℕ
passes_left places = sum_by (λ place. place.pass.left) places

-- Of a seat and a pass that had all, so much was dealt out to places, and the rest is left.
pub record IsDealt (job : Known) (gate : Gate) (queue : Places) (places : List Place) (seat : SeatView) (pass : Showing Known) : Type 0 where
  pub own : IsNew job gate queue seat pass
  pub each : EachNew job gate queue places
  pub seats : seat.left + seats_left places ≡ 2 ^ 63
  pub passes : pass.left + passes_left places ≡ 2 ^ 63

-- a seat and a pass that have all
pub record HasAll (job : Known) (gate : Gate) (queue : Places) (seat : SeatView) (pass : Showing Known) : Type 0 where
  pub own : IsNew job gate queue seat pass
  pub numbers : seat.left ≡ 2 ^ 63
  pub steps : pass.left ≡ 2 ^ 63

-- The workers at the places ended, and the chief led beside them. All that they had left came back to
-- the seat and the pass of the chief, and what was given is right by the job.
pub record Leads {C : Type 0} (led : C → Bool → Result (Unit {0}) AllocError → C → Type 0) (job : Known) (places : List Place) (old new : C) (seat seat' : SeatView) (pass pass' : Showing Known) (course : Course) : Type 0 where
  pub chief : led old course.called course.answer new
  pub ended : WorkersEnded (length places) (file_count job) seat' course.short
  pub raised : seat'.raised ≡ (course.called || course.short)
  pub gate : seat'.gate ≡ seat.gate
  pub seats : length seat'.drawn + seat'.left ≡ (length seat.drawn + seat.left) + seats_left places
  pub queue : pass'.queue ≡ pass.queue
  pub view : pass'.view ≡ pass.view
  pub passes : length pass'.gave + length pass'.got + pass'.left ≡ (length pass.gave + length pass.got + pass.left) + passes_left places
  pub right : EachIsRight IsFoundBy job pass.gave → EachIsRight IsFoundBy job pass'.gave
