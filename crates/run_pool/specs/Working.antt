-- What a worker does in a call.
use Rattle.std.specs.Prelude.{◌≡◌, ℕ, ◌+◌, ◌<◌, ◌≤◌, Bool, true, false, ◌||◌, List, [], ◌∷◌, ◌++◌, length, map, Some}
use Rattle.std.specs.List.{All}
use Rattle.srb_check.specs.Jobs.{Known}
use Rattle.run_gate.specs.Shows.{SeatView}
use Rattle.run_queues.specs.declared.item.Item.{Item}
use Rattle.run_queues.specs.Handing.{EachIsRight}
use Rattle.run_queues.specs.Showings.{Showing}
use Rattle.run_pool.specs.declared.worker_end.Why.{Why}
use Rattle.run_pool.specs.declared.worker_end.Why.TheVariants.{Drained, Stopped, NoMemory}
use Rattle.run_pool.specs.Found.{IsFoundBy}

-- the number of the job's files
abbrev pub file_count : Known → ℕ
file_count job = length job.files.paths

-- the numbers of items, in order
abbrev pub numbers_of : List Item → List ℕ
numbers_of items = map (λ item. item.number) items

-- the worker was out of memory
abbrev pub is_short : Why → Bool
is_short Drained = false
is_short Stopped = false
is_short NoMemory = true

-- What is left of the numbers that a worker drew, without those of the items that it gave: where it ended because none is left, one that is
-- no file's, and else at most one
abbrev pub Leaves : Why → (files : ℕ) → List ℕ → Type 0
Leaves Drained files rest = (last : ℕ) × (rest ≡ last ∷ []) × (files ≤ last)
Leaves Stopped files rest = (length rest ≤ 1) × All (λ n. n < files) rest
Leaves NoMemory files rest = (length rest ≤ 1) × All (λ n. n < files) rest

-- A worker that ended so drew files' numbers, and gave items with these numbers, in order, each right by the job. It then drew what is left.
pub record Hands (job : Known) (why : Why) (drawn_before drawn : List ℕ) (gave_before gave : List Item) : Type 0 where
  pub items : List Item
  pub rest : List ℕ
  pub drew : drawn ≡ drawn_before ++ (numbers_of items ++ rest)
  pub gives : gave ≡ gave_before ++ items
  pub files : All (λ n. n < file_count job) (numbers_of items)
  pub right : EachIsRight IsFoundBy job items
  pub leaves : Leaves why (file_count job) rest

-- a worker stopped only where its seat saw the stop word at 1
abbrev pub IsStoppedBy : Why → SeatView → Type 0
IsStoppedBy Drained seat = Unit {0}
IsStoppedBy Stopped seat = seat.saw ≡ true
IsStoppedBy NoMemory seat = Unit {0}

-- what a seat drew is still among its numbers, and it drew and may still draw as many numbers as before
abbrev pub KeepsSeat : SeatView → SeatView → Type 0
KeepsSeat before after =
    (after.gate ≡ before.gate)
    × ((more : List ℕ) × (after.drawn ≡ before.drawn ++ more))
    × (length after.drawn + after.left ≡ length before.drawn + before.left)

-- what a pass gave and got is still among its items, and it made and may still make as many puts and takes as before
abbrev pub KeepsPass : {W : Type 0} → Showing W → Showing W → Type 0
KeepsPass before after =
    (after.queue ≡ before.queue) × (after.view ≡ before.view)
    × ((more : List Item) × (after.gave ≡ before.gave ++ more))
    × ((more : List Item) × (after.got ≡ before.got ++ more))
    × (length after.gave + length after.got + after.left ≡ length before.gave + length before.got + before.left)

-- What a worker did at a seat and a pass.
pub record WorksAt (job : Known) (seat seat' : SeatView) (pass pass' : Showing Known) (why : Why) : Type 0 where
  pub hands : Hands job why seat.drawn seat'.drawn pass.gave pass'.gave
  pub stopped : IsStoppedBy why seat'
  pub raised : seat'.raised ≡ (seat.raised || is_short why)
  pub keeps_seat : KeepsSeat seat seat'
  pub keeps_pass : KeepsPass pass pass'

-- where all that the pass had given was right by the job that it shows, so is all that it gave since
abbrev pub StaysRight : Showing Known → Showing Known → Type 0
StaysRight before after = (job : Known) → before.view ≡ Some job → EachIsRight IsFoundBy job before.gave → EachIsRight IsFoundBy job after.gave
