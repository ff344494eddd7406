-- What the steps of a session's core did and said.
use Rattle.std.specs.Prelude.{◌≡◌, ℕ, ◌<◌, ◌≤◌, Bool, true, false, List, [], ◌∷◌, ◌++◌, length, take, Option, None, Some, Result, Ok, Err, IsFalse, ◌⊎◌, ⊤}
use Rattle.std.specs.Io.KnownBytes.{Appends, Keeps}
use Rattle.srb_io.specs.Counts.{HasRisen}
use Rattle.lsp_frame.specs.Written.{frame}
use Rattle.lsp_frame.specs.declared.writing.WriteEnd.{WriteEnd}
use Rattle.lsp_frame.specs.declared.writing.WriteEnd.TheVariants as write_end
use Rattle.lsp_msg.specs.Written.{body_of}
use Rattle.lsp_msg.specs.declared.out.Out.{Out}
use Rattle.run_watch.specs.Told.{with_steps}
use Rattle.run_watch.specs.declared.inp.Inp.TheVariants.{End}
use Rattle.run_watch.specs.declared.end_cause.EndCause.TheVariants as end
use Rattle.run_watch.specs.declared.step.Step.{Step}
use Rattle.run_watch.specs.declared.step.Step.TheVariants.{Take, Look}
use Rattle.run_queues.specs.declared.item.Item.{Item}
use Rattle.run_queues.specs.declared.heard.Heard.{Heard}
use Rattle.run_queues.specs.declared.heard.Heard.TheVariants.{Took, Empty}
use Rattle.run_core.specs.declared.landed.Landed.{Landed}
use Rattle.run_core.specs.declared.landed.Landed.TheVariants.{Shown, Quiet, Dropped, Later}
use Rattle.run_core.specs.Histories.{listed}
use Rattle.run_core.specs.Frames.{written_as}
use Rattle.run_core.specs.Machine.{State}
use Rattle.run_core.specs.Runs.{Leads, state_after, written_by}
use Rattle.run_core.specs.Cores.{checked_language}
use Rattle.run_serve.specs.declared.serve_end.ServeEnd.{ServeEnd}
use Rattle.run_serve.specs.declared.serve_end.ServeEnd.TheVariants.{WriteFault, NoMemory}

-- what a step hears of the inbox
abbrev pub hearing_in : Step → List Heard
hearing_in (Take inp) = Took inp ∷ []
hearing_in Look = Empty ∷ []
hearing_in step = []

-- what steps hear of the inbox, in order
abbrev pub hearings_in : List Step → List Heard
hearings_in [] = []
hearings_in (x ∷ xs) = hearing_in x ++ hearings_in xs

-- what was heard is the end that tells that memory ran out
abbrev pub is_lost : Heard → Bool
is_lost (Took (End end.NoMemory)) = true
is_lost heard = false

-- nothing of what was heard is
abbrev pub AreWhole : List Heard → Type 0
AreWhole [] = ⊤
AreWhole (h ∷ hs) = IsFalse (is_lost h) × AreWhole hs

-- what the sink holds, and the steps that the trace tells
pub record Kept : Type 0 where
  pub held : Option (List ℕ)
  pub told : Option (List Step)

-- These steps lead from one state to another and hear this of the inbox, the trace gained them, and the sink gained what they write.
pub record Did (old : State) (heard : List Heard) (new : State) (before after : Kept) : Type 0 where
  pub steps : List Step
  pub leads : Leads checked_language old steps
  pub there : new ≡ state_after checked_language old steps
  pub took : hearings_in steps ≡ heard
  pub gains : after.told ≡ with_steps before.told steps
  pub writes : Appends before.held after.held (written_as (written_by checked_language old steps))

-- The same, but of what the steps write the sink gained whole frames up to the last one, of which it gained a part.
pub record DidPart (old : State) (heard : List Heard) (new : State) (before after : Kept) : Type 0 where
  pub steps : List Step
  pub leads : Leads checked_language old steps
  pub there : new ≡ state_after checked_language old steps
  pub took : hearings_in steps ≡ heard
  pub gains : after.told ≡ with_steps before.told steps
  pub outs : List Out
  pub last : Out
  pub part : ℕ
  pub wrote : written_by checked_language old steps ≡ outs ++ last ∷ []
  pub short : part < length (frame (body_of last))
  pub writes : Appends before.held after.held (written_as outs ++ take part (frame (body_of last)))

-- The trace gained steps that lead from the state to some other one. They hear all of this but perhaps the last, which the trace refused.
-- Of what they write the sink gained whole frames of a first part.
pub record DidFront (old : State) (heard : List Heard) (before after : Kept) : Type 0 where
  pub steps : List Step
  pub later : List Heard
  pub leads : Leads checked_language old steps
  pub took : heard ≡ hearings_in steps ++ later
  pub most : length later ≤ 1
  pub gains : after.told ≡ with_steps before.told steps
  pub outs : List Out
  pub rest : List Out
  pub wrote : written_by checked_language old steps ≡ outs ++ rest
  pub writes : Appends before.held after.held (written_as outs)

-- What a call did that hears this and may be cut short. The end that tells that memory ran out is heard only where it is cut short so.
abbrev pub Works : {T : Type 0} → Result T ServeEnd → (old : State) → List Heard → (new : State) → (before after : Kept) → (faults_before faults : ℕ) → Type 0
Works (Ok done) old heard new before after faults_before faults = Did old heard new before after × AreWhole heard × (faults ≡ faults_before)
Works (Err WriteFault) old heard new before after faults_before faults = DidPart old heard new before after × AreWhole heard × HasRisen faults_before faults
Works (Err NoMemory) old heard new before after faults_before faults = DidFront old heard before after × (faults ≡ faults_before)

-- what a call did by which a pass comes to have heard more
abbrev pub Turns : {T : Type 0} → Result T ServeEnd → (old new : State) → (heard_before heard_after : List Heard) → (before after : Kept) → (faults_before faults : ℕ) → Type 0
Turns result old new heard_before heard_after before after faults_before faults =
    (heard : List Heard) × (heard_after ≡ heard_before ++ heard) × Works result old heard new before after faults_before faults

-- the trace gained one step
abbrev pub GainsOne : (told_before told : Option (List Step)) → Type 0
GainsOne told_before told = (step : Step) × (told ≡ with_steps told_before (step ∷ []))

-- the trace gained some steps
abbrev pub GainsSome : (told_before told : Option (List Step)) → Type 0
GainsSome told_before told = (step : Step) × (steps : List Step) × (told ≡ with_steps told_before (step ∷ steps))

-- what a call did that hears and writes nothing, and may be cut short because memory ran out, whatever the sink holds
abbrev pub Goes : {T E : Type 0} → Result T E → (old new : State) → (told_before told : Option (List Step)) → Type 0
Goes (Ok done) old new told_before told =
    (held : Option (List ℕ)) → Did old [] new (record { held = held; told = told_before }) (record { held = held; told = told })
Goes (Err end) old new told_before told =
    (held : Option (List ℕ)) → DidFront old [] (record { held = held; told = told_before }) (record { held = held; told = told })

-- why the coordinator stops where a write ends so
abbrev pub stop_by : WriteEnd → ServeEnd
stop_by write_end.Fault = WriteFault
stop_by write_end.NoMemory = NoMemory

-- what writing a message did, if there is one
abbrev pub Says : {T : Type 0} → Result T ServeEnd → Option Out → (before after : Option (List ℕ)) → (faults_before faults : ℕ) → Type 0
Says (Ok done) out before after faults_before faults = Appends before after (written_as (listed out)) × (faults ≡ faults_before)
Says (Err WriteFault) out before after faults_before faults =
    ((last : Out) × (part : ℕ) × (out ≡ Some last) × (part < length (frame (body_of last))) × Appends before after (take part (frame (body_of last)))) × HasRisen faults_before faults
Says (Err NoMemory) out before after faults_before faults = Keeps before after × (faults ≡ faults_before)

-- it is that memory ran out
abbrev pub IsWant : {T : Type 0} → Result T ServeEnd → Type 0
IsWant (Ok done) = ⊥
IsWant (Err WriteFault) = ⊥
IsWant (Err NoMemory) = Unit {0}

-- it went well
abbrev pub IsDone : {T : Type 0} → Result T ServeEnd → Type 0
IsDone (Ok done) = Unit {0}
IsDone (Err end) = ⊥

-- what telling the trace a step and then writing its message did, if there is one: the trace took note of it, or nothing
-- was done because memory ran out
abbrev pub Tells : {T : Type 0} → Result T ServeEnd → Step → Option Out → (before after : Kept) → (faults_before faults : ℕ) → Type 0
Tells r step out before after faults_before faults =
    ((after.told ≡ with_steps before.told (step ∷ [])) × Says r out before.held after.held faults_before faults)
    ⊎ (IsWant r × (after.told ≡ before.told) × (after.held ≡ before.held) × (faults ≡ faults_before))

-- the item that has to wait, if nothing was done
abbrev pub given_back : Landed → Option Item
given_back (Shown step out) = None
given_back (Quiet step) = None
given_back (Dropped step) = None
given_back (Later item) = Some item

-- what telling the trace and the sink did of errors that landed: nothing where they have to wait
abbrev pub TellsLanded : {T : Type 0} → Result T ServeEnd → Landed → (before after : Kept) → (faults_before faults : ℕ) → Type 0
TellsLanded r (Shown step out) before after faults_before faults = Tells r step (Some out) before after faults_before faults
TellsLanded r (Quiet step) before after faults_before faults = Tells r step None before after faults_before faults
TellsLanded r (Dropped step) before after faults_before faults = Tells r step None before after faults_before faults
TellsLanded r (Later item) before after faults_before faults = IsDone r × (after ≡ before) × (faults ≡ faults_before)
