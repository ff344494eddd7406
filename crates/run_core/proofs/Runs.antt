-- Every run is legal.
use Rattle.std.proofs.Common.{◌≡◌, Bool, true, false, List, [], ◌∷◌, ◌++◌, sym, ap, subst, subst₂, append_assoc}
use Rattle.std.specs.Prelude.{Option, Some, None, IsTrue, IsSome, IsNone}
use Rattle.std.proofs.lemmas.List.{append-nil}
use Rattle.lsp_msg.specs.declared.id.Id.{Id}
use Rattle.lsp_msg.specs.declared.msg.Msg.{Msg as Message}
use Rattle.lsp_msg.specs.declared.out.Out.{Out}
use Rattle.lsp_docs.specs.Paths.{Path}
use Rattle.lsp_docs.specs.Projects.{Project}
use Rattle.run_watch.specs.declared.step.Step.{Step}
use Rattle.run_watch.specs.declared.step.Step.TheVariants.{Take, Look, Build, Work, Dropped, Idle}
use Rattle.run_watch.specs.declared.inp.Inp.TheVariants.{Msg, End}
use Rattle.run_core.specs.Language.{Language}
use Rattle.run_core.specs.Sessions.{told, answer_of}
use Rattle.run_core.specs.Histories.{Shutdown, History, no_history, listed, heard, heard_all, history}
use Rattle.run_core.specs.Legal.{has_farewell, LegalSoFar, Legal}
use Rattle.run_core.specs.Machine.{State, opening, Permits, after_message, next, written}
use Rattle.run_core.specs.Runs.{Leads, state_after, written_by, message_in, messages_in, Run, outs, last_state, Over}
use Rattle.run_core.proofs.Histories.{told_fits, heard_all-append}
use Rattle.run_core.proofs.Held.{FarewellFits, Holds, opening_held, held_take, held_build, held_work, held_quiet_work, held_idle, may_work_parts}
use Rattle.std.proofs.lemmas.Bool.{and_parts}

pub same_told : (language : Language) (base : Project) (h : History) (os : List Out) (s : State) (m : Message) → Holds language base h os s →
    told h.session m ≡ told s.session m
same_told language base h os s m held = ap (λ x. told x m) (sym held.same)

-- a step that writes nothing
still : (language : Language) (base : Project) (h : History) (os : List Out) (s : State) → Holds language base h os s → Holds language base h (os ++ []) s
still language base h os s held = subst (λ o. Holds language base h o s) (sym (append-nil os)) held

pub held_step : (language : Language) (base : Project) (h : History) (os : List Out) (s : State) (x : Step) → Permits language s x →
    Holds language base h os s → Holds language base (heard_all h (message_in x)) (os ++ listed (written s x)) (next language s x)
held_step language base h os s (Take (Msg m)) p held =
    subst (λ t. Holds language base (heard h m) (os ++ listed (answer_of t)) (after_message language s t)) (same_told language base h os s m held)
    (held_take language base h os s (told h.session m) (told_fits h.session m) held)
held_step language base h os s (Take (End cause)) p held = still language base h os (next language s (Take (End cause))) held
held_step language base h os s Look p held = still language base h os (next language s Look) held
held_step language base h os s Build p held = still language base h os (next language s Build) (held_build language base h os s p held)
held_step language base h os s (Work f n list true) p held =
    held_work language base h os s f n list (may_work_parts s f p.ready) p.now p.fresh held
held_step language base h os s (Work f n list false) p held =
    still language base h os (next language s (Work f n list false)) (held_quiet_work language base h os s f n list (may_work_parts s f p.ready) held)
held_step language base h os s (Dropped f) p held = still language base h os s held
held_step language base h os s Idle p held = held_idle language base h os s (and_parts _ _ p).1 held

-- What holds at the start of some steps holds at their end.
pub held_run : (language : Language) (base : Project) (h : History) (os : List Out) (s : State) (steps : List Step) → Leads language s steps →
    Holds language base h os s → Holds language base (heard_all h (messages_in steps)) (os ++ written_by language s steps) (state_after language s steps)
held_run language base h os s [] p held = still language base h os s held
held_run language base h os s (x ∷ xs) p held =
    let one = held_step language base h os s x p.0 held in
    let more = held_run language base (heard_all h (message_in x)) (os ++ listed (written s x)) (next language s x) xs p.1 one in
    subst₂ (λ k o. Holds language base k o (state_after language (next language s x) xs))
    (sym (heard_all-append h (message_in x) (messages_in xs)))
    (append_assoc os (listed (written s x)) (written_by language (next language s x) xs))
    more

pub run_held : (language : Language) (base : Project) (steps : List Step) → Run language base steps →
    Holds language base (history base (messages_in steps)) (outs language base steps) (last_state language base steps)
run_held language base steps run = held_run language base (no_history base) [] (opening base) steps run (opening_held language base)

pub run_is_legal_so_far : (language : Language) (base : Project) (steps : List Step) → Run language base steps →
    LegalSoFar language base (messages_in steps) (outs language base steps)
run_is_legal_so_far language base steps run = (run_held language base steps run).legal

farewell_over : (o : Option Id) (sd : Option Shutdown) (os : List Out) (stale : Bool) (todo : List Path) → IsNone o →
    FarewellFits o sd os stale todo → IsSome sd → IsTrue (has_farewell os)
farewell_over None None os stale todo n f i = absurd cc
farewell_over None (Some sd) os stale todo n f i = f.0
farewell_over (Some id) sd os stale todo n f i = absurd cc

pub run_is_legal : (language : Language) (base : Project) (steps : List Step) → Run language base steps → Over language base steps →
    Legal language base (messages_in steps) (outs language base steps)
run_is_legal language base steps run over =
    let held = run_held language base steps run in
    let s = last_state language base steps in
    record {
      so_far = held.legal;
      answered = held.answered;
      farewell = farewell_over s.owing (history base (messages_in steps)).shutdown (outs language base steps) s.stale s.todo over.answered held.farewell;
    }
