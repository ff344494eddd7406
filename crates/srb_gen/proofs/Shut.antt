-- The generated session is shut down.
use Rattle.std.proofs.Common.{◌≡◌, ℕ, zero, suc, pos, List, [], ◌∷◌, refl, sym, ap, ◌∙◌, subst}
use Rattle.std.specs.Prelude.{Option, Some, None, Result, Ok, Err, IsSome}
use Rattle.lsp_msg.specs.declared.id.Id.{Id}
use Rattle.lsp_msg.specs.declared.id.Id.TheVariants.{Number}
use Rattle.lsp_msg.specs.declared.change.Change.{Change}
use Rattle.lsp_msg.specs.declared.reason.Reason.{Reason}
use Rattle.lsp_msg.specs.declared.msg.Msg.TheVariants.{Initialize, Opened, Changed, Shutdown, Exit}
use Rattle.lsp_docs.specs.declared.doc_end.DocEnd.{DocEnd}
use Rattle.lsp_docs.specs.Projects.{Project}
use Rattle.lsp_docs.specs.Documents.{Deed, applied}
use Rattle.run_core.specs.declared.phase.Phase.TheVariants.{Serving}
use Rattle.run_core.specs.Sessions.{Session, Nothing, Logged, told_in, told_by, reason_of, after_told}
use Rattle.run_core.specs.Histories.{History, no_history, heard_as, heard, heard_all, history}
use Rattle.run_core.proofs.Histories.{heard_all-append}
use Rattle.srb_gen.specs.Texts.{first_text, last_text}
use Rattle.srb_gen.specs.Messages.{root_uri, file_uri}
use Rattle.srb_gen.specs.Generated.{edit_messages, generated_messages}

-- ---- a message about a document leaves the phase

logged_phase : (s : Session) (method : List ℕ) (o : Option Reason) → (after_told s (elim o [ None ↦ Nothing | Some reason ↦ Logged method reason ])).phase ≡ s.phase
logged_phase s method None = refl
logged_phase s method (Some reason) = refl

told_phase : (s : Session) (method : List ℕ) (r : Result Deed DocEnd) → (after_told s (told_by method r)).phase ≡ s.phase
told_phase s method (Ok (Deed.Edits e opened)) = refl
told_phase s method (Ok (Deed.Saves f)) = refl
told_phase s method (Err e) = logged_phase s method (reason_of e)

applied_phase : (s : Session) (method : List ℕ) (o : Option (Result Deed DocEnd)) →
    (after_told s (elim o [ None ↦ Nothing | Some result ↦ told_by method result ])).phase ≡ s.phase
applied_phase s method None = refl
applied_phase s method (Some result) = told_phase s method result

opened_phase : (h : History) (uri text : List ℕ) → h.session.phase ≡ Serving → (heard h (Opened uri text)).session.phase ≡ Serving
opened_phase h uri text serving =
    ap (λ p. (after_told h.session (told_in p h.session.documents (Opened uri text))).phase) serving
    ∙ applied_phase h.session _ (applied h.session.documents (Opened uri text)) ∙ serving

changed_phase : (h : History) (uri : List ℕ) (changes : List Change) → h.session.phase ≡ Serving → (heard h (Changed uri changes)).session.phase ≡ Serving
changed_phase h uri changes serving =
    ap (λ p. (after_told h.session (told_in p h.session.documents (Changed uri changes))).phase) serving
    ∙ applied_phase h.session _ (applied h.session.documents (Changed uri changes)) ∙ serving

edits_phase : (h : History) (n : ℕ) → h.session.phase ≡ Serving → (heard_all h (edit_messages n)).session.phase ≡ Serving
edits_phase h zero serving = serving
edits_phase h (suc i) serving =
    let before = heard_all h (edit_messages i) in
    ap (λ (k : History). k.session.phase) (heard_all-append h (edit_messages i) _)
    ∙ changed_phase (heard before (Opened (file_uri i) (first_text i))) (file_uri i) (record { range = None; text = last_text i } ∷ [])
    (opened_phase before (file_uri i) (first_text i) (edits_phase h i serving))

-- ---- `shutdown` is accepted, and `exit` leaves it so

shut_at : (h : History) (id : Id) → h.session.phase ≡ Serving → IsSome (heard_all h (Shutdown id ∷ Exit ∷ [])).shutdown
shut_at h id serving =
    let shut : heard h (Shutdown id) ≡ heard_as h (told_in Serving h.session.documents (Shutdown id)) =
    ap (λ p. heard_as h (told_in p h.session.documents (Shutdown id))) serving in
    subst (λ k. IsSome (heard k Exit).shutdown) (sym shut) refl

pub session_is_shut : (base : Project) (n : ℕ) → IsSome (history base (generated_messages n)).shutdown
session_is_shut base n =
    let begun = heard (no_history base) (Initialize (Number (pos 1)) (Some root_uri) []) in
    subst (λ (k : History). IsSome k.shutdown) (sym (heard_all-append begun (edit_messages n) (Shutdown (Number (pos 2)) ∷ Exit ∷ [])))
    (shut_at (heard_all begun (edit_messages n)) (Number (pos 2)) (edits_phase begun n refl))
