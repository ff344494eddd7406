-- What the bodies of the session say.
use Rattle.std.proofs.Common.{◌≡◌, ℕ, zero, suc, ◌+◌, pos, Bool, List, [], ◌∷◌, ◌++◌, Some, None, map, refl, sym, ap, ◌∙◌, append_assoc, add-one}
use Rattle.std.proofs.lemmas.List.{map-append}
use Rattle.std.proofs.lemmas.Bool.{cond-true}
use Rattle.lsp_frame.specs.Bodies.{Bodies, bodies_of}
use Rattle.lsp_frame.proofs.WrittenLemmas.{written_bodies}
use Rattle.lsp_msg.specs.Decoded.{decoded}
use Rattle.lsp_msg.specs.declared.id.Id.TheVariants.{Number}
use Rattle.lsp_msg.specs.declared.msg.Msg.{Msg}
use Rattle.lsp_msg.specs.declared.msg.Msg.TheVariants.{Initialize, Opened, Changed, Shutdown, Exit}
use Rattle.run_core.specs.Inputs.{up_to_exit, has_exit, messages_of, end_of}
use Rattle.run_watch.specs.declared.end_cause.EndCause.TheVariants as end
use Rattle.srb_gen.specs.Texts.{first_text, last_text}
use Rattle.srb_gen.specs.Messages.{root_uri, file_uri, initialize_body, opened_body, changed_body, shutdown_body, exit_body}
use Rattle.srb_gen.specs.Generated.{edit_bodies, edit_messages, generated_bodies, generated_messages, generated_session, SaysEdits}
use Rattle.srb_gen.proofs.Lengths.{all_within}

-- the bodies about the files of the smaller numbers say their messages
abbrev pub SaysAll : ℕ → Type 0
SaysAll n = map decoded (edit_bodies n) ≡ edit_messages n

-- and those about one more file
pub says_one_more : (i : ℕ) → SaysAll i → SaysEdits i → SaysAll (i + 1)
says_one_more i before edits =
    ap (λ k. map decoded (edit_bodies k)) (add-one i)
    ∙ map-append decoded (edit_bodies i) _
    ∙ ap (λ ms. ms ++ map decoded (opened_body (file_uri i) (first_text i) ∷ changed_body (file_uri i) (last_text i) ∷ [])) before
    ∙ ap (λ m. edit_messages i ++ m ∷ decoded (changed_body (file_uri i) (last_text i)) ∷ []) edits.0
    ∙ ap (λ m. edit_messages i ++ Opened (file_uri i) (first_text i) ∷ m ∷ []) edits.1
    ∙ ap edit_messages (sym (add-one i))

-- none of the messages about files is `exit`
up_to-edits : (n : ℕ) (later : List Msg) → up_to_exit (edit_messages n ++ later) ≡ edit_messages n ++ up_to_exit later
up_to-edits zero later = refl
up_to-edits (suc i) later =
    let opens = Opened (file_uri i) (first_text i) in
    let change = Changed (file_uri i) (record { range = None; text = last_text i } ∷ []) in
    ap up_to_exit (append_assoc (edit_messages i) (opens ∷ change ∷ []) later)
    ∙ up_to-edits i (opens ∷ change ∷ later)
    ∙ sym (append_assoc (edit_messages i) (opens ∷ change ∷ []) (up_to_exit later))

has_exit-edits : (n : ℕ) (later : List Msg) → has_exit (edit_messages n ++ later) ≡ has_exit later
has_exit-edits zero later = refl
has_exit-edits (suc i) later =
    let opens = Opened (file_uri i) (first_text i) in
    let change = Changed (file_uri i) (record { range = None; text = last_text i } ∷ []) in
    ap has_exit (append_assoc (edit_messages i) (opens ∷ change ∷ []) later)
    ∙ has_exit-edits i (opens ∷ change ∷ later)

module _ (n : ℕ) (begins : decoded initialize_body ≡ Initialize (Number (pos 1)) (Some root_uri) []) (edits : SaysAll n)
    (shuts : decoded shutdown_body ≡ Shutdown (Number (pos 2))) (ends : decoded exit_body ≡ Exit) where
  all_said : map decoded (bodies_of (generated_session n)).list ≡ generated_messages n
  all_said =
      ap (λ (b : Bodies). map decoded b.list) (written_bodies 0 (generated_bodies n) (all_within n))
      ∙ ap (λ m. m ∷ map decoded (edit_bodies n ++ shutdown_body ∷ exit_body ∷ [])) begins
      ∙ ap (λ ms. Initialize (Number (pos 1)) (Some root_uri) [] ∷ ms)
      (map-append decoded (edit_bodies n) (shutdown_body ∷ exit_body ∷ [])
      ∙ ap (λ ms. ms ++ decoded shutdown_body ∷ decoded exit_body ∷ []) edits
      ∙ ap (λ m. edit_messages n ++ m ∷ decoded exit_body ∷ []) shuts
      ∙ ap (λ m. edit_messages n ++ Shutdown (Number (pos 2)) ∷ m ∷ []) ends)

  pub messages_said : messages_of (generated_session n) ≡ generated_messages n
  messages_said =
      ap up_to_exit all_said
      ∙ ap (λ ms. Initialize (Number (pos 1)) (Some root_uri) [] ∷ ms) (up_to-edits n (Shutdown (Number (pos 2)) ∷ Exit ∷ []))

  pub end_said : (failed : Bool) → end_of (generated_session n) failed ≡ end.Exit
  end_said failed = cond-true _ _ _ (ap has_exit all_said ∙ has_exit-edits n (Shutdown (Number (pos 2)) ∷ Exit ∷ []))
