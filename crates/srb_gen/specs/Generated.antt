-- The generated project of so many files, the session over it, and the summary.
use Rattle.std.specs.Prelude.{◌≡◌, ℕ, zero, suc, pos, List, [], ◌∷◌, ◌++◌, None, Some, codes}
use Rattle.std.specs.Fmt.{decimal}
use Rattle.std.specs.List.{concat}
use Rattle.lsp_docs.specs.Projects.{Project}
use Rattle.lsp_frame.specs.Written.{frames}
use Rattle.srb_gen.specs.Texts.{file_path, first_text, last_text}
use Rattle.lsp_msg.specs.Decoded.{decoded}
use Rattle.lsp_msg.specs.declared.id.Id.TheVariants.{Number}
use Rattle.lsp_msg.specs.declared.msg.Msg.{Msg}
use Rattle.lsp_msg.specs.declared.msg.Msg.TheVariants.{Initialize, Opened, Changed, Shutdown, Exit}
use Rattle.srb_gen.specs.Messages.{root_uri, file_uri, initialize_body, opened_body, changed_body, shutdown_body, exit_body}

-- the files at the start, numbered from 0
abbrev pub generated_project : ℕ → Project
generated_project zero = []
generated_project (suc i) = generated_project i ++ (file_path i, first_text i) ∷ []

-- each file in order is opened with its text, and then changed as a whole
abbrev pub edit_bodies : ℕ → List (List ℕ)
edit_bodies zero = []
edit_bodies (suc i) =
    edit_bodies i ++ opened_body (file_uri i) (first_text i) ∷ changed_body (file_uri i) (last_text i) ∷ []

-- the bodies of the session over so many files, in order
abbrev pub generated_bodies : ℕ → List (List ℕ)
generated_bodies n = initialize_body ∷ (edit_bodies n ++ shutdown_body ∷ exit_body ∷ [])

-- the bytes of the session: the frames of its bodies
abbrev pub generated_session : ℕ → List ℕ
generated_session n = frames (generated_bodies n)

-- what these bodies say: the messages about the files, and all messages of the session
abbrev pub edit_messages : ℕ → List Msg
edit_messages zero = []
edit_messages (suc i) =
    edit_messages i ++ Opened (file_uri i) (first_text i) ∷ Changed (file_uri i) (record { range = None; text = last_text i } ∷ []) ∷ []

abbrev pub generated_messages : ℕ → List Msg
generated_messages n =
    Initialize (Number (pos 1)) (Some root_uri) [] ∷ (edit_messages n ++ Shutdown (Number (pos 2)) ∷ Exit ∷ [])

-- the two bodies about the file of this number are read as the messages that they say
abbrev pub SaysEdits : ℕ → Type 0
SaysEdits i =
    (decoded (opened_body (file_uri i) (first_text i)) ≡ Opened (file_uri i) (first_text i))
    × (decoded (changed_body (file_uri i) (last_text i)) ≡ Changed (file_uri i) (record { range = None; text = last_text i } ∷ []))

-- the three lines of the summary
abbrev pub summary_of : (files edits errors : ℕ) → List ℕ
summary_of files edits errors = concat (
    codes "files " ∷ decimal files ∷ codes "\n"
    ∷ codes "edits " ∷ decimal edits ∷ codes "\n"
    ∷ codes "errors " ∷ decimal errors ∷ codes "\n"
    ∷ [])
