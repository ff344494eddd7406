-- Small runs, computed.
use Rattle.std.proofs.Common.{◌≡◌, ℕ, ◌≤◌, Bool, true, false, List, [], ◌∷◌, ◌++◌, refl, subst, inl, inr, ⊎_elim, ◌||◌, arith}
use Rattle.std.specs.Prelude.{Option, Some, None, codes, bytes_eq, if◌then◌else◌, pos, negsuc}
use Rattle.std.specs.Str.{is_utf8, chars}
use lib.Utf8.{encode}
use Rattle.percent_encoding.specs.Percent.{percent_decode}
use Rattle.srb_terms.specs.declared.diag.Diag.{Diag}
use Rattle.srb_terms.specs.Projects.{bytes_at}
use Rattle.srb_text.specs.declared.Encoding.TheVariants.{Utf8, Utf16}
use Rattle.lsp_msg.specs.declared.id.Id.TheVariants as id
use Rattle.lsp_msg.specs.declared.msg.Msg.{Msg as Message}
use Rattle.lsp_msg.specs.declared.msg.Msg.TheVariants as msg
use Rattle.lsp_msg.specs.declared.out.Out.{Out}
use Rattle.lsp_msg.specs.declared.out.Out.TheVariants as out
use Rattle.lsp_msg.specs.declared.placed.Placed.{Placed}
use Rattle.run_watch.specs.declared.end_cause.EndCause.TheVariants.{Exit}
use Rattle.run_watch.specs.declared.inp.Inp.TheVariants.{Msg, End}
use Rattle.run_watch.specs.declared.step.Step.{Step}
use Rattle.run_watch.specs.declared.step.Step.TheVariants.{Take, Look, Build, Work, Dropped, Idle}
use Rattle.lsp_docs.specs.Paths.{Bytes}
use Rattle.lsp_docs.specs.Projects.{Project}
use Rattle.lsp_msg.specs.declared.reason.Reason.TheVariants.{NotOpen, NotInProject, Backwards}
use Rattle.lsp_docs.proofs.PathLemmas.{same_path}
use Rattle.run_core.specs.Language.{Language, language_of, list_of}
use Rattle.run_core.specs.Histories.{history, answers_to}
use Rattle.run_core.specs.Legal.{LegalSoFar, Legal}
use Rattle.run_core.specs.Settled.{Settled}
use Rattle.run_core.specs.Machine.{is_at_rest, may_work, Permits}
use Rattle.run_core.specs.Runs.{Run, outs, last_state, Over}

-- ---- a toy language

-- a file that begins with `D` declares what follows; it is what other files see of it
abbrev declared : Bytes → List Bytes
declared [] = []
declared (b ∷ bs) = if bytes_eq (b ∷ []) (codes "D") then bs ∷ [] else []

abbrev declared_by : Project → List Bytes
declared_by [] = []
declared_by (file ∷ files) = declared file.1 ++ declared_by files

abbrev declares : Bytes → List Bytes → Bool
declares b [] = false
declares b (c ∷ cs) = if bytes_eq b c then true else declares b cs

-- an error at the first byte
abbrev error : Bytes → Diag
error text = record { span = record { start = 0; end = 1 }; number = 5002; text = text }

-- a file that begins with `U` uses what follows, which is an error where no file declares it
abbrev errors : List Bytes → Bytes → List Diag
errors facts [] = []
errors facts (b ∷ bs) =
    if bytes_eq (b ∷ []) (codes "U") then (if declares bs facts then [] else error bs ∷ []) else []

abbrev same_facts : List Bytes → List Bytes → Bool
same_facts [] [] = true
same_facts (b ∷ bs) (c ∷ cs) = if bytes_eq b c then same_facts bs cs else false
same_facts bs cs = false

abbrev declared_at : Option Bytes → List Bytes
declared_at None = []
declared_at (Some b) = declared b

abbrev toy : Language
toy = language_of declared_by errors (λ p e. same_facts (declared_at (bytes_at e.path p)) (declared_at e.now))

-- ---- messages

abbrev begin : Message
begin = msg.Initialize (id.Number (pos 1)) (Some (codes "file:///p")) []

abbrev open_a : Message
open_a = msg.Opened (codes "file:///p/a.rb") (codes "Ux")

abbrev shut : Message
shut = msg.Shutdown (id.Number (pos 2))

abbrev take : Message → Step
take m = Take (Msg m)

abbrev end : Step
end = Take (End Exit)

abbrev placed_here : Bytes → Placed
placed_here text = record { start = record { line = 0; unit = 0 }; end = record { line = 0; unit = 1 }; number = 5002; text = text }

-- the reply names the encoding that the client prefers
begin_by_bytes : outs toy [] (take (msg.Initialize (id.Number (pos 1)) (Some (codes "file:///p")) (codes "utf-8" ∷ codes "utf-16" ∷ [])) ∷ [])
    ≡ out.Initialized (id.Number (pos 1)) Utf8 ∷ []
begin_by_bytes = refl

-- ---- a file is opened in an empty project, and the session ends

abbrev first_session : List Step
first_session =
    take begin ∷ Look ∷ Build ∷ Idle
    ∷ take open_a ∷ Look ∷ Work (codes "a.rb") 1 (error (codes "x") ∷ []) true ∷ Look ∷ Idle
    ∷ take shut ∷ Idle ∷ take msg.Exit ∷ end ∷ Idle ∷ []

first_session_writes : outs toy [] first_session ≡
    out.Initialized (id.Number (pos 1)) Utf16
    ∷ out.List (codes "file:///p/a.rb") 1 (placed_here (codes "x") ∷ [])
    ∷ out.Null (id.Number (pos 2)) ∷ []
unfolding percent_decode is_utf8 chars encode
first_session_writes = refl

first_session_runs : Run toy [] first_session
unfolding percent_decode is_utf8 chars encode
first_session_runs = (
  refl,
  (
    tt,
    (
      refl,
      (
        refl,
        (
          refl,
          (
            tt,
            (
              record { ready = refl; now = refl; fresh = refl; rightly = inl refl },
              (
                tt,
                (
                  refl,
                  (refl, (refl, (refl, (refl, (refl, tt))))),
                ),
              ),
            ),
          ),
        ),
      ),
    ),
  ),
)

first_session_is_over : Over toy [] first_session
unfolding percent_decode is_utf8 chars encode
first_session_is_over = record { ended = refl; rest = refl; answered = refl }

-- ---- an edit that keeps comes between two files, and its own file goes first

abbrev three_files : Project
three_files = (codes "a.rb", codes "Ux") ∷ (codes "b.rb", codes "Ux") ∷ (codes "c.rb", codes "Ux") ∷ []

abbrev kept_between : List Step
kept_between =
    take begin ∷ Look ∷ Build ∷ Work (codes "a.rb") 0 (error (codes "x") ∷ []) true
    ∷ take (msg.Opened (codes "file:///p/c.rb") (codes "Uy")) ∷ Look ∷ Work (codes "c.rb") 1 (error (codes "y") ∷ []) true
    ∷ Look ∷ Work (codes "b.rb") 1 (error (codes "x") ∷ []) true ∷ []

kept_between_runs : Run toy three_files kept_between
unfolding percent_decode is_utf8 chars encode
kept_between_runs = (
  refl,
  (
    tt,
    (
      refl,
      (
        record { ready = refl; now = refl; fresh = refl; rightly = inr (λ e. cc) },
        (
          refl,
          (
            tt,
            (
              record { ready = refl; now = refl; fresh = refl; rightly = inl refl },
              (tt, (record { ready = refl; now = refl; fresh = refl; rightly = inr (λ e. cc) }, tt)),
            ),
          ),
        ),
      ),
    ),
  ),
)

kept_between_rests : is_at_rest (last_state toy three_files kept_between) ≡ true
unfolding percent_decode is_utf8 chars encode
kept_between_rests = refl

-- the other file may not go before it
kept_between_waits : may_work (last_state toy three_files (take begin ∷ Look ∷ Build ∷ take (msg.Opened (codes "file:///p/c.rb") (codes "Uy")) ∷ Look ∷ [])) (codes "b.rb") ≡ false
unfolding percent_decode is_utf8 chars encode
kept_between_waits = refl

-- ---- an edit that changes what others see throws away what was found, and all is built anew

abbrev changed_between : List Step
changed_between =
    take begin ∷ Look ∷ Build
    ∷ take (msg.Opened (codes "file:///p/a.rb") (codes "Dx")) ∷ Dropped (codes "a.rb") ∷ Dropped (codes "b.rb")
    ∷ Look ∷ Build ∷ Work (codes "a.rb") 1 [] true ∷ Look ∷ Work (codes "b.rb") 1 (error (codes "y") ∷ []) true
    ∷ Look ∷ Work (codes "c.rb") 1 [] false ∷ []

abbrev files_with_y : Project
files_with_y = (codes "a.rb", codes "Ux") ∷ (codes "b.rb", codes "Uy") ∷ (codes "c.rb", codes "Ux") ∷ []

changed_between_runs : Run toy files_with_y changed_between
unfolding percent_decode is_utf8 chars encode
changed_between_runs = (
  refl,
  (
    tt,
    (
      refl,
      (
        refl,
        (
          refl,
          (
            refl,
            (
              tt,
              (
                refl,
                (
                  record { ready = refl; now = refl; fresh = refl; rightly = inl refl },
                  (
                    tt,
                    (
                      record { ready = refl; now = refl; fresh = refl; rightly = inr (λ e. cc) },
                      (
                        tt,
                        (record { ready = refl; now = refl; fresh = refl; rightly = (refl, refl) }, tt),
                      ),
                    ),
                  ),
                ),
              ),
            ),
          ),
        ),
      ),
    ),
  ),
)

changed_between_writes : outs toy files_with_y changed_between ≡
    out.Initialized (id.Number (pos 1)) Utf16
    ∷ out.List (codes "file:///p/a.rb") 1 []
    ∷ out.List (codes "file:///p/b.rb") 1 (placed_here (codes "y") ∷ []) ∷ []
unfolding percent_decode is_utf8 chars encode
changed_between_writes = refl

-- ---- a file that is gone before it was worked on is owed an empty list

abbrev gone_again : List Step
gone_again =
    take begin ∷ take (msg.Opened (codes "file:///p/a.rb") (codes "Dx")) ∷ take (msg.Closed (codes "file:///p/a.rb"))
    ∷ Look ∷ Build ∷ Work (codes "a.rb") 2 [] true ∷ []

gone_again_runs : Run toy [] gone_again
unfolding percent_decode is_utf8 chars encode
gone_again_runs = (refl, (refl, (refl, (tt, (refl, (record { ready = refl; now = refl; fresh = refl; rightly = inl refl }, tt))))))

gone_again_writes : outs toy [] gone_again ≡ out.Initialized (id.Number (pos 1)) Utf16 ∷ out.List (codes "file:///p/a.rb") 2 [] ∷ []
unfolding percent_decode is_utf8 chars encode
gone_again_writes = refl

-- ---- closing a new file that was saved keeps it, with the text that was saved

abbrev saved_and_closed : List Message
saved_and_closed =
    begin ∷ open_a ∷ msg.Saved (codes "file:///p/a.rb")
    ∷ msg.Changed (codes "file:///p/a.rb") (record { range = None; text = codes "Uy" } ∷ [])
    ∷ msg.Closed (codes "file:///p/a.rb") ∷ []

saved_and_closed_keeps : (history [] saved_and_closed).session.documents.project ≡ (codes "a.rb", codes "Ux") ∷ []
unfolding percent_decode is_utf8 chars encode
saved_and_closed_keeps = refl

saved_and_closed_shuts : (history [] saved_and_closed).session.documents.opened ≡ []
unfolding percent_decode is_utf8 chars encode
saved_and_closed_shuts = refl

-- one that wasn't saved is gone
closed_unsaved : (history [] (begin ∷ open_a ∷ msg.Closed (codes "file:///p/a.rb") ∷ [])).session.documents.project ≡ []
unfolding percent_decode is_utf8 chars encode
closed_unsaved = refl

-- a change of a document that isn't open is refused by a log message
refused_change : (history [] (begin ∷ msg.Changed (codes "file:///p/z.rb") [] ∷ [])).answers ≡
    out.Initialized (id.Number (pos 1)) Utf16 ∷ out.Log (codes "textDocument/didChange") NotOpen ∷ []
unfolding percent_decode is_utf8 chars encode
refused_change = refl

-- a URI that names no path below the root
refused_open : (history [] (begin ∷ msg.Opened (codes "untitled:1") (codes "") ∷ [])).answers ≡
    out.Initialized (id.Number (pos 1)) Utf16 ∷ out.Log (codes "textDocument/didOpen") NotInProject ∷ []
unfolding percent_decode is_utf8 chars encode
refused_open = refl

-- a range that ends before it starts, and the text stays
backwards : (history [] (begin ∷ open_a ∷ msg.Changed (codes "file:///p/a.rb")
    (record { range = Some (record { line = 0; unit = 2 }, record { line = 0; unit = 1 }); text = codes "z" } ∷ []) ∷ [])).answers ≡
    out.Initialized (id.Number (pos 1)) Utf16 ∷ out.Log (codes "textDocument/didChange") Backwards ∷ []
unfolding percent_decode is_utf8 chars encode
backwards = refl

-- ---- `shutdown` is answered after the checks that are owed

abbrev shut_early : List Step
shut_early = take begin ∷ Look ∷ Build ∷ take shut ∷ Work (codes "a.rb") 0 (error (codes "x") ∷ []) true ∷ Idle ∷ []

abbrev one_file : Project
one_file = (codes "a.rb", codes "Ux") ∷ []

shut_early_runs : Run toy one_file shut_early
unfolding percent_decode is_utf8 chars encode
shut_early_runs = (refl, (tt, (refl, (refl, (record { ready = refl; now = refl; fresh = refl; rightly = inr (λ e. cc) }, (refl, tt))))))

shut_early_writes : outs toy one_file shut_early ≡
    out.Initialized (id.Number (pos 1)) Utf16 ∷ out.List (codes "file:///p/a.rb") 0 (placed_here (codes "x") ∷ []) ∷ out.Null (id.Number (pos 2)) ∷ []
unfolding percent_decode is_utf8 chars encode
shut_early_writes = refl

-- it isn't answered before
shut_early_waits : Permits toy (last_state toy one_file (take begin ∷ Look ∷ Build ∷ take shut ∷ [])) Idle → ⊥
unfolding percent_decode is_utf8 chars encode
shut_early_waits p = cc

-- ---- requests before `initialize`, after `shutdown`, and messages after `exit`

too_early : answers_to [] (msg.Unknown (id.Number (pos 7)) ∷ []) ≡ out.Error (Some (id.Number (pos 7))) (negsuc 32001) ∷ []
too_early = refl

too_late : answers_to [] (begin ∷ shut ∷ msg.Unknown (id.Number (pos 3)) ∷ []) ≡
    out.Initialized (id.Number (pos 1)) Utf16 ∷ out.Error (Some (id.Number (pos 3))) (negsuc 32599) ∷ []
too_late = refl

again : answers_to [] (begin ∷ begin ∷ []) ≡
    out.Initialized (id.Number (pos 1)) Utf16 ∷ out.Error (Some (id.Number (pos 1))) (negsuc 32599) ∷ []
again = refl

unreadable : answers_to [] (msg.BadParams (codes "initialize") (Some (id.Number (pos 1))) ∷ begin ∷ []) ≡
    out.Error (Some (id.Number (pos 1))) (negsuc 32601) ∷ out.Initialized (id.Number (pos 1)) Utf16 ∷ []
unreadable = refl

after_exit : answers_to [] (msg.Exit ∷ msg.Unknown (id.Number (pos 7)) ∷ begin ∷ []) ≡
    out.Error (Some (id.Number (pos 7))) (negsuc 32001) ∷ out.Initialized (id.Number (pos 1)) Utf16 ∷ []
after_exit = refl

-- no message is taken after the end of input
after_end : Permits toy (last_state toy [] (end ∷ [])) (take begin) → ⊥
after_end p = cc

-- ---- what is not legal

abbrev greeting : Out
greeting = out.Initialized (id.Number (pos 1)) Utf16

abbrev two_edits : List Message
two_edits = begin ∷ open_a ∷ open_a ∷ []

abbrev list_at : ℕ → Out
list_at n = out.List (codes "file:///p/a.rb") n (placed_here (codes "x") ∷ [])

older_after_newer : LegalSoFar toy [] two_edits (greeting ∷ list_at 2 ∷ list_at 1 ∷ []) → ⊥
unfolding percent_decode is_utf8 chars encode
older_after_newer legal = let fall : 2 ≤ 1 = legal.1.1.0.rising.0 in omega arith

list_before_greeting : LegalSoFar toy [] two_edits (list_at 1 ∷ greeting ∷ []) → ⊥
list_before_greeting legal = let greeted : false ≡ true = legal.0.greeted in cc

out_of_order : LegalSoFar toy [] (msg.Unknown (id.Number (pos 7)) ∷ begin ∷ []) (greeting ∷ []) → ⊥
out_of_order legal = let first = legal.0.1 in cc

list_after_farewell : LegalSoFar toy [] (begin ∷ open_a ∷ shut ∷ []) (greeting ∷ out.Null (id.Number (pos 2)) ∷ list_at 1 ∷ []) → ⊥
list_after_farewell legal = let serving : true ≡ false = legal.1.1.0.serving in cc

-- epoch 1 comes after the answers to the messages before the first edit
list_before_answer : LegalSoFar toy [] (begin ∷ msg.Unknown (id.Number (pos 7)) ∷ open_a ∷ []) (greeting ∷ list_at 1 ∷ []) → ⊥
unfolding percent_decode is_utf8 chars encode
list_before_answer legal = let answered = legal.1.0.answered.1 in cc

other_items : LegalSoFar toy [] two_edits (greeting ∷ out.List (codes "file:///p/a.rb") 1 [] ∷ []) → ⊥
unfolding percent_decode is_utf8 chars encode
other_items legal =
    let may = legal.1.0 in
    let path : may.path ≡ codes "a.rb" = same_path may.path (codes "a.rb") (one_test (bytes_eq may.path (codes "a.rb")) may.known) in
    let right : [] ≡ placed_here (codes "x") ∷ [] =
    subst (λ f. [] ≡ list_of toy (record { root = codes "file:///p"; encoding = Utf16 }) ((codes "a.rb", codes "Ux") ∷ []) f) path may.right in
    cc
  where
    one_test : (b : Bool) → (b || (b || false)) ≡ true → b ≡ true
    one_test true e = refl
    one_test false e = e

unanswered : Legal toy [] (begin ∷ shut ∷ []) (greeting ∷ []) → ⊥
unanswered legal = let farewell : false ≡ true = legal.farewell refl in cc

abbrev twice_opened : List Message
twice_opened = begin ∷ msg.Opened (codes "file:///p/a.rb") (codes "Uy") ∷ open_a ∷ []

-- the last list is older than the last edit
old_list : Settled toy [] twice_opened (greeting ∷ list_at 1 ∷ []) → ⊥
unfolding percent_decode is_utf8 chars encode
old_list settled = ⊎_elim (λ p. let old : 2 ≤ 1 = p.1 in omega arith) (λ p. p) (settled.shown (codes "a.rb") refl)

-- the last list isn't that of the last text
wrong_list : Settled toy [] twice_opened (greeting ∷ list_at 1 ∷ out.List (codes "file:///p/a.rb") 2 [] ∷ []) → ⊥
unfolding percent_decode is_utf8 chars encode
wrong_list settled = let right : [] ≡ placed_here (codes "x") ∷ [] = settled.right (codes "a.rb") refl in cc
