-- How much a run works, said of its record alone.
use Rattle.std.specs.Prelude.{ℕ, suc, ◌+◌, Bool, true, false, List, [], ◌∷◌, length, if◌then◌else◌}
use Rattle.lsp_msg.specs.declared.msg.Msg.{Msg as Message}
use Rattle.run_watch.specs.declared.inp.Inp.TheVariants.{Msg}
use Rattle.run_watch.specs.declared.step.Step.{Step}
use Rattle.run_watch.specs.declared.step.Step.TheVariants.{Take, Build, Work}
use Rattle.run_core.specs.Language.{Language}
use Rattle.run_core.specs.Sessions.{Told, Edited, told}
use Rattle.run_core.specs.Histories.{History, heard}

-- the steps that work on a file
abbrev pub works : List Step → ℕ
works [] = 0
works (Work f epoch list shown ∷ xs) = suc (works xs)
works (x ∷ xs) = works xs

-- the builds
abbrev pub builds : List Step → ℕ
builds [] = 0
builds (Build ∷ xs) = suc (builds xs)
builds (x ∷ xs) = builds xs

-- for each build the files of the project at that build, together; the steps stand after this history
abbrev pub files_built : History → List Step → ℕ
files_built h [] = 0
files_built h (Take (Msg m) ∷ xs) = files_built (heard h m) xs
files_built h (Build ∷ xs) = length h.session.documents.project + files_built h xs
files_built h (x ∷ xs) = files_built h xs

-- whether a message is an edit that doesn't keep the errors of the other files
abbrev pub is_change : Language → History → Told → Bool
is_change language h (Edited e opened) = if language.keeps h.session.documents.project e then false else true
is_change language h t = false

-- how many of the messages are such edits; they stand after this history
abbrev pub changes_in : Language → History → List Message → ℕ
changes_in language h [] = 0
changes_in language h (m ∷ ms) =
    if is_change language h (told h.session m) then suc (changes_in language (heard h m) ms)
    else changes_in language (heard h m) ms
