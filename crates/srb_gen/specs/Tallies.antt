-- What the steps of a session come to: how many edits it took, and how many errors its last lists have.
use Rattle.std.specs.Prelude.{ℕ, ◌+◌, Bool, true, false, ◌||◌, List, [], ◌∷◌, length, fold, bytes_eq, if◌then◌else◌}
use Rattle.run_watch.specs.declared.step.Step.{Step}
use Rattle.run_watch.specs.declared.step.Step.TheVariants.{Work}
use Rattle.lsp_docs.specs.Paths.{Path}

-- the number of edits taken: each step that works on a file tells it, and no other step does
abbrev pub edits_after : ℕ → Step → ℕ
edits_after before (Work f epoch list shown) = epoch
edits_after before x = before

-- as the last of these steps tells it; none where none works on a file
abbrev pub edits_in : List Step → ℕ
edits_in steps = fold edits_after 0 steps

-- the step writes a list of the file
abbrev pub is_list_of : Path → Step → Bool
is_list_of f (Work g epoch list true) = bytes_eq g f
is_list_of f x = false

-- one of the steps does
abbrev pub is_listed : Path → List Step → Bool
is_listed f [] = false
is_listed f (x ∷ xs) = is_list_of f x || is_listed f xs

-- the errors of the list that the step writes, none where a later list of the file replaces it
abbrev pub lasting_errors : (replaced : Path → Bool) → Step → ℕ
lasting_errors replaced (Work f epoch list true) = if replaced f then 0 else length list
lasting_errors replaced x = 0

-- the errors of the lists written last, of all files together
abbrev pub errors_in : List Step → ℕ
errors_in [] = 0
errors_in (x ∷ xs) = lasting_errors (λ f. is_listed f xs) x + errors_in xs
