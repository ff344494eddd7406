-- The order of the steps of a run, said of its record alone.
use Rattle.std.specs.Prelude.{◌≡◌, ◌≢◌, List, [], ◌∷◌, ◌⊎◌, IsFalse, ⊤}
use Rattle.run_watch.specs.declared.inp.Inp.TheVariants.{Msg, End}
use Rattle.run_watch.specs.declared.step.Step.{Step}
use Rattle.run_watch.specs.declared.step.Step.TheVariants.{Take, Look, Build, Work, Idle}
use Rattle.lsp_docs.specs.Paths.{Path}
use Rattle.run_core.specs.Language.{Language}
use Rattle.run_core.specs.Sessions.{Told, Began, Edited, Ended, told}
use Rattle.run_core.specs.Histories.{History, heard}

-- the message is an edit of the path
abbrev pub IsEditOf : Path → Told → Type 0
IsEditOf f (Edited e opened) = f ≡ e.path
IsEditOf f t = ⊥

-- none of the steps works on the path
abbrev pub NoWorkOn : Path → List Step → Type 0
NoWorkOn f [] = ⊤
NoWorkOn f (Work g epoch list shown ∷ xs) = (f ≢ g) × NoWorkOn f xs
NoWorkOn f (x ∷ xs) = NoWorkOn f xs

-- After this history, the steps take an edit of the path and don't work on it since.
abbrev pub IsOwedBy : History → Path → List Step → Type 0
IsOwedBy h f [] = ⊥
IsOwedBy h f (Take (Msg m) ∷ xs) = (IsEditOf f (told h.session m) × NoWorkOn f xs) ⊎ IsOwedBy (heard h m) f xs
IsOwedBy h f (x ∷ xs) = IsOwedBy h f xs

-- none of the steps takes anything or works
abbrev pub IsPatient : List Step → Type 0
IsPatient [] = ⊤
IsPatient (Take inp ∷ xs) = ⊥
IsPatient (Work f epoch list shown ∷ xs) = ⊥
IsPatient (x ∷ xs) = IsPatient xs

-- The steps look at the inbox, and take nothing and work on nothing since.
abbrev pub HasLooked : List Step → Type 0
HasLooked [] = ⊥
HasLooked (Look ∷ xs) = IsPatient xs ⊎ HasLooked xs
HasLooked (x ∷ xs) = HasLooked xs

-- The steps take the end of input.
abbrev pub HasEnded : List Step → Type 0
HasEnded [] = ⊥
HasEnded (Take (End cause) ∷ xs) = ⊤
HasEnded (x ∷ xs) = HasEnded xs

-- none of the steps is idle
abbrev pub IsBusy : List Step → Type 0
IsBusy [] = ⊤
IsBusy (Idle ∷ xs) = ⊥
IsBusy (x ∷ xs) = IsBusy xs

-- the message is the accepted `shutdown`
abbrev pub IsShutdown : Told → Type 0
IsShutdown (Ended id) = ⊤
IsShutdown t = ⊥

-- After this history, the steps take the accepted `shutdown` and don't reply to it since.
abbrev pub IsReplyOwedBy : History → List Step → Type 0
IsReplyOwedBy h [] = ⊥
IsReplyOwedBy h (Take (Msg m) ∷ xs) = (IsShutdown (told h.session m) × IsBusy xs) ⊎ IsReplyOwedBy (heard h m) xs
IsReplyOwedBy h (x ∷ xs) = IsReplyOwedBy h xs

-- the inbox counts as looked at
abbrev pub CountsAsLooked : History → List Step → Type 0
CountsAsLooked h xs = HasLooked xs ⊎ (HasEnded xs ⊎ IsReplyOwedBy h xs)

-- none of the steps is a build
abbrev pub HasNoBuild : List Step → Type 0
HasNoBuild [] = ⊤
HasNoBuild (Build ∷ xs) = ⊥
HasNoBuild (x ∷ xs) = HasNoBuild xs

-- the message is the accepted `initialize`, or an edit that doesn't keep the errors of the other files
abbrev pub IsUpset : Language → History → Told → Type 0
IsUpset language h (Began id agreed) = ⊤
IsUpset language h (Edited e opened) = IsFalse (language.keeps h.session.documents.project e)
IsUpset language h t = ⊥

-- After this history, the steps take such a message and don't build since.
abbrev pub IsStaleBy : Language → History → List Step → Type 0
IsStaleBy language h [] = ⊥
IsStaleBy language h (Take (Msg m) ∷ xs) =
    (IsUpset language h (told h.session m) × HasNoBuild xs) ⊎ IsStaleBy language (heard h m) xs
IsStaleBy language h (x ∷ xs) = IsStaleBy language h xs

-- the step works, builds, or finds nothing left to do
abbrev pub IsOwnStep : Step → Type 0
IsOwnStep (Work f epoch list shown) = ⊤
IsOwnStep Build = ⊤
IsOwnStep Idle = ⊤
IsOwnStep x = ⊥
