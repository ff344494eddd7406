-- Runs of the machine.
use Rattle.std.specs.Prelude.{List, [], ◌∷◌, ◌++◌, IsTrue, IsSome, IsNone, ⊤}
use Rattle.lsp_msg.specs.declared.msg.Msg.{Msg as Message}
use Rattle.lsp_msg.specs.declared.out.Out.{Out}
use Rattle.run_watch.specs.declared.inp.Inp.TheVariants.{Msg}
use Rattle.run_watch.specs.declared.step.Step.{Step}
use Rattle.run_watch.specs.declared.step.Step.TheVariants.{Take, Build}
use Rattle.lsp_docs.specs.Projects.{Project}
use Rattle.run_core.specs.Language.{Language}
use Rattle.run_core.specs.Histories.{listed, History, heard}
use Rattle.run_core.specs.Machine.{State, opening, is_at_rest, Permits, next, written}

-- the steps are permitted one after the other from this state on
abbrev pub Leads : Language → State → List Step → Type 0
Leads language s [] = ⊤
Leads language s (x ∷ xs) = Permits language s x × Leads language (next language s x) xs

-- the state that they leave
abbrev pub state_after : Language → State → List Step → State
state_after language s [] = s
state_after language s (x ∷ xs) = state_after language (next language s x) xs

-- the messages that they write
abbrev pub written_by : Language → State → List Step → List Out
written_by language s [] = []
written_by language s (x ∷ xs) = listed (written s x) ++ written_by language (next language s x) xs

-- the messages that they take
abbrev pub message_in : Step → List Message
message_in (Take (Msg m)) = m ∷ []
message_in x = []

abbrev pub messages_in : List Step → List Message
messages_in [] = []
messages_in (x ∷ xs) = message_in x ++ messages_in xs

-- The steps are a run of the machine over this project: each is permitted in the state that those before it leave.
abbrev pub Run : Language → Project → List Step → Type 0
Run language base steps = Leads language (opening base) steps

-- the messages that a run writes, in order
abbrev pub outs : Language → Project → List Step → List Out
outs language base steps = written_by language (opening base) steps

-- the state that a run leaves
abbrev pub last_state : Language → Project → List Step → State
last_state language base steps = state_after language (opening base) steps

-- The end of input was taken, nothing is left to work on, and `shutdown` is answered.
pub record IsOver (s : State) : Type 0 where
  pub ended : IsSome s.ended
  pub rest : IsTrue (is_at_rest s)
  pub answered : IsNone s.owing

abbrev pub Over : Language → Project → List Step → Type 0
Over language base steps = IsOver (last_state language base steps)

-- the project at the last build; the steps stand after this history and a build of this project
abbrev pub built_last : History → Project → List Step → Project
built_last h p [] = p
built_last h p (Take (Msg m) ∷ xs) = built_last (heard h m) p xs
built_last h p (Build ∷ xs) = built_last h h.session.documents.project xs
built_last h p (x ∷ xs) = built_last h p xs
