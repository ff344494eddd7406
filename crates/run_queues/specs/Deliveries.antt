-- What each atomic step at the inbox tells the thread that makes it: push, pop and empty pop, split and join.
use Rattle.std.specs.Prelude.{◌≡◌, ℕ, true, false, List, [], ◌∷◌, ◌++◌, Option, Some, None}
use mathlib.Core.Option.{some}
use lib.ListN.{get_elem?}
use Rattle.run_watch.specs.declared.inp.Inp.{Inp}
use Rattle.run_queues.specs.declared.heard.Heard.{Heard}
use Rattle.run_queues.specs.declared.heard.Heard.TheVariants.{Took, Empty}
use Rattle.run_queues.specs.declared.heard.Mail.{Mail}
use Rattle.run_queues.specs.Mails.{mail, inputs, Delivers}

-- what is heard where this was found
abbrev pub heard_of : Option Inp → Heard
heard_of (Some inp) = Took inp
heard_of None = Empty

-- it was heard what was found
abbrev pub after_look : Mail → Option Inp → Mail
after_look v found = mail v.puts v.takes v.sent (v.heard ++ heard_of found ∷ [])

-- a push
abbrev pub Sends : Mail → Inp → Mail → Type 0
Sends v inp w = w ≡ mail v.puts v.takes (v.sent ++ inp ∷ []) v.heard

-- the inputs that were heard are the first that were sent
abbrev pub IsFront : List Heard → List Inp → Type 0
IsFront heard sent = (later : List Inp) × (sent ≡ inputs heard ++ later)

-- a pop: where the pass also puts, all that was sent is known
abbrev pub Gets : Mail → Inp → Mail → Type 0
Gets v inp w = (w ≡ after_look v (Some inp)) × (v.puts ≡ true → IsFront w.heard w.sent)

-- an empty pop: the rule held of what the queue held and of all passes, of which this was one
abbrev pub HeldBeside : Mail → List Inp → Type 0
HeldBeside v content = (views : List Mail) × (port : ℕ) × Delivers content views × (get_elem? views port ≡ some v)

-- the split that notes an empty pop, and leaves a pass that neither puts nor takes
abbrev pub after_empty : Mail → Mail
after_empty v = after_look v None

-- the split in two: one pass puts, and the other takes
abbrev pub putting : Mail → Mail
putting v = mail true false v.sent []

abbrev pub taking : Mail → Mail
taking v = mail false true [] v.heard

-- the join: the pass that took also knows what was sent
abbrev pub met : Mail → Mail → Mail
met v u = mail true true u.sent v.heard

-- what the joined pass learns: what was sent and not heard lies in the queue
abbrev pub Lies : Mail → List Inp → Type 0
Lies v content = v.sent ≡ inputs v.heard ++ content
