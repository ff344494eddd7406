-- What contracts see of the inbox and of its passes.
use Rattle.std.specs.Prelude.{◌≡◌, ℕ, true, List, [], ◌∷◌, ◌++◌, Option, Some, None, IfNone, IfSome, if◌then◌else◌}
use mathlib.Core.Option.{some}
use lib.ListN.{get_elem?}
use Rattle.std.specs.declared.alloc.Global.{Global}
use Rattle.crossbeam_queue.specs.SegTies.{SegId}
use Rattle.run_watch.specs.declared.inp.Inp.{Inp}
use Rattle.run_watch.specs.declared.step.Step.{Step}
use Rattle.run_watch.specs.declared.step.Step.TheVariants.{Take, Look}
use Rattle.run_queues.specs.declared.heard.Heard.{Heard}
use Rattle.run_queues.specs.declared.heard.Mail.{Mail}
use Rattle.run_queues.specs.Mails.{inputs, Delivers}
use Rattle.run_queues.specs.Deliveries.{heard_of}

-- the inbox's name
pub record Place : Type 0 where
  pub name : SegId Global

-- the name of its inbox, and the inputs that were put, in order
pub record Sending : Type 0 where
  pub queue : SegId Global
  pub sent : List Inp

-- the name of its inbox, what was heard, in order, the input that a refused trace left with it, and the inputs that were put, in order, once
-- the put pass was joined to it
pub record Hearing : Type 0 where
  pub queue : SegId Global
  pub heard : List Heard
  pub kept : Option Inp
  pub sent : Option (List Inp)

-- what was sent, where the pass knows it
abbrev pub sent_by : Mail → Option (List Inp)
sent_by v = if v.puts then Some v.sent else None

-- the step of a session that took this, or that found nothing
abbrev pub step_of : Option Inp → Step
step_of (Some inp) = Take inp
step_of None = Look

-- What the pass that takes shows can be so of an empty queue: the rule holds of it and of some passes, of which one shows this.
pub record WasEmpty (pass : Hearing) : Type 0 where
  pub views : List Mail
  pub port : ℕ
  pub mail : Mail
  pub rule : Delivers [] views
  pub shows : get_elem? views port ≡ some mail
  pub takes : mail.takes ≡ true
  pub heard : mail.heard ≡ pass.heard
  pub sent : sent_by mail ≡ pass.sent

-- one look was heard, which found this, and this is kept for the next call; where nothing is found, that can be so
abbrev pub Hears : Hearing → Hearing → Option Inp → Option Inp → Type 0
Hears before after found kept = (after ≡ record before { heard = before.heard ++ heard_of found ∷ []; kept = kept }) × IfNone found (WasEmpty before)
