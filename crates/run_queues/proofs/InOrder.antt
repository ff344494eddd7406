-- Each step keeps the rule of the inbox.
use Rattle.std.proofs.Common.{◌≡◌, ◌≢◌, ⊎_elim, ℕ, zero, suc, Bool, true, false, true≢false, List, [], ◌∷◌, ◌++◌, length, set, refl, sym, ap, ◌∙◌, subst, append_assoc}
use Rattle.std.specs.Prelude.{Option, Some, None, IfSome, if◌then◌else◌}
use Rattle.std.proofs.lemmas.List.{append-nil, set_comm}
use mathlib.Core.Option.{some, some-injective, some-ne-none}
use lib.ListN.{get_elem?}
use Rattle.crossbeam_queue.specs.Fifo.{Pushes, Pops, Forks, Merges, Learns}
use Rattle.crossbeam_queue.proofs.Lists.{at_set, set_else}
use Rattle.run_watch.specs.declared.inp.Inp.{Inp}
use Rattle.run_queues.specs.declared.heard.Heard.{Heard}
use Rattle.run_queues.specs.declared.heard.Heard.TheVariants.{Took, Empty}
use Rattle.run_queues.specs.declared.heard.Mail.{Mail}
use Rattle.run_queues.specs.Mails.{mail, opening, spent, inputs, HasOnly, Delivers}
use Rattle.run_queues.specs.Deliveries.{heard_of, after_look, Sends, Gets, IsFront, HeldBeside, after_empty, putting, taking, met, Lies}
use Rattle.run_queues.specs.Hearings.{Hearing, sent_by, WasEmpty}
use Rattle.run_queues.proofs.OnlyOne.{only_changes, only_stays, only_beside, only_goes, only_moves}

abbrev has_put : Mail → Bool
has_put v = v.puts

abbrev has_take : Mail → Bool
has_take v = v.takes

abbrev sent_of : Mail → List Inp
sent_of v = v.sent

abbrev heard_in : Mail → List Heard
heard_in v = v.heard

inputs-took : (heard : List Heard) (inp : Inp) (later : List Inp) → inputs (heard ++ Took inp ∷ []) ++ later ≡ inputs heard ++ inp ∷ later
inputs-took [] inp later = refl
inputs-took (Took x ∷ xs) inp later = ap (λ (l : List Inp). x ∷ l) (inputs-took xs inp later)
inputs-took (Empty ∷ xs) inp later = inputs-took xs inp later

inputs-empty : (heard : List Heard) → inputs (heard ++ Empty ∷ []) ≡ inputs heard
inputs-empty [] = refl
inputs-empty (Took x ∷ xs) = ap (λ (l : List Inp). x ∷ l) (inputs-empty xs)
inputs-empty (Empty ∷ xs) = inputs-empty xs

only_first : {X : Type 0} (has : Mail → Bool) (shows : Mail → X) (v : Mail) → HasOnly has shows (v ∷ []) 0 (shows v)
only_first has shows v zero u e may = (refl, ap shows (sym (some-injective v u e)))
only_first has shows v (suc port) u e may = absurd (some-ne-none u (sym e))

pub begins : Delivers [] (opening ∷ [])
begins = record {
  putter = 0;
  taker = 0;
  sent = [];
  heard = [];
  in_order = refl;
  puts = only_first has_put sent_of opening;
  takes = only_first has_take heard_in opening;
}

pub sends : (n port : ℕ) (v : Mail) (inp : Inp) → v.puts ≡ true → Pushes Delivers n port v inp (Sends v inp)
sends n port v inp may content views room rule at = let w : Mail = mail v.puts v.takes (v.sent ++ inp ∷ []) v.heard in let mine = rule.puts port v at may in (
  w,
  record {
    putter = port;
    taker = rule.taker;
    sent = rule.sent ++ inp ∷ [];
    heard = rule.heard;
    in_order = ap (λ (l : List Inp). l ++ inp ∷ []) rule.in_order ∙ append_assoc (inputs rule.heard) content (inp ∷ []);
    puts = only_changes has_put sent_of views rule.putter port rule.sent (rule.sent ++ inp ∷ []) v w rule.puts at may (ap (λ (l : List Inp). l ++ inp ∷ []) mine.1);
    takes = only_stays has_take heard_in views rule.taker port rule.heard v w rule.takes at (λ e. (e, refl));
  },
  refl,
)

pub gets : (port : ℕ) (v : Mail) → v.takes ≡ true → Pops Delivers port v (Gets v)
gets port v may inp content views rule at = let w : Mail = after_look v (Some inp) in let mine = rule.takes port v at may in let heard : List Heard = rule.heard ++ Took inp ∷ [] in
    let sent : rule.sent ≡ inputs heard ++ content = rule.in_order ∙ sym (inputs-took rule.heard inp content) in
    let is : w.heard ≡ heard = ap (λ (l : List Heard). l ++ Took inp ∷ []) mine.1 in (
      w,
      record {
        putter = rule.putter;
        taker = port;
        sent = rule.sent;
        heard = heard;
        in_order = sent;
        puts = only_stays has_put sent_of views rule.putter port rule.sent v w rule.puts at (λ e. (e, refl));
        takes = only_changes has_take heard_in views rule.taker port rule.heard heard v w rule.takes at may is;
      },
      (refl, λ puts. (content, (rule.puts port v at puts).1 ∙ (sent ∙ ap (λ (l : List Heard). inputs l ++ content) (sym is)))),
    )

pub learns : (port : ℕ) (v : Mail) → Learns Delivers port v (HeldBeside v)
learns port v content views rule at = (views, port, rule, at)

pub notes : (port : ℕ) (v : Mail) → v.takes ≡ true → Forks Delivers port v (after_empty v) spent
notes port v may content views rule at = let w : Mail = after_empty v in let mine = rule.takes port v at may in let heard : List Heard = rule.heard ++ Empty ∷ [] in let vs : List Mail = set views port w in
    record {
      putter = rule.putter;
      taker = port;
      sent = rule.sent;
      heard = heard;
      in_order = rule.in_order ∙ ap (λ (l : List Inp). l ++ content) (sym (inputs-empty rule.heard));
      puts = only_beside has_put sent_of vs rule.putter rule.sent spent (only_stays has_put sent_of views rule.putter port rule.sent v w rule.puts at (λ e. (e, refl))) refl;
      takes = only_beside has_take heard_in vs port heard spent (only_changes has_take heard_in views rule.taker port rule.heard heard v w rule.takes at may (ap (λ (l : List Heard). l ++ Empty ∷ []) mine.1)) refl;
    }

pub splits : (port : ℕ) (v : Mail) → v.puts ≡ true → v.takes ≡ true → Forks Delivers port v (putting v) (taking v)
splits port v may_put may_take content views rule at = let l : Mail = putting v in let r : Mail = taking v in let vs : List Mail = set views port l in
    record {
      putter = rule.putter;
      taker = length vs;
      sent = rule.sent;
      heard = rule.heard;
      in_order = rule.in_order;
      puts = only_beside has_put sent_of vs rule.putter rule.sent r (only_stays has_put sent_of views rule.putter port rule.sent v l rule.puts at (λ _. (may_put, refl))) refl;
      takes = only_goes has_take heard_in views rule.taker port rule.heard v l r rule.takes at may_take refl refl;
    }

pub joins : (port : ℕ) (v : Mail) (other : ℕ) (u : Mail) → v.takes ≡ true → u.puts ≡ true → Merges Delivers port v other u (met v u) spent
joins port v other u may_take may_put content views rule at apart there = let both : Mail = met v u in let vs : List Mail = set views other spent in
    let was : get_elem? views other ≡ some u = ⊎_elim (λ (t : (other ≡ port) × (both ≡ u)). absurd (apart t.0)) (λ (t : (other ≢ port) × (get_elem? views other ≡ some u)). t.1) (at_set views port other both u there) in
    let still : get_elem? vs port ≡ some v = set_else views other port spent (λ e. apart (sym e)) ∙ at in
    let kept : HasOnly has_take heard_in vs rule.taker rule.heard = only_stays has_take heard_in views rule.taker other rule.heard u spent rule.takes was (λ e. absurd (true≢false (sym e))) in
    let after : Delivers content (set vs port both) = record {
      putter = port;
      taker = rule.taker;
      sent = rule.sent;
      heard = rule.heard;
      in_order = rule.in_order;
      puts = only_moves has_put sent_of views rule.putter port other rule.sent u spent both rule.puts was may_put refl refl;
      takes = only_stays has_take heard_in vs rule.taker port rule.heard v both kept still (λ _. (may_take, refl));
    } in
    subst (Delivers content) (sym (set_comm views port other both spent (λ e. apart (sym e)))) after

pub lies : (port : ℕ) (v : Mail) → v.puts ≡ true → v.takes ≡ true → Learns Delivers port v (Lies v)
lies port v may_put may_take content views rule at = (rule.puts port v at may_put).1 ∙ (rule.in_order ∙ ap (λ (l : List Heard). inputs l ++ content) (sym (rule.takes port v at may_take).1))

-- what an empty pop tells

-- where the pass also puts, all that was sent was heard
pub empty_all : (v : Mail) → v.puts ≡ true → v.takes ≡ true → HeldBeside v [] → v.sent ≡ inputs v.heard
empty_all v may_put may_take h = lies h.1 v may_put may_take [] h.0 h.2 h.3 ∙ append-nil (inputs v.heard)

pub empty_front : (v : Mail) → v.puts ≡ true → v.takes ≡ true → HeldBeside v [] → IsFront (v.heard ++ Empty ∷ []) v.sent
empty_front v may_put may_take h = ([], lies h.1 v may_put may_take [] h.0 h.2 h.3 ∙ ap (λ (l : List Inp). l ++ []) (sym (inputs-empty v.heard)))

all_told : (b : Bool) (v : Mail) → v.puts ≡ b → v.takes ≡ true → HeldBeside v [] → IfSome (if b then Some v.sent else None) (λ sent. sent ≡ inputs v.heard)
all_told true v may_put may_take h = empty_all v may_put may_take h
all_told false v may_put may_take h = tt

pub all_heard : (v : Mail) (pass : Hearing) → v.takes ≡ true → v.heard ≡ pass.heard → sent_by v ≡ pass.sent → HeldBeside v [] → IfSome pass.sent (λ sent. sent ≡ inputs pass.heard)
all_heard v pass may_take heard sent h = subst (λ (y : Option (List Inp) × List Heard). IfSome y.0 (λ sent. sent ≡ inputs y.1)) (λ i. (sent i, heard i)) (all_told v.puts v refl may_take h)

pub was_empty : (v : Mail) (pass : Hearing) → v.takes ≡ true → v.heard ≡ pass.heard → sent_by v ≡ pass.sent → HeldBeside v [] → WasEmpty pass
was_empty v pass may_take heard sent h = record { views = h.0; port = h.1; mail = v; rule = h.2; shows = h.3; takes = may_take; heard = heard; sent = sent }

front_told : (b : Bool) (v : Mail) → v.puts ≡ b → (v.puts ≡ true → IsFront v.heard v.sent) → IfSome (if b then Some v.sent else None) (IsFront v.heard)
front_told true v may_put front = front may_put
front_told false v may_put front = tt

-- the inputs that a pass heard are the first that it knows to be sent
pub front_of : (v : Mail) (pass : Hearing) → v.heard ≡ pass.heard → sent_by v ≡ pass.sent → (v.puts ≡ true → IsFront v.heard v.sent) → IfSome pass.sent (IsFront pass.heard)
front_of v pass heard sent front = subst (λ (y : Option (List Inp) × List Heard). IfSome y.0 (IsFront y.1)) (λ i. (sent i, heard i)) (front_told v.puts v refl front)
