use Rattle.std.proofs.Common.{Ok, Err, refl, sym, ◌∙◌, append-nil, [], arith}
use Rattle.run_serve.proofs.Deeds.{did_nothing}
use Rattle.run_serve.proofs.Owed.{taken_then}
use Rattle.run_serve.proofs.Rounds.{stopped_at_once, turns_then}
use Rattle.run_serve.proofs.leading.lead_on.Goals as goal

pub rounds-init : goal.rounds-init
rounds-init g c = record {
  heard = [];
  same = sym (append-nil c.args.pass.now.heard);
  did = did_nothing _ _;
  whole = tt;
  unfailed = refl;
  inbox = (refl, refl);
  none = c.requires.none;
  seat = (refl, refl, refl);
  looked = (refl, refl, refl, refl);
  taken = (refl, refl, refl, ([], sym (append-nil c.args.items.now.got)), refl, refl);
  few = omega arith;
  item = tt;
  job = refl;
  checks = refl;
}

pub returns-then-stopped-clause-led : goal.returns-then-stopped-clause-led
returns-then-stopped-clause-led g c =
    let i = c.rounds.invariant in
    let l = c.look-stopped.ensures.same in
    record {
      turns = stopped_at_once _ _ i.heard _ _ _ _ _ _ i.same i.did i.whole i.unfailed;
      rest = tt;
      checks = i.checks;
      inbox = i.inbox;
      none = tt;
      seat = (l.0 ∙ i.seat.0, l.1 ∙ i.seat.1, l.3 ∙ i.seat.2);
    }

pub returns-in-Err-clause-led : goal.returns-in-Err-clause-led
returns-in-Err-clause-led g c =
    let i = c.rounds.invariant in
    let l = c.look-stopped.ensures.same in
    record {
      turns = turns_then {T = Unit {0}} (Err c.in-Err.end) _ _ _ i.heard _ _ _ _ _ _ _ _ _ i.same i.did i.whole i.unfailed c.in-Err.ensures.turns;
      rest = tt;
      checks = c.in-Err.ensures.checks ∙ i.checks;
      inbox = (c.in-Err.ensures.inbox.0 ∙ i.inbox.0, c.in-Err.ensures.inbox.1 ∙ i.inbox.1);
      none = tt;
      seat = (l.0 ∙ i.seat.0, l.1 ∙ i.seat.1, l.3 ∙ i.seat.2);
    }

pub rounds-preserved : goal.rounds-preserved
rounds-preserved g c =
    let i = c.rounds.invariant in
    let l = c.look-stopped.ensures.same in
    let p = c.look-path_stopped.ensures.same in
    let t = turns_then {T = Unit {0}} (Ok tt) c.args.core.now.state c.rounds.core.state c.lead_round.new.core.state i.heard c.args.pass.now.heard c.rounds.pass.heard c.lead_round.new.pass.heard _ _ _ _ _ _
    i.same i.did i.whole i.unfailed c.in-Ok.ensures.turns in
    record {
      heard = t.0;
      same = t.1;
      did = t.2.0;
      whole = t.2.1;
      unfailed = t.2.2;
      inbox = (c.in-Ok.ensures.inbox.0 ∙ i.inbox.0, c.in-Ok.ensures.inbox.1 ∙ i.inbox.1);
      none = c.in-Ok.ensures.none;
      seat = (l.0 ∙ i.seat.0, l.1 ∙ i.seat.1, l.3 ∙ i.seat.2);
      looked = (p.0 ∙ i.looked.0, p.1 ∙ i.looked.1, p.3 ∙ i.looked.2, p.2 ∙ i.looked.3);
      taken = taken_then _ _ _ 0 c.rounds.keeping.taken c.lead_round.new.keeping.taken i.taken c.in-Ok.ensures.taken;
      few = c.in-Ok.ensures.few;
      item = c.in-Ok.ensures.item;
      job = c.in-Ok.ensures.job ∙ i.job;
      checks = c.in-Ok.ensures.checks ∙ i.checks;
    }
