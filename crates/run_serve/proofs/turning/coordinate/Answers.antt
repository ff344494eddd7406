use Rattle.std.proofs.Common.{Ok, Err, refl, sym, ◌∙◌, append-nil, []}
use Rattle.run_serve.proofs.Deeds.{did_nothing}
use Rattle.run_serve.proofs.Rounds.{turns_then}
use Rattle.run_serve.proofs.turning.coordinate.Goals as goal

pub turns-init : goal.turns-init
turns-init g c = record {
  heard = [];
  same = sym (append-nil c.args.pass.now.heard);
  did = did_nothing _ _;
  whole = tt;
  unfailed = refl;
  inbox = (refl, refl);
  none = c.requires.none;
  owed = λ some whole. (refl, whole);
  seat = (refl, refl, refl);
}

pub returns-in-Err-clause-turns : goal.returns-in-Err-clause-turns
returns-in-Err-clause-turns g c =
    let i = c.turns.invariant in
    turns_then {T = Unit {0}} (Err c.in-Err.end) _ _ _ i.heard _ _ _ _ _ _ _ _ _ i.same i.did i.whole i.unfailed c.in-Err.ensures.turns

pub returns-then-is_over-clause-turns : goal.returns-then-is_over-clause-turns
returns-then-is_over-clause-turns g c =
    let i = c.turns.invariant in
    turns_then {T = Unit {0}} (Ok tt) _ _ _ i.heard _ _ _ _ _ _ _ _ _ i.same i.did i.whole i.unfailed c.in-Ok.ensures.turns

pub turns-preserved : goal.turns-preserved
turns-preserved g c =
    let i = c.turns.invariant in
    let t = turns_then {T = Unit {0}} (Ok tt) c.args.core.now.state c.turns.core.state c.turn.new.core.state i.heard c.args.pass.now.heard c.turns.pass.heard c.turn.new.pass.heard _ _ _ _ _ _
    i.same i.did i.whole i.unfailed c.in-Ok.ensures.turns in
    record {
      heard = t.0;
      same = t.1;
      did = t.2.0;
      whole = t.2.1;
      unfailed = t.2.2;
      inbox = (c.in-Ok.ensures.inbox.0 ∙ i.inbox.0, c.in-Ok.ensures.inbox.1 ∙ i.inbox.1);
      none = c.in-Ok.ensures.none;
      owed = λ some whole.
          let before = i.owed some whole in
          (c.in-Ok.ensures.checks some before.1 ∙ before.0, c.in-Ok.ensures.owed some before.1);
      seat = (c.in-Ok.ensures.seat.0 ∙ i.seat.0, c.in-Ok.ensures.seat.1 ∙ i.seat.1, c.in-Ok.ensures.seat.2 ∙ i.seat.2);
    }

pub returns-in-Err-clause-checks : goal.returns-in-Err-clause-checks
returns-in-Err-clause-checks g c = λ some whole. let before = c.turns.invariant.owed some whole in c.in-Err.ensures.checks some before.1 ∙ before.0

pub returns-then-is_over-clause-checks : goal.returns-then-is_over-clause-checks
returns-then-is_over-clause-checks g c = λ some whole. let before = c.turns.invariant.owed some whole in c.in-Ok.ensures.checks some before.1 ∙ before.0
