use Rattle.std.proofs.Common.{Ok, Err, [], refl, sym, append-nil}
use Rattle.run_serve.proofs.Owed.{on_ok_map, owed_rest}
use Rattle.run_serve.proofs.Rounds.{gains_some, hears_nothing, turns_then, works_quietly}
use Rattle.run_serve.proofs.turning.build_and_check.Goals as goal

pub returns-clause-turns : goal.returns-clause-turns
returns-clause-turns g c =
    hears_nothing {T = Unit {0}} (Err c.in-Err.end) _ _ c.args.pass.now.heard _ _ _ _ (works_quietly {T = Unit {0}} (Err c.in-Err.end) _ _ _ _ _ _ c.in-Err.ensures.want c.in-Err.ensures.goes)

pub returns-then-workers-eq0-clause-turns : goal.returns-then-workers-eq0-clause-turns
returns-then-workers-eq0-clause-turns g c =
    hears_nothing {T = Unit {0}} (Ok tt) _ _ c.args.pass.now.heard _ _ _ _ (works_quietly {T = Unit {0}} (Ok tt) _ _ _ _ _ _ tt c.in-Ok.ensures.goes)

pub returns-in-Ok-clause-turns : goal.returns-in-Ok-clause-turns
returns-in-Ok-clause-turns g c =
    let held = g.K.Sink.held c.args.sink.now in
    turns_then c.run_path.result _ _ _ [] c.args.pass.now.heard c.args.pass.now.heard c.run_path.new.pass.heard _ _ _ _ _ _ (sym (append-nil c.args.pass.now.heard)) (c.in-Ok.ensures.goes held) tt refl c.run_path.ensures.led.turns

pub returns-in-Ok-clause-some : goal.returns-in-Ok-clause-some
returns-in-Ok-clause-some g c =
    let held = g.K.Sink.held c.args.sink.now in
    gains_some c.run_path.result _ _ _ _ (record { held = held; told = g.T.Trace.told c.args.trace.now }) (record { held = held; told = g.T.Trace.told c.build.new.trace }) _ _ _ c.in-Ok.ensures.one c.run_path.ensures.led.turns

pub returns-in-Ok-clause-owed : goal.returns-in-Ok-clause-owed
returns-in-Ok-clause-owed g c = λ some. on_ok_map c.run_path.result (owed_rest c.run_path.new.core.state) c.run_path.ensures.led.rest
