use Rattle.std.proofs.Common.{arith}
use Rattle.srb_judgement.specs.Cases.{with_whens}
use Rattle.srb_judgement.specs.Kept.{seen_context}
use Rattle.srb_judgement.specs.Views.{seen_state}
use Rattle.srb_walk.specs.Beside.{seen_beside}
use Rattle.srb_walk.specs.Known.{known_whens}
use Rattle.srb_walk_control.specs.Passed.{seen_branching, seen_subject, subject_test}
use Rattle.srb_walk_control.proofs.Casing.{whens_step}
use Rattle.srb_walk_control.proofs.cases.whens.Goals as goal

pub row-preserved : goal.row-preserved
row-preserved g c = let the = g.L.Language.the c.args.language.now in let test = subject_test the (seen_subject c.args.subject.now) in
    let around = seen_context c.args.context.now in
    let entry = seen_beside c.args.beside.now around in
    whens_step the test c.args.row.now c.row.each-index c.each-item.result (seen_beside c.row.beside around) (seen_beside c.when.new.beside around)
    (seen_branching c.row.so_far (seen_state c.row.state)) (seen_branching c.when.new.so_far (seen_state c.when.new.state))
    (with_whens the test (known_whens the c.args.row.now) entry (seen_branching c.args.so_far.now (seen_state c.args.state.now))) entry
    (omega arith) c.each-item.is c.in_ok-when.ensures c.row.invariant
