use Rattle.std.proofs.lemmas.Result.{IfOk-weaker}
use Rattle.srb_judgement.specs.States.{judged}
use Rattle.srb_judgement.specs.Views.{seen_says, seen_state, seen_tested}
use Rattle.srb_walk_assignments.proofs.Assigning.{read_is}
use Rattle.srb_walk_assignments.proofs.assignments.read_tested.Goals as goal

pub returns : goal.returns
returns g c =
    IfOk-weaker c.excluding.result _ _
    (λ t h. read_is (g.L.Language.the c.args.language.now) (seen_says c.args.says.now) (judged c.args.read (seen_state c.args.state.now))
    (seen_tested c.in_ok-tested.tested (seen_state c.saying.new.state)) (seen_tested t (seen_state c.saying.new.state))
    c.in_ok-tested.ensures (h (seen_state c.saying.new.state)))
    c.excluding.ensures
