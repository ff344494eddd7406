use Rattle.std.proofs.Common.{◌≡◌, IfOk, subst, sym}
use Rattle.srb_judgement.specs.Assignments.{assigned}
use Rattle.srb_judgement.specs.Judgements.{part_of}
use Rattle.srb_judgement.specs.Kept.{seen_context}
use Rattle.srb_judgement.specs.States.{judged}
use Rattle.srb_judgement.specs.Views.{seen_state}
use Rattle.srb_walk.specs.Endings.{known_end, seen_end}
use Rattle.srb_walk_assignments.proofs.assignments.assign_to.Goals as goal

pub returns-in-Name : goal.returns-in-Name
returns-in-Name g c = let the = g.L.Language.the c.args.language.now in
    subst (λ e. IfOk c.assign_variable.result (λ ty. judged ty (seen_state c.assign_variable.new.state)
    ≡ assigned the (known_end the (seen_end e)) (part_of the c.args.value.now).it (seen_context c.args.context.now) (seen_state c.args.state.now)))
    (sym c.in-Name.is) c.assign_variable.ensures

pub returns-in-InstanceVariable : goal.returns-in-InstanceVariable
returns-in-InstanceVariable g c = let the = g.L.Language.the c.args.language.now in
    subst (λ e. IfOk c.assign_instance_variable.result (λ ty. judged ty (seen_state c.assign_instance_variable.new.state)
    ≡ assigned the (known_end the (seen_end e)) (part_of the c.args.value.now).it (seen_context c.args.context.now) (seen_state c.args.state.now)))
    (sym c.in-InstanceVariable.is) c.assign_instance_variable.ensures

pub returns-in-Call : goal.returns-in-Call
returns-in-Call g c = let the = g.L.Language.the c.args.language.now in
    subst (λ e. IfOk c.assign_attribute.result (λ ty. judged ty (seen_state c.assign_attribute.new.state)
    ≡ assigned the (known_end the (seen_end e)) (part_of the c.args.value.now).it (seen_context c.args.context.now) (seen_state c.args.state.now)))
    (sym c.in-Call.is) c.assign_attribute.ensures

pub returns-in-Index : goal.returns-in-Index
returns-in-Index g c = let the = g.L.Language.the c.args.language.now in
    subst (λ e. IfOk c.assign_index.result (λ ty. judged ty (seen_state c.assign_index.new.state)
    ≡ assigned the (known_end the (seen_end e)) (part_of the c.args.value.now).it (seen_context c.args.context.now) (seen_state c.args.state.now)))
    (sym c.in-Index.is) c.assign_index.ensures

pub returns-in-Constant : goal.returns-in-Constant
returns-in-Constant g c = let the = g.L.Language.the c.args.language.now in
    subst (λ e. IfOk c.judge.result (λ ty. judged ty (seen_state c.judge.new.state)
    ≡ assigned the (known_end the (seen_end e)) (part_of the c.args.value.now).it (seen_context c.args.context.now) (seen_state c.args.state.now)))
    (sym c.in-Constant.is) c.judge.ensures

pub returns-in-Yield : goal.returns-in-Yield
returns-in-Yield g c = let the = g.L.Language.the c.args.language.now in
    subst (λ e. IfOk c.judge-in-Yield.result (λ ty. judged ty (seen_state c.judge-in-Yield.new.state)
    ≡ assigned the (known_end the (seen_end e)) (part_of the c.args.value.now).it (seen_context c.args.context.now) (seen_state c.args.state.now)))
    (sym c.in-Yield.is) c.judge-in-Yield.ensures

pub returns-in-Super : goal.returns-in-Super
returns-in-Super g c = let the = g.L.Language.the c.args.language.now in
    subst (λ e. IfOk c.judge-in-Super.result (λ ty. judged ty (seen_state c.judge-in-Super.new.state)
    ≡ assigned the (known_end the (seen_end e)) (part_of the c.args.value.now).it (seen_context c.args.context.now) (seen_state c.args.state.now)))
    (sym c.in-Super.is) c.judge-in-Super.ensures

pub returns-in-Other : goal.returns-in-Other
returns-in-Other g c = let the = g.L.Language.the c.args.language.now in
    subst (λ e. IfOk c.judge-in-Other.result (λ ty. judged ty (seen_state c.judge-in-Other.new.state)
    ≡ assigned the (known_end the (seen_end e)) (part_of the c.args.value.now).it (seen_context c.args.context.now) (seen_state c.args.state.now)))
    (sym c.in-Other.is) c.judge-in-Other.ensures
