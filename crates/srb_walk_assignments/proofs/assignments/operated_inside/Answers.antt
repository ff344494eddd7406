use Rattle.std.proofs.Common.{◌≡◌, IfOk, subst, sym}
use Rattle.srb_judgement.specs.Judgements.{part_of}
use Rattle.srb_judgement.specs.Kept.{seen_context}
use Rattle.srb_judgement.specs.States.{judged}
use Rattle.srb_judgement.specs.Views.{seen_says, seen_state}
use Rattle.srb_walk_assignments.proofs.Assigning.{by_method}
use Rattle.srb_walk_assignments.specs.Operated.{operated_inside}
use Rattle.srb_walk_assignments.proofs.assignments.operated_inside.Goals as goal

pub returns-in-Or : goal.returns-in-Or
returns-in-Or g c = let the = g.L.Language.the c.args.language.now in
    subst (λ operator. IfOk c.or_operated.result (λ ty. judged ty (seen_state c.or_operated.new.state)
    ≡ operated_inside the operator c.args.place (seen_says c.args.says.now) (judged c.args.read (seen_state c.args.state.now)) (part_of the c.args.value.now).it (seen_context c.args.context.now)))
    (sym c.in-Or.is) c.or_operated.ensures

pub returns-in-And : goal.returns-in-And
returns-in-And g c = let the = g.L.Language.the c.args.language.now in
    subst (λ operator. IfOk c.and_operated.result (λ ty. judged ty (seen_state c.and_operated.new.state)
    ≡ operated_inside the operator c.args.place (seen_says c.args.says.now) (judged c.args.read (seen_state c.args.state.now)) (part_of the c.args.value.now).it (seen_context c.args.context.now)))
    (sym c.in-And.is) c.and_operated.ensures

pub returns-in_default : goal.returns-in_default
returns-in_default g c = let the = g.L.Language.the c.args.language.now in
    subst (λ j. IfOk c.method_operated.result (λ ty. judged ty (seen_state c.method_operated.new.state) ≡ j))
    (by_method the c.args.operator c.args.place (seen_says c.args.says.now) (judged c.args.read (seen_state c.args.state.now)) (part_of the c.args.value.now).it (seen_context c.args.context.now)
    c.in_default.not-Or c.in_default.not-And)
    c.method_operated.ensures
