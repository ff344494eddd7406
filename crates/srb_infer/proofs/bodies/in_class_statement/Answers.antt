use Rattle.std.proofs.Common.{ap, sym, ◌∙◌, subst, IfOk, ◌≡◌}
use Rattle.std.proofs.lemmas.Result.{IfOk-weaker}
use Rattle.srb_judgement.specs.Judgements.{part_of}
use Rattle.srb_judgement.specs.Kept.{seen_context}
use Rattle.srb_judgement.specs.Sequences.{judge_in_class}
use Rattle.srb_judgement.specs.States.{judged}
use Rattle.srb_judgement.specs.Views.{seen_state}
use Rattle.srb_walk.proofs.Writing.{told_by_writing}
use Rattle.srb_walk.specs.Written.{seen_standing}
use Rattle.srb_infer.proofs.bodies.in_class_statement.Goals as goal

pub returns-in-Plain : goal.returns-in-Plain
returns-in-Plain g c = let the = g.L.Language.the c.args.language.now in
    subst (λ st. IfOk c.judge.result (λ ty. judged ty (seen_state c.judge.new.state) ≡ judge_in_class the st (part_of the c.args.statement.now) (seen_context c.args.context.now) (seen_state c.args.state.now)))
    (sym ((told_by_writing the c.args.statement.now).standing ∙ sym c.standing_of.ensures ∙ ap seen_standing c.in-Plain.is))
    c.judge.ensures

pub returns-in-Sig : goal.returns-in-Sig
returns-in-Sig g c = let the = g.L.Language.the c.args.language.now in
    subst (λ st. IfOk c.nil_type.result (λ ty. judged ty (seen_state c.args.state.now) ≡ judge_in_class the st (part_of the c.args.statement.now) (seen_context c.args.context.now) (seen_state c.args.state.now)))
    (sym ((told_by_writing the c.args.statement.now).standing ∙ sym c.standing_of.ensures ∙ ap seen_standing c.in-Sig.is))
    (IfOk-weaker c.nil_type.result _ _ (λ ty h. ap (λ t. judged t (seen_state c.args.state.now)) h) c.nil_type.ensures)

pub returns-in-Declaring : goal.returns-in-Declaring
returns-in-Declaring g c = let the = g.L.Language.the c.args.language.now in
    subst (λ st. IfOk c.nil_type-in-Declaring.result (λ ty. judged ty (seen_state c.args.state.now) ≡ judge_in_class the st (part_of the c.args.statement.now) (seen_context c.args.context.now) (seen_state c.args.state.now)))
    (sym ((told_by_writing the c.args.statement.now).standing ∙ sym c.standing_of.ensures ∙ ap seen_standing c.in-Declaring.is))
    (IfOk-weaker c.nil_type-in-Declaring.result _ _ (λ ty h. ap (λ t. judged t (seen_state c.args.state.now)) h) c.nil_type-in-Declaring.ensures)
