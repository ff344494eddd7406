use Rattle.srb_judgement.specs.Kept.{seen_context}
use Rattle.srb_judgement.specs.Views.{seen_state}
use Rattle.srb_infer.proofs.Methods.{parameter_is, names_seen}
use Rattle.srb_infer.proofs.bodies.parameter.Goals as goal

pub returns : goal.returns
returns g c = let the = g.L.Language.the c.args.language.now in record {
  judged = parameter_is the c.args.method.now c.args.params.now c.args.parameter.now c.in_ok-ty.ty c.in_ok-copied.field-0 c.in_ok-copied-2.field-0
      (seen_context c.args.context.now) (seen_context c.see.new.self) (seen_state c.args.state.now) (seen_state c.set_type.new.self)
      (seen_state c.with_default.new.state) c.in_ok-ty.ensures c.in_ok-copied.ensures c.in_ok-set_type.ensures c.in_ok-copied-2.ensures
      c.in_ok-see.ensures c.in_ok-with_default.ensures;
  seen = names_seen the c.args.parameter.now c.in_ok-copied-2.field-0 (seen_context c.args.context.now) (seen_context c.see.new.self)
      (seen_context c.see_default.new.context) c.in_ok-copied-2.ensures c.in_ok-see.ensures c.in_ok-see_default.ensures;
}
