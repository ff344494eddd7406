use Rattle.std.proofs.Common.{refl, false}
use Rattle.srb_judgement.specs.Bodies.{bare_context}
use Rattle.srb_judgement.specs.declared.contexts.Context as kept
use Rattle.srb_judgement.proofs.KeptContexts.{new-same}
use Rattle.srb_judgement.proofs.bodies.bare.Goals as goal

pub returns : goal.returns
returns c =
    let new : kept.Context = record {
      self_type = c.args.self_type;
      scope = c.args.scope;
      owner = c.args.owner;
      meta = c.args.meta;
      result = c.args.checked;
      inside = false;
      looping = false;
      pins = c.new.result;
      visible = c.new-2.result;
    } in
    new-same new (bare_context c.args.self_type c.args.scope c.args.owner c.args.meta c.args.checked) refl refl refl refl refl refl refl
    c.new.ensures c.new-2.ensures (λ name. refl) (λ name. refl)
