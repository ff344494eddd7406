use Rattle.srb_judgement.specs.Views.{seen_signature}
use Rattle.srb_infer.proofs.Methods.{errors_are}
use Rattle.srb_infer.proofs.bodies.method.Goals as goal

pub returns : goal.returns
returns g c = let the = g.L.Language.the c.args.language.now in
    errors_are the c.args.own c.args.name.now c.args.name_span c.args.row.now c.args.guarded.now c.args.scope.now c.args.sig
    c.is_some.result c.in_ok-errors.errors c.in_ok-more.more c.append.new.self (seen_signature c.in_ok-signature.signature)
    c.is_some.ensures c.in_ok-errors.ensures c.in_ok-signature.ensures c.in_ok-more.ensures c.in_ok-append.ensures.ok
