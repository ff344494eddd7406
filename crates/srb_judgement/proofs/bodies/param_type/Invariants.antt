use Rattle.std.proofs.Common.{◌≡◌, drop, map}
use Rattle.srb_judgement.specs.Bodies.{param_type}
use Rattle.srb_judgement.specs.Views.{seen_typed}
use Rattle.srb_judgement.proofs.bodies.param_type.Given as goal

abbrev pub invariant-params : goal.invariant-params
invariant-params g l =
    param_type (g.L.Language.the l.language) (map seen_typed (drop l.param-index l.params)) l.name
    ≡ param_type (g.L.Language.the l.language) (map seen_typed l.params) l.name
