use Rattle.std.proofs.Common.{◌≡◌, ◌++◌, OnOk, map, subst}
use Rattle.srb_sig.specs.Views.{View}
use Rattle.srb_sig.proofs.Views.{view-stands}
use Rattle.srb_references.specs.MalformedTypes.{malformed_errors}
use Rattle.srb_references.specs.Visits.{seen_visit}
use Rattle.srb_references.proofs.malformed.malformed_types.Goals as goal

pub returns : goal.returns
returns c = λ fs s.
    subst (λ (v : View). OnOk c.check_each.result (c.check_each.new.found ≡ c.args.found.now ++ malformed_errors v (map seen_visit c.args.parts.now)))
    (view-stands c.args.world.now fs s) c.check_each.ensures
