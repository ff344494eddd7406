use Rattle.std.proofs.Common.{◌<◌, ap, length, sym, subst}
use Rattle.srb_terms.specs.PathMaps.{IsOrdered, PathList}
use Rattle.srb_terms.proofs.PathOrder.{IsOrdered-removed}
use Rattle.srb_terms.proofs.path_map.PathMap.remove.Goals as goal

pub invariant_of-self : goal.invariant_of-self
invariant_of-self g c =
    let within = subst (λ es. c.args.index < length es) (sym (ap (λ (m : PathList _). m.entries) c.self.view_is)) c.requires in
    subst IsOrdered (sym c.remove.ensures.items) (IsOrdered-removed c.self.inside.entries.items c.args.index within c.self.invariant)
