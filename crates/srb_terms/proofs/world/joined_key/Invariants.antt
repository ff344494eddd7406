use Rattle.std.proofs.Common.{◌≡◌, bytes_eq, drop}
use Rattle.std.specs.Map.{lookup_key}
use Rattle.srb_terms.specs.Worlds.{joined}
use Rattle.srb_terms.proofs.world.joined_key.Given as goal

abbrev pub invariant-kinds : goal.invariant-kinds
invariant-kinds l =
    lookup_key (bytes_eq (joined l.scope l.last)) (drop l.index l.kinds.entries) ≡ lookup_key (bytes_eq (joined l.scope l.last)) l.kinds.entries
