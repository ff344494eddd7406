-- In a table that stands for some facts types are read as by the facts.
use Rattle.std.proofs.Common.{◌≡◌, List, []}
use Rattle.std.specs.Option.{unwrap_or}
use Rattle.srb_terms.specs.declared.fact.Fact.{Fact}
use Rattle.srb_terms.specs.declared.world.World.{World}
use Rattle.srb_rules.specs.Lookup.{looked_up}
use Rattle.srb_rules.specs.Resolves.{resolves}
use Rattle.srb_rules.specs.Standing.{Stands}
use Rattle.srb_shapes.specs.Lineages.{or_none}
use Rattle.srb_sig.specs.Views.{view_at, view_of}

pub view-stands : (w : World) (fs : List Fact) → Stands w fs → view_at w ≡ view_of fs
unfolding resolves
view-stands w fs s = λ i. record {
  finds = λ scope path. looked_up (λ scope last. s.names scope last i) (λ c. unwrap_or (s.lins c i) []) scope path;
  lineage = record { kind = λ c. s.kinds c i; lin = λ c. or_none (s.lins c i) };
}
