-- In a table that stands for some facts a constant is looked up as by the facts.
use Rattle.std.proofs.Common.{◌≡◌, ℕ, List, [], ◌∷◌, ap, if◌then◌else◌}
use Rattle.std.specs.Option.{unwrap_or}
use Rattle.srb_terms.specs.Worlds.{kind_at, within_at}
use Rattle.srb_terms.specs.declared.fact.Fact.{Fact}
use Rattle.srb_terms.specs.declared.world.World.{World}
use Rattle.srb_rules.specs.declared.position.Position.{Position}
use Rattle.srb_rules.specs.declared.position.Position.TheVariants as position
use Rattle.srb_rules.specs.Kinds.{is_body, kind_of, within_of}
use Rattle.srb_rules.specs.Lookup.{looked_up}
use Rattle.srb_rules.specs.Parents.{alone_by}
use Rattle.srb_rules.specs.Resolves.{ancestors, resolves}
use Rattle.srb_rules.specs.Standing.{Stands, ancestors_at, resolved_at}

within-stands : (w : World) (fs : List Fact) → Stands w fs → within_at w ≡ within_of fs
within-stands w fs s = λ i scope last. s.names scope last i

alone-stands : (w : World) (fs : List Fact) → Stands w fs → (c : List ℕ) → alone_by (kind_at w) c ≡ alone_by (kind_of fs) c
alone-stands w fs s c = ap (λ k. if is_body k then c ∷ [] else []) (s.kinds c)

ancestors-stand : (w : World) (fs : List Fact) → Stands w fs → (p : Position) (c : List ℕ) → ancestors_at w p c ≡ ancestors fs p c
ancestors-stand w fs s position.Value c = ap (λ l. unwrap_or l []) (s.lins c)
ancestors-stand w fs s position.Parent c = alone-stands w fs s c

pub resolved-stands :
    (w : World) (fs : List Fact) → Stands w fs → (scope path : List (List ℕ)) (p : Position) → resolved_at w scope path p ≡ resolves fs scope path p
unfolding resolves
resolved-stands w fs s scope path p =
    λ i. looked_up (within-stands w fs s i) (λ c. ancestors-stand w fs s p c i) scope path
