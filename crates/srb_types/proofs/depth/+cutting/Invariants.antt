use Rattle.std.proofs.Common.{◌≡◌, ℕ, [], map, take, drop}
use Rattle.srb_shapes.specs.Lineages.{lineage_at}
use Rattle.srb_terms.specs.declared.ty.Ty.{Ty}
use Rattle.srb_types.specs.Normal.{cut_anew, cut_each}
use Rattle.srb_types.proofs.depth.+cutting.Given as goal

abbrev pub invariant-cut_parts-parts : goal.invariant-cut_parts-parts
invariant-cut_parts-parts l =
    cut_each (lineage_at l.w) (map (cut_anew (lineage_at l.w)) (drop l.part-index l.parts)) l.levels l.cut.items
    ≡ cut_each (lineage_at l.w) (map (cut_anew (lineage_at l.w)) l.parts) l.levels []

abbrev pub invariant-cut_members-members : goal.invariant-cut_members-members
invariant-cut_members-members l =
    l.cut ≡ map (λ (m : ℕ → Ty). m l.levels) (map (cut_anew (lineage_at l.w)) (take l.member-index l.members))
