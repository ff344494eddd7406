use Rattle.std.proofs.Common.{◌≡◌, map, take, drop}
use Rattle.srb_shapes.specs.Lineages.{lineage_at}
use Rattle.srb_types.specs.Normal.{any_after, any_list}
use Rattle.srb_calls.specs.Letters.{put_anew}
use Rattle.srb_calls.proofs.letters.+putting.Given as goal

abbrev pub invariant-put_parts-parts : goal.invariant-put_parts-parts
invariant-put_parts-parts l =
    any_after (lineage_at l.w) l.joined (map (put_anew (lineage_at l.w) l.part l.positional l.block) (drop l.p-index l.parts))
    ≡ any_list (lineage_at l.w) (map (put_anew (lineage_at l.w) l.part l.positional l.block) l.parts)

abbrev pub invariant-put_members-members : goal.invariant-put_members-members
invariant-put_members-members l =
    l.put ≡ map (put_anew (lineage_at l.w) l.part l.positional l.block) (take l.m-index l.members)
