use Rattle.std.proofs.Common.{◌≡◌, ◌<◌, ◌+◌, ℕ, List, false, length, drop, slice_index, subst, ◌∙◌}
use Rattle.srb_terms.specs.Worlds.{has_colon}
use Rattle.srb_table.proofs.Colons.{no_scope}
use Rattle.srb_table.proofs.inner.split.Goals as goal

pub returns-in-None : goal.returns-in-None
returns-in-None c =
    let at : ℕ = c.in_ok-at.at in
    let found : (at < length c.args.name.now) × (slice_index c.args.name.now at ≡ 58) × (has_colon (drop (at + 1) c.args.name.now) ≡ false) =
    subst (λ (n : List ℕ). (at < length n) × (slice_index n at ≡ 58) × (has_colon (drop (at + 1) n) ≡ false)) c.as_bytes.ensures.value c.in_ok-at.ensures in
    no_scope c.args.name.now at found.0 found.1 found.2 (λ front same. c.in-None.ensures.cases front (c.split_at.ensures.front ∙ same))
