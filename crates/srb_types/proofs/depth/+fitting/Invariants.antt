use Rattle.std.proofs.Common.{◌≡◌, ℕ, Bool, map, drop}
use Rattle.std.specs.List.{list_all}
use Rattle.srb_types.specs.Normal.{is_shallow}
use Rattle.srb_types.proofs.depth.+fitting.Given as goal

abbrev pub invariant-are_shallow-parts : goal.invariant-are_shallow-parts
invariant-are_shallow-parts l =
    list_all (λ (p : ℕ → Bool). p l.levels) (map is_shallow (drop l.part-index l.parts)) ≡ list_all (λ (p : ℕ → Bool). p l.levels) (map is_shallow l.parts)
