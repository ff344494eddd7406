use Rattle.std.proofs.Common.{◌≡◌, bytes_eq, drop}
use Rattle.std.specs.List.{list_any}
use Rattle.srb_calls.proofs.keywords.is_among.Given as goal

abbrev pub invariant-keys : goal.invariant-keys
invariant-keys l =
    list_any (λ k. bytes_eq k.name l.name) (drop l.k-index l.keys) ≡ list_any (λ k. bytes_eq k.name l.name) l.keys
