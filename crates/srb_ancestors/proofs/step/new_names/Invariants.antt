use Rattle.std.proofs.Common.{◌≡◌, ◌++◌, ◌||◌, not}
use Rattle.std.specs.List.{filter}
use Rattle.srb_terms.specs.NameSets.{has_name}
use Rattle.srb_ancestors.proofs.step.new_names.Given as goal

abbrev pub invariant-names : goal.invariant-names
invariant-names l =
    l.more.items ++ filter (λ name. not (has_name name l.below || has_name name l.here)) l.at
    ≡ filter (λ name. not (has_name name l.below || has_name name l.here)) l.list
