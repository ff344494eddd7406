use Rattle.std.proofs.Common.{◌≡◌, drop}
use Rattle.std.specs.Prelude.{option_map}
use Rattle.srb_sig.specs.Chains.{with_suffixes, seen_said}
use Rattle.srb_sig.proofs.chain.with_suffixes.Given as goal

abbrev pub invariant-suffixes : goal.invariant-suffixes
invariant-suffixes l =
    with_suffixes (option_map seen_said l.so_far) (drop l.suffix-index l.suffixes) ≡ with_suffixes (option_map seen_said l.fn.said) l.suffixes
