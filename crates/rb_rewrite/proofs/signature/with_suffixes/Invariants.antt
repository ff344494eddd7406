use Rattle.std.proofs.Common.{◌≡◌, drop}
use Rattle.std.specs.Prelude.{option_map}
use Rattle.rb_rewrite.specs.Signatures.{with_suffixes, seen_signature}
use Rattle.rb_rewrite.proofs.signature.with_suffixes.Given as goal

abbrev pub invariant-suffixes : goal.invariant-suffixes
invariant-suffixes l =
    with_suffixes (option_map seen_signature l.so_far) (drop l.suffix-index l.suffixes) ≡ with_suffixes (option_map seen_signature l.fn.said) l.suffixes
