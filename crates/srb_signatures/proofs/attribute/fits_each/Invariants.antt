use Rattle.std.proofs.Common.{◌≡◌, drop, option_map}
use Rattle.std.specs.List.{list_all}
use Rattle.rb_rewrite.specs.Signatures.{seen_signature}
use Rattle.srb_signatures.specs.Fitting.{fits_argument}
use Rattle.srb_signatures.proofs.attribute.fits_each.Given as goal

abbrev pub invariant-arguments : goal.invariant-arguments
invariant-arguments l =
    list_all (fits_argument l.kind (option_map seen_signature l.said)) (drop l.argument-index l.arguments)
    ≡ list_all (fits_argument l.kind (option_map seen_signature l.said)) l.arguments
