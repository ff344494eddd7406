use Rattle.std.proofs.Common.{◌≡◌, drop}
use Rattle.std.specs.Option.{option_copied}
use Rattle.rb_rewrite.specs.Attributes.{with_attributes}
use Rattle.rb_rewrite.proofs.attributes.with_attributes.Given as goal

abbrev pub invariant-arguments : goal.invariant-arguments
invariant-arguments l =
    with_attributes l.kind (option_copied l.sig) (drop l.argument-index l.arguments) l.so_far ≡ with_attributes l.kind (option_copied l.sig) l.arguments l.fn.so_far
