use Rattle.std.proofs.Common.{◌≡◌, drop}
use Rattle.srb_declarations.specs.Declarations.{with_mixins}
use Rattle.srb_declarations.proofs.mixin.with_mixins.Given as goal

abbrev pub invariant-arguments : goal.invariant-arguments
invariant-arguments l =
    with_mixins l.name l.way (drop l.argument-index l.arguments) l.scope l.found ≡ with_mixins l.name l.way l.arguments l.scope l.fn.found
