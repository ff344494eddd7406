use Rattle.std.proofs.Common.{◌≡◌, map, take}
use Rattle.srb_terms.specs.declared.ty.Ty.TheVariants as ty
use Rattle.srb_types.proofs.names.classes.Given as goal

abbrev pub invariant-names : goal.invariant-names
invariant-names l = l.types ≡ map (λ c. ty.Class c) (take l.name-index l.names)
