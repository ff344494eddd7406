use Rattle.std.proofs.Common.{rules, ◌≡◌, List, [], ℕ, ◌∙◌, sym, arith}
use Rattle.srb_shapes.specs.Comparing as spec
use Rattle.srb_shapes.proofs.Variants.{holds-class, holds-any, holds-all, holds-untyped, holds-never, holds-meta, holds-arr, holds-hsh}
use Rattle.srb_shapes.proofs.within.+below.Goals as goal

pub is_below-returns-in-Class : goal.is_below-returns-in-Class
is_below-returns-in-Class t c = c.contains.ensures ∙ sym (holds-class (spec.is_below c.args.names.now) c.args.u.now _ c.in-Class.is)

pub is_below-returns-in-Any : goal.is_below-returns-in-Any
is_below-returns-in-Any t c = let e = holds-any (spec.is_below c.args.names.now) c.args.u.now _ c.in-Any.is in cc

pub is_below-returns-in-All : goal.is_below-returns-in-All
is_below-returns-in-All t c = let e = holds-all (spec.is_below c.args.names.now) c.args.u.now _ c.in-All.is in cc

pub is_below-returns-in-Untyped : goal.is_below-returns-in-Untyped
is_below-returns-in-Untyped t c = sym (holds-untyped (spec.is_below c.args.names.now) c.args.u.now c.in-Untyped.is)

pub is_below-returns-in-Never : goal.is_below-returns-in-Never
is_below-returns-in-Never t c = sym (holds-never (spec.is_below c.args.names.now) c.args.u.now c.in-Never.is)

pub is_below-returns-in-Meta : goal.is_below-returns-in-Meta
is_below-returns-in-Meta t c = sym (holds-meta (spec.is_below c.args.names.now) c.args.u.now _ c.in-Meta.is)

pub is_below-returns-in-Arr : goal.is_below-returns-in-Arr
is_below-returns-in-Arr t c = sym (holds-arr (spec.is_below c.args.names.now) c.args.u.now _ c.in-Arr.is)

pub is_below-returns-in-Hsh : goal.is_below-returns-in-Hsh
is_below-returns-in-Hsh t c = sym (holds-hsh (spec.is_below c.args.names.now) c.args.u.now _ _ c.in-Hsh.is)
