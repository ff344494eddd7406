use Rattle.std.proofs.Common.{◌≡◌, ℕ, ◌∙◌, ap, sym, true, not, if◌then◌else◌}
use Rattle.srb_shapes.specs.Comparing as spec
use Rattle.srb_shapes.specs.Comparing.{holds, part_test}
use Rattle.srb_shapes.specs.Lineages.{lineage_at}
use Rattle.srb_shapes.proofs.Variants as at
use Rattle.srb_shapes.proofs.within.+within.Goals as goal

pub is_part_within-returns-in-Untyped : goal.is_part_within-returns-in-Untyped
is_part_within-returns-in-Untyped t c = let e = at.holds-untyped (part_test c.args.extra (lineage_at c.args.w.now) c.args.t.now) c.args.u.now c.in-Untyped.is in cc

pub is_part_within-returns-in-Never : goal.is_part_within-returns-in-Never
is_part_within-returns-in-Never t c = let e = at.holds-never (part_test c.args.extra (lineage_at c.args.w.now) c.args.t.now) c.args.u.now c.in-Never.is in cc

pub is_part_within-returns-in-Class : goal.is_part_within-returns-in-Class
is_part_within-returns-in-Class t c = let e = at.holds-class (part_test c.args.extra (lineage_at c.args.w.now) c.args.t.now) c.args.u.now _ c.in-Class.is in cc

pub is_part_within-returns-in-Meta : goal.is_part_within-returns-in-Meta
is_part_within-returns-in-Meta t c = let e = at.holds-meta (part_test c.args.extra (lineage_at c.args.w.now) c.args.t.now) c.args.u.now _ c.in-Meta.is in cc

pub is_part_within-returns-in-Arr : goal.is_part_within-returns-in-Arr
is_part_within-returns-in-Arr t c = let e = at.holds-arr (part_test c.args.extra (lineage_at c.args.w.now) c.args.t.now) c.args.u.now _ c.in-Arr.is in cc

pub is_part_within-returns-in-Hsh : goal.is_part_within-returns-in-Hsh
is_part_within-returns-in-Hsh t c = let e = at.holds-hsh (part_test c.args.extra (lineage_at c.args.w.now) c.args.t.now) c.args.u.now _ _ c.in-Hsh.is in cc

pub is_part_within-returns-in-Any : goal.is_part_within-returns-in-Any
is_part_within-returns-in-Any t c = let e = at.holds-any (part_test c.args.extra (lineage_at c.args.w.now) c.args.t.now) c.args.u.now _ c.in-Any.is in cc

pub is_part_within-returns-in-All : goal.is_part_within-returns-in-All
is_part_within-returns-in-All t c = let e = at.holds-all (part_test c.args.extra (lineage_at c.args.w.now) c.args.t.now) c.args.u.now _ c.in-All.is in cc

pub is_within-returns-in-Never : goal.is_within-returns-in-Never
is_within-returns-in-Never t c = let e = at.within-never c.args.extra (lineage_at c.args.w.now) c.args.t.now c.args.u.now c.in-Never.is in cc

pub is_within-returns-in-Class : goal.is_within-returns-in-Class
is_within-returns-in-Class t c = let e = at.within-class c.args.extra (lineage_at c.args.w.now) c.args.t.now c.args.u.now _ c.in-Class.is in cc

pub is_within-returns-in-Meta : goal.is_within-returns-in-Meta
is_within-returns-in-Meta t c =
    let e = at.within-meta c.args.extra (lineage_at c.args.w.now) c.args.t.now c.args.u.now _ c.in-Meta.is in
    let p = ap (λ test. holds test c.args.u.now) (at.test-meta c.args.extra (lineage_at c.args.w.now) c.args.t.now _ c.in-Meta.is) in cc

pub is_within-returns-in-Arr : goal.is_within-returns-in-Arr
is_within-returns-in-Arr t c =
    let e = at.within-arr c.args.extra (lineage_at c.args.w.now) c.args.t.now c.args.u.now _ c.in-Arr.is in
    let p = ap (λ test. holds test c.args.u.now) (at.test-arr c.args.extra (lineage_at c.args.w.now) c.args.t.now _ c.in-Arr.is) in cc

pub is_within-returns-in-Hsh : goal.is_within-returns-in-Hsh
is_within-returns-in-Hsh t c =
    let e = at.within-hsh c.args.extra (lineage_at c.args.w.now) c.args.t.now c.args.u.now _ _ c.in-Hsh.is in
    let p = ap (λ test. holds test c.args.u.now) (at.test-hsh c.args.extra (lineage_at c.args.w.now) c.args.t.now _ _ c.in-Hsh.is) in cc

pub is_within-returns-in-Any : goal.is_within-returns-in-Any
is_within-returns-in-Any t c = let e = at.within-any c.args.extra (lineage_at c.args.w.now) c.args.t.now c.args.u.now _ c.in-Any.is in cc

pub is_within-returns-in-All : goal.is_within-returns-in-All
is_within-returns-in-All t c =
    let e = at.within-all c.args.extra (lineage_at c.args.w.now) c.args.t.now c.args.u.now _ c.in-All.is in
    let p = ap (λ test. holds test c.args.u.now) (at.test-all c.args.extra (lineage_at c.args.w.now) c.args.t.now _ c.in-All.is) in cc

pub is_within-returns-then-not-extra : goal.is_within-returns-then-not-extra
is_within-returns-then-not-extra t c =
    let e = at.within-untyped c.args.extra (lineage_at c.args.w.now) c.args.t.now c.args.u.now c.in-Untyped.is in
    let p = ap (λ b. if b then holds spec.is_nothing c.args.u.now else true) c.if-not-extra.true in
    let q = ap not c.if-not-extra.true in cc

pub is_within-returns-else-not-extra : goal.is_within-returns-else-not-extra
is_within-returns-else-not-extra t c =
    let e = at.within-untyped c.args.extra (lineage_at c.args.w.now) c.args.t.now c.args.u.now c.in-Untyped.is in
    let p = ap (λ b. if b then holds spec.is_nothing c.args.u.now else true) c.if-not-extra.false in
    let q = ap (λ test. holds test c.args.u.now) (at.test-untyped c.args.extra (lineage_at c.args.w.now) c.args.t.now c.in-Untyped.is) in cc
