use Rattle.std.proofs.Common.{◌<◌, length, ap, ◌∙◌, add-one, arith}
use Rattle.run_core.proofs.RowIndexes.{built-length, built_to}
use Rattle.run_core.proofs.rows.build_all.Goals as goal

pub value_mut-requires : goal.value_mut-requires
value_mut-requires c =
    let same = ap length c.rows.invariant ∙ built-length c.args.map.now.entries c.rows.index in
    omega (arith, c.rows-test.true, c.len-index-end.ensures, same)

pub rows-preserved : goal.rows-preserved
rows-preserved c =
    let within : c.rows.index < length c.args.map.now.entries = omega (arith, c.rows-test.true, c.len-index-end.ensures) in
    built_to c.args.map.now.entries c.rows.map.entries c.rows.index _ c.value_mut.result.now c.build_row.new.row (add-one c.rows.index)
    c.rows.invariant within c.value_mut.ensures.value c.build_row.ensures
