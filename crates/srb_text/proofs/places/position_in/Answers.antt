use Rattle.std.proofs.Common.{ℕ, ◌-◌, List, length, sym, subst, ap, ◌∙◌, arith}
use Rattle.std.specs.List.Sorted.{IsStrictlyIncreasing}
use Rattle.std.specs.List.{sum_by}
use Rattle.srb_text.specs.LineStarts.{first_content}
use Rattle.srb_text.specs.declared.Pos.{Pos}
use Rattle.srb_text.specs.Units.{weight_at}
use Rattle.srb_text.proofs.TableLemmas.{line_starts-increasing}
use Rattle.srb_text.proofs.PlaceLemmas.{found_in, length-line_starts}
use Rattle.srb_text.proofs.places.position_in.Goals as goal

pub starts_up_to-line-requires : goal.starts_up_to-line-requires
starts_up_to-line-requires c = subst IsStrictlyIncreasing (sym c.requires.table) (line_starts-increasing c.args.text.now)

pub overflow_cast-result : goal.overflow_cast-result
overflow_cast-result c =
    let f = found_in (weight_at c.args.encoding) c.args.starts.now c.args.text.now c.args.at c.starts_up_to-line.result c.requires.table c.starts_up_to-line.ensures.count in
    omega (arith, f.few, ap length c.requires.table, length-line_starts c.args.text.now)

pub part-requires-clause-ordered : goal.part-requires-clause-ordered
part-requires-clause-ordered c = (found_in (weight_at c.args.encoding) c.args.starts.now c.args.text.now c.args.at c.starts_up_to-line.result c.requires.table c.starts_up_to-line.ensures.count).before

pub returns : goal.returns
returns c =
    let f = found_in (weight_at c.args.encoding) c.args.starts.now c.args.text.now c.args.at c.starts_up_to-line.result c.requires.table c.starts_up_to-line.ensures.count in
    let place : ℕ → Pos = λ u. record { line = c.starts_up_to-line.result - 1; unit = u } in
    ap place (c.units_in_line-unit.ensures ∙ ap (λ (v : List ℕ). sum_by (weight_at c.args.encoding) (first_content v)) c.part.ensures) ∙ f.place
