use Rattle.std.proofs.Common.{◌+◌, List, get_or, length, ap, ◌∙◌, arith, length-drop}
use Rattle.srb_text.specs.LineStarts.{first_content}
use Rattle.srb_text.specs.Positions.{fitting}
use Rattle.srb_text.specs.Units.{weight_at}
use Rattle.srb_text.proofs.PlaceLemmas.{reached_in, past_last_in}
use Rattle.srb_text.proofs.places.offset_in.Goals as goal

pub rest-requires : goal.rest-requires
rest-requires c = (reached_in (weight_at c.args.encoding) c.args.starts.now c.args.text.now c.args.p.line c.args.p.unit c.requires.table c.if-line-starts.true).within

pub returns-then-line-starts-clause-offset : goal.returns-then-line-starts-clause-offset
returns-then-line-starts-clause-offset c =
    let r = reached_in (weight_at c.args.encoding) c.args.starts.now c.args.text.now c.args.p.line c.args.p.unit c.requires.table c.if-line-starts.true in
    ap (λ k. get_or c.args.starts.now c.args.p.line 0 + k) (c.len_of_units-units.ensures.len ∙ ap (λ (v : List _). length (fitting (weight_at c.args.encoding) c.args.p.unit (first_content v))) c.rest.ensures) ∙ r.reaches

pub returns-clause-offset : goal.returns-clause-offset
returns-clause-offset c = past_last_in (weight_at c.args.encoding) c.args.starts.now c.args.text.now c.args.p.line c.args.p.unit c.requires.table c.if-line-starts.false

pub returns-then-line-starts-clause-within : goal.returns-then-line-starts-clause-within
returns-then-line-starts-clause-within c =
    let r = reached_in (weight_at c.args.encoding) c.args.starts.now c.args.text.now c.args.p.line c.args.p.unit c.requires.table c.if-line-starts.true in
    omega (arith, r.within, c.len_of_units-units.ensures.bound, ap length c.rest.ensures, length-drop (get_or c.args.starts.now c.args.p.line 0) c.args.text.now)
