use Rattle.std.proofs.Common.{sym, ap, ◌∙◌, length, arith}
use Rattle.std.proofs.lemmas.Str.{IsUtf8-had}
use Rattle.srb_text.proofs.SpellingLemmas.{length-encodes}
use Rattle.srb_text.proofs.TransferLemmas.{view_spells, position_is, start_within}
use Rattle.srb_text.proofs.lines.Lines.pos.Goals as goal

pub position_in-requires-clause-within : goal.position_in-requires-clause-within
position_in-requires-clause-within c =
    let spells = view_spells _ _ (IsUtf8-had _ c.self.invariant.0) c.self.view_is in
    omega (arith, start_within c.args.self.now c.args.at c.requires, ap length spells.0, ap length c.as_bytes.ensures.value, length-encodes c.args.self.now)

pub returns : goal.returns
returns c =
    let spells = view_spells _ _ (IsUtf8-had _ c.self.invariant.0) c.self.view_is in
    c.position_in.ensures ∙ position_is c.args.encoding _ _ c.args.at (spells.0 ∙ sym c.as_bytes.ensures.value) c.requires
