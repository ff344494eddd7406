use Rattle.std.proofs.Common.{◌≡◌, ℕ, ◌≤◌, List, ◌++◌, length, take, drop, sym, ap, ap₂, ◌∙◌, arith}
use Rattle.std.proofs.lemmas.Str.{IsUtf8-string_bytes}
use Rattle.std.specs.Str.{chars}
use Rattle.std.specs.String.{string_bytes}
use Rattle.srb_text.specs.Positions.{weight_of, byte_len, offset_of}
use Rattle.srb_text.specs.LineStarts.{line_starts}
use Rattle.srb_text.specs.Edits.{edited}
use Rattle.srb_text.proofs.TransferLemmas.{view_spells, edits, length-edit}
use Rattle.srb_text.proofs.Text.splice.Goals as goal

pub renewed-requires-clause-within : goal.renewed-requires-clause-within
renewed-requires-clause-within c =
    let spells = view_spells _ _ (IsUtf8-string_bytes c.self.inside.text) c.self.view_is in
    let edit = edits c.args.encoding c.args.self.now (string_bytes c.self.inside.text) c.args.new.now c.args.from c.args.to c.offset-start.result c.offset-end.result spells.0 spells.1 c.utf8.new c.offset-start.ensures.offset c.offset-end.ensures.offset in
    omega (arith, edit.end_cut.0, ap length c.as_bytes.ensures.value)

pub renewed-requires-clause-fits : goal.renewed-requires-clause-fits
renewed-requires-clause-fits c =
    let spells = view_spells _ _ (IsUtf8-string_bytes c.self.inside.text) c.self.view_is in
    let edit = edits c.args.encoding c.args.self.now (string_bytes c.self.inside.text) c.args.new.now c.args.from c.args.to c.offset-start.result c.offset-end.result spells.0 spells.1 c.utf8.new c.offset-start.ensures.offset c.offset-end.ensures.offset in
    let ordered : offset_of (weight_of c.args.encoding) c.args.self.now c.args.from ≤ offset_of (weight_of c.args.encoding) c.args.self.now c.args.to = omega (arith, c.offset-start.ensures.offset, c.offset-end.ensures.offset) in
    let small : byte_len (edited (weight_of c.args.encoding) c.args.self.now c.args.from c.args.to (chars c.args.new.now)) ≤ 16777216 = c.requires ordered in
    let sum = length-edit (string_bytes c.self.inside.text) c.args.new.now c.offset-start.result c.offset-end.result c.if-end-start.false edit.end_cut.0 in
    omega (arith, small, edit.len, sum, ap length c.as_bytes.ensures.value, ap length c.as_bytes-2.ensures.value)

pub replace_range-requires-clause-in_bounds : goal.replace_range-requires-clause-in_bounds
replace_range-requires-clause-in_bounds c =
    let spells = view_spells _ _ (IsUtf8-string_bytes c.self.inside.text) c.self.view_is in
    let edit = edits c.args.encoding c.args.self.now (string_bytes c.self.inside.text) c.args.new.now c.args.from c.args.to c.offset-start.result c.offset-end.result spells.0 spells.1 c.utf8.new c.offset-start.ensures.offset c.offset-end.ensures.offset in
    omega (arith, edit.end_cut.0, c.as_bytes.ensures.len, ap length c.as_bytes.ensures.value)

pub replace_range-requires-clause-start_boundary : goal.replace_range-requires-clause-start_boundary
replace_range-requires-clause-start_boundary c =
    let spells = view_spells _ _ (IsUtf8-string_bytes c.self.inside.text) c.self.view_is in
    (edits c.args.encoding c.args.self.now (string_bytes c.self.inside.text) c.args.new.now c.args.from c.args.to c.offset-start.result c.offset-end.result spells.0 spells.1 c.utf8.new c.offset-start.ensures.offset c.offset-end.ensures.offset).start_cut

pub replace_range-requires-clause-end_boundary : goal.replace_range-requires-clause-end_boundary
replace_range-requires-clause-end_boundary c =
    let spells = view_spells _ _ (IsUtf8-string_bytes c.self.inside.text) c.self.view_is in
    (edits c.args.encoding c.args.self.now (string_bytes c.self.inside.text) c.args.new.now c.args.from c.args.to c.offset-start.result c.offset-end.result spells.0 spells.1 c.utf8.new c.offset-start.ensures.offset c.offset-end.ensures.offset).end_cut

pub invariant_of-self-in-Ok-replace_range : goal.invariant_of-self-in-Ok-replace_range
invariant_of-self-in-Ok-replace_range c =
    let spells = view_spells _ _ (IsUtf8-string_bytes c.self.inside.text) c.self.view_is in
    let edit = edits c.args.encoding c.args.self.now (string_bytes c.self.inside.text) c.args.new.now c.args.from c.args.to c.offset-start.result c.offset-end.result spells.0 spells.1 c.utf8.new c.offset-start.ensures.offset c.offset-end.ensures.offset in
    let ordered : offset_of (weight_of c.args.encoding) c.args.self.now c.args.from ≤ offset_of (weight_of c.args.encoding) c.args.self.now c.args.to = omega (arith, c.offset-start.ensures.offset, c.offset-end.ensures.offset) in
    let small : byte_len (edited (weight_of c.args.encoding) c.args.self.now c.args.from c.args.to (chars c.args.new.now)) ≤ 16777216 = c.requires ordered in
    let parts : take c.offset-start.result c.as_bytes.result.now ++ c.as_bytes-2.result.now ++ drop c.offset-end.result c.as_bytes.result.now ≡ string_bytes c.replace_range.new.self =
    ap₂ (λ (v w : List ℕ). take c.offset-start.result v ++ w ++ drop c.offset-end.result v) c.as_bytes.ensures.value c.as_bytes-2.ensures.value ∙ sym c.in-Ok-replace_range.ensures.bytes in
    (c.in-Ok.ensures ∙ ap line_starts parts, omega (arith, small, edit.len, ap length c.in-Ok-replace_range.ensures.bytes))

pub returns-in-Ok-replace_range-clause-edited : goal.returns-in-Ok-replace_range-clause-edited
returns-in-Ok-replace_range-clause-edited c =
    let spells = view_spells _ _ (IsUtf8-string_bytes c.self.inside.text) c.self.view_is in
    let edit = edits c.args.encoding c.args.self.now (string_bytes c.self.inside.text) c.args.new.now c.args.from c.args.to c.offset-start.result c.offset-end.result spells.0 spells.1 c.utf8.new c.offset-start.ensures.offset c.offset-end.ensures.offset in
    ap chars c.in-Ok-replace_range.ensures.bytes ∙ edit.characters
