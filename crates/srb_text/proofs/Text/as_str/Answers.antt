use Rattle.std.proofs.Common.{length, sym, ap, ◌∙◌}
use Rattle.std.proofs.lemmas.Str.{IsUtf8-string_bytes}
use Rattle.srb_text.proofs.SpellingLemmas.{length-encodes}
use Rattle.srb_text.proofs.TransferLemmas.{view_spells}
use Rattle.srb_text.proofs.Text.as_str.Goals as goal

pub returns-clause-bytes : goal.returns-clause-bytes
returns-clause-bytes c = c.as_str.ensures.value ∙ sym (view_spells _ _ (IsUtf8-string_bytes c.self.inside.text) c.self.view_is).0

pub returns-clause-scalars : goal.returns-clause-scalars
returns-clause-scalars c = (view_spells _ _ (IsUtf8-string_bytes c.self.inside.text) c.self.view_is).1

pub returns-clause-len : goal.returns-clause-len
returns-clause-len c =
    ap length (c.as_str.ensures.value ∙ sym (view_spells _ _ (IsUtf8-string_bytes c.self.inside.text) c.self.view_is).0) ∙ length-encodes c.args.self.now
