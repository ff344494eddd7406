use Rattle.std.proofs.Common.{sym}
use Rattle.std.proofs.lemmas.Str.{IsUtf8-had}
use Rattle.srb_text.proofs.TransferLemmas.{view_spells}
use Rattle.srb_text.proofs.lines.Lines.as_str.Goals as goal

pub returns-clause-bytes : goal.returns-clause-bytes
returns-clause-bytes c = sym (view_spells _ _ (IsUtf8-had _ c.self.invariant.0) c.self.view_is).0

pub returns-clause-scalars : goal.returns-clause-scalars
returns-clause-scalars c = (view_spells _ _ (IsUtf8-had _ c.self.invariant.0) c.self.view_is).1
