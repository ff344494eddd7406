use Rattle.std.proofs.Common.{subst}
use Rattle.std.proofs.lemmas.Str.{IsUtf8-had}
use Rattle.srb_terms.specs.Spellings.{IsHeld}
use Rattle.srb_terms.proofs.spelling.Spelling.as_str.Goals as goal

-- the bytes in place are UTF-8
pub from_utf8_unchecked-requires : goal.from_utf8_unchecked-requires
from_utf8_unchecked-requires c = IsUtf8-had _ (subst IsHeld c.in-Short.is c.self.invariant).1.0
