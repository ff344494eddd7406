use Rattle.std.proofs.Common.{sym, subst}
use Rattle.srb_check.specs.Jobs.{AreLoaded}
use Rattle.srb_check.proofs.files.Files.add.Goals as goal

pub add_record-requires : goal.add_record-requires
add_record-requires c = record { bytes = c.args.bytes.now; loads = c.in_ok-record.ensures }

-- what the lexer has read is no part of the files
pub returns : goal.returns
returns c = λ project are. c.add_record.ensures project c.args.bytes.now (subst (AreLoaded project) (sym c.self.view_is) are) c.in_ok-record.ensures
