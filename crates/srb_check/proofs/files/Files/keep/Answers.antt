use Rattle.srb_check.proofs.files.Files.keep.Goals as goal

pub add_record-requires : goal.add_record-requires
add_record-requires c = record { bytes = c.requires.0; loads = c.in_ok-record.ensures c.requires.0 c.requires.1 }

pub returns : goal.returns
returns c = λ project bytes are has. c.add_record.ensures project bytes are (c.in_ok-record.ensures bytes has)
