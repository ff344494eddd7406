use Rattle.std.proofs.Common.{length, ap, arith}
use Rattle.std.proofs.lemmas.Str.{encodes-chars}
use Rattle.std.specs.Str.{chars}
use Rattle.srb_text.specs.Positions.{weight_of}
use Rattle.srb_text.proofs.SpellingLemmas.{length-encodes}
use Rattle.srb_text.proofs.tests.put.Goals as goal

pub splice-requires : goal.splice-requires
splice-requires c =
    λ ordered. omega (arith, c.as_str.ensures.len, c.edits_have_sizes.ensures (weight_of c.args.encoding) c.args.text.now c.args.from c.args.to (chars c.args.new.now) ordered, length-encodes (chars c.args.new.now), ap length (encodes-chars c.args.new.now c.utf8.new))
