use Rattle.std.proofs.Common.{arith}
use Rattle.std.proofs.lemmas.Fmt.{decimal_digit}
use Rattle.srb_gen.proofs.texts.four_digits.Goals as goal

pub returns : goal.returns
returns c = grind (arith, decimal_digit)
