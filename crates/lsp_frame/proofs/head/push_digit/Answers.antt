use Rattle.std.proofs.Common.{arith}
use Rattle.lsp_frame.proofs.Digits.{below_power, fits}
use Rattle.lsp_frame.proofs.head.push_digit.Goals as goal

pub overflow_mul-result : goal.overflow_mul-result
overflow_mul-result c =
    let h = fits c.args.count c.args.value c.args.digit c.requires.value c.requires.digit c.requires.count in omega (arith, h)

pub overflow_add-result : goal.overflow_add-result
overflow_add-result c = let h = fits c.args.count c.args.value c.args.digit c.requires.value c.requires.digit c.requires.count in omega (arith, h)

pub returns-clause-within : goal.returns-clause-within
returns-clause-within c = below_power _ _ _ c.requires.value c.requires.digit
