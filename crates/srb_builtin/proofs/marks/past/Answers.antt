use Rattle.std.proofs.lemmas.Str.Pattern.{strip_prefix_char}
use Rattle.srb_builtin.proofs.Cuts.{past-by}
use Rattle.srb_builtin.proofs.marks.past.Goals as goal

pub returns : goal.returns
returns c = past-by c.args.mark c.args.text.now c.strip_prefix.result (strip_prefix_char c.args.mark c.args.text.now c.strip_prefix.result c.strip_prefix.ensures.cases c.requires)
