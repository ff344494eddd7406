use Rattle.std.proofs.lemmas.Str.Pattern.{split_parts}
use Rattle.srb_builtin.proofs.Cuts.{parts-by}
use Rattle.srb_builtin.proofs.marks.cut.Goals as goal

pub returns-clause-parts : goal.returns-clause-parts
returns-clause-parts c =
    parts-by c.args.mark c.args.text.now c.split_once.result
    (split_parts c.args.mark c.args.text.now c.split_once.result c.split_once.ensures.cases c.requires)
