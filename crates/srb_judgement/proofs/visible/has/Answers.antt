use Rattle.std.proofs.Common.{◌∙◌}
use Rattle.srb_judgement.proofs.SeenNames.{any-has}
use Rattle.srb_judgement.proofs.visible.has.Goals as goal

pub returns : goal.returns
returns c = c.contains.ensures ∙ any-has c.args.name.now c.args.names.now.keys
