use Rattle.std.proofs.Common.{ap, ◌∙◌}
use Rattle.srb_terms.specs.NameSets.{has_name}
use Rattle.srb_judgement.proofs.SeenNames.{inserted}
use Rattle.srb_judgement.proofs.visible.put.Goals as goal

pub returns : goal.returns
returns c = λ other.
    ap (λ keys. has_name other keys) c.in_ok-insert.ensures.keys ∙ inserted other c.args.name c.args.set.now.keys
