use Rattle.std.proofs.Common.{◌++◌, ap, ◌∙◌}
use Rattle.srb_terms.specs.NameSets.{has_name}
use Rattle.srb_judgement.proofs.SeenNames.{all-in}
use Rattle.srb_judgement.proofs.visible.settle.Goals as goal

pub returns : goal.returns
returns c = λ other.
    ap (λ set. has_name other (c.new-2.result ++ set.keys)) c.in_ok-new.ensures.ok
    ∙ ap (λ names. has_name other (names ++ c.put_all.new.set.keys)) c.new-2.ensures
    ∙ all-in other c.args.recent.now c.args.names.keys c.put_all.new.set.keys (c.in_ok-put_all.ensures other)
