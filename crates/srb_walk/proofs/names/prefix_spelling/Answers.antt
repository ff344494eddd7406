use Rattle.std.proofs.Common.{ap, sym, ◌∙◌}
use Rattle.std.proofs.lemmas.Result.{IfOk-weaker}
use Rattle.srb_judgement.specs.Chains.{chain_start}
use Rattle.srb_judgement.specs.Judgements.{part_of}
use Rattle.srb_walk.specs.Written.{row_spelling}
use Rattle.srb_walk.proofs.Writing.{spelled}
use Rattle.srb_walk.proofs.names.prefix_spelling.Goals as goal

pub returns : goal.returns
returns g c =
    let L = g.L.Language.the c.args.language.now in
    IfOk-weaker c.row_spelling.result _ _
    (λ s h. h ∙ ap (λ so_far. row_spelling so_far c.args.row.suffixes.now) c.in_ok-so_far.ensures
    ∙ sym (spelled L c.args.row.suffixes.now (chain_start L (part_of L c.args.row.operand.now).it)))
    c.row_spelling.ensures
