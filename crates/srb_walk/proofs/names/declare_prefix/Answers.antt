use Rattle.std.proofs.Common.{◌++◌, ap, sym, ◌∙◌, false, append_assoc}
use Rattle.std.proofs.lemmas.Result.{IfOk-weaker}
use Rattle.std.specs.List.{flat_map}
use Rattle.srb_judgement.specs.Chains.{chain_start}
use Rattle.srb_judgement.specs.Judgements.{part_of}
use Rattle.srb_walk.specs.Assigned.{names_of}
use Rattle.srb_walk.specs.Walking.{suffix_names}
use Rattle.srb_walk.proofs.Operating.{declares_suffixed}
use Rattle.srb_walk.proofs.names.declare_prefix.Goals as goal

pub returns : goal.returns
returns g c =
    let L = g.L.Language.the c.args.language.now in
    IfOk-weaker c.declare_suffixes.result _ _
    (λ u h. h ∙ ap (λ names. names ++ flat_map (suffix_names L) c.args.row.suffixes.now) c.in_ok-assigned.ensures
    ∙ append_assoc c.args.names.now (names_of L false c.args.row.operand.now) (flat_map (suffix_names L) c.args.row.suffixes.now)
    ∙ ap (λ names. c.args.names.now ++ names) (sym (declares_suffixed L c.args.row.suffixes.now (chain_start L (part_of L c.args.row.operand.now).it))))
    c.declare_suffixes.ensures
