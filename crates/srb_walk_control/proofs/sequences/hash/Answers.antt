use Rattle.std.proofs.Common.{◌∙◌, ap}
use Rattle.std.proofs.lemmas.Result.{IfOk-weaker}
use Rattle.srb_judgement.specs.Kept.{seen_context}
use Rattle.srb_judgement.specs.Views.{seen_state}
use Rattle.srb_judgement.specs.Words.{element_type}
use Rattle.srb_walk_control.proofs.Sequencing.{hash_is}
use Rattle.srb_walk_control.proofs.sequences.hash.Goals as goal

pub returns : goal.returns
returns g c = let the = g.L.Language.the c.args.language.now in
    IfOk-weaker c.hash.result _ _
    (λ ty h. hash_is the c.args.row.now (seen_context c.args.context.now) (seen_state c.args.state.now) (seen_state c.pairs.new.state)
    c.in_ok-keyed.keyed.keys c.in_ok-keyed.keyed.values c.in_ok-key.key c.in_ok-value.value ty
    c.in_ok-keyed.ensures (c.in_ok-key.ensures ∙ ap (λ types. element_type the types) c.as_slice.ensures)
    (c.in_ok-value.ensures ∙ ap (λ types. element_type the types) c.as_slice-2.ensures) h)
    c.hash.ensures
