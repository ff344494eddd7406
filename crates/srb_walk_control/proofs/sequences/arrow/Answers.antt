use Rattle.std.proofs.Common.{false, ap, ◌∙◌}
use Rattle.std.proofs.lemmas.Result.{on_ok_weaker}
use Rattle.srb_judgement.proofs.KeptContexts.{seeing-both}
use Rattle.srb_judgement.specs.Kept.{seen_context}
use Rattle.srb_judgement.specs.States.{seeing}
use Rattle.srb_judgement.specs.Views.{seen_state}
use Rattle.srb_walk.specs.Assigned.{names_of}
use Rattle.srb_walk.specs.Beside.{seen_beside}
use Rattle.srb_walk_control.proofs.Sequencing.{arrow_is}
use Rattle.srb_walk_control.proofs.sequences.arrow.Goals as goal

pub returns-clause-judged : goal.returns-clause-judged
returns-clause-judged g c = let the = g.L.Language.the c.args.language.now in
    let around = seen_context c.args.context.now in
    on_ok_weaker c.add-2.result
    (λ h. arrow_is the c.args.key.now c.args.value.now (seen_beside c.args.beside.now around) (seen_beside c.add.new.beside around)
    (record { keys = c.args.keyed.now.keys; values = c.args.keyed.now.values; state = seen_state c.args.state.now })
    (record { types = c.add.new.types; state = seen_state c.add.new.state }) (record { types = c.add-2.new.types; state = seen_state c.add-2.new.state })
    c.in_ok-add.ensures.judged c.in_ok-add.ensures.seen h)
    c.add-2.ensures.judged

pub returns-clause-seen : goal.returns-clause-seen
returns-clause-seen g c = let the = g.L.Language.the c.args.language.now in
    let around = seen_beside c.args.beside.now (seen_context c.args.context.now) in
    on_ok_weaker c.add-2.result
    (λ h. h ∙ ap (λ x. seeing (names_of the false c.args.value.now) x) c.in_ok-add.ensures.seen
    ∙ seeing-both (names_of the false c.args.key.now) (names_of the false c.args.value.now) around)
    c.add-2.ensures.seen
