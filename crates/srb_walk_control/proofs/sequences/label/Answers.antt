use Rattle.std.proofs.Common.{◌++◌, ◌∷◌, [], ap, ◌∙◌}
use Rattle.std.proofs.lemmas.Result.{on_ok_weaker}
use Rattle.srb_walk_control.proofs.sequences.label.Goals as goal

pub returns-clause-judged : goal.returns-clause-judged
returns-clause-judged g c =
    on_ok_weaker c.add.result
    (λ h. λ i. record {
      keys = (c.in_ok-push.ensures.ok ∙ ap (λ k. c.args.keyed.now.keys ++ k ∷ []) (c.in_ok-key.ensures ∙ c.built_in.ensures)) i;
      values = (h i).types;
      state = (h i).state;
    })
    c.add.ensures.judged

pub returns-clause-seen : goal.returns-clause-seen
returns-clause-seen g c = c.add.ensures.seen
