use Rattle.std.proofs.Common.{ℕ, ◌<◌, ◌^◌, List, [], length, ◌++◌, ◌∷◌, sym, ◌∙◌, ap, subst, arith, rules}
use Rattle.std.specs.List.{All}
use Rattle.std.proofs.lemmas.List.Elements.{All-nil}
use Rattle.run_pool.specs.Working.{file_count}
use Rattle.run_pool.proofs.Rounds.{drew_just, few_drawn, gave_one, pass_has_left, seat_has_left}
use Rattle.run_pool.proofs.worker.work_on.Goals as goal

pub returns-then-look-clause-hands : goal.returns-then-look-clause-hands
returns-then-look-clause-hands g c =
    let h = c.rounds.invariant in
    record {
      items = h.items;
      rest = [];
      drew = c.look.ensures.same.1 ∙ drew_just h;
      gives = h.gives;
      files = h.files;
      right = h.right;
      leaves = (omega arith, All-nil (λ n. n < file_count c.args.job.now));
    }

pub draw-number-requires-clause-left : goal.draw-number-requires-clause-left
draw-number-requires-clause-left g c =
    subst (λ (n : ℕ). 0 < n) (sym c.look.ensures.same.3) (seat_has_left c.rounds.invariant c.requires.few c.requires.seat)

pub draw-number-requires-clause-few : goal.draw-number-requires-clause-few
draw-number-requires-clause-few g c =
    subst (λ (ns : List ℕ). length ns < 2 ^ 32) (sym c.look.ensures.same.1) (few_drawn c.rounds.invariant c.requires.few)

pub hand_over-requires-clause-left : goal.hand_over-requires-clause-left
hand_over-requires-clause-left g c = pass_has_left c.rounds.invariant c.requires.few c.requires.pass

pub rounds-preserved : goal.rounds-preserved
rounds-preserved g c =
    let look = c.look.ensures.same in
    let draw = c.draw-number.ensures in
    let over = c.hand_over.ensures in
    let n : ℕ = c.draw-number.result in
    gave_one n c.in-Ok.item c.rounds.invariant c.in-Ok.ensures.number (search rules) c.in-Ok.ensures.found
    (subst (λ (ns : List ℕ). All (λ m. m < n) ns) look.1 draw.greater)
    (pass_has_left c.rounds.invariant c.requires.few c.requires.pass)
    (over.same.1 ∙ draw.drawn ∙ ap (λ (ns : List ℕ). ns ++ n ∷ []) look.1)
    (omega arith)
    (over.same.0 ∙ draw.same.0 ∙ look.0)
    (over.same.2 ∙ draw.same.2 ∙ look.2)
    (over.put c.if-not-hand_over.false)
