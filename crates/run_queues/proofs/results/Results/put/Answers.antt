use Rattle.std.proofs.Common.{◌<◌, refl, sym, subst}
use Rattle.run_queues.specs.Handing.{IsRightBy}
use Rattle.run_queues.specs.Held.{HeldAtAStep}
use Rattle.run_queues.specs.Showings.{Places, Showing}
use Rattle.run_queues.proofs.Rules.{puts, learns, held, gave_more}
use Rattle.run_queues.proofs.results.Results.put.Goals as goal
use Rattle.run_queues.proofs.results.Results.put.Goals.{in-Ok, in-Err-Found}

pub push_as-requires-clause-rule : goal.push_as-requires-clause-rule
push_as-requires-clause-rule g c = (
  puts g.W.Right.right _ _ _ _ c.p.invariant.1 (subst (λ (s : Showing g.row.W.Denot). 0 < s.left) (sym c.p.view_is) c.requires.left)
      (subst (λ (s : Showing g.row.W.Denot). IsRightBy g.W.Right.right s.view c.args.item) (sym c.p.view_is) c.requires.right),
  learns g.W.Right.right _ _,
)

pub returns-clause-full : goal.returns-clause-full
returns-clause-full g c = elim c.match-push_as.branch [
  | in-Ok w ↦ rw w.result-is tt
  | in-Err-Found w ↦ rw w.result-is (subst (λ (y : Places × Showing g.row.W.Denot). HeldAtAStep g.W.Right.right y.0.room y.1) (λ i. (c.self.view_is i, c.p.view_is i))
      (held g.W.Right.right _ _ _ c.p.invariant.1 (refl, refl, refl, refl) w.in-Err-Found.ensures.rule.2))
]

pub returns-clause-alone : goal.returns-clause-alone
returns-clause-alone g c = elim c.match-push_as.branch [
  | in-Ok w ↦ rw w.result-is tt
  | in-Err-Found w ↦ rw w.result-is (gave_more g.W.Right.right c.args.self.now.room c.args.p.now (subst (λ (y : Places × Showing g.row.W.Denot). HeldAtAStep g.W.Right.right y.0.room y.1) (λ i. (c.self.view_is i, c.p.view_is i))
      (held g.W.Right.right _ _ _ c.p.invariant.1 (refl, refl, refl, refl) w.in-Err-Found.ensures.rule.2)))
]
