use Rattle.std.proofs.Common.{◌<◌, refl, sym, subst}
use Rattle.run_queues.specs.Held.{HeldAtAStep}
use Rattle.run_queues.specs.Showings.{Showing}
use Rattle.run_queues.proofs.Rules.{takes, learns, held, got_all}
use Rattle.run_queues.proofs.results.Results.take.Goals as goal
use Rattle.run_queues.proofs.results.Results.take.Goals.{in-Some-Found, in-None}

pub pop_as-requires-clause-rule : goal.pop_as-requires-clause-rule
pop_as-requires-clause-rule g c = (takes g.W.Right.right _ _ c.p.invariant.1 (subst (λ (s : Showing g.row.W.Denot). 0 < s.left) (sym c.p.view_is) c.requires.left), learns g.W.Right.right _ _)

pub returns-clause-empty : goal.returns-clause-empty
returns-clause-empty g c = elim c.match-pop_as.branch [
  | in-Some-Found w ↦ rw w.result-is tt
  | in-None w ↦ rw w.result-is (subst (λ (s : Showing g.row.W.Denot). HeldAtAStep g.W.Right.right 0 s) c.p.view_is (held g.W.Right.right 0 _ _ c.p.invariant.1 (refl, refl, refl, refl) w.in-None.ensures.rule.1))
]

pub returns-clause-all : goal.returns-clause-all
returns-clause-all g c = elim c.match-pop_as.branch [
  | in-Some-Found w ↦ rw w.result-is tt
  | in-None w ↦ rw w.result-is (got_all g.W.Right.right c.args.p.now (subst (λ (s : Showing g.row.W.Denot). HeldAtAStep g.W.Right.right 0 s) c.p.view_is (held g.W.Right.right 0 _ _ c.p.invariant.1 (refl, refl, refl, refl) w.in-None.ensures.rule.1)))
]
