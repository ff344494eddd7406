use Rattle.std.proofs.Common.{refl, ap, sym, ◌∙◌}
use Rattle.run_watch.specs.declared.step.Step.TheVariants.{Take}
use Rattle.run_serve.proofs.Owed.{on_ok, owed_makes}
use Rattle.run_serve.proofs.Rounds.{takes}
use Rattle.run_serve.proofs.turning.take_in.Goals as goal

pub returns-else-lost-clause-works : goal.returns-else-lost-clause-works
returns-else-lost-clause-works g c = λ before after told.
    takes c.say.result _ _ c.args.inp c.in-Ok.out _ _ _ _ c.in-Ok.ensures.makes (sym c.is_lost-lost.ensures ∙ c.if-lost.false) told c.say.ensures

pub returns-else-lost-clause-owed : goal.returns-else-lost-clause-owed
returns-else-lost-clause-owed g c = λ whole. on_ok c.say.result (owed_makes _ _ (Take c.args.inp) c.in-Ok.out tt c.in-Ok.ensures.makes whole)
