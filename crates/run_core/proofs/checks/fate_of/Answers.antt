use Rattle.run_core.proofs.checks.fate_of.Goals as goal

pub returns-in-Some-clause-fate : goal.returns-in-Some-clause-fate
returns-in-Some-clause-fate c = c.fate_at.ensures c.args.path.now c.in-Some.ensures.some
