use Rattle.rb_text_laws.proofs.Verdicts.{each-text-is-judged, one-verdict}
use Rattle.rb_text_laws.proofs.texts_have_one_verdict.Goals as goal

pub returns-clause-some : goal.returns-clause-some
returns-clause-some c = each-text-is-judged

pub returns-clause-one : goal.returns-clause-one
returns-clause-one c = one-verdict
