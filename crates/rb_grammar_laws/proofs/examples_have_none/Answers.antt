use Rattle.rb_grammar_laws.proofs.Examples.{equalities-none, apart-none, disorder-none, twice-none, inner-none, undivided-none, repeated-none}
use Rattle.rb_grammar_laws.proofs.examples_have_none.Goals as goal

pub returns-clause-equalities : goal.returns-clause-equalities
returns-clause-equalities c = equalities-none

pub returns-clause-apart : goal.returns-clause-apart
returns-clause-apart c = apart-none

pub returns-clause-disorder : goal.returns-clause-disorder
returns-clause-disorder c = disorder-none

pub returns-clause-twice : goal.returns-clause-twice
returns-clause-twice c = twice-none

pub returns-clause-inner : goal.returns-clause-inner
returns-clause-inner c = inner-none

pub returns-clause-undivided : goal.returns-clause-undivided
returns-clause-undivided c = undivided-none

pub returns-clause-repeated : goal.returns-clause-repeated
returns-clause-repeated c = repeated-none
