use Rattle.rb_lex_laws.proofs.Longest.{identifiers-longest, constants-longest, digits-longest}
use Rattle.rb_lex_laws.proofs.runs_are_longest.Goals as goal

pub returns-clause-identifiers : goal.returns-clause-identifiers
returns-clause-identifiers c = identifiers-longest

pub returns-clause-constants : goal.returns-clause-constants
returns-clause-constants c = constants-longest

pub returns-clause-digits : goal.returns-clause-digits
returns-clause-digits c = digits-longest
