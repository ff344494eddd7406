use Rattle.rb_expr_laws.proofs.Elsewhere.{stand-elsewhere, standing-are-lone, terms-go-on}
use Rattle.rb_expr_laws.proofs.Standing.{one-stands}
use Rattle.rb_expr_laws.proofs.forms_stand_alone.Goals as goal

pub returns-clause-lone : goal.returns-clause-lone
returns-clause-lone c = standing-are-lone

pub returns-clause-elsewhere : goal.returns-clause-elsewhere
returns-clause-elsewhere c = stand-elsewhere

pub returns-clause-power : goal.returns-clause-power
returns-clause-power c = terms-go-on

pub returns-clause-one : goal.returns-clause-one
returns-clause-one c = one-stands
