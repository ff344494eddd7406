use Rattle.rb_lex_laws.proofs.Numbers.{fits-small}
use Rattle.rb_lex_laws.proofs.fits_are_small.Goals as goal

pub returns : goal.returns
returns c = fits-small
