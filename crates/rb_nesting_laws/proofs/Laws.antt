-- The laws of nesting.
use Rattle.rb_nesting_laws.specs.Nesting.{TreesNest}
use Rattle.rb_nesting_laws.proofs.Derived.{body}
use Rattle.rb_nesting_laws.proofs.Goes.{row}

pub trees-nest : TreesNest
trees-nest tokens t r d u i = (body d (row r)).nested.0 u i
