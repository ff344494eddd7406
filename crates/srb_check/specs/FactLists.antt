-- Whether two lists of facts are equal.
use Rattle.std.specs.Prelude.{◌==◌, Bool, true, false, ◌&&◌, List}
use Rattle.std.specs.Coded.{coded_list}
use base.Stored.{Gv, gnil, gnum, gcons}
use Rattle.srb_terms.specs.contracts.fact.Fact as fact
use Rattle.srb_terms.specs.declared.fact.Fact.{Fact}

-- whether two codes are equal
abbrev pub same_code : Gv → Gv → Bool
same_code gnil gnil = true
same_code gnil (gnum n) = false
same_code gnil (gcons c d) = false
same_code (gnum m) gnil = false
same_code (gnum m) (gnum n) = m == n
same_code (gnum m) (gcons c d) = false
same_code (gcons a b) gnil = false
same_code (gcons a b) (gnum n) = false
same_code (gcons a b) (gcons c d) = same_code a c && same_code b d

-- the code of a list of facts, which no other list has
abbrev pub code_of : List Fact → Gv
code_of facts = (coded_list fact.the_row.coded).code facts

-- whether two lists of facts are equal: whether their codes are
unfoldable pub same_facts : List Fact → List Fact → Bool
same_facts a b = same_code (code_of a) (code_of b)
