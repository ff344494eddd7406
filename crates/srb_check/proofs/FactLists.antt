-- Lists of facts are the same exactly where they are equal.
use Rattle.std.proofs.Common.{◌≡◌, ℕ, ◌==◌, Bool, true, false, ◌&&◌, List, [], refl, ap, ap₂, sym, ◌∙◌, subst, arith}
use Rattle.std.specs.Bool.{Decides}
use Rattle.std.specs.Coded.{coded_list}
use Rattle.std.proofs.lemmas.Bool.{and_parts}
use Rattle.std.proofs.lemmas.Bool.Decides.{Decides-eqb}
use base.Stored.{Gv, gnil, gnum, gcons}
use Rattle.srb_terms.specs.contracts.fact.Fact as fact
use Rattle.srb_terms.specs.declared.fact.Fact.{Fact}
use Rattle.srb_check.specs.FactLists.{same_code, code_of, same_facts}

same_code-is : (a b : Gv) → same_code a b ≡ true → a ≡ b
same_code-is gnil gnil e = refl
same_code-is gnil (gnum n) e = absurd (grind (arith, e))
same_code-is gnil (gcons c d) e = absurd (grind (arith, e))
same_code-is (gnum m) gnil e = absurd (grind (arith, e))
same_code-is (gnum m) (gnum n) e = ap gnum ((Decides-eqb m n).0 e)
same_code-is (gnum m) (gcons c d) e = absurd (grind (arith, e))
same_code-is (gcons a b) gnil e = absurd (grind (arith, e))
same_code-is (gcons a b) (gnum n) e = absurd (grind (arith, e))
same_code-is (gcons a b) (gcons c d) e =
    let parts = and_parts (same_code a c) (same_code b d) e in ap₂ gcons (same_code-is a c parts.0) (same_code-is b d parts.1)

same_code-self : (a : Gv) → same_code a a ≡ true
same_code-self gnil = refl
same_code-self (gnum n) = (Decides-eqb n n).1 refl
same_code-self (gcons a b) = ap₂ (λ x y. x && y) (same_code-self a) (same_code-self b)

pub same_facts-decides : (a b : List Fact) → Decides (same_facts a b) (a ≡ b)
unfolding same_facts
same_facts-decides a b = (
  λ e. (coded_list fact.the_row.coded).inj a b (same_code-is (code_of a) (code_of b) e),
  λ e. subst (λ x. same_code (code_of a) (code_of x) ≡ true) e (same_code-self (code_of a)),
)

pub same_nothing : true ≡ same_facts [] []
same_nothing = sym ((same_facts-decides [] []).1 refl)
