use Rattle.std.proofs.Common.{◌≡◌, ℕ, List, Some, ◌∙◌, sym, ap, cond}
use Rattle.indexmap.proofs.MapLemmas.{OnOk-map}
use Rattle.srb_terms.specs.Worlds.{has_colon, inner_at, joined}
use Rattle.srb_table.proofs.Colons.{same_name}
use Rattle.srb_table.proofs.inner.add.Goals as goal

pub returns-in_ok-from_str-in-Some : goal.returns-in_ok-from_str-in-Some
returns-in_ok-from_str-in-Some c =
    let s : List ℕ = c.in_ok-scope-in-Some.scope in
    let l : List ℕ = c.in_ok-from_str-in-Some.field-0 in
    let scope-is : s ≡ c.in-Some.scope.now = c.in_ok-scope-in-Some.ensures in
    let last-is : l ≡ c.in-Some.last.now = c.in_ok-from_str-in-Some.ensures in
    let name-is : c.args.name.now ≡ joined s l = sym c.as_str.ensures.text ∙ c.in-Some.ensures.0 ∙ sym (λ i. joined (scope-is i) (last-is i)) in
    OnOk-map c.put.result _ _
    (λ h scope last none. h scope last
    ∙ (λ i. cond (same_name c.args.name.now s l scope last name-is (ap has_colon last-is ∙ c.in-Some.ensures.1) none i) (Some c.args.name.now) (inner_at scope last c.args.table.now.entries)))
    c.put.ensures
