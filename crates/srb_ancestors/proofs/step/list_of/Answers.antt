use Rattle.std.proofs.Common.{◌≡◌, ℕ, List, ◌∷◌, IfOk, bytes_eq, arith, rules, ap, sym, ◌∙◌, subst}
use Rattle.indexmap.specs.IndexMap.{get}
use Rattle.srb_rules.specs.Lin.{lin_by}
use Rattle.srb_ancestors.specs.Lists.{list_in}
use Rattle.srb_ancestors.proofs.LinProofs.{one_module_list}
use Rattle.srb_ancestors.proofs.step.list_of.Goals as goal

pub returns-then-is_empty : goal.returns-then-is_empty
returns-then-is_empty c =
    let f : List ℕ → List (List ℕ) = list_in (get bytes_eq c.args.lists.now) in
    let whole : c.args.c.now ∷ f c.index.result.now ≡ lin_by f c.args.row.now c.args.c.now =
    one_module_list f c.args.row.now c.args.c.now c.index.result.now c.in_ok-modules.modules.items c.in_ok-modules.ensures
    (omega (arith, c.len.ensures, c.if-len-eq1.true)) c.index.ensures (sym c.in_ok-below.ensures ∙ c.is_empty.ensures.0 (search (rules, c.if-is_empty.true))) c.requires in
    let made : c.in_ok-copied.field-0 ∷ c.in_ok-list.list ≡ c.args.c.now ∷ f c.index.result.now =
    ap (λ (x : List ℕ). x ∷ c.in_ok-list.list) c.in_ok-copied.ensures ∙ ap (λ (xs : List (List ℕ)). c.args.c.now ∷ xs) c.in_ok-list.ensures in
    subst (λ (w : List (List ℕ)). IfOk c.pushed.result (λ n. n ≡ w)) (made ∙ whole) c.pushed.ensures
