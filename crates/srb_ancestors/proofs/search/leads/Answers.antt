use Rattle.std.proofs.Common.{◌≡◌, ◌+◌, ℕ, List, bytes_eq, arith, rules, ap, sym, ◌∙◌, subst, Some, unwrap_or, []}
use Rattle.std.proofs.lemmas.Bool.{false≢true}
use Rattle.indexmap.specs.IndexMap.{get}
use Rattle.srb_ancestors.specs.Search.{with_ends, Searched}
use Rattle.srb_ancestors.proofs.SearchProofs.{searched_more, searched_found, searched_all, none_past}
use Rattle.srb_ancestors.proofs.search.leads.Goals as goal

pub returns-in-None : goal.returns-in-None
returns-in-None c = λ ls rows.
    searched_all (get bytes_eq c.args.rows.now) c.args.from.now c.args.to.now c.places.seen.keys c.places.at ls c.places.invariant
    (none_past c.places.seen.keys c.places.at c.in-None.ensures.key) rows

pub returns-then-is_same : goal.returns-then-is_same
returns-then-is_same c = λ ls rows.
    searched_found (get bytes_eq c.args.rows.now) c.args.from.now c.args.to.now c.places.seen.keys c.places.at ls c.places.invariant
    (sym c.in-Some.ensures.key ∙ ap Some (c.is_same.ensures.0 (search (rules, c.if-is_same.true)))) rows

pub places-preserved : goal.places-preserved
places-preserved c =
    let name : List ℕ = c.in-Some.name.now in
    let grown : c.follow.new.seen.keys ≡ with_ends c.places.seen.keys (unwrap_or (get bytes_eq c.args.rows.now name) []) =
    c.in_ok-follow-in-Some.ensures ∙ ap (λ (n : List ℕ). with_ends c.places.seen.keys (unwrap_or (get bytes_eq c.args.rows.now n) [])) c.in_ok-name-in-Some.ensures in
    subst (λ (keys : List (List ℕ)). Searched (get bytes_eq c.args.rows.now) c.args.from.now c.args.to.now keys (c.places.at + 1)) (sym grown)
    (searched_more (get bytes_eq c.args.rows.now) c.args.from.now c.args.to.now c.places.seen.keys c.places.at name c.places.invariant (sym c.in-Some.ensures.key)
    (λ same. false≢true (sym c.if-is_same.false ∙ c.is_same.ensures.1 same)))

pub returns : goal.returns
returns c = λ ls rows.
    searched_all (get bytes_eq c.args.rows.now) c.args.from.now c.args.to.now c.places.seen.keys c.places.at ls c.places.invariant
    (omega (arith, c.len-count.ensures.small, c.len-count.ensures.len)) rows
