-- In a table that stands for some facts a reference is found as by the facts.
use Rattle.std.proofs.Common.{◌≡◌, ℕ, List, [], ◌∷◌, ◌++◌, ap, sym, ◌∙◌, refl, if◌then◌else◌}
use Rattle.std.proofs.lemmas.Grind.{flat_map-append}
use Rattle.std.specs.List.{flat_map}
use Rattle.std.specs.Option.{unwrap_or}
use Rattle.srb_terms.specs.Worlds.{kind_at, within_at}
use Rattle.srb_terms.specs.declared.fact.Fact.{Fact}
use Rattle.srb_terms.specs.declared.world.World.{World}
use Rattle.srb_rules.specs.declared.position.Position.{Position}
use Rattle.srb_rules.specs.declared.position.Position.TheVariants as position
use Rattle.srb_rules.specs.Kinds.{is_body, kind_of, within_of}
use Rattle.srb_rules.specs.Lookup.{looked_up}
use Rattle.srb_rules.specs.Parents.{alone_by}
use Rattle.srb_rules.specs.Resolves.{ancestors, resolves}
use Rattle.srb_rules.specs.Standing.{Stands, ancestors_at, resolved_at}
use Rattle.srb_references.specs.declared.reference.Reference.{Reference}
use Rattle.rb_tree.specs.declared.syntax.Tree.{Tree}
use Rattle.srb_sig.specs.Views.{view_at, view_of}
use Rattle.srb_sig.proofs.Views.{view-stands}
use Rattle.srb_references.specs.MalformedTypes as types
use Rattle.srb_references.specs.References.{is_wanted, is_found, found_at, error_by, errors_by, reference_errors, own_references, own_errors, references_of, visits}

-- ---- constants

within-stands : (w : World) (fs : List Fact) → Stands w fs → within_at w ≡ within_of fs
within-stands w fs s = λ i scope last. s.names scope last i

alone-stands : (w : World) (fs : List Fact) → Stands w fs → (c : List ℕ) → alone_by (kind_at w) c ≡ alone_by (kind_of fs) c
alone-stands w fs s c = ap (λ k. if is_body k then c ∷ [] else []) (s.kinds c)

ancestors-stand : (w : World) (fs : List Fact) → Stands w fs → (p : Position) (c : List ℕ) → ancestors_at w p c ≡ ancestors fs p c
ancestors-stand w fs s position.Value c = ap (λ l. unwrap_or l []) (s.lins c)
ancestors-stand w fs s position.Parent c = alone-stands w fs s c

pub resolved-stands :
    (w : World) (fs : List Fact) → Stands w fs → (scope path : List (List ℕ)) (p : Position) → resolved_at w scope path p ≡ resolves fs scope path p
unfolding resolves
resolved-stands w fs s scope path p =
    λ i. looked_up (within-stands w fs s i) (λ c. ancestors-stand w fs s p c i) scope path

-- ---- references

found-stands : (w : World) (fs : List Fact) → Stands w fs → (r : Reference) → found_at w r ≡ is_found fs r
unfolding is_found
found-stands w fs s r = λ i. is_wanted (λ c. s.kinds c i) r.wants_body (resolved-stands w fs s r.scope r.path r.position i)

pub errors-stand : (w : World) (fs : List Fact) → Stands w fs → (rs : List Reference) → errors_by (found_at w) rs ≡ reference_errors fs rs
unfolding reference_errors
errors-stand w fs s rs = λ i. errors_by (λ r. found-stands w fs s r i) rs

-- ---- what a program mentions

-- what is found in rows that are joined is what is found in each row, joined
joined-rows : {A B C : Type 0} (f : B → List C) (row : A → List B) (xs : List A) → flat_map (λ x. flat_map f (row x)) xs ≡ flat_map f (flat_map row xs)
joined-rows f row [] = refl
joined-rows f row (x ∷ xs) = ap (λ r. flat_map f (row x) ++ r) (joined-rows f row xs) ∙ sym (flat_map-append f (row x) (flat_map row xs))

pub mentions-stand : (w : World) (fs : List Fact) → Stands w fs → (t : Tree) →
    flat_map (own_errors (found_at w)) (visits t) ++ flat_map (types.own_errors (view_at w)) (visits t)
    ≡ reference_errors fs (references_of t) ++ types.malformed_errors (view_of fs) (types.types_of t)
unfolding references_of types.types_of
mentions-stand w fs s t = λ i.
    (joined-rows (error_by (found_at w)) own_references (visits t) ∙ errors-stand w fs s (flat_map own_references (visits t))) i
    ++ (joined-rows (types.malformed_errors_of (view_at w)) types.own_types (visits t)
    ∙ ap (λ v. types.malformed_errors v (flat_map types.own_types (visits t))) (view-stands w fs s)) i
