-- The places are those of a reference and of an error that are computed.
use Rattle.std.proofs.Common.{◌≡◌, ℕ, List, [], ◌∷◌, codes, None, ap, sym, subst, ◌∙◌}
use Rattle.srb_terms.specs.declared.diag.Diag.{Diag}
use Rattle.srb_terms.specs.declared.span.Span.{Span}
use Rattle.rb_tree.specs.Trees.{span_at, span_of, span_of_node}
use Rattle.rb_tree.specs.declared.syntax.Suffix.{Suffix}
use Rattle.rb_tree.specs.declared.syntax.Tree.{Tree}
use Rattle.rb_tree.specs.declared.syntax.Node.{Node, out-Node}
use Rattle.rb_tree.specs.declared.syntax.Node.TheOpen.{Node-F}
use Rattle.rb_tree.specs.declared.syntax.Node.TheVariants as node
use Rattle.rb_tree.specs.declared.syntax.Node.TheVariants.{rolls-Constant, rolls-Name, rolls-Post, rolls-Whole}
use Rattle.rb_tree.specs.declared.syntax.Node.TheViews.{roll-Node, out-roll-Node}
use Rattle.rb_grammar.specs.Places.{Each}
use Rattle.rb_places_laws.specs.TreePlaces.{IsPlaceIn}
use Rattle.srb_sig.specs.Views.{View, view_of}
use Rattle.srb_references.specs.Examples.{CLASS, from_to}
use Rattle.srb_references.specs.MalformedTypes.{is_malformed, malformed_errors, malformed_type, types_of}
use Rattle.srb_references.specs.Readings.{is_constant, parts}
use Rattle.srb_references.specs.References.{below, below_by_node, row_visits}
use Rattle.srb_references.specs.TypeForms.{begins_path, is_t, type_form}
use Rattle.srb_references.specs.declared.reading.Reading.{Reading}
use Rattle.srb_references.specs.declared.reference.Reference.{Reference}
use Rattle.srb_references.proofs.Equations.{below_is}
use Rattle.srb_references.proofs.Examples.{classes}
use Rattle.srb_references_laws.proofs.Trees.{malformed-in-trees, references-in-trees}
use Rattle.srb_references_laws.specs.Examples.{ASSERTED, FrontIsAPlace, MalformedIsAPlace, ONE}

pub front-is-a-place : FrontIsAPlace
front-is-a-place = (subst (Each (λ (r : Reference). IsPlaceIn CLASS r.span)) classes (references-in-trees CLASS)).0

-- ---- the malformed type expression

out-of : (r : Node-F Node Tree) (n : Node) → roll-Node r ≡ n → out-Node n ≡ r
out-of r n e = ap out-Node (sym e) ∙ out-roll-Node r

out-whole : (words : List ℕ) (span : Span) → out-Node (node.Whole None words span) ≡ Node-F.Whole None words span
out-whole words span = out-of (Node-F.Whole None words span) _ (rolls-Whole _ _ _)

out-constant : (name : List ℕ) (span : Span) → out-Node (node.Constant name span) ≡ Node-F.Constant name span
out-constant name span = out-of (Node-F.Constant name span) _ (rolls-Constant _ _)

out-name : (name : List ℕ) (span : Span) → out-Node (node.Name name span) ≡ Node-F.Name name span
out-name name span = out-of (Node-F.Name name span) _ (rolls-Name _ _)

out-post : (receiver : Tree) (suffixes : List (Suffix Tree)) (span : Span) → out-Node (node.Post receiver suffixes span) ≡ Node-F.Post receiver suffixes span
out-post receiver suffixes span = out-of (Node-F.Post receiver suffixes span) _ (rolls-Post _ _ _)

below-at : (n : Node) (m : Reading) (scope : List (List ℕ)) →
    below (record { node = n }) m scope ≡ row_visits (λ x. x) below (parts (λ x. x) m scope (out-Node n))
unfolding below_by_node
below-at n m scope = below_is (record { node = n }) m scope

malformed : (v : View) → malformed_errors v (types_of ASSERTED) ≡ malformed_type ONE ∷ []
unfolding types_of is_malformed is_constant begins_path is_t type_form
malformed v = simp (below-at, out-post, out-constant, out-name, out-whole)

one-at : span_of ONE ≡ from_to 9 10
unfolding span_of span_of_node
one-at = ap span_at (out-whole (codes "1") (from_to 9 10))

pub malformed-is-a-place : MalformedIsAPlace
malformed-is-a-place =
    let v = view_of [] in
    subst (IsPlaceIn ASSERTED) one-at (subst (Each (λ (e : Diag). IsPlaceIn ASSERTED e.span)) (malformed v) (malformed-in-trees v ASSERTED)).0
