-- The references of the programs of the examples, computed node by node.
use Rattle.std.proofs.Common.{◌≡◌, ℕ, List, Option, ap, sym, ◌∙◌}
use Rattle.srb_terms.specs.declared.span.Span.{Span}
use Rattle.rb_tree.specs.declared.syntax.Argument.{Argument}
use Rattle.rb_tree.specs.declared.syntax.Block.{Block}
use Rattle.rb_tree.specs.declared.syntax.PlacedName.{PlacedName}
use Rattle.rb_tree.specs.declared.syntax.Reference as syntax
use Rattle.rb_tree.specs.declared.syntax.Suffix.{Suffix}
use Rattle.rb_tree.specs.declared.syntax.Tree.{Tree}
use Rattle.rb_tree.specs.declared.syntax.Node.{Node, out-Node}
use Rattle.rb_tree.specs.declared.syntax.Node.TheOpen.{Node-F}
use Rattle.rb_tree.specs.declared.syntax.Node.TheVariants as node
use Rattle.rb_tree.specs.declared.syntax.Node.TheVariants.{rolls-Body, rolls-Assign, rolls-Command, rolls-Constant, rolls-TopConstant, rolls-Post, rolls-Name, rolls-Call, rolls-Class}
use Rattle.rb_tree.specs.declared.syntax.Node.TheViews.{roll-Node, out-roll-Node}
use Rattle.rb_views.specs.Paths.{path_of, path_of_prefix}
use Rattle.rb_views.specs.Prefixes.{prefix_of}
use Rattle.rb_views.specs.Targets.{callee_of}
use Rattle.srb_references.specs.declared.reading.Reading.{Reading}
use Rattle.srb_references.specs.Readings.{parts, is_constant}
use Rattle.srb_references.specs.TypeForms.{begins_path, is_t, is_path, type_form}
use Rattle.srb_references.specs.References.{references_of, own_references, row_visits, below, below_by_node}
use Rattle.srb_references.specs.Examples.{ClassRefers, CallsRefer, PathsRefer}
use Rattle.srb_references.proofs.Equations.{below_is}

-- ---- what each node is

out-of : (r : Node-F Node Tree) (n : Node) → roll-Node r ≡ n → out-Node n ≡ r
out-of r n e = ap out-Node (sym e) ∙ out-roll-Node r

out-body : (statements : List Tree) (span : Span) → out-Node (node.Body statements span) ≡ Node-F.Body statements span
out-body statements span = out-of (Node-F.Body statements span) _ (rolls-Body _ _)

out-assign : (target value : Tree) (span : Span) → out-Node (node.Assign target value span) ≡ Node-F.Assign target value span
out-assign target value span = out-of (Node-F.Assign target value span) _ (rolls-Assign _ _ _)

out-command : (callee : Tree) (arguments : List (Argument Tree)) (block : Option (Block Tree)) (span : Span) →
    out-Node (node.Command callee arguments block span) ≡ Node-F.Command callee arguments block span
out-command callee arguments block span = out-of (Node-F.Command callee arguments block span) _ (rolls-Command _ _ _ _)

out-constant : (name : List ℕ) (span : Span) → out-Node (node.Constant name span) ≡ Node-F.Constant name span
out-constant name span = out-of (Node-F.Constant name span) _ (rolls-Constant _ _)

out-top : (name : List ℕ) (name_span span : Span) → out-Node (node.TopConstant name name_span span) ≡ Node-F.TopConstant name name_span span
out-top name name_span span = out-of (Node-F.TopConstant name name_span span) _ (rolls-TopConstant _ _ _)

out-post : (receiver : Tree) (suffixes : List (Suffix Tree)) (span : Span) → out-Node (node.Post receiver suffixes span) ≡ Node-F.Post receiver suffixes span
out-post receiver suffixes span = out-of (Node-F.Post receiver suffixes span) _ (rolls-Post _ _ _)

out-name : (name : List ℕ) (span : Span) → out-Node (node.Name name span) ≡ Node-F.Name name span
out-name name span = out-of (Node-F.Name name span) _ (rolls-Name _ _)

out-call : (name : List ℕ) (name_span : Span) (arguments : Option (List (Argument Tree))) (block : Option (Block Tree)) (span : Span) →
    out-Node (node.Call name name_span arguments block span) ≡ Node-F.Call name name_span arguments block span
out-call name name_span arguments block span = out-of (Node-F.Call name name_span arguments block span) _ (rolls-Call _ _ _ _ _)

out-class : (path : List PlacedName) (superclass : Option syntax.Reference) (body : Tree) (span : Span) →
    out-Node (node.Class path superclass body span) ≡ Node-F.Class path superclass body span
out-class path superclass body span = out-of (Node-F.Class path superclass body span) _ (rolls-Class _ _ _ _)

-- what is read below a tree, by its node
below-at : (n : Node) (m : Reading) (scope : List (List ℕ)) →
    below (record { node = n }) m scope ≡ row_visits (λ x. x) below (parts (λ x. x) m scope (out-Node n))
unfolding below_by_node
below-at n m scope = below_is (record { node = n }) m scope

-- ---- the examples

pub paths : PathsRefer
unfolding references_of own_references is_constant begins_path is_t is_path type_form path_of path_of_prefix prefix_of callee_of
paths = simp (below-at, out-constant, out-top, out-post)

pub calls : CallsRefer
unfolding references_of own_references is_constant begins_path is_t is_path type_form path_of path_of_prefix prefix_of callee_of
calls = simp (below-at, out-body, out-assign, out-command, out-constant, out-post, out-name, out-call)

pub classes : ClassRefers
unfolding references_of own_references is_constant begins_path is_t is_path type_form path_of path_of_prefix prefix_of callee_of
classes = simp (below-at, out-body, out-command, out-constant, out-name, out-call, out-class)
