-- The places in a tree at which errors can stand are those in its node.
use Rattle.std.proofs.Common.{◌≡◌, ℕ, List, [], ◌∷◌, map, Option, Some, None, refl, sym, ap, subst, ◌∙◌}
use mathlib.Core.Path.{transport}
use Rattle.srb_terms.specs.declared.param_kind.ParamKind.{ParamKind}
use Rattle.srb_terms.specs.declared.span.Span.{Span}
use Rattle.rb_tree.specs.Trees.{span_of, span_at, span_of_node}
use Rattle.rb_tree.specs.declared.syntax.Argument.{Argument}
use Rattle.rb_tree.specs.declared.syntax.Argument.TheVariants as argument
use Rattle.rb_tree.specs.declared.syntax.Guarded.{Guarded}
use Rattle.rb_tree.specs.declared.syntax.Pair.TheVariants as pair
use Rattle.rb_tree.specs.declared.syntax.Parameter.{Parameter}
use Rattle.rb_tree.specs.declared.syntax.Piece.TheVariants as piece
use Rattle.rb_tree.specs.declared.syntax.Rescue.{Rescue}
use Rattle.rb_tree.specs.declared.syntax.Suffix.TheVariants as suffix
use Rattle.rb_tree.specs.declared.syntax.Tree.{Tree}
use Rattle.rb_tree.specs.declared.syntax.Node.{Node, out-Node}
use Rattle.rb_tree.specs.declared.syntax.Node.TheOpen.{Node-F}
use Rattle.rb_tree.specs.declared.syntax.Node.TheViews.{roll-Node, out-roll-Node, roll-out-Node}
use Rattle.rb_tree.specs.declared.syntax.Node.TheFolds.{rec-roll-Node, rec-roll-Tree, map-Node}
use Rattle.rb_grammar.specs.Places.{Each}
use Rattle.rb_places_laws.specs.ErrorPlaces.{HasParts, HasNode, HasErrorPlaces}

-- ---- a fact of each element, and the same fact of what the elements are mapped to

pub each-mapped : {A B : Type 0} (S : A → Type 0) (Q : B → Type 0) (f : A → B) → ((x : A) → S x ≡ Q (f x)) → (xs : List A) → Each S xs ≡ Each Q (map f xs)
each-mapped S Q f h [] = refl
each-mapped S Q f h (x ∷ xs) = λ i. h x i × each-mapped S Q f h xs i

pub both : {A B C D : Type 0} → A ≡ C → B ≡ D → (A × B) ≡ (C × D)
both p q = λ i. p i × q i

three : {A B C A' B' C' : Type 0} → A ≡ A' → B ≡ B' → C ≡ C' → (A × B × C) ≡ (A' × B' × C')
three p q r = λ i. p i × q i × r i

four : {A B C D A' B' C' D' : Type 0} → A ≡ A' → B ≡ B' → C ≡ C' → D ≡ D' → (A × B × C × D) ≡ (A' × B' × C' × D')
four p q r s = λ i. p i × q i × r i × s i

-- by whether a parameter has a default
by-default : {X : Type 0} (S Q : Parameter X → Type 0) →
    ((kind : ParamKind) (name : List ℕ) (span : Span) → S (record { kind = kind; name = name; span = span; default = None }) ≡ Q (record { kind = kind; name = name; span = span; default = None })) →
    ((kind : ParamKind) (name : List ℕ) (span : Span) (d : X) → S (record { kind = kind; name = name; span = span; default = Some d }) ≡ Q (record { kind = kind; name = name; span = span; default = Some d })) →
    (p : Parameter X) → S p ≡ Q p
by-default {X = X} S Q h k p = go p.default
  where
    go : (o : Option X) → S (record { kind = p.kind; name = p.name; span = p.span; default = o }) ≡ Q (record { kind = p.kind; name = p.name; span = p.span; default = o })
    go None = h p.kind p.name p.span
    go (Some d) = k p.kind p.name p.span d

-- by what stands after the clauses
by-guarded : {X : Type 0} (S Q : Guarded X → Type 0) →
    ((b : X) (rs : List (Rescue X)) → S (record { body = b; rescues = rs; otherwise = None; ensure = None }) ≡ Q (record { body = b; rescues = rs; otherwise = None; ensure = None })) →
    ((b : X) (rs : List (Rescue X)) (e : X) → S (record { body = b; rescues = rs; otherwise = None; ensure = Some e }) ≡ Q (record { body = b; rescues = rs; otherwise = None; ensure = Some e })) →
    ((b : X) (rs : List (Rescue X)) (o : X) → S (record { body = b; rescues = rs; otherwise = Some o; ensure = None }) ≡ Q (record { body = b; rescues = rs; otherwise = Some o; ensure = None })) →
    ((b : X) (rs : List (Rescue X)) (o e : X) → S (record { body = b; rescues = rs; otherwise = Some o; ensure = Some e }) ≡ Q (record { body = b; rescues = rs; otherwise = Some o; ensure = Some e })) →
    (g : Guarded X) → S g ≡ Q g
by-guarded {X = X} S Q h k l m g = go g.otherwise g.ensure
  where
    go : (o e : Option X) → S (record { body = g.body; rescues = g.rescues; otherwise = o; ensure = e }) ≡ Q (record { body = g.body; rescues = g.rescues; otherwise = o; ensure = e })
    go None None = h g.body g.rescues
    go None (Some e) = k g.body g.rescues e
    go (Some o) None = l g.body g.rescues o
    go (Some o) (Some e) = m g.body g.rescues o e

-- ---- the fold, by the node

module _ (P : Span → Type 0) where
  module _ (N X : Type 0) (u : N → Node) (v : X → Tree) (k : Tree → Type 0) where
    abbrev plain : Node-F N X → Node-F Node Tree
    plain x = map-Node N X Node Tree u v x

    -- the fact of the trees, and their places
    abbrev Has : X → Type 0
    Has x = k (v x)

    abbrev place : X → Span
    place x = span_of (v x)

    abbrev Same : Node-F N X → Type 1
    Same x = HasParts P Has place x ≡ HasParts P k span_of (plain x)

    same-arguments : (args : List (Argument X)) (span : Span) → Same (Node-F.Yield (Some args) span)
    same-arguments args span = each-mapped _ _ _ (elim [ argument.Positional value ↦ refl | argument.Keyword name span value ↦ refl | argument.Block span value ↦ refl ]) args

    same-guarded : (g : Guarded X) (span : Span) → Same (Node-F.Begin g span)
    same-guarded g span = by-guarded (λ g. HasParts P Has place {N = N} (Node-F.Begin g span)) (λ g. HasParts P k span_of (plain (Node-F.Begin g span)))
        (λ b rs. four refl (each-mapped _ _ _ (λ r. three (each-mapped _ _ _ (λ x. refl) r.patterns) refl refl) rs) refl refl)
        (λ b rs e. four refl (each-mapped _ _ _ (λ r. three (each-mapped _ _ _ (λ x. refl) r.patterns) refl refl) rs) refl refl)
        (λ b rs o. four refl (each-mapped _ _ _ (λ r. three (each-mapped _ _ _ (λ x. refl) r.patterns) refl refl) rs) refl refl)
        (λ b rs o e. four refl (each-mapped _ _ _ (λ r. three (each-mapped _ _ _ (λ x. refl) r.patterns) refl refl) rs) refl refl)
        g

    -- the places in a node are told by those in the trees in it
    pub same-parts : (x : Node-F N X) → Same x
    same-parts (Node-F.Body statements span) = each-mapped _ _ _ (λ x. refl) statements
    same-parts (Node-F.Jump word None span) = refl
    same-parts (Node-F.Jump word (Some value) span) = refl
    same-parts (Node-F.Command callee args None span) = three refl (same-arguments args span) refl
    same-parts (Node-F.Command callee args (Some b) span) = three refl (same-arguments args span) refl
    same-parts (Node-F.Post receiver suffixes span) = both refl (each-mapped _ _ _ (elim [
      | suffix.Call how name name_span None None span ↦ refl
      | suffix.Call how name name_span None (Some b) span ↦ refl
      | suffix.Call how name name_span (Some args) None span ↦ four refl refl (same-arguments args span) refl
      | suffix.Call how name name_span (Some args) (Some b) span ↦ four refl refl (same-arguments args span) refl
      | suffix.Constant name name_span span ↦ refl
      | suffix.Index args span ↦ three refl refl (same-arguments args span)
    ]) suffixes)
    same-parts (Node-F.Text pieces span) = each-mapped _ _ _ (elim [ piece.Words words span ↦ refl | piece.Code body span ↦ refl ]) pieces
    same-parts (Node-F.Call name name_span None None span) = refl
    same-parts (Node-F.Call name name_span None (Some b) span) = refl
    same-parts (Node-F.Call name name_span (Some args) None span) = three refl (same-arguments args span) refl
    same-parts (Node-F.Call name name_span (Some args) (Some b) span) = three refl (same-arguments args span) refl
    same-parts (Node-F.Yield None span) = refl
    same-parts (Node-F.Yield (Some args) span) = same-arguments args span
    same-parts (Node-F.Super None span) = refl
    same-parts (Node-F.Super (Some args) span) = same-arguments args span
    same-parts (Node-F.Array elements span) = each-mapped _ _ _ (λ x. refl) elements
    same-parts (Node-F.Hash pairs span) = each-mapped _ _ _ (elim [ pair.Arrow key value ↦ refl | pair.Label name span value ↦ refl ]) pairs
    same-parts (Node-F.If which condition body arms None span) = four refl refl (each-mapped _ _ _ (λ a. refl) arms) refl
    same-parts (Node-F.If which condition body arms (Some otherwise) span) = four refl refl (each-mapped _ _ _ (λ a. refl) arms) refl
    same-parts (Node-F.Case None whens None span) = three refl (each-mapped _ _ _ (λ w. both (each-mapped _ _ _ (λ x. refl) w.patterns) refl) whens) refl
    same-parts (Node-F.Case None whens (Some otherwise) span) = three refl (each-mapped _ _ _ (λ w. both (each-mapped _ _ _ (λ x. refl) w.patterns) refl) whens) refl
    same-parts (Node-F.Case (Some subject) whens None span) = three refl (each-mapped _ _ _ (λ w. both (each-mapped _ _ _ (λ x. refl) w.patterns) refl) whens) refl
    same-parts (Node-F.Case (Some subject) whens (Some otherwise) span) = three refl (each-mapped _ _ _ (λ w. both (each-mapped _ _ _ (λ x. refl) w.patterns) refl) whens) refl
    same-parts (Node-F.Begin guarded span) = same-guarded guarded span
    same-parts (Node-F.Def visibility own name name_span parameters guarded span) =
        three refl (each-mapped _ _ _ (by-default _ _ (λ kind name span. refl) (λ kind name span d. refl)) parameters) (same-guarded guarded span)
    same-parts x = refl

    same-place : (x : Node-F N X) → span_at x ≡ span_at (plain x)
    same-place (Node-F.Body statements span) = refl
    same-place x = refl

    pub same-node : (x : Node-F N X) → HasNode P Has place x ≡ HasNode P k span_of (plain x)
    same-node x = both (ap P (same-place x)) (same-parts x)

  rolled : (r : Node-F Node Tree) → HasErrorPlaces P (record { node = roll-Node r }) ≡ HasNode P (HasErrorPlaces P) span_of r
  unfolding HasErrorPlaces
  rolled r =
      rec-roll-Tree (Type 0) (Type 0) (λ N X node tree node_has has n. HasNode P has (λ x. span_of (tree x)) n) (λ N X node tree node_has has t. node_has t.node)
      (λ N X u v j k x. refl) (record { node = roll-Node r })
      ∙ rec-roll-Node (Type 0) (Type 0) (λ N X node tree node_has has n. HasNode P has (λ x. span_of (tree x)) n) (λ N X node tree node_has has t. node_has t.node)
      (λ N X u v j k x. same-node N X u v k x) r

  -- ---- the law

  -- from the node of a tree to the tree
  pub has : (r : Node-F Node Tree) → HasNode P (HasErrorPlaces P) span_of r → HasErrorPlaces P (record { node = roll-Node r })
  has r h = transport (sym (rolled r)) h

  pub has-as : (t : Tree) (r : Node-F Node Tree) → roll-Node r ≡ t.node → HasNode P (HasErrorPlaces P) span_of r → HasErrorPlaces P t
  has-as t r e h = subst (λ n. HasErrorPlaces P (record { node = n })) e (has r h)

  -- from a tree to its node
  pub opened : (t : Tree) → HasErrorPlaces P t → HasNode P (HasErrorPlaces P) span_of (out-Node t.node)
  opened t h = transport (rolled (out-Node t.node)) (subst (λ n. HasErrorPlaces P (record { node = n })) (sym (roll-out-Node t.node)) h)

  pub opened-as : (t : Tree) (r : Node-F Node Tree) → out-Node t.node ≡ r → HasErrorPlaces P t → HasNode P (HasErrorPlaces P) span_of r
  opened-as t r e h = subst (HasNode P (HasErrorPlaces P) span_of) e (opened t h)

  pub taken-apart : (t : Tree) (r : Node-F Node Tree) → roll-Node r ≡ t.node → HasErrorPlaces P t → HasNode P (HasErrorPlaces P) span_of r
  taken-apart t r e h = opened-as t r (ap out-Node (sym e) ∙ out-roll-Node r) h

  -- the place of the tree itself
  pub place-has : (t : Tree) → HasErrorPlaces P t → P (span_of t)
  unfolding span_of span_of_node
  place-has t h = (opened t h).0
