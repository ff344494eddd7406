-- A tree stands at tokens exactly where its node does, and the trees in it.
use Rattle.std.proofs.Common.{◌≡◌, ◌⊎◌, inl, inr, ℕ, List, [], ◌∷◌, map, Option, Some, None, refl, sym, ap, subst, ◌∙◌}
use mathlib.Core.Path.{transport}
use Rattle.rb_tree.specs.Trees.{span_of, span_at, span_of_node}
use Rattle.rb_tree.specs.declared.token.Token.{Token}
use Rattle.srb_terms.specs.declared.param_kind.ParamKind.{ParamKind}
use Rattle.srb_terms.specs.declared.span.Span.{Span}
use Rattle.rb_tree.specs.declared.syntax.Guarded.{Guarded}
use Rattle.rb_tree.specs.declared.syntax.Rescue.{Rescue}
use Rattle.rb_tree.specs.declared.syntax.Parameter.{Parameter}
use Rattle.rb_tree.specs.declared.syntax.Tree.{Tree}
use Rattle.rb_tree.specs.declared.syntax.Node.{Node, out-Node}
use Rattle.rb_tree.specs.declared.syntax.Node.TheOpen.{Node-F}
use Rattle.rb_tree.specs.declared.syntax.Node.TheViews.{roll-Node, out-roll-Node, roll-out-Node}
use Rattle.rb_tree.specs.declared.syntax.Node.TheFolds.{rec-roll-Node, rec-roll-Tree, map-Node}
use Rattle.rb_tree.specs.declared.syntax.Suffix.TheVariants as suffix
use Rattle.rb_tree.specs.declared.syntax.Argument.TheVariants as argument
use Rattle.rb_tree.specs.declared.syntax.Piece.TheVariants as piece
use Rattle.rb_tree.specs.declared.syntax.Pair.TheVariants as pair
use Rattle.rb_grammar.specs.Places.{Each, IsPlaced, DoesNodeStand, StandsAt, TreesStandByNodes}

-- ---- a fact of each element, and the same fact of what the elements are mapped to

each-mapped : {A B : Type 0} (P : A → Type 0) (Q : B → Type 0) (f : A → B) → ((x : A) → P x ≡ Q (f x)) → (xs : List A) → Each P xs ≡ Each Q (map f xs)
each-mapped P Q f h [] = refl
each-mapped P Q f h (x ∷ xs) = λ i. h x i × each-mapped P Q f h xs i

both : {A B C D : Type 0} → A ≡ C → B ≡ D → (A × B) ≡ (C × D)
both p q = λ i. p i × q i

three : {A B C A' B' C' : Type 0} → A ≡ A' → B ≡ B' → C ≡ C' → (A × B × C) ≡ (A' × B' × C')
three p q r = λ i. p i × q i × r i

four : {A B C D A' B' C' D' : Type 0} → A ≡ A' → B ≡ B' → C ≡ C' → D ≡ D' → (A × B × C × D) ≡ (A' × B' × C' × D')
four p q r s = λ i. p i × q i × r i × s i

five : {A B C D E A' B' C' D' E' : Type 0} → A ≡ A' → B ≡ B' → C ≡ C' → D ≡ D' → E ≡ E' → (A × B × C × D × E) ≡ (A' × B' × C' × D' × E')
five p q r s t = λ i. p i × q i × r i × s i × t i

-- by whether a parameter has a default
by-default : {X : Type 0} (P Q : Parameter X → Type 0) → ((kind : ParamKind) (name : List ℕ) (span : Span) → P (record { kind = kind; name = name; span = span; default = None }) ≡ Q (record { kind = kind; name = name; span = span; default = None })) →
    ((kind : ParamKind) (name : List ℕ) (span : Span) (d : X) → P (record { kind = kind; name = name; span = span; default = Some d }) ≡ Q (record { kind = kind; name = name; span = span; default = Some d })) → (p : Parameter X) → P p ≡ Q p
by-default {X = X} P Q h k p = go p.default
  where
    go : (o : Option X) → P (record { kind = p.kind; name = p.name; span = p.span; default = o }) ≡ Q (record { kind = p.kind; name = p.name; span = p.span; default = o })
    go None = h p.kind p.name p.span
    go (Some d) = k p.kind p.name p.span d

-- by what stands after the clauses
by-guarded : {X : Type 0} (P Q : Guarded X → Type 0) →
    ((b : X) (rs : List (Rescue X)) → P (record { body = b; rescues = rs; otherwise = None; ensure = None }) ≡ Q (record { body = b; rescues = rs; otherwise = None; ensure = None })) →
    ((b : X) (rs : List (Rescue X)) (e : X) → P (record { body = b; rescues = rs; otherwise = None; ensure = Some e }) ≡ Q (record { body = b; rescues = rs; otherwise = None; ensure = Some e })) →
    ((b : X) (rs : List (Rescue X)) (o : X) → P (record { body = b; rescues = rs; otherwise = Some o; ensure = None }) ≡ Q (record { body = b; rescues = rs; otherwise = Some o; ensure = None })) →
    ((b : X) (rs : List (Rescue X)) (o e : X) → P (record { body = b; rescues = rs; otherwise = Some o; ensure = Some e }) ≡ Q (record { body = b; rescues = rs; otherwise = Some o; ensure = Some e })) →
    (g : Guarded X) → P g ≡ Q g
by-guarded {X = X} P Q h k l m g = go g.otherwise g.ensure
  where
    go : (o e : Option X) → P (record { body = g.body; rescues = g.rescues; otherwise = o; ensure = e }) ≡ Q (record { body = g.body; rescues = g.rescues; otherwise = o; ensure = e })
    go None None = h g.body g.rescues
    go None (Some e) = k g.body g.rescues e
    go (Some o) None = l g.body g.rescues o
    go (Some o) (Some e) = m g.body g.rescues o e

-- whether a node stands is told by what stands for the trees in it
natural : (tokens : List Token) (N X : Type 0) (u : N → Node) (v : X → Tree) (k : Tree → Type 0) (x : Node-F N X) → DoesNodeStand tokens (λ p. k (v p)) x ≡ DoesNodeStand tokens k (map-Node N X Node Tree u v x)
natural tokens N X u v k (Node-F.Body [] span) = refl
natural tokens N X u v k (Node-F.Body (s ∷ ss) span) = both refl (both refl (each-mapped _ _ _ (λ x. refl) ss))
natural tokens N X u v k (Node-F.Jump jump None span) = refl
natural tokens N X u v k (Node-F.Jump jump (Some value) span) = refl
natural tokens N X u v k (Node-F.Command callee arguments None span) =
    four refl refl (each-mapped _ _ _ (elim [ argument.Positional value ↦ refl | argument.Keyword name span value ↦ refl | argument.Block span value ↦ refl ]) arguments) refl
natural tokens N X u v k (Node-F.Command callee arguments (Some block) span) =
    four refl refl (each-mapped _ _ _ (elim [ argument.Positional value ↦ refl | argument.Keyword name span value ↦ refl | argument.Block span value ↦ refl ]) arguments) refl
natural tokens N X u v k (Node-F.Post receiver suffixes span) = three refl refl (each-mapped _ _ _ (elim [
  | suffix.Call dot name name_span None None span ↦ refl
  | suffix.Call dot name name_span None (Some block) span ↦ refl
  | suffix.Call dot name name_span (Some arguments) None span ↦
      four refl refl (each-mapped _ _ _ (elim [ argument.Positional value ↦ refl | argument.Keyword name span value ↦ refl | argument.Block span value ↦ refl ]) arguments) refl
  | suffix.Call dot name name_span (Some arguments) (Some block) span ↦
      four refl refl (each-mapped _ _ _ (elim [ argument.Positional value ↦ refl | argument.Keyword name span value ↦ refl | argument.Block span value ↦ refl ]) arguments) refl
  | suffix.Constant name name_span span ↦ refl
  | suffix.Index arguments span ↦
      both refl (each-mapped _ _ _ (elim [ argument.Positional value ↦ refl | argument.Keyword name span value ↦ refl | argument.Block span value ↦ refl ]) arguments)
]) suffixes)
natural tokens N X u v k (Node-F.Text pieces span) = both refl (each-mapped _ _ _ (elim [ piece.Words words span ↦ refl | piece.Code body span ↦ refl ]) pieces)
natural tokens N X u v k (Node-F.Call name name_span None None span) = refl
natural tokens N X u v k (Node-F.Call name name_span None (Some block) span) = refl
natural tokens N X u v k (Node-F.Call name name_span (Some arguments) None span) =
    four refl refl (each-mapped _ _ _ (elim [ argument.Positional value ↦ refl | argument.Keyword name span value ↦ refl | argument.Block span value ↦ refl ]) arguments) refl
natural tokens N X u v k (Node-F.Call name name_span (Some arguments) (Some block) span) =
    four refl refl (each-mapped _ _ _ (elim [ argument.Positional value ↦ refl | argument.Keyword name span value ↦ refl | argument.Block span value ↦ refl ]) arguments) refl
natural tokens N X u v k (Node-F.Yield None span) = refl
natural tokens N X u v k (Node-F.Yield (Some arguments) span) =
    both refl (each-mapped _ _ _ (elim [ argument.Positional value ↦ refl | argument.Keyword name span value ↦ refl | argument.Block span value ↦ refl ]) arguments)
natural tokens N X u v k (Node-F.Super None span) = refl
natural tokens N X u v k (Node-F.Super (Some arguments) span) =
    both refl (each-mapped _ _ _ (elim [ argument.Positional value ↦ refl | argument.Keyword name span value ↦ refl | argument.Block span value ↦ refl ]) arguments)
natural tokens N X u v k (Node-F.Array elements span) = both refl (each-mapped _ _ _ (λ x. refl) elements)
natural tokens N X u v k (Node-F.Hash pairs span) = both refl (each-mapped _ _ _ (elim [ pair.Arrow key value ↦ refl | pair.Label name span value ↦ refl ]) pairs)
natural tokens N X u v k (Node-F.If test condition body arms None span) = five refl refl refl (each-mapped _ _ _ (λ a. refl) arms) refl
natural tokens N X u v k (Node-F.If test condition body arms (Some otherwise) span) = five refl refl refl (each-mapped _ _ _ (λ a. refl) arms) refl
natural tokens N X u v k (Node-F.Case None arms None span) = four refl refl (each-mapped _ _ _ (λ w. both (each-mapped _ _ _ (λ x. refl) w.patterns) refl) arms) refl
natural tokens N X u v k (Node-F.Case None arms (Some otherwise) span) = four refl refl (each-mapped _ _ _ (λ w. both (each-mapped _ _ _ (λ x. refl) w.patterns) refl) arms) refl
natural tokens N X u v k (Node-F.Case (Some subject) arms None span) = four refl refl (each-mapped _ _ _ (λ w. both (each-mapped _ _ _ (λ x. refl) w.patterns) refl) arms) refl
natural tokens N X u v k (Node-F.Case (Some subject) arms (Some otherwise) span) = four refl refl (each-mapped _ _ _ (λ w. both (each-mapped _ _ _ (λ x. refl) w.patterns) refl) arms) refl
natural tokens N X u v k (Node-F.Begin guarded span) = by-guarded (λ g. DoesNodeStand tokens (λ p. k (v p)) {N = N} (Node-F.Begin g span)) (λ g. DoesNodeStand tokens k (map-Node N X Node Tree u v (Node-F.Begin g span)))
    (λ b rs. both refl (four refl (each-mapped _ _ _ (λ r. three (each-mapped _ _ _ (λ x. refl) r.patterns) refl refl) rs) refl refl))
    (λ b rs e. both refl (four refl (each-mapped _ _ _ (λ r. three (each-mapped _ _ _ (λ x. refl) r.patterns) refl refl) rs) refl refl))
    (λ b rs o. both refl (four refl (each-mapped _ _ _ (λ r. three (each-mapped _ _ _ (λ x. refl) r.patterns) refl refl) rs) refl refl))
    (λ b rs o e. both refl (four refl (each-mapped _ _ _ (λ r. three (each-mapped _ _ _ (λ x. refl) r.patterns) refl refl) rs) refl refl))
    guarded
natural tokens N X u v k (Node-F.Def visibility own name name_span parameters guarded span) = by-guarded
    (λ g. DoesNodeStand tokens (λ p. k (v p)) {N = N} (Node-F.Def visibility own name name_span parameters g span)) (λ g. DoesNodeStand tokens k (map-Node N X Node Tree u v (Node-F.Def visibility own name name_span parameters g span)))
    (λ b rs. four refl refl (each-mapped _ _ _ (by-default _ _ (λ kind name span. refl) (λ kind name span d. refl)) parameters) (four refl (each-mapped _ _ _ (λ r. three (each-mapped _ _ _ (λ x. refl) r.patterns) refl refl) rs) refl refl))
    (λ b rs e. four refl refl (each-mapped _ _ _ (by-default _ _ (λ kind name span. refl) (λ kind name span d. refl)) parameters) (four refl (each-mapped _ _ _ (λ r. three (each-mapped _ _ _ (λ x. refl) r.patterns) refl refl) rs) refl refl))
    (λ b rs o. four refl refl (each-mapped _ _ _ (by-default _ _ (λ kind name span. refl) (λ kind name span d. refl)) parameters) (four refl (each-mapped _ _ _ (λ r. three (each-mapped _ _ _ (λ x. refl) r.patterns) refl refl) rs) refl refl))
    (λ b rs o e. four refl refl (each-mapped _ _ _ (by-default _ _ (λ kind name span. refl) (λ kind name span d. refl)) parameters) (four refl (each-mapped _ _ _ (λ r. three (each-mapped _ _ _ (λ x. refl) r.patterns) refl refl) rs) refl refl))
    guarded
natural tokens N X u v k x = refl

-- ---- the law

rolled : (tokens : List Token) (r : Node-F Node Tree) → StandsAt tokens (record { node = roll-Node r }) ≡ DoesNodeStand tokens (StandsAt tokens) r
unfolding StandsAt
rolled tokens r =
    rec-roll-Tree (Type 0) (Type 0) (λ N X node tree node_stands stands n. DoesNodeStand tokens stands n) (λ N X node tree node_stands stands t. node_stands t.node) (λ N X u v j k x. refl) (record { node = roll-Node r })
    ∙ rec-roll-Node (Type 0) (Type 0) (λ N X node tree node_stands stands n. DoesNodeStand tokens stands n) (λ N X node tree node_stands stands t. node_stands t.node) (λ N X u v j k x. natural tokens N X u v k x) r

pub stands : (tokens : List Token) (r : Node-F Node Tree) → DoesNodeStand tokens (StandsAt tokens) r → StandsAt tokens (record { node = roll-Node r })
stands tokens r h = transport (sym (rolled tokens r)) h

-- the node is that of the tree
pub stands-as : (tokens : List Token) (t : Tree) (r : Node-F Node Tree) → roll-Node r ≡ t.node → DoesNodeStand tokens (StandsAt tokens) r → StandsAt tokens t
stands-as tokens t r e h = subst (λ n. StandsAt tokens (record { node = n })) e (stands tokens r h)

pub opened : (tokens : List Token) (t : Tree) → StandsAt tokens t → DoesNodeStand tokens (StandsAt tokens) (out-Node t.node)
opened tokens t h = transport (rolled tokens (out-Node t.node)) (subst (λ n. StandsAt tokens (record { node = n })) (sym (roll-out-Node t.node)) h)

pub trees-stand-by-nodes : TreesStandByNodes
trees-stand-by-nodes tokens t = (opened tokens t, stands-as tokens t (out-Node t.node) (roll-out-Node t.node))

-- the node is known
pub opened-as : (tokens : List Token) (t : Tree) (r : Node-F Node Tree) → out-Node t.node ≡ r → StandsAt tokens t → DoesNodeStand tokens (StandsAt tokens) r
opened-as tokens t r e h = subst (DoesNodeStand tokens (StandsAt tokens)) e (opened tokens t h)

-- the tree is made of the node
pub taken-apart : (tokens : List Token) (t : Tree) (r : Node-F Node Tree) → roll-Node r ≡ t.node → StandsAt tokens t → DoesNodeStand tokens (StandsAt tokens) r
taken-apart tokens t r e h = opened-as tokens t r (ap out-Node (sym e) ∙ out-roll-Node r) h

-- ---- the place of a tree

placed-node : (tokens : List Token) (r : Node-F Node Tree) → DoesNodeStand tokens (StandsAt tokens) r → IsPlaced tokens (span_at r) ⊎ (span_at r).start ≡ 0 × (span_at r).end ≡ 0
placed-node tokens (Node-F.Body [] span) h = inr h
placed-node tokens (Node-F.Whole sign words span) h = inl h
placed-node tokens (Node-F.Float sign words span) h = inl h
placed-node tokens (Node-F.Symbol words span) h = inl h
placed-node tokens (Node-F.InstanceVariable name span) h = inl h
placed-node tokens (Node-F.Constant name span) h = inl h
placed-node tokens (Node-F.SelfWord span) h = inl h
placed-node tokens (Node-F.Nil span) h = inl h
placed-node tokens (Node-F.True span) h = inl h
placed-node tokens (Node-F.False span) h = inl h
placed-node tokens (Node-F.Name name span) h = inl h
placed-node tokens r h = inl h.0

-- a tree that stands begins and ends at tokens, or is empty at the start
pub placed-tree : (tokens : List Token) (t : Tree) → StandsAt tokens t → IsPlaced tokens (span_of t) ⊎ (span_of t).start ≡ 0 × (span_of t).end ≡ 0
unfolding span_of span_of_node
placed-tree tokens t h = placed-node tokens (out-Node t.node) (opened tokens t h)
