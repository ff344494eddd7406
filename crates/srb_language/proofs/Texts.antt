-- The type expression that a tree may be, as the judgement keeps it, is the tree's outline.
use Rattle.std.proofs.Common.{◌≡◌, ap, ◌∙◌, sym, subst, refl}
use mathlib.Core.Sorted.{map-map}
use Rattle.srb_terms.specs.declared.outline.Outline.{Outline}
use Rattle.srb_terms.specs.declared.ty.Ty.{Ty}
use Rattle.rb_tree.specs.declared.syntax.Tree.{Tree}
use Rattle.rb_tree.specs.declared.syntax.Node.{Node}
use Rattle.rb_tree.specs.declared.syntax.Node.TheBlock.{the_members, member-Node, member-Tree, body-Node}
use Rattle.rb_tree.specs.declared.syntax.Node.TheOpen.{Node-F}
use Rattle.rb_tree.specs.declared.syntax.Node.TheViews.{roll-Node, out-roll-Node}
use Rattle.rb_tree.specs.declared.syntax.Node.TheFolds.{family, map-Node, map_is-Node, fold-Node, fold-roll-Node, fold_out-Tree, ind-Tree}
use Rattle.rb_outline.specs.Outlines.{outline_at, outline_of}
use Rattle.srb_judgement.specs.Judgements.{part_at, part_of}
use Rattle.srb_judgement.specs.Languages.{Language}
use Rattle.srb_judgement.specs.Parts.{Part}
use Rattle.srb_judgement.specs.Laws.{tree_with}
use Rattle.srb_judgement.specs.Views.{text_in}
use Rattle.srb_judgement.proofs.Nodes.{goes_by_node}
use Rattle.srb_language.specs.Asked.{language_of}
use Rattle.srb_language.specs.Knowledge.{Knowledge}

-- ---- nodes that are mapped twice

module _ {A B C A' B' C' : Type 0} (f : A → B) (f' : A' → B') (g : B → C) (g' : B' → C') where
  abbrev both : (j : the_members) → family A A' j → family B B' j
  both member-Node = f
  both member-Tree = f'

  abbrev then : (j : the_members) → family B B' j → family C C' j
  then member-Node = g
  then member-Tree = g'

  abbrev twice : (j : the_members) → family A A' j → family C C' j
  twice member-Node = λ a. g (f a)
  twice member-Tree = λ a. g' (f' a)

  twice-is : (λ (j : the_members) y. then j (both j y)) ≡ twice
  twice-is = λ i j. one j i
    where
      one : (j : the_members) → (λ y. then j (both j y)) ≡ twice j
      one member-Node = refl
      one member-Tree = refl

  pub mapped : (x : Node-F A A') → map-Node B B' C C' g g' (map-Node A A' B B' f f' x) ≡ map-Node A A' C C' (λ a. g (f a)) (λ a. g' (f' a)) x
  mapped x =
      ap (map-Node B B' C C' g g') (sym (map_is-Node (family A A') (family B B') both x))
      ∙ sym (map_is-Node (family B B') (family C C') then ((body-Node).map (family A A') (family B B') both x))
      ∙ map-map the_members body-Node (family A A') (family B B') (family C C') both then x
      ∙ ap (λ h. (body-Node).map (family A A') (family C C') h x) twice-is
      ∙ map_is-Node (family A A') (family C C') twice x

-- ---- trees

abbrev Plain : Type 0
Plain = Node-F Node Tree

module _ (k : Knowledge) where
  abbrev L : Language Ty Outline
  L = language_of k

  abbrev P : Type 0
  P = Part Ty Outline

  abbrev text : P → Outline
  text p = p.it.text

  -- ---- each by its node

  node_outline : Node → Outline
  node_outline = fold-Node Outline Outline (λ x. outline_at (λ o. o) x) (λ t. t.node)

  nodes-outlined : node_outline ≡ (λ n. outline_of (tree_with n))
  unfolding outline_of node_outline
  nodes-outlined = λ i n. sym (fold_out-Tree Outline Outline (λ x. outline_at (λ o. o) x) (λ t. t.node) (tree_with n)) i

  outline-opened : (r : Plain) → outline_of (tree_with (roll-Node r)) ≡ outline_at (λ o. o) (map-Node Node Tree Outline Outline node_outline outline_of r)
  unfolding outline_of node_outline
  outline-opened r =
      fold_out-Tree Outline Outline (λ x. outline_at (λ o. o) x) (λ t. t.node) (tree_with (roll-Node r))
      ∙ fold-roll-Node Outline Outline (λ x. outline_at (λ o. o) x) (λ t. t.node) r

  outline-by-node : (r : Plain) → outline_of (tree_with (roll-Node r)) ≡ outline_at (λ o. o) (map-Node Node Tree Outline Outline (λ n. outline_of (tree_with n)) outline_of r)
  outline-by-node r = outline-opened r ∙ ap (λ f. outline_at (λ o. o) (map-Node Node Tree Outline Outline f outline_of r)) nodes-outlined

  part-by-node : (r : Plain) → part_of L (tree_with (roll-Node r)) ≡ part_at L (map-Node Node Tree P P (λ n. part_of L (tree_with n)) (part_of L) r)
  part-by-node r =
      goes_by_node L (tree_with (roll-Node r))
      ∙ ap (λ n. part_at L (map-Node Node Tree P P (λ n. part_of L (tree_with n)) (part_of L) n)) (out-roll-Node r)

  text-opened : (n : Node-F P P) → text (part_at L n) ≡ outline_at (λ o. o) (map-Node P P Outline Outline text text n)
  unfolding part_at
  text-opened n = refl

  -- ---- the induction

  abbrev Same : Tree → Type 0
  Same t = text (part_of L t) ≡ outline_of t

  abbrev SameNode : Node → Type 0
  SameNode n = Same (tree_with n)

  abbrev KeptNode : Type 0
  KeptNode = (n : Node) × SameNode n

  abbrev KeptTree : Type 0
  KeptTree = (t : Tree) × Same t

  abbrev Kept : Type 0
  Kept = Node-F KeptNode KeptTree

  abbrev plain : Kept → Plain
  plain y = map-Node KeptNode KeptTree Node Tree (λ e. e.0) (λ e. e.0) y

  node-same : (y : Kept) → SameNode (roll-Node (plain y))
  node-same y =
      ap text (part-by-node (plain y))
      ∙ text-opened (map-Node Node Tree P P (λ n. part_of L (tree_with n)) (part_of L) (plain y))
      ∙ ap (outline_at (λ o. o)) (mapped (λ n. part_of L (tree_with n)) (part_of L) text text (plain y))
      ∙ ap (outline_at (λ o. o)) (mapped (λ (e : KeptNode). e.0) (λ (e : KeptTree). e.0) (λ n. text (part_of L (tree_with n))) (λ t. text (part_of L t)) y)
      ∙ (λ i. outline_at (λ o. o) (map-Node KeptNode KeptTree Outline Outline (λ e. e.1 i) (λ e. e.1 i) y))
      ∙ sym (ap (outline_at (λ o. o)) (mapped (λ (e : KeptNode). e.0) (λ (e : KeptTree). e.0) (λ n. outline_of (tree_with n)) outline_of y))
      ∙ sym (outline-by-node (plain y))

  -- what the judgement keeps of a tree as a type expression is its outline
  pub text_is : (t : Tree) → text_in (language_of k) t ≡ outline_of t
  text_is = ind-Tree SameNode Same (λ x y is. subst (λ z. SameNode (roll-Node z)) is (node-same y)) (λ x y is. subst SameNode (ap (λ z. z.node) is) y.node.1)
