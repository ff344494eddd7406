-- The places that a tree carries are those in its node; those at which errors of the judgement can stand are among them.
use Rattle.std.proofs.Common.{◌≡◌, Bool, true, List, [], ◌∷◌, Option, Some, None, refl, sym, ap, subst, ◌∙◌}
use mathlib.Core.Path.{transport}
use Rattle.srb_terms.specs.declared.span.Span.{Span}
use Rattle.rb_tree.specs.Trees.{span_of, span_of_node}
use Rattle.rb_tree.specs.declared.syntax.Argument.{Argument}
use Rattle.rb_tree.specs.declared.syntax.Argument.TheVariants as argument
use Rattle.rb_tree.specs.declared.syntax.Block.{Block}
use Rattle.rb_tree.specs.declared.syntax.Guarded.{Guarded}
use Rattle.rb_tree.specs.declared.syntax.Pair.{Pair}
use Rattle.rb_tree.specs.declared.syntax.Pair.TheVariants as pair
use Rattle.rb_tree.specs.declared.syntax.Piece.{Piece}
use Rattle.rb_tree.specs.declared.syntax.Piece.TheVariants as piece
use Rattle.rb_tree.specs.declared.syntax.Suffix.{Suffix}
use Rattle.rb_tree.specs.declared.syntax.Suffix.TheVariants as suffix
use Rattle.rb_tree.specs.declared.syntax.Tree.{Tree}
use Rattle.rb_tree.specs.declared.syntax.Node.{Node, out-Node}
use Rattle.rb_tree.specs.declared.syntax.Node.TheOpen.{Node-F}
use Rattle.rb_tree.specs.declared.syntax.Node.TheViews.{roll-Node, out-roll-Node, roll-out-Node}
use Rattle.rb_tree.specs.declared.syntax.Node.TheFolds.{rec-roll-Node, rec-roll-Tree, map-Node, ind-Tree}
use Rattle.rb_grammar.specs.Places.{Each, IfThere}
use Rattle.rb_grammar.proofs.Placed.{each-weaker}
use Rattle.rb_places_laws.specs.ErrorPlaces.{HasArgument, HasBlock, HasErrorPlaces, HasGuarded, HasPair, HasPiece, HasRescue, HasArm, HasWhen, HasParameter, HasParts, HasSuffix}
use Rattle.rb_places_laws.specs.TreePlaces.{HasAll, HasDeclared, HasPlaces, IsPlaceIn}
use Rattle.rb_places_laws.proofs.ByNode.{both, each-mapped, has, same-node, same-parts}

-- ---- the fold, by the node

module _ (P : Span → Type 0) where
  module _ (N X : Type 0) (u : N → Node) (v : X → Tree) where
    abbrev SameDeclared : Node-F N X → Type 1
    SameDeclared x = HasDeclared P (λ y. span_of (v y)) x ≡ HasDeclared P span_of (map-Node N X Node Tree u v x)

    -- what a node carries is told by the places of the trees in it
    same-declared : (x : Node-F N X) → SameDeclared x
    same-declared (Node-F.Command callee args b span) = each-mapped _ _ _ (elim [ argument.Positional value ↦ refl | argument.Keyword name span value ↦ refl | argument.Block span value ↦ refl ]) args
    same-declared (Node-F.Call name name_span None b span) = refl
    same-declared (Node-F.Call name name_span (Some args) b span) =
        each-mapped _ _ _ (elim [ argument.Positional value ↦ refl | argument.Keyword name span value ↦ refl | argument.Block span value ↦ refl ]) args
    same-declared x = refl

  rolled : (r : Node-F Node Tree) → HasPlaces P (record { node = roll-Node r }) ≡ HasAll P span_of (HasPlaces P) r
  unfolding HasPlaces
  rolled r =
      rec-roll-Tree (Type 0) (Type 0) (λ N X node tree node_has has n. HasAll P (λ x. span_of (tree x)) has n) (λ N X node tree node_has has t. node_has t.node)
      (λ N X u v j k x. refl) (record { node = roll-Node r })
      ∙ rec-roll-Node (Type 0) (Type 0) (λ N X node tree node_has has n. HasAll P (λ x. span_of (tree x)) has n) (λ N X node tree node_has has t. node_has t.node)
      (λ N X u v j k x. both (same-node P N X u v k x) (same-declared N X u v x)) r

  -- from the node of a tree to the tree
  pub rolled-up : (r : Node-F Node Tree) → HasAll P span_of (HasPlaces P) r → HasPlaces P (record { node = roll-Node r })
  rolled-up r h = transport (sym (rolled r)) h

  -- from a tree to its node
  pub opened : (t : Tree) → HasPlaces P t → HasAll P span_of (HasPlaces P) (out-Node t.node)
  opened t h = transport (rolled (out-Node t.node)) (subst (λ n. HasPlaces P (record { node = n })) (sym (roll-out-Node t.node)) h)

  pub taken-apart : (t : Tree) (r : Node-F Node Tree) → roll-Node r ≡ t.node → HasPlaces P t → HasAll P span_of (HasPlaces P) r
  taken-apart t r e h = subst (HasAll P span_of (HasPlaces P)) (ap out-Node (sym e) ∙ out-roll-Node r) (opened t h)

  -- the place of the tree itself
  pub place-has : (t : Tree) → HasPlaces P t → P (span_of t)
  unfolding span_of span_of_node
  place-has t h = (opened t h).0.0

-- ---- a weaker fact of the trees in a node

pub if-weaker : {A : Type 0} (S Q : A → Type 0) → ((x : A) → S x → Q x) → (x : Option A) → IfThere S x → IfThere Q x
if-weaker S Q f None h = tt
if-weaker S Q f (Some x) h = f x h

module _ (P : Span → Type 0) {X : Type 0} (S Q : X → Type 0) (place : X → Span) (f : (x : X) → S x → Q x) where
  argument-as : (a : Argument X) → HasArgument P S place a → HasArgument P Q place a
  argument-as (argument.Positional value) h = f value h
  argument-as (argument.Keyword name span value) h = f value h
  argument-as (argument.Block span value) h = f value h

  arguments-as : (given : List (Argument X)) → Each (HasArgument P S place) given → Each (HasArgument P Q place) given
  arguments-as = each-weaker (HasArgument P S place) (HasArgument P Q place) argument-as

  given-as : (given : Option (List (Argument X))) → IfThere (Each (HasArgument P S place)) given → IfThere (Each (HasArgument P Q place)) given
  given-as = if-weaker (Each (HasArgument P S place)) (Each (HasArgument P Q place)) arguments-as

  block-as : (b : Option (Block X)) → IfThere (HasBlock P S place) b → IfThere (HasBlock P Q place) b
  block-as = if-weaker (HasBlock P S place) (HasBlock P Q place) (λ b h. f b.body h)

  suffix-as : (front : Span) (s : Suffix X) → HasSuffix P S place front s → HasSuffix P Q place front s
  suffix-as front (suffix.Call how name name_span given b span) h = (h.0, h.1, given-as given h.2, block-as b h.3)
  suffix-as front (suffix.Constant name name_span span) h = h
  suffix-as front (suffix.Index given span) h = (h.0, h.1, arguments-as given h.2)

  piece-as : (p : Piece X) → HasPiece P S place p → HasPiece P Q place p
  piece-as (piece.Words words span) h = tt
  piece-as (piece.Code body span) h = f body h

  pair-as : (p : Pair X) → HasPair P S place p → HasPair P Q place p
  pair-as (pair.Arrow key value) h = (f key h.0, f value h.1)
  pair-as (pair.Label name span value) h = f value h

  trees-as : (xs : List X) → Each S xs → Each Q xs
  trees-as = each-weaker S Q f

  any-as : (x : Option X) → IfThere S x → IfThere Q x
  any-as = if-weaker S Q f

  guarded-as : (g : Guarded X) → HasGuarded P S place g → HasGuarded P Q place g
  guarded-as g h = (
    f g.body h.0,
    each-weaker (HasRescue P S place) (HasRescue P Q place) (λ r k. (trees-as r.patterns k.0, k.1, f r.body k.2)) g.rescues h.1,
    any-as g.otherwise h.2,
    any-as g.ensure h.3,
  )

  parts-as : {N : Type 0} → (n : Node-F N X) → HasParts P S place n → HasParts P Q place n
  parts-as (Node-F.Body statements span) h = trees-as statements h
  parts-as (Node-F.Modified statement modifier condition span) h = (f statement h.0, f condition h.1)
  parts-as (Node-F.Jump word value span) h = (h.0, any-as value h.1)
  parts-as (Node-F.Assign target value span) h = (f target h.0, f value h.1)
  parts-as (Node-F.OperatorAssign target operator operator_span value span) h = (f target h.0, h.1, f value h.2)
  parts-as (Node-F.Command callee given b span) h = (f callee h.0, arguments-as given h.1, block-as b h.2)
  parts-as (Node-F.Conditional condition positive negative span) h = (f condition h.0, f positive h.1, f negative h.2)
  parts-as (Node-F.Binary operator operator_span left right span) h = (h.0, f left h.1, f right h.2)
  parts-as (Node-F.Unary operator operand span) h = (h.0, f operand h.1)
  parts-as (Node-F.Post receiver suffixes span) h =
      (f receiver h.0, each-weaker (HasSuffix P S place (place receiver)) (HasSuffix P Q place (place receiver)) (suffix-as (place receiver)) suffixes h.1)
  parts-as (Node-F.Text pieces span) h = each-weaker (HasPiece P S place) (HasPiece P Q place) piece-as pieces h
  parts-as (Node-F.Call name name_span given b span) h = (h.0, given-as given h.1, block-as b h.2)
  parts-as (Node-F.Yield given span) h = given-as given h
  parts-as (Node-F.Super given span) h = given-as given h
  parts-as (Node-F.Array elements span) h = trees-as elements h
  parts-as (Node-F.Hash pairs span) h = each-weaker (HasPair P S place) (HasPair P Q place) pair-as pairs h
  parts-as (Node-F.Parens body span) h = f body h
  parts-as (Node-F.If which condition body arms otherwise span) h =
      (f condition h.0, f body h.1, each-weaker (HasArm P S place) (HasArm P Q place) (λ a k. (f a.condition k.0, f a.body k.1)) arms h.2, any-as otherwise h.3)
  parts-as (Node-F.While which condition body span) h = (f condition h.0, f body h.1)
  parts-as (Node-F.Case subject whens otherwise span) h =
      (any-as subject h.0, each-weaker (HasWhen P S place) (HasWhen P Q place) (λ w k. (trees-as w.patterns k.0, f w.body k.1)) whens h.1, any-as otherwise h.2)
  parts-as (Node-F.Begin guarded span) h = guarded-as guarded h
  parts-as (Node-F.Class path superclass body span) h = f body h
  parts-as (Node-F.Module path body span) h = f body h
  parts-as (Node-F.Def visibility own name name_span parameters guarded span) h =
      (h.0, each-weaker (HasParameter P S place) (HasParameter P Q place) (λ p k. any-as p.default k) parameters h.1, guarded-as guarded h.2)
  parts-as _ h = tt

-- ---- the places of the judgement's errors are among those of the tree

module _ (P : Span → Type 0) where
  abbrev TreeJudged : Tree → Type 0
  TreeJudged t = HasPlaces P t → HasErrorPlaces P t

  abbrev NodeJudged : Node → Type 0
  NodeJudged n = TreeJudged (record { node = n })

  abbrev JudgedNode : Type 0
  JudgedNode = (n : Node) × NodeJudged n

  abbrev JudgedTree : Type 0
  JudgedTree = (t : Tree) × TreeJudged t

  abbrev plain : Node-F JudgedNode JudgedTree → Node-F Node Tree
  plain y = map-Node JudgedNode JudgedTree Node Tree (λ e. e.0) (λ e. e.0) y

  node-judged : (y : Node-F JudgedNode JudgedTree) → NodeJudged (roll-Node (plain y))
  node-judged y s =
      let h = (taken-apart P (record { node = roll-Node (plain y) }) (plain y) refl s).0 in
      let same = λ (k : Tree → Type 0). same-parts P JudgedNode JudgedTree (λ e. e.0) (λ e. e.0) k y in
      has P (plain y) (
        h.0,
        transport (same (HasErrorPlaces P))
            (parts-as P (λ e. HasPlaces P e.0) (λ e. HasErrorPlaces P e.0) (λ e. span_of e.0) (λ e k. e.1 k) y (transport (sym (same (HasPlaces P))) h.1)),
      )

  pub judged-places : (t : Tree) → HasPlaces P t → HasErrorPlaces P t
  judged-places = ind-Tree NodeJudged TreeJudged (λ x y is. subst (λ z. NodeJudged (roll-Node z)) is (node-judged y)) (λ x y is. subst NodeJudged (ap (λ z. z.node) is) y.node.1)

-- ---- places by tests

-- where each test that all places pass is passed by the place of each element, those are places of the tree
pub each-is-place : {A : Type 0} (f : A → Span) (t : Tree) (xs : List A) →
    ((test : Span → Bool) → HasPlaces (λ place. test place ≡ true) t → Each (λ x. test (f x) ≡ true) xs) → Each (λ x. IsPlaceIn t (f x)) xs
each-is-place f t [] h = tt
each-is-place f t (x ∷ xs) h = ((λ test has. (h test has).0), each-is-place f t xs (λ test has. (h test has).1))
