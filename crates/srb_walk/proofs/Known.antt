-- What is known of a tree goes by its node.
use Rattle.std.proofs.Common.{◌≡◌, ℕ, List, [], ◌∷◌, Option, Some, None, refl, ap, ◌∙◌}
use Rattle.srb_terms.specs.declared.param_kind.ParamKind.{ParamKind}
use Rattle.srb_terms.specs.declared.span.Span.{Span}
use Rattle.rb_tree.specs.declared.syntax.Argument.{Argument}
use Rattle.rb_tree.specs.declared.syntax.Argument.TheVariants as argument
use Rattle.rb_tree.specs.declared.syntax.Guarded.{Guarded}
use Rattle.rb_tree.specs.declared.syntax.Pair.{Pair}
use Rattle.rb_tree.specs.declared.syntax.Pair.TheVariants as pair
use Rattle.rb_tree.specs.declared.syntax.Parameter.{Parameter}
use Rattle.rb_tree.specs.declared.syntax.Piece.{Piece}
use Rattle.rb_tree.specs.declared.syntax.Piece.TheVariants as piece
use Rattle.rb_tree.specs.declared.syntax.Rescue.{Rescue}
use Rattle.rb_tree.specs.declared.syntax.Suffix.{Suffix}
use Rattle.rb_tree.specs.declared.syntax.Suffix.TheVariants as suffix
use Rattle.rb_tree.specs.declared.syntax.Tree.{Tree}
use Rattle.rb_tree.specs.declared.syntax.Node.{Node, out-Node}
use Rattle.rb_tree.specs.declared.syntax.Node.TheOpen.{Node-F}
use Rattle.rb_tree.specs.declared.syntax.Node.TheShapes.{former-Node-Command-1, former-Node-Post-1, former-Node-Text-0, former-Node-Hash-0, former-Node-Def-4}
use Rattle.rb_tree.specs.declared.syntax.Node.TheFolds.{map-Node}
use Rattle.srb_judgement.proofs.Nodes.{goes_by_node}
use Rattle.srb_judgement.specs.Judgements.{part_at, part_of}
use Rattle.srb_judgement.specs.Languages.{Language}
use Rattle.srb_judgement.specs.Laws.{tree_with}
use Rattle.srb_judgement.specs.Parts.{Part}
use Rattle.srb_walk.specs.Known.{known_node, known_arguments, known_block, known_suffixes, known_pieces, known_pairs, known_parameters, known_rescues, part_by_node}

-- by whether a parameter has a default
by-default : {X : Type 0} (P : Parameter X → Type 0) → ((kind : ParamKind) (name : List ℕ) (span : Span) → P (record { kind = kind; name = name; span = span; default = None })) →
    ((kind : ParamKind) (name : List ℕ) (span : Span) (d : X) → P (record { kind = kind; name = name; span = span; default = Some d })) → (p : Parameter X) → P p
by-default {X = X} P h k p = go p.default
  where
    go : (o : Option X) → P (record { kind = p.kind; name = p.name; span = p.span; default = o })
    go None = h p.kind p.name p.span
    go (Some d) = k p.kind p.name p.span d

-- by what stands after the clauses
by-guarded : {X : Type 0} (P : Guarded X → Type 0) →
    ((b : X) (rs : List (Rescue X)) → P (record { body = b; rescues = rs; otherwise = None; ensure = None })) →
    ((b : X) (rs : List (Rescue X)) (e : X) → P (record { body = b; rescues = rs; otherwise = None; ensure = Some e })) →
    ((b : X) (rs : List (Rescue X)) (o : X) → P (record { body = b; rescues = rs; otherwise = Some o; ensure = None })) →
    ((b : X) (rs : List (Rescue X)) (o e : X) → P (record { body = b; rescues = rs; otherwise = Some o; ensure = Some e })) →
    (g : Guarded X) → P g
by-guarded {X = X} P h k l m g = go g.otherwise g.ensure
  where
    go : (o e : Option X) → P (record { body = g.body; rescues = g.rescues; otherwise = o; ensure = e })
    go None None = h g.body g.rescues
    go None (Some e) = k g.body g.rescues e
    go (Some o) None = l g.body g.rescues o
    go (Some o) (Some e) = m g.body g.rescues o e

module _ {T X : Type 0} (L : Language T X) where
  abbrev in_node : Node → Part T X
  in_node n = part_of L (tree_with n)

  -- a node with what is known of the trees in it, as the fold has it
  abbrev folded : Node-F Node Tree → Node-F (Part T X) (Part T X)
  folded = map-Node Node Tree (Part T X) (Part T X) in_node (part_of L)

  -- ---- rows

  arguments-known : (xs : List (Argument Tree)) → (former-Node-Command-1).map Tree (Part T X) (part_of L) xs ≡ known_arguments L xs
  arguments-known [] = refl
  arguments-known (argument.Positional value ∷ xs) = ap (λ ys. argument.Positional (part_of L value) ∷ ys) (arguments-known xs)
  arguments-known (argument.Keyword name span value ∷ xs) = ap (λ ys. argument.Keyword name span (part_of L value) ∷ ys) (arguments-known xs)
  arguments-known (argument.Block span value ∷ xs) = ap (λ ys. argument.Block span (part_of L value) ∷ ys) (arguments-known xs)

  suffixes-known : (xs : List (Suffix Tree)) → (former-Node-Post-1).map Tree (Part T X) (part_of L) xs ≡ known_suffixes L xs
  suffixes-known [] = refl
  suffixes-known (suffix.Call dot name name_span None None span ∷ xs) =
      ap (λ ys. suffix.Call dot name name_span None None span ∷ ys) (suffixes-known xs)
  suffixes-known (suffix.Call dot name name_span None (Some b) span ∷ xs) =
      ap (λ ys. suffix.Call dot name name_span None (Some (known_block L b)) span ∷ ys) (suffixes-known xs)
  suffixes-known (suffix.Call dot name name_span (Some row) None span ∷ xs) =
      λ i. suffix.Call dot name name_span (Some (arguments-known row i)) None span ∷ suffixes-known xs i
  suffixes-known (suffix.Call dot name name_span (Some row) (Some b) span ∷ xs) =
      λ i. suffix.Call dot name name_span (Some (arguments-known row i)) (Some (known_block L b)) span ∷ suffixes-known xs i
  suffixes-known (suffix.Constant name name_span span ∷ xs) = ap (λ ys. suffix.Constant name name_span span ∷ ys) (suffixes-known xs)
  suffixes-known (suffix.Index row span ∷ xs) = λ i. suffix.Index (arguments-known row i) span ∷ suffixes-known xs i

  pieces-known : (xs : List (Piece Tree)) → (former-Node-Text-0).map Tree (Part T X) (part_of L) xs ≡ known_pieces L xs
  pieces-known [] = refl
  pieces-known (piece.Words words span ∷ xs) = ap (λ ys. piece.Words words span ∷ ys) (pieces-known xs)
  pieces-known (piece.Code body span ∷ xs) = ap (λ ys. piece.Code (part_of L body) span ∷ ys) (pieces-known xs)

  pairs-known : (xs : List (Pair Tree)) → (former-Node-Hash-0).map Tree (Part T X) (part_of L) xs ≡ known_pairs L xs
  pairs-known [] = refl
  pairs-known (pair.Arrow key value ∷ xs) = ap (λ ys. pair.Arrow (part_of L key) (part_of L value) ∷ ys) (pairs-known xs)
  pairs-known (pair.Label name span value ∷ xs) = ap (λ ys. pair.Label name span (part_of L value) ∷ ys) (pairs-known xs)

  parameters-known : (xs : List (Parameter Tree)) → (former-Node-Def-4).map Tree (Part T X) (part_of L) xs ≡ known_parameters L xs
  parameters-known [] = refl
  parameters-known (p ∷ xs) = by-default
      (λ q. (former-Node-Def-4).map Tree (Part T X) (part_of L) (q ∷ xs) ≡ known_parameters L (q ∷ xs))
      (λ kind name span. ap (λ ys. record { kind = kind; name = name; span = span; default = None } ∷ ys) (parameters-known xs))
      (λ kind name span d. ap (λ ys. record { kind = kind; name = name; span = span; default = Some (part_of L d) } ∷ ys) (parameters-known xs))
      p

  -- ---- nodes

  node-known : (n : Node-F Node Tree) → folded n ≡ known_node L n
  node-known (Node-F.Jump jump None span) = refl
  node-known (Node-F.Jump jump (Some value) span) = refl
  node-known (Node-F.Command callee xs None span) = λ i. Node-F.Command (part_of L callee) (arguments-known xs i) None span
  node-known (Node-F.Command callee xs (Some b) span) = λ i. Node-F.Command (part_of L callee) (arguments-known xs i) (Some (known_block L b)) span
  node-known (Node-F.Post receiver suffixes span) = λ i. Node-F.Post (part_of L receiver) (suffixes-known suffixes i) span
  node-known (Node-F.Text pieces span) = λ i. Node-F.Text (pieces-known pieces i) span
  node-known (Node-F.Call name place None None span) = refl
  node-known (Node-F.Call name place None (Some b) span) = refl
  node-known (Node-F.Call name place (Some xs) None span) = λ i. Node-F.Call name place (Some (arguments-known xs i)) None span
  node-known (Node-F.Call name place (Some xs) (Some b) span) = λ i. Node-F.Call name place (Some (arguments-known xs i)) (Some (known_block L b)) span
  node-known (Node-F.Yield None span) = refl
  node-known (Node-F.Yield (Some xs) span) = λ i. Node-F.Yield (Some (arguments-known xs i)) span
  node-known (Node-F.Super None span) = refl
  node-known (Node-F.Super (Some xs) span) = λ i. Node-F.Super (Some (arguments-known xs i)) span
  node-known (Node-F.Hash pairs span) = λ i. Node-F.Hash (pairs-known pairs i) span
  node-known (Node-F.If which cond inner arms None span) = refl
  node-known (Node-F.If which cond inner arms (Some e) span) = refl
  node-known (Node-F.Case None whens None span) = refl
  node-known (Node-F.Case None whens (Some e) span) = refl
  node-known (Node-F.Case (Some subject) whens None span) = refl
  node-known (Node-F.Case (Some subject) whens (Some e) span) = refl
  node-known (Node-F.Begin g span) = by-guarded (λ g. folded (Node-F.Begin g span) ≡ known_node L (Node-F.Begin g span))
      (λ b rs. refl) (λ b rs e. refl) (λ b rs o. refl) (λ b rs o e. refl) g
  node-known (Node-F.Def visibility own name place parameters g span) = by-guarded
      (λ g. folded (Node-F.Def visibility own name place parameters g span) ≡ known_node L (Node-F.Def visibility own name place parameters g span))
      (λ b rs i. Node-F.Def visibility own name place (parameters-known parameters i)
      (record { body = part_of L b; rescues = known_rescues L rs; otherwise = None; ensure = None }) span)
      (λ b rs e i. Node-F.Def visibility own name place (parameters-known parameters i)
      (record { body = part_of L b; rescues = known_rescues L rs; otherwise = None; ensure = Some (part_of L e) }) span)
      (λ b rs o i. Node-F.Def visibility own name place (parameters-known parameters i)
      (record { body = part_of L b; rescues = known_rescues L rs; otherwise = Some (part_of L o); ensure = None }) span)
      (λ b rs o e i. Node-F.Def visibility own name place (parameters-known parameters i)
      (record { body = part_of L b; rescues = known_rescues L rs; otherwise = Some (part_of L o); ensure = Some (part_of L e) }) span)
      g
  node-known n = refl

  pub part_is : (t : Tree) → part_of L t ≡ part_by_node L t
  unfolding part_by_node
  part_is t = goes_by_node L t ∙ ap (part_at L) (node-known (out-Node t.node))
