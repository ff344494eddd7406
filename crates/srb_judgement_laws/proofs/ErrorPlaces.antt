-- What is known of a tree is fine, where the places in it at which errors can stand have a fact: the errors that come from it stand at places
-- that have the fact.
use Rattle.std.proofs.Common.{◌≡◌, List, map, Some, None, refl, sym, ap, subst, ◌∙◌}
use Rattle.srb_terms.specs.declared.diag.Diag.{Diag}
use Rattle.srb_terms.specs.declared.span.Span.{Span}
use Rattle.rb_tree.specs.Trees.{span_at, span_of, span_of_node}
use Rattle.rb_tree.specs.declared.syntax.Argument.{Argument}
use Rattle.rb_tree.specs.declared.syntax.Argument.TheVariants as argument
use Rattle.rb_tree.specs.declared.syntax.Arm.{Arm}
use Rattle.rb_tree.specs.declared.syntax.Guarded.{Guarded}
use Rattle.rb_tree.specs.declared.syntax.Pair.TheVariants as pair
use Rattle.rb_tree.specs.declared.syntax.Piece.TheVariants as piece
use Rattle.rb_tree.specs.declared.syntax.Rescue.{Rescue}
use Rattle.rb_tree.specs.declared.syntax.Suffix.TheVariants as suffix
use Rattle.rb_tree.specs.declared.syntax.Test.{Test}
use Rattle.rb_tree.specs.declared.syntax.Tree.{Tree}
use Rattle.rb_tree.specs.declared.syntax.When.{When}
use Rattle.rb_tree.specs.declared.syntax.Node.{Node, out-Node}
use Rattle.rb_tree.specs.declared.syntax.Node.TheOpen.{Node-F}
use Rattle.rb_tree.specs.declared.syntax.Node.TheViews.{roll-Node, out-roll-Node}
use Rattle.rb_tree.specs.declared.syntax.Node.TheFolds.{map-Node, ind-Tree}
use Rattle.rb_grammar.specs.Places.{Each}
use Rattle.rb_places_laws.specs.ErrorPlaces.{prefix_to, HasArgument, HasSuffix, HasPiece, HasPair, HasArm, HasWhen, HasParameter, HasRescue, HasParts, HasErrorPlaces}
use Rattle.rb_places_laws.specs.TokenPlaces.{IsPlaceOfError}
use Rattle.rb_places_laws.proofs.ByNode.{taken-apart}
use Rattle.srb_judgement.specs.Judgements.{part_at, part_of, errors_of}
use Rattle.srb_judgement.specs.Languages.{Language}
use Rattle.srb_judgement.specs.Laws.{tree_with}
use Rattle.srb_judgement.specs.Parts.{Part}
use Rattle.srb_judgement.proofs.Nodes.{goes_by_node}
use Rattle.srb_language.specs.Asked.{language_of}
use Rattle.srb_language.specs.Knowledge.{Knowledge}
use Rattle.srb_judgement_laws.specs.ErrorPlaces.{JudgementErrsAtTokens, ProjectsErrAtTokens}
use Rattle.srb_judgement_laws.specs.Placed.{CallsStandAt}
use Rattle.srb_judgement_laws.proofs.CallErrors.{calls-stand}
use Rattle.srb_judgement_laws.proofs.Fine.{FinePart, FineGiven, FineSuffix, FinePiece, FinePair, FineArm, FineWhen, FineParameter, FineRescue, FineParts}
use Rattle.srb_judgement_laws.proofs.Nodes.{part-fine, program-fine}
use Rattle.srb_judgement_laws.proofs.Places.{twice-each, by-default, by-guarded}

module _ {T X : Type 0} (P : Span → Type 0) (L : Language T X) (calls : CallsStandAt P L) where
  abbrev Has : Tree → Type 0
  Has = HasErrorPlaces P

  abbrev Known : Type 0
  Known = Part T X

  abbrev known : Node-F Node Tree → Node-F Known Known
  known n = map-Node Node Tree Known Known (λ n. part_of L (tree_with n)) (part_of L) n

  -- ---- the place of what is known of a tree

  place-known : (n : Node-F Node Tree) → span_at (known n) ≡ span_at n
  place-known (Node-F.Body statements span) = refl
  place-known n = refl

  place-at : (n : Node-F Known Known) → (part_at L n).it.span ≡ span_at n
  unfolding part_at
  place-at n = refl

  place-is : (t : Tree) → (part_of L t).it.span ≡ span_of t
  unfolding span_of span_of_node
  place-is t = ap (λ p. p.it.span) (goes_by_node L t) ∙ place-at (known (out-Node t.node)) ∙ place-known (out-Node t.node)

  -- ---- trees

  abbrev Keeps : Tree → Type 0
  Keeps t = Has t → FinePart P (part_of L t)

  abbrev NodeKeeps : Node → Type 0
  NodeKeeps n = Keeps (tree_with n)

  abbrev KeptNode : Type 0
  KeptNode = (n : Node) × NodeKeeps n

  abbrev KeptTree : Type 0
  KeptTree = (t : Tree) × Keeps t

  abbrev plain : Node-F KeptNode KeptTree → Node-F Node Tree
  plain y = map-Node KeptNode KeptTree Node Tree (λ e. e.0) (λ e. e.0) y

  -- ---- the parts of a node

  -- a node with these parts, where the trees in it are fine
  abbrev PartsKept : Node-F KeptNode KeptTree → Type 0
  PartsKept y = HasParts P Has span_of (plain y) → FineParts P (known (plain y))

  trees-kept : (xs : List KeptTree) → Each Has (map (λ (e : KeptTree). e.0) xs) → Each (FinePart P) (map (part_of L) (map (λ (e : KeptTree). e.0) xs))
  trees-kept = twice-each Has (FinePart P) (λ (e : KeptTree). e.0) (part_of L) (λ x k. x.1 k)

  arguments-kept : (args : List (Argument KeptTree)) (span : Span) → PartsKept (Node-F.Yield (Some args) span)
  arguments-kept args span h = twice-each (HasArgument P Has span_of) (FineGiven P) _ _ (elim [
    | argument.Positional value ↦ λ k. value.1 k
    | argument.Keyword name span value ↦ λ k. value.1 k
    | argument.Block span value ↦ λ k. value.1 k
  ]) args h

  rescues-kept : (b : KeptTree) (rs : List (Rescue KeptTree)) (span : Span) →
      PartsKept (Node-F.Begin (record { body = b; rescues = rs; otherwise = None; ensure = None }) span)
  rescues-kept b rs span h = (
    b.1 h.0,
    twice-each (HasRescue P Has span_of) (FineRescue P) _ _ (λ r k. (trees-kept r.patterns k.0, k.1, r.body.1 k.2)) rs h.1,
    tt,
    tt,
  )

  guarded-kept : (g : Guarded KeptTree) (span : Span) → PartsKept (Node-F.Begin g span)
  guarded-kept g span = by-guarded (λ g. PartsKept (Node-F.Begin g span))
      (λ b rs h. rescues-kept b rs span h)
      (λ b rs e h. let k = rescues-kept b rs span (h.0, h.1, tt, tt) in (k.0, k.1, tt, e.1 h.3))
      (λ b rs o h. let k = rescues-kept b rs span (h.0, h.1, tt, tt) in (k.0, k.1, o.1 h.2, tt))
      (λ b rs o e h. let k = rescues-kept b rs span (h.0, h.1, tt, tt) in (k.0, k.1, o.1 h.2, e.1 h.3))
      g

  arms-kept : (arms : List (Arm KeptTree)) (condition body : KeptTree) (which : Test) (span : Span) → PartsKept (Node-F.If which condition body arms None span)
  arms-kept arms condition body which span h =
      (condition.1 h.0, body.1 h.1, twice-each (HasArm P Has span_of) (FineArm P) _ _ (λ a k. (a.condition.1 k.0, a.body.1 k.1)) arms h.2, tt)

  whens-kept : (whens : List (When KeptTree)) (span : Span) → PartsKept (Node-F.Case None whens None span)
  whens-kept whens span h = (tt, twice-each (HasWhen P Has span_of) (FineWhen P) _ _ (λ w k. (trees-kept w.patterns k.0, w.body.1 k.1)) whens h.1, tt)

  prefix-kept : (t : Tree) (span : Span) → P (prefix_to (span_of t) span) → P (record { start = (part_of L t).it.span.start; end = span.end })
  prefix-kept t span h = subst (λ front. P (prefix_to front span)) (sym (place-is t)) h

  parts-kept : (y : Node-F KeptNode KeptTree) → PartsKept y
  parts-kept (Node-F.Body statements span) h = trees-kept statements h
  parts-kept (Node-F.Modified statement modifier condition span) h = (statement.1 h.0, condition.1 h.1)
  parts-kept (Node-F.Jump word None span) h = h
  parts-kept (Node-F.Jump word (Some value) span) h = (h.0, value.1 h.1)
  parts-kept (Node-F.Assign target value span) h = (target.1 h.0, value.1 h.1)
  parts-kept (Node-F.OperatorAssign target operator place value span) h = (target.1 h.0, h.1, value.1 h.2)
  parts-kept (Node-F.Command callee args None span) h = (callee.1 h.0, arguments-kept args span h.1, tt)
  parts-kept (Node-F.Command callee args (Some b) span) h = (callee.1 h.0, arguments-kept args span h.1, b.body.1 h.2)
  parts-kept (Node-F.Conditional condition positive negative span) h = (condition.1 h.0, positive.1 h.1, negative.1 h.2)
  parts-kept (Node-F.Binary operator place left right span) h = (h.0, left.1 h.1, right.1 h.2)
  parts-kept (Node-F.Unary operator operand span) h = (h.0, operand.1 h.1)
  parts-kept (Node-F.Post receiver suffixes span) h = (
    receiver.1 h.0,
    twice-each (HasSuffix P Has span_of (span_of receiver.0)) (FineSuffix P (part_of L receiver.0).it.span.start) _ _ (elim [
      | suffix.Call how name name_span None None span ↦ λ k. (prefix-kept receiver.0 span k.0, k.1, tt, tt)
      | suffix.Call how name name_span None (Some b) span ↦ λ k. (prefix-kept receiver.0 span k.0, k.1, tt, b.body.1 k.3)
      | suffix.Call how name name_span (Some args) None span ↦ λ k. (prefix-kept receiver.0 span k.0, k.1, arguments-kept args span k.2, tt)
      | suffix.Call how name name_span (Some args) (Some b) span ↦ λ k. (prefix-kept receiver.0 span k.0, k.1, arguments-kept args span k.2, b.body.1 k.3)
      | suffix.Constant name name_span span ↦ λ k. prefix-kept receiver.0 span k
      | suffix.Index args span ↦ λ k. (prefix-kept receiver.0 span k.0, k.1, arguments-kept args span k.2)
    ]) suffixes h.1,
  )
  parts-kept (Node-F.Text pieces span) h =
      twice-each (HasPiece P Has span_of) (FinePiece P) _ _ (elim [ piece.Words words span ↦ λ k. tt | piece.Code body span ↦ λ k. body.1 k ]) pieces h
  parts-kept (Node-F.Call name place None None span) h = (h.0, tt, tt)
  parts-kept (Node-F.Call name place None (Some b) span) h = (h.0, tt, b.body.1 h.2)
  parts-kept (Node-F.Call name place (Some args) None span) h = (h.0, arguments-kept args span h.1, tt)
  parts-kept (Node-F.Call name place (Some args) (Some b) span) h = (h.0, arguments-kept args span h.1, b.body.1 h.2)
  parts-kept (Node-F.Yield None span) h = tt
  parts-kept (Node-F.Yield (Some args) span) h = arguments-kept args span h
  parts-kept (Node-F.Super None span) h = tt
  parts-kept (Node-F.Super (Some args) span) h = arguments-kept args span h
  parts-kept (Node-F.Array elements span) h = trees-kept elements h
  parts-kept (Node-F.Hash pairs span) h = twice-each (HasPair P Has span_of) (FinePair P) _ _ (elim [
    | pair.Arrow key value ↦ λ k. (key.1 k.0, value.1 k.1)
    | pair.Label name span value ↦ λ k. value.1 k
  ]) pairs h
  parts-kept (Node-F.Parens body span) h = body.1 h
  parts-kept (Node-F.If which condition body arms None span) h = arms-kept arms condition body which span h
  parts-kept (Node-F.If which condition body arms (Some otherwise) span) h =
      let k = arms-kept arms condition body which span (h.0, h.1, h.2, tt) in (k.0, k.1, k.2, otherwise.1 h.3)
  parts-kept (Node-F.While which condition body span) h = (condition.1 h.0, body.1 h.1)
  parts-kept (Node-F.Case None whens None span) h = whens-kept whens span h
  parts-kept (Node-F.Case None whens (Some otherwise) span) h = let k = whens-kept whens span (tt, h.1, tt) in (tt, k.1, otherwise.1 h.2)
  parts-kept (Node-F.Case (Some subject) whens None span) h = let k = whens-kept whens span (tt, h.1, tt) in (subject.1 h.0, k.1, tt)
  parts-kept (Node-F.Case (Some subject) whens (Some otherwise) span) h =
      let k = whens-kept whens span (tt, h.1, tt) in (subject.1 h.0, k.1, otherwise.1 h.2)
  parts-kept (Node-F.Begin guarded span) h = guarded-kept guarded span h
  parts-kept (Node-F.Class path superclass body span) h = body.1 h
  parts-kept (Node-F.Module path body span) h = body.1 h
  parts-kept (Node-F.Def visibility own name name_span parameters guarded span) h = (
    h.0,
    twice-each (HasParameter P Has span_of) (FineParameter P) _ _ (by-default _ (λ kind name span k. tt) (λ kind name span d k. d.1 k)) parameters h.1,
    guarded-kept guarded span h.2,
  )
  parts-kept _ h = tt

  -- ---- the induction

  part-by-node : (r : Node-F Node Tree) → part_of L (tree_with (roll-Node r)) ≡ part_at L (known r)
  part-by-node r = goes_by_node L (tree_with (roll-Node r)) ∙ ap (λ n. part_at L (known n)) (out-roll-Node r)

  node-keeps : (y : Node-F KeptNode KeptTree) → NodeKeeps (roll-Node (plain y))
  node-keeps y s =
      let h = taken-apart P (tree_with (roll-Node (plain y))) (plain y) refl s in
      subst (FinePart P) (sym (part-by-node (plain y)))
      (part-fine L P calls (known (plain y)) (subst P (sym (place-known (plain y))) h.0, parts-kept y h.1))

  keeps : (t : Tree) → Keeps t
  keeps = ind-Tree NodeKeeps Keeps (λ x y is. subst (λ z. NodeKeeps (roll-Node z)) is (node-keeps y)) (λ x y is. subst NodeKeeps (ap (λ z. z.node) is) y.node.1)

  -- The errors of the judgement of a tree have a fact of their places, where the places in the tree have it, over each language whose calls
  -- err at such places.
  pub errors-have : (t : Tree) → HasErrorPlaces P t → Each (λ (e : Diag). P e.span) (errors_of L t)
  unfolding errors_of
  errors-have t h = program-fine L P calls (part_of L t) (keeps t h)

-- Whatever is known of a project.
pub project-errors-have : (P : Span → Type 0) (k : Knowledge) (t : Tree) → HasErrorPlaces P t → Each (λ (e : Diag). P e.span) (errors_of (language_of k) t)
project-errors-have P k t h = errors-have P (language_of k) (calls-stand P k) t h

-- ---- at the tokens of a program

pub judgement_errs : {T X : Type 0} → JudgementErrsAtTokens T X
judgement_errs tokens L calls t h = errors-have (IsPlaceOfError tokens) L calls t h

pub projects_err : ProjectsErrAtTokens
projects_err tokens k t h = project-errors-have (IsPlaceOfError tokens) k t h
