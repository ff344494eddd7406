-- What is known of a tree that stands at tokens is fine: the errors that come from it have their places there.
use Rattle.std.proofs.Common.{◌≡◌, inl, inr, ℕ, List, [], ◌∷◌, map, Option, Some, None, refl, sym, ap, subst, ◌∙◌}
use Rattle.srb_terms.specs.declared.param_kind.ParamKind.{ParamKind}
use Rattle.srb_terms.specs.declared.span.Span.{Span}
use Rattle.rb_tree.specs.Trees.{span_at}
use Rattle.rb_tree.specs.declared.token.Token.{Token}
use Rattle.rb_tree.specs.declared.syntax.Argument.{Argument}
use Rattle.rb_tree.specs.declared.syntax.Argument.TheVariants as argument
use Rattle.rb_tree.specs.declared.syntax.Arm.{Arm}
use Rattle.rb_tree.specs.declared.syntax.Guarded.{Guarded}
use Rattle.rb_tree.specs.declared.syntax.Jump.{Jump}
use Rattle.rb_tree.specs.declared.syntax.Pair.TheVariants as pair
use Rattle.rb_tree.specs.declared.syntax.Parameter.{Parameter}
use Rattle.rb_tree.specs.declared.syntax.Piece.TheVariants as piece
use Rattle.rb_tree.specs.declared.syntax.PlacedName.{PlacedName}
use Rattle.rb_tree.specs.declared.syntax.Rescue.{Rescue}
use Rattle.rb_tree.specs.declared.syntax.Suffix.TheVariants as suffix
use Rattle.rb_tree.specs.declared.syntax.Test.{Test}
use Rattle.rb_tree.specs.declared.syntax.Tree.{Tree}
use Rattle.rb_tree.specs.declared.syntax.When.{When}
use Rattle.rb_tree.specs.declared.syntax.Node.{Node}
use Rattle.rb_tree.specs.declared.syntax.Node.TheOpen.{Node-F}
use Rattle.rb_tree.specs.declared.syntax.Node.TheViews.{roll-Node, out-roll-Node}
use Rattle.rb_tree.specs.declared.syntax.Node.TheFolds.{map-Node, ind-Tree}
use Rattle.rb_views.specs.Places.{open_bracket, prefix_operator, jump_word}
use Rattle.rb_grammar.specs.Places.{Each, IfThere, IsPlaced, IsNamePlaced, StandsAt, DoesNodeStand, DoesArgumentStand, DoesSuffixStand, DoesPieceStand, DoesPairStand, DoesArmStand, DoesWhenStand, DoesParameterStand, DoesRescueStand}
use Rattle.rb_grammar.proofs.Nodes.{taken-apart}
use Rattle.srb_judgement.specs.Judgements.{part_at, part_of, errors_of}
use Rattle.srb_judgement.specs.Languages.{Language}
use Rattle.srb_judgement.specs.Laws.{tree_with}
use Rattle.srb_judgement.specs.Parts.{Part}
use Rattle.srb_judgement.proofs.Nodes.{goes_by_node}
use Rattle.srb_judgement_laws.specs.Placed.{IsTreePlaced, IsErrorPlace, CallsStand, JudgementStandsAtTokens}
use Rattle.srb_judgement_laws.proofs.Fine.{FinePart, FineGiven, FineSuffix, FinePiece, FinePair, FineArm, FineWhen, FineName, FineParameter, FineRescue, FineParts}
use Rattle.srb_judgement_laws.proofs.Nodes.{part-fine, program-fine}

-- ---- what is mapped twice

pub twice-each : {A B C : Type 0} (S : B → Type 0) (Q : C → Type 0) (g : A → B) (f : B → C) → ((x : A) → S (g x) → Q (f (g x))) → (xs : List A) →
    Each S (map g xs) → Each Q (map f (map g xs))
twice-each S Q g f h [] k = tt
twice-each S Q g f h (x ∷ xs) k = (h x k.0, twice-each S Q g f h xs k.1)

-- by whether a parameter has a default
pub by-default : {X : Type 0} (Q : Parameter X → Type 0) →
    ((kind : ParamKind) (name : List ℕ) (span : Span) → Q (record { kind = kind; name = name; span = span; default = None })) →
    ((kind : ParamKind) (name : List ℕ) (span : Span) (d : X) → Q (record { kind = kind; name = name; span = span; default = Some d })) →
    (p : Parameter X) → Q p
by-default {X = X} Q h k p = go p.default
  where
    go : (o : Option X) → Q (record { kind = p.kind; name = p.name; span = p.span; default = o })
    go None = h p.kind p.name p.span
    go (Some d) = k p.kind p.name p.span d

-- by what stands after the clauses
pub by-guarded : {X : Type 0} (Q : Guarded X → Type 0) →
    ((b : X) (rs : List (Rescue X)) → Q (record { body = b; rescues = rs; otherwise = None; ensure = None })) →
    ((b : X) (rs : List (Rescue X)) (e : X) → Q (record { body = b; rescues = rs; otherwise = None; ensure = Some e })) →
    ((b : X) (rs : List (Rescue X)) (o : X) → Q (record { body = b; rescues = rs; otherwise = Some o; ensure = None })) →
    ((b : X) (rs : List (Rescue X)) (o e : X) → Q (record { body = b; rescues = rs; otherwise = Some o; ensure = Some e })) →
    (g : Guarded X) → Q g
by-guarded {X = X} Q h k l m g = go g.otherwise g.ensure
  where
    go : (o e : Option X) → Q (record { body = g.body; rescues = g.rescues; otherwise = o; ensure = e })
    go None None = h g.body g.rescues
    go None (Some e) = k g.body g.rescues e
    go (Some o) None = l g.body g.rescues o
    go (Some o) (Some e) = m g.body g.rescues o e

module _ {T X : Type 0} (tokens : List Token) (L : Language T X) (calls : CallsStand tokens L) where
  abbrev Stands : Tree → Type 0
  Stands = StandsAt tokens

  abbrev P : Span → Type 0
  P = IsErrorPlace tokens

  abbrev Known : Type 0
  Known = Part T X

  -- ---- places

  placed : (span : Span) → IsPlaced tokens span → P span
  placed span h = inl (inl h)

  bracket-placed : (span : Span) → IsPlaced tokens span → P (open_bracket span)
  bracket-placed span h = inr (inr (span, h, inl refl))

  operator-placed : (span : Span) → IsPlaced tokens span → P (prefix_operator span)
  operator-placed span h = inr (inr (span, h, inl refl))

  word-placed : (word : Jump) (span : Span) → IsPlaced tokens span → P (jump_word word span)
  word-placed word span h = inr (inr (span, h, inr (word, refl)))

  prefix-placed : (operand suffix : Span) → IsTreePlaced tokens operand → IsPlaced tokens suffix → P (record { start = operand.start; end = suffix.end })
  prefix-placed operand suffix h k = inr (inl (operand, suffix, h, k, refl, refl))

  -- ---- trees

  -- what is known of the tree has a place, and is fine
  abbrev Is : Known → Type 0
  Is p = IsTreePlaced tokens p.it.span × FinePart P p

  abbrev Keeps : Tree → Type 0
  Keeps t = Stands t → Is (part_of L t)

  abbrev NodeKeeps : Node → Type 0
  NodeKeeps n = Keeps (tree_with n)

  abbrev KeptNode : Type 0
  KeptNode = (n : Node) × NodeKeeps n

  abbrev KeptTree : Type 0
  KeptTree = (t : Tree) × Keeps t

  abbrev plain : Node-F KeptNode KeptTree → Node-F Node Tree
  plain y = map-Node KeptNode KeptTree Node Tree (λ e. e.0) (λ e. e.0) y

  abbrev known : Node-F Node Tree → Node-F Known Known
  known n = map-Node Node Tree Known Known (λ n. part_of L (tree_with n)) (part_of L) n

  -- ---- the parts of a node

  -- a node with these parts, where the trees in it have places and are fine
  abbrev PartsKept : Node-F KeptNode KeptTree → Type 0
  PartsKept y = DoesNodeStand tokens Stands (plain y) → FineParts P (known (plain y))

  trees-kept : (xs : List KeptTree) → Each Stands (map (λ (e : KeptTree). e.0) xs) → Each (FinePart P) (map (part_of L) (map (λ (e : KeptTree). e.0) xs))
  trees-kept = twice-each Stands (FinePart P) (λ (e : KeptTree). e.0) (part_of L) (λ x k. (x.1 k).1)

  name-kept : (x : Option PlacedName) → IfThere (IsNamePlaced tokens) x → IfThere (FineName P) x
  name-kept None h = tt
  name-kept (Some x) h = placed x.span h

  arguments-kept : (args : List (Argument KeptTree)) (span : Span) → PartsKept (Node-F.Yield (Some args) span)
  arguments-kept args span h = twice-each (DoesArgumentStand tokens Stands) (FineGiven P) _ _ (elim [
    | argument.Positional value ↦ λ k. (value.1 k).1
    | argument.Keyword name span value ↦ λ k. (value.1 k.1).1
    | argument.Block span value ↦ λ k. (value.1 k.1).1
  ]) args h.1

  rescues-kept : (b : KeptTree) (rs : List (Rescue KeptTree)) (span : Span) →
      PartsKept (Node-F.Begin (record { body = b; rescues = rs; otherwise = None; ensure = None }) span)
  rescues-kept b rs span h = (
    (b.1 h.1.0).1,
    twice-each (DoesRescueStand tokens Stands) (FineRescue P) _ _ (λ r k. (trees-kept r.patterns k.0, name-kept r.variable k.1, (r.body.1 k.2).1)) rs h.1.1,
    tt,
    tt,
  )

  guarded-kept : (g : Guarded KeptTree) (span : Span) → PartsKept (Node-F.Begin g span)
  guarded-kept g span = by-guarded (λ g. PartsKept (Node-F.Begin g span))
      (λ b rs h. rescues-kept b rs span h)
      (λ b rs e h. let k = rescues-kept b rs span (h.0, (h.1.0, h.1.1, tt, tt)) in (k.0, k.1, tt, (e.1 h.1.3).1))
      (λ b rs o h. let k = rescues-kept b rs span (h.0, (h.1.0, h.1.1, tt, tt)) in (k.0, k.1, (o.1 h.1.2).1, tt))
      (λ b rs o e h. let k = rescues-kept b rs span (h.0, (h.1.0, h.1.1, tt, tt)) in (k.0, k.1, (o.1 h.1.2).1, (e.1 h.1.3).1))
      g

  arms-kept : (condition body : KeptTree) (which : Test) (arms : List (Arm KeptTree)) (span : Span) → PartsKept (Node-F.If which condition body arms None span)
  arms-kept condition body which arms span h =
      ((condition.1 h.1).1, (body.1 h.2).1, twice-each (DoesArmStand tokens Stands) (FineArm P) _ _ (λ a k. ((a.condition.1 k.0).1, (a.body.1 k.1).1)) arms h.3, tt)

  whens-kept : (whens : List (When KeptTree)) (span : Span) → PartsKept (Node-F.Case None whens None span)
  whens-kept whens span h = (tt, twice-each (DoesWhenStand tokens Stands) (FineWhen P) _ _ (λ w k. (trees-kept w.patterns k.0, (w.body.1 k.1).1)) whens h.2, tt)

  parts-kept : (y : Node-F KeptNode KeptTree) → PartsKept y
  parts-kept (Node-F.Body [] span) h = tt
  parts-kept (Node-F.Body (s ∷ ss) span) h = trees-kept (s ∷ ss) h.1
  parts-kept (Node-F.Modified statement modifier condition span) h = ((statement.1 h.1).1, (condition.1 h.2).1)
  parts-kept (Node-F.Jump word None span) h = (word-placed word span h.0, tt)
  parts-kept (Node-F.Jump word (Some value) span) h = (word-placed word span h.0, (value.1 h.1).1)
  parts-kept (Node-F.Assign target value span) h = ((target.1 h.1).1, (value.1 h.2).1)
  parts-kept (Node-F.OperatorAssign target operator place value span) h = ((target.1 h.1).1, placed place h.2, (value.1 h.3).1)
  parts-kept (Node-F.Command callee args None span) h = ((callee.1 h.1).1, arguments-kept args span (h.0, h.2), tt)
  parts-kept (Node-F.Command callee args (Some b) span) h = ((callee.1 h.1).1, arguments-kept args span (h.0, h.2), (b.body.1 h.3.2).1)
  parts-kept (Node-F.Conditional condition positive negative span) h = ((condition.1 h.1).1, (positive.1 h.2).1, (negative.1 h.3).1)
  parts-kept (Node-F.Binary operator place left right span) h = (placed place h.1, (left.1 h.2).1, (right.1 h.3).1)
  parts-kept (Node-F.Unary operator operand span) h = (operator-placed span h.0, (operand.1 h.1).1)
  parts-kept (Node-F.Post receiver suffixes span) h = (
    (receiver.1 h.1).1,
    twice-each (DoesSuffixStand tokens Stands) (FineSuffix P (part_of L receiver.0).it.span.start) _ _ (elim [
      | suffix.Call how name name_span None None span ↦ λ k. (prefix-placed (part_of L receiver.0).it.span span (receiver.1 h.1).0 k.0, placed name_span k.1, tt, tt)
      | suffix.Call how name name_span None (Some b) span ↦
          λ k. (prefix-placed (part_of L receiver.0).it.span span (receiver.1 h.1).0 k.0, placed name_span k.1, tt, (b.body.1 k.3.2).1)
      | suffix.Call how name name_span (Some args) None span ↦
          λ k. (prefix-placed (part_of L receiver.0).it.span span (receiver.1 h.1).0 k.0, placed name_span k.1, arguments-kept args span (k.0, k.2), tt)
      | suffix.Call how name name_span (Some args) (Some b) span ↦
          λ k. (prefix-placed (part_of L receiver.0).it.span span (receiver.1 h.1).0 k.0, placed name_span k.1, arguments-kept args span (k.0, k.2), (b.body.1 k.3.2).1)
      | suffix.Constant name name_span span ↦ λ k. prefix-placed (part_of L receiver.0).it.span span (receiver.1 h.1).0 k.0
      | suffix.Index args span ↦
          λ k. (prefix-placed (part_of L receiver.0).it.span span (receiver.1 h.1).0 k.0, bracket-placed span k.0, arguments-kept args span (k.0, k.1))
    ]) suffixes h.2,
  )
  parts-kept (Node-F.Text pieces span) h =
      twice-each (DoesPieceStand tokens Stands) (FinePiece P) _ _ (elim [ piece.Words words span ↦ λ k. tt | piece.Code body span ↦ λ k. (body.1 k.1).1 ]) pieces h.1
  parts-kept (Node-F.Call name place None None span) h = (placed place h.1, tt, tt)
  parts-kept (Node-F.Call name place None (Some b) span) h = (placed place h.1, tt, (b.body.1 h.3.2).1)
  parts-kept (Node-F.Call name place (Some args) None span) h = (placed place h.1, arguments-kept args span (h.0, h.2), tt)
  parts-kept (Node-F.Call name place (Some args) (Some b) span) h = (placed place h.1, arguments-kept args span (h.0, h.2), (b.body.1 h.3.2).1)
  parts-kept (Node-F.Yield None span) h = tt
  parts-kept (Node-F.Yield (Some args) span) h = arguments-kept args span h
  parts-kept (Node-F.Super None span) h = tt
  parts-kept (Node-F.Super (Some args) span) h = arguments-kept args span h
  parts-kept (Node-F.Array elements span) h = trees-kept elements h.1
  parts-kept (Node-F.Hash pairs span) h = twice-each (DoesPairStand tokens Stands) (FinePair P) _ _ (elim [
    | pair.Arrow key value ↦ λ k. ((key.1 k.0).1, (value.1 k.1).1)
    | pair.Label name span value ↦ λ k. (value.1 k.1).1
  ]) pairs h.1
  parts-kept (Node-F.Parens body span) h = (body.1 h.1).1
  parts-kept (Node-F.If which condition body arms None span) h = arms-kept condition body which arms span h
  parts-kept (Node-F.If which condition body arms (Some otherwise) span) h =
      let k = arms-kept condition body which arms span (h.0, h.1, h.2, h.3, tt) in (k.0, k.1, k.2, (otherwise.1 h.4).1)
  parts-kept (Node-F.While which condition body span) h = ((condition.1 h.1).1, (body.1 h.2).1)
  parts-kept (Node-F.Case None whens None span) h = whens-kept whens span h
  parts-kept (Node-F.Case None whens (Some otherwise) span) h = let k = whens-kept whens span (h.0, tt, h.2, tt) in (tt, k.1, (otherwise.1 h.3).1)
  parts-kept (Node-F.Case (Some subject) whens None span) h = let k = whens-kept whens span (h.0, tt, h.2, tt) in ((subject.1 h.1).1, k.1, tt)
  parts-kept (Node-F.Case (Some subject) whens (Some otherwise) span) h =
      let k = whens-kept whens span (h.0, tt, h.2, tt) in ((subject.1 h.1).1, k.1, (otherwise.1 h.3).1)
  parts-kept (Node-F.Begin guarded span) h = guarded-kept guarded span h
  parts-kept (Node-F.Class path superclass body span) h = (body.1 h.3).1
  parts-kept (Node-F.Module path body span) h = (body.1 h.2).1
  parts-kept (Node-F.Def visibility own name name_span parameters guarded span) h = (
    placed name_span h.1,
    twice-each (DoesParameterStand tokens Stands) (FineParameter P) _ _ (by-default _ (λ kind name span k. tt) (λ kind name span d k. (d.1 k.1).1)) parameters h.2,
    guarded-kept guarded span (h.0, h.3),
  )
  parts-kept _ h = tt

  place-kept : (y : Node-F KeptNode KeptTree) → DoesNodeStand tokens Stands (plain y) → IsTreePlaced tokens (span_at (known (plain y)))
  place-kept (Node-F.Body [] span) h = inr h
  place-kept (Node-F.Whole sign words span) h = inl h
  place-kept (Node-F.Float sign words span) h = inl h
  place-kept (Node-F.Symbol words span) h = inl h
  place-kept (Node-F.InstanceVariable name span) h = inl h
  place-kept (Node-F.Constant name span) h = inl h
  place-kept (Node-F.SelfWord span) h = inl h
  place-kept (Node-F.Nil span) h = inl h
  place-kept (Node-F.True span) h = inl h
  place-kept (Node-F.False span) h = inl h
  place-kept (Node-F.Name name span) h = inl h
  place-kept _ h = inl h.0

  -- ---- the induction

  part-by-node : (r : Node-F Node Tree) → part_of L (tree_with (roll-Node r)) ≡ part_at L (known r)
  part-by-node r = goes_by_node L (tree_with (roll-Node r)) ∙ ap (λ n. part_at L (known n)) (out-roll-Node r)

  step : (n : Node-F Known Known) → IsTreePlaced tokens (span_at n) → FineParts P n → Is (part_at L n)
  unfolding part_at
  step n h k = (h, part-fine L P calls n (inl h, k))

  node-keeps : (y : Node-F KeptNode KeptTree) → NodeKeeps (roll-Node (plain y))
  node-keeps y s =
      let h = taken-apart tokens (tree_with (roll-Node (plain y))) (plain y) refl s in
      subst Is (sym (part-by-node (plain y))) (step (known (plain y)) (place-kept y h) (parts-kept y h))

  keeps : (t : Tree) → Keeps t
  keeps = ind-Tree NodeKeeps Keeps (λ x y is. subst (λ z. NodeKeeps (roll-Node z)) is (node-keeps y)) (λ x y is. subst NodeKeeps (ap (λ z. z.node) is) y.node.1)

pub judgement_stands : {T X : Type 0} → JudgementStandsAtTokens T X
unfolding errors_of
judgement_stands tokens L calls t h = program-fine L (IsErrorPlace tokens) calls (part_of L t) (keeps tokens L calls t h).1
