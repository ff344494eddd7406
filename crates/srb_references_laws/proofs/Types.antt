-- The parts of type expressions stand at the tokens of a program, where the program does.
use Rattle.std.proofs.Common.{inl, inr, Bool, true, false, if◌then◌else◌, List, [], ◌∷◌, Option}
use Rattle.rb_tree.specs.Trees.{span_at, span_of, span_of_node}
use Rattle.rb_tree.specs.declared.token.Token.{Token}
use Rattle.rb_tree.specs.declared.syntax.Argument.{Argument}
use Rattle.rb_tree.specs.declared.syntax.Argument.TheVariants as argument
use Rattle.rb_tree.specs.declared.syntax.Block.{Block}
use Rattle.rb_tree.specs.declared.syntax.Guarded.{Guarded}
use Rattle.rb_tree.specs.declared.syntax.Pair.{Pair}
use Rattle.rb_tree.specs.declared.syntax.Pair.TheVariants as pair
use Rattle.rb_tree.specs.declared.syntax.Piece.{Piece}
use Rattle.rb_tree.specs.declared.syntax.Piece.TheVariants as piece
use Rattle.rb_tree.specs.declared.syntax.Suffix.{Suffix}
use Rattle.rb_tree.specs.declared.syntax.Suffix.TheVariants as suffix
use Rattle.rb_tree.specs.declared.syntax.Tree.{Tree}
use Rattle.rb_tree.specs.declared.syntax.Node.{Node, out-Node}
use Rattle.rb_tree.specs.declared.syntax.Node.TheOpen.{Node-F}
use Rattle.rb_grammar.specs.Places.{Each, IfThere, StandsAt, DoesNodeStand, DoesArgumentStand, DoesBlockStand, DoesSuffixStand, DoesPieceStand, DoesPairStand, DoesParameterStand, DoesRescueStand, DoesGuardedStand}
use Rattle.rb_grammar.proofs.Nodes.{opened}
use Rattle.rb_grammar.proofs.Placed.{each-weaker}
use Rattle.rb_places_laws.proofs.TreePlaces.{if-weaker}
use Rattle.srb_sig.specs.Views.{View}
use Rattle.srb_references.specs.Readings.{Visit}
use Rattle.srb_references.specs.MalformedTypes.{types_of, is_malformed, malformed_type, malformed_errors_of}
use Rattle.srb_references_laws.proofs.Parts.{each-flat, OfArgument, OfBlock, OfSuffix, OfPiece, OfPair, OfRescue, OfGuarded, OfParameter, OfNode, OfVisit}
use Rattle.srb_references_laws.proofs.Visits.{types-kept}
use Rattle.srb_references_laws.specs.Placed.{IsTreePlaced, IsErrorPlaced, MalformedTypesStandAtTokens}

module _ (tokens : List Token) where
  abbrev Stands : Tree → Type 0
  Stands = StandsAt tokens

  -- ---- the trees in a node that stands

  argument-of : (a : Argument Tree) → DoesArgumentStand tokens Stands a → OfArgument Stands a
  argument-of (argument.Positional value) h = h
  argument-of (argument.Keyword name span value) h = h.1
  argument-of (argument.Block span value) h = h.1

  arguments-of : (xs : List (Argument Tree)) → Each (DoesArgumentStand tokens Stands) xs → Each (OfArgument Stands) xs
  arguments-of = each-weaker (DoesArgumentStand tokens Stands) (OfArgument Stands) argument-of

  given-of : (xs : Option (List (Argument Tree))) → IfThere (Each (DoesArgumentStand tokens Stands)) xs → IfThere (Each (OfArgument Stands)) xs
  given-of = if-weaker (Each (DoesArgumentStand tokens Stands)) (Each (OfArgument Stands)) arguments-of

  block-of : (b : Option (Block Tree)) → IfThere (DoesBlockStand tokens Stands) b → IfThere (OfBlock Stands) b
  block-of = if-weaker (DoesBlockStand tokens Stands) (OfBlock Stands) (λ b h. h.2)

  suffix-of : (s : Suffix Tree) → DoesSuffixStand tokens Stands s → OfSuffix Stands s
  suffix-of (suffix.Call how name name_span arguments block span) h = (given-of arguments h.2, block-of block h.3)
  suffix-of (suffix.Constant name name_span span) h = tt
  suffix-of (suffix.Index arguments span) h = arguments-of arguments h.1

  piece-of : (p : Piece Tree) → DoesPieceStand tokens Stands p → OfPiece Stands p
  piece-of (piece.Words words span) h = tt
  piece-of (piece.Code body span) h = h.1

  pair-of : (p : Pair Tree) → DoesPairStand tokens Stands p → OfPair Stands p
  pair-of (pair.Arrow key value) h = h
  pair-of (pair.Label name span value) h = h.1

  guarded-of : (g : Guarded Tree) → DoesGuardedStand tokens Stands g → OfGuarded Stands g
  guarded-of g h = (h.0, each-weaker (DoesRescueStand tokens Stands) (OfRescue Stands) (λ r k. (k.0, k.2)) g.rescues h.1, h.2, h.3)

  node-of : (n : Node-F Node Tree) → DoesNodeStand tokens Stands n → OfNode Stands n
  node-of (Node-F.Body [] span) h = tt
  node-of (Node-F.Body (s ∷ ss) span) h = h.1
  node-of (Node-F.Modified statement modifier condition span) h = (h.1, h.2)
  node-of (Node-F.Jump jump value span) h = h.1
  node-of (Node-F.Assign target value span) h = (h.1, h.2)
  node-of (Node-F.OperatorAssign target operator operator_span value span) h = (h.1, h.3)
  node-of (Node-F.Command callee arguments block span) h = (h.1, arguments-of arguments h.2, block-of block h.3)
  node-of (Node-F.Conditional condition positive negative span) h = (h.1, h.2, h.3)
  node-of (Node-F.Binary operator operator_span left right span) h = (h.2, h.3)
  node-of (Node-F.Unary operator operand span) h = h.1
  node-of (Node-F.Post receiver suffixes span) h = (h.1, each-weaker (DoesSuffixStand tokens Stands) (OfSuffix Stands) suffix-of suffixes h.2)
  node-of (Node-F.Text pieces span) h = each-weaker (DoesPieceStand tokens Stands) (OfPiece Stands) piece-of pieces h.1
  node-of (Node-F.Call name name_span arguments block span) h = (given-of arguments h.2, block-of block h.3)
  node-of (Node-F.Yield arguments span) h = given-of arguments h.1
  node-of (Node-F.Super arguments span) h = given-of arguments h.1
  node-of (Node-F.Array elements span) h = h.1
  node-of (Node-F.Hash pairs span) h = each-weaker (DoesPairStand tokens Stands) (OfPair Stands) pair-of pairs h.1
  node-of (Node-F.Parens body span) h = h.1
  node-of (Node-F.If test condition body arms otherwise span) h = (h.1, h.2, h.3, h.4)
  node-of (Node-F.While test condition body span) h = (h.1, h.2)
  node-of (Node-F.Case subject arms otherwise span) h = (h.1, h.2, h.3)
  node-of (Node-F.Begin guarded span) h = guarded-of guarded h.1
  node-of (Node-F.Class path superclass body span) h = h.3
  node-of (Node-F.Module path body span) h = h.2
  node-of (Node-F.Def visibility own name name_span parameters guarded span) h =
      (each-weaker (DoesParameterStand tokens Stands) (OfParameter Stands) (λ p k. k.1) parameters h.2, guarded-of guarded h.3)
  node-of _ h = tt

  -- ---- their places

  node-placed : (n : Node-F Node Tree) → DoesNodeStand tokens Stands n → IsTreePlaced tokens (span_at n)
  node-placed (Node-F.Body [] span) h = inr h
  node-placed (Node-F.Body (s ∷ ss) span) h = inl h.0
  node-placed (Node-F.Modified statement modifier condition span) h = inl h.0
  node-placed (Node-F.Jump jump value span) h = inl h.0
  node-placed (Node-F.Assign target value span) h = inl h.0
  node-placed (Node-F.OperatorAssign target operator operator_span value span) h = inl h.0
  node-placed (Node-F.Command callee arguments block span) h = inl h.0
  node-placed (Node-F.Conditional condition positive negative span) h = inl h.0
  node-placed (Node-F.Binary operator operator_span left right span) h = inl h.0
  node-placed (Node-F.Unary operator operand span) h = inl h.0
  node-placed (Node-F.Post receiver suffixes span) h = inl h.0
  node-placed (Node-F.Whole sign words span) h = inl h
  node-placed (Node-F.Float sign words span) h = inl h
  node-placed (Node-F.Text pieces span) h = inl h.0
  node-placed (Node-F.Symbol words span) h = inl h
  node-placed (Node-F.InstanceVariable name span) h = inl h
  node-placed (Node-F.Constant name span) h = inl h
  node-placed (Node-F.TopConstant name name_span span) h = inl h.0
  node-placed (Node-F.SelfWord span) h = inl h
  node-placed (Node-F.Nil span) h = inl h
  node-placed (Node-F.True span) h = inl h
  node-placed (Node-F.False span) h = inl h
  node-placed (Node-F.Name name span) h = inl h
  node-placed (Node-F.Call name name_span arguments block span) h = inl h.0
  node-placed (Node-F.Yield arguments span) h = inl h.0
  node-placed (Node-F.Super arguments span) h = inl h.0
  node-placed (Node-F.Array elements span) h = inl h.0
  node-placed (Node-F.Hash pairs span) h = inl h.0
  node-placed (Node-F.Parens body span) h = inl h.0
  node-placed (Node-F.If test condition body arms otherwise span) h = inl h.0
  node-placed (Node-F.While test condition body span) h = inl h.0
  node-placed (Node-F.Case subject arms otherwise span) h = inl h.0
  node-placed (Node-F.Begin guarded span) h = inl h.0
  node-placed (Node-F.Class path superclass body span) h = inl h.0
  node-placed (Node-F.Module path body span) h = inl h.0
  node-placed (Node-F.Def visibility own name name_span parameters guarded span) h = inl h.0

  tree-placed : (t : Tree) → Stands t → IsTreePlaced tokens (span_of t)
  unfolding span_of span_of_node
  tree-placed t h = node-placed (out-Node t.node) (opened tokens t h)

  error-placed : (v : View) (p : Visit Tree) → OfVisit Stands p → Each (IsErrorPlaced tokens) (malformed_errors_of v p)
  error-placed v p h = by_test (is_malformed v p)
    where
      by_test : (b : Bool) → Each (IsErrorPlaced tokens) (if b then malformed_type p.part ∷ [] else [])
      by_test true = (tree-placed p.part h, tt)
      by_test false = tt

pub malformed-stand : MalformedTypesStandAtTokens
malformed-stand tokens v t h = each-flat (OfVisit (StandsAt tokens)) (IsErrorPlaced tokens) (malformed_errors_of v) (error-placed tokens v) (types_of t) (types-kept (StandsAt tokens) (λ t h. node-of tokens (out-Node t.node) (opened tokens t h)) t h)
