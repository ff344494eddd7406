-- References and the parts of type expressions stand at places of the tree.
use Rattle.std.proofs.Common.{◌≡◌, ℕ, Bool, true, false, if◌then◌else◌, List, [], ◌∷◌, ◌-◌, length, take, Option, Some, None}
use Rattle.srb_terms.specs.declared.diag.Diag.{Diag}
use Rattle.srb_terms.specs.declared.span.Span.{Span}
use Rattle.rb_tree.specs.Trees.{span_of}
use Rattle.rb_tree.specs.declared.syntax.Argument.{Argument}
use Rattle.rb_tree.specs.declared.syntax.Argument.TheVariants as argument
use Rattle.rb_tree.specs.declared.syntax.Block.{Block}
use Rattle.rb_tree.specs.declared.syntax.Guarded.{Guarded}
use Rattle.rb_tree.specs.declared.syntax.Pair.{Pair}
use Rattle.rb_tree.specs.declared.syntax.Pair.TheVariants as pair
use Rattle.rb_tree.specs.declared.syntax.Piece.{Piece}
use Rattle.rb_tree.specs.declared.syntax.Piece.TheVariants as piece
use Rattle.rb_tree.specs.declared.syntax.PlacedName.{PlacedName}
use Rattle.rb_tree.specs.declared.syntax.Reference as syntax
use Rattle.rb_tree.specs.declared.syntax.Suffix.{Suffix}
use Rattle.rb_tree.specs.declared.syntax.Suffix.TheVariants as suffix
use Rattle.rb_tree.specs.declared.syntax.Tree.{Tree}
use Rattle.rb_tree.specs.declared.syntax.Node.{Node, out-Node}
use Rattle.rb_tree.specs.declared.syntax.Node.TheOpen.{Node-F}
use Rattle.rb_views.specs.Paths.{Path, path_of}
use Rattle.rb_grammar.specs.Places.{Each, IfThere}
use Rattle.rb_grammar.proofs.Placed.{each-weaker}
use Rattle.rb_places_laws.specs.ErrorPlaces.{HasArgument, HasBlock, HasGuarded, HasPair, HasPiece, HasRescue, HasSuffix}
use Rattle.rb_places_laws.specs.TreePlaces.{HasAll, HasPlaces, HasSuperclass}
use Rattle.rb_places_laws.proofs.Paths.{HasFront, IsPathAt, path-front, path-has}
use Rattle.rb_places_laws.proofs.TreePlaces.{each-is-place, if-weaker, opened, place-has}
use Rattle.srb_sig.specs.Views.{View}
use Rattle.srb_references.specs.declared.reading.Reading.{Reading}
use Rattle.srb_references.specs.declared.reference.Reference.{Reference}
use Rattle.srb_references.specs.Readings.{Visit}
use Rattle.srb_references.specs.References.{declared_references, front_references, is_form_of_type, named_references, own_references, path_references, references_of, superclass_references, visits}
use Rattle.srb_references.specs.MalformedTypes.{is_malformed, malformed_errors, malformed_errors_of, malformed_type, types_of}
use Rattle.srb_references_laws.proofs.Parts.{each-append, each-flat, OfArgument, OfBlock, OfGuarded, OfNode, OfPair, OfPiece, OfRescue, OfSuffix, OfVisit}
use Rattle.srb_references_laws.proofs.Visits.{types-kept, visits-kept}
use Rattle.srb_references_laws.specs.Placed.{MalformedTypesStandInTrees, ReferencesStandInTrees}

module _ (P : Span → Type 0) where
  abbrev Has : Tree → Type 0
  Has = HasPlaces P

  -- ---- the trees in a node

  argument-of : (a : Argument Tree) → HasArgument P Has span_of a → OfArgument Has a
  argument-of (argument.Positional value) h = h
  argument-of (argument.Keyword name span value) h = h
  argument-of (argument.Block span value) h = h

  arguments-of : (xs : List (Argument Tree)) → Each (HasArgument P Has span_of) xs → Each (OfArgument Has) xs
  arguments-of = each-weaker (HasArgument P Has span_of) (OfArgument Has) argument-of

  given-of : (xs : Option (List (Argument Tree))) → IfThere (Each (HasArgument P Has span_of)) xs → IfThere (Each (OfArgument Has)) xs
  given-of = if-weaker (Each (HasArgument P Has span_of)) (Each (OfArgument Has)) arguments-of

  block-of : (b : Option (Block Tree)) → IfThere (HasBlock P Has span_of) b → IfThere (OfBlock Has) b
  block-of = if-weaker (HasBlock P Has span_of) (OfBlock Has) (λ b h. h)

  suffix-of : (front : Span) (s : Suffix Tree) → HasSuffix P Has span_of front s → OfSuffix Has s
  suffix-of front (suffix.Call how name name_span given block span) h = (given-of given h.2, block-of block h.3)
  suffix-of front (suffix.Constant name name_span span) h = tt
  suffix-of front (suffix.Index given span) h = arguments-of given h.2

  piece-of : (p : Piece Tree) → HasPiece P Has span_of p → OfPiece Has p
  piece-of (piece.Words words span) h = tt
  piece-of (piece.Code body span) h = h

  pair-of : (p : Pair Tree) → HasPair P Has span_of p → OfPair Has p
  pair-of (pair.Arrow key value) h = h
  pair-of (pair.Label name span value) h = h

  guarded-of : (g : Guarded Tree) → HasGuarded P Has span_of g → OfGuarded Has g
  guarded-of g h = (h.0, each-weaker (HasRescue P Has span_of) (OfRescue Has) (λ r k. (k.0, k.2)) g.rescues h.1, h.2, h.3)

  node-of : (n : Node-F Node Tree) → HasAll P span_of Has n → OfNode Has n
  node-of (Node-F.Body statements span) h = h.0.1
  node-of (Node-F.Modified statement modifier condition span) h = h.0.1
  node-of (Node-F.Jump jump value span) h = h.0.1.1
  node-of (Node-F.Assign target value span) h = h.0.1
  node-of (Node-F.OperatorAssign target operator operator_span value span) h = (h.0.1.0, h.0.1.2)
  node-of (Node-F.Command callee given block span) h = (h.0.1.0, arguments-of given h.0.1.1, block-of block h.0.1.2)
  node-of (Node-F.Conditional condition positive negative span) h = h.0.1
  node-of (Node-F.Binary operator operator_span left right span) h = (h.0.1.1, h.0.1.2)
  node-of (Node-F.Unary operator operand span) h = h.0.1.1
  node-of (Node-F.Post receiver suffixes span) h = (h.0.1.0, each-weaker (HasSuffix P Has span_of (span_of receiver)) (OfSuffix Has) (suffix-of (span_of receiver)) suffixes h.0.1.1)
  node-of (Node-F.Text pieces span) h = each-weaker (HasPiece P Has span_of) (OfPiece Has) piece-of pieces h.0.1
  node-of (Node-F.Call name name_span given block span) h = (given-of given h.0.1.1, block-of block h.0.1.2)
  node-of (Node-F.Yield given span) h = given-of given h.0.1
  node-of (Node-F.Super given span) h = given-of given h.0.1
  node-of (Node-F.Array elements span) h = h.0.1
  node-of (Node-F.Hash pairs span) h = each-weaker (HasPair P Has span_of) (OfPair Has) pair-of pairs h.0.1
  node-of (Node-F.Parens body span) h = h.0.1
  node-of (Node-F.If test condition body arms otherwise span) h = h.0.1
  node-of (Node-F.While test condition body span) h = h.0.1
  node-of (Node-F.Case subject arms otherwise span) h = h.0.1
  node-of (Node-F.Begin guarded span) h = guarded-of guarded h.0.1
  node-of (Node-F.Class path superclass body span) h = h.0.1
  node-of (Node-F.Module path body span) h = h.0.1
  node-of (Node-F.Def visibility own name name_span parameters guarded span) h = (h.0.1.1, guarded-of guarded h.0.1.2)
  node-of _ h = tt

  -- ---- references

  abbrev Are : List Reference → Type 0
  Are = Each (λ (r : Reference). P r.span)

  path-refers : (m : Reading) (scope : List (List ℕ)) (p : Option Path) → IfThere (IsPathAt P) p → Are (path_references m scope p)
  path-refers m scope None h = tt
  path-refers m scope (Some p) h = (h, tt)

  named-refers : (m : Reading) (scope : List (List ℕ)) (t : Tree) → Has t → Are (named_references m scope t)
  named-refers m scope t h = by_test (is_form_of_type m t)
    where
      by_test : (b : Bool) → Are (if b then [] else path_references m scope (path_of t))
      by_test true = tt
      by_test false = path-refers m scope (path_of t) (path-has P t h)

  superclass-refers : (scope : List (List ℕ)) (r : Option syntax.Reference) → IfThere (HasSuperclass P) r → Are (superclass_references scope r)
  superclass-refers scope None h = tt
  superclass-refers scope (Some r) h = (h, tt)

  front-refers : (scope : List (List ℕ)) (front : List PlacedName) → HasFront P front → Are (front_references scope front)
  front-refers scope [] h = tt
  front-refers scope (n ∷ names) h = (h, tt)

  declared-refers : (scope : List (List ℕ)) (n : Node-F Node Tree) → HasAll P span_of Has n → Are (declared_references scope n)
  declared-refers scope (Node-F.Class path superclass body span) h =
      let front = take (length path - 1) path in
      each-append (λ (r : Reference). P r.span) (front_references scope front) (superclass_references scope superclass)
      (front-refers scope front (path-front P (length path - 1) path h.1.0)) (superclass-refers scope superclass h.1.1)
  declared-refers scope (Node-F.Module path body span) h = front-refers scope (take (length path - 1) path) (path-front P (length path - 1) path h.1)
  declared-refers scope _ h = tt

  own-refers : (v : Visit Tree) → OfVisit Has v → Are (own_references v)
  unfolding own_references
  own-refers v h =
      each-append (λ (r : Reference). P r.span) (named_references v.reading v.scope v.part) (declared_references v.scope (out-Node v.part.node))
      (named-refers v.reading v.scope v.part h) (declared-refers v.scope (out-Node v.part.node) (opened P v.part h))

  -- each reference has what all places of the tree have
  pub references-have : (t : Tree) → Has t → Are (references_of t)
  unfolding references_of
  references-have t h =
      each-flat (OfVisit Has) (λ (r : Reference). P r.span) own_references own-refers (visits t)
      (visits-kept Has (λ t h. node-of (out-Node t.node) (opened P t h)) t h)

  -- ---- malformed type expressions

  abbrev IsErrorAt : Diag → Type 0
  IsErrorAt e = P e.span

  error-has : (v : View) (p : Visit Tree) → OfVisit Has p → Each IsErrorAt (malformed_errors_of v p)
  error-has v p h = by_test (is_malformed v p)
    where
      by_test : (b : Bool) → Each IsErrorAt (if b then malformed_type p.part ∷ [] else [])
      by_test true = (place-has P p.part h, tt)
      by_test false = tt

  -- each error of a malformed type expression has what all places of the tree have
  pub malformed-have : (v : View) (t : Tree) → Has t → Each IsErrorAt (malformed_errors v (types_of t))
  malformed-have v t h =
      each-flat (OfVisit Has) IsErrorAt (malformed_errors_of v) (error-has v) (types_of t) (types-kept Has (λ t h. node-of (out-Node t.node) (opened P t h)) t h)

-- ---- places

pub references-in-trees : ReferencesStandInTrees
references-in-trees t = each-is-place (λ (r : Reference). r.span) t (references_of t) (λ test has. references-have (λ place. test place ≡ true) t has)

pub malformed-in-trees : MalformedTypesStandInTrees
malformed-in-trees v t = each-is-place (λ (e : Diag). e.span) t (malformed_errors v (types_of t)) (λ test has. malformed-have (λ place. test place ≡ true) v t has)
