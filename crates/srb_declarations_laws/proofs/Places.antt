-- The declarations of a tree stand at tokens where the tree does, and at places of the tree.
use Rattle.std.proofs.Common.{◌≡◌, ◌⊎◌, inl, inr, true, List, [], ◌∷◌, Option, Some, None, refl}
use Rattle.srb_terms.specs.declared.span.Span.{Span}
use Rattle.rb_tree.specs.Trees.{span_of}
use Rattle.rb_tree.specs.declared.token.Token.{Token}
use Rattle.rb_tree.specs.declared.syntax.Argument.{Argument}
use Rattle.rb_tree.specs.declared.syntax.Argument.TheVariants as argument
use Rattle.rb_tree.specs.declared.syntax.PlacedName.{PlacedName}
use Rattle.rb_tree.specs.declared.syntax.Reference.{Reference}
use Rattle.rb_tree.specs.declared.syntax.Suffix.{Suffix}
use Rattle.rb_tree.specs.declared.syntax.Suffix.TheVariants as suffix
use Rattle.rb_tree.specs.declared.syntax.Tree.{Tree}
use Rattle.rb_tree.specs.declared.syntax.Node.{Node, out-Node}
use Rattle.rb_tree.specs.declared.syntax.Node.TheOpen.{Node-F}
use Rattle.rb_views.specs.Paths.{Path, path_of, path_of_prefix, path_at, up_to_constants}
use Rattle.rb_views.specs.Places.{names_span, up_to_name}
use Rattle.rb_views.specs.Prefixes.{Prefix, prefix_of, whole_at}
use Rattle.rb_grammar.specs.Places.{Each, IfThere, IsPlaced, IsNamePlaced, IsReferencePlaced, DoesArgumentStand, DoesSuffixStand, DoesNodeStand, StandsAt}
use Rattle.rb_grammar.proofs.Nodes.{opened, placed-tree}
use Rattle.rb_grammar.proofs.Placed.{each-weaker}
use Rattle.rb_places_laws.specs.ErrorPlaces.{HasArgument}
use Rattle.rb_places_laws.specs.TreePlaces.{HasAll, HasMarked, HasPlaces, HasSuperclass}
use Rattle.rb_places_laws.proofs.Paths.{path-has, path-whole}
use Rattle.rb_places_laws.proofs.TreePlaces as places
use Rattle.rb_places_laws.proofs.TreePlaces.{each-is-place, place-has}
use Rattle.srb_declarations.specs.declared.declaration.Declaration.{Declaration}
use Rattle.srb_declarations.specs.Declarations.{declarations_of}
use Rattle.srb_declarations_laws.proofs.Kept.{IsFine, IsGivenFine, IsMixinFine, IsSuperclassFine, declarations-kept}
use Rattle.srb_declarations_laws.specs.Placed.{Starts, Ends, IsAcross, IsEmpty, IsArgumentPlaced, IsDeclarationPlaced, DeclarationsStandAtTokens, DeclarationsStandInTrees, place_of}

-- ---- tokens

module _ (tokens : List Token) where
  abbrev Stands : Tree → Type 0
  Stands = StandsAt tokens

  abbrev Argued : Argument Tree → Type 0
  Argued = DoesArgumentStand tokens (StandsAt tokens)

  abbrev Suffixed : Suffix Tree → Type 0
  Suffixed = DoesSuffixStand tokens (StandsAt tokens)

  -- ---- places from one part to another

  starts : (s : Span) → IsPlaced tokens s → Starts tokens s.start
  starts s h = (h.first, h.first_is, h.starts)

  ends : (s : Span) → IsPlaced tokens s → Ends tokens s.end
  ends s h = (h.last, h.last_is, h.ends)

  across : (s : Span) → IsPlaced tokens s → IsAcross tokens s
  across s h = (starts s h, ends s h)

  up-to-name : (s : Span) (names : List PlacedName) → IsAcross tokens s → Each (IsNamePlaced tokens) names → IsAcross tokens (up_to_name s names)
  up-to-name s [] h all = h
  up-to-name s (n ∷ names) h all = up-to-name (record { start = s.start; end = n.span.end }) names (h.0, ends n.span all.0) all.1

  names-placed : (names : List PlacedName) → Each (IsNamePlaced tokens) names → IsAcross tokens (names_span names) ⊎ IsEmpty (names_span names)
  names-placed [] all = inr (refl, refl)
  names-placed (n ∷ names) all = inl (up-to-name n.span names (across n.span all.0) all.1)

  up-to-constants : (s : Span) (suffixes : List (Suffix Tree)) → IsAcross tokens s → Each Suffixed suffixes → IsAcross tokens (up_to_constants s suffixes)
  up-to-constants s [] h all = h
  up-to-constants s (suffix.Constant name name_span span ∷ rest) h all =
      up-to-constants (record { start = s.start; end = span.end }) rest (h.0, ends span all.0.0) all.1
  up-to-constants s (suffix.Call dot name name_span arguments block span ∷ rest) h all = h
  up-to-constants s (suffix.Index arguments span ∷ rest) h all = h

  up-to-value : (mark : Span) (value : Tree) → IsPlaced tokens mark → Stands value → IsArgumentPlaced tokens (record { start = mark.start; end = (span_of value).end })
  up-to-value mark value h k = by_value (placed-tree tokens value k)
    where
      by_value : IsPlaced tokens (span_of value) ⊎ IsEmpty (span_of value) → IsArgumentPlaced tokens (record { start = mark.start; end = (span_of value).end })
      by_value (inl p) = inl (starts mark h, inl (ends (span_of value) p))
      by_value (inr e) = inl (starts mark h, inr e.1)

  tree-placed : (t : Tree) → Stands t → IsArgumentPlaced tokens (span_of t)
  tree-placed t h = by_place (placed-tree tokens t h)
    where
      by_place : IsPlaced tokens (span_of t) ⊎ IsEmpty (span_of t) → IsArgumentPlaced tokens (span_of t)
      by_place (inl p) = inl (starts (span_of t) p, inl (ends (span_of t) p))
      by_place (inr e) = inr e

  -- ---- paths

  abbrev IsPathPlaced : Path → Type 0
  IsPathPlaced p = IsAcross tokens p.span

  path-node : (n : Node-F Node Tree) (suffixes : List (Suffix Tree)) → DoesNodeStand tokens (StandsAt tokens) n → Each Suffixed suffixes → IfThere IsPathPlaced (path_at n suffixes)
  path-node (Node-F.Constant name span) suffixes h all = up-to-constants span suffixes (across span h) all
  path-node (Node-F.TopConstant name name_span span) suffixes h all = up-to-constants span suffixes (across span h.0) all
  path-node _ suffixes h all = tt

  abbrev IsPrefixStanding : Prefix → Type 0
  IsPrefixStanding p = Stands p.operand × Each Suffixed p.suffixes

  prefix-node : (t : Tree) (n : Node-F Node Tree) → Stands t → DoesNodeStand tokens (StandsAt tokens) n → IsPrefixStanding (whole_at t n)
  prefix-node t (Node-F.Post receiver suffixes span) s h = (h.1, h.2)
  prefix-node t _ s h = (s, tt)

  prefix-stands : (t : Tree) → Stands t → IsPrefixStanding (prefix_of t)
  unfolding prefix_of
  prefix-stands t h = prefix-node t (out-Node t.node) h (opened tokens t h)

  path-of-prefix : (p : Prefix) → IsPrefixStanding p → IfThere IsPathPlaced (path_of_prefix p)
  unfolding path_of_prefix
  path-of-prefix p h = path-node (out-Node p.operand.node) p.suffixes (opened tokens p.operand h.0) h.1

  path-placed : (t : Tree) → Stands t → IfThere IsPathPlaced (path_of t)
  unfolding path_of
  path-placed t h = path-of-prefix (prefix_of t) (prefix-stands t h)

  -- ---- nodes

  abbrev Given : Argument Tree → Type 0
  Given = IsGivenFine (IsDeclarationPlaced tokens) (StandsAt tokens)

  path-fine : (p : Option Path) → IfThere IsPathPlaced p → IfThere (λ (p : Path). IsMixinFine (IsDeclarationPlaced tokens) (StandsAt tokens) p.span) p
  path-fine None h = tt
  path-fine (Some p) h = λ name scope path way. h

  argument-stands : (a : Argument Tree) → Argued a → Given a
  argument-stands (argument.Positional value) h = (tree-placed value h, path-fine (path_of value) (path-placed value h))
  argument-stands (argument.Keyword name span value) h = up-to-value span value h.0 h.1
  argument-stands (argument.Block span value) h = up-to-value span value h.0 h.1

  arguments-stand : (given : List (Argument Tree)) → Each Argued given → Each Given given
  arguments-stand = each-weaker Argued Given argument-stands

  superclass-stands : (r : Option Reference) → IfThere (IsReferencePlaced tokens) r → IfThere (IsSuperclassFine (IsDeclarationPlaced tokens) (StandsAt tokens)) r
  superclass-stands None h = tt
  superclass-stands (Some r) h = λ name scope path. h.0

  node-fine : (n : Node-F Node Tree) → DoesNodeStand tokens (StandsAt tokens) n → IsFine (IsDeclarationPlaced tokens) (StandsAt tokens) n
  node-fine (Node-F.Body [] span) h = tt
  node-fine (Node-F.Body (s ∷ ss) span) h = h.1
  node-fine (Node-F.Modified statement modifier condition span) h = h.1
  node-fine (Node-F.Assign target value span) h = h.1
  node-fine (Node-F.Constant name span) h = λ full. h
  node-fine (Node-F.Call name name_span None block span) h = tt
  node-fine (Node-F.Call name name_span (Some given) block span) h = arguments-stand given h.2
  node-fine (Node-F.Command callee given block span) h = arguments-stand given h.2
  node-fine (Node-F.Class path superclass body span) h = ((λ name k. names-placed path h.1), superclass-stands superclass h.2, h.3)
  node-fine (Node-F.Module path body span) h = ((λ name k. names-placed path h.1), h.2)
  node-fine _ h = tt

pub declarations-stand : DeclarationsStandAtTokens
declarations-stand tokens t h = declarations-kept (IsDeclarationPlaced tokens) (StandsAt tokens) (λ t h. node-fine tokens (out-Node t.node) (opened tokens t h)) t h

-- ---- places of the tree

module _ (P : Span → Type 0) where
  abbrev IsAt : Declaration → Type 0
  IsAt d = P (place_of d)

  mixin-has : (p : Option Path) → IfThere (λ (p : Path). P p.span) p → IfThere (λ (p : Path). IsMixinFine IsAt (HasPlaces P) p.span) p
  mixin-has None h = tt
  mixin-has (Some p) h = λ name scope path way. h

  argument-has : (a : Argument Tree) → HasArgument P (HasPlaces P) span_of a → HasMarked P span_of a → IsGivenFine IsAt (HasPlaces P) a
  argument-has (argument.Positional value) h k = (place-has P value h, mixin-has (path_of value) (path-has P value h))
  argument-has (argument.Keyword name span value) h k = k
  argument-has (argument.Block span value) h k = k

  arguments-have : (given : List (Argument Tree)) → Each (HasArgument P (HasPlaces P) span_of) given → Each (HasMarked P span_of) given → Each (IsGivenFine IsAt (HasPlaces P)) given
  arguments-have [] h k = tt
  arguments-have (a ∷ given) h k = (argument-has a h.0 k.0, arguments-have given h.1 k.1)

  superclass-has : (r : Option Reference) → IfThere (HasSuperclass P) r → IfThere (IsSuperclassFine IsAt (HasPlaces P)) r
  superclass-has None h = tt
  superclass-has (Some r) h = λ name scope path. h

  node-has : (n : Node-F Node Tree) → HasAll P span_of (HasPlaces P) n → IsFine IsAt (HasPlaces P) n
  node-has (Node-F.Body statements span) h = h.0.1
  node-has (Node-F.Modified statement modifier condition span) h = h.0.1.0
  node-has (Node-F.Assign target value span) h = h.0.1.0
  node-has (Node-F.Constant name span) h = λ full. h.0.0
  node-has (Node-F.Call name name_span None block span) h = tt
  node-has (Node-F.Call name name_span (Some given) block span) h = arguments-have given h.0.1.1 h.1
  node-has (Node-F.Command callee given block span) h = arguments-have given h.0.1.1 h.1
  node-has (Node-F.Class path superclass body span) h = ((λ name k. path-whole P path h.1.0), superclass-has superclass h.1.1, h.0.1)
  node-has (Node-F.Module path body span) h = ((λ name k. path-whole P path h.1), h.0.1)
  node-has _ h = tt

  -- each declaration has what all places of the tree have
  pub declarations-have : (t : Tree) → HasPlaces P t → Each (λ d. P (place_of d)) (declarations_of t)
  declarations-have t h = declarations-kept IsAt (HasPlaces P) (λ t h. node-has (out-Node t.node) (places.opened P t h)) t h

pub declarations-in-trees : DeclarationsStandInTrees
declarations-in-trees t = each-is-place place_of t (declarations_of t) (λ test has. declarations-have (λ place. test place ≡ true) t has)
