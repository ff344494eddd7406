-- Where all places of a tree have a fact, the path with which it begins has it, and a declared path and what is in front of its last name.
use Rattle.std.proofs.Common.{ℕ, zero, suc, List, [], ◌∷◌, take}
use Rattle.srb_terms.specs.declared.span.Span.{Span}
use Rattle.rb_tree.specs.Trees.{span_at, span_of, span_of_node}
use Rattle.rb_tree.specs.declared.syntax.PlacedName.{PlacedName}
use Rattle.rb_tree.specs.declared.syntax.Suffix.{Suffix}
use Rattle.rb_tree.specs.declared.syntax.Suffix.TheVariants as suffix
use Rattle.rb_tree.specs.declared.syntax.Tree.{Tree}
use Rattle.rb_tree.specs.declared.syntax.Node.{Node, out-Node}
use Rattle.rb_tree.specs.declared.syntax.Node.TheOpen.{Node-F}
use Rattle.rb_views.specs.Paths.{Path, path_of, path_of_prefix, path_at, up_to_constants}
use Rattle.rb_views.specs.Places.{names_span, up_to_name}
use Rattle.rb_views.specs.Prefixes.{Prefix, prefix_of, whole_at}
use Rattle.rb_grammar.specs.Places.{Each, IfThere}
use Rattle.rb_places_laws.specs.ErrorPlaces.{prefix_to, HasNode, HasSuffix}
use Rattle.rb_places_laws.specs.TreePlaces.{HasPath, HasPlaces}
use Rattle.rb_places_laws.proofs.TreePlaces.{opened, place-has}

module _ (P : Span → Type 0) where
  -- ---- declared paths

  up-to-name : (front : Span) (end : ℕ) (names : List PlacedName) → P (record { start = front.start; end = end }) →
      Each (λ (m : PlacedName). P (prefix_to front m.span)) names → P (up_to_name (record { start = front.start; end = end }) names)
  up-to-name front end [] h all = h
  up-to-name front end (n ∷ names) h all = up-to-name front n.span.end names all.0 all.1

  pub path-whole : (path : List PlacedName) → HasPath P path → P (names_span path)
  path-whole [] h = h
  path-whole (n ∷ names) h = up-to-name n.span n.span.end names h.0 h.1

  -- the fact of the names in front, if there are any
  abbrev pub HasFront : List PlacedName → Type 0
  HasFront [] = Unit {0}
  HasFront (n ∷ names) = P (names_span (n ∷ names))

  each-take : {A : Type 0} (S : A → Type 0) (count : ℕ) (xs : List A) → Each S xs → Each S (take count xs)
  each-take S zero xs h = tt
  each-take S (suc count) [] h = tt
  each-take S (suc count) (x ∷ xs) h = (h.0, each-take S count xs h.1)

  pub path-front : (count : ℕ) (path : List PlacedName) → HasPath P path → HasFront (take count path)
  path-front zero path h = tt
  path-front (suc count) [] h = tt
  path-front (suc count) (n ∷ names) h = up-to-name n.span n.span.end (take count names) h.0 (each-take (λ (m : PlacedName). P (prefix_to n.span m.span)) count names h.1)

  -- ---- the path with which a tree begins

  abbrev pub IsPathAt : Path → Type 0
  IsPathAt p = P p.span

  abbrev Following : Span → List (Suffix Tree) → Type 0
  Following front = Each (HasSuffix P (HasPlaces P) span_of front)

  up-to-constants : (front : Span) (end : ℕ) (suffixes : List (Suffix Tree)) → P (record { start = front.start; end = end }) →
      Following front suffixes → P (up_to_constants (record { start = front.start; end = end }) suffixes)
  up-to-constants front end [] h all = h
  up-to-constants front end (suffix.Constant name name_span span ∷ rest) h all = up-to-constants front span.end rest all.0 all.1
  up-to-constants front end (suffix.Call dot name name_span arguments block span ∷ rest) h all = h
  up-to-constants front end (suffix.Index arguments span ∷ rest) h all = h

  path-node : (n : Node-F Node Tree) (suffixes : List (Suffix Tree)) → P (span_at n) → Following (span_at n) suffixes → IfThere IsPathAt (path_at n suffixes)
  path-node (Node-F.Constant name span) suffixes h all = up-to-constants span span.end suffixes h all
  path-node (Node-F.TopConstant name name_span span) suffixes h all = up-to-constants span span.end suffixes h all
  path-node _ suffixes h all = tt

  abbrev HasPrefix : Prefix → Type 0
  HasPrefix p = HasPlaces P p.operand × Following (span_of p.operand) p.suffixes

  prefix-node : (t : Tree) (n : Node-F Node Tree) → HasPlaces P t → HasNode P (HasPlaces P) span_of n → HasPrefix (whole_at t n)
  prefix-node t (Node-F.Post receiver suffixes span) s h = h.1
  prefix-node t _ s h = (s, tt)

  path-of-prefix : (p : Prefix) → HasPrefix p → IfThere IsPathAt (path_of_prefix p)
  unfolding path_of_prefix span_of span_of_node
  path-of-prefix p h = path-node (out-Node p.operand.node) p.suffixes (place-has P p.operand h.0) h.1

  pub path-has : (t : Tree) → HasPlaces P t → IfThere IsPathAt (path_of t)
  unfolding path_of prefix_of
  path-has t h = path-of-prefix (prefix_of t) (prefix-node t (out-Node t.node) h (opened P t h).0)
