-- The places that a tree carries at which errors of any kind can stand: those at which errors of the judgement can, the paths that its
-- classes and modules declare, the parts of these from their beginning, superclasses, and arguments with their label or their `&`.
use Rattle.std.specs.Prelude.{◌≡◌, Bool, true, List, [], ◌∷◌}
use Rattle.srb_terms.specs.declared.span.Span.{Span}
use Rattle.rb_tree.specs.Trees.{span_of}
use Rattle.rb_tree.specs.declared.syntax.Tree.{Tree}
use Rattle.rb_tree.specs.declared.syntax.Node.TheOpen.{Node-F}
use Rattle.rb_tree.specs.declared.syntax.Node.TheFolds.{rec-Tree}
use Rattle.rb_tree.specs.declared.syntax.Argument.{Argument}
use Rattle.rb_tree.specs.declared.syntax.Argument.TheVariants as argument
use Rattle.rb_tree.specs.declared.syntax.PlacedName.{PlacedName}
use Rattle.rb_tree.specs.declared.syntax.Reference.{Reference}
use Rattle.rb_views.specs.Places.{names_span}
use Rattle.rb_grammar.specs.Places.{Each, IfThere}
use Rattle.rb_places_laws.specs.ErrorPlaces.{prefix_to, HasNode}

module _ (P : Span → Type 0) where
  -- a declared path, from where it begins to where each of its names ends: the last of these places is the whole path, and those before it
  -- are like the `A` of `class A::B`. A path without names, which no program has, stands from 0 to 0
  abbrev pub HasPath : List PlacedName → Type 0
  HasPath [] = P (names_span [])
  HasPath (n ∷ names) = Each (λ (m : PlacedName). P (prefix_to n.span m.span)) (n ∷ names)

  -- a superclass
  abbrev pub HasSuperclass : Reference → Type 0
  HasSuperclass r = P r.span

  module _ {X : Type 0} (place : X → Span) where
    -- an argument with its label or its `&`, from there to where its value ends
    abbrev pub HasMarked : Argument X → Type 0
    HasMarked (argument.Positional value) = Unit {0}
    HasMarked (argument.Keyword name span value) = P (prefix_to span (place value))
    HasMarked (argument.Block span value) = P (prefix_to span (place value))

    -- the places of what a node declares, and of the arguments of a call, which may mix modules in
    abbrev pub HasDeclared : {N : Type 0} → Node-F N X → Type 0
    HasDeclared (Node-F.Command callee arguments b span) = Each HasMarked arguments
    HasDeclared (Node-F.Call name name_span arguments b span) = IfThere (Each HasMarked) arguments
    HasDeclared (Node-F.Class path superclass body span) = HasPath path × IfThere HasSuperclass superclass
    HasDeclared (Node-F.Module path body span) = HasPath path
    HasDeclared _ = Unit {0}

    -- the places in a node, where `Has` says that those in the trees in it have the fact
    abbrev pub HasAll : (X → Type 0) → {N : Type 0} → Node-F N X → Type 0
    HasAll Has n = HasNode P Has place n × HasDeclared n

  -- the fact holds of each place that the tree carries
  unfoldable pub HasPlaces : Tree → Type 0
  HasPlaces =
      rec-Tree (Type 0) (Type 0) (λ N X node tree node_has has n. HasAll (λ x. span_of (tree x)) has n) (λ N X node tree node_has has t. node_has t.node)

-- a place that the tree carries: each test that all of those pass is passed by it
abbrev pub IsPlaceIn : Tree → Span → Type 0
IsPlaceIn tree span = (test : Span → Bool) → HasPlaces (λ place. test place ≡ true) tree → test span ≡ true
