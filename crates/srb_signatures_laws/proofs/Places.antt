-- The errors of signatures stand at tokens where the tree does, and at places of the tree.
use Rattle.std.proofs.Common.{◌≡◌, Bool, true, List, [], ◌∷◌, Some, None}
use Rattle.srb_terms.specs.declared.diag.Diag.{Diag}
use Rattle.srb_terms.specs.declared.span.Span.{Span}
use Rattle.rb_tree.specs.Trees.{span_of}
use Rattle.rb_tree.specs.declared.token.Token.{Token}
use Rattle.rb_tree.specs.declared.syntax.Argument.{Argument}
use Rattle.rb_tree.specs.declared.syntax.Argument.TheVariants as argument
use Rattle.rb_tree.specs.declared.syntax.Tree.{Tree}
use Rattle.rb_tree.specs.declared.syntax.Node.{Node, out-Node}
use Rattle.rb_tree.specs.declared.syntax.Node.TheOpen.{Node-F}
use Rattle.rb_grammar.specs.Places.{Each, IsPlaced, DoesArgumentStand, DoesNodeStand, StandsAt}
use Rattle.rb_grammar.proofs.Nodes.{opened}
use Rattle.rb_places_laws.specs.ErrorPlaces.{HasArgument}
use Rattle.rb_places_laws.specs.TreePlaces.{HasAll, HasPlaces}
use Rattle.rb_places_laws.proofs.TreePlaces as places
use Rattle.rb_places_laws.proofs.TreePlaces.{each-is-place}
use Rattle.srb_signatures.specs.Errors.{signature_errors}
use Rattle.srb_signatures_laws.proofs.Kept.{IsFine, IsGivenFine, signatures-kept}
use Rattle.srb_signatures_laws.specs.Placed.{SignaturesStandAtTokens, SignaturesStandInTrees}

-- ---- tokens

module _ (tokens : List Token) where
  argument-fine : (a : Argument Tree) → DoesArgumentStand tokens (StandsAt tokens) a → IsGivenFine (IsPlaced tokens) (StandsAt tokens) a
  argument-fine (argument.Positional value) h = h
  argument-fine (argument.Keyword name span value) h = tt
  argument-fine (argument.Block span value) h = tt

  arguments-fine : (given : List (Argument Tree)) → Each (DoesArgumentStand tokens (StandsAt tokens)) given → Each (IsGivenFine (IsPlaced tokens) (StandsAt tokens)) given
  arguments-fine [] h = tt
  arguments-fine (a ∷ given) h = (argument-fine a h.0, arguments-fine given h.1)

  node-fine : (n : Node-F Node Tree) → DoesNodeStand tokens (StandsAt tokens) n → IsFine (IsPlaced tokens) (StandsAt tokens) n
  node-fine (Node-F.Body [] span) h = tt
  node-fine (Node-F.Body (s ∷ ss) span) h = h.1
  node-fine (Node-F.Name name span) h = h
  node-fine (Node-F.Call name name_span None block span) h = (h.0, tt)
  node-fine (Node-F.Call name name_span (Some given) block span) h = (h.0, arguments-fine given h.2)
  node-fine (Node-F.Post receiver suffixes span) h = h.0
  node-fine (Node-F.Command callee given block span) h = (h.0, arguments-fine given h.2)
  node-fine (Node-F.Symbol words span) h = h
  node-fine (Node-F.Class path superclass body span) h = h.3
  node-fine (Node-F.Module path body span) h = h.2
  node-fine (Node-F.Def visibility own name name_span parameters guarded span) h = h.1
  node-fine _ h = tt

pub signatures-stand : SignaturesStandAtTokens
signatures-stand tokens needed t h = signatures-kept (IsPlaced tokens) (StandsAt tokens) (λ t h. node-fine tokens (out-Node t.node) (opened tokens t h)) needed t h

-- ---- places of the tree

module _ (P : Span → Type 0) where
  argument-has : (a : Argument Tree) → HasArgument P (HasPlaces P) span_of a → IsGivenFine P (HasPlaces P) a
  argument-has (argument.Positional value) h = h
  argument-has (argument.Keyword name span value) h = tt
  argument-has (argument.Block span value) h = tt

  arguments-have : (given : List (Argument Tree)) → Each (HasArgument P (HasPlaces P) span_of) given → Each (IsGivenFine P (HasPlaces P)) given
  arguments-have [] h = tt
  arguments-have (a ∷ given) h = (argument-has a h.0, arguments-have given h.1)

  node-has : (n : Node-F Node Tree) → HasAll P span_of (HasPlaces P) n → IsFine P (HasPlaces P) n
  node-has (Node-F.Body statements span) h = h.0.1
  node-has (Node-F.Name name span) h = h.0.0
  node-has (Node-F.Call name name_span None block span) h = (h.0.0, tt)
  node-has (Node-F.Call name name_span (Some given) block span) h = (h.0.0, arguments-have given h.0.1.1)
  node-has (Node-F.Post receiver suffixes span) h = h.0.0
  node-has (Node-F.Command callee given block span) h = (h.0.0, arguments-have given h.0.1.1)
  node-has (Node-F.Symbol words span) h = h.0.0
  node-has (Node-F.Class path superclass body span) h = h.0.1
  node-has (Node-F.Module path body span) h = h.0.1
  node-has (Node-F.Def visibility own name name_span parameters guarded span) h = h.0.1.0
  node-has _ h = tt

  -- each error of signatures has what all places of the tree have
  pub signatures-have : (needed : Bool) (t : Tree) → HasPlaces P t → Each (λ (e : Diag). P e.span) (signature_errors needed t)
  signatures-have needed t h = signatures-kept P (HasPlaces P) (λ t h. node-has (out-Node t.node) (places.opened P t h)) needed t h

pub signatures-in-trees : SignaturesStandInTrees
signatures-in-trees needed t = each-is-place (λ (e : Diag). e.span) t (signature_errors needed t) (λ test has. signatures-have (λ place. test place ≡ true) needed t has)
