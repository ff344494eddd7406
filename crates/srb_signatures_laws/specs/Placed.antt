-- Where the errors of signatures stand.
use Rattle.std.specs.Prelude.{Bool, List}
use Rattle.srb_terms.specs.declared.diag.Diag.{Diag}
use Rattle.rb_tree.specs.declared.token.Token.{Token}
use Rattle.rb_tree.specs.declared.syntax.Tree.{Tree}
use Rattle.rb_grammar.specs.Places.{Each, IsPlaced, StandsAt}
use Rattle.rb_places_laws.specs.TreePlaces.{IsPlaceIn}
use Rattle.srb_signatures.specs.Errors.{signature_errors}

-- the error stands at the tokens
abbrev pub IsErrorPlaced : List Token → Diag → Type 0
IsErrorPlaced tokens e = IsPlaced tokens e.span

-- The errors of the signatures of a tree that stands at tokens have their places there.
abbrev pub SignaturesStandAtTokens : Type 0
SignaturesStandAtTokens =
    (tokens : List Token) (needed : Bool) (t : Tree) → StandsAt tokens t → Each (IsErrorPlaced tokens) (signature_errors needed t)

-- Each error of the signatures of a tree stands at a place that the tree carries.
abbrev pub SignaturesStandInTrees : Type 0
SignaturesStandInTrees = (needed : Bool) (t : Tree) → Each (λ (e : Diag). IsPlaceIn t e.span) (signature_errors needed t)
