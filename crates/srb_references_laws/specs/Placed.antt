-- Where the references and the malformed type expressions of a program stand.
use Rattle.std.specs.Prelude.{◌≡◌, ◌⊎◌, List}
use Rattle.srb_terms.specs.declared.diag.Diag.{Diag}
use Rattle.srb_terms.specs.declared.span.Span.{Span}
use Rattle.rb_tree.specs.declared.token.Token.{Token}
use Rattle.rb_tree.specs.declared.syntax.Tree.{Tree}
use Rattle.rb_rules.specs.Grammar.{Derives}
use Rattle.rb_grammar.specs.Places.{Each, IsPlaced, StandsAt}
use Rattle.rb_places_laws.specs.TreePlaces.{IsPlaceIn}
use Rattle.srb_sig.specs.Views.{View}
use Rattle.srb_references.specs.declared.reference.Reference.{Reference}
use Rattle.srb_references.specs.MalformedTypes.{malformed_errors, types_of}
use Rattle.srb_references.specs.References.{references_of}

-- it begins where a token begins, and ends where that token or a later one ends
abbrev pub IsInOrder : List Token → Reference → Type 0
IsInOrder tokens r = IsPlaced tokens r.span

-- The references of a program stand at its tokens, each from a token to that token or a later one.
abbrev pub ProgramsReferAtTokens : Type 0
ProgramsReferAtTokens = (tokens : List Token) (t : Tree) → Derives tokens t → Each (IsInOrder tokens) (references_of t)

-- the place of a tree that stands at tokens: from a token to that token or a later one; a body without statements stands at the start
abbrev pub IsTreePlaced : List Token → Span → Type 0
IsTreePlaced tokens span = IsPlaced tokens span ⊎ ((span.start ≡ 0) × (span.end ≡ 0))

abbrev pub IsErrorPlaced : List Token → Diag → Type 0
IsErrorPlaced tokens e = IsTreePlaced tokens e.span

-- Whatever is known of the project's names, the errors of malformed type expressions of a tree that stands at tokens have their places there.
abbrev pub MalformedTypesStandAtTokens : Type 0
MalformedTypesStandAtTokens =
    (tokens : List Token) (v : View) (t : Tree) → StandsAt tokens t → Each (IsErrorPlaced tokens) (malformed_errors v (types_of t))

-- ---- trees

-- Each reference of a tree stands at a place that the tree carries.
abbrev pub ReferencesStandInTrees : Type 0
ReferencesStandInTrees = (t : Tree) → Each (λ (r : Reference). IsPlaceIn t r.span) (references_of t)

-- Whatever is known of the project's names, so does each error of a malformed type expression.
abbrev pub MalformedTypesStandInTrees : Type 0
MalformedTypesStandInTrees = (v : View) (t : Tree) → Each (λ (e : Diag). IsPlaceIn t e.span) (malformed_errors v (types_of t))
