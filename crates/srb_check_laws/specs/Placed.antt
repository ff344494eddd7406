-- The places at which errors stand.
use Rattle.std.specs.Prelude.{◌≡◌, ℕ, ◌≤◌, ◌⊎◌, Bool, true, List, [], ◌∷◌, chars, Some}
use Rattle.std.specs.Str.{IsUtf8}
use Rattle.srb_terms.specs.declared.diag.Diag.{Diag}
use Rattle.srb_terms.specs.declared.fact.Fact.{Fact}
use Rattle.srb_terms.specs.declared.level.Level.{Level}
use Rattle.srb_terms.specs.declared.span.Span.{Span}
use Rattle.srb_text.specs.Positions.{IsStart}
use Rattle.rb_tree.specs.declared.syntax.Tree.{Tree}
use Rattle.rb_tree.specs.declared.token.Token.{Token}
use Rattle.rb_rules.specs.Grammar.{Derives}
use Rattle.rb_grammar.specs.Places.{Each}
use Rattle.rb_places_laws.specs.ErrorPlaces.{HasErrorPlaces}
use Rattle.rb_places_laws.specs.TokenPlaces.{IsPlaceOfError}
use Rattle.rb_places_laws.specs.TreePlaces.{IsPlaceIn}
use Rattle.srb_check.specs.Checks.{errors_of, reading_errors}
use Rattle.srb_check.specs.Records.{loaded}
use Rattle.srb_check.specs.Types.{type_errors}
use Rattle.srb_check.specs.declared.reading.Reading.TheVariants.{Program}

-- an offset is a place of a file: it is the file's start, or the file is UTF-8 and a character starts there, or the file
-- ends there
abbrev pub IsPlace : List ℕ → ℕ → Type 0
IsPlace bytes at = (at ≡ 0) ⊎ (IsUtf8 bytes × IsStart (chars bytes) at)

-- each error starts and ends at a place of the file, and doesn't end before it starts
abbrev pub AreAtPlaces : List ℕ → List Diag → Type 0
AreAtPlaces bytes [] = Unit {0}
AreAtPlaces bytes (error ∷ errors) =
    IsPlace bytes error.span.start × IsPlace bytes error.span.end × (error.span.start ≤ error.span.end) × AreAtPlaces bytes errors

-- Each error of a program stands at its tokens, whatever the facts of its project are: it starts where a token does and ends where that or a
-- later one does, or stands at the first bytes of such a place or at the start.
abbrev pub ErrorsStandAtTokens : Type 0
ErrorsStandAtTokens =
    (facts : List Fact) (level : Level) (tokens : List Token) (tree : Tree) → Derives tokens tree →
    Each (λ (error : Diag). IsPlaceOfError tokens error.span) (reading_errors facts level (Program tree))

-- a place that a node of the tree carries: each test that all of those pass is passed by it (`HasErrorPlaces` says which they are)
abbrev pub IsPlaceOfNode : Tree → Span → Type 0
IsPlaceOfNode tree span = (test : Span → Bool) → HasErrorPlaces (λ place. test place ≡ true) tree → test span ≡ true

-- Each error of types in a program stands at such a place.
abbrev pub TypeErrorsStandAtNodes : Type 0
TypeErrorsStandAtNodes = (facts : List Fact) (level : Level) (tree : Tree) → Each (λ (error : Diag). IsPlaceOfNode tree error.span) (type_errors facts level tree)

-- ---- each error of a tree

-- Each error of a program, whatever the facts of its project are, stands at a place that its tree carries: at one of those, or at a declared
-- path, at the names in front of its last one, at a superclass, or at an argument with its label or its `&` (`HasPlaces` says which they are).
abbrev pub ErrorsStandInTrees : Type 0
ErrorsStandInTrees =
    (facts : List Fact) (level : Level) (tree : Tree) → Each (λ (error : Diag). IsPlaceIn tree error.span) (reading_errors facts level (Program tree))

-- So does each error of a file of which a tree is kept.
abbrev pub FilesErrInTrees : Type 0
FilesErrInTrees =
    (facts : List Fact) (bytes : List ℕ) (tree : Tree) → (loaded bytes).tree ≡ Some tree → Each (λ (error : Diag). IsPlaceIn tree error.span) (errors_of facts bytes)

-- A place of errors of types is a place that the tree carries.
abbrev pub NodesStandInTrees : Type 0
NodesStandInTrees = (tree : Tree) (span : Span) → IsPlaceOfNode tree span → IsPlaceIn tree span
