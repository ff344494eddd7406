-- The errors of the judgement of a tree stand at the tokens of its program, where the places in the tree at which errors can stand do.
use Rattle.std.specs.Prelude.{List}
use Rattle.srb_terms.specs.declared.diag.Diag.{Diag}
use Rattle.rb_tree.specs.declared.syntax.Tree.{Tree}
use Rattle.rb_tree.specs.declared.token.Token.{Token}
use Rattle.rb_grammar.specs.Places.{Each}
use Rattle.rb_places_laws.specs.ErrorPlaces.{HasErrorPlaces}
use Rattle.rb_places_laws.specs.TokenPlaces.{IsPlaceOfError}
use Rattle.srb_judgement.specs.Judgements.{errors_of}
use Rattle.srb_judgement.specs.Languages.{Language}
use Rattle.srb_language.specs.Asked.{language_of}
use Rattle.srb_language.specs.Knowledge.{Knowledge}
use Rattle.srb_judgement_laws.specs.Placed.{CallsStandAt}

abbrev pub IsErrorAtTokens : List Token → Diag → Type 0
IsErrorAtTokens tokens e = IsPlaceOfError tokens e.span

-- Over each language whose calls err at such places.
abbrev pub JudgementErrsAtTokens : Type 0 → Type 0 → Type 0
JudgementErrsAtTokens T X =
    (tokens : List Token) (L : Language T X) → CallsStandAt (IsPlaceOfError tokens) L → (t : Tree) → HasErrorPlaces (IsPlaceOfError tokens) t →
    Each (IsErrorAtTokens tokens) (errors_of L t)

-- Whatever is known of the project.
abbrev pub ProjectsErrAtTokens : Type 0
ProjectsErrAtTokens =
    (tokens : List Token) (k : Knowledge) (t : Tree) → HasErrorPlaces (IsPlaceOfError tokens) t → Each (IsErrorAtTokens tokens) (errors_of (language_of k) t)
