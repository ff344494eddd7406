-- Where the declarations of a tree stand.
use Rattle.std.specs.Prelude.{◌≡◌, ℕ, ◌⊎◌, List}
use Rattle.srb_terms.specs.declared.span.Span.{Span}
use Rattle.rb_tree.specs.declared.token.Token.{Token}
use Rattle.rb_tree.specs.declared.syntax.Tree.{Tree}
use Rattle.rb_rules.specs.Grammar.{Derives}
use Rattle.rb_rules.specs.Tokens.{IsOneOf}
use Rattle.rb_grammar.specs.Places.{Each, IsPlaced, StandsAt}
use Rattle.rb_places_laws.specs.TreePlaces.{IsPlaceIn}
use Rattle.srb_declarations.specs.declared.declaration.Declaration.{Declaration}
use Rattle.srb_declarations.specs.declared.declaration.Declaration.TheVariants as declaration
use Rattle.srb_declarations.specs.Declarations.{declarations_of}

-- one of the tokens begins here
abbrev pub Starts : List Token → ℕ → Type 0
Starts tokens at = (first : Token) × IsOneOf tokens first × (at ≡ first.span.start)

-- one of the tokens ends here
abbrev pub Ends : List Token → ℕ → Type 0
Ends tokens at = (last : Token) × IsOneOf tokens last × (at ≡ last.span.end)

-- the place begins where one of the tokens begins, and ends where one of them ends
abbrev pub IsAcross : List Token → Span → Type 0
IsAcross tokens span = Starts tokens span.start × Ends tokens span.end

-- the place of a path without names and of a body without statements: from 0 to 0
abbrev pub IsEmpty : Span → Type 0
IsEmpty span = (span.start ≡ 0) × (span.end ≡ 0)

-- the place of an argument: it ends at 0 where its value is a body without statements, and begins there too where it has no label or `&`
abbrev pub IsArgumentPlaced : List Token → Span → Type 0
IsArgumentPlaced tokens span = (Starts tokens span.start × (Ends tokens span.end ⊎ (span.end ≡ 0))) ⊎ IsEmpty span

-- a declaration stands at the tokens. Where the parts of a tree stand is told of each alone, and not which of two is the first: a place
-- that goes from one part to another is told by its ends alone
abbrev pub IsDeclarationPlaced : List Token → Declaration → Type 0
IsDeclarationPlaced tokens (declaration.Body name kind span) = IsAcross tokens span ⊎ IsEmpty span
IsDeclarationPlaced tokens (declaration.Constant name span) = IsPlaced tokens span
IsDeclarationPlaced tokens (declaration.Superclass of scope path span) = IsPlaced tokens span
IsDeclarationPlaced tokens (declaration.Mixin of scope path how span) = IsAcross tokens span
IsDeclarationPlaced tokens (declaration.OtherMixin span) = IsArgumentPlaced tokens span

-- The declarations of a tree that stands at tokens have their places there.
abbrev pub DeclarationsStandAtTokens : Type 0
DeclarationsStandAtTokens = (tokens : List Token) (t : Tree) → StandsAt tokens t → Each (IsDeclarationPlaced tokens) (declarations_of t)

-- ---- programs

-- the place of a declaration
abbrev pub place_of : Declaration → Span
place_of (declaration.Body name kind span) = span
place_of (declaration.Constant name span) = span
place_of (declaration.Superclass of scope path span) = span
place_of (declaration.Mixin of scope path how span) = span
place_of (declaration.OtherMixin span) = span

-- it begins where a token begins, and ends where that token or a later one ends
abbrev pub IsInOrder : List Token → Declaration → Type 0
IsInOrder tokens d = IsPlaced tokens (place_of d)

-- The declarations of a program stand at its tokens, each from a token to that token or a later one.
abbrev pub ProgramsDeclareAtTokens : Type 0
ProgramsDeclareAtTokens = (tokens : List Token) (t : Tree) → Derives tokens t → Each (IsInOrder tokens) (declarations_of t)

-- ---- trees

-- Each declaration of a tree stands at a place that the tree carries.
abbrev pub DeclarationsStandInTrees : Type 0
DeclarationsStandInTrees = (t : Tree) → Each (λ d. IsPlaceIn t (place_of d)) (declarations_of t)
