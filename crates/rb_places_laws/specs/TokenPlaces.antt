-- Places of errors at the tokens of a program.
use Rattle.std.specs.Prelude.{◌≡◌, ℕ, ◌⊎◌, List, [], ◌∷◌}
use Rattle.srb_terms.specs.declared.span.Span.{Span}
use Rattle.rb_tree.specs.Tokens.{shape_of}
use Rattle.rb_tree.specs.declared.syntax.Tree.{Tree}
use Rattle.rb_tree.specs.declared.token.Token.{Token}
use Rattle.rb_tree.specs.declared.token.Shape.{Shape}
use Rattle.rb_tree.specs.declared.token.Shape.TheVariants as shape
use Rattle.rb_rules.specs.Grammar.{Derives, IsRow}
use Rattle.rb_rules.specs.Tokens.{IsOneOf}
use Rattle.rb_views.specs.Places.{first_bytes}
use Rattle.rb_grammar.specs.Places.{IsPlaced}
use Rattle.rb_places_laws.specs.ErrorPlaces.{HasErrorPlaces}

-- the words of jumps, the operators in front and `[`, with the number of their bytes
abbrev pub HEADS : List (Shape × ℕ)
HEADS =
    (shape.Return, 6) ∷ (shape.Break, 5) ∷ (shape.Next, 4) ∷ (shape.Not, 1) ∷ (shape.Tilde, 1) ∷ (shape.Plus, 1) ∷ (shape.Minus, 1)
    ∷ (shape.OpenBracket, 1) ∷ []

-- the place of a tree that stands at tokens: from a token to that token or a later one; a body without statements stands at the start
abbrev pub IsTreePlaced : List Token → Span → Type 0
IsTreePlaced tokens span = IsPlaced tokens span ⊎ ((span.start ≡ 0) × (span.end ≡ 0))

-- the first bytes of a place that begins with such a word, operator or `[`: as many as that has
pub record IsHead (tokens : List Token) (span : Span) : Type 0 where
  pub first : Token
  pub count : ℕ
  pub whole : Span
  pub first_is : IsOneOf tokens first
  pub spelled : IsRow HEADS (shape_of first.kind) count
  pub placed : IsPlaced tokens whole
  pub starts : whole.start ≡ first.span.start
  pub span_is : span ≡ first_bytes whole count

-- a place of an error
abbrev pub IsPlaceOfError : List Token → Span → Type 0
IsPlaceOfError tokens span = IsTreePlaced tokens span ⊎ IsHead tokens span

-- ---- the law

-- The places in the tree of a program at which errors can stand are those of its tokens.
abbrev pub ProgramsHaveErrorPlaces : Type 0
ProgramsHaveErrorPlaces = (tokens : List Token) (t : Tree) → Derives tokens t → HasErrorPlaces (IsPlaceOfError tokens) t
