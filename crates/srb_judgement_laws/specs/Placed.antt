-- Where the errors of the judgement of a program stand.
use Rattle.std.specs.Prelude.{◌≡◌, ◌⊎◌, List}
use Rattle.srb_terms.specs.declared.diag.Diag.{Diag}
use Rattle.srb_terms.specs.declared.span.Span.{Span}
use Rattle.rb_tree.specs.declared.syntax.Jump.{Jump}
use Rattle.rb_tree.specs.declared.syntax.Tree.{Tree}
use Rattle.rb_tree.specs.declared.token.Token.{Token}
use Rattle.rb_views.specs.Places.{first_bytes, jump_word}
use Rattle.rb_grammar.specs.Places.{Each, IsPlaced, StandsAt}
use Rattle.srb_judgement.specs.Languages.{Language, Given, Named, Sent}
use Rattle.srb_judgement.specs.Judgements.{errors_of}

-- ---- places

-- the place of a tree that stands at tokens: from a token to that token or a later one; a body without statements stands at the start
abbrev pub IsTreePlaced : List Token → Span → Type 0
IsTreePlaced tokens span = IsPlaced tokens span ⊎ ((span.start ≡ 0) × (span.end ≡ 0))

-- the place of a prefix of a row of suffixes: from where its operand begins to where one of its suffixes ends
abbrev pub IsPrefixPlaced : List Token → Span → Type 0
IsPrefixPlaced tokens span =
    (operand : Span) × (suffix : Span) × IsTreePlaced tokens operand × IsPlaced tokens suffix × (span.start ≡ operand.start) × (span.end ≡ suffix.end)

-- the first bytes of a place from a token to that token or a later one: the one byte of a `[` or of an operator in front, or the word of a
-- jump
abbrev pub IsHeadPlaced : List Token → Span → Type 0
IsHeadPlaced tokens span =
    (whole : Span) × IsPlaced tokens whole × ((span ≡ first_bytes whole 1) ⊎ ((word : Jump) × (span ≡ jump_word word whole)))

-- a place of an error
abbrev pub IsErrorPlace : List Token → Span → Type 0
IsErrorPlace tokens span = IsTreePlaced tokens span ⊎ (IsPrefixPlaced tokens span ⊎ IsHeadPlaced tokens span)

abbrev pub IsErrorPlaced : List Token → Diag → Type 0
IsErrorPlaced tokens e = IsErrorPlace tokens e.span

-- ---- calls

-- the errors of a call stand where its name and its arguments do
abbrev pub CallsStandAt : {T X : Type 0} → (Span → Type 0) → Language T X → Type 0
CallsStandAt {T} P L =
    (s : Sent T) → P s.name_span → Each (λ (g : Given T). P g.span) s.positional → Each (λ (k : Named T). P k.span) s.keys →
    Each (λ (e : Diag). P e.span) (L.call s).errors

abbrev pub CallsStand : {T X : Type 0} → List Token → Language T X → Type 0
CallsStand tokens L = CallsStandAt (IsErrorPlace tokens) L

-- ---- the law

-- The errors of the judgement of a tree that stands at tokens have their places there, over each language whose calls do.
abbrev pub JudgementStandsAtTokens : Type 0 → Type 0 → Type 0
JudgementStandsAtTokens T X =
    (tokens : List Token) (L : Language T X) → CallsStand tokens L → (t : Tree) → StandsAt tokens t →
    Each (IsErrorPlaced tokens) (errors_of L t)
