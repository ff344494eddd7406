-- What a rule of the grammar answers, and the steps that every rule is made of.
use Rattle.std.specs.Prelude.{◌≡◌, ℕ, Bool, false, ◌==◌, if◌then◌else◌, List, [], ◌∷◌, Option, Some, None, Result, Ok, Err}
use Rattle.srb_terms.specs.declared.span.Span.{Span}
use Rattle.rb_tree.specs.Tokens.{shape_of, same_shape}
use Rattle.rb_tree.specs.declared.syntax.PlacedName.{PlacedName}
use Rattle.rb_tree.specs.declared.token.Token.{Token}
use Rattle.rb_tree.specs.declared.token.TokenKind.{TokenKind}
use Rattle.rb_tree.specs.declared.token.TokenKind.TheVariants as kind
use Rattle.rb_tree.specs.declared.token.Shape.{Shape}
use Rattle.rb_tree.specs.declared.token.Shape.TheVariants as shape
use Rattle.rb_expr.specs.declared.reading.Stop.{Stop}
use Rattle.rb_expr.specs.declared.reading.Stop.TheVariants.{Memory, Refused}

-- what was read and the tokens after it, or a refusal: the tokens from the refused one on
abbrev pub Outcome : Type 0 → Type 0
Outcome A = Result (A × List Token) (List Token)

abbrev pub Parser : Type 0 → Type 0
Parser A = List Token → Outcome A

-- a function answers an outcome; or memory ran out
abbrev pub Gives : {A B : Type 0} → (A → B × List Token) → Result A Stop → Outcome B → Type 0
Gives f (Ok x) outcome = outcome ≡ Ok (f x)
Gives f (Err Memory) outcome = Unit {0}
Gives f (Err (Refused rest)) outcome = outcome ≡ Err rest.now

-- out of memory
abbrev pub IsMemory : Stop → Type 0
IsMemory stop = stop ≡ Memory

-- ---- joining parsers

abbrev pub and_then : {A B : Type 0} → Outcome A → (A → Parser B) → Outcome B
and_then (Ok p) f = f p.0 p.1
and_then (Err rest) f = Err rest

infixl 10 ◌>>=◌
abbrev pub ◌>>=◌ : {A B : Type 0} → Parser A → (A → Parser B) → Parser B
p >>= f = λ tokens. and_then (p tokens) f

infixl 10 ◌>>◌
abbrev pub ◌>>◌ : {A B : Type 0} → Parser A → Parser B → Parser B
p >> q = p >>= (λ _. q)

abbrev pub pure : {A : Type 0} → A → Parser A
pure a = λ tokens. Ok (a, tokens)

infixr 11 ◌<$>◌
abbrev pub ◌<$>◌ : {A B : Type 0} → (A → B) → Parser A → Parser B
f <$> p = p >>= (λ x. pure (f x))

-- refuses at the next token, or at the end
abbrev pub refuse : {A : Type 0} → Parser A
refuse = λ tokens. Err tokens

-- ---- the next token

abbrev pub peek : List Token → Option Shape
peek [] = None
peek (t ∷ ts) = Some (shape_of t.kind)

abbrev pub sees : Shape → List Token → Bool
sees s [] = false
sees s (t ∷ ts) = same_shape (shape_of t.kind) s

-- where it begins, or 0
abbrev pub start_of : List Token → ℕ
start_of [] = 0
start_of (t ∷ ts) = t.span.start

-- whether it begins where this place ends
abbrev pub touches : Span → List Token → Bool
touches before [] = false
touches before (t ∷ ts) = t.span.start == before.end

abbrev pub after : List Token → List Token
after [] = []
after (t ∷ ts) = ts

abbrev pub skip_separators : List Token → List Token
skip_separators [] = []
skip_separators (t ∷ ts) = if same_shape (shape_of t.kind) shape.Separator then skip_separators ts else t ∷ ts

-- ---- taking a token

-- any token
abbrev pub take_token : Parser Span
take_token [] = Err []
take_token (t ∷ ts) = Ok (t.span, ts)

-- one of this shape
abbrev pub expect : Shape → Parser Span
expect s [] = Err []
expect s (t ∷ ts) = if same_shape (shape_of t.kind) s then Ok (t.span, ts) else Err (t ∷ ts)

-- the words that a kind carries
abbrev pub words_of : TokenKind → List ℕ
words_of (kind.Identifier words) = words
words_of (kind.Constant words) = words
words_of (kind.InstanceVariable words) = words
words_of (kind.Label words) = words
words_of (kind.Symbol words) = words
words_of (kind.Whole words) = words
words_of (kind.Float words) = words
words_of (kind.Text words) = words
words_of _ = []

-- one of this shape, as a name
abbrev pub named : Shape → Parser PlacedName
named s [] = Err []
named s (t ∷ ts) = if same_shape (shape_of t.kind) s then Ok (record { name = words_of t.kind; span = t.span }, ts) else Err (t ∷ ts)

-- one of this shape, with its words
abbrev pub worded : Shape → Parser (List ℕ × Span)
worded s [] = Err []
worded s (t ∷ ts) = if same_shape (shape_of t.kind) s then Ok ((words_of t.kind, t.span), ts) else Err (t ∷ ts)
