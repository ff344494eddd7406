-- What `expr` and `tern` answer.
use Rattle.std.specs.Prelude.{◌≡◌, ℕ, ◌+◌, ◌-◌, ◌<◌, ◌≤◌, Bool, List, [], ◌∷◌, length, drop, slice_get, slice_range, Option, Some, None, Result, Ok, Err}
use Rattle.rb_tree.specs.declared.syntax.Tree.{Tree}
use Rattle.rb_tree.specs.declared.token.Token.{Token}
use Rattle.rb_expr.specs.declared.ParseEnd.{ParseEnd}
use Rattle.rb_expr.specs.declared.ParseEnd.TheVariants.{Bad, TooDeep, NoMemory}
use Rattle.rb_expr.specs.declared.answers.Rule.{Rule}
use Rattle.rb_expr.specs.declared.answers.Rule.TheVariants as rule
use Rattle.rb_expr.specs.Reading.{Outcome}
use Rattle.rb_expr.specs.Rules.{longest_body, tern}
use Rattle.rb_weight.specs.Scans.{first_too_deep}

-- a call answers what is said; or memory ran out
abbrev pub Answers : Result (Tree × ℕ) ParseEnd → Result (Tree × ℕ) ParseEnd → Type 0
Answers (Ok x) said = said ≡ Ok x
Answers (Err (Bad at)) said = said ≡ Err (Bad at)
Answers (Err (TooDeep at)) said = said ≡ Err (TooDeep at)
Answers (Err NoMemory) said = Unit {0}

-- a place, if there is one, lies between these two
abbrev pub LiesWithin : ℕ → ℕ → Option ℕ → Type 0
LiesWithin from end None = Unit {0}
LiesWithin from end (Some place) = (from ≤ place) × (place < end)

-- the form at the first of these tokens; two more than their number is fuel enough
unfoldable pub ruled : Rule → List Token → Outcome Tree
ruled (rule.Body constants) tokens = longest_body (length tokens + 2) constants tokens
ruled rule.Tern tokens = tern (length tokens + 2) tokens

abbrev pub end_of : Option Token → ℕ
end_of None = 0
end_of (Some t) = t.span.end

abbrev pub start_of_one : Option Token → ℕ
start_of_one None = 0
start_of_one (Some t) = t.span.start

-- where the last token ends, or 0
abbrev pub last_end : List Token → ℕ
last_end tokens = end_of (slice_get tokens (length tokens - 1))

-- where the token at a place begins
abbrev pub start_at : List Token → ℕ → ℕ
start_at tokens place = start_of_one (slice_get tokens place)

-- the refused token begins there, or the last token ends there
abbrev pub bad_at : List Token → List Token → ℕ
bad_at tokens [] = last_end tokens
bad_at tokens (t ∷ ts) = t.span.start

-- where no token is too deep
abbrev pub whole_by : List Token → Outcome Tree → Result (Tree × ℕ) ParseEnd
whole_by tokens (Ok read) = Ok (read.0, length tokens - length read.1)
whole_by tokens (Err rest) = Err (Bad (bad_at tokens rest))

unfoldable pub whole : Rule → List Token → ℕ → Result (Tree × ℕ) ParseEnd
whole form tokens from = whole_by tokens (ruled form (drop from tokens))

-- Where this is the place of the first too deep token, that is the last to be read: where it is used up, or more would be
-- wanted, the answer is that it is too deep.
abbrev pub cut_read : List Token → ℕ → Tree → List Token → Result (Tree × ℕ) ParseEnd
cut_read tokens deep tree [] = Err (TooDeep (start_at tokens deep))
cut_read tokens deep tree (t ∷ ts) = Ok (tree, deep + 1 - length (t ∷ ts))

abbrev pub cut_refused : List Token → ℕ → List Token → Result (Tree × ℕ) ParseEnd
cut_refused tokens deep [] = Err (TooDeep (start_at tokens deep))
cut_refused tokens deep (t ∷ ts) = Err (Bad t.span.start)

abbrev pub cut_by : List Token → ℕ → Outcome Tree → Result (Tree × ℕ) ParseEnd
cut_by tokens deep (Ok read) = cut_read tokens deep read.0 read.1
cut_by tokens deep (Err rest) = cut_refused tokens deep rest

unfoldable pub cut : Rule → List Token → ℕ → ℕ → Result (Tree × ℕ) ParseEnd
cut form tokens from deep = cut_by tokens deep (ruled form (slice_range tokens from (deep + 1)))

abbrev pub answered_by : Rule → List Token → ℕ → Option ℕ → Result (Tree × ℕ) ParseEnd
answered_by form tokens from None = whole form tokens from
answered_by form tokens from (Some deep) = cut form tokens from deep

unfoldable pub answered : Rule → List Token → ℕ → ℕ → ℕ → Result (Tree × ℕ) ParseEnd
answered form tokens from weight here = answered_by form tokens from (first_too_deep tokens from weight here)

-- the longest body without declarations, and the place after it
abbrev pub expr_of : List Token → ℕ → ℕ → ℕ → Bool → Result (Tree × ℕ) ParseEnd
expr_of tokens from weight here constants = answered (rule.Body constants) tokens from weight here

-- an expression with operators, at most `? :`, and the place after it
abbrev pub tern_of : List Token → ℕ → ℕ → ℕ → Result (Tree × ℕ) ParseEnd
tern_of tokens from weight here = answered rule.Tern tokens from weight here
