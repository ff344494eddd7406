-- Whole programs.
use Rattle.std.specs.Prelude.{◌≡◌, ℕ, ◌+◌, ◌-◌, true, List, [], ◌∷◌, length, take, slice_get, Option, Some, None, Result, Ok, Err}
use Rattle.rb_tree.specs.declared.syntax.Tree.{Tree}
use Rattle.rb_tree.specs.declared.token.Token.{Token}
use Rattle.rb_expr.specs.declared.ParseEnd.{ParseEnd}
use Rattle.rb_expr.specs.declared.ParseEnd.TheVariants.{Bad, TooDeep, NoMemory}
use Rattle.rb_expr.specs.declared.reading.Stop.{Stop}
use Rattle.rb_expr.specs.declared.reading.Stop.TheVariants.{Memory, Refused}
use Rattle.rb_weight.specs.Scans.{first_too_deep}
use Rattle.rb_weight.specs.Weights.{DeepAt}
use Rattle.rb_decl.specs.Items.{item, statements, body_of}

-- an answer, or the same refusal; or memory ran out
abbrev pub Reads : Result Tree Stop → Result Tree (List Token) → Type 0
Reads (Ok x) answer = answer ≡ Ok x
Reads (Err (Refused rest)) answer = answer ≡ Err rest.now
Reads (Err Memory) answer = Unit {0}

abbrev pub Parses : Result Tree ParseEnd → Result Tree ParseEnd → Type 0
Parses (Ok x) answer = answer ≡ Ok x
Parses (Err (Bad at)) answer = answer ≡ Err (Bad at)
Parses (Err (TooDeep at)) answer = answer ≡ Err (TooDeep at)
Parses (Err NoMemory) answer = Unit {0}

abbrev pub Ends : ParseEnd → ParseEnd → Type 0
Ends (Bad at) end = end ≡ Bad at
Ends (TooDeep at) end = end ≡ TooDeep at
Ends NoMemory end = Unit {0}

abbrev program_of : Result (List Tree × List Token) (List Token) → Result Tree (List Token)
program_of (Ok (found, [])) = Ok (body_of found)
program_of (Ok (found, t ∷ ts)) = Err (t ∷ ts)
program_of (Err rest) = Err rest

-- a program that takes all of the tokens
unfoldable pub program : ℕ → List Token → Result Tree (List Token)
program d tokens = program_of (statements (item d true) d tokens)

abbrev end_at : Option Token → ℕ
end_at (Some t) = t.span.end
end_at None = 0

-- where the last token ends
abbrev pub end_of : List Token → ℕ
end_of tokens = end_at (slice_get tokens (length tokens - 1))

-- where the next of the tokens `rest` begins, with which `tokens` end, or where those end
abbrev pub place_of : List Token → List Token → ℕ
place_of tokens [] = end_of tokens
place_of tokens (t ∷ ts) = t.span.start

abbrev pub whole_of : List Token → Result Tree (List Token) → Result Tree ParseEnd
whole_of tokens (Ok t) = Ok t
whole_of tokens (Err rest) = Err (Bad (place_of tokens rest))

-- the tree of tokens that nowhere nest too deep
unfoldable pub whole : List Token → Result Tree ParseEnd
whole tokens = whole_of tokens (program (length tokens + 2) tokens)

abbrev pub cut_of : ℕ → Result Tree (List Token) → ParseEnd
cut_of last (Err (t ∷ ts)) = Bad t.span.start
cut_of last (Err []) = TooDeep last
cut_of last (Ok t) = TooDeep last

-- Why tokens have no tree that nest too deep at the last, which begins at the place `last`: they are refused at one of them, or go
-- too deep.
unfoldable pub cut : ℕ → List Token → ParseEnd
cut last tokens = cut_of last (program (length tokens + 2) tokens)

-- where a token begins
abbrev pub token_start : Option Token → ℕ
token_start (Some t) = t.span.start
token_start None = 0

abbrev pub parsed_by : List Token → Option ℕ → Result Tree ParseEnd
parsed_by tokens None = whole tokens
parsed_by tokens (Some at) = Err (cut (token_start (slice_get tokens at)) (take (at + 1) tokens))

-- the tree of a program, or why there is none
abbrev pub parsed : List Token → Result Tree ParseEnd
parsed tokens = parsed_by tokens (first_too_deep tokens 0 0 0)

-- What is answered of programs that nest too deep: where there is a tree the weight nowhere passes the greatest, and where one is
-- refused for it the weight first passes that at the token at this place.
abbrev pub MeetsWeight : List Token → Result Tree ParseEnd → Type 0
MeetsWeight tokens (Ok t) = (at : ℕ) → ¬ DeepAt tokens 0 0 at
MeetsWeight tokens (Err (TooDeep place)) = (at : ℕ) × (place ≡ token_start (slice_get tokens at)) × DeepAt tokens 0 0 at
MeetsWeight tokens (Err (Bad place)) = Unit {0}
MeetsWeight tokens (Err NoMemory) = Unit {0}
