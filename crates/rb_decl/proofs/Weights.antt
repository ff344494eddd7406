-- What is answered of programs that nest too deep.
use Rattle.std.proofs.Common.{◌≡◌, ℕ, ◌+◌, List, [], ◌∷◌, take, Option, Some, None, Result, Ok, Err, refl, subst, length, arith}
use Rattle.std.specs.Prelude.{slice_get}
use Rattle.rb_tree.specs.declared.syntax.Tree.{Tree}
use Rattle.rb_tree.specs.declared.token.Token.{Token}
use Rattle.rb_expr.specs.declared.ParseEnd.{ParseEnd}
use Rattle.rb_expr.specs.declared.ParseEnd.TheVariants.{Bad, TooDeep, NoMemory}
use Rattle.rb_weight.specs.Scans.{first_too_deep}
use Rattle.rb_weight.specs.Weights.{DeepAt, IsFirstDeep}
use Rattle.rb_weight.proofs.Alike.{first-deep}
use Rattle.rb_decl.specs.Programs.{Parses, MeetsWeight, parsed, parsed_by, whole, whole_of, cut, cut_of, program, token_start}

-- an answer because memory ran out meets the weight whatever is said
abbrev Meets : List Token → Result Tree ParseEnd → Type 0
Meets tokens r = MeetsWeight tokens r

whole-meets : (tokens : List Token) (r : Result Tree (List Token)) → ((at : ℕ) → ¬ DeepAt tokens 0 0 at) → Meets tokens (whole_of tokens r)
whole-meets tokens (Ok t) none = none
whole-meets tokens (Err rest) none = tt

cut-meets : (tokens : List Token) (at : ℕ) (r : Result Tree (List Token)) → DeepAt tokens 0 0 at → Meets tokens (Err (cut_of (token_start (slice_get tokens at)) r))
cut-meets tokens at (Ok t) deep = (at, refl, deep)
cut-meets tokens at (Err []) deep = (at, refl, deep)
cut-meets tokens at (Err (t ∷ ts)) deep = tt

by-place : (tokens : List Token) (place : Option ℕ) → IsFirstDeep tokens 0 0 0 place → Meets tokens (parsed_by tokens place)
unfolding whole cut
by-place tokens None none = whole-meets tokens (program (length tokens + 2) tokens) none
by-place tokens (Some place) (at, e, deep) =
    let same : at ≡ place = omega arith in
    let D : ℕ → Type 0 = λ n. DeepAt tokens 0 0 n in
    cut-meets tokens place (program (length (take (place + 1) tokens) + 2) (take (place + 1) tokens)) (subst D same deep)

parsed-meets : (tokens : List Token) → Meets tokens (parsed tokens)
parsed-meets tokens = by-place tokens (first_too_deep tokens 0 0 0) (first-deep tokens 0 0 0 (omega arith) (omega arith))

pub answer-meets : (tokens : List Token) (r : Result Tree ParseEnd) → Parses r (parsed tokens) → MeetsWeight tokens r
answer-meets tokens (Ok t) e = let M : Result Tree ParseEnd → Type 0 = λ r. Meets tokens r in subst M e (parsed-meets tokens)
answer-meets tokens (Err (Bad at)) e = tt
answer-meets tokens (Err (TooDeep at)) e = let M : Result Tree ParseEnd → Type 0 = λ r. Meets tokens r in subst M e (parsed-meets tokens)
answer-meets tokens (Err NoMemory) e = tt
