-- Constants and paths of them.
use Rattle.std.specs.Prelude.{ℕ, zero, suc, ◌-◌, Bool, true, false, ◌&&◌, if◌then◌else◌, List, [], ◌∷◌, ◌++◌, length, slice_get, Option, Some, None, Ok, Err}
use Rattle.srb_terms.specs.declared.span.Span.{Span}
use Rattle.rb_tree.specs.declared.syntax.PlacedName.{PlacedName}
use Rattle.rb_tree.specs.declared.syntax.Reference.{Reference}
use Rattle.rb_tree.specs.declared.token.Token.{Token}
use Rattle.rb_tree.specs.declared.token.TokenKind.{TokenKind}
use Rattle.rb_tree.specs.declared.token.TokenKind.TheVariants as kind
use Rattle.rb_tree.specs.declared.token.Shape.TheVariants as shape
use Rattle.rb_expr.specs.Reading.{Outcome, Parser, ◌>>=◌, pure, refuse, sees, after, expect}

abbrev constant_as : Token → List Token → TokenKind → Outcome PlacedName
constant_as t ts (kind.Constant words) = Ok (record { name = words; span = t.span }, ts)
constant_as t ts _ = Err (t ∷ ts)

-- a constant
unfoldable pub constant : Parser PlacedName
constant [] = Err []
constant (t ∷ ts) = constant_as t ts t.kind

-- a path goes on after a name
abbrev pub goes_on : Bool → List Token → Bool
goes_on long i = long && sees shape.Scope i

-- After the names `found` and, but for the first, a `::`. A path that is not long has one name. The number bounds the names.
unfoldable pub path_from : Bool → ℕ → List PlacedName → Parser (List PlacedName)
path_from long zero found = refuse
path_from long (suc n) found =
    constant >>= (λ x i. if goes_on long i then path_from long n (found ++ x ∷ []) (after i) else Ok (found ++ x ∷ [], i))

unfoldable pub path : ℕ → Bool → Parser (List PlacedName)
path d long = path_from long d []

abbrev pub start_at : Option PlacedName → ℕ
start_at (Some x) = x.span.start
start_at None = 0

abbrev pub end_at : Option PlacedName → ℕ
end_at (Some x) = x.span.end
end_at None = 0

-- where the last name ends
abbrev pub end_of : List PlacedName → ℕ
end_of xs = end_at (slice_get xs (length xs - 1))

abbrev pub short_reference : List PlacedName → Reference
short_reference xs = record { top = false; path = xs; span = record { start = start_at (slice_get xs 0); end = end_of xs } }

abbrev pub top_reference : Span → List PlacedName → Reference
top_reference scope xs = record { top = true; path = xs; span = record { start = scope.start; end = end_of xs } }

-- a path, perhaps with `::` in front
unfoldable pub reference : ℕ → Parser Reference
reference d = λ i.
    if sees shape.Scope i then (expect shape.Scope >>= (λ scope. path d true >>= (λ xs. pure (top_reference scope xs)))) i
    else (path d true >>= (λ xs. pure (short_reference xs))) i

-- `<` and a reference, if `<` comes next
unfoldable pub superclass : ℕ → Parser (Option Reference)
superclass d = λ i. if sees shape.Less i then (reference d >>= (λ r. pure (Some r))) (after i) else Ok (None, i)
