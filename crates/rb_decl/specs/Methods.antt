-- Methods: `def`, perhaps `self.`, a name, parameters, a body with what guards it, and `end`, and perhaps a visibility in front.
use Rattle.std.specs.Prelude.{ℕ, Bool, true, false, ◌==◌, if◌then◌else◌, List, [], ◌∷◌, ◌++◌, length, Option, Some, None, is_some, Ok, Err, codes}
use Rattle.std.specs.Str.{bytes_eq}
use Rattle.srb_terms.specs.declared.span.Span.{Span}
use Rattle.rb_tree.specs.Tokens.{shape_of}
use Rattle.rb_tree.specs.declared.syntax.Guarded.{Guarded}
use Rattle.rb_tree.specs.declared.syntax.Tree.{Tree}
use Rattle.rb_tree.specs.Nodes as tree
use Rattle.rb_tree.specs.declared.syntax.PlacedName.{PlacedName}
use Rattle.rb_tree.specs.declared.syntax.Visibility.{Visibility}
use Rattle.rb_tree.specs.declared.syntax.Visibility.TheVariants as visible
use Rattle.rb_tree.specs.declared.token.Token.{Token}
use Rattle.rb_tree.specs.declared.token.TokenKind.{TokenKind}
use Rattle.rb_tree.specs.declared.token.TokenKind.TheVariants as kind
use Rattle.rb_tree.specs.declared.token.Shape.{Shape}
use Rattle.rb_tree.specs.declared.token.Shape.TheVariants as shape
use Rattle.rb_expr.specs.Reading.{Outcome, Parser, ◌>>=◌, pure, sees, after, expect}
use Rattle.rb_expr.specs.Rules.{guarded}
use Rattle.rb_decl.specs.Parameters.{parameters_of}
use Rattle.rb_decl.specs.declared.method.Head.{Head}

-- ---- the visibility

-- the visibility that the word gives to the method after it
abbrev pub visibility_of : List ℕ → Option Visibility
visibility_of words =
    if bytes_eq words (codes "private") then Some visible.Private
    else (if bytes_eq words (codes "protected") then Some visible.Protected
    else (if bytes_eq words (codes "public") then Some visible.Public
    else (if bytes_eq words (codes "private_class_method") then Some visible.PrivateClassMethod else None)))

abbrev visibility_as : List Token → TokenKind → Option Visibility
visibility_as ts (kind.Identifier words) = if sees shape.Def ts then visibility_of words else None
visibility_as ts _ = None

-- the visibility that stands in front of a `def`
unfoldable pub visibility : List Token → Option Visibility
visibility [] = None
visibility (t ∷ ts) = visibility_as ts t.kind

-- ---- the name

-- the spelling of an operator that may be a method's name, nothing for another token
unfoldable pub operator_text : Shape → List ℕ
operator_text shape.Plus = codes "+"
operator_text shape.Minus = codes "-"
operator_text shape.Star = codes "*"
operator_text shape.Slash = codes "/"
operator_text shape.Percent = codes "%"
operator_text shape.Power = codes "**"
operator_text shape.Equal = codes "=="
operator_text shape.CaseEqual = codes "==="
operator_text shape.Compare = codes "<=>"
operator_text shape.Less = codes "<"
operator_text shape.Greater = codes ">"
operator_text shape.LessEqual = codes "<="
operator_text shape.GreaterEqual = codes ">="
operator_text shape.ShiftLeft = codes "<<"
operator_text shape.ShiftRight = codes ">>"
operator_text shape.Ampersand = codes "&"
operator_text shape.Pipe = codes "|"
operator_text shape.Caret = codes "^"
operator_text shape.Not = codes "!"
operator_text shape.Tilde = codes "~"
operator_text shape.Index = codes "[]"
operator_text shape.IndexAssign = codes "[]="
operator_text shape.UnaryMinus = codes "-@"
operator_text shape.UnaryPlus = codes "+@"
operator_text _ = []

abbrev pub operator_name : Shape → Span → List Token → List Token → Outcome PlacedName
operator_name c span tokens rest =
    if length (operator_text c) == 0 then Err tokens else Ok (record { name = operator_text c; span = span }, rest)

-- the name of the method that sets what `words` names
abbrev pub setter : List ℕ → List ℕ
setter words = words ++ codes "="

-- a name, perhaps with `=` after it
unfoldable pub plain_name : List ℕ → Span → Parser PlacedName
plain_name words span = λ i.
    if sees shape.Assign i then (expect shape.Assign >>= (λ equals. pure (record { name = setter words; span = record { start = span.start; end = equals.end } }))) i
    else Ok (record { name = words; span = span }, i)

abbrev method_name_as : Token → List Token → TokenKind → Outcome PlacedName
method_name_as t ts (kind.Identifier words) = plain_name words t.span ts
method_name_as t ts (kind.Constant words) = Ok (record { name = words; span = t.span }, ts)
method_name_as t ts _ = operator_name (shape_of t.kind) t.span (t ∷ ts) ts

-- the name of a method
unfoldable pub method_name : Parser PlacedName
method_name [] = Err []
method_name (t ∷ ts) = method_name_as t ts t.kind

-- ---- the whole

-- whether `self.` comes next, which it passes over
unfoldable pub own : Parser Bool
own = λ i. if sees shape.SelfWord i then (expect shape.Dot >>= (λ _. pure true)) (after i) else Ok (false, i)

-- the head of a method from its `def` on
unfoldable pub method_head : ℕ → Option Visibility → ℕ → Parser Head
method_head d visibility start = do
  def ← expect shape.Def
  own ← own
  name ← method_name
  found ← parameters_of d
  pure (record { visibility = visibility; start = start; own = own; name = name; parameters = found })

abbrev pub tree_of : Head → Guarded Tree → ℕ → Tree
tree_of h guarded end = tree.Def h.visibility h.own h.name.name h.name.span h.parameters guarded (record { start = h.start; end = end })

-- a method from its `def` on
unfoldable pub defined : ℕ → Option Visibility → ℕ → Parser Tree
defined d visibility start = do
  h ← method_head d visibility start
  found ← guarded d
  end ← expect shape.End
  pure (tree_of h found end.end)

-- where the next token begins
abbrev pub start_of : List Token → ℕ
start_of [] = 0
start_of (t ∷ ts) = t.span.start

-- a method, perhaps with a visibility in front
unfoldable pub method : ℕ → Parser Tree
method d = λ i. if is_some (visibility i) then defined d (visibility i) (start_of i) (after i) else defined d (visibility i) (start_of i) i
