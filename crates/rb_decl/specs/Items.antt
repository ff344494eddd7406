-- The statements of a program and of the body of a class or module: declarations, and the other statements.
use Rattle.std.specs.Prelude.{ℕ, zero, suc, ◌-◌, Bool, true, false, if◌then◌else◌, List, [], ◌∷◌, ◌++◌, length, slice_get, Option, Some, None, is_some, Ok}
use Rattle.rb_tree.specs.Tokens.{same_shape}
use Rattle.rb_tree.specs.Trees.{span_of}
use Rattle.rb_tree.specs.declared.syntax.Tree.{Tree}
use Rattle.rb_tree.specs.Nodes as tree
use Rattle.rb_tree.specs.declared.token.Token.{Token}
use Rattle.rb_tree.specs.declared.token.Shape.{Shape}
use Rattle.rb_tree.specs.declared.token.Shape.TheVariants as shape
use Rattle.rb_expr.specs.Reading.{Parser, ◌>>=◌, pure, refuse, peek, sees, expect, skip_separators}
use Rattle.rb_expr.specs.Rules.{statement}
use Rattle.rb_decl.specs.Names.{path, superclass}
use Rattle.rb_decl.specs.Methods.{visibility, method}
use Rattle.rb_decl.specs.declared.item.Opening.{Opening}
use Rattle.rb_decl.specs.declared.item.Opening.TheVariants as openings
use Rattle.rb_decl.specs.declared.item.Head.{Head}
use Rattle.rb_decl.specs.declared.item.Head.TheVariants as heads

-- ---- what begins at a place

abbrev method_or_statement : Bool → Opening
method_or_statement true = openings.Method
method_or_statement false = openings.Statement

abbrev opening_by : Option Shape → Bool → Opening
opening_by (Some shape.Class) visible = openings.Namespace
opening_by (Some shape.Module) visible = openings.Namespace
opening_by (Some shape.Def) visible = openings.Method
opening_by _ visible = method_or_statement visible

-- a class or module, a method, before whose `def` a visibility may stand, or another statement
abbrev pub what_opens : List Token → Opening
what_opens i = opening_by (peek i) (is_some (visibility i))

-- ---- the heads of classes and modules

-- the head of a class, of which the path is one name where it is not long
unfoldable pub class_head : ℕ → Bool → Parser Head
class_head d long = do
  class ← expect shape.Class
  names ← path d long
  above ← superclass d
  pure (heads.Class class.start names above)

-- the head of a module, of which the path is one name where it is not long
unfoldable pub module_head : ℕ → Bool → Parser Head
module_head d long = do
  word ← expect shape.Module
  names ← path d long
  pure (heads.Module word.start names)

-- the head of a class or module, and the separator after it
unfoldable pub namespace_head : ℕ → Bool → Parser Head
namespace_head d long = λ i.
    (if sees shape.Class i then class_head d long >>= (λ h. expect shape.Separator >>= (λ _. pure h)) else module_head d long >>= (λ h. expect shape.Separator >>= (λ _. pure h))) i

-- ---- bodies

abbrev pub start_at : Option Tree → ℕ
start_at (Some t) = (span_of t).start
start_at None = 0

abbrev pub end_at : Option Tree → ℕ
end_at (Some t) = (span_of t).end
end_at None = 0

-- the body of these statements, from the first to the last
abbrev pub body_of : List Tree → Tree
body_of statements = tree.Body statements (record { start = start_at (slice_get statements 0); end = end_at (slice_get statements (length statements - 1)) })

abbrev pub tree_of : Head → Tree → ℕ → Tree
tree_of (heads.Class start names above) body end = tree.Class names above body (record { start = start; end = end })
tree_of (heads.Module start names) body end = tree.Module names body (record { start = start; end = end })

-- ---- statements

abbrev ends_by : Option Shape → Bool
ends_by (Some c) = same_shape c shape.End
ends_by None = true

-- a list of statements ends: no token comes, or `end`
abbrev pub ends : List Token → Bool
ends i = ends_by (peek i)

-- After the statements `found` and the separators after them. The number bounds the statements.
unfoldable pub statements_from : Parser Tree → ℕ → List Tree → Parser (List Tree)
statements_from one zero found = refuse
statements_from one (suc n) found = λ i.
    if ends i then Ok (found, i)
    else (one >>= (λ x j. if sees shape.Separator j then statements_from one n (found ++ x ∷ []) (skip_separators j) else Ok (found ++ x ∷ [], j))) i

-- the statements up to the end of a body, each of which `one` reads
unfoldable pub statements : Parser Tree → ℕ → Parser (List Tree)
statements one d = λ i. statements_from one d [] (skip_separators i)

-- a class or module, of whose body `one` reads each statement
unfoldable pub namespace : Parser Tree → ℕ → Bool → Parser Tree
namespace one d long = do
  h ← namespace_head d long
  found ← statements one d
  end ← expect shape.End
  pure (tree_of h (body_of found) end.end)

abbrev item_by : Opening → Parser Tree → Parser Tree → Parser Tree → Parser Tree
item_by openings.Namespace a b c = a
item_by openings.Method a b c = b
item_by openings.Statement a b c = c

-- A declaration or another statement. A class or module may have a path for its name at the top alone, as `long` says.
unfoldable pub item : ℕ → Bool → Parser Tree
item zero long = refuse
item (suc d) long = λ i. item_by (what_opens i) (namespace (item d false) d long) (method (suc d)) (statement (suc d) true) i
