-- The rules that declarations are made of, with forms nested in them no deeper than the number.
use Rattle.std.specs.Prelude.{ℕ, Bool, true}
use Rattle.rb_tree.specs.declared.syntax.Guarded.{Guarded}
use Rattle.rb_tree.specs.declared.syntax.Tree.{Tree}
use Rattle.rb_expr.specs.Branches as branches
use Rattle.rb_expr.specs.Grammar.{parsed}
use Rattle.rb_expr.specs.Operators as operators
use Rattle.rb_expr.specs.Reading.{Parser}
use Rattle.rb_expr.specs.Statements as statements

-- a statement that is no declaration; the flag says whether a constant may be assigned to
unfoldable pub statement : ℕ → Bool → Parser Tree
statement depth constants = statements.statement (parsed depth) depth true constants

-- the longest body without declarations; the flag says whether a constant may be assigned to in its own statements
unfoldable pub longest_body : ℕ → Bool → Parser Tree
longest_body depth constants = statements.body (parsed depth) depth true constants

-- a body without declarations and what guards it
unfoldable pub guarded : ℕ → Parser (Guarded Tree)
guarded depth = branches.guarded (parsed depth) depth true

-- an expression with operators, at most `? :`
unfoldable pub tern : ℕ → Parser Tree
tern depth = operators.tern (parsed depth) depth true
