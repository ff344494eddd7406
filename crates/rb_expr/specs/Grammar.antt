-- All forms together.
use Rattle.std.specs.Prelude.{ℕ, zero, suc, Bool, false, List, Result}
use Rattle.std.specs.declared.alloc.Global.{Global}
use denote.Ref.{Bor}
use Rattle.rb_tree.specs.declared.syntax.Tree.{Tree}
use Rattle.rb_tree.specs.declared.token.Token.{Token}
use Rattle.rb_expr.specs.declared.form.Form.{Form}
use Rattle.rb_expr.specs.declared.form.Form.TheVariants as form
use Rattle.rb_expr.specs.declared.reading.Stop.{Stop}
use Rattle.rb_expr.specs.Operators.{prefixed, negated, operation, tern}
use Rattle.rb_expr.specs.Reading.{Parser, Gives, refuse}
use Rattle.rb_expr.specs.Statements.{value, simple, body}

abbrev pub by_form : (Form → Bool → Parser Tree) → ℕ → Bool → Form → Parser Tree
by_form nested turns takes_do form.Body = body nested turns takes_do false
by_form nested turns takes_do form.Simple = simple nested turns takes_do false
by_form nested turns takes_do form.Value = value nested turns takes_do false
by_form nested turns takes_do form.Tern = tern nested turns takes_do
by_form nested turns takes_do (form.Operation least) = operation nested turns takes_do least
by_form nested turns takes_do form.Negated = negated nested turns takes_do
by_form nested turns takes_do form.Prefixed = prefixed nested turns takes_do

-- A form, with others nested in it no deeper than the number. The flag says whether calls that stand in no brackets may take
-- a `do`. No constant is assigned to in it.
unfoldable pub parsed : ℕ → Form → Bool → Parser Tree
parsed zero form takes_do = refuse
parsed (suc depth) form takes_do = by_form (parsed depth) depth takes_do form

-- a function value that reads forms so
pub record Nests (depth : ℕ) (pre : Global → ℕ → Form → Bool → Bor (List Token) → Type 0)
    (post : Global → ℕ → Form → Bool → Bor (List Token) → Result (Tree × Bor (List Token)) Stop → Type 0) : Type 0 where
  pub callable : (alloc : Global) (form : Form) (takes_do : Bool) (tokens : Bor (List Token)) → pre alloc depth form takes_do tokens
  pub reads : (alloc : Global) (form : Form) (takes_do : Bool) (tokens : Bor (List Token)) (r : Result (Tree × Bor (List Token)) Stop)
      → post alloc depth form takes_do tokens r → Gives (λ x. (x.0, x.1.now)) r (parsed depth form takes_do tokens.now)
