-- Each form that is begun can be completed, however deep others nest in it.
use Rattle.std.proofs.Common.{ℕ, zero, suc, true, false, List}
use Rattle.rb_tree.specs.declared.syntax.Guarded.{Guarded}
use Rattle.rb_tree.specs.declared.syntax.Tree.{Tree}
use Rattle.rb_tree.specs.declared.token.Token.{Token}
use Rattle.rb_expr.specs.Rules.{statement, longest_body, guarded, tern}
use Rattle.rb_expr.specs.Grammar.{parsed}
use Rattle.rb_rules.specs.Forms.{Site, Inside, is_open}
use Rattle.rb_rules.specs.Grammar.{DerivesGuarded}
use Rattle.rb_completion_laws.proofs.Steps.{Plain, refusing}
use Rattle.rb_completion_laws.proofs.Viable.{Viable, ABody, bodied, AStatement, ATerm, body-stands, simple-stands, value-stands, term-stands, level-stands, negated-stands, front-stands}
use Rattle.rb_completion_laws.proofs.Branches.{guarded-goes}
use Rattle.rb_completion_laws.proofs.Operators.{prefixed-goes, negated-goes, operation-goes, tern-goes}
use Rattle.rb_completion_laws.proofs.Statements.{value-goes, simple-goes, statement-goes, body-goes}

pub viable : (depth : ℕ) → Viable (parsed depth)
unfolding parsed
viable zero = record {
  body = λ free xs. refusing xs (body-stands Inside free);
  simple = λ free xs. refusing xs (simple-stands false free);
  value = λ free xs. refusing xs (value-stands false free);
  term = λ free xs. refusing xs (term-stands free);
  level = λ level low free xs. refusing xs (level-stands level low free);
  negated = λ free xs. refusing xs (negated-stands free);
  prefixed = λ free xs. refusing xs (front-stands free);
}
viable (suc depth) = let ih = viable depth in record {
  body = λ free xs. body-goes (parsed depth) ih depth free Inside xs;
  simple = λ free xs. simple-goes (parsed depth) ih depth free false xs;
  value = λ free xs. value-goes (parsed depth) ih depth free false xs;
  term = λ free xs. tern-goes (parsed depth) ih depth free xs;
  level = λ level low free xs. operation-goes (parsed depth) ih depth free level low xs;
  negated = λ free xs. negated-goes (parsed depth) ih depth free xs;
  prefixed = λ free xs. prefixed-goes (parsed depth) ih depth free xs;
}

pub a-term-goes : (depth : ℕ) (xs : List Token) → Plain xs (tern depth xs) (ATerm true)
unfolding tern
a-term-goes depth xs = tern-goes (parsed depth) (viable depth) depth true xs

pub a-statement-goes : (depth : ℕ) (at : Site) (xs : List Token) → Plain xs (statement depth (is_open at) xs) (AStatement at true)
unfolding statement
a-statement-goes depth at xs = statement-goes (parsed depth) (viable depth) depth true at xs

pub a-body-goes : (depth : ℕ) (at : Site) (xs : List Token) → Plain xs (longest_body depth (is_open at) xs) (ABody at true)
unfolding longest_body
a-body-goes depth at xs = bodied (body-goes (parsed depth) (viable depth) depth true at xs)

pub a-guarded-goes : (depth : ℕ) (xs : List Token) → Plain xs (guarded depth xs) (λ us zs. (g : Guarded Tree) × DerivesGuarded true g us zs)
unfolding guarded
a-guarded-goes depth xs = guarded-goes (parsed depth) (viable depth) depth true xs
