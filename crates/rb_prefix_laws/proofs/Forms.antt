-- Each form is read alike, however deep others nest in it, if the depth is enough for the tokens.
use Rattle.std.proofs.Common.{◌≡◌, ℕ, zero, suc, ◌-◌, ◌≤◌, Bool, false, List, [], Err, refl, subst, sym, arith}
use Rattle.rb_tree.specs.declared.syntax.Tree.{Tree}
use Rattle.rb_tree.specs.declared.token.Token.{Token}
use Rattle.rb_expr.specs.declared.form.Form.{Form}
use Rattle.rb_expr.specs.declared.form.Form.TheVariants as form
use Rattle.rb_expr.specs.Reading.{Outcome, Parser}
use Rattle.rb_expr.specs.Grammar.{by_form, parsed}
use Rattle.rb_expr.specs.Operands.{post, primary}
use Rattle.rb_expr.specs.Operators.{prefixed, power, negated, operation, tern}
use Rattle.rb_expr.specs.Shapes.{is_negation, prefix_of, has_prefix}
use Rattle.rb_expr.specs.Statements.{from_operand, value, simple}
use Rattle.rb_prefix_laws.proofs.Steps.{Fits, fits-turns}
use Rattle.rb_prefix_laws.proofs.Cuts.{Cut, weaker, in-any-case, nothing}
use Rattle.rb_prefix_laws.proofs.Steps.Amount.{any}
use Rattle.rb_prefix_laws.proofs.Nested.{Nests}
use Rattle.rb_prefix_laws.proofs.Operators.{prefixed-alike, negated-alike, operation-alike, tern-alike}
use Rattle.rb_prefix_laws.proofs.Statements.{value-alike, simple-alike, body-alike}

no-more : {A : Type 0} (k : ℕ) {n : ℕ} {xs : List Token} {o : Outcome A} {q : Parser A} → k ≤ 0 → Cut (k - 1) (any n) xs o q
no-more {A = A} k {n = n} {xs = xs} {o = o} {q = q} h = let e : k - 1 ≡ zero = omega arith in subst (λ j. Cut j (any n) xs o q) (sym e) nothing

lessened : (k d : ℕ) → k ≤ suc d → k - 1 ≤ d
lessened k d h = omega arith

-- a form in which others are nested that are read alike
form-alike : (nested other : Form → Bool → Parser Tree) (d e : ℕ) → Nests nested other d e → (k : ℕ) → Fits d e k → (f : Form) (free : Bool) (xs : List Token) → Cut k (any 0) xs (by_form nested d free f xs) (by_form other e free f)
form-alike nested other d e ih k fit form.Body free xs = body-alike nested other d e ih free k fit false xs
form-alike nested other d e ih k fit form.Simple free xs = weaker (simple-alike nested other d e ih free k fit false xs)
form-alike nested other d e ih k fit form.Value free xs = weaker (value-alike nested other d e ih free k fit false xs)
form-alike nested other d e ih k fit form.Tern free xs = weaker (tern-alike nested other d e ih free k fit xs)
form-alike nested other d e ih k fit (form.Operation least) free xs = weaker (operation-alike nested other d e ih free k fit least xs)
form-alike nested other d e ih k fit form.Negated free xs = weaker (negated-alike nested other d e ih free k fit xs)
form-alike nested other d e ih k fit form.Prefixed free xs = weaker (prefixed-alike nested other d e ih free k fit xs)

-- no term begins at the end, and no simple statement
no-term : (e : ℕ) (free : Bool) → parsed e form.Tern free [] ≡ Err []
unfolding parsed tern operation negated is_negation power prefixed prefix_of post primary
no-term zero free = refl
no-term (suc e) free = refl

no-simple : (e : ℕ) (free : Bool) → parsed e form.Simple free [] ≡ Err []
unfolding parsed simple value has_prefix is_negation prefix_of from_operand post primary
no-simple zero free = refl
no-simple (suc e) free = refl

pub nests : (d e : ℕ) → Nests (parsed d) (parsed e) d e
unfolding parsed
nests zero e k fit = record { reads = λ f free xs. no-more k fit.one; negated = λ free xs. no-more k fit.one; term = λ free xs. no-more k fit.one; valued = λ free xs. no-more k fit.one; no_term = no-term e; no_simple = no-simple e }
nests (suc d) zero k fit = record { reads = λ f free xs. no-more k fit.two; negated = λ free xs. no-more k fit.two; term = λ free xs. no-more k fit.two; valued = λ free xs. no-more k fit.two; no_term = no-term zero; no_simple = no-simple zero }
nests (suc d) (suc e) k fit =
    let fit' : Fits d e (k - 1) = fits-turns (lessened k d fit.one) (lessened k e fit.two) in
    record {
      reads = λ f free xs. form-alike (parsed d) (parsed e) d e (nests d e) (k - 1) fit' f free xs;
      negated = λ free xs. in-any-case (negated-alike (parsed d) (parsed e) d e (nests d e) free (k - 1) fit' xs);
      term = λ free xs. in-any-case (tern-alike (parsed d) (parsed e) d e (nests d e) free (k - 1) fit' xs);
      valued = λ free xs. in-any-case (value-alike (parsed d) (parsed e) d e (nests d e) free (k - 1) fit' false xs);
      no_term = no-term (suc e);
      no_simple = no-simple (suc e);
    }
