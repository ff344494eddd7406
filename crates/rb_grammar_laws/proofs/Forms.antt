-- Each form that derives is read, wherever it stands.
use Rattle.std.proofs.Common.{◌≡◌, ℕ, zero, suc, ◌<◌, false, Ok, refl, sym, subst, arith}
use Rattle.rb_expr.specs.declared.form.Form.TheVariants as form
use Rattle.rb_expr.specs.Grammar.{parsed}
use Rattle.rb_grammar.proofs.Forms.{sound}
use Rattle.rb_grammar_laws.specs.Ends.{IsLooser}
use Rattle.rb_grammar_laws.specs.Laws.{FormsAnswer, RescuedAnswer}
use Rattle.rb_grammar_laws.proofs.Complete.{Complete}
use Rattle.rb_grammar_laws.proofs.Operators.{prefixed-read, nine-read, operation-read, tern-read}
use Rattle.rb_grammar_laws.proofs.Values.{value-read}
use Rattle.rb_grammar_laws.proofs.Statements.{simple-read, body-read, rescued-read}

nothing : (n : ℕ) → suc n < zero → ⊥
nothing n less = omega arith

fewer : (n m : ℕ) → suc n < suc m → n < m
fewer n m less = omega arith

pub complete : (depth : ℕ) → Complete depth (parsed depth)
unfolding parsed
complete zero = record {
  body = λ free t xs ys fits d ends. absurd (nothing _ fits);
  rescued = λ free t xs ps qs k fits d g is. absurd (nothing _ fits);
  simple = λ free t xs ys fits d ends. absurd (nothing _ fits);
  value = λ free t xs ys fits d ends. absurd (nothing _ fits);
  term = λ free t xs ys fits d ends. absurd (nothing _ fits);
  level = λ level low free t xs ys fits d ends loose. absurd (nothing _ fits);
  negated = λ free t xs ys fits d ends. absurd (nothing _ fits);
  prefixed = λ free t xs ys fits d ends. absurd (nothing _ fits);
}
complete (suc depth) = let ih = complete depth in record {
  body = λ free t xs ys fits d ends. body-read (parsed depth) depth ih (sound depth) free t xs ys d ends (fewer _ _ fits);
  rescued = λ free t xs ps qs k fits d g is. rescued-read (parsed depth) depth ih (sound depth) free t xs ps qs k d g is (fewer _ _ fits);
  simple = λ free t xs ys fits d ends. simple-read (parsed depth) depth ih false free t xs ys d ends (fewer _ _ fits);
  value = λ free t xs ys fits d ends. value-read (parsed depth) depth ih false free t xs ys d ends (fewer _ _ fits);
  term = λ free t xs ys fits d ends. tern-read (parsed depth) depth ih free t xs ys d ends (fewer _ _ fits);
  level = λ level low free t xs ys fits d ends loose. operation-read (parsed depth) depth ih level free t xs ys d low ends loose (fewer _ _ fits);
  negated = λ free t xs ys fits d ends. nine-read (parsed depth) depth ih 9 free t xs ys d refl ends (fewer _ _ fits);
  prefixed = λ free t xs ys fits d ends. let r = prefixed-read (parsed depth) depth ih free t xs ys d ends (fewer _ _ fits) in (r.0, r.1);
}

pub forms-answer : FormsAnswer
forms-answer depth form.Body free tokens rest t fits d ends = ((complete depth).body free t tokens rest fits d ends).0
forms-answer depth form.Simple free tokens rest t fits d ends = ((complete depth).simple free t tokens rest fits d ends).0
forms-answer depth form.Value free tokens rest t fits d ends = ((complete depth).value free t tokens rest fits d ends).0
forms-answer depth form.Tern free tokens rest t fits d ends = ((complete depth).term free t tokens rest fits d ends).0
forms-answer depth (form.Operation least) free tokens rest t fits d ends =
    subst (λ n. parsed depth (form.Operation n) free tokens ≡ Ok (t, rest)) (sym d.1) (((complete depth).level d.0 d.2 free t tokens rest fits d.3 ends.0 (subst (λ n. IsLooser n rest) d.1 ends.1)).0)
forms-answer depth form.Negated free tokens rest t fits d ends = ((complete depth).negated free t tokens rest fits d ends).0
forms-answer depth form.Prefixed free tokens rest t fits d ends = ((complete depth).prefixed free t tokens rest fits d ends).0

pub rescued-answer : RescuedAnswer
rescued-answer depth free tokens xs rest k t fits d g is = ((complete depth).rescued free t tokens xs rest k fits d g is).0
