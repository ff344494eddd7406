-- Each form that is read derives, however deep others nest in it.
use Rattle.std.proofs.Common.{◌≡◌, ℕ, zero, suc, ◌-◌, min, true, false, List, Ok, sym, subst, ◌∙◌, arith}
use Rattle.rb_tree.specs.declared.token.Token.{Token}
use Rattle.rb_expr.specs.declared.form.Form.TheVariants as form
use Rattle.rb_expr.specs.Reading.{Outcome}
use Rattle.rb_expr.specs.Rules.{statement, longest_body, tern}
use Rattle.rb_expr.specs.Grammar.{parsed}
use Rattle.rb_rules.specs.Forms.{Site, Inside, is_open}
use Rattle.rb_rules.specs.Grammar.{DerivesBody, DerivesStatement, DerivesSimple, DerivesValue, DerivesTerm, DerivesLevel, DerivesPrefixed}
use Rattle.rb_grammar.specs.Laws.{FormsDerive, TermsDerive, StatementsDerive, BodiesDerive}
use Rattle.rb_grammar.proofs.Steps.{Holds, refused, weaker, Within}
use Rattle.rb_grammar.proofs.Sound.{Sound, Ready, Starts}
use Rattle.rb_grammar.proofs.Operations.{parsed-same}
use Rattle.rb_grammar.proofs.Operators.{prefixed-holds, negated-holds, operation-holds, tern-holds}
use Rattle.rb_grammar.proofs.Statements.{value-holds, simple-holds, statement-holds, body-holds}

pub sound : (depth : ℕ) → Sound (parsed depth)
unfolding parsed
sound zero = record {
  body = λ free xs. refused _ _;
  simple = λ free xs. refused _ _;
  value = λ free xs. refused _ _;
  term = λ free xs. refused _ _;
  level = λ level low free xs. refused _ _;
  negated = λ free xs. refused _ _;
  prefixed = λ free xs. refused _ _;
}
sound (suc depth) = let ih = sound depth in record {
  body = λ free xs. body-holds (parsed depth) ih depth free Inside xs;
  simple = λ free xs. simple-holds (parsed depth) ih depth free false xs;
  value = λ free xs. value-holds (parsed depth) ih depth free false xs;
  term = λ free xs. tern-holds (parsed depth) ih depth free xs;
  level = λ level low free xs. operation-holds (parsed depth) ih depth free level low xs;
  negated = λ free xs. negated-holds (parsed depth) ih depth free xs;
  prefixed = λ free xs. prefixed-holds (parsed depth) ih depth free xs;
}

-- what holds of an answer holds of this one
told : {A : Type 0} (Q : A → List Token → Type 0) (o : Outcome A) (a : A) (rest : List Token) → o ≡ Ok (a, rest) → Holds o Q → Q a rest
told {A = A} Q o a rest e h = got (subst (λ o. Holds o Q) e h)
  where
    got : Holds {A = A} (Ok (a, rest)) Q → Q a rest
    got h = h.told

pub forms-derive : FormsDerive
forms-derive depth form.Body free tokens rest t e = (told (λ t ys. DerivesBody Inside free t tokens ys × Within tokens ys × Ready free t tokens ys) _ t rest e ((sound depth).body free tokens)).0
forms-derive depth form.Simple free tokens rest t e = (told (λ t ys. DerivesSimple false free t tokens ys × Within tokens ys × Starts t tokens) _ t rest e ((sound depth).simple free tokens)).0
forms-derive depth form.Value free tokens rest t e = (told (λ t ys. DerivesValue false free t tokens ys × Within tokens ys × Starts t tokens) _ t rest e ((sound depth).value free tokens)).0
forms-derive depth form.Tern free tokens rest t e = (told (λ t ys. DerivesTerm free t tokens ys × Within tokens ys × Starts t tokens) _ t rest e ((sound depth).term free tokens)).0
forms-derive depth (form.Operation least) free tokens rest t e =
    let level = min 9 (least - 1) in
    (told (λ t ys. DerivesLevel level free t tokens ys × Within tokens ys × Starts t tokens) _ t rest (sym (parsed-same depth least free tokens) ∙ e) ((sound depth).level level (omega arith) free tokens)).0
forms-derive depth form.Negated free tokens rest t e = (told (λ t ys. DerivesLevel 9 free t tokens ys × Within tokens ys × Starts t tokens) _ t rest e ((sound depth).negated free tokens)).0
forms-derive depth form.Prefixed free tokens rest t e = (told (λ t ys. DerivesPrefixed free t tokens ys × Within tokens ys × Starts t tokens) _ t rest e ((sound depth).prefixed free tokens)).0

pub term-holds : (depth : ℕ) (tokens : List Token) → Holds (tern depth tokens) (λ t ys. DerivesTerm true t tokens ys × Within tokens ys × Starts t tokens)
unfolding tern
term-holds depth tokens = tern-holds (parsed depth) (sound depth) depth true tokens

pub a-statement-holds : (depth : ℕ) (at : Site) (tokens : List Token) → Holds (statement depth (is_open at) tokens) (λ t ys. DerivesStatement at true t tokens ys × Within tokens ys × Starts t tokens)
unfolding statement
a-statement-holds depth at tokens = statement-holds (parsed depth) (sound depth) depth true at tokens

pub a-body-holds : (depth : ℕ) (at : Site) (tokens : List Token) → Holds (longest_body depth (is_open at) tokens) (λ t ys. DerivesBody at true t tokens ys × Within tokens ys)
unfolding longest_body
a-body-holds depth at tokens = weaker (body-holds (parsed depth) (sound depth) depth true at tokens) (λ t ys h. (h.0, h.1))

pub terms-derive : TermsDerive
terms-derive depth tokens rest t e = (told (λ t ys. DerivesTerm true t tokens ys × Within tokens ys × Starts t tokens) _ t rest e (term-holds depth tokens)).0

pub statements-derive : StatementsDerive
statements-derive depth at tokens rest t e = (told (λ t ys. DerivesStatement at true t tokens ys × Within tokens ys × Starts t tokens) _ t rest e (a-statement-holds depth at tokens)).0

pub bodies-derive : BodiesDerive
bodies-derive depth at tokens rest t e = (told (λ t ys. DerivesBody at true t tokens ys × Within tokens ys) _ t rest e (a-body-holds depth at tokens)).0
