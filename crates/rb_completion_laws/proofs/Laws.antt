-- What is read before a refusal begins what was to be read.
use Rattle.std.proofs.Common.{◌≡◌, ℕ, true, List, [], ◌++◌, Err, refl, sym, ap, subst, ◌∙◌}
use Rattle.std.proofs.lemmas.List.{append_cancel_right}
use Rattle.rb_tree.specs.declared.token.Token.{Token}
use Rattle.rb_expr.specs.Reading.{Outcome}
use Rattle.rb_decl.specs.Programs.{program}
use Rattle.rb_rules.specs.Forms.{Top}
use Rattle.rb_rules.specs.Grammar.{Begins, DerivesBody}
use Rattle.rb_completion_laws.specs.Laws.{Begun, RefusedFrontsBegin, RefusalsAreEnds, TermsBegin, StatementsBegin, BodiesBegin}
use Rattle.rb_completion_laws.proofs.Steps.{Rel, Completes, Plain}
use Rattle.rb_completion_laws.proofs.Forms.{a-term-goes, a-statement-goes, a-body-goes}
use Rattle.rb_completion_laws.proofs.Programs.{program-completes}

-- ---- programs

-- the tokens before what is left begin a program
abbrev Front : List Token → List Token → Type 0
Front tokens rest = (before : List Token) × (tokens ≡ before ++ rest) × Begins before

front : (d : ℕ) (tokens rest : List Token) → program d tokens ≡ Err rest → Front tokens rest
front d tokens rest e =
    let c = program-completes d tokens rest e [] refl in
    (c.swapped.0, c.swapped.1, (c.more, c.derives.0, subst (λ us. DerivesBody Top true c.derives.0 us []) c.swapped.2 c.derives.1))

pub fronts-begin : RefusedFrontsBegin
fronts-begin d before rest e =
    let f = front d (before ++ rest) rest e in
    subst Begins (sym (append_cancel_right before f.0 rest f.1)) f.2

pub refusals-are-ends : RefusalsAreEnds
refusals-are-ends d tokens rest e = let f = front d tokens rest e in (f.0, f.1)

-- ---- forms

refused-told : {A : Type 0} (E : Rel) (tokens : List Token) (o : Outcome A) (rest : List Token) → o ≡ Err rest → Plain tokens o E → Completes tokens rest E
refused-told {A = A} E tokens o rest e h = got (subst (λ o. Plain tokens o E) e h)
  where
    got : Plain {A = A} tokens (Err rest) E → Completes tokens rest E
    got h = h.told

begun : (E : Rel) (tokens rest : List Token) → Completes tokens rest E → Begun E tokens rest
begun E tokens rest c =
    let first = (c [] refl).swapped in (
      first.0,
      first.1,
      λ after clear.
          let d = c after clear in
          let fronts : d.swapped.0 ≡ first.0 = append_cancel_right d.swapped.0 first.0 rest (sym d.swapped.1 ∙ first.1) in
          (d.more, subst (λ us. E us after) (d.swapped.2 ∙ ap (λ f. f ++ d.more) fronts) d.derives),
    )

pub terms-begin : TermsBegin
terms-begin depth tokens rest e = begun _ tokens rest (refused-told _ tokens _ rest e (a-term-goes depth tokens))

pub statements-begin : StatementsBegin
statements-begin depth at tokens rest e = begun _ tokens rest (refused-told _ tokens _ rest e (a-statement-goes depth at tokens))

pub bodies-begin : BodiesBegin
bodies-begin depth at tokens rest e = begun _ tokens rest (refused-told _ tokens _ rest e (a-body-goes depth at tokens))
