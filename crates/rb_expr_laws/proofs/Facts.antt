-- What follows of a reader from a few facts: where it stops, the form that it reads goes no further.
use Rattle.std.proofs.Common.{◌≡◌, List, [], ◌∷◌, ◌++◌, Ok, Err, sym, ap, subst, ◌∙◌, append_assoc, append-nil}
use Rattle.rb_tree.specs.declared.syntax.Tree.{Tree}
use Rattle.rb_tree.specs.declared.token.Token.{Token}
use Rattle.rb_expr.specs.Reading.{Outcome}
use Rattle.rb_prefix_laws.proofs.Steps.{rest_of}

-- a reader of a form, which the relation tells
pub record Facts (D : Tree → List Token → List Token → Type 0) (reads : List Token → Outcome Tree) : Type 0 where
  pub sound : (tokens rest : List Token) (t : Tree) → reads tokens ≡ Ok (t, rest) → D t tokens rest
  pub complete : (tokens : List Token) (t : Tree) → D t tokens [] → reads tokens ≡ Ok (t, [])
  pub alone : (tokens rest : List Token) (t : Tree) → reads tokens ≡ Ok (t, rest) → (before : List Token) × (tokens ≡ before ++ rest) × (u : Tree) × D u before []
  pub ended : (t : Tree) (before : List Token) (next : Token) (after others : List Token) → reads (before ++ next ∷ after) ≡ Ok (t, next ∷ after) → reads (before ++ next ∷ others) ≡ Ok (t, next ∷ others)
  pub refused : (before : List Token) (bad : Token) (after others : List Token) → reads (before ++ bad ∷ after) ≡ Err (bad ∷ after) → reads (before ++ bad ∷ others) ≡ Err (bad ∷ others)
  pub begun : (tokens rest : List Token) → reads tokens ≡ Err rest → (before : List Token) × (tokens ≡ before ++ rest) × (more : List Token) × (t : Tree) × D t (before ++ more) []

-- with others after them the tokens are such a form
abbrev pub Begins : (Tree → List Token → List Token → Type 0) → List Token → Type 0
Begins D tokens = (more : List Token) × (t : Tree) × D t (tokens ++ more) []

-- ---- stops

pub refused-no-further : {D : Tree → List Token → List Token → Type 0} {reads : List Token → Outcome Tree} → Facts D reads →
    (before : List Token) (bad : Token) (after : List Token) → reads (before ++ bad ∷ after) ≡ Err (bad ∷ after) → ¬ Begins D (before ++ bad ∷ [])
refused-no-further {D = D} f before bad after e (more, t, derives) =
    let d : D t (before ++ bad ∷ more) [] = subst (λ us. D t us []) (append_assoc before (bad ∷ []) more) derives in
    let ok = f.complete (before ++ bad ∷ more) t d in
    let no' = f.refused before bad after more e in
    absurd (cc)

pub ended-no-further : {D : Tree → List Token → List Token → Type 0} {reads : List Token → Outcome Tree} → Facts D reads →
    (u : Tree) (before : List Token) (next : Token) (after : List Token) → reads (before ++ next ∷ after) ≡ Ok (u, next ∷ after) → ¬ Begins D (before ++ next ∷ [])
ended-no-further {D = D} f u before next after e (more, t, derives) =
    let d : D t (before ++ next ∷ more) [] = subst (λ us. D t us []) (append_assoc before (next ∷ []) more) derives in
    let ok = f.complete (before ++ next ∷ more) t d in
    let short = f.ended u before next after more e in
    let same : next ∷ more ≡ [] = ap rest_of (sym short ∙ ok) in
    absurd (cc)

-- ---- fewer tokens

-- what is refused among the first tokens is refused of all of them
pub refused-further : {D : Tree → List Token → List Token → Type 0} {reads : List Token → Outcome Tree} → Facts D reads →
    (few more : List Token) (bad : Token) (after : List Token) → reads few ≡ Err (bad ∷ after) → (before : List Token) × (few ≡ before ++ bad ∷ after) × (reads (few ++ more) ≡ Err (bad ∷ (after ++ more)))
refused-further {reads = reads} f few more bad after e =
    let h = f.begun few (bad ∷ after) e in
    let e' : reads (h.0 ++ bad ∷ after) ≡ Err (bad ∷ after) = subst (λ us. reads us ≡ Err (bad ∷ after)) h.1 e in
    let whole : few ++ more ≡ h.0 ++ bad ∷ (after ++ more) = ap (λ us. us ++ more) h.1 ∙ append_assoc h.0 (bad ∷ after) more in
    (h.0, h.1, subst (λ us. reads us ≡ Err (bad ∷ (after ++ more))) (sym whole) (f.refused h.0 bad after (after ++ more) e'))

pub ended-further : {D : Tree → List Token → List Token → Type 0} {reads : List Token → Outcome Tree} → Facts D reads →
    (few more : List Token) (t : Tree) (next : Token) (after : List Token) → reads few ≡ Ok (t, next ∷ after) → (before : List Token) × (few ≡ before ++ next ∷ after) × (reads (few ++ more) ≡ Ok (t, next ∷ (after ++ more))) × (u : Tree) × D u before []
ended-further {reads = reads} f few more t next after e =
    let h = f.alone few (next ∷ after) t e in
    let e' : reads (h.0 ++ next ∷ after) ≡ Ok (t, next ∷ after) = subst (λ us. reads us ≡ Ok (t, next ∷ after)) h.1 e in
    let whole : few ++ more ≡ h.0 ++ next ∷ (after ++ more) = ap (λ us. us ++ more) h.1 ∙ append_assoc h.0 (next ∷ after) more in
    (h.0, h.1, subst (λ us. reads us ≡ Ok (t, next ∷ (after ++ more))) (sym whole) (f.ended t h.0 next after (after ++ more) e'), h.2, h.3)

-- ---- what is read begins a form

pub alone-begins : (D : Tree → List Token → List Token → Type 0) (tokens : List Token) (t : Tree) → D t tokens [] → Begins D tokens
alone-begins D tokens t d = ([], t, subst (λ us. D t us []) (sym (append-nil tokens)) d)

pub ended-begins : {D : Tree → List Token → List Token → Type 0} {reads : List Token → Outcome Tree} → Facts D reads →
    (tokens : List Token) (t : Tree) → reads tokens ≡ Ok (t, []) → Begins D tokens
ended-begins {D = D} f tokens t e = alone-begins D tokens t (f.sound tokens [] t e)

pub refused-begins : {D : Tree → List Token → List Token → Type 0} {reads : List Token → Outcome Tree} → Facts D reads →
    (tokens : List Token) → reads tokens ≡ Err [] → Begins D tokens
refused-begins {D = D} f tokens e =
    let h = f.begun tokens [] e in
    let same : tokens ≡ h.0 = h.1 ∙ append-nil h.0 in
    subst (Begins D) (sym same) (h.2, h.3, h.4)
