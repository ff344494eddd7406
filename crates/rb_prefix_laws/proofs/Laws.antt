-- The laws.
use Rattle.std.proofs.Common.{◌≡◌, ℕ, suc, ◌+◌, ◌-◌, ◌≤◌, ◌<◌, Bool, List, ◌∷◌, ◌++◌, length, Ok, Err, refl, sym, ap, subst, ◌∙◌, arith}
use Rattle.rb_tree.specs.declared.syntax.Tree.{Tree}
use Rattle.rb_tree.specs.declared.token.Token.{Token}
use Rattle.rb_expr.specs.Grammar.{parsed}
use Rattle.rb_expr.specs.Reading.{Outcome}
use Rattle.rb_expr.specs.declared.form.Form.{Form}
use Rattle.rb_prefix_laws.specs.Laws.{FormsAreRefusedAlike, FormsAreRefusedSooner, FormsEndAlike, FormsNeedNoMoreDepth, RefusalsLookNoFurther, ProgramsNeedNoMoreDepth}
use Rattle.rb_prefix_laws.proofs.Steps.{Alike, rest_of, instead, fits-turns}
use Rattle.rb_prefix_laws.proofs.Steps.Amount.{any}
use Rattle.rb_prefix_laws.proofs.Cuts.{Cut}
use Rattle.rb_prefix_laws.proofs.Forms.{nests}
use Rattle.rb_prefix_laws.proofs.Programs.{again-same, again-other, same-program, refused-alike}

-- ---- forms

form-read : (k d e : ℕ) → k ≤ d → k ≤ e → (f : Form) (free : Bool) (xs : List Token) → Alike (k - 1) (any 0) xs (parsed d f free xs) (parsed e f free)
form-read k d e a b f free xs = ((nests d e k (fits-turns a b)).reads f free xs).alike

pub forms-need-no-more-depth : FormsNeedNoMoreDepth
forms-need-no-more-depth depth other f free tokens a b =
    sym (again-same (length tokens + 2 - 1) tokens (parsed depth f free tokens) (parsed other f free) (form-read (length tokens + 2) depth other (omega arith) (omega arith) f free tokens) (omega arith))

form-other : (d : ℕ) (f : Form) (free : Bool) (before : List Token) (next : Token) (after others : List Token) → suc (length (before ++ next ∷ after)) < d → suc (length (before ++ next ∷ others)) < d → (o : Outcome Tree) →
    parsed d f free (before ++ next ∷ after) ≡ o → rest_of o ≡ next ∷ after → parsed d f free (before ++ next ∷ others) ≡ instead o (next ∷ others)
form-other d f free before next after others a b o e r =
    again-other (d - 1) before next after others (parsed d f free (before ++ next ∷ after)) (parsed d f free) (form-read d d d (omega arith) (omega arith) f free (before ++ next ∷ after)) (omega arith) (omega arith) (ap rest_of e ∙ r)
    ∙ ap (λ o. instead o (next ∷ others)) e

-- at depths of their own
form-at : (d e : ℕ) (f : Form) (free : Bool) (before : List Token) (next : Token) (after others : List Token) → suc (length (before ++ next ∷ after)) < d → suc (length (before ++ next ∷ others)) < e → (o : Outcome Tree) →
    parsed d f free (before ++ next ∷ after) ≡ o → rest_of o ≡ next ∷ after → parsed e f free (before ++ next ∷ others) ≡ instead o (next ∷ others)
form-at d e f free before next after others a b o h r =
    let deep : suc (length (before ++ next ∷ after)) < d + e = omega arith in
    let deep' : suc (length (before ++ next ∷ others)) < d + e = omega arith in
    forms-need-no-more-depth e (d + e) f free (before ++ next ∷ others) b deep'
    ∙ form-other (d + e) f free before next after others deep deep' o (forms-need-no-more-depth (d + e) d f free (before ++ next ∷ after) deep a ∙ h) r

pub forms-are-refused-alike : FormsAreRefusedAlike
forms-are-refused-alike depth other f free before bad after others a b e = form-at depth other f free before bad after others a b (Err (bad ∷ after)) e refl

pub forms-end-alike : FormsEndAlike
forms-end-alike depth other f free t before next after others a b e = form-at depth other f free before next after others a b (Ok (t, next ∷ after)) e refl

pub forms-are-refused-sooner : FormsAreRefusedSooner
forms-are-refused-sooner depth f free before bad after small u e =
    let xs = before ++ bad ∷ after in
    let read = (nests depth depth depth (fits-turns (omega arith) (omega arith))).reads f free xs in
    let h : Cut (depth - 1) (any 0) xs (Err (bad ∷ after)) (parsed depth f free) = subst (λ o. Cut (depth - 1) (any 0) xs o (parsed depth f free)) e read in
    h.cut before (omega arith) refl u

-- ---- programs

pub programs-need-no-more-depth : ProgramsNeedNoMoreDepth
programs-need-no-more-depth depth other tokens a b = same-program depth other tokens a b

pub refusals-look-no-further : RefusalsLookNoFurther
refusals-look-no-further depth other before bad after others a b e =
    let deep : length (before ++ bad ∷ after) < depth + other = omega arith in
    let deep' : length (before ++ bad ∷ others) < depth + other = omega arith in
    same-program other (depth + other) (before ++ bad ∷ others) b deep'
    ∙ refused-alike (depth + other) before bad after others deep deep' (same-program (depth + other) depth (before ++ bad ∷ after) deep a ∙ e)
