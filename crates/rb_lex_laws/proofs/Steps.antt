-- The lexer's state beside what stands before a place, and what each step does to both.
use Rattle.std.proofs.Common.{◌≡◌, ℕ, suc, ◌+◌, ◌-◌, ◌<◌, ◌⊎◌, Bool, true, false, not, ◌==◌, ◌&&◌, ◌||◌, if◌then◌else◌, List, [], ◌∷◌, ◌++◌, length, drop, Option, Some, None, Result, Ok, Err, inl, inr, refl, sym, ap, subst, ◌∙◌, arith}
use Rattle.std.specs.Prelude.{slice_index}
use Rattle.std.proofs.lemmas.Grind.{common_steps}
use Rattle.std.proofs.lemmas.Bool.Decides.{nat_tests}
use Rattle.rb_tree.specs.Tokens.{same_shape}
use Rattle.rb_tree.specs.declared.token.Token.{Token}
use Rattle.rb_tree.specs.declared.token.Shape.{Shape}
use Rattle.rb_tree.specs.declared.token.Shape.TheVariants as shape
use Rattle.rb_lex.specs.Chars.{is_in, run_len, line_len, is_letter}
use Rattle.rb_lex.specs.Cuts.{names_method, is_closing, after_operator, cut_of, token, judged, is_outside, is_bad, sign, sign_at, mark, ends_program, blanks_len}
use Rattle.rb_lex.specs.Operators.{operator, method_name}
use Rattle.rb_lex.specs.Lexed.{after_line, accepted, blanked, opened, code_step, string_step, step, lexed_from}
use Rattle.rb_lex.specs.declared.chars.Set.TheVariants as set
use Rattle.rb_lex.specs.declared.cut.Look.{Look}
use Rattle.rb_lex.specs.declared.cut.Cut.{Cut}
use Rattle.rb_lex.specs.declared.cut.Cut.TheVariants as cuts
use Rattle.rb_lex.specs.declared.operator.Sign.TheVariants as signs
use Rattle.rb_lex.specs.declared.state.Opened.{Opened}
use Rattle.rb_lex.specs.declared.state.State.{State}
use Rattle.rb_lex.specs.declared.LexEnd.{LexEnd}
use Rattle.rb_lex.specs.declared.LexEnd.TheVariants.{Bad, Outside}
use Rattle.rb_rules.specs.Spellings.{Begins, Holds}
use Rattle.rb_rules.specs.Lexes.{IsBlank, begins_line}
use Rattle.rb_lex_laws.proofs.Lists.{if-true, if-false, and-both, left-or, right-or, not-of, eq-is, is-eq, not-eq, begins-is}
use Rattle.rb_lex_laws.proofs.Places.{rest_cut, cut-goes}
use Rattle.rb_lex_laws.proofs.Shown.{quiet-inside, quiet-good}
use Rattle.rb_lex_laws.proofs.Strings.{IsQuote}

-- ---- steps over the bytes

pub step-code : (at : ℕ) (z : List ℕ) (s : State) → s.string ≡ None → step at z s ≡ code_step at z s
unfolding step
step-code at z s e = ap (λ (x : Option Opened). elim x [ Some o ↦ string_step o at z s | None ↦ code_step at z s ]) e

pub step-string : (at : ℕ) (z : List ℕ) (s : State) (o : Opened) → s.string ≡ Some o → step at z s ≡ string_step o at z s
unfolding step
step-string at z s o e = ap (λ (x : Option Opened). elim x [ Some o ↦ string_step o at z s | None ↦ code_step at z s ]) e

abbrev by_cut : ℕ → List ℕ → State → Cut → Result (ℕ × State) LexEnd
by_cut at z s cut =
    elim cut [
      | cuts.Blank len is_fresh ↦ Ok (len, blanked is_fresh s)
      | cuts.Line ↦ Ok (1, after_line at s)
      | cuts.Quote ↦ Ok (1, opened (slice_index z 0) at s)
      | cuts.Token x ↦ Ok (x.len, accepted x at z s)
      | cuts.Outside ↦ Err (Outside at)
      | cuts.Bad ↦ Err (Bad at)
    ]

pub code-cut : (at : ℕ) (z : List ℕ) (s : State) (cut : Cut) → s.string ≡ None → cut_of s.look z ≡ cut → step at z s ≡ by_cut at z s cut
unfolding code_step
code-cut at z s cut none e = step-code at z s none ∙ ap (by_cut at z s) e

abbrev by_step : ℕ → List ℕ → Result (ℕ × State) LexEnd → Result (List Token) LexEnd
by_step at z r = elim r [ Err e ↦ Err e | Ok y ↦ lexed_from (y.0 - 1) at y.1 z ]

pub refused : (at b : ℕ) (z : List ℕ) (s : State) (e : LexEnd) → step at (b ∷ z) s ≡ Err e → lexed_from 0 at s (b ∷ z) ≡ Err e
refused at b z s e h = ap (by_step (at + 1) z) h

skip : (a r : List ℕ) (at : ℕ) (s : State) → lexed_from (length a) at s (a ++ r) ≡ lexed_from 0 (at + length a) s r
skip [] r at s = let e : at ≡ at + 0 = omega arith in ap (λ n. lexed_from 0 n s r) e
skip (c ∷ a) r at s = let e : at + 1 + length a ≡ at + suc (length a) = omega arith in skip a r (at + 1) s ∙ ap (λ n. lexed_from 0 n s r) e

pub advance : (w r : List ℕ) (at : ℕ) (s more : State) → 0 < length w → step at (w ++ r) s ≡ Ok (length w, more) → lexed_from 0 at s (w ++ r) ≡ lexed_from 0 (at + length w) more r
advance [] r at s more some h = absurd (omega arith)
advance (b ∷ w) r at s more some h =
    let n : suc (length w) - 1 ≡ length w = omega arith in
    let e : at + 1 + length w ≡ at + suc (length w) = omega arith in
    ap (by_step (at + 1) (w ++ r)) h ∙ ap (λ k. lexed_from k (at + 1) more (w ++ r)) n ∙ skip w r (at + 1) more ∙ ap (λ k. lexed_from 0 k more r) e

-- ---- blanks

no-ends : (look : Look) (y : List ℕ) → ends_program y ≡ false → (look.is_fresh && ends_program y) ≡ false
no-ends look y h = by look.is_fresh
  where
    by : (t : Bool) → (t && ends_program y) ≡ false
    by true = h
    by false = refl

blank-cut : (look : Look) (y : List ℕ) (n : ℕ) → ends_program y ≡ false → blanks_len y ≡ n → 0 < n → cut_of look y ≡ cuts.Blank n (slice_index y 0 == 92)
unfolding cut_of
blank-cut look y n e f some =
    let t : (n == 0) ≡ false = not-eq n 0 (omega arith) in
    if-false (look.is_fresh && ends_program y) cuts.Outside _ (no-ends look y e)
    ∙ if-true (not (blanks_len y == 0)) (cuts.Blank (blanks_len y) (slice_index y 0 == 92)) _ (ap (λ k. not (k == 0)) f ∙ not-of (n == 0) t)
    ∙ ap (λ k. cuts.Blank k (slice_index y 0 == 92)) f

-- a run of spaces and tabs in one step, or each in its own
run-goes : (y : List ℕ) (at : ℕ) (s : State) → s.string ≡ None → lexed_from (run_len set.Blank y) at (blanked false s) y ≡ lexed_from 0 at (blanked false s) y
unfolding ends_program
run-goes [] at s none = refl
run-goes (b ∷ y) at s none = by (b == 32) refl (b == 9) refl
  where
    n : 1 + run_len set.Blank y - 1 ≡ run_len set.Blank y
    n = omega arith

    space : (c : ℕ) → ends_program (c ∷ y) ≡ false → is_in set.Blank c ≡ true → (c == 92) ≡ false → lexed_from (run_len set.Blank (c ∷ y)) at (blanked false s) (c ∷ y) ≡ lexed_from 0 at (blanked false s) (c ∷ y)
    space c e blank slash =
        let r : run_len set.Blank (c ∷ y) ≡ suc (run_len set.Blank y) = if-true (is_in set.Blank c) (1 + run_len set.Blank y) 0 blank ∙ (omega arith) in
        let whole : blanks_len (c ∷ y) ≡ 1 + run_len set.Blank y = if-true (is_in set.Blank c) (run_len set.Blank (c ∷ y)) _ blank ∙ if-true (is_in set.Blank c) (1 + run_len set.Blank y) 0 blank in
        let cut : cut_of (blanked false s).look (c ∷ y) ≡ cuts.Blank (1 + run_len set.Blank y) (c == 92) = blank-cut (blanked false s).look (c ∷ y) (1 + run_len set.Blank y) e whole (omega arith) in
        let went : lexed_from 0 at (blanked false s) (c ∷ y) ≡ lexed_from (1 + run_len set.Blank y - 1) (at + 1) (blanked (c == 92) (blanked false s)) y = ap (by_step (at + 1) y) (code-cut at (c ∷ y) (blanked false s) (cuts.Blank (1 + run_len set.Blank y) (c == 92)) none cut) in
        ap (λ k. lexed_from k at (blanked false s) (c ∷ y)) r
        ∙ sym (went ∙ ap (λ k. lexed_from k (at + 1) (blanked (c == 92) (blanked false s)) y) n ∙ ap (λ t. lexed_from (run_len set.Blank y) (at + 1) (blanked t (blanked false s)) y) slash)

    by : (t : Bool) → (b == 32) ≡ t → (u : Bool) → (b == 9) ≡ u → lexed_from (run_len set.Blank (b ∷ y)) at (blanked false s) (b ∷ y) ≡ lexed_from 0 at (blanked false s) (b ∷ y)
    by true e u f = let is = eq-is b 32 e in subst (λ c. lexed_from (run_len set.Blank (c ∷ y)) at (blanked false s) (c ∷ y) ≡ lexed_from 0 at (blanked false s) (c ∷ y)) (sym is) (space 32 refl refl refl)
    by false e true f = let is = eq-is b 9 f in subst (λ c. lexed_from (run_len set.Blank (c ∷ y)) at (blanked false s) (c ∷ y) ≡ lexed_from 0 at (blanked false s) (c ∷ y)) (sym is) (space 9 refl refl refl)
    by false e false f = ap (λ k. lexed_from k at (blanked false s) (b ∷ y)) (if-false (is_in set.Blank b) (1 + run_len set.Blank y) 0 (ap (λ t. t || b == 9) e ∙ f))

one-space : (c : ℕ) (y : List ℕ) (at : ℕ) (s : State) → s.string ≡ None → ends_program (c ∷ y) ≡ false → is_in set.Blank c ≡ true → (c == 92) ≡ false → lexed_from 0 at s (c ∷ y) ≡ lexed_from 0 (at + 1) (blanked false s) y
one-space c y at s none e blank slash =
    let whole : blanks_len (c ∷ y) ≡ 1 + run_len set.Blank y = if-true (is_in set.Blank c) (run_len set.Blank (c ∷ y)) _ blank ∙ if-true (is_in set.Blank c) (1 + run_len set.Blank y) 0 blank in
    let n : 1 + run_len set.Blank y - 1 ≡ run_len set.Blank y = omega arith in
    ap (by_step (at + 1) y) (code-cut at (c ∷ y) s (cuts.Blank (1 + run_len set.Blank y) (c == 92)) none (blank-cut s.look (c ∷ y) (1 + run_len set.Blank y) e whole (omega arith)))
    ∙ ap (λ k. lexed_from k (at + 1) (blanked (c == 92) s) y) n ∙ ap (λ t. lexed_from (run_len set.Blank y) (at + 1) (blanked t s) y) slash ∙ run-goes y (at + 1) s none

-- one blank
pub blank-step : (w rest : List ℕ) (at : ℕ) (s : State) → s.string ≡ None → IsBlank w rest → lexed_from 0 at s (w ++ rest) ≡ lexed_from 0 (at + length w) (blanked (begins_line w) s) rest
unfolding ends_program
blank-step _ _ at s none (IsBlank.Space rest) = one-space 32 rest at s none refl refl refl
blank-step _ _ at s none (IsBlank.Tab rest) = one-space 9 rest at s none refl refl refl
blank-step _ _ at s none (IsBlank.Return rest) = advance (13 ∷ []) (10 ∷ rest) at s (blanked false s) (omega arith) (code-cut at (13 ∷ 10 ∷ rest) s (cuts.Blank 1 false) none (blank-cut s.look (13 ∷ 10 ∷ rest) 1 refl refl (omega arith)))
blank-step _ _ at s none (IsBlank.Joint rest) = advance (92 ∷ 10 ∷ []) rest at s (blanked true s) (omega arith) (code-cut at (92 ∷ 10 ∷ rest) s (cuts.Blank 2 true) none (blank-cut s.look (92 ∷ 10 ∷ rest) 2 refl refl (omega arith)))
blank-step _ _ at s none (IsBlank.ReturnJoint rest) = advance (92 ∷ 13 ∷ 10 ∷ []) rest at s (blanked true s) (omega arith) (code-cut at (92 ∷ 13 ∷ 10 ∷ rest) s (cuts.Blank 3 true) none (blank-cut s.look (92 ∷ 13 ∷ 10 ∷ rest) 3 refl refl (omega arith)))

-- ---- comments

comment-run : (v q : List ℕ) (at : ℕ) (s : State) → s.string ≡ None → ¬ Holds 10 v → (q ≡ []) ⊎ Begins 10 q → lexed_from (line_len (v ++ q)) at (blanked false s) (v ++ q) ≡ lexed_from 0 (at + length v) (blanked false s) q
comment-run [] q at s none plain (inl e) = let n : at ≡ at + 0 = omega arith in ap (λ y. lexed_from (line_len y) at (blanked false s) y) e ∙ ap (λ k. lexed_from 0 k (blanked false s) []) n ∙ ap (λ y. lexed_from 0 (at + 0) (blanked false s) y) (sym e)
comment-run [] [] at s none plain (inr b) = absurd b
comment-run [] (c ∷ q) at s none plain (inr b) = let n : at ≡ at + 0 = omega arith in ap (λ k. lexed_from k at (blanked false s) (c ∷ q)) (if-true (c == 10 || (c == 13 && slice_index q 0 == 10)) 0 (1 + line_len q) (left-or (c == 10) (c == 13 && slice_index q 0 == 10) (is-eq c 10 b))) ∙ ap (λ k. lexed_from 0 k (blanked false s) (c ∷ q)) n
comment-run (c ∷ v) q at s none plain ended = by (c == 13 && slice_index (v ++ q) 0 == 10) refl (comment-run v q (at + 1) s none (λ h. plain (inr h)) ended)
  where
    no_line : (c == 10) ≡ false
    no_line = not-eq c 10 (λ e. plain (inl (sym e)))

    e : at + 1 + length v ≡ at + suc (length v)
    e = omega arith

    by : (t : Bool) → (c == 13 && slice_index (v ++ q) 0 == 10) ≡ t → lexed_from (line_len (v ++ q)) (at + 1) (blanked false s) (v ++ q) ≡ lexed_from 0 (at + 1 + length v) (blanked false s) q → lexed_from (line_len (c ∷ (v ++ q))) at (blanked false s) (c ∷ (v ++ q)) ≡ lexed_from 0 (at + suc (length v)) (blanked false s) q
    by false f more =
        let n : 1 + line_len (v ++ q) ≡ suc (line_len (v ++ q)) = omega arith in
        ap (λ k. lexed_from k at (blanked false s) (c ∷ (v ++ q))) (if-false (c == 10 || (c == 13 && slice_index (v ++ q) 0 == 10)) 0 (1 + line_len (v ++ q)) (ap (λ t. t || (c == 13 && slice_index (v ++ q) 0 == 10)) no_line ∙ f) ∙ n)
        ∙ more ∙ ap (λ k. lexed_from 0 k (blanked false s) q) e
    by true f more =
        let both = and-both (c == 13) (slice_index (v ++ q) 0 == 10) f in
        ap (λ k. lexed_from k at (blanked false s) (c ∷ (v ++ q))) (if-true (c == 10 || (c == 13 && slice_index (v ++ q) 0 == 10)) 0 (1 + line_len (v ++ q)) (right-or (c == 10) (c == 13 && slice_index (v ++ q) 0 == 10) f))
        ∙ carriage v (begins-is 10 (v ++ q) (omega arith) both.1) (eq-is c 13 both.0) (λ h. plain (inr h))
      where
        carriage : (v : List ℕ) → Begins 10 (v ++ q) → c ≡ 13 → ¬ Holds 10 v → lexed_from 0 at (blanked false s) (c ∷ (v ++ q)) ≡ lexed_from 0 (at + suc (length v)) (blanked false s) q
        carriage [] b is free = by-rest q b
          where
            by-rest : (q : List ℕ) → Begins 10 q → lexed_from 0 at (blanked false s) (c ∷ q) ≡ lexed_from 0 (at + 1) (blanked false s) q
            by-rest [] b = absurd b
            by-rest (d ∷ q) b =
                ap (λ x. lexed_from 0 at (blanked false s) (x ∷ d ∷ q)) is ∙ ap (λ x. lexed_from 0 at (blanked false s) (13 ∷ x ∷ q)) b
                ∙ blank-step (13 ∷ []) (10 ∷ q) at (blanked false s) none (IsBlank.Return q) ∙ ap (λ x. lexed_from 0 (at + 1) (blanked false s) (x ∷ q)) (sym b)
        carriage (d ∷ v) b is free = absurd (free (inl (sym b)))

hash-cut : (look : Look) (y : List ℕ) → cut_of look (35 ∷ y) ≡ cuts.Blank (line_len (35 ∷ y)) false
unfolding ends_program mark
hash-cut look y = cut-goes look (35 ∷ y) (no-ends look (35 ∷ y) refl) refl refl

pub comment-step : (v q : List ℕ) (at : ℕ) (s : State) → s.string ≡ None → ¬ Holds 10 v → (q ≡ []) ⊎ Begins 10 q → lexed_from 0 at s (35 ∷ (v ++ q)) ≡ lexed_from 0 (at + suc (length v)) (blanked false s) q
comment-step v q at s none plain ended =
    let n : 1 + line_len (v ++ q) - 1 ≡ line_len (v ++ q) = omega arith in
    let e : at + 1 + length v ≡ at + suc (length v) = omega arith in
    ap (by_step (at + 1) (v ++ q)) (code-cut at (35 ∷ (v ++ q)) s (cuts.Blank (1 + line_len (v ++ q)) false) none (hash-cut s.look (v ++ q)))
    ∙ ap (λ k. lexed_from k (at + 1) (blanked false s) (v ++ q)) n ∙ comment-run v q (at + 1) s none plain ended ∙ ap (λ k. lexed_from 0 k (blanked false s) q) e

-- ---- line ends and quotes

line-cut : (look : Look) (y : List ℕ) → cut_of look (10 ∷ y) ≡ cuts.Line
unfolding ends_program cut_of
line-cut look y = if-false (look.is_fresh && ends_program (10 ∷ y)) cuts.Outside _ (no-ends look (10 ∷ y) refl)

pub line-step : (y : List ℕ) (at : ℕ) (s : State) → s.string ≡ None → lexed_from 0 at s (10 ∷ y) ≡ lexed_from 0 (at + 1) (after_line at s) y
line-step y at s none = advance (10 ∷ []) y at s (after_line at s) (omega arith) (code-cut at (10 ∷ y) s cuts.Line none (line-cut s.look y))

double-cut : (look : Look) (y : List ℕ) → cut_of look (34 ∷ y) ≡ cuts.Quote
unfolding ends_program mark
double-cut look y = cut-goes look (34 ∷ y) (no-ends look (34 ∷ y) refl) refl refl

single-cut : (look : Look) (y : List ℕ) → cut_of look (39 ∷ y) ≡ cuts.Quote
unfolding ends_program mark
single-cut look y = cut-goes look (39 ∷ y) (no-ends look (39 ∷ y) refl) refl refl

pub quote-step : (quote : ℕ) (y : List ℕ) (at : ℕ) (s : State) → s.string ≡ None → IsQuote quote → lexed_from 0 at s (quote ∷ y) ≡ lexed_from 0 (at + 1) (opened quote at s) y
quote-step quote y at s none (inl e) = advance (quote ∷ []) y at s (opened quote at s) (omega arith) (code-cut at (quote ∷ y) s cuts.Quote none (ap (λ c. cut_of s.look (c ∷ y)) e ∙ double-cut s.look y))
quote-step quote y at s none (inr e) = advance (quote ∷ []) y at s (opened quote at s) (omega arith) (code-cut at (quote ∷ y) s cuts.Quote none (ap (λ c. cut_of s.look (c ∷ y)) e ∙ single-cut s.look y))

-- ---- operators of which no rule speaks

plain-judged : (look : Look) (s : Shape) (n : ℕ) (rest : List ℕ) → is_outside look s rest ≡ false → is_bad look s rest ≡ false → judged look s n rest ≡ token s n (after_operator look.before s) (is_closing s || names_method look.before)
unfolding judged
plain-judged look s n rest e f = if-false (is_outside look s rest) cuts.Outside _ e ∙ if-false (is_bad look s rest) cuts.Bad _ f

abbrev OperatorToken : Look → Shape → ℕ → Cut
OperatorToken look s n = token s n (after_operator look.before s) (is_closing s || names_method look.before)

both-same : (t : Bool) (look : Look) (y : List ℕ) (s : Shape) (n : ℕ) → (elim (if t then signs.Operator s n else signs.Operator s n) [ signs.Nothing ↦ cuts.Bad | signs.Foreign ↦ cuts.Outside | signs.Operator s len ↦ judged look s len (drop len y) ]) ≡ judged look s n (drop n y)
both-same true look y s n = refl
both-same false look y s n = refl

sign-brace : (look : Look) (y : List ℕ) → sign look (125 ∷ y) ≡ judged look shape.CloseBrace 1 y
unfolding sign sign_at operator method_name
sign-brace look y = both-same (names_method look.before) look (125 ∷ y) shape.CloseBrace 1

brace-rest : (look : Look) (y : List ℕ) → rest_cut look (125 ∷ y) ≡ sign look (125 ∷ y)
unfolding mark
brace-rest look y = refl

pub brace-cut : (look : Look) (y : List ℕ) → cut_of look (125 ∷ y) ≡ OperatorToken look shape.CloseBrace 1
unfolding ends_program same_shape
brace-cut look y =
    cut-goes look (125 ∷ y) (no-ends look (125 ∷ y) refl) refl refl ∙ brace-rest look y ∙ sign-brace look y
    ∙ plain-judged look shape.CloseBrace 1 y (quiet-inside look shape.CloseBrace y refl) (quiet-good look shape.CloseBrace y refl)

sign-dot : (look : Look) (c : ℕ) (y : List ℕ) → (c == 46) ≡ false → sign look (46 ∷ c ∷ y) ≡ judged look shape.Dot 1 (c ∷ y)
unfolding sign sign_at operator method_name
sign-dot look c y h =
    ap (λ t. elim (if names_method look.before then (if t then signs.Foreign else signs.Operator shape.Dot 1) else (if t then signs.Foreign else signs.Operator shape.Dot 1)) [ signs.Nothing ↦ cuts.Bad | signs.Foreign ↦ cuts.Outside | signs.Operator s len ↦ judged look s len (drop len (46 ∷ c ∷ y)) ]) h
    ∙ both-same (names_method look.before) look (46 ∷ c ∷ y) shape.Dot 1

dot-rest : (look : Look) (y : List ℕ) → rest_cut look (46 ∷ y) ≡ sign look (46 ∷ y)
unfolding mark
dot-rest look y = refl

letter-not : (c : ℕ) → is_letter c ≡ true → (c == 46) ≡ false
letter-not c h = grind (arith, nat_tests, common_steps)

pub dot-cut : (look : Look) (c : ℕ) (y : List ℕ) → is_letter c ≡ true → cut_of look (46 ∷ c ∷ y) ≡ OperatorToken look shape.Dot 1
unfolding ends_program same_shape
dot-cut look c y letter =
    cut-goes look (46 ∷ c ∷ y) (no-ends look (46 ∷ c ∷ y) refl) refl refl ∙ dot-rest look (c ∷ y) ∙ sign-dot look c y (letter-not c letter)
    ∙ plain-judged look shape.Dot 1 (c ∷ y) (quiet-inside look shape.Dot (c ∷ y) refl) (quiet-good look shape.Dot (c ∷ y) refl)

sign-safe : (look : Look) (y : List ℕ) → sign look (38 ∷ 46 ∷ y) ≡ judged look shape.SafeDot 2 y
unfolding sign sign_at operator method_name
sign-safe look y = both-same (names_method look.before) look (38 ∷ 46 ∷ y) shape.SafeDot 2

safe-rest : (look : Look) (y : List ℕ) → rest_cut look (38 ∷ y) ≡ sign look (38 ∷ y)
unfolding mark
safe-rest look y = refl

pub safe-cut : (look : Look) (y : List ℕ) → cut_of look (38 ∷ 46 ∷ y) ≡ OperatorToken look shape.SafeDot 2
unfolding ends_program same_shape
safe-cut look y =
    cut-goes look (38 ∷ 46 ∷ y) (no-ends look (38 ∷ 46 ∷ y) refl) refl refl ∙ safe-rest look (46 ∷ y) ∙ sign-safe look y
    ∙ plain-judged look shape.SafeDot 2 y (quiet-inside look shape.SafeDot y refl) (quiet-good look shape.SafeDot y refl)
