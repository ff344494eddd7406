-- What begins at a place outside strings, both ways: the lexer's step answers a token, a refusal or neither as the rules say.
use Rattle.std.proofs.Common.{◌≡◌, ℕ, ◌≤◌, ◌⊎◌, Bool, true, false, not, nat_le, nat_eq, ◌==◌, ◌&&◌, ◌||◌, if◌then◌else◌, List, ◌∷◌, drop, inl, inr, refl, sym, ap, subst, ◌∙◌, codes, arith}
use Rattle.std.specs.Prelude.{slice_index}
use Rattle.std.specs.List.{starts_with}
use Rattle.std.proofs.lemmas.Bool.Decides.{nat_tests}
use Rattle.rb_tree.specs.declared.token.Shape.{Shape}
use Rattle.rb_tree.specs.declared.token.Shape.TheVariants as shape
use Rattle.rb_lex.specs.Chars.{is_in, run_len, begins_name, is_upper, blank_len, line_len}
use Rattle.rb_lex.specs.Cuts.{token, number, variable, sign, colon, name, constant, mark, cut_of, ends_program, ends_line, blanks_len}
use Rattle.rb_lex.specs.declared.chars.Set.TheVariants as set
use Rattle.rb_lex.specs.declared.cut.Before.TheVariants as before
use Rattle.rb_lex.specs.declared.cut.Look.{Look}
use Rattle.rb_lex.specs.declared.cut.Cut.{Cut}
use Rattle.rb_lex.specs.declared.cut.Cut.TheVariants as cuts
use Rattle.rb_rules.specs.Lexes.{IsForeign}
use Rattle.rb_lex_laws.proofs.Lists.{split, if-true, if-false, and-both, or-either, not-false, no-both, eq-is}
use Rattle.rb_lex_laws.proofs.Blanks.{blank_here, starts-parts, line-is}
use Rattle.rb_lex_laws.proofs.Marks.{shown-number, shown-variable, shown-semicolon, shown-sign, shown-colon}
use Rattle.rb_lex_laws.proofs.Names.{shown-name, shown-constant}
use Rattle.rb_lex_laws.proofs.Past.{before_of}
use Rattle.rb_lex_laws.proofs.Shown.{Shown}
use Rattle.rb_lex_laws.proofs.Sorts.{Kind, kind, of-kind}

-- neither a blank, nor a line's end, nor a comment, nor a string begins here
pub record Other (y : List ℕ) : Type 0 where
  pub first : ℕ
  pub others : List ℕ
  pub whole : y ≡ first ∷ others
  pub no_blank : blank_here y ≡ false
  pub no_line : (first == 10) ≡ false
  pub no_comment : (first == 35) ≡ false
  pub no_double : (first == 34) ≡ false
  pub no_single : (first == 39) ≡ false

-- what the step answers there, if the program goes on
abbrev pub rest_cut : Look → List ℕ → Cut
rest_cut look z =
    if begins_name (slice_index z 0) then name look.before z
    else (if is_upper (slice_index z 0) then constant look.before z
    else (if is_in set.Decimal (slice_index z 0) then number z else mark look z))

no-blanks : (z : List ℕ) → blank_here z ≡ false → (blanks_len z == 0) ≡ true
no-blanks z h = by (is_in set.Blank (slice_index z 0)) refl
  where
    none : (blank_len z == 0) ≡ true
    none = not-false (blank_len z == 0) h

    by : (t : Bool) → is_in set.Blank (slice_index z 0) ≡ t → (blanks_len z == 0) ≡ true
    by true e = no-both (blank_len z == 0) none (ap (λ n. n == 0) (if-true (is_in set.Blank (slice_index z 0)) 1 _ e))
    by false e = ap (λ n. n == 0) (if-false (is_in set.Blank (slice_index z 0)) (run_len set.Blank z) (blank_len z) e) ∙ none

pub cut-ends : (look : Look) (z : List ℕ) → (look.is_fresh && ends_program z) ≡ true → cut_of look z ≡ cuts.Outside
unfolding cut_of
cut-ends look z h = if-true (look.is_fresh && ends_program z) cuts.Outside _ h

pub cut-goes : (look : Look) (z : List ℕ) → (look.is_fresh && ends_program z) ≡ false → blank_here z ≡ false → (slice_index z 0 == 10) ≡ false → cut_of look z ≡ rest_cut look z
unfolding cut_of
cut-goes look z h b l =
    if-false (look.is_fresh && ends_program z) cuts.Outside _ h
    ∙ if-false (not (blanks_len z == 0)) (cuts.Blank (blanks_len z) (slice_index z 0 == 92)) _ (ap not (no-blanks z b))
    ∙ if-false (slice_index z 0 == 10) cuts.Line (rest_cut look z) l

-- ---- what the step answers

ends-foreign : (past : List Shape) (look : Look) (y : List ℕ) → (look.is_fresh && ends_program y) ≡ true → IsForeign past look.is_blank look.is_fresh y
unfolding ends_program
ends-foreign past look y h =
    let both = and-both look.is_fresh (ends_program y) h in
    by both.0 (or-either (starts_with nat_eq y (codes "=begin")) (starts_with nat_eq y (codes "__END__") && ends_line (drop 7 y)) both.1)
  where
    by : look.is_fresh ≡ true → (starts_with nat_eq y (codes "=begin") ≡ true) ⊎ ((starts_with nat_eq y (codes "__END__") && ends_line (drop 7 y)) ≡ true) → IsForeign past look.is_blank look.is_fresh y
    by fresh (inl e) = subst (IsForeign past look.is_blank look.is_fresh) (starts-parts y (codes "=begin") e) (IsForeign.LongComment (drop 6 y) fresh)
    by fresh (inr e) =
        let both = and-both (starts_with nat_eq y (codes "__END__")) (ends_line (drop 7 y)) e in
        subst (IsForeign past look.is_blank look.is_fresh) (starts-parts y (codes "__END__") both.0) (IsForeign.EndMark (drop 7 y) fresh (line-is (drop 7 y) both.1))

sign-kind : (c : ℕ) → begins_name c ≡ false → is_upper c ≡ false → is_in set.Decimal c ≡ false → (c == 58) ≡ false → (c == 64) ≡ false → (c == 59) ≡ false → kind c ≡ Kind.Sign
sign-kind c e f g h i j =
    if-false (begins_name c) Kind.Name _ e ∙ if-false (is_upper c) Kind.Constant _ f ∙ if-false (is_in set.Decimal c) Kind.Digit _ g
    ∙ if-false (c == 58) Kind.Colon _ h ∙ if-false (c == 64) Kind.Variable _ i ∙ if-false (c == 59) Kind.Semicolon Kind.Sign j

module _ (past : List Shape) (look : Look) (is : look.before ≡ before_of past) (c : ℕ) (u : List ℕ) where
  at : (k : ℕ) → (c == k) ≡ true → Shown past look (k ∷ u) (mark look (k ∷ u)) → Shown past look (c ∷ u) (mark look (c ∷ u))
  at k e h = subst (λ d. Shown past look (d ∷ u) (mark look (d ∷ u))) (sym (eq-is c k e)) h

  marked-foreign : (c == 36 || c == 96 || nat_le 128 c) ≡ true → IsForeign past look.is_blank look.is_fresh (c ∷ u)
  marked-foreign h = by (c == 36) refl (c == 96) refl h
    where
      high : nat_le 128 c ≡ true → 128 ≤ c
      high e = grind (arith, nat_tests)

      by : (s : Bool) → (c == 36) ≡ s → (t : Bool) → (c == 96) ≡ t → (s || t || nat_le 128 c) ≡ true → IsForeign past look.is_blank look.is_fresh (c ∷ u)
      by true e t f h = subst (λ d. IsForeign past look.is_blank look.is_fresh (d ∷ u)) (sym (eq-is c 36 e)) (IsForeign.Global u)
      by false e true f h = subst (λ d. IsForeign past look.is_blank look.is_fresh (d ∷ u)) (sym (eq-is c 96 f)) (IsForeign.Backtick u)
      by false e false f h = IsForeign.PastAscii c u (high h)

  shown-mark : begins_name c ≡ false → is_upper c ≡ false → is_in set.Decimal c ≡ false → (c == 34) ≡ false → (c == 39) ≡ false → (c == 35) ≡ false → Shown past look (c ∷ u) (mark look (c ∷ u))
  unfolding mark
  shown-mark lower upper digit double single comment =
      let S : Cut → Type 0 = Shown past look (c ∷ u) in
      subst (λ t. S (if (t || c == 39) then cuts.Quote else (if c == 58 then colon look (c ∷ u) else (if c == 64 then variable (c ∷ u) else (if c == 59 then token shape.Separator 1 before.Plain true else (if c == 35 then cuts.Blank (line_len (c ∷ u)) false else (if c == 36 || c == 96 || nat_le 128 c then cuts.Outside else sign look (c ∷ u)))))))) (sym double)
      (subst (λ t. S (if t then cuts.Quote else (if c == 58 then colon look (c ∷ u) else (if c == 64 then variable (c ∷ u) else (if c == 59 then token shape.Separator 1 before.Plain true else (if c == 35 then cuts.Blank (line_len (c ∷ u)) false else (if c == 36 || c == 96 || nat_le 128 c then cuts.Outside else sign look (c ∷ u)))))))) (sym single)
      (split S (c == 58) (colon look (c ∷ u)) _
      (λ e. subst (λ d. Shown past look (d ∷ u) (colon look (d ∷ u))) (sym (eq-is c 58 e)) (shown-colon past look u is))
      (λ n58. split S (c == 64) (variable (c ∷ u)) _
      (λ e. subst (λ d. Shown past look (d ∷ u) (variable (d ∷ u))) (sym (eq-is c 64 e)) (shown-variable past look u))
      (λ n64. split S (c == 59) (token shape.Separator 1 before.Plain true) _
      (λ e. subst (λ d. Shown past look (d ∷ u) (token shape.Separator 1 before.Plain true)) (sym (eq-is c 59 e)) (shown-semicolon past look u))
      (λ n59. subst (λ t. S (if t then cuts.Blank (line_len (c ∷ u)) false else (if c == 36 || c == 96 || nat_le 128 c then cuts.Outside else sign look (c ∷ u)))) (sym comment)
      (split S (c == 36 || c == 96 || nat_le 128 c) cuts.Outside (sign look (c ∷ u))
      (λ e. Shown.Alien (marked-foreign e))
      (λ e. shown-sign past look (c ∷ u) is (λ t v os more w sp. of-kind past t v os more c u Kind.Sign sp w (sign-kind c lower upper digit n58 n64 n59)))))))))

  shown-rest : (c == 34) ≡ false → (c == 39) ≡ false → (c == 35) ≡ false → Shown past look (c ∷ u) (rest_cut look (c ∷ u))
  shown-rest double single comment =
      split (Shown past look (c ∷ u)) (begins_name c) (name look.before (c ∷ u)) _
      (λ e. shown-name past look (c ∷ u) is e)
      (λ lower. split (Shown past look (c ∷ u)) (is_upper c) (constant look.before (c ∷ u)) _
      (λ e. shown-constant past look (c ∷ u) is e)
      (λ upper. split (Shown past look (c ∷ u)) (is_in set.Decimal c) (number (c ∷ u)) (mark look (c ∷ u))
      (λ e. shown-number past look c u e)
      (λ digit. shown-mark lower upper digit double single comment)))

pub shown-cut : (past : List Shape) (look : Look) (y : List ℕ) → look.before ≡ before_of past → Other y → Shown past look y (cut_of look y)
shown-cut past look y is o = by (look.is_fresh && ends_program y) refl
  where
    by : (t : Bool) → (look.is_fresh && ends_program y) ≡ t → Shown past look y (cut_of look y)
    by true e = subst (Shown past look y) (sym (cut-ends look y e)) (Shown.Alien (ends-foreign past look y e))
    by false e =
        let first : slice_index y 0 ≡ o.first = ap (λ z. slice_index z 0) o.whole in
        subst (Shown past look y) (sym (cut-goes look y e o.no_blank (ap (λ c. c == 10) first ∙ o.no_line)))
        (subst (λ z. Shown past look z (rest_cut look z)) (sym o.whole) (shown-rest past look is o.first o.others o.no_double o.no_single o.no_comment))
