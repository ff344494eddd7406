-- What is seen at a place outside strings: a token and no broken rule, a form outside the profile, or no Ruby of any kind.
use Rattle.std.proofs.Common.{◌≡◌, ℕ, ◌<◌, ◌≤◌, ◌⊎◌, Bool, true, false, not, ◌&&◌, ◌||◌, List, [], ◌∷◌, ◌++◌, length, inl, inr, refl, sym, ap, subst, ◌∙◌, arith}
use Rattle.std.specs.Prelude.{slice_index}
use Rattle.rb_tree.specs.Tokens.{same_shape}
use Rattle.rb_tree.specs.declared.token.Shape.{Shape}
use Rattle.rb_tree.specs.declared.token.Shape.TheVariants as shape
use Rattle.rb_lex.specs.Chars.{is_spaced}
use Rattle.rb_lex.specs.Operators.{operator, method_name}
use Rattle.rb_lex.specs.Cuts.{is_name, is_ambiguous, is_bad, cut_of}
use Rattle.rb_lex.specs.Lexed.{words_of, kind_of}
use Rattle.rb_lex.specs.declared.cut.Look.{Look}
use Rattle.rb_lex.specs.declared.cut.Lexeme.{Lexeme}
use Rattle.rb_lex.specs.declared.cut.Cut.{Cut}
use Rattle.rb_lex.specs.declared.cut.Cut.TheVariants as cuts
use Rattle.rb_rules.specs.Spellings.{Holds, OPERATORS, METHOD_OPERATORS}
use Rattle.rb_rules.specs.Before.{IsAfterName}
use Rattle.rb_rules.specs.Lexes.{Spells, IsBlank, IsForeign, IsWrong}
use Rattle.rb_lex_laws.proofs.Lists.{and-both, both-and, or-either, left-or, right-or, not-true, not-of, no-both, eq-not}
use Rattle.rb_lex_laws.proofs.Best.{Best, IsSame, best-same, longest-of}
use Rattle.rb_lex_laws.proofs.Blanks.{blank_here, blank-here, spaced-not, not-spaced}
use Rattle.rb_lex_laws.proofs.Marks.{paren-word}
use Rattle.rb_lex_laws.proofs.Past.{before_of, name-asked, held, held-holds, same-is, is-same}
use Rattle.rb_lex_laws.proofs.Places.{Other, shown-cut}
use Rattle.rb_lex_laws.proofs.Refusals.{foreign-cut}
use Rattle.rb_lex_laws.proofs.Shown.{Shown, Says, Passes}
use Rattle.rb_lex_laws.proofs.Signs.{AtLeast, operator-longest, method-longest}
use Rattle.rb_lex_laws.proofs.Sorts.{Kind, SignLike, of-kind}

abbrev AMBIGUOUS : List Shape
AMBIGUOUS = shape.Minus ∷ shape.Plus ∷ shape.Star ∷ shape.Power ∷ shape.Ampersand ∷ shape.Slash ∷ shape.Percent ∷ shape.OpenBracket ∷ shape.Scope ∷ shape.ShiftLeft ∷ []

ambiguous-held : (s : Shape) → is_ambiguous s ≡ true → Holds s AMBIGUOUS
ambiguous-held s h =
    held-holds s AMBIGUOUS (same (same_shape s shape.Minus) (same_shape s shape.Plus) (same_shape s shape.Star) (same_shape s shape.Power) (same_shape s shape.Ampersand) (same_shape s shape.Slash) (same_shape s shape.Percent) (same_shape s shape.OpenBracket) (same_shape s shape.Scope) (same_shape s shape.ShiftLeft) h)
  where
    same : (mi pl st po am sl pe ob sc sh : Bool) → (mi || pl || am || ob || sc || (sl || pe || st || po || sh)) ≡ true → (mi || (pl || (st || (po || (am || (sl || (pe || (ob || (sc || (sh || false)))))))))) ≡ true
    same true pl st po am sl pe ob sc sh h = refl
    same false true st po am sl pe ob sc sh h = refl
    same false false true po am sl pe ob sc sh h = refl
    same false false false true am sl pe ob sc sh h = refl
    same false false false false true sl pe ob sc sh h = refl
    same false false false false false true pe ob sc sh h = refl
    same false false false false false false true ob sc sh h = refl
    same false false false false false false false true sc sh h = refl
    same false false false false false false false false true sh h = refl
    same false false false false false false false false false true h = refl
    same false false false false false false false false false false h = absurd (cc)

held-ambiguous : (s : Shape) → Holds s AMBIGUOUS → is_ambiguous s ≡ true
unfolding same_shape
held-ambiguous s (inl e) = ap is_ambiguous e
held-ambiguous s (inr (inl e)) = ap is_ambiguous e
held-ambiguous s (inr (inr (inl e))) = ap is_ambiguous e
held-ambiguous s (inr (inr (inr (inl e)))) = ap is_ambiguous e
held-ambiguous s (inr (inr (inr (inr (inl e))))) = ap is_ambiguous e
held-ambiguous s (inr (inr (inr (inr (inr (inl e)))))) = ap is_ambiguous e
held-ambiguous s (inr (inr (inr (inr (inr (inr (inl e))))))) = ap is_ambiguous e
held-ambiguous s (inr (inr (inr (inr (inr (inr (inr (inl e)))))))) = ap is_ambiguous e
held-ambiguous s (inr (inr (inr (inr (inr (inr (inr (inr (inl e))))))))) = ap is_ambiguous e
held-ambiguous s (inr (inr (inr (inr (inr (inr (inr (inr (inr (inl e)))))))))) = ap is_ambiguous e
held-ambiguous s (inr (inr (inr (inr (inr (inr (inr (inr (inr (inr h)))))))))) = absurd h

three-and : (a b c : Bool) → (a && b && c) ≡ true → (a ≡ true) × (b ≡ true) × (c ≡ true)
three-and true true true h = (refl, refl, refl)
three-and true true false h = absurd (cc)
three-and true false c h = absurd (cc)
three-and false b c h = absurd (cc)

all-three : (a b c : Bool) → a ≡ true → b ≡ true → c ≡ true → (a && b && c) ≡ true
all-three true true c e f g = g
all-three true false c e f g = absurd (cc)
all-three false b c e f g = absurd (cc)

open-paren : Holds (shape.OpenParen, 40 ∷ []) OPERATORS
open-paren = inr (inr (inr (inr (inr (inr (inr (inr (inr (inr (inr (inr (inr (inr (inr (inr (inr (inr (inr (inr (inr (inr (inr (inr (inr (inr (inr (inr (inr (inr (inr (inl refl)))))))))))))))))))))))))))))))

paren-least : (past : List Shape) (s : Shape) (w words rest u : List ℕ) → w ++ rest ≡ 40 ∷ u → Spells past s w words rest → length w ≤ 1
unfolding operator method_name
paren-least past s w words rest u e h = by s w words rest e (of-kind past s w words rest 40 u Kind.Sign h e refl)
  where
    by : (s : Shape) (w words rest : List ℕ) → w ++ rest ≡ 40 ∷ u → SignLike past s w words rest → length w ≤ 1
    by _ _ _ rest e (SignLike.Operator s w _ h) = subst (λ z. AtLeast (length w) (operator (slice_index z 0) (slice_index z 1) (slice_index z 2))) e (operator-longest s w rest h)
    by _ _ _ rest e (SignLike.Method s w _ names h) = subst (λ z. AtLeast (length w) (method_name (slice_index z 0) (slice_index z 1) (slice_index z 2))) e (method-longest s w rest h)

module _ (past : List Shape) (look : Look) (is : look.before ≡ before_of past) where
  name-true : IsAfterName past → is_name look.before ≡ true
  name-true h = ap is_name is ∙ (name-asked past).1 h

  -- no token stands where the text is no Ruby
  wrong-token : (y : List ℕ) → IsWrong past look.is_blank y → (s : Shape) (w words rest : List ℕ) → Best past y s w words rest → Passes look s w rest → ⊥
  wrong-token _ (IsWrong.Ambiguous t v more l held after blank spaced) s w words rest b passes =
      let p = best-same past (v ++ more) s w words rest b t v [] more refl l in
      no-both (is_bad look s rest)
      (ap (is_bad look s) (sym p.1) ∙ ap (λ r. is_bad look r more) (sym p.0.0)
      ∙ all-three (is_name look.before) look.is_blank (same_shape t shape.OpenParen || (is_ambiguous t && not (is_spaced more))) (name-true after) blank
      (right-or (same_shape t shape.OpenParen) (is_ambiguous t && not (is_spaced more)) (both-and (is_ambiguous t) (not (is_spaced more)) (held-ambiguous t held) (not-of (is_spaced more) (not-spaced more spaced)))))
      passes.good
  wrong-token _ (IsWrong.ParenAfterBlank more after blank) s w words rest b passes =
      by (b.others shape.OpenParen (40 ∷ []) [] more refl (Spells.Operator shape.OpenParen (40 ∷ []) more open-paren))
    where
      by : (1 < length w) ⊎ IsSame s w words shape.OpenParen (40 ∷ []) [] → ⊥
      by (inl long) = let most = paren-least past s w words rest more b.whole b.spells in omega arith
      by (inr same) =
          no-both (is_bad look s rest)
          (ap (λ r. is_bad look r rest) (sym same.0)
          ∙ all-three (is_name look.before) look.is_blank (same_shape shape.OpenParen shape.OpenParen || (is_ambiguous shape.OpenParen && not (is_spaced rest))) (name-true after) blank
          (left-or (same_shape shape.OpenParen shape.OpenParen) (is_ambiguous shape.OpenParen && not (is_spaced rest)) (is-same shape.OpenParen shape.OpenParen refl)))
          passes.good
  wrong-token _ (IsWrong.NoToken c z spelt blanks marks) s w words rest b passes = spelt s w words rest b.whole b.spells

  -- an operator that is refused after a name
  refused-wrong : (y : List ℕ) (s : Shape) (w rest : List ℕ) → (Holds (s, w) OPERATORS ⊎ Holds (s, w) METHOD_OPERATORS) → Best past y s w [] rest → is_bad look s rest ≡ true → IsWrong past look.is_blank y
  refused-wrong y s w rest row b h =
      let all = three-and (is_name look.before) look.is_blank (same_shape s shape.OpenParen || (is_ambiguous s && not (is_spaced rest))) h in
      subst (IsWrong past look.is_blank) b.whole (by ((name-asked past).0 (ap is_name (sym is) ∙ all.0)) all.1 row (or-either (same_shape s shape.OpenParen) (is_ambiguous s && not (is_spaced rest)) all.2))
    where
      methods : (s : Shape) → s ≡ shape.OpenParen → Holds (s, w) METHOD_OPERATORS → ⊥
      methods s e (inl k) = let f : s ≡ shape.UnaryMinus = ap (λ (p : Shape × List ℕ). p.0) k in absurd (cc)
      methods s e (inr (inl k)) = let f : s ≡ shape.UnaryPlus = ap (λ (p : Shape × List ℕ). p.0) k in absurd (cc)
      methods s e (inr (inr (inl k))) = let f : s ≡ shape.Index = ap (λ (p : Shape × List ℕ). p.0) k in absurd (cc)
      methods s e (inr (inr (inr (inl k)))) = let f : s ≡ shape.IndexAssign = ap (λ (p : Shape × List ℕ). p.0) k in absurd (cc)
      methods s e (inr (inr (inr (inr k)))) = k

      by : IsAfterName past → look.is_blank ≡ true → (Holds (s, w) OPERATORS ⊎ Holds (s, w) METHOD_OPERATORS) → (same_shape s shape.OpenParen ≡ true) ⊎ ((is_ambiguous s && not (is_spaced rest)) ≡ true) → IsWrong past look.is_blank (w ++ rest)
      by after blank (inl op) (inl e) =
          let front : w ≡ 40 ∷ [] = paren-word w (subst (λ t. Holds (t, w) OPERATORS) (same-is s shape.OpenParen e) op) in
          subst (λ z. IsWrong past look.is_blank (z ++ rest)) (sym front) (IsWrong.ParenAfterBlank rest after blank)
      by after blank (inr m) (inl e) = absurd (methods s (same-is s shape.OpenParen e) m)
      by after blank row (inr e) =
          let both = and-both (is_ambiguous s) (not (is_spaced rest)) e in
          IsWrong.Ambiguous s w rest (longest-of past y s w [] rest b) (ambiguous-held s both.0) after blank (spaced-not rest (not-true (is_spaced rest) both.1))

  nothing-wrong : (y : List ℕ) → Other y → ((s : Shape) (w words rest : List ℕ) → w ++ rest ≡ y → ¬ Spells past s w words rest) → IsWrong past look.is_blank y
  nothing-wrong y o none =
      subst (IsWrong past look.is_blank) (sym o.whole)
      (IsWrong.NoToken o.first o.others (λ s w words rest e. none s w words rest (e ∙ sym o.whole)) blanks marks)
    where
      blanks : (w rest : List ℕ) → w ++ rest ≡ o.first ∷ o.others → ¬ IsBlank w rest
      blanks w rest e b = no-both (blank_here y) (ap blank_here (o.whole ∙ sym e) ∙ blank-here w rest b) o.no_blank

      marks : ¬ Holds o.first (10 ∷ 35 ∷ 34 ∷ 39 ∷ [])
      marks (inl e) = eq-not o.first 10 o.no_line e
      marks (inr (inl e)) = eq-not o.first 35 o.no_comment e
      marks (inr (inr (inl e))) = eq-not o.first 34 o.no_double e
      marks (inr (inr (inr (inl e)))) = eq-not o.first 39 o.no_single e
      marks (inr (inr (inr (inr h)))) = h

-- what is seen
pub data Seen (past : List Shape) (look : Look) (y : List ℕ) : Cut → Type 0 where
  Token : (x : Lexeme) (w words rest : List ℕ) → Best past y x.shape w words rest → x.len ≡ length w → kind_of x.shape (words_of x.shape x.len y) ≡ kind_of x.shape words → Says past x.shape x → ¬ IsForeign past look.is_blank look.is_fresh y → ¬ IsWrong past look.is_blank y → Seen past look y (cuts.Token x)
  Outside : IsForeign past look.is_blank look.is_fresh y → Seen past look y cuts.Outside
  Bad : IsWrong past look.is_blank y → ¬ IsForeign past look.is_blank look.is_fresh y → Seen past look y cuts.Bad

seen-of : (past : List Shape) (look : Look) (y : List ℕ) → look.before ≡ before_of past → Other y → (cut : Cut) → cut_of look y ≡ cut → Shown past look y cut → Seen past look y cut
seen-of past look y is o _ e (Shown.Token x w words rest b len k says passes) =
    Seen.Token x w words rest b len k says (λ f. let g = foreign-cut past look is y f in absurd (cc)) (λ f. wrong-token past look is y f x.shape w words rest b passes)
seen-of past look y is o _ e (Shown.Alien f) = Seen.Outside f
seen-of past look y is o _ e (Shown.Refused s w rest row b inside bad) = Seen.Bad (refused-wrong past look is y s w rest row b bad) (λ f. let g = foreign-cut past look is y f in absurd (cc))
seen-of past look y is o _ e (Shown.Nothing none) = Seen.Bad (nothing-wrong past look is y o none) (λ f. let g = foreign-cut past look is y f in absurd (cc))

pub seen : (past : List Shape) (look : Look) (y : List ℕ) → look.before ≡ before_of past → Other y → Seen past look y (cut_of look y)
seen past look y is o = seen-of past look y is o (cut_of look y) refl (shown-cut past look y is o)
