-- What the step at a place outside strings finds, over characters, and the state and the place after it.
use Rattle.std.proofs.Common.{◌≡◌, ℕ, ◌+◌, ◌⊎◌, true, false, ◌==◌, ◌&&◌, List, [], ◌∷◌, ◌++◌, drop, Option, Some, None, inl, inr, refl, sym, ap, subst, ◌∙◌}
use Rattle.std.specs.Prelude.{slice_index}
use Rattle.srb_text.specs.Positions.{byte_len}
use Rattle.rb_tree.specs.Tokens.{same_shape, shape_of, plain_kind}
use Rattle.rb_tree.specs.declared.token.TokenKind.{TokenKind}
use Rattle.rb_tree.specs.declared.token.Shape.{Shape}
use Rattle.rb_tree.specs.declared.token.Shape.TheVariants as shape
use Rattle.rb_lex.specs.Chars.{is_letter}
use Rattle.rb_lex.specs.Lexed.{kind_of, token_at, continues, closed, nested, lexed_from}
use Rattle.rb_lex.specs.declared.state.Opened.{Opened}
use Rattle.rb_lex.specs.declared.state.State.{State}
use Rattle.rb_rules.specs.Spellings.{Holds, KEYWORDS, OPERATORS, METHOD_OPERATORS}
use Rattle.rb_rules.specs.Before.{frames}
use Rattle.rb_rules.specs.Lexes.{Spells, Place, past_of, spelt, IsReturn, OpenString, kind_of as kind_by}
use Rattle.rb_lex_laws.proofs.Lists.{head-same, tail-same, and-both, or-either, left-or, no-both}
use Rattle.rb_lex_laws.proofs.Blanks.{goes_on}
use Rattle.rb_lex_laws.proofs.Encoded.{enc-some, enc-first, enc}
use Rattle.rb_lex_laws.proofs.Marks.{spelling-of}
use Rattle.rb_lex_laws.proofs.Past.{same-is, is-same}
use Rattle.rb_lex_laws.proofs.Rows.{EachRow, at-row}
use Rattle.rb_lex_laws.proofs.Rules.{letter-low}
use Rattle.rb_lex_laws.proofs.Beside.{Stack, Popped, popped, Matches, Fresh, fresh-matches, nested-fresh, nested-stack, past-push, held_string}

-- ---- spellings of single shapes

pub record Single (t : Shape) (w words : List ℕ) : Type 0 where
  pub interpolation : same_shape t shape.Interpolation ≡ false
  pub safe : t ≡ shape.SafeDot → w ≡ 38 ∷ 46 ∷ []
  pub dot : t ≡ shape.Dot → w ≡ 46 ∷ []
  pub brace : t ≡ shape.CloseBrace → (w ≡ 125 ∷ []) × (words ≡ [])

abbrev Apart : Shape × List ℕ → Type 0
Apart row = (same_shape row.0 shape.Interpolation ≡ false) × (same_shape row.0 shape.SafeDot ≡ false) × (same_shape row.0 shape.Dot ≡ false) × (same_shape row.0 shape.CloseBrace ≡ false)

keywords-apart : EachRow Apart KEYWORDS
unfolding same_shape
keywords-apart = ((refl, refl, refl, refl), ((refl, refl, refl, refl), ((refl, refl, refl, refl), ((refl, refl, refl, refl), ((refl, refl, refl, refl), ((refl, refl, refl, refl), ((refl, refl, refl, refl), ((refl, refl, refl, refl), ((refl, refl, refl, refl), ((refl, refl, refl, refl), ((refl, refl, refl, refl), ((refl, refl, refl, refl), ((refl, refl, refl, refl), ((refl, refl, refl, refl), ((refl, refl, refl, refl), ((refl, refl, refl, refl), ((refl, refl, refl, refl), ((refl, refl, refl, refl), ((refl, refl, refl, refl), ((refl, refl, refl, refl), ((refl, refl, refl, refl), ((refl, refl, refl, refl), ((refl, refl, refl, refl), ((refl, refl, refl, refl), ((refl, refl, refl, refl), ((refl, refl, refl, refl), tt))))))))))))))))))))))))))

methods-apart : EachRow Apart METHOD_OPERATORS
unfolding same_shape
methods-apart = ((refl, refl, refl, refl), ((refl, refl, refl, refl), ((refl, refl, refl, refl), ((refl, refl, refl, refl), tt))))

operators-apart : EachRow (λ (row : Shape × List ℕ). same_shape row.0 shape.Interpolation ≡ false) OPERATORS
unfolding same_shape
operators-apart = (refl, (refl, (refl, (refl, (refl, (refl, (refl, (refl, (refl, (refl, (refl, (refl, (refl, (refl, (refl, (refl, (refl, (refl, (refl, (refl, (refl, (refl, (refl, (refl, (refl, (refl, (refl, (refl, (refl, (refl, (refl, (refl, (refl, (refl, (refl, (refl, (refl, (refl, (refl, (refl, (refl, (refl, (refl, (refl, (refl, (refl, (refl, (refl, (refl, (refl, tt))))))))))))))))))))))))))))))))))))))))))))))))))

apart-single : (t : Shape) (w words : List ℕ) → Apart (t, w) → Single t w words
apart-single t w words a =
    record {
      interpolation = a.0;
      safe = λ e. no-both (same_shape t shape.SafeDot) (is-same t shape.SafeDot e) a.1;
      dot = λ e. no-both (same_shape t shape.Dot) (is-same t shape.Dot e) a.2;
      brace = λ e. no-both (same_shape t shape.CloseBrace) (is-same t shape.CloseBrace e) a.3;
    }

operator-single : (t : Shape) (w : List ℕ) → Holds (t, w) OPERATORS → Single t w []
unfolding same_shape
operator-single t w h =
    record {
      interpolation = at-row (λ (row : Shape × List ℕ). same_shape row.0 shape.Interpolation ≡ false) (t, w) OPERATORS operators-apart h;
      safe = λ e. spelling-of shape.SafeDot w (subst (λ s. Holds (s, w) OPERATORS) e h);
      dot = λ e. spelling-of shape.Dot w (subst (λ s. Holds (s, w) OPERATORS) e h);
      brace = λ e. (spelling-of shape.CloseBrace w (subst (λ s. Holds (s, w) OPERATORS) e h), refl);
    }

pub spells-single : (past : List Shape) (t : Shape) (w words rest : List ℕ) → Spells past t w words rest → Single t w words
unfolding same_shape
spells-single past _ _ _ _ (Spells.Identifier w rest h free) = apart-single shape.Identifier w w (refl, refl, refl, refl)
spells-single past _ _ _ _ (Spells.Constant w rest h free) = apart-single shape.Constant w w (refl, refl, refl, refl)
spells-single past _ _ _ _ (Spells.Keyword s w rest h row dot) = apart-single s w [] (at-row Apart (s, w) KEYWORDS keywords-apart row)
spells-single past _ _ _ _ (Spells.InstanceVariable w rest h) = apart-single shape.InstanceVariable (64 ∷ w) w (refl, refl, refl, refl)
spells-single past _ _ _ _ (Spells.Label w rest h free) = apart-single shape.Label (w ++ 58 ∷ []) w (refl, refl, refl, refl)
spells-single past _ _ _ _ (Spells.Symbol w rest h) = apart-single shape.Symbol (58 ∷ w) w (refl, refl, refl, refl)
spells-single past _ _ _ _ (Spells.Whole w rest h) = apart-single shape.Whole w w (refl, refl, refl, refl)
spells-single past _ _ _ _ (Spells.Float w rest h) = apart-single shape.Float w w (refl, refl, refl, refl)
spells-single past _ _ _ _ (Spells.Semicolon rest) = apart-single shape.Separator (59 ∷ []) [] (refl, refl, refl, refl)
spells-single past _ _ _ _ (Spells.Operator s w rest h) = operator-single s w h
spells-single past _ _ _ _ (Spells.MethodOperator s w rest names h) = apart-single s w [] (at-row Apart (s, w) METHOD_OPERATORS methods-apart h)

-- a token that goes on with the line before stands where the line goes on
pub letter-front : (rest : List ℕ) → is_letter (slice_index (enc rest) 0) ≡ true → is_letter (slice_index rest 0) ≡ true
letter-front [] h = h
letter-front (c ∷ rest) h = by (enc-some c rest)
  where
    by : (b : ℕ) × (y : List ℕ) × (enc (c ∷ rest) ≡ b ∷ y) → is_letter c ≡ true
    by p =
        let at : is_letter p.0 ≡ true = ap (λ z. is_letter (slice_index z 0)) (sym p.2) ∙ h in
        let low = letter-low p.0 at in
        let one = enc-first (c ∷ rest) p.0 p.1 low p.2 in
        ap is_letter (head-same c p.0 rest one.0 one.1) ∙ at

pub goes-needs : (past : List Shape) (t : Shape) (w words rest : List ℕ) → Spells past t w words rest → continues t (enc rest) ≡ true → goes_on false (w ++ rest) ≡ true
goes-needs past t w words rest h go = by (spells-single past t w words rest h) (or-either (same_shape t shape.SafeDot) (same_shape t shape.Dot && is_letter (slice_index (enc rest) 0)) go)
  where
    by : Single t w words → (same_shape t shape.SafeDot ≡ true) ⊎ ((same_shape t shape.Dot && is_letter (slice_index (enc rest) 0)) ≡ true) → goes_on false (w ++ rest) ≡ true
    by s (inl e) = ap (λ v. goes_on false (v ++ rest)) (s.safe (same-is t shape.SafeDot e))
    by s (inr e) =
        let both = and-both (same_shape t shape.Dot) (is_letter (slice_index (enc rest) 0)) e in
        ap (λ v. goes_on false (v ++ rest)) (s.dot (same-is t shape.Dot both.0)) ∙ left-or (is_letter (slice_index rest 0)) (46 == 38 && slice_index rest 0 == 46) (letter-front rest both.1)

-- the lexer makes the kind that the rules give a shape
kind-same : (t : Shape) (words : List ℕ) → kind_of t words ≡ kind_by t words
unfolding kind_of kind_by plain_kind same_shape
kind-same shape.Text words = refl
kind-same _ words = refl

-- the shape of a token's kind is that of the token
kind-shape : (t : Shape) (words : List ℕ) → shape_of (kind_by t words) ≡ t
unfolding shape_of kind_by plain_kind
kind-shape shape.Text words = refl
kind-shape _ words = refl

-- ---- after a token

-- after a token that ends no interpolation
abbrev pub Landed : Place → ℕ → State → List ℕ → Place → List ℕ → Type 0
Landed p at s y q rest = (more : State) × (lexed_from 0 at s y ≡ lexed_from 0 q.at more (enc rest)) × Matches q more rest

-- after the `}` that ends an interpolation
abbrev pub returned : ℕ → List ℕ → Place → Place
returned opening outer p = record (spelt shape.CloseBrace (125 ∷ []) [] p) { string = Some (record { quote = 34; opening = opening; from = p.at + 1 }); outer = outer }

pub spelt-past : (t : Shape) (w words : List ℕ) (p : Place) → past_of (spelt t w words p) ≡ t ∷ past_of p
spelt-past t w words p =
    past-push p.tokens (token_at (kind_by t (enc words)) p.at (p.at + byte_len w)) ∙ ap (λ u. u ∷ past_of p) (kind-shape t (enc words))

-- the state after the token, as it stands beside the place after the token
pub after-fresh : (p : Place) (t : Shape) (w words : List ℕ) (k : TokenKind) (end : ℕ) (s : State) → k ≡ kind_of t (enc words) → end ≡ p.at + byte_len w → Fresh (t ∷ past_of p) (p.tokens ++ token_at k p.at end ∷ []) s → Fresh (past_of (spelt t w words p)) (spelt t w words p).tokens s
after-fresh p t w words k end s e f h =
    subst (λ past. Fresh past (spelt t w words p).tokens s) (sym (spelt-past t w words p))
    (subst (λ n. Fresh (t ∷ past_of p) (p.tokens ++ token_at (kind_by t (enc words)) p.at n ∷ []) s) f (subst (λ q. Fresh (t ∷ past_of p) (p.tokens ++ token_at q p.at end ∷ []) s) (e ∙ kind-same t (enc words)) h))

module _ (p : Place) (s : State) (y : List ℕ) (m : Matches p s y) (none : p.string ≡ None) where
  -- the token ends no interpolation
  pub lands : (t : Shape) (w words rest : List ℕ) (end : ℕ) (e : State) → same_shape t shape.Interpolation ≡ false → e.string ≡ None → e.nesting ≡ s.nesting → Fresh (past_of (spelt t w words p)) (spelt t w words p).tokens e → (IsReturn t (past_of p) → ⊥) → Matches (spelt t w words p) (nested t end e) rest
  lands t w words rest end e plain string nesting f stays =
      let st : Stack e.nesting (frames (past_of p)) p.outer = subst (λ n. Stack n (frames (past_of p)) p.outer) (sym nesting) m.stack in
      let q = nested-stack t end e (frames (past_of p)) p.outer plain string st (λ c h. stays (same-is t shape.CloseBrace c, h)) in
      fresh-matches (spelt t w words p) (nested t end e) rest (nested-fresh (past_of (spelt t w words p)) (spelt t w words p).tokens t end e f) refl refl (q.1 ∙ sym (ap held_string none))
      (λ o k. absurd (no-string o k)) (subst (λ past. Stack (nested t end e).nesting (frames past) p.outer) (sym (spelt-past t w words p)) q.0)
    where
      no-string : (o : OpenString) → p.string ≡ Some o → ⊥
      no-string o k = let g : None ≡ Some o = sym none ∙ k in absurd (cc)

  -- it ends one
  pub returns : (opening : ℕ) (outer rest : List ℕ) (end : ℕ) (e : State) → e.nesting ≡ s.nesting → end ≡ p.at + 1 → p.outer ≡ opening ∷ outer → IsReturn shape.CloseBrace (past_of p) → Fresh (past_of (returned opening outer p)) (returned opening outer p).tokens e → Matches (returned opening outer p) (nested shape.CloseBrace end e) rest
  unfolding same_shape
  returns opening outer rest end e nesting at outer_is ret f = by (popped e.nesting (frames (past_of p)) p.outer (subst (λ n. Stack n (frames (past_of p)) p.outer) (sym nesting) m.stack))
    where
      by : Popped e.nesting (frames (past_of p)) p.outer → Matches (returned opening outer p) (nested shape.CloseBrace end e) rest
      by (Popped.Plain st string other) = absurd (other ret.1)
      by (Popped.Return a q w h st string) =
          let same : a ∷ q ≡ opening ∷ outer = sym w ∙ outer_is in
          let a_is : a ≡ opening = head-same a opening q outer same in
          let q_is : q ≡ outer = tail-same a opening q outer same in
          fresh-matches (returned opening outer p) (nested shape.CloseBrace end e) rest (nested-fresh (past_of (returned opening outer p)) (returned opening outer p).tokens shape.CloseBrace end e f) refl refl
          (string end ∙ ap (λ b. let o : Opened = record { quote = 34; opening = b; from = end } in Some o) a_is ∙ ap (λ n. let o : Opened = record { quote = 34; opening = opening; from = n } in Some o) at)
          (λ o k. inl (sym (ap quote_of k)))
          (subst (λ past. Stack (nested shape.CloseBrace end e).nesting (frames past) outer) (sym (spelt-past shape.CloseBrace (125 ∷ []) [] p)) (subst (λ r. Stack (closed end e).nesting (drop 1 (frames (past_of p))) r) q_is st))
        where
          quote_of : Option OpenString → ℕ
          quote_of (Some o) = o.quote
          quote_of None = 34
