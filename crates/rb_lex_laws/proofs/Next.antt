-- The next token at a place outside strings, or the refusal there, over characters.
use Rattle.std.proofs.Common.{◌≡◌, ℕ, ◌+◌, ◌<◌, ◌⊎◌, Bool, true, false, ◌==◌, ◌&&◌, ◌||◌, List, [], ◌∷◌, ◌++◌, length, take, drop, None, Result, Ok, Err, inl, inr, refl, sym, ap, subst, ◌∙◌, arith}
use Rattle.std.specs.Prelude.{slice_index}
use Rattle.srb_text.specs.Positions.{byte_len}
use Rattle.rb_tree.specs.Tokens.{same_shape}
use Rattle.rb_tree.specs.declared.token.TokenKind.{TokenKind}
use Rattle.rb_tree.specs.declared.token.Shape.{Shape}
use Rattle.rb_tree.specs.declared.token.Shape.TheVariants as shape
use Rattle.rb_lex.specs.Chars.{is_letter}
use Rattle.rb_lex.specs.Cuts.{names_method, is_closing, after_operator, cut_of, token}
use Rattle.rb_lex.specs.Lexed.{kind_of, words_of, token_at, pushed, continues, joined, continued, nested, entered, accepted, step, lexed_from}
use Rattle.rb_lex.specs.declared.cut.Look.{Look}
use Rattle.rb_lex.specs.declared.cut.Lexeme.{Lexeme}
use Rattle.rb_lex.specs.declared.cut.Cut.{Cut}
use Rattle.rb_lex.specs.declared.cut.Cut.TheVariants as cuts
use Rattle.rb_lex.specs.declared.state.State.{State}
use Rattle.rb_lex.specs.declared.LexEnd.{LexEnd}
use Rattle.rb_lex.specs.declared.LexEnd.TheVariants as ends
use Rattle.rb_rules.specs.Lexes.{Spells, IsLongest, IsForeign, IsWrong, Place, past_of, spelt, IsReturn}
use Rattle.rb_lex_laws.proofs.Lists.{head-same, drop-front, eq-not, and-both, or-either, no-both, eq-is, false-of, begins-is, begins-parts}
use Rattle.rb_lex_laws.proofs.Best.{Best, best-same, longest-of}
use Rattle.rb_lex_laws.proofs.Blanks.{goes_on, blank_here, Blank, blank-of, blank-here, last-test}
use Rattle.rb_lex_laws.proofs.Encoded.{enc-some, enc-first, enc, enc-thin, enc-cons, enc-front, enc-parts, spells-thin, spells-alike, enc-alike, longest-bytes, longest-chars}
use Rattle.rb_lex_laws.proofs.Past.{before_of, is-same}
use Rattle.rb_lex_laws.proofs.Places.{Other}
use Rattle.rb_lex_laws.proofs.Refusals.{spells-begin}
use Rattle.rb_lex_laws.proofs.Rules.{blank-thin, blank-chars, letter-low, foreign-bytes, foreign-chars, wrong-bytes, wrong-chars}
use Rattle.rb_lex_laws.proofs.Shown.{Says}
use Rattle.rb_lex_laws.proofs.Steps.{code-cut, refused, advance, dot-cut, safe-cut}
use Rattle.rb_lex_laws.proofs.Strings.{enc-len}
use Rattle.rb_lex_laws.proofs.Verdicts.{Seen, seen}
use Rattle.rb_lex_laws.proofs.Beside.{Matches, Fresh, entered-fresh, dot-fresh, safe-fresh, held_string}
use Rattle.rb_lex_laws.proofs.Landing.{Single, spells-single, goes-needs, Landed, returned, after-fresh, lands, returns}

-- ---- over bytes too no blank, line's end, comment or string begins

pub other-bytes : (z : List ℕ) → Other z → Other (enc z)
other-bytes z o =
    let p = enc-some o.first o.others in
    let whole : enc z ≡ p.0 ∷ p.1 = ap enc o.whole ∙ p.2 in
    record {
      first = p.0;
      others = p.1;
      whole = whole;
      no_blank = false-of (blank_here (enc z)) (λ e. blanks (blank-of (enc z) e));
      no_line = differs p.0 p.1 whole 10 (omega arith) o.no_line;
      no_comment = differs p.0 p.1 whole 35 (omega arith) o.no_comment;
      no_double = differs p.0 p.1 whole 34 (omega arith) o.no_double;
      no_single = differs p.0 p.1 whole 39 (omega arith) o.no_single;
    }
  where
    blanks : Blank (enc z) → ⊥
    blanks b =
        let p = enc-parts b.blank z b.rest (blank-thin b.blank b.rest b.is) (sym b.whole) in
        no-both (blank_here z) (ap blank_here p.1 ∙ blank-here b.blank p.0 (blank-chars b.blank p.0 b.rest b.is p.2)) o.no_blank

    differs : (b : ℕ) (y : List ℕ) → enc z ≡ b ∷ y → (k : ℕ) → k < 128 → (o.first == k) ≡ false → (b == k) ≡ false
    differs b y e k low free =
        false-of (b == k) (λ t. let one = enc-first z k y low (e ∙ ap (λ c. c ∷ y) (eq-is b k t)) in
        eq-not o.first k free (head-same o.first k o.others one.0 (sym o.whole ∙ one.1)))

-- ---- the state after a token

accepted-plain : (x : Lexeme) (at : ℕ) (y : List ℕ) (s : State) → continues x.shape (drop x.len y) ≡ false → accepted x at y s ≡ nested x.shape (at + x.len) (entered x (pushed (kind_of x.shape (words_of x.shape x.len y)) at (at + x.len) s))
unfolding accepted
accepted-plain x at y s e = ap (λ t. nested x.shape (at + x.len) (entered (continued t s.last x) (pushed (kind_of x.shape (words_of x.shape x.len y)) at (at + x.len) (joined t s)))) e

accepted-on : (x : Lexeme) (at : ℕ) (y : List ℕ) (s : State) → continues x.shape (drop x.len y) ≡ true → accepted x at y s ≡ nested x.shape (at + x.len) (entered (record x { before = after_operator s.last x.shape; keeps = names_method s.last }) (pushed (kind_of x.shape (words_of x.shape x.len y)) at (at + x.len) (record s { tokens = take s.mark s.tokens })))
unfolding accepted
accepted-on x at y s e = ap (λ t. nested x.shape (at + x.len) (entered (continued t s.last x) (pushed (kind_of x.shape (words_of x.shape x.len y)) at (at + x.len) (joined t s)))) e

pub data Next (p : Place) (s : State) (z : List ℕ) : Type 0 where
  Token : (t : Shape) (w words rest : List ℕ) → w ++ rest ≡ z → IsLongest (past_of p) t w words rest → (IsForeign (past_of p) p.blank p.start z → ⊥) → (IsWrong (past_of p) p.blank z → ⊥)
      → ((u : Shape) (v os more : List ℕ) → v ++ more ≡ z → IsLongest (past_of p) u v os more → (u ≡ t) × (v ≡ w) × (os ≡ words))
      → ((IsReturn t (past_of p) → ⊥) → Landed p p.at s (enc z) (spelt t w words p) rest)
      → ((opening : ℕ) (outer : List ℕ) → p.outer ≡ opening ∷ outer → IsReturn t (past_of p) → Landed p p.at s (enc z) (returned opening outer p) rest)
      → Next p s z
  Outside : IsForeign (past_of p) p.blank p.start z → lexed_from 0 p.at s (enc z) ≡ Err (ends.Outside p.at) → Next p s z
  Bad : IsWrong (past_of p) p.blank z → (IsForeign (past_of p) p.blank p.start z → ⊥) → lexed_from 0 p.at s (enc z) ≡ Err (ends.Bad p.at) → Next p s z

refusal : (y : List ℕ) (at : ℕ) (s : State) (e : LexEnd) → Other y → step at y s ≡ Err e → lexed_from 0 at s y ≡ Err e
refusal y at s e o h = ap (lexed_from 0 at s) o.whole ∙ refused at o.first o.others s e (ap (λ z. step at z s) (sym o.whole) ∙ h)

spelling-len : (past : List Shape) (t : Shape) (w words rest : List ℕ) → Spells past t w words rest → length w ≡ byte_len w
spelling-len past t w words rest h = ap length (sym (enc-thin w (spells-thin past t w words rest h).0)) ∙ enc-len w

spelling-some : (past : List Shape) (t : Shape) (w words rest : List ℕ) → Spells past t w words rest → 0 < length w
spelling-some past t w words rest h = let b = spells-begin past t w words rest h in let e = ap length b.2 in omega arith

module _ (p : Place) (s : State) (z : List ℕ) (m : Matches p s z) (none : p.string ≡ None) (o : Other z) where
  code : s.string ≡ None
  code = m.string_is ∙ ap held_string none

  -- the step goes on after the spelling
  steps : (w rest : List ℕ) (n : ℕ) (more : State) (q : Place) → enc z ≡ w ++ enc rest → 0 < length w → n ≡ length w → q.at ≡ p.at + length w → step p.at (enc z) s ≡ Ok (n, more) → Matches q more rest → Landed p p.at s (enc z) q rest
  steps w rest n more q whole some len at h matches = (
    more,
    ap (lexed_from 0 p.at s) whole
        ∙ advance w (enc rest) p.at s more some (ap (λ y. step p.at y s) (sym whole) ∙ h ∙ ap (λ k. let r : Result (ℕ × State) LexEnd = Ok (k, more) in r) len)
        ∙ ap (λ k. lexed_from 0 k more (enc rest)) (sym at),
    matches,
  )

  foreign-there : IsForeign (past_of p) p.blank p.start z → IsForeign (past_of p) s.look.is_blank s.look.is_fresh (enc z)
  foreign-there f = subst (λ b. IsForeign (past_of p) b s.look.is_fresh (enc z)) (sym m.blank_is) (subst (λ b. IsForeign (past_of p) p.blank b (enc z)) (sym m.fresh_is) (foreign-bytes (past_of p) p.blank p.start z f))

  foreign-here : IsForeign (past_of p) s.look.is_blank s.look.is_fresh (enc z) → IsForeign (past_of p) p.blank p.start z
  foreign-here f = foreign-chars (past_of p) p.blank p.start z (enc z) (subst (λ b. IsForeign (past_of p) b p.start (enc z)) m.blank_is (subst (λ b. IsForeign (past_of p) s.look.is_blank b (enc z)) m.fresh_is f)) refl

  wrong-there : IsWrong (past_of p) p.blank z → IsWrong (past_of p) s.look.is_blank (enc z)
  wrong-there f = subst (λ b. IsWrong (past_of p) b (enc z)) (sym m.blank_is) (wrong-bytes (past_of p) p.blank z f)

  wrong-here : IsWrong (past_of p) s.look.is_blank (enc z) → IsWrong (past_of p) p.blank z
  wrong-here f = wrong-chars (past_of p) p.blank z (enc z) (subst (λ b. IsWrong (past_of p) b (enc z)) m.blank_is f) refl

  only-best : (t : Shape) (w words y : List ℕ) → Best (past_of p) (enc z) t w words y → (u : Shape) (v os more : List ℕ) → v ++ more ≡ z → IsLongest (past_of p) u v os more → (u ≡ t) × (v ≡ w) × (os ≡ words)
  only-best t w words y b u v os more e l =
      (best-same (past_of p) (enc z) t w words y b u v os (enc more) (sym (enc-front v more (spells-thin (past_of p) u v os more l.spells).0) ∙ ap enc e) (longest-bytes (past_of p) u v os more l)).0

  -- the token that is found
  found : (x : Lexeme) (w words rest : List ℕ) → Best (past_of p) (enc z) x.shape w words (enc rest) → w ++ rest ≡ z → (IsForeign (past_of p) s.look.is_blank s.look.is_fresh (enc z) → ⊥) → (IsWrong (past_of p) s.look.is_blank (enc z) → ⊥)
      → ((IsReturn x.shape (past_of p) → ⊥) → Landed p p.at s (enc z) (spelt x.shape w words p) rest)
      → ((opening : ℕ) (outer : List ℕ) → p.outer ≡ opening ∷ outer → IsReturn x.shape (past_of p) → Landed p p.at s (enc z) (returned opening outer p) rest)
      → Next p s z
  found x w words rest b whole nf nw run back =
      Next.Token x.shape w words rest whole (longest-chars (past_of p) x.shape w words rest (longest-of (past_of p) (enc z) x.shape w words (enc rest) b)) (λ f. nf (foreign-there f)) (λ f. nw (wrong-there f)) (only-best x.shape w words (enc rest) b) run back

  in-step : goes_on false z ≡ false → (x : Lexeme) (w words rest : List ℕ) → cut_of s.look (enc z) ≡ cuts.Token x → Best (past_of p) (enc z) x.shape w words (enc rest) → w ++ rest ≡ z → x.len ≡ length w → kind_of x.shape (words_of x.shape x.len (enc z)) ≡ kind_of x.shape words → Says (past_of p) x.shape x
      → (IsForeign (past_of p) s.look.is_blank s.look.is_fresh (enc z) → ⊥) → (IsWrong (past_of p) s.look.is_blank (enc z) → ⊥) → Next p s z
  in-step g x w words rest cut b whole len kinds says nf nw =
      found x w words rest b whole nf nw
      (λ stays. steps w rest x.len more (spelt x.shape w words p) (sym b.whole) some len (ap (λ n. p.at + n) (sym size)) stepped
      (subst (λ t. Matches (spelt x.shape w words p) t rest) (sym acc) (lands p s z m none x.shape w words rest end e (spells-single (past_of p) x.shape w words (enc rest) b.spells).interpolation code refl fresh stays)))
      (λ opening outer outer_is ret. back opening outer outer_is ret (spells-single (past_of p) x.shape w words (enc rest) b.spells))
    where
      end : ℕ
      end = p.at + x.len

      size : length w ≡ byte_len w
      size = spelling-len (past_of p) x.shape w words (enc rest) b.spells

      some : 0 < length w
      some = spelling-some (past_of p) x.shape w words (enc rest) b.spells

      k : TokenKind
      k = kind_of x.shape (words_of x.shape x.len (enc z))

      e : State
      e = entered x (pushed (kind_of x.shape (words_of x.shape x.len (enc z))) p.at (p.at + x.len) s)

      more : State
      more = accepted x p.at (enc z) s

      front : drop x.len (enc z) ≡ enc rest
      front = ap (λ n. drop n (enc z)) len ∙ ap (λ y. drop (length w) y) (sym b.whole) ∙ drop-front w (enc rest)

      stop : continues x.shape (drop x.len (enc z)) ≡ false
      stop = false-of (continues x.shape (drop x.len (enc z))) (λ t. no-both (goes_on false z) (ap (goes_on false) (sym whole) ∙ goes-needs (past_of p) x.shape w words rest (spells-alike (past_of p) x.shape w words (enc rest) rest (enc-alike rest) b.spells) (ap (continues x.shape) (sym front) ∙ t)) g)

      acc : accepted x p.at (enc z) s ≡ nested x.shape (p.at + x.len) (entered x (pushed (kind_of x.shape (words_of x.shape x.len (enc z))) p.at (p.at + x.len) s))
      acc = accepted-plain x p.at (enc z) s stop

      stepped : step p.at (enc z) s ≡ Ok (x.len, accepted x p.at (enc z) s)
      stepped = code-cut p.at (enc z) s (cuts.Token x) code cut

      fresh : Fresh (past_of (spelt x.shape w words p)) (spelt x.shape w words p).tokens (entered x (pushed (kind_of x.shape (words_of x.shape x.len (enc z))) p.at (p.at + x.len) s))
      fresh =
          after-fresh p x.shape w words (kind_of x.shape (words_of x.shape x.len (enc z))) (p.at + x.len) (entered x (pushed (kind_of x.shape (words_of x.shape x.len (enc z))) p.at (p.at + x.len) s))
          (kinds ∙ ap (kind_of x.shape) (sym (enc-thin words (spells-thin (past_of p) x.shape w words (enc rest) b.spells).1)))
          (ap (λ n. p.at + n) (len ∙ size))
          (entered-fresh p s x (kind_of x.shape (words_of x.shape x.len (enc z))) (p.at + x.len) (m.sync none g) m.bars_is says)

      back : (opening : ℕ) (outer : List ℕ) → p.outer ≡ opening ∷ outer → IsReturn x.shape (past_of p) → Single x.shape w words → Landed p p.at s (enc z) (returned opening outer p) rest
      back opening outer outer_is ret one =
          let both = one.brace ret.0 in
          let single : length w ≡ 1 = ap length both.0 in
          let same : spelt x.shape w words p ≡ spelt shape.CloseBrace (125 ∷ []) [] p = ap (λ t. spelt t w words p) ret.0 ∙ ap (λ v. spelt shape.CloseBrace v words p) both.0 ∙ ap (λ v. spelt shape.CloseBrace (125 ∷ []) v p) both.1 in
          let f : Fresh (past_of (returned opening outer p)) (returned opening outer p).tokens (entered x (pushed (kind_of x.shape (words_of x.shape x.len (enc z))) p.at (p.at + x.len) s)) = subst (λ (q : Place). Fresh (past_of q) q.tokens (entered x (pushed (kind_of x.shape (words_of x.shape x.len (enc z))) p.at (p.at + x.len) s))) same fresh in
          let at : p.at + x.len ≡ p.at + 1 = ap (λ n. p.at + n) (len ∙ single) in
          let there : (returned opening outer p).at ≡ p.at + length w = ap (λ v. p.at + byte_len v) (sym both.0) ∙ ap (λ n. p.at + n) (sym size) in
          steps w rest x.len (accepted x p.at (enc z) s) (returned opening outer p) (sym b.whole) some len there stepped
          (subst (λ t. Matches (returned opening outer p) t rest) (sym (acc ∙ ap (λ c. nested c (p.at + x.len) (entered x (pushed (kind_of x.shape (words_of x.shape x.len (enc z))) p.at (p.at + x.len) s))) ret.0))
          (returns p s z m none opening outer rest (p.at + x.len) (entered x (pushed (kind_of x.shape (words_of x.shape x.len (enc z))) p.at (p.at + x.len) s)) refl at outer_is (refl, ret.1) f))

  sync-next : goes_on false z ≡ false → Next p s z
  sync-next g = by (cut_of s.look (enc z)) refl (seen (past_of p) s.look (enc z) (m.sync none g).before_is (other-bytes z o))
    where
      by : (cut : Cut) → cut_of s.look (enc z) ≡ cut → Seen (past_of p) s.look (enc z) cut → Next p s z
      by _ e (Seen.Token x w words y b len kinds says nf nw) =
          let q = enc-parts w z y (spells-thin (past_of p) x.shape w words y b.spells).0 (sym b.whole) in
          in-step g x w words q.0 e (subst (Best (past_of p) (enc z) x.shape w words) q.2 b) (sym q.1) len kinds says nf nw
      by _ e (Seen.Outside f) = Next.Outside (foreign-here f) (refusal (enc z) p.at s (ends.Outside p.at) (other-bytes z o) (code-cut p.at (enc z) s cuts.Outside code e))
      by _ e (Seen.Bad f nf) = Next.Bad (wrong-here f) (λ g. nf (foreign-there g)) (refusal (enc z) p.at s (ends.Bad p.at) (other-bytes z o) (code-cut p.at (enc z) s cuts.Bad code e))

  -- ---- a `.` or `&.` that goes on with the line before

  abbrev dotted : Shape → ℕ → Lexeme
  dotted d n = record { shape = d; len = n; before = after_operator s.look.before d; keeps = is_closing d || names_method s.look.before }

  abbrev joint : Shape → ℕ → State
  joint d n = entered (record (dotted d n) { before = after_operator s.last d; keeps = names_method s.last }) (pushed (kind_of d (words_of d n (enc z))) p.at (p.at + n) (record s { tokens = take s.mark s.tokens }))

  on-step : (d : Shape) (n : ℕ) (x : Lexeme) (w words rest : List ℕ) → x.shape ≡ d → x.len ≡ n → Best (past_of p) (enc z) x.shape w words (enc rest) → w ++ rest ≡ z → x.len ≡ length w → kind_of x.shape (words_of x.shape x.len (enc z)) ≡ kind_of x.shape words
      → (IsForeign (past_of p) s.look.is_blank s.look.is_fresh (enc z) → ⊥) → (IsWrong (past_of p) s.look.is_blank (enc z) → ⊥)
      → cut_of s.look (enc z) ≡ cuts.Token (dotted d n) → continues d (drop n (enc z)) ≡ true → same_shape d shape.CloseBrace ≡ false
      → Fresh (d ∷ past_of p) (p.tokens ++ token_at (kind_of d (words_of d n (enc z))) p.at (p.at + n) ∷ []) (joint d n) → Next p s z
  on-step d n x w words rest shape_is len_is b whole len kinds nf nw cut goes brace f =
      found x w words rest b whole nf nw
      (λ stays. steps w rest n (accepted (dotted d n) p.at (enc z) s) (spelt x.shape w words p) (sym b.whole) some (sym len_is ∙ len) (ap (λ k. p.at + k) (sym size)) stepped
      (subst (λ t. Matches (spelt x.shape w words p) t rest) (sym (acc ∙ ap (λ c. nested c (p.at + n) (joint d n)) (sym shape_is)))
      (lands p s z m none x.shape w words rest (p.at + n) (joint d n) (spells-single (past_of p) x.shape w words (enc rest) b.spells).interpolation code refl fresh stays)))
      (λ opening outer outer_is ret. no-both (same_shape d shape.CloseBrace) (is-same d shape.CloseBrace (sym shape_is ∙ ret.0)) brace)
    where
      size : length w ≡ byte_len w
      size = spelling-len (past_of p) x.shape w words (enc rest) b.spells

      some : 0 < length w
      some = spelling-some (past_of p) x.shape w words (enc rest) b.spells

      acc : accepted (dotted d n) p.at (enc z) s ≡ nested d (p.at + n) (joint d n)
      acc = accepted-on (dotted d n) p.at (enc z) s goes

      stepped : step p.at (enc z) s ≡ Ok (n, accepted (dotted d n) p.at (enc z) s)
      stepped = code-cut p.at (enc z) s (cuts.Token (dotted d n)) code cut

      kind_is : kind_of d (words_of d n (enc z)) ≡ kind_of x.shape (enc words)
      kind_is =
          ap (λ t. kind_of t (words_of t n (enc z))) (sym shape_is) ∙ ap (λ k. kind_of x.shape (words_of x.shape k (enc z))) (sym len_is) ∙ kinds
          ∙ ap (kind_of x.shape) (sym (enc-thin words (spells-thin (past_of p) x.shape w words (enc rest) b.spells).1))

      fresh : Fresh (past_of (spelt x.shape w words p)) (spelt x.shape w words p).tokens (joint d n)
      fresh =
          after-fresh p x.shape w words (kind_of d (words_of d n (enc z))) (p.at + n) (joint d n) kind_is (ap (λ k. p.at + k) (sym len_is ∙ len ∙ size))
          (subst (λ t. Fresh (t ∷ past_of p) (p.tokens ++ token_at (kind_of d (words_of d n (enc z))) p.at (p.at + n) ∷ []) (joint d n)) (sym shape_is) f)

  cut_shape : Cut → Shape
  cut_shape (cuts.Token x) = x.shape
  cut_shape _ = shape.Plus

  cut_len : Cut → ℕ
  cut_len (cuts.Token x) = x.len
  cut_len _ = 0

  on-next : (d : Shape) (n : ℕ) → ((look : Look) → cut_of look (enc z) ≡ token d n (after_operator look.before d) (is_closing d || names_method look.before)) → continues d (drop n (enc z)) ≡ true → same_shape d shape.CloseBrace ≡ false
      → Fresh (d ∷ past_of p) (p.tokens ++ token_at (kind_of d (words_of d n (enc z))) p.at (p.at + n) ∷ []) (joint d n) → Next p s z
  unfolding cut_shape cut_len
  on-next d n cut goes brace f =
      let look : Look = record s.look { before = before_of (past_of p) } in
      by (cut_of look (enc z)) (cut look) (seen (past_of p) look (enc z) refl (other-bytes z o))
    where
      by : (c : Cut) → c ≡ token d n (after_operator (before_of (past_of p)) d) (is_closing d || names_method (before_of (past_of p))) → Seen (past_of p) (record s.look { before = before_of (past_of p) }) (enc z) c → Next p s z
      by _ e (Seen.Token x w words y b len kinds says nf nw) =
          let q = enc-parts w z y (spells-thin (past_of p) x.shape w words y b.spells).0 (sym b.whole) in
          on-step d n x w words q.0 (ap cut_shape e) (ap cut_len e) (subst (Best (past_of p) (enc z) x.shape w words) q.2 b) (sym q.1) len kinds nf nw (cut s.look) goes brace f
      by _ e (Seen.Outside g) = absurd (cc)
      by _ e (Seen.Bad g nf) = absurd (cc)

  dot-next : goes_on false z ≡ true → (d : ℕ) (u : List ℕ) → z ≡ 46 ∷ d ∷ u → is_letter d ≡ true → Next p s z
  unfolding same_shape
  dot-next g d u e letter =
      let front : enc z ≡ 46 ∷ d ∷ enc u = ap enc e ∙ enc-cons 46 (d ∷ u) (omega arith) ∙ ap (λ y. 46 ∷ y) (enc-cons d u (letter-low d letter)) in
      on-next shape.Dot 1 (λ look. ap (cut_of look) front ∙ dot-cut look d (enc u) letter) (ap (λ y. is_letter (slice_index (drop 1 y) 0)) front ∙ letter) refl
      (dot-fresh p s (dotted shape.Dot 1) (kind_of shape.Dot (words_of shape.Dot 1 (enc z))) (p.at + 1) (m.pend none g) m.bars_is refl)

  safe-next : goes_on false z ≡ true → (u : List ℕ) → z ≡ 38 ∷ 46 ∷ u → Next p s z
  unfolding same_shape
  safe-next g u e =
      let front : enc z ≡ 38 ∷ 46 ∷ enc u = ap enc e ∙ enc-cons 38 (46 ∷ u) (omega arith) ∙ ap (λ y. 38 ∷ y) (enc-cons 46 u (omega arith)) in
      on-next shape.SafeDot 2 (λ look. ap (cut_of look) front ∙ safe-cut look (enc u)) refl refl
      (safe-fresh p s (dotted shape.SafeDot 2) (kind_of shape.SafeDot (words_of shape.SafeDot 2 (enc z))) (p.at + 2) (m.pend none g) m.bars_is refl)

  dotted-next : goes_on false z ≡ true → Next p s z
  dotted-next g = by (or-either (o.first == 46 && is_letter (slice_index o.others 0)) (o.first == 38 && slice_index o.others 0 == 46) (last-test o.first o.others (ap blank_here (sym o.whole) ∙ o.no_blank) o.no_line o.no_comment (ap (goes_on false) (sym o.whole) ∙ g)))
    where
      dot : (u : List ℕ) → z ≡ 46 ∷ u → is_letter (slice_index u 0) ≡ true → Next p s z
      dot [] e letter = absurd (cc)
      dot (d ∷ u) e letter = dot-next g d u e letter

      by : ((o.first == 46 && is_letter (slice_index o.others 0)) ≡ true) ⊎ ((o.first == 38 && slice_index o.others 0 == 46) ≡ true) → Next p s z
      by (inl e) = let both = and-both (o.first == 46) (is_letter (slice_index o.others 0)) e in dot o.others (o.whole ∙ ap (λ c. c ∷ o.others) (eq-is o.first 46 both.0)) both.1
      by (inr e) =
          let both = and-both (o.first == 38) (slice_index o.others 0 == 46) e in
          safe-next g (drop 1 o.others) (o.whole ∙ ap (λ c. c ∷ o.others) (eq-is o.first 38 both.0) ∙ ap (λ y. 38 ∷ y) (begins-parts 46 o.others (begins-is 46 o.others (omega arith) both.1)))

  pub next-of : Next p s z
  next-of = by (goes_on false z) refl
    where
      by : (t : Bool) → goes_on false z ≡ t → Next p s z
      by true e = dotted-next e
      by false e = sync-next e
