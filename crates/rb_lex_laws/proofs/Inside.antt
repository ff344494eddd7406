-- Steps in strings, and the text's end.
use Rattle.std.proofs.Common.{◌≡◌, ℕ, ◌+◌, ◌<◌, ◌⊎◌, true, false, ◌||◌, List, [], ◌∷◌, ◌++◌, length, take, drop, Some, None, Result, Ok, Err, inl, inr, refl, sym, ap, subst, ◌∙◌, append_assoc, length-append, arith}
use Rattle.std.specs.Prelude.{is_some}
use Rattle.srb_text.specs.Positions.{byte_len}
use Rattle.rb_tree.specs.Tokens.{same_shape, shape_of}
use Rattle.rb_tree.specs.declared.token.Token.{Token}
use Rattle.rb_tree.specs.declared.token.TokenKind.{TokenKind}
use Rattle.rb_tree.specs.declared.token.TokenKind.TheVariants as kind
use Rattle.rb_tree.specs.declared.token.Shape.TheVariants as shape
use Rattle.rb_lex.specs.Lexed.{token_at, pushed, left, quoted, interpolated, string_step, step, is_inside, lexed_from}
use Rattle.rb_lex.specs.Pieces.{piece_of, is_touched}
use Rattle.rb_lex.specs.declared.piece.Stop.TheVariants as stop
use Rattle.rb_lex.specs.declared.piece.Piece.{Piece}
use Rattle.rb_lex.specs.declared.state.Opened.{Opened}
use Rattle.rb_lex.specs.declared.state.State.{State}
use Rattle.rb_lex.specs.declared.LexEnd.{LexEnd}
use Rattle.rb_lex.specs.declared.LexEnd.TheVariants.{Bad, Outside}
use Rattle.rb_rules.specs.Spellings.{Holds}
use Rattle.rb_rules.specs.Before.{frames}
use Rattle.rb_rules.specs.Lexes.{Place, past_of, pieced, IsContent, IsCutContent, IsTouched, interpolated as interpolates, OpenString}
use Rattle.rb_lex_laws.proofs.Lists.{if-true, if-false, false-of, left-or, take-front, drop-front}
use Rattle.rb_lex_laws.proofs.Encoded.{enc, enc-append, enc-cons, enc-front, enc-some}
use Rattle.rb_lex_laws.proofs.Steps.{step-string, refused, advance}
use Rattle.rb_lex_laws.proofs.Strings.{IsQuote, enc-len, quote-piece, interpolation-piece, foreign-piece, end-piece, touched-bytes, bytes-touched}
use Rattle.rb_lex_laws.proofs.Beside.{Stack, Matches, Fresh, fresh-matches, past-push, inside-open, open-inside, held_as, held_string}
use Rattle.rb_lex_laws.proofs.Landing.{Landed}

abbrev by_piece : Opened → ℕ → List ℕ → State → Piece → Result (ℕ × State) LexEnd
by_piece o at z s p =
    elim p.stop [
      | stop.Quote ↦ quoted o at p.len z s
      | stop.Interpolation ↦ interpolated o at p.len z s
      | stop.Foreign ↦ Err (Outside (at + p.len))
      | stop.End ↦ Err (Bad (at + p.len))
    ]

string-piece : (at : ℕ) (z : List ℕ) (s : State) (o : Opened) (p : Piece) → s.string ≡ Some o → piece_of o.quote z ≡ p → step at z s ≡ by_piece o at z s p
unfolding string_step
string-piece at z s o p e f = step-string at z s o e ∙ ap (by_piece o at z s) f

module _ (p : Place) (s : State) (z : List ℕ) (m : Matches p s z) (o : OpenString) (inside : p.string ≡ Some o) where
  open_is : s.string ≡ Some (held_as o)
  open_is = m.string_is ∙ ap held_string inside

  q : IsQuote o.quote
  q = m.quote_is o inside

  abbrev text_end : List ℕ → ℕ → TokenKind → State
  text_end w n k = left true (pushed k o.from (p.at + n + 1) s)

  text-fresh : (w : List ℕ) (n : ℕ) (k : TokenKind) → k ≡ kind.Text (enc w) → n ≡ byte_len w → Fresh (past_of (pieced o w 1 1 p)) (pieced o w 1 1 p).tokens (text_end w n k)
  unfolding shape_of same_shape
  text-fresh w n k e f =
      let push : past_of (pieced o w 1 1 p) ≡ shape.Text ∷ past_of p = past-push p.tokens (token_at (kind.Text (enc w)) o.from (p.at + byte_len w + 1)) in
      subst (λ past. Fresh past (pieced o w 1 1 p).tokens (text_end w n k)) (sym push)
      (record {
        tokens_are = ap (λ ts. ts ++ token_at k o.from (p.at + n + 1) ∷ []) (m.inner o inside) ∙ ap (λ x. p.tokens ++ token_at x o.from (p.at + n + 1) ∷ []) e ∙ ap (λ x. p.tokens ++ token_at (kind.Text (enc w)) o.from (p.at + x + 1) ∷ []) f;
        mark_is = refl;
        before_is = refl;
        last_is = refl;
        keeps_is = refl;
        bars_is = m.bars_is;
        blank_is = refl;
        fresh_is = refl;
      })

  -- a string ends
  pub ends : (w rest : List ℕ) → w ++ o.quote ∷ rest ≡ z → IsContent o.quote w (o.quote ∷ rest) → ¬ IsTouched rest → Landed p p.at s (enc z) (pieced o w 1 1 p) rest
  unfolding shape_of same_shape
  ends w rest whole content free =
      let n = length (enc w) in
      let k : TokenKind = kind.Text (take n (enc z)) in
      let more : State = text_end w n k in
      let push : past_of (pieced o w 1 1 p) ≡ shape.Text ∷ past_of p = past-push p.tokens (token_at (kind.Text (enc w)) o.from (p.at + byte_len w + 1)) in (
        more,
        run,
        fresh-matches (pieced o w 1 1 p) more rest (text-fresh w n k (ap kind.Text text_is) (enc-len w)) refl refl refl (λ x e. absurd (cc)) (subst (λ past. Stack s.nesting (frames past) p.outer) (sym push) m.stack),
      )
    where
      low : IsQuote o.quote → o.quote < 128
      low (inl e) = omega arith
      low (inr e) = omega arith

      front : enc z ≡ enc w ++ (o.quote ∷ enc rest)
      front = ap enc (sym whole) ∙ enc-append w (o.quote ∷ rest) ∙ ap (λ y. enc w ++ y) (enc-cons o.quote rest (low q))

      parts : enc z ≡ (enc w ++ o.quote ∷ []) ++ enc rest
      parts = front ∙ sym (append_assoc (enc w) (o.quote ∷ []) (enc rest))

      long : length (enc w ++ o.quote ∷ []) ≡ length (enc w) + 1
      long = length-append (enc w) (o.quote ∷ [])

      text_is : take (length (enc w)) (enc z) ≡ enc w
      text_is = ap (take (length (enc w))) front ∙ take-front (enc w) (o.quote ∷ enc rest)

      after_is : drop (length (enc w) + 1) (enc z) ≡ enc rest
      after_is = ap (drop (length (enc w) + 1)) parts ∙ ap (λ k. drop k ((enc w ++ o.quote ∷ []) ++ enc rest)) (sym long) ∙ drop-front (enc w ++ o.quote ∷ []) (enc rest)

      stepped : step p.at (enc z) s ≡ Ok (length (enc w) + 1, text_end w (length (enc w)) (kind.Text (take (length (enc w)) (enc z))))
      stepped =
          string-piece p.at (enc z) s (held_as o) (record { stop = stop.Quote; len = length (enc w) }) open_is (ap (λ y. piece_of o.quote (enc y)) (sym whole) ∙ quote-piece o.quote w rest q content)
          ∙ if-false (is_touched (drop (length (enc w) + 1) (enc z))) (Err (Outside o.opening)) _ (ap is_touched after_is ∙ false-of (is_touched (enc rest)) (λ t. free (bytes-touched rest t)))

      some : 0 < length (enc w ++ o.quote ∷ [])
      some = let l = long in omega arith

      at : p.at + length (enc w ++ o.quote ∷ []) ≡ p.at + byte_len w + 1
      at = let l = long in let b = enc-len w in omega arith

      run : lexed_from 0 p.at s (enc z) ≡ lexed_from 0 (p.at + byte_len w + 1) (text_end w (length (enc w)) (kind.Text (take (length (enc w)) (enc z)))) (enc rest)
      run =
          ap (lexed_from 0 p.at s) parts
          ∙ advance (enc w ++ o.quote ∷ []) (enc rest) p.at s (text_end w (length (enc w)) (kind.Text (take (length (enc w)) (enc z)))) some
          (ap (λ y. step p.at y s) (sym parts) ∙ stepped ∙ ap (λ k. let r : Result (ℕ × State) LexEnd = Ok (k, text_end w (length (enc w)) (kind.Text (take (length (enc w)) (enc z)))) in r) (sym long))
          ∙ ap (λ k. lexed_from 0 k (text_end w (length (enc w)) (kind.Text (take (length (enc w)) (enc z)))) (enc rest)) at

  -- it is touched by a `:`
  pub touched : (w rest : List ℕ) → w ++ o.quote ∷ rest ≡ z → IsContent o.quote w (o.quote ∷ rest) → IsTouched rest → lexed_from 0 p.at s (enc z) ≡ Err (Outside o.opening)
  touched w rest whole content touch =
      let some = enc-first-of w o.quote rest (low q) in
      ap (lexed_from 0 p.at s) (front ∙ some.2)
      ∙ refused p.at some.0 some.1 s (Outside o.opening) (ap (λ y. step p.at y s) (sym (front ∙ some.2)) ∙ stepped)
    where
      low : IsQuote o.quote → o.quote < 128
      low (inl e) = omega arith
      low (inr e) = omega arith

      front : enc z ≡ enc w ++ (o.quote ∷ enc rest)
      front = ap enc (sym whole) ∙ enc-append w (o.quote ∷ rest) ∙ ap (λ y. enc w ++ y) (enc-cons o.quote rest (low q))

      parts : enc z ≡ (enc w ++ o.quote ∷ []) ++ enc rest
      parts = front ∙ sym (append_assoc (enc w) (o.quote ∷ []) (enc rest))

      after_is : drop (length (enc w) + 1) (enc z) ≡ enc rest
      after_is = ap (drop (length (enc w) + 1)) parts ∙ ap (λ k. drop k ((enc w ++ o.quote ∷ []) ++ enc rest)) (sym (length-append (enc w) (o.quote ∷ []))) ∙ drop-front (enc w ++ o.quote ∷ []) (enc rest)

      enc-first-of : (w : List ℕ) (c : ℕ) (rest : List ℕ) → c < 128 → (b : ℕ) × (y : List ℕ) × (enc w ++ (c ∷ enc rest) ≡ b ∷ y)
      enc-first-of [] c rest low = (c, enc rest, refl)
      enc-first-of (d ∷ w) c rest low = let e = enc-some d w in (e.0, e.1 ++ (c ∷ enc rest), ap (λ v. v ++ (c ∷ enc rest)) e.2)

      stepped : step p.at (enc z) s ≡ Err (Outside o.opening)
      stepped =
          string-piece p.at (enc z) s (held_as o) (record { stop = stop.Quote; len = length (enc w) }) open_is (ap (λ y. piece_of o.quote (enc y)) (sym whole) ∙ quote-piece o.quote w rest q content)
          ∙ if-true (is_touched (drop (length (enc w) + 1) (enc z))) (Err (Outside o.opening)) _ (ap is_touched after_is ∙ touched-bytes rest touch)

  abbrev hashed : ℕ → TokenKind → State
  hashed n k =
      let both = pushed kind.Interpolation (p.at + n) (p.at + n + 2) (pushed k o.from (p.at + n) s) in
      left false (record both { nesting = both.nesting ++ Some o.opening ∷ [] })

  -- an interpolation begins
  pub begins : (w rest : List ℕ) → o.quote ≡ 34 → w ++ 35 ∷ 123 ∷ rest ≡ z → IsContent 34 w (35 ∷ 123 ∷ rest) → Landed p p.at s (enc z) (interpolates o w p) rest
  unfolding shape_of same_shape
  begins w rest quote whole content =
      let n = length (enc w) in
      let k : TokenKind = kind.Text (take n (enc z)) in (
        hashed n k,
        run,
        fresh-matches (interpolates o w p) (hashed n k) rest fresh refl refl refl (λ x e. absurd (cc)) (subst (λ past. Stack (s.nesting ++ Some o.opening ∷ []) (frames past) (o.opening ∷ p.outer)) (sym push) (Stack.Interpolation s.nesting (frames (past_of p)) p.outer o.opening m.stack)),
      )
    where
      front : enc z ≡ enc w ++ (35 ∷ 123 ∷ enc rest)
      front = ap enc (sym whole) ∙ enc-append w (35 ∷ 123 ∷ rest) ∙ ap (λ y. enc w ++ y) (enc-front (35 ∷ 123 ∷ []) rest refl)

      parts : enc z ≡ (enc w ++ 35 ∷ 123 ∷ []) ++ enc rest
      parts = front ∙ sym (append_assoc (enc w) (35 ∷ 123 ∷ []) (enc rest))

      long : length (enc w ++ 35 ∷ 123 ∷ []) ≡ length (enc w) + 2
      long = length-append (enc w) (35 ∷ 123 ∷ [])

      text_is : take (length (enc w)) (enc z) ≡ enc w
      text_is = ap (take (length (enc w))) front ∙ take-front (enc w) (35 ∷ 123 ∷ enc rest)

      push : past_of (interpolates o w p) ≡ shape.Interpolation ∷ shape.Text ∷ past_of p
      push =
          past-push (pieced o w 0 2 p).tokens (token_at kind.Interpolation (p.at + byte_len w) (p.at + byte_len w + 2))
          ∙ ap (λ past. shape.Interpolation ∷ past) (past-push p.tokens (token_at (kind.Text (enc w)) o.from (p.at + byte_len w + 0)))

      zeroed : p.at + length (enc w) ≡ p.at + byte_len w + 0
      zeroed = let b = enc-len w in omega arith

      tokens_are : (s.tokens ++ token_at (kind.Text (take (length (enc w)) (enc z))) o.from (p.at + length (enc w)) ∷ []) ++ token_at kind.Interpolation (p.at + length (enc w)) (p.at + length (enc w) + 2) ∷ [] ≡ (interpolates o w p).tokens
      tokens_are =
          ap (λ ts. (ts ++ token_at (kind.Text (take (length (enc w)) (enc z))) o.from (p.at + length (enc w)) ∷ []) ++ token_at kind.Interpolation (p.at + length (enc w)) (p.at + length (enc w) + 2) ∷ []) (m.inner o inside)
          ∙ ap (λ x. (p.tokens ++ token_at (kind.Text x) o.from (p.at + length (enc w)) ∷ []) ++ token_at kind.Interpolation (p.at + length (enc w)) (p.at + length (enc w) + 2) ∷ []) text_is
          ∙ ap (λ x. (p.tokens ++ token_at (kind.Text (enc w)) o.from x ∷ []) ++ token_at kind.Interpolation (p.at + length (enc w)) (p.at + length (enc w) + 2) ∷ []) zeroed
          ∙ ap (λ x. (p.tokens ++ token_at (kind.Text (enc w)) o.from (p.at + byte_len w + 0) ∷ []) ++ token_at kind.Interpolation (p.at + x) (p.at + x + 2) ∷ []) (enc-len w)

      fresh : Fresh (past_of (interpolates o w p)) (interpolates o w p).tokens (hashed (length (enc w)) (kind.Text (take (length (enc w)) (enc z))))
      fresh =
          subst (λ past. Fresh past (interpolates o w p).tokens (hashed (length (enc w)) (kind.Text (take (length (enc w)) (enc z))))) (sym push)
          (record { tokens_are = tokens_are; mark_is = refl; before_is = refl; last_is = refl; keeps_is = refl; bars_is = m.bars_is; blank_is = refl; fresh_is = refl })

      stepped : step p.at (enc z) s ≡ Ok (length (enc w) + 2, hashed (length (enc w)) (kind.Text (take (length (enc w)) (enc z))))
      stepped =
          string-piece p.at (enc z) s (held_as o) (record { stop = stop.Interpolation; len = length (enc w) }) open_is (ap (λ c. piece_of c (enc z)) quote ∙ ap (λ y. piece_of 34 (enc y)) (sym whole) ∙ interpolation-piece w rest content)

      some : 0 < length (enc w ++ 35 ∷ 123 ∷ [])
      some = let l = long in omega arith

      at : p.at + length (enc w ++ 35 ∷ 123 ∷ []) ≡ p.at + byte_len w + 2
      at = let l = long in let b = enc-len w in omega arith

      run : lexed_from 0 p.at s (enc z) ≡ lexed_from 0 (p.at + byte_len w + 2) (hashed (length (enc w)) (kind.Text (take (length (enc w)) (enc z)))) (enc rest)
      run =
          ap (lexed_from 0 p.at s) parts
          ∙ advance (enc w ++ 35 ∷ 123 ∷ []) (enc rest) p.at s (hashed (length (enc w)) (kind.Text (take (length (enc w)) (enc z)))) some
          (ap (λ y. step p.at y s) (sym parts) ∙ stepped ∙ ap (λ k. let r : Result (ℕ × State) LexEnd = Ok (k, hashed (length (enc w)) (kind.Text (take (length (enc w)) (enc z)))) in r) (sym long))
          ∙ ap (λ k. lexed_from 0 k (hashed (length (enc w)) (kind.Text (take (length (enc w)) (enc z)))) (enc rest)) at

  some-byte : (c : ℕ) (w rest : List ℕ) → (b : ℕ) × (y : List ℕ) × (enc (w ++ c ∷ rest) ≡ b ∷ y)
  some-byte c [] rest = enc-some c rest
  some-byte c (d ∷ w) rest = enc-some d (w ++ c ∷ rest)

  -- a variable in the string
  pub foreign : (w rest : List ℕ) (c : ℕ) → o.quote ≡ 34 → (c ≡ 64) ⊎ (c ≡ 36) → w ++ 35 ∷ c ∷ rest ≡ z → IsContent 34 w (35 ∷ c ∷ rest) → lexed_from 0 p.at s (enc z) ≡ Err (Outside (p.at + byte_len w))
  foreign w rest c quote either whole content =
      let some = some-byte 35 w (c ∷ rest) in
      let front : enc z ≡ some.0 ∷ some.1 = ap enc (sym whole) ∙ some.2 in
      ap (lexed_from 0 p.at s) front
      ∙ refused p.at some.0 some.1 s (Outside (p.at + length (enc w)))
      (ap (λ y. step p.at y s) (sym front)
      ∙ string-piece p.at (enc z) s (held_as o) (record { stop = stop.Foreign; len = length (enc w) }) open_is (ap (λ d. piece_of d (enc z)) quote ∙ ap (λ y. piece_of 34 (enc y)) (sym whole) ∙ foreign-piece w rest c either content))
      ∙ ap (λ k. let r : Result (List Token) LexEnd = Err (Outside (p.at + k)) in r) (enc-len w)

  -- the text's end in the string
  pub cut-off : (IsContent o.quote z [] ⊎ IsCutContent o.quote z) → lexed_from 0 p.at s (enc z) ≡ Err (Bad (p.at + byte_len z))
  cut-off content = by z refl
    where
      by : (y : List ℕ) → y ≡ z → lexed_from 0 p.at s (enc z) ≡ Err (Bad (p.at + byte_len z))
      by [] e =
          let zeroed : p.at ≡ p.at + byte_len [] = at-none in
          ap (λ y. lexed_from 0 p.at s (enc y)) (sym e) ∙ if-true (is_some s.string || is_inside s.nesting) (Err (Bad p.at)) (Ok s.tokens) (left-or (is_some s.string) (is_inside s.nesting) (ap is_some open_is))
          ∙ ap (λ k. let r : Result (List Token) LexEnd = Err (Bad k) in r) zeroed ∙ ap (λ y. let r : Result (List Token) LexEnd = Err (Bad (p.at + byte_len y)) in r) e
        where
          at-none : p.at ≡ p.at + byte_len []
          at-none = let b = enc-len [] in let c : length (enc []) ≡ 0 = refl in omega arith
      by (c ∷ y) e =
          let some = enc-some c y in
          let front : enc z ≡ some.0 ∷ some.1 = ap enc (sym e) ∙ some.2 in
          ap (lexed_from 0 p.at s) front
          ∙ refused p.at some.0 some.1 s (Bad (p.at + length (enc z)))
          (ap (λ x. step p.at x s) (sym front) ∙ string-piece p.at (enc z) s (held_as o) (record { stop = stop.End; len = length (enc z) }) open_is (end-piece o.quote z q content))
          ∙ ap (λ k. let r : Result (List Token) LexEnd = Err (Bad (p.at + k)) in r) (enc-len z)

-- ---- the text's end outside strings

module _ (p : Place) (s : State) (m : Matches p s []) (none : p.string ≡ None) where
  code : s.string ≡ None
  code = m.string_is ∙ ap held_string none

  pub whole-end : ¬ Holds true (frames (past_of p)) → lexed_from 0 p.at s [] ≡ Ok p.tokens
  whole-end closed =
      if-false (is_some s.string || is_inside s.nesting) (Err (Bad p.at)) (Ok s.tokens)
      (ap (λ x. is_some x || is_inside s.nesting) code ∙ false-of (is_inside s.nesting) (λ t. closed (inside-open s.nesting (frames (past_of p)) p.outer m.stack t)))
      ∙ ap (λ ts. let r : Result (List Token) LexEnd = Ok ts in r) (m.sync none refl).tokens_are

  pub open-end : Holds true (frames (past_of p)) → lexed_from 0 p.at s [] ≡ Err (Bad p.at)
  open-end held =
      if-true (is_some s.string || is_inside s.nesting) (Err (Bad p.at)) (Ok s.tokens)
      (ap (λ x. is_some x || is_inside s.nesting) code ∙ open-inside s.nesting (frames (past_of p)) p.outer m.stack held)
