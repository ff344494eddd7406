-- Each token of a text that is empty is a piece of a string, and a `#{` begins where it does. So at each token's start one begins that is not
-- empty.
use Rattle.std.proofs.Common.{◌≡◌, ℕ, zero, suc, ◌+◌, ◌<◌, ◌≤◌, ◌⊎◌, List, [], ◌∷◌, ◌++◌, Option, Some, None, inl, inr, refl, sym, ap, subst, append_assoc, arith}
use Rattle.srb_terms.specs.declared.span.Span.{Span}
use Rattle.std.specs.Str.{encode_utf8_all}
use Rattle.rb_tree.specs.Tokens.{shape_of}
use Rattle.rb_tree.specs.declared.token.Token.{Token}
use Rattle.rb_tree.specs.declared.token.TokenKind.TheVariants as kind
use Rattle.rb_tree.specs.declared.token.Shape.{Shape}
use Rattle.rb_tree.specs.declared.token.Shape.TheVariants as shape
use Rattle.rb_rules.specs.Lexes.{Lexes, Place, Reaches, OpenString, Spells, byte_len, kind_of}
use Rattle.rb_rules.specs.Tokens.{Is, IsOneOf}
use Rattle.rb_lex_laws.proofs.Refusals.{spells-begin}
use Rattle.rb_text_laws.specs.Texts.{IsToken}
use Rattle.rb_text_laws.proofs.Characters.{some-front}

-- ---- lists of tokens

-- the first token begins there, and is not empty
abbrev BeginsAt : ℕ → List Token → Type 0
BeginsAt at [] = ⊥
BeginsAt at (t ∷ ts) = (at ≡ t.span.start) × (t.span.start < t.span.end)

-- the token is not empty, or is a piece of a string with such a token after it
abbrev IsSeen : Token → List Token → Type 0
IsSeen t ts = (t.span.start < t.span.end) ⊎ (Is shape.Text t × BeginsAt t.span.start ts)

abbrev pub AreSeen : List Token → Type 0
AreSeen [] = Unit {0}
AreSeen (t ∷ ts) = IsSeen t ts × AreSeen ts

begins-more : (at : ℕ) (xs ys : List Token) → BeginsAt at xs → BeginsAt at (xs ++ ys)
begins-more at [] ys h = absurd h
begins-more at (x ∷ xs) ys h = h

seen-more : (t : Token) (xs ys : List Token) → IsSeen t xs → IsSeen t (xs ++ ys)
seen-more t xs ys (inl some) = inl some
seen-more t xs ys (inr (text, begins)) = inr (text, begins-more t.span.start xs ys begins)

seen-append : (xs ys : List Token) → AreSeen xs → AreSeen ys → AreSeen (xs ++ ys)
seen-append [] ys h k = k
seen-append (x ∷ xs) ys h k = (seen-more x xs ys h.0, seen-append xs ys h.1 k)

-- ---- the tokens of a text

order : (m n : ℕ) → m ≤ n → (m < n) ⊎ (m ≡ n)
order zero zero h = inr refl
order zero (suc n) h = inl (omega arith)
order (suc m) zero h = absurd (omega arith)
order (suc m) (suc n) h = next (order m n (omega arith))
  where
    next : (m < n) ⊎ (m ≡ n) → (suc m < suc n) ⊎ (suc m ≡ suc n)
    next (inl less) = inl (omega arith)
    next (inr same) = inr (ap suc same)

-- the tokens before a place are seen, and the open string's piece begins no later than the place
record AreSeenAt (p : Place) : Type 0 where
  pub tokens : AreSeen p.tokens
  pub piece : (o : OpenString) → p.string ≡ Some o → o.from ≤ p.at

no-string : {X : Type 0} (x : Option OpenString) (o : OpenString) → x ≡ None → x ≡ Some o → X
no-string x o e f = absurd (cc)

opened_of : OpenString → Option OpenString → OpenString
opened_of d (Some o) = o
opened_of d None = d

same-opened : (o q : OpenString) → (let x : Option OpenString = Some q in x ≡ Some o) → q ≡ o
unfolding opened_of
same-opened o q e = ap (opened_of q) e

spelling-some : (past : List Shape) (s : Shape) (w words rest : List ℕ) → Spells past s w words rest → 0 < byte_len w
spelling-some past s w words rest h =
    let b = spells-begin past s w words rest h in
    let e : byte_len w ≡ byte_len (b.0 ∷ b.1) = ap byte_len b.2 in
    let some = some-front b.0 b.1 in
    omega arith

one-more : (tokens : List Token) (t : Token) → AreSeen tokens → t.span.start < t.span.end → AreSeen (tokens ++ t ∷ [])
one-more tokens t h some = seen-append tokens (t ∷ []) h (inl some, tt)

piece-of : List ℕ → ℕ → ℕ → Token
piece-of w a b = record { kind = kind.Text (encode_utf8_all w); span = record { start = a; end = b } }

opening-of : ℕ → Token
opening-of a = record { kind = kind.Interpolation; span = record { start = a; end = a + 2 } }

-- a piece of a string and the `#{` after it
two-more : (tokens : List Token) (w : List ℕ) (from to : ℕ) → AreSeen tokens → from ≤ to → AreSeen ((tokens ++ piece-of w from (to + 0) ∷ []) ++ opening-of to ∷ [])
unfolding piece-of opening-of shape_of
two-more tokens w from to h le =
    let piece : Token = piece-of w from (to + 0) in
    let opening : Token = opening-of to in
    subst AreSeen (sym (append_assoc tokens (piece ∷ []) (opening ∷ []))) (seen-append tokens (piece ∷ opening ∷ []) h (by (order from to le), (inl (omega arith), tt)))
  where
    by : (from < to) ⊎ (from ≡ to) → (from < to + 0) ⊎ (Is shape.Text (piece-of w from (to + 0)) × ((from ≡ to) × (to < to + 2)))
    by (inl less) = inl (omega arith)
    by (inr same) = inr (refl, (same, omega arith))

seen : (text : List ℕ) (p : Place) (z : List ℕ) → Reaches text p z → AreSeenAt p
unfolding piece-of opening-of
seen text _ _ Reaches.First = record { tokens = tt; piece = λ o e. absurd (cc) }
seen text _ _ (Reaches.PastBlank p w rest r none b) = let h = seen text p (w ++ rest) r in record { tokens = h.tokens; piece = λ o e. no-string p.string o none e }
seen text _ _ (Reaches.PastComment p w rest r none b) = let h = seen text p (35 ∷ w ++ rest) r in record { tokens = h.tokens; piece = λ o e. no-string p.string o none e }
seen text _ _ (Reaches.Kept p rest r none keeps free) =
    let h = seen text p (10 ∷ rest) r in
    record { tokens = one-more p.tokens (record { kind = kind.Separator; span = record { start = p.at; end = p.at + 1 } }) h.tokens (omega arith); piece = λ o e. no-string p.string o none e }
seen text _ _ (Reaches.Dropped p rest r none why) = let h = seen text p (10 ∷ rest) r in record { tokens = h.tokens; piece = λ o e. no-string p.string o none e }
seen text _ _ (Reaches.Spelt p t w words rest r none l nf nw stays) =
    let h = seen text p (w ++ rest) r in
    let some = spelling-some _ t w words rest l.spells in
    record {
      tokens = one-more p.tokens (record { kind = kind_of t (encode_utf8_all words); span = record { start = p.at; end = p.at + byte_len w } }) h.tokens (omega arith);
      piece = λ o e. no-string p.string o none e;
    }
seen text _ _ (Reaches.Returns p outer opening rest r none ret outer_is) =
    let h = seen text p (125 ∷ rest) r in
    let some = some-front 125 [] in
    let q : OpenString = record { quote = 34; opening = opening; from = p.at + 1 } in
    record {
      tokens = one-more p.tokens (record { kind = kind_of shape.CloseBrace (encode_utf8_all []); span = record { start = p.at; end = p.at + byte_len (125 ∷ []) } }) h.tokens (omega arith);
      piece = λ o e. subst (λ (x : OpenString). x.from ≤ p.at + byte_len (125 ∷ [])) (same-opened o q e) (omega arith);
    }
seen text _ _ (Reaches.Opens p quote rest r none q) =
    let h = seen text p (quote ∷ rest) r in
    let here : OpenString = record { quote = quote; opening = p.at; from = p.at } in
    record { tokens = h.tokens; piece = λ o e. subst (λ (x : OpenString). x.from ≤ p.at + 1) (same-opened o here e) (omega arith) }
seen text _ _ (Reaches.Ends p o w rest r is content free) =
    let h = seen text p (w ++ o.quote ∷ rest) r in
    let from = h.piece o is in
    record { tokens = one-more p.tokens (piece-of w o.from (p.at + byte_len w + 1)) h.tokens (omega arith); piece = λ q e. absurd (cc) }
seen text _ _ (Reaches.Interpolates p o w rest r is quote content) =
    let h = seen text p (w ++ 35 ∷ 123 ∷ rest) r in
    let from = h.piece o is in
    record { tokens = two-more p.tokens w o.from (p.at + byte_len w) h.tokens (omega arith); piece = λ q e. absurd (cc) }

pub tokens-seen : (text : List ℕ) (tokens : List Token) → Lexes text tokens → AreSeen tokens
tokens-seen text tokens l = subst AreSeen l.tokens_are (seen text l.place [] l.reaches).tokens

-- ---- the token that is shown at an offset

here : (t : Token) (ts : List Token) → IsSeen t ts → (span : Span) × IsToken (t ∷ ts) t.span.start span
here t ts (inl some) = (t.span, record { token = t; is_one = inl refl; begins = refl; some = some; span_is = refl })
here t [] (inr (text, begins)) = absurd begins
here t (u ∷ ts) (inr (text, begins)) = (u.span, record { token = u; is_one = inr (inl refl); begins = begins.0; some = begins.1; span_is = refl })

later : (t : Token) (ts : List Token) (at : ℕ) (span : Span) → IsToken ts at span → IsToken (t ∷ ts) at span
later t ts at span h = record { token = h.token; is_one = inr h.is_one; begins = h.begins; some = h.some; span_is = h.span_is }

-- where a token begins one begins that is not empty
pub token-shown : (tokens : List Token) → AreSeen tokens → (t : Token) → IsOneOf tokens t → (span : Span) × IsToken tokens t.span.start span
token-shown [] each t h = absurd h
token-shown (u ∷ ts) each t (inl e) = subst (λ (v : Token). (span : Span) × IsToken (u ∷ ts) v.span.start span) (sym e) (here u ts each.0)
token-shown (u ∷ ts) each t (inr h) = let r = token-shown ts each.1 t h in (r.0, later u ts t.span.start r.0 r.1)

-- a token that is no piece of a string is not empty
pub token-some : (tokens : List Token) → AreSeen tokens → (t : Token) → IsOneOf tokens t → ¬ Is shape.Text t → t.span.start < t.span.end
token-some [] each t h other = absurd h
token-some (u ∷ ts) each t (inl e) other = by each.0
  where
    by : IsSeen u ts → t.span.start < t.span.end
    by (inl some) = subst (λ (v : Token). v.span.start < v.span.end) (sym e) some
    by (inr (text, begins)) = absurd (other (subst (λ (v : Token). Is shape.Text v) (sym e) text))
token-some (u ∷ ts) each t (inr h) other = token-some ts each.1 t h other
