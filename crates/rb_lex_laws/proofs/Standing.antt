-- Where tokens and refused places stand: at characters, one after the other.
use Rattle.std.proofs.Common.{◌≡◌, ℕ, ◌+◌, ◌-◌, ◌<◌, ◌≤◌, ◌⊎◌, Bool, true, false, nat_le, List, [], ◌∷◌, ◌++◌, length, Option, Some, None, inl, inr, refl, sym, ap, subst, ◌∙◌, append_assoc, arith}
use Rattle.std.specs.Char.{len_utf8}
use Rattle.std.proofs.lemmas.List.Sums.{sum_by-append, sum_by-cons}
use Rattle.std.proofs.lemmas.Str.{length-encode}
use Rattle.std.proofs.lemmas.Bool.Decides.{nat_tests}
use Rattle.srb_text.specs.Positions.{byte_len, fitting, IsStart}
use Rattle.rb_tree.specs.declared.token.Token.{Token}
use Rattle.std.specs.Str.{encode_utf8_all}
use Rattle.rb_tree.specs.declared.token.TokenKind.TheVariants as kind
use Rattle.rb_tree.specs.declared.token.Shape.TheVariants as shape
use Rattle.rb_rules.specs.Lexes.{Place, Reaches, OutsideAt, BadCharAt, passed, spelt, pieced, begins_line, interpolated as interpolates, OpenString, kind_of}
use Rattle.rb_lex_laws.specs.Tokens.{StandInOrder, TokensStandAtCharacters, RefusedPlacesAreStarts}
use Rattle.rb_lex_laws.proofs.Lists.{if-true, if-false}
use Rattle.rb_lex_laws.proofs.Strings.{lead, enc-len}
use Rattle.rb_lex_laws.proofs.Encoded.{enc-cons}
use Rattle.rb_lex_laws.proofs.Told.{tokens-told, outside-told, bad-told}

-- ---- starts of characters

some-bytes : (c : ℕ) → 1 ≤ len_utf8 c
some-bytes c = let e = length-encode c in let f = ap length (lead c).is in omega arith

fit : (takes budget : ℕ) → takes ≤ budget → nat_le takes budget ≡ true
fit takes budget h = grind (arith, nat_tests)

unfit : (takes budget : ℕ) → budget < takes → nat_le takes budget ≡ false
unfit takes budget h = grind (arith, nat_tests)

fitting-front : (front z : List ℕ) → byte_len (fitting len_utf8 (byte_len front) (front ++ z)) ≡ byte_len front
fitting-front [] [] = refl
fitting-front [] (c ∷ z) =
    let some = some-bytes c in
    let none : nat_le (len_utf8 c) 0 ≡ false = unfit (len_utf8 c) 0 (omega arith) in
    ap byte_len (if-false (nat_le (len_utf8 c) 0) (c ∷ fitting len_utf8 (0 - len_utf8 c) z) [] none)
fitting-front (c ∷ front) z =
    let sum : byte_len (c ∷ front) ≡ len_utf8 c + byte_len front = sum_by-cons len_utf8 c front in
    let left : len_utf8 c + byte_len front - len_utf8 c ≡ byte_len front = omega arith in
    let more = fitting-front front z in
    ap (λ n. byte_len (fitting len_utf8 n (c ∷ (front ++ z)))) sum
    ∙ ap byte_len (if-true (nat_le (len_utf8 c) (len_utf8 c + byte_len front)) (c ∷ fitting len_utf8 (len_utf8 c + byte_len front - len_utf8 c) (front ++ z)) [] (fit (len_utf8 c) (len_utf8 c + byte_len front) (omega arith)))
    ∙ ap (λ n. byte_len (c ∷ fitting len_utf8 n (front ++ z))) left
    ∙ sum_by-cons len_utf8 c (fitting len_utf8 (byte_len front) (front ++ z)) ∙ ap (λ n. len_utf8 c + n) more ∙ sym sum

start-of : (text front z : List ℕ) (at : ℕ) → front ++ z ≡ text → byte_len front ≡ at → IsStart text at
start-of text front z at e f = subst (IsStart text) f (subst (λ t. IsStart t (byte_len front)) e (fitting-front front z))

-- ---- tokens in order

abbrev end_of : ℕ → List Token → ℕ
end_of from [] = from
end_of from (t ∷ tokens) = end_of t.span.end tokens

end-push : (from : ℕ) (tokens : List Token) (t : Token) → end_of from (tokens ++ t ∷ []) ≡ t.span.end
end-push from [] t = refl
end-push from (u ∷ tokens) t = end-push u.span.end tokens t

push : (text : List ℕ) (from : ℕ) (tokens : List Token) (t : Token) → StandInOrder text from tokens → end_of from tokens ≤ t.span.start → t.span.start ≤ t.span.end → IsStart text t.span.start → IsStart text t.span.end → StandInOrder text from (tokens ++ t ∷ [])
push text from [] t h after order start end = (after, order, start, end, tt)
push text from (u ∷ tokens) t h after order start end = (h.0, h.1, h.2, h.3, push text u.span.end tokens t h.4 after order start end)

abbrev limit : Place → ℕ
limit p = elim p.string [ None ↦ p.at | Some o ↦ o.from ]

abbrev AllStart : List ℕ → List ℕ → Type 0
AllStart text [] = Unit {0}
AllStart text (at ∷ places) = IsStart text at × AllStart text places

record Stood (text : List ℕ) (p : Place) (z : List ℕ) : Type 0 where
  pub front : List ℕ
  pub whole : front ++ z ≡ text
  pub at_is : byte_len front ≡ p.at
  pub tokens : StandInOrder text 0 p.tokens
  pub last : end_of 0 p.tokens ≤ limit p
  pub string : (o : OpenString) → p.string ≡ Some o → IsStart text o.from × IsStart text o.opening × (o.from ≤ p.at)
  pub outer : AllStart text p.outer

low-len : (c : ℕ) → c < 128 → byte_len (c ∷ []) ≡ 1
low-len c h = sym (enc-len (c ∷ [])) ∙ ap length (enc-cons c [] h)

-- an offset further on
further : (text : List ℕ) (p : Place) (w rest : List ℕ) → Stood text p (w ++ rest) → IsStart text (p.at + byte_len w)
further text p w rest s =
    start-of text (s.front ++ w) rest (p.at + byte_len w) (append_assoc s.front w rest ∙ s.whole) (sum_by-append len_utf8 s.front w ∙ ap (λ n. n + byte_len w) s.at_is)

here : (text : List ℕ) (p : Place) (z : List ℕ) → Stood text p z → IsStart text p.at
here text p z s = start-of text s.front z p.at s.whole s.at_is

code-last : (text : List ℕ) (p : Place) (z : List ℕ) → Stood text p z → p.string ≡ None → end_of 0 p.tokens ≤ p.at
code-last text p z s none = subst (λ x. end_of 0 p.tokens ≤ elim x [ None ↦ p.at | Some o ↦ o.from ]) none s.last

string-last : (text : List ℕ) (p : Place) (z : List ℕ) (o : OpenString) → Stood text p z → p.string ≡ Some o → end_of 0 p.tokens ≤ o.from
string-last text p z o s is = subst (λ x. end_of 0 p.tokens ≤ elim x [ None ↦ p.at | Some q ↦ q.from ]) is s.last

no-string : {X : Type 0} (x : Option OpenString) (o : OpenString) → x ≡ None → x ≡ Some o → X
no-string x o e f = absurd (cc)

-- after characters that are no token
on : (text : List ℕ) (p : Place) (w rest : List ℕ) (start : Bool) → Stood text p (w ++ rest) → p.string ≡ None → Stood text (passed w start p) rest
on text p w rest start s none =
    let last = code-last text p (w ++ rest) s none in
    record {
      front = s.front ++ w;
      whole = append_assoc s.front w rest ∙ s.whole;
      at_is = sum_by-append len_utf8 s.front w ∙ ap (λ n. n + byte_len w) s.at_is;
      tokens = s.tokens;
      last = subst (λ x. end_of 0 p.tokens ≤ elim x [ None ↦ p.at + byte_len w | Some o ↦ o.from ]) (sym none) (omega arith);
      string = λ o e. no-string p.string o none e;
      outer = s.outer;
    }

-- after a token that ends where the next place is
token-on : (text : List ℕ) (p q : Place) (w rest : List ℕ) (t : Token) → Stood text p (w ++ rest) → q.at ≡ p.at + byte_len w → q.tokens ≡ p.tokens ++ t ∷ [] → q.string ≡ None → q.outer ≡ p.outer
    → end_of 0 p.tokens ≤ t.span.start → t.span.start ≤ t.span.end → IsStart text t.span.start → t.span.end ≡ q.at → Stood text q rest
token-on text p q w rest t s at tokens none outer after order start end =
    let there : IsStart text q.at = subst (IsStart text) (sym at) (further text p w rest s) in
    record {
      front = s.front ++ w;
      whole = append_assoc s.front w rest ∙ s.whole;
      at_is = sum_by-append len_utf8 s.front w ∙ ap (λ n. n + byte_len w) s.at_is ∙ sym at;
      tokens = subst (StandInOrder text 0) (sym tokens) (push text 0 p.tokens t s.tokens after order start (subst (IsStart text) (sym end) there));
      last = subst (λ x. end_of 0 q.tokens ≤ elim x [ None ↦ q.at | Some o ↦ o.from ]) (sym none) (let e = ap (end_of 0) tokens ∙ end-push 0 p.tokens t ∙ end in omega arith);
      string = λ o e. no-string q.string o none e;
      outer = subst (AllStart text) (sym outer) s.outer;
    }

spelt-on : (text : List ℕ) (p : Place) (w rest : List ℕ) (q : Place) (t : Token) → Stood text p (w ++ rest) → p.string ≡ None → q.at ≡ p.at + byte_len w → q.tokens ≡ p.tokens ++ t ∷ [] → q.string ≡ None → q.outer ≡ p.outer → t.span.start ≡ p.at → t.span.end ≡ p.at + byte_len w → Stood text q rest
spelt-on text p w rest q t s none at tokens plain outer start end =
    let last = code-last text p (w ++ rest) s none in
    token-on text p q w rest t s at tokens plain outer (omega arith) (omega arith) (subst (IsStart text) (sym start) (here text p (w ++ rest) s)) (end ∙ sym at)

-- at the `#{` of an interpolation
interpolated-on : (text : List ℕ) (p : Place) (o : OpenString) (w rest : List ℕ) → Stood text p (w ++ 35 ∷ 123 ∷ rest) → p.string ≡ Some o → Stood text (interpolates o w p) rest
interpolated-on text p o w rest s is =
    let inside = s.string o is in
    let last = string-last text p (w ++ 35 ∷ 123 ∷ rest) o s is in
    let from_in = inside.2 in
    let two : byte_len (35 ∷ 123 ∷ []) ≡ 2 = sym (enc-len (35 ∷ 123 ∷ [])) ∙ ap length (enc-cons 35 (123 ∷ []) (omega arith) ∙ ap (λ y. 35 ∷ y) (enc-cons 123 [] (omega arith))) in
    let size : byte_len (w ++ 35 ∷ 123 ∷ []) ≡ byte_len w + byte_len (35 ∷ 123 ∷ []) = sum_by-append len_utf8 w (35 ∷ 123 ∷ []) in
    let all : (w ++ 35 ∷ 123 ∷ []) ++ rest ≡ w ++ 35 ∷ 123 ∷ rest = append_assoc w (35 ∷ 123 ∷ []) rest in
    let mid : IsStart text (p.at + byte_len w) = further text p w (35 ∷ 123 ∷ rest) s in
    let zeroed : p.at + byte_len w ≡ p.at + byte_len w + 0 = omega arith in
    let longer : p.at + byte_len w + 2 ≡ p.at + byte_len (w ++ 35 ∷ 123 ∷ []) = omega arith in
    let end : IsStart text (p.at + byte_len w + 2) = subst (IsStart text) (sym longer) (further text p (w ++ 35 ∷ 123 ∷ []) rest (subst (Stood text p) (sym all) s)) in
    let first : Token = record { kind = kind.Text (encode_utf8_all w); span = record { start = o.from; end = p.at + byte_len w + 0 } } in
    let second : Token = record { kind = kind.Interpolation; span = record { start = p.at + byte_len w; end = p.at + byte_len w + 2 } } in
    let one = push text 0 p.tokens first s.tokens last (omega arith) inside.0 (subst (IsStart text) zeroed mid) in
    let at_end = end-push 0 p.tokens first in
    record {
      front = s.front ++ (w ++ 35 ∷ 123 ∷ []);
      whole = append_assoc s.front (w ++ 35 ∷ 123 ∷ []) rest ∙ ap (λ y. s.front ++ y) all ∙ s.whole;
      at_is = sum_by-append len_utf8 s.front (w ++ 35 ∷ 123 ∷ []) ∙ (let a = s.at_is in omega arith);
      tokens = push text 0 (p.tokens ++ first ∷ []) second one (omega arith) (omega arith) mid end;
      last = (let e = end-push 0 (p.tokens ++ first ∷ []) second in omega arith);
      string = λ q e. absurd (cc);
      outer = (inside.1, s.outer);
    }

ended-on : (text : List ℕ) (p : Place) (o : OpenString) (w rest : List ℕ) → o.quote < 128 → Stood text p (w ++ o.quote ∷ rest) → p.string ≡ Some o → Stood text (pieced o w 1 1 p) rest
ended-on text p o w rest low s is =
    let inside = s.string o is in
    let last = string-last text p (w ++ o.quote ∷ rest) o s is in
    let from_in = inside.2 in
    let size : byte_len (w ++ o.quote ∷ []) ≡ byte_len w + byte_len (o.quote ∷ []) = sum_by-append len_utf8 w (o.quote ∷ []) in
    let one = low-len o.quote low in
    let all : (w ++ o.quote ∷ []) ++ rest ≡ w ++ o.quote ∷ rest = append_assoc w (o.quote ∷ []) rest in
    token-on text p (pieced o w 1 1 p) (w ++ o.quote ∷ []) rest (record { kind = kind.Text (encode_utf8_all w); span = record { start = o.from; end = p.at + byte_len w + 1 } })
    (subst (Stood text p) (sym all) s) (omega arith) refl refl refl last (omega arith) inside.0 refl

opened_of : OpenString → Option OpenString → OpenString
opened_of d (Some o) = o
opened_of d None = d

same-opened : (o q : OpenString) → (let x : Option OpenString = Some q in x ≡ Some o) → q ≡ o
unfolding opened_of
same-opened o q e = ap (opened_of q) e

quote-low : (o q : OpenString) → (let x : Option OpenString = Some q in x ≡ Some o) → q.quote < 128 → o.quote < 128
quote-low o q e h = subst (λ (x : OpenString). x.quote < 128) (same-opened o q e) h

opened-as : (text : List ℕ) (o q : OpenString) (at : ℕ) → (let x : Option OpenString = Some q in x ≡ Some o) → IsStart text q.from → IsStart text q.opening → q.from ≤ at → IsStart text o.from × IsStart text o.opening × (o.from ≤ at)
opened-as text o q at e from opening h = subst (λ (x : OpenString). IsStart text x.from × IsStart text x.opening × (x.from ≤ at)) (same-opened o q e) (from, opening, h)

stood : (text : List ℕ) (p : Place) (z : List ℕ) → Reaches text p z → Stood text p z × ((o : OpenString) → p.string ≡ Some o → o.quote < 128)
stood text _ _ Reaches.First = (record { front = []; whole = refl; at_is = refl; tokens = tt; last = omega arith; string = λ o e. absurd (cc); outer = tt }, λ o e. absurd (cc))
stood text _ _ (Reaches.PastBlank p w rest r none b) = let s = stood text p (w ++ rest) r in (on text p w rest (begins_line w) s.0 none, s.1)
stood text _ _ (Reaches.PastComment p w rest r none c) = let s = stood text p (35 ∷ w ++ rest) r in (on text p (35 ∷ w) rest false s.0 none, s.1)
stood text _ _ (Reaches.Kept p rest r none keeps free) =
    let s = stood text p (10 ∷ rest) r in
    let n : p.at + 1 ≡ p.at + byte_len (10 ∷ []) = ap (λ k. p.at + k) (sym (low-len 10 (omega arith))) in
    (spelt-on text p (10 ∷ []) rest (passed (10 ∷ []) true (record p { tokens = p.tokens ++ record { kind = kind.Separator; span = record { start = p.at; end = p.at + 1 } } ∷ [] })) (record { kind = kind.Separator; span = record { start = p.at; end = p.at + 1 } }) s.0 none refl refl none refl refl n, s.1)
stood text _ _ (Reaches.Dropped p rest r none why) = let s = stood text p (10 ∷ rest) r in (on text p (10 ∷ []) rest true s.0 none, s.1)
stood text _ _ (Reaches.Spelt p t w words rest r none l nf nw stays) =
    let s = stood text p (w ++ rest) r in
    (spelt-on text p w rest (spelt t w words p) (record { kind = kind_of t (encode_utf8_all words); span = record { start = p.at; end = p.at + byte_len w } }) s.0 none refl refl none refl refl refl, s.1)
stood text _ _ (Reaches.Returns p outer opening rest r none ret outer_is) =
    let s = (stood text p (125 ∷ rest) r).0 in
    let q = spelt-on text p (125 ∷ []) rest (spelt shape.CloseBrace (125 ∷ []) [] p) (record { kind = kind_of shape.CloseBrace (encode_utf8_all []); span = record { start = p.at; end = p.at + byte_len (125 ∷ []) } }) s none refl refl none refl refl refl in
    let one = low-len 125 (omega arith) in
    let next : IsStart text (p.at + 1) = subst (λ k. IsStart text (p.at + k)) one (here text (spelt shape.CloseBrace (125 ∷ []) [] p) rest q) in
    let open_ = subst (AllStart text) outer_is s.outer in
    let last = code-last text (spelt shape.CloseBrace (125 ∷ []) [] p) rest q none in (
      record {
        front = q.front;
        whole = q.whole;
        at_is = q.at_is;
        tokens = q.tokens;
        last = omega arith;
        string = λ o e. opened-as text o (record { quote = 34; opening = opening; from = p.at + 1 }) (p.at + byte_len (125 ∷ [])) e next open_.0 (omega arith);
        outer = open_.1;
      },
      λ o e. quote-low o (record { quote = 34; opening = opening; from = p.at + 1 }) e (omega arith),
    )
stood text _ _ (Reaches.Opens p quote rest r none q) =
    let s = (stood text p (quote ∷ rest) r).0 in
    let last = code-last text p (quote ∷ rest) s none in
    let one = low-len quote (low q) in
    let at = here text p (quote ∷ rest) s in (
      record {
        front = s.front ++ quote ∷ [];
        whole = append_assoc s.front (quote ∷ []) rest ∙ s.whole;
        at_is = sum_by-append len_utf8 s.front (quote ∷ []) ∙ (let a = s.at_is in omega arith);
        tokens = s.tokens;
        last = last;
        string = λ o e. opened-as text o (record { quote = quote; opening = p.at; from = p.at }) (p.at + 1) e at at (omega arith);
        outer = s.outer;
      },
      λ o e. quote-low o (record { quote = quote; opening = p.at; from = p.at }) e (low q),
    )
  where
    low : (quote ≡ 34) ⊎ (quote ≡ 39) → quote < 128
    low (inl e) = omega arith
    low (inr e) = omega arith
stood text _ _ (Reaches.Ends p o w rest r is content free) = let s = stood text p (w ++ o.quote ∷ rest) r in (ended-on text p o w rest (s.1 o is) s.0 is, λ q e. absurd (cc))
stood text _ _ (Reaches.Interpolates p o w rest r is quote content) = let s = stood text p (w ++ 35 ∷ 123 ∷ rest) r in (interpolated-on text p o w rest s.0 is, λ q e. absurd (cc))

-- ---- refused places

outside-start : (text : List ℕ) (at : ℕ) → OutsideAt text at → IsStart text at
outside-start text _ (OutsideAt.AtForm p z r none f) = here text p z (stood text p z r).0
outside-start text _ (OutsideAt.InString p o w rest c r is quote content either) = further text p w (35 ∷ c ∷ rest) (stood text p (w ++ 35 ∷ c ∷ rest) r).0
outside-start text _ (OutsideAt.AtTouched p o w rest r is content touch) = ((stood text p (w ++ o.quote ∷ rest) r).0.string o is).1

no-rest : (w : List ℕ) → w ≡ w ++ []
no-rest [] = refl
no-rest (c ∷ w) = ap (λ y. c ∷ y) (no-rest w)

bad-start : (text : List ℕ) (at : ℕ) → BadCharAt text at → IsStart text at
bad-start text _ (BadCharAt.AtCharacter p z r none f nf) = here text p z (stood text p z r).0
bad-start text _ (BadCharAt.InOpenString p o w r is content) = further text p w [] (subst (Stood text p) (no-rest w) (stood text p w r).0)
bad-start text _ (BadCharAt.InInterpolation p r none held) = here text p [] (stood text p [] r).0

pub tokens-stand : TokensStandAtCharacters
tokens-stand text tokens e =
    let l = (tokens-told text tokens).0 e in
    subst (StandInOrder text 0) l.tokens_are (stood text l.place [] l.reaches).0.tokens

pub places-start : RefusedPlacesAreStarts
places-start text at (inl e) = outside-start text at ((outside-told text at).0 e)
places-start text at (inr e) = bad-start text at ((bad-told text at).0 e)
