-- Whole texts: each run in the words of the language is followed by the lexer, and each answer of the lexer is one in these words.
use Rattle.std.proofs.Common.{◌≡◌, ℕ, zero, suc, ◌+◌, ◌<◌, ◌≤◌, ◌⊎◌, Bool, true, false, ◌==◌, ◌||◌, List, [], ◌∷◌, ◌++◌, length, Option, Some, None, Result, Ok, Err, inl, inr, refl, sym, ap, subst, ◌∙◌, length-append, arith}
use Rattle.std.specs.Prelude.{nat_le}
use Rattle.std.specs.List.{list_all}
use Rattle.std.proofs.lemmas.Bool.Decides.{nat_tests}
use Rattle.srb_text.specs.Positions.{byte_len}
use Rattle.rb_tree.specs.Tokens.{same_shape}
use Rattle.rb_tree.specs.declared.token.Token.{Token}
use Rattle.rb_tree.specs.declared.token.TokenKind.TheVariants as kind
use Rattle.rb_tree.specs.declared.token.Shape.{Shape}
use Rattle.rb_tree.specs.declared.token.Shape.TheVariants as shape
use Rattle.rb_lex.specs.Cuts.{names_method, is_closing, after_operator, cut_of, token}
use Rattle.rb_lex.specs.Lexed.{blanked, after_line, opened, is_inside, lexed_from, lexed, lexed_text, START}
use Rattle.rb_lex.specs.Pieces.{is_touched}
use Rattle.rb_lex.specs.declared.cut.Look.{Look}
use Rattle.rb_lex.specs.declared.cut.Cut.{Cut}
use Rattle.rb_lex.specs.declared.cut.Cut.TheVariants as cuts
use Rattle.rb_lex.specs.declared.state.State.{State}
use Rattle.rb_lex.specs.declared.LexEnd.{LexEnd}
use Rattle.rb_lex.specs.declared.LexEnd.TheVariants as ends
use Rattle.rb_rules.specs.Spellings.{Begins, Holds, OPERATORS}
use Rattle.rb_rules.specs.Before.{frames, Keeps}
use Rattle.rb_rules.specs.Lexes.{Spells, IsLongest, IsForeign, IsWrong, IsBlank, IsComment, Continues, IsTouched, IsReturn, Place, past_of, FIRST, passed, spelt, pieced, begins_line, interpolated as interpolates, Reaches, Lexes, OutsideAt, BadCharAt, OpenString}
use Rattle.rb_lex_laws.proofs.Lists.{and-both, both-and, no-both, eq-is, rest-same}
use Rattle.rb_lex_laws.proofs.Blanks.{blank-some, goes_on, blank_here, Blank, blank-of, on-blank, on-comment, continues-on, continues-is, Rest, rest-of}
use Rattle.rb_lex_laws.proofs.Encoded.{wide-encode, enc, enc-cons, enc-front, enc-append, enc-thin, begins-enc, longest-chars}
use Rattle.rb_lex_laws.proofs.Past.{before_of, keeps_of, keeps-asked, same-is, is-same}
use Rattle.rb_lex_laws.proofs.Best.{longest-of}
use Rattle.rb_lex_laws.proofs.Places.{Other}
use Rattle.rb_lex_laws.proofs.Refusals.{spells-begin, spells-other, foreign-other, wrong-other}
use Rattle.rb_lex_laws.proofs.Rules.{blank-thin, blank-bytes, foreign-bytes, wrong-bytes}
use Rattle.rb_lex_laws.proofs.Steps.{blank-step, comment-step, line-step, quote-step, brace-cut}
use Rattle.rb_lex_laws.proofs.Strings.{IsQuote, enc-len, Part, part-of, touched-bytes, bytes-touched}
use Rattle.rb_lex_laws.proofs.Verdicts.{Seen, seen}
use Rattle.rb_lex_laws.proofs.Beside.{Popped, popped, Matches, first-matches, blank-matches, dropped-matches, kept-matches, opened-matches, inside-open, open-inside, held_string}
use Rattle.rb_lex_laws.proofs.Landing.{Landed, returned, spells-single}
use Rattle.rb_lex_laws.proofs.Next.{Next, next-of, other-bytes}
use Rattle.rb_lex_laws.proofs.Inside as inside

-- ---- one step, from a place to the next

thin-len : (w rest : List ℕ) → IsBlank w rest → length w ≡ byte_len w
thin-len w rest b = ap length (sym (enc-thin w (blank-thin w rest b))) ∙ enc-len w

blank-lands : (p : Place) (s : State) (w rest : List ℕ) → Matches p s (w ++ rest) → p.string ≡ None → IsBlank w rest → Landed p p.at s (enc (w ++ rest)) (passed w (begins_line w) p) rest
blank-lands p s w rest m none b = (
  blanked (begins_line w) s,
  ap (lexed_from 0 p.at s) (enc-front w rest (blank-thin w rest b)) ∙ blank-step w (enc rest) p.at s (m.string_is ∙ ap held_string none) (blank-bytes w rest b)
      ∙ ap (λ n. lexed_from 0 (p.at + n) (blanked (begins_line w) s) (enc rest)) (thin-len w rest b),
  blank-matches p s (w ++ rest) w rest (begins_line w) m none (on-blank w rest b),
)

past-high : (v y : List ℕ) → list_all (λ b. nat_le 128 b) v ≡ true → Holds 10 (v ++ y) → Holds 10 y
past-high [] y a h = h
past-high (b ∷ v) y a (inl e) = let both = and-both (nat_le 128 b) (list_all (λ c. nat_le 128 c) v) a in absurd (other b e both.0)
  where
    other : (b : ℕ) → 10 ≡ b → nat_le 128 b ≡ true → ⊥
    other b e h = let l : 128 ≤ b = high-of b h in omega arith
      where
        high-of : (b : ℕ) → nat_le 128 b ≡ true → 128 ≤ b
        high-of b h = grind (arith, nat_tests)
past-high (b ∷ v) y a (inr h) = past-high v y (and-both (nat_le 128 b) (list_all (λ c. nat_le 128 c) v) a).1 h

pub no-line : (w : List ℕ) → (Holds 10 w → ⊥) → Holds 10 (enc w) → ⊥
no-line [] h k = k
no-line (c ∷ w) h k = by (wide-or c) (no-line w (λ d. h (inr d)))
  where
    wide-or : (c : ℕ) → (c < 128) ⊎ (128 ≤ c)
    wide-or c = grind arith

    plain : Holds 10 (c ∷ enc w) → (Holds 10 (enc w) → ⊥) → ⊥
    plain (inl e) more = h (inl e)
    plain (inr d) more = more d

    by : (c < 128) ⊎ (128 ≤ c) → (Holds 10 (enc w) → ⊥) → ⊥
    by (inl low) more = plain (subst (Holds 10) (enc-cons c w low) k) more
    by (inr high) more =
        let v = wide-encode c high in
        let first : nat_le 128 v.first ≡ true = high-test v.first v.high in
        more (past-high (v.first ∷ v.others) (enc w) (both-and (nat_le 128 v.first) (list_all (λ b. nat_le 128 b) v.others) first v.all_high) (subst (λ y. Holds 10 (y ++ enc w)) v.is k))
      where
        high-test : (b : ℕ) → 128 ≤ b → nat_le 128 b ≡ true
        high-test b h = grind (arith, nat_tests)

ended-bytes : (rest : List ℕ) → (rest ≡ []) ⊎ Begins 10 rest → (enc rest ≡ []) ⊎ Begins 10 (enc rest)
ended-bytes rest (inl e) = inl (ap enc e)
ended-bytes rest (inr b) = inr (begins-enc 10 rest (omega arith) b)

comment-lands : (p : Place) (s : State) (w rest : List ℕ) → Matches p s (35 ∷ w ++ rest) → p.string ≡ None → IsComment w rest → Landed p p.at s (enc (35 ∷ w ++ rest)) (passed (35 ∷ w) false p) rest
comment-lands p s w rest m none c =
    let whole : enc (35 ∷ (w ++ rest)) ≡ 35 ∷ (enc w ++ enc rest) = enc-cons 35 (w ++ rest) (omega arith) ∙ ap (λ y. 35 ∷ y) (enc-append w rest) in
    let size : suc (length (enc w)) ≡ byte_len (35 ∷ w) = ap length (sym (enc-cons 35 w (omega arith))) ∙ enc-len (35 ∷ w) in (
      blanked false s,
      ap (lexed_from 0 p.at s) whole ∙ comment-step (enc w) (enc rest) p.at s (m.string_is ∙ ap held_string none) (no-line w c.plain) (ended-bytes rest c.ended)
          ∙ ap (λ n. lexed_from 0 (p.at + n) (blanked false s) (enc rest)) size,
      blank-matches p s (35 ∷ (w ++ rest)) (35 ∷ w) rest false m none (on-comment w rest c),
    )

line-len : byte_len (10 ∷ []) ≡ 1
line-len = sym (enc-len (10 ∷ [])) ∙ ap length (enc-cons 10 [] (omega arith))

line-run : (p : Place) (s : State) (rest : List ℕ) → s.string ≡ None → lexed_from 0 p.at s (enc (10 ∷ rest)) ≡ lexed_from 0 (p.at + byte_len (10 ∷ [])) (after_line p.at s) (enc rest)
line-run p s rest none =
    ap (lexed_from 0 p.at s) (enc-cons 10 rest (omega arith)) ∙ line-step (enc rest) p.at s none ∙ ap (λ n. lexed_from 0 (p.at + n) (after_line p.at s) (enc rest)) (sym line-len)

quote-run : (p : Place) (s : State) (quote : ℕ) (rest : List ℕ) → s.string ≡ None → IsQuote quote → lexed_from 0 p.at s (enc (quote ∷ rest)) ≡ lexed_from 0 (p.at + 1) (opened quote p.at s) (enc rest)
quote-run p s quote rest none q = ap (lexed_from 0 p.at s) (enc-cons quote rest (low q)) ∙ quote-step quote (enc rest) p.at s none q
  where
    low : IsQuote quote → quote < 128
    low (inl e) = omega arith
    low (inr e) = omega arith

-- a `}` breaks no rule
record Brace (p : Place) (rest : List ℕ) : Type 0 where
  pub longest : IsLongest (past_of p) shape.CloseBrace (125 ∷ []) [] rest
  pub no_foreign : IsForeign (past_of p) p.blank p.start (125 ∷ rest) → ⊥
  pub no_wrong : IsWrong (past_of p) p.blank (125 ∷ rest) → ⊥

abbrev shape_cut : Cut → Shape
shape_cut (cuts.Token x) = x.shape
shape_cut _ = shape.Plus

brace-of : (p : Place) (rest : List ℕ) → Brace p rest
brace-of p rest =
    let look : Look = record { before = before_of (past_of p); is_blank = p.blank; is_fresh = p.start } in
    let front : enc (125 ∷ rest) ≡ 125 ∷ enc rest = enc-cons 125 rest (omega arith) in
    by (cut_of look (enc (125 ∷ rest))) (ap (cut_of look) front ∙ brace-cut look (enc rest)) (seen (past_of p) look (enc (125 ∷ rest)) refl (other-bytes (125 ∷ rest) other))
  where
    other : Other (125 ∷ rest)
    other = spells-other (past_of p) shape.CloseBrace (125 ∷ []) [] rest (Spells.Operator shape.CloseBrace (125 ∷ []) rest close)
      where
        close : Holds (let row : Shape × List ℕ = (shape.CloseBrace, 125 ∷ []) in row) OPERATORS
        close = inr (inr (inr (inr (inr (inr (inr (inr (inr (inr (inr (inr (inr (inr (inr (inr (inr (inr (inr (inr (inr (inr (inr (inr (inr (inr (inr (inr (inr (inr (inr (inr (inr (inr (inr (inr (inl refl))))))))))))))))))))))))))))))))))))

    by : (cut : Cut) → cut ≡ token shape.CloseBrace 1 (after_operator (before_of (past_of p)) shape.CloseBrace) (is_closing shape.CloseBrace || names_method (before_of (past_of p))) → Seen (past_of p) (record { before = before_of (past_of p); is_blank = p.blank; is_fresh = p.start }) (enc (125 ∷ rest)) cut → Brace p rest
    by _ e (Seen.Token x w words y b len kinds says nf nw) =
        let is = ap shape_cut e in
        let one = (spells-single (past_of p) x.shape w words y b.spells).brace is in
        let l : IsLongest (past_of p) shape.CloseBrace (125 ∷ []) [] y =
        subst (λ t. IsLongest (past_of p) t (125 ∷ []) [] y) is (subst (λ v. IsLongest (past_of p) x.shape v [] y) one.0 (subst (λ v. IsLongest (past_of p) x.shape w v y) one.1 (longest-of (past_of p) (enc (125 ∷ rest)) x.shape w words y b))) in
        let y_is : y ≡ enc rest = rest-same w y (125 ∷ []) (enc rest) (b.whole ∙ enc-cons 125 rest (omega arith)) (ap length one.0) in
        record {
          longest = longest-chars (past_of p) shape.CloseBrace (125 ∷ []) [] rest (subst (IsLongest (past_of p) shape.CloseBrace (125 ∷ []) []) y_is l);
          no_foreign = λ f. nf (foreign-bytes (past_of p) p.blank p.start (125 ∷ rest) f);
          no_wrong = λ f. nw (wrong-bytes (past_of p) p.blank (125 ∷ rest) f);
        }
    by _ e (Seen.Outside f) = absurd (cc)
    by _ e (Seen.Bad f nf) = absurd (cc)

-- ---- each run is followed

pub record Followed (text : List ℕ) (p : Place) (z : List ℕ) : Type 0 where
  pub state : State
  pub run : lexed_from 0 0 START (enc text) ≡ lexed_from 0 p.at state (enc z)
  pub matches : Matches p state z

goes-on : (text : List ℕ) (p q : Place) (z rest : List ℕ) (f : Followed text p z) → Landed p p.at f.state (enc z) q rest → Followed text q rest
goes-on text p q z rest f l = record { state = l.0; run = f.run ∙ l.1; matches = l.2 }

spelt-followed : (text : List ℕ) (p : Place) (t : Shape) (w words rest : List ℕ) → Followed text p (w ++ rest) → p.string ≡ None → IsLongest (past_of p) t w words rest → (IsForeign (past_of p) p.blank p.start (w ++ rest) → ⊥) → (IsWrong (past_of p) p.blank (w ++ rest) → ⊥) → (IsReturn t (past_of p) → ⊥) → Followed text (spelt t w words p) rest
spelt-followed text p t w words rest f none l nf nw stays = by (next-of p f.state (w ++ rest) f.matches none (spells-other (past_of p) t w words rest l.spells))
  where
    by : Next p f.state (w ++ rest) → Followed text (spelt t w words p) rest
    by (Next.Token u v os more e longest n1 n2 only run back) =
        let same = only t w words rest refl l in
        let rest_is : more ≡ rest = rest-same v more w rest e (ap length (sym same.1)) in
        let place : spelt u v os p ≡ spelt t w words p = ap (λ x. spelt x v os p) (sym same.0) ∙ ap (λ x. spelt t x os p) (sym same.1) ∙ ap (λ x. spelt t w x p) (sym same.2) in
        let landed = goes-on text p (spelt u v os p) (w ++ rest) more f (run (λ r. stays (subst (λ x. IsReturn x (past_of p)) (sym same.0) r))) in
        subst (λ z. Followed text (spelt t w words p) z) rest_is (subst (λ q. Followed text q more) place landed)
    by (Next.Outside g e) = absurd (nf g)
    by (Next.Bad g n e) = absurd (nw g)

returned-followed : (text : List ℕ) (p : Place) (opening : ℕ) (outer rest : List ℕ) → Followed text p (125 ∷ rest) → p.string ≡ None → IsReturn shape.CloseBrace (past_of p) → p.outer ≡ opening ∷ outer → Followed text (returned opening outer p) rest
returned-followed text p opening outer rest f none ret outer_is =
    by (next-of p f.state (125 ∷ rest) f.matches none (spells-other (past_of p) shape.CloseBrace (125 ∷ []) [] rest (brace-of p rest).longest.spells))
  where
    by : Next p f.state (125 ∷ rest) → Followed text (returned opening outer p) rest
    by (Next.Token u v os more e longest n1 n2 only run back) =
        let same = only shape.CloseBrace (125 ∷ []) [] rest refl (brace-of p rest).longest in
        let rest_is : more ≡ rest = rest-same v more (125 ∷ []) rest e (ap length (sym same.1)) in
        subst (λ z. Followed text (returned opening outer p) z) rest_is (goes-on text p (returned opening outer p) (125 ∷ rest) more f (back opening outer outer_is (subst (λ x. IsReturn x (past_of p)) same.0 ret)))
    by (Next.Outside g e) = absurd ((brace-of p rest).no_foreign g)
    by (Next.Bad g n e) = absurd ((brace-of p rest).no_wrong g)

pub followed : (text : List ℕ) (p : Place) (z : List ℕ) → Reaches text p z → Followed text p z
followed text _ _ Reaches.First = record { state = START; run = refl; matches = first-matches text }
followed text _ _ (Reaches.PastBlank p w rest r none b) = let f = followed text p (w ++ rest) r in goes-on text p (passed w (begins_line w) p) (w ++ rest) rest f (blank-lands p f.state w rest f.matches none b)
followed text _ _ (Reaches.PastComment p w rest r none c) = let f = followed text p (35 ∷ w ++ rest) r in goes-on text p (passed (35 ∷ w) false p) (35 ∷ w ++ rest) rest f (comment-lands p f.state w rest f.matches none c)
followed text _ _ (Reaches.Kept p rest r none keeps free) =
    let f = followed text p (10 ∷ rest) r in
    record { state = after_line p.at f.state; run = f.run ∙ line-run p f.state rest (f.matches.string_is ∙ ap held_string none); matches = kept-matches p f.state rest f.matches none keeps free }
followed text _ _ (Reaches.Dropped p rest r none why) =
    let f = followed text p (10 ∷ rest) r in
    record { state = after_line p.at f.state; run = f.run ∙ line-run p f.state rest (f.matches.string_is ∙ ap held_string none); matches = dropped-matches p f.state rest f.matches none why }
followed text _ _ (Reaches.Spelt p t w words rest r none l nf nw stays) = spelt-followed text p t w words rest (followed text p (w ++ rest) r) none l nf nw stays
followed text _ _ (Reaches.Returns p outer opening rest r none ret outer_is) = returned-followed text p opening outer rest (followed text p (125 ∷ rest) r) none ret outer_is
followed text _ _ (Reaches.Opens p quote rest r none q) =
    let f = followed text p (quote ∷ rest) r in
    record { state = opened quote p.at f.state; run = f.run ∙ quote-run p f.state quote rest (f.matches.string_is ∙ ap held_string none) q; matches = opened-matches p f.state quote rest f.matches none q }
followed text _ _ (Reaches.Ends p o w rest r string content free) =
    let f = followed text p (w ++ o.quote ∷ rest) r in
    goes-on text p (pieced o w 1 1 p) (w ++ o.quote ∷ rest) rest f (inside.ends p f.state (w ++ o.quote ∷ rest) f.matches o string w rest refl content free)
followed text _ _ (Reaches.Interpolates p o w rest r string quote content) =
    let f = followed text p (w ++ 35 ∷ 123 ∷ rest) r in
    goes-on text p (interpolates o w p) (w ++ 35 ∷ 123 ∷ rest) rest f (inside.begins p f.state (w ++ 35 ∷ 123 ∷ rest) f.matches o string w rest quote refl content)

-- ---- each answer in these words is the lexer's

pub whole-text : (text : List ℕ) (tokens : List Token) → Lexes text tokens → lexed_text text ≡ Ok tokens
unfolding lexed
whole-text text tokens l =
    let f = followed text l.place [] l.reaches in
    f.run ∙ inside.whole-end l.place f.state f.matches l.plain l.closed ∙ ap (λ ts. let r : Result (List Token) LexEnd = Ok ts in r) l.tokens_are

form-outside : (text : List ℕ) (p : Place) (z : List ℕ) (f : Followed text p z) → p.string ≡ None → IsForeign (past_of p) p.blank p.start z → lexed_from 0 0 START (enc text) ≡ Err (ends.Outside p.at)
form-outside text p z f none g = by (next-of p f.state z f.matches none (foreign-other (past_of p) p.blank p.start z g))
  where
    by : Next p f.state z → lexed_from 0 0 START (enc text) ≡ Err (ends.Outside p.at)
    by (Next.Token u v os more e longest n1 n2 only run back) = absurd (n1 g)
    by (Next.Outside h e) = f.run ∙ e
    by (Next.Bad h n e) = absurd (n g)

pub outside-text : (text : List ℕ) (at : ℕ) → OutsideAt text at → lexed_text text ≡ Err (ends.Outside at)
unfolding lexed
outside-text text _ (OutsideAt.AtForm p z r none g) = form-outside text p z (followed text p z r) none g
outside-text text _ (OutsideAt.InString p o w rest c r string quote content either) =
    let f = followed text p (w ++ 35 ∷ c ∷ rest) r in f.run ∙ inside.foreign p f.state (w ++ 35 ∷ c ∷ rest) f.matches o string w rest c quote either refl content
outside-text text _ (OutsideAt.AtTouched p o w rest r string content touch) =
    let f = followed text p (w ++ o.quote ∷ rest) r in f.run ∙ inside.touched p f.state (w ++ o.quote ∷ rest) f.matches o string w rest refl content touch

character-bad : (text : List ℕ) (p : Place) (z : List ℕ) (f : Followed text p z) → p.string ≡ None → IsWrong (past_of p) p.blank z → (IsForeign (past_of p) p.blank p.start z → ⊥) → lexed_from 0 0 START (enc text) ≡ Err (ends.Bad p.at)
character-bad text p z f none g nf = by (next-of p f.state z f.matches none (wrong-other (past_of p) p.blank z g))
  where
    by : Next p f.state z → lexed_from 0 0 START (enc text) ≡ Err (ends.Bad p.at)
    by (Next.Token u v os more e longest n1 n2 only run back) = absurd (n2 g)
    by (Next.Outside h e) = absurd (nf h)
    by (Next.Bad h n e) = f.run ∙ e

pub bad-text : (text : List ℕ) (at : ℕ) → BadCharAt text at → lexed_text text ≡ Err (ends.Bad at)
unfolding lexed
bad-text text _ (BadCharAt.AtCharacter p z r none g nf) = character-bad text p z (followed text p z r) none g nf
bad-text text _ (BadCharAt.InOpenString p o w r string content) = let f = followed text p w r in f.run ∙ inside.cut-off p f.state w f.matches o string content
bad-text text _ (BadCharAt.InInterpolation p r none held) = let f = followed text p [] r in f.run ∙ inside.open-end p f.state f.matches none held

-- ---- each answer of the lexer is one in these words

abbrev pub IsSound : List ℕ → Result (List Token) LexEnd → Type 0
IsSound text (Ok tokens) = Lexes text tokens
IsSound text (Err (ends.Outside at)) = OutsideAt text at
IsSound text (Err (ends.Bad at)) = BadCharAt text at
IsSound text (Err ends.NoMemory) = ⊥

abbrev Sound : List ℕ → ℕ → Type 0
Sound text n = (p : Place) (s : State) (z : List ℕ) → length z < n → Reaches text p z → Matches p s z → IsSound text (lexed_from 0 p.at s (enc z))

-- from the next place on
sound-on : (text : List ℕ) (n : ℕ) (p q : Place) (s : State) (z rest : List ℕ) → Sound text n → length rest < n → Reaches text q rest → Landed p p.at s (enc z) q rest → IsSound text (lexed_from 0 p.at s (enc z))
sound-on text n p q s z rest more short r l = subst (IsSound text) (sym l.1) (more q l.0 rest short r l.2)

module _ (text : List ℕ) (n : ℕ) (more : Sound text n) (p : Place) (s : State) where
  sound-end : Reaches text p [] → Matches p s [] → p.string ≡ None → IsSound text (lexed_from 0 p.at s [])
  sound-end r m none = by (is_inside s.nesting) refl
    where
      by : (t : Bool) → is_inside s.nesting ≡ t → IsSound text (lexed_from 0 p.at s [])
      by true e =
          let held = inside-open s.nesting (frames (past_of p)) p.outer m.stack e in
          subst (IsSound text) (sym (inside.open-end p s m none held)) (BadCharAt.InInterpolation p r none held)
      by false e =
          let closed : Holds true (frames (past_of p)) → ⊥ = λ h. no-both (is_inside s.nesting) (open-inside s.nesting (frames (past_of p)) p.outer m.stack h) e in
          subst (IsSound text) (sym (inside.whole-end p s m none closed)) (record { place = p; reaches = r; plain = none; closed = closed; tokens_are = refl })

  sound-line : (rest : List ℕ) → length rest < n → Reaches text p (10 ∷ rest) → Matches p s (10 ∷ rest) → p.string ≡ None → IsSound text (lexed_from 0 p.at s (enc (10 ∷ rest)))
  sound-line rest short r m none = by (goes_on false rest) refl (keeps_of (past_of p)) refl
    where
      code : s.string ≡ None
      code = m.string_is ∙ ap held_string none

      drop_it : ((Keeps (past_of p) → ⊥) ⊎ Continues rest) → IsSound text (lexed_from 0 p.at s (enc (10 ∷ rest)))
      drop_it why = subst (IsSound text) (sym (line-run p s rest code)) (more (passed (10 ∷ []) true p) (after_line p.at s) rest short (Reaches.Dropped p rest r none why) (dropped-matches p s rest m none why))

      by : (t : Bool) → goes_on false rest ≡ t → (k : Bool) → keeps_of (past_of p) ≡ k → IsSound text (lexed_from 0 p.at s (enc (10 ∷ rest)))
      by true e k f = drop_it (inr (continues-is (length rest) rest (omega arith) e))
      by false e false f = drop_it (inl (λ h. no-both (keeps_of (past_of p)) ((keeps-asked (past_of p)).1 h) f))
      by false e true f =
          let keeps = (keeps-asked (past_of p)).0 f in
          let free : Continues rest → ⊥ = λ c. no-both (goes_on false rest) (continues-on rest c) e in
          subst (IsSound text) (sym (line-run p s rest code))
          (more (passed (10 ∷ []) true (record p { tokens = p.tokens ++ record { kind = kind.Separator; span = record { start = p.at; end = p.at + 1 } } ∷ [] })) (after_line p.at s) rest short (Reaches.Kept p rest r none keeps free) (kept-matches p s rest m none keeps free))

  sound-quote : (quote : ℕ) (rest : List ℕ) → length rest < n → IsQuote quote → Reaches text p (quote ∷ rest) → Matches p s (quote ∷ rest) → p.string ≡ None → IsSound text (lexed_from 0 p.at s (enc (quote ∷ rest)))
  sound-quote quote rest short q r m none =
      subst (IsSound text) (sym (quote-run p s quote rest (m.string_is ∙ ap held_string none) q))
      (more (record p { at = p.at + 1; string = Some (record { quote = quote; opening = p.at; from = p.at }) }) (opened quote p.at s) rest short (Reaches.Opens p quote rest r none q) (opened-matches p s quote rest m none q))

  sound-other : (z : List ℕ) → length z < suc n → Reaches text p z → Matches p s z → p.string ≡ None → Other z → IsSound text (lexed_from 0 p.at s (enc z))
  sound-other z short r m none o = by (next-of p s z m none o)
    where
      token-at : (t : Shape) (w words rest : List ℕ) → w ++ rest ≡ z → IsLongest (past_of p) t w words rest → (IsForeign (past_of p) p.blank p.start z → ⊥) → (IsWrong (past_of p) p.blank z → ⊥)
          → ((IsReturn t (past_of p) → ⊥) → Landed p p.at s (enc z) (spelt t w words p) rest)
          → ((opening : ℕ) (outer : List ℕ) → p.outer ≡ opening ∷ outer → IsReturn t (past_of p) → Landed p p.at s (enc z) (returned opening outer p) rest)
          → IsSound text (lexed_from 0 p.at s (enc z))
      token-at t w words rest e l nf nw run back = closes (same_shape t shape.CloseBrace) refl
        where
          less : length rest < n
          less = let b = spells-begin (past_of p) t w words rest l.spells in omega (arith, ap length e, length-append w rest, ap length b.2)

          plain : (IsReturn t (past_of p) → ⊥) → IsSound text (lexed_from 0 p.at s (enc z))
          plain stays =
              sound-on text n p (spelt t w words p) s z rest more less
              (Reaches.Spelt p t w words rest (subst (Reaches text p) (sym e) r) none l (λ f. nf (subst (IsForeign (past_of p) p.blank p.start) e f)) (λ f. nw (subst (IsWrong (past_of p) p.blank) e f)) stays) (run stays)

          opens : t ≡ shape.CloseBrace → Popped s.nesting (frames (past_of p)) p.outer → IsSound text (lexed_from 0 p.at s (enc z))
          opens is (Popped.Plain st string other) = plain (λ ret. other ret.1)
          opens is (Popped.Return a q outer_is top st string) =
              let one = (spells-single (past_of p) t w words rest l.spells).brace is in
              sound-on text n p (returned a q p) s z rest more less
              (Reaches.Returns p q a rest (subst (λ v. Reaches text p (v ++ rest)) one.0 (subst (Reaches text p) (sym e) r)) none (refl, top) outer_is) (back a q outer_is (is, top))

          closes : (b : Bool) → same_shape t shape.CloseBrace ≡ b → IsSound text (lexed_from 0 p.at s (enc z))
          closes true f = opens (same-is t shape.CloseBrace f) (popped s.nesting (frames (past_of p)) p.outer m.stack)
          closes false f = plain (λ ret. no-both (same_shape t shape.CloseBrace) (is-same t shape.CloseBrace ret.0) f)

      by : Next p s z → IsSound text (lexed_from 0 p.at s (enc z))
      by (Next.Token t w words rest e l nf nw only run back) = token-at t w words rest e l nf nw run back
      by (Next.Outside f e) = subst (IsSound text) (sym e) (OutsideAt.AtForm p z r none f)
      by (Next.Bad f nf e) = subst (IsSound text) (sym e) (BadCharAt.AtCharacter p z r none f nf)

  sound-code : (z : List ℕ) → length z < suc n → Reaches text p z → Matches p s z → p.string ≡ None → IsSound text (lexed_from 0 p.at s (enc z))
  sound-code [] short r m none = sound-end r m none
  sound-code (c ∷ u) short r m none = by (blank_here (c ∷ u)) refl (c == 10) refl (c == 35) refl (c == 34) refl (c == 39) refl
    where
      at-blank : Blank (c ∷ u) → IsSound text (lexed_from 0 p.at s (enc (c ∷ u)))
      at-blank b =
          let less : length b.rest < n = omega (arith, ap length b.whole, length-append b.blank b.rest, blank-some b.blank b.rest b.is) in
          subst (λ z. IsSound text (lexed_from 0 p.at s (enc z))) b.whole
          (sound-on text n p (passed b.blank (begins_line b.blank) p) s (b.blank ++ b.rest) b.rest more less (Reaches.PastBlank p b.blank b.rest (subst (Reaches text p) (sym b.whole) r) none b.is) (blank-lands p s b.blank b.rest (subst (Matches p s) (sym b.whole) m) none b.is))

      at-comment : c ≡ 35 → Rest u → IsSound text (lexed_from 0 p.at s (enc (c ∷ u)))
      at-comment e l =
          let front : c ∷ u ≡ 35 ∷ l.line ++ l.rest = ap (λ d. d ∷ u) e ∙ ap (λ y. 35 ∷ y) (sym l.whole) in
          let less : length l.rest < n = omega (arith, ap length l.whole, length-append l.line l.rest) in
          subst (λ z. IsSound text (lexed_from 0 p.at s (enc z))) (sym front)
          (sound-on text n p (passed (35 ∷ l.line) false p) s (35 ∷ l.line ++ l.rest) l.rest more less (Reaches.PastComment p l.line l.rest (subst (Reaches text p) front r) none l.is) (comment-lands p s l.line l.rest (subst (Matches p s) front m) none l.is))

      less : length u < n
      less = omega arith

      at-line : c ≡ 10 → IsSound text (lexed_from 0 p.at s (enc (c ∷ u)))
      at-line e = subst (λ d. IsSound text (lexed_from 0 p.at s (enc (d ∷ u)))) (sym e) (sound-line u less (subst (λ d. Reaches text p (d ∷ u)) e r) (subst (λ d. Matches p s (d ∷ u)) e m) none)

      by : (b : Bool) → blank_here (c ∷ u) ≡ b → (l : Bool) → (c == 10) ≡ l → (h : Bool) → (c == 35) ≡ h → (d : Bool) → (c == 34) ≡ d → (q : Bool) → (c == 39) ≡ q → IsSound text (lexed_from 0 p.at s (enc (c ∷ u)))
      by true e l f h g d i q j = at-blank (blank-of (c ∷ u) e)
      by false e true f h g d i q j = at-line (eq-is c 10 f)
      by false e false f true g d i q j = at-comment (eq-is c 35 g) (rest-of u)
      by false e false f false g true i q j = sound-quote c u less (inl (eq-is c 34 i)) r m none
      by false e false f false g false i true j = sound-quote c u less (inr (eq-is c 39 j)) r m none
      by false e false f false g false i false j = sound-other (c ∷ u) short r m none (record { first = c; others = u; whole = refl; no_blank = e; no_line = f; no_comment = g; no_double = i; no_single = j })

  sound-string : (o : OpenString) (z : List ℕ) → length z < suc n → Reaches text p z → Matches p s z → p.string ≡ Some o → IsSound text (lexed_from 0 p.at s (enc z))
  sound-string o z short r m string = by (part-of o.quote z (m.quote_is o string))
    where
      by : Part o.quote z → IsSound text (lexed_from 0 p.at s (enc z))
      by (Part.Quote w rest e content) = touched (is_touched (enc rest)) refl
        where
          less : length rest < n
          less = omega (arith, ap length e, length-append w (o.quote ∷ rest))

          touched : (t : Bool) → is_touched (enc rest) ≡ t → IsSound text (lexed_from 0 p.at s (enc z))
          touched true f = subst (IsSound text) (sym (inside.touched p s z m o string w rest e content (bytes-touched rest f))) (OutsideAt.AtTouched p o w rest (subst (Reaches text p) (sym e) r) string content (bytes-touched rest f))
          touched false f =
              let free : IsTouched rest → ⊥ = λ h. no-both (is_touched (enc rest)) (touched-bytes rest h) f in
              sound-on text n p (pieced o w 1 1 p) s z rest more less (Reaches.Ends p o w rest (subst (Reaches text p) (sym e) r) string content free) (inside.ends p s z m o string w rest e content free)
      by (Part.Interpolation w rest quote e content) =
          let less : length rest < n = omega (arith, ap length e, length-append w (35 ∷ 123 ∷ rest)) in
          sound-on text n p (interpolates o w p) s z rest more less (Reaches.Interpolates p o w rest (subst (Reaches text p) (sym e) r) string quote content) (inside.begins p s z m o string w rest quote e content)
      by (Part.Foreign w rest c quote either e content) =
          subst (IsSound text) (sym (inside.foreign p s z m o string w rest c quote either e content)) (OutsideAt.InString p o w rest c (subst (Reaches text p) (sym e) r) string quote content either)
      by (Part.End content) = subst (IsSound text) (sym (inside.cut-off p s z m o string content)) (BadCharAt.InOpenString p o z r string content)

  sound-step : (z : List ℕ) → length z < suc n → Reaches text p z → Matches p s z → IsSound text (lexed_from 0 p.at s (enc z))
  sound-step z short r m = by p.string refl
    where
      by : (x : Option OpenString) → p.string ≡ x → IsSound text (lexed_from 0 p.at s (enc z))
      by None e = sound-code z short r m e
      by (Some o) e = sound-string o z short r m e

-- the lexer's answer from each place that is reached
sound : (text : List ℕ) (n : ℕ) → Sound text n
sound text zero p s z short r m = absurd (omega arith)
sound text (suc n) p s z short r m = sound-step text n (sound text n) p s z short r m

pub sound-text : (text : List ℕ) → IsSound text (lexed_text text)
unfolding lexed
sound-text text = sound text (suc (length text)) FIRST START text (omega arith) Reaches.First (first-matches text)
