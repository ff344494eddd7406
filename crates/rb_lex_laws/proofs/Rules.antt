-- The rules over characters and over the bytes of their UTF-8.
use Rattle.std.proofs.Common.{◌≡◌, ◌≢◌, ℕ, ◌<◌, ◌≤◌, ◌⊎◌, Bool, true, false, List, [], ◌∷◌, ◌++◌, drop, inl, inr, refl, sym, ap, subst, ◌∙◌, codes, arith}
use Rattle.std.proofs.lemmas.Grind.{common_steps}
use Rattle.std.proofs.lemmas.Bool.Decides.{nat_tests}
use Rattle.rb_tree.specs.declared.token.Shape.{Shape}
use Rattle.rb_tree.specs.declared.token.Shape.TheVariants as shape
use Rattle.rb_lex.specs.Chars.{is_in, is_letter}
use Rattle.rb_lex.specs.declared.chars.Set.TheVariants as set
use Rattle.rb_rules.specs.Spellings.{Begins, Holds, IsIdentifier, IsConstant}
use Rattle.rb_rules.specs.Lexes.{Spells, IsLongest, IsBlank, IsSpaced, EndsLine, IsWholeName, IsForeign, IsWrong}
use Rattle.rb_lex_laws.proofs.Lists.{head-same}
use Rattle.rb_lex_laws.proofs.Encoded.{enc, Thin, wide-encode, enc-cons, enc-front, enc-first, enc-wide, enc-parts, enc-none, enc-some, begins-enc, enc-begins, Alike, alike-enc, enc-alike, identifier-alike, identifier-thin, constant-thin, foreign-thin, spells-thin, spells-alike, longest-bytes, longest-chars}

-- ---- blanks and line ends

pub blank-thin : (w rest : List ℕ) → IsBlank w rest → Thin w
blank-thin _ _ (IsBlank.Space rest) = refl
blank-thin _ _ (IsBlank.Tab rest) = refl
blank-thin _ _ (IsBlank.Return rest) = refl
blank-thin _ _ (IsBlank.Joint rest) = refl
blank-thin _ _ (IsBlank.ReturnJoint rest) = refl

pub blank-bytes : (w rest : List ℕ) → IsBlank w rest → IsBlank w (enc rest)
blank-bytes _ _ (IsBlank.Space rest) = IsBlank.Space (enc rest)
blank-bytes _ _ (IsBlank.Tab rest) = IsBlank.Tab (enc rest)
blank-bytes _ _ (IsBlank.Return rest) = subst (IsBlank (13 ∷ [])) (sym (enc-cons 10 rest (omega arith))) (IsBlank.Return (enc rest))
blank-bytes _ _ (IsBlank.Joint rest) = IsBlank.Joint (enc rest)
blank-bytes _ _ (IsBlank.ReturnJoint rest) = IsBlank.ReturnJoint (enc rest)

pub blank-chars : (w rest y : List ℕ) → IsBlank w y → y ≡ enc rest → IsBlank w rest
blank-chars _ rest _ (IsBlank.Space y) e = IsBlank.Space rest
blank-chars _ rest _ (IsBlank.Tab y) e = IsBlank.Tab rest
blank-chars _ rest _ (IsBlank.Return y) e = let one = enc-first rest 10 y (omega arith) (sym e) in subst (IsBlank (13 ∷ [])) (sym one.1) (IsBlank.Return one.0)
blank-chars _ rest _ (IsBlank.Joint y) e = IsBlank.Joint rest
blank-chars _ rest _ (IsBlank.ReturnJoint y) e = IsBlank.ReturnJoint rest

spaced-bytes : (z : List ℕ) → IsSpaced z → IsSpaced (enc z)
spaced-bytes _ IsSpaced.Nothing = IsSpaced.Nothing
spaced-bytes _ (IsSpaced.Line rest) = subst IsSpaced (sym (enc-cons 10 rest (omega arith))) (IsSpaced.Line (enc rest))
spaced-bytes _ (IsSpaced.Blank w rest b) = subst IsSpaced (sym (enc-front w rest (blank-thin w rest b))) (IsSpaced.Blank w (enc rest) (blank-bytes w rest b))

spaced-chars : (z y : List ℕ) → IsSpaced y → y ≡ enc z → IsSpaced z
spaced-chars z _ IsSpaced.Nothing e = subst IsSpaced (sym (enc-none z (sym e))) IsSpaced.Nothing
spaced-chars z _ (IsSpaced.Line rest) e = let one = enc-first z 10 rest (omega arith) (sym e) in subst IsSpaced (sym one.1) (IsSpaced.Line one.0)
spaced-chars z _ (IsSpaced.Blank w rest b) e =
    let p = enc-parts w z rest (blank-thin w rest b) (sym e) in subst IsSpaced (sym p.1) (IsSpaced.Blank w p.0 (blank-chars w p.0 rest b p.2))

not-spaced-bytes : (z : List ℕ) → ¬ IsSpaced z → ¬ IsSpaced (enc z)
not-spaced-bytes z h s = h (spaced-chars z (enc z) s refl)

not-spaced-chars : (z : List ℕ) → ¬ IsSpaced (enc z) → ¬ IsSpaced z
not-spaced-chars z h s = h (spaced-bytes z s)

pub line-bytes : (z : List ℕ) → EndsLine z → EndsLine (enc z)
line-bytes _ EndsLine.AtEnd = EndsLine.AtEnd
line-bytes _ (EndsLine.AtLine rest) = subst EndsLine (sym (enc-cons 10 rest (omega arith))) (EndsLine.AtLine (enc rest))
line-bytes _ (EndsLine.AtReturn rest) = subst EndsLine (sym (enc-front (13 ∷ 10 ∷ []) rest refl)) (EndsLine.AtReturn (enc rest))

line-chars : (z y : List ℕ) → EndsLine y → y ≡ enc z → EndsLine z
line-chars z _ EndsLine.AtEnd e = subst EndsLine (sym (enc-none z (sym e))) EndsLine.AtEnd
line-chars z _ (EndsLine.AtLine rest) e = let one = enc-first z 10 rest (omega arith) (sym e) in subst EndsLine (sym one.1) (EndsLine.AtLine one.0)
line-chars z _ (EndsLine.AtReturn rest) e = let p = enc-parts (13 ∷ 10 ∷ []) z rest refl (sym e) in subst EndsLine (sym p.1) (EndsLine.AtReturn p.0)

-- ---- names

on-bytes : (z : List ℕ) → Begins 58 z → Begins 58 (drop 1 z) → Begins 58 (drop 1 (enc z))
on-bytes [] h k = absurd h
on-bytes (c ∷ z) h k =
    let low : c < 128 = omega arith in subst (λ y. Begins 58 (drop 1 y)) (sym (enc-cons c z low)) (begins-enc 58 z (omega arith) k)

on-chars : (z : List ℕ) → Begins 58 z → Begins 58 (drop 1 (enc z)) → Begins 58 (drop 1 z)
on-chars [] h k = absurd h
on-chars (c ∷ z) h k =
    let low : c < 128 = omega arith in enc-begins 58 z (omega arith) (subst (λ y. Begins 58 (drop 1 y)) (enc-cons c z low) k)

named-thin : (w rest : List ℕ) → (IsIdentifier w rest ⊎ IsConstant w) → Thin w
named-thin w rest (inl h) = identifier-thin w rest h
named-thin w rest (inr h) = constant-thin w h

named-alike : (w r q : List ℕ) → Alike r q → (IsIdentifier w r ⊎ IsConstant w) → (IsIdentifier w q ⊎ IsConstant w)
named-alike w r q a (inl h) = inl (identifier-alike w r q a h)
named-alike w r q a (inr h) = inr h

whole-bytes : (w rest : List ℕ) → IsWholeName w rest → IsWholeName w (enc rest)
whole-bytes w rest n =
    record {
      named = named-alike w rest (enc rest) (alike-enc rest) n.named;
      longest = λ v more e h. let p = enc-parts v (w ++ rest) more (named-thin v more h) (enc-front w rest (named-thin w rest n.named) ∙ sym e) in
          n.longest v p.0 (sym p.1) (named-alike v (enc p.0) p.0 (enc-alike p.0) (subst (λ m. IsIdentifier v m ⊎ IsConstant v) p.2 h));
      unlabelled = λ h. let here = enc-begins 58 rest (omega arith) h in on-bytes rest here (n.unlabelled here);
    }

whole-chars : (w rest : List ℕ) → IsWholeName w (enc rest) → IsWholeName w rest
whole-chars w rest n =
    record {
      named = named-alike w (enc rest) rest (enc-alike rest) n.named;
      longest = λ v more e h. n.longest v (enc more) (sym (enc-front v more (named-thin v more h)) ∙ ap enc e ∙ enc-front w rest (named-thin w (enc rest) n.named)) (named-alike v more (enc more) (alike-enc more) h);
      unlabelled = λ h. on-chars rest h (n.unlabelled (begins-enc 58 rest (omega arith) h));
    }

-- ---- forms outside the profile

digit-low : (d : ℕ) → is_in set.Decimal d ≡ true → d < 128
digit-low d h = grind (arith, nat_tests, common_steps)

pub letter-low : (c : ℕ) → is_letter c ≡ true → c < 128
letter-low c h = grind (arith, nat_tests, common_steps)

wide-letter : (c : ℕ) → 128 ≤ c → is_letter c ≡ false
wide-letter c h = grind (arith, nat_tests, common_steps)

wide-or : (c : ℕ) → (c < 128) ⊎ (128 ≤ c)
wide-or c = grind arith

here-bytes : (rest : List ℕ) → (Begins 126 rest ⊎ Begins 45 rest ⊎ Begins 39 rest ⊎ Begins 34 rest) → (Begins 126 (enc rest) ⊎ Begins 45 (enc rest) ⊎ Begins 39 (enc rest) ⊎ Begins 34 (enc rest))
here-bytes rest (inl h) = inl (begins-enc 126 rest (omega arith) h)
here-bytes rest (inr (inl h)) = inr (inl (begins-enc 45 rest (omega arith) h))
here-bytes rest (inr (inr (inl h))) = inr (inr (inl (begins-enc 39 rest (omega arith) h)))
here-bytes rest (inr (inr (inr h))) = inr (inr (inr (begins-enc 34 rest (omega arith) h)))

here-chars : (rest : List ℕ) → (Begins 126 (enc rest) ⊎ Begins 45 (enc rest) ⊎ Begins 39 (enc rest) ⊎ Begins 34 (enc rest)) → (Begins 126 rest ⊎ Begins 45 rest ⊎ Begins 39 rest ⊎ Begins 34 rest)
here-chars rest (inl h) = inl (enc-begins 126 rest (omega arith) h)
here-chars rest (inr (inl h)) = inr (inl (enc-begins 45 rest (omega arith) h))
here-chars rest (inr (inr (inl h))) = inr (inr (inl (enc-begins 39 rest (omega arith) h)))
here-chars rest (inr (inr (inr h))) = inr (inr (inr (enc-begins 34 rest (omega arith) h)))

module _ (past : List Shape) (blank start : Bool) where
  colon-bytes : (c : ℕ) (rest : List ℕ) → is_letter c ≡ false → c ≢ 95 → c ≢ 58 → ¬ IsSpaced (c ∷ rest) → IsForeign past blank start (enc (58 ∷ c ∷ rest))
  colon-bytes c rest l bar other spaced = by (wide-or c)
    where
      by : (c < 128) ⊎ (128 ≤ c) → IsForeign past blank start (enc (58 ∷ c ∷ rest))
      by (inl low) =
          let front : enc (58 ∷ c ∷ rest) ≡ 58 ∷ c ∷ enc rest = enc-cons 58 (c ∷ rest) (omega arith) ∙ ap (λ y. 58 ∷ y) (enc-cons c rest low) in
          subst (IsForeign past blank start) (sym front) (IsForeign.ColonTouched c (enc rest) l bar other (subst (λ y. ¬ IsSpaced y) (enc-cons c rest low) (not-spaced-bytes (c ∷ rest) spaced)))
      by (inr high) =
          let w = wide-encode c high in
          let g = w.high in
          let front : enc (c ∷ rest) ≡ w.first ∷ (w.others ++ enc rest) = ap (λ v. v ++ enc rest) w.is in
          subst (IsForeign past blank start) (sym (enc-cons 58 (c ∷ rest) (omega arith) ∙ ap (λ y. 58 ∷ y) front))
          (IsForeign.ColonTouched w.first (w.others ++ enc rest) (wide-letter w.first w.high) (omega arith) (omega arith) (subst (λ y. ¬ IsSpaced y) front (not-spaced-bytes (c ∷ rest) spaced)))

  wide-bytes : (c : ℕ) (rest : List ℕ) → 128 ≤ c → IsForeign past blank start (enc (c ∷ rest))
  wide-bytes c rest high = let w = wide-encode c high in subst (IsForeign past blank start) (sym (ap (λ v. v ++ enc rest) w.is)) (IsForeign.PastAscii w.first (w.others ++ enc rest) w.high)

  pub foreign-bytes : (z : List ℕ) → IsForeign past blank start z → IsForeign past blank start (enc z)
  foreign-bytes _ (IsForeign.LongComment rest fresh) = subst (IsForeign past blank start) (sym (enc-front (codes "=begin") rest refl)) (IsForeign.LongComment (enc rest) fresh)
  foreign-bytes _ (IsForeign.EndMark rest fresh line) = subst (IsForeign past blank start) (sym (enc-front (codes "__END__") rest refl)) (IsForeign.EndMark (enc rest) fresh (line-bytes rest line))
  foreign-bytes _ (IsForeign.ClassVariable rest) = subst (IsForeign past blank start) (sym (enc-front (64 ∷ 64 ∷ []) rest refl)) (IsForeign.ClassVariable (enc rest))
  foreign-bytes _ (IsForeign.Global rest) = subst (IsForeign past blank start) (sym (enc-cons 36 rest (omega arith))) (IsForeign.Global (enc rest))
  foreign-bytes _ (IsForeign.Backtick rest) = subst (IsForeign past blank start) (sym (enc-cons 96 rest (omega arith))) (IsForeign.Backtick (enc rest))
  foreign-bytes _ (IsForeign.PastAscii c rest wide) = wide-bytes c rest wide
  foreign-bytes _ (IsForeign.ForeignOperator w rest h) = subst (IsForeign past blank start) (sym (enc-front w rest (foreign-thin w h))) (IsForeign.ForeignOperator w (enc rest) h)
  foreign-bytes _ (IsForeign.Opening s w rest l held ends names) = subst (IsForeign past blank start) (sym (enc-front w rest (spells-thin past s w [] rest l.spells).0)) (IsForeign.Opening s w (enc rest) (longest-bytes past s w [] rest l) held ends names)
  foreign-bytes _ (IsForeign.HereDocument w rest l ends b here) = subst (IsForeign past blank start) (sym (enc-front w rest (spells-thin past shape.ShiftLeft w [] rest l.spells).0)) (IsForeign.HereDocument w (enc rest) (longest-bytes past shape.ShiftLeft w [] rest l) ends b (here-bytes rest here))
  foreign-bytes _ (IsForeign.QuestionAtOperand rest ends) = subst (IsForeign past blank start) (sym (enc-cons 63 rest (omega arith))) (IsForeign.QuestionAtOperand (enc rest) ends)
  foreign-bytes _ (IsForeign.QuestionTouched rest spaced) = subst (IsForeign past blank start) (sym (enc-cons 63 rest (omega arith))) (IsForeign.QuestionTouched (enc rest) (not-spaced-bytes rest spaced))
  foreign-bytes _ (IsForeign.ColonTouched c rest l bar other spaced) = colon-bytes c rest l bar other spaced
  foreign-bytes _ (IsForeign.ParenAfterConstant rest constant b) = subst (IsForeign past blank start) (sym (enc-cons 40 rest (omega arith))) (IsForeign.ParenAfterConstant (enc rest) constant b)
  foreign-bytes _ (IsForeign.ZeroAndDigit d rest h) = subst (IsForeign past blank start) (sym (enc-cons 48 (d ∷ rest) (omega arith) ∙ ap (λ y. 48 ∷ y) (enc-cons d rest (digit-low d h)))) (IsForeign.ZeroAndDigit d (enc rest) h)
  foreign-bytes _ (IsForeign.NumberAndLetter s w rest c held l letter) =
      let one = enc-cons c rest (letter-low c letter) in
      subst (IsForeign past blank start) (sym (enc-front w (c ∷ rest) (spells-thin past s w w (c ∷ rest) l.spells).0 ∙ ap (λ y. w ++ y) one)) (IsForeign.NumberAndLetter s w (enc rest) c held (subst (IsLongest past s w w) one (longest-bytes past s w w (c ∷ rest) l)) letter)
  foreign-bytes _ (IsForeign.LargeNumber w rest l large) = subst (IsForeign past blank start) (sym (enc-front w rest (spells-thin past shape.Whole w w rest l.spells).0)) (IsForeign.LargeNumber w (enc rest) (longest-bytes past shape.Whole w w rest l) large)
  foreign-bytes _ (IsForeign.ForeignWord w rest whole held dot) = subst (IsForeign past blank start) (sym (enc-front w rest (named-thin w rest whole.named))) (IsForeign.ForeignWord w (enc rest) (whole-bytes w rest whole) held dot)

  colon-chars : (z : List ℕ) (c : ℕ) (rest : List ℕ) → is_letter c ≡ false → c ≢ 95 → c ≢ 58 → ¬ IsSpaced (c ∷ rest) → c ∷ rest ≡ enc z → IsForeign past blank start (58 ∷ z)
  colon-chars z c rest l bar other spaced e = by (wide-or c)
    where
      free : ¬ IsSpaced z
      free = not-spaced-chars z (subst (λ y. ¬ IsSpaced y) e spaced)

      by : (c < 128) ⊎ (128 ≤ c) → IsForeign past blank start (58 ∷ z)
      by (inl low) = let one = enc-first z c rest low (sym e) in subst (λ y. IsForeign past blank start (58 ∷ y)) (sym one.1) (IsForeign.ColonTouched c one.0 l bar other (subst (λ y. ¬ IsSpaced y) one.1 free))
      by (inr high) =
          let p = enc-wide z c rest high (sym e) in
          let w = p.3 in
          subst (λ y. IsForeign past blank start (58 ∷ y)) (sym p.2) (IsForeign.ColonTouched p.0 p.1 (wide-letter p.0 p.3) (omega arith) (omega arith) (subst (λ y. ¬ IsSpaced y) p.2 free))

  pub foreign-chars : (z y : List ℕ) → IsForeign past blank start y → y ≡ enc z → IsForeign past blank start z
  foreign-chars z _ (IsForeign.LongComment rest fresh) e = let p = enc-parts (codes "=begin") z rest refl (sym e) in subst (IsForeign past blank start) (sym p.1) (IsForeign.LongComment p.0 fresh)
  foreign-chars z _ (IsForeign.EndMark rest fresh line) e = let p = enc-parts (codes "__END__") z rest refl (sym e) in subst (IsForeign past blank start) (sym p.1) (IsForeign.EndMark p.0 fresh (line-chars p.0 rest line p.2))
  foreign-chars z _ (IsForeign.ClassVariable rest) e = let p = enc-parts (64 ∷ 64 ∷ []) z rest refl (sym e) in subst (IsForeign past blank start) (sym p.1) (IsForeign.ClassVariable p.0)
  foreign-chars z _ (IsForeign.Global rest) e = let p = enc-first z 36 rest (omega arith) (sym e) in subst (IsForeign past blank start) (sym p.1) (IsForeign.Global p.0)
  foreign-chars z _ (IsForeign.Backtick rest) e = let p = enc-first z 96 rest (omega arith) (sym e) in subst (IsForeign past blank start) (sym p.1) (IsForeign.Backtick p.0)
  foreign-chars z _ (IsForeign.PastAscii c rest wide) e = let p = enc-wide z c rest wide (sym e) in subst (IsForeign past blank start) (sym p.2) (IsForeign.PastAscii p.0 p.1 p.3)
  foreign-chars z _ (IsForeign.ForeignOperator w rest h) e = let p = enc-parts w z rest (foreign-thin w h) (sym e) in subst (IsForeign past blank start) (sym p.1) (IsForeign.ForeignOperator w p.0 h)
  foreign-chars z _ (IsForeign.Opening s w rest l held ends names) e =
      let p = enc-parts w z rest (spells-thin past s w [] rest l.spells).0 (sym e) in
      subst (IsForeign past blank start) (sym p.1) (IsForeign.Opening s w p.0 (longest-chars past s w [] p.0 (subst (IsLongest past s w []) p.2 l)) held ends names)
  foreign-chars z _ (IsForeign.HereDocument w rest l ends b here) e =
      let p = enc-parts w z rest (spells-thin past shape.ShiftLeft w [] rest l.spells).0 (sym e) in
      subst (IsForeign past blank start) (sym p.1) (IsForeign.HereDocument w p.0 (longest-chars past shape.ShiftLeft w [] p.0 (subst (IsLongest past shape.ShiftLeft w []) p.2 l)) ends b (here-chars p.0 (subst (λ y. Begins 126 y ⊎ Begins 45 y ⊎ Begins 39 y ⊎ Begins 34 y) p.2 here)))
  foreign-chars z _ (IsForeign.QuestionAtOperand rest ends) e = let p = enc-first z 63 rest (omega arith) (sym e) in subst (IsForeign past blank start) (sym p.1) (IsForeign.QuestionAtOperand p.0 ends)
  foreign-chars z _ (IsForeign.QuestionTouched rest spaced) e =
      let p = enc-first z 63 rest (omega arith) (sym e) in subst (IsForeign past blank start) (sym p.1) (IsForeign.QuestionTouched p.0 (not-spaced-chars p.0 (subst (λ y. ¬ IsSpaced y) p.2 spaced)))
  foreign-chars z _ (IsForeign.ColonTouched c rest l bar other spaced) e =
      let p = enc-first z 58 (c ∷ rest) (omega arith) (sym e) in subst (IsForeign past blank start) (sym p.1) (colon-chars p.0 c rest l bar other spaced p.2)
  foreign-chars z _ (IsForeign.ParenAfterConstant rest constant b) e = let p = enc-first z 40 rest (omega arith) (sym e) in subst (IsForeign past blank start) (sym p.1) (IsForeign.ParenAfterConstant p.0 constant b)
  foreign-chars z _ (IsForeign.ZeroAndDigit d rest h) e =
      let p = enc-first z 48 (d ∷ rest) (omega arith) (sym e) in
      let q = enc-first p.0 d rest (digit-low d h) (sym p.2) in
      subst (IsForeign past blank start) (sym (p.1 ∙ ap (λ y. 48 ∷ y) q.1)) (IsForeign.ZeroAndDigit d q.0 h)
  foreign-chars z _ (IsForeign.NumberAndLetter s w rest c held l letter) e =
      let p = enc-parts w z (c ∷ rest) (spells-thin past s w w (c ∷ rest) l.spells).0 (sym e) in
      let q = enc-first p.0 c rest (letter-low c letter) (sym p.2) in
      let m : IsLongest past s w w p.0 = longest-chars past s w w p.0 (subst (IsLongest past s w w) p.2 l) in
      subst (IsForeign past blank start) (sym (p.1 ∙ ap (λ y. w ++ y) q.1)) (IsForeign.NumberAndLetter s w q.0 c held (subst (IsLongest past s w w) q.1 m) letter)
  foreign-chars z _ (IsForeign.LargeNumber w rest l large) e =
      let p = enc-parts w z rest (spells-thin past shape.Whole w w rest l.spells).0 (sym e) in
      subst (IsForeign past blank start) (sym p.1) (IsForeign.LargeNumber w p.0 (longest-chars past shape.Whole w w p.0 (subst (IsLongest past shape.Whole w w) p.2 l)) large)
  foreign-chars z _ (IsForeign.ForeignWord w rest whole held dot) e =
      let p = enc-parts w z rest (named-thin w rest whole.named) (sym e) in
      subst (IsForeign past blank start) (sym p.1) (IsForeign.ForeignWord w p.0 (whole-chars w p.0 (subst (IsWholeName w) p.2 whole)) held dot)

-- ---- no Ruby of any kind

module _ (past : List Shape) (blank : Bool) where
  no-spell : (c : ℕ) (z : List ℕ) → ((s : Shape) (w words rest : List ℕ) → w ++ rest ≡ c ∷ z → ¬ Spells past s w words rest) → (s : Shape) (w words rest : List ℕ) → w ++ rest ≡ enc (c ∷ z) → ¬ Spells past s w words rest
  no-spell c z none s w words rest e h =
      let p = enc-parts w (c ∷ z) rest (spells-thin past s w words rest h).0 (sym e) in
      none s w words p.0 (sym p.1) (spells-alike past s w words (enc p.0) p.0 (enc-alike p.0) (subst (Spells past s w words) p.2 h))

  no-blank : (c : ℕ) (z : List ℕ) → ((w rest : List ℕ) → w ++ rest ≡ c ∷ z → ¬ IsBlank w rest) → (w rest : List ℕ) → w ++ rest ≡ enc (c ∷ z) → ¬ IsBlank w rest
  no-blank c z none w rest e h = let p = enc-parts w (c ∷ z) rest (blank-thin w rest h) (sym e) in none w p.0 (sym p.1) (blank-chars w p.0 rest h p.2)

  no-mark : (c : ℕ) (z : List ℕ) (b : ℕ) (y : List ℕ) → enc (c ∷ z) ≡ b ∷ y → ¬ Holds c (10 ∷ 35 ∷ 34 ∷ 39 ∷ []) → ¬ Holds b (10 ∷ 35 ∷ 34 ∷ 39 ∷ [])
  no-mark c z b y e none h = none (subst (λ d. Holds d (10 ∷ 35 ∷ 34 ∷ 39 ∷ [])) (same (low h)) h)
    where
      low : Holds b (10 ∷ 35 ∷ 34 ∷ 39 ∷ []) → b < 128
      low (inl f) = omega arith
      low (inr (inl f)) = omega arith
      low (inr (inr (inl f))) = omega arith
      low (inr (inr (inr (inl f)))) = omega arith
      low (inr (inr (inr (inr f)))) = absurd f

      same : b < 128 → b ≡ c
      same l = let p = enc-first (c ∷ z) b y l e in sym (head-same c b z p.0 p.1)

  pub wrong-bytes : (z : List ℕ) → IsWrong past blank z → IsWrong past blank (enc z)
  wrong-bytes _ (IsWrong.Ambiguous s w rest l held after b spaced) =
      subst (IsWrong past blank) (sym (enc-front w rest (spells-thin past s w [] rest l.spells).0)) (IsWrong.Ambiguous s w (enc rest) (longest-bytes past s w [] rest l) held after b (not-spaced-bytes rest spaced))
  wrong-bytes _ (IsWrong.ParenAfterBlank rest after b) = subst (IsWrong past blank) (sym (enc-cons 40 rest (omega arith))) (IsWrong.ParenAfterBlank (enc rest) after b)
  wrong-bytes _ (IsWrong.NoToken c z spelt blanks marks) =
      let p = enc-some c z in
      subst (IsWrong past blank) (sym p.2)
      (IsWrong.NoToken p.0 p.1 (λ s w words rest e. no-spell c z spelt s w words rest (e ∙ sym p.2)) (λ w rest e. no-blank c z blanks w rest (e ∙ sym p.2)) (no-mark c z p.0 p.1 p.2 marks))

  pub wrong-chars : (z y : List ℕ) → IsWrong past blank y → y ≡ enc z → IsWrong past blank z
  wrong-chars z _ (IsWrong.Ambiguous s w rest l held after b spaced) e =
      let p = enc-parts w z rest (spells-thin past s w [] rest l.spells).0 (sym e) in
      subst (IsWrong past blank) (sym p.1) (IsWrong.Ambiguous s w p.0 (longest-chars past s w [] p.0 (subst (IsLongest past s w []) p.2 l)) held after b (not-spaced-chars p.0 (subst (λ y. ¬ IsSpaced y) p.2 spaced)))
  wrong-chars z _ (IsWrong.ParenAfterBlank rest after b) e = let p = enc-first z 40 rest (omega arith) (sym e) in subst (IsWrong past blank) (sym p.1) (IsWrong.ParenAfterBlank p.0 after b)
  wrong-chars [] _ (IsWrong.NoToken c y spelt blanks marks) e = absurd (cc)
  wrong-chars (d ∷ z) _ (IsWrong.NoToken c y spelt blanks marks) e =
      IsWrong.NoToken d z
      (λ s w words rest f h. spelt s w words (enc rest) (sym (enc-front w rest (spells-thin past s w words rest h).0) ∙ ap enc f ∙ sym e) (spells-alike past s w words rest (enc rest) (alike-enc rest) h))
      (λ w rest f h. blanks w (enc rest) (sym (enc-front w rest (blank-thin w rest h)) ∙ ap enc f ∙ sym e) (blank-bytes w rest h))
      (λ h. marks (subst (λ k. Holds k (10 ∷ 35 ∷ 34 ∷ 39 ∷ [])) (same (low h)) h))
    where
      low : Holds d (10 ∷ 35 ∷ 34 ∷ 39 ∷ []) → d < 128
      low (inl f) = omega arith
      low (inr (inl f)) = omega arith
      low (inr (inr (inl f))) = omega arith
      low (inr (inr (inr (inl f)))) = omega arith
      low (inr (inr (inr (inr f)))) = absurd f

      same : d < 128 → d ≡ c
      same l = head-same d c (enc z) y (sym (enc-cons d z l) ∙ sym e)
