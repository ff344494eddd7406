-- Pieces of strings: the content of a string, against what is computed of its bytes.
use Rattle.std.proofs.Common.{◌≡◌, ◌≢◌, ℕ, suc, ◌+◌, ◌<◌, ◌≤◌, ◌⊎◌, Bool, true, false, not, nat_le, ◌==◌, ◌&&◌, ◌||◌, if◌then◌else◌, List, [], ◌∷◌, ◌++◌, length, drop, Option, Some, None, inl, inr, refl, sym, ap, subst, ◌∙◌, length-append, arith}
use Rattle.std.specs.Prelude.{slice_index}
use Rattle.std.specs.List.{list_all}
use Rattle.std.proofs.lemmas.Str.{length-encode}
use Rattle.std.proofs.lemmas.Bool.Decides.{nat_tests}
use Rattle.std.proofs.lemmas.List.Sums.{sum_by-cons}
use Rattle.std.specs.Char.{len_utf8}
use lib.Utf8.{encode}
use Rattle.srb_text.specs.Positions.{byte_len}
use Rattle.rb_lex.specs.Pieces.{stop_at, piece_from, piece_of, is_touched}
use Rattle.rb_lex.specs.declared.piece.Stop.{Stop}
use Rattle.rb_lex.specs.declared.piece.Stop.TheVariants as stop
use Rattle.rb_lex.specs.declared.piece.Piece.{Piece}
use Rattle.rb_rules.specs.Spellings.{Begins}
use Rattle.rb_rules.specs.Lexes.{IsContent, IsCutContent, IsTouched}
use Rattle.rb_lex_laws.proofs.Lists.{if-true, and-both, both-and, not-of, not-true, no-both, eq-is, is-eq, eq-not, not-eq, tail-at, begins-is, begins-not, on-begins}
use Rattle.rb_lex_laws.proofs.Encoded.{enc, wide-encode, thin-encode, enc-cons, enc-front, begins-enc, enc-begins}

-- ---- bytes of characters

pub enc-len : (w : List ℕ) → length (enc w) ≡ byte_len w
enc-len [] = refl
enc-len (c ∷ w) = let a = length-append (encode c) (enc w) in let b = length-encode c in let more = enc-len w in let sum = sum_by-cons len_utf8 c w in omega arith

pub enc-none-len : length (enc []) ≡ 0
enc-none-len = refl

-- the bytes of a character: those after the first are not ASCII
pub record Lead (c : ℕ) : Type 0 where
  pub first : ℕ
  pub others : List ℕ
  pub is : encode c ≡ first ∷ others
  pub all_high : list_all (λ b. nat_le 128 b) others ≡ true
  pub kept : (k : ℕ) → k < 128 → (first == k) ≡ (c == k)

pub lead : (c : ℕ) → Lead c
lead c = by (wide-or c)
  where
    wide-or : (c : ℕ) → (c < 128) ⊎ (128 ≤ c)
    wide-or c = grind arith

    by : (c < 128) ⊎ (128 ≤ c) → Lead c
    by (inl low) = record { first = c; others = []; is = thin-encode c low; all_high = refl; kept = λ k h. refl }
    by (inr high) = let w = wide-encode c high in record { first = w.first; others = w.others; is = w.is; all_high = w.all_high; kept = λ k h. (let g = w.high in not-eq w.first k (omega arith)) ∙ sym (not-eq c k (omega arith)) }

pub enc-lead : (c : ℕ) (z : List ℕ) → enc (c ∷ z) ≡ (lead c).first ∷ ((lead c).others ++ enc z)
enc-lead c z = ap (λ v. v ++ enc z) (lead c).is

-- ---- where a piece goes on

stop-by : (a q h x y : Bool) → a ≡ false → (q ≡ true → h ≡ true → (x ≡ false) × (y ≡ false)) → (if a then Some stop.Quote else (if not q || not h then None else (if x then Some stop.Interpolation else (if y then Some stop.Foreign else None)))) ≡ None
stop-by true q h x y e f = absurd (cc)
stop-by false false h x y e f = refl
stop-by false true false x y e f = refl
stop-by false true true true y e f = absurd (cc (f refl refl).0)
stop-by false true true false true e f = absurd (cc (f refl refl).1)
stop-by false true true false false e f = refl

stop-none : (quote b next : ℕ) → (b == quote) ≡ false → ((quote == 34) ≡ true → (b == 35) ≡ true → ((next == 123) ≡ false) × ((next == 64 || next == 36) ≡ false)) → stop_at quote b next ≡ None
stop-none quote b next e f = stop-by (b == quote) (quote == 34) (b == 35) (next == 123) (next == 64 || next == 36) e f

abbrev piece_by : ℕ → ℕ → List ℕ → ℕ → Option Stop → Piece
piece_by quote b z len x = elim x [ None ↦ piece_from quote (b == 92) (len + 1) z | Some s ↦ record { stop = s; len = len } ]

goes : (quote b n : ℕ) (y : List ℕ) → stop_at quote b (slice_index y 0) ≡ None → (b == 92) ≡ false → piece_from quote false n (b ∷ y) ≡ piece_from quote false (n + 1) y
goes quote b n y e f = ap (piece_by quote b y n) e ∙ ap (λ t. piece_from quote t (n + 1) y) f

takes : (quote n : ℕ) (y : List ℕ) → stop_at quote 92 (slice_index y 0) ≡ None → piece_from quote false n (92 ∷ y) ≡ piece_from quote true (n + 1) y
takes quote n y e = ap (piece_by quote 92 y n) e

pub stops : (quote b n : ℕ) (y : List ℕ) (s : Stop) → stop_at quote b (slice_index y 0) ≡ Some s → piece_from quote false n (b ∷ y) ≡ record { stop = s; len = n }
stops quote b n y s e = ap (piece_by quote b y n) e

abbrev pub IsQuote : ℕ → Type 0
IsQuote quote = (quote ≡ 34) ⊎ (quote ≡ 39)

quote-low : (quote b : ℕ) → IsQuote quote → 128 ≤ b → (b == quote) ≡ false
quote-low quote b (inl e) h = not-eq b quote (omega arith)
quote-low quote b (inr e) h = not-eq b quote (omega arith)

-- over bytes that are not ASCII
high-run : (quote : ℕ) (v y : List ℕ) (n : ℕ) → IsQuote quote → list_all (λ b. nat_le 128 b) v ≡ true → piece_from quote false n (v ++ y) ≡ piece_from quote false (n + length v) y
high-run quote [] y n q h = let e : n ≡ n + 0 = omega arith in ap (λ k. piece_from quote false k y) e
high-run quote (b ∷ v) y n q h =
    let both = and-both (nat_le 128 b) (list_all (λ b. nat_le 128 b) v) h in
    let high = high-of b both.0 in
    let e : n + 1 + length v ≡ n + suc (length v) = omega arith in
    goes quote b n (v ++ y) (stop-none quote b (slice_index (v ++ y) 0) (quote-low quote b q high) (λ _ k. absurd (other b high k))) (not-eq b 92 (omega arith))
    ∙ high-run quote v y (n + 1) q both.1 ∙ ap (λ k. piece_from quote false k y) e
  where
    high-of : (b : ℕ) → nat_le 128 b ≡ true → 128 ≤ b
    high-of b h = grind (arith, nat_tests)

    other : (b : ℕ) → 128 ≤ b → (b == 35) ≡ true → ⊥
    other b h e = let f = eq-is b 35 e in omega arith

backslash-stop : (quote next : ℕ) → IsQuote quote → stop_at quote 92 next ≡ None
backslash-stop quote next q = stop-none quote 92 next (not-eq 92 quote (other q)) (λ _ k. absurd (cc))
  where
    other : IsQuote quote → 92 ≢ quote
    other (inl e) = omega arith
    other (inr e) = omega arith

lead-len : (c : ℕ) (w : List ℕ) → length (enc (c ∷ w)) ≡ suc (length (lead c).others + length (enc w))
lead-len c w = ap length (enc-lead c w) ∙ ap suc (length-append (lead c).others (enc w))

-- the content of a string goes on to its end
pub content-piece : (quote : ℕ) (w rest : List ℕ) (n : ℕ) → IsQuote quote → IsContent quote w rest → piece_from quote false n (enc (w ++ rest)) ≡ piece_from quote false (n + length (enc w)) (enc rest)
content-piece quote _ _ n q (IsContent.Empty rest) = let e : n ≡ n + 0 = omega arith in ap (λ k. piece_from quote false k (enc rest)) e
content-piece quote _ rest n q (IsContent.Taken c w _ more) =
    let z = w ++ rest in
    let l = lead c in
    let after = enc z in
    let size = lead-len c w in
    let first : length (enc (92 ∷ c ∷ w)) ≡ suc (length (enc (c ∷ w))) = ap length (enc-cons 92 (c ∷ w) (omega arith)) in
    let e : n + 1 + 1 + length l.others + length (enc w) ≡ n + length (enc (92 ∷ c ∷ w)) = omega arith in
    ap (piece_from quote false n) (enc-cons 92 (c ∷ z) (omega arith) ∙ ap (λ y. 92 ∷ y) (enc-lead c z))
    ∙ takes quote n (l.first ∷ (l.others ++ after)) (backslash-stop quote (slice_index (l.first ∷ (l.others ++ after)) 0) q)
    ∙ high-run quote l.others after (n + 1 + 1) q l.all_high
    ∙ content-piece quote w rest (n + 1 + 1 + length l.others) q more ∙ ap (λ k. piece_from quote false k (enc rest)) e
content-piece quote _ rest n q (IsContent.Single c w _ other slash hash more) =
    let z = w ++ rest in
    let l = lead c in
    let size = lead-len c w in
    let e : n + 1 + length l.others + length (enc w) ≡ n + length (enc (c ∷ w)) = omega arith in
    ap (piece_from quote false n) (enc-lead c z)
    ∙ goes quote l.first n (l.others ++ enc z) (stop-none quote l.first (slice_index (l.others ++ enc z) 0) (low-quote q) (λ e h. after (eq-is quote 34 e) (eq-is c 35 (sym (l.kept 35 (omega arith)) ∙ h)))) (l.kept 92 (omega arith) ∙ not-eq c 92 slash)
    ∙ high-run quote l.others (enc z) (n + 1) q l.all_high
    ∙ content-piece quote w rest (n + 1 + length l.others) q more ∙ ap (λ k. piece_from quote false k (enc rest)) e
  where
    low-quote : IsQuote quote → ((lead c).first == quote) ≡ false
    low-quote (inl e) = let h : quote < 128 = omega arith in (lead c).kept quote h ∙ not-eq c quote other
    low-quote (inr e) = let h : quote < 128 = omega arith in (lead c).kept quote h ∙ not-eq c quote other

    none : (k : ℕ) → 0 < k → k < 128 → ¬ Begins k (w ++ rest) → (slice_index (enc (w ++ rest)) 0 == k) ≡ false
    none k some low free = begins-not k (enc (w ++ rest)) some (λ b. free (enc-begins k (w ++ rest) low b))

    both-none : (a b : Bool) → a ≡ false → b ≡ false → (a || b) ≡ false
    both-none true b e f = absurd (cc)
    both-none false b e f = f

    others-none : c ≡ 35 → (lead c).others ≡ []
    others-none e = by (lead c).others (sym (lead c).is ∙ ap encode e ∙ thin-encode 35 (omega arith))
      where
        by : (v : List ℕ) → (lead c).first ∷ v ≡ 35 ∷ [] → v ≡ []
        by v f = cc

    after : quote ≡ 34 → c ≡ 35 → ((slice_index ((lead c).others ++ enc (w ++ rest)) 0 == 123) ≡ false) × ((slice_index ((lead c).others ++ enc (w ++ rest)) 0 == 64 || slice_index ((lead c).others ++ enc (w ++ rest)) 0 == 36) ≡ false)
    after e h =
        let free = hash e h in
        subst (λ v. ((slice_index (v ++ enc (w ++ rest)) 0 == 123) ≡ false) × ((slice_index (v ++ enc (w ++ rest)) 0 == 64 || slice_index (v ++ enc (w ++ rest)) 0 == 36) ≡ false)) (sym (others-none h))
        (none 123 (omega arith) (omega arith) (λ b. free (inl b)), both-none (slice_index (enc (w ++ rest)) 0 == 64) (slice_index (enc (w ++ rest)) 0 == 36) (none 64 (omega arith) (omega arith) (λ b. free (inr (inl b)))) (none 36 (omega arith) (omega arith) (λ b. free (inr (inr b)))))

-- ---- what a piece is

pub data Part (quote : ℕ) (z : List ℕ) : Type 0 where
  Quote : (w rest : List ℕ) → w ++ quote ∷ rest ≡ z → IsContent quote w (quote ∷ rest) → Part quote z
  Interpolation : (w rest : List ℕ) → quote ≡ 34 → w ++ 35 ∷ 123 ∷ rest ≡ z → IsContent 34 w (35 ∷ 123 ∷ rest) → Part quote z
  Foreign : (w rest : List ℕ) (c : ℕ) → quote ≡ 34 → (c ≡ 64) ⊎ (c ≡ 36) → w ++ 35 ∷ c ∷ rest ≡ z → IsContent 34 w (35 ∷ c ∷ rest) → Part quote z
  End : (IsContent quote z [] ⊎ IsCutContent quote z) → Part quote z

with-taken : (quote c : ℕ) (z : List ℕ) → Part quote z → Part quote (92 ∷ c ∷ z)
with-taken quote c z (Part.Quote w rest e h) = Part.Quote (92 ∷ c ∷ w) rest (ap (λ y. 92 ∷ c ∷ y) e) (IsContent.Taken c w (quote ∷ rest) h)
with-taken quote c z (Part.Interpolation w rest q e h) = Part.Interpolation (92 ∷ c ∷ w) rest q (ap (λ y. 92 ∷ c ∷ y) e) (IsContent.Taken c w (35 ∷ 123 ∷ rest) h)
with-taken quote c z (Part.Foreign w rest d q k e h) = Part.Foreign (92 ∷ c ∷ w) rest d q k (ap (λ y. 92 ∷ c ∷ y) e) (IsContent.Taken c w (35 ∷ d ∷ rest) h)
with-taken quote c z (Part.End (inl h)) = Part.End (inl (IsContent.Taken c z [] h))
with-taken quote c z (Part.End (inr h)) = Part.End (inr (92 ∷ c ∷ h.0, ap (λ y. 92 ∷ c ∷ y) h.1, IsContent.Taken c h.0 (92 ∷ []) h.2))

abbrev Free : ℕ → ℕ → List ℕ → Type 0
Free quote c z = quote ≡ 34 → c ≡ 35 → ¬ (Begins 123 z ⊎ Begins 64 z ⊎ Begins 36 z)

with-single : (quote c : ℕ) (z : List ℕ) → c ≢ quote → c ≢ 92 → Free quote c z → Part quote z → Part quote (c ∷ z)
with-single quote c z other slash free (Part.Quote w rest e h) = Part.Quote (c ∷ w) rest (ap (λ y. c ∷ y) e) (IsContent.Single c w (quote ∷ rest) other slash (subst (Free quote c) (sym e) free) h)
with-single quote c z other slash free (Part.Interpolation w rest q e h) =
    Part.Interpolation (c ∷ w) rest q (ap (λ y. c ∷ y) e) (IsContent.Single c w (35 ∷ 123 ∷ rest) (λ k. other (k ∙ sym q)) slash (λ k. subst (Free quote c) (sym e) free q) h)
with-single quote c z other slash free (Part.Foreign w rest d q k e h) =
    Part.Foreign (c ∷ w) rest d q k (ap (λ y. c ∷ y) e) (IsContent.Single c w (35 ∷ d ∷ rest) (λ j. other (j ∙ sym q)) slash (λ j. subst (Free quote c) (sym e) free q) h)
with-single quote c z other slash free (Part.End (inl h)) = Part.End (inl (IsContent.Single c z [] other slash (subst (Free quote c) (none z) free) h))
  where
    none : (z : List ℕ) → z ≡ z ++ []
    none [] = refl
    none (d ∷ z) = ap (λ y. d ∷ y) (none z)
with-single quote c z other slash free (Part.End (inr h)) = Part.End (inr (c ∷ h.0, ap (λ y. c ∷ y) h.1, IsContent.Single c h.0 (92 ∷ []) other slash (subst (Free quote c) h.1 free) h.2))

pub part-of : (quote : ℕ) (z : List ℕ) → IsQuote quote → Part quote z
part-of quote [] q = Part.End (inl (IsContent.Empty []))
part-of quote (c ∷ []) q = by (c == quote) refl (c == 92) refl
  where
    by : (s : Bool) → (c == quote) ≡ s → (t : Bool) → (c == 92) ≡ t → Part quote (c ∷ [])
    by true e t f = let is = eq-is c quote e in subst (λ d. Part quote (d ∷ [])) (sym is) (Part.Quote [] [] refl (IsContent.Empty (quote ∷ [])))
    by false e true f = subst (λ d. Part quote (d ∷ [])) (sym (eq-is c 92 f)) (Part.End (inr ([], refl, IsContent.Empty (92 ∷ []))))
    by false e false f = with-single quote c [] (eq-not c quote e) (eq-not c 92 f) (λ j k b. none b) (Part.End (inl (IsContent.Empty [])))
      where
        none : (Begins 123 [] ⊎ Begins 64 [] ⊎ Begins 36 []) → ⊥
        none (inl b) = b
        none (inr (inl b)) = b
        none (inr (inr b)) = b
part-of quote (c ∷ d ∷ z) q = by (c == quote) refl (c == 92) refl (quote == 34 && c == 35) refl (part-of quote (d ∷ z) q) (part-of quote z q)
  where
    interpolated : quote ≡ 34 → c ≡ 35 → d ≡ 123 → Part quote (c ∷ d ∷ z)
    interpolated j k l = Part.Interpolation [] z j (ap (λ x. x ∷ 123 ∷ z) (sym k) ∙ ap (λ x. c ∷ x ∷ z) (sym l)) (IsContent.Empty (35 ∷ 123 ∷ z))

    foreign : quote ≡ 34 → c ≡ 35 → (d ≡ 64) ⊎ (d ≡ 36) → Part quote (c ∷ d ∷ z)
    foreign j k l = Part.Foreign [] z d j l (ap (λ x. x ∷ d ∷ z) (sym k)) (IsContent.Empty (35 ∷ d ∷ z))

    free : (d == 123) ≡ false → (d == 64) ≡ false → (d == 36) ≡ false → Free quote c (d ∷ z)
    free e f g j k (inl b) = eq-not d 123 e b
    free e f g j k (inr (inl b)) = eq-not d 64 f b
    free e f g j k (inr (inr b)) = eq-not d 36 g b

    hashed : (c == quote) ≡ false → (c == 92) ≡ false → quote ≡ 34 → c ≡ 35 → Part quote (d ∷ z) → (s : Bool) → (d == 123) ≡ s → (t : Bool) → (d == 64) ≡ t → (u : Bool) → (d == 36) ≡ u → Part quote (c ∷ d ∷ z)
    hashed e f j k next true a t b u g = interpolated j k (eq-is d 123 a)
    hashed e f j k next false a true b u g = foreign j k (inl (eq-is d 64 b))
    hashed e f j k next false a false b true g = foreign j k (inr (eq-is d 36 g))
    hashed e f j k next false a false b false g = with-single quote c (d ∷ z) (eq-not c quote e) (eq-not c 92 f) (free a b g) next

    by : (s : Bool) → (c == quote) ≡ s → (t : Bool) → (c == 92) ≡ t → (u : Bool) → (quote == 34 && c == 35) ≡ u → Part quote (d ∷ z) → Part quote z → Part quote (c ∷ d ∷ z)
    by true e t f u g next far = let is = eq-is c quote e in subst (λ x. Part quote (x ∷ d ∷ z)) (sym is) (Part.Quote [] (d ∷ z) refl (IsContent.Empty (quote ∷ d ∷ z)))
    by false e true f u g next far = subst (λ x. Part quote (x ∷ d ∷ z)) (sym (eq-is c 92 f)) (with-taken quote d z far)
    by false e false f true g next far =
        let both = and-both (quote == 34) (c == 35) g in
        hashed e f (eq-is quote 34 both.0) (eq-is c 35 both.1) next (d == 123) refl (d == 64) refl (d == 36) refl
    by false e false f false g next far =
        with-single quote c (d ∷ z) (eq-not c quote e) (eq-not c 92 f) (λ j k b. no-both (quote == 34 && c == 35) (both-and (quote == 34) (c == 35) (is-eq quote 34 j) (is-eq c 35 k)) g) next

-- ---- pieces by their ends

pub quote-piece : (quote : ℕ) (w rest : List ℕ) → IsQuote quote → IsContent quote w (quote ∷ rest) → piece_of quote (enc (w ++ quote ∷ rest)) ≡ record { stop = stop.Quote; len = length (enc w) }
quote-piece quote w rest q h =
    content-piece quote w (quote ∷ rest) 0 q h ∙ ap (piece_from quote false (0 + length (enc w))) (enc-cons quote rest (low q))
    ∙ stops quote quote (0 + length (enc w)) (enc rest) stop.Quote (if-true (quote == quote) (Some stop.Quote) _ (is-eq quote quote refl)) ∙ zeroed
  where
    low : IsQuote quote → quote < 128
    low (inl e) = omega arith
    low (inr e) = omega arith

    zeroed : (let p : Piece = record { stop = stop.Quote; len = 0 + length (enc w) } in p) ≡ record { stop = stop.Quote; len = length (enc w) }
    zeroed = let e : 0 + length (enc w) ≡ length (enc w) = omega arith in ap (λ n. let p : Piece = record { stop = stop.Quote; len = n } in p) e

pub interpolation-piece : (w rest : List ℕ) → IsContent 34 w (35 ∷ 123 ∷ rest) → piece_of 34 (enc (w ++ 35 ∷ 123 ∷ rest)) ≡ record { stop = stop.Interpolation; len = length (enc w) }
interpolation-piece w rest h =
    content-piece 34 w (35 ∷ 123 ∷ rest) 0 (inl refl) h ∙ ap (piece_from 34 false (0 + length (enc w))) (enc-front (35 ∷ 123 ∷ []) rest refl)
    ∙ stops 34 35 (0 + length (enc w)) (123 ∷ enc rest) stop.Interpolation refl ∙ zeroed
  where
    zeroed : (let p : Piece = record { stop = stop.Interpolation; len = 0 + length (enc w) } in p) ≡ record { stop = stop.Interpolation; len = length (enc w) }
    zeroed = let e : 0 + length (enc w) ≡ length (enc w) = omega arith in ap (λ n. let p : Piece = record { stop = stop.Interpolation; len = n } in p) e

pub foreign-piece : (w rest : List ℕ) (c : ℕ) → (c ≡ 64) ⊎ (c ≡ 36) → IsContent 34 w (35 ∷ c ∷ rest) → piece_of 34 (enc (w ++ 35 ∷ c ∷ rest)) ≡ record { stop = stop.Foreign; len = length (enc w) }
foreign-piece w rest c k h =
    content-piece 34 w (35 ∷ c ∷ rest) 0 (inl refl) h ∙ by k ∙ zeroed
  where
    zeroed : (let p : Piece = record { stop = stop.Foreign; len = 0 + length (enc w) } in p) ≡ record { stop = stop.Foreign; len = length (enc w) }
    zeroed = let e : 0 + length (enc w) ≡ length (enc w) = omega arith in ap (λ n. let p : Piece = record { stop = stop.Foreign; len = n } in p) e

    by : (c ≡ 64) ⊎ (c ≡ 36) → piece_from 34 false (0 + length (enc w)) (enc (35 ∷ c ∷ rest)) ≡ record { stop = stop.Foreign; len = 0 + length (enc w) }
    by (inl e) = ap (λ d. piece_from 34 false (0 + length (enc w)) (enc (35 ∷ d ∷ rest))) e ∙ ap (piece_from 34 false (0 + length (enc w))) (enc-front (35 ∷ 64 ∷ []) rest refl) ∙ stops 34 35 (0 + length (enc w)) (64 ∷ enc rest) stop.Foreign refl
    by (inr e) = ap (λ d. piece_from 34 false (0 + length (enc w)) (enc (35 ∷ d ∷ rest))) e ∙ ap (piece_from 34 false (0 + length (enc w))) (enc-front (35 ∷ 36 ∷ []) rest refl) ∙ stops 34 35 (0 + length (enc w)) (36 ∷ enc rest) stop.Foreign refl

no-rest : (w : List ℕ) → w ≡ w ++ []
no-rest [] = refl
no-rest (c ∷ w) = ap (λ y. c ∷ y) (no-rest w)

pub end-piece : (quote : ℕ) (w : List ℕ) → IsQuote quote → (IsContent quote w [] ⊎ IsCutContent quote w) → piece_of quote (enc w) ≡ record { stop = stop.End; len = length (enc w) }
end-piece quote w q (inl h) = ap (λ z. piece_from quote false 0 (enc z)) (no-rest w) ∙ content-piece quote w [] 0 q h ∙ zeroed
  where
    zeroed : (let p : Piece = record { stop = stop.End; len = 0 + length (enc w) } in p) ≡ record { stop = stop.End; len = length (enc w) }
    zeroed = let e : 0 + length (enc w) ≡ length (enc w) = omega arith in ap (λ n. let p : Piece = record { stop = stop.End; len = n } in p) e
end-piece quote w q (inr h) =
    ap (λ z. piece_from quote false 0 (enc z)) h.1 ∙ content-piece quote h.0 (92 ∷ []) 0 q h.2
    ∙ ap (piece_from quote false (0 + length (enc h.0))) (enc-cons 92 [] (omega arith)) ∙ takes quote (0 + length (enc h.0)) [] (backslash-stop quote (slice_index [] 0) q) ∙ size
  where
    size : (let p : Piece = record { stop = stop.End; len = 0 + length (enc h.0) + 1 } in p) ≡ record { stop = stop.End; len = length (enc w) }
    size =
        let a = enc-len w in let b = enc-len h.0 in
        let c : length (enc w) ≡ length (enc h.0) + 1 = both in
        let e : 0 + length (enc h.0) + 1 ≡ length (enc w) = omega arith in ap (λ n. let p : Piece = record { stop = stop.End; len = n } in p) e
      where
        both : length (enc w) ≡ length (enc h.0) + 1
        both = ap (λ z. length (enc z)) h.1 ∙ lens h.0
          where
            lens : (v : List ℕ) → length (enc (v ++ 92 ∷ [])) ≡ length (enc v) + 1
            lens [] = ap length (enc-cons 92 [] (omega arith))
            lens (c ∷ v) = let a = length-append (encode c) (enc (v ++ 92 ∷ [])) in let b = length-append (encode c) (enc v) in let more = lens v in omega arith

-- ---- a string that `:` touches

pub touched-bytes : (rest : List ℕ) → IsTouched rest → is_touched (enc rest) ≡ true
touched-bytes [] h = absurd h.0
touched-bytes (c ∷ rest) h =
    let low : c < 128 = (let e : c ≡ 58 = h.0 in omega arith) in
    ap is_touched (enc-cons c rest low)
    ∙ both-and (c == 58) (not (slice_index (c ∷ enc rest) 1 == 58)) (is-eq c 58 h.0) (not-of (slice_index (c ∷ enc rest) 1 == 58) (ap (λ k. k == 58) (sym (tail-at (c ∷ enc rest))) ∙ begins-not 58 (enc rest) (omega arith) (λ b. h.1 (enc-begins 58 rest (omega arith) b))))

pub bytes-touched : (rest : List ℕ) → is_touched (enc rest) ≡ true → IsTouched rest
bytes-touched rest h =
    let both = and-both (slice_index (enc rest) 0 == 58) (not (slice_index (enc rest) 1 == 58)) h in
    let here : Begins 58 rest = enc-begins 58 rest (omega arith) (begins-is 58 (enc rest) (omega arith) both.0) in
    (here, λ on. no-both (slice_index (enc rest) 1 == 58) (on-begins 58 (enc rest) (on-bytes rest here on)) (not-true (slice_index (enc rest) 1 == 58) both.1))
  where
    on-bytes : (z : List ℕ) → Begins 58 z → Begins 58 (drop 1 z) → Begins 58 (drop 1 (enc z))
    on-bytes [] h k = absurd h
    on-bytes (c ∷ z) h k =
        let low : c < 128 = omega arith in subst (λ y. Begins 58 (drop 1 y)) (sym (enc-cons c z low)) (begins-enc 58 z (omega arith) k)
