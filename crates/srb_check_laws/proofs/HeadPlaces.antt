-- Where the errors of the judgement can stand in a text: at characters. A word of a jump, an operator in front and the `[` of an index
-- are as long as they are said to be, so that what an error names of them ends where the token does.
use Rattle.std.proofs.Common.{◌≡◌, ℕ, ◌+◌, ◌-◌, ◌<◌, ◌≤◌, ◌⊎◌, min, Bool, true, ◌==◌, ◌||◌, List, [], ◌∷◌, inl, inr, refl, sym, ap, subst, ◌∙◌, arith}
use Rattle.std.specs.List.{list_all}
use Rattle.std.specs.Str.{encode_utf8_all}
use Rattle.srb_terms.specs.declared.span.Span.{Span}
use Rattle.srb_text.specs.Positions.{IsStart}
use Rattle.rb_tree.specs.Tokens.{shape_of, plain_kind}
use Rattle.rb_tree.specs.declared.token.Token.{Token}
use Rattle.rb_tree.specs.declared.token.TokenKind.TheVariants as kind
use Rattle.rb_tree.specs.declared.token.Shape.{Shape}
use Rattle.rb_tree.specs.declared.token.Shape.TheVariants as shape
use Rattle.rb_rules.specs.Grammar.{IsRow}
use Rattle.rb_rules.specs.Lexes.{Lexes, Reaches, Place, Spells, byte_len, kind_of}
use Rattle.rb_rules.specs.Spellings.{Holds, KEYWORDS, OPERATORS, METHOD_OPERATORS}
use Rattle.rb_rules.specs.Tokens.{IsOneOf}
use Rattle.rb_lex_laws.specs.Tokens.{StandInOrder}
use Rattle.rb_lex_laws.proofs.Lists.{and-both, or-either, eq-is}
use Rattle.rb_grammar.specs.Places.{Each}
use Rattle.rb_grammar.proofs.Placed.{each-end}
use Rattle.rb_places_laws.specs.TokenPlaces.{HEADS, IsTreePlaced, IsHead, IsPlaceOfError}
use Rattle.srb_check_laws.proofs.CharacterPlaces.{text-start}
use Rattle.srb_check_laws.proofs.TokenPlaces.{InText, token-in_text, placed-in_text}

-- ---- words and operators in front

-- how many bytes such a word, operator or bracket has; 0 where the shape is none of them
abbrev head_len : Shape → ℕ
head_len shape.Return = 6
head_len shape.Break = 5
head_len shape.Next = 4
head_len shape.Not = 1
head_len shape.Tilde = 1
head_len shape.Plus = 1
head_len shape.Minus = 1
head_len shape.OpenBracket = 1
head_len other = 0

head-is : (s : Shape) (count : ℕ) → IsRow HEADS s count → (head_len s ≡ count) × (0 < count)
head-is s count (inl h) = (ap head_len h.0 ∙ sym h.1, omega (arith, h.1))
head-is s count (inr (inl h)) = (ap head_len h.0 ∙ sym h.1, omega (arith, h.1))
head-is s count (inr (inr (inl h))) = (ap head_len h.0 ∙ sym h.1, omega (arith, h.1))
head-is s count (inr (inr (inr (inl h)))) = (ap head_len h.0 ∙ sym h.1, omega (arith, h.1))
head-is s count (inr (inr (inr (inr (inl h))))) = (ap head_len h.0 ∙ sym h.1, omega (arith, h.1))
head-is s count (inr (inr (inr (inr (inr (inl h)))))) = (ap head_len h.0 ∙ sym h.1, omega (arith, h.1))
head-is s count (inr (inr (inr (inr (inr (inr (inl h))))))) = (ap head_len h.0 ∙ sym h.1, omega (arith, h.1))
head-is s count (inr (inr (inr (inr (inr (inr (inr (inl h)))))))) = (ap head_len h.0 ∙ sym h.1, omega (arith, h.1))
head-is s count (inr (inr (inr (inr (inr (inr (inr (inr h)))))))) = absurd h

-- ---- how they are spelled

-- the shape is none of them, or as long as it is said to be
abbrev IsAsLong : Shape → ℕ → Type 0
IsAsLong s size = (head_len s ≡ 0) ⊎ (size ≡ head_len s)

abbrev fits : Shape × List ℕ → Bool
fits row = head_len row.0 == 0 || byte_len row.1 == head_len row.0

fits-held : (rows : List (Shape × List ℕ)) → list_all fits rows ≡ true → (row : Shape × List ℕ) → Holds row rows → fits row ≡ true
fits-held [] all row held = absurd held
fits-held (r ∷ rows) all row (inl e) = subst (λ (x : Shape × List ℕ). fits x ≡ true) (sym e) (and-both (fits r) (list_all fits rows) all).0
fits-held (r ∷ rows) all row (inr held) = fits-held rows (and-both (fits r) (list_all fits rows) all).1 row held

as-long : (s : Shape) (w : List ℕ) → fits (s, w) ≡ true → IsAsLong s (byte_len w)
as-long s w h = by (or-either (head_len s == 0) (byte_len w == head_len s) h)
  where
    by : ((head_len s == 0) ≡ true) ⊎ ((byte_len w == head_len s) ≡ true) → IsAsLong s (byte_len w)
    by (inl e) = inl (eq-is (head_len s) 0 e)
    by (inr e) = inr (eq-is (byte_len w) (head_len s) e)

spelled-long : (past : List Shape) (s : Shape) (w words rest : List ℕ) → Spells past s w words rest → IsAsLong s (byte_len w)
spelled-long past _ _ _ _ (Spells.Identifier w rest _ _) = inl refl
spelled-long past _ _ _ _ (Spells.Constant w rest _ _) = inl refl
spelled-long past _ _ _ _ (Spells.Keyword s w rest _ held _) = as-long s w (fits-held KEYWORDS refl (s, w) held)
spelled-long past _ _ _ _ (Spells.InstanceVariable w rest _) = inl refl
spelled-long past _ _ _ _ (Spells.Label w rest _ _) = inl refl
spelled-long past _ _ _ _ (Spells.Symbol w rest _) = inl refl
spelled-long past _ _ _ _ (Spells.Whole w rest _) = inl refl
spelled-long past _ _ _ _ (Spells.Float w rest _) = inl refl
spelled-long past _ _ _ _ (Spells.Semicolon rest) = inl refl
spelled-long past _ _ _ _ (Spells.Operator s w rest held) = as-long s w (fits-held OPERATORS refl (s, w) held)
spelled-long past _ _ _ _ (Spells.MethodOperator s w rest _ held) = as-long s w (fits-held METHOD_OPERATORS refl (s, w) held)

-- ---- the tokens of a text

-- a token of such a shape is as long as it is said to be
abbrev pub IsSpelled : Token → Type 0
IsSpelled t = (head_len (shape_of t.kind) ≡ 0) ⊎ (t.span.end ≡ t.span.start + head_len (shape_of t.kind))

kind-shape : (s : Shape) (words : List ℕ) → shape_of (kind_of s words) ≡ s
unfolding shape_of kind_of plain_kind
kind-shape shape.Text words = refl
kind-shape _ words = refl

token-spelled : (s : Shape) (words : List ℕ) (start size : ℕ) → IsAsLong s size → IsSpelled (record { kind = kind_of s words; span = record { start = start; end = start + size } })
token-spelled s words start size (inl e) = inl (ap head_len (kind-shape s words) ∙ e)
token-spelled s words start size (inr e) = inr (ap (λ n. start + n) (e ∙ ap head_len (sym (kind-shape s words))))

separator-spelled : (span : Span) → IsSpelled (record { kind = kind.Separator; span = span })
unfolding shape_of
separator-spelled span = inl refl

interpolation-spelled : (span : Span) → IsSpelled (record { kind = kind.Interpolation; span = span })
unfolding shape_of
interpolation-spelled span = inl refl

text-spelled : (words : List ℕ) (span : Span) → IsSpelled (record { kind = kind.Text words; span = span })
unfolding shape_of
text-spelled words span = inl refl

reached-spelled : (text : List ℕ) (p : Place) (z : List ℕ) → Reaches text p z → Each IsSpelled p.tokens
reached-spelled text _ _ Reaches.First = tt
reached-spelled text _ _ (Reaches.PastBlank p w rest r _ _) = reached-spelled text p _ r
reached-spelled text _ _ (Reaches.PastComment p w rest r _ _) = reached-spelled text p _ r
reached-spelled text _ _ (Reaches.Kept p rest r _ _ _) = each-end IsSpelled p.tokens _ (reached-spelled text p _ r) (separator-spelled _)
reached-spelled text _ _ (Reaches.Dropped p rest r _ _) = reached-spelled text p _ r
reached-spelled text _ _ (Reaches.Spelt p s w words rest r _ l _ _ _) =
    each-end IsSpelled p.tokens _ (reached-spelled text p _ r) (token-spelled s (encode_utf8_all words) p.at (byte_len w) (spelled-long _ s w words rest l.spells))
reached-spelled text _ _ (Reaches.Returns p outer opening rest r _ _ _) =
    each-end IsSpelled p.tokens _ (reached-spelled text p _ r) (token-spelled shape.CloseBrace (encode_utf8_all []) p.at (byte_len (125 ∷ [])) (inl refl))
reached-spelled text _ _ (Reaches.Opens p quote rest r _ _) = reached-spelled text p _ r
reached-spelled text _ _ (Reaches.Ends p o w rest r _ _ _) = each-end IsSpelled p.tokens _ (reached-spelled text p _ r) (text-spelled _ _)
reached-spelled text _ _ (Reaches.Interpolates p o w rest r _ _ _) =
    each-end IsSpelled _ _ (each-end IsSpelled p.tokens _ (reached-spelled text p _ r) (text-spelled _ _)) (interpolation-spelled _)

pub tokens-spelled : (text : List ℕ) (tokens : List Token) → Lexes text tokens → Each IsSpelled tokens
tokens-spelled text tokens l = subst (Each IsSpelled) l.tokens_are (reached-spelled text l.place [] l.reaches)

one-spelled : (tokens : List Token) → Each IsSpelled tokens → (t : Token) → IsOneOf tokens t → IsSpelled t
one-spelled [] all t h = absurd h
one-spelled (u ∷ tokens) all t (inl e) = subst IsSpelled (sym e) all.0
one-spelled (u ∷ tokens) all t (inr h) = one-spelled tokens all.1 t h

-- ---- places of errors

head-ends : (t : Token) (count : ℕ) → IsRow HEADS (shape_of t.kind) count → IsSpelled t → t.span.end ≡ t.span.start + count
head-ends t count row (inl none) = let is = head-is (shape_of t.kind) count row in absurd (omega (arith, none, is.0, is.1))
head-ends t count row (inr e) = e ∙ ap (λ n. t.span.start + n) (head-is (shape_of t.kind) count row).0

-- the first bytes of a place that begins with such a token end where the token does, or with the place
head-in_text : (text : List ℕ) (tokens : List Token) → StandInOrder text 0 tokens → Each IsSpelled tokens → (span : Span) → IsHead tokens span → InText text span
head-in_text text tokens stand spelled span h = subst (InText text) (sym h.span_is) (whole.0, by_size (sizes h.count (h.whole.end - h.whole.start)), omega arith)
  where
    whole : InText text h.whole
    whole = placed-in_text text tokens stand h.whole h.placed

    token_end : h.first.span.end ≡ h.whole.start + h.count
    token_end = head-ends h.first h.count h.spelled (one-spelled tokens spelled h.first h.first_is) ∙ ap (λ n. n + h.count) (sym h.starts)

    sizes : (a b : ℕ) → (a ≤ b) ⊎ (b < a)
    sizes a b = grind arith

    by_size : (h.count ≤ h.whole.end - h.whole.start) ⊎ (h.whole.end - h.whole.start < h.count) → IsStart text (h.whole.start + min h.count (h.whole.end - h.whole.start))
    by_size (inl short) =
        let e : h.first.span.end ≡ h.whole.start + min h.count (h.whole.end - h.whole.start) = omega (arith, token_end, short) in
        subst (IsStart text) e (token-in_text text 0 tokens stand h.first h.first_is).1
    by_size (inr long) =
        let e : h.whole.end ≡ h.whole.start + min h.count (h.whole.end - h.whole.start) = omega (arith, whole.2, long) in
        subst (IsStart text) e whole.1

pub tree-in_text : (text : List ℕ) (tokens : List Token) → StandInOrder text 0 tokens → (span : Span) → IsTreePlaced tokens span → InText text span
tree-in_text text tokens stand span (inl h) = placed-in_text text tokens stand span h
tree-in_text text tokens stand span (inr h) =
    (subst (IsStart text) (sym h.0) (text-start text), subst (IsStart text) (sym h.1) (text-start text), omega (arith, h.0, h.1))

-- a place at which an error of the judgement can stand
pub place_of_error-in_text : (text : List ℕ) (tokens : List Token) → StandInOrder text 0 tokens → Each IsSpelled tokens → (span : Span) → IsPlaceOfError tokens span → InText text span
place_of_error-in_text text tokens stand spelled span (inl h) = tree-in_text text tokens stand span h
place_of_error-in_text text tokens stand spelled span (inr h) = head-in_text text tokens stand spelled span h
