-- The character at an offset: there is one, or the text ends there, and there are no two.
use Rattle.std.proofs.Common.{◌≡◌, ℕ, ◌+◌, ◌<◌, ◌≤◌, List, [], ◌∷◌, ◌++◌, length, drop, inl, inr, refl, sym, ap, ◌∙◌, append-nil, arith}
use Rattle.std.specs.Char.{len_utf8}
use Rattle.std.proofs.lemmas.List.Sums.{sum_by-append, sum_by-cons}
use Rattle.std.proofs.lemmas.Str.{length-encode}
use Rattle.srb_terms.specs.declared.span.Span.{Span}
use Rattle.srb_text.specs.Positions.{fitting, IsStart}
use Rattle.srb_text.proofs.FittingLemmas.{fitting_split}
use Rattle.rb_rules.specs.Lexes.{byte_len}
use Rattle.rb_lex_laws.proofs.Strings.{lead}
use Rattle.rb_text_laws.specs.Texts.{IsCharacter, IsCharacterOrEnd, end_of_text}

-- a character has a byte at least
pub some-bytes : (c : ℕ) → 1 ≤ len_utf8 c
some-bytes c = let e = length-encode c in let f = ap length (lead c).is in omega arith

pub some-front : (c : ℕ) (w : List ℕ) → 1 ≤ byte_len (c ∷ w)
some-front c w = let e : byte_len (c ∷ w) ≡ len_utf8 c + byte_len w = sum_by-cons len_utf8 c w in let some = some-bytes c in omega arith

-- two fronts of one text that have as many bytes
same-fronts : (xs ys us vs : List ℕ) → xs ++ us ≡ ys ++ vs → byte_len xs ≡ byte_len ys → us ≡ vs
same-fronts [] [] us vs e h = e
same-fronts [] (y ∷ ys) us vs e h = let some = some-front y ys in absurd (omega arith)
same-fronts (x ∷ xs) [] us vs e h = let some = some-front x xs in absurd (omega arith)
same-fronts (x ∷ xs) (y ∷ ys) us vs e h =
    let heads : x ≡ y = cc in
    let tails : xs ++ us ≡ ys ++ vs = cc in
    let a : byte_len (x ∷ xs) ≡ len_utf8 x + byte_len xs = sum_by-cons len_utf8 x xs in
    let b : byte_len (y ∷ ys) ≡ len_utf8 y + byte_len ys = sum_by-cons len_utf8 y ys in
    let sizes : len_utf8 x ≡ len_utf8 y = ap len_utf8 heads in
    same-fronts xs ys us vs tails (omega arith)

-- the text goes on after the start of a character
before-end : (text : List ℕ) (at : ℕ) (span : Span) → IsCharacter text at span → at < byte_len text
before-end text at span h =
    let e : byte_len text ≡ byte_len (h.before ++ h.character ∷ h.after) = ap byte_len h.whole in
    let f : byte_len (h.before ++ h.character ∷ h.after) ≡ byte_len h.before + byte_len (h.character ∷ h.after) = sum_by-append len_utf8 h.before (h.character ∷ h.after) in
    let some = some-front h.character h.after in
    let g = h.begins in
    omega arith

abbrev from_to : ℕ → ℕ → Span
from_to a b = record { start = a; end = b }

pub one-character : (text : List ℕ) (at : ℕ) (a b : Span) → IsCharacterOrEnd text at a → IsCharacterOrEnd text at b → a ≡ b
one-character text at a b (inl x) (inl y) =
    let rests : x.character ∷ x.after ≡ y.character ∷ y.after =
    same-fronts x.before y.before (x.character ∷ x.after) (y.character ∷ y.after) (sym x.whole ∙ y.whole) (sym x.begins ∙ y.begins) in
    let same : x.character ≡ y.character = cc in
    x.span_is ∙ ap (λ c. from_to at (at + len_utf8 c)) same ∙ sym y.span_is
one-character text at a b (inl x) (inr (f, g)) = let h = before-end text at a x in absurd (omega arith)
one-character text at a b (inr (f, g)) (inl y) = let h = before-end text at b y in absurd (omega arith)
one-character text at a b (inr (f, g)) (inr (h, k)) = g ∙ sym k

-- where a character starts or the text ends
pub character-at : (text : List ℕ) (at : ℕ) → IsStart text at → (span : Span) × IsCharacterOrEnd text at span
character-at text at start = by (drop (length (fitting len_utf8 at text)) text) (fitting_split len_utf8 at text)
  where
    by : (rest : List ℕ) → fitting len_utf8 at text ++ rest ≡ text → (span : Span) × IsCharacterOrEnd text at span
    by [] e = (end_of_text text, inr (sym start ∙ ap byte_len (sym (append-nil (fitting len_utf8 at text)) ∙ e), refl))
    by (c ∷ rest) e =
        (from_to at (at + len_utf8 c), inl (record { before = fitting len_utf8 at text; character = c; after = rest; whole = sym e; begins = sym start; span_is = refl }))
