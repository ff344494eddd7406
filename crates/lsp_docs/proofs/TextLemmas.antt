-- Texts and the bytes that spell them.
use Rattle.std.proofs.Common.{◌≡◌, ℕ, ◌+◌, ◌-◌, ◌<◌, ◌≤◌, Bool, true, false, List, [], ◌∷◌, length, map, refl, sym, ap, ◌∙◌, arith}
use Rattle.std.specs.Prelude.{Option, Some, None, Result, Ok, Err, IfSome, IfOk, OnOk, IfErr, unwrap_or, if◌then◌else◌}
use Rattle.std.specs.Option.{option_copied}
use Rattle.std.specs.Borrow.{Bor}
use Rattle.std.specs.Str.{IsUtf8, chars, is_utf8, encode_utf8_all, all_scalars}
use Rattle.std.proofs.lemmas.Bool.{le-ltb, lt-ltb}
use Rattle.std.proofs.lemmas.Str.{IsUtf8-from_is_utf8, is_utf8-from_IsUtf8, encodes-chars, chars_from_encodes}
use Rattle.srb_text.specs.Edits.{edited}
use Rattle.srb_text.specs.Laws.{EditsHaveSizes}
use Rattle.srb_text.specs.Positions.{byte_len, weight_of, offset_of, position_of}
use Rattle.srb_text.specs.declared.Encoding.{Encoding}
use Rattle.srb_text.specs.declared.Pos.{Pos}
use Rattle.srb_text.proofs.SpellingLemmas.{length-encodes}
use Rattle.srb_terms.specs.declared.diag.Diag.{Diag}
use Rattle.lsp_msg.specs.declared.change.Change.{Change}
use Rattle.lsp_msg.specs.declared.placed.Placed.{Placed}
use Rattle.lsp_docs.specs.declared.doc_end.DocEnd.{DocEnd}
use Rattle.lsp_docs.specs.declared.doc_end.DocEnd.TheVariants.{Backwards, TooBig}
use Rattle.lsp_docs.specs.Paths.{Bytes}
use Rattle.lsp_docs.specs.Documents.{after_change, between, placed, text_of}
use Rattle.srb_text.specs.Limits.{MOST_BYTES}
use Rattle.lsp_docs.specs.Rows.{size_of}
use Rattle.lsp_docs.specs.Changes.{after_changes, after_sized, sized_text, sum_with}

-- ---- text_of
by_test : (b : Bool) (bytes : List ℕ) → is_utf8 bytes ≡ b → text_of bytes ≡ (if b then chars bytes else [])
by_test b bytes is = ap (λ t. if t then chars bytes else []) is

pub text_of_text : (bytes : List ℕ) → IsUtf8 bytes → text_of bytes ≡ chars bytes
text_of_text bytes text = by_test true bytes (is_utf8-from_IsUtf8 bytes text)

no_utf8 : (b : Bool) (bytes : List ℕ) → is_utf8 bytes ≡ b → ¬ (IsUtf8 bytes) → b ≡ false
no_utf8 true bytes is not = absurd (not (IsUtf8-from_is_utf8 bytes is))
no_utf8 false bytes is not = refl

pub text_of_other : (bytes : List ℕ) → ¬ (IsUtf8 bytes) → text_of bytes ≡ []
text_of_other bytes not = by_test false bytes (no_utf8 (is_utf8 bytes) bytes refl not)

pub spelled_back : (text : List ℕ) → all_scalars text ≡ true → chars (encode_utf8_all text) ≡ text
spelled_back text scalars = sym (chars_from_encodes text (encode_utf8_all text) (text, (scalars, refl)) refl)

pub text_of_spelled : (text : List ℕ) → all_scalars text ≡ true → text_of (encode_utf8_all text) ≡ text
text_of_spelled text scalars = text_of_text (encode_utf8_all text) (text, (scalars, refl)) ∙ spelled_back text scalars

pub text_of_again : (bytes : List ℕ) → text_of (encode_utf8_all (text_of bytes)) ≡ text_of bytes
text_of_again bytes = by (is_utf8 bytes) refl
  where
    by : (b : Bool) → is_utf8 bytes ≡ b → text_of (encode_utf8_all (text_of bytes)) ≡ text_of bytes
    by true is =
        let text = IsUtf8-from_is_utf8 bytes is in
        ap (λ t. text_of (encode_utf8_all t)) (text_of_text bytes text) ∙ ap text_of (encodes-chars bytes text)
    by false is =
        ap (λ t. text_of (encode_utf8_all t)) (by_test false bytes is) ∙ text_of_spelled [] refl ∙ sym (by_test false bytes is)

pub copied_or : (o : Option (Bor (List ℕ))) (d : Bor (List ℕ)) → (unwrap_or o d).now ≡ unwrap_or (option_copied o) d.now
copied_or None d = refl
copied_or (Some b) d = refl

pub length_copied : (o : Option (Bor (List ℕ))) (d r : Bor (List ℕ)) → r ≡ unwrap_or o d → d.now ≡ [] → IfSome o (λ b. length b.now ≤ MOST_BYTES) → length r.now ≤ MOST_BYTES
length_copied None d r is none some = let size = ap (λ (b : Bor (List ℕ)). length b.now) is in let zero_size = ap length none in omega (arith, size, zero_size)
length_copied (Some b) d r is none some = let size = ap (λ (x : Bor (List ℕ)). length x.now) is in omega (arith, size, some)

pub same_ok : {T E : Type 0} (r : Result T E) (x y : T) → x ≡ y → IfOk r (λ t. t ≡ x) → IfOk r (λ t. t ≡ y)
same_ok (Ok t) x y same is = is ∙ same
same_ok (Err e) x y same is = tt

-- ---- sizes
pub spelled_size : (words : Bytes) → IsUtf8 words → length (encode_utf8_all (chars words)) ≡ length words
spelled_size words text = ap length (encodes-chars words text)

pub sized_ok : (others : ℕ) (new : List ℕ) → sum_with others new ≤ MOST_BYTES → sized_text others (Ok new) ≡ Ok new
sized_ok others new fits =
    ap (λ b. if b then Err (TooBig (sum_with others new)) else Ok new) (le-ltb MOST_BYTES (sum_with others new) fits)

pub sized_big : (others : ℕ) (new : List ℕ) → MOST_BYTES < sum_with others new → sized_text others (Ok new) ≡ Err (TooBig (sum_with others new))
sized_big others new big =
    ap (λ b. if b then Err (TooBig (sum_with others new)) else Ok new) (lt-ltb MOST_BYTES (sum_with others new) big)

pub between_ok : (encoding : Encoding) (text : List ℕ) (from to : Pos) (new : List ℕ) → offset_of (weight_of encoding) text from ≤ offset_of (weight_of encoding) text to
    → between encoding text from to new ≡ Ok (edited (weight_of encoding) text from to new)
between_ok encoding text from to new ordered =
    ap (λ b. if b then Err (Backwards (offset_of (weight_of encoding) text from) (offset_of (weight_of encoding) text to)) else Ok (edited (weight_of encoding) text from to new))
    (le-ltb (offset_of (weight_of encoding) text to) (offset_of (weight_of encoding) text from) ordered)

-- the bytes of all texts where the words stand in the place of a part
pub range_sum : (encoding : Encoding) (text : List ℕ) (from to : Pos) (words : Bytes) (others len start end : ℕ) → EditsHaveSizes → IsUtf8 words
    → start ≡ offset_of (weight_of encoding) text from → end ≡ offset_of (weight_of encoding) text to → start ≤ end → end ≤ len → len ≡ byte_len text
    → others + (len - (end - start)) + length words ≡ sum_with others (edited (weight_of encoding) text from to (chars words))
range_sum encoding text from to words others len start end law text_is from_is to_is ordered within len_is =
    let size = law (weight_of encoding) text from to (chars words) (omega (arith, from_is, to_is, ordered)) in
    let new = sym (length-encodes (chars words)) ∙ spelled_size words text_is in
    let whole = length-encodes (edited (weight_of encoding) text from to (chars words)) in
    omega (arith, size, new, whole, from_is, to_is, ordered, within, len_is)

-- ---- one change and more
abbrev change_by : Encoding → List ℕ → Change → Option (Pos × Pos) → Result (List ℕ) DocEnd
change_by encoding text c None = Ok (chars c.text)
change_by encoding text c (Some part) = between encoding text part.0 part.1 (chars c.text)

abbrev rest_of : Encoding → ℕ → List Change → Result (List ℕ) DocEnd → Result (List ℕ) DocEnd
rest_of encoding others cs (Err e) = Err e
rest_of encoding others cs (Ok new) = after_changes encoding others new cs

pub plain_change : (encoding : Encoding) (text : List ℕ) (c : Change) → c.range ≡ None → after_change encoding text c ≡ Ok (chars c.text)
plain_change encoding text c is = ap (change_by encoding text c) is

pub range_change : (encoding : Encoding) (text : List ℕ) (c : Change) (from to : Pos) → c.range ≡ Some (from, to)
    → after_change encoding text c ≡ between encoding text from to (chars c.text)
range_change encoding text c from to is = ap (change_by encoding text c) is

pub next_change : (encoding : Encoding) (others : ℕ) (text new : List ℕ) (c : Change) (cs : List Change) → after_sized encoding others text c ≡ Ok new
    → after_changes encoding others text (c ∷ cs) ≡ after_changes encoding others new cs
next_change encoding others text new c cs is = ap (rest_of encoding others cs) is

pub last_change : (encoding : Encoding) (others : ℕ) (text : List ℕ) (c : Change) (cs : List Change) (e : DocEnd) → after_sized encoding others text c ≡ Err e
    → after_changes encoding others text (c ∷ cs) ≡ Err e
last_change encoding others text c cs e is = ap (rest_of encoding others cs) is

-- ---- one answer for another
pub on_ok_map : {T E : Type 0} (r : Result T E) (P Q : Type 0) → (P → Q) → OnOk r P → OnOk r Q
on_ok_map (Ok t) P Q step p = step p
on_ok_map (Err e) P Q step p = tt

pub if_err_map : {T E : Type 0} (r : Result T E) (P Q : E → Type 0) → ((e : E) → P e → Q e) → IfErr r P → IfErr r Q
if_err_map (Ok t) P Q step p = tt
if_err_map (Err e) P Q step p = step e p

pub if_ok_map : {T E : Type 0} (r : Result T E) (P Q : T → Type 0) → ((t : T) → P t → Q t) → IfOk r P → IfOk r Q
if_ok_map (Ok t) P Q step p = step t p
if_ok_map (Err e) P Q step p = tt

pub copied_size : (o : Option (Bor (List ℕ))) (p : Option Bytes) (n : ℕ) → option_copied o ≡ p → size_of p ≤ n → IfSome o (λ b. length b.now ≤ n)
copied_size None p n is small = tt
copied_size (Some b) None n is small = cc
copied_size (Some b) (Some bytes) n is small = let size = ap size_of is in omega (arith, size, small)

-- ---- errors placed
abbrev placed_by : Encoding → List ℕ → Diag → Placed
placed_by encoding text d = record {
  start = position_of (weight_of encoding) text d.span.start;
  end = position_of (weight_of encoding) text d.span.end;
  number = d.number;
  text = d.text;
}

pub placed_again : (encoding : Encoding) (bytes text : List ℕ) (errors : List Diag) → text ≡ text_of bytes
    → map (placed encoding (encode_utf8_all text)) errors ≡ map (placed encoding bytes) errors
placed_again encoding bytes text errors is =
    ap (λ t. map (placed_by encoding t) errors) (ap (λ t. text_of (encode_utf8_all t)) is ∙ text_of_again bytes)
