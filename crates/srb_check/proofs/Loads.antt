-- The record of a file that isn't too large.
use Rattle.std.proofs.Common.{◌≡◌, ℕ, ◌<◌, ◌≤◌, Bool, true, false, if◌then◌else◌, List, [], ◌∷◌, length, Some, unwrap_or, encode_utf8_all, refl, ap, sym, subst, ◌∙◌, arith, nat_lt, Result, Ok, Err, IfOk}
use Rattle.std.specs.Str.{IsUtf8, IsValidUpTo, chars, is_utf8}
use Rattle.std.proofs.lemmas.Bool.{le-ltb, lt-ltb}
use Rattle.std.proofs.lemmas.List.{take_all}
use Rattle.srb_text.proofs.TransferLemmas.{view_spells}
use Rattle.std.proofs.lemmas.Str.{IsUtf8-from_is_utf8, is_utf8-from_IsUtf8}
use Rattle.srb_terms.specs.declared.fact.Fact.{Fact}
use Rattle.srb_terms.specs.declared.level.Level.{Level}
use Rattle.srb_text.specs.Faults.{IsTextFault}
use Rattle.srb_text.specs.declared.TextFault.{TextFault}
use Rattle.srb_text.specs.declared.TextFault.TheVariants.{NotUtf8}
use Rattle.rb_lex.specs.Levels.{level_of_text}
use Rattle.srb_check.specs.declared.file.FileRec.{FileRec}
use Rattle.srb_check.specs.Messages.{too_large, not_utf8}
use Rattle.srb_check.specs.Levels.{LARGEST_FILE, hides_all}
use Rattle.srb_check.specs.Checks.{errors_of, reading_errors, text_errors}
use Rattle.srb_check.specs.Records.{hidden, unread, read_record, text_record, loaded, record_errors}
use Rattle.srb_check.specs.Readings.{read}
use Rattle.srb_check.specs.Symbols.{file_facts, reading_facts, text_facts}
use Rattle.srb_check.specs.declared.reading.Reading.{Reading}
use Rattle.srb_check.specs.declared.reading.Reading.TheVariants.{Program, Refused}

abbrev by_tests : List ℕ → Bool → Bool → FileRec
by_tests bytes large form = if large then unread too_large else (if form then text_record (chars bytes) (level_of_text (chars bytes)) else unread not_utf8)

small : (bytes : List ℕ) (form : Bool) → length bytes ≤ LARGEST_FILE → is_utf8 bytes ≡ form → loaded bytes ≡ by_tests bytes false form
unfolding loaded
small bytes form h e =
    let fits : nat_lt LARGEST_FILE (length bytes) ≡ false = le-ltb LARGEST_FILE (length bytes) h in
    ap (λ b. by_tests bytes b (is_utf8 bytes)) fits ∙ ap (by_tests bytes false) e

pub loaded_large : (bytes : List ℕ) → LARGEST_FILE < length bytes → unread too_large ≡ loaded bytes
unfolding loaded
loaded_large bytes h =
    let large : nat_lt LARGEST_FILE (length bytes) ≡ true = lt-ltb LARGEST_FILE (length bytes) h in
    sym (ap (λ b. by_tests bytes b (is_utf8 bytes)) large)

not_true : (b : Bool) → ¬ (b ≡ true) → b ≡ false
not_true true h = absurd (h refl)
not_true false h = refl

pub loaded_text : (bytes text : List ℕ) → length bytes ≤ LARGEST_FILE → IsUtf8 bytes → text ≡ chars bytes → text_record text (level_of_text text) ≡ loaded bytes
loaded_text bytes text h utf8 e = ap (λ t. text_record t (level_of_text t)) e ∙ sym (small bytes true h (is_utf8-from_IsUtf8 bytes utf8))

pub loaded_no_text : (bytes : List ℕ) → length bytes ≤ LARGEST_FILE → ¬ IsUtf8 bytes → unread not_utf8 ≡ loaded bytes
loaded_no_text bytes h none = sym (small bytes false h (not_true (is_utf8 bytes) (λ e. none (IsUtf8-from_is_utf8 bytes e))))

-- bytes with a longest front that is UTF-8 are none
pub fault_no_text : (bytes : List ℕ) (fault : TextFault) (at : ℕ) → fault ≡ NotUtf8 at → IsTextFault bytes fault → ¬ IsUtf8 bytes
fault_no_text bytes fault at e h = no_text (subst (IsTextFault bytes) e h)
  where
    no_text : IsValidUpTo bytes at → ¬ IsUtf8 bytes
    no_text v utf8 = v.longest (length bytes) v.short (subst IsUtf8 (sym (take_all (length bytes) bytes (omega arith))) utf8)

-- an answer is that of an equal record
pub record_along : {E : Type 0} (r : Result FileRec E) (f g : FileRec) → f ≡ g → IfOk r (λ x. x ≡ f) → IfOk r (λ x. x ≡ g)
record_along (Ok x) f g e h = h ∙ e
record_along (Err end) f g e h = tt

-- ---- what a record tells

abbrev text_record_by : List ℕ → Level → Bool → Reading → FileRec
text_record_by text level hides reading = if hides then hidden text level else read_record text level reading

-- the facts
text_summary : (text : List ℕ) (level : Level) (hides : Bool) (reading : Reading)
    → (text_record_by text level hides reading).summary ≡ (if hides then [] else reading_facts reading)
text_summary text level true reading = refl
text_summary text level false (Refused error) = refl
text_summary text level false (Program tree) = refl

pub loaded_facts : (bytes : List ℕ) → (loaded bytes).summary ≡ file_facts bytes
unfolding loaded file_facts
loaded_facts bytes = by_form (nat_lt LARGEST_FILE (length bytes)) (is_utf8 bytes)
  where
    by_form : (large form : Bool) → (by_tests bytes large form).summary ≡ (if large then [] else (if form then text_facts (chars bytes) else []))
    by_form true form = refl
    by_form false true = text_summary (chars bytes) (level_of_text (chars bytes)) (hides_all (level_of_text (chars bytes))) (read (chars bytes))
    by_form false false = refl

-- the errors under some facts
text_record_errors : (facts : List Fact) (text : List ℕ) (level : Level) (hides : Bool) (reading : Reading)
    → record_errors facts (text_record_by text level hides reading) ≡ (if hides then [] else reading_errors facts level reading)
text_record_errors facts text level true reading = refl
text_record_errors facts text level false (Refused error) = refl
text_record_errors facts text level false (Program tree) = refl

pub loaded_errors : (facts : List Fact) (bytes : List ℕ) → record_errors facts (loaded bytes) ≡ errors_of facts bytes
unfolding loaded errors_of
loaded_errors facts bytes = by_form (nat_lt LARGEST_FILE (length bytes)) (is_utf8 bytes)
  where
    by_form : (large form : Bool) → record_errors facts (by_tests bytes large form)
        ≡ (if large then too_large ∷ [] else (if form then text_errors facts (chars bytes) else not_utf8 ∷ []))
    by_form true form = refl
    by_form false true = text_record_errors facts (chars bytes) (level_of_text (chars bytes)) (hides_all (level_of_text (chars bytes))) (read (chars bytes))
    by_form false false = refl

-- the bytes
text_record_text : (text : List ℕ) (level : Level) (hides : Bool) (reading : Reading) → (text_record_by text level hides reading).text ≡ Some text
text_record_text text level true reading = refl
text_record_text text level false (Refused error) = refl
text_record_text text level false (Program tree) = refl

same_text : (bytes text other : List ℕ) → is_utf8 bytes ≡ true → other ≡ chars bytes → Some other ≡ Some text → encode_utf8_all text ≡ bytes
same_text bytes text other utf8 spelled same =
    ap (λ o. encode_utf8_all (unwrap_or o text)) (sym same) ∙ ap encode_utf8_all spelled ∙ (view_spells bytes (chars bytes) (IsUtf8-from_is_utf8 bytes utf8) refl).0

pub loaded_bytes : (bytes text : List ℕ) → (loaded bytes).text ≡ Some text → encode_utf8_all text ≡ bytes
unfolding loaded
loaded_bytes bytes text = by_form (nat_lt LARGEST_FILE (length bytes)) (is_utf8 bytes) refl
  where
    by_form : (large form : Bool) → is_utf8 bytes ≡ form → (by_tests bytes large form).text ≡ Some text → encode_utf8_all text ≡ bytes
    by_form true form utf8 same = absurd cc
    by_form false true utf8 same =
        same_text bytes text (chars bytes) utf8 refl
        (sym (text_record_text (chars bytes) (level_of_text (chars bytes)) (hides_all (level_of_text (chars bytes))) (read (chars bytes))) ∙ same)
    by_form false false utf8 same = absurd cc
