-- The errors that are kept of a few files, computed.
use Rattle.std.proofs.Common.{◌≡◌, ℕ, ◌≤◌, true, false, List, [], ◌∷◌, length, codes, replicate, refl, sym, ap, subst, arith}
use Rattle.std.specs.Str.{IsUtf8, chars, is_utf8}
use lib.Utf8.{encode}
use Rattle.std.proofs.lemmas.Str.{IsUtf8-from_is_utf8, is_utf8-from_IsUtf8}
use Rattle.srb_terms.specs.declared.level.Level.TheVariants as level
use Rattle.rb_lex.specs.Levels as levels
use Rattle.rb_lex.specs.Levels.{level_of_text}
use Rattle.rb_lex_laws.proofs.Asked.{level-told}
use Rattle.rb_grammar.specs.Examples.{from_to}
use Rattle.rb_rules.specs.Levels.{Asks}
use Rattle.rb_text_laws.specs.Texts.{Verdict, Is}
use Rattle.rb_text_laws.proofs.Examples.{bracket-is-no-ruby, global-is-outside, last-is-too-deep}
use Rattle.srb_check.specs.declared.file.FileRec.{FileRec}
use Rattle.srb_check.specs.Records.{loaded}
use Rattle.srb_check_laws.specs.Loaded.{IsKept, NOT_UTF8, error_of, ignored, judged, without_text}
use Rattle.srb_check_laws.specs.LoadedExamples.{BracketIsASyntaxError, ByteIsNoText, GlobalIsOutsideTheProfile, IgnoredHasNone, LastIsDeeper}
use Rattle.srb_check_laws.proofs.Loaded.{loaded-is-kept}

-- the error of a record that is kept
kept-error : (bytes : List ℕ) (file : FileRec) → IsKept bytes file → (loaded bytes).error ≡ file.error
kept-error bytes file kept = ap (λ (f : FileRec). f.error) ((loaded-is-kept bytes file).1 kept)

-- the record of a text at the level `false`
pub text-kept : (bytes text : List ℕ) (v : Verdict) → length bytes ≤ 1048576 → is_utf8 bytes ≡ true → chars bytes ≡ text → level_of_text text ≡ level.False → Is text v
    → loaded bytes ≡ judged (chars bytes) level.False v
text-kept bytes text v fits form spelled low is =
    let utf8 : IsUtf8 bytes = IsUtf8-from_is_utf8 bytes form in
    let asks : Asks (chars bytes) level.False = subst (λ t. Asks t level.False) (sym spelled) ((level-told text level.False).0 low) in
    (loaded-is-kept bytes (judged (chars bytes) level.False v)).1
    (IsKept.Judged level.False v (fits, utf8) asks (λ e. absurd (cc)) (subst (λ t. Is t v) (sym spelled) is))

text-error : (bytes text : List ℕ) (v : Verdict) → length bytes ≤ 1048576 → is_utf8 bytes ≡ true → chars bytes ≡ text → level_of_text text ≡ level.False → Is text v
    → (loaded bytes).error ≡ error_of v
text-error bytes text v fits form spelled low is = ap (λ (f : FileRec). f.error) (text-kept bytes text v fits form spelled low is)

pub bracket-is-a-syntax-error : BracketIsASyntaxError
unfolding chars is_utf8 encode levels.level_of levels.heading_of levels.level_in
bracket-is-a-syntax-error = text-error (codes "1 )") (codes "1 )") (Verdict.NoRuby (from_to 2 3)) (omega arith) refl refl refl bracket-is-no-ruby

pub global-is-outside-the-profile : GlobalIsOutsideTheProfile
unfolding chars is_utf8 encode levels.level_of levels.heading_of levels.level_in
global-is-outside-the-profile = text-error (codes "$x") (codes "$x") (Verdict.Outside (from_to 0 1)) (omega arith) refl refl refl global-is-outside

pub last-is-deeper : LastIsDeeper
unfolding chars is_utf8 encode levels.level_of levels.heading_of levels.level_in
last-is-deeper = text-error (replicate 201 33) (replicate 201 33) (Verdict.TooDeep (from_to 200 201)) (omega arith) refl refl refl last-is-too-deep

pub byte-is-no-text : ByteIsNoText
unfolding chars is_utf8 encode
byte-is-no-text =
    kept-error (255 ∷ []) (without_text NOT_UTF8)
    (IsKept.NotUtf8 (omega arith) (λ utf8. let e : is_utf8 (255 ∷ []) ≡ true = is_utf8-from_IsUtf8 (255 ∷ []) utf8 in let f : is_utf8 (255 ∷ []) ≡ false = refl in absurd (cc)))

pub ignored-has-none : IgnoredHasNone
unfolding chars is_utf8 encode levels.level_of levels.heading_of levels.level_in
ignored-has-none =
    let bytes = codes "#typed:ignore" in
    let low : level_of_text bytes ≡ level.Ignore = refl in
    let spelled : chars bytes ≡ bytes = refl in
    let asks : Asks (chars bytes) level.Ignore = subst (λ t. Asks t level.Ignore) (sym spelled) ((level-told bytes level.Ignore).0 low) in
    kept-error bytes (ignored (chars bytes)) (IsKept.Ignored (omega arith, IsUtf8-from_is_utf8 bytes refl) asks)
