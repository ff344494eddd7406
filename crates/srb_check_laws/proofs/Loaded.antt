-- What loading answers is the one record that is kept of the bytes.
use Rattle.std.proofs.Common.{◌≡◌, ◌≢◌, ℕ, ◌≤◌, Bool, true, false, nat_lt, if◌then◌else◌, List, length, chars, Result, Ok, Err, inl, inr, refl, sym, ap, subst, ◌∙◌}
use Rattle.std.specs.Str.{encode_utf8_all, is_utf8}
use Rattle.std.proofs.lemmas.Str.{IsUtf8-from_is_utf8, is_utf8-from_IsUtf8}
use Rattle.std.proofs.lemmas.Bool.{ltb-true, ltb-false, lt-ltb, le-ltb}
use Rattle.srb_terms.specs.declared.span.Span.{Span}
use Rattle.srb_terms.specs.declared.level.Level.{Level}
use Rattle.srb_terms.specs.declared.level.Level.TheVariants as level
use Rattle.rb_tree.specs.declared.syntax.Tree.{Tree}
use Rattle.rb_tree.specs.declared.token.Token.{Token}
use Rattle.rb_lex.specs.Levels.{level_of_text}
use Rattle.rb_lex.specs.Lexed.{lexed_text}
use Rattle.rb_lex.specs.declared.LexEnd.{LexEnd}
use Rattle.rb_lex.specs.declared.LexEnd.TheVariants as lex
use Rattle.rb_lex_laws.specs.Tokens.{StandInOrder}
use Rattle.rb_lex_laws.proofs.Asked.{level-told}
use Rattle.rb_lex_laws.proofs.Standing.{tokens-stand}
use Rattle.rb_expr.specs.declared.ParseEnd.{ParseEnd}
use Rattle.rb_expr.specs.declared.ParseEnd.TheVariants as parse
use Rattle.rb_decl.specs.Programs.{parsed}
use Rattle.rb_rules.specs.Levels.{Asks}
use Rattle.rb_text_laws.specs.Texts.{IsToken, Verdict, Is}
use Rattle.rb_text_laws.proofs.Answers.{IsBadPlace, OfLexed, OfParsed, answered}
use Rattle.rb_text_laws.proofs.TokenPlaces.{none-at-end}
use Rattle.rb_text_laws.proofs.Verdicts.{each-text-is-judged}
use Rattle.srb_check.specs.declared.file.FileRec.{FileRec}
use Rattle.srb_check.specs.declared.reading.Reading.{Reading}
use Rattle.srb_check.specs.declared.reading.Reading.TheVariants.{Program, Refused}
use Rattle.srb_check.specs.Levels.{LARGEST_FILE}
use Rattle.srb_check.specs.Messages.{syntax_error, outside, too_deep, too_large, not_utf8}
use Rattle.srb_check.specs.Readings.{lexed_reading, parsed_reading, read, token_place}
use Rattle.srb_check.specs.Records.{loaded, read_record, text_record, unread}
use Rattle.srb_check_laws.specs.Loaded.{AreText, IsKept, LoadedIsKept, ignored, judged}
use Rattle.srb_check_laws.proofs.ShownPlaces.{character-is, token-is, token-none}

-- ---- what a text is read to

abbrev reading_of : Verdict → Reading
reading_of (Verdict.Program tree) = Program tree
reading_of (Verdict.NoRuby span) = Refused (syntax_error span)
reading_of (Verdict.Outside span) = Refused (outside span)
reading_of (Verdict.TooDeep span) = Refused (too_deep span)

bad-place-is : (text : List ℕ) (tokens : List Token) → StandInOrder text 0 tokens → (at : ℕ) (span : Span) → IsBadPlace text tokens at span
    → token_place tokens (length (encode_utf8_all text)) at ≡ span
bad-place-is text tokens stand at span (inl h) = token-is text tokens stand (length (encode_utf8_all text)) at span h
bad-place-is text tokens stand at span (inr (e, f)) =
    token-none text tokens at (λ s h. none-at-end text tokens stand s (subst (λ n. IsToken tokens n s) e h)) ∙ sym f

parsed-is : (text : List ℕ) (tokens : List Token) → StandInOrder text 0 tokens → (r : Result Tree ParseEnd) (v : Verdict) → OfParsed text tokens r v
    → parsed_reading tokens (length (encode_utf8_all text)) r ≡ reading_of v
parsed-is text tokens stand (Ok tree) v e = sym (ap reading_of e)
parsed-is text tokens stand (Err (parse.Bad at)) v (span, e, h) = ap (λ s. Refused (syntax_error s)) (bad-place-is text tokens stand at span h) ∙ sym (ap reading_of e)
parsed-is text tokens stand (Err (parse.TooDeep at)) v (span, e, h) =
    ap (λ s. Refused (too_deep s)) (token-is text tokens stand (length (encode_utf8_all text)) at span h) ∙ sym (ap reading_of e)
parsed-is text tokens stand (Err parse.NoMemory) v h = absurd h

lexed-is : (text : List ℕ) (r : Result (List Token) LexEnd) → lexed_text text ≡ r → (v : Verdict) → OfLexed text r v → lexed_reading (encode_utf8_all text) r ≡ reading_of v
lexed-is text (Ok tokens) is v h = parsed-is text tokens (tokens-stand text tokens is) (parsed tokens) v h
lexed-is text (Err (lex.Bad at)) is v (span, e, h) = ap (λ s. Refused (syntax_error s)) (character-is text at span h) ∙ sym (ap reading_of e)
lexed-is text (Err (lex.Outside at)) is v (span, e, h) = ap (λ s. Refused (outside s)) (character-is text at span h) ∙ sym (ap reading_of e)
lexed-is text (Err lex.NoMemory) is v h = absurd h

read-is : (text : List ℕ) (v : Verdict) → Is text v → read text ≡ reading_of v
unfolding read
read-is text v h = lexed-is text (lexed_text text) refl v (answered text v h)

-- ---- the record of a text

-- the record by the first two tests
abbrev by_tests : List ℕ → Bool → Bool → FileRec
by_tests bytes large form = if large then unread too_large else (if form then text_record (chars bytes) (level_of_text (chars bytes)) else unread not_utf8)

-- those of bytes that are not too many
small : (bytes : List ℕ) (form : Bool) → length bytes ≤ LARGEST_FILE → is_utf8 bytes ≡ form → loaded bytes ≡ by_tests bytes false form
unfolding loaded
small bytes form fits e = ap (λ b. by_tests bytes b (is_utf8 bytes)) (le-ltb LARGEST_FILE (length bytes) fits) ∙ ap (by_tests bytes false) e

record-of : (text : List ℕ) (l : Level) (v : Verdict) → read_record text l (reading_of v) ≡ judged text l v
record-of text l (Verdict.Program tree) = refl
record-of text l (Verdict.NoRuby span) = refl
record-of text l (Verdict.Outside span) = refl
record-of text l (Verdict.TooDeep span) = refl

shown : (text : List ℕ) (l : Level) → l ≢ level.Ignore → text_record text l ≡ read_record text l (read text)
shown text level.Ignore other = absurd (other refl)
shown text level.False other = refl
shown text level.True other = refl
shown text level.Strict other = refl
shown text level.Strong other = refl

text-record : (bytes : List ℕ) → AreText bytes → loaded bytes ≡ text_record (chars bytes) (level_of_text (chars bytes))
text-record bytes text = small bytes true text.0 (is_utf8-from_IsUtf8 bytes text.1)

asked-record : (bytes : List ℕ) (l : Level) → AreText bytes → Asks (chars bytes) l → loaded bytes ≡ text_record (chars bytes) l
asked-record bytes l text asks = text-record bytes text ∙ ap (text_record (chars bytes)) ((level-told (chars bytes) l).1 asks)

-- ---- both ways

not-true : (b : Bool) → ¬ (b ≡ true) → b ≡ false
not-true true h = absurd (h refl)
not-true false h = refl

kept-loaded : (bytes : List ℕ) (file : FileRec) → IsKept bytes file → loaded bytes ≡ file
unfolding loaded
kept-loaded bytes _ (IsKept.TooLarge large) = ap (λ b. by_tests bytes b (is_utf8 bytes)) (lt-ltb LARGEST_FILE (length bytes) large)
kept-loaded bytes _ (IsKept.NotUtf8 fits none) = small bytes false fits (not-true (is_utf8 bytes) (λ e. none (IsUtf8-from_is_utf8 bytes e)))
kept-loaded bytes _ (IsKept.Ignored text asks) = asked-record bytes level.Ignore text asks
kept-loaded bytes _ (IsKept.Judged l verdict text asks other is) =
    asked-record bytes l text asks ∙ shown (chars bytes) l other ∙ ap (read_record (chars bytes) l) (read-is (chars bytes) verdict is) ∙ record-of (chars bytes) l verdict

some-text : (bytes : List ℕ) → AreText bytes → (l : Level) → Asks (chars bytes) l → (file : FileRec) × IsKept bytes file
some-text bytes text l asks = by l asks (each-text-is-judged (chars bytes))
  where
    by : (l : Level) → Asks (chars bytes) l → (verdict : Verdict) × Is (chars bytes) verdict → (file : FileRec) × IsKept bytes file
    by level.Ignore asks j = (ignored (chars bytes), IsKept.Ignored text asks)
    by level.False asks j = (judged (chars bytes) level.False j.0, IsKept.Judged level.False j.0 text asks (λ e. absurd (cc)) j.1)
    by level.True asks j = (judged (chars bytes) level.True j.0, IsKept.Judged level.True j.0 text asks (λ e. absurd (cc)) j.1)
    by level.Strict asks j = (judged (chars bytes) level.Strict j.0, IsKept.Judged level.Strict j.0 text asks (λ e. absurd (cc)) j.1)
    by level.Strong asks j = (judged (chars bytes) level.Strong j.0, IsKept.Judged level.Strong j.0 text asks (λ e. absurd (cc)) j.1)

-- a record is kept of each file
some-record : (bytes : List ℕ) → (file : FileRec) × IsKept bytes file
some-record bytes = by (nat_lt LARGEST_FILE (length bytes)) (is_utf8 bytes) refl refl
  where
    by : (large form : Bool) → nat_lt LARGEST_FILE (length bytes) ≡ large → is_utf8 bytes ≡ form → (file : FileRec) × IsKept bytes file
    by true form e f = (_, IsKept.TooLarge (ltb-true LARGEST_FILE (length bytes) e))
    by false true e f = some-text bytes (ltb-false LARGEST_FILE (length bytes) e, IsUtf8-from_is_utf8 bytes f) (level_of_text (chars bytes)) ((level-told (chars bytes) (level_of_text (chars bytes))).0 refl)
    by false false e f = (_, IsKept.NotUtf8 (ltb-false LARGEST_FILE (length bytes) e) (λ utf8. let e : is_utf8 bytes ≡ true = is_utf8-from_IsUtf8 bytes utf8 in cc))

pub loaded-is-kept : LoadedIsKept
loaded-is-kept bytes file = (
  λ e. (let some = some-record bytes in subst (IsKept bytes) (sym (kept-loaded bytes some.0 some.1) ∙ e) some.1),
  kept-loaded bytes file,
)
