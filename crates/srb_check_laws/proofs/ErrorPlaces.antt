-- Where the errors of a file stand.
use Rattle.std.proofs.Common.{◌≡◌, ℕ, ◌≤◌, Bool, true, false, if◌then◌else◌, List, [], ◌∷◌, ◌++◌, length, refl, sym, subst, nat_lt, inl, inr, Some, Result, Ok, Err, arith, filter}
use Rattle.std.specs.Str.{IsUtf8, chars, encode_utf8_all, is_utf8}
use Rattle.std.proofs.lemmas.Str.{IsUtf8-from_is_utf8}
use Rattle.srb_terms.specs.declared.diag.Diag.{Diag}
use Rattle.srb_terms.specs.declared.fact.Fact.{Fact}
use Rattle.srb_terms.specs.declared.span.Span.{Span}
use Rattle.srb_terms.specs.declared.level.Level.{Level}
use Rattle.rb_tree.specs.declared.token.Token.{Token}
use Rattle.rb_tree.specs.declared.syntax.Tree.{Tree}
use Rattle.rb_lex.specs.Levels.{level_of_text}
use Rattle.rb_lex.specs.Lexed.{lexed_text}
use Rattle.rb_lex.specs.declared.LexEnd.{LexEnd}
use Rattle.rb_lex.specs.declared.LexEnd.TheVariants as lex
use Rattle.rb_lex_laws.specs.Tokens.{StandInOrder}
use Rattle.rb_lex_laws.proofs.Standing.{tokens-stand, places-start}
use Rattle.rb_lex_laws.proofs.Told.{tokens-told}
use Rattle.rb_rules.specs.Grammar.{Derives}
use Rattle.rb_expr.specs.declared.ParseEnd.{ParseEnd}
use Rattle.rb_expr.specs.declared.ParseEnd.TheVariants as parse
use Rattle.rb_decl.specs.Programs.{parsed}
use Rattle.rb_grammar.specs.Places.{Each, IsPlaced}
use Rattle.rb_grammar.proofs.Programs.{programs-derive}
use Rattle.rb_grammar.proofs.Standing.{trees-stand-at-tokens}
use Rattle.srb_check.specs.declared.file.FileRec.{FileRec}
use Rattle.srb_check.specs.declared.reading.Reading.{Reading}
use Rattle.srb_check.specs.declared.reading.Reading.TheVariants.{Program, Refused}
use Rattle.srb_check.specs.Checks.{reading_errors, text_errors, errors_of}
use Rattle.srb_check.specs.Levels.{LARGEST_FILE, hides_all, needs_signatures}
use Rattle.srb_check.specs.Symbols.{symbol_errors}
use Rattle.srb_check.specs.Messages.{too_large, not_utf8}
use Rattle.srb_check.specs.Types.{knowledge_of, type_errors}
use Rattle.srb_check_laws.specs.Placed.{IsPlace, AreAtPlaces, ErrorsStandAtTokens, IsPlaceOfNode, TypeErrorsStandAtNodes, ErrorsStandInTrees, FilesErrInTrees, NodesStandInTrees}
use Rattle.srb_check.specs.Readings.{lex_error, parse_error, parsed_reading, lexed_reading, read}
use Rattle.srb_check.specs.Records.{hidden, loaded, read_record, text_record, unread}
use Rattle.srb_conflicts.specs.Conflicts.{conflict_errors}
use Rattle.srb_declarations.specs.Declarations.{declarations_of}
use Rattle.srb_declarations_laws.specs.Placed.{place_of}
use Rattle.srb_declarations_laws.proofs.Places.{declarations-have}
use Rattle.srb_declarations_laws.proofs.Programs.{programs-declare}
use Rattle.srb_references.specs.declared.reference.Reference.{Reference}
use Rattle.srb_references.specs.MalformedTypes.{malformed_errors, types_of}
use Rattle.srb_references.specs.References.{reference_errors, references_of}
use Rattle.srb_references_laws.proofs.Programs.{programs-refer}
use Rattle.srb_references_laws.proofs.Trees.{malformed-have, references-have}
use Rattle.srb_references_laws.proofs.Types.{malformed-stand}
use Rattle.srb_sig.specs.Views.{view_of}
use Rattle.srb_signatures.specs.Errors.{signature_errors}
use Rattle.srb_signatures_laws.proofs.Places.{signatures-have, signatures-stand}
use Rattle.rb_places_laws.specs.ErrorPlaces.{HasErrorPlaces}
use Rattle.rb_places_laws.specs.TokenPlaces.{IsTreePlaced, IsPlaceOfError}
use Rattle.rb_places_laws.proofs.Programs.{programs_have_error_places}
use Rattle.rb_places_laws.proofs.TreePlaces.{each-is-place, judged-places}
use Rattle.rb_places_laws.specs.TreePlaces.{IsPlaceIn}
use Rattle.rb_rewrite.specs.Rewriting.{attrs_of}
use Rattle.rb_rewrite_laws.proofs.Rewriting.{rewritten-has}
use Rattle.srb_judgement.specs.Errors.{is_shown}
use Rattle.srb_judgement.specs.Judgements.{errors_of as judged_errors}
use Rattle.srb_language.specs.Asked.{language_of}
use Rattle.srb_language.specs.Knowledge.{Knowledge}
use Rattle.srb_judgement_laws.proofs.ErrorPlaces.{project-errors-have}
use Rattle.srb_check_laws.proofs.ArrangedPlaces.{arranged-at}
use Rattle.srb_check_laws.proofs.CharacterPlaces.{text-start, character-end}
use Rattle.srb_check_laws.proofs.HeadPlaces.{IsSpelled, tokens-spelled, place_of_error-in_text}
use Rattle.srb_check_laws.proofs.SymbolPlaces.{AreErrorsAt, errors-append, conflicts-at, references-at}
use Rattle.srb_check_laws.proofs.TokenPlaces.{InText, token_place-in_text}

-- ---- the errors of a program

-- the errors that are shown are among them
shown-at : (P : Span → Type 0) (level : Level) (errors : List Diag) → AreErrorsAt P errors → AreErrorsAt P (filter (λ e. is_shown level e.number) errors)
shown-at P level [] h = tt
shown-at P level (e ∷ errors) h = by (is_shown level e.number) (shown-at P level errors h.1)
  where
    by : (shown : Bool) → AreErrorsAt P (filter (λ e. is_shown level e.number) errors)
        → AreErrorsAt P (if shown then e ∷ filter (λ e. is_shown level e.number) errors else filter (λ e. is_shown level e.number) errors)
    by true later = (h.0, later)
    by false later = later

types-at : (P : Span → Type 0) (facts : List Fact) (level : Level) (tree : Tree) → ((k : Knowledge) → AreErrorsAt P (judged_errors (language_of k) (attrs_of tree)))
    → AreErrorsAt P (type_errors facts level tree)
unfolding type_errors
types-at P facts level tree h = shown-at P level (judged_errors (language_of (knowledge_of facts)) (attrs_of tree)) (h (knowledge_of facts))

-- those of declarations, of references, of malformed type expressions and of signatures
symbols-at : (P : Span → Type 0) (facts : List Fact) (level : Level) (tree : Tree) → Each (λ d. P (place_of d)) (declarations_of tree) → Each (λ (r : Reference). P r.span) (references_of tree)
    → AreErrorsAt P (malformed_errors (view_of facts) (types_of tree)) → AreErrorsAt P (signature_errors (needs_signatures level) tree) → AreErrorsAt P (symbol_errors facts level tree)
symbols-at P facts level tree declared referred malformed signed =
    let conflicts = conflict_errors facts (declarations_of tree) in
    let unfound = reference_errors facts (references_of tree) in
    let forms = malformed_errors (view_of facts) (types_of tree) in
    errors-append P (conflicts ++ unfound ++ forms) (signature_errors (needs_signatures level) tree)
    (errors-append P (conflicts ++ unfound) forms
    (errors-append P conflicts unfound (conflicts-at P facts (declarations_of tree) declared) (references-at P facts (references_of tree) referred)) malformed)
    signed

each-placed : {X : Type 0} (place : X → Span) (tokens : List Token) (xs : List X) → Each (λ x. IsPlaced tokens (place x)) xs → Each (λ x. IsPlaceOfError tokens (place x)) xs
each-placed place tokens [] h = tt
each-placed place tokens (x ∷ xs) h = (inl (inl h.0), each-placed place tokens xs h.1)

trees-placed : (tokens : List Token) (es : List Diag) → Each (λ (e : Diag). IsTreePlaced tokens e.span) es → Each (λ (e : Diag). IsPlaceOfError tokens e.span) es
trees-placed tokens [] h = tt
trees-placed tokens (e ∷ es) h = (inl h.0, trees-placed tokens es h.1)

pub errors-at-tokens : ErrorsStandAtTokens
errors-at-tokens facts level tokens tree derives =
    let P : Span → Type 0 = IsPlaceOfError tokens in
    let stands = trees-stand-at-tokens tokens tree derives in
    let symbols = symbols-at P facts level tree
    (each-placed place_of tokens (declarations_of tree) (programs-declare tokens tree derives))
    (each-placed (λ (r : Reference). r.span) tokens (references_of tree) (programs-refer tokens tree derives))
    (trees-placed tokens (malformed_errors (view_of facts) (types_of tree)) (malformed-stand tokens (view_of facts) tree stands))
    (each-placed (λ (e : Diag). e.span) tokens (signature_errors (needs_signatures level) tree) (signatures-stand tokens (needs_signatures level) tree stands)) in
    let types = types-at P facts level tree (λ k. project-errors-have P k (attrs_of tree) (rewritten-has P tree (programs_have_error_places tokens tree derives))) in
    arranged-at P (symbol_errors facts level tree ++ type_errors facts level tree) (errors-append P (symbol_errors facts level tree) (type_errors facts level tree) symbols types)

-- ---- nodes

pub type-errors-at-nodes : TypeErrorsStandAtNodes
type-errors-at-nodes facts level tree = each (type_errors facts level tree) (λ test has.
    let P : Span → Type 0 = λ place. test place ≡ true in
    types-at P facts level tree (λ k. project-errors-have P k (attrs_of tree) (rewritten-has P tree has)))
  where
    each : (errors : List Diag) → ((test : Span → Bool) → HasErrorPlaces (λ place. test place ≡ true) tree → AreErrorsAt (λ place. test place ≡ true) errors)
        → Each (λ (e : Diag). IsPlaceOfNode tree e.span) errors
    each [] h = tt
    each (e ∷ errors) h = (λ test has. (h test has).0, each errors (λ test has. (h test has).1))

pub nodes-in-trees : NodesStandInTrees
nodes-in-trees tree span is test has = is test (judged-places (λ place. test place ≡ true) tree has)

-- ---- each error

pub errors-in-trees : ErrorsStandInTrees
errors-in-trees facts level tree = each-is-place (λ (e : Diag). e.span) tree (reading_errors facts level (Program tree)) (λ test has.
    let P : Span → Type 0 = λ place. test place ≡ true in
    let symbols = symbols-at P facts level tree (declarations-have P tree has) (references-have P tree has) (malformed-have P (view_of facts) tree has)
    (signatures-have P (needs_signatures level) tree has) in
    let types = types-at P facts level tree (λ k. project-errors-have P k (attrs_of tree) (rewritten-has P tree (judged-places P tree has))) in
    arranged-at P (symbol_errors facts level tree ++ type_errors facts level tree) (errors-append P (symbol_errors facts level tree) (type_errors facts level tree) symbols types))

module _ (facts : List Fact) (bytes : List ℕ) (tree : Tree) where
  abbrev its_text : List ℕ
  its_text = chars bytes

  abbrev its_level : Level
  its_level = level_of_text (chars bytes)

  -- the record keeps the tree
  abbrev Keeps : FileRec → Type 0
  Keeps file = file.tree ≡ Some tree

  abbrev Are : List Diag → Type 0
  Are errors = Each (λ (e : Diag). IsPlaceIn tree e.span) errors

  reading-in-tree : (reading : Reading) → Keeps (read_record its_text its_level reading) → Are (reading_errors facts its_level reading)
  reading-in-tree (Refused error) e = absurd (cc)
  reading-in-tree (Program t) e = let same : t ≡ tree = cc in subst (λ (u : Tree). Are (reading_errors facts its_level (Program u))) (sym same) (errors-in-trees facts its_level tree)

  level-in-tree : (hides : Bool) → Keeps (if hides then hidden its_text its_level else read_record its_text its_level (read its_text)) → Are (if hides then [] else reading_errors facts its_level (read its_text))
  level-in-tree true e = tt
  level-in-tree false e = reading-in-tree (read its_text) e

  form-in-tree : (form : Bool) → Keeps (if form then text_record its_text its_level else unread not_utf8) → Are (if form then text_errors facts its_text else not_utf8 ∷ [])
  form-in-tree true e = level-in-tree (hides_all its_level) e
  form-in-tree false e = absurd (cc)

  size-in-tree : (large : Bool) → Keeps (if large then unread too_large else (if is_utf8 bytes then text_record its_text its_level else unread not_utf8)) →
      Are (if large then too_large ∷ [] else (if is_utf8 bytes then text_errors facts its_text else not_utf8 ∷ []))
  size-in-tree true e = absurd (cc)
  size-in-tree false e = form-in-tree (is_utf8 bytes) e

pub files-err-in-trees : FilesErrInTrees
unfolding errors_of loaded
files-err-in-trees facts bytes tree e = size-in-tree facts bytes tree (nat_lt LARGEST_FILE (length bytes)) e

-- ---- what a text is read to

-- the error stands in the text, or the tree is that of tokens that stand there
abbrev IsReadingIn : List ℕ → Reading → Type 0
IsReadingIn text (Refused error) = InText text error.span
IsReadingIn text (Program tree) = (tokens : List Token) × StandInOrder text 0 tokens × Each IsSpelled tokens × Derives tokens tree

errors-in : (text : List ℕ) (tokens : List Token) → StandInOrder text 0 tokens → Each IsSpelled tokens → (es : List Diag)
    → Each (λ (e : Diag). IsPlaceOfError tokens e.span) es → Each (λ (e : Diag). InText text e.span) es
errors-in text tokens stand spelled [] h = tt
errors-in text tokens stand spelled (e ∷ es) h = (place_of_error-in_text text tokens stand spelled e.span h.0, errors-in text tokens stand spelled es h.1)

parse_error-in : (text : List ℕ) (tokens : List Token) → StandInOrder text 0 tokens → (end : ParseEnd) → InText text (parse_error tokens (length (encode_utf8_all text)) end).span
parse_error-in text tokens stand (parse.Bad at) = token_place-in_text text 0 tokens at stand
parse_error-in text tokens stand (parse.TooDeep at) = token_place-in_text text 0 tokens at stand
parse_error-in text tokens stand parse.NoMemory = token_place-in_text text 0 tokens 0 stand

parsed-in : (text : List ℕ) (tokens : List Token) → StandInOrder text 0 tokens → Each IsSpelled tokens → (r : Result Tree ParseEnd) → parsed tokens ≡ r → IsReadingIn text (parsed_reading tokens (length (encode_utf8_all text)) r)
parsed-in text tokens stand spelled (Ok t) e = (tokens, stand, spelled, programs-derive tokens t e)
parsed-in text tokens stand spelled (Err end) e = parse_error-in text tokens stand end

lex_error-in : (text : List ℕ) (end : LexEnd) → lexed_text text ≡ Err end → InText text (lex_error (encode_utf8_all text) end).span
lex_error-in text (lex.Bad at) e = let start = places-start text at (inr e) in (start, character-end text at start, omega arith)
lex_error-in text (lex.Outside at) e = let start = places-start text at (inl e) in (start, character-end text at start, omega arith)
lex_error-in text lex.NoMemory e = (text-start text, character-end text 0 (text-start text), omega arith)

lexed-in : (text : List ℕ) (r : Result (List Token) LexEnd) → lexed_text text ≡ r → IsReadingIn text (lexed_reading (encode_utf8_all text) r)
lexed-in text (Ok tokens) e = parsed-in text tokens (tokens-stand text tokens e) (tokens-spelled text tokens ((tokens-told text tokens).0 e)) (parsed tokens) refl
lexed-in text (Err end) e = lex_error-in text end e

read-in : (text : List ℕ) → IsReadingIn text (read text)
unfolding read
read-in text = lexed-in text (lexed_text text) refl

-- ---- the errors of a file

place-in : (bytes : List ℕ) → IsUtf8 bytes → (span : Span) → InText (chars bytes) span → IsPlace bytes span.start × IsPlace bytes span.end × (span.start ≤ span.end)
place-in bytes utf8 span h = (inr (utf8, h.0), inr (utf8, h.1), h.2)

errors-places : (bytes : List ℕ) → IsUtf8 bytes → (errors : List Diag) → AreErrorsAt (InText (chars bytes)) errors → AreAtPlaces bytes errors
errors-places bytes utf8 [] h = tt
errors-places bytes utf8 (e ∷ errors) h = let both = place-in bytes utf8 e.span h.0 in (both.0, both.1, both.2, errors-places bytes utf8 errors h.1)

reading_errors-places : (bytes : List ℕ) → IsUtf8 bytes → (facts : List Fact) (level : Level) (reading : Reading) → IsReadingIn (chars bytes) reading → AreAtPlaces bytes (reading_errors facts level reading)
reading_errors-places bytes utf8 facts level (Refused error) h = let both = place-in bytes utf8 error.span h in (both.0, both.1, both.2, tt)
reading_errors-places bytes utf8 facts level (Program tree) (tokens, stand, spelled, derives) =
    errors-places bytes utf8 (reading_errors facts level (Program tree))
    (errors-in (chars bytes) tokens stand spelled (reading_errors facts level (Program tree)) (errors-at-tokens facts level tokens tree derives))

text_errors-places : (bytes : List ℕ) → IsUtf8 bytes → (facts : List Fact) → AreAtPlaces bytes (text_errors facts (chars bytes))
text_errors-places bytes utf8 facts = by_level (hides_all (level_of_text (chars bytes)))
  where
    by_level : (hidden : Bool) → AreAtPlaces bytes (if hidden then [] else reading_errors facts (level_of_text (chars bytes)) (read (chars bytes)))
    by_level true = tt
    by_level false = reading_errors-places bytes utf8 facts (level_of_text (chars bytes)) (read (chars bytes)) (read-in (chars bytes))

pub errors_of-places : (facts : List Fact) (bytes : List ℕ) → AreAtPlaces bytes (errors_of facts bytes)
unfolding errors_of
errors_of-places facts bytes = by_size (nat_lt LARGEST_FILE (length bytes))
  where
    by_form : (form : Bool) → is_utf8 bytes ≡ form → AreAtPlaces bytes (if form then text_errors facts (chars bytes) else not_utf8 ∷ [])
    by_form true e = text_errors-places bytes (IsUtf8-from_is_utf8 bytes e) facts
    by_form false e = (inl refl, inl refl, omega arith, tt)

    by_size : (large : Bool) → AreAtPlaces bytes (if large then too_large ∷ [] else (if is_utf8 bytes then text_errors facts (chars bytes) else not_utf8 ∷ []))
    by_size true = (inl refl, inl refl, omega arith, tt)
    by_size false = by_form (is_utf8 bytes) refl
