-- What messages do to documents, said of rows.
use Rattle.std.proofs.Common.{◌≡◌, ℕ, ◌+◌, ◌<◌, ◌≤◌, Bool, true, false, not, ◌&&◌, List, [], ◌∷◌, length, insert, map, refl, sym, ap, ◌∙◌, subst, arith}
use Rattle.std.specs.Prelude.{Option, Some, None, is_some, IsSome, IfErr, IsErrAnd, Result, Ok, Err, nat_lt, nat_le, slice_get, remove, unwrap_or, encode_utf8_all, if◌then◌else◌}
use Rattle.std.specs.Str.{chars}
use Rattle.std.proofs.lemmas.Bool.{lt-ltb, le-ltb, le-leb, lt-leb}
use Rattle.srb_terms.specs.PathMaps.{IsOrdered, IsPlaceOf, set_value}
use Rattle.srb_terms.specs.Projects.{File, bytes_at, put_file}
use Rattle.lsp_msg.specs.declared.change.Change.{Change}
use Rattle.lsp_docs.specs.declared.doc.Doc.{Doc}
use Rattle.lsp_docs.specs.declared.doc_end.DocEnd.{DocEnd}
use Rattle.lsp_docs.specs.declared.doc_end.DocEnd.TheVariants.{Foreign, Unknown, TooMany, TooBig}
use Rattle.lsp_docs.specs.Paths.{Path, Bytes, has, with_path, without_path}
use Rattle.lsp_docs.specs.Projects.{Edit, paths_of, with_bytes, after_edit, total_bytes}
use Rattle.lsp_docs.specs.Documents.{Agreed, Documents, Deed, MOST_FILES, IsDoneFor, after_change, after_deed, agreed_by, no_documents, changes, changes_now, closes, if_open, opens, path_of, sized, where_named}
use Rattle.srb_text.specs.Limits.{MOST_BYTES}
use Rattle.srb_text.specs.declared.Encoding.{Encoding}
use Rattle.lsp_docs.specs.Changes.{after_changes, sized_text, sum_with}
use Rattle.lsp_docs.specs.Rows.{Row, AreRows, HasRoom, IsOpenAt, IsPresent, closed_doc, closed_row, documents_of, opened_doc, present_of, present_with, project_of, reading, reads, saved_doc, size_of, with_kept}
use Rattle.lsp_docs.proofs.PathLemmas.{has-paths_of}
use Rattle.lsp_docs.proofs.RowLemmas.{bytes_absent, bytes_here, docs_with, kept-in_new, kept-in_none, kept-in_row, kept-inserted, kept-removed, kept-set, length-project_of, paths-set, paths_of-with_bytes, reading-inserted, reading-removed, reading-set, total-with, total-with_new}
use Rattle.lsp_docs.proofs.RowsHold.{ArePresent-inserted, ArePresent-removed, ArePresent-set, length-inserted, length-removed, length-set, opened-closed, present_at, reading-closed, same_row, saved-closed}

-- ---- the tests
sized_fits : (d : Documents) (e : Edit) (opened : List Path) (n : ℕ) → total_bytes (after_edit d.project e) ≡ n → n ≤ MOST_BYTES
    → sized d e opened ≡ Ok (Deed.Edits e opened)
sized_fits d e opened n total fits =
    ap (λ b. if b then Err (TooBig (total_bytes (after_edit d.project e))) else Ok (Deed.Edits e opened))
    (le-ltb MOST_BYTES (total_bytes (after_edit d.project e)) (omega (arith, total, fits)))

sized_big : (d : Documents) (e : Edit) (opened : List Path) (n : ℕ) → total_bytes (after_edit d.project e) ≡ n → MOST_BYTES < n
    → sized d e opened ≡ Err (TooBig n)
sized_big d e opened n total big =
    ap (λ b. if b then Err (TooBig (total_bytes (after_edit d.project e))) else Ok (Deed.Edits e opened))
    (lt-ltb MOST_BYTES (total_bytes (after_edit d.project e)) (omega (arith, total, big)))
    ∙ ap (λ m. Err (TooBig m)) total

abbrev opens_if : Documents → Bytes → Path → Bool → Result Deed DocEnd
opens_if d text f full =
    if full then Err (TooMany (length d.project)) else sized d (record { path = f; now = Some text }) (with_path f d.opened)

opens_known : (d : Documents) (text : Bytes) (f : Path) (b : Bytes) → bytes_at f d.project ≡ Some b
    → opens d text f ≡ sized d (record { path = f; now = Some text }) (with_path f d.opened)
opens_known d text f b is = ap (λ o. opens_if d text f (not (is_some o) && nat_le MOST_FILES (length d.project))) is

opens_absent : (d : Documents) (text : Bytes) (f : Path) → bytes_at f d.project ≡ None
    → opens d text f ≡ opens_if d text f (nat_le MOST_FILES (length d.project))
opens_absent d text f is = ap (λ o. opens_if d text f (not (is_some o) && nat_le MOST_FILES (length d.project))) is

opens_room : (d : Documents) (text : Bytes) (f : Path) → bytes_at f d.project ≡ None → length d.project < MOST_FILES
    → opens d text f ≡ sized d (record { path = f; now = Some text }) (with_path f d.opened)
opens_room d text f is room = opens_absent d text f is ∙ ap (opens_if d text f) (lt-leb MOST_FILES (length d.project) room)

opens_full : (d : Documents) (text : Bytes) (f : Path) → bytes_at f d.project ≡ None → MOST_FILES ≤ length d.project
    → opens d text f ≡ Err (TooMany (length d.project))
opens_full d text f is full = opens_absent d text f is ∙ ap (opens_if d text f) (le-leb MOST_FILES (length d.project) full)

open_is : (d : Documents) (deed : Path → Result Deed DocEnd) (f : Path) → has f d.opened ≡ true → if_open d deed f ≡ deed f
open_is d deed f is = ap (λ b. if b then deed f else Err Unknown) is

pub open_not : (d : Documents) (deed : Path → Result Deed DocEnd) (f : Path) → has f d.opened ≡ false → if_open d deed f ≡ Err Unknown
open_not d deed f is = ap (λ b. if b then deed f else Err Unknown) is

-- ---- an edit, done
known_of : (d : Documents) (words : Bytes) (f : Path) (o : Option Bytes) → bytes_at f d.project ≡ o → IsSome o
    → opens d words f ≡ sized d (record { path = f; now = Some words }) (with_path f d.opened)
known_of d words f None is some = cc
known_of d words f (Some b) is some = opens_known d words f b is

edit_done : (agreed : Agreed) (f : Path) (o : Option Bytes) (rows new : List Row) (opened : List Path) → project_of new ≡ with_bytes f o (project_of rows)
    → reading (λ d. d.saved) new ≡ reading (λ d. d.saved) rows → paths_of (reading (λ d. d.text) new) ≡ opened
    → documents_of agreed new ≡ after_deed (documents_of agreed rows) (Deed.Edits (record { path = f; now = o }) opened)
edit_done agreed f o rows new opened project saved paths =
    ap (λ p. docs_with agreed p (reading (λ d. d.saved) new) (paths_of (reading (λ d. d.text) new))) project
    ∙ ap (λ s. docs_with agreed (with_bytes f o (project_of rows)) s (paths_of (reading (λ d. d.text) new))) saved
    ∙ ap (λ fs. docs_with agreed (with_bytes f o (project_of rows)) (reading (λ d. d.saved) rows) fs) paths

-- ---- didOpen
pub opens_again : (agreed : Agreed) (f : Path) (rows : List Row) (i : ℕ) (d kept : Doc) (words : Bytes) (others : ℕ) → AreRows rows
    → slice_get rows i ≡ Some (f, d) → kept ≡ opened_doc d (chars words) → encode_utf8_all (chars words) ≡ words
    → others + size_of (present_of d) ≡ total_bytes (project_of rows) → others + length words ≤ MOST_BYTES
    → IsDoneFor (opens (documents_of agreed rows) words f) (documents_of agreed rows) (with_kept f (Some kept) (documents_of agreed rows)) (record { path = f; edit = true })
opens_again agreed f rows i d kept words others are get is spelled sum fits =
    let now = opened_doc d (chars words) in
    let docs = documents_of agreed rows in
    let edit : Edit = record { path = f; now = Some words } in
    let opened = with_path f docs.opened in
    let total = total-with rows i (f, d) (Some words) are.ordered get in
    let paths = ap paths_of (reading-set (λ x. x.text) rows i (f, d) now are.ordered get) ∙ paths_of-with_bytes f (Some (chars words)) (reading (λ x. x.text) rows) in
    record {
      deed = Deed.Edits edit opened;
      accepted = known_of docs words f (present_of d) (bytes_here present_of rows i (f, d) are.ordered get) (present_at rows i (f, d) are.present get)
          ∙ sized_fits docs edit opened (others + length words) (omega (arith, total, sum)) fits;
      done = ap (λ x. with_kept f (Some x) docs) is ∙ sym (kept-in_row agreed f rows i d now are.ordered get)
          ∙ edit_done agreed f (Some (encode_utf8_all (chars words))) rows (set_value rows i now) opened (reading-set present_of rows i (f, d) now are.ordered get)
          (kept-set (λ x. x.saved) rows i (f, d) now get refl) paths
          ∙ ap (λ b. after_deed docs (Deed.Edits (record { path = f; now = Some b }) opened)) spelled;
      told = refl;
    }

pub opens_again_big : (agreed : Agreed) (f : Path) (rows : List Row) (i : ℕ) (d : Doc) (words : Bytes) (others : ℕ) → AreRows rows → slice_get rows i ≡ Some (f, d)
    → others + size_of (present_of d) ≡ total_bytes (project_of rows) → MOST_BYTES < others + length words
    → opens (documents_of agreed rows) words f ≡ Err (TooBig (others + length words))
opens_again_big agreed f rows i d words others are get sum big =
    let docs = documents_of agreed rows in
    let total = total-with rows i (f, d) (Some words) are.ordered get in
    known_of docs words f (present_of d) (bytes_here present_of rows i (f, d) are.ordered get) (present_at rows i (f, d) are.present get)
    ∙ sized_big docs (record { path = f; now = Some words }) (with_path f docs.opened) (others + length words) (omega (arith, total, sum)) big

pub opens_new : (agreed : Agreed) (f : Path) (rows : List Row) (i : ℕ) (text : List ℕ) (words : Bytes) → AreRows rows → IsPlaceOf f rows i → length rows < MOST_FILES
    → text ≡ chars words → encode_utf8_all (chars words) ≡ words → total_bytes (project_of rows) + length words ≤ MOST_BYTES
    → IsDoneFor (opens (documents_of agreed rows) words f) (documents_of agreed rows) (with_kept f (Some (opened_doc (closed_doc None) text)) (documents_of agreed rows))
    (record { path = f; edit = true })
opens_new agreed f rows i text words are place room is spelled fits =
    let now = opened_doc (closed_doc None) (chars words) in
    let docs = documents_of agreed rows in
    let edit : Edit = record { path = f; now = Some words } in
    let opened = with_path f docs.opened in
    let paths = ap paths_of (reading-inserted (λ x. x.text) f now rows i place) ∙ paths_of-with_bytes f (Some (chars words)) (reading (λ x. x.text) rows) in
    let count = length-project_of rows are.present in
    record {
      deed = Deed.Edits edit opened;
      accepted = opens_room docs words f (bytes_absent present_of f rows i place refl) (omega (arith, count, room))
          ∙ sized_fits docs edit opened (total_bytes (project_of rows) + length words) (total-with_new f rows i (Some words) place) fits;
      done = ap (λ t. with_kept f (Some (opened_doc (closed_doc None) t)) docs) is ∙ sym (kept-in_new agreed f rows i now place)
          ∙ edit_done agreed f (Some (encode_utf8_all (chars words))) rows (insert rows i (f, now)) opened (reading-inserted present_of f now rows i place)
          (kept-inserted (λ x. x.saved) f now rows i refl) paths
          ∙ ap (λ b. after_deed docs (Deed.Edits (record { path = f; now = Some b }) opened)) spelled;
      told = refl;
    }

pub opens_new_big : (agreed : Agreed) (f : Path) (rows : List Row) (i : ℕ) (words : Bytes) → AreRows rows → IsPlaceOf f rows i → length rows < MOST_FILES
    → MOST_BYTES < total_bytes (project_of rows) + length words
    → opens (documents_of agreed rows) words f ≡ Err (TooBig (total_bytes (project_of rows) + length words))
opens_new_big agreed f rows i words are place room big =
    let docs = documents_of agreed rows in
    opens_room docs words f (bytes_absent present_of f rows i place refl) (omega (arith, length-project_of rows are.present, room))
    ∙ sized_big docs (record { path = f; now = Some words }) (with_path f docs.opened) (total_bytes (project_of rows) + length words)
    (total-with_new f rows i (Some words) place) big

pub opens_many : (agreed : Agreed) (f : Path) (rows : List Row) (i : ℕ) (words : Bytes) → AreRows rows → IsPlaceOf f rows i → MOST_FILES ≤ length rows
    → opens (documents_of agreed rows) words f ≡ Err (TooMany (length rows))
opens_many agreed f rows i words are place full =
    let count = length-project_of rows are.present in
    opens_full (documents_of agreed rows) words f (bytes_absent present_of f rows i place refl) (omega (arith, count, full))
    ∙ ap (λ n. Err (TooMany n)) count

-- ---- didChange
abbrev deed_of : Documents → Path → Result (List ℕ) DocEnd → Result Deed DocEnd
deed_of d f (Err e) = Err e
deed_of d f (Ok new) = Ok (Deed.Edits (record { path = f; now = Some (encode_utf8_all new) }) d.opened)

-- what is left of both, once a change was made
abbrev changes_rest : Documents → Path → List ℕ → List Change → Result Deed DocEnd → Result Deed DocEnd
changes_rest d f new cs (Err e) = Err e
changes_rest d f new cs (Ok one) = changes d f new cs

abbrev changes_from : Documents → Path → List Change → Result (List ℕ) DocEnd → Result Deed DocEnd
changes_from d f cs (Err e) = Err e
changes_from d f cs (Ok new) =
    changes_rest d f new cs (sized d (record { path = f; now = Some (encode_utf8_all new) }) d.opened)

abbrev texts_rest : Encoding → ℕ → List Change → Result (List ℕ) DocEnd → Result (List ℕ) DocEnd
texts_rest encoding others cs (Err e) = Err e
texts_rest encoding others cs (Ok new) = after_changes encoding others new cs

pub changes_are : (d : Documents) (f : Path) (others : ℕ) → ((b : Bytes) → total_bytes (put_file f b d.project) ≡ others + length b)
    → (cs : List Change) (text : List ℕ) → changes d f text cs ≡ deed_of d f (after_changes d.agreed.encoding others text cs)
changes_are d f others totals [] text = refl
changes_are d f others totals (c ∷ cs) text = by (after_change d.agreed.encoding text c) (λ new. changes_are d f others totals cs new)
  where
    by_size : (new : List ℕ) (b : Bool) → changes d f new cs ≡ deed_of d f (after_changes d.agreed.encoding others new cs)
        → changes_rest d f new cs (if b then Err (TooBig (sum_with others new)) else Ok (Deed.Edits (record { path = f; now = Some (encode_utf8_all new) }) d.opened))
        ≡ deed_of d f (texts_rest d.agreed.encoding others cs (if b then Err (TooBig (sum_with others new)) else Ok new))
    by_size new true rest = refl
    by_size new false rest = rest

    by : (r : Result (List ℕ) DocEnd) → ((new : List ℕ) → changes d f new cs ≡ deed_of d f (after_changes d.agreed.encoding others new cs))
        → changes_from d f cs r ≡ deed_of d f (texts_rest d.agreed.encoding others cs (sized_text others r))
    by (Err e) rest = refl
    by (Ok new) rest =
        ap (λ n. changes_rest d f new cs (if nat_lt MOST_BYTES n then Err (TooBig n) else Ok (Deed.Edits (record { path = f; now = Some (encode_utf8_all new) }) d.opened))) (totals (encode_utf8_all new))
        ∙ by_size new (nat_lt MOST_BYTES (sum_with others new)) (rest new)

totals_of : (f : Path) (rows : List Row) (i : ℕ) (d : Doc) (others : ℕ) → AreRows rows → slice_get rows i ≡ Some (f, d)
    → others + size_of (present_of d) ≡ total_bytes (project_of rows) → (o : Option Bytes) → total_bytes (with_bytes f o (project_of rows)) ≡ others + size_of o
totals_of f rows i d others are get sum o =
    let total = total-with rows i (f, d) o are.ordered get in omega (arith, total, sum)

present_is : (d : Doc) (text : List ℕ) → d.text ≡ Some text → present_of d ≡ Some (encode_utf8_all text)
present_is d text is = ap (λ o. present_with d.saved o) is

pub bytes_open : (f : Path) (rows : List Row) (i : ℕ) (text : List ℕ) → AreRows rows → IsOpenAt f rows i text
    → bytes_at f (project_of rows) ≡ Some (encode_utf8_all text)
bytes_open f rows i text are at = bytes_here present_of rows i (f, at.doc) are.ordered at.here ∙ present_is at.doc text at.with_text

if_open_is : (agreed : Agreed) (f : Path) (rows : List Row) (i : ℕ) (text : List ℕ) (deed : Path → Result Deed DocEnd) → AreRows rows → IsOpenAt f rows i text
    → if_open (documents_of agreed rows) deed f ≡ deed f
if_open_is agreed f rows i text deed are at =
    open_is (documents_of agreed rows) deed f
    (has-paths_of f (reading (λ x. x.text) rows) ∙ ap is_some (bytes_here (λ x. x.text) rows i (f, at.doc) are.ordered at.here ∙ at.with_text))

changes_start : (agreed : Agreed) (f : Path) (rows : List Row) (i : ℕ) (text : List ℕ) (list : List Change) (others : ℕ) → AreRows rows → (at : IsOpenAt f rows i text)
    → chars (encode_utf8_all text) ≡ text → others + size_of (present_of at.doc) ≡ total_bytes (project_of rows)
    → if_open (documents_of agreed rows) (changes_now (documents_of agreed rows) list) f ≡ deed_of (documents_of agreed rows) f (after_changes agreed.encoding others text list)
changes_start agreed f rows i text list others are at spelled sum =
    let docs = documents_of agreed rows in
    if_open_is agreed f rows i text (changes_now docs list) are at
    ∙ ap (λ o. changes docs f (chars (unwrap_or o [])) list) (bytes_open f rows i text are at)
    ∙ ap (λ t. changes docs f t list) spelled
    ∙ changes_are docs f others (λ b. totals_of f rows i at.doc others are at.here sum (Some b)) list text

pub changes_done : (agreed : Agreed) (f : Path) (rows : List Row) (i : ℕ) (text fresh : List ℕ) (kept : Doc) (list : List Change) (others : ℕ) → AreRows rows
    → (at : IsOpenAt f rows i text) → chars (encode_utf8_all text) ≡ text → others + size_of (present_of at.doc) ≡ total_bytes (project_of rows)
    → after_changes agreed.encoding others text list ≡ Ok fresh → kept ≡ opened_doc at.doc fresh
    → IsDoneFor (if_open (documents_of agreed rows) (changes_now (documents_of agreed rows) list) f) (documents_of agreed rows)
    (with_kept f (Some kept) (documents_of agreed rows)) (record { path = f; edit = true })
changes_done agreed f rows i text fresh kept list others are at spelled sum after is =
    let now = opened_doc at.doc fresh in
    let docs = documents_of agreed rows in
    record {
      deed = Deed.Edits (record { path = f; now = Some (encode_utf8_all fresh) }) docs.opened;
      accepted = changes_start agreed f rows i text list others are at spelled sum ∙ ap (deed_of docs f) after;
      done = ap (λ x. with_kept f (Some x) docs) is ∙ sym (kept-in_row agreed f rows i at.doc now are.ordered at.here)
          ∙ edit_done agreed f (Some (encode_utf8_all fresh)) rows (set_value rows i now) docs.opened (reading-set present_of rows i (f, at.doc) now are.ordered at.here)
          (kept-set (λ x. x.saved) rows i (f, at.doc) now at.here refl) (paths-set (λ x. x.text) rows i (f, at.doc) now text fresh at.here at.with_text refl);
      told = refl;
    }

pub changes_refused : (agreed : Agreed) (f : Path) (rows : List Row) (i : ℕ) (text : List ℕ) (list : List Change) (others : ℕ) (e : DocEnd) → AreRows rows
    → (at : IsOpenAt f rows i text) → chars (encode_utf8_all text) ≡ text → others + size_of (present_of at.doc) ≡ total_bytes (project_of rows)
    → after_changes agreed.encoding others text list ≡ Err e
    → if_open (documents_of agreed rows) (changes_now (documents_of agreed rows) list) f ≡ Err e
changes_refused agreed f rows i text list others e are at spelled sum after =
    changes_start agreed f rows i text list others are at spelled sum ∙ ap (deed_of (documents_of agreed rows) f) after

-- ---- didSave
pub saves_done : (agreed : Agreed) (f : Path) (rows : List Row) (i : ℕ) (text bytes : List ℕ) (kept : Doc) → AreRows rows → (at : IsOpenAt f rows i text)
    → bytes ≡ encode_utf8_all text → kept ≡ saved_doc at.doc bytes
    → IsDoneFor (if_open (documents_of agreed rows) (λ g. Ok (Deed.Saves g)) f) (documents_of agreed rows) (with_kept f (Some kept) (documents_of agreed rows))
    (record { path = f; edit = false })
saves_done agreed f rows i text bytes kept are at same is =
    let now = saved_doc at.doc bytes in
    let after = set_value rows i now in
    let project = kept-set present_of rows i (f, at.doc) now at.here (present_is now text at.with_text ∙ sym (present_is at.doc text at.with_text)) in
    let opened = kept-set (λ x. x.text) rows i (f, at.doc) now at.here refl in
    let saved = reading-set (λ x. x.saved) rows i (f, at.doc) now are.ordered at.here in
    let held : unwrap_or (bytes_at f (project_of rows)) [] ≡ bytes = ap (λ o. unwrap_or o []) (bytes_open f rows i text are at) ∙ sym same in
    record {
      deed = Deed.Saves f;
      accepted = if_open_is agreed f rows i text (λ g. Ok (Deed.Saves g)) are at;
      done = ap (λ x. with_kept f (Some x) (documents_of agreed rows)) is ∙ sym (kept-in_row agreed f rows i at.doc now are.ordered at.here)
          ∙ ap (λ p. docs_with agreed p (reading (λ x. x.saved) after) (paths_of (reading (λ x. x.text) after))) project
          ∙ ap (λ s. docs_with agreed (project_of rows) s (paths_of (reading (λ x. x.text) after))) saved
          ∙ ap (λ o. docs_with agreed (project_of rows) (put_file f bytes (reading (λ x. x.saved) rows)) (paths_of o)) opened
          ∙ ap (λ b. docs_with agreed (project_of rows) (put_file f b (reading (λ x. x.saved) rows)) (paths_of (reading (λ x. x.text) rows))) (sym held);
      told = refl;
    }

-- ---- didClose
abbrev closing_edit : Path → Doc → Edit
closing_edit f d = record { path = f; now = d.saved }

closes_start : (agreed : Agreed) (f : Path) (rows : List Row) (i : ℕ) (text : List ℕ) → AreRows rows → (at : IsOpenAt f rows i text)
    → if_open (documents_of agreed rows) (closes (documents_of agreed rows)) f
    ≡ sized (documents_of agreed rows) (closing_edit f at.doc) (without_path f (documents_of agreed rows).opened)
closes_start agreed f rows i text are at =
    let docs = documents_of agreed rows in
    if_open_is agreed f rows i text (closes docs) are at
    ∙ ap (λ o. sized docs (record { path = f; now = o }) (without_path f docs.opened)) (bytes_here (λ x. x.saved) rows i (f, at.doc) are.ordered at.here)

pub closes_big : (agreed : Agreed) (f : Path) (rows : List Row) (i : ℕ) (text : List ℕ) (others : ℕ) → AreRows rows → (at : IsOpenAt f rows i text)
    → others + size_of (present_of at.doc) ≡ total_bytes (project_of rows) → MOST_BYTES < others + size_of at.doc.saved
    → if_open (documents_of agreed rows) (closes (documents_of agreed rows)) f ≡ Err (TooBig (others + size_of at.doc.saved))
closes_big agreed f rows i text others are at sum big =
    let docs = documents_of agreed rows in
    closes_start agreed f rows i text are at
    ∙ sized_big docs (closing_edit f at.doc) (without_path f docs.opened) (others + size_of at.doc.saved) (totals_of f rows i at.doc others are at.here sum at.doc.saved) big

-- these are the documents after the path was closed
abbrev IsClosed : Agreed → Path → List Row → Documents → Type 0
IsClosed agreed f rows new =
    IsDoneFor (if_open (documents_of agreed rows) (closes (documents_of agreed rows)) f) (documents_of agreed rows) new (record { path = f; edit = true })

closes_to : (agreed : Agreed) (f : Path) (rows new : List Row) (i : ℕ) (text : List ℕ) (others : ℕ) → AreRows rows → (at : IsOpenAt f rows i text)
    → others + size_of (present_of at.doc) ≡ total_bytes (project_of rows) → others + size_of at.doc.saved ≤ MOST_BYTES
    → project_of new ≡ with_bytes f at.doc.saved (project_of rows) → reading (λ x. x.saved) new ≡ reading (λ x. x.saved) rows
    → reading (λ x. x.text) new ≡ with_bytes f None (reading (λ x. x.text) rows)
    → IsDoneFor (if_open (documents_of agreed rows) (closes (documents_of agreed rows)) f) (documents_of agreed rows) (documents_of agreed new) (record { path = f; edit = true })
closes_to agreed f rows new i text others are at sum fits project saved opened =
    let docs = documents_of agreed rows in
    record {
      deed = Deed.Edits (closing_edit f at.doc) (without_path f docs.opened);
      accepted = closes_start agreed f rows i text are at
          ∙ sized_fits docs (closing_edit f at.doc) (without_path f docs.opened) (others + size_of at.doc.saved) (totals_of f rows i at.doc others are at.here sum at.doc.saved) fits;
      done = edit_done agreed f at.doc.saved rows new (without_path f docs.opened) project saved (ap paths_of opened ∙ paths_of-with_bytes f None (reading (λ x. x.text) rows));
      told = refl;
    }

pub closes_back : (agreed : Agreed) (f : Path) (rows : List Row) (i : ℕ) (text : List ℕ) (kept : Doc) (others : ℕ) → AreRows rows → (at : IsOpenAt f rows i text)
    → others + size_of (present_of at.doc) ≡ total_bytes (project_of rows) → others + size_of at.doc.saved ≤ MOST_BYTES
    → kept ≡ closed_doc at.doc.saved
    → IsDoneFor (if_open (documents_of agreed rows) (closes (documents_of agreed rows)) f) (documents_of agreed rows) (with_kept f (Some kept) (documents_of agreed rows))
    (record { path = f; edit = true })
closes_back agreed f rows i text kept others are at sum fits is =
    let now = closed_doc at.doc.saved in
    subst (IsClosed agreed f rows) (kept-in_row agreed f rows i at.doc now are.ordered at.here ∙ ap (λ x. with_kept f (Some x) (documents_of agreed rows)) (sym is))
    (closes_to agreed f rows (set_value rows i now) i text others are at sum fits
    (reading-set present_of rows i (f, at.doc) now are.ordered at.here)
    (kept-set (λ x. x.saved) rows i (f, at.doc) now at.here refl)
    (reading-set (λ x. x.text) rows i (f, at.doc) now are.ordered at.here))

pub closes_away : (agreed : Agreed) (f : Path) (rows : List Row) (i : ℕ) (text : List ℕ) (others : ℕ) → AreRows rows → (at : IsOpenAt f rows i text)
    → others + size_of (present_of at.doc) ≡ total_bytes (project_of rows) → others ≤ MOST_BYTES → at.doc.saved ≡ None
    → IsDoneFor (if_open (documents_of agreed rows) (closes (documents_of agreed rows)) f) (documents_of agreed rows) (with_kept f None (documents_of agreed rows))
    (record { path = f; edit = true })
closes_away agreed f rows i text others are at sum fits none =
    subst (IsClosed agreed f rows) (kept-in_none agreed f rows i at.doc are.ordered at.here)
    (closes_to agreed f rows (remove rows i) i text others are at sum (omega (arith, fits, ap size_of none))
    (reading-removed present_of rows i (f, at.doc) are.ordered at.here ∙ ap (λ o. with_bytes f o (project_of rows)) (sym none))
    (kept-removed (λ x. x.saved) rows i (f, at.doc) at.here none)
    (reading-removed (λ x. x.text) rows i (f, at.doc) are.ordered at.here))

-- ---- answers
abbrev done_with : (Path → Result Deed DocEnd) → Option Path → Result Deed DocEnd
done_with deed None = Err Foreign
done_with deed (Some f) = deed f

-- the error that is passed on is the one that came
pub err_is : {T E : Type 0} (r : Result T E) (x : E) (Q : E → Type 0) → IsErrAnd r (λ e. e ≡ x) → Q x → IfErr r Q
err_is (Ok t) x Q is q = tt
err_is (Err e) x Q is q = subst Q (sym is) q

pub open_size : (d : Doc) (text : List ℕ) → d.text ≡ Some text → size_of (present_of d) ≡ length (encode_utf8_all text)
open_size d text is = ap size_of (present_is d text is)

pub named_is : (d : Documents) (uri : List ℕ) (f : Path) (deed : Path → Result Deed DocEnd) → path_of d.agreed uri ≡ Some f → where_named d uri deed ≡ deed f
named_is d uri f deed is = ap (λ o. done_with deed o) is

-- ---- the documents of a project
pub closed_documents : (files : List File) → documents_of (agreed_by None []) (map closed_row files) ≡ no_documents files
closed_documents files =
    ap (λ p. docs_with (agreed_by None []) p (reading (λ d. d.saved) (map closed_row files)) (paths_of (reading (λ d. d.text) (map closed_row files)))) (reading-closed files)
    ∙ ap (λ s. docs_with (agreed_by None []) files s (paths_of (reading (λ d. d.text) (map closed_row files)))) (saved-closed files)
    ∙ ap (λ o. docs_with (agreed_by None []) files files (paths_of o)) (opened-closed files)

-- ---- room
pub room_in_row : (f : Path) (rows : List Row) (i : ℕ) (d kept : Doc) (others : ℕ) → AreRows rows → length rows ≤ MOST_FILES → slice_get rows i ≡ Some (f, d)
    → IsSome (present_of kept) → others + size_of (present_of d) ≡ total_bytes (project_of rows) → others + size_of (present_of kept) ≤ MOST_BYTES
    → HasRoom f (Some kept) (project_of rows)
room_in_row f rows i d kept others are few get some sum fits =
    let same = ap length (reading-set present_of rows i (f, d) kept are.ordered get) in
    let count = length-project_of (set_value rows i kept) (ArePresent-set rows i kept are.present some) in
    record {
      present = some;
      files = omega (arith, same, count, length-set rows i kept, few);
      bytes = omega (arith, totals_of f rows i d others are get sum (present_of kept), fits);
    }

pub room_in_new : (f : Path) (rows : List Row) (i : ℕ) (kept : Doc) → AreRows rows → IsPlaceOf f rows i → length rows < MOST_FILES
    → IsSome (present_of kept) → total_bytes (project_of rows) + size_of (present_of kept) ≤ MOST_BYTES → HasRoom f (Some kept) (project_of rows)
room_in_new f rows i kept are place few some fits =
    let same = ap length (reading-inserted present_of f kept rows i place) in
    let count = length-project_of (insert rows i (f, kept)) (ArePresent-inserted f kept rows i are.present some) in
    record {
      present = some;
      files = omega (arith, same, count, length-inserted rows i (f, kept), few);
      bytes = omega (arith, total-with_new f rows i (present_of kept) place, fits);
    }

pub room_in_none : (f : Path) (rows : List Row) (i : ℕ) (d : Doc) → AreRows rows → length rows ≤ MOST_FILES → slice_get rows i ≡ Some (f, d)
    → total_bytes (project_of rows) ≤ MOST_BYTES → HasRoom f None (project_of rows)
room_in_none f rows i d are few get fits =
    let same = ap length (reading-removed present_of rows i (f, d) are.ordered get) in
    let count = length-project_of (remove rows i) (ArePresent-removed rows i are.present) in
    let total = total-with rows i (f, d) None are.ordered get in
    record {
      present = tt;
      files = omega (arith, same, count, length-removed rows i, few);
      bytes = omega (arith, total, fits);
    }

-- a row that keeps its present bytes
pub room_as_present : (f : Path) (rows : List Row) (i : ℕ) (text bytes : List ℕ) (kept : Doc) → AreRows rows → length rows ≤ MOST_FILES
    → total_bytes (project_of rows) ≤ MOST_BYTES → (at : IsOpenAt f rows i text) → kept ≡ saved_doc at.doc bytes → HasRoom f (Some kept) (project_of rows)
room_as_present f rows i text bytes kept are few fits at is =
    let same : present_of kept ≡ present_of at.doc = ap present_of is ∙ present_is (saved_doc at.doc bytes) text at.with_text ∙ sym (present_is at.doc text at.with_text) in
    let total = total-with rows i (f, at.doc) (present_of kept) are.ordered at.here in
    let size = ap size_of same in
    let count = length-project_of (set_value rows i kept) (ArePresent-set rows i kept are.present (subst IsSome (sym same) (present_at rows i (f, at.doc) are.present at.here))) in
    record {
      present = subst IsSome (sym same) (present_at rows i (f, at.doc) are.present at.here);
      files = omega (arith, ap length (reading-set present_of rows i (f, at.doc) kept are.ordered at.here), count, length-set rows i kept, few);
      bytes = omega (arith, total, size, fits);
    }

-- the bytes of a row with a text
pub has_text : (kept was : Doc) (text : List ℕ) → kept ≡ opened_doc was text → IsSome (present_of kept)
has_text kept was text is = ap (λ d. is_some (present_of d)) is

pub text_size : (kept was : Doc) (text : List ℕ) → kept ≡ opened_doc was text → size_of (present_of kept) ≡ length (encode_utf8_all text)
text_size kept was text is = ap (λ d. size_of (present_of d)) is

-- ---- what is kept, put at its path
pub put_fits : (f : Path) (kept : Option Doc) (doc : Doc) (rows : List Row) (i : ℕ) (was : Doc) (r : Row) → IsOrdered rows
    → slice_get rows i ≡ Some (f, was) → slice_get rows i ≡ Some r → kept ≡ Some doc → HasRoom f kept (project_of rows)
    → total_bytes (project_of rows) + size_of (present_of doc) ≤ MOST_BYTES + size_of (present_of r.1)
put_fits f kept doc rows i was r ordered here get is room =
    let same = ap (λ (x : Row). size_of (present_of x.1)) (same_row rows i (f, was) r here get) in
    let total = total-with rows i (f, was) (present_of doc) ordered here in
    let all = ap (λ k. total_bytes (with_bytes f (reads present_of k) (project_of rows))) is in
    omega (arith, same, total, all, room.bytes)

pub put_fits_new : (f : Path) (kept : Option Doc) (doc : Doc) (rows : List Row) (i : ℕ) → IsPlaceOf f rows i → kept ≡ Some doc
    → HasRoom f kept (project_of rows) → total_bytes (project_of rows) + size_of (present_of doc) ≤ MOST_BYTES
put_fits_new f kept doc rows i place is room =
    let total = total-with_new f rows i (present_of doc) place in
    let all = ap (λ k. total_bytes (with_bytes f (reads present_of k) (project_of rows))) is in
    omega (arith, total, all, room.bytes)

pub put_few : (f : Path) (kept : Option Doc) (doc : Doc) (rows : List Row) (i : ℕ) → AreRows rows → IsPlaceOf f rows i → kept ≡ Some doc
    → HasRoom f kept (project_of rows) → length rows < MOST_FILES
put_few f kept doc rows i are place is room =
    let some : IsSome (present_of doc) = subst IsPresent is room.present in
    let count = length-project_of (insert rows i (f, doc)) (ArePresent-inserted f doc rows i are.present some) in
    let same = ap length (reading-inserted present_of f doc rows i place) in
    let all = ap (λ k. length (with_bytes f (reads present_of k) (project_of rows))) is in
    omega (arith, count, same, all, length-inserted rows i (f, doc), room.files)
