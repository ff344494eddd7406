-- What always holds of rows and their sum, after each way in which they change.
use Rattle.std.proofs.Common.{◌≡◌, ℕ, zero, suc, ◌+◌, ◌<◌, ◌≤◌, false, List, [], ◌∷◌, ◌++◌, length, take, drop, get_or, insert, map, refl, sym, ap, ap₂, ◌∙◌, subst, arith}
use Rattle.std.specs.Prelude.{Option, Some, None, is_some, IsSome, slice_get, remove}
use Rattle.std.specs.Option.{option_map}
use Rattle.std.proofs.lemmas.Option.{same_Some}
use Rattle.std.proofs.lemmas.List.{drop_all, length-append, length-drop, map_more, take-append-drop, take_all, take_more}
use Rattle.std.proofs.lemmas.List.Sums.{sum_by-append, sum_by-take-le}
use Rattle.std.proofs.Math.Seq.{drop-cons}
use Rattle.srb_terms.specs.PathMaps.{IsAfterAll, IsBeforeAll, IsOrdered, IsPlaceOf, set_value}
use Rattle.srb_terms.specs.Projects.{File, IsProject}
use Rattle.srb_terms.proofs.PathOrder.{entry_between, entry_read}
use Rattle.lsp_docs.specs.declared.doc.Doc.{Doc}
use Rattle.lsp_docs.specs.Paths.{Path, Bytes, has}
use Rattle.lsp_docs.specs.Projects.{paths_of, total_bytes}
use Rattle.lsp_docs.specs.Documents.{MOST_FILES}
use Rattle.srb_text.specs.Limits.{MOST_BYTES}
use Rattle.lsp_docs.specs.Rows.{Row, ArePresent, closed_row, present_of, project_of, reading, saved_doc, size_of}
use Rattle.lsp_docs.proofs.PathLemmas.{has-paths_of}
use Rattle.lsp_docs.proofs.RowLemmas.{bytes_absent, bytes_here, total-inserted, total-removed, total-set}

-- what always holds of rows and their sum
abbrev pub Holds : List Row → ℕ → Type 0
Holds rows total =
    ArePresent rows × (length rows ≤ MOST_FILES) × (total ≡ total_bytes (project_of rows)) × (total ≤ MOST_BYTES)

-- ---- the row at an index
pub same_row : (rows : List Row) (i : ℕ) (r s : Row) → slice_get rows i ≡ Some r → slice_get rows i ≡ Some s → r ≡ s
same_row rows i r s is also = same_Some r s (sym is ∙ also)

-- the path of what is kept there
pub row_of : (rows : List Row) (i : ℕ) (d : Doc) → option_map (λ (r : Row). r.1) (slice_get rows i) ≡ Some d → (f : Path) × (slice_get rows i ≡ Some (f, d))
row_of [] i d is = cc
row_of (x ∷ rs) zero d is = (x.0, ap (λ e. Some (x.0, e)) (same_Some x.1 d is))
row_of (x ∷ rs) (suc i) d is = row_of rs i d is

-- a row of the list is one of what it is seen as, and so is the sum
pub get_same : (list now : List Row) (i : ℕ) (r : Row) → list ≡ now → slice_get list i ≡ Some r → slice_get now i ≡ Some r
get_same list now i r same is = subst (λ l. slice_get l i ≡ Some r) same is

pub total_same : (list now : List Row) → list ≡ now → total_bytes (project_of list) ≡ total_bytes (project_of now)
total_same list now same = ap (λ l. total_bytes (project_of l)) same

pub same_doc : (rows : List Row) (i : ℕ) (d : Doc) (r : Row) → option_map (λ (x : Row). x.1) (slice_get rows i) ≡ Some d → slice_get rows i ≡ Some r → d ≡ r.1
same_doc rows i d r is get = same_Some d r.1 (sym is ∙ ap (option_map (λ (x : Row). x.1)) get)

pub size_within : (rows : List Row) (i : ℕ) (r : Row) → slice_get rows i ≡ Some r → size_of (present_of r.1) ≤ total_bytes (project_of rows)
size_within rows i r is = omega (arith, total-removed rows i r is)

pub present_at : (rows : List Row) (i : ℕ) (r : Row) → ArePresent rows → slice_get rows i ≡ Some r → IsSome (present_of r.1)
present_at [] i r all is = cc
present_at (x ∷ rs) zero r all is = subst (λ (y : Row). IsSome (present_of y.1)) (same_Some x r is) all.0
present_at (x ∷ rs) (suc i) r all is = present_at rs i r all.1 is

-- ---- what is kept changes
pub ArePresent-set : (rows : List Row) (i : ℕ) (now : Doc) → ArePresent rows → IsSome (present_of now) → ArePresent (set_value rows i now)
ArePresent-set [] i now all some = tt
ArePresent-set (x ∷ rs) zero now all some = (some, all.1)
ArePresent-set (x ∷ rs) (suc i) now all some = (all.0, ArePresent-set rs i now all.1 some)

pub length-set : (rows : List Row) (i : ℕ) (now : Doc) → length (set_value rows i now) ≡ length rows
length-set [] i now = refl
length-set (x ∷ rs) zero now = refl
length-set (x ∷ rs) (suc i) now = ap suc (length-set rs i now)

pub set_holds : (rows : List Row) (total n i : ℕ) (r : Row) (now : Doc) → Holds rows total → slice_get rows i ≡ Some r → IsSome (present_of now)
    → n + size_of (present_of r.1) ≡ total + size_of (present_of now) → n ≤ MOST_BYTES → Holds (set_value rows i now) n
set_holds rows total n i r now holds is some sum bound = (
  ArePresent-set rows i now holds.0 some,
  omega (arith, length-set rows i now, holds.1),
  omega (arith, total-set rows i r now is, sum, holds.2),
  bound,
)

-- the present bytes of an open row stay when it is saved
still_present : (d : Doc) (bytes : Bytes) (o : Option (List ℕ)) → d.text ≡ o → IsSome o → present_of (saved_doc d bytes) ≡ present_of d
still_present d bytes None is some = cc
still_present d bytes (Some text) is some = rw is refl

present_open : (d : Doc) (o : Option (List ℕ)) → d.text ≡ o → IsSome o → IsSome (present_of d)
present_open d None is some = cc
present_open d (Some text) is some = rw is refl

pub save_holds : (rows : List Row) (total i : ℕ) (r : Row) (bytes : Bytes) → Holds rows total → slice_get rows i ≡ Some r → IsSome r.1.text
    → Holds (set_value rows i (saved_doc r.1 bytes)) total
save_holds rows total i r bytes holds is open_is =
    let same = still_present r.1 bytes r.1.text refl open_is in
    set_holds rows total total i r (saved_doc r.1 bytes) holds is
    (subst IsSome (sym same) (present_open r.1 r.1.text refl open_is)) (ap (λ o. total + size_of o) (sym same)) holds.3

pub ArePresent-removed : (rows : List Row) (i : ℕ) → ArePresent rows → ArePresent (remove rows i)
ArePresent-removed [] zero all = tt
ArePresent-removed [] (suc i) all = tt
ArePresent-removed (x ∷ rs) zero all = all.1
ArePresent-removed (x ∷ rs) (suc i) all = (all.0, ArePresent-removed rs i all.1)

pub length-removed : (rows : List Row) (i : ℕ) → length (remove rows i) ≤ length rows
length-removed rows i =
    let whole = ap length (take-append-drop i rows) in
    let parts = length-append (take i rows) (drop i rows) in
    let fewer = length-append (take i rows) (drop (suc i) rows) in
    let a = length-drop i rows in
    let b = length-drop (suc i) rows in
    omega (arith, whole, parts, fewer, a, b)

pub remove_holds : (rows : List Row) (total n i : ℕ) (r : Row) → Holds rows total → slice_get rows i ≡ Some r → n + size_of (present_of r.1) ≡ total
    → Holds (remove rows i) n
remove_holds rows total n i r holds is sum = (
  ArePresent-removed rows i holds.0,
  omega (arith, length-removed rows i, holds.1),
  omega (arith, total-removed rows i r is, sum, holds.2),
  omega (arith, sum, holds.3),
)

pub ArePresent-inserted : (f : Path) (d : Doc) (rows : List Row) (i : ℕ) → ArePresent rows → IsSome (present_of d) → ArePresent (insert rows i (f, d))
ArePresent-inserted f d rows zero all some = (some, all)
ArePresent-inserted f d [] (suc i) all some = (some, tt)
ArePresent-inserted f d (x ∷ rs) (suc i) all some = (all.0, ArePresent-inserted f d rs i all.1 some)

pub length-inserted : (rows : List Row) (i : ℕ) (now : Row) → length (insert rows i now) ≡ suc (length rows)
length-inserted rows i now =
    let whole = ap length (take-append-drop i rows) in
    let parts = length-append (take i rows) (drop i rows) in
    let more = length-append (take i rows) (now ∷ drop i rows) in
    omega (arith, whole, parts, more)

pub insert_holds : (f : Path) (d : Doc) (rows : List Row) (total n i : ℕ) → Holds rows total → IsSome (present_of d) → length rows < MOST_FILES
    → n ≡ total + size_of (present_of d) → n ≤ MOST_BYTES → Holds (insert rows i (f, d)) n
insert_holds f d rows total n i holds some room sum bound = (
  ArePresent-inserted f d rows i holds.0 some,
  omega (arith, length-inserted rows i (f, d), room),
  omega (arith, total-inserted f d rows i, sum, holds.2),
  bound,
)

-- ---- whether a path is open
pub not_open : (f : Path) (rows : List Row) (i : ℕ) (d : Doc) → IsOrdered rows → slice_get rows i ≡ Some (f, d) → d.text ≡ None
    → has f (paths_of (reading (λ x. x.text) rows)) ≡ false
not_open f rows i d ordered is closed =
    has-paths_of f (reading (λ x. x.text) rows) ∙ ap is_some (bytes_here (λ x. x.text) rows i (f, d) ordered is ∙ closed)

pub absent_not_open : (f : Path) (rows : List Row) (i : ℕ) → IsPlaceOf f rows i → has f (paths_of (reading (λ x. x.text) rows)) ≡ false
absent_not_open f rows i place =
    has-paths_of f (reading (λ x. x.text) rows) ∙ ap is_some (bytes_absent (λ x. x.text) f rows i place refl)

-- ---- an entry is added at the end
pub place_at_end : {A : Type 0} (f : Path) (es : List (Path × A)) (i : ℕ) → i ≡ length es → IsAfterAll f es → IsPlaceOf f es i
place_at_end f es i end after = record {
  within = omega (arith, end);
  after = subst (IsAfterAll f) (sym (take_all i es (omega (arith, end)))) after;
  before = subst (IsBeforeAll f) (sym (drop_all i es (omega (arith, end)))) tt;
}

pub insert_at_end : {X : Type 0} (xs : List X) (i : ℕ) (x : X) → i ≡ length xs → insert xs i x ≡ xs ++ x ∷ []
insert_at_end xs i x end = ap₂ (λ a b. a ++ x ∷ b) (take_all i xs (omega (arith, end))) (drop_all i xs (omega (arith, end)))

-- the path of the next entry stands after those before it
pub after_taken : {A : Type 0} (f : Path) (es now : List (Path × A)) (k : ℕ) (e : Path × A) → es ≡ now → IsOrdered now → k < length es → e ≡ get_or es k e
    → f ≡ e.0 → IsAfterAll f (take k es)
after_taken f es now k e same ordered within is path =
    subst (λ g. IsAfterAll g (take k es)) (sym path) (entry_between es k e (subst IsOrdered (sym same) ordered) (entry_read es k e within is)).after

-- ---- the rows of a project
pub reading-closed : (files : List File) → project_of (map closed_row files) ≡ files
reading-closed [] = refl
reading-closed (file ∷ files) = ap (λ fs. file ∷ fs) (reading-closed files)

pub saved-closed : (files : List File) → reading (λ d. d.saved) (map closed_row files) ≡ files
saved-closed [] = refl
saved-closed (file ∷ files) = ap (λ fs. file ∷ fs) (saved-closed files)

pub opened-closed : (files : List File) → reading (λ d. d.text) (map closed_row files) ≡ []
opened-closed [] = refl
opened-closed (file ∷ files) = opened-closed files

ArePresent-closed : (files : List File) → ArePresent (map closed_row files)
ArePresent-closed [] = tt
ArePresent-closed (file ∷ files) = (refl, ArePresent-closed files)

length-closed : (files : List File) → length (map closed_row files) ≡ length files
length-closed [] = refl
length-closed (file ∷ files) = ap suc (length-closed files)

pub closed_holds : (files : List File) (rows : List Row) (total : ℕ) → length files ≤ MOST_FILES → total_bytes files ≤ MOST_BYTES
    → rows ≡ map closed_row files → total ≡ total_bytes files → Holds rows total
closed_holds files rows total count bytes is sum =
    let all : Holds (map closed_row files) total =
    (ArePresent-closed files, omega (arith, length-closed files, count), sum ∙ ap total_bytes (sym (reading-closed files)), omega (arith, sum, bytes)) in
    subst (λ rs. Holds rs total) (sym is) all

IsAfterAll-closed : (f : Path) (files : List File) → IsAfterAll f files → IsAfterAll f (map closed_row files)
IsAfterAll-closed f [] all = tt
IsAfterAll-closed f (file ∷ files) all = (all.0, IsAfterAll-closed f files all.1)

-- the row of the next file belongs after those of the files before it
pub closed_place : (f : Path) (files now : List File) (rows : List Row) (k i : ℕ) (file : File) → files ≡ now → IsProject now → k < length files
    → file ≡ get_or files k file → f ≡ file.0 → rows ≡ map closed_row (take k files) → i ≡ length rows → IsPlaceOf f rows i
closed_place f files now rows k i file same ordered within is path from end =
    place_at_end f rows i end (subst (IsAfterAll f) (sym from) (IsAfterAll-closed f (take k files) (after_taken f files now k file same ordered within is path)))

pub closed_is : (f : Path) (b : Bytes) (file : File) → f ≡ file.0 → b ≡ file.1 → closed_row (f, b) ≡ closed_row file
closed_is f b file path bytes = ap₂ (λ p q. closed_row (p, q)) path bytes

pub map-take_next : {X Y : Type 0} (g : X → Y) (xs : List X) (k : ℕ) (x : X) → k < length xs → x ≡ get_or xs k x
    → map g (take (k + 1) xs) ≡ map g (take k xs) ++ g x ∷ []
map-take_next g xs k x within is = map_more g xs k x within ∙ ap (λ y. map g (take k xs) ++ g y ∷ []) (sym is)

pub total-take_next : (files : List File) (k : ℕ) (file : File) → k < length files → file ≡ get_or files k file
    → total_bytes (take (k + 1) files) ≡ total_bytes (take k files) + length file.1
total-take_next files k file within is =
    ap total_bytes (take_more files k file within ∙ ap (λ x. take k files ++ x ∷ []) (sym is))
    ∙ sum_by-append (λ (x : File). length x.1) (take k files) (file ∷ []) ∙ omega arith

pub total-take_le : (files : List File) (k : ℕ) → total_bytes (take k files) ≤ total_bytes files
total-take_le files k = sum_by-take-le (λ (x : File). length x.1) files k

pub drop_next : {X : Type 0} (xs : List X) (k : ℕ) (x : X) → k < length xs → x ≡ get_or xs k x → drop k xs ≡ x ∷ drop (k + 1) xs
drop_next xs k x within is = let next : suc k ≡ k + 1 = omega arith in drop-cons xs k x within ∙ ap₂ (λ y n. y ∷ drop n xs) (sym is) next
