-- Rows of paths: what they say before and after what is kept at one path changes.
use Rattle.std.proofs.Common.{◌≡◌, ℕ, zero, suc, ◌+◌, Bool, true, false, List, [], ◌∷◌, length, take, drop, insert, refl, sym, ap, ◌∙◌, subst, arith}
use Rattle.std.specs.Prelude.{Option, Some, None, IsSome, slice_get, remove, bytes_eq, if◌then◌else◌}
use Rattle.std.specs.Option.{option_map}
use Rattle.std.proofs.lemmas.List.Sums.{sum_by-append}
use Rattle.std.proofs.lemmas.Option.{same_Some}
use Rattle.std.specs.Cmp.Lexicographic.{texts_ties}
use Rattle.std.specs.Ordering.{is_eq, is_lt, match_ordering}
use Rattle.std.specs.declared.cmp.Ordering.{Ordering}
use Rattle.std.specs.declared.cmp.Ordering.TheVariants.{Less, Equal, Greater}
use Rattle.srb_terms.specs.PathMaps.{IsAfterAll, IsBeforeAll, IsOrdered, IsPlaceOf, path_cmp, set_value}
use Rattle.srb_terms.specs.Projects.{File, IsProject, bytes_at, put_file}
use Rattle.srb_terms.proofs.PathOrder.{put_value-there, same_path, self_cmp, turned}
use Rattle.lsp_docs.specs.declared.doc.Doc.{Doc}
use Rattle.lsp_docs.specs.Paths.{Path, Bytes, with_path, without_path, is_before}
use Rattle.lsp_docs.specs.Projects.{Project, paths_of, without_file, with_bytes, total_bytes}
use Rattle.lsp_docs.specs.Documents.{Agreed, Documents}
use Rattle.lsp_docs.specs.Rows.{Row, ArePresent, closed_doc, documents_of, path_if, present_of, size_of, with_front, with_kept, reading, project_of}
use Rattle.lsp_docs.proofs.PathLemmas.{self_path, bytes_at-with_bytes}

-- ---- the first path of a project, and a later one
-- paths are the same where that is how they stand
tied : (f g : Path) (o : Ordering) → path_cmp f g ≡ o → bytes_eq f g ≡ is_eq o
tied f g o is = texts_ties f g ∙ ap is_eq is

without_file-before : (f : Path) (p : Project) → IsBeforeAll f p → without_file f p ≡ p
without_file-before f [] all = refl
without_file-before f (file ∷ files) all =
    ap (λ b. if b then without_file f files else file ∷ without_file f files) (tied f file.0 Less all.0)
    ∙ ap (λ rest. file ∷ rest) (without_file-before f files all.1)

with_bytes-first : (f : Path) (o was : Option Bytes) (q : Project) → IsBeforeAll f q → with_bytes f o (with_front f was q) ≡ with_front f o q
with_bytes-first f None None q all = without_file-before f q all
with_bytes-first f None (Some w) q all =
    ap (λ b. if b then without_file f q else (f, w) ∷ without_file f q) (self_path f) ∙ without_file-before f q all
with_bytes-first f (Some b) None q all = put_value-there f b q 0 (record { within = omega arith; after = tt; before = all })
with_bytes-first f (Some b) (Some w) q all =
    ap (λ o. match_ordering o ((f, b) ∷ (f, w) ∷ q) ((f, b) ∷ q) ((f, w) ∷ put_file f b q)) (self_cmp f)

with_bytes-later : (f g : Path) (o was : Option Bytes) (q : Project) → path_cmp f g ≡ Greater
    → with_bytes f o (with_front g was q) ≡ with_front g was (with_bytes f o q)
with_bytes-later f g None None q is = refl
with_bytes-later f g (Some b) None q is = refl
with_bytes-later f g None (Some w) q is =
    ap (λ t. if t then without_file f q else (g, w) ∷ without_file f q) (tied f g Greater is)
with_bytes-later f g (Some b) (Some w) q is =
    ap (λ o. match_ordering o ((f, b) ∷ (g, w) ∷ q) ((f, b) ∷ q) ((g, w) ∷ put_file f b q)) is

total_bytes-front : (f : Path) (was : Option Bytes) (q : Project) → total_bytes (with_front f was q) ≡ size_of was + total_bytes q
total_bytes-front f None q = omega arith
total_bytes-front f (Some w) q = sum_by-append (λ (file : File). length file.1) ((f, w) ∷ []) q ∙ omega arith

-- ---- sets of paths
paths_of-without_file : (f : Path) (p : Project) → paths_of (without_file f p) ≡ without_path f (paths_of p)
paths_of-without_file f [] = refl
paths_of-without_file f (file ∷ files) = by (bytes_eq f file.0) (paths_of-without_file f files)
  where
    by : (b : Bool) → paths_of (without_file f files) ≡ without_path f (paths_of files)
        → paths_of (if b then without_file f files else file ∷ without_file f files)
        ≡ (if b then without_path f (paths_of files) else file.0 ∷ without_path f (paths_of files))
    by true rest = rest
    by false rest = ap (λ fs. file.0 ∷ fs) rest

with_path-is : (f g : Path) (gs : List Path)
    → with_path f (g ∷ gs) ≡ match_ordering (path_cmp f g) (f ∷ g ∷ gs) (g ∷ gs) (g ∷ with_path f gs)
with_path-is f g gs =
    ap (λ b. if b then g ∷ gs else (if is_before f g then f ∷ g ∷ gs else g ∷ with_path f gs)) (texts_ties f g) ∙ by (path_cmp f g)
  where
    by : (o : Ordering) → (if is_eq o then g ∷ gs else (if is_lt o then f ∷ g ∷ gs else g ∷ with_path f gs))
        ≡ match_ordering o (f ∷ g ∷ gs) (g ∷ gs) (g ∷ with_path f gs)
    by Less = refl
    by Equal = refl
    by Greater = refl

paths_of-put_file : (f : Path) (b : Bytes) (p : Project) → paths_of (put_file f b p) ≡ with_path f (paths_of p)
paths_of-put_file f b [] = refl
paths_of-put_file f b (file ∷ files) =
    by (path_cmp f file.0) refl (paths_of-put_file f b files) ∙ sym (with_path-is f file.0 (paths_of files))
  where
    by : (o : Ordering) → path_cmp f file.0 ≡ o → paths_of (put_file f b files) ≡ with_path f (paths_of files)
        → paths_of (match_ordering o ((f, b) ∷ file ∷ files) ((f, b) ∷ files) (file ∷ put_file f b files))
        ≡ match_ordering o (f ∷ file.0 ∷ paths_of files) (file.0 ∷ paths_of files) (file.0 ∷ with_path f (paths_of files))
    by Less is rest = refl
    by Equal is rest = ap (λ g. g ∷ paths_of files) (same_path f file.0 is)
    by Greater is rest = ap (λ fs. file.0 ∷ fs) rest

pub paths_of-with_bytes : (f : Path) (o : Option Bytes) (p : Project) → paths_of (with_bytes f o p) ≡ path_if f o (paths_of p)
paths_of-with_bytes f None p = paths_of-without_file f p
paths_of-with_bytes f (Some b) p = paths_of-put_file f b p

-- ---- readings of rows
IsBeforeAll-reading : (get : Doc → Option Bytes) (f : Path) (rows : List Row) → IsBeforeAll f rows → IsBeforeAll f (reading get rows)
IsBeforeAll-reading get f [] all = tt
IsBeforeAll-reading get f (r ∷ rs) all = by (get r.1) (IsBeforeAll-reading get f rs all.1)
  where
    by : (o : Option Bytes) → IsBeforeAll f (reading get rs) → IsBeforeAll f (with_front r.0 o (reading get rs))
    by None rest = rest
    by (Some b) rest = (all.0, rest)

-- each reading of rows is a project
pub IsProject-reading : (get : Doc → Option Bytes) (rows : List Row) → IsOrdered rows → IsProject (reading get rows)
IsProject-reading get [] ordered = tt
IsProject-reading get (r ∷ rs) ordered =
    by (get r.1) (IsProject-reading get rs ordered.1) (IsBeforeAll-reading get r.0 rs ordered.0)
  where
    by : (o : Option Bytes) → IsProject (reading get rs) → IsBeforeAll r.0 (reading get rs) → IsProject (with_front r.0 o (reading get rs))
    by None rest all = rest
    by (Some b) rest all = (all, rest)

-- a row has a file of the project
one_file : (f : Path) (o : Option Bytes) (p : Project) → IsSome o → length (with_front f o p) ≡ suc (length p)
one_file f None p some = cc
one_file f (Some b) p some = refl

pub length-project_of : (rows : List Row) → ArePresent rows → length (project_of rows) ≡ length rows
length-project_of [] all = refl
length-project_of (r ∷ rs) all = one_file r.0 (present_of r.1) (project_of rs) all.0 ∙ ap suc (length-project_of rs all.1)

one_path_of : (f : Path) (o : Option Bytes) (p : Project) → IsSome o → paths_of (with_front f o p) ≡ f ∷ paths_of p
one_path_of f None p some = cc
one_path_of f (Some b) p some = refl

pub path_at : (rows : List Row) (i : ℕ) (r : Row) → ArePresent rows → slice_get rows i ≡ Some r → slice_get (paths_of (project_of rows)) i ≡ Some r.0
path_at [] i r all is = cc
path_at (x ∷ rs) zero r all is =
    ap (λ fs. slice_get fs zero) (one_path_of x.0 (present_of x.1) (project_of rs) all.0) ∙ ap (option_map (λ (y : Row). y.0)) is
path_at (x ∷ rs) (suc i) r all is =
    ap (λ fs. slice_get fs (suc i)) (one_path_of x.0 (present_of x.1) (project_of rs) all.0) ∙ path_at rs i r all.1 is

-- ---- what is kept at one path changes
before_entry : (g : Path) (rows : List Row) (i : ℕ) (r : Row) → IsBeforeAll g rows → slice_get rows i ≡ Some r → path_cmp g r.0 ≡ Less
before_entry g [] i r all is = cc
before_entry g (x ∷ rs) zero r all is = subst (λ y. path_cmp g y.0 ≡ Less) (same_Some x r is) all.0
before_entry g (x ∷ rs) (suc i) r all is = before_entry g rs i r all.1 is

pub reading-set : (get : Doc → Option Bytes) (rows : List Row) (i : ℕ) (r : Row) (now : Doc) → IsOrdered rows → slice_get rows i ≡ Some r
    → reading get (set_value rows i now) ≡ with_bytes r.0 (get now) (reading get rows)
reading-set get [] i r now ordered is = cc
reading-set get (x ∷ rs) zero r now ordered is =
    subst (λ y. with_front x.0 (get now) (reading get rs) ≡ with_bytes y.0 (get now) (reading get (x ∷ rs))) (same_Some x r is)
    (sym (with_bytes-first x.0 (get now) (get x.1) (reading get rs) (IsBeforeAll-reading get x.0 rs ordered.0)))
reading-set get (x ∷ rs) (suc i) r now ordered is =
    ap (with_front x.0 (get x.1)) (reading-set get rs i r now ordered.1 is)
    ∙ sym (with_bytes-later r.0 x.0 (get now) (get x.1) (reading get rs) (turned x.0 r.0 Less (before_entry x.0 rs i r ordered.0 is)))

pub reading-removed : (get : Doc → Option Bytes) (rows : List Row) (i : ℕ) (r : Row) → IsOrdered rows → slice_get rows i ≡ Some r
    → reading get (remove rows i) ≡ with_bytes r.0 None (reading get rows)
reading-removed get [] i r ordered is = cc
reading-removed get (x ∷ rs) zero r ordered is =
    subst (λ y. reading get rs ≡ with_bytes y.0 None (reading get (x ∷ rs))) (same_Some x r is)
    (sym (with_bytes-first x.0 None (get x.1) (reading get rs) (IsBeforeAll-reading get x.0 rs ordered.0)))
reading-removed get (x ∷ rs) (suc i) r ordered is =
    ap (with_front x.0 (get x.1)) (reading-removed get rs i r ordered.1 is)
    ∙ sym (with_bytes-later r.0 x.0 None (get x.1) (reading get rs) (turned x.0 r.0 Less (before_entry x.0 rs i r ordered.0 is)))

reading-put : (get : Doc → Option Bytes) (f : Path) (d : Doc) (rows : List Row) (i : ℕ) → IsAfterAll f (take i rows) → IsBeforeAll f (drop i rows)
    → reading get (insert rows i (f, d)) ≡ with_bytes f (get d) (reading get rows)
reading-put get f d rows zero after before = sym (with_bytes-first f (get d) None (reading get rows) (IsBeforeAll-reading get f rows before))
reading-put get f d [] (suc i) after before = sym (with_bytes-first f (get d) None [] tt)
reading-put get f d (x ∷ rs) (suc i) after before =
    ap (with_front x.0 (get x.1)) (reading-put get f d rs i after.1 before)
    ∙ sym (with_bytes-later f x.0 (get d) (get x.1) (reading get rs) after.0)

pub reading-inserted : (get : Doc → Option Bytes) (f : Path) (d : Doc) (rows : List Row) (i : ℕ) → IsPlaceOf f rows i
    → reading get (insert rows i (f, d)) ≡ with_bytes f (get d) (reading get rows)
reading-inserted get f d rows i place = reading-put get f d rows i place.after place.before

-- a reading that has nothing else then stays
pub kept-set : (get : Doc → Option Bytes) (rows : List Row) (i : ℕ) (r : Row) (now : Doc) → slice_get rows i ≡ Some r → get now ≡ get r.1
    → reading get (set_value rows i now) ≡ reading get rows
kept-set get [] i r now is same = cc
kept-set get (x ∷ rs) zero r now is same =
    ap (λ o. with_front x.0 o (reading get rs)) (same ∙ sym (ap (λ (y : Row). get y.1) (same_Some x r is)))
kept-set get (x ∷ rs) (suc i) r now is same = ap (with_front x.0 (get x.1)) (kept-set get rs i r now is same)

pub kept-inserted : (get : Doc → Option Bytes) (f : Path) (d : Doc) (rows : List Row) (i : ℕ) → get d ≡ None
    → reading get (insert rows i (f, d)) ≡ reading get rows
kept-inserted get f d rows zero none = ap (λ o. with_front f o (reading get rows)) none
kept-inserted get f d [] (suc i) none = ap (λ o. with_front f o []) none
kept-inserted get f d (x ∷ rs) (suc i) none = ap (with_front x.0 (get x.1)) (kept-inserted get f d rs i none)

pub kept-removed : (get : Doc → Option Bytes) (rows : List Row) (i : ℕ) (r : Row) → slice_get rows i ≡ Some r → get r.1 ≡ None
    → reading get (remove rows i) ≡ reading get rows
kept-removed get [] i r is none = cc
kept-removed get (x ∷ rs) zero r is none =
    sym (ap (λ o. with_front x.0 o (reading get rs)) (ap (λ (y : Row). get y.1) (same_Some x r is) ∙ none))
kept-removed get (x ∷ rs) (suc i) r is none = ap (with_front x.0 (get x.1)) (kept-removed get rs i r is none)

same_paths : (f : Path) (o : Option Bytes) (p q : Project) → paths_of p ≡ paths_of q → paths_of (with_front f o p) ≡ paths_of (with_front f o q)
same_paths f None p q same = same
same_paths f (Some b) p q same = ap (λ fs. f ∷ fs) same

-- the paths stay where something is read before and after
pub paths-set : (get : Doc → Option Bytes) (rows : List Row) (i : ℕ) (r : Row) (now : Doc) (a b : Bytes) → slice_get rows i ≡ Some r
    → get r.1 ≡ Some a → get now ≡ Some b → paths_of (reading get (set_value rows i now)) ≡ paths_of (reading get rows)
paths-set get [] i r now a b is before after = cc
paths-set get (x ∷ rs) zero r now a b is before after =
    ap (λ o. paths_of (with_front x.0 o (reading get rs))) after
    ∙ sym (ap (λ o. paths_of (with_front x.0 o (reading get rs))) (ap (λ (y : Row). get y.1) (same_Some x r is) ∙ before))
paths-set get (x ∷ rs) (suc i) r now a b is before after =
    same_paths x.0 (get x.1) (reading get (set_value rs i now)) (reading get rs) (paths-set get rs i r now a b is before after)

-- ---- what stands at a path
pub bytes_here : (get : Doc → Option Bytes) (rows : List Row) (i : ℕ) (r : Row) → IsOrdered rows → slice_get rows i ≡ Some r
    → bytes_at r.0 (reading get rows) ≡ get r.1
bytes_here get rows i r ordered is =
    ap (bytes_at r.0) (sym (kept-set get rows i r r.1 is refl) ∙ reading-set get rows i r r.1 ordered is)
    ∙ bytes_at-with_bytes r.0 r.0 (get r.1) (reading get rows)
    ∙ ap (λ b. if b then get r.1 else bytes_at r.0 (reading get rows)) (self_path r.0)

pub bytes_absent : (get : Doc → Option Bytes) (f : Path) (rows : List Row) (i : ℕ) → IsPlaceOf f rows i → get (closed_doc None) ≡ None
    → bytes_at f (reading get rows) ≡ None
bytes_absent get f rows i place none =
    ap (bytes_at f) (sym (kept-inserted get f (closed_doc None) rows i none) ∙ reading-inserted get f (closed_doc None) rows i place)
    ∙ bytes_at-with_bytes f f (get (closed_doc None)) (reading get rows)
    ∙ ap (λ b. if b then get (closed_doc None) else bytes_at f (reading get rows)) (self_path f) ∙ none

-- ---- the bytes of all rows
pub total-set : (rows : List Row) (i : ℕ) (r : Row) (now : Doc) → slice_get rows i ≡ Some r
    → total_bytes (project_of (set_value rows i now)) + size_of (present_of r.1) ≡ total_bytes (project_of rows) + size_of (present_of now)
total-set [] i r now is = cc
total-set (x ∷ rs) zero r now is =
    let same = ap (λ (y : Row). size_of (present_of y.1)) (same_Some x r is) in
    omega (arith, same, total_bytes-front x.0 (present_of x.1) (project_of rs), total_bytes-front x.0 (present_of now) (project_of rs))
total-set (x ∷ rs) (suc i) r now is =
    let rest = total-set rs i r now is in
    omega (arith, rest, total_bytes-front x.0 (present_of x.1) (project_of rs), total_bytes-front x.0 (present_of x.1) (project_of (set_value rs i now)))

pub total-removed : (rows : List Row) (i : ℕ) (r : Row) → slice_get rows i ≡ Some r
    → total_bytes (project_of (remove rows i)) + size_of (present_of r.1) ≡ total_bytes (project_of rows)
total-removed [] i r is = cc
total-removed (x ∷ rs) zero r is =
    let same = ap (λ (y : Row). size_of (present_of y.1)) (same_Some x r is) in
    omega (arith, same, total_bytes-front x.0 (present_of x.1) (project_of rs))
total-removed (x ∷ rs) (suc i) r is =
    let rest = total-removed rs i r is in
    omega (arith, rest, total_bytes-front x.0 (present_of x.1) (project_of rs), total_bytes-front x.0 (present_of x.1) (project_of (remove rs i)))

pub total-inserted : (f : Path) (d : Doc) (rows : List Row) (i : ℕ)
    → total_bytes (project_of (insert rows i (f, d))) ≡ total_bytes (project_of rows) + size_of (present_of d)
total-inserted f d rows zero = omega (arith, total_bytes-front f (present_of d) (project_of rows))
total-inserted f d [] (suc i) = omega (arith, total_bytes-front f (present_of d) [])
total-inserted f d (x ∷ rs) (suc i) =
    let rest = total-inserted f d rs i in
    omega (arith, rest, total_bytes-front x.0 (present_of x.1) (project_of rs), total_bytes-front x.0 (present_of x.1) (project_of (insert rs i (f, d))))

-- the bytes of the project with other bytes at the path
pub total-with : (rows : List Row) (i : ℕ) (r : Row) (o : Option Bytes) → IsOrdered rows → slice_get rows i ≡ Some r
    → total_bytes (with_bytes r.0 o (project_of rows)) + size_of (present_of r.1) ≡ total_bytes (project_of rows) + size_of o
total-with rows i r o ordered is =
    let reads = ap total_bytes (reading-set present_of rows i r (closed_doc o) ordered is) in
    omega (arith, reads, total-set rows i r (closed_doc o) is)

pub total-with_new : (f : Path) (rows : List Row) (i : ℕ) (o : Option Bytes) → IsPlaceOf f rows i
    → total_bytes (with_bytes f o (project_of rows)) ≡ total_bytes (project_of rows) + size_of o
total-with_new f rows i o place =
    sym (ap total_bytes (reading-inserted present_of f (closed_doc o) rows i place)) ∙ total-inserted f (closed_doc o) rows i

-- ---- the documents, where what is kept at one path changes
abbrev pub docs_with : Agreed → Project → Project → List Path → Documents
docs_with agreed project saved opened = record { agreed = agreed; project = project; saved = saved; opened = opened }

kept_by : (agreed : Agreed) (f : Path) (present saved text : Option Bytes) (rows new : List Row)
    → project_of new ≡ with_bytes f present (project_of rows)
    → reading (λ d. d.saved) new ≡ with_bytes f saved (reading (λ d. d.saved) rows)
    → reading (λ d. d.text) new ≡ with_bytes f text (reading (λ d. d.text) rows)
    → documents_of agreed new
    ≡ docs_with agreed (with_bytes f present (project_of rows)) (with_bytes f saved (reading (λ d. d.saved) rows)) (path_if f text (paths_of (reading (λ d. d.text) rows)))
kept_by agreed f present saved text rows new p s t =
    ap (λ x. docs_with agreed x (reading (λ d. d.saved) new) (paths_of (reading (λ d. d.text) new))) p
    ∙ ap (λ x. docs_with agreed (with_bytes f present (project_of rows)) x (paths_of (reading (λ d. d.text) new))) s
    ∙ ap (λ x. docs_with agreed (with_bytes f present (project_of rows)) (with_bytes f saved (reading (λ d. d.saved) rows)) x)
    (ap paths_of t ∙ paths_of-with_bytes f text (reading (λ d. d.text) rows))

pub kept-in_row : (agreed : Agreed) (f : Path) (rows : List Row) (i : ℕ) (was now : Doc) → IsOrdered rows → slice_get rows i ≡ Some (f, was)
    → documents_of agreed (set_value rows i now) ≡ with_kept f (Some now) (documents_of agreed rows)
kept-in_row agreed f rows i was now ordered is =
    kept_by agreed f (present_of now) now.saved now.text rows (set_value rows i now) (reading-set present_of rows i (f, was) now ordered is)
    (reading-set (λ d. d.saved) rows i (f, was) now ordered is) (reading-set (λ d. d.text) rows i (f, was) now ordered is)

pub kept-in_new : (agreed : Agreed) (f : Path) (rows : List Row) (i : ℕ) (now : Doc) → IsPlaceOf f rows i
    → documents_of agreed (insert rows i (f, now)) ≡ with_kept f (Some now) (documents_of agreed rows)
kept-in_new agreed f rows i now place =
    kept_by agreed f (present_of now) now.saved now.text rows (insert rows i (f, now)) (reading-inserted present_of f now rows i place)
    (reading-inserted (λ d. d.saved) f now rows i place) (reading-inserted (λ d. d.text) f now rows i place)

pub kept-in_none : (agreed : Agreed) (f : Path) (rows : List Row) (i : ℕ) (was : Doc) → IsOrdered rows → slice_get rows i ≡ Some (f, was)
    → documents_of agreed (remove rows i) ≡ with_kept f None (documents_of agreed rows)
kept-in_none agreed f rows i was ordered is =
    kept_by agreed f None None None rows (remove rows i) (reading-removed present_of rows i (f, was) ordered is)
    (reading-removed (λ d. d.saved) rows i (f, was) ordered is) (reading-removed (λ d. d.text) rows i (f, was) ordered is)

-- nothing is kept at a path without a row
without_absent : (get : Doc → Option Bytes) (f : Path) (rows : List Row) (i : ℕ) → IsPlaceOf f rows i → get (closed_doc None) ≡ None
    → with_bytes f None (reading get rows) ≡ reading get rows
without_absent get f rows i place none =
    ap (λ o. with_bytes f o (reading get rows)) (sym none) ∙ sym (reading-inserted get f (closed_doc None) rows i place) ∙ kept-inserted get f (closed_doc None) rows i none

pub kept-absent : (agreed : Agreed) (f : Path) (rows : List Row) (i : ℕ) → IsPlaceOf f rows i
    → documents_of agreed rows ≡ with_kept f None (documents_of agreed rows)
kept-absent agreed f rows i place =
    kept_by agreed f None None None rows rows (sym (without_absent present_of f rows i place refl))
    (sym (without_absent (λ d. d.saved) f rows i place refl)) (sym (without_absent (λ d. d.text) f rows i place refl))
