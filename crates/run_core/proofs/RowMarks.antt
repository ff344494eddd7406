-- Rows in order, and what each step does to the sets and the map that they stand for.
use Rattle.std.proofs.Common.{◌≡◌, ℕ, Bool, true, false, cond, ◌||◌, List, [], ◌∷◌, insert, slice_set, refl, sym, ap, ◌∙◌, subst, arith}
use Rattle.std.specs.Prelude.{Option, Some, None, bytes_eq, unwrap_or}
use Rattle.std.specs.Cmp.Lexicographic.{texts_ties}
use Rattle.std.specs.List.{slice_get}
use Rattle.std.specs.Option.{option_map}
use Rattle.std.specs.Ordering.{is_eq, is_lt, match_ordering}
use Rattle.std.specs.declared.cmp.Ordering.{Ordering}
use Rattle.std.specs.declared.cmp.Ordering.TheVariants.{Less, Equal, Greater}
use Rattle.srb_terms.specs.PathMaps.{path_cmp, put_value, set_value, value_at, IsBeforeAll, IsOrdered, IsPlaceOf}
use Rattle.srb_terms.specs.declared.diag.Diag.{Diag}
use Rattle.srb_terms.proofs.PathOrder.{IsOrdered-put_value, put_value-here, put_value-there, same_path, self_cmp, set_value-is, turned, value_at-absent, value_at-here}
use Rattle.lsp_docs.specs.Paths.{Path, has, is_before, lookup, with_path, with_paths, without_path, put}
use Rattle.run_core.specs.declared.row.Row.{Row}
use Rattle.run_core.specs.declared.mark.Mark.{Mark}
use Rattle.run_core.specs.declared.mark.Mark.TheVariants.{Present, Todo, Owed, Edited}
use Rattle.run_core.specs.Rows.{PathRow, has_mark, marked, with_list, lists_shown, new_row, row_at, built_row, after_built}

-- ---- two paths

-- a path before another isn't that one, nor does that one stand before it
pub apart : (f g : Path) → path_cmp f g ≡ Less → bytes_eq f g ≡ false
apart f g e = texts_ties f g ∙ ap is_eq e

pub apart_after : (f g : Path) → path_cmp f g ≡ Greater → bytes_eq f g ≡ false
apart_after f g e = texts_ties f g ∙ ap is_eq e

pub not_back : (f g : Path) → path_cmp f g ≡ Less → is_before g f ≡ false
not_back f g e = ap is_lt (turned f g Less e)

pub one : (f g : Path) → path_cmp f g ≡ Equal → bytes_eq f g ≡ true
one f g e = texts_ties f g ∙ ap is_eq e

pub self : (f : Path) → bytes_eq f f ≡ true
self f = one f f (self_cmp f)

-- ---- sets

-- a path before all of a set
abbrev pub IsBeforePaths : Path → List Path → Type 0
IsBeforePaths f [] = Unit {0}
IsBeforePaths f (g ∷ gs) = (path_cmp f g ≡ Less) × IsBeforePaths f gs

pub with_path-low : (f g : Path) (gs : List Path) → path_cmp f g ≡ Less → with_path f (g ∷ gs) ≡ f ∷ g ∷ gs
with_path-low f g gs is =
    ap (λ b. cond b (g ∷ gs) (cond (is_before f g) (f ∷ g ∷ gs) (g ∷ with_path f gs))) (apart f g is)
    ∙ ap (λ b. cond b (f ∷ g ∷ gs) (g ∷ with_path f gs)) (ap is_lt is)

pub with_path-here : (f g : Path) (gs : List Path) → path_cmp f g ≡ Equal → with_path f (g ∷ gs) ≡ g ∷ gs
with_path-here f g gs is = ap (λ b. cond b (g ∷ gs) (cond (is_before f g) (f ∷ g ∷ gs) (g ∷ with_path f gs))) (one f g is)

pub with_path-past : (f g : Path) (gs : List Path) → path_cmp f g ≡ Greater → with_path f (g ∷ gs) ≡ g ∷ with_path f gs
with_path-past f g gs is =
    ap (λ b. cond b (g ∷ gs) (cond (is_before f g) (f ∷ g ∷ gs) (g ∷ with_path f gs))) (apart_after f g is)
    ∙ ap (λ b. cond b (f ∷ g ∷ gs) (g ∷ with_path f gs)) (ap is_lt is)

with_path-first : (f : Path) (gs : List Path) → IsBeforePaths f gs → with_path f gs ≡ f ∷ gs
with_path-first f [] all = refl
with_path-first f (g ∷ gs) all = with_path-low f g gs all.0

without_path-none : (f : Path) (gs : List Path) → IsBeforePaths f gs → without_path f gs ≡ gs
without_path-none f [] all = refl
without_path-none f (g ∷ gs) all =
    ap (λ b. cond b (without_path f gs) (g ∷ without_path f gs)) (apart f g all.0)
    ∙ ap (λ rest. g ∷ rest) (without_path-none f gs all.1)

with_paths-first : (fs : List Path) (g : Path) (gs : List Path) → IsBeforePaths g fs → with_paths fs (g ∷ gs) ≡ g ∷ with_paths fs gs
with_paths-first [] g gs all = refl
with_paths-first (f ∷ fs) g gs all =
    ap (with_path f) (with_paths-first fs g gs all.1) ∙ with_path-past f g (with_paths fs gs) (turned g f Less all.0)

pub not_after : (f : Path) (fs : List Path) → IsBeforePaths f fs → has f fs ≡ false
not_after f [] all = refl
not_after f (g ∷ gs) all = ap (λ b. b || has f gs) (apart f g all.0) ∙ not_after f gs all.1

pub marked-before : (m : Mark) (f : Path) (rows : List PathRow) → IsBeforeAll f rows → IsBeforePaths f (marked m rows)
marked-before m f [] all = tt
marked-before m f (r ∷ rs) all = by (has_mark m r.1) (marked-before m f rs all.1)
  where
    by : (b : Bool) → IsBeforePaths f (marked m rs) → IsBeforePaths f (cond b (r.0 ∷ marked m rs) (marked m rs))
    by true rest = (all.0, rest)
    by false rest = rest

-- the set with the path, or without it
abbrev pub put_path : Bool → Path → List Path → List Path
put_path true f gs = with_path f gs
put_path false f gs = without_path f gs

put_path-first : (b : Bool) (f : Path) (gs : List Path) → IsBeforePaths f gs → put_path b f gs ≡ cond b (f ∷ gs) gs
put_path-first true = with_path-first
put_path-first false = without_path-none

put_path-here : (b : Bool) (m : Mark) (r : PathRow) (rs : List PathRow) → IsBeforeAll r.0 rs → put_path b r.0 (marked m (r ∷ rs)) ≡ cond b (r.0 ∷ marked m rs) (marked m rs)
put_path-here b m r rs before = by b (has_mark m r.1)
  where
    by : (b c : Bool) → put_path b r.0 (cond c (r.0 ∷ marked m rs) (marked m rs)) ≡ cond b (r.0 ∷ marked m rs) (marked m rs)
    by b false = put_path-first b r.0 (marked m rs) (marked-before m r.0 rs before)
    by true true = with_path-here r.0 r.0 (marked m rs) (self_cmp r.0)
    by false true =
        ap (λ x. cond x (without_path r.0 (marked m rs)) (r.0 ∷ without_path r.0 (marked m rs))) (self r.0)
        ∙ without_path-none r.0 (marked m rs) (marked-before m r.0 rs before)

put_path-past : (b c : Bool) (f g : Path) (gs : List Path) → path_cmp f g ≡ Greater → cond c (g ∷ put_path b f gs) (put_path b f gs) ≡ put_path b f (cond c (g ∷ gs) gs)
put_path-past b false f g gs is = refl
put_path-past true true f g gs is = sym (with_path-past f g gs is)
put_path-past false true f g gs is = sym (ap (λ x. cond x (without_path f gs) (g ∷ without_path f gs)) (apart_after f g is))

-- ---- what is kept of a path

unmarked : (m : Mark) → has_mark m (new_row false) ≡ false
unmarked Present = refl
unmarked Todo = refl
unmarked Owed = refl
unmarked Edited = refl

-- a path before the first row is before all
all_before : (f : Path) (r : PathRow) (rs : List PathRow) → path_cmp f r.0 ≡ Less → IsOrdered (r ∷ rs) → IsBeforeAll f (r ∷ rs)
all_before f r rs is order =
    (subst (λ o. IsOrdered (match_ordering o ((f, r.1) ∷ r ∷ rs) ((f, r.1) ∷ rs) (r ∷ put_value f r.1 rs))) is (IsOrdered-put_value f r.1 (r ∷ rs) order)).0

row_at-absent : (f : Path) (rows : List PathRow) (i : ℕ) → IsPlaceOf f rows i → row_at f rows ≡ new_row false
row_at-absent f rows i place = ap (λ o. unwrap_or o (new_row false)) (value_at-absent f rows i place)

row_at-low : (f : Path) (r : PathRow) (rs : List PathRow) → path_cmp f r.0 ≡ Less → IsOrdered (r ∷ rs) → row_at f (r ∷ rs) ≡ new_row false
row_at-low f r rs is order = row_at-absent f (r ∷ rs) 0 (record { within = omega arith; after = tt; before = all_before f r rs is order })

row_at-one : (f : Path) (r : PathRow) (rs : List PathRow) → path_cmp f r.0 ≡ Equal → row_at f (r ∷ rs) ≡ r.1
row_at-one f r rs is = ap (λ b. unwrap_or (cond b (Some r.1) (value_at f rs)) (new_row false)) (one f r.0 is)

row_at-past : (f : Path) (r : PathRow) (rs : List PathRow) → path_cmp f r.0 ≡ Greater → row_at f (r ∷ rs) ≡ row_at f rs
row_at-past f r rs is = ap (λ b. unwrap_or (cond b (Some r.1) (value_at f rs)) (new_row false)) (apart_after f r.0 is)

pub row_at-here : (rows : List PathRow) (i : ℕ) (row : PathRow) → IsOrdered rows → slice_get rows i ≡ Some row → row_at row.0 rows ≡ row.1
row_at-here rows i row order is = ap (λ o. unwrap_or o (new_row false)) (value_at-here row.0 rows i row.1 order is)

-- it tells whether the path is in a set
pub has-marked : (m : Mark) (f : Path) (rows : List PathRow) → IsOrdered rows → has f (marked m rows) ≡ has_mark m (row_at f rows)
has-marked m f [] order = sym (unmarked m)
has-marked m f (r ∷ rs) order = by (path_cmp f r.0) refl (has-marked m f rs order.1)
  where
    here : (b : Bool) → has r.0 (cond b (r.0 ∷ marked m rs) (marked m rs)) ≡ b
    here true = ap (λ x. x || has r.0 (marked m rs)) (self r.0)
    here false = not_after r.0 (marked m rs) (marked-before m r.0 rs order.0)

    past : (b : Bool) → path_cmp f r.0 ≡ Greater → has f (cond b (r.0 ∷ marked m rs) (marked m rs)) ≡ has f (marked m rs)
    past true is = ap (λ x. x || has f (marked m rs)) (apart_after f r.0 is)
    past false is = refl

    by : (o : Ordering) → path_cmp f r.0 ≡ o → has f (marked m rs) ≡ has_mark m (row_at f rs) → has f (marked m (r ∷ rs)) ≡ has_mark m (row_at f (r ∷ rs))
    by Less is ih =
        not_after f (marked m (r ∷ rs)) (marked-before m f (r ∷ rs) (all_before f r rs is order))
        ∙ sym (ap (has_mark m) (row_at-low f r rs is order) ∙ unmarked m)
    by Equal is ih =
        ap (λ g. has g (marked m (r ∷ rs))) (same_path f r.0 is) ∙ here (has_mark m r.1) ∙ sym (ap (has_mark m) (row_at-one f r rs is))
    by Greater is ih = past (has_mark m r.1) is ∙ ih ∙ sym (ap (has_mark m) (row_at-past f r rs is))

pub absent-marked : (m : Mark) (f : Path) (rows : List PathRow) (i : ℕ) → IsOrdered rows → IsPlaceOf f rows i → has f (marked m rows) ≡ false
absent-marked m f rows i order place = has-marked m f rows order ∙ ap (has_mark m) (row_at-absent f rows i place) ∙ unmarked m

-- and which list was written last
no_list : (f : Path) (rows : List PathRow) → IsBeforeAll f rows → lookup f (lists_shown rows) ≡ None
no_list f [] all = refl
no_list f (r ∷ rs) all = by r.1.shown (no_list f rs all.1)
  where
    by : (shown : Option (List Diag)) → lookup f (lists_shown rs) ≡ None → lookup f (with_list r.0 shown (lists_shown rs)) ≡ None
    by None ih = ih
    by (Some list) ih = ap (λ b. cond b (Some list) (lookup f (lists_shown rs))) (apart f r.0 all.0) ∙ ih

pub lookup-shown : (f : Path) (rows : List PathRow) → IsOrdered rows → lookup f (lists_shown rows) ≡ (row_at f rows).shown
lookup-shown f [] order = refl
lookup-shown f (r ∷ rs) order = by (path_cmp f r.0) refl (lookup-shown f rs order.1)
  where
    here : (shown : Option (List Diag)) → lookup r.0 (with_list r.0 shown (lists_shown rs)) ≡ shown
    here None = no_list r.0 rs order.0
    here (Some list) = ap (λ b. cond b (Some list) (lookup r.0 (lists_shown rs))) (self r.0)

    past : (shown : Option (List Diag)) → path_cmp f r.0 ≡ Greater → lookup f (with_list r.0 shown (lists_shown rs)) ≡ lookup f (lists_shown rs)
    past None is = refl
    past (Some list) is = ap (λ b. cond b (Some list) (lookup f (lists_shown rs))) (apart_after f r.0 is)

    by : (o : Ordering) → path_cmp f r.0 ≡ o → lookup f (lists_shown rs) ≡ (row_at f rs).shown → lookup f (lists_shown (r ∷ rs)) ≡ (row_at f (r ∷ rs)).shown
    by Less is ih = no_list f (r ∷ rs) (all_before f r rs is order) ∙ sym (ap (λ (x : Row). x.shown) (row_at-low f r rs is order))
    by Equal is ih =
        ap (λ g. lookup g (lists_shown (r ∷ rs))) (same_path f r.0 is) ∙ here r.1.shown ∙ sym (ap (λ (x : Row). x.shown) (row_at-one f r rs is))
    by Greater is ih = past r.1.shown is ∙ ih ∙ sym (ap (λ (x : Row). x.shown) (row_at-past f r rs is))

-- ---- what is put at a path

pub marked-put : (m : Mark) (f : Path) (v : Row) (rows : List PathRow) → IsOrdered rows → marked m (put_value f v rows) ≡ put_path (has_mark m v) f (marked m rows)
marked-put m f v [] order = sym (put_path-first (has_mark m v) f [] tt)
marked-put m f v (r ∷ rs) order = by (path_cmp f r.0) refl (marked-put m f v rs order.1)
  where
    by : (o : Ordering) → path_cmp f r.0 ≡ o → marked m (put_value f v rs) ≡ put_path (has_mark m v) f (marked m rs)
        → marked m (match_ordering o ((f, v) ∷ r ∷ rs) ((f, v) ∷ rs) (r ∷ put_value f v rs)) ≡ put_path (has_mark m v) f (marked m (r ∷ rs))
    by Less is ih = sym (put_path-first (has_mark m v) f (marked m (r ∷ rs)) (marked-before m f (r ∷ rs) (all_before f r rs is order)))
    by Equal is ih =
        ap (λ g. cond (has_mark m v) (g ∷ marked m rs) (marked m rs)) (same_path f r.0 is)
        ∙ sym (put_path-here (has_mark m v) m r rs order.0)
        ∙ ap (λ g. put_path (has_mark m v) g (marked m (r ∷ rs))) (sym (same_path f r.0 is))
    by Greater is ih =
        ap (λ (t : List Path). cond (has_mark m r.1) (r.0 ∷ t) t) ih ∙ put_path-past (has_mark m v) (has_mark m r.1) f r.0 (marked m rs) is

-- a mark that stays
pub marked-put-same : (m : Mark) (f : Path) (v : Row) (rows : List PathRow) → IsOrdered rows → has_mark m v ≡ has_mark m (row_at f rows)
    → marked m (put_value f v rows) ≡ marked m rows
marked-put-same m f v [] order same = ap (λ b. cond b (f ∷ []) []) (same ∙ unmarked m)
marked-put-same m f v (r ∷ rs) order same = by (path_cmp f r.0) refl (marked-put-same m f v rs order.1)
  where
    by : (o : Ordering) → path_cmp f r.0 ≡ o → (has_mark m v ≡ has_mark m (row_at f rs) → marked m (put_value f v rs) ≡ marked m rs)
        → marked m (match_ordering o ((f, v) ∷ r ∷ rs) ((f, v) ∷ rs) (r ∷ put_value f v rs)) ≡ marked m (r ∷ rs)
    by Less is ih = ap (λ b. cond b (f ∷ marked m (r ∷ rs)) (marked m (r ∷ rs))) (same ∙ ap (has_mark m) (row_at-low f r rs is order) ∙ unmarked m)
    by Equal is ih = λ i. cond ((same ∙ ap (has_mark m) (row_at-one f r rs is)) i) (same_path f r.0 is i ∷ marked m rs) (marked m rs)
    by Greater is ih = ap (λ (t : List Path). cond (has_mark m r.1) (r.0 ∷ t) t) (ih (same ∙ ap (has_mark m) (row_at-past f r rs is)))

-- lists that stay
pub lists-put-same : (f : Path) (v : Row) (rows : List PathRow) → IsOrdered rows → v.shown ≡ (row_at f rows).shown → lists_shown (put_value f v rows) ≡ lists_shown rows
lists-put-same f v [] order same = ap (λ shown. with_list f shown []) same
lists-put-same f v (r ∷ rs) order same = by (path_cmp f r.0) refl (lists-put-same f v rs order.1)
  where
    by : (o : Ordering) → path_cmp f r.0 ≡ o → (v.shown ≡ (row_at f rs).shown → lists_shown (put_value f v rs) ≡ lists_shown rs)
        → lists_shown (match_ordering o ((f, v) ∷ r ∷ rs) ((f, v) ∷ rs) (r ∷ put_value f v rs)) ≡ lists_shown (r ∷ rs)
    by Less is ih = ap (λ shown. with_list f shown (lists_shown (r ∷ rs))) (same ∙ ap (λ (x : Row). x.shown) (row_at-low f r rs is order))
    by Equal is ih = λ i. with_list (same_path f r.0 is i) ((same ∙ ap (λ (x : Row). x.shown) (row_at-one f r rs is)) i) (lists_shown rs)
    by Greater is ih = ap (with_list r.0 r.1.shown) (ih (same ∙ ap (λ (x : Row). x.shown) (row_at-past f r rs is)))

put-low : (f g : Path) (list old : List Diag) (lists : List (Path × List Diag)) → path_cmp f g ≡ Less → put f list ((g, old) ∷ lists) ≡ (f, list) ∷ (g, old) ∷ lists
put-low f g list old lists is =
    ap (λ b. cond b ((f, list) ∷ lists) (cond (is_before f g) ((f, list) ∷ (g, old) ∷ lists) ((g, old) ∷ put f list lists))) (apart f g is)
    ∙ ap (λ b. cond b ((f, list) ∷ (g, old) ∷ lists) ((g, old) ∷ put f list lists)) (ap is_lt is)

put-first : (f : Path) (list : List Diag) (rows : List PathRow) → IsBeforeAll f rows → put f list (lists_shown rows) ≡ (f, list) ∷ lists_shown rows
put-first f list [] all = refl
put-first f list (r ∷ rs) all = by r.1.shown (put-first f list rs all.1)
  where
    by : (shown : Option (List Diag)) → put f list (lists_shown rs) ≡ (f, list) ∷ lists_shown rs
        → put f list (with_list r.0 shown (lists_shown rs)) ≡ (f, list) ∷ with_list r.0 shown (lists_shown rs)
    by None ih = ih
    by (Some old) ih = put-low f r.0 list old (lists_shown rs) all.0

-- a list that takes the place of the one before
pub lists-put : (f : Path) (list : List Diag) (v : Row) (rows : List PathRow) → IsOrdered rows → v.shown ≡ Some list → lists_shown (put_value f v rows) ≡ put f list (lists_shown rows)
lists-put f list v [] order has = ap (λ shown. with_list f shown []) has
lists-put f list v (r ∷ rs) order has = by (path_cmp f r.0) refl (lists-put f list v rs order.1 has)
  where
    here : (shown : Option (List Diag)) → (r.0, list) ∷ lists_shown rs ≡ put r.0 list (with_list r.0 shown (lists_shown rs))
    here None = sym (put-first r.0 list rs order.0)
    here (Some old) =
        sym (ap (λ b. cond b ((r.0, list) ∷ lists_shown rs) (cond (is_before r.0 r.0) ((r.0, list) ∷ (r.0, old) ∷ lists_shown rs) ((r.0, old) ∷ put r.0 list (lists_shown rs)))) (self r.0))

    past : (shown : Option (List Diag)) → path_cmp f r.0 ≡ Greater → with_list r.0 shown (put f list (lists_shown rs)) ≡ put f list (with_list r.0 shown (lists_shown rs))
    past None is = refl
    past (Some old) is = sym (
        ap (λ b. cond b ((f, list) ∷ lists_shown rs) (cond (is_before f r.0) ((f, list) ∷ (r.0, old) ∷ lists_shown rs) ((r.0, old) ∷ put f list (lists_shown rs)))) (apart_after f r.0 is)
        ∙ ap (λ b. cond b ((f, list) ∷ (r.0, old) ∷ lists_shown rs) ((r.0, old) ∷ put f list (lists_shown rs))) (ap is_lt is))

    by : (o : Ordering) → path_cmp f r.0 ≡ o → lists_shown (put_value f v rs) ≡ put f list (lists_shown rs)
        → lists_shown (match_ordering o ((f, v) ∷ r ∷ rs) ((f, v) ∷ rs) (r ∷ put_value f v rs)) ≡ put f list (lists_shown (r ∷ rs))
    by Less is ih = ap (λ shown. with_list f shown (lists_shown (r ∷ rs))) has ∙ sym (put-first f list (r ∷ rs) (all_before f r rs is order))
    by Equal is ih =
        (λ i. with_list (same_path f r.0 is i) (has i) (lists_shown rs)) ∙ here r.1.shown ∙ ap (λ g. put g list (lists_shown (r ∷ rs))) (sym (same_path f r.0 is))
    by Greater is ih = ap (with_list r.0 r.1.shown) ih ∙ past r.1.shown is

-- ---- a build

built-before : (f : Path) (rows : List PathRow) → IsBeforeAll f rows → IsBeforeAll f (after_built rows)
built-before f [] all = tt
built-before f (r ∷ rs) all = (all.0, built-before f rs all.1)

-- all files of the project and all owed ones are to be worked on
pub marked-built : (rows : List PathRow) → IsOrdered rows → marked Todo (after_built rows) ≡ with_paths (marked Present rows) (marked Owed rows)
marked-built [] order = refl
marked-built (r ∷ rs) order = by r.1.present r.1.owed (marked-built rs order.1)
  where
    both : List Path
    both = with_paths (marked Present rs) (marked Owed rs)

    first : with_paths (marked Present rs) (r.0 ∷ marked Owed rs) ≡ r.0 ∷ both
    first = with_paths-first (marked Present rs) r.0 (marked Owed rs) (marked-before Present r.0 rs order.0)

    by : (p o : Bool) → marked Todo (after_built rs) ≡ both
        → cond (p || o) (r.0 ∷ marked Todo (after_built rs)) (marked Todo (after_built rs))
        ≡ with_paths (cond p (r.0 ∷ marked Present rs) (marked Present rs)) (cond o (r.0 ∷ marked Owed rs) (marked Owed rs))
    by true true ih = ap (λ t. r.0 ∷ t) ih ∙ sym (ap (with_path r.0) first ∙ with_path-here r.0 r.0 both (self_cmp r.0))
    by true false ih =
        sym (with_path-first r.0 (marked Todo (after_built rs)) (marked-before Todo r.0 (after_built rs) (built-before r.0 rs order.0)))
        ∙ ap (with_path r.0) ih
    by false true ih = ap (λ t. r.0 ∷ t) ih ∙ sym first
    by false false ih = ih

-- a mark that a build leaves
pub marked-built-same : (m : Mark) (rows : List PathRow) → ((r : Row) → has_mark m (built_row r) ≡ has_mark m r) → marked m (after_built rows) ≡ marked m rows
marked-built-same m [] same = refl
marked-built-same m (r ∷ rs) same =
    ap (λ b. cond b (r.0 ∷ marked m (after_built rs)) (marked m (after_built rs))) (same r.1)
    ∙ ap (λ (t : List Path). cond (has_mark m r.1) (r.0 ∷ t) t) (marked-built-same m rs same)

pub edited-built : (rows : List PathRow) → marked Edited (after_built rows) ≡ []
edited-built [] = refl
edited-built (r ∷ rs) = edited-built rs

pub lists-built : (rows : List PathRow) → lists_shown (after_built rows) ≡ lists_shown rows
lists-built [] = refl
lists-built (r ∷ rs) = ap (with_list r.0 r.1.shown) (lists-built rs)

-- ---- what is changed in its place, or added

-- what was written at the index of a row
pub changed_at : (rows : List PathRow) (i : ℕ) (row : PathRow) (old new : Row) (change : Row → Row) → IsOrdered rows → slice_get rows i ≡ Some row
    → option_map (λ (r : PathRow). r.1) (slice_get rows i) ≡ Some old → new ≡ change old → set_value rows i new ≡ put_value row.0 (change (row_at row.0 rows)) rows
changed_at rows i row old new change order is read written =
    let was : old ≡ row.1 = ap (λ o. unwrap_or o old) (sym read ∙ ap (option_map (λ (r : PathRow). r.1)) is) in
    set_value-is rows i row new is
    ∙ ap (λ (r : Row). slice_set rows i (row.0, r)) (written ∙ ap change (was ∙ sym (row_at-here rows i row order is)))
    ∙ sym (put_value-here row.0 row.1 (change (row_at row.0 rows)) rows i order is)

-- a row that was added where it belongs
pub added_at : (rows : List PathRow) (i : ℕ) (f : Path) (new : Row) (change : Row → Row) → IsPlaceOf f rows i → new ≡ change (new_row false)
    → insert rows i (f, new) ≡ put_value f (change (row_at f rows)) rows
added_at rows i f new change place written =
    sym (put_value-there f new rows i place) ∙ ap (λ (r : Row). put_value f r rows) (written ∙ ap change (sym (row_at-absent f rows i place)))
