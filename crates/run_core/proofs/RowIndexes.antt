-- The first rows with a mark, and what loops over rows leave.
use Rattle.std.proofs.Common.{◌≡◌, ℕ, zero, suc, ◌<◌, ◌≤◌, Bool, true, false, cond, not, List, [], ◌∷◌, ◌++◌, length, take, drop, refl, sym, ap, ◌∙◌, subst, nat_eq, nat_lt, arith}
use Rattle.std.specs.Prelude.{Some, unwrap_or}
use Rattle.std.specs.List.{slice_get}
use Rattle.std.specs.Option.{option_map}
use Rattle.std.proofs.Math.Seq.{take-length, drop-length}
use Rattle.std.proofs.lemmas.Bool.Decides.{nat_tests}
use Rattle.srb_terms.specs.PathMaps.{set_value, IsAfterAll, IsBeforeAll, IsPlaceOf}
use Rattle.srb_terms.specs.Projects.{File, IsProject}
use Rattle.srb_terms.proofs.PathOrder.{entry_between}
use Rattle.lsp_docs.specs.Paths.{Path}
use Rattle.lsp_docs.specs.Projects.{Project}
use Rattle.lsp_docs.specs.Uris.{is_empty}
use Rattle.run_core.specs.declared.row.Row.{Row}
use Rattle.run_core.specs.declared.mark.Mark.{Mark}
use Rattle.run_core.specs.declared.mark.Mark.TheVariants.{Todo, Owed}
use Rattle.run_core.specs.Rows.{PathRow, has_mark, marked, first_marked, built_row, after_built, opening_rows}

some_same : {X : Type 0} {x y : X} → Some x ≡ Some y → x ≡ y
some_same {X} {x} same = ap (λ o. unwrap_or o x) same

-- ---- the first row with a mark

pub first_marked-within : (m : Mark) (rows : List PathRow) → first_marked m rows ≤ length rows
first_marked-within m [] = omega arith
first_marked-within m (r ∷ rs) = by (has_mark m r.1) (first_marked-within m rs)
  where
    by : (b : Bool) → first_marked m rs ≤ length rs → cond b 0 (suc (first_marked m rs)) ≤ length (r ∷ rs)
    by true rest = omega arith
    by false rest = omega (arith, rest)

-- a row with the mark, before which none has it, is the first
pub first_marked-here : (m : Mark) (rows : List PathRow) (i : ℕ) (row : PathRow) → i ≤ first_marked m rows → slice_get rows i ≡ Some row → has_mark m row.1 ≡ true → i ≡ first_marked m rows
first_marked-here m [] i row low is has = grind (arith, is)
first_marked-here m (r ∷ rs) zero row low is has = sym (ap (λ b. cond b 0 (suc (first_marked m rs))) (ap (λ (x : PathRow). has_mark m x.1) (some_same is) ∙ has))
first_marked-here m (r ∷ rs) (suc i) row low is has = by (has_mark m r.1) low (first_marked-here m rs i row)
  where
    by : (b : Bool) → suc i ≤ cond b 0 (suc (first_marked m rs))
        → (i ≤ first_marked m rs → slice_get rs i ≡ Some row → has_mark m row.1 ≡ true → i ≡ first_marked m rs) → suc i ≡ cond b 0 (suc (first_marked m rs))
    by true low ih = absurd (omega (arith, low))
    by false low ih = let e = ih (omega (arith, low)) is has in omega (arith, e)

-- a row without the mark, before which none has it, is before the first
pub first_marked-past : (m : Mark) (rows : List PathRow) (i : ℕ) (row : PathRow) → i ≤ first_marked m rows → slice_get rows i ≡ Some row → has_mark m row.1 ≡ false → suc i ≤ first_marked m rows
first_marked-past m [] i row low is has = grind (arith, is)
first_marked-past m (r ∷ rs) zero row low is has =
    let e = ap (λ b. cond b 0 (suc (first_marked m rs))) (ap (λ (x : PathRow). has_mark m x.1) (some_same is) ∙ has) in omega (arith, e)
first_marked-past m (r ∷ rs) (suc i) row low is has = by (has_mark m r.1) low (first_marked-past m rs i row)
  where
    by : (b : Bool) → suc i ≤ cond b 0 (suc (first_marked m rs))
        → (i ≤ first_marked m rs → slice_get rs i ≡ Some row → has_mark m row.1 ≡ false → suc i ≤ first_marked m rs) → suc (suc i) ≤ cond b 0 (suc (first_marked m rs))
    by true low ih = absurd (omega (arith, low))
    by false low ih = let e = ih (omega (arith, low)) is has in omega (arith, e)

-- a row that has it no more leaves none before the first
pub first_marked-set : (m : Mark) (rows : List PathRow) (i : ℕ) (new : Row) → has_mark m new ≡ false → first_marked m rows ≤ first_marked m (set_value rows i new)
first_marked-set m [] i new clear = omega arith
first_marked-set m (r ∷ rs) zero new clear = by (has_mark m r.1)
  where
    by : (has : Bool) → cond has 0 (suc (first_marked m rs)) ≤ first_marked m ((r.0, new) ∷ rs)
    by true = omega arith
    by false = let e = ap (λ b. cond b 0 (suc (first_marked m rs))) clear in omega (arith, e)
first_marked-set m (r ∷ rs) (suc i) new clear = by (has_mark m r.1) (first_marked-set m rs i new clear)
  where
    by : (has : Bool) → first_marked m rs ≤ first_marked m (set_value rs i new) → cond has 0 (suc (first_marked m rs)) ≤ cond has 0 (suc (first_marked m (set_value rs i new)))
    by true rest = omega arith
    by false rest = omega (arith, rest)

pub first_marked-some : (m : Mark) (rows : List PathRow) → nat_lt (first_marked m rows) (length rows) ≡ not (is_empty (marked m rows))
first_marked-some m [] = refl
first_marked-some m (r ∷ rs) = by (has_mark m r.1) (first_marked-some m rs)
  where
    by : (b : Bool) → nat_lt (first_marked m rs) (length rs) ≡ not (is_empty (marked m rs))
        → nat_lt (cond b 0 (suc (first_marked m rs))) (length (r ∷ rs)) ≡ not (is_empty (cond b (r.0 ∷ marked m rs) (marked m rs)))
    by true ih = grind (arith, nat_tests)
    by false ih = grind (arith, nat_tests, ih)

pub first_marked-all : (m : Mark) (rows : List PathRow) → nat_eq (first_marked m rows) (length rows) ≡ is_empty (marked m rows)
first_marked-all m [] = refl
first_marked-all m (r ∷ rs) = by (has_mark m r.1) (first_marked-all m rs)
  where
    by : (b : Bool) → nat_eq (first_marked m rs) (length rs) ≡ is_empty (marked m rs)
        → nat_eq (cond b 0 (suc (first_marked m rs))) (length (r ∷ rs)) ≡ is_empty (cond b (r.0 ∷ marked m rs) (marked m rs))
    by true ih = grind (arith, nat_tests)
    by false ih = grind (arith, nat_tests, ih)

-- ---- loops

pub built-length : (all : List PathRow) (i : ℕ) → length (after_built (take i all) ++ drop i all) ≡ length all
built-length all zero = refl
built-length [] (suc i) = refl
built-length (r ∷ rs) (suc i) = ap suc (built-length rs i)

-- a build, up to the index
built_step : (all now : List PathRow) (i : ℕ) (old new : Row) → now ≡ after_built (take i all) ++ drop i all → i < length all
    → option_map (λ (r : PathRow). r.1) (slice_get now i) ≡ Some old → new ≡ built_row old → set_value now i new ≡ after_built (take (suc i) all) ++ drop (suc i) all
built_step [] now i old new so_far within is written = absurd (omega (arith, within))
built_step (r ∷ rs) now zero old new so_far within is written =
    ap (λ es. set_value es 0 new) so_far
    ∙ ap (λ (w : Row). (r.0, w) ∷ rs) (written ∙ ap built_row (some_same (sym is ∙ ap (λ (es : List PathRow). option_map (λ (e : PathRow). e.1) (slice_get es 0)) so_far)))
built_step (r ∷ rs) now (suc i) old new so_far within is written =
    ap (λ es. set_value es (suc i) new) so_far
    ∙ ap (λ rest. (r.0, built_row r.1) ∷ rest) (built_step rs (after_built (take i rs) ++ drop i rs) i old new refl (omega (arith, within))
    (ap (λ (es : List PathRow). option_map (λ (e : PathRow). e.1) (slice_get es (suc i))) (sym so_far) ∙ is) written)

pub built_to : (all now : List PathRow) (i j : ℕ) (old new : Row) → j ≡ suc i → now ≡ after_built (take i all) ++ drop i all → i < length all
    → option_map (λ (r : PathRow). r.1) (slice_get now i) ≡ Some old → new ≡ built_row old → set_value now i new ≡ after_built (take j all) ++ drop j all
built_to all now i j old new next so_far within is written =
    built_step all now i old new so_far within is written ∙ ap (λ n. after_built (take n all) ++ drop n all) (sym next)

-- the row of the next file of a project belongs at the end
opening-after : (f : Path) (files : Project) → IsAfterAll f files → IsAfterAll f (opening_rows files)
opening-after f [] all = tt
opening-after f (file ∷ files) all = (all.0, opening-after f files all.1)

last_place : (f : Path) (rows : List PathRow) → IsAfterAll f rows → IsPlaceOf f rows (length rows)
last_place f rows all = record {
  within = omega arith;
  after = subst (IsAfterAll f) (sym (take-length rows)) all;
  before = subst (IsBeforeAll f) (sym (drop-length rows)) tt;
}

pub opening_place : (files : Project) (i : ℕ) (file : File) (rows : List PathRow) → IsProject files → slice_get files i ≡ Some file → rows ≡ opening_rows (take i files)
    → IsPlaceOf file.0 rows (length rows)
opening_place files i file rows order is so_far =
    last_place file.0 rows (subst (IsAfterAll file.0) (sym so_far) (opening-after file.0 (take i files) (entry_between files i file order is).after))

-- none of the rows of a project before any step is to be worked on or owed
pub opening-first : (p : Project) → (first_marked Todo (opening_rows p) ≡ length (opening_rows p)) × (first_marked Owed (opening_rows p) ≡ length (opening_rows p))
opening-first [] = (refl, refl)
opening-first (file ∷ files) = let rest = opening-first files in (ap suc rest.0, ap suc rest.1)
