-- The first rows with a mark, as the first paths of their sets, and the file to be worked on next.
use Rattle.std.proofs.Common.{◌≡◌, ℕ, suc, Bool, true, false, cond, not, ◌&&◌, ◌||◌, List, [], ◌∷◌, length, refl, sym, ap, ◌∙◌, nat_lt, arith}
use Rattle.std.specs.Prelude.{Option, Some, None, bytes_eq, is_some, unwrap_or}
use Rattle.std.specs.List.{slice_get}
use Rattle.std.specs.Option.{option_map}
use Rattle.std.specs.Ordering.{is_lt}
use Rattle.std.specs.declared.cmp.Ordering.TheVariants.{Less}
use Rattle.std.proofs.lemmas.Bool.Decides.{nat_tests}
use Rattle.srb_terms.specs.PathMaps.{path_cmp, IsOrdered}
use Rattle.srb_terms.proofs.PathOrder.{self_cmp}
use Rattle.lsp_docs.specs.Paths.{Path, has, is_before, lookup}
use Rattle.lsp_docs.specs.Uris.{is_empty}
use Rattle.lsp_docs.proofs.PathLemmas.{same_path, self_path}
use Rattle.run_core.specs.declared.row.Row.{Row}
use Rattle.run_core.specs.declared.mark.Mark.{Mark}
use Rattle.run_core.specs.declared.mark.Mark.TheVariants.{Todo, Owed}
use Rattle.run_core.specs.Rows.{PathRow, has_mark, marked, lists_shown, first_marked, next_index, OwedAreAsked}
use Rattle.run_core.specs.Machine.{State, looked}
use Rattle.run_core.specs.Cores.{IsNextOwn}
use Rattle.run_core.proofs.RowIndexes.{first_marked-some}
use Rattle.run_core.proofs.RowMarks.{has-marked, lookup-shown, marked-before, not_back, row_at-here, IsBeforePaths}

some_same : {X : Type 0} {x y : X} → Some x ≡ Some y → x ≡ y
some_same {X} {x} same = ap (λ o. unwrap_or o x) same

or_more : (a b c : Bool) → (a || b) ≡ true → (b ≡ true → c ≡ true) → (a || c) ≡ true
or_more true b c e more = refl
or_more false b c e more = more e

or_right : (a b : Bool) → b ≡ true → (a || b) ≡ true
or_right true b e = refl
or_right false b e = e

or_false : (a : Bool) → (a || false) ≡ a
or_false true = refl
or_false false = refl

-- ---- sets in order

abbrev pub first : List Path → Option Path
first [] = None
first (f ∷ fs) = Some f

abbrev pub AreSorted : List Path → Type 0
AreSorted [] = Unit {0}
AreSorted (f ∷ fs) = IsBeforePaths f fs × AreSorted fs

pub marked-sorted : (m : Mark) (rows : List PathRow) → IsOrdered rows → AreSorted (marked m rows)
marked-sorted m [] order = tt
marked-sorted m (r ∷ rs) order = by (has_mark m r.1) (marked-sorted m rs order.1)
  where
    by : (b : Bool) → AreSorted (marked m rs) → AreSorted (cond b (r.0 ∷ marked m rs) (marked m rs))
    by true rest = (marked-before m r.0 rs order.0, rest)
    by false rest = rest

before_each : (f g : Path) (fs : List Path) → IsBeforePaths f fs → has g fs ≡ true → path_cmp f g ≡ Less
before_each f g [] all in_it = absurd (grind (arith, in_it))
before_each f g (h ∷ hs) all in_it = by (bytes_eq g h) refl in_it (before_each f g hs all.1)
  where
    by : (b : Bool) → bytes_eq g h ≡ b → (b || has g hs) ≡ true → (has g hs ≡ true → path_cmp f g ≡ Less) → path_cmp f g ≡ Less
    by true e in_it ih = ap (path_cmp f) (same_path g h e) ∙ all.0
    by false e in_it ih = ih in_it

-- no path of the set stands before the first
first_least : (f g : Path) (fs : List Path) → AreSorted (f ∷ fs) → has g (f ∷ fs) ≡ true → is_before g f ≡ false
first_least f g fs sorted in_it = by (bytes_eq g f) refl in_it
  where
    by : (b : Bool) → bytes_eq g f ≡ b → (b || has g fs) ≡ true → is_before g f ≡ false
    by true e in_it = ap (is_before g) (sym (same_path g f e)) ∙ ap is_lt (self_cmp g)
    by false e in_it = not_back f g (before_each f g fs sorted.0 in_it)

has_first : (f : Path) (fs : List Path) → has f (f ∷ fs) ≡ true
has_first f fs = ap (λ b. b || has f fs) (self_path f)

-- ---- rows and sets

pub first_marked-path : (m : Mark) (rows : List PathRow) → option_map (λ (r : PathRow). r.0) (slice_get rows (first_marked m rows)) ≡ first (marked m rows)
first_marked-path m [] = refl
first_marked-path m (r ∷ rs) = by (has_mark m r.1) (first_marked-path m rs)
  where
    by : (b : Bool) → option_map (λ (r : PathRow). r.0) (slice_get rs (first_marked m rs)) ≡ first (marked m rs)
        → option_map (λ (r : PathRow). r.0) (slice_get (r ∷ rs) (cond b 0 (suc (first_marked m rs)))) ≡ first (cond b (r.0 ∷ marked m rs) (marked m rs))
    by true ih = refl
    by false ih = ih

pub owed_asked : (f : Path) (rows : List PathRow) → OwedAreAsked rows → has f (marked Owed rows) ≡ true → has f (marked Todo rows) ≡ true
owed_asked f [] asked in_it = in_it
owed_asked f (r ∷ rs) asked in_it = by r.1.owed r.1.todo asked.0 in_it (owed_asked f rs asked.1)
  where
    by : (o t : Bool) → (o ≡ true → t ≡ true) → has f (cond o (r.0 ∷ marked Owed rs) (marked Owed rs)) ≡ true
        → (has f (marked Owed rs) ≡ true → has f (marked Todo rs) ≡ true) → has f (cond t (r.0 ∷ marked Todo rs) (marked Todo rs)) ≡ true
    by true true also in_it ih = or_more (bytes_eq f r.0) (has f (marked Owed rs)) (has f (marked Todo rs)) in_it ih
    by true false also in_it ih = absurd (grind (arith, also refl))
    by false true also in_it ih = or_right (bytes_eq f r.0) (has f (marked Todo rs)) (ih in_it)
    by false false also in_it ih = ih in_it

-- the row of a path tells whether it is in a set, and its list
pub has-at : (m : Mark) (rows : List PathRow) (i : ℕ) (row : PathRow) → IsOrdered rows → slice_get rows i ≡ Some row → has row.0 (marked m rows) ≡ has_mark m row.1
has-at m rows i row order is = has-marked m row.0 rows order ∙ ap (has_mark m) (row_at-here rows i row order is)

pub lookup-at : (rows : List PathRow) (i : ℕ) (row : PathRow) → IsOrdered rows → slice_get rows i ≡ Some row → lookup row.0 (lists_shown rows) ≡ row.1.shown
lookup-at rows i row order is = lookup-shown row.0 rows order ∙ ap (λ (r : Row). r.shown) (row_at-here rows i row order is)

-- ---- the file that is next

-- the first owed path, or else the first to be worked on
abbrev pub next_path : List Path → List Path → Option Path
next_path [] todo = first todo
next_path (f ∷ fs) todo = Some f

pub next_index-path : (rows : List PathRow) → option_map (λ (r : PathRow). r.0) (slice_get rows (next_index rows)) ≡ next_path (marked Owed rows) (marked Todo rows)
next_index-path rows = by (marked Owed rows) refl (nat_lt (first_marked Owed rows) (length rows)) (first_marked-some Owed rows)
  where
    by : (owed : List Path) → marked Owed rows ≡ owed → (b : Bool) → b ≡ not (is_empty (marked Owed rows))
        → option_map (λ (r : PathRow). r.0) (slice_get rows (cond b (first_marked Owed rows) (first_marked Todo rows))) ≡ next_path owed (marked Todo rows)
    by [] is true e = absurd (grind (arith, e ∙ ap (λ fs. not (is_empty fs)) is))
    by [] is false e = first_marked-path Todo rows
    by (f ∷ fs) is true e = first_marked-path Owed rows ∙ ap first is
    by (f ∷ fs) is false e = absurd (grind (arith, e ∙ ap (λ fs. not (is_empty fs)) is))

pub may_parts : (a b c : Bool) → (a && b && c) ≡ true → (b ≡ true) × (c ≡ true)
may_parts true true true e = (refl, refl)
may_parts true true false e = absurd (grind (arith, e))
may_parts true false c e = absurd (grind (arith, e))
may_parts false b c e = absurd (grind (arith, e))

may_not : (a b c : Bool) → b ≡ false → (a && b && c) ≡ false
may_not true b c e = ap (λ x. x && c) e
may_not false b c e = refl

may : (a b c : Bool) → a ≡ true → b ≡ true → c ≡ true → (a && b && c) ≡ true
may a b c e d f = grind (arith, nat_tests, e, d, f)

pub next_path-is : (s : State) → (looked s && not s.stale) ≡ true → AreSorted s.todo → AreSorted s.owed → ((f : Path) → has f s.owed ≡ true → has f s.todo ≡ true)
    → IsNextOwn s (next_path s.owed s.todo)
next_path-is s is_ready todo_sorted owed_sorted asked = by s.owed s.todo refl refl todo_sorted owed_sorted
  where
    by : (owed todo : List Path) → s.owed ≡ owed → s.todo ≡ todo → AreSorted todo → AreSorted owed → IsNextOwn s (next_path owed todo)
    by [] [] is_owed is_todo ts os = λ f. may_not (looked s && not s.stale) (has f s.todo) (has f s.owed || is_empty s.owed) (ap (has f) is_todo)
    by [] (t ∷ ts) is_owed is_todo todos owes = record {
      permitted = may (looked s && not s.stale) (has t s.todo) (has t s.owed || is_empty s.owed) is_ready
          (ap (has t) is_todo ∙ has_first t ts) (ap (λ fs. has t fs || is_empty fs) is_owed);
      least = λ g permitted. first_least t g ts todos (ap (has g) (sym is_todo)
          ∙ (may_parts (looked s && not s.stale) (has g s.todo) (has g s.owed || is_empty s.owed) permitted).0);
    }
    by (f ∷ fs) todo is_owed is_todo todos owes = record {
      permitted = may (looked s && not s.stale) (has f s.todo) (has f s.owed || is_empty s.owed) is_ready
          (asked f (ap (has f) is_owed ∙ has_first f fs)) (ap (λ x. x || is_empty s.owed) (ap (has f) is_owed ∙ has_first f fs));
      least = λ g permitted. first_least f g fs owes (sym (or_false (has g (f ∷ fs)))
          ∙ ap (λ gs. has g gs || is_empty gs) (sym is_owed)
          ∙ (may_parts (looked s && not s.stale) (has g s.todo) (has g s.owed || is_empty s.owed) permitted).1);
    }

-- where it isn't ready none may be worked on
pub none_next : (s : State) → (looked s && not s.stale) ≡ false → IsNextOwn s None
none_next s off = λ f. ap (λ x. x && has f s.todo && (has f s.owed || is_empty s.owed)) off

-- there is one where any may be worked on
pub next_path-some : (owed todo : List Path) → ((f : Path) → has f owed ≡ true → has f todo ≡ true) → is_some (next_path owed todo) ≡ not (is_empty todo)
next_path-some [] [] asked = refl
next_path-some [] (t ∷ ts) asked = refl
next_path-some (f ∷ fs) [] asked = absurd (grind (arith, asked f (has_first f fs)))
next_path-some (f ∷ fs) (t ∷ ts) asked = refl

-- the next row is owed exactly where some file is
pub owed_next : (rows : List PathRow) (row : PathRow) → IsOrdered rows → slice_get rows (next_index rows) ≡ Some row → is_empty (marked Owed rows) ≡ not row.1.owed
owed_next rows row order is = by (marked Owed rows) refl (sym (ap (option_map (λ (r : PathRow). r.0)) is) ∙ next_index-path rows)
  where
    by : (owed : List Path) → marked Owed rows ≡ owed → Some row.0 ≡ next_path (marked Owed rows) (marked Todo rows) → is_empty (marked Owed rows) ≡ not row.1.owed
    by [] none path = ap is_empty none ∙ ap not (ap (has row.0) (sym none) ∙ has-at Owed rows (next_index rows) row order is)
    by (f ∷ fs) some path =
        let first_is = some_same (path ∙ ap (λ owed. next_path owed (marked Todo rows)) some) in
        ap is_empty some ∙ ap not (sym (ap (λ g. has g (f ∷ fs)) first_is ∙ has_first f fs) ∙ ap (has row.0) (sym some) ∙ has-at Owed rows (next_index rows) row order is)
