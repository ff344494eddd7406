-- The rows of a core, one for each path that it knows, and the sets and the map that they stand for.
use Rattle.std.specs.Prelude.{◌≡◌, ℕ, suc, nat_lt, length, Bool, true, false, ◌||◌, List, [], ◌∷◌, map, Option, Some, None, unwrap_or, IsTrue, if◌then◌else◌}
use Rattle.srb_terms.specs.declared.diag.Diag.{Diag}
use Rattle.srb_terms.specs.PathMaps.{IsOrdered, put_value, value_at}
use Rattle.srb_terms.specs.Projects.{File}
use Rattle.lsp_docs.specs.Paths.{Path}
use Rattle.lsp_docs.specs.Projects.{Project}
use Rattle.run_core.specs.declared.row.Row.{Row}
use Rattle.run_core.specs.declared.mark.Mark.{Mark}
use Rattle.run_core.specs.declared.mark.Mark.TheVariants.{Present, Todo, Owed, Edited}

-- a path and what is kept of it
abbrev pub PathRow : Type 0
PathRow = Path × Row

-- what is kept tells of its path
abbrev pub has_mark : Mark → Row → Bool
has_mark Present r = r.present
has_mark Todo r = r.todo
has_mark Owed r = r.owed
has_mark Edited r = r.edited

-- the set of the paths whose rows have the mark
abbrev pub marked : Mark → List PathRow → List Path
marked m [] = []
marked m (r ∷ rs) = if has_mark m r.1 then r.0 ∷ marked m rs else marked m rs

-- the index of the first row that has the mark, or else the number of rows
abbrev pub first_marked : Mark → List PathRow → ℕ
first_marked m [] = 0
first_marked m (r ∷ rs) = if has_mark m r.1 then 0 else suc (first_marked m rs)

-- the lists that were written last, by path
abbrev pub with_list : Path → Option (List Diag) → List (Path × List Diag) → List (Path × List Diag)
with_list f None lists = lists
with_list f (Some list) lists = (f, list) ∷ lists

abbrev pub lists_shown : List PathRow → List (Path × List Diag)
lists_shown [] = []
lists_shown (r ∷ rs) = with_list r.0 r.1.shown (lists_shown rs)

-- each owed path is one to be worked on
abbrev pub OwedAreAsked : List PathRow → Type 0
OwedAreAsked [] = Unit {0}
OwedAreAsked (r ∷ rs) = (IsTrue r.1.owed → IsTrue r.1.todo) × OwedAreAsked rs

-- ---- what the steps do to the rows

-- what is kept of a path of which nothing is known but whether the project has a file there
abbrev pub new_row : Bool → Row
new_row present = record { present = present; todo = false; owed = false; edited = false; shown = None }

-- what is kept of the path; nothing is known of one without a row
abbrev pub row_at : Path → List PathRow → Row
row_at f rows = unwrap_or (value_at f rows) (new_row false)

-- what is kept of a file after an edit: it is owed, and the project has the file or it hasn't; where the edit keeps the
-- errors of the other files, it is to be worked on
abbrev pub edited_row : Bool → Bool → Row → Row
edited_row present kept r = record r { present = present; todo = kept || r.todo; owed = true; edited = true }

-- the rows after an edit of the path
abbrev pub after_edited : Path → Bool → Bool → List PathRow → List PathRow
after_edited f present kept rows = put_value f (edited_row present kept (row_at f rows)) rows

-- the rows after a build: all files of the project and all owed ones are to be worked on
abbrev pub built_row : Row → Row
built_row r = record r { todo = r.present || r.owed; edited = false }

abbrev pub after_built : List PathRow → List PathRow
after_built rows = map (λ (r : PathRow). (r.0, built_row r.1)) rows

-- what is kept of a file after it was worked on, and this list written if there is one
abbrev pub list_after : Option (List Diag) → Option (List Diag) → Option (List Diag)
list_after None shown = shown
list_after (Some list) shown = Some list

abbrev pub worked_row : Option (List Diag) → Row → Row
worked_row list r = record r { todo = false; owed = false; shown = list_after list r.shown }

-- the rows after the file at the path was worked on, and this list written if there is one
abbrev pub after_worked : Path → Option (List Diag) → List PathRow → List PathRow
after_worked f list rows = put_value f (worked_row list (row_at f rows)) rows

-- the rows of a project before any step
abbrev pub opening_row : File → PathRow
opening_row file = (file.0, new_row true)

abbrev pub opening_rows : Project → List PathRow
opening_rows files = map opening_row files

-- ---- how the rows are kept

-- the rows stand in order, and these are the indices of the first that is to be worked on and of the first that is owed
pub record AreRows (rows : List PathRow) (first_todo first_owed : ℕ) : Type 0 where
  pub ordered : IsOrdered rows
  pub todo : first_todo ≡ first_marked Todo rows
  pub owed : first_owed ≡ first_marked Owed rows

-- the index of the first owed row, or else of the first that is to be worked on, or else the number of rows
abbrev pub next_index : List PathRow → ℕ
next_index rows = if nat_lt (first_marked Owed rows) (length rows) then first_marked Owed rows else first_marked Todo rows
