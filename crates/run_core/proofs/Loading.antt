-- The order of a project's files, and the files that a build loads one after the other.
use Rattle.std.proofs.Common.{◌≡◌, ℕ, zero, suc, ◌+◌, List, [], ◌∷◌, ◌++◌, take, refl, sym, ap, ◌∙◌, subst, add-one, arith}
use Rattle.std.specs.Prelude.{Option, None, Some, unwrap_or}
use Rattle.std.specs.List.{slice_get}
use Rattle.std.specs.Option.{option_map}
use Rattle.srb_terms.specs.PathMaps.{IsBeforeAll, IsOrdered}
use Rattle.srb_terms.specs.Projects.{bytes_at, IsProject}
use Rattle.srb_terms.proofs.PathOrder.{value_at-here}
use Rattle.srb_check.specs.declared.file.FileRec.{FileRec}
use Rattle.srb_check.specs.Jobs.{bytes_of_file}
use Rattle.srb_check.specs.Records.{loaded}
use Rattle.lsp_docs.specs.Paths.{Path, Bytes}
use Rattle.lsp_docs.specs.Projects.{Project, paths_of}
use Rattle.run_core.specs.declared.mark.Mark.TheVariants.{Present}
use Rattle.run_core.specs.Rows.{PathRow, marked}
use Rattle.run_core.proofs.RowMarks.{IsBeforePaths}
use Rattle.run_core.proofs.NextFile.{AreSorted, marked-sorted}

pub some_same : {X : Type 0} {x y : X} → Some x ≡ Some y → x ≡ y
some_same {X} {x} same = ap (λ o. unwrap_or o x) same

-- a record that is that of some bytes, if there are any
pub loaded_some : (o : Option Bytes) (r : FileRec) → Some r ≡ option_map loaded o → (bytes : Bytes) × (o ≡ Some bytes) × (r ≡ loaded bytes)
loaded_some None r is = absurd cc
loaded_some (Some b) r is = (b, refl, some_same is)

-- ---- the files of a project stand in the order of the rows

before_files : (f : Path) (files : Project) → IsBeforePaths f (paths_of files) → IsBeforeAll f files
before_files f [] before = tt
before_files f (file ∷ files) before = (before.0, before_files f files before.1)

sorted_project : (p : Project) → AreSorted (paths_of p) → IsProject p
sorted_project [] sorted = tt
sorted_project (file ∷ files) sorted = (before_files file.0 files sorted.0, sorted_project files sorted.1)

pub rows_project : (rows : List PathRow) (p : Project) → IsOrdered rows → marked Present rows ≡ paths_of p → IsProject p
rows_project rows p order known = sorted_project p (subst AreSorted known (marked-sorted Present rows order))

-- ---- the file at an index

file_there : (p : Project) (i : ℕ) (f : Path) → slice_get (paths_of p) i ≡ Some f
    → (bytes : Bytes) × (slice_get p i ≡ Some (f, bytes)) × (take (suc i) p ≡ take i p ++ (f, bytes) ∷ [])
file_there [] i f is = absurd (grind (arith, is))
file_there (file ∷ files) zero f is =
    let same : file.0 ≡ f = some_same is in (file.1, ap (λ g. Some (g, file.1)) same, ap (λ g. (g, file.1) ∷ []) same)
file_there (file ∷ files) (suc i) f is = let rest = file_there files i f is in (rest.0, rest.1, ap (λ l. file ∷ l) rest.2)

-- the file with the path at an index stands there, with the bytes that the project has at that path
pub file_at : (p : Project) (i : ℕ) (f : Path) → IsProject p → slice_get (paths_of p) i ≡ Some f
    → (bytes : Bytes) × (bytes_at f p ≡ Some bytes) × (take (suc i) p ≡ take i p ++ (f, bytes) ∷ [])
file_at p i f order is = let there = file_there p i f is in (there.0, value_at-here f p i there.0 order there.1, there.2)

-- the bytes at an index are those that the project has at the path there
pub bytes_at_index : (p : Project) (i : ℕ) (f : Path) → IsProject p → slice_get (paths_of p) i ≡ Some f → option_map bytes_of_file (slice_get p i) ≡ bytes_at f p
bytes_at_index p i f order is =
    let there = file_there p i f is in ap (option_map bytes_of_file) there.1 ∙ sym (value_at-here f p i there.0 order there.1)

-- the files up to one index and the file there are those up to the next index
pub up_to_next : (p : Project) (i : ℕ) (f g : Path) (b c : Bytes) → take (suc i) p ≡ take i p ++ (f, b) ∷ [] → g ≡ f → c ≡ b
    → take i p ++ (g, c) ∷ [] ≡ take (i + 1) p
up_to_next p i f g b c is path bytes = (λ k. take i p ++ (path k, bytes k) ∷ []) ∙ sym is ∙ ap (λ n. take n p) (sym (add-one i))
