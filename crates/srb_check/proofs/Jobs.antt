-- Files that were loaded, and where a path stands among them.
use lib.ListN.{get_or-map}
use Rattle.std.proofs.Common.{◌≡◌, ℕ, zero, suc, ◌<◌, ◌≤◌, ◌++◌, List, [], ◌∷◌, map, length, get_or, Option, Some, None, Result, Ok, Err, refl, ap, sym, subst, ◌∙◌, arith, encode_utf8_all}
use Rattle.std.specs.List.{slice_get, slice_set}
use Rattle.std.specs.Result.{result_unwrap_or}
use Rattle.std.specs.Option.{option_map}
use Rattle.std.specs.Ordering.{ordering_index}
use Rattle.std.specs.List.Sorted.{IsBinarySearchResult, IsSearchInRange}
use Rattle.std.proofs.lemmas.List.{length-map, map-append}
use Rattle.std.proofs.lemmas.Option.{same_Some, slice_get-map, slice_get_past}
use Rattle.srb_terms.specs.PathMaps.{IsEntryOf, path_cmp, set_value}
use Rattle.srb_terms.specs.Projects.{File, IsProject, bytes_at, put_file}
use Rattle.srb_terms.proofs.PathOrder.{absent_place, entry_read, found_entry, put_value-here, set_value-is, value_at-absent, value_at-here}
use Rattle.srb_terms.specs.declared.fact.Fact.{Fact}
use Rattle.srb_terms.specs.declared.world.World.{World}
use Rattle.srb_builtin.specs.Table.{built_in}
use Rattle.srb_rules.specs.Standing.{Stands}
use Rattle.srb_table.specs.Names.{TellsMembers}
use Rattle.srb_table.specs.Steps.{all_facts, facts_of}
use Rattle.srb_check.specs.declared.file.FileRec.{FileRec}
use Rattle.srb_check.specs.Jobs.{AreLoaded, AreRecords, Held, IsJobOf, IsJobWith, IsLoaded, Known, bytes_of_file, facts_by, facts_in, path_of_file, record_of_file, summary_of}
use Rattle.srb_check.specs.Records.{loaded}
use Rattle.srb_check.specs.Symbols.{facts_of_file, file_facts, project_facts}
use Rattle.srb_check.proofs.Loads.{loaded_bytes, loaded_facts}

-- ---- files one by one
pub no_records : (records : List FileRec) → records ≡ [] → AreRecords records
no_records records none = subst AreRecords (sym none) AreRecords.NoRecord

pub AreRecords-push : (records : List FileRec) (r : FileRec) → AreRecords records → IsLoaded r → AreRecords (records ++ r ∷ [])
AreRecords-push [] r all one = AreRecords.MoreRecords r [] one AreRecords.NoRecord
AreRecords-push (first ∷ records) r (AreRecords.MoreRecords f rs one_first rest) one =
    AreRecords.MoreRecords first (records ++ r ∷ []) one_first (AreRecords-push records r rest one)

pub AreLoaded-push : (project : List File) (held new : Held) (path bytes : List ℕ) → AreLoaded project held
    → new.paths ≡ held.paths ++ path ∷ [] → new.records ≡ held.records ++ loaded bytes ∷ []
    → AreLoaded (project ++ (path, bytes) ∷ []) new
AreLoaded-push project held new path bytes are paths records = record {
  paths = paths ∙ ap (λ ps. ps ++ path ∷ []) are.paths ∙ sym (map-append path_of_file project ((path, bytes) ∷ []));
  records = records ∙ ap (λ rs. rs ++ loaded bytes ∷ []) are.records ∙ sym (map-append record_of_file project ((path, bytes) ∷ []));
}

-- ---- the facts of all
pub summaries-facts : (project : List File) → map summary_of (map record_of_file project) ≡ map facts_of_file project
summaries-facts [] = refl
summaries-facts (file ∷ project) = (λ i. loaded_facts file.1 i ∷ summaries-facts project i)

-- ---- where a path stands

path_entry : (path : List ℕ) (project : List File) (i : ℕ) → slice_get (map path_of_file project) i ≡ Some path → IsEntryOf path project i
path_entry path [] i here = absurd cc
path_entry path (file ∷ project) zero here = (file.1, ap (λ p. Some (p, file.1)) (same_Some file.0 path here))
path_entry path (file ∷ project) (suc i) here = path_entry path project i here

entry_tells : (path : List ℕ) (project : List File) (i : ℕ) → IsProject project → IsEntryOf path project i
    → option_map bytes_of_file (slice_get project i) ≡ bytes_at path project
entry_tells path project i ordered entry = ap (option_map bytes_of_file) entry.1 ∙ sym (value_at-here path project i entry.0 ordered entry.1)

-- a path that stands at an index tells its bytes
pub index_tells : (path : List ℕ) (project : List File) (paths : List (List ℕ)) (i : ℕ) → IsProject project → paths ≡ map path_of_file project
    → i < length paths → path ≡ get_or paths i path → option_map bytes_of_file (slice_get project i) ≡ bytes_at path project
index_tells path project paths i ordered are within here =
    entry_tells path project i ordered (path_entry path project i (ap (λ ps. slice_get ps i) (sym are) ∙ entry_read paths i path within here))

-- a search among the paths is one among the files
searched : (path : List ℕ) (project : List File) (found : Result ℕ ℕ) → IsBinarySearchResult (λ (y : List ℕ). path_cmp y path) (map path_of_file project) found
    → IsBinarySearchResult (λ (file : File). path_cmp file.0 path) project found
searched path project (Ok i) same = λ file. ap (λ p. path_cmp p path) (sym (get_or-map path_of_file project i file)) ∙ same file.0
searched path project (Err i) apart =
    λ rise.
    let count = length-map project path_of_file in
    let at : (k : ℕ) (file : File) → path_cmp (get_or (map path_of_file project) k file.0) path ≡ path_cmp (get_or project k file).0 path =
    λ k file. ap (λ p. path_cmp p path) (get_or-map path_of_file project k file) in
    let point = apart (λ a b p le within.
    let first = ap ordering_index (at a (p, [])) in
    let second = ap ordering_index (at b (p, [])) in
    let rises = rise a b (p, []) le (omega (arith, within, count)) in
    omega (arith, rises, first, second)) in
    (λ k file low less. sym (at k file) ∙ point.0 k file.0 low less, λ k file low less. sym (at k file) ∙ point.1 k file.0 low (omega (arith, less, count)))

past : {X Y : Type 0} (f : X → Y) (xs : List X) (n : ℕ) → length xs ≤ n → option_map f (slice_get xs n) ≡ None
past f xs n out = ap (option_map f) (slice_get_past xs n out)

-- the answer of a search for a path among those of a project tells its bytes
pub place_tells : (path : List ℕ) (project : List File) (paths : List (List ℕ)) (found : Result ℕ ℕ) → IsProject project
    → paths ≡ map path_of_file project → IsSearchInRange found (length paths) → IsBinarySearchResult (λ (y : List ℕ). path_cmp y path) paths found
    → option_map bytes_of_file (slice_get project (result_unwrap_or found (length paths))) ≡ bytes_at path project
place_tells path project paths found ordered are range is =
    by_answer found (subst (IsSearchInRange found) count range)
    (searched path project found (subst (λ ps. IsBinarySearchResult (λ (y : List ℕ). path_cmp y path) ps found) are is))
  where
    count : length paths ≡ length project
    count = ap length are ∙ length-map project path_of_file

    by_answer : (r : Result ℕ ℕ) → IsSearchInRange r (length project) → IsBinarySearchResult (λ (file : File). path_cmp file.0 path) project r
        → option_map bytes_of_file (slice_get project (result_unwrap_or r (length paths))) ≡ bytes_at path project
    by_answer (Ok i) within same = entry_tells path project i ordered (found_entry path project (Ok i) within same)
    by_answer (Err i) within apart =
        past bytes_of_file project (length paths) (omega (arith, count))
        ∙ sym (value_at-absent path project i (absent_place path project (Err i) ordered within apart))

-- ---- the record at an index
pub record_at : (project : List File) (records : List FileRec) (i : ℕ) (r : FileRec) → records ≡ map record_of_file project
    → slice_get records i ≡ Some r → (file : File) × (slice_get project i ≡ Some file) × (r ≡ loaded file.1)
record_at project records i r are here =
    by_file (slice_get project i) (sym (slice_get-map record_of_file project i) ∙ ap (λ rs. slice_get rs i) (sym are) ∙ here)
  where
    by_file : (f : Option File) → option_map record_of_file f ≡ Some r → (file : File) × (f ≡ Some file) × (r ≡ loaded file.1)
    by_file None is = absurd cc
    by_file (Some file) is = (file, refl, same_Some r (loaded file.1) (sym is))

pub no_record_at : (project : List File) (records : List FileRec) (i : ℕ) → records ≡ map record_of_file project
    → slice_get records i ≡ None → option_map bytes_of_file (slice_get project i) ≡ None
no_record_at project records i are here =
    by_file (slice_get project i) (sym (slice_get-map record_of_file project i) ∙ ap (λ rs. slice_get rs i) (sym are) ∙ here)
  where
    by_file : (f : Option File) → option_map record_of_file f ≡ None → option_map bytes_of_file f ≡ None
    by_file None is = refl
    by_file (Some file) is = absurd cc

-- each of the records is that of some bytes
pub loaded_at : (records : List FileRec) (i : ℕ) (r : FileRec) → AreRecords records → slice_get records i ≡ Some r → IsLoaded r
loaded_at [] i r all here = absurd cc
loaded_at (first ∷ records) zero r (AreRecords.MoreRecords f rs one rest) here = subst IsLoaded (same_Some first r here) one
loaded_at (first ∷ records) (suc i) r (AreRecords.MoreRecords f rs one rest) here = loaded_at records i r rest here

-- a record whose text has these bytes is theirs
pub same_bytes : (r : FileRec) (text bytes : List ℕ) → IsLoaded r → r.text ≡ Some text → encode_utf8_all text ≡ bytes → r ≡ loaded bytes
same_bytes r text bytes is has spelled =
    is.loads ∙ ap loaded (sym (loaded_bytes is.bytes text (ap (λ (x : FileRec). x.text) (sym is.loads) ∙ has)) ∙ spelled)

-- ---- the job of all
pub job_stands : (project : List File) (self held : Held) (summaries : List (List Fact)) (world : World) (job : Known) → AreLoaded project self
    → held ≡ self → summaries ≡ map summary_of held.records → Stands world (facts_of built_in summaries) → TellsMembers world (facts_of built_in summaries)
    → job ≡ record { world = world; files = held } → IsJobOf project job
unfolding project_facts
job_stands project self held summaries world job are same told stands tells is =
    let all = told ∙ ap (λ (h : Held). map summary_of h.records) same ∙ ap (map summary_of) are.records ∙ summaries-facts project in
    subst (IsJobOf project) (sym is) (record {
      files = subst (AreLoaded project) (sym same) are;
      table = subst (λ s. Stands world (facts_of built_in s)) all stands;
      members = subst (λ s. TellsMembers world (facts_of built_in s)) all tells;
    })

-- ---- files that are edited

-- the facts by a file's record are those of its bytes
pub declared : (bytes : Option (List ℕ)) → facts_by (option_map loaded bytes) ≡ facts_in bytes
declared None = refl
declared (Some bytes) = loaded_facts bytes

-- the record at the index of a path is that of the file there
pub record_with : (path bytes : List ℕ) (job : Known) (i : ℕ) (has : IsJobWith path bytes job)
    → option_map bytes_of_file (slice_get has.project i) ≡ bytes_at path has.project → slice_get job.files.records i ≡ Some (loaded bytes)
record_with path bytes job i has place =
    ap (λ rs. slice_get rs i) has.known.files.records ∙ slice_get-map record_of_file has.project i ∙ by_file (slice_get has.project i) (place ∙ has.here)
  where
    by_file : (f : Option File) → option_map bytes_of_file f ≡ Some bytes → option_map record_of_file f ≡ Some (loaded bytes)
    by_file None is = absurd cc
    by_file (Some file) is = ap (λ b. Some (loaded b)) (same_Some file.1 bytes is)

-- files of the same facts, with the same symbol table
pub job_again : (project old : List File) (self held : Held) (world : World) (before job : Known) → AreLoaded project self → IsJobOf old before
    → project_facts project ≡ project_facts old → held ≡ self → world ≡ before.world → job ≡ record { world = world; files = held } → IsJobOf project job
job_again project old self held world before job are known facts same table is =
    subst (IsJobOf project) (sym is) (record {
      files = subst (AreLoaded project) (sym same) are;
      table = subst (λ w. Stands w (project_facts project)) (sym table) (subst (Stands before.world) (sym facts) known.table);
      members = subst (λ w. TellsMembers w (project_facts project)) (sym table) (subst (TellsMembers before.world) (sym facts) known.members);
    })

-- ---- a record in the place of another

paths-set_value : (project : List File) (i : ℕ) (bytes : List ℕ) → map path_of_file (set_value project i bytes) ≡ map path_of_file project
paths-set_value [] i bytes = refl
paths-set_value (file ∷ project) zero bytes = refl
paths-set_value (file ∷ project) (suc i) bytes = ap (λ paths. file.0 ∷ paths) (paths-set_value project i bytes)

records-set_value : (project : List File) (i : ℕ) (bytes : List ℕ)
    → map record_of_file (set_value project i bytes) ≡ slice_set (map record_of_file project) i (loaded bytes)
records-set_value [] i bytes = refl
records-set_value (file ∷ project) zero bytes = refl
records-set_value (file ∷ project) (suc i) bytes = ap (λ records. loaded file.1 ∷ records) (records-set_value project i bytes)

pub AreRecords-set : (records : List FileRec) (i : ℕ) (r : FileRec) → AreRecords records → IsLoaded r → AreRecords (slice_set records i r)
AreRecords-set [] i r all one = AreRecords.NoRecord
AreRecords-set (first ∷ records) zero r (AreRecords.MoreRecords f rs one_first rest) one = AreRecords.MoreRecords r records one rest
AreRecords-set (first ∷ records) (suc i) r (AreRecords.MoreRecords f rs one_first rest) one =
    AreRecords.MoreRecords first (slice_set records i r) one_first (AreRecords-set records i r rest one)

-- the job of a project with another record of the file at a path
pub job_put : (project : List File) (path bytes : List ℕ) (i : ℕ) (r : FileRec) (before job : Known) → IsProject project → IsJobOf project before
    → slice_get before.files.paths i ≡ Some path → r ≡ loaded bytes → project_facts (put_file path bytes project) ≡ project_facts project
    → job ≡ record before { files = record before.files { records = slice_set before.files.records i r } } → IsJobOf (put_file path bytes project) job
job_put project path bytes i r before job ordered known here loads facts is =
    let entry = path_entry path project i (ap (λ paths. slice_get paths i) (sym known.files.paths) ∙ here) in
    let put = put_value-here path entry.0 bytes project i ordered entry.1 ∙ sym (set_value-is project i (path, entry.0) bytes entry.1) in
    subst (IsJobOf (put_file path bytes project)) (sym is) (record {
      files = record {
        paths = known.files.paths ∙ sym (ap (map path_of_file) put ∙ paths-set_value project i bytes);
        records = ap (λ records. slice_set records i r) known.files.records ∙ ap (slice_set (map record_of_file project) i) loads
            ∙ sym (ap (map record_of_file) put ∙ records-set_value project i bytes);
      };
      table = subst (Stands before.world) (sym facts) known.table;
      members = subst (TellsMembers before.world) (sym facts) known.members;
    })

-- ---- the facts that files declare

abbrev pub declared_in : List File → List Fact
declared_in [] = []
declared_in (file ∷ files) = file_facts file.1 ++ declared_in files

declared_all : (p : List File) → declared_in p ≡ all_facts (map facts_of_file p)
declared_all [] = refl
declared_all (file ∷ files) = ap (λ facts. file_facts file.1 ++ facts) (declared_all files)

-- projects whose files declare the same, taken together, have the same facts
pub same_declared : (p q : List File) → declared_in p ≡ declared_in q → project_facts p ≡ project_facts q
unfolding project_facts
same_declared p q same = ap (λ facts. built_in ++ facts) (sym (declared_all p) ∙ same ∙ declared_all q)
