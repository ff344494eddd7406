-- What is known of a project at a build.
use Rattle.std.specs.Prelude.{◌≡◌, ℕ, List, [], ◌∷◌, map, Option, Some, None}
use Rattle.srb_rules.specs.Standing.{Stands}
use Rattle.srb_terms.specs.Projects.{File, IsProject, bytes_at}
use Rattle.srb_terms.specs.declared.fact.Fact.{Fact}
use Rattle.srb_terms.specs.declared.world.World.{World}
use Rattle.srb_table.specs.Names.{TellsMembers}
use Rattle.srb_check.specs.declared.file.FileRec.{FileRec}
use Rattle.srb_check.specs.Records.{loaded}
use Rattle.srb_check.specs.Symbols.{file_facts, project_facts}

-- the paths and the records of some files, in the same order
pub record Held : Type 0 where
  pub paths : List (List ℕ)
  pub records : List FileRec

-- the same with a symbol table
pub record Known : Type 0 where
  pub world : World
  pub files : Held

-- the record is that of some bytes
pub record IsLoaded (r : FileRec) : Type 0 where
  pub bytes : List ℕ
  pub loads : r ≡ loaded bytes

-- each of the records is that of some bytes
pub data AreRecords : List FileRec → Type 0 where
  NoRecord : AreRecords []
  MoreRecords : (r : FileRec) (rs : List FileRec) → IsLoaded r → AreRecords rs → AreRecords (r ∷ rs)

abbrev pub path_of_file : File → List ℕ
path_of_file file = file.0

abbrev pub bytes_of_file : File → List ℕ
bytes_of_file file = file.1

abbrev pub record_of_file : File → FileRec
record_of_file file = loaded file.1

-- the facts that a file declares, by its record
abbrev pub summary_of : FileRec → List Fact
summary_of r = r.summary

-- the files that were loaded are these, in this order
pub record AreLoaded (project : List File) (held : Held) : Type 0 where
  pub paths : held.paths ≡ map path_of_file project
  pub records : held.records ≡ map record_of_file project

-- it is what is known of this project: its files were loaded, and the symbol table stands for its facts and tells their members
pub record IsJobOf (project : List File) (job : Known) : Type 0 where
  pub files : AreLoaded project job.files
  pub table : Stands job.world (project_facts project)
  pub members : TellsMembers job.world (project_facts project)

-- ---- files that are edited

-- the facts of a file, and none where there is no file
abbrev pub facts_in : Option (List ℕ) → List Fact
facts_in None = []
facts_in (Some bytes) = file_facts bytes

-- the same by its record
abbrev pub facts_by : Option FileRec → List Fact
facts_by None = []
facts_by (Some r) = r.summary

-- it is what is known of a project that has these bytes at the path
pub record IsJobWith (path bytes : List ℕ) (job : Known) : Type 0 where
  pub project : List File
  pub ordered : IsProject project
  pub known : IsJobOf project job
  pub here : bytes_at path project ≡ Some bytes
