-- What is read of a folder before a session, and why it may be refused.
use Rattle.std.specs.Prelude.{◌≡◌, ℕ, ◌+◌, ◌<◌, ◌≤◌, List, [], ◌∷◌, ◌++◌, length, Option, None, Some, ⊤}
use Rattle.srb_io.specs.Counts.{HasRisen}
use Rattle.srb_io.specs.Files.{FolderFile, AreInOrder, AreListed, bytes_at}
use Rattle.srb_terms.specs.declared.cause.Cause.{Cause}
use Rattle.srb_terms.specs.declared.cause.Cause.TheVariants.{Done, Errors, NoShutdown, Usage, ReadFault, WriteFault, Broken, TooLong, TooMany, TooBig, NoMemory}
use Rattle.lsp_docs.specs.Projects.{Project, paths_of, total_bytes}
use Rattle.lsp_docs.specs.Documents.{MOST_FILES}
use Rattle.srb_text.specs.Limits.{MOST_BYTES}

-- the file is one of those told, with all its bytes
abbrev pub IsTold : Option (List FolderFile) → FolderFile → Type 0
IsTold None file = ⊤
IsTold (Some told) file = bytes_at file.0 told ≡ Some file.1

-- each of the files is
abbrev pub AreTold : Option (List FolderFile) → List FolderFile → Type 0
AreTold told [] = ⊤
AreTold told (file ∷ files) = IsTold told file × AreTold told files

-- The project of a folder, where its files are told: the paths that end in `.rb`, in byte order, each once and each with
-- all its bytes.
pub record IsFolder (told : Option (List FolderFile)) (base : Project) : Type 0 where
  pub ordered : AreInOrder (paths_of base)
  pub listed : AreListed told (paths_of base)
  pub read : AreTold told base

-- so many paths were listed, which are more files than a project may have
pub record IsPastFiles (told : Option (List FolderFile)) (count : ℕ) : Type 0 where
  pub paths : List (List ℕ)
  pub ordered : AreInOrder paths
  pub listed : AreListed told paths
  pub counted : count ≡ length paths
  pub past : MOST_FILES < count

-- The files before this path in the list have no more bytes than a project may have, and they and the file at the path
-- have more. The list isn't too long.
pub record IsPastBytes (told : Option (List FolderFile)) (path : List ℕ) : Type 0 where
  pub front : List FolderFile
  pub later : List (List ℕ)
  pub bytes : List ℕ
  pub ordered : AreInOrder (paths_of front ++ path ∷ later)
  pub listed : AreListed told (paths_of front ++ path ∷ later)
  pub files : length (paths_of front ++ path ∷ later) ≤ MOST_FILES
  pub read : AreTold told front
  pub within : total_bytes front ≤ MOST_BYTES
  pub there : IsTold told (path, bytes)
  pub past : MOST_BYTES < total_bytes front + length bytes

-- how reading a folder ends where it gives no project, by the files that are told and the count of failed calls
abbrev pub IsUnread : Cause → Option (List FolderFile) → (before after : ℕ) → Type 0
IsUnread ReadFault told before after = HasRisen before after
IsUnread (TooMany count) told before after = IsPastFiles told count × (after ≡ before)
IsUnread (TooBig path) told before after = IsPastBytes told path × (after ≡ before)
IsUnread NoMemory told before after = after ≡ before
IsUnread Done told before after = ⊥
IsUnread Errors told before after = ⊥
IsUnread NoShutdown told before after = ⊥
IsUnread Usage told before after = ⊥
IsUnread WriteFault told before after = ⊥
IsUnread (Broken at) told before after = ⊥
IsUnread (TooLong size) told before after = ⊥

-- how reading one file ends where it gives no bytes, by the room that is left for them
abbrev pub IsFileUnread : Cause → Option (List FolderFile) → List ℕ → ℕ → (before after : ℕ) → Type 0
IsFileUnread ReadFault told path room before after = HasRisen before after
IsFileUnread (TooBig name) told path room before after =
    (name ≡ path) × ((bytes : List ℕ) × IsTold told (path, bytes) × (room < length bytes)) × (after ≡ before)
IsFileUnread NoMemory told path room before after = after ≡ before
IsFileUnread Done told path room before after = ⊥
IsFileUnread Errors told path room before after = ⊥
IsFileUnread NoShutdown told path room before after = ⊥
IsFileUnread Usage told path room before after = ⊥
IsFileUnread WriteFault told path room before after = ⊥
IsFileUnread (Broken at) told path room before after = ⊥
IsFileUnread (TooLong size) told path room before after = ⊥
IsFileUnread (TooMany count) told path room before after = ⊥
