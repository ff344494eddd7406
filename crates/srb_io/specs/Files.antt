-- The files below a folder, where they are told: a list of their paths and bytes. Parts of a path stand with `/` between
-- them.
use Rattle.std.specs.Prelude.{◌≡◌, ℕ, ◌+◌, ◌-◌, Bool, ◌&&◌, List, [], ◌∷◌, length, take, drop, codes, bytes_eq, Option, None, Some, Result, Ok, Err, if◌then◌else◌, ⊤}
use Rattle.std.specs.List.{list_any}
use Rattle.std.specs.Cmp.Lexicographic.{slice_cmp}
use Rattle.std.specs.Ordering.{nat_cmp}
use Rattle.std.specs.declared.cmp.Ordering.TheVariants.{Less}
use Rattle.srb_io.specs.declared.files.FilesEnd.{FilesEnd}
use Rattle.srb_io.specs.declared.files.FilesEnd.TheVariants.{Failed, NoMemory}

-- a file: its path and its bytes
abbrev pub FolderFile : Type 0
FolderFile = List ℕ × List ℕ

-- the path ends in `.rb`
abbrev pub ends_in_rb : List ℕ → Bool
ends_in_rb path = bytes_eq (drop (length path - 3) path) (codes ".rb")

-- the bytes of the first file at the path
abbrev pub bytes_at : List ℕ → List FolderFile → Option (List ℕ)
bytes_at path [] = None
bytes_at path (file ∷ files) = if bytes_eq path file.0 then Some file.1 else bytes_at path files

-- some file stands at the path
abbrev pub is_there : List ℕ → List FolderFile → Bool
is_there path files = list_any (λ file. bytes_eq path file.0) files

-- the paths of the files that end in `.rb`, in the order of the files
abbrev pub ruby_paths : List FolderFile → List (List ℕ)
ruby_paths [] = []
ruby_paths (file ∷ files) = if ends_in_rb file.0 then file.0 ∷ ruby_paths files else ruby_paths files

-- the path is one of these
abbrev pub is_among : List ℕ → List (List ℕ) → Bool
is_among path paths = list_any (λ p. bytes_eq path p) paths

-- the path stands before each of these, in byte order
abbrev pub IsBeforeEach : List ℕ → List (List ℕ) → Type 0
IsBeforeEach path [] = ⊤
IsBeforeEach path (p ∷ ps) = (slice_cmp nat_cmp path p ≡ Less) × IsBeforeEach path ps

-- the paths stand in byte order, each once
abbrev pub AreInOrder : List (List ℕ) → Type 0
AreInOrder [] = ⊤
AreInOrder (p ∷ ps) = IsBeforeEach p ps × AreInOrder ps

-- the paths are just those of the files that end in `.rb`
abbrev pub AreListed : Option (List FolderFile) → List (List ℕ) → Type 0
AreListed None paths = ⊤
AreListed (Some files) paths =
    (path : List ℕ) → is_among path paths ≡ (ends_in_rb path && is_there path files)

-- the bytes are the first `most` of the file at the path, which is there
abbrev pub AreFirst : Option (List FolderFile) → (path : List ℕ) → (most : ℕ) → List ℕ → Type 0
AreFirst None path most bytes = ⊤
AreFirst (Some files) path most bytes = (all : List ℕ) × (bytes_at path files ≡ Some all) × (bytes ≡ take most all)

-- the count of failed calls over one call: it rises by one exactly where the call failed
abbrev pub CountsFault : {T : Type 0} → ℕ → ℕ → Result T FilesEnd → Type 0
CountsFault before now (Ok v) = now ≡ before
CountsFault before now (Err Failed) = now ≡ before + 1
CountsFault before now (Err NoMemory) = now ≡ before
