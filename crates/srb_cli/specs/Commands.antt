-- The command line: which command some words are.
use Rattle.std.specs.Prelude.{ℕ, ◌+◌, ◌-◌, ◌*◌, Bool, List, [], ◌∷◌, ◌&&◌, ◌==◌, not, nat_eq, nat_le, codes, bytes_eq, drop, true, false, Option, None, Some, if◌then◌else◌}
use Rattle.std.specs.List.{starts_with}
use Rattle.std.specs.Option.{option_map}

pub data Command : Type 0 where
  -- check what the source holds
  Text : Command
  -- check the files below this folder
  Check : List ℕ → Command
  -- serve a session over the files below this folder with so many workers
  Serve : List ℕ → ℕ → Command
  -- serve the session that is generated for so many files, and write its summary
  Generate : ℕ → Command

-- a word names a folder: it isn't empty and doesn't begin with `-`
abbrev pub names_folder : List ℕ → Bool
names_folder [] = false
names_folder (byte ∷ bytes) = not (byte == 45)

-- the folder that a word names
abbrev pub folder_in : List ℕ → Option (List ℕ)
folder_in word = if names_folder word then Some word else None

-- ---- numbers

abbrev pub is_digit : ℕ → Bool
is_digit byte = nat_le 48 byte && nat_le byte 57

-- the number of four decimal digits
abbrev pub of_digits : (a b c d : ℕ) → Option ℕ
of_digits a b c d =
    if is_digit a && is_digit b && is_digit c && is_digit d
    then Some ((a - 48) * 1000 + (b - 48) * 100 + (c - 48) * 10 + (d - 48)) else None

-- the number that a word tells: one to four decimal digits, with which zeros stand where there are fewer
abbrev pub number_in : List ℕ → Option ℕ
number_in (d ∷ []) = of_digits 48 48 48 d
number_in (c ∷ d ∷ []) = of_digits 48 48 c d
number_in (b ∷ c ∷ d ∷ []) = of_digits 48 b c d
number_in (a ∷ b ∷ c ∷ d ∷ []) = of_digits a b c d
number_in word = None

-- the most workers of a session, and their number where none is given
abbrev pub MOST_WORKERS : ℕ
MOST_WORKERS = 16

abbrev pub USUAL_WORKERS : ℕ
USUAL_WORKERS = 2

abbrev pub within : ℕ → Option ℕ
within n = if nat_le n MOST_WORKERS then Some n else None

-- the number of workers that a word tells
abbrev pub workers_in : List ℕ → Option ℕ
workers_in word = elim (number_in word) [
  | None ↦ None
  | Some n ↦ within n
]

-- the option that gives the number of workers, as a word of its own and with the number after it
abbrev pub OPTION : List ℕ
OPTION = codes "--workers"

abbrev pub OPTION_WITH : List ℕ
OPTION_WITH = codes "--workers="

-- the number of workers that one word gives
abbrev pub workers_by : List ℕ → Option ℕ
workers_by word = if starts_with nat_eq word OPTION_WITH then workers_in (drop 10 word) else None

-- the number of workers that two words give
abbrev pub workers_by_two : List ℕ → List ℕ → Option ℕ
workers_by_two option word = if bytes_eq option OPTION then workers_in word else None

-- ---- commands

-- a session over a folder with so many workers, where both are given
abbrev pub serve : List ℕ → Option ℕ → Option Command
serve word workers = if names_folder word then option_map (Serve word) workers else None

-- the first that is there
abbrev pub or_else : Option Command → Option Command → Option Command
or_else None other = other
or_else (Some command) other = Some command

-- the words after `lsp`: the folder, with the option before or after it
abbrev pub serving : List (List ℕ) → Option Command
serving (dir ∷ []) = serve dir (Some USUAL_WORKERS)
serving (a ∷ b ∷ []) = or_else (serve a (workers_by b)) (serve b (workers_by a))
serving (a ∷ b ∷ c ∷ []) = or_else (serve a (workers_by_two b c)) (serve c (workers_by_two a b))
serving words = None

-- the words after `tc`: the folder
abbrev pub checking : List (List ℕ) → Option Command
checking (dir ∷ []) = option_map Check (folder_in dir)
checking words = None

-- the words after `text`: none
abbrev pub reading : List (List ℕ) → Option Command
reading [] = Some Text
reading words = None

-- the most files of a generated project
abbrev pub MOST_GENERATED : ℕ
MOST_GENERATED = 1000

-- the words after `gen`: the number of files, at least one
abbrev pub generating : List (List ℕ) → Option Command
generating (word ∷ []) = elim (number_in word) [
  | None ↦ None
  | Some n ↦ if nat_le 1 n && nat_le n MOST_GENERATED then Some (Generate n) else None
]
generating words = None

-- the command that these words are
abbrev pub command_of : List (List ℕ) → Option Command
command_of [] = None
command_of (word ∷ words) =
    if bytes_eq word (codes "text") then reading words
    else (if bytes_eq word (codes "tc") then checking words
    else (if bytes_eq word (codes "lsp") then serving words
    else (if bytes_eq word (codes "gen") then generating words else None)))

-- whether it is a command that checks once and ends
abbrev pub checks_once : Option Command → Bool
checks_once None = false
checks_once (Some Text) = true
checks_once (Some (Check dir)) = true
checks_once (Some (Serve dir workers)) = false
checks_once (Some (Generate n)) = false

-- what is written where the words are no command
abbrev pub usage_line : List ℕ
usage_line = codes "usage: srb text | srb tc DIR | srb lsp DIR [--workers N] | srb gen N\n"
