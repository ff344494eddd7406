-- A command `gen N` has a number from 1 to 1,000, and a session has at most 16 workers.
use Rattle.std.proofs.Common.{◌≡◌, ℕ, ◌≤◌, Bool, true, false, if◌then◌else◌, ◌&&◌, List, [], ◌∷◌, None, Some, refl, sym, subst, arith, bytes_eq, codes}
use Rattle.std.specs.Prelude.{Option, nat_eq, nat_le, drop}
use Rattle.std.specs.List.{starts_with}
use Rattle.std.specs.Option.{option_map}
use Rattle.std.proofs.lemmas.Bool.Decides.{nat_tests}
use Rattle.srb_cli.specs.Commands.{Command, command_of, checking, folder_in, generating, names_folder, number_in, or_else, reading, serve, serving, within, workers_by, workers_by_two, workers_in, MOST_GENERATED, MOST_WORKERS, OPTION, OPTION_WITH, USUAL_WORKERS}
use Rattle.srb_cli.specs.Commands.Command.{Text, Check, Serve, Generate}

-- a number that is there is within the limits
abbrev Counts : Option Command → Type 0
Counts (Some (Generate n)) = (1 ≤ n) × (n ≤ 1000)
Counts (Some (Serve dir n)) = n ≤ 16
Counts _ = Unit {0}

chosen : (b : Bool) (x y : Option Command) → Counts x → Counts y → Counts (if b then x else y)
chosen true x y p q = p
chosen false x y p q = q

-- at most 16 workers, where some are told
abbrev AtMost : Option ℕ → Type 0
AtMost None = Unit {0}
AtMost (Some n) = n ≤ 16

serve_counts : (word : List ℕ) (workers : Option ℕ) → AtMost workers → Counts (serve word workers)
serve_counts word None few = chosen (names_folder word) None None tt tt
serve_counts word (Some n) few = chosen (names_folder word) (Some (Serve word n)) None few tt

in_most : (word : List ℕ) → AtMost (workers_in word)
in_most word = by (number_in word)
  where
    most : (n : ℕ) (b : Bool) → nat_le n MOST_WORKERS ≡ b → AtMost (if b then Some n else None)
    most n true e = grind (arith, nat_tests)
    most n false e = tt

    by : (o : Option ℕ) → AtMost (elim o [
      | None ↦ None
      | Some n ↦ within n
    ])
    by None = tt
    by (Some n) = most n (nat_le n MOST_WORKERS) refl

by_most : (b : Bool) (o : Option ℕ) → AtMost o → AtMost (if b then o else None)
by_most true o few = few
by_most false o few = tt

workers_by_most : (word : List ℕ) → AtMost (workers_by word)
workers_by_most word = by_most (starts_with nat_eq word OPTION_WITH) (workers_in (drop 10 word)) (in_most (drop 10 word))

workers_by_two_most : (option word : List ℕ) → AtMost (workers_by_two option word)
workers_by_two_most option word = by_most (bytes_eq option OPTION) (workers_in word) (in_most word)

or_counts : (a b : Option Command) → Counts a → Counts b → Counts (or_else a b)
or_counts None b p q = q
or_counts (Some command) b p q = p

serving_counts : (words : List (List ℕ)) → Counts (serving words)
serving_counts [] = tt
serving_counts (dir ∷ []) = serve_counts dir (Some USUAL_WORKERS) (omega arith)
serving_counts (a ∷ b ∷ []) = or_counts (serve a (workers_by b)) (serve b (workers_by a)) (serve_counts a (workers_by b) (workers_by_most b)) (serve_counts b (workers_by a) (workers_by_most a))
serving_counts (a ∷ b ∷ c ∷ []) =
    or_counts (serve a (workers_by_two b c)) (serve c (workers_by_two a b)) (serve_counts a (workers_by_two b c) (workers_by_two_most b c)) (serve_counts c (workers_by_two a b) (workers_by_two_most a b))
serving_counts (a ∷ b ∷ c ∷ d ∷ words) = tt

checking_counts : (words : List (List ℕ)) → Counts (checking words)
checking_counts [] = tt
checking_counts (dir ∷ []) = by (names_folder dir)
  where
    by : (b : Bool) → Counts (option_map Check (if b then Some dir else None))
    by true = tt
    by false = tt
checking_counts (a ∷ b ∷ words) = tt

reading_counts : (words : List (List ℕ)) → Counts (reading words)
reading_counts [] = tt
reading_counts (word ∷ words) = tt

generating_counts : (words : List (List ℕ)) → Counts (generating words)
generating_counts [] = tt
generating_counts (word ∷ []) = by (number_in word)
  where
    within : (n : ℕ) (b : Bool) → (nat_le 1 n && nat_le n MOST_GENERATED) ≡ b → Counts (if b then Some (Generate n) else None)
    within n true e = (grind (arith, nat_tests), grind (arith, nat_tests))
    within n false e = tt

    by : (o : Option ℕ) → Counts (elim o [
      | None ↦ None
      | Some n ↦ if nat_le 1 n && nat_le n MOST_GENERATED then Some (Generate n) else None
    ])
    by None = tt
    by (Some n) = within n (nat_le 1 n && nat_le n MOST_GENERATED) refl
generating_counts (a ∷ b ∷ words) = tt

command_counts : (words : List (List ℕ)) → Counts (command_of words)
command_counts [] = tt
command_counts (word ∷ words) =
    let last = if bytes_eq word (codes "gen") then generating words else None in
    let third = if bytes_eq word (codes "lsp") then serving words else last in
    let second = if bytes_eq word (codes "tc") then checking words else third in
    chosen (bytes_eq word (codes "text")) (reading words) second (reading_counts words)
    (chosen (bytes_eq word (codes "tc")) (checking words) third (checking_counts words)
    (chosen (bytes_eq word (codes "lsp")) (serving words) last (serving_counts words)
    (chosen (bytes_eq word (codes "gen")) (generating words) None (generating_counts words) tt)))

pub generates_within : (words : List (List ℕ)) (n : ℕ) → Some (Generate n) ≡ command_of words → (1 ≤ n) × (n ≤ 1000)
generates_within words n is = subst Counts (sym is) (command_counts words)

pub serves_within : (words : List (List ℕ)) (dir : List ℕ) (n : ℕ) → Some (Serve dir n) ≡ command_of words → n ≤ 16
serves_within words dir n is = subst Counts (sym is) (command_counts words)
