-- The order of the paths.
use Rattle.std.proofs.Common.{◌≡◌, ℕ, ◌+◌, ◌/◌, ◌%◌, ◌<◌, ◌≤◌, sym, ap, ◌∙◌, ⊎_elim, arith}
use Rattle.std.specs.Cmp.{nat_cmp_is}
use Rattle.std.specs.Ordering.{nat_cmp, ordering_then}
use Rattle.std.specs.declared.cmp.Ordering.{Ordering}
use Rattle.std.specs.declared.cmp.Ordering.TheVariants.{Equal, Greater}
use Rattle.std.proofs.lemmas.Bool.{cases_lt}
use Rattle.srb_terms.specs.PathMaps.{path_cmp}
use Rattle.srb_gen.specs.Texts.{file_path}

-- a greater digit decides, and an equal one leaves it to the digits after it
greater : (a b : ℕ) (later : Ordering) → b < a → ordering_then (nat_cmp a b) later ≡ Greater
greater a b later lower = ap (λ o. ordering_then o later) (sym (nat_cmp_is a b Greater lower))

equal : (a b : ℕ) (later : Ordering) → a ≡ b → later ≡ Greater → ordering_then (nat_cmp a b) later ≡ Greater
equal a b later same after = ap (λ o. ordering_then o later) (sym (nat_cmp_is a b Equal same)) ∙ after

-- how the later digits of two numbers stand
abbrev ones_of : ℕ → ℕ → Ordering
ones_of i j = ordering_then (nat_cmp (48 + i % 10) (48 + j % 10)) Equal

abbrev tens_of : ℕ → ℕ → Ordering
tens_of i j = ordering_then (nat_cmp (48 + i / 10 % 10) (48 + j / 10 % 10)) (ones_of i j)

abbrev hundreds_of : ℕ → ℕ → Ordering
hundreds_of i j = ordering_then (nat_cmp (48 + i / 100 % 10) (48 + j / 100 % 10)) (tens_of i j)

-- the path of a greater number stands after that of a smaller one
pub path_after : (i j : ℕ) → j < i → i < 10000 → path_cmp (file_path i) (file_path j) ≡ Greater
path_after i j lower small =
    ⊎_elim
    (λ (one : j / 1000 < i / 1000). greater (48 + i / 1000 % 10) (48 + j / 1000 % 10) (hundreds_of i j) (omega arith))
    (λ (one : i / 1000 ≤ j / 1000). equal (48 + i / 1000 % 10) (48 + j / 1000 % 10) (hundreds_of i j) (omega arith) (⊎_elim
    (λ (two : j / 100 < i / 100). greater (48 + i / 100 % 10) (48 + j / 100 % 10) (tens_of i j) (omega arith))
    (λ (two : i / 100 ≤ j / 100). equal (48 + i / 100 % 10) (48 + j / 100 % 10) (tens_of i j) (omega arith) (⊎_elim
    (λ (three : j / 10 < i / 10). greater (48 + i / 10 % 10) (48 + j / 10 % 10) (ones_of i j) (omega arith))
    (λ (three : i / 10 ≤ j / 10). equal (48 + i / 10 % 10) (48 + j / 10 % 10) (ones_of i j) (omega arith) (greater (48 + i % 10) (48 + j % 10) Equal (omega arith)))
    (cases_lt (j / 10) (i / 10))))
    (cases_lt (j / 100) (i / 100))))
    (cases_lt (j / 1000) (i / 1000))
