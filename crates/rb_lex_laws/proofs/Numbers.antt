-- The test of a whole number, digit by digit, against the number.
use Rattle.std.proofs.Common.{◌≡◌, ℕ, ◌+◌, ◌*◌, ◌^◌, ◌<◌, ◌≤◌, ◌↔◌, Bool, true, false, ◌==◌, nat_lt, if◌then◌else◌, List, [], ◌∷◌, Option, Some, None, refl, arith}
use Rattle.std.proofs.lemmas.Bool.Decides.{nat_tests}
use Rattle.rb_lex.specs.declared.chars.Set.{Set}
use Rattle.rb_lex.specs.declared.chars.Set.TheVariants as set
use Rattle.rb_lex.specs.Numbers.{base_of, digit_of, with_digit, fits}
use Rattle.rb_lex_laws.specs.Numbers.{FitsAreSmall}
use Rattle.rb_rules.specs.Numerals.{number_from}

more-digit : (s : Set) (v n : ℕ) → v ≤ v * base_of s + n
more-digit set.Word v n = omega arith
more-digit set.Blank v n = omega arith
more-digit set.Binary v n = omega arith
more-digit set.Octal v n = omega arith
more-digit set.Decimal v n = omega arith
more-digit set.Hexadecimal v n = omega arith

-- more digits write no smaller number
grows : (s : Set) (v : ℕ) (w : List ℕ) → v ≤ number_from (base_of s) v w
grows s v [] = omega arith
grows s v (d ∷ w) =
    elim (d == 95) as (λ b. v ≤ number_from (base_of s) (if b then v else v * base_of s + digit_of d) w) [
      | true ↦ grows s v w
      | false ↦ (let more = more-digit s v (digit_of d) in let rest = grows s (v * base_of s + digit_of d) w in omega arith)
    ]

abbrev fits_by : Set → List ℕ → Option ℕ → Bool
fits_by s w o = elim o [ None ↦ false | Some more ↦ fits more s w ]

one-digit : (s : Set) (w : List ℕ) (more : ℕ) (t : Bool) → nat_lt more (2 ^ 128) ≡ t → (more < 2 ^ 128 → (fits more s w ≡ true) ↔ (number_from (base_of s) more w < 2 ^ 128)) → (fits_by s w (if t then Some more else None) ≡ true) ↔ (number_from (base_of s) more w < 2 ^ 128)
one-digit s w more true e rest = let small : more < 2 ^ 128 = grind (arith, nat_tests) in rest small
one-digit s w more false e rest =
    let large : 2 ^ 128 ≤ more = grind (arith, nat_tests) in
    let above = grows s more w in
    (λ h. absurd (cc), λ h. absurd (omega arith))

pub fits-small : FitsAreSmall
fits-small s v [] h = (λ _. h, λ _. refl)
fits-small s v (d ∷ w) h =
    elim (d == 95) as (λ b. ((if b then fits v s w else fits_by s w (with_digit v s d)) ≡ true) ↔ (number_from (base_of s) (if b then v else v * base_of s + digit_of d) w < 2 ^ 128)) [
      | true ↦ fits-small s v w h
      | false ↦ one-digit s w (v * base_of s + digit_of d) (nat_lt (v * base_of s + digit_of d) (2 ^ 128)) refl (λ small. fits-small s (v * base_of s + digit_of d) w small)
    ]
