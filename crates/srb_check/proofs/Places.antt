-- Places of offsets, byte by byte.
use Rattle.std.proofs.Common.{◌≡◌, ℕ, zero, suc, ◌+◌, ◌<◌, ◌≤◌, List, [], ◌∷◌, drop, length, get_or, min, refl, arith, add-one}
use Rattle.std.proofs.lemmas.Grind.{common_steps}
use Rattle.srb_check.specs.declared.place.Place.{Place}
use Rattle.srb_check.specs.Reports.{moved, place_after, place_of, start}

-- one byte more
place_after-suc : (place : Place) (n : ℕ) (bytes : List ℕ) (d : ℕ) → n < length bytes → place_after place (suc n) bytes ≡ moved (place_after place n bytes) (get_or bytes n d) (drop (suc n) bytes)
place_after-suc place zero [] d h = absurd (omega arith)
place_after-suc place zero (byte ∷ bytes) d h = refl
place_after-suc place (suc n) [] d h = absurd (omega arith)
place_after-suc place (suc n) (byte ∷ bytes) d h = place_after-suc (moved place byte bytes) n bytes d (omega arith)

pub place_of-next : (n : ℕ) (bytes : List ℕ) (d : ℕ) → n < length bytes → place_of bytes (n + 1) ≡ moved (place_of bytes n) (get_or bytes n d) (drop (n + 1) bytes)
place_of-next n bytes d h = rw (add-one n) (place_after-suc start n bytes d h)

-- after the last byte nothing moves
place_after-all : (place : Place) (to at : ℕ) (bytes : List ℕ) → to ≤ at → (to < at → length bytes ≤ to) → place_after place to bytes ≡ place_after place at bytes
place_after-all place zero zero bytes h all = refl
place_after-all place zero (suc at) [] h all = refl
place_after-all place zero (suc at) (byte ∷ bytes) h all = absurd (omega (arith, all (omega arith)))
place_after-all place (suc to) zero bytes h all = absurd (omega arith)
place_after-all place (suc to) (suc at) [] h all = refl
place_after-all place (suc to) (suc at) (byte ∷ bytes) h all = place_after-all (moved place byte bytes) to at bytes (omega arith) (λ less. omega (arith, all (omega arith)))

pub place_of-all : (at : ℕ) (bytes : List ℕ) (to : ℕ) → to ≡ min at (length bytes) → place_of bytes to ≡ place_of bytes at
place_of-all at bytes to h = place_after-all start to at bytes (omega arith) (λ less. omega arith)

-- a byte moves a line and a column by at most one
moved-line : (place : Place) (byte : ℕ) (rest : List ℕ) → (moved place byte rest).line ≤ place.line + 1
moved-line place byte rest = grind (arith, common_steps)

moved-column : (place : Place) (byte : ℕ) (rest : List ℕ) → (moved place byte rest).column ≤ place.column + 1
moved-column place byte rest = grind (arith, common_steps)

-- each line before a place takes a byte, and so does each character before it in its line
place_after-line : (place : Place) (n : ℕ) (bytes : List ℕ) → (place_after place n bytes).line ≤ place.line + n
place_after-line place zero bytes = omega arith
place_after-line place (suc n) [] = omega arith
place_after-line place (suc n) (byte ∷ bytes) = omega (arith, place_after-line (moved place byte bytes) n bytes, moved-line place byte bytes)

place_after-column : (place : Place) (n : ℕ) (bytes : List ℕ) → (place_after place n bytes).column ≤ place.column + n
place_after-column place zero bytes = omega arith
place_after-column place (suc n) [] = omega arith
place_after-column place (suc n) (byte ∷ bytes) = omega (arith, place_after-column (moved place byte bytes) n bytes, moved-column place byte bytes)

pub place_of-line : (at : ℕ) (bytes : List ℕ) → (place_of bytes at).line ≤ at
place_of-line at bytes = omega (arith, place_after-line start at bytes)

pub place_of-column : (at : ℕ) (bytes : List ℕ) → (place_of bytes at).column ≤ at
place_of-column at bytes = omega (arith, place_after-column start at bytes)
