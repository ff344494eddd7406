-- Bytes that move in several calls, where they are told.
use Rattle.std.proofs.Common.{◌≡◌, ℕ, ◌+◌, ◌-◌, ◌<◌, ◌≤◌, List, ◌++◌, length, take, drop, None, Some, sym, ap, ◌∙◌, subst, arith, length-append}
use Rattle.std.proofs.Math.Seq.{take-add}
use Rattle.std.proofs.lemmas.List.{length-take, length-take-le, take-take}
use Rattle.std.proofs.KnownBytes.{Consumes-trans, Appends-trans}
use Rattle.std.specs.declared.option.Option.{Option}
use Rattle.std.specs.Io.KnownBytes.{Consumes, Appends}
use Rattle.srb_io.specs.Told.{IsPast, ConsumesWithin, ConsumesLength}

-- a write of a part of what a piece has after its first p bytes
pub Appends-further : (a b c : Option (List ℕ)) (piece : List ℕ) (p n : ℕ)
    → n ≤ length (take (length piece - p) (drop p piece)) → Appends a b (take p piece)
    → Appends b c (take n (take (length piece - p) (drop p piece))) → Appends a c (take (p + n) piece)
Appends-further a b c piece p n within first more =
    let m = length piece - p in
    let short : n ≤ m = omega (arith, length-take m (drop p piece)) in
    let same : take p piece ++ take n (take m (drop p piece)) ≡ take (p + n) piece =
    ap (λ l. take p piece ++ l) (take-take n m (drop p piece) short) ∙ sym (take-add p n piece) in
    subst (Appends a c) same (Appends-trans a b c _ _ first more)

-- a read after the bytes that were read before
ConsumesLength-more : (a b c : Option (List ℕ)) (before into : List ℕ) (n : ℕ) → n ≤ length into
    → Consumes a b before → Consumes b c (take n into) → ConsumesLength a c (length before + n)
ConsumesLength-more a b c before into n within first more =
    (before ++ take n into, Consumes-trans a b c _ _ first more, omega (arith, length-append before (take n into), length-take-le n into within))

-- who gave more than `most` bytes had more
IsPast-from_length : (a b : Option (List ℕ)) (most n : ℕ) → ConsumesLength a b n → most < n → IsPast most a
IsPast-from_length None b most n gave past = tt
IsPast-from_length (Some xs) None most n gave past = absurd gave.1
IsPast-from_length (Some xs) (Some ys) most n gave past =
    omega (arith, ap length gave.1, length-append gave.0 ys, gave.2)

-- a read that passes the limit by one byte
pub passed : (a b c : Option (List ℕ)) (before into : List ℕ) (n most : ℕ) → n ≤ length into
    → Consumes a b before → Consumes b c (take n into) → length before + n ≡ most + 1
    → IsPast most a × ConsumesLength a c (most + 1)
passed a b c before into n most within first more total =
    let gave = ConsumesLength-more a b c before into n within first more in
    let exact : ConsumesLength a c (most + 1) = (gave.0, gave.1, gave.2 ∙ total) in
    (IsPast-from_length a c most (most + 1) exact (omega arith), exact)

-- a read within a bound
pub ConsumesWithin-more : (a b c : Option (List ℕ)) (before into : List ℕ) (n most : ℕ) → n ≤ length into
    → Consumes a b before → Consumes b c (take n into) → length before + n ≤ most → ConsumesWithin a c most
ConsumesWithin-more a b c before into n most within first more total =
    let gave = ConsumesLength-more a b c before into n within first more in
    (gave.0, gave.1, omega (arith, gave.2))
