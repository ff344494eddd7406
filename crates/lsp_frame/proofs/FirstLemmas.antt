-- The first frame of bytes, of which some are read.
use Rattle.std.proofs.Common.{◌≡◌, ℕ, ◌+◌, ◌<◌, ◌≤◌, Bool, true, false, nat_lt, List, [], ◌∷◌, ◌++◌, length, None, Some, refl, ap, ◌∙◌, arith, length-append, if◌then◌else◌}
use Rattle.std.proofs.lemmas.Bool.Decides.{nat_tests}
use Rattle.std.specs.declared.option.Option.{Option}
use Rattle.lsp_frame.specs.declared.head.Scan.{Scan}
use Rattle.lsp_frame.specs.declared.head.Scan.TheVariants.{Line, Name, Value, LineEnd, Before, Digits, After, HeadEnd, Done}
use Rattle.lsp_frame.specs.declared.head.Head.{Head}
use Rattle.lsp_frame.specs.declared.head.Head.TheVariants.{Unended, Broken, Gives}
use Rattle.lsp_frame.specs.declared.first.First.TheVariants.{More, Refused, Oversized, Frame}
use Rattle.lsp_frame.specs.Head.{settled_or, go_on, step_of, head_at, head_from, head_of}
use Rattle.lsp_frame.specs.First.{first_from, first_of}
use Rattle.lsp_frame.proofs.HeadLemmas.{head_from-append}

-- ---- more bytes

body_of-more : (long short short' : Bool) (n s : ℕ) → (short ≡ false → short' ≡ false)
    → ((if long then Oversized n else (if short then More else Frame s (s + n))) ≡ More → ⊥)
    → (if long then Oversized n else (if short' then More else Frame s (s + n))) ≡ (if long then Oversized n else (if short then More else Frame s (s + n)))
body_of-more true short short' n s enough decided = refl
body_of-more false true short' n s enough decided = absurd (decided refl)
body_of-more false false true n s enough decided = absurd (let e : true ≡ false = enough refl in cc)
body_of-more false false false n s enough decided = refl

still_enough : (few many wanted : ℕ) → few ≤ many → nat_lt few wanted ≡ false → nat_lt many wanted ≡ false
still_enough few many wanted more e = grind (arith, nat_tests)

first_from-more : (head : Head) (few many : ℕ) → few ≤ many → (first_from head few ≡ More → ⊥) → first_from head many ≡ first_from head few
first_from-more Unended few many more decided = absurd (decided refl)
first_from-more (Broken at) few many more decided = refl
first_from-more (Gives n s) few many more decided =
    body_of-more (nat_lt 16777216 n) (nat_lt few (s + n)) (nat_lt many (s + n)) n s (still_enough few many (s + n) more) decided

-- what the bytes decide they decide whatever follows
pub first_of-append : (xs ys : List ℕ) → (first_of xs ≡ More → ⊥) → first_of (xs ++ ys) ≡ first_of xs
first_of-append xs ys decided =
    let settled : head_of xs ≡ Unended → ⊥ = λ e. decided (ap (λ h. first_from h (length xs)) e) in
    let longer : length xs ≤ length (xs ++ ys) = omega (arith, length-append xs ys) in
    ap (λ h. first_from h (length (xs ++ ys))) (head_from-append 0 (Line None) xs ys settled) ∙ first_from-more (head_of xs) (length xs) (length (xs ++ ys)) longer decided

-- ---- the size of a head

never_gives : (past : Bool) (size n s : ℕ) → (if past then Broken size else Unended) ≡ Gives n s → ⊥
never_gives true size n s e = cc
never_gives false size n s e = cc

head_at-size : (size : ℕ) (scan : Scan) (n s : ℕ) → head_at size scan ≡ Gives n s → size ≤ s
head_at-size size (Line length) n s e = absurd (never_gives _ size n s e)
head_at-size size (Name matched length) n s e = absurd (never_gives _ size n s e)
head_at-size size (Value length) n s e = absurd (never_gives _ size n s e)
head_at-size size (LineEnd length) n s e = absurd (never_gives _ size n s e)
head_at-size size Before n s e = absurd (never_gives _ size n s e)
head_at-size size (Digits count value) n s e = absurd (never_gives _ size n s e)
head_at-size size (After value) n s e = absurd (never_gives _ size n s e)
head_at-size size (HeadEnd length) n s e = absurd (never_gives _ size n s e)
head_at-size size (Done length) n s e = let same : size ≡ s = cc in omega arith

settled_or-size : (head later : Head) (size n s : ℕ) → (head ≡ Gives n s → size ≤ s) → (later ≡ Gives n s → size ≤ s) → settled_or head later ≡ Gives n s → size ≤ s
settled_or-size Unended later size n s now then_ e = then_ e
settled_or-size (Broken at) later size n s now then_ e = now e
settled_or-size (Gives length at) later size n s now then_ e = now e

go_on-size : (next : Option Scan) (at size n s : ℕ) (f : Scan → Head) → ((scan : Scan) → f scan ≡ Gives n s → size ≤ s) → go_on next (Broken at) f ≡ Gives n s → size ≤ s
go_on-size None at size n s f later e = absurd (let wrong : Broken at ≡ Gives n s = e in cc)
go_on-size (Some scan) at size n s f later e = later scan e

head_from-size : (size : ℕ) (scan : Scan) (xs : List ℕ) (n s : ℕ) → head_from size scan xs ≡ Gives n s → size ≤ s
head_from-size size scan [] n s e = head_at-size size scan n s e
head_from-size size scan (x ∷ xs) n s e =
    settled_or-size (head_at size scan) _ size n s (head_at-size size scan n s) (go_on-size (step_of scan x) size size n s _ (λ next h. let after : size + 1 ≤ s = head_from-size (size + 1) next xs n s h in omega arith)) e

-- a head isn't empty
pub head_of-size : (xs : List ℕ) (n s : ℕ) → head_of xs ≡ Gives n s → 0 < s
head_of-size [] n s e = absurd (let wrong : Unended ≡ Gives n s = e in cc)
head_of-size (x ∷ xs) n s e =
    go_on-size (step_of (Line None) x) 0 1 n s _ (λ next h. head_from-size 1 next xs n s h) e

-- ---- where a frame stands

framed : (long short : Bool) (n s from to : ℕ) → (if long then Oversized n else (if short then More else Frame s (s + n))) ≡ Frame from to → (short ≡ false) × (s ≡ from) × (s + n ≡ to)
framed true short n s from to e = absurd (let wrong : Oversized n ≡ Frame from to = e in cc)
framed false true n s from to e = absurd (let wrong : More ≡ Frame from to = e in cc)
framed false false n s from to e = (refl, cc, cc)

enough : (available wanted : ℕ) → nat_lt available wanted ≡ false → wanted ≤ available
enough available wanted e = grind (arith, nat_tests)

first_from-frame : (head : Head) (available from to : ℕ) → first_from head available ≡ Frame from to
    → (n : ℕ) × (head ≡ Gives n from) × (to ≡ from + n) × (to ≤ available)
first_from-frame Unended available from to e = absurd (let wrong : More ≡ Frame from to = e in cc)
first_from-frame (Broken at) available from to e = absurd (let wrong : Refused at ≡ Frame from to = e in cc)
first_from-frame (Gives n s) available from to e =
    let is = framed (nat_lt 16777216 n) (nat_lt available (s + n)) n s from to e in
    let there : s + n ≤ available = enough available (s + n) is.0 in
    (n, ap (λ k. Gives n k) is.1, omega (arith, is.1, is.2), omega (arith, there, is.2))

-- the body of a frame stands after its head, and all of it is there
pub first_of-frame : (xs : List ℕ) (from to : ℕ) → first_of xs ≡ Frame from to → (0 < from) × (from ≤ to) × (to ≤ length xs)
first_of-frame xs from to e =
    let is = first_from-frame (head_of xs) (length xs) from to e in
    (head_of-size xs is.0 from is.1, omega (arith, is.2), is.3)
