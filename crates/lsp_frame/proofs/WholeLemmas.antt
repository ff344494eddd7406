-- The bodies of some bytes, by the grammar.
use Rattle.std.proofs.Common.{◌≡◌, ◌⊎◌, ℕ, ◌+◌, ◌-◌, ◌<◌, ◌≤◌, nat_lt, Bool, true, false, if◌then◌else◌, zero, suc, List, [], ◌∷◌, ◌++◌, length, take, drop, refl, sym, ap, ◌∙◌, subst, inl, inr, arith, append_assoc, length-append}
use Rattle.std.specs.List.{slice_range}
use Rattle.std.proofs.Math.Seq.{take-add}
use Rattle.std.proofs.lemmas.List.{take-append-drop, length-take-le, length-drop}
use Rattle.std.proofs.lemmas.Bool.Decides.{nat_tests}
use Rattle.lsp_frame.specs.declared.head.Head.{Head}
use Rattle.lsp_frame.specs.declared.head.Head.TheVariants.{Unended, Broken, Gives}
use Rattle.lsp_frame.specs.declared.first.First.{First}
use Rattle.lsp_frame.specs.declared.first.First.TheVariants.{More, Refused, Oversized, Frame}
use Rattle.lsp_frame.specs.Head.{head_of}
use Rattle.lsp_frame.specs.First.{first_from, first_of}
use Rattle.lsp_frame.specs.Bodies.{Bodies, Ending, place_after, bodies_at, with_body, ends}
use Rattle.lsp_frame.specs.Bodies.Ending.{Closed, Torn, Malformed, PastLimit}
use Rattle.lsp_frame.specs.Grammar.{IsHead, IsUnended, BreaksAt, HeadSays, IsFrame, IsBodyShort, IsPastLimit, EndSays, BodiesSay}
use Rattle.lsp_frame.proofs.BodiesLemmas.{bodies_at-frame, bodies_at-refused, bodies_at-long, bodies_at-torn}
use Rattle.lsp_frame.proofs.SaysLemmas.{head_says}

-- what is said of the first frame of some bytes
abbrev FirstSays : List ℕ → First → Type 0
FirstSays bytes More = (IsUnended bytes × (length bytes < 4096)) ⊎ IsBodyShort bytes
FirstSays bytes (Refused size) = BreaksAt bytes size
FirstSays bytes (Oversized n) = IsPastLimit bytes n
FirstSays bytes (Frame from to) = IsFrame (take to bytes) (slice_range bytes from to) × (to ≤ length bytes) × (0 < to)

is_less : (a b : ℕ) → nat_lt a b ≡ true → a < b
is_less a b e = grind (arith, nat_tests)

not_less : (a b : ℕ) → nat_lt a b ≡ false → b ≤ a
not_less a b e = grind (arith, nat_tests)

split_at : (size : ℕ) (bytes : List ℕ) → bytes ≡ take size bytes ++ drop size bytes
split_at size bytes = sym (take-append-drop size bytes)

head_not_empty : (n size : ℕ) (bytes : List ℕ) → IsHead (take size bytes) n → 0 < size
head_not_empty n zero bytes is =
    let long : 0 ≡ length is.0 + 2 = ap length is.2 ∙ length-append is.0 (13 ∷ 10 ∷ []) in absurd (omega (arith, long))
head_not_empty n (suc size) bytes is = omega arith

-- after a head
gives_first : (long short : Bool) (n size : ℕ) (bytes : List ℕ) → nat_lt 16777216 n ≡ long → nat_lt (length bytes) (size + n) ≡ short
    → HeadSays bytes (Gives n size) → FirstSays bytes (if long then Oversized n else (if short then More else Frame size (size + n)))
gives_first true short n size bytes is_long is_short says =
    let whole : length (take size bytes) ≡ size = length-take-le size bytes says.1 in
    record {
      head = take size bytes;
      later = drop size bytes;
      is_head = says.0;
      is = split_at size bytes;
      short = omega (arith, whole, says.2);
      past = is_less 16777216 n is_long;
    }
gives_first false true n size bytes is_long is_short says =
    let missing : length bytes < size + n = is_less (length bytes) (size + n) is_short in
    inr (record {
      head = take size bytes;
      part = drop size bytes;
      wanted = n;
      is_head = says.0;
      is = split_at size bytes;
      short = omega (arith, missing, length-drop size bytes, says.1);
      within = not_less 16777216 n is_long;
    })
gives_first false false n size bytes is_long is_short says =
    let there : size + n ≤ length bytes = not_less (length bytes) (size + n) is_short in
    let whole : length (take size bytes) ≡ size = length-take-le size bytes says.1 in
    let span : size + n - size ≡ n = omega arith in
    let fits : n ≤ length (drop size bytes) = omega (arith, there, length-drop size bytes) in
    let body_long : length (slice_range bytes size (size + n)) ≡ n = ap (λ k. length (take k (drop size bytes))) span ∙ length-take-le n (drop size bytes) fits in (
      record {
        head = take size bytes;
        is_head = subst (IsHead (take size bytes)) (sym body_long) says.0;
        is = take-add size n bytes ∙ ap (λ k. take size bytes ++ take k (drop size bytes)) (sym span);
        short = omega (arith, whole, says.2);
        within = omega (arith, body_long, not_less 16777216 n is_long);
      },
      there,
      omega (arith, head_not_empty n size bytes says.0),
    )

first_from_says : (head : Head) (bytes : List ℕ) → HeadSays bytes head → FirstSays bytes (first_from head (length bytes))
first_from_says Unended bytes says = inl says
first_from_says (Broken at) bytes says = says
first_from_says (Gives n size) bytes says =
    gives_first (nat_lt 16777216 n) (nat_lt (length bytes) (size + n)) n size bytes refl refl says

first_says : (bytes : List ℕ) → FirstSays bytes (first_of bytes)
first_says bytes = first_from_says (head_of bytes) bytes (head_says bytes)

-- ---- places

after_twice : (at n m : ℕ) → place_after (place_after at n) m ≡ place_after at (n + m)
after_twice at n m = omega arith

after_none : (at m : ℕ) → place_after at m ≡ place_after (place_after at 0) m
after_none at m = omega arith

-- ---- the bodies

-- no frame, and an end
only_end : (at : ℕ) (bytes : List ℕ) (end : Ending) → EndSays bytes (place_after at 0) end → BodiesSay bytes at (ends end)
only_end at bytes end says = ([], bytes, refl, refl, says)

-- one more frame in front
one_more : (at from to : ℕ) (bytes : List ℕ) (later : Bodies) → FirstSays bytes (Frame from to) → BodiesSay (drop to bytes) (place_after at to) later
    → BodiesSay bytes at (with_body (slice_range bytes from to) later)
one_more at from to bytes later first says =
    let front = take to bytes ++ says.0 in
    let whole : bytes ≡ front ++ says.1 = split_at to bytes ∙ ap (λ l. take to bytes ++ l) says.2 ∙ sym (append_assoc (take to bytes) says.0 says.1) in
    let long : to + length says.0 ≡ length front = ap (λ k. k + length says.0) (sym (length-take-le to bytes first.1)) ∙ sym (length-append (take to bytes) says.0) in
    let place : place_after (place_after at to) (length says.0) ≡ place_after at (length front) = after_twice at to (length says.0) ∙ ap (place_after at) long in
    (front, says.1, whole, (take to bytes, says.0, first.0, says.3, refl), subst (λ p. EndSays says.1 p later.end) place says.4)

by_first : (fuel at : ℕ) (b : ℕ) (rest : List ℕ) (first : First) → first_of (b ∷ rest) ≡ first → length (b ∷ rest) ≤ suc fuel
    → ((at : ℕ) (bytes : List ℕ) → length bytes ≤ fuel → BodiesSay bytes at (bodies_at at bytes))
    → FirstSays (b ∷ rest) first → BodiesSay (b ∷ rest) at (bodies_at at (b ∷ rest))
by_first fuel at b rest More is short later says =
    let some : 0 < length (b ∷ rest) = omega arith in
    subst (BodiesSay (b ∷ rest) at) (sym (bodies_at-torn at (b ∷ rest) is some)) (only_end at (b ∷ rest) (Torn (place_after at (length (b ∷ rest)))) (some, after_none at (length (b ∷ rest)), says))
by_first fuel at b rest (Refused size) is short later says =
    subst (BodiesSay (b ∷ rest) at) (sym (bodies_at-refused at (b ∷ rest) size is)) (only_end at (b ∷ rest) (Malformed (place_after at size)) (size, after_none at size, says))
by_first fuel at b rest (Oversized n) is short later says =
    subst (BodiesSay (b ∷ rest) at) (sym (bodies_at-long at (b ∷ rest) n is)) (only_end at (b ∷ rest) (PastLimit n) says)
by_first fuel at b rest (Frame from to) is short later says =
    let shorter : length (drop to (b ∷ rest)) ≤ fuel = omega (arith, short, length-drop to (b ∷ rest), says.1, says.2) in
    subst (BodiesSay (b ∷ rest) at) (sym (bodies_at-frame at (b ∷ rest) from to is)) (one_more at from to (b ∷ rest) _ says (later (place_after at to) (drop to (b ∷ rest)) shorter))

bodies_say_within : (fuel at : ℕ) (bytes : List ℕ) → length bytes ≤ fuel → BodiesSay bytes at (bodies_at at bytes)
bodies_say_within fuel at [] short = only_end at [] Closed refl
bodies_say_within zero at (b ∷ rest) short = absurd (omega (arith, short))
bodies_say_within (suc fuel) at (b ∷ rest) short =
    by_first fuel at b rest (first_of (b ∷ rest)) refl short (λ place bytes h. bodies_say_within fuel place bytes h) (first_says (b ∷ rest))

-- the bodies of some bytes and their end, by the grammar
pub bodies_say : (at : ℕ) (bytes : List ℕ) → BodiesSay bytes at (bodies_at at bytes)
bodies_say at bytes = bodies_say_within (length bytes) at bytes (omega arith)
