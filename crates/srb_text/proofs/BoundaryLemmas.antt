-- Where characters start is where their bytes may be cut.
use Rattle.std.proofs.Common.{◌≡◌, ℕ, zero, suc, ◌+◌, ◌-◌, ◌<◌, ◌≤◌, List, [], ◌∷◌, ◌++◌, length, get_or, sym, subst, ap, ◌∙◌, ⊎_elim, arith, length-append, length-drop}
use Rattle.std.proofs.lemmas.Bool.{cases_lt}
use Rattle.std.proofs.lemmas.List.{get_or_append_left, get_or-append_right, get_or-drop}
use Rattle.std.proofs.lemmas.List.Sums.{sum_by-cons}
use Rattle.std.proofs.lemmas.Str.{length-encode}
use Rattle.std.specs.List.{AllByRecursion}
use Rattle.std.specs.Char.{len_utf8}
use Rattle.std.specs.Str.{IsCharBoundary}
use lib.Utf8.{encode, encodes}
use Rattle.srb_text.specs.declared.Encoding.TheVariants.{Utf32}
use Rattle.srb_text.specs.Edits.{after}
use Rattle.srb_text.specs.Laws.{StartsAreBoundaries}
use Rattle.srb_text.specs.Positions.{byte_len, fitting, IsStart}
use Rattle.srb_text.proofs.FittingLemmas.{fitting_more, fitting_none}
use Rattle.srb_text.proofs.SpellingLemmas.{Spelled, spelled, weight_following, length-encodes}
use Rattle.srb_text.proofs.TransferLemmas.{drop-encodes, start_within}

-- a byte that begins a character is no byte that follows one
lead_high : (c : ℕ) (s : Spelled c) → 128 ≤ s.lead → 192 ≤ s.lead
lead_high c s h =
    ⊎_elim (λ (low : s.lead < 192). absurd (omega (arith, s.units Utf32, weight_following Utf32 s.lead h low))) (λ (high : 192 ≤ s.lead). high) (cases_lt s.lead 192)

cut_before : (text : List ℕ) → 0 < length (encodes text) → 128 ≤ get_or (encodes text) 0 0 → 192 ≤ get_or (encodes text) 0 0
cut_before [] l h = absurd (omega arith)
cut_before (c ∷ cs) l h =
    let s = spelled c in
    let same : get_or (encodes (c ∷ cs)) 0 0 ≡ s.lead = ap (λ (v : List ℕ). get_or (v ++ encodes cs) 0 0) s.bytes in
    omega (arith, same, lead_high c s (omega (arith, same)))

boundary_from_start : (text : List ℕ) (at : ℕ) → IsStart text at → IsCharBoundary (encodes text) at
boundary_from_start text at s =
    let rest = drop-encodes text at s in
    let none : at + 0 ≡ at = omega arith in
    let byte : get_or (encodes text) at 0 ≡ get_or (encodes (after at text)) 0 0 =
    ap (λ (n : ℕ). get_or (encodes text) n 0) (sym none) ∙ sym (get_or-drop at (encodes text) 0 0) ∙ ap (λ (v : List ℕ). get_or v 0 0) rest in (
      omega (arith, start_within text at s, length-encodes text),
      λ l h. omega (arith, byte, cut_before (after at text) (omega (arith, ap length rest, length-drop at (encodes text))) (omega (arith, byte))),
    )

follows : (n : ℕ) (bs : List ℕ) → AllByRecursion (λ b. (128 ≤ b) × (b < 192)) bs → n < length bs → (128 ≤ get_or bs n 0) × (get_or bs n 0 < 192)
follows n [] h l = absurd (omega arith)
follows zero (b ∷ bs) h l = h.0
follows (suc n) (b ∷ bs) h l = follows n bs h.1 (omega arith)

-- no place inside a character may be cut
inside : (c at : ℕ) (rest : List ℕ) → 0 < at → at < length (encode c) → IsCharBoundary (encode c ++ rest) at → ⊥
inside c zero rest some l b = omega arith
inside c (suc k) rest some l b =
    let s = spelled c in
    let long : k < length s.more = omega (arith, ap length s.bytes) in
    let byte : get_or (encode c ++ rest) (suc k) 0 ≡ get_or s.more k 0 = get_or_append_left (encode c) rest 0 (suc k) l ∙ ap (λ (v : List ℕ). get_or v (suc k) 0) s.bytes in
    let high : 192 ≤ get_or (encode c ++ rest) (suc k) 0 = b.1 (omega (arith, length-append (encode c) rest)) (omega (arith, byte, follows k s.more s.follow long)) in
    omega (arith, byte, high, follows k s.more s.follow long)

start_from_boundary : (text : List ℕ) (at : ℕ) → IsCharBoundary (encodes text) at → IsStart text at
start_from_boundary [] at b = omega (arith, b.0)
start_from_boundary (c ∷ cs) at b =
    ⊎_elim (λ (lt : at < len_utf8 c).
    ⊎_elim (λ (some : 0 < at). absurd (inside c at (encodes cs) some (omega (arith, length-encode c)) b))
    (λ (none : at ≤ 0). ap byte_len (fitting_none len_utf8 at c cs lt) ∙ omega arith)
    (cases_lt 0 at))
    (λ (ge : len_utf8 c ≤ at).
    let past : get_or (encodes (c ∷ cs)) at 0 ≡ get_or (encodes cs) (at - len_utf8 c) 0 = get_or-append_right (encode c) (encodes cs) (len_utf8 c) at 0 (length-encode c) ge in
    let long = length-append (encode c) (encodes cs) in
    let more : IsStart cs (at - len_utf8 c) = start_from_boundary cs (at - len_utf8 c) (omega (arith, b.0, long, length-encode c), λ l h. subst (λ (n : ℕ). 192 ≤ n) past (b.1 (omega (arith, long, length-encode c)) (omega (arith, past)))) in
    omega (arith, more, ap byte_len (fitting_more len_utf8 at c cs ge), sum_by-cons len_utf8 c (fitting len_utf8 (at - len_utf8 c) cs)))
    (cases_lt at (len_utf8 c))

pub starts_are_boundaries : StartsAreBoundaries
starts_are_boundaries = λ text at. (boundary_from_start text at, start_from_boundary text at)
