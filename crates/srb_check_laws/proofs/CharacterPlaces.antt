-- The characters of a text in its bytes: where one begins, the next begins after it or the text ends.
use Rattle.std.proofs.Common.{◌≡◌, ℕ, ◌+◌, ◌<◌, ◌≤◌, ◌&&◌, Bool, true, false, nat_le, List, [], ◌∷◌, ◌++◌, length, drop, refl, sym, subst, ap, ◌∙◌, arith, append_assoc}
use Rattle.std.specs.List.{AllByRecursion}
use Rattle.std.specs.Char.{len_utf8}
use Rattle.std.specs.Str.{encode_utf8_all}
use Rattle.std.proofs.lemmas.Bool.Decides.{nat_tests}
use Rattle.std.proofs.lemmas.List.Sums.{sum_by-append, sum_by-cons}
use Rattle.std.proofs.lemmas.Str.{length-encode}
use borrow.Author.Tests.{leb-true}
use lib.Utf8.{encodes}
use Rattle.srb_text.specs.Positions.{fitting, byte_len, IsStart}
use Rattle.srb_text.specs.Units.{weight_at}
use Rattle.srb_text.specs.declared.Encoding.TheVariants.{Utf32}
use Rattle.srb_text.proofs.FittingLemmas.{fitting_split, fitting_whole, sum_by-fitting-front}
use Rattle.srb_text.proofs.SpellingLemmas.{Spelled, spelled, weight_following, length-encodes}
use Rattle.srb_text.proofs.TransferLemmas.{drop-encodes}
use Rattle.srb_check.specs.Characters.{continues, continuing, first_size, character_at}

following : (b : ℕ) → 128 ≤ b → b < 192 → continues b ≡ true
following b low high = grind (arith, nat_tests)

leading : (b : ℕ) → 0 < weight_at Utf32 b → continues b ≡ false
leading b h = by_test (nat_le 128 b) (nat_le b 191) refl refl
  where
    by_test : (low high : Bool) → nat_le 128 b ≡ low → nat_le b 191 ≡ high → (low && high) ≡ false
    by_test true true e f = absurd (omega (arith, weight_following Utf32 b (leb-true 128 b e) (omega (arith, leb-true b 191 f))))
    by_test true false e f = refl
    by_test false high e f = refl

begins : (c : ℕ) (s : Spelled c) → continues s.lead ≡ false
begins c s = leading s.lead (omega (arith, s.units Utf32))

continuing-more : (more rest : List ℕ) → AllByRecursion (λ b. (128 ≤ b) × (b < 192)) more → continuing rest ≡ 0 → continuing (more ++ rest) ≡ length more
continuing-more [] rest h none = none
continuing-more (b ∷ bs) rest h none =
    let e : continues b ≡ true = following b h.0.0 h.0.1 in
    let later = continuing-more bs rest h.1 none in
    rw e (omega (arith, later))

continuing-encodes : (cs : List ℕ) → continuing (encodes cs) ≡ 0
continuing-encodes [] = refl
continuing-encodes (c ∷ cs) =
    let s : Spelled c = spelled c in
    let e : continues s.lead ≡ false = begins c s in
    ap (λ v. continuing (v ++ encodes cs)) s.bytes ∙ rw e refl

pub first_size-encodes : (c : ℕ) (cs : List ℕ) → first_size (encodes (c ∷ cs)) ≡ len_utf8 c
first_size-encodes c cs =
    let s : Spelled c = spelled c in
    ap (λ v. first_size (v ++ encodes cs)) s.bytes
    ∙ omega (arith, continuing-more s.more (encodes cs) s.follow (continuing-encodes cs), ap length s.bytes, length-encode c)

-- the end of a front of a text
front-start : (text front rest : List ℕ) (at : ℕ) → front ++ rest ≡ text → byte_len front ≡ at → IsStart text at
front-start text front rest at e f =
    subst (IsStart text) f (subst (λ t. IsStart t (byte_len front)) e (sum_by-fitting-front len_utf8 front rest))

pub text-start : (text : List ℕ) → IsStart text 0
text-start text = front-start text [] text 0 refl refl

pub text-end : (text : List ℕ) → IsStart text (length (encode_utf8_all text))
text-end text = ap byte_len (fitting_whole len_utf8 (length (encodes text)) text (omega (arith, length-encodes text))) ∙ sym (length-encodes text)

-- after a character another begins, or the text ends
pub character-end : (text : List ℕ) (at : ℕ) → IsStart text at → IsStart text (character_at (encode_utf8_all text) at).end
character-end text at h =
    let rest : List ℕ = drop (length (fitting len_utf8 at text)) text in
    let after : first_size (drop at (encodes text)) ≡ first_size (encodes rest) = ap first_size (drop-encodes text at h) in
    subst (λ n. IsStart text (at + n)) (sym after) (by_rest rest (fitting_split len_utf8 at text))
  where
    by_rest : (rest : List ℕ) → fitting len_utf8 at text ++ rest ≡ text → IsStart text (at + first_size (encodes rest))
    by_rest [] e = let same : at ≡ at + 0 = omega arith in subst (IsStart text) same h
    by_rest (c ∷ cs) e =
        let front : List ℕ = fitting len_utf8 at text in
        let size : byte_len (front ++ c ∷ []) ≡ at + first_size (encodes (c ∷ cs)) =
        sum_by-append len_utf8 front (c ∷ []) ∙ omega (arith, h, first_size-encodes c cs, sum_by-cons len_utf8 c []) in
        front-start text (front ++ c ∷ []) cs (at + first_size (encodes (c ∷ cs))) (append_assoc front (c ∷ []) cs ∙ e) size
