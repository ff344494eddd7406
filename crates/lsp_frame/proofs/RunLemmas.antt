-- A scan of a head comes to its end, and a scan that goes on can come to an end.
use Rattle.std.proofs.Common.{◌≡◌, ◌==◌, ℕ, ◌+◌, ◌-◌, ◌*◌, ◌<◌, ◌≤◌, nat_lt, Bool, true, false, ◌&&◌, if◌then◌else◌, zero, suc, List, [], ◌∷◌, ◌++◌, length, None, Some, refl, sym, ap, ◌∙◌, subst, arith, codes, not}
use Rattle.std.specs.List.{concat, slice_index}
use Rattle.std.specs.Char.{is_ascii_digit, to_ascii_lowercase}
use Rattle.std.proofs.lemmas.Bool.Decides.{nat_tests}
use Rattle.std.specs.declared.option.Option.{Option}
use Rattle.lsp_frame.specs.declared.head.Scan.{Scan}
use Rattle.lsp_frame.specs.declared.head.Scan.TheVariants.{Line, Name, Value, LineEnd, Before, Digits, After, HeadEnd, Done}
use Rattle.lsp_frame.specs.Bytes.{is_name_byte, is_value_byte, is_blank, content_length}
use Rattle.lsp_frame.specs.Head.{name_matched, end_step, length_step, colon_step, after_step, blank_step, step_of}
use Rattle.lsp_frame.specs.Grammar.{Each, IsName, IsOtherLine, number_after, IsLengthLine, EachOther, OtherLines, LengthLines, IsHead}
use Rattle.lsp_frame.proofs.ScanLemmas.{matched}
use Rattle.lsp_frame.proofs.NameLemmas.{matched-name, name-matched}
use Rattle.lsp_frame.proofs.ReachedLemmas.{Reached}

-- where a scan stands after some bytes, or `None` where no head begins so
abbrev pub run_on : Option Scan → (Scan → Option Scan) → Option Scan
run_on None later = None
run_on (Some scan) later = later scan

abbrev pub runs : Scan → List ℕ → Option Scan
runs scan [] = Some scan
runs scan (b ∷ rest) = run_on (step_of scan b) (λ next. runs next rest)

run_on-through : (next : Option Scan) (f g : Scan → Option Scan) (t : Scan) (u : Option Scan) → ((s : Scan) → f s ≡ Some t → g s ≡ u)
    → run_on next f ≡ Some t → run_on next g ≡ u
run_on-through None f g t u later e = absurd (let wrong : None ≡ Some t = e in cc)
run_on-through (Some s) f g t u later e = later s e

-- two stretches of bytes
pub runs-through : (s t : Scan) (xs ys : List ℕ) → runs s xs ≡ Some t → runs s (xs ++ ys) ≡ runs t ys
runs-through s t [] ys e = let is : s ≡ t = cc in ap (λ u. runs u ys) is
runs-through s t (x ∷ xs) ys e = run_on-through (step_of s x) _ _ t (runs t ys) (λ next h. runs-through next t xs ys h) e

then_run : (s t : Scan) (u : Option Scan) (xs ys : List ℕ) → runs s xs ≡ Some t → runs t ys ≡ u → runs s (xs ++ ys) ≡ u
then_run s t u xs ys first second = runs-through s t xs ys first ∙ second

one_step : (s t : Scan) (u : Option Scan) (b : ℕ) (rest : List ℕ) → step_of s b ≡ Some t → runs t rest ≡ u → runs s (b ∷ rest) ≡ u
one_step s t u b rest first second = ap (λ o. run_on o (λ next. runs next rest)) first ∙ second

if_true : {X : Type 0} (test : Bool) (x y : X) → test ≡ true → (if test then x else y) ≡ x
if_true true x y e = refl
if_true false x y e = absurd (let wrong : false ≡ true = e in cc)

if_false : {X : Type 0} (test : Bool) (x y : X) → test ≡ false → (if test then x else y) ≡ y
if_false true x y e = absurd (let wrong : true ≡ false = e in cc)
if_false false x y e = refl

-- ---- names

in_name : (so_far length : Option ℕ) (name : List ℕ) → Each is_name_byte name → runs (Name so_far length) name ≡ Some (Name (matched so_far name) length)
in_name so_far length [] each = refl
in_name so_far length (b ∷ rest) each =
    one_step (Name so_far length) (Name (name_matched so_far b) length) _ b rest (if_true (is_name_byte b) (Some (Name (name_matched so_far b) length)) (if b == 58 then colon_step so_far length else None) each.0) (in_name (name_matched so_far b) length rest each.1)

whole_name : (length : Option ℕ) (name : List ℕ) → IsName name → runs (Line length) name ≡ Some (Name (matched (Some 0) name) length)
whole_name length [] is = absurd (let none : 0 < 0 = is.some in omega arith)
whole_name length (b ∷ rest) is =
    one_step (Line length) (Name (name_matched (Some 0) b) length) _ b rest (if_true (is_name_byte b) (Some (Name (name_matched (Some 0) b) length)) (end_step length b) is.bytes.0) (in_name (name_matched (Some 0) b) length rest is.bytes.1)

-- ---- other lines

differs : (k : ℕ) → (Some k ≡ Some 14 → ⊥) → (k == 14) ≡ false
differs k other = let ne : k ≡ 14 → ⊥ = λ e. other (ap Some e) in grind (arith, nat_tests)

other_colon : (so_far length : Option ℕ) → (so_far ≡ Some 14 → ⊥) → step_of (Name so_far length) 58 ≡ Some (Value length)
other_colon None length other = refl
other_colon (Some k) length other = if_false (k == 14) (length_step length) (Some (Value length)) (differs k other)

in_value : (length : Option ℕ) (value : List ℕ) → Each is_value_byte value → runs (Value length) value ≡ Some (Value length)
in_value length [] each = refl
in_value length (b ∷ rest) each =
    one_step (Value length) (Value length) _ b rest (if_true (is_value_byte b) (Some (Value length)) (if b == 13 then Some (LineEnd length) else None) each.0) (in_value length rest each.1)

other_line : (length : Option ℕ) (line : List ℕ) → IsOtherLine line → runs (Line length) line ≡ Some (Line length)
other_line length line is =
    let so_far = matched (Some 0) is.name in
    let after_value : runs (Value length) (is.value ++ (13 ∷ 10 ∷ [])) ≡ Some (Line length) =
    then_run (Value length) (Value length) _ is.value (13 ∷ 10 ∷ []) (in_value length is.value is.bytes) refl in
    let after_name : runs (Name so_far length) (58 ∷ (is.value ++ (13 ∷ 10 ∷ []))) ≡ Some (Line length) =
    one_step (Name so_far length) (Value length) _ 58 _ (other_colon so_far length (λ e. is.other (matched-name is.name e))) after_value in
    ap (runs (Line length)) is.is ∙ then_run (Line length) (Name so_far length) _ is.name _ (whole_name length is.name is.named) after_name

each_other : (length : Option ℕ) (lines : List (List ℕ)) → EachOther lines → runs (Line length) (concat lines) ≡ Some (Line length)
each_other length [] each = refl
each_other length (line ∷ lines) each =
    then_run (Line length) (Line length) _ line (concat lines) (other_line length line each.0) (each_other length lines each.1)

other_lines : (length : Option ℕ) (bytes : List ℕ) → OtherLines bytes → runs (Line length) bytes ≡ Some (Line length)
other_lines length bytes is = ap (runs (Line length)) is.2 ∙ each_other length is.0 is.1

-- ---- the line of the length

not_digit : (b : ℕ) → is_blank b ≡ true → is_ascii_digit b ≡ false
not_digit b e = grind (arith, nat_tests)

not_zero : (count : ℕ) → 0 < count → (count == 0) ≡ false
not_zero count some = grind (arith, nat_tests)

is_less : (a b : ℕ) → a < b → nat_lt a b ≡ true
is_less a b e = grind (arith, nat_tests)

in_front : (front : List ℕ) → Each is_blank front → runs Before front ≡ Some Before
in_front [] each = refl
in_front (b ∷ rest) each =
    let step : step_of Before b ≡ Some Before =
    if_false (is_ascii_digit b) _ (blank_step 0 0 b) (not_digit b each.0) ∙ if_true (is_blank b) (Some Before) None each.0 in
    one_step Before Before _ b rest step (in_front rest each.1)

one_digit : (count value b : ℕ) → count < 19 → is_ascii_digit b ≡ true → step_of (Digits count value) b ≡ Some (Digits (count + 1) (value * 10 + (b - 48)))
one_digit count value b room is =
    if_true (is_ascii_digit b) _ (blank_step count value b) is ∙ if_true (nat_lt count 19) (Some (Digits (count + 1) (value * 10 + (b - 48)))) None (is_less count 19 room)

in_digits : (count value : ℕ) (digits : List ℕ) → Each is_ascii_digit digits → count + length digits ≤ 19
    → runs (Digits count value) digits ≡ Some (Digits (count + length digits) (number_after value digits))
in_digits count value [] each few = let z : count + 0 ≡ count = omega arith in ap (λ k. Some (Digits k value)) (sym z)
in_digits count value (b ∷ rest) each few =
    let room : count < 19 = omega arith in
    let fewer : count + 1 + length rest ≤ 19 = omega arith in
    let total : count + 1 + length rest ≡ count + suc (length rest) = omega arith in
    one_step (Digits count value) (Digits (count + 1) (value * 10 + (b - 48))) _ b rest (one_digit count value b room each.0) (in_digits (count + 1) (value * 10 + (b - 48)) rest each.1 fewer ∙ ap (λ k. Some (Digits k (number_after (value * 10 + (b - 48)) rest))) total)

whole_digits : (digits : List ℕ) → Each is_ascii_digit digits → 0 < length digits → length digits ≤ 19 → runs Before digits ≡ Some (Digits (length digits) (number_after 0 digits))
whole_digits [] each some few = absurd (omega arith)
whole_digits (b ∷ rest) each some few =
    let fewer : 1 + length rest ≤ 19 = omega arith in
    let total : 1 + length rest ≡ suc (length rest) = omega arith in
    one_step Before (Digits 1 (0 * 10 + (b - 48))) _ b rest (if_true (is_ascii_digit b) _ (blank_step 0 0 b) each.0) (in_digits 1 (0 * 10 + (b - 48)) rest each.1 fewer ∙ ap (λ k. Some (Digits k (number_after (0 * 10 + (b - 48)) rest))) total)

in_back : (value : ℕ) (back : List ℕ) → Each is_blank back → runs (After value) (back ++ (13 ∷ 10 ∷ [])) ≡ Some (Line (Some value))
in_back value [] each = refl
in_back value (b ∷ rest) each =
    one_step (After value) (After value) _ b _ (if_true (is_blank b) (Some (After value)) (if b == 13 then Some (LineEnd (Some value)) else None) each.0) (in_back value rest each.1)

pub whole_back : (count value : ℕ) (back : List ℕ) → 0 < count → Each is_blank back → runs (Digits count value) (back ++ (13 ∷ 10 ∷ [])) ≡ Some (Line (Some value))
whole_back count value [] some each =
    one_step (Digits count value) (LineEnd (Some value)) _ 13 (10 ∷ []) (if_false (count == 0) None (after_step value 13) (not_zero count some)) refl
whole_back count value (b ∷ rest) some each =
    let step : step_of (Digits count value) b ≡ Some (After value) =
    if_false (is_ascii_digit b) _ (blank_step count value b) (not_digit b each.0) ∙ if_false (count == 0) _ (after_step value b) (not_zero count some) ∙ if_true (is_blank b) (Some (After value)) (if b == 13 then Some (LineEnd (Some value)) else None) each.0 in
    one_step (Digits count value) (After value) _ b _ step (in_back value rest each.1)

length_line : (line : List ℕ) (n : ℕ) → IsLengthLine line n → runs (Line None) line ≡ Some (Line (Some n))
length_line line n is =
    let value = number_after 0 is.digits in
    let after_digits : runs (Digits (length is.digits) value) (is.back ++ (13 ∷ 10 ∷ [])) ≡ Some (Line (Some n)) =
    whole_back (length is.digits) value is.back is.some is.blank_back ∙ ap (λ v. Some (Line (Some v))) (sym is.number) in
    let after_front : runs Before (is.digits ++ (is.back ++ (13 ∷ 10 ∷ []))) ≡ Some (Line (Some n)) =
    then_run Before (Digits (length is.digits) value) _ is.digits _ (whole_digits is.digits is.decimal is.some is.few) after_digits in
    let after_colon : runs Before (is.front ++ (is.digits ++ (is.back ++ (13 ∷ 10 ∷ [])))) ≡ Some (Line (Some n)) =
    then_run Before Before _ is.front _ (in_front is.front is.blank_front) after_front in
    let after_name : runs (Name (Some 14) None) (58 ∷ (is.front ++ (is.digits ++ (is.back ++ (13 ∷ 10 ∷ []))))) ≡ Some (Line (Some n)) =
    one_step (Name (Some 14) None) Before (Some (Line (Some n))) 58 (is.front ++ (is.digits ++ (is.back ++ (13 ∷ 10 ∷ [])))) refl after_colon in
    let named : runs (Line None) is.name ≡ Some (Name (Some 14) None) = whole_name None is.name is.named ∙ ap (λ m. Some (Name m None)) (name-matched is.name is.the_length) in
    ap (runs (Line None)) is.is ∙ then_run (Line None) (Name (Some 14) None) _ is.name _ named after_name

length_lines : (bytes : List ℕ) (n : ℕ) → LengthLines bytes n → runs (Line None) bytes ≡ Some (Line (Some n))
length_lines bytes n is =
    ap (runs (Line None)) is.6 ∙ then_run (Line None) (Line None) _ is.0 _ (other_lines None is.0 is.3) (then_run (Line None) (Line (Some n)) _ is.1 is.2 (length_line is.1 n is.4) (other_lines (Some n) is.2 is.5))

-- a head is scanned to its end
pub head_runs : (bytes : List ℕ) (n : ℕ) → IsHead bytes n → runs (Line None) bytes ≡ Some (Done n)
head_runs bytes n is = ap (runs (Line None)) is.2 ∙ then_run (Line None) (Line (Some n)) _ is.0 (13 ∷ 10 ∷ []) (length_lines is.0 n is.1) refl

-- ---- each scan can come to an end

abbrev pub Ends : Scan → Type 0
Ends scan = (rest : List ℕ) × (n : ℕ) × (runs scan rest ≡ Some (Done n))

from_line : (length : Option ℕ) → Ends (Line length)
from_line None = (codes "Content-Length:0\r\n\r\n", 0, refl)
from_line (Some n) = (13 ∷ 10 ∷ [], n, refl)

ends_after : (s t : Scan) (front : List ℕ) → runs s front ≡ Some t → Ends t → Ends s
ends_after s t front e later = (front ++ later.0, later.1, then_run s t _ front later.0 e later.2)

not_so : (b : Bool) → not b ≡ true → b ≡ false
not_so true e = absurd (let wrong : false ≡ true = e in cc)
not_so false e = refl

-- `0` is no byte of `content-length`
no_zero : (xs : List ℕ) (k : ℕ) → Each (λ x. not (x == 48)) xs → (slice_index xs k == 48) ≡ false
no_zero [] k each = refl
no_zero (x ∷ xs) zero each = not_so (x == 48) each.0
no_zero (x ∷ xs) (suc k) each = no_zero xs k each.1

never : (a : Bool) (b : Bool) → b ≡ false → (a && b) ≡ false
never true b e = e
never false b e = refl

zero_differs : (so_far : Option ℕ) → name_matched so_far 48 ≡ None
zero_differs None = refl
zero_differs (Some k) =
    let other : (slice_index content_length k == to_ascii_lowercase 48) ≡ false = no_zero content_length k (refl, (refl, (refl, (refl, (refl, (refl, (refl, (refl, (refl, (refl, (refl, (refl, (refl, (refl, tt)))))))))))))) in
    if_false (nat_lt k 14 && (slice_index content_length k == to_ascii_lowercase 48)) (Some (k + 1)) None (never (nat_lt k 14) (slice_index content_length k == to_ascii_lowercase 48) other)

from_name : (so_far length : Option ℕ) → Ends (Name so_far length)
from_name so_far length =
    let other : step_of (Name so_far length) 48 ≡ Some (Name None length) = ap (λ m. Some (Name m length)) (zero_differs so_far) in
    let line : runs (Name so_far length) (48 ∷ 58 ∷ 13 ∷ 10 ∷ []) ≡ Some (Line length) =
    one_step (Name so_far length) (Name None length) _ 48 (58 ∷ 13 ∷ 10 ∷ []) other refl in
    ends_after (Name so_far length) (Line length) (48 ∷ 58 ∷ 13 ∷ 10 ∷ []) line (from_line length)

pub live : (s : Scan) (bytes : List ℕ) → Reached s bytes → Ends s
live (Line length) bytes at = from_line length
live (Name so_far length) bytes at = from_name so_far length
live (Value length) bytes at = ends_after (Value length) (Line length) (13 ∷ 10 ∷ []) refl (from_line length)
live (LineEnd length) bytes at = ends_after (LineEnd length) (Line length) (10 ∷ []) refl (from_line length)
live Before bytes at = ends_after Before (Line (Some 0)) (48 ∷ 13 ∷ 10 ∷ []) refl (from_line (Some 0))
live (Digits count value) bytes at =
    let some : 0 < count = subst (λ k. 0 < k) at.3 at.2.some in
    ends_after (Digits count value) (Line (Some value)) (13 ∷ 10 ∷ []) (whole_back count value [] some tt) (from_line (Some value))
live (After value) bytes at = ends_after (After value) (Line (Some value)) (13 ∷ 10 ∷ []) refl (from_line (Some value))
live (HeadEnd n) bytes at = (10 ∷ [], n, refl)
live (Done n) bytes at = ([], n, refl)
