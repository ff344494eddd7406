-- Each step of a scan reads one byte more by the grammar.
use Rattle.std.proofs.Common.{◌≡◌, ◌==◌, ℕ, ◌+◌, ◌-◌, ◌*◌, ◌<◌, nat_lt, Bool, true, false, if◌then◌else◌, List, [], ◌∷◌, ◌++◌, length, None, Some, refl, sym, ap, ◌∙◌, subst, inl, inr, arith, append_assoc, length-append}
use Rattle.std.specs.Char.{is_ascii_digit}
use Rattle.std.proofs.lemmas.Bool.Decides.{nat_tests}
use Rattle.std.specs.declared.option.Option.{Option}
use Rattle.lsp_frame.specs.declared.head.Scan.{Scan}
use Rattle.lsp_frame.specs.declared.head.Scan.TheVariants.{Line, Name, Value, LineEnd, Before, Digits, After, HeadEnd, Done}
use Rattle.lsp_frame.specs.Bytes.{is_name_byte, is_value_byte, is_blank}
use Rattle.lsp_frame.specs.Head.{name_matched, end_step, line_step, length_step, colon_step, name_step, value_step, after_step, blank_step, digits_step, step_of}
use Rattle.lsp_frame.specs.Grammar.{number_after}
use Rattle.lsp_frame.proofs.ScanLemmas.{if_some, eq_of, number_after-push, Lines}
use Rattle.lsp_frame.proofs.ReachedLemmas.{InName, InValue, InLength, IsNumber, Reached, reached_so, none_is, begins_name, goes_on_name, begins_value, begins_length, goes_on_value, ends_value, goes_on_blanks, goes_on_digits, goes_on_back, ends_length}

-- the byte is the one that is asked for
with_byte : (bytes : List ℕ) (b c : ℕ) → b ≡ c → bytes ++ (b ∷ []) ≡ bytes ++ (c ∷ [])
with_byte bytes b c e = ap (λ x. bytes ++ (x ∷ [])) e

end_sound : (length : Option ℕ) (t : Scan) (bytes : List ℕ) (b : ℕ) → end_step length b ≡ Some t → Lines length bytes → Reached t (bytes ++ (b ∷ []))
end_sound None t bytes b e lines = none_is t e
end_sound (Some n) t bytes b e lines =
    elim (if_some (b == 13) (Some (HeadEnd n)) None t e) [
      | inl p ↦ reached_so (HeadEnd n) t (bytes ++ (b ∷ [])) p.1 (bytes, lines, with_byte bytes b 13 (eq_of b 13 p.0))
      | inr p ↦ none_is t p.1
    ]

line_sound : (length : Option ℕ) (t : Scan) (bytes : List ℕ) (b : ℕ) → line_step length b ≡ Some t → Lines length bytes → Reached t (bytes ++ (b ∷ []))
line_sound length t bytes b e lines =
    elim (if_some (is_name_byte b) (Some (Name (name_matched (Some 0) b) length)) (end_step length b) t e) [
      | inl p ↦ reached_so (Name (name_matched (Some 0) b) length) t (bytes ++ (b ∷ [])) p.1 (begins_name length bytes b lines p.0)
      | inr p ↦ end_sound length t bytes b p.1 lines
    ]

length_sound : (length : Option ℕ) (t : Scan) (bytes : List ℕ) (b : ℕ) → length_step length ≡ Some t → b ≡ 58 → InName (Some 14) length bytes → Reached t (bytes ++ (b ∷ []))
length_sound None t bytes b e colon at = reached_so Before t (bytes ++ (b ∷ [])) e (begins_length (Some 14) bytes b at colon refl)
length_sound (Some n) t bytes b e colon at = none_is t e

differs : (k : ℕ) → (k == 14) ≡ false → Some k ≡ Some 14 → ⊥
differs k e same = let is : k ≡ 14 = cc in let wrong : false ≡ true = sym e ∙ ap (λ i. i == 14) is in cc

colon_sound : (so_far length : Option ℕ) (t : Scan) (bytes : List ℕ) (b : ℕ) → colon_step so_far length ≡ Some t → b ≡ 58 → InName so_far length bytes → Reached t (bytes ++ (b ∷ []))
colon_sound None length t bytes b e colon at =
    reached_so (Value length) t (bytes ++ (b ∷ [])) e (begins_value None length bytes b at colon (λ wrong. cc))
colon_sound (Some k) length t bytes b e colon at =
    elim (if_some (k == 14) (length_step length) (Some (Value length)) t e) [
      | inl p ↦ length_sound length t bytes b p.1 colon (subst (λ i. InName (Some i) length bytes) (eq_of k 14 p.0) at)
      | inr p ↦ reached_so (Value length) t (bytes ++ (b ∷ [])) p.1 (begins_value (Some k) length bytes b at colon (differs k p.0))
    ]

name_sound : (so_far length : Option ℕ) (t : Scan) (bytes : List ℕ) (b : ℕ) → name_step so_far length b ≡ Some t → InName so_far length bytes → Reached t (bytes ++ (b ∷ []))
name_sound so_far length t bytes b e at =
    elim (if_some (is_name_byte b) (Some (Name (name_matched so_far b) length)) (if b == 58 then colon_step so_far length else None) t e) [
      | inl p ↦ reached_so (Name (name_matched so_far b) length) t (bytes ++ (b ∷ [])) p.1 (goes_on_name so_far length bytes b at p.0)
      | inr p ↦ elim (if_some (b == 58) (colon_step so_far length) None t p.1) [
        | inl q ↦ colon_sound so_far length t bytes b q.1 (eq_of b 58 q.0) at
        | inr q ↦ none_is t q.1
      ]
    ]

value_sound : (length : Option ℕ) (t : Scan) (bytes : List ℕ) (b : ℕ) → value_step length b ≡ Some t → InValue length bytes → Reached t (bytes ++ (b ∷ []))
value_sound length t bytes b e at =
    elim (if_some (is_value_byte b) (Some (Value length)) (if b == 13 then Some (LineEnd length) else None) t e) [
      | inl p ↦ reached_so (Value length) t (bytes ++ (b ∷ [])) p.1 (goes_on_value length bytes b at p.0)
      | inr p ↦ elim (if_some (b == 13) (Some (LineEnd length)) None t p.1) [
        | inl q ↦ reached_so (LineEnd length) t (bytes ++ (b ∷ [])) q.1 (bytes, ends_value length bytes at, with_byte bytes b 13 (eq_of b 13 q.0))
        | inr q ↦ none_is t q.1
      ]
    ]

after_sound : (digits back : List ℕ) (value : ℕ) (t : Scan) (bytes : List ℕ) (b : ℕ) → after_step value b ≡ Some t → InLength digits back bytes → IsNumber digits value → Reached t (bytes ++ (b ∷ []))
after_sound digits back value t bytes b e at number =
    elim (if_some (is_blank b) (Some (After value)) (if b == 13 then Some (LineEnd (Some value)) else None) t e) [
      | inl p ↦ reached_so (After value) t (bytes ++ (b ∷ [])) p.1 (digits, back ++ (b ∷ []), goes_on_back digits back bytes b at p.0, number)
      | inr p ↦ elim (if_some (b == 13) (Some (LineEnd (Some value))) None t p.1) [
        | inl q ↦ reached_so (LineEnd (Some value)) t (bytes ++ (b ∷ [])) q.1 (bytes, ends_length digits back bytes value at number, with_byte bytes b 13 (eq_of b 13 q.0))
        | inr q ↦ none_is t q.1
      ]
    ]

below : (a b : ℕ) → nat_lt a b ≡ true → a < b
below a b e = grind (arith, nat_tests)

-- one more digit
more_digits : (digits bytes : List ℕ) (count value : ℕ) (t : Scan) (b : ℕ) → (if nat_lt count 19 then Some (Digits (count + 1) (value * 10 + (b - 48))) else None) ≡ Some t
    → InLength digits [] bytes → length digits ≡ count → value ≡ number_after 0 digits → is_ascii_digit b ≡ true → Reached t (bytes ++ (b ∷ []))
more_digits digits bytes count value t b e at many number passes =
    elim (if_some (nat_lt count 19) (Some (Digits (count + 1) (value * 10 + (b - 48)))) None t e) [
      | inl p ↦
          let room : count < 19 = below count 19 p.0 in
          let longer : length (digits ++ (b ∷ [])) ≡ count + 1 = length-append digits (b ∷ []) ∙ ap (λ k. k + 1) many in
          let is : value * 10 + (b - 48) ≡ number_after 0 (digits ++ (b ∷ [])) = ap (λ v. v * 10 + (b - 48)) number ∙ sym (number_after-push 0 digits b) in
          let there : IsNumber (digits ++ (b ∷ [])) (value * 10 + (b - 48)) = record { some = omega (arith, longer); few = omega (arith, longer); number = is } in
          reached_so (Digits (count + 1) (value * 10 + (b - 48))) t (bytes ++ (b ∷ [])) p.1 (digits ++ (b ∷ []), goes_on_digits digits bytes b at passes, there, longer)
      | inr p ↦ none_is t p.1
    ]

-- before the digits
before_sound : (t : Scan) (bytes : List ℕ) (b : ℕ) → digits_step 0 0 b ≡ Some t → InLength [] [] bytes → Reached t (bytes ++ (b ∷ []))
before_sound t bytes b e at =
    elim (if_some (is_ascii_digit b) (if nat_lt 0 19 then Some (Digits (0 + 1) (0 * 10 + (b - 48))) else None) (blank_step 0 0 b) t e) [
      | inl p ↦ more_digits [] bytes 0 0 t b p.1 at refl refl p.0
      | inr p ↦ elim (if_some (is_blank b) (Some Before) None t p.1) [
        | inl q ↦ reached_so Before t (bytes ++ (b ∷ [])) q.1 (goes_on_blanks bytes b at q.0)
        | inr q ↦ none_is t q.1
      ]
    ]

not_zero : (count : ℕ) → 0 < count → (count == 0) ≡ false
not_zero count some = grind (arith, nat_tests)

if_false : {X : Type 0} (test : Bool) (x y : X) → test ≡ false → (if test then x else y) ≡ y
if_false true x y e = absurd (let wrong : true ≡ false = e in cc)
if_false false x y e = refl

digits_sound : (count value : ℕ) (t : Scan) (bytes : List ℕ) (b : ℕ) → digits_step count value b ≡ Some t → Reached (Digits count value) bytes → Reached t (bytes ++ (b ∷ []))
digits_sound count value t bytes b e at =
    elim (if_some (is_ascii_digit b) (if nat_lt count 19 then Some (Digits (count + 1) (value * 10 + (b - 48))) else None) (blank_step count value b) t e) [
      | inl p ↦ more_digits at.0 bytes count value t b p.1 at.1 at.3 at.2.number p.0
      | inr p ↦
          let some : 0 < count = subst (λ k. 0 < k) at.3 at.2.some in
          let stepped : after_step value b ≡ Some t = sym (if_false (count == 0) (if is_blank b then Some Before else None) (after_step value b) (not_zero count some)) ∙ p.1 in
          after_sound at.0 [] value t bytes b stepped at.1 at.2
    ]

pub step_sound : (s t : Scan) (bytes : List ℕ) (b : ℕ) → step_of s b ≡ Some t → Reached s bytes → Reached t (bytes ++ (b ∷ []))
step_sound (Line length) t bytes b e at = line_sound length t bytes b e at
step_sound (Name so_far length) t bytes b e at = name_sound so_far length t bytes b e at
step_sound (Value length) t bytes b e at = value_sound length t bytes b e at
step_sound (LineEnd length) t bytes b e at =
    elim (if_some (b == 10) (Some (Line length)) None t e) [
      | inl p ↦
          let whole : at.0 ++ (13 ∷ 10 ∷ []) ≡ bytes ++ (b ∷ []) = sym (ap (λ l. l ++ (b ∷ [])) at.2 ∙ append_assoc at.0 (13 ∷ []) (b ∷ []) ∙ ap (λ x. at.0 ++ (13 ∷ x ∷ [])) (eq_of b 10 p.0)) in
          reached_so (Line length) t (bytes ++ (b ∷ [])) p.1 (subst (Lines length) whole at.1)
      | inr p ↦ none_is t p.1
    ]
step_sound Before t bytes b e at = before_sound t bytes b e at
step_sound (Digits count value) t bytes b e at = digits_sound count value t bytes b e at
step_sound (After value) t bytes b e at = after_sound at.0 at.1 value t bytes b e at.2 at.3
step_sound (HeadEnd n) t bytes b e at =
    elim (if_some (b == 10) (Some (Done n)) None t e) [
      | inl p ↦
          reached_so (Done n) t (bytes ++ (b ∷ [])) p.1
          (at.0, at.1, ap (λ l. l ++ (b ∷ [])) at.2 ∙ append_assoc at.0 (13 ∷ []) (b ∷ []) ∙ ap (λ x. at.0 ++ (13 ∷ x ∷ [])) (eq_of b 10 p.0))
      | inr p ↦ none_is t p.1
    ]
step_sound (Done n) t bytes b e at = none_is t e
