-- A scan that has come to a state has read what that state says, by the grammar.
use Rattle.std.proofs.Common.{◌≡◌, ◌==◌, ◌⊎◌, ℕ, ◌+◌, ◌-◌, ◌*◌, Bool, true, false, if◌then◌else◌, List, [], ◌∷◌, ◌++◌, None, Some, refl, sym, ap, ◌∙◌, inl, inr, arith, append-nil, append_assoc}
use Rattle.std.specs.List.{concat}
use Rattle.std.proofs.lemmas.Bool.Decides.{nat_tests}
use Rattle.std.proofs.lemmas.List.Folds.{concat-append}
use Rattle.std.specs.declared.option.Option.{Option}
use Rattle.lsp_frame.specs.Head.{name_matched}
use Rattle.lsp_frame.specs.Grammar.{Each, IsOtherLine, number_after, IsLengthLine, EachOther, OtherLines, LengthLines}

-- ---- tests

pub if_some : {X : Type 0} (test : Bool) (x y : Option X) (s : X) → (if test then x else y) ≡ Some s → ((test ≡ true) × (x ≡ Some s)) ⊎ ((test ≡ false) × (y ≡ Some s))
if_some true x y s e = inl (refl, e)
if_some false x y s e = inr (refl, e)

pub eq_of : (a b : ℕ) → (a == b) ≡ true → a ≡ b
eq_of a b e = grind (arith, nat_tests)

-- ---- one more byte

pub Each-push : (test : ℕ → Bool) (xs : List ℕ) (b : ℕ) → Each test xs → test b ≡ true → Each test (xs ++ (b ∷ []))
Each-push test [] b each passes = (passes, tt)
Each-push test (x ∷ xs) b each passes = (each.0, Each-push test xs b each.1 passes)

pub number_after-push : (value : ℕ) (xs : List ℕ) (b : ℕ) → number_after value (xs ++ (b ∷ [])) ≡ number_after value xs * 10 + (b - 48)
number_after-push value [] b = refl
number_after-push value (x ∷ xs) b = number_after-push (value * 10 + (x - 48)) xs b

-- how many bytes of a name match, after others
abbrev pub matched : Option ℕ → List ℕ → Option ℕ
matched so_far [] = so_far
matched so_far (b ∷ rest) = matched (name_matched so_far b) rest

pub matched-push : (so_far : Option ℕ) (xs : List ℕ) (b : ℕ) → matched so_far (xs ++ (b ∷ [])) ≡ name_matched (matched so_far xs) b
matched-push so_far [] b = refl
matched-push so_far (x ∷ xs) b = matched-push (name_matched so_far x) xs b

-- ---- lines

EachOther-push : (lines : List (List ℕ)) (line : List ℕ) → EachOther lines → IsOtherLine line → EachOther (lines ++ (line ∷ []))
EachOther-push [] line each is = (is, tt)
EachOther-push (x ∷ xs) line each is = (each.0, EachOther-push xs line each.1 is)

pub OtherLines-push : (bytes line : List ℕ) → OtherLines bytes → IsOtherLine line → OtherLines (bytes ++ line)
OtherLines-push bytes line others is = (
  others.0 ++ (line ∷ []),
  EachOther-push others.0 line others.1 is,
  ap (λ l. l ++ line) others.2 ∙ ap (λ l. concat others.0 ++ l) (sym (append-nil line)) ∙ sym (concat-append others.0 (line ∷ [])),
)

-- the lines of a head, by the length that they give
abbrev pub Lines : Option ℕ → List ℕ → Type 0
Lines None bytes = OtherLines bytes
Lines (Some n) bytes = LengthLines bytes n

pub Lines-push : (length : Option ℕ) (bytes line : List ℕ) → Lines length bytes → IsOtherLine line → Lines length (bytes ++ line)
Lines-push None bytes line lines is = OtherLines-push bytes line lines is
Lines-push (Some n) bytes line lines is = (
  lines.0,
  lines.1,
  lines.2 ++ line,
  lines.3,
  lines.4,
  OtherLines-push lines.2 line lines.5 is,
  ap (λ l. l ++ line) lines.6 ∙ simp append_assoc,
)

pub LengthLines-push : (bytes line : List ℕ) (n : ℕ) → OtherLines bytes → IsLengthLine line n → LengthLines (bytes ++ line) n
LengthLines-push bytes line n others is =
    (bytes, line, [], others, is, ([], tt, refl), ap (λ l. bytes ++ l) (sym (append-nil line)))
