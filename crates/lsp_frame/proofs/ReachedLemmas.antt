-- What was read where a scan stands, by the grammar.
use Rattle.std.proofs.Common.{◌≡◌, ℕ, ◌<◌, ◌≤◌, true, List, [], ◌∷◌, ◌++◌, length, None, Some, refl, sym, ap, ◌∙◌, subst, arith, append-nil, append_assoc, length-append}
use Rattle.std.specs.Char.{is_ascii_digit}
use Rattle.std.specs.declared.option.Option.{Option}
use Rattle.lsp_frame.specs.declared.head.Scan.{Scan}
use Rattle.lsp_frame.specs.declared.head.Scan.TheVariants.{Line, Name, Value, LineEnd, Before, Digits, After, HeadEnd, Done}
use Rattle.lsp_frame.specs.Bytes.{is_name_byte, is_value_byte, is_blank}
use Rattle.lsp_frame.specs.Head.{name_matched}
use Rattle.lsp_frame.specs.Grammar.{Each, IsName, IsLengthName, IsOtherLine, number_after, IsLengthLine, OtherLines, LengthLines, IsHead}
use Rattle.lsp_frame.proofs.ScanLemmas.{Each-push, matched, matched-push, Lines, Lines-push, LengthLines-push}
use Rattle.lsp_frame.proofs.NameLemmas.{matched-name, name-matched}

-- lines, and the start of a name
pub record InName (so_far : Option ℕ) (length : Option ℕ) (bytes : List ℕ) : Type 0 where
  pub before : List ℕ
  pub name : List ℕ
  pub lines : Lines length before
  pub named : IsName name
  pub matches : so_far ≡ matched (Some 0) name
  pub is : bytes ≡ before ++ name

-- lines, another name than that of the length, `:`, and the start of a value
pub record InValue (length : Option ℕ) (bytes : List ℕ) : Type 0 where
  pub before : List ℕ
  pub name : List ℕ
  pub value : List ℕ
  pub lines : Lines length before
  pub named : IsName name
  pub other : IsLengthName name → ⊥
  pub passes : Each is_value_byte value
  pub is : bytes ≡ before ++ (name ++ (58 ∷ value))

-- lines, the name of the length, `:`, blanks, digits and blanks
pub record InLength (digits back bytes : List ℕ) : Type 0 where
  pub before : List ℕ
  pub name : List ℕ
  pub front : List ℕ
  pub lines : OtherLines before
  pub named : IsName name
  pub the_length : IsLengthName name
  pub blank_front : Each is_blank front
  pub decimal : Each is_ascii_digit digits
  pub blank_back : Each is_blank back
  pub is : bytes ≡ before ++ (name ++ (58 ∷ (front ++ (digits ++ back))))

-- the number that some digits give
pub record IsNumber (digits : List ℕ) (n : ℕ) : Type 0 where
  pub some : 0 < length digits
  pub few : length digits ≤ 19
  pub number : n ≡ number_after 0 digits

-- what the bytes are that led to a state
abbrev pub Reached : Scan → List ℕ → Type 0
Reached (Line length) bytes = Lines length bytes
Reached (Name so_far length) bytes = InName so_far length bytes
Reached (Value length) bytes = InValue length bytes
Reached (LineEnd length) bytes = (line : List ℕ) × Lines length (line ++ (13 ∷ 10 ∷ [])) × (bytes ≡ line ++ (13 ∷ []))
Reached Before bytes = InLength [] [] bytes
Reached (Digits count value) bytes = (digits : List ℕ) × InLength digits [] bytes × IsNumber digits value × (length digits ≡ count)
Reached (After value) bytes = (digits : List ℕ) × (back : List ℕ) × InLength digits back bytes × IsNumber digits value
Reached (HeadEnd n) bytes = (lines : List ℕ) × LengthLines lines n × (bytes ≡ lines ++ (13 ∷ []))
Reached (Done n) bytes = IsHead bytes n

pub reached_so : (s t : Scan) (bytes : List ℕ) → Some s ≡ Some t → Reached s bytes → Reached t bytes
reached_so s t bytes e reached = let is : s ≡ t = cc in subst (λ u. Reached u bytes) is reached

pub none_is : {A : Type 0} (t : Scan) → None ≡ Some t → A
none_is t e = absurd (let wrong : None ≡ Some t = e in cc)

-- ---- names

pub begins_name : (length : Option ℕ) (bytes : List ℕ) (b : ℕ) → Lines length bytes → is_name_byte b ≡ true → InName (name_matched (Some 0) b) length (bytes ++ (b ∷ []))
begins_name length bytes b lines passes =
    record { before = bytes; name = b ∷ []; lines = lines; named = record { some = omega arith; bytes = (passes, tt) }; matches = refl; is = refl }

pub goes_on_name : (so_far length_so_far : Option ℕ) (bytes : List ℕ) (b : ℕ) → InName so_far length_so_far bytes → is_name_byte b ≡ true
    → InName (name_matched so_far b) length_so_far (bytes ++ (b ∷ []))
goes_on_name so_far length_so_far bytes b at passes =
    record {
      before = at.before;
      name = at.name ++ (b ∷ []);
      lines = at.lines;
      named = record { some = omega (arith, length-append at.name (b ∷ [])); bytes = Each-push is_name_byte at.name b at.named.bytes passes };
      matches = ap (λ m. name_matched m b) at.matches ∙ sym (matched-push (Some 0) at.name b);
      is = ap (λ l. l ++ (b ∷ [])) at.is ∙ append_assoc at.before at.name (b ∷ []);
    }

-- after a `:`
pub begins_value : (so_far length : Option ℕ) (bytes : List ℕ) (b : ℕ) → InName so_far length bytes → b ≡ 58 → (so_far ≡ Some 14 → ⊥) → InValue length (bytes ++ (b ∷ []))
begins_value so_far length bytes b at colon other =
    record {
      before = at.before;
      name = at.name;
      value = [];
      lines = at.lines;
      named = at.named;
      other = λ is. other (at.matches ∙ name-matched at.name is);
      passes = tt;
      is = ap (λ l. l ++ (b ∷ [])) at.is ∙ append_assoc at.before at.name (b ∷ []) ∙ ap (λ c. at.before ++ (at.name ++ (c ∷ []))) colon;
    }

pub begins_length : (so_far : Option ℕ) (bytes : List ℕ) (b : ℕ) → InName so_far None bytes → b ≡ 58 → so_far ≡ Some 14 → InLength [] [] (bytes ++ (b ∷ []))
begins_length so_far bytes b at colon all =
    record {
      before = at.before;
      name = at.name;
      front = [];
      lines = at.lines;
      named = at.named;
      the_length = matched-name at.name (sym at.matches ∙ all);
      blank_front = tt;
      decimal = tt;
      blank_back = tt;
      is = ap (λ l. l ++ (b ∷ [])) at.is ∙ append_assoc at.before at.name (b ∷ []) ∙ ap (λ c. at.before ++ (at.name ++ (c ∷ []))) colon;
    }

-- ---- values

pub goes_on_value : (length : Option ℕ) (bytes : List ℕ) (b : ℕ) → InValue length bytes → is_value_byte b ≡ true → InValue length (bytes ++ (b ∷ []))
goes_on_value length bytes b at passes =
    record {
      before = at.before;
      name = at.name;
      value = at.value ++ (b ∷ []);
      lines = at.lines;
      named = at.named;
      other = at.other;
      passes = Each-push is_value_byte at.value b at.passes passes;
      is = ap (λ l. l ++ (b ∷ [])) at.is ∙ simp append_assoc;
    }

pub ends_value : (length : Option ℕ) (bytes : List ℕ) → InValue length bytes → Lines length (bytes ++ (13 ∷ 10 ∷ []))
ends_value length bytes at =
    let line = at.name ++ (58 ∷ (at.value ++ (13 ∷ 10 ∷ []))) in
    let other : IsOtherLine line = record { name = at.name; value = at.value; is = refl; named = at.named; other = at.other; bytes = at.passes } in
    let same : at.before ++ line ≡ bytes ++ (13 ∷ 10 ∷ []) = sym (ap (λ l. l ++ (13 ∷ 10 ∷ [])) at.is ∙ simp append_assoc) in
    subst (Lines length) same (Lines-push length at.before line at.lines other)

-- ---- the length

pub goes_on_blanks : (bytes : List ℕ) (b : ℕ) → InLength [] [] bytes → is_blank b ≡ true → InLength [] [] (bytes ++ (b ∷ []))
goes_on_blanks bytes b at passes =
    record {
      before = at.before;
      name = at.name;
      front = at.front ++ (b ∷ []);
      lines = at.lines;
      named = at.named;
      the_length = at.the_length;
      blank_front = Each-push is_blank at.front b at.blank_front passes;
      decimal = tt;
      blank_back = tt;
      is = ap (λ l. l ++ (b ∷ [])) at.is ∙ simp (append_assoc, append-nil);
    }

pub goes_on_digits : (digits bytes : List ℕ) (b : ℕ) → InLength digits [] bytes → is_ascii_digit b ≡ true → InLength (digits ++ (b ∷ [])) [] (bytes ++ (b ∷ []))
goes_on_digits digits bytes b at passes =
    record {
      before = at.before;
      name = at.name;
      front = at.front;
      lines = at.lines;
      named = at.named;
      the_length = at.the_length;
      blank_front = at.blank_front;
      decimal = Each-push is_ascii_digit digits b at.decimal passes;
      blank_back = tt;
      is = ap (λ l. l ++ (b ∷ [])) at.is ∙ simp (append_assoc, append-nil);
    }

pub goes_on_back : (digits back bytes : List ℕ) (b : ℕ) → InLength digits back bytes → is_blank b ≡ true → InLength digits (back ++ (b ∷ [])) (bytes ++ (b ∷ []))
goes_on_back digits back bytes b at passes =
    record {
      before = at.before;
      name = at.name;
      front = at.front;
      lines = at.lines;
      named = at.named;
      the_length = at.the_length;
      blank_front = at.blank_front;
      decimal = at.decimal;
      blank_back = Each-push is_blank back b at.blank_back passes;
      is = ap (λ l. l ++ (b ∷ [])) at.is ∙ simp append_assoc;
    }

pub ends_length : (digits back bytes : List ℕ) (n : ℕ) → InLength digits back bytes → IsNumber digits n → LengthLines (bytes ++ (13 ∷ 10 ∷ [])) n
ends_length digits back bytes n at number =
    let line = at.name ++ (58 ∷ (at.front ++ (digits ++ (back ++ (13 ∷ 10 ∷ []))))) in
    let gives : IsLengthLine line n =
    record {
      name = at.name;
      front = at.front;
      digits = digits;
      back = back;
      is = refl;
      named = at.named;
      the_length = at.the_length;
      blank_front = at.blank_front;
      some = number.some;
      few = number.few;
      decimal = at.decimal;
      blank_back = at.blank_back;
      number = number.number;
    } in
    let same : at.before ++ line ≡ bytes ++ (13 ∷ 10 ∷ []) = sym (ap (λ l. l ++ (13 ∷ 10 ∷ [])) at.is ∙ simp append_assoc) in
    subst (λ l. LengthLines l n) same (LengthLines-push at.before line n at.lines gives)
