-- Which tokens a text has, and where it is refused. A text is a list of characters; places count the bytes of their UTF-8. The text
-- is blanks, comments, line ends and spellings in turn, each the longest at its place. What a rule asks about the tokens before a
-- place is read off their shapes, the newest first.
use Rattle.std.specs.Prelude.{◌≡◌, ◌≢◌, ℕ, ◌+◌, ◌^◌, ◌<◌, ◌≤◌, ◌⊎◌, Bool, true, false, ◌==◌, List, [], ◌∷◌, ◌++◌, length, map, reverse, take, drop, codes, Option, Some, None}
use Rattle.std.specs.List.{list_any, sum_by}
use Rattle.std.specs.Char.{len_utf8}
use Rattle.std.specs.Str.{encode_utf8_all}
use Rattle.rb_tree.specs.declared.token.Token.{Token}
use Rattle.rb_tree.specs.declared.token.TokenKind.{TokenKind}
use Rattle.rb_tree.specs.declared.token.TokenKind.TheVariants as kind
use Rattle.rb_tree.specs.declared.token.Shape.{Shape}
use Rattle.rb_tree.specs.declared.token.Shape.TheVariants as shape
use Rattle.rb_tree.specs.Tokens.{shape_of, plain_kind}
use Rattle.rb_rules.specs.Letters.{begins_name, is_letter, is_decimal}
use Rattle.rb_rules.specs.Spellings.{Begins, Holds, IsNamed, IsIdentifier, IsConstant, IsSymbolName, IsWhole, IsFloat, KEYWORDS, FOREIGN_WORDS, OPERATORS, METHOD_OPERATORS, FOREIGN_OPERATORS}
use Rattle.rb_rules.specs.Numerals.{value_of}
use Rattle.rb_rules.specs.Before.{IsOperandEnd, NamesMethod, IsAfterDot, IsAfterName, IsAfterConstant, Keeps, frames}

-- ---- blanks, comments and line ends

-- one blank before the rest: a space, a tab, a `\r` before `\n`, or a backslash with the line's end after it
pub data IsBlank : List ℕ → List ℕ → Type 0 where
  Space : (rest : List ℕ) → IsBlank (32 ∷ []) rest
  Tab : (rest : List ℕ) → IsBlank (9 ∷ []) rest
  Return : (rest : List ℕ) → IsBlank (13 ∷ []) (10 ∷ rest)
  Joint : (rest : List ℕ) → IsBlank (92 ∷ 10 ∷ []) rest
  ReturnJoint : (rest : List ℕ) → IsBlank (92 ∷ 13 ∷ 10 ∷ []) rest

-- the characters hold no line's end, and the rest begins with one or is empty
pub record IsComment (w rest : List ℕ) : Type 0 where
  pub plain : ¬ Holds 10 w
  pub ended : (rest ≡ []) ⊎ Begins 10 rest

-- a blank, a line's end, or nothing comes next
pub data IsSpaced : List ℕ → Type 0 where
  Nothing : IsSpaced []
  Line : (rest : List ℕ) → IsSpaced (10 ∷ rest)
  Blank : (w rest : List ℕ) → IsBlank w rest → IsSpaced (w ++ rest)

-- the next line that is not blank or a comment begins with `.` and a letter, or with `&.`
pub data Continues : List ℕ → Type 0 where
  Dot : (c : ℕ) (rest : List ℕ) → is_letter c ≡ true → Continues (46 ∷ c ∷ rest)
  SafeDot : (rest : List ℕ) → Continues (38 ∷ 46 ∷ rest)
  PastBlank : (w rest : List ℕ) → IsBlank w rest → Continues rest → Continues (w ++ rest)
  PastComment : (w rest : List ℕ) → IsComment w rest → Continues rest → Continues (35 ∷ w ++ rest)
  PastLine : (rest : List ℕ) → Continues rest → Continues (10 ∷ rest)

-- ---- spellings at a place

-- a word of the language, or of Ruby outside the profile
abbrev pub IsWord : List ℕ → Type 0
IsWord w = ((s : Shape) × Holds (s, w) KEYWORDS) ⊎ Holds w FOREIGN_WORDS

-- the characters spell the shape with these words, after the shapes and before the rest
pub data Spells (past : List Shape) : Shape → List ℕ → List ℕ → List ℕ → Type 0 where
  Identifier : (w rest : List ℕ) → IsIdentifier w rest → (IsAfterDot past ⊎ ¬ IsWord w) → Spells past shape.Identifier w w rest
  Constant : (w rest : List ℕ) → IsConstant w → (IsAfterDot past ⊎ ¬ IsWord w) → Spells past shape.Constant w w rest
  Keyword : (s : Shape) (w rest : List ℕ) → IsIdentifier w rest → Holds (s, w) KEYWORDS → ¬ IsAfterDot past → Spells past s w [] rest
  InstanceVariable : (w rest : List ℕ) → IsNamed begins_name w → Spells past shape.InstanceVariable (64 ∷ w) w rest
  Label : (w rest : List ℕ) → (IsIdentifier w (58 ∷ rest) ⊎ IsConstant w) → ¬ Begins 58 rest → Spells past shape.Label (w ++ 58 ∷ []) w rest
  Symbol : (w rest : List ℕ) → IsSymbolName w rest → Spells past shape.Symbol (58 ∷ w) w rest
  Whole : (w rest : List ℕ) → IsWhole w → Spells past shape.Whole w w rest
  Float : (w rest : List ℕ) → IsFloat w → Spells past shape.Float w w rest
  Semicolon : (rest : List ℕ) → Spells past shape.Separator (59 ∷ []) [] rest
  Operator : (s : Shape) (w rest : List ℕ) → Holds (s, w) OPERATORS → Spells past s w [] rest
  MethodOperator : (s : Shape) (w rest : List ℕ) → NamesMethod past → Holds (s, w) METHOD_OPERATORS → Spells past s w [] rest

-- the spelling is the longest at its place, and longer than each operator there that is outside the profile
pub record IsLongest (past : List Shape) (s : Shape) (w words rest : List ℕ) : Type 0 where
  pub spells : Spells past s w words rest
  pub longest : (t : Shape) (v others more : List ℕ) → v ++ more ≡ w ++ rest → Spells past t v others more → length v ≤ length w
  pub own : (v more : List ℕ) → v ++ more ≡ w ++ rest → Holds v FOREIGN_OPERATORS → length v < length w

-- the characters are the whole name at their place, and no label
pub record IsWholeName (w rest : List ℕ) : Type 0 where
  pub named : IsIdentifier w rest ⊎ IsConstant w
  pub longest : (v more : List ℕ) → v ++ more ≡ w ++ rest → (IsIdentifier v more ⊎ IsConstant v) → length v ≤ length w
  pub unlabelled : Begins 58 rest → Begins 58 (drop 1 rest)

-- a line ends here, or the text
pub data EndsLine : List ℕ → Type 0 where
  AtEnd : EndsLine []
  AtLine : (rest : List ℕ) → EndsLine (10 ∷ rest)
  AtReturn : (rest : List ℕ) → EndsLine (13 ∷ 10 ∷ rest)

-- ---- broken rules

-- A form that is outside the profile begins here, after these tokens, with a blank before it or none, at a line's start or not.
pub data IsForeign (past : List Shape) (blank start : Bool) : List ℕ → Type 0 where
  LongComment : (rest : List ℕ) → start ≡ true → IsForeign past blank start (codes "=begin" ++ rest)
  EndMark : (rest : List ℕ) → start ≡ true → EndsLine rest → IsForeign past blank start (codes "__END__" ++ rest)
  ClassVariable : (rest : List ℕ) → IsForeign past blank start (64 ∷ 64 ∷ rest)
  Global : (rest : List ℕ) → IsForeign past blank start (36 ∷ rest)
  Backtick : (rest : List ℕ) → IsForeign past blank start (96 ∷ rest)
  PastAscii : (c : ℕ) (rest : List ℕ) → 128 ≤ c → IsForeign past blank start (c ∷ rest)
  ForeignOperator : (w rest : List ℕ) → Holds w FOREIGN_OPERATORS → IsForeign past blank start (w ++ rest)
  Opening : (s : Shape) (w rest : List ℕ) → IsLongest past s w [] rest → Holds s (shape.Slash ∷ shape.Percent ∷ shape.Star ∷ shape.Power ∷ shape.ShiftLeft ∷ []) → ¬ IsOperandEnd past → ¬ NamesMethod past → IsForeign past blank start (w ++ rest)
  HereDocument : (w rest : List ℕ) → IsLongest past shape.ShiftLeft w [] rest → IsOperandEnd past → blank ≡ true → (Begins 126 rest ⊎ Begins 45 rest ⊎ Begins 39 rest ⊎ Begins 34 rest) → IsForeign past blank start (w ++ rest)
  QuestionAtOperand : (rest : List ℕ) → ¬ IsOperandEnd past → IsForeign past blank start (63 ∷ rest)
  QuestionTouched : (rest : List ℕ) → ¬ IsSpaced rest → IsForeign past blank start (63 ∷ rest)
  ColonTouched : (c : ℕ) (rest : List ℕ) → is_letter c ≡ false → c ≢ 95 → c ≢ 58 → ¬ IsSpaced (c ∷ rest) → IsForeign past blank start (58 ∷ c ∷ rest)
  ParenAfterConstant : (rest : List ℕ) → IsAfterConstant past → blank ≡ false → IsForeign past blank start (40 ∷ rest)
  ZeroAndDigit : (d : ℕ) (rest : List ℕ) → is_decimal d ≡ true → IsForeign past blank start (48 ∷ d ∷ rest)
  NumberAndLetter : (s : Shape) (w rest : List ℕ) (c : ℕ) → Holds s (shape.Whole ∷ shape.Float ∷ []) → IsLongest past s w w (c ∷ rest) → is_letter c ≡ true → IsForeign past blank start (w ++ c ∷ rest)
  LargeNumber : (w rest : List ℕ) → IsLongest past shape.Whole w w rest → 2 ^ 128 ≤ value_of w → IsForeign past blank start (w ++ rest)
  ForeignWord : (w rest : List ℕ) → IsWholeName w rest → Holds w FOREIGN_WORDS → ¬ IsAfterDot past → IsForeign past blank start (w ++ rest)

-- Here is no Ruby of any kind: an operator that is ambiguous after a name and a blank, or a character that begins nothing.
pub data IsWrong (past : List Shape) (blank : Bool) : List ℕ → Type 0 where
  Ambiguous : (s : Shape) (w rest : List ℕ) → IsLongest past s w [] rest → Holds s (shape.Minus ∷ shape.Plus ∷ shape.Star ∷ shape.Power ∷ shape.Ampersand ∷ shape.Slash ∷ shape.Percent ∷ shape.OpenBracket ∷ shape.Scope ∷ shape.ShiftLeft ∷ []) → IsAfterName past → blank ≡ true → ¬ IsSpaced rest → IsWrong past blank (w ++ rest)
  ParenAfterBlank : (rest : List ℕ) → IsAfterName past → blank ≡ true → IsWrong past blank (40 ∷ rest)
  NoToken : (c : ℕ) (z : List ℕ) → ((s : Shape) (w words rest : List ℕ) → w ++ rest ≡ c ∷ z → ¬ Spells past s w words rest) → ((w rest : List ℕ) → w ++ rest ≡ c ∷ z → ¬ IsBlank w rest) → ¬ Holds c (10 ∷ 35 ∷ 34 ∷ 39 ∷ []) → IsWrong past blank (c ∷ z)

-- ---- tokens

-- how many bytes the characters take in UTF-8
abbrev pub byte_len : List ℕ → ℕ
byte_len w = sum_by len_utf8 w

-- the kind of a shape that carries words, with its words
abbrev pub worded : Shape → List ℕ → TokenKind
worded shape.Identifier words = kind.Identifier words
worded shape.Constant words = kind.Constant words
worded shape.InstanceVariable words = kind.InstanceVariable words
worded shape.Label words = kind.Label words
worded shape.Symbol words = kind.Symbol words
worded shape.Whole words = kind.Whole words
worded shape.Float words = kind.Float words
worded other words = kind.Text words

-- the kind of a shape, with these words where it carries any
unfoldable pub kind_of : Shape → List ℕ → TokenKind
kind_of s words = elim (plain_kind s) [ Some k ↦ k | None ↦ worded s words ]

-- a string in which a place is: its quote, where it begins, and where its present piece does
pub record OpenString : Type 0 where
  pub quote : ℕ
  pub opening : ℕ
  pub from : ℕ

-- ---- the whole text

-- what stands before a place: its offset, the tokens, whether a blank stands directly before, whether a line starts here, the string
-- in which the place is, and where the strings begin around the open interpolations, the innermost first
pub record Place : Type 0 where
  pub at : ℕ
  pub tokens : List Token
  pub blank : Bool
  pub start : Bool
  pub string : Option OpenString
  pub outer : List ℕ

-- the shapes of the tokens before a place, the newest first
abbrev pub past_of : Place → List Shape
past_of p = reverse (map (λ (t : Token). shape_of t.kind) p.tokens)

abbrev pub FIRST : Place
FIRST = record { at = 0; tokens = []; blank = false; start = true; string = None; outer = [] }

-- after characters that are blank
abbrev pub passed : List ℕ → Bool → Place → Place
passed w start p = record p { at = p.at + byte_len w; blank = true; start = start }

-- after a token with these words and the spelling `w`
abbrev pub spelt : Shape → List ℕ → List ℕ → Place → Place
spelt s w words p =
    record p {
      at = p.at + byte_len w;
      tokens = p.tokens ++ record { kind = kind_of s (encode_utf8_all words); span = record { start = p.at; end = p.at + byte_len w } } ∷ [];
      blank = false;
      start = false;
    }

-- after a piece of a string, with the characters `w` and what ends it, which is `len` bytes long and is `own` bytes of the piece
abbrev pub pieced : OpenString → List ℕ → ℕ → ℕ → Place → Place
pieced o w own len p =
    record p {
      at = p.at + byte_len w + len;
      tokens = p.tokens ++ record { kind = kind.Text (encode_utf8_all w); span = record { start = o.from; end = p.at + byte_len w + own } } ∷ [];
      blank = false;
      start = false;
      string = None;
    }

-- the characters are of a piece of a string with this quote, before the rest: none of them ends it, where a backslash takes the next
-- character
pub data IsContent (quote : ℕ) : List ℕ → List ℕ → Type 0 where
  Empty : (rest : List ℕ) → IsContent quote [] rest
  Taken : (c : ℕ) (w rest : List ℕ) → IsContent quote w rest → IsContent quote (92 ∷ c ∷ w) rest
  Single : (c : ℕ) (w rest : List ℕ) → c ≢ quote → c ≢ 92 → (quote ≡ 34 → c ≡ 35 → ¬ (Begins 123 (w ++ rest) ⊎ Begins 64 (w ++ rest) ⊎ Begins 36 (w ++ rest))) → IsContent quote w rest → IsContent quote (c ∷ w) rest

-- the content of a string that the text's end cuts after a backslash
abbrev pub IsCutContent : ℕ → List ℕ → Type 0
IsCutContent quote w = (v : List ℕ) × (w ≡ v ++ 92 ∷ []) × IsContent quote v (92 ∷ [])

-- one `:` that no `:` follows comes next
abbrev pub IsTouched : List ℕ → Type 0
IsTouched rest = Begins 58 rest × ¬ Begins 58 (drop 1 rest)

-- the token is the `}` that ends an interpolation: no `{` that was opened inside is open
abbrev pub IsReturn : Shape → List Shape → Type 0
IsReturn s past = (s ≡ shape.CloseBrace) × (take 1 (frames past) ≡ true ∷ [])

-- whether the blank holds a line's end, so that a line starts after it
abbrev pub begins_line : List ℕ → Bool
begins_line w = list_any (λ c. c == 10) w

-- after a piece and the `#{` that ends it
abbrev pub interpolated : OpenString → List ℕ → Place → Place
interpolated o w p =
    let q = pieced o w 0 2 p in
    record q {
      tokens = q.tokens ++ record { kind = kind.Interpolation; span = record { start = p.at + byte_len w; end = p.at + byte_len w + 2 } } ∷ [];
      outer = o.opening ∷ p.outer;
    }

-- the text before the place is blanks, comments, line ends and tokens in turn, no rule is broken in it, and the rest follows
pub data Reaches (text : List ℕ) : Place → List ℕ → Type 0 where
  First : Reaches text FIRST text
  PastBlank : (p : Place) (w rest : List ℕ) → Reaches text p (w ++ rest) → p.string ≡ None → IsBlank w rest → Reaches text (passed w (begins_line w) p) rest
  PastComment : (p : Place) (w rest : List ℕ) → Reaches text p (35 ∷ w ++ rest) → p.string ≡ None → IsComment w rest → Reaches text (passed (35 ∷ w) false p) rest
  Kept : (p : Place) (rest : List ℕ) → Reaches text p (10 ∷ rest) → p.string ≡ None → Keeps (past_of p) → ¬ Continues rest → Reaches text (passed (10 ∷ []) true (record p { tokens = p.tokens ++ record { kind = kind.Separator; span = record { start = p.at; end = p.at + 1 } } ∷ [] })) rest
  Dropped : (p : Place) (rest : List ℕ) → Reaches text p (10 ∷ rest) → p.string ≡ None → (¬ Keeps (past_of p) ⊎ Continues rest) → Reaches text (passed (10 ∷ []) true p) rest
  Spelt : (p : Place) (s : Shape) (w words rest : List ℕ) → Reaches text p (w ++ rest) → p.string ≡ None → IsLongest (past_of p) s w words rest → ¬ IsForeign (past_of p) p.blank p.start (w ++ rest) → ¬ IsWrong (past_of p) p.blank (w ++ rest) → ¬ IsReturn s (past_of p) → Reaches text (spelt s w words p) rest
  Returns : (p : Place) (outer : List ℕ) (opening : ℕ) (rest : List ℕ) → Reaches text p (125 ∷ rest) → p.string ≡ None → IsReturn shape.CloseBrace (past_of p) → p.outer ≡ opening ∷ outer → Reaches text (record (spelt shape.CloseBrace (125 ∷ []) [] p) { string = Some (record { quote = 34; opening = opening; from = p.at + 1 }); outer = outer }) rest
  Opens : (p : Place) (quote : ℕ) (rest : List ℕ) → Reaches text p (quote ∷ rest) → p.string ≡ None → ((quote ≡ 34) ⊎ (quote ≡ 39)) → Reaches text (record p { at = p.at + 1; string = Some (record { quote = quote; opening = p.at; from = p.at }) }) rest
  Ends : (p : Place) (o : OpenString) (w rest : List ℕ) → Reaches text p (w ++ o.quote ∷ rest) → p.string ≡ Some o → IsContent o.quote w (o.quote ∷ rest) → ¬ IsTouched rest → Reaches text (pieced o w 1 1 p) rest
  Interpolates : (p : Place) (o : OpenString) (w rest : List ℕ) → Reaches text p (w ++ 35 ∷ 123 ∷ rest) → p.string ≡ Some o → o.quote ≡ 34 → IsContent 34 w (35 ∷ 123 ∷ rest) → Reaches text (interpolated o w p) rest

-- The text has these tokens: it is blanks, comments, line ends and spellings in turn, each the longest at its place, the separators are
-- those that the line rule keeps, and no rule is broken. It does not end in a string or interpolation.
pub record Lexes (text : List ℕ) (tokens : List Token) : Type 0 where
  pub place : Place
  pub reaches : Reaches text place []
  pub plain : place.string ≡ None
  pub closed : ¬ Holds true (frames (past_of place))
  pub tokens_are : place.tokens ≡ tokens

-- The least place at which a rule of the profile is broken: up to it the text is lexed without a broken rule.
pub data OutsideAt (text : List ℕ) : ℕ → Type 0 where
  AtForm : (p : Place) (z : List ℕ) → Reaches text p z → p.string ≡ None → IsForeign (past_of p) p.blank p.start z → OutsideAt text p.at
  InString : (p : Place) (o : OpenString) (w rest : List ℕ) (c : ℕ) → Reaches text p (w ++ 35 ∷ c ∷ rest) → p.string ≡ Some o → o.quote ≡ 34 → IsContent 34 w (35 ∷ c ∷ rest) → ((c ≡ 64) ⊎ (c ≡ 36)) → OutsideAt text (p.at + byte_len w)
  AtTouched : (p : Place) (o : OpenString) (w rest : List ℕ) → Reaches text p (w ++ o.quote ∷ rest) → p.string ≡ Some o → IsContent o.quote w (o.quote ∷ rest) → IsTouched rest → OutsideAt text o.opening

-- The least place at which the text is no Ruby of any kind, where no rule of the profile is broken at the same place: at a character,
-- or at the text's end inside a string or interpolation.
pub data BadCharAt (text : List ℕ) : ℕ → Type 0 where
  AtCharacter : (p : Place) (z : List ℕ) → Reaches text p z → p.string ≡ None → IsWrong (past_of p) p.blank z → ¬ IsForeign (past_of p) p.blank p.start z → BadCharAt text p.at
  InOpenString : (p : Place) (o : OpenString) (w : List ℕ) → Reaches text p w → p.string ≡ Some o → (IsContent o.quote w [] ⊎ IsCutContent o.quote w) → BadCharAt text (p.at + byte_len w)
  InInterpolation : (p : Place) → Reaches text p [] → p.string ≡ None → Holds true (frames (past_of p)) → BadCharAt text p.at
