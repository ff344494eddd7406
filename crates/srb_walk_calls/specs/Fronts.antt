-- The steps of calls and rows of suffixes: what the front of a row is, forms of `T`, and what follows them.
use Rattle.std.specs.Prelude.{ℕ, suc, Bool, true, false, List, [], ◌∷◌, ◌++◌, take, drop, slice_get, Option, Some, None}
use Rattle.srb_terms.specs.declared.ty.Ty.{Ty}
use Rattle.srb_terms.specs.declared.span.Span.{Span}
use Rattle.rb_tree.specs.declared.syntax.Argument.{Argument}
use Rattle.rb_tree.specs.declared.syntax.Argument.TheVariants as argument
use Rattle.rb_tree.specs.declared.syntax.Block.{Block}
use Rattle.rb_tree.specs.declared.syntax.Suffix.{Suffix}
use Rattle.rb_tree.specs.declared.syntax.Suffix.TheVariants as suffix
use Rattle.rb_views.specs.Prefixes.{suffix_span}
use Rattle.rb_tree.specs.declared.syntax.Dot.{Dot}
use Rattle.rb_tree.specs.declared.syntax.Dot.TheVariants as dot
use Rattle.srb_judgement.specs.declared.spelling.Count.{Count}
use Rattle.srb_judgement.specs.declared.spelling.Count.TheVariants as count
use Rattle.srb_judgement.specs.Forms.{form_by}
use Rattle.srb_judgement.specs.declared.assertions.Form.{Form}
use Rattle.srb_judgement.specs.declared.assertions.Form.TheVariants as form
use Rattle.srb_judgement.specs.Assertions.{let_judged, cast_judged, must_judged, unsafe_judged, reveal_judged}
use Rattle.rb_tree.specs.declared.syntax.Tree.{Tree}
use Rattle.rb_views.specs.Calls.{arguments_of}
use Rattle.srb_judgement.specs.Calls.{declared_by, call_operand}
use Rattle.srb_judgement.specs.Chains.{chain, operands_of}
use Rattle.srb_judgement.specs.Reaching.{closed}
use Rattle.srb_judgement.specs.Languages.{Language}
use Rattle.srb_judgement.specs.Parts.{Operand, Part, Spelling, NameAlone, NilWord, ConstantPath, Other}
use Rattle.srb_judgement.specs.States.{Context, State, Judged, Run, judged}
use Rattle.srb_judgement.specs.Words.{constant_type}
use Rattle.srb_walk_calls.specs.declared.rows.Row as rowed
use Rattle.srb_walk.specs.Known.{known_suffixes}
use Rattle.srb_walk.specs.Rows.{Prefix, all_suffixed}
use Rattle.srb_walk.specs.Written.{row_spelling}

-- ---- forms of `T`, by the arguments that they take

abbrev pub is_let : Form → Bool
is_let form.Let = true
is_let _ = false

module _ {T X : Type 0} (L : Language T X) where
  -- the type of a constant with this spelling
  abbrev pub spelled_type : Context T → Spelling → T
  spelled_type c (ConstantPath path) = constant_type L (L.meaning c.scope path)
  spelled_type c (NameAlone name) = L.untyped
  spelled_type c NilWord = L.untyped
  spelled_type c Other = L.untyped

  -- an operand that is reached with its suffixes
  abbrev pub row_judged : Operand T X → List (Suffix (Part T X)) → Run T
  row_judged o suffixes = (chain L o suffixes).it.judge

  -- a row, by whether it is reached
  abbrev pub reached_or : Bool → Judged T → Judged T → Judged T
  reached_or true own other = own
  reached_or false own other = other

  -- with a type expression, which `T.let` checks and `T.cast` doesn't
  abbrev pub typed_form : Bool → Operand T X → Operand T X → Run T
  typed_form true e x c s = let_judged L (L.reads c.scope x.text) e.span (e.judge c s)
  typed_form false e x c s = cast_judged L (L.reads c.scope x.text) (e.judge c s)

  -- with one argument
  abbrev pub plain_form : Form → Span → Operand T X → Run T
  plain_form form.Must whole e c s = must_judged L (e.judge c s)
  plain_form form.RevealType whole e c s = reveal_judged L whole (e.judge c s)
  plain_form _ whole e c s = unsafe_judged L (e.judge c s)

  abbrev pub form_judged : Form → Span → List (Argument (Operand T X)) → Run T
  form_judged f whole (argument.Positional e ∷ argument.Positional x ∷ []) = typed_form (is_let f) e x
  form_judged f whole (argument.Positional e ∷ []) = plain_form f whole e
  form_judged f whole _ = λ c s. judged L.never s

-- ---- constants in a row

abbrev pub is_constant : {P : Type 0} → Suffix P → Bool
is_constant (suffix.Call how name name_span arguments block span) = false
is_constant (suffix.Constant name name_span span) = true
is_constant (suffix.Index arguments span) = false

-- the number of constants with which a row begins
abbrev pub constants_before : {P : Type 0} → List (Suffix P) → ℕ
constants_before [] = 0
constants_before (suffix.Call how name name_span arguments block span ∷ rest) = 0
constants_before (suffix.Constant name name_span span ∷ rest) = suc (constants_before rest)
constants_before (suffix.Index arguments span ∷ rest) = 0

-- ---- which form of `T` a call is

abbrev pub counted : {P : Type 0} → List (Argument P) → Count
counted (argument.Positional e ∷ []) = count.One
counted (argument.Positional e ∷ argument.Positional x ∷ []) = count.Two
counted _ = count.Other

-- the form that a suffix is after an operand with this spelling
abbrev pub suffix_form : {P : Type 0} → Spelling → Suffix P → Form
suffix_form receiver (suffix.Call dot.Plain name name_span arguments None span) = form_by receiver name (counted (arguments_of arguments))
suffix_form receiver _ = form.Call

abbrev pub command_form : {P : Type 0} → Dot → Bool → Spelling → List ℕ → List (Argument P) → Form
command_form dot.Plain false receiver name arguments = form_by receiver name (counted arguments)
command_form how block receiver name arguments = form.Call

abbrev pub constant_path : Bool → List ℕ → List (List ℕ)
constant_path true name = [] ∷ name ∷ []
constant_path false name = name ∷ []

-- ---- the front of a row: a path of constants, a form of `T`, or the operand alone

abbrev pub path_length : {P : Type 0} → Spelling → List (Suffix P) → ℕ
path_length (ConstantPath path) suffixes = constants_before suffixes
path_length (NameAlone name) suffixes = 0
path_length NilWord suffixes = 0
path_length Other suffixes = 0

-- whether a row goes on with the path that its operand is
abbrev pub goes_on : {P : Type 0} → Spelling → List (Suffix P) → Bool
goes_on (ConstantPath path) (suffix.Constant name name_span span ∷ rest) = true
goes_on _ _ = false

-- the form of `T` that the first suffix is after what is spelled so
abbrev pub next_form : {P : Type 0} → Spelling → List (Suffix P) → Form
next_form spelled [] = form.Call
next_form spelled (s ∷ rest) = suffix_form spelled s

-- the place from an operand to a suffix
abbrev pub span_to : {P : Type 0} → Span → Option (Suffix P) → Span
span_to operand None = operand
span_to operand (Some s) = record { start = operand.start; end = (suffix_span s).end }

module _ {T X : Type 0} (L : Language T X) where
  -- an operand alone, or the path that it is with constants after it
  abbrev pub front_judged : Bool → Operand T X → Spelling → Run T
  front_judged false o path c s = o.judge c s
  front_judged true o path c s = closed L (judged (spelled_type L c path) s)

  -- a form of `T`, and the suffixes after it
  abbrev pub asserted : Form → Span → List (List ℕ) → List (Suffix (Part T X)) → Context T → State T → Prefix T
  asserted f whole declares (suffix.Call how name name_span arguments b span ∷ rest) c s =
      all_suffixed L c rest (record {
        declares = declares ++ declared_by (operands_of (arguments_of arguments));
        it = closed L (form_judged L f whole (operands_of (arguments_of arguments)) c s);
      })
  asserted f whole declares _ c s = record { declares = declares; it = judged L.never s }

  -- what follows the front of a row, by the form of `T` that follows it
  abbrev pub row_after : Form → Prefix T → Span → List (List ℕ) → List (Suffix (Part T X)) → Context T → State T → Prefix T
  row_after form.Call front whole declares suffixes c s = all_suffixed L c suffixes front
  row_after f front whole declares suffixes c s = asserted f whole declares suffixes c s

  -- an operand that is reached with suffixes, by its path, and the form of `T` that follows that
  abbrev pub row_by : Form → Bool → Operand T X → Spelling → Span → List (List ℕ) → List (Suffix (Part T X)) → Context T → State T → Prefix T
  row_by f longer o path whole declares suffixes c s =
      row_after f (record { declares = declares; it = front_judged longer o path c s }) whole declares suffixes c s

  -- an operand that is reached with suffixes, by how it is spelled, where it stands and what it assigns
  abbrev pub told : Spelling → Span → List (List ℕ) → Operand T X → List (Suffix Tree) → Run T
  told spelled place declares o suffixes c s =
      (row_by (next_form (row_spelling spelled (take (path_length spelled suffixes) suffixes)) (drop (path_length spelled suffixes) suffixes)) (goes_on spelled suffixes) o
      (row_spelling spelled (take (path_length spelled suffixes) suffixes)) (span_to place (slice_get suffixes (path_length spelled suffixes))) declares
      (known_suffixes L (drop (path_length spelled suffixes) suffixes)) c s).it

  -- a call on an operand, by the form of `T` that it is
  abbrev pub sent_by : Form → Operand T X → Dot → List ℕ → Span → List (Argument (Operand T X)) → Option (Block (Part T X)) → Span → Run T
  sent_by form.Call o how name place arguments b whole = call_operand L o how name place arguments b
  sent_by f o how name place arguments b whole = form_judged L f whole arguments

-- what was judged of a row so far, with the state after it
abbrev pub seen_row : rowed.Row → State Ty → Prefix Ty
seen_row r s = record { declares = r.declares; it = judged r.ty s }
