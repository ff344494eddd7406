-- A call is a form of `T` by its receiver, its name and how many arguments it has; and what a call says of a variable.
use Rattle.std.proofs.Common.{◌≡◌, ℕ, Bool, true, false, List, [], ◌∷◌, codes, bytes_eq, if◌then◌else◌, Option, Some, None, refl, ap, sym, ◌∙◌}
use Rattle.std.specs.Option.{is_some}
use Rattle.srb_terms.specs.declared.span.Span.{Span}
use Rattle.rb_tree.specs.declared.syntax.Argument.{Argument}
use Rattle.rb_tree.specs.declared.syntax.Argument.TheVariants as argument
use Rattle.rb_tree.specs.declared.syntax.Block.{Block}
use Rattle.rb_tree.specs.declared.syntax.Dot.{Dot}
use Rattle.rb_tree.specs.declared.syntax.Dot.TheVariants as dot
use Rattle.rb_tree.specs.declared.syntax.Tree.{Tree}
use Rattle.rb_views.specs.Calls.{arguments_of}
use Rattle.srb_judgement.specs.declared.assertions.Form.{Form}
use Rattle.srb_judgement.specs.declared.assertions.Form.TheVariants as form
use Rattle.srb_judgement.specs.declared.spelling.Count.{Count}
use Rattle.srb_judgement.specs.declared.spelling.Count.TheVariants as count
use Rattle.srb_judgement.specs.Assertions.{Let, Cast, Must, Unsafe, RevealType, NoAssertion, named_one, named_two, by_arguments, on_t, is_t, assertion_of, assertion_judged}
use Rattle.srb_judgement.specs.Calls.{call_operand, send}
use Rattle.srb_judgement.specs.Chains.{operands_of}
use Rattle.srb_judgement.specs.Forms.{one_named, two_named, form_counted, form_by, sole, call_said}
use Rattle.srb_judgement.specs.Languages.{Language}
use Rattle.srb_judgement.specs.Narrowing.{says_call, variable_of}
use Rattle.srb_judgement.specs.Parts.{Operand, Part, Spelling}
use Rattle.srb_judgement.specs.States.{Context, State, Judged, Run}
use Rattle.srb_walk.specs.Known.{known_arguments, known_blocks, known_brackets}
use Rattle.srb_walk_calls.specs.Fronts.{counted, command_form, form_judged, sent_by}

-- ---- how many arguments there are

module _ {T X : Type 0} (L : Language T X) where
  pub counted_known : (row : List (Argument Tree)) → counted (operands_of (known_arguments L row)) ≡ counted row
  counted_known [] = refl
  counted_known (argument.Positional e ∷ []) = refl
  counted_known (argument.Positional e ∷ argument.Positional x ∷ []) = refl
  counted_known (argument.Positional e ∷ argument.Positional x ∷ y ∷ rest) = refl
  counted_known (argument.Positional e ∷ argument.Keyword name span x ∷ rest) = refl
  counted_known (argument.Positional e ∷ argument.Block span x ∷ rest) = refl
  counted_known (argument.Keyword name span e ∷ rest) = refl
  counted_known (argument.Block span e ∷ rest) = refl

  pub counted_brackets : (row : Option (List (Argument Tree))) → counted (operands_of (arguments_of (known_brackets L row))) ≡ counted (arguments_of row)
  counted_brackets None = refl
  counted_brackets (Some row) = counted_known row

-- ---- forms

module _ {T X : Type 0} (L : Language T X) where
  -- a form of `T` with these arguments, and any other call as `other`
  abbrev pub formed_or : Form → Span → List (Argument (Operand T X)) → Run T → Run T
  formed_or form.Call whole arguments other = other
  formed_or f whole arguments other = form_judged L f whole arguments

  one-by : (must unsafe reveal : Bool) (e : Operand T X) (whole : Span) (other : Run T) (c : Context T) (s : State T) →
      assertion_judged L (if must then Must e else (if unsafe then Unsafe e else (if reveal then RevealType e else NoAssertion))) whole other c s
      ≡ formed_or (if must then form.Must else (if unsafe then form.Unsafe else (if reveal then form.RevealType else form.Call))) whole (argument.Positional e ∷ []) other c s
  one-by true unsafe reveal e whole other c s = refl
  one-by false true reveal e whole other c s = refl
  one-by false false true e whole other c s = refl
  one-by false false false e whole other c s = refl

  two-by : (lets casts : Bool) (e x : Operand T X) (whole : Span) (other : Run T) (c : Context T) (s : State T) →
      assertion_judged L (if lets then Let e x else (if casts then Cast e x else NoAssertion)) whole other c s
      ≡ formed_or (if lets then form.Let else (if casts then form.Cast else form.Call)) whole (argument.Positional e ∷ argument.Positional x ∷ []) other c s
  two-by true casts e x whole other c s = refl
  two-by false true e x whole other c s = refl
  two-by false false e x whole other c s = refl

  on-t : (t : Bool) (name : List ℕ) (arguments : List (Argument (Operand T X))) (whole : Span) (other : Run T) (c : Context T) (s : State T) →
      assertion_judged L (on_t t name arguments) whole other c s
      ≡ formed_or (if t then form_counted name (counted arguments) else form.Call) whole arguments other c s
  on-t false name arguments whole other c s = refl
  on-t true name [] whole other c s = refl
  on-t true name (argument.Positional e ∷ []) whole other c s =
      one-by (bytes_eq name (codes "must")) (bytes_eq name (codes "unsafe")) (bytes_eq name (codes "reveal_type")) e whole other c s
  on-t true name (argument.Positional e ∷ argument.Positional x ∷ []) whole other c s =
      two-by (bytes_eq name (codes "let")) (bytes_eq name (codes "cast")) e x whole other c s
  on-t true name (argument.Positional e ∷ argument.Positional x ∷ y ∷ rest) whole other c s = refl
  on-t true name (argument.Positional e ∷ argument.Keyword key span x ∷ rest) whole other c s = refl
  on-t true name (argument.Positional e ∷ argument.Block span x ∷ rest) whole other c s = refl
  on-t true name (argument.Keyword key span e ∷ rest) whole other c s = refl
  on-t true name (argument.Block span e ∷ rest) whole other c s = refl

  -- a call by `.` without a block is judged as the form that it is
  pub formed : (spelled : Spelling) (name : List ℕ) (arguments : List (Argument (Operand T X))) (whole : Span) (other : Run T) (c : Context T) (s : State T) →
      assertion_judged L (assertion_of spelled name arguments) whole other c s
      ≡ formed_or (form_by spelled name (counted arguments)) whole arguments other c s
  formed spelled name arguments whole other c s = on-t (is_t spelled) name arguments whole other c s

  -- ---- what a call says

  pub said : (c : Context T) (spelled : Spelling) (name : List ℕ) (arguments : List (Argument (Operand T X))) →
      says_call L c spelled name arguments ≡ call_said L c.scope (variable_of c spelled) name (sole arguments)
  said c spelled name [] = refl
  said c spelled name (argument.Positional e ∷ []) = refl
  said c spelled name (argument.Positional e ∷ x ∷ rest) = refl
  said c spelled name (argument.Keyword key span e ∷ rest) = refl
  said c spelled name (argument.Block span e ∷ rest) = refl

  -- ---- a call without brackets

  sent-by : (f : Form) (o : Operand T X) (how : Dot) (name : List ℕ) (place : Span) (arguments : List (Argument (Operand T X))) (b : Option (Block (Part T X))) (whole : Span) (c : Context T) (s : State T) →
      sent_by L f o how name place arguments b whole c s ≡ formed_or f whole arguments (call_operand L o how name place arguments b) c s
  sent-by form.Call o how name place arguments b whole c s = refl
  sent-by form.Let o how name place arguments b whole c s = refl
  sent-by form.Cast o how name place arguments b whole c s = refl
  sent-by form.Must o how name place arguments b whole c s = refl
  sent-by form.Unsafe o how name place arguments b whole c s = refl
  sent-by form.RevealType o how name place arguments b whole c s = refl

  pub sent_told : (o : Operand T X) (how : Dot) (name : List ℕ) (place : Span) (row : List (Argument Tree)) (b : Option (Block Tree)) (whole : Span) (c : Context T) (s : State T) →
      sent_by L (command_form how (is_some b) o.spelling name row) o how name place (operands_of (known_arguments L row)) (known_blocks L b) whole c s
      ≡ send L o how name place (operands_of (known_arguments L row)) (known_blocks L b) whole c s
  sent_told o dot.Plain name place row None whole c s =
      sent-by (form_by o.spelling name (counted row)) o dot.Plain name place (operands_of (known_arguments L row)) None whole c s
      ∙ ap (λ n. formed_or (form_by o.spelling name n) whole (operands_of (known_arguments L row)) (call_operand L o dot.Plain name place (operands_of (known_arguments L row)) None) c s) (sym (counted_known L row))
      ∙ sym (formed o.spelling name (operands_of (known_arguments L row)) whole (call_operand L o dot.Plain name place (operands_of (known_arguments L row)) None) c s)
  sent_told o dot.Plain name place row (Some b) whole c s = refl
  sent_told o dot.Safe name place row None whole c s = refl
  sent_told o dot.Safe name place row (Some b) whole c s = refl
