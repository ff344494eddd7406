-- What the words of a label tell: each word of a tree is read back from how it is spelled.
use Rattle.std.proofs.Common.{◌≡◌, ℕ, Bool, true, false, cond, ◌&&◌, nat_eq, List, [], ◌∷◌, ◌++◌, Option, Some, None, codes, refl}
use Rattle.srb_terms.specs.declared.param_kind.ParamKind.{ParamKind}
use Rattle.srb_terms.specs.declared.param_kind.ParamKind.TheVariants as param
use Rattle.rb_tree.specs.declared.syntax.Modifier.{Modifier}
use Rattle.rb_tree.specs.declared.syntax.Modifier.TheVariants as modifier
use Rattle.rb_tree.specs.declared.syntax.Jump.{Jump}
use Rattle.rb_tree.specs.declared.syntax.Jump.TheVariants as jump
use Rattle.rb_tree.specs.declared.syntax.Test.{Test}
use Rattle.rb_tree.specs.declared.syntax.Test.TheVariants as test
use Rattle.rb_tree.specs.declared.syntax.Sign.{Sign}
use Rattle.rb_tree.specs.declared.syntax.Sign.TheVariants as sign
use Rattle.rb_tree.specs.declared.syntax.Unary.{Unary}
use Rattle.rb_tree.specs.declared.syntax.Unary.TheVariants as unary
use Rattle.rb_tree.specs.declared.syntax.Binary.{Binary}
use Rattle.rb_tree.specs.declared.syntax.Binary.TheVariants as binary
use Rattle.rb_tree.specs.declared.syntax.Visibility.{Visibility}
use Rattle.rb_tree.specs.declared.syntax.Visibility.TheVariants as visibility
use Rattle.rb_outline.specs.Outlines.{modifier_words, jump_words, if_words, while_words, sign_words, unary_words, binary_words, own_mark, visibility_words, param_words, top_words}

-- whether two texts are equal
abbrev pub same_words : List ℕ → List ℕ → Bool
same_words [] [] = true
same_words [] (w ∷ ws) = false
same_words (v ∷ vs) [] = false
same_words (v ∷ vs) (w ∷ ws) = nat_eq v w && same_words vs ws

-- what stands after a text that begins another
abbrev pub after : List ℕ → List ℕ → Option (List ℕ)
after [] ws = Some ws
after (v ∷ vs) [] = None
after (v ∷ vs) (w ∷ ws) = cond (nat_eq v w) (after vs ws) None

-- one of several values, and how it is spelled
pub record Spelled (A : Type 0) : Type 0 where
  pub words : List ℕ
  pub value : A

abbrev pub spelled : {A : Type 0} → List ℕ → A → Spelled A
spelled words value = record { words = words; value = value }

-- the value that is spelled so, and another if none is
abbrev pub value_of : {A : Type 0} → List (Spelled A) → A → List ℕ → A
value_of [] other ws = other
value_of (s ∷ ss) other ws = cond (same_words s.words ws) s.value (value_of ss other ws)

-- the value with whose spelling a text begins, and the rest of the text
abbrev pub begun : {A : Type 0} → A → Option (List ℕ) → A × List ℕ → A × List ℕ
begun value None others = others
begun value (Some rest) others = (value, rest)

abbrev pub beginning_of : {A : Type 0} → List (Spelled A) → A → List ℕ → A × List ℕ
beginning_of [] other ws = (other, ws)
beginning_of (s ∷ ss) other ws = begun s.value (after s.words ws) (beginning_of ss other ws)

-- ---- the words of a tree

abbrev pub modifier_in : List ℕ → Modifier
modifier_in = value_of
    (spelled (codes "if") modifier.If ∷ spelled (codes "unless") modifier.Unless ∷ spelled (codes "while") modifier.While ∷ [])
    modifier.Until

abbrev pub jump_in : List ℕ → Jump
jump_in = value_of (spelled (codes "return") jump.Return ∷ spelled (codes "break") jump.Break ∷ []) jump.Next

abbrev pub if_in : List ℕ → Test
if_in = value_of (spelled (codes "if") test.Positive ∷ []) test.Negative

abbrev pub while_in : List ℕ → Test
while_in = value_of (spelled (codes "while") test.Positive ∷ []) test.Negative

abbrev pub sign_in : List ℕ → Sign
sign_in = value_of (spelled (codes "-") sign.Minus ∷ []) sign.Plus

abbrev pub unary_in : List ℕ → Unary
unary_in = value_of (spelled (codes "-") unary.Minus ∷ spelled (codes "+") unary.Plus ∷ spelled (codes "!") unary.Not ∷ []) unary.Tilde

abbrev pub binary_in : List ℕ → Binary
binary_in = value_of (
    spelled (codes "||") binary.Or ∷ spelled (codes "&&") binary.And ∷ spelled (codes "==") binary.Equal ∷ spelled (codes "!=") binary.NotEqual
    ∷ spelled (codes "===") binary.CaseEqual ∷ spelled (codes "<=>") binary.Compare ∷ spelled (codes "<") binary.Less ∷ spelled (codes ">") binary.Greater
    ∷ spelled (codes "<=") binary.LessEqual ∷ spelled (codes ">=") binary.GreaterEqual ∷ spelled (codes "|") binary.Pipe ∷ spelled (codes "^") binary.Caret
    ∷ spelled (codes "&") binary.Ampersand ∷ spelled (codes "<<") binary.ShiftLeft ∷ spelled (codes ">>") binary.ShiftRight
    ∷ spelled (codes "+") binary.Plus ∷ spelled (codes "-") binary.Minus ∷ spelled (codes "*") binary.Star ∷ spelled (codes "/") binary.Slash
    ∷ spelled (codes "%") binary.Percent ∷ []) binary.Power

abbrev pub top_in : List ℕ → Bool
top_in [] = false
top_in (w ∷ ws) = true

-- a visibility, if there is one, and what follows
abbrev pub visibility_in : List ℕ → Option Visibility × List ℕ
visibility_in = beginning_of (
    spelled (codes "private ") (Some visibility.Private) ∷ spelled (codes "protected ") (Some visibility.Protected)
    ∷ spelled (codes "public ") (Some visibility.Public) ∷ spelled (codes "private_class_method ") (Some visibility.PrivateClassMethod) ∷ []) None

-- whether a method is one of the class object, and its name
abbrev pub own_in : List ℕ → Bool × List ℕ
own_in = beginning_of (spelled (codes "def .") true ∷ spelled (codes "def #") false ∷ []) false

-- the kind of a parameter, and its name
abbrev pub param_in : List ℕ → ParamKind × List ℕ
param_in = beginning_of (
    spelled (codes "req ") param.Required ∷ spelled (codes "opt ") param.Optional ∷ spelled (codes "keyreq ") param.Key
    ∷ spelled (codes "key ") param.KeyOptional ∷ spelled (codes "block ") param.Block ∷ spelled (codes "rest ") param.Rest ∷ []) param.Required

-- ---- each is read back

pub modifier-back : (m : Modifier) → modifier_in (modifier_words m) ≡ m
modifier-back modifier.If = refl
modifier-back modifier.Unless = refl
modifier-back modifier.While = refl
modifier-back modifier.Until = refl

pub jump-back : (j : Jump) → jump_in (jump_words j) ≡ j
jump-back jump.Return = refl
jump-back jump.Break = refl
jump-back jump.Next = refl

pub if-back : (t : Test) → if_in (if_words t) ≡ t
if-back test.Positive = refl
if-back test.Negative = refl

pub while-back : (t : Test) → while_in (while_words t) ≡ t
while-back test.Positive = refl
while-back test.Negative = refl

pub sign-back : (s : Sign) → sign_in (sign_words s) ≡ s
sign-back sign.Minus = refl
sign-back sign.Plus = refl

pub unary-back : (u : Unary) → unary_in (unary_words u) ≡ u
unary-back unary.Minus = refl
unary-back unary.Plus = refl
unary-back unary.Not = refl
unary-back unary.Tilde = refl

pub binary-back : (b : Binary) → binary_in (binary_words b) ≡ b
binary-back binary.Or = refl
binary-back binary.And = refl
binary-back binary.Equal = refl
binary-back binary.NotEqual = refl
binary-back binary.CaseEqual = refl
binary-back binary.Compare = refl
binary-back binary.Less = refl
binary-back binary.Greater = refl
binary-back binary.LessEqual = refl
binary-back binary.GreaterEqual = refl
binary-back binary.Pipe = refl
binary-back binary.Caret = refl
binary-back binary.Ampersand = refl
binary-back binary.ShiftLeft = refl
binary-back binary.ShiftRight = refl
binary-back binary.Plus = refl
binary-back binary.Minus = refl
binary-back binary.Star = refl
binary-back binary.Slash = refl
binary-back binary.Percent = refl
binary-back binary.Power = refl

pub top-back : (b : Bool) → top_in (top_words b) ≡ b
top-back true = refl
top-back false = refl

pub visibility-back : (v : Option Visibility) (own : Bool) (name : List ℕ) → visibility_in (visibility_words v ++ (own_mark own ++ name)) ≡ (v, own_mark own ++ name)
visibility-back None true name = refl
visibility-back None false name = refl
visibility-back (Some visibility.Private) own name = refl
visibility-back (Some visibility.Protected) own name = refl
visibility-back (Some visibility.Public) own name = refl
visibility-back (Some visibility.PrivateClassMethod) own name = refl

pub own-back : (own : Bool) (name : List ℕ) → own_in (own_mark own ++ name) ≡ (own, name)
own-back true name = refl
own-back false name = refl

pub param-back : (k : ParamKind) (name : List ℕ) → param_in (param_words k ++ name) ≡ (k, name)
param-back param.Required name = refl
param-back param.Optional name = refl
param-back param.Key name = refl
param-back param.KeyOptional name = refl
param-back param.Block name = refl
param-back param.Rest name = refl
