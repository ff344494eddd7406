-- How far a form reaches that begins at a place of a list of tokens.
use Rattle.std.specs.Prelude.{◌≡◌, ℕ, ◌≤◌, Bool, true, List, [], ◌∷◌, ◌++◌, length}
use Rattle.rb_tree.specs.declared.syntax.Tree.{Tree}
use Rattle.rb_tree.specs.declared.token.Token.{Token}
use Rattle.rb_tree.specs.declared.token.Shape.TheVariants as shape
use Rattle.rb_weight.specs.Weights.{DeepAt}
use Rattle.rb_rules.specs.Grammar.{DerivesTerm}
use Rattle.rb_rules.specs.Tokens.{StartsWith}
use Rattle.rb_expr_laws.specs.Bodies.{IsParted, PlainBody}

-- the two forms: a body without declarations, whose flag says that its own statements may assign to constants, and a term
pub data Form : Type 0 where
  Body : Bool → Form
  Term : Form

-- the first tokens are such a form with this tree, before the second
abbrev pub IsForm : Form → Tree → List Token → List Token → Type 0
IsForm (Form.Body constants) t xs ys = PlainBody constants t xs ys
IsForm Form.Term t xs ys = DerivesTerm true t xs ys

-- The tokens begin such a form: with others after them they are one.
abbrev pub BeginsForm : Form → List Token → Type 0
BeginsForm form tokens = (more : List Token) × (t : Tree) × IsForm form t (tokens ++ more) []

-- none begins with these tokens and the next one, if there is a next one
abbrev pub GoesNoFurther : Form → List Token → List Token → Type 0
GoesNoFurther form before [] = Unit {0}
GoesNoFurther form before (next ∷ after) = ¬ BeginsForm form (before ++ next ∷ [])

-- The form reaches over so many tokens: these begin one, and with the next of them none begins.
pub record Reaches (form : Form) (tokens : List Token) (n : ℕ) : Type 0 where
  pub before : List Token
  pub rest : List Token
  pub whole : tokens ≡ before ++ rest
  pub number : n ≡ length before
  pub begins : BeginsForm form before
  pub no_further : GoesNoFurther form before rest

-- Nothing bars what is next: directly after a statement no `rescue` may stand.
abbrev pub MayPrecede : Form → List Token → List Token → Type 0
MayPrecede (Form.Body constants) xs ys = IsParted constants xs ys
MayPrecede Form.Term xs ys = Unit {0}

-- The first tokens are such a form with this tree, before the second, and the second may stand there.
abbrev pub Stands : Form → Tree → List Token → List Token → Type 0
Stands form t xs ys = IsForm form t xs ys × MayPrecede form xs ys

-- `**` is next
abbrev pub IsPowered : List Token → Type 0
IsPowered rest = StartsWith (shape.Power ∷ []) rest

-- `**` is next, with which a term goes on, or `rescue`
abbrev pub IsBarred : List Token → Type 0
IsBarred rest = StartsWith (shape.Power ∷ shape.Rescue ∷ []) rest

-- none of the first so many tokens is too deep, where the weight before them is this one
abbrev pub NoneDeepAmong : List Token → ℕ → ℕ → ℕ → Type 0
NoneDeepAmong tokens weight here n = (turn : ℕ) → DeepAt tokens weight here turn → n ≤ turn
