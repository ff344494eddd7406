-- What is asked of the forms that nest.
use Rattle.std.proofs.Common.{◌≡◌, ℕ, suc, ◌≤◌, ◌<◌, Bool, false, List, ◌∷◌, length, Ok}
use Rattle.rb_tree.specs.declared.syntax.Tree.{Tree}
use Rattle.rb_tree.specs.declared.token.Token.{Token}
use Rattle.rb_tree.specs.declared.token.Shape.TheVariants as shape
use Rattle.rb_expr.specs.declared.form.Form.{Form}
use Rattle.rb_expr.specs.declared.form.Form.TheVariants as form
use Rattle.rb_expr.specs.Reading.{Parser}
use Rattle.rb_rules.specs.Tokens.{Is}
use Rattle.rb_rules.specs.Forms.{Inside}
use Rattle.rb_rules.specs.Grammar.{Parted, DerivesBody, DerivesSimple, DerivesValue, DerivesTerm, DerivesLevel, DerivesPrefixed}
use Rattle.rb_grammar.proofs.Steps.{Within}
use Rattle.rb_grammar_laws.specs.Ends.{Ends, IsLooser, BODY_ENDS, SIMPLE_ENDS, TERM_ENDS, OPERATION_ENDS, PREFIXED_ENDS}
use Rattle.rb_grammar_laws.proofs.Steps.{Past}

-- the parser reads this, and something of the tokens
abbrev pub Reads : {A : Type 0} → Parser A → A → List Token → List Token → Type 0
Reads p t xs ys = (p xs ≡ Ok (t, ys)) × Past xs ys

-- likewise, or nothing of them
abbrev pub ReadsSome : {A : Type 0} → Parser A → A → List Token → List Token → Type 0
ReadsSome p t xs ys = (p xs ≡ Ok (t, ys)) × Within xs ys

-- forms are read of fewer tokens than this
pub record Complete (depth : ℕ) (nested : Form → Bool → Parser Tree) : Type 0 where
  pub body : (free : Bool) (t : Tree) (xs ys : List Token) → suc (length xs) < depth → DerivesBody Inside free t xs ys → Ends BODY_ENDS free ys → ReadsSome (nested form.Body free) t xs ys
  pub rescued : (free : Bool) (t : Tree) (xs ps qs : List Token) (k : Token) → suc (length xs) < depth → DerivesBody Inside free t xs ps → Parted t ps (k ∷ qs) → Is shape.Rescue k → ReadsSome (nested form.Body free) t xs (k ∷ qs)
  pub simple : (free : Bool) (t : Tree) (xs ys : List Token) → suc (length xs) < depth → DerivesSimple false free t xs ys → Ends SIMPLE_ENDS free ys → Reads (nested form.Simple free) t xs ys
  pub value : (free : Bool) (t : Tree) (xs ys : List Token) → suc (length xs) < depth → DerivesValue false free t xs ys → Ends SIMPLE_ENDS free ys → Reads (nested form.Value free) t xs ys
  pub term : (free : Bool) (t : Tree) (xs ys : List Token) → suc (length xs) < depth → DerivesTerm free t xs ys → Ends TERM_ENDS free ys → Reads (nested form.Tern free) t xs ys
  pub level : (level : ℕ) → level ≤ 9 → (free : Bool) (t : Tree) (xs ys : List Token) → suc (length xs) < depth → DerivesLevel level free t xs ys → Ends OPERATION_ENDS free ys → IsLooser (suc level) ys →
      Reads (nested (form.Operation (suc level)) free) t xs ys
  pub negated : (free : Bool) (t : Tree) (xs ys : List Token) → suc (length xs) < depth → DerivesLevel 9 free t xs ys → Ends OPERATION_ENDS free ys → Reads (nested form.Negated free) t xs ys
  pub prefixed : (free : Bool) (t : Tree) (xs ys : List Token) → suc (length xs) < depth → DerivesPrefixed free t xs ys → Ends PREFIXED_ENDS free ys → Reads (nested form.Prefixed free) t xs ys
