-- What `rb_expr` and `rb_decl` read derives.
use Rattle.std.specs.Prelude.{◌≡◌, ℕ, ◌-◌, min, Bool, true, false, List, Ok}
use Rattle.rb_tree.specs.declared.syntax.Tree.{Tree}
use Rattle.rb_tree.specs.declared.token.Token.{Token}
use Rattle.rb_expr.specs.declared.form.Form.{Form}
use Rattle.rb_expr.specs.declared.form.Form.TheVariants as form
use Rattle.rb_expr.specs.Grammar.{parsed}
use Rattle.rb_expr.specs.Rules.{statement, longest_body, tern}
use Rattle.rb_rules.specs.Forms.{Site, Inside, is_open}
use Rattle.rb_rules.specs.Grammar.{DerivesBody, DerivesStatement, DerivesSimple, DerivesValue, DerivesTerm, DerivesLevel, DerivesPrefixed}

-- The tree is one of this form. The rules count the levels of operators from 1, the grammar from 0; another number stands for the nearest level.
abbrev pub DerivesForm : Form → Bool → Tree → List Token → List Token → Type 0
DerivesForm form.Body free t xs ys = DerivesBody Inside free t xs ys
DerivesForm form.Simple free t xs ys = DerivesSimple false free t xs ys
DerivesForm form.Value free t xs ys = DerivesValue false free t xs ys
DerivesForm form.Tern free t xs ys = DerivesTerm free t xs ys
DerivesForm (form.Operation least) free t xs ys = DerivesLevel (min 9 (least - 1)) free t xs ys
DerivesForm form.Negated free t xs ys = DerivesLevel 9 free t xs ys
DerivesForm form.Prefixed free t xs ys = DerivesPrefixed free t xs ys

-- What is read of a form, however deep others may nest in it, derives.
abbrev pub FormsDerive : Type 0
FormsDerive = (depth : ℕ) (f : Form) (free : Bool) (tokens rest : List Token) (t : Tree) → parsed depth f free tokens ≡ Ok (t, rest) → DerivesForm f free t tokens rest

-- So does what is read of the forms that declarations are made of.
abbrev pub TermsDerive : Type 0
TermsDerive = (depth : ℕ) (tokens rest : List Token) (t : Tree) → tern depth tokens ≡ Ok (t, rest) → DerivesTerm true t tokens rest

abbrev pub StatementsDerive : Type 0
StatementsDerive = (depth : ℕ) (at : Site) (tokens rest : List Token) (t : Tree) → statement depth (is_open at) tokens ≡ Ok (t, rest) → DerivesStatement at true t tokens rest

abbrev pub BodiesDerive : Type 0
BodiesDerive = (depth : ℕ) (at : Site) (tokens rest : List Token) (t : Tree) → longest_body depth (is_open at) tokens ≡ Ok (t, rest) → DerivesBody at true t tokens rest
