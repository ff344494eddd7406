-- What derives is what the parser answers.
use Rattle.std.specs.Prelude.{◌≡◌, ◌↔◌, ℕ, suc, ◌+◌, ◌<◌, ◌≤◌, Bool, false, List, [], ◌∷◌, length, Ok}
use Rattle.rb_tree.specs.declared.syntax.Tree.{Tree}
use Rattle.rb_tree.specs.declared.token.Token.{Token}
use Rattle.rb_tree.specs.declared.token.Shape.TheVariants as shape
use Rattle.rb_weight.specs.Weights.{DeepAt}
use Rattle.rb_expr.specs.declared.form.Form.{Form}
use Rattle.rb_expr.specs.declared.form.Form.TheVariants as form
use Rattle.rb_expr.specs.Grammar.{parsed}
use Rattle.rb_decl.specs.Programs.{program, parsed as parsed_program}
use Rattle.rb_rules.specs.Tokens.{Is, StartsWith}
use Rattle.rb_rules.specs.Forms.{Inside}
use Rattle.rb_rules.specs.Grammar.{Parted, Derives, DerivesBody, DerivesTerm, DerivesSimple, DerivesValue, DerivesLevel, DerivesPrefixed}
use Rattle.rb_grammar_laws.specs.Begins.{TERMS, SIMPLE, BODIES}
use Rattle.rb_grammar_laws.specs.Ends.{Ends, BODY_ENDS, EndsForm}

-- ---- what forms begin with

abbrev pub TermsBegin : Type 0
TermsBegin = (free : Bool) (t : Tree) (tokens rest : List Token) → DerivesTerm free t tokens rest → StartsWith TERMS tokens

abbrev pub SimpleBegin : Type 0
SimpleBegin = (constants free : Bool) (t : Tree) (tokens rest : List Token) → DerivesSimple constants free t tokens rest → StartsWith SIMPLE tokens

-- a body may be empty
abbrev pub BodiesBegin : Type 0
BodiesBegin = (free : Bool) (t : Tree) (tokens rest : List Token) → DerivesBody Inside free t tokens rest → Ends BODY_ENDS free rest → Ends BODIES false tokens

-- one before a `rescue` too
abbrev pub RescuedBegin : Type 0
RescuedBegin = (free : Bool) (t : Tree) (tokens rest : List Token) → DerivesBody Inside free t tokens rest → StartsWith (shape.Rescue ∷ []) rest → Ends (shape.Rescue ∷ BODIES) false tokens

-- ---- forms

-- The tree is one of this form. The rules count the levels of operators from 1, the grammar from 0.
abbrev pub DerivesAs : Form → Bool → Tree → List Token → List Token → Type 0
DerivesAs form.Body free t xs ys = DerivesBody Inside free t xs ys
DerivesAs form.Simple free t xs ys = DerivesSimple false free t xs ys
DerivesAs form.Value free t xs ys = DerivesValue false free t xs ys
DerivesAs form.Tern free t xs ys = DerivesTerm free t xs ys
DerivesAs (form.Operation least) free t xs ys = (level : ℕ) × (least ≡ suc level) × (level ≤ 9) × DerivesLevel level free t xs ys
DerivesAs form.Negated free t xs ys = DerivesLevel 9 free t xs ys
DerivesAs form.Prefixed free t xs ys = DerivesPrefixed free t xs ys

-- What derives as a form, before tokens that end one, is read of it: this tree, and those tokens are left. So it has one tree, and ends at one place.
abbrev pub FormsAnswer : Type 0
FormsAnswer = (depth : ℕ) (f : Form) (free : Bool) (tokens rest : List Token) (t : Tree) → suc (length tokens) < depth → DerivesAs f free t tokens rest → EndsForm f free rest → parsed depth f free tokens ≡ Ok (t, rest)

-- So is a body before a `rescue` that a separator or nothing parts from it, up to the `rescue`.
abbrev pub RescuedAnswer : Type 0
RescuedAnswer = (depth : ℕ) (free : Bool) (tokens xs rest : List Token) (k : Token) (t : Tree) → suc (length tokens) < depth → DerivesBody Inside free t tokens xs → Parted t xs (k ∷ rest) → Is shape.Rescue k → parsed depth form.Body free tokens ≡ Ok (t, k ∷ rest)

-- ---- programs

-- What derives as a program is read of it, however deep it nests. So no tokens have two trees.
abbrev pub ProgramsAnswer : Type 0
ProgramsAnswer = (tokens : List Token) (t : Tree) → Derives tokens t → program (length tokens + 2) tokens ≡ Ok t

-- the weight passes the greatest nowhere
abbrev pub IsLight : List Token → Type 0
IsLight tokens = (at : ℕ) → ¬ DeepAt tokens 0 0 at

-- The tree that tokens are parsed to is exactly the one that the grammar gives to them, if they nest too deep nowhere.
abbrev pub ParsedExactly : Type 0
ParsedExactly = (tokens : List Token) (t : Tree) → (parsed_program tokens ≡ Ok t) ↔ (Derives tokens t × IsLight tokens)
