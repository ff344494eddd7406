-- What is read before a refusal can be completed.
use Rattle.std.specs.Prelude.{◌≡◌, ℕ, true, List, ◌++◌, Err}
use Rattle.rb_tree.specs.declared.syntax.Tree.{Tree}
use Rattle.rb_tree.specs.declared.token.Token.{Token}
use Rattle.rb_expr.specs.Rules.{statement, longest_body, tern}
use Rattle.rb_decl.specs.Programs.{program}
use Rattle.rb_rules.specs.Forms.{Site, is_open}
use Rattle.rb_rules.specs.Grammar.{Begins, DerivesBody, DerivesStatement, DerivesTerm}
use Rattle.rb_completion_laws.specs.After.{Clear}

-- ---- programs

-- Where a program is refused, the tokens before the refused one begin a program, however deep forms may nest. Where tokens end too
-- early, all of them begin one.
abbrev pub RefusedFrontsBegin : Type 0
RefusedFrontsBegin = (d : ℕ) (before rest : List Token) → program d (before ++ rest) ≡ Err rest → Begins before

-- What a refusal leaves is an end of the tokens.
abbrev pub RefusalsAreEnds : Type 0
RefusalsAreEnds = (d : ℕ) (tokens rest : List Token) → program d tokens ≡ Err rest → (before : List Token) × (tokens ≡ before ++ rest)

-- ---- forms

-- The tokens before the refused one begin such a form: with others after them they are one, before any tokens that are clear of it.
abbrev pub Begun : (List Token → List Token → Type 0) → List Token → List Token → Type 0
Begun D tokens rest = (before : List Token) × (tokens ≡ before ++ rest) × ((after : List Token) → Clear after → (more : List Token) × D (before ++ more) after)

abbrev pub TermsBegin : Type 0
TermsBegin = (depth : ℕ) (tokens rest : List Token) → tern depth tokens ≡ Err rest → Begun (λ xs ys. (t : Tree) × DerivesTerm true t xs ys) tokens rest

abbrev pub StatementsBegin : Type 0
StatementsBegin = (depth : ℕ) (at : Site) (tokens rest : List Token) → statement depth (is_open at) tokens ≡ Err rest → Begun (λ xs ys. (t : Tree) × DerivesStatement at true t xs ys) tokens rest

abbrev pub BodiesBegin : Type 0
BodiesBegin = (depth : ℕ) (at : Site) (tokens rest : List Token) → longest_body depth (is_open at) tokens ≡ Err rest → Begun (λ xs ys. (t : Tree) × DerivesBody at true t xs ys) tokens rest
