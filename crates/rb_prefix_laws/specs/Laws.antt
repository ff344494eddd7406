-- The parser looks no further than the next token: what stands after that plays no part in what is answered.
use Rattle.std.specs.Prelude.{◌≡◌, ℕ, suc, ◌<◌, Bool, true, false, List, [], ◌∷◌, ◌++◌, length, Ok, Err}
use Rattle.rb_tree.specs.declared.syntax.Tree.{Tree}
use Rattle.rb_tree.specs.Tokens.{shape_of}
use Rattle.rb_tree.specs.declared.token.Token.{Token}
use Rattle.rb_tree.specs.declared.token.Shape.{Shape}
use Rattle.rb_tree.specs.declared.token.Shape.TheVariants as shape
use Rattle.rb_expr.specs.declared.form.Form.{Form}
use Rattle.rb_expr.specs.Grammar.{parsed}
use Rattle.rb_decl.specs.Programs.{program}

-- ---- forms

-- Where reading a form is refused at a token, it is refused there whatever stands after that.
abbrev pub FormsAreRefusedAlike : Type 0
FormsAreRefusedAlike = (depth other : ℕ) (f : Form) (free : Bool) (before : List Token) (bad : Token) (after others : List Token) → suc (length (before ++ bad ∷ after)) < depth → suc (length (before ++ bad ∷ others)) < other →
    parsed depth f free (before ++ bad ∷ after) ≡ Err (bad ∷ after) → parsed other f free (before ++ bad ∷ others) ≡ Err (bad ∷ others)

-- Where a form ends before a token, the same is read of it whatever stands after that.
abbrev pub FormsEndAlike : Type 0
FormsEndAlike = (depth other : ℕ) (f : Form) (free : Bool) (t : Tree) (before : List Token) (next : Token) (after others : List Token) → suc (length (before ++ next ∷ after)) < depth → suc (length (before ++ next ∷ others)) < other →
    parsed depth f free (before ++ next ∷ after) ≡ Ok (t, next ∷ after) → parsed other f free (before ++ next ∷ others) ≡ Ok (t, next ∷ others)

-- A rule may refuse such a token though what stands before it would be enough: `**` after a number with a `-`, `rescue` after a statement.
-- The other words here end every form.
abbrev pub usual : Shape → Bool
usual shape.Power = false
usual shape.Rescue = false
usual shape.End = false
usual shape.Elsif = false
usual shape.Else = false
usual shape.When = false
usual shape.Ensure = false
usual _ = true

-- Where reading a form is refused at another token, it is refused at the end of the tokens before that, if there is nothing more.
abbrev pub FormsAreRefusedSooner : Type 0
FormsAreRefusedSooner = (depth : ℕ) (f : Form) (free : Bool) (before : List Token) (bad : Token) (after : List Token) → suc (length (before ++ bad ∷ after)) < depth → usual (shape_of bad.kind) ≡ true →
    parsed depth f free (before ++ bad ∷ after) ≡ Err (bad ∷ after) → parsed depth f free before ≡ Err []

-- A depth that is enough for the tokens plays no part.
abbrev pub FormsNeedNoMoreDepth : Type 0
FormsNeedNoMoreDepth = (depth other : ℕ) (f : Form) (free : Bool) (tokens : List Token) → suc (length tokens) < depth → suc (length tokens) < other → parsed depth f free tokens ≡ parsed other f free tokens

-- ---- programs

-- Where a program is refused at a token, it is refused there whatever stands after that.
abbrev pub RefusalsLookNoFurther : Type 0
RefusalsLookNoFurther = (depth other : ℕ) (before : List Token) (bad : Token) (after others : List Token) → length (before ++ bad ∷ after) < depth → length (before ++ bad ∷ others) < other →
    program depth (before ++ bad ∷ after) ≡ Err (bad ∷ after) → program other (before ++ bad ∷ others) ≡ Err (bad ∷ others)

abbrev pub ProgramsNeedNoMoreDepth : Type 0
ProgramsNeedNoMoreDepth = (depth other : ℕ) (tokens : List Token) → length tokens < depth → length tokens < other → program depth tokens ≡ program other tokens
