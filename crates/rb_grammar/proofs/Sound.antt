-- That what is read of a form that nests derives.
use Rattle.std.proofs.Common.{◌≡◌, ℕ, suc, ◌≤◌, Bool, true, false, List, ◌∷◌, sym, ap, subst, ◌∙◌}
use Rattle.rb_tree.specs.Trees.{span_of, span_at, span_of_node}
use Rattle.rb_tree.specs.declared.syntax.Tree.{Tree}
use Rattle.rb_tree.specs.declared.syntax.Node.{Node, out-Node}
use Rattle.rb_tree.specs.declared.syntax.Node.TheOpen.{Node-F}
use Rattle.rb_tree.specs.declared.syntax.Node.TheViews.{roll-Node, out-roll-Node}
use Rattle.rb_tree.specs.declared.token.Token.{Token}
use Rattle.rb_tree.specs.declared.token.Shape.TheVariants as shape
use Rattle.rb_expr.specs.declared.form.Form.{Form}
use Rattle.rb_expr.specs.declared.form.Form.TheVariants as form
use Rattle.rb_expr.specs.Reading.{Parser, start_of, sees}
use Rattle.rb_expr.specs.Statements.{ending_of, ending_at}
use Rattle.rb_expr.specs.declared.ending.Ending.{Ending}
use Rattle.rb_expr.specs.declared.ending.Ending.TheVariants as ending
use Rattle.rb_rules.specs.Forms.{Inside}
use Rattle.rb_rules.specs.Grammar.{Parted, DerivesBody, DerivesSimple, DerivesValue, DerivesTerm, DerivesLevel, DerivesPrefixed, DerivesPrimary, DerivesTarget, DerivesCallee}
use Rattle.rb_grammar.proofs.Steps.{Holds, Within}

-- the tree begins where the tokens do
abbrev pub Starts : Tree → List Token → Type 0
Starts t xs = (span_of t).start ≡ start_of xs

-- where a tree of this kind begins, and what it may be used as
pub starts : (t : Tree) (r : Node-F Node Tree) (n : ℕ) → roll-Node r ≡ t.node → (span_at r).start ≡ n → (span_of t).start ≡ n
unfolding span_of span_of_node
starts t r n e h = ap (λ u. (span_at (out-Node u)).start) (sym e) ∙ ap (λ q. (span_at q).start) (out-roll-Node r) ∙ h

ends : (t : Tree) (r : Node-F Node Tree) → roll-Node r ≡ t.node → ending_of t ≡ ending_at r
unfolding ending_of
ends t r e = ap (λ u. ending_at (out-Node u)) (sym e) ∙ ap (λ q. ending_at q) (out-roll-Node r)

-- what an operand that ends so may be used as
abbrev pub Uses : Ending → Bool → Tree → List Token → List Token → Type 0
Uses ending.Name free t xs ys = ((constants : Bool) → DerivesTarget constants free t xs ys) × DerivesCallee free t xs ys
Uses ending.Target free t xs ys = (constants : Bool) → DerivesTarget constants free t xs ys
Uses ending.Callee free t xs ys = DerivesCallee free t xs ys
Uses ending.Constant free t xs ys = DerivesTarget true free t xs ys
Uses ending.Other free t xs ys = Unit {0}

-- an operand without suffixes
abbrev pub Primary : Bool → List Token → Tree → List Token → Type 0
Primary free xs t ys = (last : Token) × DerivesPrimary free t last xs ys × Within xs (last ∷ ys) × Starts t xs × Uses (ending_of t) free t xs ys

pub used : (free : Bool) (t : Tree) (r : Node-F Node Tree) (xs ys : List Token) → roll-Node r ≡ t.node → Uses (ending_at r) free t xs ys → Uses (ending_of t) free t xs ys
used free t r xs ys e h = subst (λ x. Uses x free t xs ys) (sym (ends t r e)) h

-- before a `rescue` that is next, the body may be left where a separator or nothing is between the two
abbrev pub Ready : Bool → Tree → List Token → List Token → Type 0
Ready free t xs ys = sees shape.Rescue ys ≡ true → (zs : List Token) × DerivesBody Inside free t xs zs × Parted t zs ys

pub record Sound (nested : Form → Bool → Parser Tree) : Type 0 where
  pub body : (free : Bool) (xs : List Token) → Holds (nested form.Body free xs) (λ t ys. DerivesBody Inside free t xs ys × Within xs ys × Ready free t xs ys)
  pub simple : (free : Bool) (xs : List Token) → Holds (nested form.Simple free xs) (λ t ys. DerivesSimple false free t xs ys × Within xs ys × Starts t xs)
  pub value : (free : Bool) (xs : List Token) → Holds (nested form.Value free xs) (λ t ys. DerivesValue false free t xs ys × Within xs ys × Starts t xs)
  pub term : (free : Bool) (xs : List Token) → Holds (nested form.Tern free xs) (λ t ys. DerivesTerm free t xs ys × Within xs ys × Starts t xs)
  pub level : (level : ℕ) → level ≤ 9 → (free : Bool) (xs : List Token) → Holds (nested (form.Operation (suc level)) free xs) (λ t ys. DerivesLevel level free t xs ys × Within xs ys × Starts t xs)
  pub negated : (free : Bool) (xs : List Token) → Holds (nested form.Negated free xs) (λ t ys. DerivesLevel 9 free t xs ys × Within xs ys × Starts t xs)
  pub prefixed : (free : Bool) (xs : List Token) → Holds (nested form.Prefixed free xs) (λ t ys. DerivesPrefixed free t xs ys × Within xs ys × Starts t xs)
