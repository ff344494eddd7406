-- The examples: their derivations, and the roles of their tokens, which the pass tells.
use Rattle.std.proofs.Common.{◌≡◌, ℕ, Bool, true, false, List, [], ◌∷◌, codes, None, inl, refl, sym, ◌∙◌, arith}
use Rattle.rb_tree.specs.Tokens as tokens
use Rattle.rb_tree.specs.Trees as trees
use Rattle.rb_tree.specs.declared.syntax.Node as syntax
use Rattle.rb_tree.specs.declared.syntax.Binary.TheVariants as binary
use Rattle.rb_tree.specs.declared.syntax.Modifier.TheVariants as modifier
use Rattle.rb_tree.specs.declared.syntax.Test.TheVariants as test
use Rattle.rb_tree.specs.declared.syntax.Tree.{Tree}
use Rattle.rb_tree.specs.Nodes as tree
use Rattle.rb_tree.specs.declared.token.Token.{Token}
use denote.Hole.Carrier as carrier
use Rattle.rb_rules.specs.Tokens.{IsIdentifier}
use Rattle.rb_rules.specs.Forms.{Site, Top, Inside, is_open}
use Rattle.rb_tree.specs.declared.token.TokenKind.TheVariants as kind
use Rattle.rb_grammar.specs.Examples.{digit, from_to, token}
use Rattle.rb_rules.specs.Grammar.{Derives, body_of, DerivesBody, DerivesLevel, DerivesPrimary, DerivesSimple, DerivesStatement, DerivesTerm}
use Rattle.rb_rules.specs.Grammar.Gap.{Closed, Wide}
use Rattle.rb_rules.specs.Grammar.Then.{Word, Line}
use Rattle.rb_rules.specs.Grammar.Parted.{AfterSeparator}
use Rattle.rb_rules.specs.Grammar.RescueVariable.{Bound}
use Rattle.rb_rules.specs.Grammar.DerivesGuarded.{Unrescued, Rescued}
use Rattle.rb_rules.specs.Grammar.DerivesRescues.{NoRescue, MoreRescues}
use Rattle.rb_rules.specs.Grammar.DerivesRaised.{SomeErrors}
use Rattle.rb_rules.specs.Grammar.DerivesEnsure.{NoEnsure}
use Rattle.rb_rules.specs.Grammar.DerivesPatterns.{LastPattern}
use Rattle.rb_rules.specs.Grammar.BarNames.{LastBar}
use Rattle.rb_rules.specs.Grammar.Bars.{SomeBars}
use Rattle.rb_rules.specs.Grammar.MethodName.{Plain}
use Rattle.rb_rules.specs.Grammar.Owner.{Other}
use Rattle.rb_rules.specs.Grammar.DerivesBody.{Statements}
use Rattle.rb_rules.specs.Grammar.DerivesMore.{NoMore}
use Rattle.rb_rules.specs.Grammar.DerivesStatement.{Declared, Simply}
use Rattle.rb_rules.specs.Grammar.DerivesModified.{Unmodified, Modified}
use Rattle.rb_rules.specs.Grammar.DerivesSimple.{Valued}
use Rattle.rb_rules.specs.Grammar.DerivesValue.{Term}
use Rattle.rb_rules.specs.Grammar.DerivesTerm.{Operated}
use Rattle.rb_rules.specs.Grammar.DerivesLevel.{Tighter, FromLeft, Plainly}
use Rattle.rb_rules.specs.Grammar.DerivesPrefixed.{Posted}
use Rattle.rb_rules.specs.Grammar.DerivesOperand.{Bare}
use Rattle.rb_rules.specs.Grammar.DerivesBlock.{Braces}
use Rattle.rb_rules.specs.Grammar.DerivesPrimary.{WholeNumber, ConstantName, NameAlone, CallWithBlock, Branches, Loops, Guards}
use Rattle.rb_rules.specs.Grammar.DerivesArms.{NoArm}
use Rattle.rb_rules.specs.Grammar.DerivesElse.{NoElse}
use Rattle.rb_rules.specs.Grammar.DerivesDeclaration.{Method}
use Rattle.rb_rules.specs.Grammar.DerivesMethod.{Def}
use Rattle.rb_rules.specs.Grammar.DerivesParameters.{EmptyParens}
use Rattle.rb_weight.specs.Sorts.{sort_of}
use Rattle.rb_weight.specs.Effects.{effect_of, after, after_plain}
use Rattle.rb_weight.specs.Weights.{begun, within}
use Rattle.rb_weight_laws.specs.Roles.{Role, roles}
use Rattle.rb_weight_laws.specs.Weights.{within as levels_within}
use Rattle.rb_weight_laws.specs.Laws.{role_of, roles_told}
use Rattle.rb_weight_laws.specs.Examples.{MODIFIED, MODIFIED_TREE, ModifierCounts, LOOP, LOOP_TREE, LoopOpensOnce, BLOCK, BLOCK_TREE, BarsCountNot, METHOD, METHOD_TREE, BodyBeginsByIf, GUARDED, GUARDED_TREE, RescueDivides, BlockWeighs, MethodWeighs}
use Rattle.rb_weight_laws.proofs.Laws.{roles-are-told}

-- ---- derivations

-- what binds tightest stands on the level of sums too
sum-level : {free : Bool} {t : Tree} {xs ys : List Token} → DerivesLevel 9 free t xs ys → DerivesLevel 7 free t xs ys
sum-level {free = free} {t = t} {xs = xs} {ys = ys} d = Tighter 7 free t xs ys (omega arith) (Tighter 8 free t xs ys (omega arith) d)

-- and what stands there is a term
term-of : {free : Bool} {t : Tree} {xs ys : List Token} → DerivesLevel 7 free t xs ys → DerivesTerm free t xs ys
term-of {free = free} {t = t} {xs = xs} {ys = ys} d =
    let or = λ (d : DerivesLevel 1 free t xs ys). Tighter 0 free t xs ys (omega arith) d in
    let equal = λ (d : DerivesLevel 3 free t xs ys). Tighter 1 free t xs ys (omega arith) (Tighter 2 free t xs ys (omega arith) d) in
    let bits = λ (d : DerivesLevel 5 free t xs ys). Tighter 3 free t xs ys (omega arith) (Tighter 4 free t xs ys (omega arith) d) in
    Operated free t xs ys (or (equal (bits (Tighter 5 free t xs ys (omega arith) (Tighter 6 free t xs ys (omega arith) d)))))

-- an operand alone is a statement
operand-of : {free : Bool} {last : Token} {t : Tree} {xs ys : List Token} → DerivesPrimary free t last xs ys → DerivesLevel 9 free t xs ys
operand-of {free = free} {last = last} {t = t} {xs = xs} {ys = ys} d = Plainly free t xs ys (Posted free last t [] xs ys (Bare free last t xs ys d))

simple-of : (constants : Bool) {free : Bool} {last : Token} {t : Tree} {xs ys : List Token} → DerivesPrimary free t last xs ys → DerivesSimple constants free t xs ys
simple-of constants {free = free} {t = t} {xs = xs} {ys = ys} d =
    Valued constants free t xs ys (Term constants free t xs ys (term-of (sum-level (operand-of d))))

name-of : (constants free : Bool) (t : Token) (w : List ℕ) (xs : List Token) → IsIdentifier t w → DerivesSimple constants free (tree.Name w t.span) (t ∷ xs) xs
name-of constants free t w xs is = simple-of constants (NameAlone free t w xs is)

-- a statement alone is a body
body-with : {at : Site} {free : Bool} {t : Tree} {xs ys : List Token} → DerivesStatement at free t xs ys → DerivesBody at free (body_of (t ∷ [])) xs ys
body-with {at = at} {free = free} {t = t} {xs = xs} {ys = ys} d = Statements at free t [] xs xs ys ys ys (Closed xs) d (NoMore at free ys) (Closed ys)

simply : (at : Site) {free : Bool} {t : Tree} {xs ys : List Token} → DerivesSimple (is_open at) free t xs ys → DerivesBody at free (body_of (t ∷ [])) xs ys
simply at {free = free} {t = t} {xs = xs} {ys = ys} d = body-with (Simply at free t t xs ys ys d (Unmodified free t ys))

modified : Derives MODIFIED MODIFIED_TREE
unfolding syntax.out-Node carrier.out tokens.shape_of trees.span_of trees.span_of_node
modified = body-with (Simply Top true (tree.Name (codes "x") (from_to 0 1)) _ MODIFIED _ [] (name-of true true _ (codes "x") _ refl)
    (Modified true _ modifier.If _ _ _ _ [] [] (inl (refl, refl)) (inl refl) (name-of false true _ (codes "y") [] refl) (Unmodified true _ [])))

loop : Derives LOOP LOOP_TREE
unfolding syntax.out-Node carrier.out tokens.shape_of trees.span_of trees.span_of_node
loop = simply Top (simple-of true
    (Loops true _ _ _ test.Positive _ _ _ _ [] (inl (refl, refl)) (name-of false false _ (codes "x") _ refl) (inl refl) (simply Inside (name-of false true _ (codes "y") _ refl)) refl))

abbrev SUM : List Token → List Token
SUM rest = token (kind.Identifier (codes "a")) 8 9 ∷ token kind.Plus 10 11 ∷ token (kind.Whole (codes "1")) 12 13 ∷ rest

sum : (rest : List Token) → DerivesLevel 7 true (tree.Binary binary.Plus (from_to 10 11) (tree.Name (codes "a") (from_to 8 9)) (digit (codes "1") 12) (from_to 8 13)) (SUM rest) rest
unfolding syntax.out-Node carrier.out tokens.shape_of trees.span_of trees.span_of_node
sum rest = FromLeft 7 true _ binary.Plus _ _ (SUM rest) _ rest (λ e. absurd (omega arith))
    (sum-level (operand-of (NameAlone true _ (codes "a") _ refl)))
    (record { row = _; on_level = refl; listed = inl (refl, refl) })
    (Tighter 8 true _ _ rest (omega arith) (operand-of (WholeNumber true _ (codes "1") rest refl)))

block : Derives BLOCK BLOCK_TREE
unfolding syntax.out-Node carrier.out tokens.shape_of trees.span_of trees.span_of_node
block = simply Top (simple-of true
    (CallWithBlock true _ _ (codes "f") _ _ [] refl
    (Braces true _ _ _ _ _ _ [] refl (SomeBars _ _ _ _ _ refl (LastBar _ (codes "a") _ refl) refl (tt, tt)) (simply Inside (Valued false true _ _ _ (Term false true _ _ _ (term-of (sum _))))) refl)))

method : Derives METHOD METHOD_TREE
unfolding syntax.out-Node carrier.out tokens.shape_of trees.span_of trees.span_of_node
method = body-with (Declared Top true _ METHOD [] refl (Method Top _ METHOD []
    (Def None None _ _ false (codes "f") (from_to 4 5) [] _ _ _ _ _ [] refl (Other _) (Plain _ (codes "f") _ refl) (EmptyParens _ _ _ _ refl (Closed _) refl) tt tt
    (Unrescued true _ None _ _ _
    (simply Inside (simple-of false
    (Branches true _ _ test.Positive _ _ [] None _ _ _ _ _ _ (inl (refl, refl)) (name-of false true _ (codes "x") _ refl) (Word _ _ refl) (simply Inside (name-of false true _ (codes "y") _ refl)) (NoArm true _) (inl refl) (NoElse true _) refl)))
    (NoEnsure true _))
    refl)))

-- a name alone is a statement
name-alone : (t : Token) (w : List ℕ) (xs : List Token) → IsIdentifier t w → DerivesStatement Inside true (tree.Name w t.span) (t ∷ xs) xs
name-alone t w xs is = Simply Inside true (tree.Name w t.span) (tree.Name w t.span) (t ∷ xs) xs xs (name-of false true t w xs is) (Unmodified true _ xs)

guarded : Derives GUARDED GUARDED_TREE
unfolding syntax.out-Node carrier.out tokens.shape_of trees.span_of trees.span_of_node
guarded = simply Top (simple-of true
    (Guards true _ _ _ _ [] refl
    (Rescued true _ _ [] None None _ _ _ _ _ (Statements Inside true _ [] _ _ _ _ _ (Wide _ _ _ refl (Closed _)) (name-alone _ (codes "x") _ refl) (NoMore Inside true _) (Closed _))
    (MoreRescues true _ _ _ _ _ [] _ _ _ _ _ _ _ (AfterSeparator _ _ _ refl) refl
    (SomeErrors true _ _ _ (LastPattern true _ _ _ (term-of (sum-level (operand-of (ConstantName true _ (codes "E") _ refl)))))) (Bound _ _ (codes "e") _ refl refl) (Line _ _ refl)
    (Statements Inside true _ [] _ _ _ _ _ (Closed _) (name-alone _ (codes "y") _ refl) (NoMore Inside true _) (Wide _ _ _ refl (Closed _))) (NoRescue true _ _)) (NoElse true _) (NoEnsure true _))
    refl))

-- ---- the roles

-- a program's roles are those that the pass tells
have : (tokens : List Token) (rs : List Role) → roles_told (begun 0) tokens ≡ rs → (u : Tree) (d : Derives tokens u) → roles d ≡ rs
have tokens rs told u d = sym (roles-are-told tokens u d) ∙ told

pub modifier-counts : ModifierCounts
unfolding tokens.shape_of sort_of effect_of after after_plain within role_of
modifier-counts = (modified, have MODIFIED _ refl)

pub loop-opens-once : LoopOpensOnce
unfolding tokens.shape_of sort_of effect_of after after_plain within role_of
loop-opens-once = (loop, have LOOP _ refl)

pub bars-count-not : BarsCountNot
unfolding tokens.shape_of sort_of effect_of after after_plain within role_of
bars-count-not = (block, have BLOCK _ refl)

pub body-begins-by-if : BodyBeginsByIf
unfolding tokens.shape_of sort_of effect_of after after_plain within role_of
body-begins-by-if = (method, have METHOD _ refl)

pub rescue-divides : RescueDivides
unfolding tokens.shape_of sort_of effect_of after after_plain within role_of
rescue-divides = (guarded, have GUARDED _ refl)

-- ---- the weights

pub block-weighs : BlockWeighs
unfolding levels_within
block-weighs = refl

pub method-weighs : MethodWeighs
unfolding levels_within
method-weighs = refl
