-- What the pass tells of separators, of names in rows and of the head of a method is what the grammar says.
use Rattle.std.proofs.Common.{◌≡◌, ℕ, Bool, true, false, List, [], ◌∷◌, Option, inl, inr, refl}
use Rattle.srb_terms.specs.declared.span.Span.{Span}
use Rattle.rb_tree.specs.Tokens.{shape_of}
use Rattle.rb_tree.specs.declared.token.Token.{Token}
use Rattle.rb_tree.specs.declared.token.Shape.TheVariants as shape
use Rattle.rb_tree.specs.declared.syntax.PlacedName.{PlacedName}
use Rattle.rb_tree.specs.declared.syntax.Reference.{Reference}
use Rattle.rb_tree.specs.declared.syntax.Tree.{Tree}
use Rattle.rb_rules.specs.Tokens.{IsAny}
use Rattle.rb_rules.specs.Grammar.{Gap, GapIn, Then, BarNames, Bars, Path, Superclass, MethodName, Owner, Parted, RescueVariable, DerivesEnd}
use Rattle.rb_rules.specs.Grammar.Gap.{Closed, Wide}
use Rattle.rb_rules.specs.Grammar.GapIn.{Tight, Loose}
use Rattle.rb_rules.specs.Grammar.Then.{Word, Line, LineWord}
use Rattle.rb_rules.specs.Grammar.BarNames.{LastBar, MoreBars}
use Rattle.rb_rules.specs.Grammar.Bars.{NoBars, SomeBars}
use Rattle.rb_rules.specs.Grammar.Path.{LastName, MoreNames}
use Rattle.rb_rules.specs.Grammar.Superclass.{NoSuperclass, Named, NamedFromTop}
use Rattle.rb_rules.specs.Grammar.MethodName.{Plain, Writer, Capital, Operator}
use Rattle.rb_rules.specs.Grammar.Owner.{Other, Own as OwnSelf}
use Rattle.rb_rules.specs.Grammar.Parted.{AfterNothing, AfterSeparator}
use Rattle.rb_rules.specs.Grammar.RescueVariable.{NoVariable, Bound}
use Rattle.rb_rules.specs.Grammar.DerivesEnd.{NoComma, LastComma}
use Rattle.rb_weight.specs.Sorts.{sort_of}
use Rattle.rb_weight.specs.Effects.{is_condition}
use Rattle.rb_weight.specs.declared.effect.Before.{Before}
use Rattle.rb_weight.specs.declared.effect.Before.TheVariants as before
use Rattle.rb_weight.specs.declared.effect.Level.{Level}
use Rattle.rb_weight.specs.declared.effect.Level.TheVariants as level
use Rattle.rb_weight_laws.specs.Roles.{gap_roles, gap_in_roles, then_roles, loop_role, end_roles, bar_name_roles, bars_roles, path_roles, superclass_roles, method_name_roles, owner_roles, parted_roles, variable_roles}
use Rattle.rb_weight_laws.proofs.Steps.{Run, stay, chain, Ready, ready-usual, Usual, Ends, ends, run-ends}
use Rattle.rb_weight_laws.proofs.Steps.Ready.{Fresh, Opened}
use Rattle.rb_weight_laws.proofs.Steps.Usual.{AtPlain, AtOperand}
use Rattle.rb_weight_laws.proofs.Tokens.{shaped, kinded, operand, other, operator, divides, separates, ends-condition, loop-do, Heads, def-self, def-dot, plain-name, operator-name, writer-sign, opens-bars, bar-name, bar-comma, closes-bars}
use Rattle.rb_weight_laws.proofs.Tokens.Heads.{AfterDef, AfterDot}
use Rattle.rb_weight_laws.proofs.Rows.{methods}

-- ---- separators

-- where the flag says that separators may stand, the innermost level is no condition of a loop
abbrev pub Fits : Bool → Level → Type 0
Fits true l = is_condition l ≡ false
Fits false l = Unit {0}

pub fits-plain : (free : Bool) → Fits free level.Plain
fits-plain true = refl
fits-plain false = tt

pub gap : {b : Before} {l : Level} {ls : List Level} {xs ys : List Token} (g : Gap xs ys) → Usual b → is_condition l ≡ false → Ends Usual b (l ∷ ls) xs (gap_roles g) (l ∷ ls) ys
unfolding gap_roles sort_of
gap (Closed _) u no_condition = ends stay u
gap (Wide t _ _ is g) u no_condition = run-ends (separates t (shaped t is) u no_condition) (gap g AtPlain no_condition)

-- where an operand is expected, it still is after separators
pub ready-gap : {b : Before} {l : Level} {ls : List Level} {xs ys : List Token} (g : Gap xs ys) → Ready b → is_condition l ≡ false → Ends Ready b (l ∷ ls) xs (gap_roles g) (l ∷ ls) ys
unfolding gap_roles sort_of
ready-gap (Closed _) r no_condition = ends stay r
ready-gap (Wide t _ _ is g) r no_condition = run-ends (separates t (shaped t is) (ready-usual r) no_condition) (ready-gap g Fresh no_condition)

pub gap-in : {bracketed : Bool} {b : Before} {l : Level} {ls : List Level} {xs ys : List Token} (g : GapIn bracketed xs ys) → Ready b → Fits bracketed l → Ends Ready b (l ∷ ls) xs (gap_in_roles g) (l ∷ ls) ys
unfolding gap_in_roles
gap-in (Tight _) r fits = ends stay r
gap-in (Loose _ _ g) r fits = ready-gap g r fits

pub then-word : {b : Before} {ls : List Level} {xs ys : List Token} (w : Then xs ys) → Usual b → Run b (level.Plain ∷ ls) xs (then_roles w) before.Plain (level.Plain ∷ ls) ys
unfolding then_roles sort_of
then-word (Word t _ is) u = divides t (shaped t is) u
then-word (Line t _ is) u = separates t (shaped t is) u refl
then-word (LineWord s t _ is_line is) u = chain (separates s (shaped s is_line) u refl) (divides t (shaped t is) AtPlain)

-- between the condition of a loop and its body
pub between : {ls : List Level} {xs : List Token} (t : Token) (h : IsAny (shape.Do ∷ shape.Separator ∷ []) t) → Ends Ready before.Operand (level.Condition ∷ ls) (t ∷ xs) (loop_role t h ∷ []) (level.Plain ∷ ls) xs
unfolding loop_role sort_of
between t (inl is) = ends (loop-do t (shaped t is)) Opened
between t (inr (inl is)) = ends (ends-condition t (shaped t is)) Fresh
between t (inr (inr none)) = absurd none

pub end-of : {ls : List Level} {xs ys : List Token} (e : DerivesEnd xs ys) → Ends Usual before.Operand (level.Plain ∷ ls) xs (end_roles e) (level.Plain ∷ ls) ys
unfolding end_roles sort_of
end-of (NoComma _ _ g) = gap g AtOperand refl
end-of (LastComma c _ _ is g) = run-ends (divides c (shaped c is) AtOperand) (gap g AtPlain refl)

-- ---- names in rows

pub bar-names : {names : List PlacedName} {l : Level} {ls : List Level} {xs ys : List Token} (d : BarNames names xs ys) → Run before.Bars (l ∷ ls) xs (bar_name_roles d) before.Bars (l ∷ ls) ys
unfolding bar_name_roles sort_of shape_of
bar-names (LastBar t _ _ is) = bar-name t (kinded t is)
bar-names (MoreBars t c _ _ _ _ is is_comma d) = chain (bar-name t (kinded t is)) (chain (bar-comma c (shaped c is_comma)) (bar-names d))

pub bars : {names : List PlacedName} {l : Level} {ls : List Level} {xs ys : List Token} (d : Bars names xs ys) → Ends Ready before.Block (l ∷ ls) xs (bars_roles d) (l ∷ ls) ys
unfolding bars_roles sort_of
bars (NoBars _) = ends stay Opened
bars (SomeBars a z _ _ _ is d is_end _) = ends (chain (opens-bars a (shaped a is)) (chain (bar-names d) (closes-bars z (shaped z is_end)))) Fresh

pub path : {long : Bool} {names : List PlacedName} {l : Level} {ls : List Level} {xs ys : List Token} (d : Path long names xs ys) → Run before.Plain (l ∷ ls) xs (path_roles d) before.Operand (l ∷ ls) ys
unfolding path_roles sort_of shape_of
path (LastName _ t _ _ is) = operand t (kinded t is) AtPlain
path (MoreNames t c _ _ _ _ is is_scope d) = chain (operand t (kinded t is) AtPlain) (chain (other c (shaped c is_scope) AtOperand) (path d))

pub superclass : {r : Option Reference} {l : Level} {ls : List Level} {xs ys : List Token} (d : Superclass r xs ys) → Run before.Operand (l ∷ ls) xs (superclass_roles d) before.Operand (l ∷ ls) ys
unfolding superclass_roles sort_of
superclass (NoSuperclass _) = stay
superclass (Named o _ _ _ _ is d) = chain (operator o (shaped o is) AtOperand) (path d)
superclass (NamedFromTop o c _ _ _ _ is is_scope d) = chain (operator o (shaped o is) AtOperand) (chain (other c (shaped c is_scope) AtPlain) (path d))

-- ---- the head of a method

pub method-name : {w : List ℕ} {s : Span} {b : Before} {l : Level} {ls : List Level} {xs ys : List Token} (d : MethodName w s xs ys) → Heads b → Run b (l ∷ ls) xs (method_name_roles d) before.Name (l ∷ ls) ys
unfolding method_name_roles sort_of shape_of
method-name (Plain t _ _ is) h = plain-name t (kinded t is) h
method-name (Writer t e _ _ is is_sign) h = chain (plain-name t (kinded t is) h) (writer-sign e (shaped e is_sign))
method-name (Capital t _ _ is) h = plain-name t (kinded t is) h
method-name (Operator t _ _ is) h = operator-name t refl (methods is) h

pub owner : {own : Bool} {l : Level} {ls : List Level} {xs ys : List Token} (d : Owner own xs ys) → Ends Heads before.Def (l ∷ ls) xs (owner_roles d) (l ∷ ls) ys
unfolding owner_roles sort_of
owner (Other _) = ends stay AfterDef
owner (OwnSelf s d _ is is_dot) = ends (chain (def-self s (shaped s is)) (def-dot d (shaped d is_dot))) AfterDot

-- ---- guards

pub parted : {t : Tree} {b : Before} {ls : List Level} {xs ys : List Token} (d : Parted t xs ys) → Usual b → Ends Usual b (level.Plain ∷ ls) xs (parted_roles d) (level.Plain ∷ ls) ys
unfolding parted_roles sort_of
parted (AfterNothing _) u = ends stay u
parted (AfterSeparator _ t _ is) u = ends (separates t (shaped t is) u refl) AtPlain

pub variable : {v : Option PlacedName} {b : Before} {ls : List Level} {xs ys : List Token} (d : RescueVariable v xs ys) → Usual b → Ends Usual b (level.Plain ∷ ls) xs (variable_roles d) (level.Plain ∷ ls) ys
unfolding variable_roles sort_of shape_of
variable (NoVariable _) u = ends stay u
variable (Bound a t _ _ is is_name) u = ends (chain (other a (shaped a is) u) (operand t (kinded t is_name) AtPlain)) AtOperand
