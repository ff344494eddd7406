-- A call with brackets derives: its derivation.
use Rattle.std.proofs.Common.{true, List, [], ◌∷◌, codes, Some, None, inl, refl, arith}
use Rattle.rb_tree.specs.Tokens as tokens
use Rattle.rb_tree.specs.Trees as trees
use Rattle.rb_tree.specs.declared.syntax.Node as syntax
use Rattle.rb_tree.specs.declared.syntax.Tree.{Tree}
use Rattle.rb_tree.specs.declared.syntax.Argument.TheVariants as argument
use Rattle.rb_tree.specs.declared.syntax.Dot.TheVariants as dot
use Rattle.rb_tree.specs.declared.token.Token.{Token}
use denote.Hole.Carrier as carrier
use Rattle.rb_rules.specs.Forms.{Top}
use Rattle.rb_rules.specs.Grammar.{DerivesPrefixed, DerivesTerm}
use Rattle.rb_rules.specs.Grammar.Gap.{Closed}
use Rattle.rb_rules.specs.Grammar.DerivesBody.{Statements}
use Rattle.rb_rules.specs.Grammar.DerivesMore.{NoMore}
use Rattle.rb_rules.specs.Grammar.DerivesStatement.{Simply}
use Rattle.rb_rules.specs.Grammar.DerivesModified.{Unmodified}
use Rattle.rb_rules.specs.Grammar.DerivesSimple.{Valued}
use Rattle.rb_rules.specs.Grammar.DerivesValue.{Term}
use Rattle.rb_rules.specs.Grammar.DerivesArguments.{LastArgument}
use Rattle.rb_rules.specs.Grammar.DerivesArgument.{ByPlace}
use Rattle.rb_rules.specs.Grammar.DerivesTerm.{Operated}
use Rattle.rb_rules.specs.Grammar.DerivesLevel.{Tighter, Plainly}
use Rattle.rb_rules.specs.Grammar.DerivesPrefixed.{Posted}
use Rattle.rb_rules.specs.Grammar.DerivesOperand.{Bare, Suffixed}
use Rattle.rb_rules.specs.Grammar.DerivesSuffix.{Calls}
use Rattle.rb_rules.specs.Grammar.DerivesBrackets.{Brackets}
use Rattle.rb_rules.specs.Grammar.DerivesBlockAfter.{NoBlock}
use Rattle.rb_rules.specs.Grammar.DerivesPrimary.{WholeNumber, NameAlone}
use Rattle.rb_grammar.specs.Examples.{digit, CALL, CallDerives}

-- an operand with its prefixes is a term
term : (t : Tree) (xs ys : List Token) → DerivesPrefixed true t xs ys → DerivesTerm true t xs ys
term t xs ys d = Operated true t xs ys
    (Tighter 0 true t xs ys (omega arith) (Tighter 1 true t xs ys (omega arith) (Tighter 2 true t xs ys (omega arith) (Tighter 3 true t xs ys (omega arith) (Tighter 4 true t xs ys (omega arith)
    (Tighter 5 true t xs ys (omega arith) (Tighter 6 true t xs ys (omega arith) (Tighter 7 true t xs ys (omega arith) (Tighter 8 true t xs ys (omega arith) (Plainly true t xs ys d))))))))))

pub call-derives : CallDerives
unfolding syntax.out-Node carrier.out tokens.shape_of trees.span_of trees.span_of_node
call-derives = Statements Top true _ [] CALL CALL [] [] [] (Closed _)
    (Simply Top true _ _ CALL [] [] (Valued _ true _ CALL [] (Term _ true _ CALL [] (term _ CALL []
    (Posted true _ _ _ CALL [] (Suffixed true _ _ _ [] _ CALL _ []
    (Bare true _ _ CALL _ (NameAlone true _ (codes "a") _ refl))
    (Calls true _ _ _ _ _ dot.Plain (codes "b") (Some (argument.Positional (digit (codes "1") 4) ∷ [])) None _ [] []
    (inl (refl, refl)) refl
    (Brackets _ _ _ _ _ _ _ [] refl (Closed _)
    (LastArgument true true _ _ _ (ByPlace true _ _ _ (term _ _ _ (Posted true _ _ [] _ _ (Bare true _ _ _ _ (WholeNumber true _ (codes "1") _ refl))))))
    tt (Closed _) refl)
    (NoBlock true _ []) (inl refl)))))))
    (Unmodified true _ []))
    (NoMore Top true []) (Closed [])
