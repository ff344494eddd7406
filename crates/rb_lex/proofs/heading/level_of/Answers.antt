use Rattle.std.proofs.Common.{◌≡◌, ◌<◌, length, ◌∙◌, sym, ap, subst, arith, []}
use Rattle.std.proofs.lemmas.List.{nil_from_length}
use Rattle.std.proofs.lemmas.Bool.Decides.{nat_tests}
use Rattle.rb_lex.specs.declared.heading.Heading.{Heading}
use Rattle.rb_lex.specs.declared.heading.Heading.TheVariants.{Passed}
use Rattle.rb_lex.specs.Levels.{level_of, IsWithin}
use Rattle.rb_lex.proofs.Steps.{level_given, level_other, level_none, level_passed}
use Rattle.rb_lex.proofs.heading.level_of.Goals as goal

pub returns-in-Given : goal.returns-in-Given
returns-in-Given c =
    let some : 0 < length c.loop-rest.rest.now = grind (arith, nat_tests) in
    sym (level_given c.loop-rest.rest.now _ some (sym c.in-Given.is ∙ c.heading_of.ensures.value)) ∙ c.loop-rest.invariant

pub returns-in-Other : goal.returns-in-Other
returns-in-Other c =
    let some : 0 < length c.loop-rest.rest.now = grind (arith, nat_tests) in
    sym (level_other c.loop-rest.rest.now some (sym c.in-Other.is ∙ c.heading_of.ensures.value)) ∙ c.loop-rest.invariant

within : (c : goal.After-after-rest) → IsWithin (Passed c.in-Passed.len) (length c.loop-rest.rest.now)
within c = let P : Heading → Type 0 = λ h. IsWithin h (length c.loop-rest.rest.now) in subst P c.in-Passed.is c.heading_of.ensures.within

pub loop-rest-preserved : goal.loop-rest-preserved
loop-rest-preserved c =
    let some : 0 < length c.loop-rest.rest.now = grind (arith, nat_tests) in
    ap level_of c.after-rest.ensures ∙ level_passed c.loop-rest.rest.now _ some (sym c.in-Passed.is ∙ c.heading_of.ensures.value) (within c).0 ∙ c.loop-rest.invariant

pub returns : goal.returns
returns c =
    let none : c.loop-rest.rest.now ≡ [] = nil_from_length c.loop-rest.rest.now (grind (arith, nat_tests)) in
    sym level_none ∙ ap level_of (sym none) ∙ c.loop-rest.invariant
