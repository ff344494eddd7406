use Rattle.std.proofs.Common.{◌≡◌, ℕ, ◌+◌, ◌-◌, ◌<◌, length, length-drop, ◌∙◌, sym, ap, subst, arith, [], Vec, Global}
use Rattle.rb_tree.specs.declared.token.Token.{Token}
use Rattle.std.proofs.lemmas.List.{nil_from_length}
use Rattle.std.proofs.lemmas.Bool.Decides.{nat_tests}
use Rattle.rb_lex.specs.Lexed.{lexed_from, lexed}
use Rattle.std.specs.Str.{IsUtf8}
use Rattle.rb_lex.proofs.Boundaries.{step_text}
use Rattle.rb_lex.proofs.Steps.{lexed_goes, lexed_refused, Gives-refused, Gives-along}
use Rattle.rb_lex.proofs.running.lex_bytes.Goals as goal

pub loop-rest-preserved : goal.loop-rest-preserved
loop-rest-preserved c =
    let z = c.loop-rest.rest.now in
    let some : 0 < length z = grind (arith, nat_tests) in
    let within = c.in-Ok.ensures.within in
    let goes = lexed_goes z c.in-Ok.len c.loop-rest.at c.loop-rest.state c.step.new.self some c.in-Ok.ensures.value within.0 within.1 in
    let shorter : length c.after-rest.result.now ≡ length z - c.in-Ok.len = ap length c.after-rest.ensures ∙ length-drop c.in-Ok.len z in
    let whole = c.loop-rest.invariant.1 in
    let texts = step_text c.loop-rest.at z c.loop-rest.state c.in-Ok.len c.step.new.self c.in-Ok.ensures.value c.loop-rest.invariant.2 c.loop-rest.invariant.3 within.1 in
    (ap (lexed_from 0 (c.loop-rest.at + c.in-Ok.len) c.step.new.self) c.after-rest.ensures ∙ goes ∙ c.loop-rest.invariant.0, omega arith, subst IsUtf8 (sym c.after-rest.ensures) texts.0, texts.1)

pub returns-in-Err : goal.returns-in-Err
unfolding lexed
returns-in-Err c =
    let z = c.loop-rest.rest.now in
    let some : 0 < length z = grind (arith, nat_tests) in
    Gives-refused {A = ℕ} {C = Vec Token Global} (λ n. (n, c.step.new.self)) (λ v. v.items) c.in-Err.end _ _ (λ e h. sym c.loop-rest.invariant.0 ∙ lexed_refused z c.loop-rest.at c.loop-rest.state e some h) c.in-Err.ensures.value

pub returns : goal.returns
unfolding lexed
returns c =
    let none : c.loop-rest.rest.now ≡ [] = nil_from_length c.loop-rest.rest.now (grind (arith, nat_tests)) in
    Gives-along _ c.finish.result _ _ (ap (lexed_from 0 c.loop-rest.at c.loop-rest.state) (sym none) ∙ c.loop-rest.invariant.0) c.finish.ensures
