-- Steps over a text by counted bytes, beside the passes that drop them.
use Rattle.std.proofs.Common.{◌≡◌, ℕ, zero, suc, ◌+◌, ◌-◌, ◌<◌, ◌≤◌, List, [], ◌∷◌, drop, length, Result, Ok, Err, refl, ap, sym, ◌∙◌, arith}
use Rattle.srb_terms.specs.declared.level.Level.{Level}
use Rattle.srb_terms.specs.declared.level.Level.TheVariants.{False}
use Rattle.rb_tree.specs.declared.token.Token.{Token}
use Rattle.rb_lex.specs.declared.heading.Heading.{Heading}
use Rattle.rb_lex.specs.declared.heading.Heading.TheVariants.{Passed, Given, Other}
use Rattle.rb_lex.specs.declared.state.State.{State}
use Rattle.rb_lex.specs.declared.LexEnd.{LexEnd}
use Rattle.rb_lex.specs.declared.LexEnd.TheVariants.{Bad, Outside, NoMemory}
use Rattle.rb_lex.specs.Levels.{heading_of, level_from, level_of}
use Rattle.rb_lex.specs.Lexed.{Gives, step, lexed_from}

drop-more : (n b : ℕ) (z : List ℕ) → 0 < n → drop (n - 1) z ≡ drop n (b ∷ z)
drop-more zero b z h = absurd (omega arith)
drop-more (suc n) b z h = let e : suc n - 1 ≡ n = omega arith in ap (λ k. drop k z) e

level_from-drop : (n : ℕ) (z : List ℕ) → level_from n z ≡ level_from 0 (drop n z)
level_from-drop zero z = refl
level_from-drop (suc n) [] = refl
level_from-drop (suc n) (b ∷ z) = level_from-drop n z

abbrev level_by : List ℕ → Heading → Level
level_by z h = elim h [ Passed len ↦ level_from (len - 1) z | Given level ↦ level | Other ↦ False ]

pub level_given : (z : List ℕ) (l : Level) → 0 < length z → Given l ≡ heading_of z → level_of z ≡ l
unfolding level_of
level_given [] l some e = absurd (omega arith)
level_given (b ∷ z) l some e = ap (level_by z) (sym e)

pub level_other : (z : List ℕ) → 0 < length z → Other ≡ heading_of z → level_of z ≡ False
unfolding level_of
level_other [] some e = absurd (omega arith)
level_other (b ∷ z) some e = ap (level_by z) (sym e)

pub level_none : level_of [] ≡ False
unfolding level_of
level_none = refl

pub level_passed : (z : List ℕ) (n : ℕ) → 0 < length z → Passed n ≡ heading_of z → 0 < n → level_of (drop n z) ≡ level_of z
unfolding level_of
level_passed [] n some e moves = absurd (omega arith)
level_passed (b ∷ z) n some e moves = sym (ap (level_by z) (sym e) ∙ level_from-drop (n - 1) z ∙ ap (level_from 0) (drop-more n b z moves))

lexed_from-drop : (k at : ℕ) (s : State) (z : List ℕ) → k ≤ length z → lexed_from k at s z ≡ lexed_from 0 (at + k) s (drop k z)
lexed_from-drop zero at s z h = let e : at ≡ at + 0 = omega arith in ap (λ k. lexed_from 0 k s z) e
lexed_from-drop (suc k) at s [] h = absurd (omega arith)
lexed_from-drop (suc k) at s (b ∷ z) h =
    let e : at + 1 + k ≡ at + suc k = omega arith in
    lexed_from-drop k (at + 1) s z (omega arith) ∙ ap (λ n. lexed_from 0 n s (drop k z)) e

abbrev lexed_by : ℕ → List ℕ → Result (ℕ × State) LexEnd → Result (List Token) LexEnd
lexed_by at z r = elim r [ Err e ↦ Err e | Ok y ↦ lexed_from (y.0 - 1) at y.1 z ]

pub lexed_goes : (z : List ℕ) (n at : ℕ) (s more : State) → 0 < length z → step at z s ≡ Ok (n, more) → 0 < n → n ≤ length z → lexed_from 0 (at + n) more (drop n z) ≡ lexed_from 0 at s z
lexed_goes [] n at s more some e moves within = absurd (omega arith)
lexed_goes (b ∷ z) n at s more some e moves within =
    let places : at + 1 + (n - 1) ≡ at + n = omega arith in
    let rest = lexed_from-drop (n - 1) (at + 1) more z (omega arith) ∙ ap (λ k. lexed_from 0 k more (drop (n - 1) z)) places ∙ ap (lexed_from 0 (at + n) more) (drop-more n b z moves) in
    sym (ap (lexed_by (at + 1) z) e ∙ rest)

pub lexed_refused : (z : List ℕ) (at : ℕ) (s : State) (end : LexEnd) → 0 < length z → step at z s ≡ Err end → lexed_from 0 at s z ≡ Err end
lexed_refused [] at s end some e = absurd (omega arith)
lexed_refused (b ∷ z) at s end some e = ap (lexed_by (at + 1) z) e

-- a refusal is that of another answer which is refused alike
pub Gives-refused : {A B C D : Type 0} (f : A → B) (g : C → D) (end : LexEnd) (x : Result B LexEnd) (y : Result D LexEnd) → ((e : LexEnd) → x ≡ Err e → y ≡ Err e) → Gives f (Err end) x → Gives g (Err end) y
Gives-refused f g (Bad at) x y alike h = alike (Bad at) h
Gives-refused f g (Outside at) x y alike h = alike (Outside at) h
Gives-refused f g NoMemory x y alike h = h

-- an answer is given along an equation
pub Gives-along : {A B : Type 0} (f : A → B) (r : Result A LexEnd) (x y : Result B LexEnd) → x ≡ y → Gives f r x → Gives f r y
Gives-along f (Ok a) x y e h = sym e ∙ h
Gives-along f (Err (Bad at)) x y e h = sym e ∙ h
Gives-along f (Err (Outside at)) x y e h = sym e ∙ h
Gives-along f (Err NoMemory) x y e h = h
