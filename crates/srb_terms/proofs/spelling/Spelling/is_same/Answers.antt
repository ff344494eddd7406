use Rattle.std.proofs.Common.{◌≡◌, ◌&&◌, ◌∙◌, sym, ap, subst, nat_eq, bytes_eq, true, false, take}
use Rattle.std.proofs.lemmas.Bool.Decides.{Decides-eqb}
use Rattle.srb_terms.specs.Spellings.{IsHeld, held}
use Rattle.srb_terms.proofs.Filled.{other_number, same_filled}
use Rattle.srb_terms.proofs.spelling.Spelling.is_same.Goals as goal

-- the rooms are compared where the numbers of bytes are equal
pub returns-then-len-others : goal.returns-then-len-others
returns-then-len-others c =
    let a = subst IsHeld c.in-Short-Short.is-0 c.self.invariant in
    let b = subst IsHeld c.in-Short-Short.is-1 c.other.invariant in
    let m = c.in-Short-Short.len in
    let n = c.in-Short-Short.others in
    let x = c.in-Short-Short.bytes in
    let y = c.in-Short-Short.other in
    let one : take m x ≡ c.args.self.now = sym (ap held c.in-Short-Short.is-0) ∙ c.self.view_is in
    let two : take n y ≡ c.args.other.now = sym (ap held c.in-Short-Short.is-1) ∙ c.other.view_is in
    let yes : nat_eq m n ≡ true = (Decides-eqb m n).1 c.if-len-others.true in
    c.are_same.ensures ∙ sym (ap (λ s. s && bytes_eq x y) yes)
    ∙ same_filled m n x y a.0 b.0 a.1.1.0 b.1.1.0 a.1.1.1 b.1.1.1 ∙ (λ i. bytes_eq (one i) (two i))

pub returns-else-len-others : goal.returns-else-len-others
returns-else-len-others c =
    let a = subst IsHeld c.in-Short-Short.is-0 c.self.invariant in
    let b = subst IsHeld c.in-Short-Short.is-1 c.other.invariant in
    let m = c.in-Short-Short.len in
    let n = c.in-Short-Short.others in
    let x = c.in-Short-Short.bytes in
    let y = c.in-Short-Short.other in
    let one : take m x ≡ c.args.self.now = sym (ap held c.in-Short-Short.is-0) ∙ c.self.view_is in
    let two : take n y ≡ c.args.other.now = sym (ap held c.in-Short-Short.is-1) ∙ c.other.view_is in
    let no : nat_eq m n ≡ false = other_number m n c.if-len-others.false in
    no ∙ sym (ap (λ s. s && bytes_eq x y) no)
    ∙ same_filled m n x y a.0 b.0 a.1.1.0 b.1.1.0 a.1.1.1 b.1.1.1 ∙ (λ i. bytes_eq (one i) (two i))
