-- Texts in the order of their bytes.
use Rattle.std.proofs.Common.{◌≡◌, ℕ, Bool, true, false, not, List, refl, sym, ap, ◌∙◌}
use Rattle.std.specs.Bool.{IsTrue}
use Rattle.std.specs.Cmp.Lexicographic.{slice_cmp, nat_list_cmp_total, texts_ties}
use Rattle.std.specs.Ordering.{is_lt, is_eq, is_gt, nat_cmp, ordering_reverse}
use Rattle.std.specs.declared.cmp.Ordering.{Ordering}
use Rattle.std.specs.declared.cmp.Ordering.TheVariants.{Less, Equal, Greater}
use Rattle.std.proofs.lemmas.Cmp.{upto, tied_itself}
use Rattle.srb_types.specs.Order.{is_before}
use Rattle.srb_shapes_laws.proofs.Bools.{same-name}

lt-turned : (o : Ordering) → is_lt (ordering_reverse o) ≡ is_gt o
lt-turned Less = refl
lt-turned Equal = refl
lt-turned Greater = refl

-- the second text stands before the first one exactly where the first is greater
before-is : (a b : List ℕ) → is_before b a ≡ is_gt (slice_cmp nat_cmp a b)
before-is a b = ap is_lt (nat_list_cmp_total.antisymm b a) ∙ lt-turned (slice_cmp nat_cmp a b)

not-false : (b : Bool) → IsTrue (not b) → b ≡ false
not-false true h = cc
not-false false h = refl

-- a text that no later one stands before
abbrev pub Upto : List ℕ → List ℕ → Type 0
Upto a b = IsTrue (not (is_before b a))

pub upto-itself : (a : List ℕ) → Upto a a
upto-itself a = ap not (before-is a a ∙ ap is_gt (tied_itself nat_list_cmp_total a))

pub upto-chain : (a b c : List ℕ) → Upto a b → Upto b c → Upto a c
upto-chain a b c h k = ap not (before-is a c ∙ upto nat_list_cmp_total a b c
    (sym (before-is a b) ∙ not-false (is_before b a) h)
    (sym (before-is b c) ∙ not-false (is_before c b) k))

less-is : (o : Ordering) → is_lt o ≡ true → is_gt o ≡ false
less-is Less h = refl
less-is Equal h = refl
less-is Greater h = cc

pub upto-before : (a b : List ℕ) → IsTrue (is_before a b) → Upto a b
upto-before a b h = ap not (before-is a b ∙ less-is (slice_cmp nat_cmp a b) h)

equal-is : (o : Ordering) → is_lt o ≡ false → is_gt o ≡ false → is_eq o ≡ true
equal-is Less h k = cc
equal-is Equal h k = refl
equal-is Greater h k = cc

-- two texts of which neither stands before the other are one
pub upto-both : (a b : List ℕ) → Upto a b → Upto b a → a ≡ b
upto-both a b h k = same-name a b (texts_ties a b ∙ equal-is (slice_cmp nat_cmp a b) (not-false (is_before a b) k) (sym (before-is a b) ∙ not-false (is_before b a) h))
