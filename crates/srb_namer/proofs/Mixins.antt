-- The mixins of arguments count from last to first.
use Rattle.std.proofs.Common.{◌≡◌, ℕ, suc, ◌-◌, ◌<◌, ◌≤◌, List, [], ◌∷◌, ◌++◌, length, get_or, take, refl, ap, sym, ◌∙◌, arith}
use Rattle.std.proofs.Math.Seq.{take-suc}
use Rattle.srb_terms.specs.declared.fact.Fact.{Fact}
use Rattle.srb_terms.specs.declared.fact.How.{How}
use Rattle.rb_tree.specs.declared.syntax.Argument.{Argument}
use Rattle.rb_tree.specs.declared.syntax.Tree.{Tree}
use Rattle.srb_namer.specs.Declarations.{Place, with_mixin, with_mixins}

last_first : (p : Place) (way : How) (front : List (Argument Tree)) (last : Argument Tree) (facts : List Fact) →
    with_mixins p way (front ++ last ∷ []) facts ≡ with_mixins p way front (with_mixin p way last facts)
last_first p way [] last facts = refl
last_first p way (first ∷ front) last facts = ap (with_mixin p way first) (last_first p way front last facts)

one_more : (p : Place) (way : How) (xs : List (Argument Tree)) (n : ℕ) (x : Argument Tree) (facts : List Fact) → n < length xs → x ≡ get_or xs n x →
    with_mixins p way (take (suc n) xs) facts ≡ with_mixins p way (take n xs) (with_mixin p way x facts)
one_more p way xs n x facts h e =
    ap (λ (ys : List (Argument Tree)). with_mixins p way ys facts) (take-suc xs n x h)
    ∙ last_first p way (take n xs) (get_or xs n x) facts
    ∙ ap (λ (y : Argument Tree). with_mixins p way (take n xs) (with_mixin p way y facts)) (sym e)

-- the last of the first arguments
pub ended : (p : Place) (way : How) (xs : List (Argument Tree)) (count : ℕ) (x : Argument Tree) (facts : List Fact) → 0 < count → count ≤ length xs → x ≡ get_or xs (count - 1) x →
    with_mixins p way (take (count - 1) xs) (with_mixin p way x facts) ≡ with_mixins p way (take count xs) facts
ended p way xs count x facts h k e =
    let s : count ≡ suc (count - 1) = omega arith in
    sym (ap (λ (n : ℕ). with_mixins p way (take n xs) facts) s ∙ one_more p way xs (count - 1) x facts (omega arith) e)

-- all arguments
pub whole : (xs : List (Argument Tree)) → take (length xs) xs ≡ xs
whole [] = refl
whole (x ∷ xs) = ap (λ (ys : List (Argument Tree)). x ∷ ys) (whole xs)
