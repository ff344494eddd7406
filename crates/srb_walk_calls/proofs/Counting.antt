-- Constants at the front of a row, counted one by one.
use Rattle.std.proofs.Common.{◌≡◌, ◌<◌, ◌+◌, ℕ, suc, Bool, true, false, true≢false, List, [], ◌∷◌, length, get_or, drop, drop-cons, add-one, refl, ap, sym, ◌∙◌}
use Rattle.rb_tree.specs.declared.syntax.Suffix.{Suffix}
use Rattle.rb_tree.specs.declared.syntax.Suffix.TheVariants as suffix
use Rattle.rb_tree.specs.declared.syntax.Tree.{Tree}
use Rattle.srb_walk_calls.specs.Fronts.{is_constant, constants_before}

counts : (x : Suffix Tree) (rest : List (Suffix Tree)) → is_constant x ≡ true → constants_before (x ∷ rest) ≡ suc (constants_before rest)
counts (suffix.Call how name name_span arguments b span) rest h = absurd (true≢false (sym h))
counts (suffix.Constant name name_span span) rest h = refl
counts (suffix.Index arguments span) rest h = absurd (true≢false (sym h))

stops : (x : Suffix Tree) (rest : List (Suffix Tree)) → is_constant x ≡ false → constants_before (x ∷ rest) ≡ 0
stops (suffix.Call how name name_span arguments b span) rest h = refl
stops (suffix.Constant name name_span span) rest h = absurd (true≢false h)
stops (suffix.Index arguments span) rest h = refl

at-item : (xs : List (Suffix Tree)) (i : ℕ) (x : Suffix Tree) → i < length xs → x ≡ get_or xs i x → drop i xs ≡ x ∷ drop (suc i) xs
at-item xs i x below e = drop-cons xs i x below ∙ ap (λ y. y ∷ drop (suc i) xs) (sym e)

pub constants_next : (xs : List (Suffix Tree)) (i : ℕ) (x : Suffix Tree) → i < length xs → x ≡ get_or xs i x → is_constant x ≡ true →
    constants_before (drop i xs) ≡ constants_before (drop (i + 1) xs) + 1
constants_next xs i x below e h = simp add-one (ap constants_before (at-item xs i x below e) ∙ counts x (drop (suc i) xs) h)

pub constants_stop : (xs : List (Suffix Tree)) (i : ℕ) (x : Suffix Tree) → i < length xs → x ≡ get_or xs i x → is_constant x ≡ false → constants_before (drop i xs) ≡ 0
constants_stop xs i x below e h = ap constants_before (at-item xs i x below e) ∙ stops x (drop (suc i) xs) h
