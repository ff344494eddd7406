-- Proofs of the laws on the views.
use Rattle.std.proofs.Common.{◌≡◌, ◌-◌, ℕ, Bool, true, false, List, [], ◌∷◌, ◌++◌, map, length, take, slice_get, Option, Some, bytes_eq, refl, sym, ◌∙◌, ap, subst, arith, length-append}
use Rattle.std.proofs.lemmas.List.{append_assoc, append-nil}
use Rattle.std.proofs.lemmas.Slice.Eq.{bytes_eq-Decides}
use Rattle.rb_tree.specs.Trees.{span_of}
use Rattle.rb_tree.specs.declared.syntax.PlacedName.{PlacedName}
use Rattle.rb_tree.specs.declared.syntax.Suffix.{Suffix}
use Rattle.rb_tree.specs.declared.syntax.Tree.{Tree}
use Rattle.rb_views.specs.Laws.{FoldStepsOnce, OperandsPlace, EndsWithLast, CalledByLast, SpelledByNames}
use Rattle.rb_views.specs.Calls.{call_by, call_by_last}
use Rattle.rb_views.specs.Paths.{spelled}
use Rattle.rb_views.specs.Prefixes.{Prefix, prefix_span, last_suffix, without_last, up_to_suffix, with_suffix, fold_after}

-- ---- folds

more : {A : Type 0} (step : Prefix → Suffix Tree → A → A) (p : Prefix) (made : A) (ss : List (Suffix Tree)) (s : Suffix Tree) →
    fold_after step p made (ss ++ s ∷ []) ≡ step (record { operand = p.operand; suffixes = p.suffixes ++ ss }) s (fold_after step p made ss)
more step p made [] s = ap (λ qs. step (record { operand = p.operand; suffixes = qs }) s made) (sym (append-nil p.suffixes))
more step p made (x ∷ ss) s =
    more step (with_suffix p x) (step p x made) ss s
    ∙ ap (λ qs. step (record { operand = p.operand; suffixes = qs }) s (fold_after step (with_suffix p x) (step p x made) ss)) (append_assoc p.suffixes (x ∷ []) ss)

pub fold_steps_once : (A : Type 0) → FoldStepsOnce A
fold_steps_once A step start operand ss s = more step (record { operand = operand; suffixes = [] }) start ss s

-- ---- places

pub operands_place : OperandsPlace
unfolding prefix_span
operands_place operand = refl

last_of_more : (ss : List (Suffix Tree)) (s : Suffix Tree) → slice_get (ss ++ s ∷ []) (length ss) ≡ Some s
last_of_more [] s = refl
last_of_more (x ∷ ss) s = last_of_more ss s

shorter : (ss : List (Suffix Tree)) (s : Suffix Tree) → length (ss ++ s ∷ []) - 1 ≡ length ss
shorter ss s = omega (arith, length-append ss (s ∷ []))

front_of_more : (ss : List (Suffix Tree)) (s : Suffix Tree) → take (length ss) (ss ++ s ∷ []) ≡ ss
front_of_more [] s = refl
front_of_more (x ∷ ss) s = ap (λ qs. x ∷ qs) (front_of_more ss s)

last_is : (ss : List (Suffix Tree)) (s : Suffix Tree) → last_suffix (ss ++ s ∷ []) ≡ Some s
last_is ss s = ap (λ n. slice_get (ss ++ s ∷ []) n) (shorter ss s) ∙ last_of_more ss s

front_is : (ss : List (Suffix Tree)) (s : Suffix Tree) → take (length (ss ++ s ∷ []) - 1) (ss ++ s ∷ []) ≡ ss
front_is ss s = ap (λ n. take n (ss ++ s ∷ [])) (shorter ss s) ∙ front_of_more ss s

pub ends_with_last : EndsWithLast
unfolding prefix_span
ends_with_last operand ss s = ap (up_to_suffix (span_of operand)) (last_is ss s)

pub called_by_last : CalledByLast
called_by_last operand ss s =
    let row : Prefix = record { operand = operand; suffixes = ss ++ s ∷ [] } in
    ap (λ (o : Option (Suffix Tree)). call_by_last (without_last row) o) (last_is ss s)
    ∙ ap (λ (qs : List (Suffix Tree)). call_by (record { operand = operand; suffixes = qs }) s) (front_is ss s)

-- ---- spelling

gives_after : (n : PlacedName) (ns : List PlacedName) (word : List ℕ) (words : List (List ℕ)) (b : Bool) →
    bytes_eq n.name word ≡ b →
    spelled (n ∷ ns) (word ∷ words) ≡ true →
    (spelled ns words ≡ true → map (λ n. n.name) ns ≡ words) →
    map (λ n. n.name) (n ∷ ns) ≡ word ∷ words
gives_after n ns word words true e h further =
    let same : n.name ≡ word = (bytes_eq-Decides n.name word).0 e in
    let rest : map (λ n. n.name) ns ≡ words = further (rw e at h) in
    cc
gives_after n ns word words false e h further = let f : false ≡ true = rw e at h in cc

gives : (ns : List PlacedName) (words : List (List ℕ)) → spelled ns words ≡ true → map (λ n. n.name) ns ≡ words
gives [] [] h = refl
gives [] (word ∷ words) h = cc
gives (n ∷ ns) [] h = cc
gives (n ∷ ns) (word ∷ words) h = gives_after n ns word words (bytes_eq n.name word) refl h (gives ns words)

takes : (ns : List PlacedName) → spelled ns (map (λ n. n.name) ns) ≡ true
takes [] = refl
takes (n ∷ ns) = rw ((bytes_eq-Decides n.name n.name).1 refl) (takes ns)

pub spelled_by_names : SpelledByNames
spelled_by_names ns words = (gives ns words, λ e. subst (λ (ws : List (List ℕ)). spelled ns ws ≡ true) e (takes ns))
