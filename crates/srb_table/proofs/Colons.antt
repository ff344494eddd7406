-- Full names are joined in one way: from a scope and a last part in which no colon stands.
use Rattle.std.proofs.Common.{◌≡◌, ◌≢◌, ◌<◌, ◌+◌, ℕ, Bool, true, false, ◌&&◌, ◌||◌, List, [], ◌∷◌, ◌++◌, length, take, drop, get_or, slice_index, nat_eq, bytes_eq, refl, sym, ap, ◌∙◌, Option, Some, cond}
use Rattle.std.proofs.lemmas.Bool.{true≢false}
use Rattle.std.proofs.lemmas.List.{append_assoc, append_cancel_right, drop_more, take-append-drop}
use Rattle.std.proofs.lemmas.Slice.Eq.{bytes_eq-Decides}
use Rattle.std.specs.Bool.{one_answer}
use Rattle.std.specs.Option.{option_and_then}
use Rattle.srb_terms.specs.Worlds.{has_colon, joined}

tail_same : (x y : ℕ) (xs ys : List ℕ) → x ∷ xs ≡ y ∷ ys → xs ≡ ys
tail_same x y xs ys same = ap (drop 1) same

head_same : (x y : ℕ) (xs ys : List ℕ) → x ∷ xs ≡ y ∷ ys → x ≡ y
head_same x y xs ys same = ap (λ (l : List ℕ). get_or l 0 0) same

or_true : (b : Bool) → (b || true) ≡ true
or_true true = refl
or_true false = refl

colon_in : (front back : List ℕ) → has_colon (front ++ 58 ∷ back) ≡ true
colon_in [] back = refl
colon_in (x ∷ front) back = ap (λ b. nat_eq x 58 || b) (colon_in front back) ∙ or_true (nat_eq x 58)

-- a text without a colon is not one with a colon
no_colon : (front back text : List ℕ) → has_colon text ≡ false → text ≡ front ++ 58 ∷ back → ⊥
no_colon front back text none same = true≢false (sym (colon_in front back) ∙ ap has_colon (sym same) ∙ none)

-- a text has one last colon
one_last : (a b c d : List ℕ) → has_colon b ≡ false → has_colon d ≡ false → a ++ 58 ∷ b ≡ c ++ 58 ∷ d → (a ≡ c) × (b ≡ d)
one_last [] b [] d h k same = (refl, tail_same 58 58 b d same)
one_last [] b (y ∷ c) d h k same = absurd (no_colon c d b h (tail_same 58 y b (c ++ 58 ∷ d) same))
one_last (x ∷ a) b [] d h k same = absurd (no_colon a b d k (sym (tail_same x 58 (a ++ 58 ∷ b) d same)))
one_last (x ∷ a) b (y ∷ c) d h k same =
    let rest : (a ≡ c) × (b ≡ d) = one_last a b c d h k (tail_same x y (a ++ 58 ∷ b) (c ++ 58 ∷ d) same) in
    (λ i. head_same x y (a ++ 58 ∷ b) (c ++ 58 ∷ d) same i ∷ rest.0 i, rest.1)

as_last : (scope last : List ℕ) → joined scope last ≡ (scope ++ 58 ∷ []) ++ 58 ∷ last
as_last scope last = sym (append_assoc scope (58 ∷ []) (58 ∷ last))

one_join : (s l scope last : List ℕ) → has_colon l ≡ false → has_colon last ≡ false → joined s l ≡ joined scope last → (s ≡ scope) × (l ≡ last)
one_join s l scope last h k same =
    let parts : (s ++ 58 ∷ [] ≡ scope ++ 58 ∷ []) × (l ≡ last) =
    one_last (s ++ 58 ∷ []) l (scope ++ 58 ∷ []) last h k (sym (as_last s l) ∙ same ∙ as_last scope last) in
    (append_cancel_right s scope (58 ∷ []) parts.0, parts.1)

both : (a b : Bool) → (a && b) ≡ true → (a ≡ true) × (b ≡ true)
both true true h = (refl, refl)
both true false h = absurd (true≢false (sym h))
both false b h = absurd (true≢false (sym h))

-- so two are the same exactly where their parts are
pub same_name : (name s l scope last : List ℕ) → name ≡ joined s l → has_colon l ≡ false → has_colon last ≡ false
    → (bytes_eq s scope && bytes_eq l last) ≡ bytes_eq name (joined scope last)
same_name name s l scope last is h k =
    one_answer (bytes_eq s scope && bytes_eq l last) (bytes_eq name (joined scope last)) (there, back) (bytes_eq-Decides name (joined scope last))
  where
    there : (bytes_eq s scope && bytes_eq l last) ≡ true → name ≡ joined scope last
    there holds =
        let parts : (bytes_eq s scope ≡ true) × (bytes_eq l last ≡ true) = both (bytes_eq s scope) (bytes_eq l last) holds in
        let one : s ≡ scope = (bytes_eq-Decides s scope).0 parts.0 in
        let two : l ≡ last = (bytes_eq-Decides l last).0 parts.1 in
        is ∙ (λ i. joined (one i) (two i))

    back : name ≡ joined scope last → (bytes_eq s scope && bytes_eq l last) ≡ true
    back same =
        let parts : (s ≡ scope) × (l ≡ last) = one_join s l scope last h k (sym is ∙ same) in
        (λ i. (bytes_eq-Decides s scope).1 parts.0 i && (bytes_eq-Decides l last).1 parts.1 i)

cut_at : (name : List ℕ) (at : ℕ) → at < length name → slice_index name at ≡ 58 → drop at name ≡ 58 ∷ drop (at + 1) name
cut_at name at within is = drop_more name at 0 within ∙ (λ i. is i ∷ drop (at + 1) name)

-- what stands from a colon on begins with it
pub begins_there : (name : List ℕ) (at : ℕ) → at < length name → slice_index name at ≡ 58 → ((rest : List ℕ) → drop 0 (drop at name) ≢ 58 ∷ rest) → ⊥
begins_there name at within is lacks = lacks (drop (at + 1) name) (cut_at name at within is)

-- where no colon stands before the last one, nothing is joined
pub no_scope : (name : List ℕ) (at : ℕ) → at < length name → slice_index name at ≡ 58 → has_colon (drop (at + 1) name) ≡ false
    → ((front : List ℕ) → take at name ≢ front ++ 58 ∷ []) → (scope last : List ℕ) → has_colon last ≡ false → name ≢ joined scope last
no_scope name at within is clean lacks scope last none same =
    lacks scope
    (one_last (take at name) (drop (at + 1) name) (scope ++ 58 ∷ []) last clean none
    (ap (λ back. take at name ++ back) (sym (cut_at name at within is)) ∙ take-append-drop at name ∙ same ∙ as_last scope last)).0

-- one more name in the table of a scope, which is taken out and put back
pub put_at : {T V : Type 0} (old mid new : List ℕ → Option T) (value : T → List ℕ → Option V) (scope last : List ℕ) (name : V) (empty names : T)
    → ((s : List ℕ) → mid s ≡ cond (bytes_eq scope s) (Some empty) (old s))
    → ((s : List ℕ) → new s ≡ cond (bytes_eq scope s) (Some names) (mid s))
    → ((l : List ℕ) → value names l ≡ cond (bytes_eq last l) (Some name) (option_and_then (λ t. value t l) (old scope)))
    → (s l : List ℕ)
    → option_and_then (λ t. value t l) (new s) ≡ cond (bytes_eq scope s && bytes_eq last l) (Some name) (option_and_then (λ t. value t l) (old s))
put_at {T} {V} old mid new value scope last name empty names out back put s l =
    by (bytes_eq scope s) (bytes_eq-Decides scope s).0 (out s) (back s)
  where
    by : (b : Bool) → (b ≡ true → scope ≡ s) → mid s ≡ cond b (Some empty) (old s) → new s ≡ cond b (Some names) (mid s)
        → option_and_then (λ t. value t l) (new s) ≡ cond (b && bytes_eq last l) (Some name) (option_and_then (λ t. value t l) (old s))
    by true same out back =
        ap (option_and_then (λ t. value t l)) back ∙ put l
        ∙ (λ i. cond (bytes_eq last l) (Some name) (option_and_then (λ t. value t l) (old (same refl i))))
    by false same out back = ap (option_and_then (λ t. value t l)) (back ∙ out)
