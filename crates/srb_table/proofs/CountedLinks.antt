-- The links without the circular ones are those that count, and a name without links has the linearization of itself alone.
use Rattle.std.proofs.Common.{◌≡◌, ℕ, zero, suc, Bool, true, false, not, ◌&&◌, List, [], ◌∷◌, length, bytes_eq, cond, Option, Some, None, unwrap_or, refl, sym, ap, ◌∙◌}
use Rattle.std.proofs.lemmas.Bool.{true≢false}
use Rattle.std.proofs.lemmas.Slice.Eq.{bytes_eq-Decides}
use Rattle.std.specs.List.{filter}
use Rattle.srb_terms.specs.declared.fact.How.{How}
use Rattle.srb_terms.specs.declared.fact.How.TheVariants.{Super, Include, Extend}
use Rattle.srb_rules.specs.declared.link.Link.{Link}
use Rattle.srb_rules.specs.Lin.{lin_by, lin_of, lin_within, links_of}
use Rattle.srb_rules.specs.Links.{circular_links, counted, is_circular}
use Rattle.srb_ancestors.proofs.RowProofs.{none_stand}
use Rattle.srb_ancestors.specs.Lists.{AreLins}
use Rattle.srb_ancestors.specs.Rows.{stands}
use Rattle.srb_table.specs.Steps.{left_of, same_how, same_link}

both : (a b : Bool) → (a && b) ≡ true → (a ≡ true) × (b ≡ true)
both true b h = (refl, h)
both false b h = absurd (true≢false (sym h))

same_how-sound : (a b : How) → same_how a b ≡ true → a ≡ b
same_how-sound Super Super h = refl
same_how-sound Super Include h = absurd (true≢false (sym h))
same_how-sound Super Extend h = absurd (true≢false (sym h))
same_how-sound Include Super h = absurd (true≢false (sym h))
same_how-sound Include Include h = refl
same_how-sound Include Extend h = absurd (true≢false (sym h))
same_how-sound Extend Super h = absurd (true≢false (sym h))
same_how-sound Extend Include h = absurd (true≢false (sym h))
same_how-sound Extend Extend h = refl

same_how-itself : (a : How) → same_how a a ≡ true
same_how-itself Super = refl
same_how-itself Include = refl
same_how-itself Extend = refl

same_link-itself : (l : Link) → same_link l l ≡ true
same_link-itself l = λ i. (bytes_eq-Decides l.of l.of).1 refl i && (bytes_eq-Decides l.to l.to).1 refl i && same_how-itself l.how i

same_link-sound : (k l : Link) → same_link k l ≡ true → k ≡ l
same_link-sound k l h =
    let one : ((bytes_eq k.of l.of && bytes_eq k.to l.to) ≡ true) × (same_how k.how l.how ≡ true) = both (bytes_eq k.of l.of && bytes_eq k.to l.to) (same_how k.how l.how) h in
    let two : (bytes_eq k.of l.of ≡ true) × (bytes_eq k.to l.to ≡ true) = both (bytes_eq k.of l.of) (bytes_eq k.to l.to) one.0 in
    λ i. record { of = (bytes_eq-Decides k.of l.of).0 two.0 i; to = (bytes_eq-Decides k.to l.to).0 two.1 i; how = same_how-sound k.how l.how one.1 i }

-- each link that a test lets through passes it
first-passes : (p : Link → Bool) (ls : List Link) (k : Link) (some : List Link) → filter p ls ≡ k ∷ some → p k ≡ true
first-passes p [] k some h = absurd (true≢false (ap is-full (sym h)))
  where
    is-full : List Link → Bool
    is-full [] = false
    is-full (x ∷ xs) = true
first-passes p (l ∷ ls) k some h = by (p l) refl h (first-passes p ls k some)
  where
    head : List Link → Link
    head [] = k
    head (x ∷ xs) = x

    by : (b : Bool) → p l ≡ b → cond b (l ∷ filter p ls) (filter p ls) ≡ k ∷ some → (filter p ls ≡ k ∷ some → p k ≡ true) → p k ≡ true
    by true is h rest = ap p (sym (ap head h)) ∙ is
    by false is h rest = rest h

not-same : (p : Link → Bool) (k l : Link) → p k ≡ true → p l ≡ false → same_link k l ≡ false
not-same p k l yes-k no-l = by (same_link k l) (same_link-sound k l)
  where
    by : (b : Bool) → (b ≡ true → k ≡ l) → b ≡ false
    by true same = absurd (true≢false (sym yes-k ∙ ap p (same refl) ∙ no-l))
    by false same = refl

left-rest : (p : Link → Bool) (ls : List Link) → left_of (filter p ls) ls ≡ filter (λ l. not (p l)) ls
left-rest p [] = refl
left-rest p (l ∷ ls) = by (p l) refl (left-rest p ls)
  where
    kept : (some : List Link) → filter p ls ≡ some → p l ≡ false → left_of some (l ∷ ls) ≡ l ∷ left_of some ls
    kept [] is out = refl
    kept (k ∷ some) is out = ap (λ b. cond b (left_of some ls) (l ∷ left_of (k ∷ some) ls)) (not-same p k l (first-passes p ls k some is) out)

    by : (b : Bool) → p l ≡ b → left_of (filter p ls) ls ≡ filter (λ l. not (p l)) ls
        → left_of (cond b (l ∷ filter p ls) (filter p ls)) (l ∷ ls) ≡ cond (not b) (l ∷ filter (λ l. not (p l)) ls) (filter (λ l. not (p l)) ls)
    by true is rest = ap (λ b. cond b (left_of (filter p ls) ls) (l ∷ left_of (l ∷ filter p ls) ls)) (same_link-itself l) ∙ rest
    by false is rest = kept (filter p ls) refl is ∙ ap (λ (r : List Link). l ∷ r) rest

-- what is left without the circular links
pub left_counted : (ls : List Link) → left_of (circular_links ls) ls ≡ counted ls
left_counted ls = left-rest (is_circular ls) ls

alone : (n : ℕ) (ls : List Link) (c : List ℕ) → links_of ls c ≡ [] → lin_within n ls c ≡ c ∷ []
alone zero ls c none = refl
alone (suc n) ls c none = ap (λ (r : List Link). lin_by (lin_within n ls) r c) none

-- the linearization of each name, also of one that stands in no link
pub lins-told : (ls : List Link) (at : List ℕ → Option (List (List ℕ))) → AreLins ls at → (c : List ℕ) → unwrap_or (at c) (c ∷ []) ≡ lin_of ls c
unfolding lin_of
lins-told ls at are c = ap (λ o. unwrap_or o (c ∷ [])) (are c) ∙ by (stands ls c) refl
  where
    by : (b : Bool) → stands ls c ≡ b → unwrap_or (cond b (Some (lin_within (length ls) ls c)) None) (c ∷ []) ≡ lin_within (length ls) ls c
    by true is = refl
    by false is = sym (alone (length ls) ls c (none_stand ls c is))
