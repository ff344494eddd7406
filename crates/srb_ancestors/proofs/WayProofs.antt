-- Where no link is circular, each way ends, and is no longer than the list of links.
use Rattle.std.proofs.Common.{◌≡◌, ◌<◌, ◌≤◌, ℕ, suc, zero, Bool, true, false, not, List, [], ◌∷◌, length, bytes_eq, cond, refl, sym, ◌∙◌, ap, subst, inl, inr, arith}
use Rattle.std.proofs.lemmas.Bool.{both_ways}
use Rattle.std.specs.List.{filter}
use Rattle.srb_rules.specs.declared.link.Link.{Link}
use Rattle.srb_rules.specs.Links.{HasLink, Reaches, Leads, leads, is_circular, circular_links}
use Rattle.srb_rules.specs.Links.Reaches.{Directly, Through}
use Rattle.srb_ancestors.specs.Ways.{Settles}
use Rattle.srb_ancestors.specs.Ways.Settles.{Ended}
use Rattle.srb_ancestors.proofs.LinkProofs.{same_bytes, bytes_same, leads_of, leads_on, reaches_on, reaches_among}

-- ---- links that stand in a filtered list

-- what a filter keeps
pub link_kept : (test : Link → Bool) (ls : List Link) (a b : List ℕ) → ((l : Link) → l.of ≡ a → test l ≡ true) → HasLink ls a b → HasLink (filter test ls) a b
link_kept test [] a b h k = absurd k
link_kept test (l ∷ ls) a b h (inl e) =
    subst (λ (t : Bool). HasLink (cond t (l ∷ filter test ls) (filter test ls)) a b) (sym (h l e.0)) (inl e)
link_kept test (l ∷ ls) a b h (inr k) =
    let rest : HasLink (filter test ls) a b = link_kept test ls a b h k in
    elim (test l) as (λ t. HasLink (cond t (l ∷ filter test ls) (filter test ls)) a b) [ true ↦ inr rest | false ↦ rest ]

-- what a filter has, the list has
pub link_before : (test : Link → Bool) (ls : List Link) (a b : List ℕ) → HasLink (filter test ls) a b → HasLink ls a b
link_before test [] a b k = k
link_before test (l ∷ ls) a b k = by (test l) k (λ h. link_before test ls a b h)
  where
    by : (t : Bool) → HasLink (cond t (l ∷ filter test ls) (filter test ls)) a b → (HasLink (filter test ls) a b → HasLink ls a b) → HasLink (l ∷ ls) a b
    by true (inl e) rest = inl e
    by true (inr k) rest = inr (rest k)
    by false k rest = inr (rest k)

-- ---- circles

none_at : (test : Link → Bool) (ls : List Link) (a b : List ℕ) → filter test ls ≡ [] → HasLink ls a b → (l : Link) × (l.of ≡ a) × (l.to ≡ b) × (test l ≡ false)
none_at test [] a b e k = absurd k
none_at test (l ∷ ls) a b e k = by (test l) refl e k (λ f h. none_at test ls a b f h)
  where
    by : (t : Bool) → test l ≡ t → cond t (l ∷ filter test ls) (filter test ls) ≡ [] → HasLink (l ∷ ls) a b
        → (filter test ls ≡ [] → HasLink ls a b → (k : Link) × (k.of ≡ a) × (k.to ≡ b) × (test k ≡ false))
        → (k : Link) × (k.of ≡ a) × (k.to ≡ b) × (test k ≡ false)
    by true p e k rest = cc
    by false p e (inl q) rest = (l, q.0, q.1, p)
    by false p e (inr q) rest = rest e q

-- no link leads back, so no name reaches itself
pub none_reaches_itself : (ls : List Link) → circular_links ls ≡ [] → (a : List ℕ) → ¬ Reaches ls a a
none_reaches_itself ls none a r = first a a r refl
  where
    at : (a b : List ℕ) → HasLink ls a b → ¬ Leads ls b a
    at a b h back =
        let l = none_at (is_circular ls) ls a b none h in
        let told : leads ls b a ≡ true = leads_of ls b a back in
        let told_of : leads ls l.0.to l.0.of ≡ true = subst (λ (x : List ℕ). leads ls l.0.to x ≡ true) (sym l.1) (subst (λ (x : List ℕ). leads ls x a ≡ true) (sym l.2) told) in
        both_ways (leads ls l.0.to l.0.of) l.3 told_of

    first : (a b : List ℕ) → Reaches ls a b → a ≡ b → ⊥
    first a b (Directly _ _ _ h) e = at a b h (inl (sym e))
    first a c (Through _ _ b _ h r) e = at a b h (inr (subst (λ (x : List ℕ). Reaches ls b x) (sym e) r))

-- ---- ways that end

-- each way from c has fewer than n links
abbrev pub Ends : ℕ → List Link → List ℕ → Type 0
Ends zero ls c = ⊥
Ends (suc n) ls c = (d : List ℕ) → HasLink ls c d → Ends n ls d

-- a way has a first link, from whose end it leads on
pub first_link : (ls : List Link) (a b : List ℕ) → Reaches ls a b → (d : List ℕ) × HasLink ls a d × Leads ls d b
first_link _ _ _ (Directly ls a b h) = (b, h, inl refl)
first_link _ _ _ (Through ls a d b h r) = (d, h, inr r)

-- from a name from which each way ends none comes back
pub settles_not_circular : (ls : List Link) (c : List ℕ) → Settles ls c → ¬ Reaches ls c c
settles_not_circular ls _ (Ended c h) r =
    let first = first_link ls c c r in
    let back : Reaches ls first.0 first.0 = elim first.2 [
      | inl e ↦ subst (λ (x : List ℕ). Reaches ls first.0 x) (sym e) (Directly ls first.0 c (subst (λ (x : List ℕ). HasLink ls x c) (sym e) (subst (λ (x : List ℕ). HasLink ls c x) e first.1)))
      | inr s ↦ reaches_on ls first.0 c s first.0 (Directly ls c first.0 first.1)
    ] in
    settles_not_circular ls first.0 (h first.0 first.1) back

-- the links that do not begin at c
abbrev pub without : List ℕ → List Link → List Link
without c ls = filter (λ l. not (bytes_eq l.of c)) ls

at_most : (test : Link → Bool) (ls : List Link) → length (filter test ls) ≤ length ls
at_most test [] = omega arith
at_most test (l ∷ ls) = by (test l) (at_most test ls)
  where
    by : (t : Bool) → length (filter test ls) ≤ length ls → length (cond t (l ∷ filter test ls) (filter test ls)) ≤ length (l ∷ ls)
    by true h = omega arith
    by false h = omega arith

-- there are fewer of them, where a link begins at c
fewer : (ls : List Link) (c d : List ℕ) → HasLink ls c d → length (without c ls) < length ls
fewer [] c d k = absurd k
fewer (l ∷ ls) c d (inl e) =
    let own : not (bytes_eq l.of c) ≡ false = ap not (subst (λ (x : List ℕ). bytes_eq l.of x ≡ true) e.0 (bytes_same l.of)) in
    subst (λ (t : Bool). length (cond t (l ∷ without c ls) (without c ls)) < length (l ∷ ls)) (sym own)
    (omega (arith, at_most (λ (l : Link). not (bytes_eq l.of c)) ls))
fewer (l ∷ ls) c d (inr k) = by (not (bytes_eq l.of c)) (fewer ls c d k)
  where
    by : (t : Bool) → length (without c ls) < length ls → length (cond t (l ∷ without c ls) (without c ls)) < length (l ∷ ls)
    by true h = omega arith
    by false h = omega arith

-- a link that begins elsewhere is one of them
kept_without : (ls : List Link) (c a b : List ℕ) → (a ≡ c → ⊥) → HasLink ls a b → HasLink (without c ls) a b
kept_without ls c a b other k = link_kept (λ (l : Link). not (bytes_eq l.of c)) ls a b elsewhere k
  where
    by : (l : Link) → l.of ≡ a → (t : Bool) → bytes_eq l.of c ≡ t → not t ≡ true
    by l e true h = absurd (other (sym e ∙ same_bytes l.of c h))
    by l e false h = refl

    elsewhere : (l : Link) → l.of ≡ a → not (bytes_eq l.of c) ≡ true
    elsewhere l e = by l e (bytes_eq l.of c) refl

-- where d does not lead to c, the links from c say nothing of the ways from d
ends_elsewhere : (n : ℕ) (ls : List Link) (c d : List ℕ) → ¬ Leads ls d c → Ends n (without c ls) d → Ends n ls d
ends_elsewhere zero ls c d apart h = h
ends_elsewhere (suc n) ls c d apart h = λ e k.
    ends_elsewhere n ls c e (λ back. apart (inr (leads_on ls d e c k back)))
    (h e (kept_without ls c d e (λ same. apart (inl same)) k))

ends_by : (n : ℕ) (ls : List Link) → length ls ≤ n → ((a : List ℕ) → ¬ Reaches ls a a) → (c : List ℕ) → Ends (suc n) ls c
ends_by zero [] few none c d k = absurd k
ends_by zero (l ∷ ls) few none c d k = absurd (omega arith)
ends_by (suc n) ls few none c d k =
    ends_elsewhere (suc n) ls c d (λ back. none c (leads_on ls c d c k back))
    (ends_by n (without c ls) (omega (arith, fewer ls c d k))
    (λ a r. none a (reaches_among (without c ls) ls (λ x y. link_before (λ (l : Link). not (bytes_eq l.of c)) ls x y) a a r)) d)

-- so each way ends after as many links as there are
pub all_end : (ls : List Link) → ((a : List ℕ) → ¬ Reaches ls a a) → (c : List ℕ) → Ends (suc (length ls)) ls c
all_end ls none c = ends_by (length ls) ls (omega arith) none c
