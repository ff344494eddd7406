-- The linearization: its equation where no link is circular, and its members.
use Rattle.std.proofs.Common.{◌≡◌, ℕ, suc, zero, Bool, true, false, not, ◌||◌, List, [], ◌∷◌, ◌++◌, length, bytes_eq, cond, Some, get_or, refl, sym, ◌∙◌, ap, subst, inl, inr, arith}
use Rattle.std.proofs.lemmas.Bool.{both_ways, true≢false}
use Rattle.std.proofs.lemmas.List.{append-nil}
use Rattle.std.specs.List.{filter}
use Rattle.srb_terms.specs.NameSets.{has_name}
use Rattle.srb_rules.specs.declared.link.Link.{Link}
use Rattle.srb_rules.specs.Links.{HasLink, Reaches, Leads}
use Rattle.srb_rules.specs.Lin.{links_of, is_super, is_include, superclass_in, included_after, included_in, joined, with_modules, lin_below, lin_by, lin_step, lin_within, lin_of}
use Rattle.srb_ancestors.specs.Placing.{Each}
use Rattle.srb_ancestors.specs.Ways.{HasEnd}
use Rattle.srb_ancestors.proofs.LinkProofs.{same_bytes, bytes_same, leads_on}
use Rattle.srb_ancestors.proofs.WayProofs.{Ends, all_end}

-- ---- lists of names

pub each_append : (P : List ℕ → Type 0) (xs ys : List (List ℕ)) → Each P xs → Each P ys → Each P (xs ++ ys)
each_append P [] ys h k = k
each_append P (x ∷ xs) ys h k = (h.0, each_append P xs ys h.1 k)

pub each_filtered : (P : List ℕ → Type 0) (test : List ℕ → Bool) (xs : List (List ℕ)) → Each P xs → Each P (filter test xs)
each_filtered P test [] h = h
each_filtered P test (x ∷ xs) h =
    let rest : Each P (filter test xs) = each_filtered P test xs h.1 in
    elim (test x) as (λ t. Each P (cond t (x ∷ filter test xs) (filter test xs))) [ true ↦ (h.0, rest) | false ↦ rest ]

pub each_has : (P : List ℕ → Type 0) (xs : List (List ℕ)) → Each P xs → (name : List ℕ) → has_name name xs ≡ true → P name
each_has P [] h name k = absurd (true≢false (sym k))
each_has P (x ∷ xs) h name k = by (bytes_eq x name) refl k (each_has P xs h.1 name)
  where
    by : (t : Bool) → bytes_eq x name ≡ t → cond t true (has_name name xs) ≡ true → (has_name name xs ≡ true → P name) → P name
    by true e k rest = subst P (same_bytes x name e) h.0
    by false e k rest = rest k

pub each_among : (P Q : List ℕ → Type 0) → ((x : List ℕ) → P x → Q x) → (xs : List (List ℕ)) → Each P xs → Each Q xs
each_among P Q f [] h = h
each_among P Q f (x ∷ xs) h = (f x h.0, each_among P Q f xs h.1)

-- ---- the ends of links

pub end_linked : (ls : List Link) (c d : List ℕ) → HasEnd (links_of ls c) d → HasLink ls c d
end_linked [] c d h = h
end_linked (l ∷ ls) c d h = by (bytes_eq l.of c) refl h (end_linked ls c d)
  where
    by : (t : Bool) → bytes_eq l.of c ≡ t → HasEnd (cond t (l ∷ links_of ls c) (links_of ls c)) d → (HasEnd (links_of ls c) d → HasLink ls c d) → HasLink (l ∷ ls) c d
    by true e (inl h) rest = inl (same_bytes l.of c e, h)
    by true e (inr h) rest = inr (rest h)
    by false e h rest = inr (rest h)

pub linked_end : (ls : List Link) (c d : List ℕ) → HasLink ls c d → HasEnd (links_of ls c) d
linked_end [] c d h = h
linked_end (l ∷ ls) c d (inl h) =
    let own : bytes_eq l.of c ≡ true = subst (λ (x : List ℕ). bytes_eq l.of x ≡ true) h.0 (bytes_same l.of) in
    subst (λ (t : Bool). HasEnd (cond t (l ∷ links_of ls c) (links_of ls c)) d) (sym own) (inl h.1)
linked_end (l ∷ ls) c d (inr h) =
    let rest : HasEnd (links_of ls c) d = linked_end ls c d h in
    elim (bytes_eq l.of c) as (λ t. HasEnd (cond t (l ∷ links_of ls c) (links_of ls c)) d) [ true ↦ inr rest | false ↦ rest ]

-- the included modules are ends of links
modules_from : (P : List ℕ → Type 0) (before : List (List ℕ)) (ls : List Link) → Each P before → ((d : List ℕ) → HasEnd ls d → P d) → Each P (included_after before ls)
modules_from P before [] h k = h
modules_from P before (l ∷ ls) h k =
    let more : Each P (before ++ l.to ∷ []) = each_append P before (l.to ∷ []) h (k l.to (inl refl), tt) in
    modules_from P (cond (is_include l.how) (cond (has_name l.to before) before (before ++ l.to ∷ [])) before) ls
    (elim (is_include l.how) as (λ t. Each P (cond t (cond (has_name l.to before) before (before ++ l.to ∷ [])) before)) [
      | true ↦ elim (has_name l.to before) as (λ t. Each P (cond t before (before ++ l.to ∷ []))) [ true ↦ h | false ↦ more ]
      | false ↦ h
    ])
    (λ d e. k d (inr e))

pub modules_end : (P : List ℕ → Type 0) (ls : List Link) → ((d : List ℕ) → HasEnd ls d → P d) → Each P (included_in ls)
modules_end P ls k = modules_from P [] ls tt k

-- ---- what a step needs of the lists of the ends

below_same : (f g : List ℕ → List (List ℕ)) (ls : List Link) → ((d : List ℕ) → HasEnd ls d → f d ≡ g d) → lin_below f (superclass_in ls) ≡ lin_below g (superclass_in ls)
below_same f g [] h = refl
below_same f g (l ∷ ls) h = by (is_super l.how) (below_same f g ls (λ d e. h d (inr e)))
  where
    by : (t : Bool) → lin_below f (superclass_in ls) ≡ lin_below g (superclass_in ls)
        → lin_below f (cond t (Some l.to) (superclass_in ls)) ≡ lin_below g (cond t (Some l.to) (superclass_in ls))
    by true rest = h l.to (inl refl)
    by false rest = rest

modules_same : (f g : List ℕ → List (List ℕ)) (below : List (List ℕ)) (c : List ℕ) (ms : List (List ℕ)) → Each (λ m. f m ≡ g m) ms → with_modules f below c ms ≡ with_modules g below c ms
modules_same f g below c [] h = refl
modules_same f g below c (m ∷ ms) h =
    ap (λ here. joined below here (f m)) (modules_same f g below c ms h.1)
    ∙ ap (λ more. joined below (with_modules g below c ms) more) h.0

pub by_same : (f g : List ℕ → List (List ℕ)) (ls : List Link) (c : List ℕ) → ((d : List ℕ) → HasEnd ls d → f d ≡ g d) → lin_by f ls c ≡ lin_by g ls c
by_same f g ls c h =
    let below : lin_below f (superclass_in ls) ≡ lin_below g (superclass_in ls) = below_same f g ls h in
    ap (λ b. with_modules f b c (included_in ls) ++ b) below
    ∙ ap (λ here. here ++ lin_below g (superclass_in ls)) (modules_same f g (lin_below g (superclass_in ls)) c (included_in ls) (modules_end (λ m. f m ≡ g m) ls h))

-- ---- the equation

no_row : (ls : List Link) → ((d : List ℕ) → ¬ HasEnd ls d) → ls ≡ []
no_row [] h = refl
no_row (l ∷ ls) h = absurd (h l.to (inl refl))

-- where all ways from c have at most n links, one more step changes nothing
step_again : (n : ℕ) (ls : List Link) (c : List ℕ) → Ends (suc n) ls c → lin_within n ls c ≡ lin_within (suc n) ls c
step_again zero ls c h =
    let none : links_of ls c ≡ [] = no_row (links_of ls c) (λ d e. h d (end_linked ls c d e)) in
    sym (ap (λ row. lin_by (lin_within zero ls) row c) none)
step_again (suc n) ls c h =
    by_same (lin_within n ls) (lin_within (suc n) ls) (links_of ls c) c (λ d e. step_again n ls d (h d (end_linked ls c d e)))

pub lin_equation : (ls : List Link) → ((a : List ℕ) → ¬ Reaches ls a a) → (c : List ℕ) → lin_of ls c ≡ lin_step ls (lin_of ls) c
unfolding lin_of
lin_equation ls none c = step_again (length ls) ls c (all_end ls none c)

-- ---- a name without links

alone_within : (n : ℕ) (ls : List Link) (c : List ℕ) → links_of ls c ≡ [] → lin_within n ls c ≡ c ∷ []
alone_within zero ls c h = refl
alone_within (suc n) ls c h = ap (λ row. lin_by (lin_within n ls) row c) h

pub alone : (ls : List Link) (c : List ℕ) → ((d : List ℕ) → ¬ HasLink ls c d) → lin_of ls c ≡ c ∷ []
unfolding lin_of
alone ls c h = alone_within (length ls) ls c (no_row (links_of ls c) (λ d e. h d (end_linked ls c d e)))

-- ---- members

below_members : (P : List ℕ → Type 0) (f : List ℕ → List (List ℕ)) (ls : List Link) → ((d : List ℕ) → HasEnd ls d → Each P (f d)) → Each P (lin_below f (superclass_in ls))
below_members P f [] h = tt
below_members P f (l ∷ ls) h = by (is_super l.how) (below_members P f ls (λ d e. h d (inr e)))
  where
    by : (t : Bool) → Each P (lin_below f (superclass_in ls)) → Each P (lin_below f (cond t (Some l.to) (superclass_in ls)))
    by true rest = h l.to (inl refl)
    by false rest = rest

modules_members : (P : List ℕ → Type 0) (f : List ℕ → List (List ℕ)) (below : List (List ℕ)) (c : List ℕ) (ms : List (List ℕ)) → P c → Each (λ m. Each P (f m)) ms → Each P (with_modules f below c ms)
modules_members P f below c [] own h = (own, tt)
modules_members P f below c (m ∷ ms) own h =
    each_append P (with_modules f below c ms) _ (modules_members P f below c ms own h.1)
    (each_filtered P (λ name. not (has_name name below || has_name name (with_modules f below c ms))) (f m) h.0)

pub by_members : (P : List ℕ → Type 0) (f : List ℕ → List (List ℕ)) (ls : List Link) (c : List ℕ) → P c → ((d : List ℕ) → HasEnd ls d → Each P (f d)) → Each P (lin_by f ls c)
by_members P f ls c own h =
    each_append P (with_modules f (lin_below f (superclass_in ls)) c (included_in ls)) (lin_below f (superclass_in ls))
    (modules_members P f (lin_below f (superclass_in ls)) c (included_in ls) own (modules_end (λ m. Each P (f m)) ls h))
    (below_members P f ls h)

members_within : (n : ℕ) (ls : List Link) (c : List ℕ) → Each (λ x. Leads ls c x) (lin_within n ls c)
members_within zero ls c = (inl refl, tt)
members_within (suc n) ls c =
    by_members (λ x. Leads ls c x) (lin_within n ls) (links_of ls c) c (inl refl)
    (λ d e. each_among (λ x. Leads ls d x) (λ x. Leads ls c x) (λ x h. inr (leads_on ls c d x (end_linked ls c d e) h)) (lin_within n ls d) (members_within n ls d))

-- c leads to each member of its list
pub lin_members : (ls : List Link) (c : List ℕ) → Each (λ x. Leads ls c x) (lin_of ls c)
unfolding lin_of
lin_members ls c = members_within (length ls) ls c

-- where no name reaches itself, a name is in no list of an end of its links
pub own_absent : (ls : List Link) → ((a : List ℕ) → ¬ Reaches ls a a) → (c d : List ℕ) → HasLink ls c d → has_name c (lin_of ls d) ≡ false
own_absent ls none c d h = by (has_name c (lin_of ls d)) refl
  where
    by : (t : Bool) → has_name c (lin_of ls d) ≡ t → t ≡ false
    by true e = absurd (none c (leads_on ls c d c h (each_has (λ x. Leads ls d x) (lin_of ls d) (lin_members ls d) c e)))
    by false e = refl

-- ---- one module and no superclass

other_name : (c x : List ℕ) (xs : List (List ℕ)) → has_name c (x ∷ xs) ≡ false → (bytes_eq c x ≡ false) × (has_name c xs ≡ false)
other_name c x xs h = by (bytes_eq x c) refl h
  where
    by : (t : Bool) → bytes_eq x c ≡ t → cond t true (has_name c xs) ≡ false → (bytes_eq c x ≡ false) × (has_name c xs ≡ false)
    by true e h = absurd (true≢false h)
    by false e h = (other (bytes_eq c x) refl, h)
      where
        other : (t : Bool) → bytes_eq c x ≡ t → t ≡ false
        other true f = absurd (both_ways (bytes_eq x c) e (subst (λ (y : List ℕ). bytes_eq y c ≡ true) (same_bytes c x f) (bytes_same c)))
        other false f = refl

all_new : (c : List ℕ) (xs : List (List ℕ)) → has_name c xs ≡ false → filter (λ name. not (has_name name [] || has_name name (c ∷ []))) xs ≡ xs
all_new c [] h = refl
all_new c (x ∷ xs) h =
    let parts = other_name c x xs h in
    let rest : filter (λ name. not (has_name name [] || has_name name (c ∷ []))) xs ≡ xs = all_new c xs parts.1 in
    ap (λ t. cond (not (cond t true false)) (x ∷ filter (λ name. not (has_name name [] || has_name name (c ∷ []))) xs) (filter (λ name. not (has_name name [] || has_name name (c ∷ []))) xs)) parts.0
    ∙ ap (λ ys. x ∷ ys) rest

-- then the list is the name before that of the module
pub one_module : (f : List ℕ → List (List ℕ)) (c m : List ℕ) → has_name c (f m) ≡ false → with_modules f [] c (m ∷ []) ++ [] ≡ c ∷ f m
one_module f c m h = append-nil (joined [] (c ∷ []) (f m)) ∙ ap (λ ys. c ∷ ys) (all_new c (f m) h)

-- the list by links that include one module and name no superclass
pub one_module_list : (f : List ℕ → List (List ℕ)) (row : List Link) (c m : List ℕ) (ms : List (List ℕ)) → ms ≡ included_in row → length ms ≡ 1 → m ≡ get_or ms 0 m
    → lin_below f (superclass_in row) ≡ [] → ((d : List ℕ) → HasEnd row d → has_name c (f d) ≡ false) → c ∷ f m ≡ lin_by f row c
one_module_list f row c m [] e one first none absent = absurd (omega arith)
one_module_list f row c m (x ∷ y ∷ ms) e one first none absent = absurd (omega arith)
one_module_list f row c m (x ∷ []) e one first none absent =
    let ends : Each (λ d. HasEnd row d) (x ∷ []) = subst (λ (ns : List (List ℕ)). Each (λ d. HasEnd row d) ns) (sym e) (modules_end (λ d. HasEnd row d) row (λ d h. h)) in
    ap (λ (y : List ℕ). c ∷ f y) first
    ∙ sym (one_module f c x (absent x ends.0))
    ∙ ap (λ (b : List (List ℕ)). with_modules f b c (x ∷ []) ++ b) (sym none)
    ∙ ap (λ (ns : List (List ℕ)). with_modules f (lin_below f (superclass_in row)) c ns ++ lin_below f (superclass_in row)) e
