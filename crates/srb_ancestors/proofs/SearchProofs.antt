-- The search along links: it sees all that the first name leads to, and nothing else.
use Rattle.std.proofs.Common.{◌≡◌, ◌≢◌, ◌+◌, ◌<◌, ◌≤◌, ◌⊎◌, ℕ, suc, zero, Bool, true, false, ◌||◌, List, [], ◌∷◌, ◌++◌, length, slice_get, bytes_eq, cond, Option, Some, None, unwrap_or, refl, sym, ◌∙◌, ap, subst, inl, inr, arith}
use Rattle.std.proofs.lemmas.Bool.{or_cases, true≢false, cases_lt}
use Rattle.std.proofs.lemmas.Option.{slice_get_within}
use Rattle.std.proofs.lemmas.List.Folds.{list_any-append}
use Rattle.std.specs.List.{list_any}
use Rattle.indexmap.specs.IndexSet.{insert_key}
use Rattle.srb_rules.specs.declared.link.Link.{Link}
use Rattle.srb_rules.specs.Links.{HasLink, Reaches, Leads, leads}
use Rattle.srb_rules.specs.Links.Reaches.{Directly, Through}
use Rattle.srb_rules.specs.Lin.{links_of}
use Rattle.srb_ancestors.specs.Rows.{stands, AreRows}
use Rattle.srb_ancestors.specs.Search.{with_ends, IsSeen, Searched}
use Rattle.srb_ancestors.specs.Ways.{HasEnd}
use Rattle.srb_ancestors.proofs.LinkProofs.{same_bytes, bytes_same, or_left, or_right, leads_of, leads_told, leads_to_leads}
use Rattle.srb_ancestors.proofs.LinProofs.{end_linked, linked_end}
use Rattle.srb_ancestors.proofs.RowProofs.{none_stand}

-- ---- one more name

seen_append : (seen more : List (List ℕ)) (d : List ℕ) → IsSeen seen d → IsSeen (seen ++ more) d
seen_append seen more d h = list_any-append (bytes_eq d) seen more ∙ or_left (list_any (bytes_eq d) seen) (list_any (bytes_eq d) more) h

-- the names seen stay in their places
get_append : (seen more : List (List ℕ)) (j : ℕ) → j < length seen → slice_get (seen ++ more) j ≡ slice_get seen j
get_append [] more j h = absurd (omega arith)
get_append (x ∷ seen) more zero h = refl
get_append (x ∷ seen) more (suc j) h = get_append seen more j (omega arith)

-- names that are added go last
pub added_last : (seen : List (List ℕ)) (row : List Link) → (more : List (List ℕ)) × (with_ends seen row ≡ seen ++ more)
added_last seen [] = ([], sym (nothing seen))
  where
    nothing : (xs : List (List ℕ)) → xs ++ [] ≡ xs
    nothing [] = refl
    nothing (x ∷ xs) = ap (λ ys. x ∷ ys) (nothing xs)
added_last seen (l ∷ row) = by (list_any (bytes_eq l.to) seen) (added_last (insert_key bytes_eq seen l.to) row)
  where
    assoc : (xs ys zs : List (List ℕ)) → (xs ++ ys) ++ zs ≡ xs ++ (ys ++ zs)
    assoc [] ys zs = refl
    assoc (x ∷ xs) ys zs = ap (λ ws. x ∷ ws) (assoc xs ys zs)

    by : (t : Bool) → (more : List (List ℕ)) × (with_ends (insert_key bytes_eq seen l.to) row ≡ cond t seen (seen ++ l.to ∷ []) ++ more)
        → (more : List (List ℕ)) × (with_ends (insert_key bytes_eq seen l.to) row ≡ seen ++ more)
    by true h = h
    by false h = (l.to ∷ h.0, h.1 ∙ assoc seen (l.to ∷ []) h.0)

-- what was seen is seen
still_seen : (seen : List (List ℕ)) (row : List Link) (d : List ℕ) → IsSeen seen d → IsSeen (with_ends seen row) d
still_seen seen row d h =
    let more = added_last seen row in
    subst (λ (s : List (List ℕ)). IsSeen s d) (sym more.1) (seen_append seen more.0 d h)

inserted_seen : (seen : List (List ℕ)) (d : List ℕ) → IsSeen (insert_key bytes_eq seen d) d
inserted_seen seen d = by (list_any (bytes_eq d) seen) refl
  where
    by : (t : Bool) → list_any (bytes_eq d) seen ≡ t → list_any (bytes_eq d) (cond t seen (seen ++ d ∷ [])) ≡ true
    by true h = h
    by false h = list_any-append (bytes_eq d) seen (d ∷ []) ∙ or_right (list_any (bytes_eq d) seen) (bytes_eq d d || false) (or_left (bytes_eq d d) false (bytes_same d))

-- the ends are seen
ends_seen : (seen : List (List ℕ)) (row : List Link) (d : List ℕ) → HasEnd row d → IsSeen (with_ends seen row) d
ends_seen seen [] d h = absurd h
ends_seen seen (l ∷ row) d (inl e) =
    still_seen (insert_key bytes_eq seen l.to) row d (subst (λ (x : List ℕ). IsSeen (insert_key bytes_eq seen l.to) x) e (inserted_seen seen l.to))
ends_seen seen (l ∷ row) d (inr h) = ends_seen (insert_key bytes_eq seen l.to) row d h

inserted_only : (seen : List (List ℕ)) (d x : List ℕ) → IsSeen (insert_key bytes_eq seen d) x → IsSeen seen x ⊎ (d ≡ x)
inserted_only seen d x h = by (list_any (bytes_eq d) seen) h
  where
    alone : bytes_eq x d || false ≡ true → IsSeen seen x ⊎ (d ≡ x)
    alone e = elim (or_cases (bytes_eq x d) false e) [ inl k ↦ inr (sym (same_bytes x d k)) | inr k ↦ absurd (true≢false (sym k)) ]

    by : (t : Bool) → list_any (bytes_eq x) (cond t seen (seen ++ d ∷ [])) ≡ true → IsSeen seen x ⊎ (d ≡ x)
    by true h = inl h
    by false h = elim (or_cases (list_any (bytes_eq x) seen) (bytes_eq x d || false) (sym (list_any-append (bytes_eq x) seen (d ∷ [])) ∙ h)) [ inl k ↦ inl k | inr k ↦ alone k ]

-- and nothing else
seen_only : (seen : List (List ℕ)) (row : List Link) (d : List ℕ) → IsSeen (with_ends seen row) d → IsSeen seen d ⊎ HasEnd row d
seen_only seen [] d h = inl h
seen_only seen (l ∷ row) d h = elim (seen_only (insert_key bytes_eq seen l.to) row d h) [
  | inl k ↦ elim (inserted_only seen l.to d k) [ inl s ↦ inl s | inr e ↦ inr (inl e) ]
  | inr k ↦ inr (inr k)
]

pub got_seen : (seen : List (List ℕ)) (j : ℕ) (c : List ℕ) → slice_get seen j ≡ Some c → IsSeen seen c
got_seen [] j c h = cc
got_seen (x ∷ seen) zero c h =
    let same : x ≡ c = cc in
    or_left (bytes_eq c x) (list_any (bytes_eq c) seen) (subst (λ (y : List ℕ). bytes_eq c y ≡ true) (sym same) (bytes_same c))
got_seen (x ∷ seen) (suc j) c h = or_right (bytes_eq c x) (list_any (bytes_eq c) seen) (got_seen seen j c h)

-- ---- rows

-- a row has the ends of the links from its name
row_end : (ls : List Link) (at : List ℕ → Option (List Link)) (c d : List ℕ) → AreRows ls at → HasLink ls c d → HasEnd (unwrap_or (at c) []) d
row_end ls at c d rows h = subst (λ (o : Option (List Link)). HasEnd (unwrap_or o []) d) (sym (rows c)) (by (stands ls c) refl)
  where
    by : (t : Bool) → stands ls c ≡ t → HasEnd (unwrap_or (cond t (Some (links_of ls c)) None) []) d
    by true e = linked_end ls c d h
    by false e = subst (λ (r : List Link). HasEnd r d) (none_stand ls c e) (linked_end ls c d h)

-- and no other ends
end_row : (ls : List Link) (at : List ℕ → Option (List Link)) (c d : List ℕ) → AreRows ls at → HasEnd (unwrap_or (at c) []) d → HasLink ls c d
end_row ls at c d rows h = by (stands ls c) (subst (λ (o : Option (List Link)). HasEnd (unwrap_or o []) d) (rows c) h)
  where
    by : (t : Bool) → HasEnd (unwrap_or (cond t (Some (links_of ls c)) None) []) d → HasLink ls c d
    by true h = end_linked ls c d h
    by false h = absurd h

-- ---- the search

module _ (at : List ℕ → Option (List Link)) (from to : List ℕ) where
  -- the name that is followed next is not the one looked for, and its ends are seen after it
  pub searched_more : (seen : List (List ℕ)) (i : ℕ) (name : List ℕ) → Searched at from to seen i → slice_get seen i ≡ Some name → name ≢ to
      → Searched at from to (with_ends seen (unwrap_or (at name) [])) (i + 1)
  searched_more seen i name s here differs = record {
    begun = still_seen seen (unwrap_or (at name) []) from s.begun;
    sound = λ ls rows d h. elim (seen_only seen (unwrap_or (at name) []) d h) [
      | inl k ↦ s.sound ls rows d k
      | inr k ↦ leads_to_leads ls from name d (s.sound ls rows name (got_seen seen i name here)) (inr (Directly ls name d (end_row ls at name d rows k)))
    ];
    other = λ j c below got. elim (cases_lt j i) [
      | inl less ↦ s.other j c less (before j c below got)
      | inr more ↦ λ same. differs (was_name j c below got more ∙ same)
    ];
    ends = λ ls rows j c d below got link. elim (cases_lt j i) [
      | inl less ↦ still_seen seen (unwrap_or (at name) []) d (s.ends ls rows j c d less (before j c below got) link)
      | inr more ↦ ends_seen seen (unwrap_or (at name) []) d (row_end ls at name d rows (subst (λ (x : List ℕ). HasLink ls x d) (sym (was_name j c below got more)) link))
    ];
  }
    where
      inside : i < length seen
      inside = slice_get_within seen i name here

      before : (j : ℕ) (c : List ℕ) → j < i + 1 → slice_get (with_ends seen (unwrap_or (at name) [])) j ≡ Some c → slice_get seen j ≡ Some c
      before j c below got =
          let more = added_last seen (unwrap_or (at name) []) in
          sym (get_append seen more.0 j (omega (arith, inside))) ∙ sym (ap (λ (xs : List (List ℕ)). slice_get xs j) more.1) ∙ got

      was_name : (j : ℕ) (c : List ℕ) → j < i + 1 → slice_get (with_ends seen (unwrap_or (at name) [])) j ≡ Some c → i ≤ j → name ≡ c
      was_name j c below got more =
          let same : i ≡ j = omega arith in
          let now : slice_get seen i ≡ Some c = subst (λ (k : ℕ). slice_get seen k ≡ Some c) (sym same) (before j c below got) in
          cc

  -- the one looked for was found
  pub searched_found : (seen : List (List ℕ)) (i : ℕ) (ls : List Link) → Searched at from to seen i → slice_get seen i ≡ Some to → AreRows ls at → true ≡ leads ls from to
  searched_found seen i ls s here rows = sym (leads_of ls from to (s.sound ls rows to (got_seen seen i to here)))

-- a name that is seen stands at some place
place_of : (seen : List (List ℕ)) (d : List ℕ) → IsSeen seen d → (j : ℕ) × (j < length seen) × (slice_get seen j ≡ Some d)
place_of [] d h = absurd (true≢false (sym h))
place_of (x ∷ seen) d h = by (bytes_eq d x) refl h (place_of seen d)
  where
    by : (t : Bool) → bytes_eq d x ≡ t → t || list_any (bytes_eq d) seen ≡ true
        → (IsSeen seen d → (j : ℕ) × (j < length seen) × (slice_get seen j ≡ Some d))
        → (j : ℕ) × (j < length (x ∷ seen)) × (slice_get (x ∷ seen) j ≡ Some d)
    by true e h rest = (0, omega arith, ap Some (sym (same_bytes d x e)))
    by false e h rest = let r = rest h in (suc r.0, omega (arith, r.1), r.2)

-- where all names seen were followed, whatever is reached from one of them is seen
all_seen : (at : List ℕ → Option (List Link)) (from to : List ℕ) (seen : List (List ℕ)) (i : ℕ) (ls : List Link) → Searched at from to seen i → length seen ≤ i → AreRows ls at
    → (c d : List ℕ) → Reaches ls c d → IsSeen seen c → IsSeen seen d
all_seen at from to seen i ls s past rows _ _ (Directly _ c d h) here =
    let j = place_of seen c here in
    s.ends ls rows j.0 c d (omega (arith, j.1)) j.2 h
all_seen at from to seen i ls s past rows _ _ (Through _ c b d h r) here =
    let j = place_of seen c here in
    all_seen at from to seen i ls s past rows b d r (s.ends ls rows j.0 c b (omega (arith, j.1)) j.2 h)

-- so the one looked for is not reached
pub searched_all : (at : List ℕ → Option (List Link)) (from to : List ℕ) (seen : List (List ℕ)) (i : ℕ) (ls : List Link) → Searched at from to seen i → length seen ≤ i → AreRows ls at → false ≡ leads ls from to
searched_all at from to seen i ls s past rows = by (leads ls from to) refl
  where
    absent : IsSeen seen to → ⊥
    absent h = let j = place_of seen to h in s.other j.0 to (omega (arith, j.1)) j.2 refl

    reached : Leads ls from to → ⊥
    reached (inl e) = absent (subst (λ (x : List ℕ). IsSeen seen x) e s.begun)
    reached (inr r) = absent (all_seen at from to seen i ls s past rows from to r s.begun)

    by : (t : Bool) → leads ls from to ≡ t → false ≡ t
    by true h = absurd (reached (leads_told ls from to h))
    by false h = refl

-- past the last place there is no name
pub none_past : (seen : List (List ℕ)) (i : ℕ) → None ≡ slice_get seen i → length seen ≤ i
none_past [] i h = omega arith
none_past (x ∷ seen) zero h = cc
none_past (x ∷ seen) (suc i) h = omega (arith, none_past seen i h)
