-- Making the lists of names.
use Rattle.std.proofs.Common.{◌≡◌, ◌≤◌, ◌+◌, ◌<◌, ℕ, suc, zero, Bool, true, false, ◌||◌, List, [], ◌∷◌, length, slice_get, bytes_eq, cond, get_or, is_some, Option, Some, None, unwrap_or, refl, sym, ◌∙◌, ap, subst, inl, inr, arith}
use Rattle.std.proofs.lemmas.Bool.{false≢true, both_ways, cases_lt}
use Rattle.std.specs.Map.{lookup}
use Rattle.srb_terms.specs.NameSets.{has_name}
use Rattle.srb_rules.specs.declared.link.Link.{Link}
use Rattle.srb_rules.specs.Links.{HasLink}
use Rattle.srb_rules.specs.Lin.{links_of, lin_by, lin_of}
use Rattle.srb_ancestors.specs.Rows.{AreRows, stands}
use Rattle.srb_ancestors.specs.Lists.{AreLins, list_in}
use Rattle.srb_ancestors.specs.Ways.{HasEnd}
use Rattle.srb_ancestors.specs.Placing.{Made, IsMade, EndsMade, Each, IsClosed, AreRight, StayRight, IsPlaced, IsVisited, AreVisited, AllVisited, AllMade, StandingMade, nothing_made}
use Rattle.srb_ancestors.proofs.LinkProofs.{same_bytes, bytes_same, or_left, or_right}
use Rattle.srb_ancestors.proofs.WayProofs.{Ends, all_end}
use Rattle.srb_ancestors.proofs.LinProofs.{each_has, each_among, by_same, by_members, lin_equation, end_linked}
use Rattle.srb_ancestors.proofs.SettleProofs.{row_is}

-- ---- one name

-- the end of a link of the row
pub end_at : (row : List Link) (i : ℕ) (l : Link) → i < length row → l ≡ get_or row i l → HasEnd row l.to
end_at [] i l h e = absurd (omega arith)
end_at (k ∷ row) zero l h e = inl (ap (λ (x : Link). x.to) (sym e))
end_at (k ∷ row) (suc i) l h e = inr (end_at row i l (omega arith) e)

-- a name without a list is in no list
pub absent_where_new : (made : Made) (name d : List ℕ) → IsClosed made → is_some (made name) ≡ false → has_name name (list_in made d) ≡ false
absent_where_new made name d closed new = by (made d) refl
  where
    inside : (xs : List (List ℕ)) → made d ≡ Some xs → (t : Bool) → has_name name xs ≡ t → t ≡ false
    inside xs e true h = absurd (both_ways (is_some (made name)) new (each_has (IsMade made) xs (closed d xs e) name h))
    inside xs e false h = refl

    by : (o : Option (List (List ℕ))) → made d ≡ o → has_name name (unwrap_or o []) ≡ false
    by None e = refl
    by (Some xs) e = inside xs e (has_name name xs) refl

made_by : (made : Made) (c : List ℕ) (xs : List (List ℕ)) → made c ≡ Some xs → IsMade made c
made_by made c xs e = ap is_some e

each_in : (P : List ℕ → Type 0) (made : Made) (d : List ℕ) → ((xs : List (List ℕ)) → made d ≡ Some xs → Each P xs) → Each P (list_in made d)
each_in P made d h = by (made d) refl
  where
    by : (o : Option (List (List ℕ))) → made d ≡ o → Each P (unwrap_or o [])
    by None e = tt
    by (Some xs) e = h xs e

pub closed_more : (name : List ℕ) (row : List Link) (old new : Made) → IsClosed old → IsPlaced name row old new → IsClosed new
closed_more name row old new closed placed c xs e = elim (placed.only c xs e) [
  | inl was ↦ each_among (IsMade old) (IsMade new) placed.stay xs (closed c xs was)
  | inr now ↦
      let own : IsMade new c = made_by new c xs e in
      subst (Each (IsMade new)) (sym now.1)
      (by_members (IsMade new) (list_in old) row c own
      (λ d h. each_in (IsMade new) old d (λ ys was. each_among (IsMade old) (IsMade new) placed.stay ys (closed d ys was))))
]

-- ---- lists stay right

stands_by : (ls : List Link) (at : List ℕ → Option (List Link)) (c : List ℕ) (row : List Link) → AreRows ls at → at c ≡ Some row → stands ls c ≡ true
stands_by ls at c row rows e = by (stands ls c) (sym e ∙ rows c)
  where
    by : (t : Bool) → Some row ≡ cond t (Some (links_of ls c)) None → t ≡ true
    by true h = refl
    by false h = cc

right_at : (ls : List Link) (made : Made) (d : List ℕ) → AreRight ls made → IsMade made d → list_in made d ≡ lin_of ls d
right_at ls made d right h = by (made d) refl h
  where
    by : (o : Option (List (List ℕ))) → made d ≡ o → is_some o ≡ true → unwrap_or o [] ≡ lin_of ls d
    by None e h = absurd (false≢true h)
    by (Some xs) e h = (right d xs e).1

right_more : (at : List ℕ → Option (List Link)) (name : List ℕ) (row : List Link) (old new : Made) → at name ≡ Some row → IsPlaced name row old new → StayRight at old new
right_more at name row old new here placed ls rows none right c xs e = elim (placed.only c xs e) [
  | inl was ↦ right c xs was
  | inr now ↦
      let own : at c ≡ Some row = subst (λ (x : List ℕ). at x ≡ Some row) now.0 here in (
        stands_by ls at c row rows own,
        now.1
            ∙ by_same (list_in old) (lin_of ls) row c (λ d h. right_at ls old d right (now.2 d h))
            ∙ ap (λ (r : List Link). lin_by (lin_of ls) r c) (row_is ls at c row rows own)
            ∙ sym (lin_equation ls none c),
      )
]

-- ---- one row

same_row : (rows : List (List ℕ × List Link)) (i : ℕ) (a b : List ℕ × List Link) → slice_get rows i ≡ Some a → slice_get rows i ≡ Some b → a ≡ b
same_row rows i a b h k = cc

pub visited : (rows : List (List ℕ × List Link)) (at : List ℕ → Option (List Link)) (i : ℕ) (name : List ℕ) (row : List Link) (old new : Made)
    → slice_get rows i ≡ Some (name, row) → at name ≡ Some row → IsPlaced name row old new → IsVisited rows at i old new
visited rows at i name row old new here own placed = record {
  right = right_more at name row old new own placed;
  stay = placed.stay;
  made = λ n r got ends.
      let same : (name, row) ≡ (n, r) = same_row rows i (name, row) (n, r) here got in
      let before : EndsMade old row = subst (λ (r : List Link). EndsMade old r) (sym (ap (λ (p : List ℕ × List Link). p.1) same)) ends in
      subst (λ (n : List ℕ). IsMade new n) (ap (λ (p : List ℕ × List Link). p.0) same) (placed.made before);
}

pub visited_none : (rows : List (List ℕ × List Link)) (at : List ℕ → Option (List Link)) (i : ℕ) (old : Made) → slice_get rows i ≡ None → IsVisited rows at i old old
visited_none rows at i old none = record {
  right = λ ls are none right. right;
  stay = λ c h. h;
  made = λ n r got. cc;
}

-- ---- all rows

pub visited_first : (rows : List (List ℕ × List Link)) (at : List ℕ → Option (List Link)) (old : Made) → IsClosed old → AreVisited rows at 0 old old
visited_first rows at old closed = record {
  closed = closed;
  right = λ ls are none right. right;
  stay = λ c h. h;
  made = λ j n r below. absurd (omega arith);
}

pub visited_more : (rows : List (List ℕ × List Link)) (at : List ℕ → Option (List Link)) (i : ℕ) (old now new : Made) → AreVisited rows at i old now → IsClosed new → IsVisited rows at i now new → AreVisited rows at (i + 1) old new
visited_more rows at i old now new were closed is = record {
  closed = closed;
  right = λ ls are none right. is.right ls are none (were.right ls are none right);
  stay = λ c h. is.stay c (were.stay c h);
  made = λ j n r below got ends. elim (cases_lt j i) [
    | inl less ↦ is.stay n (were.made j n r less got ends)
    | inr more ↦
        let same : j ≡ i = omega arith in
        is.made n r (subst (λ (k : ℕ). slice_get rows k ≡ Some (n, r)) same got) (λ d h. were.stay d (ends d h))
  ];
}

-- the look-up finds a row at some index
pub row_place : (rows : List (List ℕ × List Link)) (c : List ℕ) (row : List Link) → lookup (bytes_eq c) rows ≡ Some row → (j : ℕ) × (j < length rows) × (slice_get rows j ≡ Some (c, row))
row_place [] c row e = cc
row_place ((n, r) ∷ rows) c row e = by (bytes_eq c n) refl e (row_place rows c row)
  where
    by : (t : Bool) → bytes_eq c n ≡ t → cond t (Some r) (lookup (bytes_eq c) rows) ≡ Some row
        → (lookup (bytes_eq c) rows ≡ Some row → (j : ℕ) × (j < length rows) × (slice_get rows j ≡ Some (c, row)))
        → (j : ℕ) × (j < length ((n, r) ∷ rows)) × (slice_get ((n, r) ∷ rows) j ≡ Some (c, row))
    by true h e rest =
        let same : r ≡ row = cc in
        (0, omega arith, ap (λ (m : List ℕ). Some (m, r)) (sym (same_bytes c n h)) ∙ ap (λ (x : List Link). Some (c, x)) same)
    by false h e rest = let p = rest e in (suc p.0, omega (arith, p.1), p.2)

pub visited_all : (rows : List (List ℕ × List Link)) (i : ℕ) (old new : Made) → length rows ≤ i → AreVisited rows (λ c. lookup (bytes_eq c) rows) i old new → AllVisited (λ c. lookup (bytes_eq c) rows) old new
visited_all rows i old new past were = record {
  closed = were.closed;
  right = were.right;
  made = λ c row e ends.
      let p = row_place rows c row e in
      were.made p.0 c row (omega (arith, p.1)) p.2 ends;
}

pub all_made : (rows : List (List ℕ × List Link)) (i : ℕ) (made : Made) → length rows ≤ i
    → ((j : ℕ) (name : List ℕ) (row : List Link) → j < i → slice_get rows j ≡ Some (name, row) → IsMade made name) → AllMade (λ c. lookup (bytes_eq c) rows) made
all_made rows i made past h c row e = let p = row_place rows c row e in h p.0 c row (omega (arith, p.1)) p.2

-- ---- passes

row_at : (ls : List Link) (at : List ℕ → Option (List Link)) (c : List ℕ) → AreRows ls at → stands ls c ≡ true → at c ≡ Some (links_of ls c)
row_at ls at c rows h = rows c ∙ ap (λ (t : Bool). cond t (Some (links_of ls c)) None) h

end_stands : (ls : List Link) (c d : List ℕ) → HasLink ls c d → stands ls d ≡ true
end_stands [] c d h = absurd h
end_stands (l ∷ ls) c d (inl e) =
    or_left (bytes_eq l.of d || bytes_eq l.to d) (stands ls d)
    (or_right (bytes_eq l.of d) (bytes_eq l.to d) (subst (λ (x : List ℕ). bytes_eq l.to x ≡ true) e.1 (bytes_same l.to)))
end_stands (l ∷ ls) c d (inr h) = or_right (bytes_eq l.of d || bytes_eq l.to d) (stands ls d) (end_stands ls c d h)

-- a pass gives each name a list whose ways are one link longer
pub pass_more : (at : List ℕ → Option (List Link)) (n : ℕ) (old new : Made) → AllVisited at old new
    → ((ls : List Link) → AreRows ls at → (c : List ℕ) → stands ls c ≡ true → Ends n ls c → IsMade old c)
    → (ls : List Link) → AreRows ls at → (c : List ℕ) → stands ls c ≡ true → Ends (suc n) ls c → IsMade new c
pass_more at n old new all was ls rows c there ends =
    all.made c (links_of ls c) (row_at ls at c rows there)
    (λ d h. let link = end_linked ls c d h in was ls rows d (end_stands ls c d link) (ends d link))

pub standing_made : (at : List ℕ → Option (List Link)) (count n : ℕ) (made : Made) → count ≤ n
    → ((ls : List Link) → AreRows ls at → (c : List ℕ) → stands ls c ≡ true → Ends (suc n) ls c → IsMade made c) → n ≤ count → StandingMade at count made
standing_made at count n made enough h few ls rows long none c there =
    let same : length ls ≡ n = omega arith in
    h ls rows c there (subst (λ (k : ℕ). Ends (suc k) ls c) same (all_end ls none c))

pub all_standing : (at : List ℕ → Option (List Link)) (count : ℕ) (made : Made) → AllMade at made → StandingMade at count made
all_standing at count made all ls rows long none c there = all c (links_of ls c) (row_at ls at c rows there)

-- ---- the linearizations

pub nothing_right : (ls : List Link) → AreRight ls nothing_made
nothing_right ls c xs e = cc

pub are_lins : (ls : List Link) (made : Made) → AreRight ls made → ((c : List ℕ) → stands ls c ≡ true → IsMade made c) → AreLins ls made
are_lins ls made right all c = by (made c) (stands ls c) refl refl
  where
    by : (o : Option (List (List ℕ))) (t : Bool) → made c ≡ o → stands ls c ≡ t → o ≡ cond t (Some (lin_of ls c)) None
    by None true e h = absurd (false≢true (sym (ap is_some e) ∙ all c h))
    by None false e h = refl
    by (Some xs) true e h = ap Some (right c xs e).1
    by (Some xs) false e h = absurd (both_ways (stands ls c) h (right c xs e).0)
