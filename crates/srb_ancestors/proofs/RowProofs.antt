-- Links that are added in turn give each name its row.
use Rattle.std.proofs.Common.{◌≡◌, ◌≤◌, ℕ, Bool, true, false, ◌||◌, List, [], ◌∷◌, ◌++◌, length, bytes_eq, cond, Option, Some, None, unwrap_or, drop, refl, sym, ◌∙◌, ap}
use Rattle.std.proofs.lemmas.List.{append_assoc, append-nil, drop_all}
use Rattle.std.proofs.lemmas.Bool.{true≢false}
use Rattle.srb_rules.specs.declared.link.Link.{Link}
use Rattle.srb_rules.specs.Lin.{links_of}
use Rattle.srb_ancestors.specs.Rows.{stands, AreRows, with_link_at, with_links_at}

-- a name that stands in no link has none
pub none_stand : (ls : List Link) (c : List ℕ) → stands ls c ≡ false → links_of ls c ≡ []
none_stand [] c h = refl
none_stand (l ∷ ls) c h = by (bytes_eq l.of c) (bytes_eq l.to c) h (none_stand ls c)
  where
    by : (t u : Bool) → t || u || stands ls c ≡ false → (stands ls c ≡ false → links_of ls c ≡ []) → cond t (l ∷ links_of ls c) (links_of ls c) ≡ []
    by true u h rest = absurd (true≢false h)
    by false true h rest = absurd (true≢false h)
    by false false h rest = rest h

-- the row after one more link
one_more : (c : List ℕ) (r w : Option (List Link)) (l : Link) (ls : List Link)
    → w ≡ cond (stands ls c) (Some (unwrap_or (with_link_at c r l) [] ++ links_of ls c)) (with_link_at c r l)
    → w ≡ cond (stands (l ∷ ls) c) (Some (unwrap_or r [] ++ links_of (l ∷ ls) c)) r
one_more c r w l ls h = by (bytes_eq l.of c) (bytes_eq l.to c) (stands ls c) h (none_stand ls c)
  where
    by : (t u s : Bool)
        → w ≡ cond s (Some (unwrap_or (cond t (Some (unwrap_or r [] ++ l ∷ [])) (cond u (Some (unwrap_or r [])) r)) [] ++ links_of ls c)) (cond t (Some (unwrap_or r [] ++ l ∷ [])) (cond u (Some (unwrap_or r [])) r))
        → (s ≡ false → links_of ls c ≡ [])
        → w ≡ cond (t || u || s) (Some (unwrap_or r [] ++ cond t (l ∷ links_of ls c) (links_of ls c))) r
    by true u true h none = h ∙ ap Some (append_assoc (unwrap_or r []) (l ∷ []) (links_of ls c))
    by true true false h none = h ∙ ap (λ (k : List Link). Some (unwrap_or r [] ++ l ∷ k)) (sym (none refl))
    by true false false h none = h ∙ ap (λ (k : List Link). Some (unwrap_or r [] ++ l ∷ k)) (sym (none refl))
    by false true true h none = h
    by false true false h none = h ∙ ap Some (sym (append-nil (unwrap_or r [])) ∙ ap (λ (k : List Link). unwrap_or r [] ++ k) (sym (none refl)))
    by false false true h none = h
    by false false false h none = h

added : (c : List ℕ) (r : Option (List Link)) (ls : List Link) → with_links_at c r ls ≡ cond (stands ls c) (Some (unwrap_or r [] ++ links_of ls c)) r
added c r [] = refl
added c r (l ∷ ls) = one_more c r (with_links_at c (with_link_at c r l) ls) l ls (added c (with_link_at c r l) ls)

-- so all of them give each name its row
pub all_added : (at : List ℕ → Option (List Link)) (ls : List Link) (i : ℕ) → length ls ≤ i
    → ((c : List ℕ) → with_links_at c (at c) (drop i ls) ≡ with_links_at c None ls) → AreRows ls at
all_added at ls i past h c =
    sym (ap (λ (rest : List Link). with_links_at c (at c) rest) (drop_all i ls past)) ∙ h c ∙ added c None ls
