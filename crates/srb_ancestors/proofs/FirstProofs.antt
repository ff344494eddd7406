-- The first name that reaches itself.
use Rattle.std.proofs.Common.{◌≡◌, ◌+◌, ◌<◌, ◌≤◌, ◌↔◌, ℕ, suc, zero, Bool, true, false, ◌||◌, List, [], ◌∷◌, ◌++◌, length, take, drop, get_or, cond, Option, Some, None, refl, sym, ◌∙◌, ap, subst, inl, inr, arith}
use Rattle.std.proofs.lemmas.Bool.{or_cases, false≢true}
use Rattle.std.proofs.lemmas.List.{take_more, drop_more, drop_all}
use Rattle.std.specs.List.{list_any}
use Rattle.srb_rules.specs.declared.link.Link.{Link}
use Rattle.srb_rules.specs.Links.{HasLink, Reaches, leads}
use Rattle.srb_rules.specs.Lin.{links_of}
use Rattle.srb_ancestors.specs.Rows.{AreRows, stands}
use Rattle.srb_ancestors.specs.LinEnds.{NoneBegins, IsFirstCircular}
use Rattle.srb_ancestors.specs.Placing.{NoneReachesItself}
use Rattle.srb_ancestors.specs.Ways.{AreSettled, HasEnd}
use Rattle.srb_ancestors.proofs.LinkProofs.{leads_told, leads_of, leads_on, or_left, or_right}
use Rattle.srb_ancestors.proofs.WayProofs.{first_link, settles_not_circular}
use Rattle.srb_ancestors.proofs.LinProofs.{end_linked, linked_end}
use Rattle.srb_ancestors.proofs.RowProofs.{none_stand}
use Rattle.srb_ancestors.proofs.SettleProofs.{row_is}

-- ---- one name

-- some end passes a test
some_end : (test : List ℕ → Bool) (row : List Link) → list_any (λ (l : Link). test l.to) row ≡ true → (d : List ℕ) × HasEnd row d × (test d ≡ true)
some_end test [] h = absurd (false≢true h)
some_end test (l ∷ row) h = elim (or_cases (test l.to) (list_any (λ (l : Link). test l.to) row) h) [
  | inl k ↦ (l.to, inl refl, k)
  | inr k ↦ let r = some_end test row k in (r.0, inr r.1, r.2)
]

end_some : (test : List ℕ → Bool) (row : List Link) (d : List ℕ) → HasEnd row d → test d ≡ true → list_any (λ (l : Link). test l.to) row ≡ true
end_some test [] d h k = absurd h
end_some test (l ∷ row) d (inl e) k = or_left (test l.to) (list_any (λ (l : Link). test l.to) row) (subst (λ (x : List ℕ). test x ≡ true) (sym e) k)
end_some test (l ∷ row) d (inr h) k = or_right (test l.to) (list_any (λ (l : Link). test l.to) row) (end_some test row d h k)

-- a name reaches itself where some end of its links leads to it
pub itself_by_row : (ls : List Link) (at : List ℕ → Option (List Link)) (c : List ℕ) (row : List Link) → AreRows ls at → at c ≡ Some row
    → (list_any (λ (l : Link). leads ls l.to c) row ≡ true) ↔ Reaches ls c c
itself_by_row ls at c row rows here = (told, tells)
  where
    own : row ≡ links_of ls c
    own = row_is ls at c row rows here

    told : list_any (λ (l : Link). leads ls l.to c) row ≡ true → Reaches ls c c
    told h =
        let some = some_end (λ d. leads ls d c) row h in
        leads_on ls c some.0 c (end_linked ls c some.0 (subst (λ (r : List Link). HasEnd r some.0) own some.1)) (leads_told ls some.0 c some.2)

    tells : Reaches ls c c → list_any (λ (l : Link). leads ls l.to c) row ≡ true
    tells r =
        let first = first_link ls c c r in
        end_some (λ d. leads ls d c) row first.0 (subst (λ (r : List Link). HasEnd r first.0) (sym own) (linked_end ls c first.0 first.1)) (leads_of ls first.0 c first.2)

-- and none does that has no row
pub none_by_row : (ls : List Link) (at : List ℕ → Option (List Link)) (c : List ℕ) → AreRows ls at → at c ≡ None → ¬ Reaches ls c c
none_by_row ls at c rows here r =
    let first = first_link ls c c r in
    absurd (subst (λ (r : List Link). HasEnd r first.0) (none_stand ls c (by (stands ls c) (sym here ∙ rows c))) (linked_end ls c first.0 first.1))
  where
    by : (t : Bool) → None ≡ cond t (Some (links_of ls c)) None → t ≡ false
    by true e = cc
    by false e = refl

-- and none that is settled
pub none_settled : (ls : List Link) (has : List ℕ → Bool) (c : List ℕ) → AreSettled ls has → has c ≡ true → ¬ Reaches ls c c
none_settled ls has c settled there = settles_not_circular ls c (settled c there)

pub never : (P : Type 0) → ¬ P → (false ≡ true) ↔ P
never P none = (λ f. absurd (false≢true f), λ p. absurd (none p))

-- ---- the first link

none_appended : (ls some : List Link) (l : Link) → NoneBegins ls some → ¬ Reaches ls l.of l.of → NoneBegins ls (some ++ l ∷ [])
none_appended ls [] l h k = (k, tt)
none_appended ls (x ∷ some) l h k = (h.0, none_appended ls some l h.1 k)

pub none_more : (ls : List Link) (i : ℕ) (l : Link) → i < length ls → l ≡ get_or ls i l → NoneBegins ls (take i ls) → ¬ Reaches ls l.of l.of → NoneBegins ls (take (i + 1) ls)
none_more ls i l h e none here =
    subst (NoneBegins ls) (sym (take_more ls i l h ∙ ap (λ (k : Link). take i ls ++ k ∷ []) (sym e))) (none_appended ls (take i ls) l none here)

cut : (ls : List Link) (i : ℕ) → ls ≡ take i ls ++ drop i ls
cut [] zero = refl
cut [] (suc i) = refl
cut (l ∷ ls) zero = refl
cut (l ∷ ls) (suc i) = ap (λ ks. l ∷ ks) (cut ls i)

pub first_found : (ls : List Link) (i : ℕ) (l : Link) → i < length ls → l ≡ get_or ls i l → NoneBegins ls (take i ls) → Reaches ls l.of l.of → IsFirstCircular ls l.of
first_found ls i l h e none here = record {
  before = take i ls;
  link = l;
  after = drop (i + 1) ls;
  parts = cut ls i ∙ ap (λ ks. take i ls ++ ks) (drop_more ls i l h ∙ ap (λ (k : Link). k ∷ drop (i + 1) ls) (sym e));
  begins = refl;
  circular = here;
  first = none;
}

none_at : (ls some : List Link) (a d : List ℕ) → NoneBegins ls some → HasLink some a d → ¬ Reaches ls a a
none_at ls [] a d h k = absurd k
none_at ls (l ∷ some) a d h (inl e) = subst (λ (x : List ℕ). ¬ Reaches ls x x) e.0 h.0
none_at ls (l ∷ some) a d h (inr k) = none_at ls some a d h.1 k

take_all : (ls : List Link) (i : ℕ) → length ls ≤ i → take i ls ≡ ls
take_all [] zero h = refl
take_all [] (suc i) h = refl
take_all (l ∷ ls) zero h = absurd (omega arith)
take_all (l ∷ ls) (suc i) h = ap (λ ks. l ∷ ks) (take_all ls i (omega arith))

pub none_found : (ls : List Link) (i : ℕ) → length ls ≤ i → NoneBegins ls (take i ls) → NoneReachesItself ls
none_found ls i past none a r =
    let first = first_link ls a a r in
    none_at ls ls a first.0 (subst (NoneBegins ls) (take_all ls i past) none) first.1 r

-- ---- some end

pub any_more : (test : Link → Bool) (row : List Link) (i : ℕ) (l : Link) (whole : Bool) → i < length row → l ≡ get_or row i l → list_any test (drop i row) ≡ whole → test l ≡ false → list_any test (drop (i + 1) row) ≡ whole
any_more test row i l whole h e was isnt =
    ap (λ (b : Bool). b || list_any test (drop (i + 1) row)) (sym isnt)
    ∙ ap (list_any test) (ap (λ (k : Link). k ∷ drop (i + 1) row) e ∙ sym (drop_more row i l h))
    ∙ was

pub any_found : (test : Link → Bool) (row : List Link) (i : ℕ) (l : Link) (whole : Bool) → i < length row → l ≡ get_or row i l → list_any test (drop i row) ≡ whole → test l ≡ true → true ≡ whole
any_found test row i l whole h e was is =
    ap (λ (b : Bool). b || list_any test (drop (i + 1) row)) (sym is)
    ∙ ap (list_any test) (ap (λ (k : Link). k ∷ drop (i + 1) row) e ∙ sym (drop_more row i l h))
    ∙ was

pub any_none : (test : Link → Bool) (row : List Link) (i : ℕ) (whole : Bool) → length row ≤ i → list_any test (drop i row) ≡ whole → false ≡ whole
any_none test row i whole past was = ap (list_any test) (sym (drop_all i row past)) ∙ was
