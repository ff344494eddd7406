-- Circular links, one after the other.
use Rattle.std.proofs.Common.{◌≡◌, ◌+◌, ◌<◌, ℕ, suc, zero, Bool, true, false, List, [], ◌∷◌, ◌++◌, length, cond, drop, get_or, refl, sym, ◌∙◌, ap, inl, inr, arith}
use Rattle.std.proofs.lemmas.List.{append_assoc, drop_more}
use Rattle.std.specs.List.{filter}
use Rattle.srb_rules.specs.declared.link.Link.{Link}
use Rattle.srb_rules.specs.Links.{HasLink, leads, is_circular}
use Rattle.srb_ancestors.specs.Ways.{AreSettled}
use Rattle.srb_ancestors.proofs.LinkProofs.{leads_told, leads_on}
use Rattle.srb_ancestors.proofs.WayProofs.{settles_not_circular}

-- a link from a settled name is not circular
pub settled_link : (ls : List Link) (l : Link) (has : List ℕ → Bool) → AreSettled ls has → has l.of ≡ true → HasLink ls l.of l.to → false ≡ is_circular ls l
settled_link ls l has settled there link = by (leads ls l.to l.of) refl
  where
    by : (t : Bool) → leads ls l.to l.of ≡ t → false ≡ t
    by true h = absurd (settles_not_circular ls l.of (settled l.of there) (leads_on ls l.of l.to l.of link (leads_told ls l.to l.of h)))
    by false h = refl

-- a link of the list
pub linked_at : (ls : List Link) (i : ℕ) (l : Link) → i < length ls → l ≡ get_or ls i l → HasLink ls l.of l.to
linked_at [] i l h e = absurd (omega arith)
linked_at (k ∷ ls) zero l h e = inl (ap (λ (x : Link). x.of) (sym e), ap (λ (x : Link). x.to) (sym e))
linked_at (k ∷ ls) (suc i) l h e = inr (linked_at ls i l (omega arith) e)

-- one more link
pub found_more : (test : Link → Bool) (found new whole ls : List Link) (i : ℕ) (l : Link) → i < length ls → l ≡ get_or ls i l
    → found ++ filter test (drop i ls) ≡ whole → new ≡ found ++ cond (test l) (l ∷ []) [] → new ++ filter test (drop (i + 1) ls) ≡ whole
found_more test found new whole ls i l h e was now =
    ap (λ (f : List Link). f ++ filter test (drop (i + 1) ls)) now
    ∙ append_assoc found (cond (test l) (l ∷ []) []) (filter test (drop (i + 1) ls))
    ∙ ap (λ (f : List Link). found ++ f) (by (test l))
    ∙ ap (λ (f : List Link). found ++ filter test f) (ap (λ (k : Link). k ∷ drop (i + 1) ls) e ∙ sym (drop_more ls i l h))
    ∙ was
  where
    by : (t : Bool) → cond t (l ∷ []) [] ++ filter test (drop (i + 1) ls) ≡ cond t (l ∷ filter test (drop (i + 1) ls)) (filter test (drop (i + 1) ls))
    by true = refl
    by false = refl
