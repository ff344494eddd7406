-- What links connect: the test that is told link by link says what the ways say, and where no link is circular each way ends.
use Rattle.std.proofs.Common.{◌≡◌, ◌↔◌, ℕ, Bool, true, false, ◌&&◌, ◌||◌, List, [], ◌∷◌, bytes_eq, refl, sym, subst, inl, inr}
use Rattle.std.proofs.lemmas.Bool.{or_cases, and_parts, and_from, true≢false}
use Rattle.std.proofs.lemmas.Slice.Eq.{bytes_eq-Decides}
use Rattle.srb_rules.specs.declared.link.Link.{Link}
use Rattle.srb_rules.specs.Links.{HasLink, Reaches, Leads, leads}
use Rattle.srb_rules.specs.Links.Reaches.{Directly, Through}

-- ---- bytes

pub same_bytes : (a b : List ℕ) → bytes_eq a b ≡ true → a ≡ b
same_bytes a b h = (bytes_eq-Decides a b).0 h

pub bytes_same : (a : List ℕ) → bytes_eq a a ≡ true
bytes_same a = (bytes_eq-Decides a a).1 refl

-- ---- choices

pub or_left : (x y : Bool) → x ≡ true → x || y ≡ true
or_left true y h = refl
or_left false y h = absurd (true≢false (sym h))

pub or_right : (x y : Bool) → y ≡ true → x || y ≡ true
or_right true y h = refl
or_right false y h = h

-- ---- the test

pub leads_itself : (ls : List Link) (a : List ℕ) → leads ls a a ≡ true
leads_itself [] a = bytes_same a
leads_itself (l ∷ ls) a = or_left (leads ls a a) (leads ls a l.of && leads ls l.to a) (leads_itself ls a)

-- after the new link a way goes on without it
from_end : (l : Link) (ls : List Link) (c : List ℕ) → leads (l ∷ ls) l.to c ≡ true → leads ls l.to c ≡ true
from_end l ls c e = elim (or_cases (leads ls l.to c) (leads ls l.to l.of && leads ls l.to c) e) [
  | inl h ↦ h
  | inr h ↦ (and_parts (leads ls l.to l.of) (leads ls l.to c) h).1
]

from_beginning : (l : Link) (ls : List Link) (c : List ℕ) → leads ls l.to c ≡ true → leads (l ∷ ls) l.of c ≡ true
from_beginning l ls c e =
    or_right (leads ls l.of c) (leads ls l.of l.of && leads ls l.to c)
    (and_from (leads ls l.of l.of) (leads ls l.to c) (leads_itself ls l.of) e)

pub leads_link : (ls : List Link) (a b c : List ℕ) → HasLink ls a b → leads ls b c ≡ true → leads ls a c ≡ true
leads_link [] a b c h e = absurd h
leads_link (l ∷ ls) a b c (inl h) e =
    let from : leads (l ∷ ls) l.to c ≡ true = subst (λ (x : List ℕ). leads (l ∷ ls) x c ≡ true) (sym h.1) e in
    subst (λ (x : List ℕ). leads (l ∷ ls) x c ≡ true) h.0 (from_beginning l ls c (from_end l ls c from))
leads_link (l ∷ ls) a b c (inr h) e = elim (or_cases (leads ls b c) (leads ls b l.of && leads ls l.to c) e) [
  | inl direct ↦ or_left (leads ls a c) (leads ls a l.of && leads ls l.to c) (leads_link ls a b c h direct)
  | inr both ↦
      let parts = and_parts (leads ls b l.of) (leads ls l.to c) both in
      or_right (leads ls a c) (leads ls a l.of && leads ls l.to c)
      (and_from (leads ls a l.of) (leads ls l.to c) (leads_link ls a b l.of h parts.0) parts.1)
]

pub leads_reached : (ls : List Link) (a b : List ℕ) → Reaches ls a b → leads ls a b ≡ true
leads_reached _ _ _ (Directly ls a b h) = leads_link ls a b b h (leads_itself ls b)
leads_reached _ _ _ (Through ls a b c h r) = leads_link ls a b c h (leads_reached ls b c r)

-- ---- ways

pub leads_on : (ls : List Link) (a b c : List ℕ) → HasLink ls a b → Leads ls b c → Reaches ls a c
leads_on ls a b c h (inl e) = subst (λ (x : List ℕ). Reaches ls a x) e (Directly ls a b h)
leads_on ls a b c h (inr r) = Through ls a b c h r

pub reaches_on : (ls : List Link) (a b : List ℕ) → Reaches ls a b → (c : List ℕ) → Reaches ls b c → Reaches ls a c
reaches_on _ _ _ (Directly ls a b h) c s = Through ls a b c h s
reaches_on _ _ _ (Through ls a x b h r) c s = Through ls a x c h (reaches_on ls x b r c s)

pub leads_to_leads : (ls : List Link) (a b c : List ℕ) → Leads ls a b → Leads ls b c → Leads ls a c
leads_to_leads ls a b c (inl e) s = subst (λ (x : List ℕ). Leads ls x c) (sym e) s
leads_to_leads ls a b c (inr r) (inl e) = inr (subst (λ (x : List ℕ). Reaches ls a x) e r)
leads_to_leads ls a b c (inr r) (inr s) = inr (reaches_on ls a b r c s)

-- more links keep each way
pub reaches_among : (ls more : List Link) → ((x y : List ℕ) → HasLink ls x y → HasLink more x y) → (a b : List ℕ) → Reaches ls a b → Reaches more a b
reaches_among ls more into a b r = by ls a b r into
  where
    by : (ks : List Link) (a b : List ℕ) → Reaches ks a b → ((x y : List ℕ) → HasLink ks x y → HasLink more x y) → Reaches more a b
    by _ _ _ (Directly ks a b h) into = Directly more a b (into a b h)
    by _ _ _ (Through ks a b c h r) into = Through more a b c (into a b h) (by ks b c r into)

pub leads_among : (ls more : List Link) → ((x y : List ℕ) → HasLink ls x y → HasLink more x y) → (a b : List ℕ) → Leads ls a b → Leads more a b
leads_among ls more into a b (inl e) = inl e
leads_among ls more into a b (inr r) = inr (reaches_among ls more into a b r)

pub leads_told : (ls : List Link) (a b : List ℕ) → leads ls a b ≡ true → Leads ls a b
leads_told [] a b h = inl (same_bytes a b h)
leads_told (l ∷ ls) a b h = elim (or_cases (leads ls a b) (leads ls a l.of && leads ls l.to b) h) [
  | inl direct ↦ leads_among ls (l ∷ ls) (λ x y k. inr k) a b (leads_told ls a b direct)
  | inr both ↦
      let parts = and_parts (leads ls a l.of) (leads ls l.to b) both in
      let more : (x y : List ℕ) → HasLink ls x y → HasLink (l ∷ ls) x y = λ x y k. inr k in
      let before : Leads (l ∷ ls) a l.of = leads_among ls (l ∷ ls) more a l.of (leads_told ls a l.of parts.0) in
      let after : Leads (l ∷ ls) l.to b = leads_among ls (l ∷ ls) more l.to b (leads_told ls l.to b parts.1) in
      leads_to_leads (l ∷ ls) a l.of b before (inr (leads_on (l ∷ ls) l.of l.to b (inl (refl, refl)) after))
]

pub leads_of : (ls : List Link) (a b : List ℕ) → Leads ls a b → leads ls a b ≡ true
leads_of ls a b (inl e) = subst (λ (x : List ℕ). leads ls a x ≡ true) e (leads_itself ls a)
leads_of ls a b (inr r) = leads_reached ls a b r

pub leads_is_told : (ls : List Link) (a b : List ℕ) → (leads ls a b ≡ true) ↔ Leads ls a b
leads_is_told ls a b = (leads_told ls a b, leads_of ls a b)
