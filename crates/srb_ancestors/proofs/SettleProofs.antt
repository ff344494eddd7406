-- A name is settled once the ends of its links are.
use Rattle.std.proofs.Common.{◌≡◌, ℕ, Bool, true, false, List, cond, Option, Some, None, sym, ◌∙◌, subst, inl, inr}
use Rattle.srb_rules.specs.declared.link.Link.{Link}
use Rattle.srb_rules.specs.Links.{HasLink}
use Rattle.srb_rules.specs.Lin.{links_of}
use Rattle.srb_ancestors.specs.Rows.{stands, AreRows}
use Rattle.srb_ancestors.specs.Ways.{HasEnd, AreSettled, SettlesAt}
use Rattle.srb_ancestors.specs.Ways.Settles.{Ended}
use Rattle.srb_ancestors.proofs.LinProofs.{linked_end}

-- the row that the look-up gives is that of the links from the name
pub row_is : (ls : List Link) (at : List ℕ → Option (List Link)) (c : List ℕ) (row : List Link) → AreRows ls at → at c ≡ Some row → row ≡ links_of ls c
row_is ls at c row rows h = by (stands ls c) (sym h ∙ rows c)
  where
    by : (t : Bool) → Some row ≡ cond t (Some (links_of ls c)) None → row ≡ links_of ls c
    by true e = cc
    by false e = cc

pub settled_more : (ls : List Link) (at : List ℕ → Option (List Link)) (name : List ℕ) (row : List Link) (old new : List ℕ → Bool)
    → at name ≡ Some row → SettlesAt name row old new → AreRows ls at → AreSettled ls old → AreSettled ls new
settled_more ls at name row old new h more rows was c t = elim (more c t) [
  | inl k ↦ was c k
  | inr k ↦
      Ended c (λ d link.
      let end : HasEnd (links_of ls name) d = linked_end ls name d (subst (λ (x : List ℕ). HasLink ls x d) (sym k.0) link) in
      was d (k.1 d (subst (λ (r : List Link). HasEnd r d) (sym (row_is ls at name row rows h)) end)))
]
