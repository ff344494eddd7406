-- Proofs of the laws on circular links and on linearizations.
use Rattle.std.proofs.Common.{◌≡◌, ℕ, suc, zero, Bool, true, false, not, List, [], ◌∷◌, length, cond, refl, sym, ◌∙◌, subst, inl, inr}
use Rattle.std.proofs.lemmas.Bool.{both_ways, not-true}
use Rattle.std.specs.List.{filter}
use Rattle.srb_rules.specs.declared.link.Link.{Link}
use Rattle.srb_rules.specs.Links.{HasLink, Leads, leads, is_circular, counted}
use Rattle.srb_rules.specs.Lin.{links_of, lin_step, lin_of}
use Rattle.srb_ancestors.specs.Laws.{LeadsIsTold, CircularIsTold, NoCircularLink, CountedHaveNoCircle, EquationHolds, EquationHasOneSolution, StandsAlone, OthersAreAlone, MembersAreReached}
use Rattle.srb_ancestors.specs.Placing.{NoneReachesItself}
use Rattle.srb_ancestors.specs.Ways.{HasEnd}
use Rattle.srb_ancestors.proofs.RowProofs.{none_stand}
use Rattle.srb_ancestors.proofs.LinkProofs.{leads_is_told, leads_of, leads_among}
use Rattle.srb_ancestors.proofs.WayProofs.{Ends, all_end, first_link, link_before, none_reaches_itself}
use Rattle.srb_ancestors.proofs.LinProofs.{alone, by_same, each_has, end_linked, lin_equation, lin_members, linked_end}

pub told : LeadsIsTold
told = leads_is_told

pub circular_told : CircularIsTold
circular_told ls l = leads_is_told ls l.to l.of

pub no_circular_link : NoCircularLink
no_circular_link = none_reaches_itself

-- a link of a filtered list passes the test
passes : (test : Link → Bool) (ls : List Link) (a b : List ℕ) → HasLink (filter test ls) a b → (l : Link) × (l.of ≡ a) × (l.to ≡ b) × (test l ≡ true)
passes test [] a b h = absurd h
passes test (l ∷ ls) a b h = by (test l) refl h (passes test ls a b)
  where
    by : (t : Bool) → test l ≡ t → HasLink (cond t (l ∷ filter test ls) (filter test ls)) a b
        → (HasLink (filter test ls) a b → (k : Link) × (k.of ≡ a) × (k.to ≡ b) × (test k ≡ true)) → (k : Link) × (k.of ≡ a) × (k.to ≡ b) × (test k ≡ true)
    by true e (inl h) rest = (l, h.0, h.1, e)
    by true e (inr h) rest = rest h
    by false e h rest = rest h

pub counted_have_none : CountedHaveNoCircle
counted_have_none ls a r =
    let first = first_link (counted ls) a a r in
    let link = passes (λ (l : Link). not (is_circular ls l)) ls a first.0 first.1 in
    let back : Leads ls first.0 a = leads_among (counted ls) ls (λ x y h. link_before (λ (l : Link). not (is_circular ls l)) ls x y h) first.0 a first.2 in
    let same : leads ls link.0.to link.0.of ≡ true =
    subst (λ (x : List ℕ). leads ls link.0.to x ≡ true) (sym link.1) (subst (λ (x : List ℕ). leads ls x a ≡ true) (sym link.2) (leads_of ls first.0 a back)) in
    both_ways (is_circular ls link.0) (not-true (is_circular ls link.0) link.3) same

pub equation_holds : EquationHolds
equation_holds = lin_equation

-- along ways that end there is one solution
one_by : (n : ℕ) (ls : List Link) → NoneReachesItself ls → (f : List ℕ → List (List ℕ)) → ((c : List ℕ) → f c ≡ lin_step ls f c) → (c : List ℕ) → Ends n ls c → f c ≡ lin_of ls c
one_by zero ls none f solves c h = absurd h
one_by (suc n) ls none f solves c h =
    solves c
    ∙ by_same f (lin_of ls) (links_of ls c) c (λ d e. one_by n ls none f solves d (h d (end_linked ls c d e)))
    ∙ sym (lin_equation ls none c)

pub one_solution : EquationHasOneSolution
one_solution ls none f solves c = one_by (suc (length ls)) ls none f solves c (all_end ls none c)

pub stands_alone : StandsAlone
stands_alone = alone

pub others_are_alone : OthersAreAlone
others_are_alone ls c e = alone ls c (λ d h. subst (λ (r : List Link). HasEnd r d) (none_stand ls c e) (linked_end ls c d h))

pub members_are_reached : MembersAreReached
members_are_reached ls c d h = each_has (λ x. Leads ls c x) (lin_of ls c) (lin_members ls c) d h
