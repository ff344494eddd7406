-- The linearizations by links that lead in no circle are closed, and their classes form chains.
use Rattle.std.proofs.Common.{◌≡◌, ℕ, suc, zero, ◌⊎◌, List, [], ◌∷◌, length, Option, Some, bytes_eq, sym, subst, inl, inr}
use Rattle.srb_terms.specs.declared.fact.How.{How}
use Rattle.srb_terms.specs.declared.fact.How.TheVariants.{Super, Include, Extend}
use Rattle.srb_terms.specs.declared.fact.Kind.{Kind}
use Rattle.srb_terms.specs.declared.fact.Kind.TheVariants as kind
use Rattle.srb_rules.specs.declared.link.Link.{Link}
use Rattle.srb_rules.specs.Links.{HasLink, Reaches}
use Rattle.srb_rules.specs.Links.Reaches.{Directly, Through}
use Rattle.srb_rules.specs.Lin.{links_of, superclass_in, included_in, with_modules, lin_below, lin_of}
use Rattle.srb_ancestors.specs.Placing.{NoneReachesItself}
use Rattle.srb_ancestors.specs.Ways.{HasEnd}
use Rattle.srb_ancestors.proofs.LawProofs.{equation_holds, members_are_reached}
use Rattle.srb_ancestors.proofs.LinProofs.{each_has, end_linked, modules_end}
use Rattle.srb_ancestors.proofs.WayProofs.{Ends, all_end}
use Rattle.srb_shapes.specs.Lineages.{Has}
use Rattle.srb_shapes_laws.proofs.Bools.{either}
use Rattle.srb_lineage_laws.proofs.Links.{GoodAs, IsGood, EachLink, links-filtered}
use Rattle.srb_lineage_laws.proofs.Rows.{in-first, in-second, in-one, FromModule, modules-from, modules-own, modules-add, below-from, included-modules}

-- ---- kinds along links

-- a class or module
abbrev pub IsBody : Option Kind → Type 0
IsBody k = (k ≡ Some kind.Class) ⊎ (k ≡ Some kind.Module)

module _ (kinds : List ℕ → Option Kind) where
  link-body : (ls : List Link) (a b : List ℕ) → EachLink (IsGood kinds) ls → HasLink ls a b → IsBody (kinds b)
  link-body [] a b good h = absurd h
  link-body (l ∷ ls) a b good (inl h) = go l.how good.0
    where
      go : (how : How) → GoodAs kinds how l.of l.to → (kinds b ≡ Some kind.Class) ⊎ (kinds b ≡ Some kind.Module)
      go Super g = inl (subst (λ x. kinds x ≡ Some kind.Class) h.1 g.1)
      go Include g = inr (subst (λ x. kinds x ≡ Some kind.Module) h.1 g)
      go Extend g = absurd g
  link-body (l ∷ ls) a b good (inr h) = link-body ls a b good.1 h

  link-module : (ls : List Link) (a b : List ℕ) → EachLink (IsGood kinds) ls → HasLink ls a b → kinds a ≡ Some kind.Module → kinds b ≡ Some kind.Module
  link-module [] a b good h k = absurd h
  link-module (l ∷ ls) a b good (inl h) k = go l.how good.0
    where
      go : (how : How) → GoodAs kinds how l.of l.to → kinds b ≡ Some kind.Module
      go Super g = let class : kinds a ≡ Some kind.Class = subst (λ x. kinds x ≡ Some kind.Class) h.0 g.0 in cc
      go Include g = subst (λ x. kinds x ≡ Some kind.Module) h.1 g
      go Extend g = absurd g
  link-module (l ∷ ls) a b good (inr h) k = link-module ls a b good.1 h k

  reach-body : (ls : List Link) (a b : List ℕ) → Reaches ls a b → EachLink (IsGood kinds) ls → IsBody (kinds b)
  reach-body _ _ _ (Directly ls a b h) good = link-body ls a b good h
  reach-body _ _ _ (Through ls a b c h r) good = reach-body ls b c r good

  reach-module : (ls : List Link) (a b : List ℕ) → Reaches ls a b → EachLink (IsGood kinds) ls → kinds a ≡ Some kind.Module → kinds b ≡ Some kind.Module
  reach-module _ _ _ (Directly ls a b h) good k = link-module ls a b good h k
  reach-module _ _ _ (Through ls a b c h r) good k = reach-module ls b c r good (link-module ls a b good h k)

  module _ (ls : List Link) (none : NoneReachesItself ls) (good : EachLink (IsGood kinds) ls) where
    pub members-bodies : (c a : List ℕ) → IsBody (kinds c) → Has (lin_of ls c) a → IsBody (kinds a)
    members-bodies c a body h = either (λ e. subst (λ x. IsBody (kinds x)) e body) (λ r. reach-body ls c a r good) (members_are_reached ls c a h)

    pub members-modules : (c a : List ℕ) → kinds c ≡ Some kind.Module → Has (lin_of ls c) a → kinds a ≡ Some kind.Module
    members-modules c a k h = either (λ e. subst (λ x. kinds x ≡ Some kind.Module) e k) (λ r. reach-module ls c a r good k) (members_are_reached ls c a h)

    -- ---- one list by its links

    abbrev row : List ℕ → List Link
    row c = links_of ls c

    abbrev below : List ℕ → List (List ℕ)
    below c = lin_below (lin_of ls) (superclass_in (row c))

    abbrev above : List ℕ → List (List ℕ)
    above c = with_modules (lin_of ls) (below c) c (included_in (row c))

    opened : (c a : List ℕ) → Has (lin_of ls c) a → Has (above c) a ⊎ Has (below c) a
    opened c a h = in-one a (above c) (below c) (subst (λ xs. Has xs a) (equation_holds ls none c) h)

    from-above : (c a : List ℕ) → Has (above c) a → Has (lin_of ls c) a
    from-above c a h = subst (λ xs. Has xs a) (sym (equation_holds ls none c)) (in-first a (above c) (below c) h)

    from-below : (c a : List ℕ) → Has (below c) a → Has (lin_of ls c) a
    from-below c a h = subst (λ xs. Has xs a) (sym (equation_holds ls none c)) (in-second a (above c) (below c) h)

    pub own : (c : List ℕ) → Has (lin_of ls c) c
    own c = from-above c c (modules-own (lin_of ls) (below c) c (included_in (row c)))

    module-link : (c m : List ℕ) → Has (included_in (row c)) m → HasLink ls c m
    module-link c m h = end_linked ls c m (each_has (λ d. HasEnd (row c) d) (included_in (row c)) (modules_end (λ d. HasEnd (row c) d) (row c) (λ d e. e)) m h)

    from-module : (c m a : List ℕ) → Has (included_in (row c)) m → Has (lin_of ls m) a → Has (lin_of ls c) a
    from-module c m a h k = either (from-below c a) (from-above c a) (modules-add (lin_of ls) (below c) c (included_in (row c)) m a h k)

    -- ---- closed

    closed-by : (n : ℕ) (c : List ℕ) → Ends n ls c → (b a : List ℕ) → Has (lin_of ls c) b → Has (lin_of ls b) a → Has (lin_of ls c) a
    closed-by zero c ends b a h k = absurd ends
    closed-by (suc n) c ends b a h k = either
        (λ up. either
        (λ (e : c ≡ b). subst (λ x. Has (lin_of ls x) a) (sym e) k)
        (λ (r : FromModule (lin_of ls) (included_in (row c)) b).
        from-module c r.name a r.among (closed-by n r.name (ends r.name (module-link c r.name r.among)) b a r.inside k))
        (modules-from (lin_of ls) (below c) c (included_in (row c)) b up))
        (λ down.
        let s = below-from (lin_of ls) (row c) b down in
        let inside : Has (lin_of ls s.name) b = subst (λ xs. Has xs b) s.same down in
        from-below c a (subst (λ xs. Has xs a) (sym s.same) (closed-by n s.name (ends s.name (end_linked ls c s.name s.linked)) b a inside k)))
        (opened c b h)

    pub closed : (c b a : List ℕ) → Has (lin_of ls c) b → Has (lin_of ls b) a → Has (lin_of ls c) a
    closed c b a h k = closed-by (suc (length ls)) c (all_end ls none c) b a h k

    -- ---- chains

    -- a class in the list of c is c, or stands in that of its superclass
    class-place : (c a : List ℕ) → Has (lin_of ls c) a → kinds a ≡ Some kind.Class → (c ≡ a) ⊎ Has (below c) a
    class-place c a h k = either
        (λ up. either inl
        (λ (r : FromModule (lin_of ls) (included_in (row c)) a).
        let m = members-modules r.name a
        (included-modules kinds (row c) (links-filtered (IsGood kinds) (λ l. bytes_eq l.of c) ls good) r.name r.among) r.inside in cc)
        (modules-from (lin_of ls) (below c) c (included_in (row c)) a up))
        inr
        (opened c a h)

    chain-by : (n : ℕ) (c : List ℕ) → Ends n ls c → (a b : List ℕ) → Has (lin_of ls c) a → Has (lin_of ls c) b → kinds a ≡ Some kind.Class
        → kinds b ≡ Some kind.Class → Has (lin_of ls a) b ⊎ Has (lin_of ls b) a
    chain-by zero c ends a b h k p q = absurd ends
    chain-by (suc n) c ends a b h k p q = either
        (λ (e : c ≡ a). inl (subst (λ x. Has (lin_of ls x) b) e k))
        (λ first. either
        (λ (e : c ≡ b). inr (subst (λ x. Has (lin_of ls x) a) e h))
        (λ second.
        let s = below-from (lin_of ls) (row c) a first in
        chain-by n s.name (ends s.name (end_linked ls c s.name s.linked)) a b
        (subst (λ xs. Has xs a) s.same first) (subst (λ xs. Has xs b) s.same second) p q)
        (class-place c b k q))
        (class-place c a h p)

    pub chain : (c a b : List ℕ) → Has (lin_of ls c) a → Has (lin_of ls c) b → kinds a ≡ Some kind.Class → kinds b ≡ Some kind.Class
        → Has (lin_of ls a) b ⊎ Has (lin_of ls b) a
    chain c a b h k p q = chain-by (suc (length ls)) c (all_end ls none c) a b h k p q
