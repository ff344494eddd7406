-- The lineage of a project.
use Rattle.std.proofs.Common.{◌≡◌, ℕ, List, Option, Some, None, cond, refl, sym, ap, subst, inl, inr}
use Rattle.std.specs.Bool.{IsTrue}
use Rattle.srb_terms.specs.declared.fact.Fact.{Fact}
use Rattle.srb_terms.specs.declared.fact.Kind.{Kind}
use Rattle.srb_terms.specs.declared.fact.Kind.TheVariants as kind
use Rattle.srb_terms.specs.declared.world.World.{World}
use Rattle.srb_rules.specs.FullNames.{OBJECT}
use Rattle.srb_rules.specs.Kinds as rules
use Rattle.srb_rules.specs.Kinds.{kind_of}
use Rattle.srb_rules.specs.Lin.{lin_of}
use Rattle.srb_rules.specs.Links.{Reaches, counted}
use Rattle.srb_rules.specs.Parents.{links}
use Rattle.srb_rules.specs.Resolves.{lin_in}
use Rattle.srb_rules.specs.Standing.{Stands}
use Rattle.srb_ancestors.proofs.LawProofs.{counted_have_none, members_are_reached}
use Rattle.srb_ancestors.proofs.LinkProofs.{reaches_on}
use Rattle.srb_shapes.specs.Lineages.{Has, IsLineage, is_body, is_class, lineage_at, or_none}
use Rattle.srb_shapes_laws.proofs.Bools.{either}
use Rattle.srb_types_laws.specs.NormalForms.{HasNoCircles}
use Rattle.srb_lineage_laws.specs.Projects.{lineage_by, FactsGiveLineages, FactsHaveNoCircles, TablesGiveLineages, TablesHaveNoCircles}
use Rattle.srb_lineage_laws.proofs.Links.{counted-good}
use Rattle.srb_lineage_laws.proofs.Lineage.{IsBody, members-bodies, members-modules, own, closed, chain}

-- ---- kinds

body-of : (k : Option Kind) → IsTrue (is_body k) → IsBody k
body-of None h = cc
body-of (Some kind.Class) h = inl refl
body-of (Some kind.Module) h = inr refl
body-of (Some kind.Value) h = cc

is-body : (k : Option Kind) → IsBody k → IsTrue (is_body k)
is-body k (inl e) = ap is_body e
is-body k (inr e) = ap is_body e

class-of : (k : Option Kind) → IsTrue (is_class k) → k ≡ Some kind.Class
class-of None h = cc
class-of (Some kind.Class) h = refl
class-of (Some kind.Module) h = cc
class-of (Some kind.Value) h = cc

body-in : (k : Option Kind) (xs : List (List ℕ)) (a : List ℕ) → Has (or_none (cond (rules.is_body k) (Some xs) None)) a → IsBody k × Has xs a
body-in None xs a h = cc
body-in (Some kind.Class) xs a h = (inl refl, h)
body-in (Some kind.Module) xs a h = (inr refl, h)
body-in (Some kind.Value) xs a h = cc

in-body : (k : Option Kind) (xs : List (List ℕ)) (a : List ℕ) → IsBody k → Has xs a → Has (or_none (cond (rules.is_body k) (Some xs) None)) a
in-body k xs a (inl e) h = subst (λ x. Has (or_none (cond (rules.is_body x) (Some xs) None)) a) (sym e) h
in-body k xs a (inr e) h = subst (λ x. Has (or_none (cond (rules.is_body x) (Some xs) None)) a) (sym e) h

class-body : (k : Option Kind) → k ≡ Some kind.Class → IsBody k
class-body k e = inl e

-- ---- facts

module _ (fs : List Fact) (root : kind_of fs OBJECT ≡ Some kind.Class) where
  shut : (c a : List ℕ) → Has ((lineage_by fs).lin c) a → IsBody (kind_of fs c) × Has (lin_of (counted (links fs)) c) a
  unfolding lin_in
  shut c a h = body-in (kind_of fs c) (lin_of (counted (links fs)) c) a h

  open-lin : (c a : List ℕ) → IsBody (kind_of fs c) → Has (lin_of (counted (links fs)) c) a → Has ((lineage_by fs).lin c) a
  unfolding lin_in
  open-lin c a b h = in-body (kind_of fs c) (lin_of (counted (links fs)) c) a b h

  facts-give : IsLineage (lineage_by fs)
  facts-give = record {
    own = λ c b. open-lin c c (body-of (kind_of fs c) b) (own (kind_of fs) (counted (links fs)) (counted_have_none (links fs)) (counted-good fs root) c);
    known = λ c a h. let s = shut c a h in
        is-body (kind_of fs a) (members-bodies (kind_of fs) (counted (links fs)) (counted_have_none (links fs)) (counted-good fs root) c a s.0 s.1);
    closed = λ c b a h k. let s = shut c b h in let t = shut b a k in
        open-lin c a s.0 (closed (kind_of fs) (counted (links fs)) (counted_have_none (links fs)) (counted-good fs root) c b a s.1 t.1);
    chain = λ c a b h k p q. let s = shut c a h in let t = shut c b k in
        let x = class-of (kind_of fs a) p in let y = class-of (kind_of fs b) q in
        either
        (λ u. inl (open-lin a b (class-body (kind_of fs a) x) u))
        (λ u. inr (open-lin b a (class-body (kind_of fs b) y) u))
        (chain (kind_of fs) (counted (links fs)) (counted_have_none (links fs)) (counted-good fs root) c a b s.1 t.1 x y);
    modules = λ c a e h. let s = shut c a h in
        members-modules (kind_of fs) (counted (links fs)) (counted_have_none (links fs)) (counted-good fs root) c a e s.1;
  }

  -- a name that another one inherits from doesn't inherit from that one
  facts-apart : HasNoCircles (lineage_by fs)
  facts-apart c d h k = let s = shut c d h in let t = shut d c k in
      either (λ e. e)
      (λ (r : Reaches (counted (links fs)) c d). either (λ (e : d ≡ c). sym e)
      (λ (b : Reaches (counted (links fs)) d c). absurd (counted_have_none (links fs) c (reaches_on (counted (links fs)) c d r c b)))
      (members_are_reached (counted (links fs)) d c t.1))
      (members_are_reached (counted (links fs)) c d s.1)

pub facts_give : FactsGiveLineages
facts_give fs root = facts-give fs root

-- ---- tables

pub table_lineage : (w : World) (fs : List Fact) → Stands w fs → lineage_at w ≡ lineage_by fs
table_lineage w fs stands = λ i. record { kind = λ c. stands.kinds c i; lin = λ c. or_none (stands.lins c i) }

pub tables_give : TablesGiveLineages
tables_give w fs stands root = subst IsLineage (sym (table_lineage w fs stands)) (facts_give fs root)

-- ---- circles

pub facts_apart : FactsHaveNoCircles
facts_apart fs root = facts-apart fs root

pub tables_apart : TablesHaveNoCircles
tables_apart w fs stands root = subst HasNoCircles (sym (table_lineage w fs stands)) (facts_apart fs root)
