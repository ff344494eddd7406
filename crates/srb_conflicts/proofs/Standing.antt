-- A table that stands for some facts tells of names what the facts say.
use Rattle.std.proofs.Common.{◌≡◌, ℕ, Bool, true, false, List, bytes_eq, cond, Option, refl, sym, ap, ◌∙◌}
use Rattle.std.specs.Option.{option_and_then}
use Rattle.srb_terms.specs.Worlds.{superclass_at, value_of}
use Rattle.srb_terms.specs.declared.fact.Fact.{Fact}
use Rattle.srb_terms.specs.declared.world.World.{World}
use Rattle.srb_rules.specs.declared.position.Position.TheVariants as position
use Rattle.srb_rules.specs.FullNames.{BASIC_OBJECT}
use Rattle.srb_rules.specs.Lookup.{looked_up}
use Rattle.srb_rules.specs.Parents.{alone_by, deciding, superclass_of}
use Rattle.srb_rules.specs.Resolves.{resolves}
use Rattle.srb_rules.specs.Standing.{Stands, resolved_at}
use Rattle.srb_conflicts.specs.Conflicts.{known, superclass_known}
use Rattle.srb_conflicts.specs.Tables.{circular_class, first_class, known_at, superclass_known_at}
use Rattle.srb_conflicts.proofs.Choices.{are-same}
use Rattle.srb_conflicts.proofs.Top.{top-told}

named-stands : (w : World) (fs : List Fact) → Stands w fs → (scope path : List (List ℕ)) → resolved_at w scope path position.Parent ≡ resolves fs scope path position.Parent
unfolding resolves
named-stands w fs s scope path = λ i. looked_up (λ (o : Option (List ℕ)) (l : List ℕ). s.names o l i) (alone_by (λ (c : List ℕ). s.kinds c i)) scope path

superclass-stands : (w : World) (fs : List Fact) → Stands w fs → (c : List ℕ) → superclass_known_at w c ≡ superclass_known fs c
superclass-stands w fs s c = by (bytes_eq c BASIC_OBJECT) (are-same c BASIC_OBJECT)
  where
    top : circular_class w BASIC_OBJECT ≡ deciding fs BASIC_OBJECT
    top =
        ap (λ (k : List ℕ → Option _). option_and_then (first_class k) (value_of BASIC_OBJECT w.circles.entries)) (λ i c. s.kinds c i)
        ∙ top-told fs (value_of BASIC_OBJECT w.circles.entries) (s.circles BASIC_OBJECT)

    by : (b : Bool) → (b ≡ true → c ≡ BASIC_OBJECT) → cond b (circular_class w c) (superclass_at w c) ≡ cond b (deciding fs c) (superclass_of fs c)
    by true same = ap (circular_class w) (same refl) ∙ top ∙ ap (deciding fs) (sym (same refl))
    by false same = s.superclasses c

pub known-stands : (w : World) (fs : List Fact) → Stands w fs → known_at w ≡ known fs
known-stands w fs s = λ i. record {
  kinds = λ c. s.kinds c i;
  superclass = λ c. superclass-stands w fs s c i;
  circular = λ c d. s.circles c d i;
  named = λ scope path. named-stands w fs s scope path i;
}
