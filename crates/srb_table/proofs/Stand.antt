-- A table that knows the names, filled with the other tables, stands for the facts.
use Rattle.std.proofs.Common.{◌≡◌, ℕ, Bool, true, false, List, bytes_eq, cond, Option, Some, None, ap, ◌∙◌}
use Rattle.std.specs.Map.{lookup_key}
use Rattle.srb_terms.specs.Worlds.{has_colon, inner_at, is_among, ivar_at, joined, method_at, value_of, within_at}
use Rattle.srb_terms.specs.declared.fact.Fact.{Fact}
use Rattle.srb_terms.specs.declared.world.World.{World}
use Rattle.srb_rules.specs.Kinds.{within_of}
use Rattle.srb_rules.specs.Standing.{Stands}
use Rattle.srb_table.specs.Members.{ivar_of, method_of}
use Rattle.srb_table.specs.Names.{AreMembers, AreTables, HasMembers, IsFilled, KnowsNames, TellsMembers}
use Rattle.srb_table.specs.declared.members.Members.{Members}
use Rattle.srb_table.specs.declared.world.Tables.{Tables}

pub stands-filled : (w v : World) (t : Tables) (fs : List Fact) → KnowsNames w fs → AreTables t fs → IsFilled w t v → Stands v fs
stands-filled w v t fs known tables same = record {
  kinds = λ c. ap (λ m. value_of c m.entries) same.0 ∙ known.kinds c;
  names = names;
  lins = λ c. ap (λ m. value_of c m.entries) same.3 ∙ tables.ancestry.linked.lins c;
  superclasses = λ c. ap (λ m. value_of c m.entries) same.2 ∙ tables.ancestry.superclasses c;
  extends = λ c. ap (λ m. value_of c m.entries) same.4 ∙ tables.extended c;
  circles = λ c d. ap (λ m. is_among d (value_of c m.entries)) same.5 ∙ tables.ancestry.linked.circles c d;
}
  where
    names : (scope : Option (List ℕ)) (last : List ℕ) → within_at v scope last ≡ within_of fs scope last
    names None last = ap (λ m. lookup_key (bytes_eq last) m.entries) same.0 ∙ known.names None last
    names (Some scope) last =
        (λ i. cond (has_colon last) (lookup_key (bytes_eq (joined scope last)) (same.0 i).entries) (inner_at scope last (same.1 i).entries))
        ∙ known.names (Some scope) last

-- with other members it still stands
pub stands-still : (w v : World) (t : Members) (fs : List Fact) → Stands w fs → HasMembers w t v → Stands v fs
stands-still w v t fs stands same = record {
  kinds = λ c. ap (λ m. value_of c m.entries) same.0 ∙ stands.kinds c;
  names = names;
  lins = λ c. ap (λ m. value_of c m.entries) same.3 ∙ stands.lins c;
  superclasses = λ c. ap (λ m. value_of c m.entries) same.2 ∙ stands.superclasses c;
  extends = λ c. ap (λ m. value_of c m.entries) same.4 ∙ stands.extends c;
  circles = λ c d. ap (λ m. is_among d (value_of c m.entries)) same.5 ∙ stands.circles c d;
}
  where
    names : (scope : Option (List ℕ)) (last : List ℕ) → within_at v scope last ≡ within_of fs scope last
    names None last = ap (λ m. lookup_key (bytes_eq last) m.entries) same.0 ∙ stands.names None last
    names (Some scope) last =
        (λ i. cond (has_colon last) (lookup_key (bytes_eq (joined scope last)) (same.0 i).entries) (inner_at scope last (same.1 i).entries))
        ∙ stands.names (Some scope) last

pub members-told : (w v : World) (t : Members) (fs : List Fact) → AreMembers t fs → HasMembers w t v → TellsMembers v fs
members-told w v t fs members same = record {
  methods = methods;
  ivars = ivars;
  values = λ c. ap (λ m. value_of c m.entries) same.10 ∙ members.values c;
}
  where
    methods : (owner : List ℕ) (meta : Bool) (name : List ℕ) → method_at v owner meta name ≡ method_of fs owner meta name
    methods owner true name = ap (λ m. inner_at owner name m.entries) same.7 ∙ members.methods.objects owner name
    methods owner false name = ap (λ m. inner_at owner name m.entries) same.6 ∙ members.methods.instances owner name

    ivars : (owner : List ℕ) (meta : Bool) (name : List ℕ) → ivar_at v owner meta name ≡ ivar_of fs owner meta name
    ivars owner true name = ap (λ m. inner_at owner name m.entries) same.9 ∙ members.ivars.objects owner name
    ivars owner false name = ap (λ m. inner_at owner name m.entries) same.8 ∙ members.ivars.instances owner name
