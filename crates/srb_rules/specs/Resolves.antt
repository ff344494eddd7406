-- The linearization of a class or module of a project, and the name for which a constant stands.
use Rattle.std.specs.Prelude.{ℕ, List, [], Option, None, Some, if◌then◌else◌}
use Rattle.std.specs.Option.{unwrap_or}
use Rattle.srb_terms.specs.declared.fact.Fact.{Fact}
use Rattle.srb_rules.specs.declared.position.Position.{Position}
use Rattle.srb_rules.specs.declared.position.Position.TheVariants as position
use Rattle.srb_rules.specs.Kinds.{is_body, kind_of, within_of}
use Rattle.srb_rules.specs.Links.{counted}
use Rattle.srb_rules.specs.Lin.{lin_of}
use Rattle.srb_rules.specs.Lookup.{looked_up}
use Rattle.srb_rules.specs.Parents.{alone_by, links}

-- a class or module and its ancestors, by the links that are not circular
unfoldable pub lin_in : List Fact → List ℕ → Option (List (List ℕ))
lin_in fs c = if is_body (kind_of fs c) then Some (lin_of (counted (links fs)) c) else None

-- The ancestors that a constant is looked up in. As a superclass or a mixin it is looked up without ancestors.
abbrev pub ancestors : List Fact → Position → List ℕ → List (List ℕ)
ancestors fs position.Value c = unwrap_or (lin_in fs c) []
ancestors fs position.Parent c = alone_by (kind_of fs) c

-- the name for which the path stands in the scope, if it stands for any
unfoldable pub resolves : List Fact → List (List ℕ) → List (List ℕ) → Position → Option (List ℕ)
resolves fs scope path position = looked_up (within_of fs) (ancestors fs position) scope path
