-- What the summaries of a project's files decide: the lists of the facts that they declare.
use Rattle.std.specs.Prelude.{◌≡◌, ℕ, List, map}
use Rattle.srb_terms.specs.Projects.{File}
use Rattle.srb_terms.specs.declared.world.World.{World}
use Rattle.srb_rules.specs.Standing.{Stands}
use Rattle.srb_check.specs.Checks.{errors_of}
use Rattle.srb_check.specs.Symbols.{facts_of_file, project_facts}

-- the files of both projects declare the same, one after the other
abbrev pub DeclareTheSame : List File → List File → Type 0
DeclareTheSame p q = map facts_of_file p ≡ map facts_of_file q

-- such projects have the same facts
abbrev pub SummariesGiveFacts : Type 0
SummariesGiveFacts = (p q : List File) → DeclareTheSame p q → project_facts p ≡ project_facts q

-- a symbol table that stands for the facts of one stands for those of the other
abbrev pub SummariesGiveTables : Type 0
SummariesGiveTables = (p q : List File) (w : World) → DeclareTheSame p q → Stands w (project_facts p) → Stands w (project_facts q)

-- a file has the same errors in both
abbrev pub SummariesGiveErrors : Type 0
SummariesGiveErrors = (p q : List File) (bytes : List ℕ) → DeclareTheSame p q → errors_of (project_facts p) bytes ≡ errors_of (project_facts q) bytes
