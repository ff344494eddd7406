-- The errors of declarations: at which place, by which number and with which text. Names are full names.
use Rattle.std.specs.Prelude.{ℕ, List, ◌++◌, codes}
use Rattle.srb_terms.specs.declared.diag.Diag.{Diag}
use Rattle.srb_terms.specs.declared.span.Span.{Span}
use Rattle.srb_rules.specs.Conflicts.{CIRCULAR_PARENT, MIXIN_IS_NO_MODULE, NOT_INHERITABLE, OTHER_KIND, SUPERCLASS_TWICE}

-- an error at a place
abbrev pub error_at : Span → ℕ → List ℕ → Diag
error_at span number text = record { span = span; number = number; text = text }

-- c has another superclass p
abbrev pub has_superclass : Span → List ℕ → List ℕ → Diag
has_superclass span c p = error_at span SUPERCLASS_TWICE (c ++ codes " already has superclass " ++ p)

-- the name is that of a class
abbrev pub is_already_class : Span → List ℕ → Diag
is_already_class span name = error_at span OTHER_KIND (name ++ codes " is already a class")

-- the name is that of a module
abbrev pub is_already_module : Span → List ℕ → Diag
is_already_module span name = error_at span OTHER_KIND (name ++ codes " is already a module")

-- the reference from c to d is circular
abbrev pub is_circular_parent : Span → List ℕ → List ℕ → Diag
is_circular_parent span c d = error_at span CIRCULAR_PARENT (codes "circular parent " ++ d ++ codes " of " ++ c)

-- what is mixed in is no module
abbrev pub is_no_module : Span → Diag
is_no_module span = error_at span MIXIN_IS_NO_MODULE (codes "mixin is not a module")

-- d is a superclass that no class may have
abbrev pub cannot_be_inherited : Span → List ℕ → Diag
cannot_be_inherited span d = error_at span NOT_INHERITABLE (d ++ codes " cannot be inherited")
