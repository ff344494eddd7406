-- The errors of declarations, each by its number.
use Rattle.std.specs.Prelude.{ℕ, suc, Bool, false, not, ◌||◌, List, [], ◌∷◌, Option, None, Some, bytes_eq, if◌then◌else◌}
use Rattle.std.specs.Option.{option_and_then}
use Rattle.srb_terms.specs.declared.fact.Fact.{Fact}
use Rattle.srb_terms.specs.declared.fact.Fact.TheVariants.{Scope, Parent, Value}
use Rattle.srb_terms.specs.declared.fact.How.TheVariants.{Super, Include, Extend}
use Rattle.srb_terms.specs.declared.fact.Kind.TheVariants as kind
use Rattle.srb_rules.specs.FullNames.{BASIC_OBJECT}
use Rattle.srb_rules.specs.Kinds.{is_class, is_module, is_body, kind_of}
use Rattle.srb_rules.specs.Links.{is_circular}
use Rattle.srb_rules.specs.Parents.{deciding, include_link, is_inheritable, links, parent_named, super_link}

-- `C already has superclass P`
abbrev pub SUPERCLASS_TWICE : ℕ
SUPERCLASS_TWICE = 9003

-- `C is already a class`, `C is already a module`
abbrev pub OTHER_KIND : ℕ
OTHER_KIND = 9004

-- `circular parent D of C`
abbrev pub CIRCULAR_PARENT : ℕ
CIRCULAR_PARENT = 9005

-- `mixin is not a module`
abbrev pub MIXIN_IS_NO_MODULE : ℕ
MIXIN_IS_NO_MODULE = 9006

-- `D cannot be inherited`
abbrev pub NOT_INHERITABLE : ℕ
NOT_INHERITABLE = 9007

abbrev pub if_so : Bool → ℕ → Option ℕ
if_so test number = if test then Some number else None

-- whether the deciding superclass of c is another one than d
abbrev pub is_other : Option (List ℕ) → List ℕ → Bool
is_other None d = false
is_other (Some p) d = not (bytes_eq p d)

-- A superclass d of the class c: it may not be inherited, or another one decides, or the link is circular, as any is for `BasicObject`.
abbrev pub superclass_conflict : List Fact → List ℕ → List ℕ → Option ℕ
superclass_conflict fs c d =
    if not (is_inheritable (kind_of fs d) d) then Some NOT_INHERITABLE
    else (if is_other (deciding fs c) d then Some SUPERCLASS_TWICE
    else if_so (bytes_eq c BASIC_OBJECT || is_circular (links fs) (super_link c d)) CIRCULAR_PARENT)

-- a module m that c includes: it is none, or the link is circular
abbrev pub include_conflict : List Fact → List ℕ → List ℕ → Option ℕ
include_conflict fs c m =
    if not (is_module (kind_of fs m)) then Some MIXIN_IS_NO_MODULE else if_so (is_circular (links fs) (include_link c m)) CIRCULAR_PARENT

-- The error of a fact. A declaration of a class has one where its name is a module, that of a module where it is a class, and a constant
-- assignment where its name is one of both. A superclass has one only where its declaration has none, and a superclass or mixin that
-- stands for nothing has none of these.
unfoldable pub conflict_of : List Fact → Fact → Option ℕ
conflict_of fs (Scope name kind.Class) = if_so (is_module (kind_of fs name)) OTHER_KIND
conflict_of fs (Scope name kind.Module) = if_so (is_class (kind_of fs name)) OTHER_KIND
conflict_of fs (Value name scope given) = if_so (is_body (kind_of fs name)) OTHER_KIND
conflict_of fs (Parent of scope path Super) =
    if is_class (kind_of fs of) then option_and_then (superclass_conflict fs of) (parent_named fs scope path) else None
conflict_of fs (Parent of scope path Include) = option_and_then (include_conflict fs of) (parent_named fs scope path)
conflict_of fs (Parent of scope path Extend) =
    option_and_then (λ m. if_so (not (is_module (kind_of fs m))) MIXIN_IS_NO_MODULE) (parent_named fs scope path)
conflict_of fs _ = None

-- the number of a fact with its error, in front of some others
abbrev pub with_conflict : ℕ → Option ℕ → List (ℕ × ℕ) → List (ℕ × ℕ)
with_conflict number None more = more
with_conflict number (Some error) more = (number, error) ∷ more

-- the numbers of the facts that have errors, each with its error; the first fact has the number `from`
abbrev pub conflicts_from : List Fact → ℕ → List Fact → List (ℕ × ℕ)
conflicts_from fs from [] = []
conflicts_from fs from (f ∷ rest) = with_conflict from (conflict_of fs f) (conflicts_from fs (suc from) rest)

-- the errors of the facts of one file, by rising number from 0
unfoldable pub conflicts_of : List Fact → List Fact → List (ℕ × ℕ)
conflicts_of fs file = conflicts_from fs 0 file
