-- References to constants: a constant with the constants that follow it by `::`.
use Rattle.std.specs.Prelude.{ℕ, Bool, true, false, List, [], ◌∷◌, bytes_eq, if◌then◌else◌, Option, Some, None}
use Rattle.srb_terms.specs.declared.span.Span.{Span}
use Rattle.rb_tree.specs.declared.syntax.PlacedName.{PlacedName}
use Rattle.rb_tree.specs.declared.syntax.Reference.{Reference}
use Rattle.rb_tree.specs.declared.syntax.Suffix.{Suffix}
use Rattle.rb_tree.specs.declared.syntax.Suffix.TheVariants as suffix
use Rattle.rb_tree.specs.declared.syntax.Tree.{Tree}
use Rattle.rb_tree.specs.declared.syntax.Node.{out-Node}
use Rattle.rb_tree.specs.declared.syntax.Node.TheOpen.{Node-F}
use Rattle.rb_views.specs.Places.{names_span}
use Rattle.rb_views.specs.Prefixes.{Prefix, prefix_of}
use Rattle.rb_views.specs.declared.path.Path as lent
use Rattle.rb_views.specs.declared.path.PathNames.{PathNames}
use Rattle.rb_views.specs.declared.path.PathNames.TheVariants as names

-- a path of constants
pub record Path : Type 0 where
  -- whether `::` stands in front
  pub top : Bool
  -- the names in order, with their places
  pub names : List PlacedName
  -- from the `::` in front, or the first name, to the end of the last
  pub span : Span
  -- the suffixes after the path
  pub rest : List (Suffix Tree)

-- ---- rows of suffixes

-- the constants with which a row of suffixes begins
abbrev pub constants_of : {X : Type 0} → List (Suffix X) → List PlacedName
constants_of (suffix.Constant name name_span span ∷ rest) = record { name = name; span = name_span } ∷ constants_of rest
constants_of _ = []

-- what a row of suffixes has after the constants with which it begins
abbrev pub after_constants : {X : Type 0} → List (Suffix X) → List (Suffix X)
after_constants (suffix.Constant name name_span span ∷ rest) = after_constants rest
after_constants suffixes = suffixes

-- a place that goes on to the end of those constants
abbrev pub up_to_constants : {X : Type 0} → Span → List (Suffix X) → Span
up_to_constants whole (suffix.Constant name name_span span ∷ rest) =
    up_to_constants (record { start = whole.start; end = span.end }) rest
up_to_constants whole _ = whole

-- ---- the path of a tree

-- the path that begins with this constant at this place and goes on in the suffixes
abbrev pub path_from : Bool → List ℕ → Span → Span → List (Suffix Tree) → Path
path_from top name name_span span suffixes = record {
  top = top;
  names = record { name = name; span = name_span } ∷ constants_of suffixes;
  span = up_to_constants span suffixes;
  rest = after_constants suffixes;
}

abbrev pub path_at : {X Y : Type 0} → Node-F X Y → List (Suffix Tree) → Option Path
path_at (Node-F.Constant name span) suffixes = Some (path_from false name span span suffixes)
path_at (Node-F.TopConstant name name_span span) suffixes = Some (path_from true name name_span span suffixes)
path_at _ suffixes = None

-- the longest path with which a prefix begins; None where it begins with no constant
unfoldable pub path_of_prefix : Prefix → Option Path
path_of_prefix p = path_at (out-Node p.operand.node) p.suffixes

-- the longest path with which a tree begins
unfoldable pub path_of : Tree → Option Path
path_of t = path_of_prefix (prefix_of t)

-- the path of a superclass
abbrev pub path_of_reference : Reference → Path
path_of_reference r = record { top = r.top; names = r.path; span = r.span; rest = [] }

-- the path that a class or module declares
abbrev pub path_of_names : List PlacedName → Path
path_of_names ns = record { top = false; names = ns; span = names_span ns; rest = [] }

-- ---- what a lent path is

abbrev pub seen_names : PathNames → List PlacedName
seen_names (names.Written name span suffixes) = record { name = name.now; span = span } ∷ constants_of suffixes.now
seen_names (names.Following suffixes) = constants_of suffixes.now
seen_names (names.Placed placed) = placed.now

abbrev pub seen_path : lent.Path → Path
seen_path p = record { top = p.top; names = seen_names p.names; span = p.span; rest = p.rest.now }

-- ---- spelling

-- whether these are the names, in order
abbrev pub spelled : List PlacedName → List (List ℕ) → Bool
spelled [] [] = true
spelled [] (word ∷ words) = false
spelled (n ∷ ns) [] = false
spelled (n ∷ ns) (word ∷ words) = if bytes_eq n.name word then spelled ns words else false
