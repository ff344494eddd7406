-- Methods without signatures: their errors, each at the method's name or the attribute's symbol.
use Rattle.std.specs.Prelude.{ℕ, List, [], ◌∷◌, ◌++◌, codes, Option, Some, None}
use Rattle.std.specs.List.{flat_map}
use Rattle.srb_terms.specs.declared.diag.Diag.{Diag}
use Rattle.srb_terms.specs.declared.span.Span.{Span}
use Rattle.rb_tree.specs.declared.syntax.Argument.{Argument}
use Rattle.rb_tree.specs.declared.syntax.Argument.TheVariants as argument
use Rattle.rb_tree.specs.declared.syntax.Tree.{Tree}
use Rattle.rb_tree.specs.declared.syntax.Node.{out-Node}
use Rattle.rb_tree.specs.declared.syntax.Node.TheOpen.{Node-F}
use Rattle.rb_rewrite.specs.Declaring.{AttributeCall, attribute_of}
use Rattle.rb_rewrite.specs.declared.declaring.Attribute.{Attribute}
use Rattle.rb_rewrite.specs.declared.declaring.Attribute.TheVariants.{Reader, Writer, Accessor}

abbrev pub NO_SIGNATURE : ℕ
NO_SIGNATURE = 7017

abbrev pub text_of : List ℕ → List ℕ
text_of name = codes "method " ++ name ++ codes " has no sig"

-- the error of a method of this name, which stands at this place
abbrev pub no_signature : List ℕ → Span → Diag
no_signature name span = record { span = span; number = NO_SIGNATURE; text = text_of name }

abbrev pub named : List ℕ → Span → List Diag
named name span = no_signature name span ∷ []

-- the name of the writer of an attribute
abbrev pub writer_name : List ℕ → List ℕ
writer_name name = name ++ codes "="

-- the methods that an attribute of this kind and name stands for: an accessor has a reader and a writer
abbrev pub missing_name : Attribute → List ℕ → Span → List Diag
missing_name Reader name span = named name span
missing_name Writer name span = named (writer_name name) span
missing_name Accessor name span = named name span ++ named (writer_name name) span

abbrev pub missing_symbol_at : {X Y : Type 0} → Attribute → Node-F X Y → List Diag
missing_symbol_at kind (Node-F.Symbol words span) = missing_name kind words span
missing_symbol_at kind _ = []

-- what isn't a symbol declares no method
unfoldable pub missing_symbol : Attribute → Tree → List Diag
missing_symbol kind t = missing_symbol_at kind (out-Node t.node)

abbrev pub missing_argument : Attribute → Argument Tree → List Diag
missing_argument kind (argument.Positional value) = missing_symbol kind value
missing_argument kind _ = []

-- each symbol of an attribute statement
abbrev pub missing_attributes : Attribute → List (Argument Tree) → List Diag
missing_attributes kind arguments = flat_map (missing_argument kind) arguments

abbrev pub missing_method_at : {X Y : Type 0} → Node-F X Y → List Diag
missing_method_at (Node-F.Def visibility own name name_span parameters guarded span) = named name name_span
missing_method_at _ = []

-- a method's own error; any other statement has none
unfoldable pub missing_method : Tree → List Diag
missing_method t = missing_method_at (out-Node t.node)

abbrev pub missing_by : Tree → Option AttributeCall → List Diag
missing_by t None = missing_method t
missing_by t (Some a) = missing_attributes a.kind a.arguments

-- the errors of a statement of a class or module body that no `sig` statement stands directly before
abbrev pub missing : Tree → List Diag
missing t = missing_by t (attribute_of t)
