-- Statements of a class or module body that declare by a call: `sig`, `attr_reader` and its kin. Such a call is on `self` without saying
-- so, and is the whole statement: it has no modifier, and none but that of `sig` has a block.
use Rattle.std.specs.Prelude.{ℕ, Bool, true, false, ◌&&◌, List, codes, bytes_eq, if◌then◌else◌, Option, Some, None, option_map}
use Rattle.rb_tree.specs.declared.syntax.Argument.{Argument}
use Rattle.rb_tree.specs.declared.syntax.Tree.{Tree}
use Rattle.rb_views.specs.Calls.{Call, call_of}
use Rattle.rb_rewrite.specs.declared.declaring.Attribute.{Attribute}
use Rattle.rb_rewrite.specs.declared.declaring.Attribute.TheVariants.{Reader, Writer, Accessor}
use Rattle.rb_rewrite.specs.declared.declaring.AttributeCall as lent

-- whether something is missing
abbrev pub is_missing : {A : Type 0} → Option A → Bool
is_missing None = true
is_missing (Some x) = false

-- ---- `sig`

abbrev pub is_sig_call : Option Call → Bool
is_sig_call None = false
is_sig_call (Some c) = is_missing c.receiver && bytes_eq c.name (codes "sig")

-- whether a statement is a `sig` statement
unfoldable pub is_sig : Tree → Bool
is_sig t = is_sig_call (call_of t)

-- ---- attributes

-- the kind of attribute that a method declares
abbrev pub attribute_named : List ℕ → Option Attribute
attribute_named name =
    if bytes_eq name (codes "attr_reader") then Some Reader
    else (if bytes_eq name (codes "attr_writer") then Some Writer
    else (if bytes_eq name (codes "attr_accessor") then Some Accessor else None))

-- an attribute statement: the kind, and the arguments
pub record AttributeCall : Type 0 where
  pub kind : Attribute
  pub arguments : List (Argument Tree)

abbrev pub with_arguments : List (Argument Tree) → Attribute → AttributeCall
with_arguments arguments kind = record { kind = kind; arguments = arguments }

abbrev pub attribute_call : Option Call → Option AttributeCall
attribute_call None = None
attribute_call (Some c) =
    if is_missing c.receiver && is_missing c.block then option_map (with_arguments c.arguments) (attribute_named c.name) else None

-- the attribute statement that a statement is; None for any other
unfoldable pub attribute_of : Tree → Option AttributeCall
attribute_of t = attribute_call (call_of t)

-- what a lent attribute statement is
abbrev pub seen_attribute : lent.AttributeCall → AttributeCall
seen_attribute a = record { kind = a.kind; arguments = a.arguments.now }
