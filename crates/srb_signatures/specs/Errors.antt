-- The errors of signatures. A `sig` statement stands directly in the body of a class or module, and the next statement must be a method
-- or an attribute of which it is a well-formed signature: anything else is an error at the `sig` statement. Where methods need signatures,
-- a method or attribute that no `sig` statement stands directly before has an error too. At the program's level `sig` is a call like any
-- other, so no method there has a signature.
use Rattle.std.specs.Prelude.{ℕ, Bool, List, [], ◌∷◌, ◌++◌, codes, if◌then◌else◌, Option, Some, None}
use Rattle.srb_terms.specs.declared.diag.Diag.{Diag}
use Rattle.rb_tree.specs.Trees.{span_of}
use Rattle.rb_tree.specs.declared.syntax.Tree.{Tree, para-Tree}
use Rattle.rb_tree.specs.declared.syntax.Node.{out-Node}
use Rattle.rb_tree.specs.declared.syntax.Node.TheOpen.{Node-F}
use Rattle.rb_rewrite.specs.Declaring.{is_sig}
use Rattle.srb_signatures.specs.Fitting.{fits}
use Rattle.srb_signatures.specs.Missing.{missing, missing_method}

-- ---- errors, after those so far. `needed` says whether methods need signatures

abbrev pub MALFORMED_SIGNATURE : ℕ
MALFORMED_SIGNATURE = 5003

abbrev pub malformed : Tree → Diag
malformed sig = record { span = span_of sig; number = MALFORMED_SIGNATURE; text = codes "malformed signature" }

-- what a part adds to the errors so far
abbrev pub Adds : Type 0
Adds = List Diag → List Diag

abbrev pub with_missing : Bool → List Diag → Adds
with_missing needed more errors = if needed then errors ++ more else errors

-- of a statement and the `sig` statement directly before it, if there is one
abbrev pub with_followed : Bool → Option Tree → Tree → Adds
with_followed needed None t errors = with_missing needed (missing t) errors
with_followed needed (Some sig) t errors = if fits sig t then errors else errors ++ malformed sig ∷ []

-- of the `sig` statement at the end of a body, which nothing follows
abbrev pub with_last : Option Tree → Adds
with_last None errors = errors
with_last (Some sig) errors = errors ++ malformed sig ∷ []

-- a statement that is a `sig` statement stands directly before the next one
abbrev pub sig_if : Tree → Option Tree
sig_if t = if is_sig t then Some t else None

-- `it` is the tree of a part, `f` what it adds as a statement, and `body` what it adds as the body of a class or module

module _ {X : Type 0} (needed : Bool) (it : X → Tree) (f body : X → Adds) where
  -- a class or module adds what its body does, any other statement nothing
  abbrev pub statement_at : {N : Type 0} → Node-F N X → Adds
  statement_at (Node-F.Class path superclass inner span) errors = body inner errors
  statement_at (Node-F.Module path inner span) errors = body inner errors
  statement_at _ errors = errors

  -- the statements of the body of a class or module, after this `sig` statement
  abbrev pub inner_statements : Option Tree → List X → Adds
  inner_statements sig [] errors = with_last sig errors
  inner_statements sig (s ∷ rest) errors = inner_statements (sig_if (it s)) rest (f s (with_followed needed sig (it s) errors))

  abbrev pub body_at : {N : Type 0} → Node-F N X → Adds
  body_at (Node-F.Body statements span) errors = inner_statements None statements errors
  body_at _ errors = errors

-- ---- trees

-- what a tree adds: as a statement, and as the body of a class or module
pub record Added : Type 0 where
  pub statement : Adds
  pub body : Adds

abbrev pub added_at : {N : Type 0} → Bool → Node-F N (Tree × Added) → Added
added_at needed n = record {
  statement = statement_at needed (λ x. x.0) (λ x. x.1.statement) (λ x. x.1.body) n;
  body = body_at needed (λ x. x.0) (λ x. x.1.statement) (λ x. x.1.body) n;
}

unfoldable pub added : Bool → Tree → Added
added needed = para-Tree Added Added (λ n. added_at needed n) (λ t. t.node.1)

abbrev pub statement_of : Bool → Tree → Adds
statement_of needed t = (added needed t).statement

abbrev pub body_of : Bool → Tree → Adds
body_of needed t = (added needed t).body

-- the same by the node of a tree
unfoldable pub statement_by_node : Bool → Tree → Adds
statement_by_node needed t errors = statement_at needed (λ x. x) (statement_of needed) (body_of needed) (out-Node t.node) errors

unfoldable pub body_by_node : Bool → Tree → Adds
body_by_node needed t errors = body_at needed (λ x. x) (statement_of needed) (body_of needed) (out-Node t.node) errors

-- the statements of the program's level, where attributes are calls like any other too
abbrev pub program_statements : Bool → List Tree → Adds
program_statements needed [] errors = errors
program_statements needed (s ∷ rest) errors =
    program_statements needed rest (statement_of needed s (with_missing needed (missing_method s) errors))

abbrev pub program_at : {X : Type 0} → Bool → Node-F X Tree → List Diag
program_at needed (Node-F.Body statements span) = program_statements needed statements []
program_at needed _ = []

-- the errors of a program's signatures
unfoldable pub signature_errors : Bool → Tree → List Diag
signature_errors needed t = program_at needed (out-Node t.node)
