-- What the programs of the examples declare, computed node by node.
use Rattle.std.proofs.Common.{◌≡◌, ℕ, true, false, List, [], ◌∷◌, ◌++◌, codes, Option, Some, None, ap, sym, ◌∙◌}
use Rattle.srb_terms.specs.declared.fact.How.TheVariants as how
use Rattle.srb_terms.specs.declared.fact.Kind.TheVariants as kind
use Rattle.srb_terms.specs.declared.span.Span.{Span}
use Rattle.srb_rules.specs.FullNames.{full_name}
use Rattle.rb_tree.specs.Trees.{span_of, span_of_node, span_at}
use Rattle.rb_tree.specs.Nodes as tree
use Rattle.rb_tree.specs.declared.syntax.Argument.{Argument}
use Rattle.rb_tree.specs.declared.syntax.Argument.TheVariants as argument
use Rattle.rb_tree.specs.declared.syntax.Modifier.{Modifier}
use Rattle.rb_tree.specs.declared.syntax.Modifier.TheVariants as modifier
use Rattle.rb_tree.specs.declared.syntax.PlacedName.{PlacedName}
use Rattle.rb_tree.specs.declared.syntax.Reference.{Reference}
use Rattle.rb_tree.specs.declared.syntax.Suffix.{Suffix}
use Rattle.rb_tree.specs.declared.syntax.Suffix.TheVariants as suffix
use Rattle.rb_tree.specs.declared.syntax.Tree.{Tree}
use Rattle.rb_tree.specs.declared.syntax.Node.{Node, out-Node}
use Rattle.rb_tree.specs.declared.syntax.Node.TheOpen.{Node-F}
use Rattle.rb_tree.specs.declared.syntax.Node.TheVariants.{rolls-Body, rolls-Modified, rolls-Assign, rolls-Command, rolls-Constant, rolls-TopConstant, rolls-Post, rolls-Name, rolls-Class, rolls-Module}
use Rattle.rb_tree.specs.declared.syntax.Node.TheViews.{roll-Node, out-roll-Node}
use Rattle.rb_views.specs.Calls.{call_of, call_at, own_call, command}
use Rattle.rb_views.specs.Paths.{path_of, path_of_prefix, path_at, path_from}
use Rattle.rb_views.specs.Prefixes.{prefix_of, whole_at}
use Rattle.rb_views.specs.Targets.{callee_of, callee_at}
use Rattle.srb_declarations.specs.declared.declaration.Declaration.{Declaration}
use Rattle.srb_declarations.specs.declared.declaration.Declaration.TheVariants as declaration
use Rattle.srb_declarations.specs.Declarations.{declarations_of, program_at, statement_of, body_of, statement_by_node, body_by_node, statement_at, body_at, mixed, innermost, declared_name, with_body, with_superclass, with_call, with_path, with_mixin, with_constant, with_constant_at}
use Rattle.srb_declarations.specs.Examples.{from_to, constant, body_with, if_c, assigned, NESTED_CLASS, NESTED_MODULE, NestedDeclares, LONG_CLASS, LONG_DECLARATIONS, LongDeclares, INCLUDE, EXTEND, MIXIN_CLASS, MIXIN_DECLARATIONS, MixinsDeclare, ASSIGNED_IF, EXTEND_IF, CALL_MODULE, CALL_DECLARATIONS, CallsDeclare}
use Rattle.srb_declarations.proofs.Equations.{statement_is, body_is}

abbrev of-node : Node → Tree
of-node n = record { node = n }

out-of : (r : Node-F Node Tree) (n : Node) → roll-Node r ≡ n → out-Node n ≡ r
out-of r n e = ap out-Node (sym e) ∙ out-roll-Node r

-- ---- steps, by the kind of node

module _ (r : Node-F Node Tree) (n : Node) (e : roll-Node r ≡ n) where
  as-statement : (scope : List (List ℕ)) (ds : List Declaration) → statement_of (of-node n) scope ds ≡ statement_at (λ x. x) statement_of body_of r scope ds
  unfolding statement_by_node
  as-statement scope ds = statement_is (of-node n) scope ds ∙ ap (λ q. statement_at (λ x. x) statement_of body_of q scope ds) (out-of r n e)

  as-body : (name : List ℕ) (scope : List (List ℕ)) (ds : List Declaration) → body_of (of-node n) name scope ds ≡ body_at (λ x. x) statement_of body_of r name scope ds
  unfolding body_by_node
  as-body name scope ds = body_is (of-node n) name scope ds ∙ ap (λ q. body_at (λ x. x) statement_of body_of q name scope ds) (out-of r n e)

  as-program : declarations_of (of-node n) ≡ program_at r
  unfolding declarations_of
  as-program = ap program_at (out-of r n e)

  as-target : (scope : List (List ℕ)) (ds : List Declaration) → with_constant (of-node n) scope ds ≡ with_constant_at r scope ds
  unfolding with_constant
  as-target scope ds = ap (λ q. with_constant_at q scope ds) (out-of r n e)

  as-call : call_of (of-node n) ≡ call_at r
  unfolding call_of
  as-call = ap call_at (out-of r n e)

  as-callee : callee_of (of-node n) ≡ callee_at r
  unfolding callee_of
  as-callee = ap callee_at (out-of r n e)

  as-place : span_of (of-node n) ≡ span_at r
  unfolding span_of span_of_node
  as-place = ap span_at (out-of r n e)

  as-whole : path_of (of-node n) ≡ path_of_prefix (whole_at (of-node n) r)
  unfolding path_of prefix_of
  as-whole = ap (λ q. path_of_prefix (whole_at (of-node n) q)) (out-of r n e)

  as-operand : (ss : List (Suffix Tree)) → path_of_prefix (record { operand = of-node n; suffixes = ss }) ≡ path_at r ss
  unfolding path_of_prefix
  as-operand ss = ap (λ q. path_at q ss) (out-of r n e)

-- an assignment to a constant declares it
assigns : (words : List ℕ) (s : Span) (value : Tree) (span : Span) (scope : List (List ℕ)) (ds : List Declaration) →
    statement_of (tree.Assign (tree.Constant words s) value span) scope ds ≡ ds ++ declaration.Constant (full_name (innermost scope) words) s ∷ []
assigns words s value span scope ds =
    as-statement (Node-F.Assign (tree.Constant words s) value span) _ (rolls-Assign _ _ _) scope ds
    ∙ as-target (Node-F.Constant words s) _ (rolls-Constant _ _) scope ds

-- a command of a name declares nothing by itself, and is a call
commands-nothing : (callee : Tree) (arguments : List (Argument Tree)) (span : Span) (scope : List (List ℕ)) (ds : List Declaration) →
    statement_of (tree.Command callee arguments None span) scope ds ≡ ds
commands-nothing callee arguments span scope ds = as-statement (Node-F.Command callee arguments None span) _ (rolls-Command _ _ _ _) scope ds

commands : (words : List ℕ) (s : Span) (arguments : List (Argument Tree)) (span : Span) →
    call_of (tree.Command (tree.Name words s) arguments None span) ≡ Some (own_call words s arguments None span false)
commands words s arguments span =
    as-call (Node-F.Command (tree.Name words s) arguments None span) _ (rolls-Command _ _ _ _)
    ∙ ap (λ c. command c arguments None span) (as-callee (Node-F.Name words s) _ (rolls-Name _ _))

-- the paths and places of arguments
post-path : (words : List ℕ) (s : Span) (ss : List (Suffix Tree)) (span : Span) → path_of (tree.Post (tree.Constant words s) ss span) ≡ Some (path_from false words s s ss)
post-path words s ss span =
    as-whole (Node-F.Post (tree.Constant words s) ss span) _ (rolls-Post _ _ _)
    ∙ as-operand (Node-F.Constant words s) _ (rolls-Constant _ _) ss

top-path : (words : List ℕ) (n s : Span) → path_of (tree.TopConstant words n s) ≡ Some (path_from true words n s [])
top-path words n s =
    as-whole (Node-F.TopConstant words n s) _ (rolls-TopConstant _ _ _) ∙ as-operand (Node-F.TopConstant words n s) _ (rolls-TopConstant _ _ _) []

name-path : (words : List ℕ) (s : Span) → path_of (tree.Name words s) ≡ None
name-path words s = as-whole (Node-F.Name words s) _ (rolls-Name _ _) ∙ as-operand (Node-F.Name words s) _ (rolls-Name _ _) []

name-place : (words : List ℕ) (s : Span) → span_of (tree.Name words s) ≡ s
name-place words s = as-place (Node-F.Name words s) _ (rolls-Name _ _)

-- a class's statement is no call
class-mixes-nothing : (path : List PlacedName) (superclass : Option Reference) (body : Tree) (span : Span) (name : List ℕ) (scope : List (List ℕ)) (ds : List Declaration) →
    mixed name (tree.Class path superclass body span) scope ds ≡ ds
class-mixes-nothing path superclass body span name scope ds =
    ap (λ c. with_call name c scope ds) (as-call (Node-F.Class path superclass body span) _ (rolls-Class _ _ _ _))

assignment-mixes-nothing : (target value : Tree) (span : Span) (name : List ℕ) (scope : List (List ℕ)) (ds : List Declaration) →
    mixed name (tree.Assign target value span) scope ds ≡ ds
assignment-mixes-nothing target value span name scope ds =
    ap (λ c. with_call name c scope ds) (as-call (Node-F.Assign target value span) _ (rolls-Assign _ _ _))

modified-mixes-nothing : (statement : Tree) (m : Modifier) (condition : Tree) (span : Span) (name : List ℕ) (scope : List (List ℕ)) (ds : List Declaration) →
    mixed name (tree.Modified statement m condition span) scope ds ≡ ds
modified-mixes-nothing statement m condition span name scope ds =
    ap (λ c. with_call name c scope ds) (as-call (Node-F.Modified statement m condition span) _ (rolls-Modified _ _ _ _))

-- the program of one statement
program-of : (t : Tree) → declarations_of (body_with t) ≡ statement_of t [] []
program-of t = as-program (Node-F.Body (t ∷ []) (from_to 0 100)) _ (rolls-Body _ _)

body-of : (t : Tree) (name : List ℕ) (scope : List (List ℕ)) (ds : List Declaration) → body_of (body_with t) name scope ds ≡ statement_of t scope (mixed name t scope ds)
body-of t name scope ds = as-body (Node-F.Body (t ∷ []) (from_to 0 100)) _ (rolls-Body _ _) name scope ds

class-of : (path : List PlacedName) (superclass : Option Reference) (inner : Tree) (span : Span) (scope : List (List ℕ)) (ds : List Declaration) →
    statement_of (tree.Class path superclass inner span) scope ds
    ≡ body_of inner (declared_name scope path) (declared_name scope path ∷ scope) (with_superclass (declared_name scope path) superclass scope (with_body (declared_name scope path) kind.Class path ds))
class-of path superclass inner span scope ds = as-statement (Node-F.Class path superclass inner span) _ (rolls-Class _ _ _ _) scope ds

module-of : (path : List PlacedName) (inner : Tree) (span : Span) (scope : List (List ℕ)) (ds : List Declaration) →
    statement_of (tree.Module path inner span) scope ds
    ≡ body_of inner (declared_name scope path) (declared_name scope path ∷ scope) (with_body (declared_name scope path) kind.Module path ds)
module-of path inner span scope ds = as-statement (Node-F.Module path inner span) _ (rolls-Module _ _ _) scope ds

if-c : (t : Tree) (scope : List (List ℕ)) (ds : List Declaration) → statement_of (if_c t) scope ds ≡ statement_of t scope ds
if-c t scope ds = as-statement (Node-F.Modified t modifier.If (tree.Name (codes "c") (from_to 43 44)) (from_to 32 44)) _ (rolls-Modified _ _ _ _) scope ds

-- ---- the examples

abbrev A : List ℕ
A = codes "A"

abbrev IN_A : List (List ℕ)
IN_A = A ∷ []

abbrev B : List ℕ
B = codes "A::B"

abbrev IN_B : List (List ℕ)
IN_B = B ∷ A ∷ []

pub long : LongDeclares
long =
    program-of LONG_CLASS
    ∙ class-of _ _ (tree.Body [] (from_to 0 0)) _ [] []
    ∙ as-body (Node-F.Body [] (from_to 0 0)) _ (rolls-Body _ _) B (B ∷ []) LONG_DECLARATIONS

-- what stands before the constant
abbrev BEFORE : List Declaration
BEFORE =
    declaration.Body A kind.Module (from_to 7 8)
    ∷ declaration.Body B kind.Class (from_to 16 17)
    ∷ declaration.Superclass B IN_A ([] ∷ codes "P" ∷ []) (from_to 20 23)
    ∷ []

abbrev FIRST : List Declaration
FIRST = declaration.Body A kind.Module (from_to 7 8) ∷ []

pub nested : NestedDeclares
nested =
    program-of NESTED_MODULE
    ∙ module-of _ (body_with NESTED_CLASS) _ [] []
    ∙ body-of NESTED_CLASS A IN_A FIRST
    ∙ ap (statement_of NESTED_CLASS IN_A) (class-mixes-nothing _ _ _ _ A IN_A FIRST)
    ∙ class-of _ _ (body_with (assigned 25)) _ IN_A FIRST
    ∙ body-of (assigned 25) B IN_B BEFORE
    ∙ ap (statement_of (assigned 25) IN_B) (assignment-mixes-nothing _ _ _ B IN_B BEFORE)
    ∙ assigns (codes "X") (from_to 25 26) _ _ IN_B BEFORE

abbrev DECLARED : List Declaration
DECLARED = declaration.Body A kind.Class (from_to 6 7) ∷ []

abbrev WITH_PATH : List Declaration
WITH_PATH = DECLARED ++ declaration.Mixin A IN_A (codes "M" ∷ codes "N" ∷ []) how.Include (from_to 17 21) ∷ []

abbrev WITH_NAME : List Declaration
WITH_NAME = WITH_PATH ++ declaration.OtherMixin (from_to 23 24) ∷ []

abbrev WITH_ALL : List Declaration
WITH_ALL = WITH_NAME ++ declaration.OtherMixin (from_to 26 30) ∷ []

abbrev PATH : Tree
PATH = tree.Post (constant (codes "M") 17) (suffix.Constant (codes "N") (from_to 20 21) (from_to 18 21) ∷ []) (from_to 17 21)

abbrev M : Tree
M = tree.Name (codes "m") (from_to 23 24)

abbrev V : Tree
V = tree.Name (codes "v") (from_to 29 30)

abbrev K : Argument Tree
K = argument.Keyword (codes "k") (from_to 26 28) V

first-argument : with_mixin A how.Include (argument.Positional PATH) IN_A DECLARED ≡ WITH_PATH
first-argument = ap (λ p. with_path A how.Include (span_of PATH) p IN_A DECLARED) (post-path _ _ _ _)

second-argument : with_mixin A how.Include (argument.Positional M) IN_A WITH_PATH ≡ WITH_NAME
second-argument =
    ap (λ p. with_path A how.Include (span_of M) p IN_A WITH_PATH) (name-path _ _)
    ∙ ap (λ place. WITH_PATH ++ declaration.OtherMixin place ∷ []) (name-place _ _)

third-argument : with_mixin A how.Include K IN_A WITH_NAME ≡ WITH_ALL
third-argument = ap (λ place. WITH_NAME ++ declaration.OtherMixin (from_to 26 place.end) ∷ []) (name-place (codes "v") (from_to 29 30))

includes : mixed A INCLUDE IN_A DECLARED ≡ WITH_ALL
includes =
    ap (λ c. with_call A c IN_A DECLARED) (commands _ _ _ _)
    ∙ ap (λ ds. with_mixin A how.Include K IN_A (with_mixin A how.Include (argument.Positional M) IN_A ds)) first-argument
    ∙ ap (with_mixin A how.Include K IN_A) second-argument
    ∙ third-argument

extends : mixed A EXTEND IN_A WITH_ALL ≡ MIXIN_DECLARATIONS
extends =
    ap (λ c. with_call A c IN_A WITH_ALL) (commands _ _ _ _)
    ∙ ap (λ p. with_path A how.Extend (span_of (tree.TopConstant (codes "Q") (from_to 41 42) (from_to 39 42))) p IN_A WITH_ALL) (top-path _ _ _)

pub mixins : MixinsDeclare
mixins =
    program-of MIXIN_CLASS
    ∙ class-of _ _ (tree.Body (INCLUDE ∷ EXTEND ∷ []) (from_to 9 42)) _ [] []
    ∙ as-body (Node-F.Body (INCLUDE ∷ EXTEND ∷ []) (from_to 9 42)) _ (rolls-Body _ _) A IN_A DECLARED
    ∙ commands-nothing _ _ _ IN_A (mixed A EXTEND IN_A (statement_of INCLUDE IN_A (mixed A INCLUDE IN_A DECLARED)))
    ∙ ap (mixed A EXTEND IN_A) (commands-nothing _ _ _ IN_A (mixed A INCLUDE IN_A DECLARED) ∙ includes)
    ∙ extends

abbrev ONE : List Declaration
ONE = declaration.Constant (codes "X") (from_to 32 33) ∷ []

pub calls : CallsDeclare
calls =
    as-program (Node-F.Body (INCLUDE ∷ ASSIGNED_IF ∷ CALL_MODULE ∷ []) (from_to 0 80)) _ (rolls-Body _ _)
    ∙ ap (λ ds. statement_of CALL_MODULE [] (statement_of ASSIGNED_IF [] ds)) (commands-nothing _ _ _ [] [])
    ∙ ap (statement_of CALL_MODULE []) (if-c (assigned 32) [] [] ∙ assigns (codes "X") (from_to 32 33) _ _ [] [])
    ∙ module-of _ (body_with EXTEND_IF) _ [] ONE
    ∙ body-of EXTEND_IF A IN_A CALL_DECLARATIONS
    ∙ ap (statement_of EXTEND_IF IN_A) (modified-mixes-nothing _ _ _ _ A IN_A CALL_DECLARATIONS)
    ∙ if-c EXTEND IN_A CALL_DECLARATIONS
    ∙ commands-nothing _ _ _ IN_A CALL_DECLARATIONS
