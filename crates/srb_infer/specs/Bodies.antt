-- Bodies, by what the code knows of them.
use Rattle.std.specs.Prelude.{ℕ, Bool, true, false, not, map, ◌||◌, List, [], ◌∷◌, Option, Some, None}
use Rattle.std.specs.Option.{is_some}
use Rattle.srb_terms.specs.declared.diag.Diag.{Diag}
use Rattle.srb_terms.specs.declared.fact.ParamShape.{ParamShape}
use Rattle.srb_terms.specs.declared.span.Span.{Span}
use Rattle.srb_terms.specs.declared.ty.Ty.{Ty}
use Rattle.rb_tree.specs.declared.syntax.Guarded.{Guarded}
use Rattle.rb_tree.specs.declared.syntax.Parameter.{Parameter}
use Rattle.rb_tree.specs.declared.syntax.Tree.{Tree}
use Rattle.rb_tree.specs.declared.syntax.Node.{out-Node}
use Rattle.rb_tree.specs.declared.syntax.Node.TheOpen.{Node-F}
use Rattle.srb_judgement.specs.declared.signature.Typed as typed
use Rattle.srb_judgement.specs.Bodies as bodies
use Rattle.srb_judgement.specs.Guards.{guard_judged}
use Rattle.srb_judgement.specs.Judgements.{bodies_at, inner_at, part_of}
use Rattle.srb_judgement.specs.Languages.{Language, Signature}
use Rattle.srb_judgement.specs.Parts.{Part, Standing, SigStatement, DeclaringCall, PlainStatement}
use Rattle.srb_judgement.specs.Sequences.{class_body}
use Rattle.srb_judgement.specs.States.{Context, State, Run, seeing}
use Rattle.srb_judgement.specs.Views.{seen_typed}
use Rattle.srb_walk.specs.Known.{known_guarded, known_node, known_parameters}
use Rattle.srb_walk.specs.Written.{is_empty, last_of, standing_of}

abbrev pub shape : Parameter Tree → ParamShape
shape p = record { name = p.name; kind = p.kind }

-- "last expression of the body, .. or the method's name if the body is empty or the method has a `rescue` or `ensure` of its own"
abbrev pub place_if : Bool → Span → Span → Span
place_if true name last = name
place_if false name last = last

abbrev pub is_none : {A : Type 0} → List A → Bool
is_none [] = true
is_none (x ∷ xs) = false

abbrev pub result_place : Guarded Tree → Span → Span
result_place g name = place_if (not (is_none g.rescues) || is_some g.ensure || is_empty g.body) name (last_of g.body)

-- a method without types
abbrev pub no_types : Signature Ty
no_types = record { params = []; result = None }

abbrev pub or_no_types : Option (Signature Ty) → Signature Ty
or_no_types (Some s) = s
or_no_types None = no_types

abbrev pub sig_if : Standing → Tree → Option Tree
sig_if SigStatement t = Some t
sig_if DeclaringCall t = None
sig_if PlainStatement t = None

-- a statement, where it is a `sig` statement
abbrev pub sig_of : Tree → Option Tree
sig_of t = sig_if (standing_of t) t

module _ {X : Type 0} (L : Language Ty X) where
  abbrev pub with_parameters : List ℕ → List typed.Typed → List (Parameter (Part Ty X)) → Context Ty → State Ty → State Ty
  with_parameters method params row c s = bodies.with_parameters L method (record { params = map seen_typed params; result = None }) row c s

  -- what a parameter makes visible
  abbrev pub names_with : Parameter (Part Ty X) → List (List ℕ)
  names_with p = p.name ∷ bodies.declared_by L p.default

  -- the context after parameters
  abbrev pub seeing_parameters : List (Parameter (Part Ty X)) → Context Ty → Context Ty
  seeing_parameters row c = seeing (bodies.parameter_names L row) c

  -- the errors of a method in its own context, whose parameters have these types
  abbrev pub method_within : List ℕ → Span → List (Parameter Tree) → Guarded Tree → List typed.Typed → Context Ty → List Diag
  method_within name span row g params c =
      bodies.method_end L c.result (result_place g span)
      (guard_judged L (known_guarded L g) (seeing_parameters (known_parameters L row) c) (with_parameters name params (known_parameters L row) c bodies.fresh))

  -- ---- by their nodes

  -- the body of a class or module; any other tree is judged as it is elsewhere
  abbrev pub in_class_or : Run Ty → Node-F (Part Ty X) (Part Ty X) → Run Ty
  in_class_or run (Node-F.Body statements span) = class_body L statements
  in_class_or run _ = run

  unfoldable pub in_class_by_node : Tree → Run Ty
  in_class_by_node t = in_class_or (part_of L t).it.judge (known_node L (out-Node t.node))

  unfoldable pub inner_by_node : Tree → List (List ℕ) → List Diag
  inner_by_node t = inner_at L (known_node L (out-Node t.node))

  unfoldable pub bodies_by_node : Tree → Option X → List (List ℕ) → List Diag
  bodies_by_node t = bodies_at L (known_node L (out-Node t.node))
