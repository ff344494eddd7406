-- Bodies: which are judged, in which context, and the errors that come from them. "A body is the program, a class or module body, or a
-- method; `Decl` inside it is another body."
use Rattle.std.specs.Prelude.{ℕ, Bool, true, false, ◌||◌, List, [], ◌∷◌, ◌++◌, map, bytes_eq, Option, Some, None}
use Rattle.std.specs.Option.{is_some}
use Rattle.srb_terms.specs.Worlds as worlds
use Rattle.srb_terms.specs.declared.diag.Diag.{Diag}
use Rattle.srb_terms.specs.declared.fact.ParamShape.{ParamShape}
use Rattle.srb_terms.specs.declared.span.Span.{Span}
use Rattle.rb_tree.specs.declared.syntax.Guarded.{Guarded}
use Rattle.rb_tree.specs.declared.syntax.Parameter.{Parameter}
use Rattle.rb_tree.specs.declared.syntax.PlacedName.{PlacedName}
use Rattle.srb_rules.specs.FullNames.{full_name, OBJECT}
use Rattle.srb_judgement.specs.Environments.{Environment, Live, joined, is_live}
use Rattle.srb_judgement.specs.Environments as environments
use Rattle.srb_judgement.specs.Errors.{has_no_sig, wrong_default}
use Rattle.srb_judgement.specs.Guards.{guard_judged}
use Rattle.srb_judgement.specs.Jumps.{checked_result}
use Rattle.srb_judgement.specs.Languages.{Language, Typed, Signature}
use Rattle.srb_judgement.specs.Parts.{Part, Standing, SigStatement, DeclaringCall, PlainStatement}
use Rattle.srb_judgement.specs.States.{Context, State, Judged, moved, seeing, unless_error}

-- ---- names

-- the class or module whose body is around; a `def` at top level belongs to `Object`
abbrev pub owner_of : List (List ℕ) → List ℕ
owner_of [] = OBJECT
owner_of (name ∷ scope) = name

abbrev pub innermost : List (List ℕ) → Option (List ℕ)
innermost [] = None
innermost (name ∷ scope) = Some name

abbrev pub joined_after : List ℕ → List PlacedName → List ℕ
joined_after so_far [] = so_far
joined_after so_far (n ∷ names) = joined_after (worlds.joined so_far n.name) names

-- the names of a path joined by `::`
abbrev pub path_name : List PlacedName → List ℕ
path_name [] = []
path_name (n ∷ names) = joined_after n.name names

-- "`class X` in scope `S` declares `S::X`."
abbrev pub declared_name : List (List ℕ) → List PlacedName → List ℕ
declared_name scope path = full_name (innermost scope) (path_name path)

-- the error of a method, by whether a `sig` stands before it
abbrev pub sig_missing : Bool → List ℕ → Span → List Diag
sig_missing false name span = has_no_sig span name ∷ []
sig_missing true name span = []

abbrev pub has_type : {T : Type 0} → List ℕ → T → State T → State T
has_type name ty s = moved (environments.assigned_in s.environment name ty) s

-- ---- where a body begins

-- a context in which nothing is pinned and nothing visible
abbrev pub bare_context : {T : Type 0} → T → List (List ℕ) → List ℕ → Bool → Option T → Context T
bare_context self_type scope owner meta result = record {
  self_type = self_type;
  scope = scope;
  owner = owner;
  meta = meta;
  result = result;
  inside = false;
  looping = false;
  pins = λ name. None;
  visible = λ name. false;
}

abbrev pub fresh : {T : Type 0} → State T
fresh = record { environment = Live []; breaks = []; nexts = []; assigned = []; errors = [] }

module _ {T X : Type 0} (L : Language T X) where
  -- ---- contexts

  -- the program: `self` is an instance of `Object`, and so are instance variables
  abbrev pub program_context : Context T
  program_context = record {
    self_type = L.instance OBJECT;
    scope = [];
    owner = OBJECT;
    meta = false;
    result = None;
    inside = false;
    looping = false;
    pins = λ name. None;
    visible = λ name. false;
  }

  -- the body of a class or module: `self` is its class object
  abbrev pub class_context : List ℕ → List (List ℕ) → Context T
  class_context name scope = record program_context {
    self_type = L.class_object name;
    scope = scope;
    owner = name;
    meta = true;
  }

  -- "the owner in a method, `T.class_of` the owner in `def self.`"
  abbrev pub own_self : Bool → List ℕ → T
  own_self true owner = L.class_object owner
  own_self false owner = L.instance owner

  abbrev pub method_context : Bool → List (List ℕ) → Option T → Context T
  method_context own scope result = record program_context {
    self_type = own_self own (owner_of scope);
    scope = scope;
    owner = owner_of scope;
    meta = own;
    result = result;
  }

  -- ---- signatures: "A body is judged with its own signature."

  -- a method without types: its parameters are `T.untyped`, and its result isn't checked
  abbrev pub no_types : Signature T
  no_types = record { params = []; result = None }

  abbrev pub or_no_types : Option (Signature T) → Signature T
  or_no_types (Some s) = s
  or_no_types None = no_types

  abbrev pub shape : {P : Type 0} → Parameter P → ParamShape
  shape p = record { name = p.name; kind = p.kind }

  -- the signature of the `sig` statement before a method, which a malformed one leaves without types
  abbrev pub signature_by : Option X → List (List ℕ) → List (Parameter (Part T X)) → Signature T
  signature_by None scope parameters = no_types
  signature_by (Some sig) scope parameters = or_no_types (L.signature scope sig (map shape parameters))

  -- 7017: a method without a `sig`; "7017 isn't reported" where one is malformed
  abbrev pub sig_errors : Option X → List ℕ → Span → List Diag
  sig_errors sig name span = sig_missing (is_some sig) name span

  abbrev pub this_or : Bool → T → T → T
  this_or true found rest = found
  this_or false found rest = rest

  abbrev pub param_type : List (Typed T) → List ℕ → T
  param_type [] name = L.untyped
  param_type (p ∷ params) name = this_or (bytes_eq p.name name) p.ty (param_type params name)

  -- ---- parameters

  -- a default value "must be a subtype of its parameter, else 7002 with the method's name"; "After a default value the environment is the
  -- join of those before and after it."
  abbrev pub default_left : List ℕ → List ℕ → T → Span → Environment T → Judged T → State T
  default_left method name ty span before j =
      unless_error (L.is_sub j.ty ty) (wrong_default L span name method ty j.ty) (moved (joined L before j.state.environment) j.state)

  abbrev pub after_default : List ℕ → List ℕ → T → Span → State T → Judged T → State T
  after_default method name ty span before j = default_left method name ty span before.environment j

  abbrev pub with_default : List ℕ → List ℕ → T → Option (Part T X) → Context T → State T → State T
  with_default method name ty None c s = s
  with_default method name ty (Some d) c s = after_default method name ty d.it.span s (d.it.judge c s)

  abbrev pub declared_by : Option (Part T X) → List (List ℕ)
  declared_by None = []
  declared_by (Some d) = d.it.declares

  abbrev pub parameter_names : List (Parameter (Part T X)) → List (List ℕ)
  parameter_names [] = []
  parameter_names (p ∷ parameters) = p.name ∷ (declared_by p.default ++ parameter_names parameters)

  -- "A default value is judged in order of the parameters"
  abbrev pub with_parameters : List ℕ → Signature T → List (Parameter (Part T X)) → Context T → State T → State T
  with_parameters method sig [] c s = s
  with_parameters method sig (p ∷ parameters) c s =
      with_parameters method sig parameters (seeing (p.name ∷ declared_by p.default) c)
      (with_default method p.name (param_type sig.params p.name) p.default (seeing (p.name ∷ []) c)
      (has_type p.name (param_type sig.params p.name) s))

  -- ---- methods

  abbrev pub has_any : {P : Type 0} → List P → Bool
  has_any [] = false
  has_any (p ∷ rest) = true

  abbrev pub whole_place : Bool → Span → Span → Span
  whole_place true name last = name
  whole_place false name last = last

  -- "last expression of the body, .. or the method's name if the body is empty or the method has a `rescue` or `ensure` of its own"
  abbrev pub result_place : Guarded (Part T X) → Span → Span
  result_place g name = whole_place (has_any g.rescues || is_some g.ensure || g.body.is_empty) name g.body.last

  abbrev pub last_checked : Bool → Option T → Span → Judged T → List Diag
  last_checked true result place j = (checked_result L result place j.ty j.state).errors
  last_checked false result place j = j.state.errors

  -- "The last type of a live method body is checked against the result of its signature (7005), unless it is `void` or `abstract`."
  abbrev pub method_end : Option T → Span → Judged T → List Diag
  method_end result place j = last_checked (is_live j.state.environment) result place j

  abbrev pub method_body : Bool → List ℕ → Span → List (Parameter (Part T X)) → Guarded (Part T X) → List (List ℕ) → Signature T → List Diag
  method_body own name span parameters g scope sig =
      method_end sig.result (result_place g span)
      (guard_judged L g (seeing (parameter_names parameters) (method_context own scope sig.result))
      (with_parameters name sig parameters (method_context own scope sig.result) fresh))

  -- the errors of a method
  abbrev pub method_errors : Bool → List ℕ → Span → List (Parameter (Part T X)) → Guarded (Part T X) → Option X → List (List ℕ) → List Diag
  method_errors own name span parameters g sig scope =
      sig_errors sig name span ++ method_body own name span parameters g scope (signature_by sig scope parameters)

  -- ---- classes, modules and the program

  -- the errors of a class or module: those of its body, and of the bodies that stand in it
  abbrev pub class_errors : List PlacedName → Part T X → List (List ℕ) → List Diag
  class_errors path body scope =
      (body.in_class (class_context (declared_name scope path) (declared_name scope path ∷ scope)) fresh).state.errors
      ++ body.inner (declared_name scope path ∷ scope)

  -- the bodies that the statements of the program declare: `sig` is a call there
  abbrev pub program_bodies : List (Part T X) → List (List ℕ) → List Diag
  program_bodies [] scope = []
  program_bodies (p ∷ statements) scope = p.bodies None scope ++ program_bodies statements scope

  -- the `sig` statement that stands before the next statement
  abbrev pub sig_before : Standing → X → Option X
  sig_before SigStatement text = Some text
  sig_before DeclaringCall text = None
  sig_before PlainStatement text = None

  -- the bodies that the statements of a class or module declare, each by the statement before it
  abbrev pub inner_bodies : Option X → List (Part T X) → List (List ℕ) → List Diag
  inner_bodies sig [] scope = []
  inner_bodies sig (p ∷ statements) scope =
      p.bodies sig scope ++ inner_bodies (sig_before p.standing p.it.text) statements scope

  -- the errors of the judgement of a program
  abbrev pub program_errors : Part T X → List Diag
  program_errors p = (p.it.judge program_context fresh).state.errors ++ p.bodies None []
