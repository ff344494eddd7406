-- Methods by their parts: parameters, the signature before them, and where their result stands.
use Rattle.std.proofs.Common.{◌≡◌, ℕ, Bool, true, false, not, ◌||◌, ◌+◌, ◌<◌, List, [], ◌∷◌, ◌++◌, length, drop, get_or, map, Option, Some, None, Bor, refl, ap, sym, ◌∙◌}
use Rattle.std.specs.Option.{is_some, option_copied, option_map}
use Rattle.srb_terms.specs.declared.diag.Diag.{Diag}
use Rattle.srb_terms.specs.declared.span.Span.{Span}
use Rattle.srb_terms.specs.declared.ty.Ty.{Ty}
use Rattle.rb_tree.specs.Trees.{span_of}
use Rattle.rb_tree.specs.declared.syntax.Guarded.{Guarded}
use Rattle.rb_tree.specs.declared.syntax.Parameter.{Parameter}
use Rattle.rb_tree.specs.declared.syntax.Rescue.{Rescue}
use Rattle.rb_tree.specs.declared.syntax.Tree.{Tree}
use Rattle.srb_judgement.proofs.KeptContexts.{seeing-both}
use Rattle.srb_judgement.specs.declared.signature.Typed as typed
use Rattle.srb_judgement.specs.Bodies as bodies
use Rattle.srb_judgement.specs.Environments.{Environment}
use Rattle.srb_judgement.specs.Guards.{guard_judged}
use Rattle.srb_judgement.specs.Judgements.{part_of}
use Rattle.srb_judgement.specs.Languages.{Language, Typed, Signature}
use Rattle.srb_judgement.specs.Parts.{Part}
use Rattle.srb_judgement.specs.States.{Context, State, Judged, seeing}
use Rattle.srb_judgement.specs.Views.{seen_typed, text_in}
use Rattle.srb_walk.proofs.Writing.{told_by_writing, span_told}
use Rattle.srb_walk.specs.Known.{known_guarded, known_option, known_parameter, known_parameters, known_rescues}
use Rattle.srb_walk.specs.Written.{is_empty, last_of}
use Rattle.srb_walk_control.proofs.Branching.{drop_next}
use Rattle.srb_infer.specs.Bodies.{shape, place_if, is_none, result_place, with_parameters, names_with, seeing_parameters, method_within, or_no_types}

-- whether there is a `sig` statement
pub has-some : {A B : Type 0} (f : A → B) (sig : Option (Bor A)) → is_some (option_map f (option_copied sig)) ≡ is_some sig
has-some f None = refl
has-some f (Some sig) = refl

module _ {X : Type 0} (L : Language Ty X) where
  -- ---- parameters

  -- a default value by what judging it gives
  pub default_is : (method name : List ℕ) (ty : Ty) (default : Option Tree) (value : Tree) (place : Span) (before : Environment Ty) (c : Context Ty) (s : State Ty) (j : Judged Ty) →
      default ≡ Some value → place ≡ span_of value → before ≡ s.environment → j ≡ (part_of L value).it.judge c s →
      bodies.default_left L method name ty place before j ≡ bodies.with_default L method name ty (known_option L default) c s
  default_is method name ty default value place before c s j d p b h =
      (λ i. bodies.default_left L method name ty ((p ∙ sym (span_told L value)) i) (b i) (h i))
      ∙ sym (ap (λ o. bodies.with_default L method name ty (known_option L o) c s) d)

  -- one parameter by what its parts give
  pub parameter_is : (method : List ℕ) (params : List typed.Typed) (p : Parameter Tree) (ty copy : Ty) (name : List ℕ) (c inner : Context Ty) (s at after : State Ty) →
      ty ≡ bodies.param_type L (map seen_typed params) p.name → copy ≡ ty → at ≡ bodies.has_type p.name copy s →
      name ≡ p.name → inner ≡ seeing (name ∷ []) c →
      after ≡ bodies.with_default L method p.name ty (known_option L p.default) inner at →
      after ≡ with_parameters L method params (known_parameter L p ∷ []) c s
  parameter_is method params p ty copy name c inner s at after e d a n k h =
      h ∙ (λ i. bodies.with_default L method p.name (e i) (known_option L p.default)
      ((k ∙ ap (λ m. seeing (m ∷ []) c) n) i) ((a ∙ ap (λ t. bodies.has_type p.name t s) (d ∙ e)) i))

  -- what is visible after it
  pub names_seen : (p : Parameter Tree) (name : List ℕ) (c inner after : Context Ty) →
      name ≡ p.name → inner ≡ seeing (name ∷ []) c → after ≡ seeing (bodies.declared_by L (known_option L p.default)) inner →
      after ≡ seeing (names_with L (known_parameter L p)) c
  names_seen p name c inner after n k h =
      h ∙ ap (λ x. seeing (bodies.declared_by L (known_option L p.default)) x) (k ∙ ap (λ m. seeing (m ∷ []) c) n)
      ∙ seeing-both (p.name ∷ []) (bodies.declared_by L (known_option L p.default)) c

  -- one parameter after the others
  pub judged_step : (method : List ℕ) (params : List typed.Typed) (row : List (Parameter Tree)) (i : ℕ) (p : Parameter Tree) (c d : Context Ty) (s t x : State Ty) →
      i < length row → p ≡ get_or row i p →
      t ≡ with_parameters L method params (known_parameter L p ∷ []) c s → d ≡ seeing (names_with L (known_parameter L p)) c →
      with_parameters L method params (known_parameters L (drop i row)) c s ≡ x →
      with_parameters L method params (known_parameters L (drop (i + 1) row)) d t ≡ x
  judged_step method params row i p c d s t x within is h k e =
      (λ j. with_parameters L method params (known_parameters L (drop (i + 1) row)) (k j) (h j))
      ∙ sym (ap (λ r. with_parameters L method params (known_parameters L r) c s) (drop_next row i p within is))
      ∙ e

  pub seen_step : (row : List (Parameter Tree)) (i : ℕ) (p : Parameter Tree) (c d x : Context Ty) →
      i < length row → p ≡ get_or row i p → d ≡ seeing (names_with L (known_parameter L p)) c →
      seeing_parameters L (known_parameters L (drop i row)) c ≡ x →
      seeing_parameters L (known_parameters L (drop (i + 1) row)) d ≡ x
  seen_step row i p c d x within is k e =
      ap (λ y. seeing_parameters L (known_parameters L (drop (i + 1) row)) y) k
      ∙ seeing-both (names_with L (known_parameter L p)) (bodies.parameter_names L (known_parameters L (drop (i + 1) row))) c
      ∙ sym (ap (λ r. seeing_parameters L (known_parameters L r) c) (drop_next row i p within is))
      ∙ e

  -- ---- signatures

  pub shapes_are : (row : List (Parameter Tree)) → map shape row ≡ map (bodies.shape L) (known_parameters L row)
  shapes_are [] = refl
  shapes_are (p ∷ row) = ap (λ all. shape p ∷ all) (shapes_are row)

  pub or-none : (found : Option (Signature Ty)) → or_no_types found ≡ bodies.or_no_types L found
  or-none (Some s) = refl
  or-none None = refl

  -- parameters don't ask for the result
  params-only : (method : List ℕ) (params : List (Typed Ty)) (result : Option Ty) (row : List (Parameter (Part Ty X))) (c : Context Ty) (s : State Ty) →
      bodies.with_parameters L method (record { params = params; result = None }) row c s
      ≡ bodies.with_parameters L method (record { params = params; result = result }) row c s
  params-only method params result [] c s = refl
  params-only method params result (p ∷ row) c s =
      params-only method params result row (seeing (p.name ∷ bodies.declared_by L p.default) c)
      (bodies.with_default L method p.name (bodies.param_type L params p.name) p.default (seeing (p.name ∷ []) c)
      (bodies.has_type p.name (bodies.param_type L params p.name) s))

  -- ---- where the result stands

  same-place : (b : Bool) (name last : Span) → place_if b name last ≡ bodies.whole_place L b name last
  same-place true name last = refl
  same-place false name last = refl

  place-by : (rescues : List (Rescue Tree)) (ensure : Option Tree) (a b : Bool) (name last place : Span) → a ≡ b → last ≡ place →
      place_if (not (is_none rescues) || is_some ensure || a) name last
      ≡ bodies.whole_place L (bodies.has_any L (known_rescues L rescues) || is_some (known_option L ensure) || b) name place
  place-by (r ∷ rescues) ensure a b name last place e h = refl
  place-by [] (Some t) a b name last place e h = refl
  place-by [] None a b name last place e h = (λ i. place_if (e i) name (h i)) ∙ same-place b name place

  pub place_is : (g : Guarded Tree) (name : Span) → result_place g name ≡ bodies.result_place L (known_guarded L g) name
  place_is g name =
      place-by g.rescues g.ensure (is_empty g.body) (part_of L g.body).is_empty name (last_of g.body) (part_of L g.body).last
      (sym (told_by_writing L g.body).is_empty) (sym (told_by_writing L g.body).last)

  -- ---- methods

  -- a method in its own context, by what its parts give
  pub within_is : (name : List ℕ) (span place : Span) (row : List (Parameter Tree)) (g : Guarded Tree) (params : List typed.Typed) (result : Option Ty)
      (c inner : Context Ty) (s after : State Ty) (j : Judged Ty) →
      s ≡ bodies.fresh → after ≡ with_parameters L name params (known_parameters L row) c s →
      inner ≡ seeing_parameters L (known_parameters L row) c → j ≡ guard_judged L (known_guarded L g) inner after →
      place ≡ result_place g span → result ≡ c.result →
      bodies.method_end L result place j ≡ method_within L name span row g params c
  within_is name span place row g params result c inner s after j f b k h p r =
      (λ i. bodies.method_end L (r i) (p i) (h i))
      ∙ (λ i. bodies.method_end L c.result (result_place g span)
      (guard_judged L (known_guarded L g) (k i) ((b ∙ ap (λ x. with_parameters L name params (known_parameters L row) c x) f) i)))

  -- a method with a signature
  pub method_is : (own : Bool) (name : List ℕ) (span : Span) (row : List (Parameter Tree)) (g : Guarded Tree) (scope around : List (List ℕ))
      (params given : List typed.Typed) (result : Option Ty) (c : Context Ty) →
      c ≡ bodies.method_context L own around result → around ≡ scope → given ≡ params →
      method_within L name span row g given c
      ≡ bodies.method_body L own name span (known_parameters L row) (known_guarded L g) scope (record { params = map seen_typed params; result = result })
  method_is own name span row g scope around params given result c h k e =
      (λ i. method_within L name span row g (e i) ((h ∙ ap (λ s. bodies.method_context L own s result) k) i))
      ∙ (λ i. bodies.method_end L result (place_is g span i)
      (guard_judged L (known_guarded L g) (seeing_parameters L (known_parameters L row) (bodies.method_context L own scope result))
      (params-only name (map seen_typed params) result (known_parameters L row) (bodies.method_context L own scope result) bodies.fresh i)))

  -- a method, by the errors of its signature and those of its body
  pub errors_are : (own : Bool) (name : List ℕ) (span : Span) (row : List (Parameter Tree)) (g : Guarded Tree) (scope : List (List ℕ))
      (sig : Option (Bor Tree)) (has : Bool) (first more all : List Diag) (signature : Signature Ty) →
      has ≡ is_some sig → first ≡ bodies.sig_missing has name span →
      signature ≡ bodies.signature_by L (option_map (text_in L) (option_copied sig)) scope (known_parameters L row) →
      more ≡ bodies.method_body L own name span (known_parameters L row) (known_guarded L g) scope signature →
      all ≡ first ++ more →
      all ≡ bodies.method_errors L own name span (known_parameters L row) (known_guarded L g) (option_map (text_in L) (option_copied sig)) scope
  errors_are own name span row g scope sig has first more all signature h f k m a =
      a ∙ (λ i. f i ++ m i)
      ∙ (λ i. bodies.sig_missing ((h ∙ sym (has-some (text_in L) sig)) i) name span
      ++ bodies.method_body L own name span (known_parameters L row) (known_guarded L g) scope (k i))
