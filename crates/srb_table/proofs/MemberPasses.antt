-- A pass over all facts, told fact by fact, gives for each member what its last declaration says.
use Rattle.std.proofs.Common.{◌≡◌, ℕ, Bool, true, false, ◌&&◌, List, [], ◌∷◌, bytes_eq, cond, Option, Some, None, refl, sym, ◌∙◌}
use Rattle.std.proofs.lemmas.Slice.Eq.{bytes_eq-Decides}
use Rattle.std.specs.List.{fold}
use Rattle.std.specs.Option.{option_or}
use Rattle.srb_terms.specs.Worlds.{kind_at}
use Rattle.srb_terms.specs.declared.fact.Fact.{Fact}
use Rattle.srb_terms.specs.declared.fact.Fact.TheVariants.{Scope, Parent, Value, Method, Ivar}
use Rattle.srb_terms.specs.declared.ty.Method as table
use Rattle.srb_terms.specs.declared.ty.Ty.{Ty}
use Rattle.srb_terms.specs.declared.world.World.{World}
use Rattle.srb_rules.specs.Values.{given_type, is_value, last_type}
use Rattle.srb_sig.specs.Views.{View, view_at}
use Rattle.srb_table.specs.Members.{ivar_in, last_by, method_given, method_in, reads_by, same}
use Rattle.srb_table.specs.Steps.{ivar_after, method_after, value_after}
use Rattle.srb_table.proofs.Passes.{at-nothing}

-- ---- methods and instance variables

-- what is said of one owner's member stands after what a later declaration says
over : {X : Type 0} (a b : Bool) (said : X) (old later : Option X)
    → option_or later (cond a (cond b (Some said) old) old) ≡ option_or (option_or later (cond a (cond b (Some said) None) None)) old
over a b said old (Some l) = refl
over true true said old None = refl
over true false said old None = refl
over false b said old None = refl

nothing : {X : Type 0} (old later : Option X) → option_or later old ≡ option_or (option_or later None) old
nothing old None = refl
nothing old (Some l) = refl

-- a pass in which each fact says something of a member or leaves what was said
last-from : {X : Type 0} (step : Option X → Fact → Option X) (says : Fact → Option X)
    → ((old : Option X) (f : Fact) (later : Option X) → option_or later (step old f) ≡ option_or (option_or later (says f)) old)
    → (old : Option X) (fs : List Fact) → fold step old fs ≡ option_or (last_by says fs) old
last-from step says one old [] = refl
last-from step says one old (f ∷ fs) = last-from step says one (step old f) fs ∙ one old f (last_by says fs)

module _ (v : View) (meta : Bool) (owner name : List ℕ) where
  method-one : (old : Option table.Method) (f : Fact) (later : Option table.Method)
      → option_or later (method_after v meta owner name old f) ≡ option_or (option_or later (method_in v owner meta name f)) old
  method-one old (Method of scope object called shapes sig) later =
      over (same object meta) (bytes_eq of owner && bytes_eq called name) (method_given v of scope called shapes sig) old later
  method-one old (Scope name kind) later = nothing old later
  method-one old (Parent of scope path how) later = nothing old later
  method-one old (Value name scope given) later = nothing old later
  method-one old (Ivar of scope object called given) later = nothing old later

  pub methods-told : (fs : List Fact) → fold (method_after v meta owner name) None fs ≡ last_by (method_in v owner meta name) fs
  methods-told fs =
      last-from (method_after v meta owner name) (method_in v owner meta name) method-one None fs ∙ sym (at-nothing (last_by (method_in v owner meta name) fs))

  ivar-one : (old : Option Ty) (f : Fact) (later : Option Ty)
      → option_or later (ivar_after v meta owner name old f) ≡ option_or (option_or later (ivar_in v owner meta name f)) old
  ivar-one old (Ivar of scope object called given) later =
      over (same object meta) (bytes_eq of owner && bytes_eq called name) (reads_by v scope given) old later
  ivar-one old (Scope name kind) later = nothing old later
  ivar-one old (Parent of scope path how) later = nothing old later
  ivar-one old (Value name scope given) later = nothing old later
  ivar-one old (Method of scope object called shapes sig) later = nothing old later

  pub ivars-told : (fs : List Fact) → fold (ivar_after v meta owner name) None fs ≡ last_by (ivar_in v owner meta name) fs
  ivars-told fs =
      last-from (ivar_after v meta owner name) (ivar_in v owner meta name) ivar-one None fs ∙ sym (at-nothing (last_by (ivar_in v owner meta name) fs))

-- ---- value constants

value-one : (w : World) (name c : List ℕ) (t : Ty) (old later : Option Ty)
    → cond (is_value (kind_at w c)) (option_or later (cond (bytes_eq name c) (cond (is_value (kind_at w name)) (Some t) old) old)) (cond (bytes_eq name c) (cond (is_value (kind_at w name)) (Some t) old) old)
    ≡ cond (is_value (kind_at w c)) (option_or (option_or later (cond (bytes_eq name c) (Some t) None)) old) old
value-one w name c t old later = by (bytes_eq name c) (bytes_eq-Decides name c).0
  where
    at : (v : Bool) (later : Option Ty) → cond v (option_or later (cond v (Some t) old)) (cond v (Some t) old) ≡ cond v (option_or (option_or later (Some t)) old) old
    at true None = refl
    at true (Some l) = refl
    at false later = refl

    off : (v : Bool) (later : Option Ty) → cond v (option_or later old) old ≡ cond v (option_or (option_or later None) old) old
    off true None = refl
    off true (Some l) = refl
    off false later = refl

    by : (b : Bool) → (b ≡ true → name ≡ c)
        → cond (is_value (kind_at w c)) (option_or later (cond b (cond (is_value (kind_at w name)) (Some t) old) old)) (cond b (cond (is_value (kind_at w name)) (Some t) old) old)
        ≡ cond (is_value (kind_at w c)) (option_or (option_or later (cond b (Some t) None)) old) old
    by true same =
        (λ i. cond (is_value (kind_at w c)) (option_or later (cond (is_value (kind_at w (same refl i))) (Some t) old)) (cond (is_value (kind_at w (same refl i))) (Some t) old))
        ∙ at (is_value (kind_at w c)) later
    by false same = off (is_value (kind_at w c)) later

skip : (v : Bool) (later old : Option Ty) → cond v (option_or later old) old ≡ cond v (option_or (option_or later None) old) old
skip true None old = refl
skip true (Some l) old = refl
skip false later old = refl

values-from : (w : World) (c : List ℕ) (old : Option Ty) (fs : List Fact)
    → fold (value_after w c) old fs ≡ cond (is_value (kind_at w c)) (option_or (last_type (reads_by (view_at w)) c fs) old) old
values-from w c old [] = at-end (is_value (kind_at w c))
  where
    at-end : (v : Bool) → old ≡ cond v old old
    at-end true = refl
    at-end false = refl
values-from w c old (Value name scope given ∷ fs) =
    values-from w c (cond (bytes_eq name c) (cond (is_value (kind_at w name)) (Some (given_type (reads_by (view_at w)) scope given)) old) old) fs
    ∙ value-one w name c (given_type (reads_by (view_at w)) scope given) old (last_type (reads_by (view_at w)) c fs)
values-from w c old (Scope name kind ∷ fs) = values-from w c old fs ∙ skip (is_value (kind_at w c)) (last_type (reads_by (view_at w)) c fs) old
values-from w c old (Parent of scope path how ∷ fs) = values-from w c old fs ∙ skip (is_value (kind_at w c)) (last_type (reads_by (view_at w)) c fs) old
values-from w c old (Method owner scope meta m params sig ∷ fs) = values-from w c old fs ∙ skip (is_value (kind_at w c)) (last_type (reads_by (view_at w)) c fs) old
values-from w c old (Ivar owner scope meta m given ∷ fs) = values-from w c old fs ∙ skip (is_value (kind_at w c)) (last_type (reads_by (view_at w)) c fs) old

pub values-told : (w : World) (c : List ℕ) (fs : List Fact) → fold (value_after w c) None fs ≡ cond (is_value (kind_at w c)) (last_type (reads_by (view_at w)) c fs) None
values-told w c fs = values-from w c None fs ∙ at-end (is_value (kind_at w c)) (last_type (reads_by (view_at w)) c fs)
  where
    at-end : (v : Bool) (last : Option Ty) → cond v (option_or last None) None ≡ cond v last None
    at-end true None = refl
    at-end true (Some t) = refl
    at-end false last = refl
