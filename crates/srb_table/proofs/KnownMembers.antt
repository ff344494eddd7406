-- What the passes over all facts give, where the table stands for what the facts say of names.
use Rattle.std.proofs.Common.{◌≡◌, ℕ, Bool, List, cond, Option, None, ap, ◌∙◌}
use Rattle.std.specs.List.{fold}
use Rattle.srb_terms.specs.declared.fact.Fact.{Fact}
use Rattle.srb_terms.specs.declared.ty.Method as table
use Rattle.srb_terms.specs.declared.ty.Ty.{Ty}
use Rattle.srb_terms.specs.declared.world.World.{World}
use Rattle.srb_rules.specs.Standing.{Stands}
use Rattle.srb_rules.specs.Values.{is_value, last_type, value_type}
use Rattle.srb_sig.specs.Views.{View, view_at, view_of}
use Rattle.srb_sig.proofs.Views.{view-stands}
use Rattle.srb_table.specs.Members.{ivar_in, ivar_of, last_by, method_in, method_of, reads_by}
use Rattle.srb_table.specs.Steps.{facts_of, ivar_after, method_after, value_after}
use Rattle.srb_table.proofs.Known.{two-passes}
use Rattle.srb_table.proofs.MemberPasses.{ivars-told, methods-told, values-told}

module _ (w : World) (first : List Fact) (files : List (List Fact)) (stands : Stands w (facts_of first files)) where
  pub staged-methods : (meta : Bool) (owner name : List ℕ) (old mid new : Option table.Method) → old ≡ None
      → mid ≡ fold (method_after (view_at w) meta owner name) old first
      → new ≡ fold (fold (method_after (view_at w) meta owner name)) mid files
      → new ≡ method_of (facts_of first files) owner meta name
  unfolding method_of
  staged-methods meta owner name old mid new empty one two =
      two-passes (method_after (view_at w) meta owner name) None mid new first files (one ∙ ap (λ o. fold (method_after (view_at w) meta owner name) o first) empty) two
      ∙ methods-told (view_at w) meta owner name (facts_of first files)
      ∙ ap (λ (v : View). last_by (method_in v owner meta name) (facts_of first files)) (view-stands w (facts_of first files) stands)

  pub staged-ivars : (meta : Bool) (owner name : List ℕ) (old mid new : Option Ty) → old ≡ None
      → mid ≡ fold (ivar_after (view_at w) meta owner name) old first
      → new ≡ fold (fold (ivar_after (view_at w) meta owner name)) mid files
      → new ≡ ivar_of (facts_of first files) owner meta name
  unfolding ivar_of
  staged-ivars meta owner name old mid new empty one two =
      two-passes (ivar_after (view_at w) meta owner name) None mid new first files (one ∙ ap (λ o. fold (ivar_after (view_at w) meta owner name) o first) empty) two
      ∙ ivars-told (view_at w) meta owner name (facts_of first files)
      ∙ ap (λ (v : View). last_by (ivar_in v owner meta name) (facts_of first files)) (view-stands w (facts_of first files) stands)

  pub staged-values : (old mid new : List ℕ → Option Ty) → ((c : List ℕ) → old c ≡ None)
      → ((c : List ℕ) → mid c ≡ fold (value_after w c) (old c) first)
      → ((c : List ℕ) → new c ≡ fold (fold (value_after w c)) (mid c) files)
      → (c : List ℕ) → new c ≡ value_type (reads_by (view_of (facts_of first files))) (facts_of first files) c
  unfolding value_type
  staged-values old mid new empty one two c =
      two-passes (value_after w c) None (mid c) (new c) first files (one c ∙ ap (λ o. fold (value_after w c) o first) (empty c)) (two c)
      ∙ values-told w c (facts_of first files)
      ∙ (λ i. cond (is_value (stands.kinds c i)) (last_type (reads_by (view-stands w (facts_of first files) stands i)) c (facts_of first files)) None)
