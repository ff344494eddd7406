-- The steps of the code make what the rules say.
use Rattle.std.proofs.Common.{◌≡◌, ℕ, Bool, true, false, not, ◌||◌, cond, filter, map, List, [], ◌∷◌, ◌++◌, bytes_eq, if◌then◌else◌, Option, Some, None, refl, sym, ap, ◌∙◌, append-nil, append_assoc}
use Rattle.std.specs.Cmp.Lexicographic.{bytes_decides, nat_list_eq_equiv}
use Rattle.std.specs.List.{list_any}
use Rattle.srb_terms.specs.NameSets.{has_name}
use Rattle.srb_terms.specs.declared.ty.Ty.{Ty}
use Rattle.srb_judgement.specs.declared.contexts.Context as kept
use Rattle.srb_judgement.specs.declared.sent.Arguments as arguments
use Rattle.srb_judgement.specs.declared.sent.Given as given
use Rattle.srb_judgement.specs.declared.states.Row as assigned
use Rattle.srb_judgement.specs.Blocks.{BlockJudged, new_names, outer_assigned, with_new, with_parameters}
use Rattle.srb_judgement.specs.Environments.{Environment, Live, Row, assigned_in, variable_type}
use Rattle.srb_judgement.specs.Kept.{hidden_or, pin_at, seen_context, sees}
use Rattle.srb_judgement.specs.Languages.{Language}
use Rattle.srb_judgement.specs.States.{State}
use Rattle.srb_judgement.specs.Steps.{added_if, hidden_after, is_outer, outer_after, parameters_after, passed, pinned_after, unless_seen, with_unseen}
use Rattle.srb_judgement.specs.Views.{seen_arguments, seen_given, seen_named, seen_row}
use Rattle.srb_judgement.proofs.SeenNames.{any-has}

-- ---- lists

added-all : {A : Type 0} (b : Bool) (so_far rest : List A) (x : A) → added_if b so_far x ++ rest ≡ so_far ++ cond b (x ∷ rest) rest
added-all true so_far rest x = append_assoc so_far (x ∷ []) rest
added-all false so_far rest x = refl

pub passed_filter : {A : Type 0} (test : A → Bool) (so_far xs : List A) → passed test so_far xs ≡ so_far ++ filter test xs
passed_filter test so_far [] = sym (append-nil so_far)
passed_filter test so_far (x ∷ xs) = passed_filter test (added_if (test x) so_far x) xs ∙ added-all (test x) so_far (filter test xs) x

-- ---- parameters

pub parameters_are : {X : Type 0} (L : Language Ty X) (names : List (List ℕ)) (types : List Ty) (e : Environment Ty) →
    parameters_after L names types e ≡ with_parameters L names types e
parameters_are L [] types e = refl
parameters_are L (name ∷ names) [] e = parameters_are L names [] (assigned_in e name L.untyped)
parameters_are L (name ∷ names) (t ∷ types) e = parameters_are L names types (assigned_in e name t)

-- ---- variables that aren't visible

unseen-step : {X : Type 0} (L : Language Ty X) (b : Bool) (ty : Ty) (name : List ℕ) (names : List (List ℕ)) (e : Environment Ty) →
    with_new L ty names (unless_seen b name ty e) ≡ with_new L ty (cond (not b) (name ∷ names) names) e
unseen-step L true ty name names e = refl
unseen-step L false ty name names e = refl

pub unseen_new : {X : Type 0} (L : Language Ty X) (x : kept.Context) (ty : Ty) (names : List (List ℕ)) (e : Environment Ty) →
    with_unseen x ty names e ≡ with_new L ty (new_names L (seen_context x) names) e
unseen_new L x ty [] e = refl
unseen_new L x ty (name ∷ names) e =
    unseen_new L x ty names (unless_seen (sees x name) name ty e)
    ∙ unseen-step L (sees x name) ty name (new_names L (seen_context x) names) e

-- ---- outer variables

-- a block that was judged, with these assignments after it
abbrev pub with_assigned : BlockJudged Ty → List (Row Ty) → BlockJudged Ty
with_assigned b rows = record { ty = b.ty; breaks = b.breaks; state = record b.state { assigned = rows } }

seen-added : (b : Bool) (so_far : List assigned.Row) (r : assigned.Row) → map seen_row (added_if b so_far r) ≡ added_if b (map seen_row so_far) (seen_row r)
seen-added true [] r = refl
seen-added true (s ∷ so_far) r = ap (λ rows. seen_row s ∷ rows) (seen-added true so_far r)
seen-added false so_far r = refl

pub outer_passed : (x : kept.Context) (parameters : List (List ℕ)) (so_far rows : List assigned.Row) →
    map seen_row (outer_after x parameters so_far rows) ≡ passed (is_outer x parameters) (map seen_row so_far) (map seen_row rows)
outer_passed x parameters so_far [] = refl
outer_passed x parameters so_far (r ∷ rows) =
    outer_passed x parameters (added_if (is_outer x parameters (seen_row r)) so_far r) rows
    ∙ ap (λ front. passed (is_outer x parameters) front (map seen_row rows)) (seen-added (is_outer x parameters (seen_row r)) so_far r)

pub outer_kept : (x : kept.Context) (parameters : List (List ℕ)) (before rows : List (Row Ty)) →
    passed (is_outer x parameters) before rows ≡ before ++ outer_assigned (seen_context x) parameters rows
outer_kept x parameters before rows = passed_filter (is_outer x parameters) before rows

-- ---- pins

hidden-step : (b c : Bool) (own : Option (Option Ty)) → hidden_or c (cond b (Some None) own) ≡ hidden_or (if b then true else c) own
hidden-step true true own = refl
hidden-step true false own = refl
hidden-step false c own = refl

pub hidden_all : (names : List (List ℕ)) (other : List ℕ) (own : Option (Option Ty)) → hidden_after names other own ≡ hidden_or (has_name other names) own
hidden_all [] other own = refl
hidden_all (name ∷ names) other own =
    hidden_all names other (cond (bytes_eq name other) (Some None) own) ∙ hidden-step (bytes_eq name other) (has_name other names) own

module _ {X : Type 0} (L : Language Ty X) (rows : List (Row Ty)) where
  pub pinned_append : (names more : List (List ℕ)) (other : List ℕ) (own : Option (Option Ty)) →
      pinned_after L rows more other (pinned_after L rows names other own) ≡ pinned_after L rows (names ++ more) other own
  pinned_append [] more other own = refl
  pinned_append (name ∷ names) more other own = pinned_append names more other (cond (bytes_eq name other) (Some (Some (variable_type L rows name))) own)

  pub pinned_all : (names : List (List ℕ)) (other : List ℕ) (own : Option (Option Ty)) →
      pinned_after L rows names other own ≡ cond (list_any (bytes_eq other) names) (Some (Some (variable_type L rows other))) own
  pinned_all [] other own = refl
  pinned_all (name ∷ names) other own =
      pinned_all names other (cond (bytes_eq name other) (Some (Some (variable_type L rows name))) own)
      ∙ by (bytes_eq name other) refl
      ∙ ap (λ b. cond (b || list_any (bytes_eq other) names) (Some (Some (variable_type L rows other))) own) (nat_list_eq_equiv.symm name other)
    where
      both : (b : Bool) (pin : Option (Option Ty)) → cond b pin pin ≡ pin
      both true pin = refl
      both false pin = refl

      by : (b : Bool) → bytes_eq name other ≡ b →
          cond (list_any (bytes_eq other) names) (Some (Some (variable_type L rows other))) (cond b (Some (Some (variable_type L rows name))) own)
          ≡ cond (b || list_any (bytes_eq other) names) (Some (Some (variable_type L rows other))) own
      by true e =
          ap (λ n. cond (list_any (bytes_eq other) names) (Some (Some (variable_type L rows other))) (Some (Some (variable_type L rows n)))) ((bytes_decides name other).0 e)
          ∙ both (list_any (bytes_eq other) names) (Some (Some (variable_type L rows other)))
      by false e = refl

  pub pinned_live : (names : List (List ℕ)) (other : List ℕ) →
      pinned_after L rows names other None ≡ pin_at L (Live rows) (has_name other names) other
  pinned_live names other = pinned_all names other None ∙ ap (λ b. cond b (Some (Some (variable_type L rows other))) None) (any-has other names) ∙ by (has_name other names)
    where
      by : (b : Bool) → cond b (Some (Some (variable_type L rows other))) None ≡ pin_at L (Live rows) b other
      by true = refl
      by false = refl

-- ---- arguments

pushed : {A B : Type 0} (f : A → B) (xs : List A) (x : A) → map f (xs ++ x ∷ []) ≡ map f xs ++ f x ∷ []
pushed f [] x = refl
pushed f (y ∷ xs) x = ap (λ rest. f y ∷ rest) (pushed f xs x)

-- arguments with one more by its place
pub value_last : (a all : arguments.Arguments) (g : given.Given) (s : State Ty) → all.positional ≡ a.positional ++ g ∷ [] → all.keys ≡ a.keys →
    seen_arguments all s ≡ record { positional = map seen_given a.positional ++ seen_given g ∷ []; keys = map seen_named a.keys; state = s }
value_last a all g s p k = λ j. record {
  positional = (ap (λ xs. map seen_given xs) p ∙ pushed seen_given a.positional g) j;
  keys = map seen_named (k j);
  state = s;
}
