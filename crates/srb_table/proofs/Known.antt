-- What the passes over all facts give, where the table knows the names.
use Rattle.std.proofs.Common.{◌≡◌, ℕ, Bool, true, false, not, ◌&&◌, List, [], ◌∷◌, bytes_eq, cond, Option, Some, None, is_some, unwrap_or, refl, sym, ap, ◌∙◌}
use Rattle.std.specs.List.{filter_map, fold}
use Rattle.std.specs.Map.{lookup, lookup_key}
use Rattle.std.proofs.lemmas.Slice.Eq.{bytes_eq-Decides}
use Rattle.srb_rules.specs.Lin.{lin_of}
use Rattle.srb_rules.specs.Links.{counted}
use Rattle.srb_rules.specs.Resolves.{lin_in}
use Rattle.srb_terms.specs.Worlds.{has_colon, inner_at, joined, kind_at, own_name, within_at}
use Rattle.srb_terms.specs.declared.fact.Fact.{Fact}
use Rattle.srb_terms.specs.declared.fact.Kind.{Kind}
use Rattle.srb_terms.specs.declared.fact.Kind.TheVariants as kind
use Rattle.srb_terms.specs.declared.world.World.{World}
use Rattle.srb_rules.specs.declared.link.Link.{Link}
use Rattle.srb_rules.specs.FullNames.{BASIC_OBJECT}
use Rattle.srb_rules.specs.Kinds.{is_body, is_class, kind_of, within_of}
use Rattle.srb_rules.specs.Lookup.{looked_up}
use Rattle.srb_rules.specs.Parents.{Reference, alone_by, deciding, extended_in, extended_of, inherited, inherited_by, links, mixed_by, mixed_in, parent_named, superclass_by, superclass_of, link_in}
use Rattle.srb_table.specs.Names.{KnowsNames}
use Rattle.srb_table.specs.Steps.{deciding_after, entry_after, extended_after, extended_entry, facts_of, inherited_at, inner_after, kind_after, lin_entry, links_after, mixed_at, parent_at, super_entry}
use Rattle.srb_table.proofs.Passes.{by_files, deciding-told, entries-told, extended-told, inner-told, kinds-told, links-told}

-- a pass over the first file and then over the others
pub two-passes : {X : Type 0} (step : X → Fact → X) (old mid new : X) (first : List Fact) (files : List (List Fact))
    → mid ≡ fold step old first → new ≡ fold (fold step) mid files → new ≡ fold step old (facts_of first files)
two-passes step old mid new first files one two =
    two ∙ ap (λ m. fold (fold step) m files) one ∙ by_files step old (first ∷ files)

module _ (first : List Fact) (files : List (List Fact)) where
  pub staged-kinds : (old mid new : List ℕ → Option Kind) → ((c : List ℕ) → old c ≡ None)
      → ((c : List ℕ) → mid c ≡ fold (kind_after c) (old c) first) → ((c : List ℕ) → new c ≡ fold (fold (kind_after c)) (mid c) files)
      → (c : List ℕ) → new c ≡ kind_of (facts_of first files) c
  staged-kinds old mid new empty one two c =
      two-passes (kind_after c) None (mid c) (new c) first files (one c ∙ ap (λ o. fold (kind_after c) o first) (empty c)) (two c)
      ∙ kinds-told c (facts_of first files)

  pub staged-inner : (old mid new : List ℕ → List ℕ → Option (List ℕ)) → ((s l : List ℕ) → old s l ≡ None)
      → ((s l : List ℕ) → has_colon l ≡ false → mid s l ≡ fold (inner_after (joined s l)) (old s l) first)
      → ((s l : List ℕ) → has_colon l ≡ false → new s l ≡ fold (fold (inner_after (joined s l))) (mid s l) files)
      → (s l : List ℕ) → has_colon l ≡ false → new s l ≡ cond (is_some (kind_of (facts_of first files) (joined s l))) (Some (joined s l)) None
  staged-inner old mid new empty one two s l none =
      two-passes (inner_after (joined s l)) None (mid s l) (new s l) first files (one s l none ∙ ap (λ o. fold (inner_after (joined s l)) o first) (empty s l)) (two s l none)
      ∙ inner-told (joined s l) (facts_of first files)

parents-known : (w : World) (fs : List Fact) → KnowsNames w fs → parent_at w ≡ parent_named fs
parents-known w fs known = λ i scope path. looked_up (λ s l. known.names s l i) (alone_by (λ c. known.kinds c i)) scope path

inherited-known : (w : World) (fs : List Fact) → KnowsNames w fs → inherited_at w ≡ inherited fs
unfolding inherited
inherited-known w fs known = λ i. inherited_by (λ c. known.kinds c i) (parents-known w fs known i)

mixed-known : (w : World) (fs : List Fact) → KnowsNames w fs → mixed_at w ≡ mixed_in fs
unfolding mixed_in
mixed-known w fs known = λ i. mixed_by (λ c. known.kinds c i) (parents-known w fs known i)

no-class : (k : Option Kind) → is_body k ≡ false → is_class k ≡ false
no-class None h = refl
no-class (Some kind.Class) h = absurd (Rattle.std.proofs.lemmas.Bool.true≢false h)
no-class (Some kind.Module) h = refl
no-class (Some kind.Value) h = refl

no-superclass : (k : Option Kind) (decides : Option (List ℕ)) (c : List ℕ) → is_body k ≡ false → superclass_by k decides c ≡ None
no-superclass k decides c h = ap (λ t. cond (t && not (bytes_eq c BASIC_OBJECT)) (Some (unwrap_or decides Rattle.srb_rules.specs.FullNames.OBJECT)) None) (no-class k h)

module _ (w : World) (first : List Fact) (files : List (List Fact)) (known : KnowsNames w (facts_of first files)) where
  pub staged-deciding : (old mid new : List ℕ → Option (List ℕ)) → ((c : List ℕ) → old c ≡ None)
      → ((c : List ℕ) → mid c ≡ fold (deciding_after (inherited_at w) c) (old c) first)
      → ((c : List ℕ) → new c ≡ fold (fold (deciding_after (inherited_at w) c)) (mid c) files)
      → (c : List ℕ) → new c ≡ deciding (facts_of first files) c
  unfolding deciding
  staged-deciding old mid new empty one two c =
      two-passes (deciding_after (inherited_at w) c) None (mid c) (new c) first files (one c ∙ ap (λ o. fold (deciding_after (inherited_at w) c) o first) (empty c)) (two c)
      ∙ ap (λ (r : Reference). fold (deciding_after r c) None (facts_of first files)) (inherited-known w (facts_of first files) known)
      ∙ deciding-told (inherited (facts_of first files)) c (facts_of first files)

  entry-staged : {X : Type 0} (value : List ℕ → Option X) (old mid new : List ℕ → Option X) → ((c : List ℕ) → old c ≡ None)
      → ((c : List ℕ) → mid c ≡ fold (entry_after value c) (old c) first)
      → ((c : List ℕ) → new c ≡ fold (fold (entry_after value c)) (mid c) files)
      → ((c : List ℕ) → is_body (kind_of (facts_of first files) c) ≡ false → value c ≡ None)
      → (c : List ℕ) → new c ≡ value c
  entry-staged value old mid new empty one two only c =
      two-passes (entry_after value c) None (mid c) (new c) first files (one c ∙ ap (λ o. fold (entry_after value c) o first) (empty c)) (two c)
      ∙ entries-told value c (facts_of first files) (only c)

  pub staged-superclasses : (decides : List ℕ → Option (List ℕ)) → ((c : List ℕ) → decides c ≡ deciding (facts_of first files) c)
      → (old mid new : List ℕ → Option (List ℕ)) → ((c : List ℕ) → old c ≡ None)
      → ((c : List ℕ) → mid c ≡ fold (entry_after (super_entry w decides) c) (old c) first)
      → ((c : List ℕ) → new c ≡ fold (fold (entry_after (super_entry w decides) c)) (mid c) files)
      → (c : List ℕ) → new c ≡ superclass_of (facts_of first files) c
  unfolding superclass_of
  staged-superclasses decides right old mid new empty one two c =
      entry-staged (super_entry w decides) old mid new empty one two
      (λ d h. no-superclass (kind_at w d) (decides d) d (ap is_body (known.kinds d) ∙ h)) c
      ∙ (λ i. superclass_by (known.kinds c i) (right c i) c)

  pub staged-links : (superclasses : List ℕ → Option (List ℕ)) → ((c : List ℕ) → superclasses c ≡ superclass_of (facts_of first files) c)
      → (old mid new : List Link) → old ≡ []
      → mid ≡ fold (links_after superclasses (mixed_at w)) old first → new ≡ fold (fold (links_after superclasses (mixed_at w))) mid files
      → new ≡ links (facts_of first files)
  unfolding links
  staged-links superclasses right old mid new empty one two =
      two-passes (links_after superclasses (mixed_at w)) [] mid new first files (one ∙ ap (λ o. fold (links_after superclasses (mixed_at w)) o first) empty) two
      ∙ links-told superclasses (mixed_at w) (facts_of first files)
      ∙ (λ i. filter_map (link_in (λ c. right c i) (mixed-known w (facts_of first files) known i)) (facts_of first files))

  pub staged-extends : (old mid new : List ℕ → Option (List (List ℕ))) → ((c : List ℕ) → old c ≡ None)
      → ((c : List ℕ) → mid c ≡ fold (extended_after (mixed_at w) c) (old c) first)
      → ((c : List ℕ) → new c ≡ fold (fold (extended_after (mixed_at w) c)) (mid c) files)
      → (c : List ℕ) → unwrap_or (new c) [] ≡ filter_map (extended_in (mixed_in (facts_of first files)) c) (facts_of first files)
  staged-extends old mid new empty one two c =
      ap (λ o. unwrap_or o []) (two-passes (extended_after (mixed_at w) c) None (mid c) (new c) first files (one c ∙ ap (λ o. fold (extended_after (mixed_at w) c) o first) (empty c)) (two c))
      ∙ extended-told (mixed_at w) c (facts_of first files)
      ∙ ap (λ (r : Reference). filter_map (extended_in r c) (facts_of first files)) (mixed-known w (facts_of first files) known)

  pub staged-extended : (extends : List ℕ → Option (List (List ℕ)))
      → ((c : List ℕ) → unwrap_or (extends c) [] ≡ filter_map (extended_in (mixed_in (facts_of first files)) c) (facts_of first files))
      → (old mid new : List ℕ → Option (List (List ℕ))) → ((c : List ℕ) → old c ≡ None)
      → ((c : List ℕ) → mid c ≡ fold (entry_after (extended_entry w extends) c) (old c) first)
      → ((c : List ℕ) → new c ≡ fold (fold (entry_after (extended_entry w extends) c)) (mid c) files)
      → (c : List ℕ) → new c ≡ extended_of (facts_of first files) c
  unfolding extended_of
  staged-extended extends right old mid new empty one two c =
      entry-staged (extended_entry w extends) old mid new empty one two
      (λ d h. ap (λ t. cond t (Some (unwrap_or (extends d) [])) None) (ap is_body (known.kinds d) ∙ h)) c
      ∙ (λ i. cond (is_body (known.kinds c i)) (Some (right c i)) None)

  pub staged-lins : (lins : List ℕ → Option (List (List ℕ))) → ((c : List ℕ) → unwrap_or (lins c) (c ∷ []) ≡ lin_of (counted (links (facts_of first files))) c)
      → (old mid new : List ℕ → Option (List (List ℕ))) → ((c : List ℕ) → old c ≡ None)
      → ((c : List ℕ) → mid c ≡ fold (entry_after (lin_entry w lins) c) (old c) first)
      → ((c : List ℕ) → new c ≡ fold (fold (entry_after (lin_entry w lins) c)) (mid c) files)
      → (c : List ℕ) → new c ≡ lin_in (facts_of first files) c
  unfolding lin_in
  staged-lins lins right old mid new empty one two c =
      entry-staged (lin_entry w lins) old mid new empty one two
      (λ d h. ap (λ t. cond t (Some (unwrap_or (lins d) (d ∷ []))) None) (ap is_body (known.kinds d) ∙ h)) c
      ∙ (λ i. cond (is_body (known.kinds c i)) (Some (right c i)) None)

-- the table's own name for a text is that text, if it has one
own-key : {X : Type 0} (name : List ℕ) (entries : List (List ℕ × X)) → lookup_key (bytes_eq name) entries ≡ cond (is_some (lookup (bytes_eq name) entries)) (Some name) None
own-key name [] = refl
own-key {X} name (e ∷ es) = by (bytes_eq name e.0) (bytes_eq-Decides name e.0).0 (own-key name es)
  where
    by : (b : Bool) → (b ≡ true → name ≡ e.0) → lookup_key (bytes_eq name) es ≡ cond (is_some (lookup (bytes_eq name) es)) (Some name) None
        → cond b (Some e.0) (lookup_key (bytes_eq name) es) ≡ cond (is_some (cond b (Some e.1) (lookup (bytes_eq name) es))) (Some name) None
    by true same rest = ap Some (sym (same refl))
    by false same rest = rest

-- the table with these names knows them
pub names-known : (w : World) (fs : List Fact) → ((c : List ℕ) → kind_at w c ≡ kind_of fs c)
    → ((s l : List ℕ) → has_colon l ≡ false → inner_at s l w.inner.entries ≡ cond (is_some (kind_of fs (joined s l))) (Some (joined s l)) None)
    → KnowsNames w fs
names-known w fs kinds inner = record { kinds = kinds; names = names }
  where
    own : (name : List ℕ) → own_name name w ≡ cond (is_some (kind_of fs name)) (Some name) None
    own name = own-key name w.kinds.entries ∙ ap (λ k. cond (is_some k) (Some name) None) (kinds name)

    names : (scope : Option (List ℕ)) (last : List ℕ) → within_at w scope last ≡ within_of fs scope last
    names None last = own last
    names (Some scope) last = by (has_colon last) (inner scope last)
      where
        by : (b : Bool) → (b ≡ false → inner_at scope last w.inner.entries ≡ cond (is_some (kind_of fs (joined scope last))) (Some (joined scope last)) None)
            → cond b (own_name (joined scope last) w) (inner_at scope last w.inner.entries) ≡ cond (is_some (kind_of fs (joined scope last))) (Some (joined scope last)) None
        by true h = own (joined scope last)
        by false h = h refl
