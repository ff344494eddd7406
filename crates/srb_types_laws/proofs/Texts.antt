-- The text of a type in normal form is made of words and lists in brackets.
use Rattle.std.proofs.Common.{◌≡◌, ℕ, ◌⊎◌, Bool, true, false, not, ◌||◌, List, [], ◌∷◌, ◌++◌, map, inl, inr, refl, sym, ap, subst, ◌∙◌, nat_eq, append_assoc, append-nil, codes, bytes_eq}
use Rattle.std.specs.Bool.{IsTrue}
use Rattle.std.specs.List.{list_all, list_any}
use Rattle.srb_terms.specs.NameSets.{has_name}
use Rattle.srb_terms.specs.declared.ty.Ty.{Ty, out-Ty}
use Rattle.srb_terms.specs.declared.ty.Ty.TheOpen.{Ty-F}
use Rattle.srb_terms.specs.declared.ty.Ty.TheViews.{roll-Ty, roll-out-Ty}
use Rattle.srb_terms.specs.declared.ty.Ty.TheFolds.{map-Ty, ind-Ty}
use Rattle.srb_shapes.specs.Lineages.{Lineage, is_body}
use Rattle.srb_shapes.specs.Shapes.{name_of, all_together, fits}
use Rattle.srb_shapes.proofs.Steps.{all-mapped}
use Rattle.srb_shapes_laws.proofs.Bools.{and-both, and-first, and-second}
use Rattle.srb_shapes_laws.proofs.Equations.{fits_roll}
use Rattle.srb_types.specs.Order.{is_before}
use Rattle.srb_types.specs.Shown.{NIL, BOOLEAN, ordered_text, union_text, hash_text, shown_at, shown}
use Rattle.srb_types_laws.specs.NormalForms.{Among, in_order, is_part, is_part_at, is_arranged, is_plain, HasPlainNames}
use Rattle.srb_types_laws.proofs.Elements.{among-all, among-named, not-both, not-false}
use Rattle.srb_types_laws.proofs.Lists.{all-map}
use Rattle.srb_types_laws.proofs.Layers.{IsLayer, arranged_roll, arranged_is, fits_is, shown_roll}
use Rattle.srb_types_laws.proofs.Parts.{IsWell, AreWell, union-well}
use Rattle.srb_types_laws.proofs.Inclusions.{member-is, class-shown}
use Rattle.srb_types_laws.proofs.Rendering.{opening, closing, is_word_byte, is_word, IsText, word-text, tail_text, one-listed, more-listed, node-text}
use Rattle.srb_types_laws.proofs.Unions.{differ, ordered-stays, left_texts, closed_text, ordered-is, left-adds, boolean-adds, listed-is, all-listed, IsNoUnion, AreShown, closed-text}

-- ---- names

drop-dot : (a b c d e f g : Bool) → IsTrue (not (a || (b || (c || (d || (e || (f || (g || false)))))))) → IsTrue (not (a || (b || (c || (d || (e || (f || false)))))))
drop-dot true b c d e f g h = h
drop-dot false true c d e f g h = h
drop-dot false false true d e f g h = h
drop-dot false false false true e f g h = h
drop-dot false false false false true f g h = h
drop-dot false false false false false true g h = h
drop-dot false false false false false false g h = refl

byte-word : (c : ℕ) → IsTrue (not (list_any (nat_eq c) (codes " (),[]."))) → IsTrue (is_word_byte c)
byte-word c h = drop-dot (nat_eq c 32) (nat_eq c 40) (nat_eq c 41) (nat_eq c 44) (nat_eq c 91) (nat_eq c 93) (nat_eq c 46) h

module _ (L : Lineage) (names : HasPlainNames L) where
  pub name-plain : (c : List ℕ) → IsTrue (is_body (L.kind c)) → IsTrue (is_plain c)
  name-plain c h = and-first _ _ (names c h)

  pub name-boolean : (c : List ℕ) → IsTrue (is_body (L.kind c)) → bytes_eq c BOOLEAN ≡ false
  name-boolean c h = not-false (bytes_eq c BOOLEAN) (and-second (is_plain c) _ (names c h))

  pub name-text : (c : List ℕ) → IsTrue (is_body (L.kind c)) → IsText c
  name-text c h = word-text c (all-map _ is_word_byte byte-word c (name-plain c h))

-- ---- lists of texts

ordered-mapped : (ps : List Ty) → IsTrue (in_order shown ps) → IsTrue (in_order (λ (u : List ℕ). u) (map shown ps))
ordered-mapped [] h = refl
ordered-mapped (p ∷ ps) h = and-both (list_all (λ y. not (is_before y (shown p))) (map shown ps)) _
    (all-mapped (λ y. not (is_before y (shown p))) shown ps ∙ and-first _ _ h)
    (ordered-mapped ps (and-second (list_all (λ y. not (is_before (shown y) (shown p))) ps) _ h))

pub union-is : (ps : List Ty) → IsTrue (in_order shown ps)
    → union_text (map shown ps) ≡ closed_text (has_name NIL (map shown ps)) (left_texts (has_name NIL (map shown ps)) (map shown ps))
union-is ps h = ap ordered_text (ordered-stays [] (map shown ps) (ordered-mapped ps h)) ∙ ordered-is (map shown ps)

-- ---- the texts of parts

fourth : List ℕ → Bool
fourth (a ∷ b ∷ c ∷ d ∷ r) = nat_eq d 110
fourth _ = false

false-true : {A : Type 0} → false ≡ true → A
false-true h = absurd (not-both false refl h)

module _ (L : Lineage) (names : HasPlainNames L) where
  -- that of a part isn't that of a union of several
  no-union-at : (x : Ty-F Ty) → IsTrue (is_part_at x) → IsLayer L x → IsNoUnion (shown_at (map-Ty Ty (List ℕ) shown x))
  unfolding fourth
  no-union-at Ty-F.Untyped p w r e = cc
  no-union-at Ty-F.Never p w r e = cc
  no-union-at (Ty-F.Any ps) p w r e = cc
  no-union-at (Ty-F.Class c) p w r e = false-true (subst (λ s. IsTrue (is_plain s)) e (name-plain L names c w.fitting))
  no-union-at (Ty-F.Meta c) p w r e = false-true (ap fourth e)
  no-union-at (Ty-F.Arr d) p w r e = false-true (ap fourth e)
  no-union-at (Ty-F.Hsh k v) p w r e = false-true (ap fourth e)
  no-union-at (Ty-F.All []) p w r e = let f : IsTrue false = w.arranged in false-true f
  no-union-at (Ty-F.All (m ∷ ms)) p w r e = false-true (ap fourth (sym (listed-is (codes "T.all(") (shown m) (map shown ms)) ∙ e))

  -- nor is it `T::Boolean`
  no-boolean-at : (x : Ty-F Ty) → IsTrue (is_part_at x) → IsLayer L x → shown_at (map-Ty Ty (List ℕ) shown x) ≡ BOOLEAN → ⊥
  no-boolean-at Ty-F.Untyped p w e = cc
  no-boolean-at Ty-F.Never p w e = cc
  no-boolean-at (Ty-F.Any ps) p w e = cc
  no-boolean-at (Ty-F.Class c) p w e = differ c BOOLEAN (name-boolean L names c w.fitting) e
  no-boolean-at (Ty-F.Meta c) p w e = false-true (ap is_plain e)
  no-boolean-at (Ty-F.Arr d) p w e = false-true (ap is_plain e)
  no-boolean-at (Ty-F.Hsh k v) p w e = false-true (ap is_plain e)
  no-boolean-at (Ty-F.All []) p w e = let f : IsTrue false = w.arranged in false-true f
  no-boolean-at (Ty-F.All (m ∷ ms)) p w e = false-true (ap is_plain (sym (listed-is (codes "T.all(") (shown m) (map shown ms)) ∙ e))

  pub layer-of : (t : Ty) → IsWell L t → IsLayer L (out-Ty t)
  layer-of t w = record { fitting = sym (fits_is L t) ∙ w.fitting; arranged = sym (arranged_is L t) ∙ w.arranged }

  pub shown-is : (t : Ty) → shown t ≡ shown_at (map-Ty Ty (List ℕ) shown (out-Ty t))
  shown-is t = ap shown (sym (roll-out-Ty t)) ∙ shown_roll (out-Ty t)

  module _ (ps : List Ty) (well : AreWell L ps) where
    pub part-well : (p : Ty) → Among p ps → IsWell L p
    part-well p a = record { fitting = among-all (fits L) p ps a well.fitting; arranged = among-all (is_arranged L) p ps a well.arranged }

    pub none-boolean : Among BOOLEAN (map shown ps) → ⊥
    none-boolean a = let k = among-named shown BOOLEAN ps a in
        no-boolean-at (out-Ty k.0) (among-all is_part k.0 ps k.1 well.parts) (layer-of k.0 (part-well k.0 k.1)) (sym (shown-is k.0) ∙ k.2)

    pub all-shown : ((p : Ty) → Among p ps → IsText (shown p)) → (n : Bool) → AreShown (left_texts n (map shown ps))
    unfolding AreShown fourth
    all-shown texts n f a = go (boolean-adds (map shown ps) f (left-adds n (map shown ps) f a))
      where
        go : (BOOLEAN ≡ f) ⊎ Among f (map shown ps) → IsText f × IsNoUnion f
        go (inl e) = (subst IsText e (word-text BOOLEAN refl), λ r h. false-true (ap fourth (e ∙ h)))
        go (inr b) = let k = among-named shown f ps b in (
          subst IsText k.2 (texts k.0 k.1),
          subst IsNoUnion k.2 (subst IsNoUnion (sym (shown-is k.0))
              (no-union-at (out-Ty k.0) (among-all is_part k.0 ps k.1 well.parts) (layer-of k.0 (part-well k.0 k.1)))),
        )

  -- ---- the texts of types

  -- with what the induction gives
  abbrev Told : Type 0
  Told = (t : Ty) × (IsWell L t → IsText (shown t))

  abbrev it : Told → Ty
  it e = e.0

  abbrev plain : Ty-F Told → Ty-F Ty
  plain y = map-Ty Told Ty it y

  some-told : (ps : List Told) (p : Ty) → Among p (map it ps) → IsWell L p → IsText (shown p)
  some-told [] p a = absurd a
  some-told (s ∷ ps) p (inl e) = subst (λ t. IsWell L t → IsText (shown t)) e s.1
  some-told (s ∷ ps) p (inr a) = some-told ps p a

  pub member-texts : (ms : List Ty) → IsTrue (all_together L (map name_of ms)) → (u : List ℕ) → Among u (map shown ms) → IsText u
  member-texts ms together u a = let
      k = among-named shown u ms a in let
      c = member-is L ms together k.0 k.1 in
      subst IsText (sym (class-shown c.0) ∙ sym (ap shown c.1) ∙ k.2) (name-text L names c.0 c.2)

  hash-text : (k v : List ℕ) → IsText k → IsText v → IsText (hash_text k v)
  unfolding tail_text
  hash-text k v a b = subst (λ s. IsText (codes "T::Hash[" ++ (s ++ codes "]")))
      (ap (λ s. k ++ (44 ∷ 32 ∷ s)) (append-nil v) ∙ sym (append_assoc k (codes ", ") v))
      (node-text (codes "T::Hash") true k (v ∷ []) refl (more-listed k v [] a (one-listed v b)))

  -- one text in brackets
  boxed-text : (w : List ℕ) (b : Bool) (s : List ℕ) → IsTrue (is_word w) → IsText s → IsText (w ++ (opening b ∷ (s ++ (closing b ∷ []))))
  unfolding tail_text
  boxed-text w b s h t = subst (λ r. IsText (w ++ (opening b ∷ (r ++ (closing b ∷ []))))) (append-nil s) (node-text w b s [] h (one-listed s t))

  layer-text : (y : Ty-F Told) → IsLayer L (plain y) → IsText (shown_at (map-Ty Ty (List ℕ) shown (plain y)))
  layer-text Ty-F.Untyped w = word-text (codes "T.untyped") refl
  layer-text Ty-F.Never w = word-text (codes "T.noreturn") refl
  layer-text (Ty-F.Class c) w = name-text L names c w.fitting
  layer-text (Ty-F.Meta c) w = boxed-text (codes "T.class_of") false c refl (name-text L names c w.fitting)
  layer-text (Ty-F.Arr e) w = boxed-text (codes "T::Array") true (shown e.0) refl (e.1 (record { fitting = w.fitting; arranged = w.arranged }))
  layer-text (Ty-F.Hsh k v) w = hash-text (shown k.0) (shown v.0)
      (k.1 (record { fitting = and-first _ _ w.fitting; arranged = and-first _ _ w.arranged }))
      (v.1 (record { fitting = and-second (fits L k.0) _ w.fitting; arranged = and-second (is_arranged L k.0) _ w.arranged }))
  layer-text (Ty-F.All []) w = let f : IsTrue false = w.arranged in false-true f
  layer-text (Ty-F.All (m ∷ ms)) w = subst IsText (sym (listed-is (codes "T.all(") (shown m.0) (map shown (map it ms))))
      (node-text (codes "T.all") false (shown m.0) (map shown (map it ms)) refl
      (all-listed (shown m.0) (map shown (map it ms)) (member-texts (map it (m ∷ ms)) w.fitting)))
  layer-text (Ty-F.Any ps) w = let
      a = union-well L (map it ps) w.fitting w.arranged in
      subst IsText (sym (union-is (map it ps) a.ordered))
      (closed-text (has_name NIL (map shown (map it ps))) (left_texts (has_name NIL (map shown (map it ps))) (map shown (map it ps)))
      (all-shown (map it ps) a (λ p i. some-told ps p i (part-well (map it ps) a p i)) (has_name NIL (map shown (map it ps)))))

  type-text : (y : Ty-F Told) → IsWell L (roll-Ty (plain y)) → IsText (shown (roll-Ty (plain y)))
  type-text y w = subst IsText (sym (shown_roll (plain y)))
      (layer-text y (record { fitting = sym (fits_roll L (plain y)) ∙ w.fitting; arranged = sym (arranged_roll L (plain y)) ∙ w.arranged }))

  pub text-of : (t : Ty) → IsWell L t → IsText (shown t)
  text-of = ind-Ty (λ t. IsWell L t → IsText (shown t)) (λ x y is. subst (λ z. IsWell L (roll-Ty z) → IsText (shown (roll-Ty z))) is (type-text y))
