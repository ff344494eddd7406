-- Types in normal form are told apart by their texts.
use Rattle.std.proofs.Common.{◌≡◌, ℕ, ◌⊎◌, Bool, true, false, List, [], ◌∷◌, ◌++◌, map, inl, inr, refl, sym, ap, subst, ◌∙◌, nat_eq, get_or, append_assoc, codes, bytes_eq, if◌then◌else◌}
use Rattle.std.specs.Bool.{IsTrue}
use Rattle.std.specs.List.{list_all, list_any}
use Rattle.srb_terms.specs.NameSets.{has_name}
use Rattle.srb_terms.specs.declared.ty.Ty.{Ty, out-Ty}
use Rattle.srb_terms.specs.declared.ty.Ty.TheOpen.{Ty-F}
use Rattle.srb_terms.specs.declared.ty.Ty.TheViews.{roll-Ty, roll-out-Ty, out-roll-Ty}
use Rattle.srb_terms.specs.declared.ty.Ty.TheFolds.{map-Ty, ind-Ty}
use Rattle.srb_shapes.specs.Comparing.{lies_in}
use Rattle.srb_shapes.specs.Lineages.{Lineage, IsLineage}
use Rattle.srb_shapes.specs.Shapes.{fits}
use Rattle.srb_shapes_laws.proofs.Bools.{either, and-first, and-second, by-test, same-name}
use Rattle.srb_types.specs.Shown.{NIL, BOOLEAN, listed, shown_at, shown}
use Rattle.srb_types_laws.specs.NormalForms.{Among, is_apart, has_several, is_part, is_part_at, is_arranged, is_plain, HasPlainNames}
use Rattle.srb_types_laws.proofs.Elements.{among-all, among-named, among-mapped, same-lists, not-both}
use Rattle.srb_types_laws.proofs.Layers.{IsLayer}
use Rattle.srb_types_laws.proofs.Parts.{IsWell, AreWell, union-well}
use Rattle.srb_types_laws.proofs.Inclusions.{member-text, lies-itself}
use Rattle.srb_types_laws.proofs.Rendering.{IsText, tail_text, text-ends, node-tells}
use Rattle.srb_types_laws.proofs.Unions.{Stands, as_nil, as_boolean, as_itself, differ, left_texts, closed_text, stands-to, stands-same, listed-is, all-listed, IsProper, AreShown, closed-tells}
use Rattle.srb_types_laws.proofs.Texts.{name-plain, name-boolean, name-text, union-is, layer-of, shown-is, part-well, none-boolean, all-shown, member-texts, text-of}

-- ---- which kind of type a text is that of

by_letters : ℕ → ℕ → ℕ
by_letters a b = if nat_eq a 117 then 1 else (if nat_eq a 99 then 3 else (if nat_eq b 111 then 2 else (if nat_eq b 105 then 7
    else (if nat_eq b 108 then 6 else (if nat_eq b 110 then 7 else (if nat_eq b 65 then 4 else 5))))))

-- a name, or by two letters of the text
told : List ℕ → ℕ
told s = if is_plain s then (if bytes_eq s BOOLEAN then 7 else 0) else by_letters (get_or s 2 0) (get_or s 3 0)

abbrev kind_tag : {X : Type 0} → Ty-F X → ℕ
kind_tag (Ty-F.Class c) = 0
kind_tag Ty-F.Untyped = 1
kind_tag Ty-F.Never = 2
kind_tag (Ty-F.Meta c) = 3
kind_tag (Ty-F.Arr e) = 4
kind_tag (Ty-F.Hsh k v) = 5
kind_tag (Ty-F.All ms) = 6
kind_tag (Ty-F.Any ps) = 7

abbrev is_union : {X : Type 0} → Ty-F X → Bool
is_union (Ty-F.Any ps) = true
is_union _ = false

part-no-union : {X : Type 0} (x : Ty-F X) → IsTrue (is_part_at x) → is_union x ≡ false
part-no-union (Ty-F.Any ps) h = cc
part-no-union Ty-F.Untyped h = refl
part-no-union Ty-F.Never h = refl
part-no-union (Ty-F.Class c) h = refl
part-no-union (Ty-F.Meta c) h = refl
part-no-union (Ty-F.Arr c) h = refl
part-no-union (Ty-F.Hsh k v) h = refl
part-no-union (Ty-F.All ms) h = refl

no-seven : {X : Type 0} (x : Ty-F X) → is_union x ≡ false → kind_tag x ≡ 7 → ⊥
no-seven (Ty-F.Any ps) h e = cc
no-seven x h e = cc

told-name : (c : List ℕ) → is_plain c ≡ true → bytes_eq c BOOLEAN ≡ false → told c ≡ 0
unfolding told
told-name c p b = ap (λ t. if t then (if bytes_eq c BOOLEAN then 7 else 0) else by_letters (get_or c 2 0) (get_or c 3 0)) p ∙ ap (λ t. if t then 7 else 0) b

told-listed-all : (t : List ℕ) (ts : List (List ℕ)) → told (listed (codes "T.all(") (t ∷ ts)) ≡ 6
unfolding told by_letters
told-listed-all t ts = ap told (listed-is (codes "T.all(") t ts)

told-listed-any : (t : List ℕ) (ts : List (List ℕ)) → told (listed (codes "T.any(") (t ∷ ts)) ≡ 7
unfolding told by_letters
told-listed-any t ts = ap told (listed-is (codes "T.any(") t ts)

-- a union is shown as one
told-closed : (n : Bool) (fs : List (List ℕ)) → IsProper n fs → told (closed_text n fs) ≡ 7
unfolding told by_letters closed_text
told-closed true [] p = absurd p
told-closed true (f ∷ fs) p = refl
told-closed false [] p = absurd p
told-closed false (f ∷ []) p = ap told p
told-closed false (f ∷ g ∷ fs) p = told-listed-any f (g ∷ fs)

map-tells : {A B : Type 0} (g : A → B) (xs ys : List A) → ((x y : A) → Among x xs → Among y ys → g x ≡ g y → x ≡ y) → map g xs ≡ map g ys → xs ≡ ys
map-tells g [] [] h e = refl
map-tells g [] (y ∷ ys) h e = cc
map-tells g (x ∷ xs) [] h e = cc
map-tells g (x ∷ xs) (y ∷ ys) h e = let
    first : g x ≡ g y = cc in let
    rest : map g xs ≡ map g ys = cc in let
    a = h x y (inl refl) (inl refl) first in let
    b = map-tells g xs ys (λ v w m n. h v w (inr m) (inr n)) rest in
    λ i. a i ∷ b i

module _ (L : Lineage) (names : HasPlainNames L) where
  told-layer : (x : Ty-F Ty) → IsLayer L x → is_union x ≡ false → told (shown_at (map-Ty Ty (List ℕ) shown x)) ≡ kind_tag x
  unfolding told by_letters
  told-layer Ty-F.Untyped w u = refl
  told-layer Ty-F.Never w u = refl
  told-layer (Ty-F.Class c) w u = told-name c (name-plain L names c w.fitting) (name-boolean L names c w.fitting)
  told-layer (Ty-F.Meta c) w u = refl
  told-layer (Ty-F.Arr e) w u = refl
  told-layer (Ty-F.Hsh k v) w u = refl
  told-layer (Ty-F.All []) w u = let f : IsTrue false = w.arranged in cc
  told-layer (Ty-F.All (m ∷ ms)) w u = told-listed-all (shown m) (map shown ms)
  told-layer (Ty-F.Any ps) w u = cc

  -- ---- types that are no unions

  -- with what the induction gives
  abbrev Told : Type 0
  Told = (t : Ty) × ((u : Ty) → IsWell L t → IsWell L u → shown t ≡ shown u → t ≡ u)

  abbrev it : Told → Ty
  it e = e.0

  abbrev plain : Ty-F Told → Ty-F Ty
  plain y = map-Ty Told Ty it y

  in-brackets : (s t : List ℕ) (b : ℕ) → IsText s → IsText t → IsTrue (list_any (nat_eq b) (41 ∷ 44 ∷ 93 ∷ [])) → s ++ (b ∷ []) ≡ t ++ (b ∷ []) → s ≡ t
  in-brackets s t b p q stop h = let k = text-ends s t p q (b ∷ []) (b ∷ []) stop stop h in k.0

  layer-tells : (y : Ty-F Told) (z : Ty-F Ty) → is_union (plain y) ≡ false → is_union z ≡ false → IsLayer L (plain y) → IsLayer L z → kind_tag (plain y) ≡ kind_tag z
      → shown_at (map-Ty Ty (List ℕ) shown (plain y)) ≡ shown_at (map-Ty Ty (List ℕ) shown z) → roll-Ty (plain y) ≡ roll-Ty z
  layer-tells Ty-F.Untyped Ty-F.Untyped p q w v k h = refl
  layer-tells Ty-F.Never Ty-F.Never p q w v k h = refl
  layer-tells (Ty-F.Class c) (Ty-F.Class d) p q w v k h = ap (λ n. roll-Ty (Ty-F.Class n)) h
  layer-tells (Ty-F.Meta c) (Ty-F.Meta d) p q w v k h = let
      rest : c ++ codes ")" ≡ d ++ codes ")" = cc in
      ap (λ n. roll-Ty (Ty-F.Meta n)) (in-brackets c d 41 (name-text L names c w.fitting) (name-text L names d v.fitting) refl rest)
  layer-tells (Ty-F.Arr e) (Ty-F.Arr f) p q w v k h = let
      a : IsWell L e.0 = record { fitting = w.fitting; arranged = w.arranged } in let
      b : IsWell L f = record { fitting = v.fitting; arranged = v.arranged } in let
      rest : shown e.0 ++ codes "]" ≡ shown f ++ codes "]" = cc in
      ap (λ t. roll-Ty (Ty-F.Arr t)) (e.1 f a b (in-brackets (shown e.0) (shown f) 93 (text-of L names e.0 a) (text-of L names f b) refl rest))
  layer-tells (Ty-F.Hsh c d) (Ty-F.Hsh e f) p q w v k h = let
      a : IsWell L c.0 = record { fitting = and-first _ _ w.fitting; arranged = and-first _ _ w.arranged } in let
      b : IsWell L d.0 = record { fitting = and-second (fits L c.0) _ w.fitting; arranged = and-second (is_arranged L c.0) _ w.arranged } in let
      r : IsWell L e = record { fitting = and-first _ _ v.fitting; arranged = and-first _ _ v.arranged } in let
      s : IsWell L f = record { fitting = and-second (fits L e) _ v.fitting; arranged = and-second (is_arranged L e) _ v.arranged } in let
      rest : ((shown c.0 ++ codes ", ") ++ shown d.0) ++ codes "]" ≡ ((shown e ++ codes ", ") ++ shown f) ++ codes "]" = cc in let
      both = text-ends (shown c.0) (shown e) (text-of L names c.0 a) (text-of L names e r) (codes ", " ++ (shown d.0 ++ codes "]")) (codes ", " ++ (shown f ++ codes "]")) refl refl
      (sym (append_assoc (shown c.0) (codes ", ") (shown d.0 ++ codes "]")) ∙ sym (append_assoc (shown c.0 ++ codes ", ") (shown d.0) (codes "]")) ∙ rest
      ∙ append_assoc (shown e ++ codes ", ") (shown f) (codes "]") ∙ append_assoc (shown e) (codes ", ") (shown f ++ codes "]")) in let
      last : shown d.0 ++ codes "]" ≡ shown f ++ codes "]" = after-comma (shown d.0 ++ codes "]") (shown f ++ codes "]") both.1 in let
      key = c.1 e a r both.0 in let
      value = d.1 f b s (in-brackets (shown d.0) (shown f) 93 (text-of L names d.0 b) (text-of L names f s) refl last) in
      λ i. roll-Ty (Ty-F.Hsh (key i) (value i))
    where
      after-comma : (x y : List ℕ) → codes ", " ++ x ≡ codes ", " ++ y → x ≡ y
      after-comma x y j = cc
  layer-tells (Ty-F.All []) (Ty-F.All ns) p q w v k h = let f : IsTrue false = w.arranged in cc
  layer-tells (Ty-F.All (m ∷ ms)) (Ty-F.All []) p q w v k h = let f : IsTrue false = v.arranged in cc
  layer-tells (Ty-F.All (m ∷ ms)) (Ty-F.All (n ∷ ns)) p q w v k h = ap (λ ts. roll-Ty (Ty-F.All ts)) (map-tells shown (m.0 ∷ map it ms) (n ∷ ns)
      (member-text L (map it (m ∷ ms)) (n ∷ ns) w.fitting v.fitting)
      (node-tells false (shown m.0) (shown n) (map shown (map it ms)) (map shown ns)
      (all-listed (shown m.0) (map shown (map it ms)) (member-texts L names (map it (m ∷ ms)) w.fitting))
      (all-listed (shown n) (map shown ns) (member-texts L names (n ∷ ns) v.fitting))
      (after-start ((shown m.0 ++ tail_text (map shown (map it ms))) ++ codes ")") ((shown n ++ tail_text (map shown ns)) ++ codes ")")
      (sym (listed-is (codes "T.all(") (shown m.0) (map shown (map it ms))) ∙ h ∙ listed-is (codes "T.all(") (shown n) (map shown ns)))))
    where
      after-start : (r s : List ℕ) → codes "T.all(" ++ r ≡ codes "T.all(" ++ s → r ≡ s
      after-start r s j = cc
  layer-tells y z p q w v k h = cc

  layer-at : (y : Ty-F Told) (t : Ty) → t ≡ roll-Ty (plain y) → IsWell L t → IsLayer L (plain y)
  layer-at y t e w = subst (IsLayer L) (ap out-Ty e ∙ out-roll-Ty (plain y)) (layer-of L names t w)

  text-at : (y : Ty-F Told) (t : Ty) → t ≡ roll-Ty (plain y) → shown t ≡ shown_at (map-Ty Ty (List ℕ) shown (plain y))
  text-at y t e = shown-is L names t ∙ ap (λ x. shown_at (map-Ty Ty (List ℕ) shown x)) (ap out-Ty e ∙ out-roll-Ty (plain y))

  alone-tells : (y : Ty-F Told) (t u : Ty) → t ≡ roll-Ty (plain y) → is_union (plain y) ≡ false → is_union (out-Ty u) ≡ false → IsWell L t → IsWell L u
      → shown t ≡ shown u → t ≡ u
  alone-tells y t u e p q w v h = let
      a = layer-at y t e w in let
      b = layer-of L names u v in let
      s = sym (text-at y t e) ∙ h ∙ shown-is L names u in
      e ∙ layer-tells y (out-Ty u) p q a b (sym (told-layer (plain y) a p) ∙ ap told s ∙ told-layer (out-Ty u) b q) s ∙ roll-out-Ty u

-- ---- unions

-- what is shown of texts is that of a union, or all of them are shown so
some-proper : (n : Bool) (fs ts : List (List ℕ)) → ((u : List ℕ) → Among u ts → Stands n fs u) → (t : List ℕ) → Among t ts
    → IsProper n fs ⊎ ((u : List ℕ) → Among u ts → u ≡ closed_text n fs)
unfolding closed_text
some-proper true [] ts h t a = inr (λ u b. nil-stands u (h u b))
  where
    nil-stands : (u : List ℕ) → Stands true [] u → u ≡ NIL
    nil-stands u (as_nil e n) = e
    nil-stands u (as_boolean o m) = absurd m
    nil-stands u (as_itself m o) = absurd m
some-proper true (f ∷ fs) ts h t a = inl tt
some-proper false [] ts h t a = absurd (none-stands t (h t a))
  where
    none-stands : (u : List ℕ) → Stands false [] u → ⊥
    none-stands u (as_nil e n) = cc
    none-stands u (as_boolean o m) = m
    none-stands u (as_itself m o) = m
some-proper false (f ∷ []) ts h t a = go (by-test (bytes_eq f BOOLEAN))
  where
    one-stands : bytes_eq f BOOLEAN ≡ false → (u : List ℕ) → Stands false (f ∷ []) u → u ≡ f
    one-stands b u (as_nil e n) = cc
    one-stands b u (as_boolean o (inl e)) = absurd (differ f BOOLEAN b e)
    one-stands b u (as_boolean o (inr m)) = absurd m
    one-stands b u (as_itself (inl e) o) = sym e
    one-stands b u (as_itself (inr m) o) = absurd m

    go : (bytes_eq f BOOLEAN ≡ true) ⊎ (bytes_eq f BOOLEAN ≡ false) → (f ≡ BOOLEAN) ⊎ ((u : List ℕ) → Among u ts → u ≡ f)
    go (inl e) = inl (same-name f BOOLEAN e)
    go (inr b) = inr (λ u m. one-stands b u (h u m))
some-proper false (f ∷ g ∷ fs) ts h t a = inl tt

module _ (L : Lineage) (laws : IsLineage L) (names : HasPlainNames L) where
  -- not all parts of a union are one
  all-one : (ps : List Ty) → IsTrue (has_several ps) → AreWell L ps → ((p q : Ty) → Among p ps → Among q ps → p ≡ q) → ⊥
  all-one [] s w h = cc
  all-one (p ∷ []) s w h = cc
  all-one (p ∷ q ∷ ps) s w h = not-both (lies_in L p q)
      (and-first _ _ (and-first (is_apart (lies_in L) p q) _ (and-first _ _ w.apart)))
      (subst (λ x. IsTrue (lies_in L p x)) (h p q (inl refl) (inr (inl refl))) (lies-itself L laws p (and-first _ _ w.fitting)))

  first-of : (ps : List Ty) → IsTrue (has_several ps) → (p : Ty) × Among p ps
  first-of [] s = cc
  first-of (p ∷ ps) s = (p, inl refl)

  -- the texts of parts, whether `NilClass` is among them, and what is shown of them
  abbrev Ts : List Ty → List (List ℕ)
  Ts ps = map shown ps

  abbrev N : List Ty → Bool
  N ps = has_name NIL (map shown ps)

  abbrev Fs : List Ty → List (List ℕ)
  Fs ps = left_texts (has_name NIL (map shown ps)) (map shown ps)

  proper-or-one : (ps : List Ty) → IsTrue (has_several ps) → AreWell L ps → IsProper (N ps) (Fs ps) ⊎ ((p : Ty) → Among p ps → shown p ≡ closed_text (N ps) (Fs ps))
  proper-or-one ps s w = let f = first-of ps s in either (λ p. inl p) (λ h. inr (λ p a. h (shown p) (among-mapped shown p ps a)))
      (some-proper (N ps) (Fs ps) (Ts ps) (stands-to (Ts ps) (none-boolean L names ps w)) (shown f.0) (among-mapped shown f.0 ps f.1))

  shown-all : (ps : List Ty) → AreWell L ps → AreShown (Fs ps)
  shown-all ps w = all-shown L names ps w (λ p a. text-of L names p (part-well L names ps w p a)) (N ps)

  some-known : (ps : List (Told L names)) (p : Ty) → Among p (map (it L names) ps) → (u : Ty) → IsWell L p → IsWell L u → shown p ≡ shown u → p ≡ u
  some-known [] p a = absurd a
  some-known (s ∷ ps) p (inl e) = subst (λ t. (u : Ty) → IsWell L t → IsWell L u → shown t ≡ shown u → t ≡ u) e s.1
  some-known (s ∷ ps) p (inr a) = some-known ps p a

  module _ (ps qs : List Ty) (s : IsTrue (has_several ps)) (r : IsTrue (has_several qs)) (w : AreWell L ps) (v : AreWell L qs)
      (known : (p : Ty) → Among p ps → (u : Ty) → IsWell L p → IsWell L u → shown p ≡ shown u → p ≡ u)
      (h : closed_text (N ps) (Fs ps) ≡ closed_text (N qs) (Fs qs)) where
    known-part : (p q : Ty) → Among p ps → Among q qs → shown p ≡ shown q → p ≡ q
    known-part p q a b e = known p a q (part-well L names ps w p a) (part-well L names qs v q b) e

    both-proper : IsProper (N ps) (Fs ps) → IsProper (N qs) (Fs qs) → ps ≡ qs
    both-proper p q = let
        k = closed-tells (N ps) (N qs) (Fs ps) (Fs qs) p q (shown-all ps w) (shown-all qs v) h in
        same-lists shown (lies_in L) ps qs w.ordered v.ordered w.apart v.apart
        (λ x a. lies-itself L laws x (among-all (fits L) x ps a w.fitting)) (λ x a. lies-itself L laws x (among-all (fits L) x qs a v.fitting))
        known-part
        (λ x a. let o = among-named shown (shown x) qs (stands-same (Ts ps) (Ts qs) (none-boolean L names ps w) (none-boolean L names qs v) k.0 k.1 (shown x)
        (among-mapped shown x ps a)) in
        subst (λ y. Among y qs) (sym (known-part x o.0 a o.1 (sym o.2))) o.1)
        (λ y b. let o = among-named shown (shown y) ps (stands-same (Ts qs) (Ts ps) (none-boolean L names qs v) (none-boolean L names ps w) (sym k.0) (sym k.1) (shown y)
        (among-mapped shown y qs b)) in
        subst (λ x. Among x ps) (known-part o.0 y o.1 b o.2) o.1)

    -- parts that are all shown as one text are one
    not-one : ((p : Ty) → Among p ps → shown p ≡ closed_text (N ps) (Fs ps)) → ⊥
    not-one all = all-one ps s w (λ p q a b. known p a q (part-well L names ps w p a) (part-well L names ps w q b) (all p a ∙ sym (all q b)))

    -- no part is shown as a union
    no-part : IsProper (N ps) (Fs ps) → ((q : Ty) → Among q qs → shown q ≡ closed_text (N qs) (Fs qs)) → ⊥
    no-part p all = let
        f = first-of qs r in let
        u = part-no-union (out-Ty f.0) (among-all is_part f.0 qs f.1 v.parts) in
        no-seven (out-Ty f.0) u (sym (told-layer L names (out-Ty f.0) (layer-of L names f.0 (part-well L names qs v f.0 f.1)) u)
        ∙ ap told (sym (shown-is L names f.0) ∙ all f.0 f.1 ∙ sym h) ∙ told-closed (N ps) (Fs ps) p)

    unions-tell : ps ≡ qs
    unions-tell = either
        (λ p. either (both-proper p) (λ all. absurd (no-part p all)) (proper-or-one qs r v))
        (λ all. absurd (not-one all))
        (proper-or-one ps s w)

  several-of : (ps : List Ty) → IsLayer L (Ty-F.Any ps) → IsTrue (has_several ps)
  several-of ps w = and-first _ _ (and-second (list_all is_part (map (λ t. t) ps)) _ (and-second (list_all (is_arranged L) ps) _ w.arranged))

  well-of : (ps : List Ty) → IsLayer L (Ty-F.Any ps) → AreWell L ps
  well-of ps w = union-well L ps w.fitting w.arranged

  -- a union isn't shown as another type
  union-alone : (ps : List (Told L names)) (u : Ty) → IsLayer L (Ty-F.Any (map (it L names) ps)) → IsWell L u → is_union (out-Ty u) ≡ false
      → shown_at (map-Ty Ty (List ℕ) shown (Ty-F.Any (map (it L names) ps))) ≡ shown u → ⊥
  union-alone ps u l w other h = let
      ts = map (it L names) ps in let
      a = well-of ts l in let
      is = union-is ts a.ordered in
      either
      (λ p. no-seven (out-Ty u) other (sym (told-layer L names (out-Ty u) (layer-of L names u w) other)
      ∙ ap told (sym (shown-is L names u) ∙ sym h ∙ is) ∙ told-closed (N ts) (Fs ts) p))
      (λ all. all-one ts (several-of ts l) a (λ p q i j. some-known ps p i q (part-well L names ts a p i) (part-well L names ts a q j) (all p i ∙ sym (all q j))))
      (proper-or-one ts (several-of ts l) a)

  alone-union : (y : Ty-F (Told L names)) (t : Ty) (qs : List Ty) → t ≡ roll-Ty (plain L names y) → is_union (plain L names y) ≡ false → IsWell L t → IsLayer L (Ty-F.Any qs)
      → shown t ≡ shown_at (map-Ty Ty (List ℕ) shown (Ty-F.Any qs)) → ⊥
  alone-union y t qs e p w l h = let
      a = well-of qs l in let
      is = union-is qs a.ordered in
      either
      (λ q. no-seven (plain L names y) p (sym (told-layer L names (plain L names y) (layer-at L names y t e w) p)
      ∙ ap told (sym (text-at L names y t e) ∙ h ∙ is) ∙ told-closed (N qs) (Fs qs) q))
      (λ all. all-one qs (several-of qs l) a (λ q o i j. sym (as-one q i all is) ∙ as-one o j all is))
      (proper-or-one qs (several-of qs l) a)
    where
      as-one : (q : Ty) → Among q qs → ((x : Ty) → Among x qs → shown x ≡ closed_text (N qs) (Fs qs))
          → shown_at (map-Ty Ty (List ℕ) shown (Ty-F.Any qs)) ≡ closed_text (N qs) (Fs qs) → t ≡ q
      as-one q i all is = let a = well-of qs l in
          alone-tells L names y t q e p (part-no-union (out-Ty q) (among-all is_part q qs i a.parts)) w (part-well L names qs a q i) (h ∙ is ∙ sym (all q i))

  both-at : (y : Ty-F (Told L names)) (z : Ty-F Ty) (t u : Ty) → t ≡ roll-Ty (plain L names y) → out-Ty u ≡ z → IsWell L t → IsWell L u → shown t ≡ shown u → t ≡ u
  both-at (Ty-F.Any ps) (Ty-F.Any qs) t u e f w v h = let
      l = layer-at L names (Ty-F.Any ps) t e w in let
      m = subst (IsLayer L) f (layer-of L names u v) in let
      a = well-of (map (it L names) ps) l in let
      b = well-of qs m in
      e ∙ ap (λ ts. roll-Ty (Ty-F.Any ts)) (unions-tell (map (it L names) ps) qs (several-of (map (it L names) ps) l) (several-of qs m) a b (some-known ps)
      (sym (union-is (map (it L names) ps) a.ordered) ∙ sym (text-at L names (Ty-F.Any ps) t e) ∙ h ∙ shown-is L names u
      ∙ ap (λ x. shown_at (map-Ty Ty (List ℕ) shown x)) f ∙ union-is qs b.ordered))
      ∙ ap roll-Ty (sym f) ∙ roll-out-Ty u
  both-at (Ty-F.Any ps) z t u e f w v h = absurd (union-alone ps u (layer-at L names (Ty-F.Any ps) t e w) v (ap is_union f) (sym (text-at L names (Ty-F.Any ps) t e) ∙ h))
  both-at y (Ty-F.Any qs) t u e f w v h = absurd (alone-union y t qs e refl w (subst (IsLayer L) f (layer-of L names u v))
      (h ∙ shown-is L names u ∙ ap (λ x. shown_at (map-Ty Ty (List ℕ) shown x)) f))
  both-at y z t u e f w v h = alone-tells L names y t u e refl (ap is_union f) w v h

  pub shown-tells : (t u : Ty) → IsWell L t → IsWell L u → shown t ≡ shown u → t ≡ u
  shown-tells = ind-Ty (λ t. (u : Ty) → IsWell L t → IsWell L u → shown t ≡ shown u → t ≡ u)
      (λ x y is u. both-at y (out-Ty u) (roll-Ty x) u (ap roll-Ty (sym is)) refl)
