-- The small table of the examples, and a union over it.
use Rattle.std.proofs.Common.{◌≡◌, ℕ, ◌⊎◌, Bool, true, false, not, ◌&&◌, ◌||◌, List, [], ◌∷◌, Some, None, inl, inr, refl, sym, ap, subst, ◌∙◌, codes, bytes_eq, if◌then◌else◌}
use Rattle.std.specs.Bool.{IsTrue}
use Rattle.srb_terms.specs.NameSets.{has_name}
use Rattle.srb_terms.specs.declared.fact.Kind.TheVariants as kind
use Rattle.srb_terms.specs.declared.ty.Ty.TheOpen.{Ty-F}
use Rattle.srb_terms.specs.declared.ty.Ty.TheVariants as ty
use Rattle.srb_terms.specs.declared.ty.Ty.TheVariants.{rolls-Class, rolls-Any}
use Rattle.srb_shapes.specs.Lineages.{IsLineage, Has, is_body}
use Rattle.srb_shapes.specs.Shapes.{belongs, fits}
use Rattle.srb_shapes_laws.proofs.Bools.{either, same-name, name-itself}
use Rattle.srb_shapes_laws.proofs.Equations.{fits_roll, belongs_roll}
use Rattle.srb_types.specs.Normal.{any_of}
use Rattle.srb_types.specs.Order.{is_before}
use Rattle.srb_types.specs.Shown.{BOOLEAN, union_text, shown}
use Rattle.srb_types_laws.specs.NormalForms.{is_arranged, is_cut, is_plain, HasNoCircles, HasPlainNames, IsNormal}
use Rattle.srb_types_laws.specs.Examples.{OBJECT, INTEGER, STRING, NAMES, TABLE, UNION, TURNED}
use Rattle.srb_types_laws.proofs.Elements.{among-all}
use Rattle.srb_types_laws.proofs.Layers.{arranged_roll, cut_roll, shown_roll}
use Rattle.srb_types_laws.proofs.Parts.{any-normal}
use Rattle.srb_types_laws.proofs.Joined.{or-nothing, any-has}
use Rattle.srb_types_laws.proofs.Inclusions.{class-fits, class-lies, class-shown}
use Rattle.srb_types_laws.proofs.Algebra.{by-shapes, any-turned}
use Rattle.srb_types_laws.proofs.Results.{class-part}
use Rattle.srb_types_laws.proofs.Telling.{shown-tells}
use Rattle.srb_types_laws.proofs.Unions.{has-among}

-- ---- names

known-kind : (c : List ℕ) → IsTrue (is_body (TABLE.kind c)) → IsTrue (has_name c NAMES)
known-kind c h = go (has_name c NAMES) h
  where
    go : (b : Bool) → IsTrue (is_body (if b then Some kind.Class else None)) → IsTrue b
    go true k = refl
    go false k = cc

class-kind : (c : List ℕ) → IsTrue (has_name c NAMES) → TABLE.kind c ≡ Some kind.Class
class-kind c h = ap (λ b. if b then Some kind.Class else None) h

lin-from : (c a : List ℕ) → Has (TABLE.lin c) a → IsTrue (has_name c NAMES) × ((c ≡ a) ⊎ (OBJECT ≡ a))
lin-from c a h = go (has_name c NAMES) (bytes_eq c OBJECT) h
  where
    rest : (d : List ℕ) (xs : List (List ℕ)) → Has (d ∷ xs) a → (d ≡ a) ⊎ Has xs a
    rest d xs k = found (bytes_eq d a) refl k
      where
        found : (b : Bool) → bytes_eq d a ≡ b → IsTrue (if b then true else has_name a xs) → (d ≡ a) ⊎ Has xs a
        found true e k = inl (same-name d a e)
        found false e k = inr k

    go : (b o : Bool) → Has (if b then c ∷ (if o then [] else OBJECT ∷ []) else []) a → IsTrue b × ((c ≡ a) ⊎ (OBJECT ≡ a))
    go true true k = (refl, either (λ e. inl e) (λ l. cc) (rest c [] k))
    go true false k = (refl, either (λ e. inl e) (λ l. either (λ e. inr e) (λ m. cc) (rest OBJECT [] l)) (rest c (OBJECT ∷ []) k))
    go false o k = cc

lin-itself : (c : List ℕ) → IsTrue (has_name c NAMES) → Has (TABLE.lin c) c
lin-itself c h = subst (λ (b : Bool). Has (if b then c ∷ (if bytes_eq c OBJECT then [] else OBJECT ∷ []) else []) c) (sym h)
    (ap (λ b. if b then true else has_name c (if bytes_eq c OBJECT then [] else OBJECT ∷ [])) (name-itself c))

lin-object : (c : List ℕ) → IsTrue (has_name c NAMES) → Has (TABLE.lin c) OBJECT
lin-object c h = subst (λ (b : Bool). Has (if b then c ∷ (if bytes_eq c OBJECT then [] else OBJECT ∷ []) else []) OBJECT) (sym h) (go (bytes_eq c OBJECT))
  where
    go : (b : Bool) → IsTrue (if b then true else has_name OBJECT (if b then [] else OBJECT ∷ []))
    go true = refl
    go false = refl

pub table-lineage : IsLineage TABLE
table-lineage = record {
  own = λ c h. lin-itself c (known-kind c h);
  known = λ c a h. let k = lin-from c a h in
      either (λ e. subst (λ x. IsTrue (is_body (TABLE.kind x))) e (ap is_body (class-kind c k.0))) (λ e. subst (λ x. IsTrue (is_body (TABLE.kind x))) e refl) k.1;
  closed = λ c b a h k. let x = lin-from c b h in let y = lin-from b a k in
      either (λ e. subst (λ z. Has (TABLE.lin z) a) (sym e) k)
      (λ e. subst (Has (TABLE.lin c)) (either (λ f. e ∙ f) (λ f. f) y.1) (lin-object c x.0))
      x.1;
  chain = λ c a b h k p q. let x = lin-from c a h in let y = lin-from c b k in
      either (λ e. inl (subst (λ z. Has (TABLE.lin z) b) e k))
      (λ e. either (λ f. inr (subst (λ z. Has (TABLE.lin z) a) f h)) (λ f. inl (subst (Has (TABLE.lin a)) (sym e ∙ f) (subst (λ z. Has (TABLE.lin z) z) e refl))) y.1)
      x.1;
  modules = λ c a e h. no-module c e;
}
  where
    no-module : {A : Type 0} (c : List ℕ) → TABLE.kind c ≡ Some kind.Module → A
    no-module c e = go (has_name c NAMES) e
      where
        go : {B : Type 0} (b : Bool) → (if b then Some kind.Class else None) ≡ Some kind.Module → B
        go true k = cc
        go false k = cc

pub table-apart : HasNoCircles TABLE
table-apart c d h k = let x = lin-from c d h in let y = lin-from d c k in
    either (λ e. e) (λ e. either (λ f. sym f) (λ f. sym f ∙ e) y.1) x.1

pub table-plain : HasPlainNames TABLE
table-plain c h = among-all (λ x. is_plain x && not (bytes_eq x BOOLEAN)) c NAMES (has-among c NAMES (known-kind c h)) refl

-- ---- types

class-normal : (c : List ℕ) → IsTrue (is_body (TABLE.kind c)) → IsNormal TABLE (ty.Class c)
class-normal c h = record {
  fitting = class-fits TABLE c ∙ h;
  arranged = ap (is_arranged TABLE) (sym (rolls-Class c)) ∙ arranged_roll TABLE (Ty-F.Class c);
  shallow = ap (λ t. is_cut t 8) (sym (rolls-Class c)) ∙ cut_roll (Ty-F.Class c) 8;
}

pub union-normal : IsNormal TABLE UNION
union-normal = record {
  fitting = ap (fits TABLE) (sym (rolls-Any (ty.Class INTEGER ∷ ty.Class STRING ∷ []))) ∙ fits_roll TABLE (Ty-F.Any (ty.Class INTEGER ∷ ty.Class STRING ∷ []))
      ∙ (λ i. class-fits TABLE INTEGER i && (class-fits TABLE STRING i && true));
  arranged = ap (is_arranged TABLE) (sym (rolls-Any (ty.Class INTEGER ∷ ty.Class STRING ∷ []))) ∙ arranged_roll TABLE (Ty-F.Any (ty.Class INTEGER ∷ ty.Class STRING ∷ []))
      ∙ (let a = class-normal INTEGER refl in let b = class-normal STRING refl in
      λ i. (a.arranged i && (b.arranged i && true)) && ((class-part INTEGER i && (class-part STRING i && true))
      && (((not (is_before (class-shown STRING i) (class-shown INTEGER i)) && true) && true)
      && (((not (class-lies true TABLE INTEGER STRING i) && not (class-lies true TABLE STRING INTEGER i)) && true) && true))));
  shallow = ap (λ t. is_cut t 8) (sym (rolls-Any (ty.Class INTEGER ∷ ty.Class STRING ∷ []))) ∙ cut_roll (Ty-F.Any (ty.Class INTEGER ∷ ty.Class STRING ∷ [])) 8
      ∙ (let a = class-normal INTEGER refl in let b = class-normal STRING refl in λ i. a.shallow i && (b.shallow i && true));
}

pub turned-apart : is_arranged TABLE TURNED ≡ false
turned-apart = ap (is_arranged TABLE) (sym (rolls-Any (ty.Class STRING ∷ ty.Class INTEGER ∷ []))) ∙ arranged_roll TABLE (Ty-F.Any (ty.Class STRING ∷ ty.Class INTEGER ∷ []))
    ∙ (let a = class-normal STRING refl in let b = class-normal INTEGER refl in
    λ i. (a.arranged i && (b.arranged i && true)) && ((class-part STRING i && (class-part INTEGER i && true))
    && (((not (is_before (class-shown INTEGER i) (class-shown STRING i)) && true) && true)
    && (((not (class-lies true TABLE STRING INTEGER i) && not (class-lies true TABLE INTEGER STRING i)) && true) && true))))

pub union-is : any_of TABLE (ty.Class INTEGER) (ty.Class STRING) ≡ UNION
union-is = by-shapes TABLE table-lineage table-apart
    (λ p q f g a b h k. shown-tells TABLE table-lineage table-plain p q (record { fitting = f; arranged = a }) (record { fitting = g; arranged = b }))
    (any_of TABLE (ty.Class INTEGER) (ty.Class STRING)) UNION
    (any-normal TABLE (ty.Class INTEGER) (ty.Class STRING) (class-normal INTEGER refl) (class-normal STRING refl)) union-normal
    (λ s v. any-has TABLE table-lineage s v (ty.Class INTEGER) (ty.Class STRING)
    ∙ ap (λ b. belongs true TABLE (ty.Class INTEGER) s || b) (sym (or-nothing (belongs true TABLE (ty.Class STRING) s)))
    ∙ sym (ap (λ t. belongs true TABLE t s) (sym (rolls-Any (ty.Class INTEGER ∷ ty.Class STRING ∷ []))) ∙ belongs_roll true TABLE (Ty-F.Any (ty.Class INTEGER ∷ ty.Class STRING ∷ [])) s))

pub union-turned : any_of TABLE (ty.Class STRING) (ty.Class INTEGER) ≡ UNION
union-turned = any-turned TABLE table-lineage table-apart
    (λ p q f g a b h k. shown-tells TABLE table-lineage table-plain p q (record { fitting = f; arranged = a }) (record { fitting = g; arranged = b }))
    (ty.Class STRING) (ty.Class INTEGER) (class-normal STRING refl) (class-normal INTEGER refl) ∙ union-is

pub union-shown : shown UNION ≡ codes "T.any(Integer, String)"
union-shown = ap shown (sym (rolls-Any (ty.Class INTEGER ∷ ty.Class STRING ∷ []))) ∙ shown_roll (Ty-F.Any (ty.Class INTEGER ∷ ty.Class STRING ∷ []))
    ∙ (λ i. union_text (class-shown INTEGER i ∷ class-shown STRING i ∷ []))
