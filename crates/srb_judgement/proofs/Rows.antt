-- The rows of the code's maps are those of the definitions: what a map has at a name, and what it is after an insertion. A map whose rows
-- are put one after the other into an empty one has these rows, since no name stands twice in a map.
use Rattle.std.proofs.Common.{◌≡◌, ℕ, zero, suc, drop, flat_map, slice_get, Bool, true, false, cond, List, [], ◌∷◌, ◌++◌, map, bytes_eq, if◌then◌else◌, Option, Some, None, refl, sym, ap, subst, ◌∙◌, append-nil, append_assoc}
use Rattle.std.specs.Cmp.Lexicographic.{bytes_decides, nat_list_eq_equiv}
use Rattle.std.specs.List.{IsDistinct, AllByRecursion}
use Rattle.std.specs.Map.{lookup, keys_of}
use Rattle.indexmap.specs.IndexMap.{insert_entry}
use Rattle.srb_terms.specs.declared.ty.Ty.{Ty}
use Rattle.srb_judgement.specs.Environments.{Row, row, or_found, put_here, type_in, with_type, or_nil, variable_type, joined_row, joined_rows, if_missing, missing_rows}
use Rattle.srb_judgement.specs.Languages.{Language}
use Rattle.srb_judgement.specs.Types.{nil_type}
use Rattle.srb_judgement.specs.Steps.{alone, grown, joining, missing, rows_at}
use Rattle.srb_judgement.specs.Views.{seen_rows}

abbrev pub Entries : Type 0
Entries = List (List ℕ × Ty)

abbrev Rows : Type 0
Rows = List (Row Ty)

some-none : {A : Type 0} (x : A) → Some x ≡ None → ⊥
some-none x h = cc

-- ---- look-ups and insertions

found-cond : (b : Bool) (ty : Ty) (rest : Option Ty) → or_found b ty rest ≡ cond b (Some ty) rest
found-cond true ty rest = refl
found-cond false ty rest = refl

pub type_in_seen : (es : Entries) (name : List ℕ) → type_in (seen_rows es) name ≡ lookup (bytes_eq name) es
type_in_seen [] name = refl
type_in_seen (e ∷ es) name =
    ap (λ b. or_found b e.1 (type_in (seen_rows es) name)) (nat_list_eq_equiv.symm e.0 name)
    ∙ found-cond (bytes_eq name e.0) e.1 (type_in (seen_rows es) name)
    ∙ ap (λ r. cond (bytes_eq name e.0) (Some e.1) r) (type_in_seen es name)

pub with_type_seen : (es : Entries) (name : List ℕ) (ty : Ty) →
    with_type (seen_rows es) name ty ≡ seen_rows (insert_entry bytes_eq es name ty)
with_type_seen [] name ty = refl
with_type_seen (e ∷ es) name ty =
    ap (λ b. put_here b (row name ty) (seen_rows es) (row e.0 e.1 ∷ with_type (seen_rows es) name ty)) (nat_list_eq_equiv.symm e.0 name)
    ∙ by (bytes_eq name e.0) refl (with_type_seen es name ty)
  where
    by : (b : Bool) → bytes_eq name e.0 ≡ b → with_type (seen_rows es) name ty ≡ seen_rows (insert_entry bytes_eq es name ty) →
        put_here b (row name ty) (seen_rows es) (row e.0 e.1 ∷ with_type (seen_rows es) name ty)
        ≡ seen_rows (if b then (e.0, ty) ∷ es else e ∷ insert_entry bytes_eq es name ty)
    by true q rest = ap (λ n. row n ty ∷ seen_rows es) ((bytes_decides name e.0).0 q)
    by false q rest = ap (λ rows. row e.0 e.1 ∷ rows) rest

-- ---- rows that are put one after the other

-- no name stands twice
abbrev pub Apart : Rows → Type 0
Apart [] = Unit {0}
Apart (r ∷ rows) = (type_in rows r.name ≡ None) × Apart rows

-- none of the names of the second rows stands in the first
abbrev Fresh : Rows → Rows → Type 0
Fresh rows [] = Unit {0}
Fresh rows (r ∷ more) = (type_in rows r.name ≡ None) × Fresh rows more

pass : (b : Bool) (ty : Ty) (rest : Option Ty) → or_found b ty rest ≡ None → (b ≡ false) × (rest ≡ None)
pass true ty rest h = cc
pass false ty rest h = (refl, h)

past : (b : Bool) (ty : Ty) (rest : Option Ty) → b ≡ false → rest ≡ None → or_found b ty rest ≡ None
past b ty rest p q = ap (λ c. or_found c ty rest) p ∙ q

with-new : (rows : Rows) (name : List ℕ) (ty : Ty) → type_in rows name ≡ None → with_type rows name ty ≡ rows ++ row name ty ∷ []
with-new [] name ty h = refl
with-new (r ∷ rows) name ty h =
    let p = pass (bytes_eq r.name name) r.ty (type_in rows name) h in
    ap (λ b. put_here b (row name ty) rows (r ∷ with_type rows name ty)) p.0 ∙ ap (λ more. r ∷ more) (with-new rows name ty p.1)

type_in-append : (rows : Rows) (r : Row Ty) (name : List ℕ) → type_in rows name ≡ None → bytes_eq r.name name ≡ false → type_in (rows ++ r ∷ []) name ≡ None
type_in-append [] r name h e = past (bytes_eq r.name name) r.ty None e refl
type_in-append (s ∷ rows) r name h e =
    let p = pass (bytes_eq s.name name) s.ty (type_in rows name) h in
    past (bytes_eq s.name name) s.ty (type_in (rows ++ r ∷ []) name) p.0 (type_in-append rows r name p.1 e)

fresh-next : (rows : Rows) (r : Row Ty) (more : Rows) → type_in more r.name ≡ None → Fresh rows more → Fresh (rows ++ r ∷ []) more
fresh-next rows r [] h f = tt
fresh-next rows r (s ∷ more) h f =
    let p = pass (bytes_eq s.name r.name) s.ty (type_in more r.name) h in
    (type_in-append rows r s.name f.0 (nat_list_eq_equiv.symm r.name s.name ∙ p.0), fresh-next rows r more p.1 f.1)

grown-fresh : (rows more : Rows) → Fresh rows more → Apart more → grown rows more ≡ rows ++ more
grown-fresh rows [] f a = sym (append-nil rows)
grown-fresh rows (r ∷ more) f a =
    ap (λ rs. grown rs more) (with-new rows r.name r.ty f.0)
    ∙ grown-fresh (rows ++ r ∷ []) more (fresh-next rows r more a.0 f.1) a.1
    ∙ append_assoc rows (r ∷ []) more

fresh-nil : (rows : Rows) → Fresh [] rows
fresh-nil [] = tt
fresh-nil (r ∷ rows) = (refl, fresh-nil rows)

pub grown_apart : (rows : Rows) → Apart rows → grown [] rows ≡ rows
grown_apart rows a = grown-fresh [] rows (fresh-nil rows) a

pub grown_both : (rows more others : Rows) → grown (grown rows more) others ≡ grown rows (more ++ others)
grown_both rows [] others = refl
grown_both rows (r ∷ more) others = grown_both (with_type rows r.name r.ty) more others

-- the rows from an index on begin with what stands there
pub grown_next : (step : Row Ty → Rows) (rows : Rows) (es : Entries) (i : ℕ) →
    grown rows (flat_map step (seen_rows (drop i es)))
    ≡ grown (grown rows (rows_at step (slice_get es i))) (flat_map step (seen_rows (drop (suc i) es)))
grown_next step rows [] zero = refl
grown_next step rows [] (suc i) = refl
grown_next step rows (e ∷ es) zero = sym (grown_both rows (step (row e.0 e.1)) (flat_map step (seen_rows es)))
grown_next step rows (e ∷ es) (suc i) = grown_next step rows es i

flat-alone : (rows : Rows) → flat_map alone rows ≡ rows
flat-alone [] = refl
flat-alone (r ∷ rows) = ap (λ more. r ∷ more) (flat-alone rows)

-- ---- the rows of a map

absent : (es : Entries) (name : List ℕ) → AllByRecursion (λ k. bytes_eq name k ≡ false) (keys_of es) → type_in (seen_rows es) name ≡ None
absent [] name h = refl
absent (e ∷ es) name h = past (bytes_eq e.0 name) e.1 (type_in (seen_rows es) name) (nat_list_eq_equiv.symm e.0 name ∙ h.0) (absent es name h.1)

pub apart_rows : (es : Entries) → IsDistinct bytes_eq (keys_of es) → Apart (seen_rows es)
unfolding IsDistinct
apart_rows [] d = tt
apart_rows (e ∷ es) d = (absent es e.0 d.0, apart_rows es d.1)

-- ---- the rows of a join

module _ {X : Type 0} (L : Language Ty X) where
  joined-absent : (rows others : Rows) (name : List ℕ) → type_in rows name ≡ None → type_in (map (joined_row L others) rows) name ≡ None
  joined-absent [] others name h = refl
  joined-absent (r ∷ rows) others name h =
      let p = pass (bytes_eq r.name name) r.ty (type_in rows name) h in
      past (bytes_eq r.name name) (L.any r.ty (variable_type L others r.name)) (type_in (map (joined_row L others) rows) name) p.0 (joined-absent rows others name p.1)

  apart-joined : (rows others : Rows) → Apart rows → Apart (map (joined_row L others) rows)
  apart-joined [] others a = tt
  apart-joined (r ∷ rows) others a = (joined-absent rows others r.name a.0, apart-joined rows others a.1)

  missing-absent : (rows others : Rows) (name : List ℕ) → type_in others name ≡ None → type_in (missing_rows L rows others) name ≡ None
  missing-absent rows [] name h = refl
  missing-absent rows (r ∷ others) name h =
      let p = pass (bytes_eq r.name name) r.ty (type_in others name) h in by (type_in rows r.name) p.0 (missing-absent rows others name p.1)
    where
      by : (found : Option Ty) → bytes_eq r.name name ≡ false → type_in (missing_rows L rows others) name ≡ None →
          type_in (if_missing L found r (missing_rows L rows others)) name ≡ None
      by None e rest = past (bytes_eq r.name name) (L.any (nil_type L) r.ty) (type_in (missing_rows L rows others) name) e rest
      by (Some ty) e rest = rest

  apart-missing : (rows others : Rows) → Apart others → Apart (missing_rows L rows others)
  apart-missing rows [] a = tt
  apart-missing rows (r ∷ others) a = by (type_in rows r.name) (missing-absent rows others r.name a.0) (apart-missing rows others a.1)
    where
      by : (found : Option Ty) → type_in (missing_rows L rows others) r.name ≡ None → Apart (missing_rows L rows others) →
          Apart (if_missing L found r (missing_rows L rows others))
      by None e rest = (e, rest)
      by (Some ty) e rest = rest

  -- a name that stands in the first rows is none of those that the second have alone
  present : (rows others : Rows) (name : List ℕ) (ty : Ty) → type_in rows name ≡ Some ty → type_in (missing_rows L rows others) name ≡ None
  present rows [] name ty h = refl
  present rows (r ∷ others) name ty h = by (type_in rows r.name) refl (present rows others name ty h)
    where
      other : (b : Bool) → bytes_eq r.name name ≡ b → type_in rows r.name ≡ None → b ≡ false
      other true e n = absurd (some-none ty (sym h ∙ ap (type_in rows) (sym ((bytes_decides r.name name).0 e)) ∙ n))
      other false e n = refl

      by : (found : Option Ty) → type_in rows r.name ≡ found → type_in (missing_rows L rows others) name ≡ None →
          type_in (if_missing L found r (missing_rows L rows others)) name ≡ None
      by None n rest = past (bytes_eq r.name name) (L.any (nil_type L) r.ty) (type_in (missing_rows L rows others) name) (other (bytes_eq r.name name) refl n) rest
      by (Some u) n rest = rest

  apart-both : (rows more : Rows) → Apart rows → Apart more → ((name : List ℕ) (ty : Ty) → type_in rows name ≡ Some ty → type_in more name ≡ None) → Apart (rows ++ more)
  apart-both [] more a b f = b
  apart-both (r ∷ rows) more a b f = (append-absent rows a.0, apart-both rows more a.1 b (λ name ty h. f name (later name ty h).0 (later name ty h).1))
    where
      here : type_in more r.name ≡ None
      here = f r.name r.ty (ap (λ c. or_found c r.ty (type_in rows r.name)) (nat_list_eq_equiv.refl r.name))

      append-absent : (rs : Rows) → type_in rs r.name ≡ None → type_in (rs ++ more) r.name ≡ None
      append-absent [] h = here
      append-absent (s ∷ rs) h =
          let p = pass (bytes_eq s.name r.name) s.ty (type_in rs r.name) h in
          past (bytes_eq s.name r.name) s.ty (type_in (rs ++ more) r.name) p.0 (append-absent rs p.1)

      found : (c : Bool) (name : List ℕ) (ty : Ty) → type_in rows name ≡ Some ty → (u : Ty) × (or_found c r.ty (type_in rows name) ≡ Some u)
      found true name ty h = (r.ty, refl)
      found false name ty h = (ty, h)

      later : (name : List ℕ) (ty : Ty) → type_in rows name ≡ Some ty → (u : Ty) × (type_in (r ∷ rows) name ≡ Some u)
      later name ty h = found (bytes_eq r.name name) name ty h

  joined-found : (rows others : Rows) (name : List ℕ) (ty : Ty) → type_in (map (joined_row L others) rows) name ≡ Some ty → (u : Ty) × (type_in rows name ≡ Some u)
  joined-found [] others name ty h = absurd (some-none ty (sym h))
  joined-found (r ∷ rows) others name ty h = by (bytes_eq r.name name) (λ e. joined-found rows others name ty e) h
    where
      by : (c : Bool) → (type_in (map (joined_row L others) rows) name ≡ Some ty → (u : Ty) × (type_in rows name ≡ Some u)) →
          or_found c (L.any r.ty (variable_type L others r.name)) (type_in (map (joined_row L others) rows) name) ≡ Some ty →
          (u : Ty) × (or_found c r.ty (type_in rows name) ≡ Some u)
      by true rest e = (r.ty, refl)
      by false rest e = rest e

  pub apart_join : (rows others : Rows) → Apart rows → Apart others → Apart (joined_rows L rows others)
  apart_join rows others a b =
      apart-both (map (joined_row L others) rows) (missing_rows L rows others) (apart-joined rows others a) (apart-missing rows others b)
      (λ name ty h. let u = joined-found rows others name ty h in present rows others name u.0 u.1)

  flat-joining : (others rows : Rows) → flat_map (joining L others) rows ≡ map (joined_row L others) rows
  flat-joining others [] = refl
  flat-joining others (r ∷ rows) = ap (λ more. joined_row L others r ∷ more) (flat-joining others rows)

  flat-missing : (rows others : Rows) → flat_map (missing L rows) others ≡ missing_rows L rows others
  flat-missing rows [] = refl
  flat-missing rows (r ∷ others) =
      ap (λ more. if_missing L (type_in rows r.name) r [] ++ more) (flat-missing rows others) ∙ by (type_in rows r.name)
    where
      by : (found : Option Ty) → if_missing L found r [] ++ missing_rows L rows others ≡ if_missing L found r (missing_rows L rows others)
      by None = refl
      by (Some ty) = refl

  -- what the join of two maps is, row after row
  pub grown_join : (rows others : Rows) → Apart rows → Apart others →
      grown (grown [] (map (joined_row L others) rows)) (missing_rows L rows others) ≡ joined_rows L rows others
  grown_join rows others a b =
      grown_both [] (map (joined_row L others) rows) (missing_rows L rows others) ∙ grown_apart (joined_rows L rows others) (apart_join rows others a b)

  pub join_is : (es fs all joined : Entries) → IsDistinct bytes_eq (keys_of es) → IsDistinct bytes_eq (keys_of fs) →
      seen_rows joined ≡ grown [] (flat_map (joining L (seen_rows fs)) (seen_rows es)) →
      seen_rows all ≡ grown (seen_rows joined) (flat_map (missing L (seen_rows es)) (seen_rows fs)) →
      seen_rows all ≡ joined_rows L (seen_rows es) (seen_rows fs)
  join_is es fs all joined d e p q =
      q
      ∙ ap (λ rows. grown rows (flat_map (missing L (seen_rows es)) (seen_rows fs))) (p ∙ ap (λ rows. grown [] rows) (flat-joining (seen_rows fs) (seen_rows es)))
      ∙ ap (λ rows. grown (grown [] (map (joined_row L (seen_rows fs)) (seen_rows es))) rows) (flat-missing (seen_rows es) (seen_rows fs))
      ∙ grown_join (seen_rows es) (seen_rows fs) (apart_rows es d) (apart_rows fs e)

-- a map whose rows were put one after the other into an empty one
pub copy_is : (es all : Entries) → IsDistinct bytes_eq (keys_of es) → seen_rows all ≡ grown [] (flat_map alone (seen_rows es)) → seen_rows all ≡ seen_rows es
copy_is es all d p = p ∙ ap (λ rows. grown [] rows) (flat-alone (seen_rows es)) ∙ grown_apart (seen_rows es) (apart_rows es d)
