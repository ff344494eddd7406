-- Types that the rules name, and their parts.
use Rattle.std.specs.Prelude.{Bool, true, false, List, [], ◌∷◌, codes}
use Rattle.srb_judgement.specs.Languages.{Language}

module _ {T X : Type 0} (L : Language T X) where
  abbrev pub nil_type : T
  nil_type = L.instance (codes "NilClass")

  abbrev pub false_type : T
  false_type = L.instance (codes "FalseClass")

  abbrev pub boolean_type : T
  boolean_type = L.any (L.instance (codes "TrueClass")) false_type

  -- "`truthy(t)` is t without `NilClass` and `FalseClass`."
  abbrev pub truthy : T → T
  truthy t = L.without (L.without t nil_type) false_type

  -- "`falsy(t)` meets t with `T.any(NilClass, FalseClass)`."
  abbrev pub falsy : T → T
  falsy t = L.meet t (L.any nil_type false_type)

  -- whether a type has `NilClass`
  abbrev pub has_nil : T → Bool
  has_nil t = L.is_sub nil_type t

  -- the `T.any` of a list of types, `T.noreturn` where it is empty
  abbrev pub any_after : T → List T → T
  any_after so_far [] = so_far
  any_after so_far (t ∷ ts) = any_after (L.any so_far t) ts

  abbrev pub any_of : List T → T
  any_of ts = any_after L.never ts

  -- this type where the test holds, and else none
  abbrev pub type_if : Bool → T → T
  type_if true t = t
  type_if false t = L.never
