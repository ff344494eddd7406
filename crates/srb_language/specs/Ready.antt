-- The types that the rules name, kept ready.
use Rattle.std.specs.Prelude.{◌≡◌, ℕ, Bool, not, List, codes}
use Rattle.srb_terms.specs.declared.ty.Ty.{Ty}
use Rattle.srb_terms.specs.declared.ty.Ty.TheVariants as ty
use Rattle.srb_shapes.specs.Lineages.{Lineage}
use Rattle.srb_types.specs.Normal.{any_of, meet_of, without_of}
use Rattle.srb_language.specs.Asked.{is_never}
use Rattle.srb_language.specs.declared.ready.Boolean.{Boolean}
use Rattle.srb_language.specs.declared.ready.Ready.{Ready}
use Rattle.srb_language.specs.declared.ready.Values.{Values}
use Rattle.srb_language.specs.declared.ready.Words.{Words}

abbrev pub class : List ℕ → Ty
class name = ty.Class name

-- whether a type has a part beside `NilClass` and `FalseClass`
abbrev pub has_truthy : Lineage → Ty → Bool
has_truthy L t = not (is_never (without_of L (without_of L t (class (codes "NilClass"))) (class (codes "FalseClass"))))

-- whether a type has a part of `NilClass` and `FalseClass`
abbrev pub has_falsy : Lineage → Ty → Bool
has_falsy L t = not (is_never (meet_of L t (any_of L (class (codes "NilClass")) (class (codes "FalseClass")))))

-- each is the class of its name
pub record AreValues (v : Values) : Type 0 where
  pub integer : v.integer ≡ class (codes "Integer")
  pub float : v.float ≡ class (codes "Float")
  pub string : v.string ≡ class (codes "String")
  pub symbol : v.symbol ≡ class (codes "Symbol")
  pub error : v.error ≡ class (codes "StandardError")

pub record AreWords (w : Words) : Type 0 where
  pub object : w.object ≡ class (codes "Object")
  pub nil : w.nil ≡ class (codes "NilClass")
  pub true_class : w.true_class ≡ class (codes "TrueClass")
  pub false_class : w.false_class ≡ class (codes "FalseClass")

-- `T::Boolean` and what it has, under these linearizations
pub record IsBoolean (L : Lineage) (b : Boolean) : Type 0 where
  pub ty : b.ty ≡ any_of L (class (codes "TrueClass")) (class (codes "FalseClass"))
  pub truthy : b.has_truthy ≡ has_truthy L b.ty
  pub falsy : b.has_falsy ≡ has_falsy L b.ty

-- the classes, `T::Boolean`, and the `T.any` of `NilClass` and `FalseClass`, under these linearizations
pub record AreReady (L : Lineage) (r : Ready) : Type 0 where
  pub words : AreWords r.words
  pub values : AreValues r.values
  pub boolean : IsBoolean L r.boolean
  pub nil_or_false : r.nil_or_false ≡ any_of L (class (codes "NilClass")) (class (codes "FalseClass"))
