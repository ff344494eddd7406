-- The letters of the built-in table, which a call puts in their places.
--
-- They stand in the types of built-in methods as classes whose names begin with `%`. Names are the lists of their bytes.
use Rattle.std.specs.Prelude.{ℕ, Bool, false, ◌||◌, List, [], ◌∷◌, codes, bytes_eq, nat_eq, if◌then◌else◌}
use Rattle.std.specs.List.{list_any}
use Rattle.srb_terms.specs.declared.ty.Ty.{Ty, out-Ty, fold-Ty}
use Rattle.srb_terms.specs.declared.ty.Ty.TheOpen.{Ty-F}
use Rattle.srb_terms.specs.declared.ty.Ty.TheVariants as ty
use Rattle.srb_shapes.specs.Comparing.{is_sub_of}
use Rattle.srb_shapes.specs.Lineages.{Lineage}
use Rattle.srb_types.specs.Normal.{any_list, array_of, hash_of, without_of}
use Rattle.srb_calls.specs.declared.args.Arg.{Arg}

-- ---- what the letters stand for

-- E: the elements of an array; `T.untyped` where the receiver's part is none
abbrev pub element_at : Ty-F Ty → Ty
element_at (Ty-F.Arr e) = e
element_at _ = ty.Untyped

unfoldable pub element_of : Ty → Ty
element_of part = element_at (out-Ty part)

-- K and V: the keys and the values of a hash
abbrev pub key_at : Ty-F Ty → Ty
key_at (Ty-F.Hsh k v) = k
key_at _ = ty.Untyped

unfoldable pub key_of : Ty → Ty
key_of part = key_at (out-Ty part)

abbrev pub value_at : Ty-F Ty → Ty
value_at (Ty-F.Hsh k v) = v
value_at _ = ty.Untyped

unfoldable pub value_of : Ty → Ty
value_of part = value_at (out-Ty part)

-- N: Integer where the argument is a subtype of Integer, else Float where of Float, else Numeric; Numeric without an argument
abbrev pub class : List ℕ → Ty
class name = ty.Class name

abbrev pub number_by : Lineage → Ty → Ty
number_by L t =
    if is_sub_of L t (class (codes "Integer")) then class (codes "Integer")
    else (if is_sub_of L t (class (codes "Float")) then class (codes "Float") else class (codes "Numeric"))

abbrev pub number_of : Lineage → List Arg → Ty
number_of L [] = class (codes "Numeric")
number_of L (a ∷ more) = number_by L a.ty

-- The type of a name, for a part of the receiver, the arguments by place and the type of the block (B). C is E without NilClass, and
-- `self` is the receiver's part.
abbrev pub letter_of : Lineage → Ty → List Arg → Ty → List ℕ → Ty
letter_of L part positional block name =
    if bytes_eq name (codes "%E") then element_of part
    else (if bytes_eq name (codes "%K") then key_of part
    else (if bytes_eq name (codes "%V") then value_of part
    else (if bytes_eq name (codes "%B") then block
    else (if bytes_eq name (codes "%N") then number_of L positional
    else (if bytes_eq name (codes "%self") then part
    else (if bytes_eq name (codes "%C") then without_of L (element_of part) (class (codes "NilClass"))
    else class name))))))

-- ---- types with letters

-- whether the name begins with `%`
abbrev pub is_letter : List ℕ → Bool
is_letter [] = false
is_letter (b ∷ rest) = nat_eq b 37

-- whether a letter stands in a type
abbrev pub has_letter_at : Ty-F Bool → Bool
has_letter_at Ty-F.Untyped = false
has_letter_at Ty-F.Never = false
has_letter_at (Ty-F.Class name) = is_letter name
has_letter_at (Ty-F.Meta name) = false
has_letter_at (Ty-F.Arr e) = e
has_letter_at (Ty-F.Hsh k v) = k || v
has_letter_at (Ty-F.Any ps) = list_any (λ b. b) ps
has_letter_at (Ty-F.All ms) = list_any (λ b. b) ms

unfoldable pub has_letter : Ty → Bool
has_letter = fold-Ty Bool (λ t. has_letter_at t)

-- A type in normal form by what stands for the names in it. No letter stands in an intersection.
abbrev pub put_at : (List ℕ → Ty) → Lineage → Ty-F Ty → Ty
put_at letter L Ty-F.Untyped = ty.Untyped
put_at letter L Ty-F.Never = ty.Never
put_at letter L (Ty-F.Class name) = letter name
put_at letter L (Ty-F.Meta name) = ty.Meta name
put_at letter L (Ty-F.Arr e) = array_of L e
put_at letter L (Ty-F.Hsh k v) = hash_of L k v
put_at letter L (Ty-F.Any ps) = any_list L ps
put_at letter L (Ty-F.All ms) = ty.All ms

unfoldable pub put_anew : Lineage → Ty → List Arg → Ty → Ty → Ty
put_anew L part positional block = fold-Ty Ty (λ t. put_at (letter_of L part positional block) L t)

-- a type of a method with the letters put in, in normal form; a type without letters stays as it is
unfoldable pub put_in : Lineage → Ty → List Arg → Ty → Ty → Ty
put_in L part positional block t = if has_letter t then put_anew L part positional block t else t
