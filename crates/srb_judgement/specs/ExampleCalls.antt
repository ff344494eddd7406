-- The methods of the small language, and how its calls answer.
use Rattle.std.specs.Prelude.{ℕ, Bool, true, false, List, [], ◌∷◌, ◌++◌, codes, bytes_eq, if◌then◌else◌, Option, Some, None}
use Rattle.srb_terms.specs.NameSets.{has_name}
use Rattle.srb_terms.specs.declared.diag.Diag.{Diag}
use Rattle.srb_terms.specs.declared.span.Span.{Span}
use Rattle.srb_judgement.specs.Errors.{error}
use Rattle.srb_judgement.specs.ExampleTypes.{Ty, Untyped, Union, NEVER, BOOLEAN, of, any, is_sub, show, array}
use Rattle.srb_judgement.specs.Languages.{Given, Named, GivenBlock, Sent, Answer}

-- a method: the types of what it takes by place, those of its block's parameters, and its result by B
pub record Method : Type 0 where
  pub params : List Ty
  pub block : List Ty
  pub result : Ty → Ty

abbrev pub plain : List Ty → Ty → Method
plain params result = record { params = params; block = []; result = λ b. result }

-- `+` and `length`, tests, a setter and an index with a writer
abbrev pub method_of : List ℕ → List ℕ → Option Method
method_of part name =
    if bytes_eq name (codes "nil?") then Some (plain [] BOOLEAN)
    else (if bytes_eq name (codes "is_a?") then Some (plain (Untyped ∷ []) BOOLEAN)
    else (if bytes_eq name (codes "===") then Some (plain (Untyped ∷ []) BOOLEAN)
    else (if bytes_eq name (codes "==") then Some (plain (Untyped ∷ []) BOOLEAN)
    -- on `self`: a condition, something untyped, one that doesn't return, one that takes anything, a maker of integers
    else (if bytes_eq name (codes "c") then Some (plain [] BOOLEAN)
    else (if bytes_eq name (codes "u") then Some (plain [] Untyped)
    else (if bytes_eq name (codes "key") then Some (plain [] (of (codes "Integer")))
    else (if bytes_eq name (codes "raise") then Some (plain [] NEVER)
    else (if bytes_eq name (codes "take") then Some (plain (Untyped ∷ []) (of (codes "Integer")))
    else (if bytes_eq name (codes "int") then Some (plain (of (codes "Integer") ∷ []) (of (codes "Integer")))
    -- a block that is given integers, and one whose type makes an array
    else (if bytes_eq name (codes "each") then Some (record { params = []; block = of (codes "Integer") ∷ []; result = λ b. of (codes "Integer") })
    else (if bytes_eq name (codes "map") then Some (record { params = []; block = of (codes "Integer") ∷ []; result = array })
    else (if bytes_eq name (codes "+") then (if has_name part (codes "Integer" ∷ codes "String" ∷ []) then Some (plain (of part ∷ []) (of part)) else None)
    else (if bytes_eq name (codes "kind_of?") then Some (plain (Untyped ∷ []) BOOLEAN)
    else (if bytes_eq name (codes "length") then (if bytes_eq part (codes "String") then Some (plain [] (of (codes "Integer"))) else None)
    else (if bytes_eq name (codes "-@") then (if bytes_eq part (codes "Integer") then Some (plain [] (of part)) else None)
    else (if bytes_eq name (codes "b") then (if bytes_eq part (codes "A") then Some (plain [] (Union (codes "Integer" ∷ codes "NilClass" ∷ []))) else None)
    else (if bytes_eq name (codes "b=") then (if bytes_eq part (codes "A") then Some (plain (of (codes "Integer") ∷ []) Untyped) else None)
    else (if bytes_eq name (codes "[]") then (if bytes_eq part (codes "A") then Some (plain (of (codes "Integer") ∷ []) (of (codes "Integer"))) else None)
    else (if bytes_eq name (codes "[]=") then (if bytes_eq part (codes "A") then Some (plain (of (codes "Integer") ∷ of (codes "Integer") ∷ []) Untyped) else None)
    else (if bytes_eq name (codes "new") then (if bytes_eq part (codes "T.class_of(A)") then Some (plain [] (of (codes "A"))) else None)
    else None))))))))))))))))))))

-- ---- answers

abbrev pub answer : Ty → List Ty → List Diag → Answer Ty
answer result block errors = record { result = result; block = block; errors = errors }

abbrev pub missing : Sent Ty → List ℕ → Answer Ty
missing call part = answer Untyped [] (error call.name_span 7003 (codes "method " ++ call.name ++ codes " does not exist on " ++ part) ∷ [])

abbrev pub check_one : Bool → Span → List ℕ → Ty → Ty → List Diag
check_one true span name expected found = []
check_one false span name expected found =
    error span 7002 (codes "argument arg0 of " ++ name ++ codes " expects " ++ show expected ++ codes ", found " ++ show found) ∷ []

abbrev pub check_all : Sent Ty → List Ty → List (Given Ty) → List Diag
check_all call [] [] = []
check_all call [] (g ∷ given) = error call.name_span 7004 (codes "too many arguments for " ++ call.name) ∷ []
check_all call (t ∷ types) [] = error call.name_span 7004 (codes "too few arguments for " ++ call.name) ∷ []
check_all call (t ∷ types) (g ∷ given) = check_one (is_sub g.ty t) g.span call.name t g.ty ++ check_all call types given

-- an argument by its name is an integer, whatever its method
abbrev pub check_key : Bool → Span → List ℕ → List ℕ → Ty → List Diag
check_key true span key name found = []
check_key false span key name found =
    error span 7002 (codes "argument " ++ key ++ codes " of " ++ name ++ codes " expects Integer, found " ++ show found) ∷ []

abbrev pub check_keys : Sent Ty → List (Named Ty) → List Diag
check_keys call [] = []
check_keys call (k ∷ keys) = check_key (is_sub k.ty (of (codes "Integer"))) k.span k.name call.name k.ty ++ check_keys call keys

abbrev pub block_type : Option (GivenBlock Ty) → Ty
block_type None = Untyped
block_type (Some b) = b.ty

abbrev pub found : Sent Ty → List ℕ → Option Method → Answer Ty
found call part None = missing call part
found call part (Some m) = answer (m.result (block_type call.block)) m.block (check_all call m.params call.positional ++ check_keys call call.keys)

abbrev pub with_answer : Answer Ty → Answer Ty → Answer Ty
with_answer so_far a = answer (any so_far.result a.result) a.block (so_far.errors ++ a.errors)

-- "On a union each part answers by itself"
abbrev pub by_parts : Sent Ty → Answer Ty → List (List ℕ) → Answer Ty
by_parts call so_far [] = so_far
by_parts call so_far (p ∷ parts) = by_parts call (with_answer so_far (found call p (method_of p call.name))) parts

abbrev pub on_type : Sent Ty → Ty → Answer Ty
on_type call Untyped = answer Untyped [] (error call.name_span 7018 (codes "call of " ++ call.name ++ codes " on an untyped receiver") ∷ [])
on_type call (Union parts) = by_parts call (answer NEVER [] []) parts

abbrev pub call : Sent Ty → Answer Ty
call c = on_type c c.receiver
