-- The outlines of types and of `sig` statements, as trees that are read from source have them.
use Rattle.std.specs.Prelude.{ℕ, List, [], ◌∷◌, codes}
use Rattle.srb_terms.specs.declared.outline.Outline.{Outline}
use Rattle.srb_terms.specs.declared.outline.Outline.TheViews.{roll-Outline}
use Rattle.srb_terms.specs.declared.outline.NodeKind.{NodeKind}
use Rattle.srb_terms.specs.declared.outline.NodeKind.TheVariants as kind

-- the outline of a kind, with words and parts
abbrev pub outline : NodeKind → List ℕ → List Outline → Outline
outline k words parts = roll-Outline (record { label = record { kind = k; words = words }; parts = parts })

-- `Name`
abbrev pub constant : List ℕ → Outline
constant name = outline kind.Constant name []

-- `(X, ..)` after the name of a call
abbrev pub brackets : List Outline → Outline
brackets arguments = outline kind.Brackets [] arguments

-- `name: X` among arguments
abbrev pub keyword : List ℕ → Outline → Outline
keyword name value = outline kind.Keyword name (value ∷ [])

-- what follows `T` in each form that begins so
abbrev pub t_with : List Outline → Outline
t_with suffixes = outline kind.Post [] (constant (codes "T") ∷ suffixes)

-- `T.untyped`, `T.noreturn`
abbrev pub t_word : List ℕ → Outline
t_word name = t_with (outline kind.SuffixCall name [] ∷ [])

-- `T::Boolean`
abbrev pub t_boolean : Outline
t_boolean = t_with (outline kind.SuffixConstant (codes "Boolean") [] ∷ [])

-- `T.nilable(X)`
abbrev pub t_nilable : Outline → Outline
t_nilable x = t_with (outline kind.SuffixCall (codes "nilable") (brackets (x ∷ []) ∷ []) ∷ [])

-- `T::Array[X]`, `T::Hash[X, Y]`: a name, and what stands in brackets after it
abbrev pub t_indexed : List ℕ → List Outline → Outline
t_indexed name arguments = t_with (outline kind.SuffixConstant name [] ∷ outline kind.Index [] arguments ∷ [])

abbrev pub t_array : Outline → Outline
t_array x = t_indexed (codes "Array") (x ∷ [])

abbrev pub t_hash : Outline → Outline → Outline
t_hash x y = t_indexed (codes "Hash") (x ∷ y ∷ [])

-- `returns(X)`, and `params(name: X, ..).returns(X)`
abbrev pub returns : Outline → Outline
returns result = outline kind.Call (codes "returns") (brackets (result ∷ []) ∷ [])

abbrev pub params_returns : List Outline → Outline → Outline
params_returns keywords result = outline kind.Post []
    (outline kind.Call (codes "params") (brackets keywords ∷ [])
    ∷ outline kind.SuffixCall (codes "returns") (brackets (result ∷ []) ∷ [])
    ∷ [])

-- the chain of a signature, which has no `params` where there are no keywords
abbrev pub chain : List Outline → Outline → Outline
chain [] result = returns result
chain (first ∷ rest) result = params_returns (first ∷ rest) result

-- `sig { .. }`
abbrev pub sig : Outline → Outline
sig statement = outline kind.Call (codes "sig") (outline kind.Block [] (outline kind.Body [] (statement ∷ []) ∷ []) ∷ [])
