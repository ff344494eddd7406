-- The methods of the table's texts.
--
-- A line holds methods of one class or module, with `;` between each two entries. An entry has the names of methods between backticks,
-- with blanks between them, and then what all of them have: parameters in `( )` if there are any, parameters of a block in `{ }` if
-- there are any, and the type of the result. `?` before a parameter's type says that it may be left out, and `*` that it takes all
-- further arguments.
use Rattle.std.specs.Prelude.{ℕ, suc, ◌==◌, false, if◌then◌else◌, List, [], ◌∷◌, ◌++◌, map, Option, Some, None, codes, flat_map}
use Rattle.srb_terms.specs.declared.fact.Fact.{Fact}
use Rattle.srb_terms.specs.declared.fact.Fact.TheVariants.{Method}
use Rattle.srb_terms.specs.declared.fact.ParamShape.{ParamShape}
use Rattle.srb_terms.specs.declared.outline.Outline.{Outline}
use Rattle.srb_terms.specs.declared.outline.SigText.{SigText}
use Rattle.srb_terms.specs.declared.param_kind.ParamKind.{ParamKind}
use Rattle.srb_terms.specs.declared.param_kind.ParamKind.TheVariants as param
use Rattle.srb_builtin.specs.declared.takes.Takes.{Takes}
use Rattle.srb_builtin.specs.Marks.{before, after, past, parts, words, or_text, unblanked, inside, outside, star, semicolon, question, backtick, round_open, round_close, curly_open, curly_close}
use Rattle.srb_builtin.specs.Outlines.{keyword, chain, sig}
use Rattle.srb_builtin.specs.Types.{type_in}

-- ---- parameters

-- the kind of a parameter by place, and the text of its type: by what follows `?`, and by what follows `*`
abbrev pub kind_by : Option (List ℕ) → Option (List ℕ) → ParamKind
kind_by (Some optional) rest = param.Optional
kind_by None (Some rest) = param.Rest
kind_by None None = param.Required

abbrev pub place_kind : List ℕ → ParamKind
place_kind text = kind_by (past question text) (past star text)

abbrev pub place_type : List ℕ → List ℕ
place_type text = or_text (or_text text (past star text)) (past question text)

-- the names of parameters by place and of a block's parameters, by their number from 0; no method of the table has more than three
abbrev pub place_name : ℕ → List ℕ
place_name n = if n == 0 then codes "arg0" else (if n == 1 then codes "arg1" else codes "arg2")

abbrev pub block_name : ℕ → List ℕ
block_name n = if n == 0 then codes "%0" else (if n == 1 then codes "%1" else codes "%2")

-- with one more parameter, of this name, kind and type
abbrev pub with_parameter : Takes → List ℕ → ParamKind → List ℕ → Takes
with_parameter takes name kind type = record {
  shapes = takes.shapes ++ record { name = name; kind = kind } ∷ [];
  keywords = takes.keywords ++ keyword name (type_in type) ∷ [];
}

-- with parameters by place, the first of which has this number
abbrev pub with_places : ℕ → Takes → List (List ℕ) → Takes
with_places n takes [] = takes
with_places n takes (text ∷ rest) =
    with_places (suc n) (with_parameter takes (place_name n) (place_kind text) (place_type text)) rest

-- with a block's parameters, the first of which has this number
abbrev pub with_block : ℕ → Takes → List (List ℕ) → Takes
with_block n takes [] = takes
with_block n takes (text ∷ rest) = with_block (suc n) (with_parameter takes (block_name n) param.Block text) rest

abbrev pub nothing : Takes
nothing = record { shapes = []; keywords = [] }

-- what the methods of an entry take, and what they give, by what follows their names
unfoldable pub takes_in : List ℕ → Takes
takes_in text =
    let places = words (inside round_open round_close text) in
    let block = words (inside curly_open curly_close (outside round_open round_close text)) in
    with_block 0 (with_places 0 nothing places) block

unfoldable pub result_in : List ℕ → Outline
result_in text = type_in (outside curly_open curly_close (outside round_open round_close text))

-- ---- methods

-- the method of an owner, by its name and by what follows the names
abbrev pub method : List ℕ → List ℕ → List ℕ → Fact
method owner text name =
    let takes = takes_in text in
    Method owner [] false name takes.shapes (Some (record { tree = sig (chain takes.keywords (result_in text)) }))

-- the methods of an entry
abbrev pub methods_of_entry : List ℕ → List ℕ → List Fact
methods_of_entry owner entry =
    let names = after backtick entry in
    map (method owner (unblanked (after backtick names))) (words (before backtick names))

-- the methods of a line
unfoldable pub methods_in : List ℕ → List ℕ → List Fact
methods_in owner line = flat_map (methods_of_entry owner) (parts semicolon line)
