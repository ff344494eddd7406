-- The parameters of a method. Required ones come before optional ones, then keywords, then a block, and no name stands twice.
use Rattle.std.specs.Prelude.{ℕ, zero, suc, Bool, true, false, not, ◌||◌, if◌then◌else◌, List, [], ◌∷◌, ◌++◌, Option, Some, None, Ok, Err}
use Rattle.std.specs.Str.{bytes_eq}
use Rattle.std.specs.List.{list_any}
use Rattle.srb_terms.specs.declared.param_kind.ParamKind.{ParamKind}
use Rattle.srb_terms.specs.declared.param_kind.ParamKind.TheVariants as param_kind
use Rattle.srb_terms.specs.declared.span.Span.{Span}
use Rattle.rb_tree.specs.declared.syntax.Tree.{Tree}
use Rattle.rb_tree.specs.declared.syntax.Parameter.{Parameter}
use Rattle.rb_tree.specs.declared.token.Token.{Token}
use Rattle.rb_tree.specs.declared.token.TokenKind.{TokenKind}
use Rattle.rb_tree.specs.declared.token.TokenKind.TheVariants as kind
use Rattle.rb_tree.specs.declared.token.Shape.TheVariants as shape
use Rattle.rb_expr.specs.Reading.{Outcome, Parser, ◌>>=◌, pure, refuse, sees, after, expect, skip_separators}
use Rattle.rb_expr.specs.Rules.{tern}
use Rattle.rb_decl.specs.declared.parameter.Stage.{Stage}
use Rattle.rb_decl.specs.declared.parameter.Stage.TheVariants as stages

-- ---- what the parameters so far say about the next one

-- which parameters may come after one of this kind
abbrev pub stage_after : ParamKind → Stage
stage_after param_kind.Required = stages.Required
stage_after param_kind.Optional = stages.Optional
stage_after param_kind.Key = stages.Keyword
stage_after param_kind.KeyOptional = stages.Keyword
stage_after param_kind.Block = stages.Block
stage_after param_kind.Rest = stages.Keyword

-- the name is one of these
abbrev pub is_among : List (List ℕ) → List ℕ → Bool
is_among names words = list_any (bytes_eq words) names

-- the name, if it is none of these
unfoldable pub fresh : List (List ℕ) → List ℕ → Option (List ℕ)
fresh names words = if is_among names words then None else Some words

-- the names with one more, if it is none of them
abbrev pub noted : List (List ℕ) → List ℕ → List (List ℕ)
noted names words = if is_among names words then names else names ++ words ∷ []

-- a parameter that is no keyword and no block may come
abbrev pub is_plain : Stage → Bool
is_plain stages.Required = true
is_plain stages.Optional = true
is_plain _ = false

-- a required one may come
abbrev pub is_first : Stage → Bool
is_first stages.Required = true
is_first _ = false

-- none may come
abbrev pub is_last : Stage → Bool
is_last stages.Block = true
is_last _ = false

-- ---- one parameter

abbrev pub parameter_of : ParamKind → List ℕ → Span → Option Tree → Parameter Tree
parameter_of k name span default = record { kind = k; name = name; span = span; default = default }

-- after the name of a parameter that is no keyword
unfoldable pub plain : ℕ → Stage → List ℕ → Span → Parser (Parameter Tree)
plain d stage words span = λ i.
    if sees shape.Assign i then (tern d >>= (λ default. pure (parameter_of param_kind.Optional words span (Some default)))) (after i)
    else (if is_first stage then Ok (parameter_of param_kind.Required words span None, i) else Err i)

-- no default stands after the label of a keyword
abbrev pub has_no_default : List Token → Bool
has_no_default i = sees shape.Comma i || sees shape.CloseParen i || sees shape.Separator i

-- after the label of a keyword
unfoldable pub keyword : ℕ → List ℕ → Span → Parser (Parameter Tree)
keyword d words span = λ i.
    if has_no_default i then Ok (parameter_of param_kind.Key words span None, i)
    else (tern d >>= (λ default. pure (parameter_of param_kind.KeyOptional words span (Some default)))) i

abbrev block_by : Token → List Token → Option (List ℕ) → Outcome (Parameter Tree)
block_by t ts (Some name) = Ok (parameter_of param_kind.Block name t.span None, ts)
block_by t ts None = Err (t ∷ ts)

abbrev block_as : List (List ℕ) → Token → List Token → TokenKind → Outcome (Parameter Tree)
block_as names t ts (kind.Identifier words) = block_by t ts (fresh names words)
block_as names t ts _ = Err (t ∷ ts)

-- after the `&` of a block
unfoldable pub block : List (List ℕ) → Parser (Parameter Tree)
block names [] = Err []
block names (t ∷ ts) = block_as names t ts t.kind

abbrev plain_by : ℕ → Stage → Token → List Token → Option (List ℕ) → Outcome (Parameter Tree)
plain_by d stage t ts (Some name) = plain d stage name t.span ts
plain_by d stage t ts None = Err (t ∷ ts)

abbrev keyword_by : ℕ → Token → List Token → Option (List ℕ) → Outcome (Parameter Tree)
keyword_by d t ts (Some name) = keyword d name t.span ts
keyword_by d t ts None = Err (t ∷ ts)

abbrev parameter_as : ℕ → Stage → List (List ℕ) → Token → List Token → TokenKind → Outcome (Parameter Tree)
parameter_as d stage names t ts (kind.Identifier words) = if is_plain stage then plain_by d stage t ts (fresh names words) else Err (t ∷ ts)
parameter_as d stage names t ts (kind.Label words) = keyword_by d t ts (fresh names words)
parameter_as d stage names t ts kind.Ampersand = block names ts
parameter_as d stage names t ts _ = Err (t ∷ ts)

-- a parameter after others that have these names and leave this stage
unfoldable pub parameter : ℕ → Stage → List (List ℕ) → Parser (Parameter Tree)
parameter d stage names [] = Err []
parameter d stage names (t ∷ ts) = parameter_as d stage names t ts t.kind

-- ---- rows of parameters

-- separators may stand after a comma in brackets alone
abbrev pub after_comma : Bool → List Token → List Token
after_comma in_brackets i = if in_brackets then skip_separators (after i) else after i

-- a row is over after a parameter that leaves this stage
abbrev pub is_over : Stage → List Token → Bool
is_over stage i = is_last stage || not (sees shape.Comma i)

-- After the parameters `found`, which have these names, and, but for the first, a comma. The number bounds the parameters.
unfoldable pub row_from : ℕ → Bool → ℕ → Stage → List (List ℕ) → List (Parameter Tree) → Parser (List (Parameter Tree))
row_from d in_brackets zero stage names found = refuse
row_from d in_brackets (suc n) stage names found =
    parameter d stage names >>= (λ x i.
    if is_over (stage_after x.kind) i then Ok (found ++ x ∷ [], i)
    else row_from d in_brackets n (stage_after x.kind) (noted names x.name) (found ++ x ∷ []) (after_comma in_brackets i))

-- one or more parameters with commas between
unfoldable pub row : ℕ → Bool → Parser (List (Parameter Tree))
row d in_brackets = row_from d in_brackets d stages.Required [] []

-- parameters in brackets, after the opening one and separators
unfoldable pub bracketed : ℕ → Parser (List (Parameter Tree))
bracketed d = λ i.
    if sees shape.CloseParen i then Ok ([], after i)
    else (row d true >>= (λ found j. (expect shape.CloseParen >>= (λ _. pure found)) (skip_separators j))) i

-- parameters without brackets, after which a separator stands
unfoldable pub bare : ℕ → Parser (List (Parameter Tree))
bare d = λ i.
    if sees shape.Separator i then Ok ([], i)
    else (row d false >>= (λ found j. if sees shape.Separator j then Ok (found, j) else Err j)) i

-- the parameters of a method, after its name
unfoldable pub parameters_of : ℕ → Parser (List (Parameter Tree))
parameters_of d = λ i. if sees shape.OpenParen i then bracketed d (skip_separators (after i)) else bare d i
