-- The parts of trees are read back from their outlines, without places.
use Rattle.std.proofs.Common.{◌≡◌, ℕ, List, [], ◌∷◌, ◌++◌, map, Option, Some, None, refl, ap, ◌∙◌}
use Rattle.std.specs.Option.{option_map}
use Rattle.srb_terms.specs.declared.span.Span.{Span}
use Rattle.srb_terms.specs.declared.param_kind.ParamKind.{ParamKind}
use Rattle.srb_terms.specs.declared.outline.Outline.{Outline}
use Rattle.srb_terms.specs.declared.outline.NodeKind.TheVariants as kind
use Rattle.rb_tree.specs.declared.syntax.Tree.{Tree}
use Rattle.rb_tree.specs.declared.syntax.Sign.{Sign}
use Rattle.rb_tree.specs.declared.syntax.Dot.{Dot}
use Rattle.rb_tree.specs.declared.syntax.Dot.TheVariants as dot
use Rattle.rb_tree.specs.declared.syntax.Suffix.{Suffix}
use Rattle.rb_tree.specs.declared.syntax.Suffix.TheVariants as suffix
use Rattle.rb_tree.specs.declared.syntax.Argument.{Argument}
use Rattle.rb_tree.specs.declared.syntax.Argument.TheVariants as argument
use Rattle.rb_tree.specs.declared.syntax.Block.{Block}
use Rattle.rb_tree.specs.declared.syntax.Piece.{Piece}
use Rattle.rb_tree.specs.declared.syntax.Piece.TheVariants as piece
use Rattle.rb_tree.specs.declared.syntax.Pair.{Pair}
use Rattle.rb_tree.specs.declared.syntax.Pair.TheVariants as pair
use Rattle.rb_tree.specs.declared.syntax.Arm.{Arm}
use Rattle.rb_tree.specs.declared.syntax.When.{When}
use Rattle.rb_tree.specs.declared.syntax.PlacedName.{PlacedName}
use Rattle.rb_tree.specs.declared.syntax.Reference.{Reference}
use Rattle.rb_tree.specs.declared.syntax.Guarded.{Guarded}
use Rattle.rb_tree.specs.declared.syntax.Rescue.{Rescue}
use Rattle.rb_tree.specs.declared.syntax.Parameter.{Parameter}
use Rattle.rb_tree.specs.declared.syntax.Node.TheShapes.{former-Node-Command-1, former-Node-Command-2, former-Node-Post-1, former-Node-Text-0, former-Node-Call-2, former-Node-Hash-0, former-Node-If-3, former-Node-Case-1, former-Node-Begin-0, former-Node-Def-4}
use Rattle.rb_outline.specs.Outlines.{outline, dotted, sign_words, sign_outline, constant_outline, name_outline, superclass_outline, top_words, variable_words, param_words, parts_if, argument_outline, brackets_outline, block_outline, call_parts, suffix_outline, piece_outline, pair_outline, arm_outline, when_outline, else_outline, ensure_outline, rescue_outline, parameter_outline, guarded_parts, outline_of}
use Rattle.rb_outline_laws.specs.Unplaced.{nowhere, unplaced_name, unplaced_reference, unplaced_argument, unplaced_block, unplaced_suffix, unplaced_piece, unplaced_pair, unplaced_rescue, unplaced_parameter, unplaced_guarded, unplaced}
use Rattle.rb_outline_laws.proofs.Spelled.{sign-back, top-back, param-back}
use Rattle.rb_outline_laws.proofs.Reading.{Reading, a_tree, brackets, a_block, a_suffix, a_when, an_else, an_ensure, a_superclass, tree_in, tree_if, name_if, sign_if, argument_if, brackets_if, block_if, suffix_if, piece_if, pair_if, arm_if, when_if, rescue_if, parameter_if, found, taken, block_from, when_from, variable_in, rescue_from, parameter_from, guarded_from, guarded_in, reading_of, read, read-is}
use Rattle.rb_outline_laws.proofs.Rows.{ends, stops, one-more, whole, split-end}

-- what is shown of each tree: places play no part in its outline, and its outline is read as the tree without places
abbrev pub IsKept : Tree → Type 0
IsKept t = (outline_of (unplaced t) ≡ outline_of t) × (words : List ℕ) × (read (outline_of t) ≡ a_tree words (unplaced t))

abbrev pub Kept : Type 0
Kept = (t : Tree) × IsKept t

abbrev pub tree : Kept → Tree
tree e = e.0

abbrev pub is_read : (e : Kept) → read (outline_of e.0) ≡ a_tree e.1.1 (unplaced e.0)
is_read e = e.1.2

-- a row of trees, and of names
pub trees-read : (rest : List Outline) → taken tree_if (map read rest) ≡ ([], map read rest) → (es : List Kept) →
    taken tree_if (map read (map outline_of (map tree es) ++ rest)) ≡ (map unplaced (map tree es), map read rest)
trees-read rest stop [] = stop
trees-read rest stop (e ∷ es) = one-more tree_if _ _ _ _ _ (ap tree_if (is_read e)) (trees-read rest stop es)

pub constants-read : (rest : List Outline) → taken name_if (map read rest) ≡ ([], map read rest) → (ns : List PlacedName) →
    taken name_if (map read (map constant_outline ns ++ rest)) ≡ (map unplaced_name ns, map read rest)
constants-read rest stop [] = stop
constants-read rest stop (n ∷ ns) = one-more name_if _ _ _ _ _ (ap name_if (read-is kind.Constant n.name [])) (constants-read rest stop ns)

pub names-read : (ns : List PlacedName) → taken name_if (map read (map name_outline ns)) ≡ (map unplaced_name ns, [])
names-read [] = ends name_if
names-read (n ∷ ns) = one-more name_if _ _ _ _ _ (ap name_if (read-is kind.Name n.name [])) (names-read ns)

-- the sign of a number
pub sign-read : (s : Option Sign) → found sign_if (map read (parts_if sign_outline s)) ≡ s
sign-read None = refl
sign-read (Some s) = ap (λ r. found sign_if (r ∷ [])) (read-is kind.Unary (sign_words s) []) ∙ ap (λ z. Some z) (sign-back s)

-- ---- arguments and blocks

abbrev pub arguments_of : List (Argument Kept) → List (Argument Tree)
arguments_of xs = (former-Node-Command-1).map Kept Tree tree xs

abbrev pub unplaced_arguments : List (Argument Kept) → List (Argument Tree)
unplaced_arguments xs = map unplaced_argument ((former-Node-Command-1).map Tree Tree unplaced (arguments_of xs))

pub arguments-read : (rest : List Outline) → taken argument_if (map read rest) ≡ ([], map read rest) → (xs : List (Argument Kept)) →
    taken argument_if (map read (map (argument_outline outline_of) (arguments_of xs) ++ rest)) ≡ (unplaced_arguments xs, map read rest)
arguments-read rest stop [] = stop
arguments-read rest stop (argument.Positional e ∷ xs) = one-more argument_if _ _ _ _ _ (ap argument_if (is_read e)) (arguments-read rest stop xs)
arguments-read rest stop (argument.Keyword name span e ∷ xs) = one-more argument_if _ _ _ _ _
    (ap argument_if (read-is kind.Keyword name (outline_of e.0 ∷ [])) ∙ ap (λ r. Some (argument.Keyword name nowhere (tree_in r))) (is_read e))
    (arguments-read rest stop xs)
arguments-read rest stop (argument.Block span e ∷ xs) = one-more argument_if _ _ _ _ _
    (ap argument_if (read-is kind.BlockArgument [] (outline_of e.0 ∷ [])) ∙ ap (λ r. Some (argument.Block nowhere (tree_in r))) (is_read e))
    (arguments-read rest stop xs)

pub all-arguments : (xs : List (Argument Kept)) → taken argument_if (map read (map (argument_outline outline_of) (arguments_of xs))) ≡ (unplaced_arguments xs, [])
all-arguments xs = whole argument_if (map (argument_outline outline_of) (arguments_of xs)) (unplaced_arguments xs) (arguments-read [] (ends argument_if) xs)

pub brackets-read : (xs : List (Argument Kept)) → read (brackets_outline outline_of (arguments_of xs)) ≡ brackets (unplaced_arguments xs)
brackets-read xs = read-is kind.Brackets [] (map (argument_outline outline_of) (arguments_of xs)) ∙ ap (λ t. brackets t.0) (all-arguments xs)

abbrev pub block_of : Block Kept → Block Tree
block_of b = record { parameters = b.parameters; body = b.body.0; span = b.span }

abbrev pub block_without : Block Kept → Block Tree
block_without b = record { parameters = map unplaced_name b.parameters; body = unplaced b.body.0; span = nowhere }

pub block-read : (b : Block Kept) → read (block_outline outline_of (block_of b)) ≡ a_block (block_without b)
block-read b =
    read-is kind.Block [] (map name_outline b.parameters ++ outline_of b.body.0 ∷ [])
    ∙ ap (λ s. a_block (block_from s)) (split-end (map name_outline b.parameters) (outline_of b.body.0))
    ∙ (λ i. a_block (record { parameters = (names-read b.parameters i).0; body = tree_in (is_read b.body i); span = nowhere }))

-- what stands after the name of a call
abbrev pub CallRead : Option (List (Argument Kept)) → Option (Block Kept) → Type 0
CallRead arguments block =
    let parts = map read (call_parts outline_of ((former-Node-Call-2).map Kept Tree tree arguments) ((former-Node-Command-2).map Kept Tree tree block)) in
    ◌≡◌ {A = Option (List (Argument Tree)) × Option (Block Tree)}
    (found brackets_if parts, found block_if parts) (
      option_map (map unplaced_argument) ((former-Node-Call-2).map Tree Tree unplaced ((former-Node-Call-2).map Kept Tree tree arguments)),
      option_map unplaced_block ((former-Node-Command-2).map Tree Tree unplaced ((former-Node-Command-2).map Kept Tree tree block)),
    )

pub call-read : (arguments : Option (List (Argument Kept))) (block : Option (Block Kept)) → CallRead arguments block
call-read None None = refl
call-read None (Some b) = λ i. (found brackets_if (block-read b i ∷ []), found block_if (block-read b i ∷ []))
call-read (Some xs) None = λ i. (found brackets_if (brackets-read xs i ∷ []), found block_if (brackets-read xs i ∷ []))
call-read (Some xs) (Some b) = λ i. (found brackets_if (brackets-read xs i ∷ block-read b i ∷ []), found block_if (brackets-read xs i ∷ block-read b i ∷ []))

pub brackets-if-read : (arguments : Option (List (Argument Kept))) →
    found brackets_if (map read (parts_if (brackets_outline outline_of) ((former-Node-Call-2).map Kept Tree tree arguments)))
    ≡ option_map (map unplaced_argument) ((former-Node-Call-2).map Tree Tree unplaced ((former-Node-Call-2).map Kept Tree tree arguments))
brackets-if-read None = refl
brackets-if-read (Some xs) = ap (λ r. found brackets_if (r ∷ [])) (brackets-read xs)

-- ---- suffixes, pieces and pairs

suffix-of-call : (how : Dot) (words : List ℕ) (ps : List Reading) →
    reading_of (dotted how) words ps ≡ a_suffix (suffix.Call how words nowhere (found brackets_if ps) (found block_if ps) nowhere)
suffix-of-call dot.Plain words ps = refl
suffix-of-call dot.Safe words ps = refl

called : (how : Dot) (name : List ℕ) (parts : List Outline) (arguments : Option (List (Argument Tree))) (block : Option (Block Tree)) →
    ◌≡◌ {A = Option (List (Argument Tree)) × Option (Block Tree)} (found brackets_if (map read parts), found block_if (map read parts)) (arguments, block) →
    suffix_if (read (outline (dotted how) name parts)) ≡ Some (suffix.Call how name nowhere arguments block nowhere)
called how name parts arguments block c =
    ap suffix_if (read-is (dotted how) name parts ∙ suffix-of-call how name (map read parts)) ∙ (λ i. Some (suffix.Call how name nowhere (c i).0 (c i).1 nowhere))

pub suffixes-read : (xs : List (Suffix Kept)) →
    taken suffix_if (map read (map (suffix_outline outline_of) ((former-Node-Post-1).map Kept Tree tree xs)))
    ≡ (map unplaced_suffix ((former-Node-Post-1).map Tree Tree unplaced ((former-Node-Post-1).map Kept Tree tree xs)), [])
suffixes-read [] = ends suffix_if
suffixes-read (suffix.Call how name name_span None None span ∷ xs) =
    one-more suffix_if _ _ _ _ _ (called how name _ _ _ (call-read None None)) (suffixes-read xs)
suffixes-read (suffix.Call how name name_span None (Some b) span ∷ xs) =
    one-more suffix_if _ _ _ _ _ (called how name _ _ _ (call-read None (Some b))) (suffixes-read xs)
suffixes-read (suffix.Call how name name_span (Some as') None span ∷ xs) =
    one-more suffix_if _ _ _ _ _ (called how name _ _ _ (call-read (Some as') None)) (suffixes-read xs)
suffixes-read (suffix.Call how name name_span (Some as') (Some b) span ∷ xs) =
    one-more suffix_if _ _ _ _ _ (called how name _ _ _ (call-read (Some as') (Some b))) (suffixes-read xs)
suffixes-read (suffix.Constant name name_span span ∷ xs) =
    one-more suffix_if _ _ _ _ _ (ap suffix_if (read-is kind.SuffixConstant name [])) (suffixes-read xs)
suffixes-read (suffix.Index as' span ∷ xs) = one-more suffix_if _ _ _ _ _
    (ap suffix_if (read-is kind.Index [] (map (argument_outline outline_of) (arguments_of as'))) ∙ ap (λ t. Some (suffix.Index t.0 nowhere)) (all-arguments as'))
    (suffixes-read xs)

pub pieces-read : (xs : List (Piece Kept)) →
    taken piece_if (map read (map (piece_outline outline_of) ((former-Node-Text-0).map Kept Tree tree xs)))
    ≡ (map unplaced_piece ((former-Node-Text-0).map Tree Tree unplaced ((former-Node-Text-0).map Kept Tree tree xs)), [])
pieces-read [] = ends piece_if
pieces-read (piece.Words words span ∷ xs) = one-more piece_if _ _ _ _ _ (ap piece_if (read-is kind.Piece words [])) (pieces-read xs)
pieces-read (piece.Code e span ∷ xs) = one-more piece_if _ _ _ _ _
    (ap piece_if (read-is kind.Code [] (outline_of e.0 ∷ [])) ∙ ap (λ r. Some (piece.Code (tree_in r) nowhere)) (is_read e))
    (pieces-read xs)

pub pairs-read : (xs : List (Pair Kept)) →
    taken pair_if (map read (map (pair_outline outline_of) ((former-Node-Hash-0).map Kept Tree tree xs)))
    ≡ (map unplaced_pair ((former-Node-Hash-0).map Tree Tree unplaced ((former-Node-Hash-0).map Kept Tree tree xs)), [])
pairs-read [] = ends pair_if
pairs-read (pair.Arrow k e ∷ xs) = one-more pair_if _ _ _ _ _
    (ap pair_if (read-is kind.ArrowPair [] (outline_of k.0 ∷ outline_of e.0 ∷ [])) ∙ (λ i. Some (pair.Arrow (tree_in (is_read k i)) (tree_in (is_read e i)))))
    (pairs-read xs)
pairs-read (pair.Label name span e ∷ xs) = one-more pair_if _ _ _ _ _
    (ap pair_if (read-is kind.LabelPair name (outline_of e.0 ∷ [])) ∙ ap (λ r. Some (pair.Label name nowhere (tree_in r))) (is_read e))
    (pairs-read xs)

-- ---- arms

pub else-read : (e : Kept) → read (else_outline outline_of e.0) ≡ an_else (unplaced e.0)
else-read e = read-is kind.Else [] (outline_of e.0 ∷ []) ∙ ap (λ r. an_else (tree_in r)) (is_read e)

pub ensure-read : (e : Kept) → read (ensure_outline outline_of e.0) ≡ an_ensure (unplaced e.0)
ensure-read e = read-is kind.Ensure [] (outline_of e.0 ∷ []) ∙ ap (λ r. an_ensure (tree_in r)) (is_read e)

arm-read : (a : Arm Kept) → arm_if (read (arm_outline outline_of (record { condition = a.condition.0; body = a.body.0 })))
    ≡ Some (record { condition = unplaced a.condition.0; body = unplaced a.body.0 })
arm-read a =
    ap arm_if (read-is kind.Elsif [] (outline_of a.condition.0 ∷ outline_of a.body.0 ∷ []))
    ∙ (λ i. Some (record { condition = tree_in (is_read a.condition i); body = tree_in (is_read a.body i) }))

pub arms-read : (rest : List Outline) → taken arm_if (map read rest) ≡ ([], map read rest) → (xs : List (Arm Kept)) →
    taken arm_if (map read (map (arm_outline outline_of) ((former-Node-If-3).map Kept Tree tree xs) ++ rest))
    ≡ ((former-Node-If-3).map Tree Tree unplaced ((former-Node-If-3).map Kept Tree tree xs), map read rest)
arms-read rest stop [] = stop
arms-read rest stop (a ∷ xs) = one-more arm_if _ _ _ _ _ (arm-read a) (arms-read rest stop xs)

pub all-trees : (es : List Kept) → taken tree_if (map read (map outline_of (map tree es))) ≡ (map unplaced (map tree es), [])
all-trees es = whole tree_if (map outline_of (map tree es)) (map unplaced (map tree es)) (trees-read [] (ends tree_if) es)

when-read : (w : When Kept) → read (when_outline outline_of (record { patterns = map tree w.patterns; body = w.body.0 }))
    ≡ a_when (record { patterns = map unplaced (map tree w.patterns); body = unplaced w.body.0 })
when-read w =
    read-is kind.When [] (map outline_of (map tree w.patterns) ++ outline_of w.body.0 ∷ [])
    ∙ ap (λ s. a_when (when_from s)) (split-end (map outline_of (map tree w.patterns)) (outline_of w.body.0))
    ∙ (λ i. a_when (record { patterns = (all-trees w.patterns i).0; body = tree_in (is_read w.body i) }))

pub whens-read : (rest : List Outline) → taken when_if (map read rest) ≡ ([], map read rest) → (xs : List (When Kept)) →
    taken when_if (map read (map (when_outline outline_of) ((former-Node-Case-1).map Kept Tree tree xs) ++ rest))
    ≡ ((former-Node-Case-1).map Tree Tree unplaced ((former-Node-Case-1).map Kept Tree tree xs), map read rest)
whens-read rest stop [] = stop
whens-read rest stop (w ∷ xs) = one-more when_if _ _ _ _ _ (ap when_if (when-read w)) (whens-read rest stop xs)

-- a `when` arm is no tree
pub whens-stop : (rest : List Outline) → taken tree_if (map read rest) ≡ ([], map read rest) → (xs : List (When Kept)) →
    let parts = map read (map (when_outline outline_of) ((former-Node-Case-1).map Kept Tree tree xs) ++ rest) in
    taken tree_if parts ≡ ([], parts)
whens-stop rest stop [] = stop
whens-stop rest stop (w ∷ xs) = stops tree_if _ _ (ap tree_if (when-read w))

-- ---- clauses and parameters

variable-back : (v : Option PlacedName) → variable_in (variable_words v) ≡ option_map unplaced_name v
variable-back None = refl
variable-back (Some n) = refl

rescue-read : (r : Rescue Kept) → rescue_if (read (rescue_outline outline_of (record { patterns = map tree r.patterns; variable = r.variable; body = r.body.0 })))
    ≡ Some (record { patterns = map unplaced (map tree r.patterns); variable = option_map unplaced_name r.variable; body = unplaced r.body.0 })
rescue-read r =
    ap rescue_if (read-is kind.Rescue (variable_words r.variable) (map outline_of (map tree r.patterns) ++ outline_of r.body.0 ∷ []))
    ∙ ap (λ s. Some (rescue_from (variable_in (variable_words r.variable)) s)) (split-end (map outline_of (map tree r.patterns)) (outline_of r.body.0))
    ∙ (λ i. Some (record { patterns = (all-trees r.patterns i).0; variable = variable-back r.variable i; body = tree_in (is_read r.body i) }))

abbrev put_rescue : {X Y : Type 0} → (X → Y) → Rescue X → Rescue Y
put_rescue f r = record { patterns = map f r.patterns; variable = r.variable; body = f r.body }

rescues-read : (rest : List Outline) → taken rescue_if (map read rest) ≡ ([], map read rest) → (xs : List (Rescue Kept)) →
    taken rescue_if (map read (map (rescue_outline outline_of) (map (put_rescue tree) xs) ++ rest))
    ≡ (map unplaced_rescue (map (put_rescue unplaced) (map (put_rescue tree) xs)), map read rest)
rescues-read rest stop [] = stop
rescues-read rest stop (r ∷ xs) = one-more rescue_if _ _ _ _ _ (rescue-read r) (rescues-read rest stop xs)

-- by what stands after the clauses
pub by-guarded : (P : Guarded Kept → Type 0) →
    ((b : Kept) (rs : List (Rescue Kept)) → P (record { body = b; rescues = rs; otherwise = None; ensure = None })) →
    ((b : Kept) (rs : List (Rescue Kept)) (e : Kept) → P (record { body = b; rescues = rs; otherwise = None; ensure = Some e })) →
    ((b : Kept) (rs : List (Rescue Kept)) (o : Kept) → P (record { body = b; rescues = rs; otherwise = Some o; ensure = None })) →
    ((b : Kept) (rs : List (Rescue Kept)) (o e : Kept) → P (record { body = b; rescues = rs; otherwise = Some o; ensure = Some e })) →
    (g : Guarded Kept) → P g
by-guarded P h k l m g = go g.otherwise g.ensure
  where
    go : (o e : Option Kept) → P (record { body = g.body; rescues = g.rescues; otherwise = o; ensure = e })
    go None None = h g.body g.rescues
    go None (Some e) = k g.body g.rescues e
    go (Some o) None = l g.body g.rescues o
    go (Some o) (Some e) = m g.body g.rescues o e

abbrev pub guarded_of : Guarded Kept → Guarded Tree
guarded_of g = (former-Node-Begin-0).map Kept Tree tree g

abbrev pub guarded_without : Guarded Kept → Guarded Tree
guarded_without g = unplaced_guarded ((former-Node-Begin-0).map Tree Tree unplaced (guarded_of g))

-- a body with clauses, of which what follows them is read
guarded-ends : (b : Kept) (rs : List (Rescue Kept)) (rest : List Outline) (readings : List Reading) → map read rest ≡ readings → taken rescue_if (map read rest) ≡ ([], map read rest) →
    guarded_in (map read (outline_of b.0 ∷ (map (rescue_outline outline_of) (map (put_rescue tree) rs) ++ rest)))
    ≡ guarded_from (unplaced b.0) (map unplaced_rescue (map (put_rescue unplaced) (map (put_rescue tree) rs)), readings)
guarded-ends b rs rest readings is stop =
    (λ i. guarded_from (tree_in (is_read b i)) (rescues-read rest stop rs i))
    ∙ ap (λ z. guarded_from (unplaced b.0) (map unplaced_rescue (map (put_rescue unplaced) (map (put_rescue tree) rs)), z)) is

pub guarded-read : (g : Guarded Kept) → guarded_in (map read (guarded_parts outline_of (guarded_of g))) ≡ guarded_without g
guarded-read g = by-guarded (λ h. guarded_in (map read (guarded_parts outline_of (guarded_of h))) ≡ guarded_without h)
    (λ b rs. guarded-ends b rs [] [] refl (ends rescue_if))
    (λ b rs e. guarded-ends b rs (ensure_outline outline_of e.0 ∷ []) (an_ensure (unplaced e.0) ∷ [])
    (λ i. ensure-read e i ∷ []) (stops rescue_if _ _ (ap rescue_if (ensure-read e))))
    (λ b rs o. guarded-ends b rs (else_outline outline_of o.0 ∷ []) (an_else (unplaced o.0) ∷ [])
    (λ i. else-read o i ∷ []) (stops rescue_if _ _ (ap rescue_if (else-read o))))
    (λ b rs o e. guarded-ends b rs (else_outline outline_of o.0 ∷ ensure_outline outline_of e.0 ∷ []) (an_else (unplaced o.0) ∷ an_ensure (unplaced e.0) ∷ [])
    (λ i. else-read o i ∷ ensure-read e i ∷ []) (stops rescue_if _ _ (ap rescue_if (else-read o))))
    g

-- by whether a parameter has a default
pub by-default : (P : Parameter Kept → Type 0) →
    ((kind : ParamKind) (name : List ℕ) (span : Span) → P (record { kind = kind; name = name; span = span; default = None })) →
    ((kind : ParamKind) (name : List ℕ) (span : Span) (d : Kept) → P (record { kind = kind; name = name; span = span; default = Some d })) →
    (p : Parameter Kept) → P p
by-default P h k p = go p.default
  where
    go : (o : Option Kept) → P (record { kind = p.kind; name = p.name; span = p.span; default = o })
    go None = h p.kind p.name p.span
    go (Some d) = k p.kind p.name p.span d

abbrev pub parameters_of : List (Parameter Kept) → List (Parameter Tree)
parameters_of ps = (former-Node-Def-4).map Kept Tree tree ps

abbrev pub unplaced_parameters : List (Parameter Kept) → List (Parameter Tree)
unplaced_parameters ps = map unplaced_parameter ((former-Node-Def-4).map Tree Tree unplaced (parameters_of ps))

pub parameters-read : (rest : List Outline) → taken parameter_if (map read rest) ≡ ([], map read rest) → (ps : List (Parameter Kept)) →
    taken parameter_if (map read (map (parameter_outline outline_of) (parameters_of ps) ++ rest)) ≡ (unplaced_parameters ps, map read rest)
parameters-read rest stop [] = stop
parameters-read rest stop (p ∷ ps) = by-default
    (λ q. taken parameter_if (map read (map (parameter_outline outline_of) (parameters_of (q ∷ ps)) ++ rest)) ≡ (unplaced_parameters (q ∷ ps), map read rest))
    (λ k name span. one-more parameter_if _ _ _ _ _
    (ap parameter_if (read-is kind.Parameter (param_words k ++ name) []) ∙ ap (λ l. Some (parameter_from l None)) (param-back k name))
    (parameters-read rest stop ps))
    (λ k name span d. one-more parameter_if _ _ _ _ _
    (ap parameter_if (read-is kind.Parameter (param_words k ++ name) (outline_of d.0 ∷ []))
    ∙ (λ i. Some (parameter_from (param-back k name i) (Some (tree_in (is_read d i))))))
    (parameters-read rest stop ps))
    p

-- ---- superclasses

pub superclass-read : (r : Reference) → read (superclass_outline r) ≡ a_superclass (unplaced_reference r)
superclass-read r =
    read-is kind.Superclass (top_words r.top) (map constant_outline r.path)
    ∙ (λ i. a_superclass (record {
      top = top-back r.top i;
      path = (whole name_if (map constant_outline r.path) (map unplaced_name r.path) (constants-read [] (ends name_if) r.path) i).0;
      span = nowhere;
    }))
