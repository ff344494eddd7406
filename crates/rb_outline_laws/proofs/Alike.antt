-- Places play no part in the outline of a node.
use Rattle.std.proofs.Common.{◌≡◌, List, [], ◌∷◌, ◌++◌, map, Option, Some, None, refl, ap}
use Rattle.std.specs.Option.{option_map}
use Rattle.srb_terms.specs.declared.outline.NodeKind.TheVariants as kind
use Rattle.rb_tree.specs.declared.syntax.Tree.{Tree}
use Rattle.rb_tree.specs.declared.syntax.Node.{Node}
use Rattle.rb_tree.specs.declared.syntax.Node.TheOpen.{Node-F}
use Rattle.rb_tree.specs.declared.syntax.Node.TheFolds.{map-Node}
use Rattle.rb_tree.specs.declared.syntax.Node.TheShapes.{former-Node-Command-2, former-Node-Post-1, former-Node-Text-0, former-Node-Call-2, former-Node-Hash-0, former-Node-If-3, former-Node-Case-1}
use Rattle.rb_tree.specs.declared.syntax.Suffix.{Suffix}
use Rattle.rb_tree.specs.declared.syntax.Suffix.TheVariants as suffix
use Rattle.rb_tree.specs.declared.syntax.Argument.{Argument}
use Rattle.rb_tree.specs.declared.syntax.Argument.TheVariants as argument
use Rattle.rb_tree.specs.declared.syntax.Block.{Block}
use Rattle.rb_tree.specs.declared.syntax.Piece.{Piece}
use Rattle.rb_tree.specs.declared.syntax.Piece.TheVariants as piece
use Rattle.rb_tree.specs.declared.syntax.Pair.{Pair}
use Rattle.rb_tree.specs.declared.syntax.Pair.TheVariants as pair
use Rattle.rb_tree.specs.declared.syntax.Arm.{Arm}
use Rattle.rb_tree.specs.declared.syntax.When.{When}
use Rattle.rb_tree.specs.declared.syntax.PlacedName.{PlacedName}
use Rattle.rb_tree.specs.declared.syntax.Reference.{Reference}
use Rattle.rb_tree.specs.declared.syntax.Guarded.{Guarded}
use Rattle.rb_tree.specs.declared.syntax.Rescue.{Rescue}
use Rattle.rb_tree.specs.declared.syntax.Parameter.{Parameter}
use Rattle.rb_outline.specs.Outlines.{outline, leaf, dotted, modifier_words, jump_words, binary_words, unary_words, if_words, while_words, visibility_words, own_mark, variable_words, param_words, top_words, constant_outline, name_outline, superclass_outline, parts_if, argument_outline, brackets_outline, block_outline, call_parts, suffix_outline, piece_outline, pair_outline, arm_outline, when_outline, rescue_outline, parameter_outline, guarded_parts, outline_at, outline_of}
use Rattle.rb_outline_laws.specs.Unplaced.{unplaced_name, unplaced_reference, unplaced_argument, unplaced_block, unplaced_suffix, unplaced_piece, unplaced_pair, unplaced_rescue, unplaced_node, unplaced}
use Rattle.rb_outline_laws.proofs.Parts.{Kept, tree, by-guarded, by-default, arguments_of, unplaced_arguments, block_of, block_without, guarded_of, guarded_without, parameters_of, unplaced_parameters}

-- a tree without places has the outline of the tree
abbrev is_alike : (e : Kept) → outline_of (unplaced e.0) ≡ outline_of e.0
is_alike e = e.1.0

trees-alike : (es : List Kept) → map outline_of (map unplaced (map tree es)) ≡ map outline_of (map tree es)
trees-alike [] = refl
trees-alike (e ∷ es) = λ i. is_alike e i ∷ trees-alike es i

constants-alike : (ns : List PlacedName) → map constant_outline (map unplaced_name ns) ≡ map constant_outline ns
constants-alike [] = refl
constants-alike (n ∷ ns) = ap (λ os. constant_outline n ∷ os) (constants-alike ns)

names-alike : (ns : List PlacedName) → map name_outline (map unplaced_name ns) ≡ map name_outline ns
names-alike [] = refl
names-alike (n ∷ ns) = ap (λ os. name_outline n ∷ os) (names-alike ns)

-- ---- parts

arguments-alike : (xs : List (Argument Kept)) → map (argument_outline outline_of) (unplaced_arguments xs) ≡ map (argument_outline outline_of) (arguments_of xs)
arguments-alike [] = refl
arguments-alike (argument.Positional e ∷ xs) = λ i. is_alike e i ∷ arguments-alike xs i
arguments-alike (argument.Keyword name span e ∷ xs) = λ i. outline kind.Keyword name (is_alike e i ∷ []) ∷ arguments-alike xs i
arguments-alike (argument.Block span e ∷ xs) = λ i. outline kind.BlockArgument [] (is_alike e i ∷ []) ∷ arguments-alike xs i

brackets-alike : (xs : List (Argument Kept)) → brackets_outline outline_of (unplaced_arguments xs) ≡ brackets_outline outline_of (arguments_of xs)
brackets-alike xs = ap (outline kind.Brackets []) (arguments-alike xs)

block-alike : (b : Block Kept) → block_outline outline_of (block_without b) ≡ block_outline outline_of (block_of b)
block-alike b = λ i. outline kind.Block [] (names-alike b.parameters i ++ is_alike b.body i ∷ [])

abbrev arguments_if : Option (List (Argument Kept)) → Option (List (Argument Tree))
arguments_if o = (former-Node-Call-2).map Kept Tree tree o

abbrev unplaced_arguments_if : Option (List (Argument Kept)) → Option (List (Argument Tree))
unplaced_arguments_if o = option_map (map unplaced_argument) ((former-Node-Call-2).map Tree Tree unplaced (arguments_if o))

abbrev block_if : Option (Block Kept) → Option (Block Tree)
block_if o = (former-Node-Command-2).map Kept Tree tree o

abbrev unplaced_block_if : Option (Block Kept) → Option (Block Tree)
unplaced_block_if o = option_map unplaced_block ((former-Node-Command-2).map Tree Tree unplaced (block_if o))

call-alike : (xs : Option (List (Argument Kept))) (b : Option (Block Kept)) →
    call_parts outline_of (unplaced_arguments_if xs) (unplaced_block_if b) ≡ call_parts outline_of (arguments_if xs) (block_if b)
call-alike None None = refl
call-alike None (Some b) = λ i. block-alike b i ∷ []
call-alike (Some xs) None = λ i. brackets-alike xs i ∷ []
call-alike (Some xs) (Some b) = λ i. brackets-alike xs i ∷ block-alike b i ∷ []

brackets-if-alike : (xs : Option (List (Argument Kept))) →
    parts_if (brackets_outline outline_of) (unplaced_arguments_if xs) ≡ parts_if (brackets_outline outline_of) (arguments_if xs)
brackets-if-alike None = refl
brackets-if-alike (Some xs) = λ i. brackets-alike xs i ∷ []

suffixes-alike : (xs : List (Suffix Kept)) →
    map (suffix_outline outline_of) (map unplaced_suffix ((former-Node-Post-1).map Tree Tree unplaced ((former-Node-Post-1).map Kept Tree tree xs)))
    ≡ map (suffix_outline outline_of) ((former-Node-Post-1).map Kept Tree tree xs)
suffixes-alike [] = refl
suffixes-alike (suffix.Call how name name_span None None span ∷ xs) = ap (λ os. outline (dotted how) name [] ∷ os) (suffixes-alike xs)
suffixes-alike (suffix.Call how name name_span None (Some b) span ∷ xs) = λ i. outline (dotted how) name (call-alike None (Some b) i) ∷ suffixes-alike xs i
suffixes-alike (suffix.Call how name name_span (Some as') None span ∷ xs) = λ i. outline (dotted how) name (call-alike (Some as') None i) ∷ suffixes-alike xs i
suffixes-alike (suffix.Call how name name_span (Some as') (Some b) span ∷ xs) =
    λ i. outline (dotted how) name (call-alike (Some as') (Some b) i) ∷ suffixes-alike xs i
suffixes-alike (suffix.Constant name name_span span ∷ xs) = ap (λ os. leaf kind.SuffixConstant name ∷ os) (suffixes-alike xs)
suffixes-alike (suffix.Index as' span ∷ xs) = λ i. outline kind.Index [] (arguments-alike as' i) ∷ suffixes-alike xs i

pieces-alike : (xs : List (Piece Kept)) →
    map (piece_outline outline_of) (map unplaced_piece ((former-Node-Text-0).map Tree Tree unplaced ((former-Node-Text-0).map Kept Tree tree xs)))
    ≡ map (piece_outline outline_of) ((former-Node-Text-0).map Kept Tree tree xs)
pieces-alike [] = refl
pieces-alike (piece.Words words span ∷ xs) = ap (λ os. leaf kind.Piece words ∷ os) (pieces-alike xs)
pieces-alike (piece.Code e span ∷ xs) = λ i. outline kind.Code [] (is_alike e i ∷ []) ∷ pieces-alike xs i

pairs-alike : (xs : List (Pair Kept)) →
    map (pair_outline outline_of) (map unplaced_pair ((former-Node-Hash-0).map Tree Tree unplaced ((former-Node-Hash-0).map Kept Tree tree xs)))
    ≡ map (pair_outline outline_of) ((former-Node-Hash-0).map Kept Tree tree xs)
pairs-alike [] = refl
pairs-alike (pair.Arrow k e ∷ xs) = λ i. outline kind.ArrowPair [] (is_alike k i ∷ is_alike e i ∷ []) ∷ pairs-alike xs i
pairs-alike (pair.Label name span e ∷ xs) = λ i. outline kind.LabelPair name (is_alike e i ∷ []) ∷ pairs-alike xs i

arms-alike : (xs : List (Arm Kept)) →
    map (arm_outline outline_of) ((former-Node-If-3).map Tree Tree unplaced ((former-Node-If-3).map Kept Tree tree xs))
    ≡ map (arm_outline outline_of) ((former-Node-If-3).map Kept Tree tree xs)
arms-alike [] = refl
arms-alike (a ∷ xs) = λ i. outline kind.Elsif [] (is_alike a.condition i ∷ is_alike a.body i ∷ []) ∷ arms-alike xs i

whens-alike : (xs : List (When Kept)) →
    map (when_outline outline_of) ((former-Node-Case-1).map Tree Tree unplaced ((former-Node-Case-1).map Kept Tree tree xs))
    ≡ map (when_outline outline_of) ((former-Node-Case-1).map Kept Tree tree xs)
whens-alike [] = refl
whens-alike (w ∷ xs) = λ i. outline kind.When [] (trees-alike w.patterns i ++ is_alike w.body i ∷ []) ∷ whens-alike xs i

variable-alike : (v : Option PlacedName) → variable_words (option_map unplaced_name v) ≡ variable_words v
variable-alike None = refl
variable-alike (Some n) = refl

abbrev put_rescue : {X Y : Type 0} → (X → Y) → Rescue X → Rescue Y
put_rescue f r = record { patterns = map f r.patterns; variable = r.variable; body = f r.body }

rescues-alike : (xs : List (Rescue Kept)) →
    map (rescue_outline outline_of) (map unplaced_rescue (map (put_rescue unplaced) (map (put_rescue tree) xs))) ≡ map (rescue_outline outline_of) (map (put_rescue tree) xs)
rescues-alike [] = refl
rescues-alike (r ∷ xs) = λ i. outline kind.Rescue (variable-alike r.variable i) (trees-alike r.patterns i ++ is_alike r.body i ∷ []) ∷ rescues-alike xs i

guarded-alike : (g : Guarded Kept) → guarded_parts outline_of (guarded_without g) ≡ guarded_parts outline_of (guarded_of g)
guarded-alike g = by-guarded (λ h. guarded_parts outline_of (guarded_without h) ≡ guarded_parts outline_of (guarded_of h))
    (λ b rs i. is_alike b i ∷ (rescues-alike rs i ++ []))
    (λ b rs e i. is_alike b i ∷ (rescues-alike rs i ++ outline kind.Ensure [] (is_alike e i ∷ []) ∷ []))
    (λ b rs o i. is_alike b i ∷ (rescues-alike rs i ++ outline kind.Else [] (is_alike o i ∷ []) ∷ []))
    (λ b rs o e i. is_alike b i ∷ (rescues-alike rs i ++ outline kind.Else [] (is_alike o i ∷ []) ∷ outline kind.Ensure [] (is_alike e i ∷ []) ∷ []))
    g

parameters-alike : (ps : List (Parameter Kept)) → map (parameter_outline outline_of) (unplaced_parameters ps) ≡ map (parameter_outline outline_of) (parameters_of ps)
parameters-alike [] = refl
parameters-alike (p ∷ ps) = by-default
    (λ q. map (parameter_outline outline_of) (unplaced_parameters (q ∷ ps)) ≡ map (parameter_outline outline_of) (parameters_of (q ∷ ps)))
    (λ k name span. ap (λ os. outline kind.Parameter (param_words k ++ name) [] ∷ os) (parameters-alike ps))
    (λ k name span d i. outline kind.Parameter (param_words k ++ name) (is_alike d i ∷ []) ∷ parameters-alike ps i)
    p

superclass-alike : (r : Option Reference) → parts_if superclass_outline (option_map unplaced_reference r) ≡ parts_if superclass_outline r
superclass-alike None = refl
superclass-alike (Some r) = λ i. outline kind.Superclass (top_words r.top) (constants-alike r.path i) ∷ []

-- ---- nodes

abbrev IsAlike : {N : Type 0} → (Node → Node) → (N → Node) → Node-F N Kept → Type 0
IsAlike {N = N} h u y =
    let x = map-Node N Kept Node Tree u tree y in
    outline_at outline_of (unplaced_node (map-Node Node Tree Node Tree h unplaced x)) ≡ outline_at outline_of x

pub node-alike : {N : Type 0} (h : Node → Node) (u : N → Node) (y : Node-F N Kept) → IsAlike h u y
node-alike h u (Node-F.Body statements span) = ap (outline kind.Body []) (trees-alike statements)
node-alike h u (Node-F.Modified s m c span) = λ i. outline kind.Modified (modifier_words m) (is_alike s i ∷ is_alike c i ∷ [])
node-alike h u (Node-F.Jump j None span) = refl
node-alike h u (Node-F.Jump j (Some e) span) = λ i. outline kind.Jump (jump_words j) (is_alike e i ∷ [])
node-alike h u (Node-F.Assign t v span) = λ i. outline kind.Assign [] (is_alike t i ∷ is_alike v i ∷ [])
node-alike h u (Node-F.OperatorAssign t o os v span) = λ i. outline kind.OperatorAssign (binary_words o) (is_alike t i ∷ is_alike v i ∷ [])
node-alike h u (Node-F.Command callee xs None span) = λ i. outline kind.Command [] (is_alike callee i ∷ (arguments-alike xs i ++ []))
node-alike h u (Node-F.Command callee xs (Some b) span) = λ i. outline kind.Command [] (is_alike callee i ∷ (arguments-alike xs i ++ block-alike b i ∷ []))
node-alike h u (Node-F.Conditional c p n span) = λ i. outline kind.Conditional [] (is_alike c i ∷ is_alike p i ∷ is_alike n i ∷ [])
node-alike h u (Node-F.Binary o os l r span) = λ i. outline kind.Binary (binary_words o) (is_alike l i ∷ is_alike r i ∷ [])
node-alike h u (Node-F.Unary o e span) = λ i. outline kind.Unary (unary_words o) (is_alike e i ∷ [])
node-alike h u (Node-F.Post e suffixes span) = λ i. outline kind.Post [] (is_alike e i ∷ suffixes-alike suffixes i)
node-alike h u (Node-F.Text pieces span) = ap (outline kind.Text []) (pieces-alike pieces)
node-alike h u (Node-F.Call name name_span xs b span) = ap (outline kind.Call name) (call-alike xs b)
node-alike h u (Node-F.Yield xs span) = ap (outline kind.Yield []) (brackets-if-alike xs)
node-alike h u (Node-F.Super xs span) = ap (outline kind.Super []) (brackets-if-alike xs)
node-alike h u (Node-F.Array elements span) = ap (outline kind.Array []) (trees-alike elements)
node-alike h u (Node-F.Hash pairs span) = ap (outline kind.Hash []) (pairs-alike pairs)
node-alike h u (Node-F.Parens e span) = λ i. outline kind.Parens [] (is_alike e i ∷ [])
node-alike h u (Node-F.If test c e xs None span) = λ i. outline kind.If (if_words test) (is_alike c i ∷ is_alike e i ∷ (arms-alike xs i ++ []))
node-alike h u (Node-F.If test c e xs (Some o) span) =
    λ i. outline kind.If (if_words test) (is_alike c i ∷ is_alike e i ∷ (arms-alike xs i ++ outline kind.Else [] (is_alike o i ∷ []) ∷ []))
node-alike h u (Node-F.While test c e span) = λ i. outline kind.While (while_words test) (is_alike c i ∷ is_alike e i ∷ [])
node-alike h u (Node-F.Case None xs None span) = λ i. outline kind.Case [] (whens-alike xs i ++ [])
node-alike h u (Node-F.Case None xs (Some o) span) = λ i. outline kind.Case [] (whens-alike xs i ++ outline kind.Else [] (is_alike o i ∷ []) ∷ [])
node-alike h u (Node-F.Case (Some s) xs None span) = λ i. outline kind.Case [] (is_alike s i ∷ (whens-alike xs i ++ []))
node-alike h u (Node-F.Case (Some s) xs (Some o) span) =
    λ i. outline kind.Case [] (is_alike s i ∷ (whens-alike xs i ++ outline kind.Else [] (is_alike o i ∷ []) ∷ []))
node-alike h u (Node-F.Begin g span) = ap (outline kind.Begin []) (guarded-alike g)
node-alike h u (Node-F.Class path superclass e span) =
    λ i. outline kind.Class [] (constants-alike path i ++ (superclass-alike superclass i ++ is_alike e i ∷ []))
node-alike h u (Node-F.Module path e span) = λ i. outline kind.Module [] (constants-alike path i ++ is_alike e i ∷ [])
node-alike h u (Node-F.Def v own name name_span ps g span) =
    λ i. outline kind.Def (visibility_words v ++ (own_mark own ++ name)) (parameters-alike ps i ++ guarded-alike g i)
node-alike h u y = refl
