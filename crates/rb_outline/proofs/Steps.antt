-- The outline of a tree is that of its node, by the outlines of the trees in it.
use Rattle.std.proofs.Common.{◌≡◌, ℕ, Bool, List, [], ◌∷◌, ◌++◌, map, Option, Some, None, refl, ap, sym, ◌∙◌}
use Rattle.srb_terms.specs.declared.outline.Outline.{Outline}
use Rattle.srb_terms.specs.declared.param_kind.ParamKind.{ParamKind}
use Rattle.srb_terms.specs.declared.span.Span.{Span}
use Rattle.rb_tree.specs.declared.syntax.Tree.{Tree}
use Rattle.rb_tree.specs.declared.syntax.Node.{Node, out-Node}
use Rattle.rb_tree.specs.declared.syntax.Node.TheOpen.{Node-F}
use Rattle.rb_tree.specs.declared.syntax.Node.TheShapes.{former-Node-Command-1, former-Node-Post-1, former-Node-Text-0, former-Node-Hash-0, former-Node-If-3, former-Node-Case-1, former-Node-Def-4}
use Rattle.rb_tree.specs.declared.syntax.Node.TheFolds.{map-Node, fold-Node, fold-Tree, fold_out-Node, fold_out-Tree}
use Rattle.rb_tree.specs.declared.syntax.Argument.{Argument}
use Rattle.rb_tree.specs.declared.syntax.Argument.TheVariants as argument
use Rattle.rb_tree.specs.declared.syntax.Suffix.{Suffix}
use Rattle.rb_tree.specs.declared.syntax.Suffix.TheVariants as suffix
use Rattle.rb_tree.specs.declared.syntax.Piece.{Piece}
use Rattle.rb_tree.specs.declared.syntax.Piece.TheVariants as piece
use Rattle.rb_tree.specs.declared.syntax.Pair.{Pair}
use Rattle.rb_tree.specs.declared.syntax.Pair.TheVariants as pair
use Rattle.rb_tree.specs.declared.syntax.Arm.{Arm}
use Rattle.rb_tree.specs.declared.syntax.When.{When}
use Rattle.rb_tree.specs.declared.syntax.Visibility.{Visibility}
use Rattle.rb_tree.specs.declared.syntax.Guarded.{Guarded}
use Rattle.rb_tree.specs.declared.syntax.Rescue.{Rescue}
use Rattle.rb_tree.specs.declared.syntax.Parameter.{Parameter}
use Rattle.srb_terms.specs.declared.outline.NodeKind.TheVariants as kind
use Rattle.rb_outline.specs.Outlines.{outline, leaf, kind_at, words_at, parts_at, outline_at, outline_of, dotted, if_words, visibility_words, own_mark, variable_words, argument_outline, block_outline, suffix_outline, piece_outline, pair_outline, arm_outline, when_outline, rescue_outline, parameter_outline, else_outline, ensure_outline}

-- trees in a row, with their outlines put in their places
rows-same : (f : Tree → Outline) (xs : List Tree) → map (λ o. o) (map f xs) ≡ map f xs
rows-same f [] = refl
rows-same f (x ∷ xs) = ap (λ os. f x ∷ os) (rows-same f xs)

-- by whether a parameter has a default
by-default : {X : Type 0} (P : Parameter X → Type 0) → ((kind : ParamKind) (name : List ℕ) (span : Span) → P (record { kind = kind; name = name; span = span; default = None })) →
    ((kind : ParamKind) (name : List ℕ) (span : Span) (d : X) → P (record { kind = kind; name = name; span = span; default = Some d })) → (p : Parameter X) → P p
by-default {X = X} P h k p = go p.default
  where
    go : (o : Option X) → P (record { kind = p.kind; name = p.name; span = p.span; default = o })
    go None = h p.kind p.name p.span
    go (Some d) = k p.kind p.name p.span d

-- by what stands after the clauses
by-guarded : {X : Type 0} (P : Guarded X → Type 0) →
    ((b : X) (rs : List (Rescue X)) → P (record { body = b; rescues = rs; otherwise = None; ensure = None })) →
    ((b : X) (rs : List (Rescue X)) (e : X) → P (record { body = b; rescues = rs; otherwise = None; ensure = Some e })) →
    ((b : X) (rs : List (Rescue X)) (o : X) → P (record { body = b; rescues = rs; otherwise = Some o; ensure = None })) →
    ((b : X) (rs : List (Rescue X)) (o e : X) → P (record { body = b; rescues = rs; otherwise = Some o; ensure = Some e })) →
    (g : Guarded X) → P g
by-guarded {X = X} P h k l m g = go g.otherwise g.ensure
  where
    go : (o e : Option X) → P (record { body = g.body; rescues = g.rescues; otherwise = o; ensure = e })
    go None None = h g.body g.rescues
    go None (Some e) = k g.body g.rescues e
    go (Some o) None = l g.body g.rescues o
    go (Some o) (Some e) = m g.body g.rescues o e

-- the outline of a node with the outlines of its trees put in their places
abbrev Same : (Node → Outline) → (Tree → Outline) → Node-F Node Tree → Type 0
Same h f x = outline_at (λ o. o) (map-Node Node Tree Outline Outline h f x) ≡ outline_at f x

-- the same of each kind of part
arguments-same : (f : Tree → Outline) (xs : List (Argument Tree)) →
    map (argument_outline (λ o. o)) ((former-Node-Command-1).map Tree Outline f xs) ≡ map (argument_outline f) xs
arguments-same f [] = refl
arguments-same f (argument.Positional value ∷ xs) = ap (λ os. f value ∷ os) (arguments-same f xs)
arguments-same f (argument.Keyword name span value ∷ xs) = ap (λ os. outline kind.Keyword name (f value ∷ []) ∷ os) (arguments-same f xs)
arguments-same f (argument.Block span value ∷ xs) = ap (λ os. outline kind.BlockArgument [] (f value ∷ []) ∷ os) (arguments-same f xs)

suffixes-same : (f : Tree → Outline) (xs : List (Suffix Tree)) →
    map (suffix_outline (λ o. o)) ((former-Node-Post-1).map Tree Outline f xs) ≡ map (suffix_outline f) xs
suffixes-same f [] = refl
suffixes-same f (suffix.Call how name name_span None None span ∷ xs) = ap (λ os. outline (dotted how) name [] ∷ os) (suffixes-same f xs)
suffixes-same f (suffix.Call how name name_span None (Some block) span ∷ xs) =
    ap (λ os. outline (dotted how) name (block_outline f block ∷ []) ∷ os) (suffixes-same f xs)
suffixes-same f (suffix.Call how name name_span (Some arguments) None span ∷ xs) =
    λ i. outline (dotted how) name (outline kind.Brackets [] (arguments-same f arguments i) ∷ []) ∷ suffixes-same f xs i
suffixes-same f (suffix.Call how name name_span (Some arguments) (Some block) span ∷ xs) =
    λ i. outline (dotted how) name (outline kind.Brackets [] (arguments-same f arguments i) ∷ block_outline f block ∷ []) ∷ suffixes-same f xs i
suffixes-same f (suffix.Constant name name_span span ∷ xs) = ap (λ os. leaf kind.SuffixConstant name ∷ os) (suffixes-same f xs)
suffixes-same f (suffix.Index arguments span ∷ xs) = λ i. outline kind.Index [] (arguments-same f arguments i) ∷ suffixes-same f xs i

pieces-same : (f : Tree → Outline) (xs : List (Piece Tree)) → map (piece_outline (λ o. o)) ((former-Node-Text-0).map Tree Outline f xs) ≡ map (piece_outline f) xs
pieces-same f [] = refl
pieces-same f (piece.Words words span ∷ xs) = ap (λ os. leaf kind.Piece words ∷ os) (pieces-same f xs)
pieces-same f (piece.Code body span ∷ xs) = ap (λ os. outline kind.Code [] (f body ∷ []) ∷ os) (pieces-same f xs)

pairs-same : (f : Tree → Outline) (xs : List (Pair Tree)) → map (pair_outline (λ o. o)) ((former-Node-Hash-0).map Tree Outline f xs) ≡ map (pair_outline f) xs
pairs-same f [] = refl
pairs-same f (pair.Arrow key value ∷ xs) = ap (λ os. outline kind.ArrowPair [] (f key ∷ f value ∷ []) ∷ os) (pairs-same f xs)
pairs-same f (pair.Label name span value ∷ xs) = ap (λ os. outline kind.LabelPair name (f value ∷ []) ∷ os) (pairs-same f xs)

arms-same : (f : Tree → Outline) (xs : List (Arm Tree)) → map (arm_outline (λ o. o)) ((former-Node-If-3).map Tree Outline f xs) ≡ map (arm_outline f) xs
arms-same f [] = refl
arms-same f (x ∷ xs) = ap (λ os. arm_outline f x ∷ os) (arms-same f xs)

whens-same : (f : Tree → Outline) (xs : List (When Tree)) → map (when_outline (λ o. o)) ((former-Node-Case-1).map Tree Outline f xs) ≡ map (when_outline f) xs
whens-same f [] = refl
whens-same f (x ∷ xs) = λ i. outline kind.When [] (rows-same f x.patterns i ++ f x.body ∷ []) ∷ whens-same f xs i

abbrev put-rescue : (Tree → Outline) → Rescue Tree → Rescue Outline
put-rescue f r = record { patterns = map f r.patterns; variable = r.variable; body = f r.body }

rescues-same : (f : Tree → Outline) (xs : List (Rescue Tree)) → map (rescue_outline (λ o. o)) (map (put-rescue f) xs) ≡ map (rescue_outline f) xs
rescues-same f [] = refl
rescues-same f (x ∷ xs) = λ i. outline kind.Rescue (variable_words x.variable) (rows-same f x.patterns i ++ f x.body ∷ []) ∷ rescues-same f xs i

parameters-same : (f : Tree → Outline) (ps : List (Parameter Tree)) →
    map (parameter_outline (λ o. o)) ((former-Node-Def-4).map Tree Outline f ps) ≡ map (parameter_outline f) ps
parameters-same f [] = refl
parameters-same f (p ∷ ps) = by-default
    (λ q. map (parameter_outline (λ o. o)) ((former-Node-Def-4).map Tree Outline f (q ∷ ps)) ≡ map (parameter_outline f) (q ∷ ps))
    (λ kind name span. ap (λ os. parameter_outline f (record { kind = kind; name = name; span = span; default = None }) ∷ os) (parameters-same f ps))
    (λ kind name span d. ap (λ os. parameter_outline f (record { kind = kind; name = name; span = span; default = Some d }) ∷ os) (parameters-same f ps))
    p

abbrev def-words : Option Visibility → Bool → List ℕ → List ℕ
def-words visibility own name = visibility_words visibility ++ (own_mark own ++ name)

-- the same of a node
same : (h : Node → Outline) (f : Tree → Outline) (x : Node-F Node Tree) → Same h f x
same h f (Node-F.Body statements span) = ap (outline kind.Body []) (rows-same f statements)
same h f (Node-F.Jump jump None span) = refl
same h f (Node-F.Jump jump (Some value) span) = refl
same h f (Node-F.Command callee arguments None span) = ap (λ ps. outline kind.Command [] (f callee ∷ (ps ++ []))) (arguments-same f arguments)
same h f (Node-F.Command callee arguments (Some block) span) =
    ap (λ ps. outline kind.Command [] (f callee ∷ (ps ++ block_outline f block ∷ []))) (arguments-same f arguments)
same h f (Node-F.Post receiver suffixes span) = ap (λ ps. outline kind.Post [] (f receiver ∷ ps)) (suffixes-same f suffixes)
same h f (Node-F.Text pieces span) = ap (outline kind.Text []) (pieces-same f pieces)
same h f (Node-F.Call name name_span None None span) = refl
same h f (Node-F.Call name name_span None (Some block) span) = refl
same h f (Node-F.Call name name_span (Some arguments) None span) = ap (λ ps. outline kind.Call name (outline kind.Brackets [] ps ∷ [])) (arguments-same f arguments)
same h f (Node-F.Call name name_span (Some arguments) (Some block) span) =
    ap (λ ps. outline kind.Call name (outline kind.Brackets [] ps ∷ block_outline f block ∷ [])) (arguments-same f arguments)
same h f (Node-F.Yield None span) = refl
same h f (Node-F.Yield (Some arguments) span) = ap (λ ps. outline kind.Yield [] (outline kind.Brackets [] ps ∷ [])) (arguments-same f arguments)
same h f (Node-F.Super None span) = refl
same h f (Node-F.Super (Some arguments) span) = ap (λ ps. outline kind.Super [] (outline kind.Brackets [] ps ∷ [])) (arguments-same f arguments)
same h f (Node-F.Array elements span) = ap (outline kind.Array []) (rows-same f elements)
same h f (Node-F.Hash pairs span) = ap (outline kind.Hash []) (pairs-same f pairs)
same h f (Node-F.If test condition body arms None span) =
    ap (λ ps. outline kind.If (if_words test) (f condition ∷ f body ∷ (ps ++ []))) (arms-same f arms)
same h f (Node-F.If test condition body arms (Some otherwise) span) =
    ap (λ ps. outline kind.If (if_words test) (f condition ∷ f body ∷ (ps ++ else_outline f otherwise ∷ []))) (arms-same f arms)
same h f (Node-F.Case None arms None span) = ap (λ ps. outline kind.Case [] (ps ++ [])) (whens-same f arms)
same h f (Node-F.Case None arms (Some otherwise) span) = ap (λ ps. outline kind.Case [] (ps ++ else_outline f otherwise ∷ [])) (whens-same f arms)
same h f (Node-F.Case (Some subject) arms None span) = ap (λ ps. outline kind.Case [] (f subject ∷ (ps ++ []))) (whens-same f arms)
same h f (Node-F.Case (Some subject) arms (Some otherwise) span) =
    ap (λ ps. outline kind.Case [] (f subject ∷ (ps ++ else_outline f otherwise ∷ []))) (whens-same f arms)
same h f (Node-F.Begin guarded span) = by-guarded (λ g. Same h f (Node-F.Begin g span))
    (λ b rs. ap (λ ps. outline kind.Begin [] (f b ∷ (ps ++ []))) (rescues-same f rs))
    (λ b rs e. ap (λ ps. outline kind.Begin [] (f b ∷ (ps ++ ensure_outline f e ∷ []))) (rescues-same f rs))
    (λ b rs o. ap (λ ps. outline kind.Begin [] (f b ∷ (ps ++ else_outline f o ∷ []))) (rescues-same f rs))
    (λ b rs o e. ap (λ ps. outline kind.Begin [] (f b ∷ (ps ++ else_outline f o ∷ ensure_outline f e ∷ []))) (rescues-same f rs))
    guarded
same h f (Node-F.Def visibility own name name_span parameters guarded span) = by-guarded (λ g. Same h f (Node-F.Def visibility own name name_span parameters g span))
    (λ b rs i. outline kind.Def (def-words visibility own name) (parameters-same f parameters i ++ f b ∷ (rescues-same f rs i ++ [])))
    (λ b rs e i. outline kind.Def (def-words visibility own name) (parameters-same f parameters i ++ f b ∷ (rescues-same f rs i ++ ensure_outline f e ∷ [])))
    (λ b rs o i. outline kind.Def (def-words visibility own name) (parameters-same f parameters i ++ f b ∷ (rescues-same f rs i ++ else_outline f o ∷ [])))
    (λ b rs o e i. outline kind.Def (def-words visibility own name)
    (parameters-same f parameters i ++ f b ∷ (rescues-same f rs i ++ else_outline f o ∷ ensure_outline f e ∷ [])))
    guarded
same h f x = refl

-- the law
outline_is : (t : Tree) → outline_of t ≡ outline_at outline_of (out-Node t.node)
unfolding outline_of
outline_is t = fold_out-Tree Outline Outline (λ x. outline_at (λ o. o) x) (λ u. u.node) t
    ∙ fold_out-Node Outline Outline (λ x. outline_at (λ o. o) x) (λ u. u.node) t.node
    ∙ same (fold-Node Outline Outline (λ x. outline_at (λ o. o) x) (λ u. u.node)) (fold-Tree Outline Outline (λ x. outline_at (λ o. o) x) (λ u. u.node)) (out-Node t.node)

-- the same from the node's parts
pub outline_from : (t : Tree) → outline (kind_at (out-Node t.node)) (words_at (out-Node t.node)) (parts_at outline_of (out-Node t.node)) ≡ outline_of t
outline_from t = sym (outline_is t)
