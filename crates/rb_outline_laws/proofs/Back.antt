-- The outline of a node is read back as the tree of the node without places.
use Rattle.std.proofs.Common.{◌≡◌, ℕ, Bool, List, [], ◌∷◌, ◌++◌, map, Option, Some, None, refl, ap, ◌∙◌}
use Rattle.srb_terms.specs.declared.outline.Outline.{Outline}
use Rattle.rb_tree.specs.declared.syntax.Tree.{Tree}
use Rattle.rb_tree.specs.declared.syntax.Node.{Node}
use Rattle.rb_tree.specs.declared.syntax.Node.TheOpen.{Node-F}
use Rattle.rb_tree.specs.declared.syntax.Node.TheFolds.{map-Node}
use Rattle.rb_tree.specs.declared.syntax.Node.TheShapes.{former-Node-If-3, former-Node-Case-1}
use Rattle.rb_tree.specs.declared.syntax.Argument.{Argument}
use Rattle.rb_tree.specs.declared.syntax.Arm.{Arm}
use Rattle.rb_tree.specs.declared.syntax.When.{When}
use Rattle.rb_tree.specs.declared.syntax.Test.{Test}
use Rattle.rb_tree.specs.declared.syntax.PlacedName.{PlacedName}
use Rattle.rb_tree.specs.declared.syntax.Reference.{Reference}
use Rattle.rb_tree.specs.declared.syntax.Parameter.{Parameter}
use Rattle.rb_tree.specs.declared.syntax.Guarded.{Guarded}
use Rattle.rb_tree.specs.declared.syntax.Visibility.{Visibility}
use Rattle.rb_outline.specs.Outlines.{modifier_words, jump_words, if_words, while_words, unary_words, binary_words, visibility_words, own_mark, constant_outline, superclass_outline, parts_if, argument_outline, block_outline, arm_outline, when_outline, else_outline, parameter_outline, guarded_parts, kind_at, words_at, parts_at, outline_of}
use Rattle.rb_outline_laws.specs.Unplaced.{nowhere, unplaced_name, unplaced_node, unplaced}
use Rattle.rb_outline_laws.proofs.Spelled.{modifier-back, jump-back, if-back, while-back, unary-back, binary-back, visibility-back, own_in, own-back}
use Rattle.rb_outline_laws.proofs.Reading.{Reading, a_tree, an_else, a_block, made, tree_in, tree_if, name_if, argument_if, arm_if, when_if, else_if, parameter_if, found, taken, split_last, command_from, if_from, case_from, case_in, class_from, class_in, module_in, def_from, def_in, guarded_in, reading_of, read}
use Rattle.rb_outline_laws.proofs.Rows.{ends, stops, one-more, whole, split-end, split-two}
use Rattle.rb_outline_laws.proofs.Parts.{Kept, tree, is_read, constants-read, sign-read, arguments_of, unplaced_arguments, arguments-read, block_of, block_without, block-read, call-read, brackets-if-read, suffixes-read, pieces-read, pairs-read, else-read, arms-read, all-trees, whens-read, whens-stop, guarded_of, guarded_without, guarded-read, parameters_of, unplaced_parameters, parameters-read, superclass-read}

-- ---- nodes with several rows

-- a command: what follows its arguments is known
command-read : (callee : Kept) (xs : List (Argument Kept)) (rest : List Outline) (readings : List Reading) → map read rest ≡ readings → taken argument_if (map read rest) ≡ ([], map read rest) →
    command_from (tree_in (read (outline_of callee.0))) (taken argument_if (map read (map (argument_outline outline_of) (arguments_of xs) ++ rest)))
    ≡ command_from (unplaced callee.0) (unplaced_arguments xs, readings)
command-read callee xs rest readings is stop =
    (λ i. command_from (tree_in (is_read callee i)) (arguments-read rest stop xs i))
    ∙ ap (λ z. command_from (unplaced callee.0) (unplaced_arguments xs, z)) is

abbrev arms_of : List (Arm Kept) → List (Arm Tree)
arms_of xs = (former-Node-If-3).map Kept Tree tree xs

abbrev unplaced_arms : List (Arm Kept) → List (Arm Tree)
unplaced_arms xs = (former-Node-If-3).map Tree Tree unplaced (arms_of xs)

if-read : (test : Test) (condition body : Kept) (xs : List (Arm Kept)) (rest : List Outline) (readings : List Reading) → map read rest ≡ readings → taken arm_if (map read rest) ≡ ([], map read rest) →
    if_from (if_words test) (tree_in (read (outline_of condition.0))) (tree_in (read (outline_of body.0))) (taken arm_if (map read (map (arm_outline outline_of) (arms_of xs) ++ rest)))
    ≡ made (Node-F.If test (unplaced condition.0) (unplaced body.0) (unplaced_arms xs) (found else_if readings) nowhere)
if-read test condition body xs rest readings is stop =
    (λ i. if_from (if_words test) (tree_in (is_read condition i)) (tree_in (is_read body i)) (arms-read rest stop xs i))
    ∙ (λ i. made (Node-F.If (if-back test i) (unplaced condition.0) (unplaced body.0) (unplaced_arms xs) (found else_if (is i)) nowhere))

abbrev whens_of : List (When Kept) → List (When Tree)
whens_of xs = (former-Node-Case-1).map Kept Tree tree xs

abbrev unplaced_whens : List (When Kept) → List (When Tree)
unplaced_whens xs = (former-Node-Case-1).map Tree Tree unplaced (whens_of xs)

-- `case` without a subject, and with one
whens-of-case : (subject : Option Tree) (xs : List (When Kept)) (rest : List Outline) (readings : List Reading) → map read rest ≡ readings → taken when_if (map read rest) ≡ ([], map read rest) →
    case_from subject (taken when_if (map read (map (when_outline outline_of) (whens_of xs) ++ rest)))
    ≡ made (Node-F.Case subject (unplaced_whens xs) (found else_if readings) nowhere)
whens-of-case subject xs rest readings is stop =
    ap (case_from subject) (whens-read rest stop xs) ∙ ap (λ z. made (Node-F.Case subject (unplaced_whens xs) (found else_if z) nowhere)) is

case-read : (xs : List (When Kept)) (rest : List Outline) (readings : List Reading) → map read rest ≡ readings → taken when_if (map read rest) ≡ ([], map read rest) →
    taken tree_if (map read rest) ≡ ([], map read rest) →
    case_in (taken tree_if (map read (map (when_outline outline_of) (whens_of xs) ++ rest)))
    ≡ made (Node-F.Case None (unplaced_whens xs) (found else_if readings) nowhere)
case-read xs rest readings is stop no_tree = ap case_in (whens-stop rest no_tree xs) ∙ whens-of-case None xs rest readings is stop

case-of-read : (subject : Kept) (xs : List (When Kept)) (rest : List Outline) (readings : List Reading) → map read rest ≡ readings → taken when_if (map read rest) ≡ ([], map read rest) →
    taken tree_if (map read rest) ≡ ([], map read rest) →
    case_in (taken tree_if (map read (outline_of subject.0 ∷ (map (when_outline outline_of) (whens_of xs) ++ rest))))
    ≡ made (Node-F.Case (Some (unplaced subject.0)) (unplaced_whens xs) (found else_if readings) nowhere)
case-of-read subject xs rest readings is stop no_tree =
    ap case_in (one-more tree_if _ _ _ _ _ (ap tree_if (is_read subject)) (whens-stop rest no_tree xs))
    ∙ whens-of-case (Some (unplaced subject.0)) xs rest readings is stop

class-read : (path : List PlacedName) (superclass : Option Reference) (body : Kept) →
    class_in (split_last (map read (map constant_outline path ++ (parts_if superclass_outline superclass ++ outline_of body.0 ∷ []))))
    ≡ made (unplaced_node (Node-F.Class path superclass (unplaced body.0) nowhere))
class-read path None body =
    ap class_in (split-end (map constant_outline path) (outline_of body.0))
    ∙ (λ i. class_from (whole name_if (map constant_outline path) (map unplaced_name path) (constants-read [] (ends name_if) path) i) (tree_in (is_read body i)))
class-read path (Some r) body =
    ap class_in (split-two (map constant_outline path) (superclass_outline r ∷ []) (outline_of body.0))
    ∙ (λ i. class_from (constants-read (superclass_outline r ∷ []) (stops name_if _ _ (ap name_if (superclass-read r))) path i) (tree_in (is_read body i)))
    ∙ ap (λ z. class_from (map unplaced_name path, z ∷ []) (unplaced body.0)) (superclass-read r)

module-read : (path : List PlacedName) (body : Kept) →
    module_in (split_last (map read (map constant_outline path ++ outline_of body.0 ∷ [])))
    ≡ made (unplaced_node (Node-F.Module path (unplaced body.0) nowhere))
module-read path body =
    ap module_in (split-end (map constant_outline path) (outline_of body.0))
    ∙ (λ i. made (Node-F.Module (whole name_if (map constant_outline path) (map unplaced_name path) (constants-read [] (ends name_if) path) i).0 (tree_in (is_read body i)) nowhere))

def-read : (v : Option Visibility) (own : Bool) (name : List ℕ) (ps : List (Parameter Kept)) (g : Guarded Kept) →
    def_in (visibility_words v ++ (own_mark own ++ name)) (taken parameter_if (map read (map (parameter_outline outline_of) (parameters_of ps) ++ guarded_parts outline_of (guarded_of g))))
    ≡ made (Node-F.Def v own name nowhere (unplaced_parameters ps) (guarded_without g) nowhere)
def-read v own name ps g =
    (λ i. let label = visibility-back v own name i in
    let t = parameters-read (guarded_parts outline_of (guarded_of g)) (stops parameter_if _ _ (ap parameter_if (is_read g.body))) ps i in
    def_from label (own_in label.1) t.0 (guarded_in t.1))
    ∙ (λ i. def_from (v, own_mark own ++ name) (own-back own name i) (unplaced_parameters ps) (guarded-read g i))

-- ---- nodes

abbrev IsReadBack : {N : Type 0} → (Node → Node) → (N → Node) → Node-F N Kept → Type 0
IsReadBack {N = N} h u y =
    let x = map-Node N Kept Node Tree u tree y in
    reading_of (kind_at x) (words_at x) (map read (parts_at outline_of x)) ≡ a_tree (words_at x) (made (unplaced_node (map-Node Node Tree Node Tree h unplaced x)))

pub node-read : {N : Type 0} (h : Node → Node) (u : N → Node) (y : Node-F N Kept) → IsReadBack h u y
node-read h u (Node-F.Body statements span) = λ i. a_tree [] (made (Node-F.Body (all-trees statements i).0 nowhere))
node-read h u (Node-F.Modified s m c span) =
    λ i. a_tree (modifier_words m) (made (Node-F.Modified (tree_in (is_read s i)) (modifier-back m i) (tree_in (is_read c i)) nowhere))
node-read h u (Node-F.Jump j None span) = λ i. a_tree (jump_words j) (made (Node-F.Jump (jump-back j i) None nowhere))
node-read h u (Node-F.Jump j (Some e) span) = λ i. a_tree (jump_words j) (made (Node-F.Jump (jump-back j i) (Some (tree_in (is_read e i))) nowhere))
node-read h u (Node-F.Assign t v span) = λ i. a_tree [] (made (Node-F.Assign (tree_in (is_read t i)) (tree_in (is_read v i)) nowhere))
node-read h u (Node-F.OperatorAssign t o os v span) =
    λ i. a_tree (binary_words o) (made (Node-F.OperatorAssign (tree_in (is_read t i)) (binary-back o i) nowhere (tree_in (is_read v i)) nowhere))
node-read h u (Node-F.Command callee xs None span) = ap (a_tree []) (command-read callee xs [] [] refl (ends argument_if))
node-read h u (Node-F.Command callee xs (Some b) span) = ap (a_tree [])
    (command-read callee xs (block_outline outline_of (block_of b) ∷ []) (a_block (block_without b) ∷ [])
    (λ i. block-read b i ∷ []) (stops argument_if _ _ (ap argument_if (block-read b))))
node-read h u (Node-F.Conditional c p n span) =
    λ i. a_tree [] (made (Node-F.Conditional (tree_in (is_read c i)) (tree_in (is_read p i)) (tree_in (is_read n i)) nowhere))
node-read h u (Node-F.Binary o os l r span) =
    λ i. a_tree (binary_words o) (made (Node-F.Binary (binary-back o i) nowhere (tree_in (is_read l i)) (tree_in (is_read r i)) nowhere))
node-read h u (Node-F.Unary o e span) = λ i. a_tree (unary_words o) (made (Node-F.Unary (unary-back o i) (tree_in (is_read e i)) nowhere))
node-read h u (Node-F.Post e suffixes span) = λ i. a_tree [] (made (Node-F.Post (tree_in (is_read e i)) (suffixes-read suffixes i).0 nowhere))
node-read h u (Node-F.Whole s words span) = λ i. a_tree words (made (Node-F.Whole (sign-read s i) words nowhere))
node-read h u (Node-F.Float s words span) = λ i. a_tree words (made (Node-F.Float (sign-read s i) words nowhere))
node-read h u (Node-F.Text pieces span) = λ i. a_tree [] (made (Node-F.Text (pieces-read pieces i).0 nowhere))
node-read h u (Node-F.Symbol words span) = refl
node-read h u (Node-F.InstanceVariable name span) = refl
node-read h u (Node-F.Constant name span) = refl
node-read h u (Node-F.TopConstant name name_span span) = refl
node-read h u (Node-F.SelfWord span) = refl
node-read h u (Node-F.Nil span) = refl
node-read h u (Node-F.True span) = refl
node-read h u (Node-F.False span) = refl
node-read h u (Node-F.Name name span) = refl
node-read h u (Node-F.Call name name_span xs b span) = λ i. a_tree name (made (Node-F.Call name nowhere (call-read xs b i).0 (call-read xs b i).1 nowhere))
node-read h u (Node-F.Yield xs span) = λ i. a_tree [] (made (Node-F.Yield (brackets-if-read xs i) nowhere))
node-read h u (Node-F.Super xs span) = λ i. a_tree [] (made (Node-F.Super (brackets-if-read xs i) nowhere))
node-read h u (Node-F.Array elements span) = λ i. a_tree [] (made (Node-F.Array (all-trees elements i).0 nowhere))
node-read h u (Node-F.Hash pairs span) = λ i. a_tree [] (made (Node-F.Hash (pairs-read pairs i).0 nowhere))
node-read h u (Node-F.Parens e span) = λ i. a_tree [] (made (Node-F.Parens (tree_in (is_read e i)) nowhere))
node-read h u (Node-F.If test c e xs None span) = ap (a_tree (if_words test)) (if-read test c e xs [] [] refl (ends arm_if))
node-read h u (Node-F.If test c e xs (Some o) span) = ap (a_tree (if_words test))
    (if-read test c e xs (else_outline outline_of o.0 ∷ []) (an_else (unplaced o.0) ∷ []) (λ i. else-read o i ∷ []) (stops arm_if _ _ (ap arm_if (else-read o))))
node-read h u (Node-F.While test c e span) =
    λ i. a_tree (while_words test) (made (Node-F.While (while-back test i) (tree_in (is_read c i)) (tree_in (is_read e i)) nowhere))
node-read h u (Node-F.Case None xs None span) = ap (a_tree []) (case-read xs [] [] refl (ends when_if) (ends tree_if))
node-read h u (Node-F.Case None xs (Some o) span) = ap (a_tree [])
    (case-read xs (else_outline outline_of o.0 ∷ []) (an_else (unplaced o.0) ∷ []) (λ i. else-read o i ∷ [])
    (stops when_if _ _ (ap when_if (else-read o))) (stops tree_if _ _ (ap tree_if (else-read o))))
node-read h u (Node-F.Case (Some subject) xs None span) = ap (a_tree []) (case-of-read subject xs [] [] refl (ends when_if) (ends tree_if))
node-read h u (Node-F.Case (Some subject) xs (Some o) span) = ap (a_tree [])
    (case-of-read subject xs (else_outline outline_of o.0 ∷ []) (an_else (unplaced o.0) ∷ []) (λ i. else-read o i ∷ [])
    (stops when_if _ _ (ap when_if (else-read o))) (stops tree_if _ _ (ap tree_if (else-read o))))
node-read h u (Node-F.Begin g span) = λ i. a_tree [] (made (Node-F.Begin (guarded-read g i) nowhere))
node-read h u (Node-F.Class path superclass e span) = ap (a_tree []) (class-read path superclass e)
node-read h u (Node-F.Module path e span) = ap (a_tree []) (module-read path e)
node-read h u (Node-F.Def v own name name_span ps g span) = ap (a_tree (visibility_words v ++ (own_mark own ++ name))) (def-read v own name ps g)
