-- The parts of a node that are read have a fact where all trees in the node have it.
use Rattle.std.proofs.Common.{ℕ, Bool, false, List, [], ◌∷◌, ◌++◌, map, is_some, Option, Some, None}
use Rattle.std.specs.List.{flat_map}
use Rattle.rb_tree.specs.declared.syntax.Argument.{Argument}
use Rattle.rb_tree.specs.declared.syntax.Argument.TheVariants as argument
use Rattle.rb_tree.specs.declared.syntax.Arm.{Arm}
use Rattle.rb_tree.specs.declared.syntax.Block.{Block}
use Rattle.rb_tree.specs.declared.syntax.Guarded.{Guarded}
use Rattle.rb_tree.specs.declared.syntax.Pair.{Pair}
use Rattle.rb_tree.specs.declared.syntax.Pair.TheVariants as pair
use Rattle.rb_tree.specs.declared.syntax.Parameter.{Parameter}
use Rattle.rb_tree.specs.declared.syntax.Piece.{Piece}
use Rattle.rb_tree.specs.declared.syntax.Piece.TheVariants as piece
use Rattle.rb_tree.specs.declared.syntax.Rescue.{Rescue}
use Rattle.rb_tree.specs.declared.syntax.Suffix.{Suffix}
use Rattle.rb_tree.specs.declared.syntax.Suffix.TheVariants as suffix
use Rattle.rb_tree.specs.declared.syntax.Tree.{Tree}
use Rattle.rb_tree.specs.declared.syntax.When.{When}
use Rattle.rb_tree.specs.declared.syntax.Node.{Node}
use Rattle.rb_tree.specs.declared.syntax.Node.TheOpen.{Node-F}
use Rattle.rb_views.specs.Calls.{arguments_of}
use Rattle.rb_views.specs.Targets.{callee_of}
use Rattle.rb_grammar.specs.Places.{Each, IfThere}
use Rattle.srb_references.specs.declared.reading.Reading.{Reading}
use Rattle.srb_references.specs.declared.reading.Reading.TheVariants as reading
use Rattle.srb_references.specs.declared.reading.Taken.{Taken}
use Rattle.srb_references.specs.declared.reading.Taken.TheVariants as taken
use Rattle.srb_references.specs.Readings.{Visit, visit, plain, if_any, part_if, argument_parts, row_parts, arguments_parts, block_parts, call_parts, suffix_parts, suffixes_parts, piece_parts, pair_parts, arm_parts, when_parts, rescue_parts, guarded_parts, parameter_parts, parts, form_suffix_parts, post_parts, is_single, statement_reading, receiver_reading, row_reading, target_reading, taken_by_callee, taken_by_self, taken_in_type, taken_on, block_by_callee, block_by_self}
use Rattle.srb_references.specs.TypeForms.{is_t, post_form}

-- ---- lists

pub each-append : {A : Type 0} (P : A → Type 0) (xs ys : List A) → Each P xs → Each P ys → Each P (xs ++ ys)
each-append P [] ys h k = k
each-append P (x ∷ xs) ys h k = (h.0, each-append P xs ys h.1 k)

pub each-flat : {A B : Type 0} (P : A → Type 0) (Q : B → Type 0) (f : A → List B) → ((x : A) → P x → Each Q (f x)) → (xs : List A) → Each P xs → Each Q (flat_map f xs)
each-flat P Q f g [] h = tt
each-flat P Q f g (x ∷ xs) h = each-append Q (f x) (flat_map f xs) (g x h.0) (each-flat P Q f g xs h.1)

module _ (P : Tree → Type 0) where
  -- ---- all trees in a part of a node

  abbrev pub OfArgument : Argument Tree → Type 0
  OfArgument (argument.Positional value) = P value
  OfArgument (argument.Keyword name span value) = P value
  OfArgument (argument.Block span value) = P value

  abbrev pub OfBlock : Block Tree → Type 0
  OfBlock b = P b.body

  abbrev pub OfSuffix : Suffix Tree → Type 0
  OfSuffix (suffix.Call how name name_span arguments block span) = IfThere (Each OfArgument) arguments × IfThere OfBlock block
  OfSuffix (suffix.Constant name name_span span) = Unit {0}
  OfSuffix (suffix.Index arguments span) = Each OfArgument arguments

  abbrev pub OfPiece : Piece Tree → Type 0
  OfPiece (piece.Words words span) = Unit {0}
  OfPiece (piece.Code body span) = P body

  abbrev pub OfPair : Pair Tree → Type 0
  OfPair (pair.Arrow key value) = P key × P value
  OfPair (pair.Label name span value) = P value

  abbrev pub OfArm : Arm Tree → Type 0
  OfArm a = P a.condition × P a.body

  abbrev pub OfWhen : When Tree → Type 0
  OfWhen w = Each P w.patterns × P w.body

  abbrev pub OfRescue : Rescue Tree → Type 0
  OfRescue r = Each P r.patterns × P r.body

  abbrev pub OfGuarded : Guarded Tree → Type 0
  OfGuarded g = P g.body × Each OfRescue g.rescues × IfThere P g.otherwise × IfThere P g.ensure

  abbrev pub OfParameter : Parameter Tree → Type 0
  OfParameter p = IfThere P p.default

  -- all trees in a node
  abbrev pub OfNode : Node-F Node Tree → Type 0
  OfNode (Node-F.Body statements span) = Each P statements
  OfNode (Node-F.Modified statement modifier condition span) = P statement × P condition
  OfNode (Node-F.Jump jump value span) = IfThere P value
  OfNode (Node-F.Assign target value span) = P target × P value
  OfNode (Node-F.OperatorAssign target operator operator_span value span) = P target × P value
  OfNode (Node-F.Command callee arguments block span) = P callee × Each OfArgument arguments × IfThere OfBlock block
  OfNode (Node-F.Conditional condition positive negative span) = P condition × P positive × P negative
  OfNode (Node-F.Binary operator operator_span left right span) = P left × P right
  OfNode (Node-F.Unary operator operand span) = P operand
  OfNode (Node-F.Post receiver suffixes span) = P receiver × Each OfSuffix suffixes
  OfNode (Node-F.Text pieces span) = Each OfPiece pieces
  OfNode (Node-F.Call name name_span arguments block span) = IfThere (Each OfArgument) arguments × IfThere OfBlock block
  OfNode (Node-F.Yield arguments span) = IfThere (Each OfArgument) arguments
  OfNode (Node-F.Super arguments span) = IfThere (Each OfArgument) arguments
  OfNode (Node-F.Array elements span) = Each P elements
  OfNode (Node-F.Hash pairs span) = Each OfPair pairs
  OfNode (Node-F.Parens body span) = P body
  OfNode (Node-F.If test condition body arms otherwise span) = P condition × P body × Each OfArm arms × IfThere P otherwise
  OfNode (Node-F.While test condition body span) = P condition × P body
  OfNode (Node-F.Case subject arms otherwise span) = IfThere P subject × Each OfWhen arms × IfThere P otherwise
  OfNode (Node-F.Begin guarded span) = OfGuarded guarded
  OfNode (Node-F.Class path superclass body span) = P body
  OfNode (Node-F.Module path body span) = P body
  OfNode (Node-F.Def visibility own name name_span parameters guarded span) = Each OfParameter parameters × OfGuarded guarded
  OfNode _ = Unit {0}

  -- ---- the parts that are read

  -- a part has the fact, however it is read
  abbrev pub OfVisit : Visit Tree → Type 0
  OfVisit v = P v.part

  abbrev All : List (Visit Tree) → Type 0
  All = Each OfVisit

  module _ (scope : List (List ℕ)) where
    trees-all : (m : Reading) (xs : List Tree) → Each P xs → All (map (visit m scope) xs)
    trees-all m [] h = tt
    trees-all m (x ∷ xs) h = (h.0, trees-all m xs h.1)

    if-any-all : (x : Option Tree) → IfThere P x → All (if_any scope x)
    if-any-all None h = tt
    if-any-all (Some x) h = (h, tt)

    part-all : (m : Option Reading) (x : Tree) → P x → All (part_if scope m x)
    part-all None x h = tt
    part-all (Some m) x h = (h, tt)

    argument-all : (how : Taken) (a : Argument Tree) → OfArgument a → All (argument_parts scope how a)
    argument-all how (argument.Positional value) h = (h, tt)
    argument-all how (argument.Keyword name span value) h = (h, tt)
    argument-all how (argument.Block span value) h = (h, tt)

    row-all : (how : Taken) (xs : List (Argument Tree)) → Each OfArgument xs → All (row_parts scope how xs)
    row-all how = each-flat OfArgument OfVisit (argument_parts scope how) (argument-all how)

    arguments-all : (how : Taken) (xs : List (Argument Tree)) → Each OfArgument xs → All (arguments_parts scope how xs)
    arguments-all taken.All xs h = row-all taken.All xs h
    arguments-all taken.Mixins xs h = row-all taken.Mixins xs h
    arguments-all taken.Types xs h = row-all taken.Types xs h
    arguments-all taken.TypesByPlace xs h = row-all taken.TypesByPlace xs h
    arguments-all taken.TypesByName xs h = row-all taken.TypesByName xs h
    arguments-all taken.ClassNames xs h = row-all taken.ClassNames xs h
    arguments-all taken.SecondIsType [] h = tt
    arguments-all taken.SecondIsType (argument.Positional value ∷ []) h = (h.0, tt)
    arguments-all taken.SecondIsType (argument.Positional value ∷ argument.Positional type ∷ []) h = (h.0, (h.1.0, tt))
    arguments-all taken.SecondIsType (argument.Positional value ∷ argument.Positional type ∷ x ∷ xs) h =
        row-all taken.SecondIsType (argument.Positional value ∷ argument.Positional type ∷ x ∷ xs) h
    arguments-all taken.SecondIsType (argument.Positional value ∷ argument.Keyword name span other ∷ xs) h =
        row-all taken.SecondIsType (argument.Positional value ∷ argument.Keyword name span other ∷ xs) h
    arguments-all taken.SecondIsType (argument.Positional value ∷ argument.Block span other ∷ xs) h =
        row-all taken.SecondIsType (argument.Positional value ∷ argument.Block span other ∷ xs) h
    arguments-all taken.SecondIsType (argument.Keyword name span value ∷ xs) h = row-all taken.SecondIsType (argument.Keyword name span value ∷ xs) h
    arguments-all taken.SecondIsType (argument.Block span value ∷ xs) h = row-all taken.SecondIsType (argument.Block span value ∷ xs) h

    block-all : (m : Reading) (b : Option (Block Tree)) → IfThere OfBlock b → All (block_parts scope m b)
    block-all m None h = tt
    block-all m (Some b) h = (h, tt)

    call-all : (how : Taken) (xs : List (Argument Tree)) (m : Reading) (b : Option (Block Tree)) → Each OfArgument xs → IfThere OfBlock b → All (call_parts scope how xs m b)
    call-all how xs m b h k = each-append OfVisit (arguments_parts scope how xs) (block_parts scope m b) (arguments-all how xs h) (block-all m b k)

    given-all : (given : Option (List (Argument Tree))) → IfThere (Each OfArgument) given → Each OfArgument (arguments_of given)
    given-all None h = tt
    given-all (Some given) h = h

    suffix-all : (m : Reading) (on_t : Bool) (s : Suffix Tree) → OfSuffix s → All (suffix_parts scope m on_t s)
    suffix-all m on_t (suffix.Call how name name_span arguments block span) h =
        call-all (taken_on m on_t how name (is_some block)) (arguments_of arguments) reading.Plain block (given-all arguments h.0) h.1
    suffix-all m on_t (suffix.Constant name name_span span) h = tt
    suffix-all m on_t (suffix.Index arguments span) h = row-all taken.All arguments h

    suffixes-all : (m : Reading) (on_t : Bool) (ss : List (Suffix Tree)) → Each OfSuffix ss → All (suffixes_parts scope m on_t ss)
    suffixes-all m on_t [] h = tt
    suffixes-all m on_t (s ∷ ss) h =
        each-append OfVisit (suffix_parts scope m on_t s) (suffixes_parts scope m false ss) (suffix-all m on_t s h.0) (suffixes-all m false ss h.1)

    form-suffix-all : (how : Taken) (s : Suffix Tree) → OfSuffix s → All (form_suffix_parts scope how s)
    form-suffix-all how (suffix.Call dotted name name_span arguments block span) h = row-all how (arguments_of arguments) (given-all arguments h.0)
    form-suffix-all how (suffix.Constant name name_span span) h = tt
    form-suffix-all how (suffix.Index arguments span) h = row-all how arguments h

    post-all : (how : Option Taken) (m : Reading) (receiver : Tree) (ss : List (Suffix Tree)) → P receiver → Each OfSuffix ss →
        All (post_parts scope how m receiver receiver ss)
    post-all (Some how) m receiver ss h k = each-flat OfSuffix OfVisit (form_suffix_parts scope how) (form-suffix-all how) ss k
    post-all None m receiver ss h k =
        each-append OfVisit (part_if scope (receiver_reading m receiver) receiver) (suffixes_parts scope m (is_t receiver) ss)
        (part-all (receiver_reading m receiver) receiver h) (suffixes-all m (is_t receiver) ss k)

    piece-all : (p : Piece Tree) → OfPiece p → All (piece_parts scope p)
    piece-all (piece.Words words span) h = tt
    piece-all (piece.Code body span) h = (h, tt)

    pair-all : (p : Pair Tree) → OfPair p → All (pair_parts scope p)
    pair-all (pair.Arrow key value) h = (h.0, (h.1, tt))
    pair-all (pair.Label name span value) h = (h, tt)

    arms-all : (arms : List (Arm Tree)) → Each OfArm arms → All (flat_map (arm_parts scope) arms)
    arms-all = each-flat OfArm OfVisit (arm_parts scope) (λ a h. (h.0, (h.1, tt)))

    ended-all : (xs : List Tree) (b : Tree) → Each P xs → P b → All (map (plain scope) xs ++ plain scope b ∷ [])
    ended-all xs b h k = each-append OfVisit (map (plain scope) xs) (plain scope b ∷ []) (trees-all reading.Plain xs h) (k, tt)

    whens-all : (arms : List (When Tree)) → Each OfWhen arms → All (flat_map (when_parts scope) arms)
    whens-all = each-flat OfWhen OfVisit (when_parts scope) (λ w h. ended-all w.patterns w.body h.0 h.1)

    rescues-all : (rs : List (Rescue Tree)) → Each OfRescue rs → All (flat_map (rescue_parts scope) rs)
    rescues-all = each-flat OfRescue OfVisit (rescue_parts scope) (λ r h. ended-all r.patterns r.body h.0 h.1)

    guarded-all : (g : Guarded Tree) → OfGuarded g → All (guarded_parts scope g)
    guarded-all g h = (
      h.0,
      each-append OfVisit (flat_map (rescue_parts scope) g.rescues) (if_any scope g.otherwise ++ if_any scope g.ensure)
          (rescues-all g.rescues h.1)
          (each-append OfVisit (if_any scope g.otherwise) (if_any scope g.ensure) (if-any-all g.otherwise h.2) (if-any-all g.ensure h.3)),
    )

    parameters-all : (ps : List (Parameter Tree)) → Each OfParameter ps → All (flat_map (parameter_parts scope) ps)
    parameters-all = each-flat OfParameter OfVisit (parameter_parts scope) (λ p h. if-any-all p.default h)

    -- the parts of a node that are read
    pub parts-all : (m : Reading) (n : Node-F Node Tree) → OfNode n → All (parts (λ x. x) m scope n)
    parts-all m (Node-F.Body statements span) h = trees-all (statement_reading m (is_single statements)) statements h
    parts-all m (Node-F.Modified statement modifier condition span) h = (h.0, (h.1, tt))
    parts-all m (Node-F.Jump jump value span) h = if-any-all value h
    parts-all m (Node-F.Assign target value span) h =
        each-append OfVisit (part_if scope (target_reading target) target) (plain scope value ∷ []) (part-all (target_reading target) target h.0) (h.1, tt)
    parts-all m (Node-F.OperatorAssign target operator operator_span value span) h = (h.0, (h.1, tt))
    parts-all m (Node-F.Command callee arguments block span) h =
        (h.0, call-all (taken_by_callee m (callee_of callee) (is_some block)) arguments (block_by_callee m (callee_of callee)) block h.1 h.2)
    parts-all m (Node-F.Conditional condition positive negative span) h = (h.0, (h.1, (h.2, tt)))
    parts-all m (Node-F.Binary operator operator_span left right span) h = (h.0, (h.1, tt))
    parts-all m (Node-F.Unary operator operand span) h = (h, tt)
    parts-all m (Node-F.Post receiver suffixes span) h =
        post-all (taken_in_type m (post_form (λ t. t) receiver suffixes)) (row_reading m suffixes) receiver suffixes h.0 h.1
    parts-all m (Node-F.Text pieces span) h = each-flat OfPiece OfVisit (piece_parts scope) piece-all pieces h
    parts-all m (Node-F.Call name name_span arguments block span) h =
        call-all (taken_by_self m name (is_some block)) (arguments_of arguments) (block_by_self m name) block (given-all arguments h.0) h.1
    parts-all m (Node-F.Yield arguments span) h = row-all taken.All (arguments_of arguments) (given-all arguments h)
    parts-all m (Node-F.Super arguments span) h = row-all taken.All (arguments_of arguments) (given-all arguments h)
    parts-all m (Node-F.Array elements span) h = trees-all reading.Plain elements h
    parts-all m (Node-F.Hash pairs span) h = each-flat OfPair OfVisit (pair_parts scope) pair-all pairs h
    parts-all m (Node-F.Parens body span) h = (h, tt)
    parts-all m (Node-F.If test condition body arms otherwise span) h =
        (h.0, (h.1, each-append OfVisit (flat_map (arm_parts scope) arms) (if_any scope otherwise) (arms-all arms h.2) (if-any-all otherwise h.3)))
    parts-all m (Node-F.While test condition body span) h = (h.0, (h.1, tt))
    parts-all m (Node-F.Case subject arms otherwise span) h =
        each-append OfVisit (if_any scope subject) (flat_map (when_parts scope) arms ++ if_any scope otherwise) (if-any-all subject h.0)
        (each-append OfVisit (flat_map (when_parts scope) arms) (if_any scope otherwise) (whens-all arms h.1) (if-any-all otherwise h.2))
    parts-all m (Node-F.Begin guarded span) h = guarded-all guarded h
    parts-all m (Node-F.Class path superclass body span) h = (h, tt)
    parts-all m (Node-F.Module path body span) h = (h, tt)
    parts-all m (Node-F.Def visibility own name name_span parameters guarded span) h =
        each-append OfVisit (flat_map (parameter_parts scope) parameters) (guarded_parts scope guarded) (parameters-all parameters h.0) (guarded-all guarded h.1)
    parts-all m _ h = tt
