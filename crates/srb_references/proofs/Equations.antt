-- What is read below a tree goes by its node.
use Rattle.std.proofs.Common.{◌≡◌, ℕ, Bool, true, false, ◌&&◌, if◌then◌else◌, bytes_eq, codes, List, [], ◌∷◌, ◌++◌, map, Option, Some, None, refl, ap, sym, ◌∙◌, append_assoc, ◌<◌, length, arith}
use Rattle.std.specs.List.{flat_map, list_all}
use Rattle.std.proofs.lemmas.List.{map-append, append-nil}
use Rattle.srb_terms.specs.declared.param_kind.ParamKind.{ParamKind}
use Rattle.srb_terms.specs.declared.span.Span.{Span}
use Rattle.rb_tree.specs.declared.syntax.Tree.{Tree}
use Rattle.rb_tree.specs.declared.syntax.Node.{Node, out-Node}
use Rattle.rb_tree.specs.declared.syntax.Node.TheOpen.{Node-F}
use Rattle.rb_tree.specs.declared.syntax.Node.TheShapes.{former-Node-Command-1, former-Node-Post-1, former-Node-Text-0, former-Node-Hash-0, former-Node-If-3, former-Node-Case-1, former-Node-Def-4}
use Rattle.rb_tree.specs.declared.syntax.Node.TheViews.{roll-out-Node}
use Rattle.rb_tree.specs.declared.syntax.Node.TheFolds.{map-Node, para-Node, para-roll-Node, para-roll-Tree}
use Rattle.rb_tree.specs.declared.syntax.Argument.{Argument}
use Rattle.rb_tree.specs.declared.syntax.Argument.TheVariants as argument
use Rattle.rb_tree.specs.declared.syntax.Block.{Block}
use Rattle.rb_tree.specs.declared.syntax.Dot.TheVariants as dot
use Rattle.rb_tree.specs.declared.syntax.Suffix.{Suffix}
use Rattle.rb_tree.specs.declared.syntax.Suffix.TheVariants as suffix
use Rattle.rb_tree.specs.declared.syntax.Piece.{Piece}
use Rattle.rb_tree.specs.declared.syntax.Piece.TheVariants as piece
use Rattle.rb_tree.specs.declared.syntax.Pair.{Pair}
use Rattle.rb_tree.specs.declared.syntax.Pair.TheVariants as pair
use Rattle.rb_tree.specs.declared.syntax.Arm.{Arm}
use Rattle.rb_tree.specs.declared.syntax.When.{When}
use Rattle.rb_tree.specs.declared.syntax.Guarded.{Guarded}
use Rattle.rb_tree.specs.declared.syntax.Rescue.{Rescue}
use Rattle.rb_tree.specs.declared.syntax.Parameter.{Parameter}
use Rattle.rb_views.specs.Targets.{callee_of}
use Rattle.srb_references.specs.declared.reading.Reading.{Reading}
use Rattle.srb_references.specs.declared.reading.Reading.TheVariants as reading
use Rattle.srb_references.specs.declared.reading.Taken.{Taken}
use Rattle.srb_references.specs.declared.reading.Taken.TheVariants as taken
use Rattle.srb_references.specs.Readings.{Visit, visit, plain, part_if, row_parts, arguments_parts, call_parts, suffixes_parts, form_suffix_parts, post_parts, piece_parts, pair_parts, arm_parts, when_parts, rescue_parts, guarded_parts, parameter_parts, parts, positional_reading, keyword_reading, is_single, statement_reading, inner_reading, receiver_reading, target_reading, taken_by_callee, taken_by_self, taken_on, taken_in_type, is_call, row_reading, block_by_callee, block_by_self}
use Rattle.srb_references.specs.TypeForms.{begins_path, is_t, is_within, is_positional, has_none, has_one, has_two, has_more, has_path, is_given, is_plain_call, form_if, named_form, proc_form, index_form, call_form, t_form, post_form}
use Rattle.srb_references.specs.declared.type_form.TypeForm.TheVariants as form
use Rattle.srb_references.specs.References.{Below, row_visits, visits_of, below_at, below, below_by_node}

-- a tree with what is read below it
abbrev Known : Type 0
Known = Tree × Below

abbrev known : Tree → Known
known t = (t, below t)

-- a part with what is read below its tree
abbrev put : Visit Tree → Visit Known
put v = visit v.reading v.scope (known v.part)

-- ---- forms

-- suffixes and arguments with what is read below their trees
abbrev known-suffixes : List (Suffix Tree) → List (Suffix Known)
known-suffixes = (former-Node-Post-1).map Tree Known known

abbrev known-arguments : List (Argument Tree) → List (Argument Known)
known-arguments = (former-Node-Command-1).map Tree Known known

within-known : (xs : List (Suffix Tree)) → list_all is_within (known-suffixes xs) ≡ list_all is_within xs
within-known [] = refl
within-known (suffix.Call how name name_span arguments block span ∷ xs) = refl
within-known (suffix.Constant name name_span span ∷ xs) = within-known xs
within-known (suffix.Index arguments span ∷ xs) = refl

calls-known : (xs : List (Suffix Tree)) → list_all is_call (known-suffixes xs) ≡ list_all is_call xs
calls-known [] = refl
calls-known (suffix.Call how name name_span arguments block span ∷ xs) = calls-known xs
calls-known (suffix.Constant name name_span span ∷ xs) = refl
calls-known (suffix.Index arguments span ∷ xs) = refl

row-known-reading : (m : Reading) (xs : List (Suffix Tree)) → row_reading m (known-suffixes xs) ≡ row_reading m xs
row-known-reading reading.Chain xs = ap (λ b. if b then reading.Chain else reading.Plain) (calls-known xs)
row-known-reading m xs = refl

positional-known : (xs : List (Argument Tree)) → list_all is_positional (known-arguments xs) ≡ list_all is_positional xs
positional-known [] = refl
positional-known (argument.Positional value ∷ xs) = positional-known xs
positional-known (argument.Keyword name span value ∷ xs) = refl
positional-known (argument.Block span value ∷ xs) = refl

given-known : (xs : List (Argument Tree)) → list_all is_given (known-arguments xs) ≡ list_all is_given xs
given-known [] = refl
given-known (argument.Positional value ∷ xs) = given-known xs
given-known (argument.Keyword name span value ∷ xs) = given-known xs
given-known (argument.Block span value ∷ xs) = refl

plain-known : (xs : List (Suffix Tree)) → list_all is_plain_call (known-suffixes xs) ≡ list_all is_plain_call xs
plain-known [] = refl
plain-known (suffix.Call dot.Plain name name_span None None span ∷ xs) = plain-known xs
plain-known (suffix.Call dot.Plain name name_span (Some arguments) None span ∷ xs) = λ i. given-known arguments i && plain-known xs i
plain-known (suffix.Call dot.Plain name name_span arguments (Some block) span ∷ xs) = refl
plain-known (suffix.Call dot.Safe name name_span arguments block span ∷ xs) = refl
plain-known (suffix.Constant name name_span span ∷ xs) = refl
plain-known (suffix.Index arguments span ∷ xs) = refl

none-known : (xs : List (Argument Tree)) → has_none (known-arguments xs) ≡ has_none xs
none-known [] = refl
none-known (x ∷ xs) = refl

one-known : (xs : List (Argument Tree)) → has_one (known-arguments xs) ≡ has_one xs
one-known [] = refl
one-known (argument.Positional value ∷ []) = refl
one-known (argument.Positional value ∷ x ∷ xs) = refl
one-known (argument.Keyword name span value ∷ xs) = refl
one-known (argument.Block span value ∷ xs) = refl

two-known : (xs : List (Argument Tree)) → has_two (known-arguments xs) ≡ has_two xs
two-known [] = refl
two-known (argument.Positional value ∷ []) = refl
two-known (argument.Positional value ∷ argument.Positional other ∷ []) = refl
two-known (argument.Positional value ∷ argument.Positional other ∷ x ∷ xs) = refl
two-known (argument.Positional value ∷ argument.Keyword name span other ∷ xs) = refl
two-known (argument.Positional value ∷ argument.Block span other ∷ xs) = refl
two-known (argument.Keyword name span value ∷ xs) = refl
two-known (argument.Block span value ∷ xs) = refl

more-known : (xs : List (Argument Tree)) → has_more (known-arguments xs) ≡ has_more xs
more-known [] = refl
more-known (x ∷ []) = refl
more-known (x ∷ y ∷ xs) = positional-known (x ∷ y ∷ xs)

path-known : (xs : List (Argument Tree)) → has_path (λ (x : Known). x.0) (known-arguments xs) ≡ has_path (λ x. x) xs
path-known [] = refl
path-known (argument.Positional value ∷ []) = refl
path-known (argument.Positional value ∷ x ∷ xs) = refl
path-known (argument.Keyword name span value ∷ xs) = refl
path-known (argument.Block span value ∷ xs) = refl

rest-known : (xs : List (Suffix Tree)) → has_none (known-suffixes xs) ≡ has_none xs
rest-known [] = refl
rest-known (x ∷ xs) = refl

call-known : (name : List ℕ) (xs : List (Argument Tree)) (rest : List (Suffix Tree)) →
    call_form (λ (x : Known). x.0) name (known-arguments xs) (known-suffixes rest) ≡ call_form (λ x. x) name xs rest
call-known name xs rest = λ i.
    if bytes_eq name (codes "proc") then proc_form (none-known xs i) (plain-known rest i)
    else (if rest-known rest i then named_form name (none-known xs i) (one-known xs i) (more-known xs i) (path-known xs i) else form.Other)

paths-known : (xs : List (Suffix Tree)) → form_if (list_all is_within (known-suffixes xs)) form.Path ≡ form_if (list_all is_within xs) form.Path
paths-known xs = ap (λ b. form_if b form.Path) (within-known xs)

t-known : (xs : List (Suffix Tree)) → t_form (λ (x : Known). x.0) (known-suffixes xs) ≡ t_form (λ x. x) xs
t-known [] = refl
t-known (suffix.Constant name name_span span ∷ []) = refl
t-known (suffix.Constant name name_span span ∷ suffix.Index xs index_span ∷ []) = λ i. index_form name (one-known xs i) (two-known xs i)
t-known (suffix.Constant name name_span span ∷ suffix.Index xs index_span ∷ y ∷ ys) = refl
t-known (suffix.Constant name name_span span ∷ suffix.Constant other other_span whole ∷ ys) =
    paths-known (suffix.Constant name name_span span ∷ suffix.Constant other other_span whole ∷ ys)
t-known (suffix.Constant name name_span span ∷ suffix.Call how other other_span arguments block whole ∷ ys) = refl
t-known (suffix.Call dot.Plain name name_span None None span ∷ ys) = call-known name [] ys
t-known (suffix.Call dot.Plain name name_span (Some xs) None span ∷ ys) = call-known name xs ys
t-known (suffix.Call dot.Plain name name_span arguments (Some block) span ∷ ys) = refl
t-known (suffix.Call dot.Safe name name_span arguments block span ∷ ys) = refl
t-known (suffix.Index xs index_span ∷ ys) = refl

-- a form doesn't depend on what is read below the trees in it
post-known : (receiver : Tree) (xs : List (Suffix Tree)) → post_form (λ (x : Known). x.0) (known receiver) (known-suffixes xs) ≡ post_form (λ x. x) receiver xs
post-known receiver xs = λ i. if is_t receiver then t-known xs i else form_if (begins_path receiver && within-known xs i) form.Path

-- ---- rows

-- rows that agree, one after the other
two-rows : (a b : List (Visit Known)) (vs ws : List (Visit Tree)) → a ≡ map put vs → b ≡ map put ws → a ++ b ≡ map put (vs ++ ws)
two-rows a b vs ws e h = (λ i. e i ++ h i) ∙ sym (map-append put vs ws)

module _ (scope : List (List ℕ)) where
  trees-put : (m : Reading) (xs : List Tree) → map (visit m scope) (map known xs) ≡ map put (map (visit m scope) xs)
  trees-put m [] = refl
  trees-put m (x ∷ xs) = ap (λ vs. visit m scope (known x) ∷ vs) (trees-put m xs)

  single-put : (xs : List Tree) → is_single (map known xs) ≡ is_single xs
  single-put [] = refl
  single-put (x ∷ []) = refl
  single-put (x ∷ y ∷ xs) = refl

  part-put : (m : Option Reading) (x : Tree) → part_if scope m (known x) ≡ map put (part_if scope m x)
  part-put None x = refl
  part-put (Some m) x = refl

  row-put : (how : Taken) (xs : List (Argument Tree)) → row_parts scope how ((former-Node-Command-1).map Tree Known known xs) ≡ map put (row_parts scope how xs)
  row-put how [] = refl
  row-put how (argument.Positional value ∷ xs) = ap (λ vs. visit (positional_reading how) scope (known value) ∷ vs) (row-put how xs)
  row-put how (argument.Keyword name span value ∷ xs) = ap (λ vs. visit (keyword_reading how) scope (known value) ∷ vs) (row-put how xs)
  row-put how (argument.Block span value ∷ xs) = ap (λ vs. plain scope (known value) ∷ vs) (row-put how xs)

  arguments-put : (how : Taken) (xs : List (Argument Tree)) →
      arguments_parts scope how ((former-Node-Command-1).map Tree Known known xs) ≡ map put (arguments_parts scope how xs)
  arguments-put taken.All xs = row-put taken.All xs
  arguments-put taken.Mixins xs = row-put taken.Mixins xs
  arguments-put taken.Types xs = row-put taken.Types xs
  arguments-put taken.TypesByPlace xs = row-put taken.TypesByPlace xs
  arguments-put taken.TypesByName xs = row-put taken.TypesByName xs
  arguments-put taken.ClassNames xs = row-put taken.ClassNames xs
  arguments-put taken.SecondIsType [] = refl
  arguments-put taken.SecondIsType (argument.Positional value ∷ []) = refl
  arguments-put taken.SecondIsType (argument.Positional value ∷ argument.Positional type ∷ []) = refl
  arguments-put taken.SecondIsType (argument.Positional value ∷ argument.Positional type ∷ x ∷ xs) =
      row-put taken.SecondIsType (argument.Positional value ∷ argument.Positional type ∷ x ∷ xs)
  arguments-put taken.SecondIsType (argument.Positional value ∷ argument.Keyword name span other ∷ xs) =
      row-put taken.SecondIsType (argument.Positional value ∷ argument.Keyword name span other ∷ xs)
  arguments-put taken.SecondIsType (argument.Positional value ∷ argument.Block span other ∷ xs) =
      row-put taken.SecondIsType (argument.Positional value ∷ argument.Block span other ∷ xs)
  arguments-put taken.SecondIsType (argument.Keyword name span value ∷ xs) = row-put taken.SecondIsType (argument.Keyword name span value ∷ xs)
  arguments-put taken.SecondIsType (argument.Block span value ∷ xs) = row-put taken.SecondIsType (argument.Block span value ∷ xs)

  abbrev put-block : Block Tree → Block Known
  put-block b = record { parameters = b.parameters; body = known b.body; span = b.span }

  -- a call without and with a block
  call-put : (how : Taken) (m : Reading) (xs : List (Argument Tree)) →
      call_parts scope how ((former-Node-Command-1).map Tree Known known xs) m None ≡ map put (call_parts scope how xs m None)
  call-put how m xs = two-rows _ _ (arguments_parts scope how xs) [] (arguments-put how xs) refl

  call-block-put : (how : Taken) (m : Reading) (xs : List (Argument Tree)) (b : Block Tree) →
      call_parts scope how ((former-Node-Command-1).map Tree Known known xs) m (Some (put-block b)) ≡ map put (call_parts scope how xs m (Some b))
  call-block-put how m xs b = two-rows _ _ (arguments_parts scope how xs) (visit m scope b.body ∷ []) (arguments-put how xs) refl

  suffixes-put : (m : Reading) (on_t : Bool) (xs : List (Suffix Tree)) →
      suffixes_parts scope m on_t ((former-Node-Post-1).map Tree Known known xs) ≡ map put (suffixes_parts scope m on_t xs)
  suffixes-put m on_t [] = refl
  suffixes-put m on_t (suffix.Call how name name_span None None span ∷ xs) =
      two-rows _ _ (call_parts scope (taken_on m on_t how name false) [] reading.Plain None) (suffixes_parts scope m false xs)
      (call-put (taken_on m on_t how name false) reading.Plain []) (suffixes-put m false xs)
  suffixes-put m on_t (suffix.Call how name name_span None (Some block) span ∷ xs) =
      two-rows _ _ (call_parts scope (taken_on m on_t how name true) [] reading.Plain (Some block)) (suffixes_parts scope m false xs)
      (call-block-put (taken_on m on_t how name true) reading.Plain [] block) (suffixes-put m false xs)
  suffixes-put m on_t (suffix.Call how name name_span (Some arguments) None span ∷ xs) =
      two-rows _ _ (call_parts scope (taken_on m on_t how name false) arguments reading.Plain None) (suffixes_parts scope m false xs)
      (call-put (taken_on m on_t how name false) reading.Plain arguments) (suffixes-put m false xs)
  suffixes-put m on_t (suffix.Call how name name_span (Some arguments) (Some block) span ∷ xs) =
      two-rows _ _ (call_parts scope (taken_on m on_t how name true) arguments reading.Plain (Some block)) (suffixes_parts scope m false xs)
      (call-block-put (taken_on m on_t how name true) reading.Plain arguments block) (suffixes-put m false xs)
  suffixes-put m on_t (suffix.Constant name name_span span ∷ xs) = suffixes-put m false xs
  suffixes-put m on_t (suffix.Index arguments span ∷ xs) =
      two-rows _ _ (row_parts scope taken.All arguments) (suffixes_parts scope m false xs) (row-put taken.All arguments) (suffixes-put m false xs)

  form-put : (how : Taken) (xs : List (Suffix Tree)) →
      flat_map (form_suffix_parts scope how) ((former-Node-Post-1).map Tree Known known xs) ≡ map put (flat_map (form_suffix_parts scope how) xs)
  form-put how [] = refl
  form-put how (suffix.Call dotted name name_span None None span ∷ xs) = form-put how xs
  form-put how (suffix.Call dotted name name_span None (Some block) span ∷ xs) = form-put how xs
  form-put how (suffix.Call dotted name name_span (Some arguments) None span ∷ xs) =
      two-rows _ _ (row_parts scope how arguments) (flat_map (form_suffix_parts scope how) xs) (row-put how arguments) (form-put how xs)
  form-put how (suffix.Call dotted name name_span (Some arguments) (Some block) span ∷ xs) =
      two-rows _ _ (row_parts scope how arguments) (flat_map (form_suffix_parts scope how) xs) (row-put how arguments) (form-put how xs)
  form-put how (suffix.Constant name name_span span ∷ xs) = form-put how xs
  form-put how (suffix.Index arguments span ∷ xs) =
      two-rows _ _ (row_parts scope how arguments) (flat_map (form_suffix_parts scope how) xs) (row-put how arguments) (form-put how xs)

  post-put : (how : Option Taken) (m : Reading) (receiver : Tree) (xs : List (Suffix Tree)) →
      post_parts scope how m receiver (known receiver) ((former-Node-Post-1).map Tree Known known xs) ≡ map put (post_parts scope how m receiver receiver xs)
  post-put (Some how) m receiver xs = form-put how xs
  post-put None m receiver xs =
      two-rows _ _ (part_if scope (receiver_reading m receiver) receiver) (suffixes_parts scope m (is_t receiver) xs)
      (part-put (receiver_reading m receiver) receiver) (suffixes-put m (is_t receiver) xs)

  pieces-put : (xs : List (Piece Tree)) → flat_map (piece_parts scope) ((former-Node-Text-0).map Tree Known known xs) ≡ map put (flat_map (piece_parts scope) xs)
  pieces-put [] = refl
  pieces-put (piece.Words words span ∷ xs) = pieces-put xs
  pieces-put (piece.Code body span ∷ xs) = ap (λ vs. plain scope (known body) ∷ vs) (pieces-put xs)

  pairs-put : (xs : List (Pair Tree)) → flat_map (pair_parts scope) ((former-Node-Hash-0).map Tree Known known xs) ≡ map put (flat_map (pair_parts scope) xs)
  pairs-put [] = refl
  pairs-put (pair.Arrow key value ∷ xs) = ap (λ vs. plain scope (known key) ∷ plain scope (known value) ∷ vs) (pairs-put xs)
  pairs-put (pair.Label name span value ∷ xs) = ap (λ vs. plain scope (known value) ∷ vs) (pairs-put xs)

  arms-put : (xs : List (Arm Tree)) → flat_map (arm_parts scope) ((former-Node-If-3).map Tree Known known xs) ≡ map put (flat_map (arm_parts scope) xs)
  arms-put [] = refl
  arms-put (x ∷ xs) = ap (λ vs. plain scope (known x.condition) ∷ plain scope (known x.body) ∷ vs) (arms-put xs)

  ended-put : (xs : List Tree) (b : Tree) → map (plain scope) (map known xs) ++ plain scope (known b) ∷ [] ≡ map put (map (plain scope) xs ++ plain scope b ∷ [])
  ended-put xs b = two-rows _ _ (map (plain scope) xs) (plain scope b ∷ []) (trees-put reading.Plain xs) refl

  whens-put : (xs : List (When Tree)) → flat_map (when_parts scope) ((former-Node-Case-1).map Tree Known known xs) ≡ map put (flat_map (when_parts scope) xs)
  whens-put [] = refl
  whens-put (x ∷ xs) = two-rows _ _ (when_parts scope x) (flat_map (when_parts scope) xs) (ended-put x.patterns x.body) (whens-put xs)

  abbrev put-rescue : Rescue Tree → Rescue Known
  put-rescue r = record { patterns = map known r.patterns; variable = r.variable; body = known r.body }

  rescues-put : (xs : List (Rescue Tree)) → flat_map (rescue_parts scope) (map put-rescue xs) ≡ map put (flat_map (rescue_parts scope) xs)
  rescues-put [] = refl
  rescues-put (x ∷ xs) = two-rows _ _ (rescue_parts scope x) (flat_map (rescue_parts scope) xs) (ended-put x.patterns x.body) (rescues-put xs)

-- by whether a parameter has a default
by-default : {X : Type 0} (P : Parameter X → Type 0) → ((kind : ParamKind) (name : List ℕ) (span : Span) → P (record { kind = kind; name = name; span = span; default = None })) →
    ((kind : ParamKind) (name : List ℕ) (span : Span) (d : X) → P (record { kind = kind; name = name; span = span; default = Some d })) → (p : Parameter X) → P p
by-default {X = X} P h k p = go p.default
  where
    go : (o : Option X) → P (record { kind = p.kind; name = p.name; span = p.span; default = o })
    go None = h p.kind p.name p.span
    go (Some d) = k p.kind p.name p.span d

-- by what stands after the clauses
by-guarded : {X : Type 0} (P : Guarded X → Type 0) →
    ((b : X) (rs : List (Rescue X)) → P (record { body = b; rescues = rs; otherwise = None; ensure = None })) →
    ((b : X) (rs : List (Rescue X)) (e : X) → P (record { body = b; rescues = rs; otherwise = None; ensure = Some e })) →
    ((b : X) (rs : List (Rescue X)) (o : X) → P (record { body = b; rescues = rs; otherwise = Some o; ensure = None })) →
    ((b : X) (rs : List (Rescue X)) (o e : X) → P (record { body = b; rescues = rs; otherwise = Some o; ensure = Some e })) →
    (g : Guarded X) → P g
by-guarded {X = X} P h k l m g = go g.otherwise g.ensure
  where
    go : (o e : Option X) → P (record { body = g.body; rescues = g.rescues; otherwise = o; ensure = e })
    go None None = h g.body g.rescues
    go None (Some e) = k g.body g.rescues e
    go (Some o) None = l g.body g.rescues o
    go (Some o) (Some e) = m g.body g.rescues o e

-- ---- nodes

-- the parts of a node with what is read below its trees
abbrev Put : (Node → Node × Below) → Reading → List (List ℕ) → Node-F Node Tree → Type 0
Put f m scope x = parts (λ y. y.0) m scope (map-Node Node Tree (Node × Below) Known f known x) ≡ map put (parts (λ y. y) m scope x)

module _ (f : Node → Node × Below) (m : Reading) (scope : List (List ℕ)) where
  parameters-put : (ps : List (Parameter Tree)) →
      flat_map (parameter_parts scope) ((former-Node-Def-4).map Tree Known known ps) ≡ map put (flat_map (parameter_parts scope) ps)
  parameters-put [] = refl
  parameters-put (p ∷ ps) = by-default
      (λ q. flat_map (parameter_parts scope) ((former-Node-Def-4).map Tree Known known (q ∷ ps)) ≡ map put (flat_map (parameter_parts scope) (q ∷ ps)))
      (λ kind name span. parameters-put ps)
      (λ kind name span d. ap (λ vs. plain scope (known d) ∷ vs) (parameters-put ps))
      p

  -- what is guarded, with what stands after the clauses
  guarded-put : (b : Tree) (rs : List (Rescue Tree)) (last : List (Visit Tree)) →
      plain scope (known b) ∷ (flat_map (rescue_parts scope) (map (put-rescue scope) rs) ++ map put last)
      ≡ map put (plain scope b ∷ (flat_map (rescue_parts scope) rs ++ last))
  guarded-put b rs last = ap (λ vs. plain scope (known b) ∷ vs) (two-rows _ _ (flat_map (rescue_parts scope) rs) last (rescues-put scope rs) refl)

  parts-put : (x : Node-F Node Tree) → Put f m scope x
  parts-put (Node-F.Body statements span) =
      ap (λ s. map (visit (statement_reading m s) scope) (map known statements)) (single-put scope statements)
      ∙ trees-put scope (statement_reading m (is_single statements)) statements
  parts-put (Node-F.Jump jump None span) = refl
  parts-put (Node-F.Jump jump (Some value) span) = refl
  parts-put (Node-F.Assign target value span) =
      two-rows _ _ (part_if scope (target_reading target) target) (plain scope value ∷ []) (part-put scope (target_reading target) target) refl
  parts-put (Node-F.Command callee arguments None span) = ap (λ vs. visit (inner_reading m) scope (known callee) ∷ vs)
      (call-put scope (taken_by_callee m (callee_of callee) false) (block_by_callee m (callee_of callee)) arguments)
  parts-put (Node-F.Command callee arguments (Some block) span) = ap (λ vs. visit (inner_reading m) scope (known callee) ∷ vs)
      (call-block-put scope (taken_by_callee m (callee_of callee) true) (block_by_callee m (callee_of callee)) arguments block)
  parts-put (Node-F.Post receiver suffixes span) =
      (λ i. post_parts scope (taken_in_type m (post-known receiver suffixes i)) (row-known-reading m suffixes i) receiver (known receiver)
      ((former-Node-Post-1).map Tree Known known suffixes))
      ∙ post-put scope (taken_in_type m (post_form (λ t. t) receiver suffixes)) (row_reading m suffixes) receiver suffixes
  parts-put (Node-F.Text pieces span) = pieces-put scope pieces
  parts-put (Node-F.Call name name_span None None span) = call-put scope (taken_by_self m name false) (block_by_self m name) []
  parts-put (Node-F.Call name name_span None (Some block) span) = call-block-put scope (taken_by_self m name true) (block_by_self m name) [] block
  parts-put (Node-F.Call name name_span (Some arguments) None span) = call-put scope (taken_by_self m name false) (block_by_self m name) arguments
  parts-put (Node-F.Call name name_span (Some arguments) (Some block) span) =
      call-block-put scope (taken_by_self m name true) (block_by_self m name) arguments block
  parts-put (Node-F.Yield None span) = refl
  parts-put (Node-F.Yield (Some arguments) span) = row-put scope taken.All arguments
  parts-put (Node-F.Super None span) = refl
  parts-put (Node-F.Super (Some arguments) span) = row-put scope taken.All arguments
  parts-put (Node-F.Array elements span) = trees-put scope reading.Plain elements
  parts-put (Node-F.Hash pairs span) = pairs-put scope pairs
  parts-put (Node-F.If test condition body arms None span) = ap (λ vs. plain scope (known condition) ∷ plain scope (known body) ∷ vs)
      (two-rows _ _ (flat_map (arm_parts scope) arms) [] (arms-put scope arms) refl)
  parts-put (Node-F.If test condition body arms (Some otherwise) span) = ap (λ vs. plain scope (known condition) ∷ plain scope (known body) ∷ vs)
      (two-rows _ _ (flat_map (arm_parts scope) arms) (plain scope otherwise ∷ []) (arms-put scope arms) refl)
  parts-put (Node-F.Case None arms None span) = two-rows _ _ (flat_map (when_parts scope) arms) [] (whens-put scope arms) refl
  parts-put (Node-F.Case None arms (Some otherwise) span) =
      two-rows _ _ (flat_map (when_parts scope) arms) (plain scope otherwise ∷ []) (whens-put scope arms) refl
  parts-put (Node-F.Case (Some subject) arms None span) = ap (λ vs. plain scope (known subject) ∷ vs)
      (two-rows _ _ (flat_map (when_parts scope) arms) [] (whens-put scope arms) refl)
  parts-put (Node-F.Case (Some subject) arms (Some otherwise) span) = ap (λ vs. plain scope (known subject) ∷ vs)
      (two-rows _ _ (flat_map (when_parts scope) arms) (plain scope otherwise ∷ []) (whens-put scope arms) refl)
  parts-put (Node-F.Begin guarded span) = by-guarded (λ g. Put f m scope (Node-F.Begin g span))
      (λ b rs. guarded-put b rs [])
      (λ b rs e. guarded-put b rs (plain scope e ∷ []))
      (λ b rs o. guarded-put b rs (plain scope o ∷ []))
      (λ b rs o e. guarded-put b rs (plain scope o ∷ plain scope e ∷ []))
      guarded
  parts-put (Node-F.Def visibility own name name_span parameters guarded span) =
      by-guarded (λ g. Put f m scope (Node-F.Def visibility own name name_span parameters g span))
      (λ b rs. two-rows _ _ (flat_map (parameter_parts scope) parameters) (guarded_parts scope (record { body = b; rescues = rs; otherwise = None; ensure = None }))
      (parameters-put parameters) (guarded-put b rs []))
      (λ b rs e. two-rows _ _ (flat_map (parameter_parts scope) parameters) (guarded_parts scope (record { body = b; rescues = rs; otherwise = None; ensure = Some e }))
      (parameters-put parameters) (guarded-put b rs (plain scope e ∷ [])))
      (λ b rs o. two-rows _ _ (flat_map (parameter_parts scope) parameters) (guarded_parts scope (record { body = b; rescues = rs; otherwise = Some o; ensure = None }))
      (parameters-put parameters) (guarded-put b rs (plain scope o ∷ [])))
      (λ b rs o e. two-rows _ _ (flat_map (parameter_parts scope) parameters) (guarded_parts scope (record { body = b; rescues = rs; otherwise = Some o; ensure = Some e }))
      (parameters-put parameters) (guarded-put b rs (plain scope o ∷ plain scope e ∷ [])))
      guarded
  parts-put x = refl

-- ---- trees

row-known : (vs : List (Visit Tree)) → row_visits (λ (x : Known). x.0) (λ (x : Known). x.1) (map put vs) ≡ row_visits (λ x. x) below vs
row-known [] = refl
row-known (v ∷ vs) = ap (λ r. r ++ visits_of (λ x. x) below v) (row-known vs)

-- what is read below a node of the fold
below-node : Node → Below
below-node = para-Node Below Below (λ n. below_at n) (λ t. t.node.1)

node-is : (n : Node) → below-node n ≡ below_at (map-Node Node Tree (Node × Below) Known (λ o. (o, below-node o)) known (out-Node n))
unfolding below below-node
node-is n =
    ap below-node (sym (roll-out-Node n))
    ∙ para-roll-Node Below Below (λ n. below_at n) (λ t. t.node.1) (out-Node n)

tree-is : (t : Tree) → below t ≡ below-node t.node
unfolding below below-node
tree-is t = para-roll-Tree Below Below (λ n. below_at n) (λ t. t.node.1) (record { node = t.node })

pub below_is : (t : Tree) (m : Reading) (scope : List (List ℕ)) → below t m scope ≡ below_by_node t m scope
unfolding below_by_node
below_is t m scope = ap (λ b. b m scope) (tree-is t)
    ∙ ap (λ b. b m scope) (node-is t.node)
    ∙ ap (row_visits (λ (x : Known). x.0) (λ (x : Known). x.1)) (parts-put (λ o. (o, below-node o)) m scope (out-Node t.node))
    ∙ row-known (parts (λ x. x) m scope (out-Node t.node))

-- rows one after the other
pub row_visits_joined : (xs ys : List (Visit Tree)) → row_visits (λ x. x) below (xs ++ ys) ≡ row_visits (λ x. x) below ys ++ row_visits (λ x. x) below xs
row_visits_joined [] ys = sym (append-nil (row_visits (λ x. x) below ys))
row_visits_joined (x ∷ xs) ys =
    ap (λ r. r ++ visits_of (λ x. x) below x) (row_visits_joined xs ys)
    ∙ append_assoc (row_visits (λ x. x) below ys) (row_visits (λ x. x) below xs) (visits_of (λ x. x) below x)

-- the step of the walk: the last part is taken out, and its parts are put in
pub step : (vs : List (Visit Tree)) (v : Visit Tree) →
    row_visits (λ x. x) below (vs ++ v ∷ []) ≡ v ∷ row_visits (λ x. x) below (vs ++ parts (λ x. x) v.reading v.scope (out-Node v.part.node))
unfolding below_by_node
step vs v =
    row_visits_joined vs (v ∷ [])
    ∙ (λ i. v ∷ (below_is v.part v.reading v.scope i ++ row_visits (λ x. x) below vs))
    ∙ ap (λ r. v ∷ r) (sym (row_visits_joined vs (parts (λ x. x) v.reading v.scope (out-Node v.part.node))))

-- the same where the list is told before, between and after
moved : (before between after : List (Visit Tree)) (v : Visit Tree) → before ≡ between ++ v ∷ [] →
    after ≡ between ++ parts (λ x. x) v.reading v.scope (out-Node v.part.node) → row_visits (λ x. x) below before ≡ v ∷ row_visits (λ x. x) below after
moved before between after v e h = ap (row_visits (λ x. x) below) e ∙ step between v ∙ ap (λ a. v ∷ row_visits (λ x. x) below a) (sym h)

-- less is still to be read after a step
pub falls : (before between after : List (Visit Tree)) (v : Visit Tree) → before ≡ between ++ v ∷ [] →
    after ≡ between ++ parts (λ x. x) v.reading v.scope (out-Node v.part.node) →
    length (row_visits (λ x. x) below after) < length (row_visits (λ x. x) below before)
falls before between after v e h = let p = ap length (moved before between after v e h) in omega (arith, p)

-- what is found, where each part has some of its own, and what is still to be found stay the same
pub keeps : {B : Type 0} (own : Visit Tree → List B) (found : List B) (before between after : List (Visit Tree)) (v : Visit Tree) → before ≡ between ++ v ∷ [] →
    after ≡ between ++ parts (λ x. x) v.reading v.scope (out-Node v.part.node) →
    (found ++ own v) ++ flat_map own (row_visits (λ x. x) below after) ≡ found ++ flat_map own (row_visits (λ x. x) below before)
keeps own found before between after v e h =
    append_assoc found (own v) (flat_map own (row_visits (λ x. x) below after))
    ∙ ap (λ vs. found ++ flat_map own vs) (sym (moved before between after v e h))
