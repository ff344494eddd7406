-- What calls of `include` and `extend` add has a fact, where their arguments have it.
use Rattle.std.proofs.Common.{ℕ, List, [], ◌∷◌, Option, Some, None}
use Rattle.srb_terms.specs.declared.fact.How.{How}
use Rattle.srb_terms.specs.declared.span.Span.{Span}
use Rattle.rb_tree.specs.Trees.{span_of}
use Rattle.rb_tree.specs.declared.syntax.Argument.{Argument}
use Rattle.rb_tree.specs.declared.syntax.Argument.TheVariants as argument
use Rattle.rb_tree.specs.declared.syntax.Block.{Block}
use Rattle.rb_tree.specs.declared.syntax.Suffix.{Suffix}
use Rattle.rb_tree.specs.declared.syntax.Suffix.TheVariants as suffix
use Rattle.rb_tree.specs.declared.syntax.Tree.{Tree}
use Rattle.rb_views.specs.Calls.{Call, Receiver, call_by_last, command}
use Rattle.rb_views.specs.Paths.{Path, path_of}
use Rattle.rb_views.specs.Prefixes.{Prefix}
use Rattle.rb_views.specs.Targets as targets
use Rattle.rb_views.specs.Targets.{Callee}
use Rattle.rb_grammar.specs.Places.{Each, IfThere}
use Rattle.rb_grammar.proofs.Placed.{each-end}
use Rattle.srb_declarations.specs.declared.declaration.Declaration.{Declaration}
use Rattle.srb_declarations.specs.declared.declaration.Declaration.TheVariants as declaration
use Rattle.srb_declarations.specs.Declarations.{argument_span, with_rest, with_path, with_mixin, with_mixins, with_parts, with_call, mixin_named}

-- the path with which a tree begins has the fact `Q`
abbrev pub IsPathAt : (Span → Type 0) → Tree → Type 0
IsPathAt Q t = IfThere (λ (p : Path). Q p.span) (path_of t)

-- the whole place of an argument has the fact `At`, and the path that it may be has `Q`
abbrev pub IsArgumentAt : (Span → Type 0) → (Span → Type 0) → Argument Tree → Type 0
IsArgumentAt At Q (argument.Positional value) = At (span_of value) × IsPathAt Q value
IsArgumentAt At Q (argument.Keyword name span value) = At (argument_span (argument.Keyword name span value))
IsArgumentAt At Q (argument.Block span value) = At (argument_span (argument.Block span value))

-- the arguments of a call have the facts, where it has no receiver
abbrev pub AreAt : (Span → Type 0) → (Span → Type 0) → Option Receiver → List (Argument Tree) → Type 0
AreAt At Q None given = Each (IsArgumentAt At Q) given
AreAt At Q (Some r) given = Unit {0}

abbrev pub IsCallAt : (Span → Type 0) → (Span → Type 0) → Call → Type 0
IsCallAt At Q c = AreAt At Q c.receiver c.arguments

module _ (P : Declaration → Type 0) (At Q : Span → Type 0)
    (told : (name : List ℕ) (scope path : List (List ℕ)) (way : How) (span : Span) → Q span → P (declaration.Mixin name scope path way span))
    (other : (span : Span) → At span → P (declaration.OtherMixin span)) where
  abbrev All : List Declaration → Type 0
  All = Each P

  abbrev Adding : (List (List ℕ) → List Declaration → List Declaration) → Type 0
  Adding f = (scope : List (List ℕ)) (ds : List Declaration) → All ds → All (f scope ds)

  rest-kept : (name : List ℕ) (way : How) (place : Span) (p : Path) (rest : List (Suffix Tree)) → At place → Q p.span → Adding (with_rest name way place p rest)
  rest-kept name way place p [] h k scope ds all = each-end P ds _ all (told _ _ _ _ _ k)
  rest-kept name way place p (s ∷ ss) h k scope ds all = each-end P ds _ all (other _ h)

  path-kept : (name : List ℕ) (way : How) (place : Span) (p : Option Path) → At place → IfThere (λ (p : Path). Q p.span) p → Adding (with_path name way place p)
  path-kept name way place None h k scope ds all = each-end P ds _ all (other _ h)
  path-kept name way place (Some p) h k scope ds all = rest-kept name way place p p.rest h k scope ds all

  mixin-kept : (name : List ℕ) (way : How) (a : Argument Tree) → IsArgumentAt At Q a → Adding (with_mixin name way a)
  mixin-kept name way (argument.Positional value) h scope ds all = path-kept name way (span_of value) (path_of value) h.0 h.1 scope ds all
  mixin-kept name way (argument.Keyword n span value) h scope ds all = each-end P ds _ all (other _ h)
  mixin-kept name way (argument.Block span value) h scope ds all = each-end P ds _ all (other _ h)

  mixins-kept : (name : List ℕ) (way : How) (given : List (Argument Tree)) → Each (IsArgumentAt At Q) given → Adding (with_mixins name way given)
  mixins-kept name way [] h scope ds all = all
  mixins-kept name way (a ∷ more) h scope ds all = mixins-kept name way more h.1 scope (with_mixin name way a scope ds) (mixin-kept name way a h.0 scope ds all)

  parts-kept : (name : List ℕ) (r : Option Receiver) (b : Option (Block Tree)) (way : Option How) (given : List (Argument Tree)) → AreAt At Q r given → Adding (with_parts name r b way given)
  parts-kept name None None (Some way) given h scope ds all = mixins-kept name way given h scope ds all
  parts-kept name None None None given h scope ds all = all
  parts-kept name None (Some b) way given h scope ds all = all
  parts-kept name (Some r) b way given h scope ds all = all

  pub call-kept : (name : List ℕ) (c : Option Call) → IfThere (IsCallAt At Q) c → Adding (with_call name c)
  call-kept name None h scope ds all = all
  call-kept name (Some c) h scope ds all = parts-kept name c.receiver c.block (mixin_named c.name) c.arguments h scope ds all

module _ (At Q : Span → Type 0) where
  pub suffix-call : (p : Prefix) (s : Option (Suffix Tree)) → IfThere (IsCallAt At Q) (call_by_last p s)
  suffix-call p None = tt
  suffix-call p (Some (suffix.Call dot name name_span arguments block span)) = tt
  suffix-call p (Some (suffix.Constant name name_span span)) = tt
  suffix-call p (Some (suffix.Index arguments span)) = tt

  pub command-call : (c : Option Callee) (given : List (Argument Tree)) (b : Option (Block Tree)) (s : Span) → Each (IsArgumentAt At Q) given → IfThere (IsCallAt At Q) (command c given b s)
  command-call None given b s h = tt
  command-call (Some (targets.Name name name_span)) given b s h = h
  command-call (Some (targets.Call p how name name_span)) given b s h = tt
  command-call (Some targets.Yield) given b s h = tt
  command-call (Some targets.Super) given b s h = tt
