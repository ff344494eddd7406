-- The places in what calls and signatures say.
use Rattle.std.proofs.Common.{ℕ, zero, suc, Bool, true, false, ◌&&◌, not, ◌-◌, if◌then◌else◌, List, [], ◌∷◌, length, take, codes, bytes_eq, Option, Some, None}
use Rattle.std.specs.List.{slice_get, list_all}
use Rattle.srb_terms.specs.declared.span.Span.{Span}
use Rattle.rb_tree.specs.Trees.{span_of}
use Rattle.rb_tree.specs.declared.syntax.Argument.{Argument}
use Rattle.rb_tree.specs.declared.syntax.Argument.TheVariants as argument
use Rattle.rb_tree.specs.declared.syntax.Block.{Block}
use Rattle.rb_tree.specs.declared.syntax.Dot.TheVariants as dot
use Rattle.rb_tree.specs.declared.syntax.Parameter.{Parameter}
use Rattle.rb_tree.specs.declared.syntax.PlacedName.{PlacedName}
use Rattle.rb_tree.specs.declared.syntax.Suffix.{Suffix}
use Rattle.rb_tree.specs.declared.syntax.Suffix.TheVariants as suffix
use Rattle.rb_tree.specs.declared.syntax.Tree.{Tree}
use Rattle.rb_tree.specs.declared.syntax.Node.{Node, out-Node}
use Rattle.rb_tree.specs.declared.syntax.Node.TheOpen.{Node-F}
use Rattle.rb_views.specs.Calls.{Call, Receiver, arguments_of, call_by_last, command, call_at, call_of}
use Rattle.rb_views.specs.Prefixes.{Prefix, last_suffix, without_last}
use Rattle.rb_views.specs.Targets as targets
use Rattle.rb_views.specs.Targets.{Callee, callee_by, callee_at, callee_of}
use Rattle.rb_grammar.specs.Places.{Each, IfThere}
use Rattle.rb_places_laws.proofs.ByNode.{opened}
use Rattle.rb_rewrite.specs.Declaring.{is_missing, is_sig_call}
use Rattle.rb_rewrite.specs.Signatures.{Signature, nothing, is_keyword, is_symbol, with_params, with_returns, with_void, with_abstract, with_override, with_overridable, with_checked, with_call, with_suffix, with_suffixes, first_call_at, first_call, before_dot, before_last, chain_by_last, chain_of, single_at, single, without_names, in_block, signature_by, signature_of, fits, fitting, well_formed}
use Rattle.rb_rewrite_laws.proofs.Made.{Has, HasGiven, HasInBlock, HasAfter, HasOut}

-- ---- lists and tests

each-take : {A : Type 0} (Q : A → Type 0) (n : ℕ) (xs : List A) → Each Q xs → Each Q (take n xs)
each-take Q zero xs h = tt
each-take Q (suc n) [] h = tt
each-take Q (suc n) (x ∷ xs) h = (h.0, each-take Q n xs h.1)

each-got : {A : Type 0} (Q : A → Type 0) (xs : List A) (n : ℕ) → Each Q xs → IfThere Q (slice_get xs n)
each-got Q [] n h = tt
each-got Q (x ∷ xs) zero h = h.0
each-got Q (x ∷ xs) (suc n) h = each-got Q xs n h.1

pub either : {A : Type 0} (Q : A → Type 0) (b : Bool) (o p : Option A) → IfThere Q o → IfThere Q p → IfThere Q (if b then o else p)
either Q true o p h k = h
either Q false o p h k = k

module _ (P : Span → Type 0) where
  -- ---- calls

  abbrev pub HasPrefix : Prefix → Type 0
  HasPrefix p = Has P p.operand × Each (HasAfter P (span_of p.operand)) p.suffixes

  abbrev pub HasReceiver : Receiver → Type 0
  HasReceiver r = HasPrefix r.prefix

  abbrev pub HasCall : Call → Type 0
  HasCall c = IfThere HasReceiver c.receiver × Each (HasGiven P) c.arguments × IfThere (HasInBlock P) c.block

  abbrev HasCallee : Callee → Type 0
  HasCallee (targets.Call p how name name_span) = HasPrefix p
  HasCallee _ = Unit {0}

  given : (o : Option (List (Argument Tree))) → IfThere (Each (HasGiven P)) o → Each (HasGiven P) (arguments_of o)
  given None h = tt
  given (Some arguments) h = h

  without-last : (p : Prefix) → HasPrefix p → HasPrefix (without_last p)
  without-last p h = (h.0, each-take (HasAfter P (span_of p.operand)) (length p.suffixes - 1) p.suffixes h.1)

  last-has : (p : Prefix) → HasPrefix p → IfThere (HasAfter P (span_of p.operand)) (last_suffix p.suffixes)
  last-has p h = each-got (HasAfter P (span_of p.operand)) p.suffixes (length p.suffixes - 1) h.1

  by-last : (p : Prefix) (s : Option (Suffix Tree)) → HasPrefix p → IfThere (HasAfter P (span_of p.operand)) s → IfThere HasCall (call_by_last p s)
  by-last p None h k = tt
  by-last p (Some (suffix.Call how name name_span arguments block span)) h k = (h, given arguments k.2, k.3)
  by-last p (Some (suffix.Constant name name_span span)) h k = tt
  by-last p (Some (suffix.Index arguments span)) h k = (h, k.2, tt)

  row-has : (p : Prefix) → HasPrefix p → IfThere HasCall (call_by_last (without_last p) (last_suffix p.suffixes))
  row-has p h = by-last (without_last p) (last_suffix p.suffixes) (without-last p h) (last-has p h)

  callee-by : (p : Prefix) (s : Option (Suffix Tree)) → HasPrefix p → IfThere HasCallee (callee_by p s)
  callee-by p (Some (suffix.Call how name name_span None None span)) h = h
  callee-by p _ h = tt

  callee-row : (p : Prefix) → HasPrefix p → IfThere HasCallee (callee_by (without_last p) (last_suffix p.suffixes))
  callee-row p h = callee-by (without_last p) (last_suffix p.suffixes) (without-last p h)

  callee-out : (n : Node-F Node Tree) → HasOut P n → IfThere HasCallee (callee_at n)
  callee-out (Node-F.Post receiver suffixes span) h = callee-row (record { operand = receiver; suffixes = suffixes }) (h.1.0, h.1.1)
  callee-out (Node-F.Name name span) h = tt
  callee-out (Node-F.Yield None span) h = tt
  callee-out (Node-F.Super None span) h = tt
  callee-out _ h = tt

  callee-has : (t : Tree) → Has P t → IfThere HasCallee (callee_of t)
  unfolding callee_of
  callee-has t h = callee-out (out-Node t.node) (opened P t h)

  command-has : (c : Option Callee) (arguments : List (Argument Tree)) (block : Option (Block Tree)) (span : Span) → IfThere HasCallee c → Each (HasGiven P) arguments →
      IfThere (HasInBlock P) block → IfThere HasCall (command c arguments block span)
  command-has (Some (targets.Name name name_span)) arguments block span h k l = (tt, k, l)
  command-has (Some (targets.Call p how name name_span)) arguments block span h k l = (h, k, l)
  command-has _ arguments block span h k l = tt

  call-out : (n : Node-F Node Tree) → HasOut P n → IfThere HasCall (call_at n)
  call-out (Node-F.Name name span) h = (tt, tt, tt)
  call-out (Node-F.Call name name_span arguments block span) h = (tt, given arguments h.1.1, h.1.2)
  call-out (Node-F.Post receiver suffixes span) h = row-has (record { operand = receiver; suffixes = suffixes }) (h.1.0, h.1.1)
  call-out (Node-F.Command callee arguments block span) h = command-has (callee_of callee) arguments block span (callee-has callee h.1.0) h.1.1 h.1.2
  call-out _ h = tt

  -- the places in the call that a tree is
  pub call-has : (t : Tree) → Has P t → IfThere HasCall (call_of t)
  unfolding call_of
  call-has t h = call-out (out-Node t.node) (opened P t h)

  -- ---- chains

  abbrev pub HasSignature : Signature → Type 0
  HasSignature s = IfThere (Each (HasGiven P)) s.params × IfThere (Has P) s.returned

  abbrev pub Sound : Option Signature → Type 0
  Sound = IfThere HasSignature

  params-has : (s : Signature) (arguments : List (Argument Tree)) → HasSignature s → Each (HasGiven P) arguments → Sound (with_params s arguments)
  params-has s arguments h k =
      either HasSignature (is_missing s.params && list_all is_keyword arguments) (Some (record s { params = Some arguments })) None (k, h.1) tt

  returns-has : (s : Signature) (arguments : List (Argument Tree)) → HasSignature s → Each (HasGiven P) arguments → Sound (with_returns s arguments)
  returns-has s (argument.Positional value ∷ []) h k =
      either HasSignature (is_missing s.returned && not s.is_void) (Some (record s { returned = Some value })) None (h.0, k.0) tt
  returns-has s _ h k = tt

  void-has : (s : Signature) (arguments : List (Argument Tree)) → HasSignature s → Sound (with_void s arguments)
  void-has s [] h = either HasSignature (is_missing s.returned && not s.is_void) (Some (record s { is_void = true })) None h tt
  void-has s _ h = tt

  abstract-has : (s : Signature) (arguments : List (Argument Tree)) → HasSignature s → Sound (with_abstract s arguments)
  abstract-has s [] h = either HasSignature s.is_abstract None (Some (record s { is_abstract = true })) tt h
  abstract-has s _ h = tt

  override-has : (s : Signature) (arguments : List (Argument Tree)) → HasSignature s → Sound (with_override s arguments)
  override-has s [] h = either HasSignature s.is_override None (Some (record s { is_override = true })) tt h
  override-has s _ h = tt

  overridable-has : (s : Signature) (arguments : List (Argument Tree)) → HasSignature s → Sound (with_overridable s arguments)
  overridable-has s [] h = either HasSignature s.is_overridable None (Some (record s { is_overridable = true })) tt h
  overridable-has s _ h = tt

  checked-has : (s : Signature) (arguments : List (Argument Tree)) → HasSignature s → Sound (with_checked s arguments)
  checked-has s (argument.Positional value ∷ []) h =
      either HasSignature (is_symbol value && not s.is_checked) (Some (record s { is_checked = true })) None h tt
  checked-has s _ h = tt

  one-call : (o : Option Signature) (name : List ℕ) (arguments : List (Argument Tree)) → Sound o → Each (HasGiven P) arguments → Sound (with_call o name arguments)
  one-call None name arguments h k = tt
  one-call (Some s) name arguments h k =
      either HasSignature (bytes_eq name (codes "params")) (with_params s arguments) _ (params-has s arguments h k)
      (either HasSignature (bytes_eq name (codes "returns")) (with_returns s arguments) _ (returns-has s arguments h k)
      (either HasSignature (bytes_eq name (codes "void")) (with_void s arguments) _ (void-has s arguments h)
      (either HasSignature (bytes_eq name (codes "abstract")) (with_abstract s arguments) _ (abstract-has s arguments h)
      (either HasSignature (bytes_eq name (codes "override")) (with_override s arguments) _ (override-has s arguments h)
      (either HasSignature (bytes_eq name (codes "overridable")) (with_overridable s arguments) _ (overridable-has s arguments h)
      (either HasSignature (bytes_eq name (codes "checked")) (with_checked s arguments) None (checked-has s arguments h) tt))))))

  one-suffix : (front : Span) (o : Option Signature) (s : Suffix Tree) → Sound o → HasAfter P front s → Sound (with_suffix o s)
  one-suffix front o (suffix.Call dot.Plain name name_span arguments None span) h k = one-call o name (arguments_of arguments) h (given arguments k.2)
  one-suffix front o _ h k = tt

  suffixes-have : (front : Span) (o : Option Signature) (ss : List (Suffix Tree)) → Sound o → Each (HasAfter P front) ss → Sound (with_suffixes o ss)
  suffixes-have front o [] h k = h
  suffixes-have front o (s ∷ ss) h k = suffixes-have front (with_suffix o s) ss (one-suffix front o s h k.0) k.1

  first-out : (n : Node-F Node Tree) → HasOut P n → Sound (first_call_at n)
  first-out (Node-F.Name name span) h = one-call (Some nothing) name [] (tt, tt) tt
  first-out (Node-F.Call name name_span arguments None span) h = one-call (Some nothing) name (arguments_of arguments) (tt, tt) (given arguments h.1.1)
  first-out _ h = tt

  first-has : (t : Tree) → Has P t → Sound (first_call t)
  unfolding first_call
  first-has t h = first-out (out-Node t.node) (opened P t h)

  before-has : (o : Option Receiver) → IfThere HasReceiver o → Sound (before_last o)
  before-has None h = (tt, tt)
  before-has (Some r) h = go r.dot
    where
      go : (how : _) → Sound (before_dot how r.prefix.operand r.prefix.suffixes)
      go dot.Plain = suffixes-have (span_of r.prefix.operand) (first_call r.prefix.operand) r.prefix.suffixes (first-has r.prefix.operand h.0) h.1
      go dot.Safe = tt

  chain-by : (o : Option Call) → IfThere HasCall o → Sound (chain_by_last o)
  chain-by None h = tt
  chain-by (Some c) h =
      either HasSignature (is_missing c.block) (with_call (before_last c.receiver) c.name c.arguments) None
      (one-call (before_last c.receiver) c.name c.arguments (before-has c.receiver h.0) h.1) tt

  chain-has : (t : Tree) → Has P t → Sound (chain_of t)
  unfolding chain_of
  chain-has t h = chain-by (call_of t) (call-has t h)

  -- ---- `sig` statements

  single-out : (n : Node-F Node Tree) → HasOut P n → Sound (single_at n)
  single-out (Node-F.Body (statement ∷ []) span) h = chain-has statement h.1.0
  single-out _ h = tt

  single-has : (t : Tree) → Has P t → Sound (single t)
  unfolding single
  single-has t h = single-out (out-Node t.node) (opened P t h)

  names-have : (names : List PlacedName) (body : Tree) → Has P body → Sound (without_names names body)
  names-have [] body h = single-has body h
  names-have (name ∷ names) body h = tt

  block-has : (arguments : List (Argument Tree)) (block : Option (Block Tree)) → IfThere (HasInBlock P) block → Sound (in_block arguments block)
  block-has [] (Some block) h = names-have block.parameters block.body h
  block-has _ _ h = tt

  by-call : (o : Option Call) → IfThere HasCall o → Sound (signature_by o)
  by-call None h = tt
  by-call (Some c) h = either HasSignature (is_sig_call (Some c)) (in_block c.arguments c.block) None (block-has c.arguments c.block h.2) tt

  -- the places in the signature that a statement says
  pub signature-has : (sig : Tree) → Has P sig → Sound (signature_of sig)
  unfolding signature_of
  signature-has sig h = by-call (call_of sig) (call-has sig h)

  fitting-has : {X : Type 0} (parameters : List (Parameter X)) (o : Option Signature) → Sound o → Sound (fitting parameters o)
  fitting-has parameters None h = tt
  fitting-has parameters (Some s) h = either HasSignature (fits parameters s) (Some s) None h tt

  pub well-formed-has : {X : Type 0} (parameters : List (Parameter X)) (sig : Tree) → Has P sig → Sound (well_formed parameters sig)
  well-formed-has parameters sig h = fitting-has parameters (signature_of sig) (signature-has sig h)
