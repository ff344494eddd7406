-- The places in the methods that attributes stand for: those of the symbol, and of the `sig` statement before the attribute.
use Rattle.std.proofs.Common.{◌≡◌, ℕ, false, List, [], ◌∷◌, ◌++◌, codes, Option, Some, None, option_map, refl, sym, subst}
use Rattle.srb_terms.specs.declared.span.Span.{Span}
use Rattle.rb_tree.specs.Trees.{span_of, span_at, span_of_node}
use Rattle.rb_tree.specs.declared.syntax.Argument.{Argument}
use Rattle.rb_tree.specs.declared.syntax.Argument.TheVariants as argument
use Rattle.rb_tree.specs.declared.syntax.Block.{Block}
use Rattle.rb_tree.specs.declared.syntax.Suffix.{Suffix}
use Rattle.rb_tree.specs.declared.syntax.Tree.{Tree}
use Rattle.rb_tree.specs.declared.syntax.Node.{Node, out-Node}
use Rattle.rb_tree.specs.declared.syntax.Node.TheOpen.{Node-F}
use Rattle.rb_grammar.specs.Places.{Each, IfThere}
use Rattle.rb_places_laws.proofs.ByNode.{opened, place-has}
use Rattle.rb_rewrite.specs.Attributes.{body_with, body_of, instance_variable, reader, assignment, writer_parameter, writer, params_call, as_suffix_at, as_suffix, after_first, row_after_at, row_after, command_of, chain_after_at, chain_after, body_after_at, body_after, block_with, block_after, call_with, command_with, sig_after_at, sig_after, returned_by, returned_of, or_else, writer_sig_of, writer_sig, with_sig, with_method, with_attribute, with_symbol_at, with_symbol, with_argument, with_attributes}
use Rattle.rb_rewrite.specs.Signatures.{Signature, signature_of}
use Rattle.rb_rewrite.specs.declared.declaring.Attribute.{Attribute}
use Rattle.rb_rewrite.specs.declared.declaring.Attribute.TheVariants.{Reader, Writer, Accessor}
use Rattle.rb_rewrite_laws.proofs.Made.{each-end, Has, HasGiven, HasInBlock, HasAfter, HasBodies, HasOut, has-body, has-assign, has-command, has-post, has-instance-variable, has-name, has-call, has-def, place-call}
use Rattle.rb_rewrite_laws.proofs.Signatures.{HasSignature, signature-has}

pub mapped : {A B : Type 0} (Q : A → Type 0) (S : B → Type 0) (f : A → B) → ((x : A) → Q x → S (f x)) → (o : Option A) → IfThere Q o → IfThere S (option_map f o)
mapped Q S f h None k = tt
mapped Q S f h (Some x) k = h x k

module _ (P : Span → Type 0) where
  -- ---- the methods

  statement-body : (statement : Tree) (span : Span) → P span → Has P statement → HasBodies P (body_of statement span)
  statement-body statement span h k = (has-body P (statement ∷ []) span h (k, tt), tt, tt, tt)

  reader-has : (name : List ℕ) (span : Span) → P span → Has P (reader name span)
  reader-has name span h =
      has-def P None false name span [] (body_of (instance_variable name span) span) span h h tt
      (statement-body (instance_variable name span) span h (has-instance-variable P name span h))

  writer-has : (name : List ℕ) (span : Span) → P span → Has P (writer name span)
  writer-has name span h =
      has-def P None false (name ++ codes "=") span (writer_parameter name span ∷ []) (body_of (assignment name span) span) span h h (tt, tt)
      (statement-body (assignment name span) span h
      (has-assign P _ _ span h (has-instance-variable P name span h) (has-name P name span h)))

  -- ---- the signature of an accessor's writer

  params-call-has : (name : List ℕ) (type : Tree) → Has P type → (span : Span) → P span → Has P (params_call name type span)
  params-call-has name type k span h = has-call P (codes "params") span (Some (argument.Keyword name span type ∷ [])) None span h h (k, tt) tt

  params-call-place : (name : List ℕ) (type : Tree) (span : Span) → span_of (params_call name type span) ≡ span
  params-call-place name type span = place-call (codes "params") span (Some (argument.Keyword name span type ∷ [])) None span

  -- the call that is put first stands where it is said to
  module _ (first : Span → Tree) (first-has : (span : Span) → P span → Has P (first span)) (first-place : (span : Span) → span_of (first span) ≡ span) where
    suffix-out : (n : Node-F Node Tree) → HasOut P n → IfThere (HasAfter P (span_at n)) (as_suffix_at n)
    suffix-out (Node-F.Name name span) h = (h.0, h.0, tt, tt)
    suffix-out (Node-F.Call name name_span arguments block span) h = (h.0, h.1.0, h.1.1, h.1.2)
    suffix-out _ h = tt

    suffix-has : (t : Tree) → Has P t → IfThere (HasAfter P (span_of t)) (as_suffix t)
    unfolding as_suffix span_of span_of_node
    suffix-has t h = suffix-out (out-Node t.node) (opened P t h)

    row-has : (front : Span) (s : Option (Suffix Tree)) (suffixes : List (Suffix Tree)) (span : Span) → P front → P span → IfThere (HasAfter P front) s →
        Each (HasAfter P front) suffixes → IfThere (Has P) (after_first (first front) s suffixes span)
    row-has front None suffixes span h k l m = tt
    row-has front (Some s) suffixes span h k l m =
        has-post P (first front) (s ∷ suffixes) span k (first-has front h)
        (subst (λ place. Each (HasAfter P place) (s ∷ suffixes)) (sym (first-place front)) (l, m))

    row-out : (t : Tree) (n : Node-F Node Tree) → span_of t ≡ span_at n → Has P t → HasOut P n → IfThere (Has P) (row_after_at first t n)
    row-out t (Node-F.Name name span) e h k =
        row-has span (as_suffix t) [] span k.0 k.0 (subst (λ place. IfThere (HasAfter P place) (as_suffix t)) e (suffix-has t h)) tt
    row-out t (Node-F.Call name name_span arguments block span) e h k =
        row-has span (as_suffix t) [] span k.0 k.0 (subst (λ place. IfThere (HasAfter P place) (as_suffix t)) e (suffix-has t h)) tt
    row-out t (Node-F.Post receiver suffixes span) e h k =
        row-has (span_of receiver) (as_suffix receiver) suffixes span (place-has P receiver k.1.0) k.0 (suffix-has receiver k.1.0) k.1.1
    row-out t _ e h k = tt

    place-out : (t : Tree) → span_of t ≡ span_at (out-Node t.node)
    unfolding span_of span_of_node
    place-out t = refl

    row-after-has : (t : Tree) → Has P t → IfThere (Has P) (row_after first t)
    unfolding row_after
    row-after-has t h = row-out t (out-Node t.node) (place-out t) h (opened P t h)

    chain-out : (t : Tree) (n : Node-F Node Tree) → Has P t → HasOut P n → IfThere (Has P) (chain_after_at first t n)
    chain-out t (Node-F.Command callee arguments block span) h k =
        mapped (Has P) (Has P) (command_of arguments block span) (λ c l. has-command P c arguments block span k.0 l k.1.1 k.1.2) (row_after first callee)
        (row-after-has callee k.1.0)
    chain-out t _ h k = row-after-has t h

    chain-has : (t : Tree) → Has P t → IfThere (Has P) (chain_after first t)
    unfolding chain_after
    chain-has t h = chain-out t (out-Node t.node) h (opened P t h)

    body-out : (n : Node-F Node Tree) → HasOut P n → IfThere (Has P) (body_after_at first n)
    body-out (Node-F.Body (statement ∷ []) span) h =
        mapped (Has P) (Has P) (body_with span) (λ t k. has-body P (t ∷ []) span h.0 (k, tt)) (chain_after first statement) (chain-has statement h.1.0)
    body-out _ h = tt

    body-after-has : (t : Tree) → Has P t → IfThere (Has P) (body_after first t)
    unfolding body_after
    body-after-has t h = body-out (out-Node t.node) (opened P t h)

    block-has : (o : Option (Block Tree)) → IfThere (HasInBlock P) o → IfThere (HasInBlock P) (block_after first o)
    block-has None h = tt
    block-has (Some block) h = mapped (Has P) (HasInBlock P) (block_with block) (λ t k. k) (body_after first block.body) (body-after-has block.body h)

    sig-out : (n : Node-F Node Tree) → HasOut P n → IfThere (Has P) (sig_after_at first n)
    sig-out (Node-F.Call name name_span arguments block span) h =
        mapped (HasInBlock P) (Has P) (call_with name name_span arguments span)
        (λ b k. has-call P name name_span arguments (Some b) span h.0 h.1.0 h.1.1 k) (block_after first block) (block-has block h.1.2)
    sig-out (Node-F.Command callee arguments block span) h =
        mapped (HasInBlock P) (Has P) (command_with callee arguments span)
        (λ b k. has-command P callee arguments (Some b) span h.0 h.1.0 h.1.1 k) (block_after first block) (block-has block h.1.2)
    sig-out _ h = tt

    sig-has : (sig : Tree) → Has P sig → IfThere (Has P) (sig_after first sig)
    unfolding sig_after
    sig-has sig h = sig-out (out-Node sig.node) (opened P sig h)

  else-has : (t : Tree) (o : Option Tree) → Has P t → IfThere (Has P) o → Has P (or_else t o)
  else-has t None h k = h
  else-has t (Some u) h k = k

  writer-sig-of : (name : List ℕ) (sig : Tree) (o : Option Tree) → Has P sig → IfThere (Has P) o → Has P (writer_sig_of name sig o)
  writer-sig-of name sig None h k = h
  writer-sig-of name sig (Some type) h k =
      else-has sig (sig_after (params_call name type) sig) h
      (sig-has (params_call name type) (params-call-has name type k) (params-call-place name type) sig h)

  returned-has : (o : Option Signature) → IfThere (HasSignature P) o → IfThere (Has P) (returned_by o)
  returned-has None h = tt
  returned-has (Some s) h = h.1

  writer-sig-has : (name : List ℕ) (sig : Tree) → Has P sig → Has P (writer_sig name sig)
  writer-sig-has name sig h = writer-sig-of name sig (returned_of sig) h (returned-has (signature_of sig) (signature-has P sig h))

  -- ---- statements

  pub with-sig-has : (so_far : List Tree) (sig : Option Tree) → Each (Has P) so_far → IfThere (Has P) sig → Each (Has P) (with_sig so_far sig)
  with-sig-has so_far None h k = h
  with-sig-has so_far (Some sig) h k = each-end (Has P) so_far sig h k

  method-has : (so_far : List Tree) (sig : Option Tree) (method : Tree) → Each (Has P) so_far → IfThere (Has P) sig → Has P method →
      Each (Has P) (with_method so_far sig method)
  method-has so_far sig method h k l = each-end (Has P) (with_sig so_far sig) method (with-sig-has so_far sig h k) l

  attribute-has : (kind : Attribute) (sig : Option Tree) (name : List ℕ) (span : Span) (so_far : List Tree) → IfThere (Has P) sig → P span → Each (Has P) so_far →
      Each (Has P) (with_attribute kind sig name span so_far)
  attribute-has Reader sig name span so_far h k l = method-has so_far sig (reader name span) l h (reader-has name span k)
  attribute-has Writer sig name span so_far h k l = method-has so_far sig (writer name span) l h (writer-has name span k)
  attribute-has Accessor sig name span so_far h k l =
      method-has (with_method so_far sig (reader name span)) (option_map (writer_sig name) sig) (writer name span)
      (method-has so_far sig (reader name span) l h (reader-has name span k))
      (mapped (Has P) (Has P) (writer_sig name) (writer-sig-has name) sig h) (writer-has name span k)

  symbol-out : (kind : Attribute) (sig : Option Tree) (so_far : List Tree) (n : Node-F Node Tree) → IfThere (Has P) sig → Each (Has P) so_far → HasOut P n →
      Each (Has P) (with_symbol_at kind sig so_far n)
  symbol-out kind sig so_far (Node-F.Symbol words span) h k l = attribute-has kind sig words span so_far h l.0 k
  symbol-out kind sig so_far _ h k l = k

  symbol-has : (kind : Attribute) (sig : Option Tree) (so_far : List Tree) (t : Tree) → IfThere (Has P) sig → Each (Has P) so_far → Has P t →
      Each (Has P) (with_symbol kind sig so_far t)
  unfolding with_symbol
  symbol-has kind sig so_far t h k l = symbol-out kind sig so_far (out-Node t.node) h k (opened P t l)

  argument-has : (kind : Attribute) (sig : Option Tree) (so_far : List Tree) (a : Argument Tree) → IfThere (Has P) sig → Each (Has P) so_far → HasGiven P a →
      Each (Has P) (with_argument kind sig so_far a)
  argument-has kind sig so_far (argument.Positional value) h k l = symbol-has kind sig so_far value h k l
  argument-has kind sig so_far _ h k l = k

  pub attributes-have : (kind : Attribute) (sig : Option Tree) (arguments : List (Argument Tree)) (so_far : List Tree) → IfThere (Has P) sig → Each (HasGiven P) arguments →
      Each (Has P) so_far → Each (Has P) (with_attributes kind sig arguments so_far)
  attributes-have kind sig [] so_far h k l = l
  attributes-have kind sig (a ∷ arguments) so_far h k l =
      attributes-have kind sig arguments (with_argument kind sig so_far a) h k.1 (argument-has kind sig so_far a h l k.0)
