-- The places in an initializer that is read by its signature: those of the method as it is written, and of the signature.
use Rattle.std.proofs.Common.{ℕ, Bool, true, false, ◌&&◌, if◌then◌else◌, List, [], ◌∷◌, map, codes, bytes_eq, Option, Some, None, sym, subst}
use Rattle.srb_terms.specs.declared.span.Span.{Span}
use Rattle.rb_tree.specs.Nodes as tree
use Rattle.rb_tree.specs.declared.syntax.Argument.{Argument}
use Rattle.rb_tree.specs.declared.syntax.Argument.TheVariants as argument
use Rattle.rb_tree.specs.declared.syntax.Guarded.{Guarded}
use Rattle.rb_tree.specs.declared.syntax.Parameter.{Parameter}
use Rattle.rb_tree.specs.declared.syntax.Tree.{Tree}
use Rattle.rb_tree.specs.declared.syntax.Node.{Node, out-Node}
use Rattle.rb_tree.specs.declared.syntax.Node.TheOpen.{Node-F}
use Rattle.rb_grammar.specs.Places.{Each, IfThere}
use Rattle.rb_places_laws.proofs.ByNode.{opened}
use Rattle.rb_rewrite.specs.Initializers.{is_block, type_with, type_from, type_in, type_without, without_blocks, type_of, constant_t, let_suffix, let_call, is_instance_variable, asserted_by, asserted_at, asserted, assigned_at, assigned, assigned_body_at, assigned_body, assigned_guarded, signature_before, is_initializer, with_types_at, with_types, initialized_by, initialized_at, initialized}
use Rattle.rb_rewrite.specs.Signatures.{Signature}
use Rattle.rb_rewrite_laws.proofs.Made.{each-mapped, Has, HasGiven, HasAfter, HasBodies, HasOut, has-body, has-assign, has-post, has-constant, has-def, place-constant}
use Rattle.rb_rewrite_laws.proofs.Signatures.{either, HasSignature, Sound, well-formed-has}

module _ (P : Span → Type 0) where
  choice : (b : Bool) (t u : Tree) → Has P t → Has P u → Has P (if b then t else u)
  choice true t u h k = h
  choice false t u h k = k

  -- ---- the types of parameters

  abbrev IsType : Option Tree → Type 0
  IsType = IfThere (Has P)

  with-one : (name : List ℕ) (found : Option Tree) (a : Argument Tree) → IsType found → HasGiven P a → IsType (type_with name found a)
  with-one name found (argument.Keyword label span value) h k = either (Has P) (bytes_eq label name) (Some value) found k h
  with-one name found _ h k = h

  from-all : (name : List ℕ) (found : Option Tree) (arguments : List (Argument Tree)) → IsType found → Each (HasGiven P) arguments → IsType (type_from name found arguments)
  from-all name found [] h k = h
  from-all name found (a ∷ arguments) h k = from-all name (type_with name found a) arguments (with-one name found a h k.0) k.1

  in-params : (name : List ℕ) (o : Option (List (Argument Tree))) → IfThere (Each (HasGiven P)) o → IsType (type_in name o)
  in-params name None h = tt
  in-params name (Some arguments) h = from-all name None arguments tt h

  without-all : {X : Type 0} (name : List ℕ) (found : Option Tree) (parameters : List (Parameter X)) → IsType found → IsType (without_blocks name found parameters)
  without-all name found [] h = h
  without-all name found (p ∷ parameters) h =
      without-all name (type_without name found p) parameters (either (Has P) (is_block p.kind && bytes_eq p.name name) None found tt h)

  type-has : {X : Type 0} (parameters : List (Parameter X)) (s : Signature) (name : List ℕ) → HasSignature P s → IsType (type_of parameters s name)
  type-has parameters s name h = without-all name (type_in name s.params) parameters (in-params name s.params h.0)

  -- ---- assignments

  let-has : (value type : Tree) (span : Span) → P span → Has P value → Has P type → Has P (let_call value type span)
  let-has value type span h k l =
      has-post P (constant_t span) (let_suffix value type span ∷ []) span h (has-constant P (codes "T") span h)
      (subst (λ place. Each (HasAfter P place) (let_suffix value type span ∷ [])) (sym (place-constant (codes "T") span)) ((h, h, (k, (l, tt)), tt), tt))

  asserted-by : (value : Tree) (span : Span) (o : Option Tree) → P span → Has P value → IsType o → Has P (asserted_by value span o)
  asserted-by value span None h k l = k
  asserted-by value span (Some type) h k l = let-has value type span h k l

  module _ (types : List ℕ → Option Tree) (types-have : (name : List ℕ) → IsType (types name)) where
    asserted-out : (value : Tree) (n : Node-F Node Tree) → Has P value → HasOut P n → Has P (asserted_at types value n)
    asserted-out value (Node-F.Name name span) h k = asserted-by value span (types name) k.0 h (types-have name)
    asserted-out value _ h k = h

    asserted-has : (value : Tree) → Has P value → Has P (asserted types value)
    unfolding asserted
    asserted-has value h = asserted-out value (out-Node value.node) h (opened P value h)

    assigned-out : (t : Tree) (n : Node-F Node Tree) → Has P t → HasOut P n → Has P (assigned_at types t n)
    assigned-out t (Node-F.Assign target value span) h k =
        choice (is_instance_variable target) (tree.Assign target (asserted types value) span) t
        (has-assign P target (asserted types value) span k.0 k.1.0 (asserted-has value k.1.1)) h
    assigned-out t _ h k = h

    assigned-has : (t : Tree) → Has P t → Has P (assigned types t)
    unfolding assigned
    assigned-has t h = assigned-out t (out-Node t.node) h (opened P t h)

    body-out : (t : Tree) (n : Node-F Node Tree) → Has P t → HasOut P n → Has P (assigned_body_at types t n)
    body-out t (Node-F.Body statements span) h k =
        has-body P (map (assigned types) statements) span k.0 (each-mapped (Has P) (Has P) (assigned types) assigned-has statements k.1)
    body-out t _ h k = h

    body-has : (t : Tree) → Has P t → Has P (assigned_body types t)
    unfolding assigned_body
    body-has t h = body-out t (out-Node t.node) h (opened P t h)

    guarded-has : (g : Guarded Tree) → HasBodies P g → HasBodies P (assigned_guarded types g)
    guarded-has g h = (body-has g.body h.0, h.1, h.2, h.3)

  -- ---- methods

  types-out : (t : Tree) (s : Signature) (n : Node-F Node Tree) → Has P t → HasSignature P s → HasOut P n → Has P (with_types_at t s n)
  types-out t s (Node-F.Def visibility own name name_span parameters guarded span) h k l =
      has-def P visibility own name name_span parameters (assigned_guarded (type_of parameters s) guarded) span l.0 l.1.0 l.1.1
      (guarded-has (type_of parameters s) (λ name. type-has parameters s name k) guarded l.1.2)
  types-out t s _ h k l = h

  with-types-has : (t : Tree) (s : Signature) → Has P t → HasSignature P s → Has P (with_types t s)
  unfolding with_types
  with-types-has t s h k = types-out t s (out-Node t.node) h k (opened P t h)

  initialized-by : (t : Tree) (o : Option Signature) → Has P t → Sound P o → Has P (initialized_by t o)
  initialized-by t None h k = h
  initialized-by t (Some s) h k = with-types-has t s h k

  before-has : {X : Type 0} (parameters : List (Parameter X)) (sig : Option Tree) → IsType sig → Sound P (signature_before parameters sig)
  before-has parameters None h = tt
  before-has parameters (Some sig) h = well-formed-has P parameters sig h

  initialized-out : (sig : Option Tree) (t : Tree) (n : Node-F Node Tree) → IsType sig → Has P t → Has P (initialized_at sig t n)
  initialized-out sig t (Node-F.Def visibility own name name_span parameters guarded span) h k =
      choice (is_initializer own name) (initialized_by t (signature_before parameters sig)) t
      (initialized-by t (signature_before parameters sig) k (before-has parameters sig h)) k
  initialized-out sig t _ h k = k

  pub initialized-has : (sig : Option Tree) (t : Tree) → IfThere (Has P) sig → Has P t → Has P (initialized sig t)
  unfolding initialized
  initialized-has sig t h k = initialized-out sig t (out-Node t.node) h k
