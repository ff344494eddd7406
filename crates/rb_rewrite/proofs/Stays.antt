-- A body in which each statement stays is its own rewriting.
use Rattle.std.proofs.Common.{◌≡◌, Bool, true, false, not, ◌&&◌, List, [], ◌∷◌, ◌++◌, Option, Some, None, refl, ap, sym, ◌∙◌, append_assoc}
use Rattle.std.proofs.lemmas.List.{append-nil}
use Rattle.std.specs.List.{list_all}
use Rattle.std.specs.Prelude.{if◌then◌else◌}
use Rattle.srb_terms.specs.declared.span.Span.{Span}
use Rattle.rb_tree.specs.Nodes as tree
use Rattle.rb_tree.specs.declared.syntax.Tree.{Tree}
use Rattle.rb_tree.specs.declared.syntax.Node.{Node, out-Node}
use Rattle.rb_tree.specs.declared.syntax.Node.TheOpen.{Node-F}
use Rattle.rb_tree.specs.declared.syntax.Node.TheVariants as node
use Rattle.rb_tree.specs.declared.syntax.Node.TheVariants.{rolls-Body}
use Rattle.rb_tree.specs.declared.syntax.Node.TheViews.{roll-Node, out-roll-Node, roll-out-Node}
use Rattle.rb_rewrite.specs.Declaring.{AttributeCall, attribute_of, is_missing, is_sig}
use Rattle.rb_rewrite.specs.Initializers.{initialized, initialized_at, initialized_by, is_initializer, signature_before}
use Rattle.rb_rewrite.specs.Rewriting.{Row, row, empty_row, all_of, with_statement, with_statement_by, with_statements, rewritten, inner_of, inner_at, inner_by_node, stays_at, stays_by_node, statement_stays, body_at, body_by_node}
use Rattle.rb_rewrite.proofs.Equations.{inner_is}

both_are : (a b : Bool) → (a && b) ≡ true → (a ≡ true) × (b ≡ true)
both_are true b h = (refl, h)
both_are false b h = cc

none_is : (o : Option AttributeCall) → is_missing o ≡ true → o ≡ None
none_is None h = refl
none_is (Some a) h = cc

inner_stays_at : (t : Tree) (x : Node-F Node Tree) → stays_at x ≡ true → inner_at t x ≡ t
inner_stays_at t (Node-F.Class path superclass body span) h = cc
inner_stays_at t (Node-F.Module path body span) h = cc
inner_stays_at t x h = refl

inner_stays : (t : Tree) → stays_by_node t ≡ true → inner_of t ≡ t
unfolding stays_by_node inner_by_node
inner_stays t h = inner_is t ∙ inner_stays_at t (out-Node t.node) h

choose : (t u : Tree) (b : Bool) → not b ≡ true → (if b then u else t) ≡ t
choose t u true h = cc
choose t u false h = refl

initialized_stays_at : (sig : Option Tree) (t : Tree) (x : Node-F Node Tree) → stays_at x ≡ true → initialized_at sig t x ≡ t
initialized_stays_at sig t (Node-F.Def visibility own name name_span parameters guarded span) h =
    choose t (initialized_by t (signature_before parameters sig)) (is_initializer own name) h
initialized_stays_at sig t x h = refl

initialized_stays : (sig : Option Tree) (t : Tree) → stays_by_node t ≡ true → initialized sig t ≡ t
unfolding stays_by_node initialized
initialized_stays sig t h = initialized_stays_at sig t (out-Node t.node) h

other_by : (r : Row) (s i : Tree) (b : Bool) →
    all_of (if b then row (Some s) (all_of r) else row None (all_of r ++ i ∷ [])) ≡ all_of r ++ (if b then s else i) ∷ []
other_by r s i true = refl
other_by r s i false = refl

same_either : (b : Bool) (s i : Tree) → i ≡ s → (if b then s else i) ≡ s
same_either true s i e = refl
same_either false s i e = e

step_stays : (r : Row) (s : Tree) → statement_stays s ≡ true → all_of (with_statement r s (inner_of s)) ≡ all_of r ++ s ∷ []
step_stays r s h =
    let parts = both_are (is_missing (attribute_of s)) (stays_by_node s) h in
    let i : initialized r.sig (inner_of s) ≡ s = ap (initialized r.sig) (inner_stays s parts.1) ∙ initialized_stays r.sig s parts.1 in
    ap (λ (a : Option AttributeCall). all_of (with_statement_by r s (inner_of s) a)) (none_is (attribute_of s) parts.0)
    ∙ other_by r s (initialized r.sig (inner_of s)) (is_sig s)
    ∙ ap (λ (t : Tree). all_of r ++ t ∷ []) (same_either (is_sig s) s (initialized r.sig (inner_of s)) i)

all_stay : (ss : List Tree) (r : Row) → list_all statement_stays ss ≡ true → all_of (with_statements (λ s. s) inner_of r ss) ≡ all_of r ++ ss
all_stay [] r h = sym (append-nil (all_of r))
all_stay (s ∷ ss) r h =
    let parts = both_are (statement_stays s) (list_all statement_stays ss) h in
    all_stay ss (with_statement r s (inner_of s)) parts.1
    ∙ ap (λ (ts : List Tree). ts ++ ss) (step_stays r s parts.0)
    ∙ append_assoc (all_of r) (s ∷ []) ss

-- the statements of such a body
pub statements_stay : (ss : List Tree) → list_all statement_stays ss ≡ true → rewritten (λ s. s) inner_of ss ≡ ss
statements_stay ss h = all_stay ss empty_row h

made_of : (t : Tree) (ss : List Tree) (span : Span) → out-Node t.node ≡ Node-F.Body ss span → tree.Body ss span ≡ t
made_of t ss span e =
    ap (λ (n : Node). record { node = n }) (sym (rolls-Body ss span) ∙ ap roll-Node (sym e) ∙ roll-out-Node t.node)

stays_by_out : (t : Tree) (ss : List Tree) (span : Span) → out-Node t.node ≡ Node-F.Body ss span → list_all statement_stays ss ≡ true → body_by_node t ≡ t
unfolding body_by_node
stays_by_out t ss span e h =
    ap (body_at t) e
    ∙ ap (λ (ts : List Tree). tree.Body ts span) (statements_stay ss h)
    ∙ made_of t ss span e

-- such a body
pub body_stays : (t : Tree) (ss : List Tree) (span : Span) → t.node ≡ node.Body ss span → list_all statement_stays ss ≡ true → body_by_node t ≡ t
body_stays t ss span e h = stays_by_out t ss span (ap out-Node e ∙ ap out-Node (sym (rolls-Body ss span)) ∙ out-roll-Node (Node-F.Body ss span)) h
