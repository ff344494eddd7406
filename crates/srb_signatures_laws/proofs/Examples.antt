-- The place is that of an error that is computed.
use Rattle.std.proofs.Common.{◌≡◌, true, false, List, [], ◌∷◌, codes, None, ap, sym, subst, ◌∙◌}
use Rattle.srb_terms.specs.declared.diag.Diag.{Diag}
use Rattle.rb_tree.specs.declared.syntax.Tree.{Tree}
use Rattle.rb_tree.specs.declared.syntax.Node.{Node, out-Node}
use Rattle.rb_tree.specs.declared.syntax.Node.TheOpen.{Node-F}
use Rattle.rb_tree.specs.declared.syntax.Node.TheVariants.{rolls-Body, rolls-Def}
use Rattle.rb_tree.specs.declared.syntax.Node.TheViews.{roll-Node, out-roll-Node}
use Rattle.rb_grammar.specs.Examples.{from_to}
use Rattle.rb_grammar.specs.Places.{Each}
use Rattle.rb_places_laws.specs.TreePlaces.{IsPlaceIn}
use Rattle.srb_signatures.specs.Errors.{body_of, program_at, signature_errors, statement_at, statement_by_node, statement_of}
use Rattle.srb_signatures.specs.Missing.{missing_method, missing_method_at, no_signature}
use Rattle.srb_signatures.proofs.Equations.{statement_is}
use Rattle.srb_signatures_laws.proofs.Places.{signatures-in-trees}
use Rattle.srb_signatures_laws.specs.Examples.{DEF, EMPTY, METHOD, NameIsAPlace}

abbrev DEF_NODE : Node-F Node Tree
DEF_NODE = Node-F.Def None false (codes "f") (from_to 4 5) [] (record { body = EMPTY; rescues = []; otherwise = None; ensure = None }) (from_to 0 10)

abbrev BODY_NODE : Node-F Node Tree
BODY_NODE = Node-F.Body (DEF ∷ []) (from_to 0 10)

abbrev ERRORS : List Diag
ERRORS = no_signature (codes "f") (from_to 4 5) ∷ []

out-of : (r : Node-F Node Tree) (n : Node) → roll-Node r ≡ n → out-Node n ≡ r
out-of r n e = ap out-Node (sym e) ∙ out-roll-Node r

out-def : out-Node DEF.node ≡ DEF_NODE
out-def = out-of DEF_NODE _ (rolls-Def _ _ _ _ _ _ _)

out-body : out-Node METHOD.node ≡ BODY_NODE
out-body = out-of BODY_NODE _ (rolls-Body _ _)

lacks-one : signature_errors true METHOD ≡ ERRORS
unfolding signature_errors missing_method statement_by_node
lacks-one =
    ap (program_at true) out-body
    ∙ ap (λ n. statement_of true DEF (missing_method_at n)) out-def
    ∙ statement_is true DEF ERRORS
    ∙ ap (λ n. statement_at true (λ x. x) (statement_of true) (body_of true) n ERRORS) out-def

pub name-is-a-place : NameIsAPlace
name-is-a-place = (subst (Each (λ (e : Diag). IsPlaceIn METHOD e.span)) lacks-one (signatures-in-trees true METHOD)).0
