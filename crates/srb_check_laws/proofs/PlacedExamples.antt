-- The examples, by the nodes around the place, and by the record that is kept of the file.
use Rattle.std.proofs.Common.{◌≡◌, true, [], ◌∷◌, codes, Some, refl, ap, arith}
use Rattle.std.specs.Str.{chars, is_utf8}
use lib.Utf8.{encode}
use Rattle.srb_terms.specs.declared.span.Span.{Span}
use Rattle.rb_tree.specs.Nodes as tree
use Rattle.rb_tree.specs.declared.syntax.Binary.TheVariants as binary
use Rattle.rb_tree.specs.declared.syntax.Node as syntax
use Rattle.rb_tree.specs.declared.syntax.Node.TheOpen.{Node-F}
use denote.Hole.Carrier as carrier
use Rattle.rb_tree.specs.declared.syntax.Tree.{Tree}
use Rattle.rb_grammar.specs.Examples.{SUM_TREE, digit, from_to}
use Rattle.rb_lex.specs.Levels as levels
use Rattle.rb_places_laws.proofs.ByNode.{taken-apart}
use Rattle.rb_text_laws.specs.Texts.{Verdict}
use Rattle.rb_text_laws.proofs.Examples.{sum-is-a-program}
use Rattle.srb_check.specs.declared.file.FileRec.{FileRec}
use Rattle.srb_check.specs.Records.{loaded}
use Rattle.srb_check_laws.specs.PlacedExamples.{OperatorIsAPlace, SHORT_TREE, ShortErrsInItsTree}
use Rattle.srb_check_laws.proofs.ErrorPlaces.{files-err-in-trees}
use Rattle.srb_check_laws.proofs.LoadedExamples.{text-kept}

-- the sum in the program's body, and its second operand
abbrev PRODUCT : Tree
PRODUCT = tree.Binary binary.Star (from_to 6 7) (digit (codes "2") 4) (digit (codes "3") 8) (from_to 4 9)

abbrev SUM : Tree
SUM = tree.Binary binary.Plus (from_to 2 3) (digit (codes "1") 0) PRODUCT (from_to 0 9)

pub operator-is-a-place : OperatorIsAPlace
unfolding syntax.roll-Node carrier.roll
operator-is-a-place test has =
    let P : Span → Type 0 = λ place. test place ≡ true in
    let body = taken-apart P SUM_TREE (Node-F.Body (SUM ∷ []) (from_to 0 9)) refl has in
    let sum = taken-apart P SUM (Node-F.Binary binary.Plus (from_to 2 3) (digit (codes "1") 0) PRODUCT (from_to 0 9)) refl body.1.0 in
    sum.1.0

kept : (loaded (codes "1+2")).tree ≡ Some SHORT_TREE
unfolding chars is_utf8 encode levels.level_of levels.heading_of levels.level_in
kept = ap (λ (f : FileRec). f.tree) (text-kept (codes "1+2") (codes "1+2") (Verdict.Program SHORT_TREE) (omega arith) refl refl refl sum-is-a-program)

pub short-errs-in-its-tree : ShortErrsInItsTree
short-errs-in-its-tree facts = files-err-in-trees facts (codes "1+2") SHORT_TREE kept
