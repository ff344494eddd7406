-- The examples: the parts of the call, wherever its name and its argument stand.
use Rattle.std.proofs.Common.{◌≡◌, ◌≤◌, [], ◌∷◌, codes, Some, None, sym, ap, subst, ◌∙◌, arith}
use Rattle.srb_terms.specs.declared.span.Span.{Span}
use Rattle.rb_tree.specs.Trees.{span_of}
use Rattle.rb_tree.specs.declared.syntax.Argument.TheVariants as argument
use Rattle.rb_tree.specs.declared.syntax.Dot.TheVariants as dot
use Rattle.rb_tree.specs.declared.syntax.Suffix.TheVariants as suffix
use Rattle.rb_tree.specs.declared.syntax.Tree.{Tree}
use Rattle.rb_tree.specs.declared.syntax.Node.{Node, out-Node}
use Rattle.rb_tree.specs.declared.syntax.Node.TheOpen.{Node-F}
use Rattle.rb_tree.specs.declared.syntax.Node.TheVariants.{rolls-Name, rolls-Post, rolls-Whole}
use Rattle.rb_tree.specs.declared.syntax.Node.TheViews.{out-roll-Node}
use Rattle.rb_nesting_laws.specs.Parts.{Parts, of_node}
use Rattle.rb_nesting_laws.specs.Nesting.{Each, AreNested, HoldsParts, DoesNodeNest, Nests}
use Rattle.rb_nesting_laws.specs.Examples.{from_to, receiver, digit, call_with, CallHasParts, CallNests, LateArgumentNestsNot, SwappedPartsNestNot}
use Rattle.rb_nesting_laws.proofs.Goes.{place-as}

abbrev node : Span → Span → Node-F Node Tree
node name value = Node-F.Post receiver (suffix.Call dot.Plain (codes "f") name (Some (argument.Positional (digit value) ∷ [])) None (from_to 1 6) ∷ []) (from_to 0 6)

-- its parts
abbrev known : Span → Span → Parts
known name value = record {
  places = from_to 0 1 ∷ from_to 1 6 ∷ [];
  holders = record { whole = from_to 1 6; parts = name ∷ value ∷ [] } ∷ [];
  trees = receiver ∷ digit value ∷ [];
}

receiver-place : span_of receiver ≡ from_to 0 1
receiver-place = sym (place-as receiver (Node-F.Name (codes "x") (from_to 0 1)) (rolls-Name _ _))

digit-place : (value : Span) → span_of (digit value) ≡ value
digit-place value = sym (place-as (digit value) (Node-F.Whole None (codes "1") value) (rolls-Whole _ _ _))

node-has : (name value : Span) → of_node (node name value) ≡ known name value
node-has name value = λ i. record {
  places = receiver-place i ∷ from_to 1 6 ∷ [];
  holders = record { whole = from_to 1 6; parts = name ∷ digit-place value i ∷ [] } ∷ [];
  trees = receiver ∷ digit value ∷ [];
}

out-is : (name value : Span) → out-Node (call_with name value).node ≡ node name value
out-is name value = ap out-Node (sym (rolls-Post _ _ _)) ∙ out-roll-Node (node name value)

-- that the known parts nest
abbrev Fits : Span → Parts → Type 0
Fits whole ps = AreNested whole ps.places × Each HoldsParts ps.holders

opened : (name value : Span) → Nests (call_with name value) → Fits (from_to 0 6) (known name value)
opened name value h = subst (Fits (from_to 0 6)) (node-has name value) (subst (λ (q : Node-F Node Tree). DoesNodeNest q) (out-is name value) h)

closed : (name value : Span) → Fits (from_to 0 6) (known name value) → Nests (call_with name value)
closed name value h = subst (λ (q : Node-F Node Tree). DoesNodeNest q) (sym (out-is name value)) (subst (Fits (from_to 0 6)) (sym (node-has name value)) h)

-- ---- the examples

pub call-has-parts : CallHasParts
call-has-parts = ap (λ (q : Node-F Node Tree). of_node q) (out-is (from_to 2 3) (from_to 4 5)) ∙ node-has (from_to 2 3) (from_to 4 5)

pub call-nests : CallNests
call-nests = closed (from_to 2 3) (from_to 4 5) (
  record { rise = (omega arith, omega arith, (omega arith, omega arith, tt)); within = omega arith },
  (record { rise = (omega arith, omega arith, (omega arith, omega arith, tt)); within = omega arith }, tt),
)

pub late-argument-nests-not : LateArgumentNestsNot
late-argument-nests-not h = let fits = opened (from_to 2 3) (from_to 4 7) h in let late : 7 ≤ 6 = fits.1.0.within in absurd (omega arith)

pub swapped-parts-nest-not : SwappedPartsNestNot
swapped-parts-nest-not h = let fits = opened (from_to 4 5) (from_to 2 3) h in let before : 5 ≤ 2 = fits.1.0.rise.2.0 in absurd (omega arith)
