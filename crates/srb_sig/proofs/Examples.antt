-- The trees of the examples, computed node by node.
use Rattle.std.proofs.Common.{◌≡◌, ℕ, List, ap}
use Rattle.srb_terms.specs.declared.outline.NodeKind.{NodeKind}
use Rattle.srb_terms.specs.declared.outline.Outline.{Outline}
use Rattle.srb_terms.specs.declared.outline.Outline.TheViews.{out-roll-Outline}
use Rattle.srb_sig.specs.Chains.{said_by}
use Rattle.srb_sig.specs.Forms.{kind_of, words_of, parts_of, type_form}
use Rattle.srb_sig.specs.Examples.{ChainsAre, FormsAre, PathsAre, node}

kind-is : (k : NodeKind) (words : List ℕ) (parts : List Outline) → kind_of (node k words parts) ≡ k
kind-is k words parts = ap (λ o. o.label.kind) (out-roll-Outline (record { label = record { kind = k; words = words }; parts = parts }))

words-are : (k : NodeKind) (words : List ℕ) (parts : List Outline) → words_of (node k words parts) ≡ words
words-are k words parts = ap (λ o. o.label.words) (out-roll-Outline (record { label = record { kind = k; words = words }; parts = parts }))

parts-are : (k : NodeKind) (words : List ℕ) (parts : List Outline) → parts_of (node k words parts) ≡ parts
parts-are k words parts = ap (λ o. o.parts) (out-roll-Outline (record { label = record { kind = k; words = words }; parts = parts }))

pub forms : FormsAre
unfolding type_form
forms = record {
  path = simp (kind-is, words-are, parts-are);
  top = simp kind-is;
  nilable = simp (kind-is, words-are, parts-are);
  two = simp (kind-is, words-are, parts-are);
  safe = simp (kind-is, words-are, parts-are);
  array = simp (kind-is, words-are, parts-are);
  boolean = simp (kind-is, words-are, parts-are);
  alone = simp (kind-is, words-are, parts-are);
  object = simp (kind-is, words-are, parts-are);
  no_path = simp (kind-is, words-are, parts-are);
  chain = simp (kind-is, words-are, parts-are);
  number = simp kind-is;
}

pub paths : PathsAre
paths = record {
  within = simp (kind-is, words-are, parts-are);
  top = simp (kind-is, words-are, parts-are);
  object = simp (kind-is, words-are, parts-are);
}

pub chains : ChainsAre
unfolding said_by
chains = record {
  both = simp (kind-is, words-are, parts-are);
  without = simp (kind-is, words-are, parts-are);
  command = simp (kind-is, words-are, parts-are);
  two = simp (kind-is, words-are, parts-are);
}
