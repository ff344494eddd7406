-- How trees are written, as far as a rule asks: how an operand is spelled, which statement a body ends with, and which statements declare.
use Rattle.std.specs.Prelude.{◌≡◌, ℕ, Bool, true, false, List, [], ◌∷◌, ◌++◌}
use Rattle.srb_terms.specs.declared.span.Span.{Span}
use Rattle.rb_tree.specs.Trees.{span_at, span_of}
use Rattle.rb_tree.specs.declared.syntax.Suffix.{Suffix}
use Rattle.rb_tree.specs.declared.syntax.Suffix.TheVariants as suffix
use Rattle.rb_tree.specs.declared.syntax.Tree.{Tree}
use Rattle.rb_tree.specs.declared.syntax.Node.{Node, out-Node}
use Rattle.rb_tree.specs.declared.syntax.Node.TheOpen.{Node-F}
use Rattle.srb_judgement.specs.Judgements.{part_of}
use Rattle.srb_judgement.specs.Languages.{Language}
use Rattle.srb_judgement.specs.Parts.{Spelling, NameAlone, NilWord, ConstantPath, Other, Standing, SigStatement, DeclaringCall, PlainStatement}
use Rattle.srb_judgement.specs.Spellings.{standing_named, has_block}
use Rattle.srb_walk.specs.declared.written.Standing as standing
use Rattle.srb_walk.specs.declared.written.Standing.TheVariants as stands

-- ---- spellings

-- "a path goes on by `::`; on any other operand `::` is no path"
abbrev pub with_constant : Spelling → List ℕ → Spelling
with_constant (ConstantPath path) name = ConstantPath (path ++ name ∷ [])
with_constant (NameAlone other) name = Other
with_constant NilWord name = Other
with_constant Other name = Other

-- "a path of constants and nothing else"
abbrev pub row_spelling : {P : Type 0} → Spelling → List (Suffix P) → Spelling
row_spelling so_far [] = so_far
row_spelling so_far (suffix.Call dot name name_span arguments block span ∷ rest) = row_spelling Other rest
row_spelling so_far (suffix.Constant name name_span span ∷ rest) = row_spelling (with_constant so_far name) rest
row_spelling so_far (suffix.Index arguments span ∷ rest) = row_spelling Other rest

module _ {T X : Type 0} (L : Language T X) where
  abbrev pub spelling_of : Tree → Spelling
  spelling_of t = (part_of L t).it.spelling

  abbrev pub spelling_in : Node-F Node Tree → Spelling
  spelling_in (Node-F.Name name span) = NameAlone name
  spelling_in (Node-F.Nil span) = NilWord
  spelling_in (Node-F.Constant name span) = ConstantPath (name ∷ [])
  spelling_in (Node-F.TopConstant name name_span span) = ConstantPath ([] ∷ name ∷ [])
  spelling_in (Node-F.Post receiver suffixes span) = row_spelling (spelling_of receiver) suffixes
  spelling_in _ = Other

  unfoldable pub spelling_by_node : Tree → Spelling
  spelling_by_node t = spelling_in (out-Node t.node)

-- ---- statements

abbrev pub is_empty_in : {N : Type 0} → Node-F N Tree → Bool
is_empty_in (Node-F.Body [] span) = true
is_empty_in (Node-F.Body (t ∷ statements) span) = false
is_empty_in _ = false

-- whether a tree is a body without a statement
unfoldable pub is_empty : Tree → Bool
is_empty t = is_empty_in (out-Node t.node)

abbrev pub last_span : Span → List Tree → Span
last_span span [] = span
last_span span (t ∷ statements) = last_span (span_of t) statements

abbrev pub last_in : {N : Type 0} → Node-F N Tree → Span
last_in (Node-F.Body statements span) = last_span span statements
last_in n = span_at n

-- the place of the last statement of a body
unfoldable pub last_of : Tree → Span
last_of t = last_in (out-Node t.node)

abbrev pub standing_name : {N P : Type 0} → Bool → Node-F N P → Standing
standing_name block (Node-F.Name name span) = standing_named name block
standing_name block _ = PlainStatement

unfoldable pub standing_called : Tree → Bool → Standing
standing_called callee block = standing_name block (out-Node callee.node)

abbrev pub standing_in : {N : Type 0} → Node-F N Tree → Standing
standing_in (Node-F.Name name span) = standing_named name false
standing_in (Node-F.Call name place arguments b span) = standing_named name (has_block b)
standing_in (Node-F.Command callee arguments b span) = standing_called callee (has_block b)
standing_in _ = PlainStatement

-- "`include`, `extend`, `attr_reader`, `attr_writer`, `attr_accessor` and `sig` without a receiver in a class or module body are
-- declarations": what a direct statement is
unfoldable pub standing_of : Tree → Standing
standing_of t = standing_in (out-Node t.node)

abbrev pub seen_standing : standing.Standing → Standing
seen_standing stands.Sig = SigStatement
seen_standing stands.Declaring = DeclaringCall
seen_standing stands.Plain = PlainStatement

-- ---- laws

-- what the judgement knows of a tree is told by how it is written
pub record ToldByWriting {T X : Type 0} (L : Language T X) (t : Tree) : Type 0 where
  pub span : (part_of L t).it.span ≡ span_of t
  pub is_empty : (part_of L t).is_empty ≡ is_empty t
  pub last : (part_of L t).last ≡ last_of t
  pub standing : (part_of L t).standing ≡ standing_of t

abbrev pub ToldByTheirWriting : Type 0 → Type 0 → Type 0
ToldByTheirWriting T X = (L : Language T X) (t : Tree) → ToldByWriting L t
