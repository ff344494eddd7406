-- How the examples write programs, and what they say of them.
use Rattle.std.specs.Prelude.{◌≡◌, ℕ, ◌+◌, ◌-◌, List, [], ◌∷◌, map, length, codes, Some, None}
use Rattle.srb_terms.specs.declared.diag.Diag.{Diag}
use Rattle.srb_terms.specs.declared.span.Span.{Span}
use Rattle.rb_tree.specs.declared.syntax.Argument.{Argument}
use Rattle.rb_tree.specs.declared.syntax.Argument.TheVariants as argument
use Rattle.rb_tree.specs.declared.syntax.Binary.{Binary}
use Rattle.rb_tree.specs.declared.syntax.Dot.TheVariants as dot
use Rattle.rb_tree.specs.declared.syntax.Modifier.{Modifier}
use Rattle.rb_tree.specs.declared.syntax.Piece.TheVariants as piece
use Rattle.rb_tree.specs.declared.syntax.Suffix.TheVariants as suffix
use Rattle.rb_tree.specs.declared.syntax.Tree.{Tree}
use Rattle.rb_tree.specs.declared.syntax.Node.{Node}
use Rattle.rb_tree.specs.declared.syntax.Node.TheOpen.{Node-F}
use Rattle.rb_tree.specs.declared.syntax.Node.TheViews.{roll-Node}
use Rattle.srb_judgement.specs.ExampleLanguage.{SMALL}
use Rattle.srb_judgement.specs.Judgements.{errors_of}

-- a place
abbrev pub at : ℕ → ℕ → Span
at a b = record { start = a; end = b }

-- the tree of a node
abbrev pub tree_of : Node-F Node Tree → Tree
tree_of n = record { node = roll-Node n }

-- ---- forms of source: a word is told where it begins, any other form where it begins and ends

pub record Source (N P : Type 0) : Type 0 where
  -- any node
  pub make : Node-F N P → P
  -- `1`, `1.5`, `"a"`, `:a`, `nil`, `self`, `x`, `@x` and `X`
  pub whole : List ℕ → ℕ → P
  pub float : List ℕ → ℕ → P
  pub text : List ℕ → ℕ → P
  pub symbol : List ℕ → ℕ → P
  pub nil : ℕ → P
  pub self_word : ℕ → P
  pub name : List ℕ → ℕ → P
  pub ivar : List ℕ → ℕ → P
  pub constant : List ℕ → ℕ → P
  -- statements, and statements in brackets
  pub body : ℕ → ℕ → List P → P
  pub parens : ℕ → ℕ → P → P
  -- `t = e`, `a if c` and `a + b`, whose operator has a place
  pub assign : ℕ → ℕ → P → P → P
  pub modified : ℕ → ℕ → P → Modifier → P → P
  pub binary : ℕ → ℕ → P → Binary → Span → P → P
  -- `name(a)`; `e.name` and `e.name(a)`, whose name begins at a place; `T.reveal_type(e)`
  pub own : ℕ → ℕ → List ℕ → List P → P
  pub call : ℕ → ℕ → P → List ℕ → ℕ → P
  pub send : ℕ → ℕ → P → List ℕ → ℕ → List P → P
  pub reveal : ℕ → ℕ → P → P

abbrev pub positional : {P : Type 0} → List P → List (Argument P)
positional ps = map (λ p. argument.Positional p) ps

module _ {N P : Type 0} (make : Node-F N P → P) where
  abbrev pub sent : ℕ → ℕ → P → List ℕ → ℕ → List P → P
  sent a b e words n ps =
      make (Node-F.Post e
      (suffix.Call dot.Plain words (at n (n + length words)) (Some (positional ps)) None (at (n - 1) b) ∷ []) (at a b))

  abbrev pub source : Source N P
  source = record {
    make = make;
    whole = λ words a. make (Node-F.Whole None words (at a (a + length words)));
    float = λ words a. make (Node-F.Float None words (at a (a + length words)));
    text = λ words a. make (Node-F.Text (piece.Words words (at a (a + length words + 2)) ∷ []) (at a (a + length words + 2)));
    symbol = λ words a. make (Node-F.Symbol words (at a (a + length words + 1)));
    nil = λ a. make (Node-F.Nil (at a (a + 3)));
    self_word = λ a. make (Node-F.SelfWord (at a (a + 4)));
    name = λ words a. make (Node-F.Name words (at a (a + length words)));
    ivar = λ words a. make (Node-F.InstanceVariable words (at a (a + length words + 1)));
    constant = λ words a. make (Node-F.Constant words (at a (a + length words)));
    body = λ a b ps. make (Node-F.Body ps (at a b));
    parens = λ a b p. make (Node-F.Parens p (at a b));
    assign = λ a b t e. make (Node-F.Assign t e (at a b));
    modified = λ a b p m c. make (Node-F.Modified p m c (at a b));
    binary = λ a b l o place r. make (Node-F.Binary o place l r (at a b));
    own = λ a b words ps. make (Node-F.Call words (at a (a + length words)) (Some (positional ps)) None (at a b));
    call = λ a b e words n.
        make (Node-F.Post e (suffix.Call dot.Plain words (at n (n + length words)) None None (at (n - 1) b) ∷ []) (at a b));
    send = sent;
    reveal = λ a b e. sent a b (make (Node-F.Constant (codes "T") (at a (a + 1)))) (codes "reveal_type") (a + 2) (e ∷ []);
  }

-- ---- programs

-- A program is written by what makes something of its forms: a tree, or what is known of it.
abbrev pub Program : Type 1
Program = (N P : Type 0) → Source N P → P

-- the judgement of a program in the small language has these errors, those of the program's own body first
abbrev pub Reports : Program → List Diag → Type 0
Reports p errors = errors_of SMALL (p Node Tree (source tree_of)) ≡ errors
