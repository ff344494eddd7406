-- What is read of a form: its parts rise from an offset on, nest, and the tokens left stand after them.
use Rattle.std.proofs.Common.{◌≡◌, ℕ, ◌≤◌, List, [], ◌∷◌, refl, sym, subst, ◌∙◌, arith}
use Rattle.srb_terms.specs.declared.span.Span.{Span}
use Rattle.rb_tree.specs.Trees.{span_of, span_at, span_of_node}
use Rattle.rb_tree.specs.declared.token.Token.{Token}
use Rattle.rb_tree.specs.declared.syntax.Tree.{Tree}
use Rattle.rb_tree.specs.declared.syntax.Node.{Node, out-Node}
use Rattle.rb_tree.specs.declared.syntax.Node.TheOpen.{Node-F}
use Rattle.rb_tree.specs.declared.syntax.Node.TheViews.{roll-Node, out-roll-Node}
use Rattle.rb_rules.specs.Spans.{across}
use Rattle.rb_nesting_laws.specs.Parts.{Parts, nothing, both, at_place, holding, of_tree, of_body, body_places, of_node, parts_of}
use Rattle.rb_nesting_laws.specs.Nesting.{Each, Rise, end_of_last, AreNested, HoldsParts, DoesNodeNest, Nests, IsIn, StandInARow}
use Rattle.rb_nesting_laws.specs.Nesting.IsIn.{Itself, Inside}
use Rattle.rb_nesting_laws.proofs.Rows.{both-nothing, each-append, each-one, rise-from, end-from, end-after, rise-append, end-append, row-from}

-- ---- tokens

-- the tokens stand one after the other from an offset on
pub record Row (p : ℕ) (xs : List Token) : Type 0 where
  pub row : StandInARow p xs

pub row : {p : ℕ} {xs : List Token} → StandInARow p xs → Row p xs
row h = record { row = h }

pub starts : {p : ℕ} {xs : List Token} (t : Token) → Row p (t ∷ xs) → p ≤ t.span.start
starts t r = r.row.0

pub ends : {p : ℕ} {xs : List Token} (t : Token) → Row p (t ∷ xs) → t.span.start ≤ t.span.end
ends t r = r.row.1

pub lower : {p : ℕ} {xs : List Token} (q : ℕ) → q ≤ p → Row p xs → Row q xs
lower {p = p} {xs = xs} q h r = row (row-from p q xs h r.row)

-- a token is passed
pub past : {p : ℕ} {xs : List Token} (t : Token) → Row p (t ∷ xs) → Row p xs
past {p = p} {xs = xs} t r = let a = starts t r in let b = ends t r in row (row-from t.span.end p xs (omega arith) r.row.2)

-- what stands after it, from where it begins on, and from where it ends
pub within : {p : ℕ} {xs : List Token} (t : Token) → Row p (t ∷ xs) → Row t.span.start xs
within {xs = xs} t r = row (row-from t.span.end t.span.start xs (ends t r) r.row.2)

pub after : {p : ℕ} {xs : List Token} (t : Token) → Row p (t ∷ xs) → Row t.span.end xs
after t r = row r.row.2

-- ---- parts

-- each tree in this one nests
abbrev pub AllNest : Tree → Type 0
AllNest t = (u : Tree) → IsIn u t → Nests u

pub record Goes (p : ℕ) (ps : Parts) (ys : List Token) : Type 0 where
  pub rise : Rise p ps.places
  pub left : Row (end_of_last p ps.places) ys
  pub held : Each HoldsParts ps.holders
  pub nested : Each AllNest ps.trees

pub none : {p : ℕ} {ys : List Token} → Row p ys → Goes p nothing ys
none r = record { rise = tt; left = r; held = tt; nested = tt }

-- parts after others
pub also : {p : ℕ} {a b : Parts} {xs ys : List Token} → Goes p a xs → Goes (end_of_last p a.places) b ys → Goes p (both a b) ys
also {p = p} {a = a} {b = b} {ys = ys} g h = record {
  rise = rise-append p a.places b.places g.rise h.rise;
  left = subst (λ n. Row n ys) (sym (end-append p a.places b.places)) h.left;
  held = each-append HoldsParts a.holders b.holders g.held h.held;
  nested = each-append AllNest a.trees b.trees g.nested h.nested;
}

-- from an offset before
pub sooner : {p : ℕ} {a : Parts} {ys : List Token} (q : ℕ) → q ≤ p → Goes p a ys → Goes q a ys
sooner {p = p} {a = a} q h g = record {
  rise = rise-from p q a.places h g.rise;
  left = lower (end_of_last q a.places) (end-from p q a.places h) g.left;
  held = g.held;
  nested = g.nested;
}

-- a token is passed
pub skip : {p : ℕ} {a : Parts} {ys : List Token} (t : Token) → Goes p a (t ∷ ys) → Goes p a ys
skip t g = record { rise = g.rise; left = past t g.left; held = g.held; nested = g.nested }

-- more is read, which has no parts
pub leaves : {p : ℕ} {a : Parts} {xs ys : List Token} → Goes p a xs → Row (end_of_last p a.places) ys → Goes p a ys
leaves g r = record { rise = g.rise; left = r; held = g.held; nested = g.nested }

pub at-token : {p : ℕ} {xs : List Token} (t : Token) → Row p (t ∷ xs) → Goes p (at_place t.span) xs
at-token t r = record { rise = (starts t r, ends t r, tt); left = after t r; held = tt; nested = tt }

-- ---- a whole

-- the parts are nested in a place, after which the tokens left stand
pub record Spans (p : ℕ) (s : Span) (ps : Parts) (ys : List Token) : Type 0 where
  pub from : p ≤ s.start
  pub proper : s.start ≤ s.end
  pub lies : AreNested s ps.places
  pub left : Row s.end ys
  pub held : Each HoldsParts ps.holders
  pub nested : Each AllNest ps.trees

-- a token alone
pub spans-token : {p : ℕ} {xs : List Token} (t : Token) → Row p (t ∷ xs) → Spans p t.span nothing xs
spans-token t r = record {
  from = starts t r;
  proper = ends t r;
  lies = record { rise = tt; within = ends t r };
  left = after t r;
  held = tt;
  nested = tt;
}

-- from a token to the one after the parts
pub spans-between : {p : ℕ} {xs ys : List Token} {ps : Parts} (k e : Token) → Row p (k ∷ xs) → Goes k.span.start ps (e ∷ ys) → Spans p (across k.span e.span) ps ys
spans-between {ps = ps} k e r g =
    let a = end-after k.span.start ps.places g.rise in let b = starts e g.left in let c = ends e g.left in
    record {
      from = starts k r;
      proper = omega arith;
      lies = record { rise = g.rise; within = omega arith };
      left = after e g.left;
      held = g.held;
      nested = g.nested;
    }

-- from a token to where the last of the parts ends
pub spans-from : {p : ℕ} {xs ys : List Token} {ps : Parts} (k : Token) (end : ℕ) → Row p (k ∷ xs) → Goes k.span.start ps ys → end_of_last k.span.start ps.places ≡ end →
    Spans p (record { start = k.span.start; end = end }) ps ys
spans-from {ys = ys} {ps = ps} k end r g e =
    let a = end-after k.span.start ps.places g.rise in
    record {
      from = starts k r;
      proper = omega arith;
      lies = record { rise = g.rise; within = omega arith };
      left = subst (λ n. Row n ys) e g.left;
      held = g.held;
      nested = g.nested;
    }

-- from where the first of the parts begins to where the last ends
pub spans-row : {p : ℕ} {ys : List Token} {ps : Parts} (a : Span) (rest : List Span) (end : ℕ) → ps.places ≡ a ∷ rest → Goes p ps ys → end_of_last p ps.places ≡ end →
    Spans p (record { start = a.start; end = end }) ps ys
spans-row {p = p} {ys = ys} {ps = ps} a rest end f g e =
    let h : Rise p (a ∷ rest) = subst (Rise p) f g.rise in
    let i : end_of_last p (a ∷ rest) ≡ end = subst (λ ss. end_of_last p ss ≡ end) f e in
    let x : p ≤ a.start = h.0 in let y : a.start ≤ a.end = h.1 in let z = end-after a.end rest h.2 in
    record {
      from = x;
      proper = omega arith;
      lies = subst (AreNested (record { start = a.start; end = end })) (sym f) (record { rise = (omega arith, y, h.2); within = omega arith });
      left = subst (λ n. Row n ys) e g.left;
      held = g.held;
      nested = g.nested;
    }

-- ---- parts that are no trees

pub held-in : {p : ℕ} {s : Span} {ps : Parts} {ys : List Token} → Spans p s ps ys → Goes p (holding s ps) ys
held-in g = record { rise = (g.from, g.proper, tt); left = g.left; held = (g.lies, g.held); nested = g.nested }

-- ---- trees

all-nest : (t : Tree) → Nests t → Each AllNest (parts_of t).trees → AllNest t
all-nest t h all u (Itself _) = h
all-nest t h all u (Inside _ s _ i k) = each-one AllNest (parts_of t).trees s all i u k

rolled : (r : Node-F Node Tree) → DoesNodeNest r → Each AllNest (of_node r).trees → AllNest (record { node = roll-Node r })
rolled r h all = all-nest (record { node = roll-Node r }) (subst (λ q. DoesNodeNest q) (sym (out-roll-Node r)) h) (subst (λ q. Each AllNest (of_node q).trees) (sym (out-roll-Node r)) all)

-- the node is that of the tree
pub nests-as : (t : Tree) (r : Node-F Node Tree) → roll-Node r ≡ t.node → DoesNodeNest r → Each AllNest (of_node r).trees → AllNest t
nests-as t r e h all = subst (λ n. AllNest (record { node = n })) e (rolled r h all)

pub place-as : (t : Tree) (r : Node-F Node Tree) → roll-Node r ≡ t.node → span_at r ≡ span_of t
unfolding span_of span_of_node
place-as t r e = subst (λ u. span_at r ≡ span_at (out-Node u)) e (subst (λ q. span_at r ≡ span_at q) (sym (out-roll-Node r)) refl)

body-as : (t : Tree) (r : Node-F Node Tree) → roll-Node r ≡ t.node → body_places r ≡ body_places (out-Node t.node)
body-as t r e = subst (λ u. body_places r ≡ body_places (out-Node u)) e (subst (λ q. body_places r ≡ body_places q) (sym (out-roll-Node r)) refl)

-- a tree whose node is known
pub as-tree : {p : ℕ} {ys : List Token} (t : Tree) (r : Node-F Node Tree) → roll-Node r ≡ t.node → Spans p (span_at r) (of_node r) ys → Goes p (of_tree t) ys
as-tree {p = p} {ys = ys} t r e g =
    let f = place-as t r e in
    record {
      rise = (subst (λ s. p ≤ s.start) f g.from, subst (λ s. s.start ≤ s.end) f g.proper, tt);
      left = subst (λ s. Row s.end ys) f g.left;
      held = tt;
      nested = (nests-as t r e (g.lies, g.held) g.nested, tt);
    }

-- a body that has statements
pub as-body : {p : ℕ} {ys : List Token} (t : Tree) (r : Node-F Node Tree) → roll-Node r ≡ t.node → body_places r ≡ span_at r ∷ [] → Spans p (span_at r) (of_node r) ys → Goes p (of_body t) ys
as-body {p = p} {ys = ys} t r e b g =
    let f : span_at r ∷ [] ≡ body_places (out-Node t.node) = sym b ∙ body-as t r e in
    record {
      rise = subst (Rise p) f (g.from, g.proper, tt);
      left = subst (λ ss. Row (end_of_last p ss) ys) f g.left;
      held = tt;
      nested = (nests-as t r e (g.lies, g.held) g.nested, tt);
    }

-- one that has none
pub as-empty : {p : ℕ} {ys : List Token} (t : Tree) (s : Span) → roll-Node (Node-F.Body [] s) ≡ t.node → s.start ≤ s.end → Row p ys → Goes p (of_body t) ys
as-empty {p = p} {ys = ys} t s e h r =
    let f : [] ≡ body_places (out-Node t.node) = body-as t (Node-F.Body [] s) e in
    record {
      rise = subst (Rise p) f tt;
      left = subst (λ ss. Row (end_of_last p ss) ys) f r;
      held = tt;
      nested = (nests-as t (Node-F.Body [] s) e (record { rise = tt; within = h }, tt) tt, tt);
    }

-- ---- parts that end at a token

-- the parts end where a token does, or before, and the tokens left stand after it
pub record Closes (p : ℕ) (ps : Parts) (last : Token) (ys : List Token) : Type 0 where
  pub rise : Rise p ps.places
  pub within : end_of_last p ps.places ≤ last.span.end
  pub left : Row last.span.end ys
  pub held : Each HoldsParts ps.holders
  pub nested : Each AllNest ps.trees

-- nothing, after a token
pub closes-nothing : {p : ℕ} {xs : List Token} (t : Token) → Row p (t ∷ xs) → Closes t.span.start nothing t xs
closes-nothing t r = record { rise = tt; within = ends t r; left = after t r; held = tt; nested = tt }

-- the token itself
pub closes-token : {p : ℕ} {xs : List Token} (t : Token) → Row p (t ∷ xs) → Closes p (at_place t.span) t xs
closes-token t r = record { rise = (starts t r, ends t r, tt); within = omega arith; left = after t r; held = tt; nested = tt }

-- parts after the token
pub further : {p : ℕ} {a b : Parts} {before : Token} {xs ys : List Token} → Closes p a before xs → Goes before.span.end b ys → Goes p (both a b) ys
further {p = p} {a = a} c g =
    let h = sooner (end_of_last p a.places) c.within g in
    also (record { rise = c.rise; left = lower (end_of_last p a.places) c.within c.left; held = c.held; nested = c.nested }) h

-- parts up to another token
pub closes-at : {p : ℕ} {a : Parts} {ys : List Token} (t : Token) → Goes p a (t ∷ ys) → Closes p a t ys
closes-at t g = let a = starts t g.left in let b = ends t g.left in record { rise = g.rise; within = omega arith; left = after t g.left; held = g.held; nested = g.nested }

-- parts that end with the token
pub closes-with : {p : ℕ} {a : Parts} {ys : List Token} (t : Token) → Goes p a ys → end_of_last p a.places ≡ t.span.end → Closes p a t ys
closes-with {ys = ys} t g e = record { rise = g.rise; within = omega arith; left = subst (λ n. Row n ys) e g.left; held = g.held; nested = g.nested }

-- nothing after the token
pub closes-still : {p : ℕ} {a : Parts} {t : Token} {ys : List Token} → Closes p a t ys → Closes p (both a nothing) t ys
closes-still {p = p} {a = a} {t = t} {ys = ys} c = subst (λ ps. Closes p ps t ys) (sym (both-nothing a)) c

-- from a token to the last one
pub spans-closed : {p : ℕ} {xs ys : List Token} {ps : Parts} (k last : Token) → Row p (k ∷ xs) → Closes k.span.start ps last ys → Spans p (across k.span last.span) ps ys
spans-closed {ps = ps} k last r c =
    let a = end-after k.span.start ps.places c.rise in let b = c.within in
    record {
      from = starts k r;
      proper = omega arith;
      lies = record { rise = c.rise; within = c.within };
      left = c.left;
      held = c.held;
      nested = c.nested;
    }

-- the tokens from this one on stand from where it begins on
pub itself : {p : ℕ} {xs : List Token} (t : Token) → Row p (t ∷ xs) → Row t.span.start (t ∷ xs)
itself t r = row (omega arith, ends t r, r.row.2)
