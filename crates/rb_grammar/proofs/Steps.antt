-- What holds of whatever a rule answers: of each step that rules are made of, and of steps in a row.
use Rattle.std.proofs.Common.{◌≡◌, ℕ, Bool, true, false, if◌then◌else◌, List, [], ◌∷◌, ◌++◌, Ok, Err, refl, sym, ap, subst, ◌∙◌, append_assoc}
use Rattle.srb_terms.specs.declared.span.Span.{Span}
use denote.Enum.Bare.{same_true, true_same}
use Rattle.rb_tree.specs.contracts.token.Shape.{the_type}
use Rattle.rb_tree.specs.Tokens.{shape_of, same_shape}
use Rattle.rb_tree.specs.declared.syntax.PlacedName.{PlacedName}
use Rattle.rb_tree.specs.declared.token.Token.{Token}
use Rattle.rb_tree.specs.declared.token.Shape.{Shape}
use Rattle.rb_tree.specs.declared.token.Shape.TheVariants as shape
use Rattle.rb_expr.specs.Reading.{Outcome, Parser, and_then, sees, after, words_of, take_token, expect, named, worded, skip_separators}
use Rattle.rb_tree.specs.declared.token.TokenKind.{TokenKind}
use Rattle.rb_tree.specs.declared.token.TokenKind.TheVariants as kind
use Rattle.rb_rules.specs.Tokens.{Is, IsIdentifier, IsConstant, IsInstanceVariable, IsLabel, IsSymbol, IsWhole, IsFloat, IsText}
use Rattle.rb_rules.specs.Grammar.{Gap}
use Rattle.rb_rules.specs.Grammar.Gap.{Closed, Wide}

abbrev pub Told : {A : Type 0} → Outcome A → (A → List Token → Type 0) → Type 0
Told (Ok p) Q = Q p.0 p.1
Told (Err rest) Q = Unit {0}

-- what is answered and left, if something is, is such
pub record Holds {A : Type 0} (o : Outcome A) (Q : A → List Token → Type 0) : Type 0 where
  pub told : Told o Q

pub answered : {A : Type 0} (Q : A → List Token → Type 0) (a : A) (ys : List Token) → Q a ys → Holds (Ok (a, ys)) Q
answered Q a ys q = record { told = q }

pub refused : {A : Type 0} (Q : A → List Token → Type 0) (rest : List Token) → Holds (Err rest) Q
refused Q rest = record { told = tt }

pub step : {A B : Type 0} {P : A → List Token → Type 0} {Q : B → List Token → Type 0} {o : Outcome A} {f : A → Parser B} → Holds o P → ((a : A) (ys : List Token) → P a ys → Holds (f a ys) Q) → Holds (and_then o f) Q
step {A = A} {P = P} {Q = Q} {o = o} {f = f} h k = go o h
  where
    go : (o : Outcome A) → Holds o P → Holds (and_then o f) Q
    go (Ok p) h = k p.0 p.1 h.told
    go (Err rest) h = record { told = tt }

pub weaker : {A : Type 0} {P Q : A → List Token → Type 0} {o : Outcome A} → Holds o P → ((a : A) (ys : List Token) → P a ys → Q a ys) → Holds o Q
weaker {A = A} {P = P} {Q = Q} {o = o} h k = go o h
  where
    go : (o : Outcome A) → Holds o P → Holds o Q
    go (Ok p) h = record { told = k p.0 p.1 h.told }
    go (Err rest) h = record { told = tt }

pub choose : {A : Type 0} {Q : A → List Token → Type 0} {b : Bool} {o p : Outcome A} → (b ≡ true → Holds o Q) → (b ≡ false → Holds p Q) → Holds (if b then o else p) Q
choose {Q = Q} {b = b} {o = o} {p = p} h k = go b h k
  where
    go : (b : Bool) → (b ≡ true → Holds o Q) → (b ≡ false → Holds p Q) → Holds (if b then o else p) Q
    go true h k = h refl
    go false h k = k refl

-- with the test written out
pub choosing : {A : Type 0} {Q : A → List Token → Type 0} (b : Bool) {o p : Outcome A} → (b ≡ true → Holds o Q) → (b ≡ false → Holds p Q) → Holds (if b then o else p) Q
choosing true h k = h refl
choosing false h k = k refl

pub same : (s t : Shape) → same_shape s t ≡ true → s ≡ t
unfolding same_shape
same s t e = same_true the_type tt s t e

-- a token of this shape is taken
pub taking : {B : Type 0} (s : Shape) (R : List Token → B → List Token → Type 0) (f : Span → Parser B) (xs : List Token) → ((t : Token) (ts : List Token) → Is s t → Holds (f t.span ts) (R (t ∷ ts))) → Holds (and_then (expect s xs) f) (R xs)
taking s R f [] k = record { told = tt }
taking s R f (t ∷ ts) k = by (same_shape (shape_of t.kind) s) refl
  where
    by : (b : Bool) → same_shape (shape_of t.kind) s ≡ b → Holds (and_then (if b then Ok (t.span, ts) else Err (t ∷ ts)) f) (R (t ∷ ts))
    by true e = k t ts (same (shape_of t.kind) s e)
    by false e = record { told = tt }

pub took : (s : Shape) (R : List Token → Span → List Token → Type 0) (xs : List Token) → ((t : Token) (ts : List Token) → Is s t → R (t ∷ ts) t.span ts) → Holds (expect s xs) (R xs)
took s R [] k = record { told = tt }
took s R (t ∷ ts) k = by (same_shape (shape_of t.kind) s) refl
  where
    by : (b : Bool) → same_shape (shape_of t.kind) s ≡ b → Holds (if b then Ok (t.span, ts) else Err (t ∷ ts)) (R (t ∷ ts))
    by true e = record { told = k t ts (same (shape_of t.kind) s e) }
    by false e = record { told = tt }

-- as a name
pub naming : {B : Type 0} (s : Shape) (R : List Token → B → List Token → Type 0) (f : PlacedName → Parser B) (xs : List Token) → ((t : Token) (ts : List Token) → Is s t → Holds (f (record { name = words_of t.kind; span = t.span }) ts) (R (t ∷ ts))) → Holds (and_then (named s xs) f) (R xs)
naming s R f [] k = record { told = tt }
naming s R f (t ∷ ts) k = by (same_shape (shape_of t.kind) s) refl
  where
    by : (b : Bool) → same_shape (shape_of t.kind) s ≡ b → Holds (and_then (if b then Ok (record { name = words_of t.kind; span = t.span }, ts) else Err (t ∷ ts)) f) (R (t ∷ ts))
    by true e = k t ts (same (shape_of t.kind) s e)
    by false e = record { told = tt }

-- with its words
pub wording : {B : Type 0} (s : Shape) (R : List Token → B → List Token → Type 0) (f : List ℕ × Span → Parser B) (xs : List Token) → ((t : Token) (ts : List Token) → Is s t → Holds (f (words_of t.kind, t.span) ts) (R (t ∷ ts))) → Holds (and_then (worded s xs) f) (R xs)
wording s R f [] k = record { told = tt }
wording s R f (t ∷ ts) k = by (same_shape (shape_of t.kind) s) refl
  where
    by : (b : Bool) → same_shape (shape_of t.kind) s ≡ b → Holds (and_then (if b then Ok ((words_of t.kind, t.span), ts) else Err (t ∷ ts)) f) (R (t ∷ ts))
    by true e = k t ts (same (shape_of t.kind) s e)
    by false e = record { told = tt }

-- any token is taken
pub passing : {B : Type 0} (R : List Token → B → List Token → Type 0) (f : Span → Parser B) (xs : List Token) → ((t : Token) (ts : List Token) → Holds (f t.span ts) (R (t ∷ ts))) → Holds (and_then (take_token xs) f) (R xs)
passing R f [] k = record { told = tt }
passing R f (t ∷ ts) k = k t ts

-- this token is taken
pub taking-this : {B : Type 0} (s : Shape) (Q : B → List Token → Type 0) (f : Span → Parser B) (t : Token) (ts : List Token) → (Is s t → Holds (f t.span ts) Q) → Holds (and_then (expect s (t ∷ ts)) f) Q
taking-this s Q f t ts k = by (same_shape (shape_of t.kind) s) refl
  where
    by : (b : Bool) → same_shape (shape_of t.kind) s ≡ b → Holds (and_then (if b then Ok (t.span, ts) else Err (t ∷ ts)) f) Q
    by true e = k (same (shape_of t.kind) s e)
    by false e = record { told = tt }

-- a token of this shape after what has been read
pub follow : {B : Type 0} (s : Shape) (D : List Token → Type 0) (Q : B → List Token → Type 0) (f : Span → Parser B) (ps : List Token) → D ps → ((t : Token) (ts : List Token) → Is s t → D (t ∷ ts) → Holds (f t.span ts) Q) → Holds (and_then (expect s ps) f) Q
follow s D Q f [] d k = record { told = tt }
follow s D Q f (t ∷ ts) d k = by (same_shape (shape_of t.kind) s) refl
  where
    by : (b : Bool) → same_shape (shape_of t.kind) s ≡ b → Holds (and_then (if b then Ok (t.span, ts) else Err (t ∷ ts)) f) Q
    by true e = k t ts (same (shape_of t.kind) s e) d
    by false e = record { told = tt }

-- likewise, with its words
pub follow-words : {B : Type 0} (s : Shape) (D : List Token → Type 0) (Q : B → List Token → Type 0) (f : List ℕ × Span → Parser B) (ps : List Token) → D ps → ((t : Token) (ts : List Token) → Is s t → D (t ∷ ts) → Holds (f (words_of t.kind, t.span) ts) Q) → Holds (and_then (worded s ps) f) Q
follow-words s D Q f [] d k = record { told = tt }
follow-words s D Q f (t ∷ ts) d k = by (same_shape (shape_of t.kind) s) refl
  where
    by : (b : Bool) → same_shape (shape_of t.kind) s ≡ b → Holds (and_then (if b then Ok ((words_of t.kind, t.span), ts) else Err (t ∷ ts)) f) Q
    by true e = k t ts (same (shape_of t.kind) s e) d
    by false e = record { told = tt }

-- a choice by the shape of the next token
pub testing : {A : Type 0} {c s : Shape} {o p : Outcome A} {Q : A → List Token → Type 0} → (c ≡ s → Holds o Q) → (same_shape c s ≡ false → Holds p Q) → Holds (if same_shape c s then o else p) Q
testing {A = A} {c = c} {s = s} {o = o} {p = p} {Q = Q} k l = by (same_shape c s) refl
  where
    by : (b : Bool) → same_shape c s ≡ b → Holds (if b then o else p) Q
    by true e = k (same c s e)
    by false e = l e

pub shown : (s : Shape) (t : Token) (ts : List Token) → Is s t → sees s (t ∷ ts) ≡ true
unfolding same_shape
shown s t ts is = true_same the_type _ _ is

seen-by : (s : Shape) (t : Token) (ts : List Token) → same_shape (shape_of t.kind) s ≡ true → (u : Token) × Is s u × (t ∷ ts ≡ u ∷ ts)
seen-by s t ts e = (t, same _ _ e, refl)

pub seen : (s : Shape) (ps : List Token) → sees s ps ≡ true → (t : Token) × Is s t × (ps ≡ t ∷ after ps)
seen s [] e = absurd (cc)
seen s (t ∷ ts) e = seen-by s t ts e

-- ---- tokens passed over

-- the second list is an end of the first
abbrev pub Within : List Token → List Token → Type 0
Within xs ys = (front : List Token) × (xs ≡ front ++ ys)

pub within-self : (xs : List Token) → Within xs xs
within-self xs = ([], refl)

pub within-token : {xs ys : List Token} (t : Token) → Within xs ys → Within (t ∷ xs) ys
within-token t w = (t ∷ w.0, ap (λ zs. t ∷ zs) w.1)

pub within-more : {xs ys zs : List Token} → Within xs ys → Within ys zs → Within xs zs
within-more {xs = xs} {ys = ys} {zs = zs} v w = (v.0 ++ w.0, v.1 ∙ ap (λ us. v.0 ++ us) w.1 ∙ sym (append_assoc v.0 w.0 zs))

gap-by : (t : Token) (ts rest : List Token) (b : Bool) → same_shape (shape_of t.kind) shape.Separator ≡ b → Gap ts rest × Within ts rest → Gap (t ∷ ts) (if b then rest else t ∷ ts) × Within (t ∷ ts) (if b then rest else t ∷ ts)
gap-by t ts rest true e more = (Wide _ _ _ (same _ _ e) more.0, within-token t more.1)
gap-by t ts rest false e more = (Closed _, within-self _)

-- separators are a gap
pub gap : (xs : List Token) → Gap xs (skip_separators xs) × Within xs (skip_separators xs)
gap [] = (Closed [], within-self [])
gap (t ∷ ts) = gap-by t ts (skip_separators ts) (same_shape (shape_of t.kind) shape.Separator) refl (gap ts)

-- ---- words

-- what is known of a token with this shape
Carries : Shape → TokenKind → Type 0
Carries shape.Identifier k = k ≡ kind.Identifier (words_of k)
Carries shape.Constant k = k ≡ kind.Constant (words_of k)
Carries shape.InstanceVariable k = k ≡ kind.InstanceVariable (words_of k)
Carries shape.Label k = k ≡ kind.Label (words_of k)
Carries shape.Symbol k = k ≡ kind.Symbol (words_of k)
Carries shape.Whole k = k ≡ kind.Whole (words_of k)
Carries shape.Float k = k ≡ kind.Float (words_of k)
Carries shape.Text k = k ≡ kind.Text (words_of k)
Carries s k = Unit {0}

carried : (k : TokenKind) → Carries (shape_of k) k
unfolding Carries shape_of
carried (kind.Identifier words) = refl
carried (kind.Constant words) = refl
carried (kind.InstanceVariable words) = refl
carried (kind.Label words) = refl
carried (kind.Symbol words) = refl
carried (kind.Whole words) = refl
carried (kind.Float words) = refl
carried (kind.Text words) = refl
carried k = tt

as-shape : (s : Shape) (t : Token) → Is s t → Carries s t.kind
as-shape s t is = subst (λ u. Carries u t.kind) is (carried t.kind)

pub identifier : (t : Token) → Is shape.Identifier t → IsIdentifier t (words_of t.kind)
unfolding Carries
identifier t is = as-shape shape.Identifier t is

pub constant : (t : Token) → Is shape.Constant t → IsConstant t (words_of t.kind)
unfolding Carries
constant t is = as-shape shape.Constant t is

pub instance_variable : (t : Token) → Is shape.InstanceVariable t → IsInstanceVariable t (words_of t.kind)
unfolding Carries
instance_variable t is = as-shape shape.InstanceVariable t is

pub label : (t : Token) → Is shape.Label t → IsLabel t (words_of t.kind)
unfolding Carries
label t is = as-shape shape.Label t is

pub symbol : (t : Token) → Is shape.Symbol t → IsSymbol t (words_of t.kind)
unfolding Carries
symbol t is = as-shape shape.Symbol t is

pub whole : (t : Token) → Is shape.Whole t → IsWhole t (words_of t.kind)
unfolding Carries
whole t is = as-shape shape.Whole t is

pub float : (t : Token) → Is shape.Float t → IsFloat t (words_of t.kind)
unfolding Carries
float t is = as-shape shape.Float t is

pub text : (t : Token) → Is shape.Text t → IsText t (words_of t.kind)
unfolding Carries
text t is = as-shape shape.Text t is
