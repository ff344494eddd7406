-- That whatever is read of a form that nests can be completed.
use Rattle.std.proofs.Common.{◌≡◌, ℕ, zero, suc, ◌≤◌, ◌<◌, Bool, true, false, List, [], ◌∷◌, ◌⊎◌, inl, inr, refl, sym, ap, subst, ◌∙◌, arith, ⊎_elim}
use Rattle.rb_tree.specs.Tokens.{shape_of}
use Rattle.rb_tree.specs.declared.syntax.Tree.{Tree}
use Rattle.rb_tree.specs.declared.syntax.Node.{Node, out-Node}
use Rattle.rb_tree.specs.declared.syntax.Node.TheOpen.{Node-F}
use Rattle.rb_tree.specs.declared.syntax.Node.TheViews.{roll-Node, out-roll-Node}
use Rattle.rb_tree.specs.declared.syntax.Suffix.{Suffix}
use Rattle.rb_tree.specs.declared.token.Token.{Token}
use Rattle.rb_tree.specs.declared.token.TokenKind.TheVariants as kind
use Rattle.rb_tree.specs.declared.token.Shape.TheVariants as shape
use Rattle.rb_expr.specs.declared.form.Form.{Form}
use Rattle.rb_expr.specs.declared.form.Form.TheVariants as form
use Rattle.rb_expr.specs.Reading.{Outcome, Parser, sees}
use Rattle.rb_expr.specs.Statements.{ending_of, ending_at}
use Rattle.rb_expr.specs.declared.ending.Ending.{Ending}
use Rattle.rb_expr.specs.declared.ending.Ending.TheVariants as ending
use Rattle.rb_rules.specs.Tokens.{Is, IsBeforeNumber, IsRaised}
use Rattle.rb_rules.specs.Forms.{Site, Inside, is_begin}
use Rattle.rb_rules.specs.Grammar.{posted, Parted, DerivesBody, DerivesStatement, DerivesSimple, DerivesValue, DerivesTerm, DerivesLevel, DerivesPrefixed, DerivesOperand, DerivesPrimary, DerivesTarget, DerivesCallee}
use Rattle.rb_rules.specs.Grammar.Gap.{Closed}
use Rattle.rb_rules.specs.Grammar.DerivesBody.{NoStatement}
use Rattle.rb_rules.specs.Grammar.DerivesSimple.{Valued}
use Rattle.rb_rules.specs.Grammar.DerivesStatement.{Simply}
use Rattle.rb_rules.specs.Grammar.DerivesModified.{Unmodified}
use Rattle.rb_rules.specs.Grammar.DerivesValue.{Term}
use Rattle.rb_rules.specs.Grammar.DerivesTerm.{Operated}
use Rattle.rb_rules.specs.Grammar.DerivesLevel.{Tighter, Plainly, Negated}
use Rattle.rb_rules.specs.Grammar.DerivesPrefixed.{Posted}
use Rattle.rb_rules.specs.Grammar.DerivesOperand.{Bare}
use Rattle.rb_rules.specs.Grammar.DerivesPrimary.{NameAlone}
use Rattle.rb_completion_laws.proofs.Steps.{Rel, Reach, Completes, Stands, stands-as, reach-as, complete-as, Goes, goes-as, Plain, One, new_token, one-stands}

-- ---- with some tree

abbrev pub ABody : Site → Bool → Rel
ABody at free us zs = (t : Tree) × DerivesBody at free t us zs

abbrev pub AStatement : Site → Bool → Rel
AStatement at free us zs = (t : Tree) × DerivesStatement at free t us zs

abbrev pub ASimple : Bool → Bool → Rel
ASimple constants free us zs = (t : Tree) × DerivesSimple constants free t us zs

abbrev pub AValue : Bool → Bool → Rel
AValue constants free us zs = (t : Tree) × DerivesValue constants free t us zs

abbrev pub ATerm : Bool → Rel
ATerm free us zs = (t : Tree) × DerivesTerm free t us zs

abbrev pub ALevel : ℕ → Bool → Rel
ALevel level free us zs = (t : Tree) × DerivesLevel level free t us zs

abbrev pub ATarget : Bool → Bool → Rel
ATarget constants free us zs = (t : Tree) × DerivesTarget constants free t us zs

abbrev pub ACallee : Bool → Rel
ACallee free us zs = (t : Tree) × DerivesCallee free t us zs

-- a body and what parts it from a `rescue`
abbrev pub AParted : Site → Bool → Rel
AParted at free us zs = (t : Tree) × (ms : List Token) × DerivesBody at free t us ms × Parted t ms zs

-- a body is read, and where a `rescue` is next, it is parted from it
abbrev pub Bodied : Site → Bool → List Token → Outcome Tree → Type 0
Bodied at free xs o = Goes o (λ t ys. Reach xs ys (ABody at free) × (sees shape.Rescue ys ≡ true → Reach xs ys (AParted at free))) (λ rest. Completes xs rest (ABody at free))

pub bodied : {at : Site} {free : Bool} {xs : List Token} {o : Outcome Tree} → Bodied at free xs o → Plain xs o (ABody at free)
bodied h = goes-as h (λ t ys m. m.0) (λ rest q. q)

-- Where the tokens begin with a number that touches a `-` before them and is raised to no power, they are such with the `-` too.
abbrev pub Signs : Rel → List Token → List Token → Type 0
Signs D us zs = (m : Token) → Is shape.Minus m → IsBeforeNumber m us → ¬ IsRaised us → D (m ∷ us) zs

abbrev pub APrefixed : Bool → Rel
APrefixed free us zs = (t : Tree) × DerivesPrefixed free t us zs

abbrev pub AFront : Bool → Rel
AFront free us zs = APrefixed free us zs × Signs (APrefixed free) us zs

-- with a `-` in front they derive too
abbrev pub ANegated : Bool → Rel
ANegated free us zs = ALevel 9 free us zs × ((m : Token) → Is shape.Minus m → ALevel 9 free (m ∷ us) zs)

-- ---- with a tree that is a `begin` only where another is

-- the flag says whether the other is
abbrev pub Like : Bool → Tree → Type 0
Like begins t = begins ≡ false → is_begin t ≡ false

abbrev pub LikeSimple : Bool → Bool → Bool → Rel
LikeSimple constants free begins us zs = (t : Tree) × DerivesSimple constants free t us zs × Like begins t

abbrev pub LikeValue : Bool → Bool → Bool → Rel
LikeValue constants free begins us zs = (t : Tree) × DerivesValue constants free t us zs × Like begins t

abbrev pub LikeTerm : Bool → Bool → Rel
LikeTerm free begins us zs = (t : Tree) × DerivesTerm free t us zs × Like begins t

abbrev pub LikeLevel : ℕ → Bool → Bool → Rel
LikeLevel level free begins us zs = (t : Tree) × DerivesLevel level free t us zs × Like begins t

abbrev pub LikeFront : Bool → Bool → Rel
LikeFront free begins us zs = ((t : Tree) × DerivesPrefixed free t us zs × Like begins t) × Signs (APrefixed free) us zs

abbrev pub LikeNegated : Bool → Bool → Rel
LikeNegated free begins us zs = LikeLevel 9 free begins us zs × ((m : Token) → Is shape.Minus m → ALevel 9 free (m ∷ us) zs)

abbrev pub LikeOperand : Bool → Bool → Token → Rel
LikeOperand free begins last us zs = (p : Tree) × (ss : List (Suffix Tree)) × DerivesOperand free p ss last us zs × Like begins (posted p ss)

abbrev pub LikePrimary : Bool → Bool → Token → Rel
LikePrimary free begins last us zs = (p : Tree) × DerivesPrimary free p last us zs × Like begins p

-- what is read has a tree that is a `begin` only where the one that is answered is
abbrev pub Liking : List Token → Outcome Tree → (Bool → Rel) → Type 0
Liking all o D = Goes o (λ t ys. Reach all ys (D (is_begin t))) (λ rest. Completes all rest (D true))

pub liking : {all : List Token} {o : Outcome Tree} {D : Bool → Rel} {E : Rel} → Liking all o D → ((begins : Bool) (us zs : List Token) → D begins us zs → E us zs) → Plain all o E
liking h k = goes-as h (λ t ys r. reach-as r (k (is_begin t))) (λ rest q. complete-as q (k true))

pub like-any : (t : Tree) → Like true t
like-any t e = absurd (cc)

abbrev pub AnOperand : Bool → Token → Rel
AnOperand free last us zs = (p : Tree) × (ss : List (Suffix Tree)) × DerivesOperand free p ss last us zs

abbrev pub APrimary : Bool → Token → Rel
APrimary free last us zs = (p : Tree) × DerivesPrimary free p last us zs

abbrev pub SPrimary : Bool → Token → Rel
SPrimary free last us zs = APrimary free last us zs × Signs (APrimary free last) us zs

-- what an operand that ends so may be used as
abbrev pub Uses : Ending → Bool → Rel
Uses ending.Name free us zs = ((constants : Bool) → ATarget constants free us zs) × ACallee free us zs
Uses ending.Target free us zs = (constants : Bool) → ATarget constants free us zs
Uses ending.Callee free us zs = ACallee free us zs
Uses ending.Constant free us zs = ATarget true free us zs
Uses ending.Other free us zs = Unit {0}

pub ends-so : (t : Tree) (r : Node-F Node Tree) → roll-Node r ≡ t.node → ending_of t ≡ ending_at r
unfolding ending_of
ends-so t r e = ap (λ u. ending_at (out-Node u)) (sym e) ∙ ap (λ q. ending_at q) (out-roll-Node r)

-- ---- the simplest of each form

-- what derives at a level derives at each looser one
pub looser : (base k : ℕ) {free : Bool} {t : Tree} {xs ys : List Token} → k ≤ base → base ≤ 9 → DerivesLevel base free t xs ys → DerivesLevel k free t xs ys
looser zero k {free} {t} {xs} {ys} le top d = let e : zero ≡ k = omega arith in subst (λ n. DerivesLevel n free t xs ys) e d
looser (suc base) k {free} {t} {xs} {ys} le top d = ⊎_elim
    (λ e. subst (λ n. DerivesLevel n free t xs ys) (sym e) d)
    (λ less. looser base k less (let h : base ≤ 9 = omega arith in h) (Tighter _ _ _ _ _ (let h : base < 9 = omega arith in h) d))
    (split k base le)
  where
    split : (k base : ℕ) → k ≤ suc base → (k ≡ suc base) ⊎ (k ≤ base)
    split k base le = grind arith

pub negated-term : {free : Bool} {us zs : List Token} → ALevel 9 free us zs → ATerm free us zs
negated-term h = (h.0, Operated _ _ _ _ (looser 9 0 (omega arith) (omega arith) h.1))

abbrev a-name : Token
a-name = new_token (kind.Identifier [])

pub name-stands : Stands (One shape.Identifier)
unfolding shape_of
name-stands = one-stands (kind.Identifier []) shape.Identifier refl (λ zs. refl)

pub primary-stands : (free : Bool) → Stands (λ us zs. (last : Token) × APrimary free last us zs)
unfolding shape_of
primary-stands free zs c = record { whole = a-name ∷ zs; clear = refl; derives = (a-name, (_, NameAlone _ _ [] _ refl)) }

pub prefixed-stands : (free : Bool) → Stands (APrefixed free)
prefixed-stands free = stands-as (primary-stands free) (λ us zs p. (_, Posted _ _ _ _ _ _ (Bare _ _ _ _ _ p.1.1)))

name-no-number : (m : Token) (zs : List Token) → ¬ IsBeforeNumber m (a-name ∷ zs)
unfolding shape_of
name-no-number m zs (inl e, t) = let e : shape.Identifier ≡ shape.Whole = e in absurd (cc)
name-no-number m zs (inr (inl e), t) = let e : shape.Identifier ≡ shape.Float = e in absurd (cc)
name-no-number m zs (inr (inr h), t) = absurd h

a-name-derives : (free : Bool) (zs : List Token) → APrimary free a-name (a-name ∷ zs) zs
a-name-derives free zs = (_, NameAlone _ _ [] _ refl)

pub signed-stands : (free : Bool) → Stands (λ us zs. (last : Token) × SPrimary free last us zs)
unfolding shape_of
signed-stands free zs c = record { whole = a-name ∷ zs; clear = refl; derives = (a-name, (a-name-derives free zs, λ m is before raised. absurd (name-no-number m zs before))) }

pub front-stands : (free : Bool) → Stands (AFront free)
unfolding shape_of
front-stands free zs c = record { whole = a-name ∷ zs; clear = refl; derives = ((_, Posted _ _ _ _ _ _ (Bare _ _ _ _ _ (a-name-derives free zs).1)), λ m is before raised. absurd (name-no-number m zs before)) }

pub level-stands : (level : ℕ) → level ≤ 9 → (free : Bool) → Stands (ALevel level free)
level-stands level low free = stands-as (prefixed-stands free) (λ us zs p. (p.0, looser 9 level low (omega arith) (Plainly _ _ _ _ p.1)))

pub negated-stands : (free : Bool) → Stands (ANegated free)
unfolding shape_of
negated-stands free zs c = record { whole = a-name ∷ zs; clear = refl; derives = (plain, λ m is. (_, Negated _ _ _ _ _ is (inl (name-no-number m zs)) plain.1)) }
  where
    plain : ALevel 9 free (a-name ∷ zs) zs
    plain = (_, Plainly _ _ _ _ (Posted _ _ _ _ _ _ (Bare _ _ _ _ _ (a-name-derives free zs).1)))

pub term-stands : (free : Bool) → Stands (ATerm free)
term-stands free = stands-as (level-stands 0 (omega arith) free) (λ us zs p. (_, Operated _ _ _ _ p.1))

pub value-stands : (constants free : Bool) → Stands (AValue constants free)
value-stands constants free = stands-as (term-stands free) (λ us zs p. (_, Term _ _ _ _ _ p.1))

pub simple-stands : (constants free : Bool) → Stands (ASimple constants free)
simple-stands constants free = stands-as (value-stands constants free) (λ us zs p. (_, Valued _ _ _ _ _ p.1))

pub statement-stands : (at : Site) (free : Bool) → Stands (AStatement at free)
statement-stands at free = stands-as (simple-stands _ free) (λ us zs p. (_, Simply _ _ _ _ _ _ _ p.1 (Unmodified _ _ _)))

pub body-stands : (at : Site) (free : Bool) → Stands (ABody at free)
body-stands at free zs c = record { whole = zs; clear = c; derives = (_, NoStatement _ _ _ _ (Closed _)) }

-- ---- what nests

pub record Viable (nested : Form → Bool → Parser Tree) : Type 0 where
  pub body : (free : Bool) (xs : List Token) → Bodied Inside free xs (nested form.Body free xs)
  pub simple : (free : Bool) (xs : List Token) → Plain xs (nested form.Simple free xs) (ASimple false free)
  pub value : (free : Bool) (xs : List Token) → Plain xs (nested form.Value free xs) (AValue false free)
  pub term : (free : Bool) (xs : List Token) → Plain xs (nested form.Tern free xs) (ATerm free)
  pub level : (level : ℕ) → level ≤ 9 → (free : Bool) (xs : List Token) → Plain xs (nested (form.Operation (suc level)) free xs) (ALevel level free)
  pub negated : (free : Bool) (xs : List Token) → Plain xs (nested form.Negated free xs) (ANegated free)
  pub prefixed : (free : Bool) (xs : List Token) → Plain xs (nested form.Prefixed free xs) (AFront free)
