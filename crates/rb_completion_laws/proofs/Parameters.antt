-- Parameters that are begun can be completed, in their order and each name once.
use Rattle.std.proofs.Common.{◌≡◌, ℕ, zero, suc, Bool, true, false, not, if◌then◌else◌, List, [], ◌∷◌, ◌++◌, Some, None, Ok, Err, inl, inr, refl, sym, ap, subst, ◌∙◌}
use Rattle.srb_terms.specs.declared.param_kind.ParamKind.{ParamKind}
use Rattle.srb_terms.specs.declared.param_kind.ParamKind.TheVariants as param_kind
use Rattle.srb_terms.specs.declared.span.Span.{Span}
use Rattle.rb_tree.specs.Tokens.{shape_of, same_shape}
use Rattle.rb_tree.specs.declared.syntax.Tree.{Tree}
use Rattle.rb_tree.specs.declared.syntax.Parameter.{Parameter}
use Rattle.rb_tree.specs.declared.token.Token.{Token}
use Rattle.rb_tree.specs.declared.token.TokenKind.{TokenKind}
use Rattle.rb_tree.specs.declared.token.TokenKind.TheVariants as kind
use Rattle.rb_tree.specs.declared.token.Shape.TheVariants as shape
use Rattle.rb_expr.specs.Reading.{Outcome, sees, after, skip_separators}
use Rattle.rb_decl.specs.declared.parameter.Stage.{Stage}
use Rattle.rb_decl.specs.declared.parameter.Stage.TheVariants as stage
use Rattle.rb_decl.specs.Parameters as spec
use Rattle.rb_decl.specs.Parameters.{parameter_of, stage_after, is_among, fresh, noted, is_plain, is_first, is_last, plain, has_no_default, keyword, block, after_comma, is_over, row_from, row, bracketed, bare, parameters_of}
use Rattle.rb_rules.specs.Tokens.{Is, IsIdentifier, IsLabel}
use Rattle.rb_rules.specs.Forms.{AreParameters, AreKinds, AreOptionalKinds, AreKeyKinds, kinds_of, IsNot, AreDistinct, names_of_parameters}
use Rattle.rb_rules.specs.Grammar.{Gap, GapIn, DerivesParameter, DerivesParameterList, DerivesParameters}
use Rattle.rb_rules.specs.Grammar.GapIn.{Tight, Loose}
use Rattle.rb_rules.specs.Grammar.DerivesParameter.{Required, Optional, RequiredKeyword, OptionalKeyword, BlockParameter}
use Rattle.rb_rules.specs.Grammar.DerivesParameterList.{LastParameter, MoreParameters}
use Rattle.rb_rules.specs.Grammar.DerivesParameters.{NoParameters, OpenParameters, EmptyParens, InBrackets}
use Rattle.rb_grammar.proofs.Steps.{same, seen}
use Rattle.rb_grammar.proofs.Lists.{or-left, or-right, apart, noted-new}
use Rattle.rb_grammar.proofs.Parameters.{Links}
use Rattle.rb_completion_laws.proofs.Steps.{Rel, Reach, Completes, Stands, Seq, stands-as, seq-stands, reach-as, reach-self, reach-more, reach-this, reach-one, reach-token, complete-as, complete-then, complete-after, complete-new, complete-token, gap-stands, Goes, bind, goes-as, choosing, Plain, plainly, seq, refusing, answering, headed, One, new_token, one-stands, expecting, gap, parted, before-one}
use Rattle.rb_completion_laws.proofs.Viable.{ATerm, term-stands}
use Rattle.rb_completion_laws.proofs.Branches.{separator-stands}
use Rattle.rb_completion_laws.proofs.Lists.{paren-one}
use Rattle.rb_completion_laws.proofs.Fresh.{new_name, new-name}
use Rattle.rb_completion_laws.proofs.Forms.{a-term-goes}

-- ---- orders and names

-- a parameter of this kind may come at a stage
abbrev Comes : ParamKind → Stage → Type 0
Comes param_kind.Required at = is_first at ≡ true
Comes param_kind.Optional at = is_plain at ≡ true
Comes param_kind.Rest at = ⊥
Comes k at = Unit {0}

abbrev InOrder : Stage → List ParamKind → Type 0
InOrder stage.Required ks = AreKinds ks
InOrder stage.Optional ks = AreOptionalKinds ks
InOrder stage.Keyword ks = AreKeyKinds ks
InOrder stage.Block ks = Unit {0}

last-in-order : (at : Stage) (k : ParamKind) → Comes k at → InOrder at (k ∷ [])
last-in-order stage.Required param_kind.Required h = tt
last-in-order stage.Optional param_kind.Required h = absurd (cc)
last-in-order stage.Keyword param_kind.Required h = absurd (cc)
last-in-order stage.Required param_kind.Optional h = tt
last-in-order stage.Optional param_kind.Optional h = tt
last-in-order stage.Keyword param_kind.Optional h = absurd (cc)
last-in-order stage.Required param_kind.Key h = tt
last-in-order stage.Optional param_kind.Key h = tt
last-in-order stage.Keyword param_kind.Key h = tt
last-in-order stage.Required param_kind.KeyOptional h = tt
last-in-order stage.Optional param_kind.KeyOptional h = tt
last-in-order stage.Keyword param_kind.KeyOptional h = tt
last-in-order stage.Required param_kind.Block h = tt
last-in-order stage.Optional param_kind.Block h = tt
last-in-order stage.Keyword param_kind.Block h = tt
last-in-order stage.Required param_kind.Rest h = absurd h
last-in-order stage.Optional param_kind.Rest h = absurd h
last-in-order stage.Keyword param_kind.Rest h = absurd h
last-in-order stage.Block k h = tt

more-in-order : (at : Stage) (k : ParamKind) (more : List ParamKind) → Comes k at → is_last (stage_after k) ≡ false → InOrder (stage_after k) more → InOrder at (k ∷ more)
more-in-order stage.Required param_kind.Required more h l o = o
more-in-order stage.Optional param_kind.Required more h l o = absurd (cc)
more-in-order stage.Keyword param_kind.Required more h l o = absurd (cc)
more-in-order stage.Required param_kind.Optional more h l o = o
more-in-order stage.Optional param_kind.Optional more h l o = o
more-in-order stage.Keyword param_kind.Optional more h l o = absurd (cc)
more-in-order stage.Required param_kind.Key more h l o = o
more-in-order stage.Optional param_kind.Key more h l o = o
more-in-order stage.Keyword param_kind.Key more h l o = o
more-in-order stage.Required param_kind.KeyOptional more h l o = o
more-in-order stage.Optional param_kind.KeyOptional more h l o = o
more-in-order stage.Keyword param_kind.KeyOptional more h l o = o
more-in-order stage.Required param_kind.Block more h l o = absurd (cc)
more-in-order stage.Optional param_kind.Block more h l o = absurd (cc)
more-in-order stage.Keyword param_kind.Block more h l o = absurd (cc)
more-in-order stage.Required param_kind.Rest more h l o = absurd h
more-in-order stage.Optional param_kind.Rest more h l o = absurd h
more-in-order stage.Keyword param_kind.Rest more h l o = absurd h
more-in-order stage.Block k more h l o = tt

-- none of these parameters has one of these names
abbrev Fresh : List (List ℕ) → List (Parameter Tree) → Type 0
Fresh names [] = Unit {0}
Fresh names (p ∷ more) = (is_among names p.name ≡ false) × Fresh names more

apart-all : (names : List (List ℕ)) (w : List ℕ) (more : List (Parameter Tree)) → Fresh (names ++ w ∷ []) more → Fresh names more × IsNot w (names_of_parameters more)
apart-all names w [] h = (tt, tt)
apart-all names w (p ∷ more) h = let here = apart names w p.name h.0 in let rest = apart-all names w more h.1 in ((here.0, rest.0), (here.1, rest.1))

-- ---- one parameter

abbrev SomeParameter : Stage → List (List ℕ) → Rel
SomeParameter at names us zs = (q : Parameter Tree) × DerivesParameter q us zs × Comes q.kind at × (is_among names q.name ≡ false)

-- of the name and kind of this one
abbrev LikeParameter : Stage → List (List ℕ) → Parameter Tree → Rel
LikeParameter at names p us zs = (q : Parameter Tree) × DerivesParameter q us zs × Comes q.kind at × (is_among names q.name ≡ false) × (stage_after q.kind ≡ stage_after p.kind) × (q.name ≡ p.name)

abbrev Placed : Stage → List (List ℕ) → List Token → Outcome (Parameter Tree) → Type 0
Placed at names xs o = Goes o (λ p ys. Reach xs ys (LikeParameter at names p)) (λ rest. Completes xs rest (SomeParameter at names))

parameter-stands : (at : Stage) (names : List (List ℕ)) → Stands (SomeParameter at names)
unfolding shape_of
parameter-stands at names zs c = record { whole = new_token (kind.Label (new_name names)) ∷ zs; clear = refl; derives = (_, RequiredKeyword (new_token (kind.Label (new_name names))) (new_name names) _ refl, tt, new-name names) }

pub assign-one : Stands (One shape.Assign)
unfolding shape_of
assign-one = one-stands kind.Assign shape.Assign refl (λ zs. refl)

optional-made : (at : Stage) (names : List (List ℕ)) (t : Token) (w : List ℕ) → IsIdentifier t w → is_plain at ≡ true → is_among names w ≡ false → (us zs : List Token) → Seq (One shape.Assign) (ATerm true) us zs → SomeParameter at names (t ∷ us) zs
optional-made at names t w is p new us zs h = subst (λ v. SomeParameter at names (t ∷ v) zs) (sym h.first.2) (_, Optional _ _ _ _ _ _ is h.first.1 h.second.1, p, new)

optional-like : (at : Stage) (names : List (List ℕ)) (t : Token) (w : List ℕ) (v : Tree) (s : Span) → IsIdentifier t w → is_plain at ≡ true → is_among names w ≡ false → (us zs : List Token) → Seq (One shape.Assign) (ATerm true) us zs → LikeParameter at names (parameter_of param_kind.Optional w s (Some v)) (t ∷ us) zs
optional-like at names t w v s is p new us zs h = subst (λ u. LikeParameter at names (parameter_of param_kind.Optional w s (Some v)) (t ∷ u) zs) (sym h.first.2) (_, Optional _ _ _ _ _ _ is h.first.1 h.second.1, p, new, refl, refl)

-- the name alone
required-goes : (at : Stage) (names : List (List ℕ)) (t : Token) (w : List ℕ) (ts : List Token) → IsIdentifier t w → is_plain at ≡ true → is_among names w ≡ false → Placed at names (t ∷ ts) (if is_first at then Ok (parameter_of param_kind.Required w t.span None, ts) else Err ts)
required-goes at names t w ts is p new = choosing (is_first at)
    (λ e. record { told = reach-token t (reach-as (reach-self ts) (λ us zs h. subst (λ v. LikeParameter at names (parameter_of param_kind.Required w t.span None) (t ∷ us) v) h (_, Required _ _ _ is, e, new, refl, refl))) })
    (λ e. record { told = complete-token t (complete-as (complete-new ts (seq-stands assign-one (term-stands true))) (optional-made at names t w is p new)) })

plain-goes : (d : ℕ) (at : Stage) (names : List (List ℕ)) (t : Token) (w : List ℕ) (ts : List Token) → IsIdentifier t w → is_plain at ≡ true → is_among names w ≡ false → Placed at names (t ∷ ts) (plain d at w t.span ts)
unfolding plain
plain-goes d at names t w [] is p new = required-goes at names t w [] is p new
plain-goes d at names t w (a ∷ as') is p new = choosing (same_shape (shape_of a.kind) shape.Assign)
    (λ e. let one = reach-one shape.Assign a as' (same _ _ e) in
    bind (a-term-goes d as') (λ rest q. complete-token t (complete-as (complete-after one q) (optional-made at names t w is p new)))
    (λ v ys m. record { told = reach-token t (reach-as (reach-more one m) (optional-like at names t w v t.span is p new)) }))
    (λ e. required-goes at names t w (a ∷ as') is p new)

keyword-goes : (d : ℕ) (at : Stage) (names : List (List ℕ)) (t : Token) (w : List ℕ) (ts : List Token) → IsLabel t w → is_among names w ≡ false → Placed at names (t ∷ ts) (keyword d w t.span ts)
unfolding keyword
keyword-goes d at names t w ts is new = choosing (has_no_default ts)
    (λ e. record { told = reach-token t (reach-as (reach-self ts) (λ us zs h. subst (λ v. LikeParameter at names (parameter_of param_kind.Key w t.span None) (t ∷ us) v) h (_, RequiredKeyword _ _ _ is, tt, new, refl, refl))) })
    (λ e. bind (a-term-goes d ts) (λ rest q. complete-token t (complete-as q (λ us zs h. (_, OptionalKeyword _ _ _ _ _ is h.1, tt, new))))
    (λ v ys m. record { told = reach-token t (reach-as m (λ us zs h. (_, OptionalKeyword _ _ _ _ _ is h.1, tt, new, refl, refl))) }))

-- a choice by whether a name is new
new-or-not : {A : Type 0} {Q : A → List Token → Type 0} {F : List Token → Type 0} (names : List (List ℕ)) (w : List ℕ) (f : List ℕ → Outcome A) (old : Outcome A) → (is_among names w ≡ false → Goes (f w) Q F) → Goes old Q F → Goes (elim (fresh names w) as (λ o. Outcome A) [ Some name ↦ f name | None ↦ old ]) Q F
unfolding fresh
new-or-not {A = A} {Q = Q} {F = F} names w f old k l = go (is_among names w) refl
  where
    go : (b : Bool) → is_among names w ≡ b → Goes {A = A} (elim (if b then None else Some w) as (λ o. Outcome A) [ Some name ↦ f name | None ↦ old ]) Q F
    go true e = l
    go false e = k e

-- a name after `&`
abbrev NewIdentifier : List (List ℕ) → Rel
NewIdentifier names us zs = (t : Token) × (w : List ℕ) × IsIdentifier t w × (us ≡ t ∷ zs) × (is_among names w ≡ false)

identifier-stands : (names : List (List ℕ)) → Stands (NewIdentifier names)
unfolding shape_of
identifier-stands names zs c = record { whole = new_token (kind.Identifier (new_name names)) ∷ zs; clear = refl; derives = (new_token (kind.Identifier (new_name names)), new_name names, refl, refl, new-name names) }

block-complete : (at : Stage) (names : List (List ℕ)) (a : Token) → Is shape.Ampersand a → (ts : List Token) → Completes (a ∷ ts) ts (SomeParameter at names)
block-complete at names a is ts = complete-token a (complete-as (complete-new ts (identifier-stands names)) (λ us zs h. subst (λ v. SomeParameter at names (a ∷ v) zs) (sym h.3) (_, BlockParameter _ _ _ _ is h.2, tt, h.4)))

block-at : (at : Stage) (names : List (List ℕ)) (a : Token) → Is shape.Ampersand a → (k : TokenKind) (s : Span) (ts : List Token) → Placed at names (a ∷ record { kind = k; span = s } ∷ ts) (block names (record { kind = k; span = s } ∷ ts))
unfolding block
block-at at names a is (kind.Identifier w) s ts = new-or-not names w (λ name. Ok (parameter_of param_kind.Block name s None, ts)) (Err (record { kind = kind.Identifier w; span = s } ∷ ts))
    (λ new. record { told = reach-token a (reach-as (reach-this (record { kind = kind.Identifier w; span = s }) ts) (λ us zs h. subst (λ v. LikeParameter at names (parameter_of param_kind.Block w s None) (a ∷ v) zs) (sym h) (_, BlockParameter _ _ _ _ is refl, tt, new, refl, refl))) })
    (record { told = block-complete at names a is (record { kind = kind.Identifier w; span = s } ∷ ts) })
block-at at names a is k s ts = record { told = block-complete at names a is (record { kind = k; span = s } ∷ ts) }

block-goes : (at : Stage) (names : List (List ℕ)) (a : Token) → Is shape.Ampersand a → (ts : List Token) → Placed at names (a ∷ ts) (block names ts)
unfolding block
block-goes at names a is [] = record { told = block-complete at names a is [] }
block-goes at names a is (t ∷ ts) = block-at at names a is t.kind t.span ts

parameter-at : (d : ℕ) (at : Stage) (names : List (List ℕ)) (k : TokenKind) (s : Span) (ts : List Token) → Placed at names (record { kind = k; span = s } ∷ ts) (spec.parameter d at names (record { kind = k; span = s } ∷ ts))
unfolding spec.parameter shape_of
parameter-at d at names (kind.Identifier w) s ts = choosing (is_plain at)
    (λ p. new-or-not names w (λ name. plain d at name s ts) (Err (record { kind = kind.Identifier w; span = s } ∷ ts))
    (λ new. plain-goes d at names (record { kind = kind.Identifier w; span = s }) w ts refl p new) (refusing _ (parameter-stands at names)))
    (λ p. refusing _ (parameter-stands at names))
parameter-at d at names (kind.Label w) s ts = new-or-not names w (λ name. keyword d name s ts) (Err (record { kind = kind.Label w; span = s } ∷ ts))
    (λ new. keyword-goes d at names (record { kind = kind.Label w; span = s }) w ts refl new) (refusing _ (parameter-stands at names))
parameter-at d at names kind.Ampersand s ts = block-goes at names (record { kind = kind.Ampersand; span = s }) refl ts
parameter-at d at names k s ts = refusing _ (parameter-stands at names)

parameter-goes : (d : ℕ) (at : Stage) (names : List (List ℕ)) (xs : List Token) → Placed at names xs (spec.parameter d at names xs)
unfolding spec.parameter
parameter-goes d at names [] = refusing [] (parameter-stands at names)
parameter-goes d at names (t ∷ ts) = parameter-at d at names t.kind t.span ts

-- ---- rows

abbrev Row : Bool → Stage → List (List ℕ) → Rel
Row bracketed at names us zs = (p : Parameter Tree) × (more : List (Parameter Tree)) × DerivesParameterList bracketed (p ∷ more) us zs × InOrder at (kinds_of (p ∷ more)) × Fresh names (p ∷ more) × AreDistinct (names_of_parameters (p ∷ more))

one-row : (bracketed : Bool) (at : Stage) (names : List (List ℕ)) (us zs : List Token) → SomeParameter at names us zs → Row bracketed at names us zs
one-row bracketed at names us zs h = (h.0, [], LastParameter _ _ _ _ h.1, last-in-order at h.0.kind h.2, (h.3, tt), (tt, tt))

row-stands : (bracketed : Bool) (at : Stage) (names : List (List ℕ)) → Stands (Row bracketed at names)
row-stands bracketed at names = stands-as (parameter-stands at names) (one-row bracketed at names)

gap-in : (b : Bool) (xs : List Token) → Reach xs (if b then skip_separators xs else xs) (GapIn b)
gap-in true xs = reach-as (gap xs) (λ us zs g. Loose _ _ g)
gap-in false xs = reach-as (reach-self xs) (λ us zs e. subst (λ v. GapIn false us v) e (Tight us))

going-on : (at : Stage) (xs : List Token) → is_over at xs ≡ false → (is_last at ≡ false) × (sees shape.Comma xs ≡ true)
going-on at xs e = (or-left _ _ e, seen' (sees shape.Comma xs) (or-right (is_last at) _ e))
  where
    seen' : (b : Bool) → not b ≡ false → b ≡ true
    seen' true e = refl
    seen' false e = absurd (cc)

more-row : (bracketed : Bool) (at : Stage) (names : List (List ℕ)) (p : Parameter Tree) → is_last (stage_after p.kind) ≡ false → (us zs : List Token) →
    Seq (Seq (Seq (LikeParameter at names p) (One shape.Comma)) (GapIn bracketed)) (Row bracketed (stage_after p.kind) (noted names p.name)) us zs → Row bracketed at names us zs
more-row bracketed at names p last us zs h =
    let d = before-one h.first.first in
    let q = d.0 in
    let m = h.second in
    let names' : noted names p.name ≡ names ++ q.name ∷ [] = ap (noted names) (sym d.5) ∙ noted-new names q.name d.3 in
    let parts = apart-all names q.name (m.0 ∷ m.1) (subst (λ ns. Fresh ns (m.0 ∷ m.1)) names' m.4) in (
      q,
      m.0 ∷ m.1,
      MoreParameters _ _ _ _ _ _ _ _ d.1 h.first.first.second.1 h.first.second m.2,
      more-in-order at q.kind (kinds_of (m.0 ∷ m.1)) d.2 (ap is_last d.4 ∙ last) (subst (λ s. InOrder s (kinds_of (m.0 ∷ m.1))) (sym d.4) m.3),
      (d.3, parts.0),
      (parts.1, m.5),
    )

comma-next : {D : Rel} (xs ps : List Token) → Reach xs ps D → sees shape.Comma ps ≡ true → Reach xs (after ps) (Seq D (One shape.Comma))
comma-next {D = D} xs ps r e = let s = seen shape.Comma ps e in reach-more r (subst (λ v. Reach v (after ps) (One shape.Comma)) (sym s.2) (reach-one shape.Comma s.0 (after ps) s.1))

row-by : (d : ℕ) (bracketed : Bool) (n : ℕ) (at : Stage) (names : List (List ℕ)) (found : List (Parameter Tree)) (xs : List Token) → Plain xs (row_from d bracketed n at names found xs) (Row bracketed at names)
unfolding row_from
row-by d bracketed zero at names found xs = refusing xs (row-stands bracketed at names)
row-by d bracketed (suc n) at names found xs = bind (parameter-goes d at names xs) (λ rest q. complete-as q (one-row bracketed at names)) (λ p ps r. choosing (is_over (stage_after p.kind) ps)
    (λ e. record { told = reach-as r (λ us zs h. one-row bracketed at names us zs (h.0, h.1, h.2, h.3)) })
    (λ e. let on = going-on (stage_after p.kind) ps e in
    let rc = reach-more (comma-next xs ps r on.1) (gap-in bracketed (after ps)) in
    goes-as (row-by d bracketed n (stage_after p.kind) (noted names p.name) (found ++ p ∷ []) (after_comma bracketed ps))
    (λ t ys m. reach-as (reach-more rc m) (more-row bracketed at names p on.0)) (λ rest q. complete-as (complete-after rc q) (more-row bracketed at names p on.0))))

row-goes : (d : ℕ) (bracketed : Bool) (xs : List Token) → Plain xs (row d bracketed xs) (Row bracketed stage.Required [])
unfolding row
row-goes d bracketed xs = row-by d bracketed d stage.Required [] [] xs

-- ---- all parameters

abbrev pub Parameters : Rel
Parameters us zs = (ps : List (Parameter Tree)) × DerivesParameters ps us zs × AreParameters ps × AreDistinct (names_of_parameters ps)

-- The body stands after these. The parser may leave the separator before it.
abbrev pub Reading : List Token → List Token → Type 0
Reading xs ys = (ws : List Token) × Links ws ys × Reach xs ws Parameters

-- without brackets
open-made : (us zs : List Token) → Seq (Row false stage.Required []) (One shape.Separator) us zs → Parameters us zs
open-made us zs h = let d = before-one h in (d.0 ∷ d.1, OpenParameters _ _ _ _ _ d.2 h.second.1, d.3, d.5)

none-made : (us zs : List Token) → One shape.Separator us zs → Parameters us zs
none-made us zs h = subst (λ v. Parameters v zs) (sym h.2) ([], NoParameters _ _ h.1, tt, tt)

pub parameters-stand : Stands Parameters
parameters-stand = stands-as separator-stands none-made

separated : {D : Rel} (xs ps : List Token) → Reach xs ps D → sees shape.Separator ps ≡ true → Reach xs (after ps) (Seq D (One shape.Separator)) × Links (after ps) ps
separated {D = D} xs ps r e = let s = seen shape.Separator ps e in (reach-more r (subst (λ v. Reach v (after ps) (One shape.Separator)) (sym s.2) (reach-one shape.Separator s.0 (after ps) s.1)), inr (s.0, s.1, s.2))

abbrev pub Parametric : List Token → Outcome (List (Parameter Tree)) → Type 0
Parametric xs o = Goes o (λ ps ys. Reading xs ys) (λ rest. Completes xs rest Parameters)

bare-goes : (d : ℕ) (xs : List Token) → Parametric xs (bare d xs)
unfolding bare
bare-goes d xs = choosing (sees shape.Separator xs)
    (λ e. let s = separated xs xs (reach-self xs) e in record { told = (after xs, s.1, reach-as s.0 (λ us zs h. subst (λ v. Parameters v zs) (sym h.first) (none-made h.mid zs h.second))) })
    (λ e. bind (row-goes d false xs) (λ rest q. complete-as (complete-then q separator-stands) open-made) (λ found ps r. choosing (sees shape.Separator ps)
    (λ e. let s = separated xs ps r e in record { told = (after ps, s.1, reach-as s.0 open-made) })
    (λ e. record { told = complete-as (complete-after r (complete-new ps separator-stands)) open-made })))

-- in brackets
brackets-made : (o : Token) → Is shape.OpenParen o → (us zs : List Token) → Seq Gap (Seq (Row true stage.Required []) (Seq Gap (One shape.CloseParen))) us zs → Parameters (o ∷ us) zs
brackets-made o is us zs h = let m = h.second.first in let c = before-one h.second.second in (m.0 ∷ m.1, InBrackets _ _ _ _ _ _ _ _ is h.first m.2 c h.second.second.second.1, m.3, m.5)

empty-made : (o : Token) → Is shape.OpenParen o → (us zs : List Token) → Seq Gap (One shape.CloseParen) us zs → Parameters (o ∷ us) zs
empty-made o is us zs h = ([], EmptyParens _ _ _ _ is (before-one h) h.second.1, tt, tt)

at-self : {A : Type 0} {xs : List Token} {o : Outcome A} → Plain xs o Parameters → Goes o (λ ps ys. Reading xs ys) (λ rest. Completes xs rest Parameters)
at-self h = goes-as h (λ a ys r. (ys, inl refl, r)) (λ rest q. q)

bracketed-goes : (d : ℕ) (o : Token) (os : List Token) → Is shape.OpenParen o → Parametric (o ∷ os) (bracketed d (skip_separators os))
unfolding bracketed
bracketed-goes d o os is = choosing (sees shape.CloseParen (skip_separators os))
    (λ e. let s = seen shape.CloseParen (skip_separators os) e in
    let one = reach-more (gap os) (subst (λ v. Reach v (after (skip_separators os)) (One shape.CloseParen)) (sym s.2) (reach-one shape.CloseParen s.0 (after (skip_separators os)) s.1)) in
    record { told = (after (skip_separators os), inl refl, reach-token o (reach-as one (empty-made o is))) })
    (λ e. at-self (headed o (plainly (parted (seq (row-goes d true (skip_separators os)) (seq-stands gap-stands paren-one) (λ found qs. parted (answering _ (expecting shape.CloseParen paren-one (skip_separators qs)))))) (brackets-made o is))))

pub parameters-go : (d : ℕ) (xs : List Token) → Parametric xs (parameters_of d xs)
unfolding parameters_of
parameters-go d [] = bare-goes d []
parameters-go d (t ∷ ts) = choosing (same_shape (shape_of t.kind) shape.OpenParen)
    (λ e. bracketed-goes d t ts (same _ _ e))
    (λ e. bare-goes d (t ∷ ts))
