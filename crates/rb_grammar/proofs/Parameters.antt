-- Parameters that are read derive, in their order and each name once.
use Rattle.std.proofs.Common.{◌≡◌, ℕ, zero, suc, Bool, true, false, not, if◌then◌else◌, List, [], ◌∷◌, ◌++◌, Some, None, Ok, Err, ◌⊎◌, inl, inr, refl, sym, subst, ◌∙◌, append_assoc}
use Rattle.srb_terms.specs.declared.span.Span.{Span}
use Rattle.rb_tree.specs.Tokens.{shape_of}
use Rattle.rb_tree.specs.declared.syntax.Parameter.{Parameter}
use Rattle.srb_terms.specs.declared.param_kind.ParamKind.{ParamKind}
use Rattle.srb_terms.specs.declared.param_kind.ParamKind.TheVariants as param_kind
use Rattle.rb_tree.specs.declared.syntax.Tree.{Tree}
use Rattle.rb_tree.specs.declared.token.Token.{Token}
use Rattle.rb_tree.specs.declared.token.TokenKind.{TokenKind}
use Rattle.rb_tree.specs.declared.token.TokenKind.TheVariants as kind
use Rattle.rb_tree.specs.declared.token.Shape.TheVariants as shape
use Rattle.rb_expr.specs.Reading.{Outcome, sees, after, skip_separators}
use Rattle.rb_decl.specs.declared.parameter.Stage.{Stage}
use Rattle.rb_decl.specs.declared.parameter.Stage.TheVariants as stage
use Rattle.rb_decl.specs.Parameters as spec
use Rattle.rb_decl.specs.Parameters.{stage_after, is_among, fresh, noted, is_plain, is_first, is_last, plain, has_no_default, keyword, block, after_comma, is_over, row_from, row, bracketed, bare, parameters_of}
use Rattle.rb_rules.specs.Tokens.{Is, IsIdentifier, IsLabel}
use Rattle.rb_rules.specs.Forms.{AreParameters, AreKinds, AreOptionalKinds, AreKeyKinds, kinds_of, AreDistinct, IsNot, names_of_parameters}
use Rattle.rb_rules.specs.Grammar.{Gap, GapIn, DerivesParameter, DerivesParameterList, DerivesParameters}
use Rattle.rb_rules.specs.Grammar.GapIn.{Tight, Loose}
use Rattle.rb_rules.specs.Grammar.DerivesParameter.{Required, Optional, RequiredKeyword, OptionalKeyword, BlockParameter}
use Rattle.rb_rules.specs.Grammar.DerivesParameterList.{LastParameter, MoreParameters}
use Rattle.rb_rules.specs.Grammar.DerivesParameters.{NoParameters, OpenParameters, EmptyParens, InBrackets}
use Rattle.rb_grammar.proofs.Steps.{Holds, answered, refused, step, weaker, choosing, follow, testing, seen, Within, within-self, within-token, within-more, gap}
use Rattle.rb_grammar.proofs.Lists.{or-left, or-right, apart, noted-new}
use Rattle.rb_grammar.proofs.Forms.{term-holds}

-- ---- orders and names

-- a parameter of this kind may come at a stage
abbrev Fits : ParamKind → Stage → Type 0
Fits param_kind.Required at = is_first at ≡ true
Fits param_kind.Optional at = is_plain at ≡ true
Fits param_kind.Key at = Unit {0}
Fits param_kind.KeyOptional at = Unit {0}
Fits param_kind.Block at = Unit {0}
Fits param_kind.Rest at = ⊥

abbrev InOrder : Stage → List ParamKind → Type 0
InOrder stage.Required ks = AreKinds ks
InOrder stage.Optional ks = AreOptionalKinds ks
InOrder stage.Keyword ks = AreKeyKinds ks
InOrder stage.Block ks = Unit {0}

last-in-order : (at : Stage) (k : ParamKind) → Fits k at → InOrder at (k ∷ [])
last-in-order stage.Required param_kind.Required h = tt
last-in-order stage.Optional param_kind.Required h = absurd (cc)
last-in-order stage.Keyword param_kind.Required h = absurd (cc)
last-in-order stage.Required param_kind.Optional h = tt
last-in-order stage.Optional param_kind.Optional h = tt
last-in-order stage.Keyword param_kind.Optional h = absurd (cc)
last-in-order stage.Required param_kind.Key h = tt
last-in-order stage.Optional param_kind.Key h = tt
last-in-order stage.Keyword param_kind.Key h = tt
last-in-order stage.Required param_kind.KeyOptional h = tt
last-in-order stage.Optional param_kind.KeyOptional h = tt
last-in-order stage.Keyword param_kind.KeyOptional h = tt
last-in-order stage.Required param_kind.Block h = tt
last-in-order stage.Optional param_kind.Block h = tt
last-in-order stage.Keyword param_kind.Block h = tt
last-in-order stage.Block k h = tt
last-in-order at param_kind.Rest h = absurd h

more-in-order : (at : Stage) (k : ParamKind) (more : List ParamKind) → Fits k at → is_last (stage_after k) ≡ false → InOrder (stage_after k) more → InOrder at (k ∷ more)
more-in-order stage.Required param_kind.Required more h l o = o
more-in-order stage.Optional param_kind.Required more h l o = absurd (cc)
more-in-order stage.Keyword param_kind.Required more h l o = absurd (cc)
more-in-order stage.Required param_kind.Optional more h l o = o
more-in-order stage.Optional param_kind.Optional more h l o = o
more-in-order stage.Keyword param_kind.Optional more h l o = absurd (cc)
more-in-order stage.Required param_kind.Key more h l o = o
more-in-order stage.Optional param_kind.Key more h l o = o
more-in-order stage.Keyword param_kind.Key more h l o = o
more-in-order stage.Required param_kind.KeyOptional more h l o = o
more-in-order stage.Optional param_kind.KeyOptional more h l o = o
more-in-order stage.Keyword param_kind.KeyOptional more h l o = o
more-in-order stage.Required param_kind.Block more h l o = absurd (cc)
more-in-order stage.Optional param_kind.Block more h l o = absurd (cc)
more-in-order stage.Keyword param_kind.Block more h l o = absurd (cc)
more-in-order stage.Block k more h l o = tt
more-in-order at param_kind.Rest more h l o = absurd h

-- none of these parameters has one of these names
abbrev Fresh : List (List ℕ) → List (Parameter Tree) → Type 0
Fresh names [] = Unit {0}
Fresh names (p ∷ more) = (is_among names p.name ≡ false) × Fresh names more

apart-all : (names : List (List ℕ)) (w : List ℕ) (more : List (Parameter Tree)) → Fresh (names ++ w ∷ []) more → Fresh names more × IsNot w (names_of_parameters more)
apart-all names w [] h = (tt, tt)
apart-all names w (p ∷ more) h = let here = apart names w p.name h.0 in let rest = apart-all names w more h.1 in ((here.0, rest.0), (here.1, rest.1))

-- ---- one parameter

abbrev AParameter : Stage → List (List ℕ) → List Token → Parameter Tree → List Token → Type 0
AParameter at names xs p ys = DerivesParameter p xs ys × Within xs ys × Fits p.kind at × (is_among names p.name ≡ false)

plain-holds : (d : ℕ) (at : Stage) (names : List (List ℕ)) (t : Token) (w : List ℕ) (ts : List Token) → IsIdentifier t w → is_plain at ≡ true → is_among names w ≡ false → Holds (plain d at w t.span ts) (AParameter at names (t ∷ ts))
unfolding plain
plain-holds d at names t w [] is p new = choosing (is_first at)
    (λ e. answered (AParameter at names (t ∷ [])) (spec.parameter_of param_kind.Required w t.span None) [] (Required _ _ _ is, within-token t (within-self _), e, new))
    (λ e. refused _ _)
plain-holds d at names t w (a ∷ as') is p new = testing
    (λ assign. step (term-holds d as') (λ v ys h. answered (AParameter at names (t ∷ a ∷ as')) (spec.parameter_of param_kind.Optional w t.span (Some v)) ys (Optional _ _ _ _ _ _ is assign h.0, within-token t (within-token a h.1), p, new)))
    (λ other. choosing (is_first at)
    (λ e. answered (AParameter at names (t ∷ a ∷ as')) (spec.parameter_of param_kind.Required w t.span None) (a ∷ as') (Required _ _ _ is, within-token t (within-self _), e, new))
    (λ e. refused _ _))

keyword-holds : (d : ℕ) (at : Stage) (names : List (List ℕ)) (t : Token) (w : List ℕ) (ts : List Token) → IsLabel t w → is_among names w ≡ false → Holds (keyword d w t.span ts) (AParameter at names (t ∷ ts))
unfolding keyword
keyword-holds d at names t w ts is new = choosing (has_no_default ts)
    (λ e. answered (AParameter at names (t ∷ ts)) (spec.parameter_of param_kind.Key w t.span None) ts (RequiredKeyword _ _ _ is, within-token t (within-self _), tt, new))
    (λ e. step (term-holds d ts) (λ v ys h. answered (AParameter at names (t ∷ ts)) (spec.parameter_of param_kind.KeyOptional w t.span (Some v)) ys (OptionalKeyword _ _ _ _ _ is h.0, within-token t h.1, tt, new)))

-- a choice by whether a name is new
new-or-not : {A : Type 0} {Q : A → List Token → Type 0} (names : List (List ℕ)) (w : List ℕ) (f : List ℕ → Outcome A) (old : Outcome A) → (is_among names w ≡ false → Holds (f w) Q) → Holds old Q → Holds (elim (fresh names w) as (λ o. Outcome A) [ Some name ↦ f name | None ↦ old ]) Q
unfolding fresh
new-or-not {A} {Q} names w f old k l = go (is_among names w) refl
  where
    go : (b : Bool) → is_among names w ≡ b → Holds {A = A} (elim (if b then None else Some w) as (λ o. Outcome A) [ Some name ↦ f name | None ↦ old ]) Q
    go true e = l
    go false e = k e

block-at : (at : Stage) (names : List (List ℕ)) (a : Token) → Is shape.Ampersand a → (k : TokenKind) (s : Span) (ts : List Token) → Holds (block names (record { kind = k; span = s } ∷ ts)) (AParameter at names (a ∷ record { kind = k; span = s } ∷ ts))
unfolding block
block-at at names a is (kind.Identifier w) s ts = new-or-not names w (λ name. Ok (spec.parameter_of param_kind.Block name s None, ts)) (Err (record { kind = kind.Identifier w; span = s } ∷ ts))
    (λ new. answered (AParameter at names (a ∷ record { kind = kind.Identifier w; span = s } ∷ ts)) (spec.parameter_of param_kind.Block w s None) ts (BlockParameter _ _ _ _ is refl, within-token a (within-token _ (within-self _)), tt, new))
    (refused _ _)
block-at at names a is k s ts = refused _ _

block-holds : (at : Stage) (names : List (List ℕ)) (a : Token) → Is shape.Ampersand a → (ts : List Token) → Holds (block names ts) (AParameter at names (a ∷ ts))
unfolding block
block-holds at names a is [] = refused _ _
block-holds at names a is (t ∷ ts) = block-at at names a is t.kind t.span ts

parameter-at : (d : ℕ) (at : Stage) (names : List (List ℕ)) (k : TokenKind) (s : Span) (ts : List Token) → Holds (spec.parameter d at names (record { kind = k; span = s } ∷ ts)) (AParameter at names (record { kind = k; span = s } ∷ ts))
unfolding spec.parameter shape_of
parameter-at d at names (kind.Identifier w) s ts = choosing (is_plain at)
    (λ p. new-or-not names w (λ name. plain d at name s ts) (Err (record { kind = kind.Identifier w; span = s } ∷ ts))
    (λ new. plain-holds d at names (record { kind = kind.Identifier w; span = s }) w ts refl p new) (refused _ _))
    (λ p. refused _ _)
parameter-at d at names (kind.Label w) s ts = new-or-not names w (λ name. keyword d name s ts) (Err (record { kind = kind.Label w; span = s } ∷ ts))
    (λ new. keyword-holds d at names (record { kind = kind.Label w; span = s }) w ts refl new) (refused _ _)
parameter-at d at names kind.Ampersand s ts = block-holds at names (record { kind = kind.Ampersand; span = s }) refl ts
parameter-at d at names k s ts = refused _ _

parameter-holds : (d : ℕ) (at : Stage) (names : List (List ℕ)) (xs : List Token) → Holds (spec.parameter d at names xs) (AParameter at names xs)
unfolding spec.parameter
parameter-holds d at names [] = refused _ _
parameter-holds d at names (t ∷ ts) = parameter-at d at names t.kind t.span ts

-- ---- rows

abbrev Row : Bool → Stage → List (List ℕ) → List (Parameter Tree) → List Token → List (Parameter Tree) → List Token → Type 0
Row bracketed at names found xs r ys = (p : Parameter Tree) × (more : List (Parameter Tree)) × (r ≡ found ++ p ∷ more) × DerivesParameterList bracketed (p ∷ more) xs ys × InOrder at (kinds_of (p ∷ more))
    × Fresh names (p ∷ more) × AreDistinct (names_of_parameters (p ∷ more)) × Within xs ys

gap-in : (b : Bool) (ts : List Token) → GapIn b ts (if b then skip_separators ts else ts) × Within ts (if b then skip_separators ts else ts)
gap-in true ts = let g = gap ts in (Loose _ _ g.0, g.1)
gap-in false ts = (Tight _, within-self _)

going-on : (at : Stage) (xs : List Token) → is_over at xs ≡ false → (is_last at ≡ false) × (sees shape.Comma xs ≡ true)
going-on at xs e = (or-left _ _ e, seen' (sees shape.Comma xs) (or-right (is_last at) _ e))
  where
    seen' : (b : Bool) → not b ≡ false → b ≡ true
    seen' true e = refl
    seen' false e = absurd (cc)

row-more : (bracketed : Bool) (at : Stage) (names : List (List ℕ)) (found : List (Parameter Tree)) (xs ps : List Token) (p : Parameter Tree) → AParameter at names xs p ps → is_over (stage_after p.kind) ps ≡ false → (r : List (Parameter Tree)) (ys : List Token) →
    Row bracketed (stage_after p.kind) (noted names p.name) (found ++ p ∷ []) (after_comma bracketed ps) r ys → Row bracketed at names found xs r ys
row-more bracketed at names found xs ps p h over r ys m =
    let on = going-on (stage_after p.kind) ps over in
    let s = seen shape.Comma ps on.1 in
    let here = subst (λ us. DerivesParameter p xs us × Within xs us) s.2 (h.0, h.1) in
    let g = gap-in bracketed (after ps) in
    let names' : noted names p.name ≡ names ++ p.name ∷ [] = noted-new names p.name h.3 in
    let apart' = apart-all names p.name (m.0 ∷ m.1) (subst (λ ns. Fresh ns (m.0 ∷ m.1)) names' m.5) in (
      p,
      m.0 ∷ m.1,
      m.2 ∙ append_assoc found (p ∷ []) (m.0 ∷ m.1),
      MoreParameters _ _ _ _ _ _ _ _ here.0 s.1 g.0 m.3,
      more-in-order at p.kind (kinds_of (m.0 ∷ m.1)) h.2 on.0 m.4,
      (h.3, apart'.0),
      (apart'.1, m.6),
      within-more here.1 (within-token s.0 (within-more g.1 m.7)),
    )

row-by : (d : ℕ) (bracketed : Bool) (n : ℕ) (at : Stage) (names : List (List ℕ)) (found : List (Parameter Tree)) (xs : List Token) → Holds (row_from d bracketed n at names found xs) (Row bracketed at names found xs)
unfolding row_from
row-by d bracketed zero at names found xs = refused _ _
row-by d bracketed (suc n) at names found xs = step (parameter-holds d at names xs) (λ p ps h. choosing (is_over (stage_after p.kind) ps)
    (λ e. answered (Row bracketed at names found xs) (found ++ p ∷ []) ps (p, [], refl, LastParameter _ _ _ _ h.0, last-in-order at p.kind h.2, (h.3, tt), (tt, tt), h.1))
    (λ e. weaker (row-by d bracketed n (stage_after p.kind) (noted names p.name) (found ++ p ∷ []) (after_comma bracketed ps)) (λ r ys m. row-more bracketed at names found xs ps p h e r ys m)))

row-holds : (d : ℕ) (bracketed : Bool) (xs : List Token) → Holds (row d bracketed xs) (Row bracketed stage.Required [] [] xs)
unfolding row
row-holds d bracketed xs = row-by d bracketed d stage.Required [] [] xs

-- ---- all parameters

-- The body of the method stands after the first list. Before it the second may have one more separator.
abbrev pub Links : List Token → List Token → Type 0
Links zs ys = (ys ≡ zs) ⊎ ((s : Token) × Is shape.Separator s × (ys ≡ s ∷ zs))

abbrev pub Parameters : List Token → List (Parameter Tree) → List Token → Type 0
Parameters xs ps ys = (zs : List Token) × DerivesParameters ps xs zs × AreParameters ps × AreDistinct (names_of_parameters ps) × Links zs ys × Within xs ys

bracketed-holds : (d : ℕ) (o : Token) (os ps : List Token) → Is shape.OpenParen o → Gap os ps → Within os ps → Holds (bracketed d ps) (Parameters (o ∷ os))
unfolding bracketed
bracketed-holds d o os ps is g w = choosing (sees shape.CloseParen ps)
    (λ e. let s = seen shape.CloseParen ps e in
    let g' = subst (λ us. Gap os us × Within os us) s.2 (g, w) in
    answered (Parameters (o ∷ os)) [] (after ps) (after ps, EmptyParens _ _ _ _ is g'.0 s.1, tt, tt, inl refl, within-token o (within-more g'.1 (within-token s.0 (within-self _)))))
    (λ e. step (row-holds d true ps) (λ r qs m. follow shape.CloseParen (λ us. Gap qs us × Within qs us) _ _ _ (gap qs) (λ c ys closes h.
    answered (Parameters (o ∷ os)) r ys (subst (λ r. Parameters (o ∷ os) r ys) (sym m.2)
    (ys, InBrackets _ _ _ _ _ _ _ _ is g m.3 h.0 closes, m.4, m.6, inl refl, within-token o (within-more w (within-more m.7 (within-more h.1 (within-token c (within-self _))))))))))

bare-holds : (d : ℕ) (xs : List Token) → Holds (bare d xs) (Parameters xs)
unfolding bare
bare-holds d xs = choosing (sees shape.Separator xs)
    (λ e. let s = seen shape.Separator xs e in
    answered (Parameters xs) [] xs (after xs, subst (λ us. DerivesParameters [] us (after xs)) (sym s.2) (NoParameters _ _ s.1), tt, tt, inr (s.0, s.1, s.2), within-self _))
    (λ e. step (row-holds d false xs) (λ r qs m. choosing (sees shape.Separator qs)
    (λ e. let s = seen shape.Separator qs e in
    answered (Parameters xs) r qs (subst (λ r. Parameters xs r qs) (sym m.2)
    (after qs, OpenParameters _ _ _ _ _ (subst (λ us. DerivesParameterList false (m.0 ∷ m.1) xs us) s.2 m.3) s.1, m.4, m.6, inr (s.0, s.1, s.2), m.7)))
    (λ e. refused _ _)))

pub parameters-holds : (d : ℕ) (xs : List Token) → Holds (parameters_of d xs) (Parameters xs)
unfolding parameters_of
parameters-holds d [] = bare-holds d []
parameters-holds d (t ∷ ts) = testing
    (λ is. let g = gap ts in bracketed-holds d t ts (skip_separators ts) is g.0 g.1)
    (λ other. bare-holds d (t ∷ ts))
