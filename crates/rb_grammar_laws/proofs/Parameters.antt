-- Parameters that derive are read.
use Rattle.std.proofs.Common.{◌≡◌, ℕ, zero, suc, ◌<◌, Bool, true, false, not, ◌||◌, if◌then◌else◌, List, [], ◌∷◌, ◌++◌, length, Some, None, Ok, inl, inr, refl, sym, ap, subst, ◌∙◌, append_assoc, arith}
use Rattle.rb_tree.specs.Tokens.{shape_of, same_shape}
use Rattle.rb_tree.specs.declared.syntax.Parameter.{Parameter}
use Rattle.srb_terms.specs.declared.param_kind.ParamKind.{ParamKind}
use Rattle.srb_terms.specs.declared.param_kind.ParamKind.TheVariants as param_kind
use Rattle.rb_tree.specs.declared.syntax.Tree.{Tree}
use Rattle.rb_tree.specs.declared.token.Token.{Token}
use Rattle.rb_tree.specs.declared.token.TokenKind.{TokenKind}
use Rattle.rb_tree.specs.declared.token.TokenKind.TheVariants as kind
use Rattle.rb_tree.specs.declared.token.Shape.{Shape}
use Rattle.rb_tree.specs.declared.token.Shape.TheVariants as shape
use Rattle.rb_expr.specs.Reading.{Outcome, sees, and_then, expect}
use Rattle.rb_expr.specs.Rules.{tern}
use Rattle.rb_decl.specs.declared.parameter.Stage.{Stage}
use Rattle.rb_decl.specs.declared.parameter.Stage.TheVariants as stage
use Rattle.rb_decl.specs.Parameters as spec
use Rattle.rb_decl.specs.Parameters.{stage_after, is_among, fresh, noted, is_plain, is_first, is_last, plain, has_no_default, keyword, block, after_comma, is_over, row_from, row, bracketed, bare, parameters_of}
use Rattle.rb_rules.specs.Tokens.{Is, StartsWith}
use Rattle.rb_rules.specs.Forms.{AreParameters, AreKinds, AreOptionalKinds, AreKeyKinds, EndsByBlockKind, kinds_of, AreDistinct, IsNot, names_of_parameters}
use Rattle.rb_rules.specs.Grammar.{Gap, GapIn, DerivesParameter, DerivesParameterList, DerivesParameters, DerivesTerm}
use Rattle.rb_rules.specs.Grammar.Gap.{Closed, Wide}
use Rattle.rb_rules.specs.Grammar.GapIn.{Tight, Loose}
use Rattle.rb_rules.specs.Grammar.DerivesParameter.{Required, Optional, RequiredKeyword, OptionalKeyword, BlockParameter}
use Rattle.rb_rules.specs.Grammar.DerivesParameterList.{LastParameter, MoreParameters}
use Rattle.rb_rules.specs.Grammar.DerivesParameters.{NoParameters, OpenParameters, EmptyParens, InBrackets}
use Rattle.rb_grammar.proofs.Steps.{shown, Within, within-self, within-token, within-more}
use Rattle.rb_grammar.proofs.Lists.{noted-new}
use Rattle.rb_grammar.proofs.Parameters.{Links}
use Rattle.rb_grammar_laws.specs.Begins.{TERMS}
use Rattle.rb_grammar_laws.specs.Ends.{Ends, TERM_ENDS}
use Rattle.rb_grammar_laws.proofs.Steps.{on, taken, passed, each, not-false, wider, expects, other, unseen, skipped, Past, past-token, past-within, past-more, past-length, within-length, gap-within, identifier, label}
use Rattle.rb_grammar_laws.proofs.Begins.{term-begins}
use Rattle.rb_grammar_laws.proofs.Complete.{Reads}
use Rattle.rb_grammar_laws.proofs.Lists.{IsSome, still-new}
use Rattle.rb_grammar_laws.proofs.Operators.{tern-read}
use Rattle.rb_grammar_laws.proofs.Forms.{complete}
use Rattle.rb_expr.specs.Grammar.{parsed}

-- ---- orders and names

-- a parameter of this kind may come at a stage
abbrev Fits : ParamKind → Stage → Type 0
Fits param_kind.Required at = (is_plain at ≡ true) × (is_first at ≡ true)
Fits param_kind.Optional at = is_plain at ≡ true
Fits k at = Unit {0}

abbrev InOrder : Stage → List ParamKind → Type 0
InOrder stage.Required ks = AreKinds ks
InOrder stage.Optional ks = AreOptionalKinds ks
InOrder stage.Keyword ks = AreKeyKinds ks
InOrder stage.Block [] = Unit {0}
InOrder stage.Block (k ∷ ks) = ⊥

first-fits : (at : Stage) (k : ParamKind) (more : List ParamKind) → InOrder at (k ∷ more) → Fits k at
first-fits stage.Required param_kind.Required more o = (refl, refl)
first-fits stage.Optional param_kind.Required more o = absurd o
first-fits stage.Keyword param_kind.Required more o = absurd o
first-fits stage.Block param_kind.Required more o = absurd o
first-fits stage.Required param_kind.Optional more o = refl
first-fits stage.Optional param_kind.Optional more o = refl
first-fits stage.Keyword param_kind.Optional more o = absurd o
first-fits stage.Block param_kind.Optional more o = absurd o
first-fits at param_kind.Key more o = tt
first-fits at param_kind.KeyOptional more o = tt
first-fits at param_kind.Block more o = tt
first-fits at param_kind.Rest more o = tt

ends-block : (more : List ParamKind) → EndsByBlockKind (param_kind.Block ∷ more) → InOrder stage.Block more
ends-block [] o = tt
ends-block (k ∷ more) o = o

more-in-order : (at : Stage) (k : ParamKind) (more : List ParamKind) → InOrder at (k ∷ more) → InOrder (stage_after k) more
more-in-order stage.Required param_kind.Required more o = o
more-in-order stage.Optional param_kind.Required more o = absurd o
more-in-order stage.Keyword param_kind.Required more o = absurd o
more-in-order stage.Required param_kind.Optional more o = o
more-in-order stage.Optional param_kind.Optional more o = o
more-in-order stage.Keyword param_kind.Optional more o = absurd o
more-in-order stage.Required param_kind.Key more o = o
more-in-order stage.Optional param_kind.Key more o = o
more-in-order stage.Keyword param_kind.Key more o = o
more-in-order stage.Required param_kind.KeyOptional more o = o
more-in-order stage.Optional param_kind.KeyOptional more o = o
more-in-order stage.Keyword param_kind.KeyOptional more o = o
more-in-order stage.Required param_kind.Block more o = ends-block more o
more-in-order stage.Optional param_kind.Block more o = ends-block more o
more-in-order stage.Keyword param_kind.Block more o = ends-block more o
more-in-order stage.Required param_kind.Rest more o = absurd o
more-in-order stage.Optional param_kind.Rest more o = absurd o
more-in-order stage.Keyword param_kind.Rest more o = absurd o
more-in-order stage.Block k more o = absurd o

not-last : (k : ParamKind) (more : List (Parameter Tree)) → IsSome more → InOrder (stage_after k) (kinds_of more) → is_last (stage_after k) ≡ false
not-last k [] some o = absurd some
not-last param_kind.Required (q ∷ more) some o = refl
not-last param_kind.Optional (q ∷ more) some o = refl
not-last param_kind.Key (q ∷ more) some o = refl
not-last param_kind.KeyOptional (q ∷ more) some o = refl
not-last param_kind.Block (q ∷ more) some o = absurd o
not-last param_kind.Rest (q ∷ more) some o = refl

-- none of these parameters has one of these names
abbrev Fresh : List (List ℕ) → List (Parameter Tree) → Type 0
Fresh old [] = Unit {0}
Fresh old (p ∷ more) = (is_among old p.name ≡ false) × Fresh old more

still-fresh : (old : List (List ℕ)) (w : List ℕ) (more : List (Parameter Tree)) → Fresh old more → IsNot w (names_of_parameters more) → Fresh (old ++ w ∷ []) more
still-fresh old w [] f d = tt
still-fresh old w (p ∷ more) f d = (still-new old w p.name f.0 d.0, still-fresh old w more f.1 d.1)

all-fresh : (more : List (Parameter Tree)) → Fresh [] more
all-fresh [] = tt
all-fresh (p ∷ more) = (refl, all-fresh more)

-- ---- one parameter

-- what stands after a parameter
abbrev PARAMETER_ENDS : List Shape
PARAMETER_ENDS = shape.Comma ∷ shape.CloseParen ∷ shape.Separator ∷ []

term-ends : (xs : List Token) → StartsWith PARAMETER_ENDS xs → Ends TERM_ENDS true xs
unfolding same_shape
term-ends [] h = absurd h
term-ends (t ∷ ts) h = (wider PARAMETER_ENDS TERM_ENDS refl _ h, λ f is. let e = not-false _ (each (λ c. not (same_shape c shape.Do)) PARAMETER_ENDS refl _ h) in let g : false ≡ true = sym e ∙ shown shape.Do t ts is in absurd (cc))

no-default : (xs : List Token) → StartsWith PARAMETER_ENDS xs → has_no_default xs ≡ true
unfolding same_shape
no-default [] h = absurd h
no-default (t ∷ ts) h = each (λ c. same_shape c shape.Comma || same_shape c shape.CloseParen || same_shape c shape.Separator) PARAMETER_ENDS refl _ h

a-default : (xs : List Token) → StartsWith TERMS xs → has_no_default xs ≡ false
unfolding same_shape
a-default [] h = absurd h
a-default (t ∷ ts) h = not-false _ (each (λ c. not (same_shape c shape.Comma || same_shape c shape.CloseParen || same_shape c shape.Separator)) TERMS refl _ h)

-- a name that is new
when-new : {A : Type 0} (old : List (List ℕ)) (w : List ℕ) (f : List ℕ → Outcome A) (other' : Outcome A) (r : Outcome A) → is_among old w ≡ false → f w ≡ r → (elim (fresh old w) as (λ o. Outcome A) [ Some name ↦ f name | None ↦ other' ]) ≡ r
unfolding fresh
when-new {A} old w f other' r e h = ap (λ b. elim (if b then None else Some w) as (λ o. Outcome A) [ Some name ↦ f name | None ↦ other' ]) e ∙ h

default-read : (d : ℕ) (v : Tree) (xs ys : List Token) → DerivesTerm true v xs ys → Ends TERM_ENDS true ys → length xs < d → Reads (tern d) v xs ys
unfolding tern
default-read d v xs ys h ends less = tern-read (parsed d) d (complete d) true v xs ys h ends less

ampersand-kind : (k : TokenKind) → shape_of k ≡ shape.Ampersand → k ≡ kind.Ampersand
unfolding shape_of
ampersand-kind kind.Ampersand e = refl
ampersand-kind k e = absurd (cc)

ampersand-read : (d : ℕ) (at : Stage) (old : List (List ℕ)) (a : Token) (ts : List Token) → Is shape.Ampersand a → spec.parameter d at old (a ∷ ts) ≡ block old ts
unfolding spec.parameter
ampersand-read d at old a ts is = subst (λ k. spec.parameter d at old (record { kind = k; span = a.span } ∷ ts) ≡ block old ts) (sym (ampersand-kind a.kind is)) refl

parameter-read : (d : ℕ) (at : Stage) (old : List (List ℕ)) (p : Parameter Tree) (xs ys : List Token) → DerivesParameter p xs ys → Fits p.kind at → is_among old p.name ≡ false → StartsWith PARAMETER_ENDS ys → length xs < d → Reads (spec.parameter d at old) p xs ys
unfolding spec.parameter plain keyword block same_shape
parameter-read d at old p xs ys (Required t w _ is) fits new ends less = (
  subst (λ k. spec.parameter d at old (record { kind = k; span = t.span } ∷ ys) ≡ Ok (spec.parameter_of param_kind.Required w t.span None, ys)) (sym is)
      (taken _ _ fits.0 (when-new old w (λ name. plain d at name t.span ys) _ _ new (passed _ _ (unseen shape.Assign PARAMETER_ENDS refl ys ends) (taken _ _ fits.1 refl)))),
  past-token t (within-self _),
)
parameter-read d at old p xs ys (Optional t e w v us _ is is2 h) fits new ends less =
    let r = default-read d v us ys h (term-ends ys ends) (let k : length us < d = omega arith in k) in (
      subst (λ k. spec.parameter d at old (record { kind = k; span = t.span } ∷ e ∷ us) ≡ Ok (spec.parameter_of param_kind.Optional w t.span (Some v), ys)) (sym is)
          (taken _ _ fits (when-new old w (λ name. plain d at name t.span (e ∷ us)) _ _ new (taken _ _ (shown shape.Assign e us is2) (on _ r.0 refl)))),
      past-token t (within-token e (past-within r.1)),
    )
parameter-read d at old p xs ys (RequiredKeyword l w _ is) fits new ends less = (
  subst (λ k. spec.parameter d at old (record { kind = k; span = l.span } ∷ ys) ≡ Ok (spec.parameter_of param_kind.Key w l.span None, ys)) (sym is)
      (when-new old w (λ name. keyword d name l.span ys) _ _ new (taken _ _ (no-default ys ends) refl)),
  past-token l (within-self _),
)
parameter-read d at old p xs ys (OptionalKeyword l w v us _ is h) fits new ends less =
    let r = default-read d v us ys h (term-ends ys ends) (let k : length us < d = omega arith in k) in (
      subst (λ k. spec.parameter d at old (record { kind = k; span = l.span } ∷ us) ≡ Ok (spec.parameter_of param_kind.KeyOptional w l.span (Some v), ys)) (sym is)
          (when-new old w (λ name. keyword d name l.span us) _ _ new (passed _ _ (a-default us (term-begins true v us ys h)) (on _ r.0 refl))),
      past-token l (past-within r.1),
    )
parameter-read d at old p xs ys (BlockParameter a t w _ is is2) fits new ends less = (
  ampersand-read d at old a (t ∷ ys) is ∙ subst (λ k. block old (record { kind = k; span = t.span } ∷ ys) ≡ Ok (spec.parameter_of param_kind.Block w t.span None, ys)) (sym is2)
      (when-new old w (λ name. Ok (spec.parameter_of param_kind.Block name t.span None, ys)) _ _ new refl),
  past-token a (within-token t (within-self _)),
)

-- ---- rows

parameter-begins : (p : Parameter Tree) (xs ys : List Token) → DerivesParameter p xs ys → StartsWith (shape.Identifier ∷ shape.Label ∷ shape.Ampersand ∷ []) xs
parameter-begins p xs ys (Required t w _ is) = inl (identifier t w is)
parameter-begins p xs ys (Optional t e w v us _ is is2 h) = inl (identifier t w is)
parameter-begins p xs ys (RequiredKeyword l w _ is) = inr (inl (label l w is))
parameter-begins p xs ys (OptionalKeyword l w v us _ is h) = inr (inl (label l w is))
parameter-begins p xs ys (BlockParameter a t w _ is is2) = inr (inr (inl is))

-- the closing bracket after a row
abbrev closing-of : List (Parameter Tree) → List Token → Outcome (List (Parameter Tree))
closing-of ps ws = and_then (expect shape.CloseParen ws) (λ place rest. Ok (ps, rest))

list-begins : (bracketed : Bool) (ps : List (Parameter Tree)) (xs ys : List Token) → DerivesParameterList bracketed ps xs ys → StartsWith (shape.Identifier ∷ shape.Label ∷ shape.Ampersand ∷ []) xs
list-begins bracketed ps xs ys (LastParameter _ p _ _ d) = parameter-begins p xs ys d
list-begins bracketed ps xs ys (MoreParameters _ c p more _ qs us _ d is g e) = parameter-begins p xs (c ∷ qs) d

list-some : (bracketed : Bool) (ps : List (Parameter Tree)) (xs ys : List Token) → DerivesParameterList bracketed ps xs ys → IsSome ps
list-some bracketed ps xs ys (LastParameter _ p _ _ d) = tt
list-some bracketed ps xs ys (MoreParameters _ c p more _ qs us _ d is g e) = tt

-- after a comma
comma-after : (bracketed : Bool) (c : Token) (qs us : List Token) → GapIn bracketed qs us → sees shape.Separator us ≡ false → (after_comma bracketed (c ∷ qs) ≡ us) × Within qs us
comma-after bracketed c qs us (Tight _) none = (refl, within-self _)
comma-after bracketed c qs us (Loose _ _ g) none = (skipped qs us g none, gap-within qs us g)

over-by : (p : Parameter Tree) (xs : List Token) → sees shape.Comma xs ≡ false → is_over (stage_after p.kind) xs ≡ true
over-by p xs e = or-right (is_last (stage_after p.kind)) _ (ap not e)
  where
    or-right : (a b : Bool) → b ≡ true → (a || b) ≡ true
    or-right true b e = refl
    or-right false b e = e

goes-on : (p : Parameter Tree) (c : Token) (qs : List Token) → is_last (stage_after p.kind) ≡ false → Is shape.Comma c → is_over (stage_after p.kind) (c ∷ qs) ≡ false
goes-on p c qs e is = ap (λ b. b || not (sees shape.Comma (c ∷ qs))) e ∙ ap not (shown shape.Comma c qs is)

row-read : (d : ℕ) (bracketed : Bool) (ps : List (Parameter Tree)) (xs ys : List Token) → DerivesParameterList bracketed ps xs ys → StartsWith PARAMETER_ENDS ys → sees shape.Comma ys ≡ false → (n : ℕ) (at : Stage) (old : List (List ℕ)) (found : List (Parameter Tree)) →
    InOrder at (kinds_of ps) → Fresh old ps → AreDistinct (names_of_parameters ps) → length xs < n → length xs < d → Reads (row_from d bracketed n at old found) (found ++ ps) xs ys
unfolding row_from same_shape
row-read d bracketed ps xs ys h ends comma zero at old found o f distinct less fits = absurd (let h : ⊥ = omega arith in h)
row-read d bracketed ps xs ys (LastParameter _ p _ _ h) ends comma (suc n) at old found o f distinct less fits =
    let r = parameter-read d at old p xs ys h (first-fits at p.kind [] o) f.0 ends fits in
    (on _ r.0 (taken _ _ (over-by p ys comma) refl), r.1)
row-read d bracketed ps xs ys (MoreParameters _ c p more _ qs us _ h is g e) ends comma (suc n) at old found o f distinct less fits =
    let some = list-some bracketed more us ys e in
    let begin = list-begins bracketed more us ys e in
    let o2 = more-in-order at p.kind (kinds_of more) o in
    let r = parameter-read d at old p xs (c ∷ qs) h (first-fits at p.kind (kinds_of more) o) f.0 (inl is) fits in
    let b = comma-after bracketed c qs us g (unseen shape.Separator (shape.Identifier ∷ shape.Label ∷ shape.Ampersand ∷ []) refl us begin) in
    let p2 = past-more r.1 (within-token c b.1) in
    let short = past-length p2 in
    let names : noted old p.name ≡ old ++ p.name ∷ [] = noted-new old p.name f.0 in
    let l = row-read d bracketed more us ys e ends comma n (stage_after p.kind) (old ++ p.name ∷ []) (found ++ p ∷ []) o2 (still-fresh old p.name more f.1 distinct.0) distinct.1 (let k : length us < n = omega arith in k) (let k : length us < d = omega arith in k) in (
      on _ r.0 (passed _ _ (goes-on p c qs (not-last p.kind more some o2) is)
          (ap (λ names. row_from d bracketed n (stage_after p.kind) names (found ++ p ∷ []) (after_comma bracketed (c ∷ qs))) names ∙ ap (λ zs. row_from d bracketed n (stage_after p.kind) (old ++ p.name ∷ []) (found ++ p ∷ []) zs) b.0
          ∙ l.0 ∙ ap (λ found. Ok (found, ys)) (append_assoc found (p ∷ []) more))),
      past-more p2 (past-within l.1),
    )

row-all : (d : ℕ) (bracketed : Bool) (ps : List (Parameter Tree)) (xs ys : List Token) → DerivesParameterList bracketed ps xs ys → StartsWith PARAMETER_ENDS ys → sees shape.Comma ys ≡ false → AreParameters ps → AreDistinct (names_of_parameters ps) → length xs < d → Reads (row d bracketed) ps xs ys
unfolding row
row-all d bracketed ps xs ys h ends comma o distinct fits = row-read d bracketed ps xs ys h ends comma d stage.Required [] [] o (all-fresh ps) distinct fits fits

-- ---- all parameters

gap-parameter-ends : (c : Token) (xs ys : List Token) → Gap xs (c ∷ ys) → Is shape.CloseParen c → StartsWith PARAMETER_ENDS xs × (sees shape.Comma xs ≡ false)
unfolding same_shape
gap-parameter-ends c xs ys (Closed _) is = (inr (inl is), other shape.Comma shape.CloseParen c ys is refl)
gap-parameter-ends c xs ys (Wide t us _ is2 g) is = (inr (inr (inl is2)), other shape.Comma shape.Separator t us is2 refl)

pub parameters-begin : (ps : List (Parameter Tree)) (xs zs : List Token) → DerivesParameters ps xs zs → StartsWith (shape.Separator ∷ shape.OpenParen ∷ shape.Identifier ∷ shape.Label ∷ shape.Ampersand ∷ []) xs
parameters-begin ps xs zs (NoParameters s _ is) = inl is
parameters-begin ps [] zs (OpenParameters s p more _ _ h is) = absurd (list-begins false (p ∷ more) [] (s ∷ zs) h)
parameters-begin ps (x ∷ xs) zs (OpenParameters s p more _ _ h is) = inr (inr (list-begins false (p ∷ more) (x ∷ xs) (s ∷ zs) h))
parameters-begin ps xs zs (EmptyParens b c us _ is g closes) = inr (inl is)
parameters-begin ps xs zs (InBrackets b c p more us vs qs _ is g h g2 closes) = inr (inl is)

-- up to a body, or a separator before it
abbrev pub ReadsParameters : ℕ → List (Parameter Tree) → List Token → List Token → Type 0
ReadsParameters d ps xs zs = (ys : List Token) × (parameters_of d xs ≡ Ok (ps, ys)) × Links zs ys × Past xs zs

pub parameters-read : (d : ℕ) (ps : List (Parameter Tree)) (xs zs : List Token) → DerivesParameters ps xs zs → AreParameters ps → AreDistinct (names_of_parameters ps) → length xs < d → ReadsParameters d ps xs zs
unfolding parameters_of bracketed bare same_shape
parameters-read d ps xs zs (NoParameters s _ is) o distinct fits =
    (s ∷ zs, passed _ _ (other shape.OpenParen shape.Separator s zs is refl) (taken _ _ (shown shape.Separator s zs is) refl), inr (s, is, refl), past-token s (within-self _))
parameters-read d ps xs zs (OpenParameters s p more _ _ h is) o distinct fits =
    let begin = list-begins false (p ∷ more) xs (s ∷ zs) h in
    let r = row-all d false (p ∷ more) xs (s ∷ zs) h (inr (inr (inl is))) (other shape.Comma shape.Separator s zs is refl) o distinct fits in (
      s ∷ zs,
      passed _ _ (unseen shape.OpenParen (shape.Identifier ∷ shape.Label ∷ shape.Ampersand ∷ []) refl xs begin) (passed _ _ (unseen shape.Separator (shape.Identifier ∷ shape.Label ∷ shape.Ampersand ∷ []) refl xs begin)
          (on _ r.0 (taken _ _ (shown shape.Separator s zs is) refl))),
      inr (s, is, refl),
      past-more r.1 (within-token s (within-self _)),
    )
parameters-read d ps xs zs (EmptyParens b c us _ is g closes) o distinct fits = (
  zs,
  taken _ _ (shown shape.OpenParen b us is) (ap (λ ws. bracketed d ws) (skipped us (c ∷ zs) g (other shape.Separator shape.CloseParen c zs closes refl)) ∙ taken _ _ (shown shape.CloseParen c zs closes) refl),
  inl refl,
  past-token b (within-more (gap-within us (c ∷ zs) g) (within-token c (within-self _))),
)
parameters-read d ps xs zs (InBrackets b c p more us vs qs _ is g h g2 closes) o distinct fits =
    let begin = list-begins true (p ∷ more) vs qs h in
    let e = gap-parameter-ends c qs zs g2 closes in
    let w = gap-within us vs g in
    let short = within-length w in
    let r = row-all d true (p ∷ more) vs qs h e.0 e.1 o distinct (let k : length vs < d = omega arith in k) in (
      zs,
      taken _ _ (shown shape.OpenParen b us is) (ap (λ ws. bracketed d ws) (skipped us vs g (unseen shape.Separator (shape.Identifier ∷ shape.Label ∷ shape.Ampersand ∷ []) refl vs begin))
          ∙ passed _ _ (unseen shape.CloseParen (shape.Identifier ∷ shape.Label ∷ shape.Ampersand ∷ []) refl vs begin) (on _ r.0 (ap (λ ws. closing-of ps ws) (skipped qs (c ∷ zs) g2 (other shape.Separator shape.CloseParen c zs closes refl)) ∙ on _ (expects shape.CloseParen c zs closes) refl))),
      inl refl,
      past-token b (within-more w (within-more (past-within r.1) (within-more (gap-within qs (c ∷ zs) g2) (within-token c (within-self _))))),
    )
