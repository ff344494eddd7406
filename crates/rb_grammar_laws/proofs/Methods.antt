-- Methods that derive are read.
use Rattle.std.proofs.Common.{◌≡◌, ℕ, zero, suc, ◌<◌, Bool, true, false, ◌==◌, if◌then◌else◌, List, [], ◌∷◌, ◌++◌, length, Option, Some, None, Ok, Err, inl, inr, refl, sym, ap, subst, ◌∙◌, codes, arith}
use Rattle.srb_terms.specs.declared.span.Span.{Span}
use Rattle.rb_tree.specs.Tokens.{shape_of, same_shape}
use Rattle.rb_tree.specs.declared.syntax.Guarded.{Guarded}
use Rattle.rb_tree.specs.declared.syntax.PlacedName.{PlacedName}
use Rattle.rb_tree.specs.declared.syntax.Parameter.{Parameter}
use Rattle.rb_tree.specs.declared.syntax.Tree.{Tree}
use Rattle.rb_tree.specs.Nodes as tree
use Rattle.rb_tree.specs.declared.syntax.Visibility.{Visibility}
use Rattle.rb_tree.specs.declared.token.Token.{Token}
use Rattle.rb_tree.specs.declared.token.TokenKind.{TokenKind}
use Rattle.rb_tree.specs.declared.token.TokenKind.TheVariants as kind
use Rattle.rb_tree.specs.declared.token.Shape.{Shape}
use Rattle.rb_tree.specs.declared.token.Shape.TheVariants as shape
use Rattle.rb_expr.specs.Grammar.{parsed}
use Rattle.rb_expr.specs.Reading.{Outcome, Parser, ◌>>=◌, pure, and_then, sees, start_of}
use Rattle.rb_expr.specs.Rules.{guarded}
use Rattle.rb_expr.specs.Branches as branches
use Rattle.rb_expr.specs.declared.form.Form.TheVariants as form
use Rattle.rb_expr.specs.Statements as statements
use Rattle.rb_decl.specs.Methods.{visibility_of, visibility, operator_text, operator_name, plain_name, method_name, own, method_head, defined}
use Rattle.rb_rules.specs.Tokens.{Is, IsIdentifier}
use Rattle.rb_rules.specs.Spans.{across}
use Rattle.rb_rules.specs.Forms.{METHODS, AreParameters, AreDistinct, names_of_parameters}
use Rattle.rb_rules.specs.Grammar.{IsRow, VISIBILITIES, front_span, MethodName, Owner, DerivesGuarded, DerivesParameters, DerivesMethod}
use Rattle.rb_rules.specs.Grammar.MethodName.{Plain, Writer, Capital, Operator}
use Rattle.rb_rules.specs.Grammar.Owner.{Other, Own}
use Rattle.rb_rules.specs.Grammar.DerivesMethod.{Def}
use Rattle.rb_grammar.proofs.Steps.{shown, within-self, within-token, within-more}
use Rattle.rb_grammar.proofs.Parameters.{Links}
use Rattle.rb_grammar_laws.proofs.Steps.{on, taken, passed, AllRows, by-row, expects, other, unseen, identifier, constant, Past, past-token, past-within, past-more, within-past, past-length}
use Rattle.rb_grammar_laws.proofs.Complete.{Reads, ReadsSome}
use Rattle.rb_grammar_laws.proofs.Branches.{guarded-read}
use Rattle.rb_grammar_laws.proofs.Forms.{complete}
use Rattle.rb_grammar_laws.proofs.Parameters.{parameters-read, parameters-begin}

-- ---- the name

-- a word that may name a method
is_word : Shape → Bool
is_word shape.Identifier = true
is_word shape.Constant = true
is_word s = false

-- what the table of operators says of a spelling
record IsSpelled (s : Shape) (w : List ℕ) : Type 0 where
  text : operator_text s ≡ w
  some : (length w == 0) ≡ false
  word : is_word s ≡ false
  no_self : same_shape s shape.SelfWord ≡ false

row : {s : Shape} {w : List ℕ} → operator_text s ≡ w → (length w == 0) ≡ false → is_word s ≡ false → same_shape s shape.SelfWord ≡ false → IsSpelled s w
row e f g h = record { text = e; some = f; word = g; no_self = h }

spelled : AllRows METHODS IsSpelled
unfolding operator_text is_word same_shape
spelled = (row refl refl refl refl, (row refl refl refl refl, (row refl refl refl refl, (row refl refl refl refl, (row refl refl refl refl, (row refl refl refl refl, (row refl refl refl refl, (row refl refl refl refl, (row refl refl refl refl, (row refl refl refl refl, (row refl refl refl refl, (row refl refl refl refl, (row refl refl refl refl, (row refl refl refl refl, (row refl refl refl refl, (row refl refl refl refl, (row refl refl refl refl, (row refl refl refl refl, (row refl refl refl refl, (row refl refl refl refl, (row refl refl refl refl, (row refl refl refl refl, (row refl refl refl refl, (row refl refl refl refl, tt))))))))))))))))))))))))

a-spelling : (s : Shape) (w : List ℕ) → IsRow METHODS s w → IsSpelled s w
a-spelling s w r = by-row METHODS IsSpelled spelled s w r

name-begins : (w : List ℕ) (s : Span) (xs ys : List Token) → MethodName w s xs ys → sees shape.SelfWord xs ≡ false
unfolding same_shape
name-begins w s xs ys (Plain t _ _ is) = other shape.SelfWord shape.Identifier t ys (identifier t w is) refl
name-begins w s xs ys (Writer t e v _ is is2) = other shape.SelfWord shape.Identifier t (e ∷ ys) (identifier t v is) refl
name-begins w s xs ys (Capital t _ _ is) = other shape.SelfWord shape.Constant t ys (constant t w is) refl
name-begins w s xs ys (Operator t _ _ row) = (a-spelling _ _ row).no_self

operator-by : (k : TokenKind) (s : Span) (ts : List Token) → is_word (shape_of k) ≡ false → method_name (record { kind = k; span = s } ∷ ts) ≡ operator_name (shape_of k) s (record { kind = k; span = s } ∷ ts) ts
unfolding method_name shape_of is_word
operator-by (kind.Identifier w) s ts e = absurd (cc)
operator-by (kind.Constant w) s ts e = absurd (cc)
operator-by k s ts e = refl

operator-read : (t : Token) (w : List ℕ) (ts : List Token) → IsRow METHODS (shape_of t.kind) w → method_name (t ∷ ts) ≡ Ok (record { name = w; span = t.span }, ts)
operator-read t w ts r = operator-by t.kind t.span ts (a-spelling _ _ r).word ∙ ap (λ v. named-by v) (a-spelling _ _ r).text ∙ passed _ _ (a-spelling _ _ r).some refl
  where
    named-by : List ℕ → Outcome PlacedName
    named-by v = if length v == 0 then Err (t ∷ ts) else Ok (record { name = v; span = t.span }, ts)

name-read : (w : List ℕ) (s : Span) (xs ys : List Token) → MethodName w s xs ys → sees shape.Assign ys ≡ false → Reads method_name (record { name = w; span = s }) xs ys
unfolding method_name plain_name
name-read w s xs ys (Plain t _ _ is) none = (subst (λ k. method_name (record { kind = k; span = t.span } ∷ ys) ≡ Ok (record { name = w; span = t.span }, ys)) (sym is) (passed _ _ none refl), past-token t (within-self _))
name-read w s xs ys (Writer t e v _ is is2) none = (subst (λ k. method_name (record { kind = k; span = t.span } ∷ e ∷ ys) ≡ Ok (record { name = v ++ codes "="; span = across t.span e.span }, ys)) (sym is) (taken _ _ (shown shape.Assign e ys is2) (on _ (expects shape.Assign e ys is2) refl)), past-token t (within-token e (within-self _)))
name-read w s xs ys (Capital t _ _ is) none = (subst (λ k. method_name (record { kind = k; span = t.span } ∷ ys) ≡ Ok (record { name = w; span = t.span }, ys)) (sym is) refl, past-token t (within-self _))
name-read w s xs ys (Operator t _ _ r) none = (operator-read t w ys r, past-token t (within-self _))

own-read : (o : Bool) (xs ys : List Token) → Owner o xs ys → sees shape.SelfWord ys ≡ false → ReadsSome own o xs ys
unfolding own
own-read o xs ys (Other _) none = (passed _ _ none refl, within-self _)
own-read o xs ys (Own s d _ is is2) none = (taken _ _ (shown shape.SelfWord s (d ∷ ys) is) (on _ (expects shape.Dot d ys is2) refl), within-token s (within-token d (within-self _)))

-- ---- the body

-- one more separator before a body is passed over
body-links : (d : ℕ) (zs ys : List Token) → Links zs ys → length zs < d → parsed d form.Body true ys ≡ parsed d form.Body true zs
unfolding parsed statements.body
body-links zero zs ys l less = absurd (let h : ⊥ = omega arith in h)
body-links (suc d) zs ys (inl e) less = ap (λ us. statements.body (parsed d) d true false us) e
body-links (suc d) zs ys (inr h) less = ap (λ us. statements.body (parsed d) d true false us) h.2 ∙ ap (λ us. statements.statements (parsed d) d true false us) (taken _ _ (shown shape.Separator h.0 zs h.1) refl)

-- what stands after the body
abbrev rest-of : ℕ → Tree → Parser (Guarded Tree)
rest-of d b = do
  clauses ← branches.rescues (parsed d) d true
  other ← branches.otherwise_after (parsed d) d true clauses
  last ← branches.ensure (parsed d) d true
  pure (record { body = b; rescues = clauses; otherwise = other; ensure = last })

after-links : (d : ℕ) (zs ys : List Token) → Links zs ys → length zs < d → guarded d ys ≡ guarded d zs
unfolding guarded branches.guarded
after-links d zs ys l less = ap (λ o. and_then o (rest-of d)) (body-links d zs ys l less)

method-guarded : (d : ℕ) (g : Guarded Tree) (zs : List Token) (e : Token) (ys : List Token) → DerivesGuarded true g zs (e ∷ ys) → Is shape.End e → suc (length zs) < d → ReadsSome (guarded d) g zs (e ∷ ys)
unfolding guarded
method-guarded d g zs e ys h is less = guarded-read (parsed d) d (complete d) true g zs e ys h is less

-- ---- the whole

-- where a method begins
abbrev pub front_start : Option Token → List Token → ℕ
front_start None xs = start_of xs
front_start (Some v) xs = v.span.start

front-same : (front : Option Token) (k : Token) (ks : List Token) → front_start front (k ∷ ks) ≡ (front_span k front).start
front-same None k ks = refl
front-same (Some v) k ks = refl

pub method-begins : (visible : Option Visibility) (front : Option Token) (t : Tree) (xs ys : List Token) → DerivesMethod visible front t xs ys → sees shape.Def xs ≡ true
method-begins visible front t xs ys (Def _ _ k e o name name_span parameters g us ps qs rs _ is ho hn hp ordered distinct hg ends) = shown shape.Def k us is

head-read : (d : ℕ) (visible : Option Visibility) (start : ℕ) (k : Token) (o : Bool) (name : List ℕ) (name_span : Span) (parameters : List (Parameter Tree)) (xs ps qs rs : List Token) →
    Is shape.Def k → Owner o xs ps → MethodName name name_span ps qs → DerivesParameters parameters qs rs → AreParameters parameters → AreDistinct (names_of_parameters parameters) → length (k ∷ xs) < d →
    (zs : List Token) × (method_head d visible start (k ∷ xs) ≡ Ok (record { visibility = visible; start = start; own = o; name = record { name = name; span = name_span }; parameters = parameters }, zs)) × Links rs zs × Past xs rs
unfolding method_head same_shape
head-read d visible start k o name name_span parameters xs ps qs rs is ho hn hp ordered distinct less =
    let a = own-read o xs ps ho (name-begins name name_span ps qs hn) in
    let b = name-read name name_span ps qs hn (unseen shape.Assign (shape.Separator ∷ shape.OpenParen ∷ shape.Identifier ∷ shape.Label ∷ shape.Ampersand ∷ []) refl qs (parameters-begin parameters qs rs hp)) in
    let p = within-past a.1 b.1 in
    let short = past-length p in
    let c = parameters-read d parameters qs rs hp ordered distinct (let h : length qs < d = omega arith in h) in
    (c.0, on _ (expects shape.Def k xs is) (on _ a.0 (on _ b.0 (on _ c.1 refl))), c.2, past-more p (past-within c.3))

pub defined-read : (d : ℕ) (visible : Option Visibility) (front : Option Token) (t : Tree) (xs ys : List Token) → DerivesMethod visible front t xs ys → length xs < d → Reads (defined d visible (front_start front xs)) t xs ys
unfolding defined
defined-read d visible front t xs ys (Def _ _ k e o name name_span parameters g us ps qs rs _ is ho hn hp ordered distinct hg ends) less =
    let start = front_start front (k ∷ us) in
    let h = head-read d visible start k o name name_span parameters us ps qs rs is ho hn hp ordered distinct less in
    let short = past-length h.3 in
    let r = method-guarded d g rs e ys hg ends (let h : suc (length rs) < d = omega arith in h) in (
      on _ h.1 (on _ (after-links d rs h.0 h.2 (let h : length rs < d = omega arith in h) ∙ r.0) (on _ (expects shape.End e ys ends) (ap (λ n. Ok (tree.Def visible o name name_span parameters g (record { start = n; end = e.span.end }), ys)) (front-same front k us)))),
      past-token k (within-more (past-within h.3) (within-more r.1 (within-token e (within-self _)))),
    )

-- ---- the visibility

def-kind : (k : TokenKind) → shape_of k ≡ shape.Def → k ≡ kind.Def
unfolding shape_of
def-kind kind.Def e = refl
def-kind k e = absurd (cc)

pub def-plain : (k : Token) (ks : List Token) → Is shape.Def k → visibility (k ∷ ks) ≡ None
unfolding visibility
def-plain k ks is = subst (λ c. visibility (record { kind = c; span = k.span } ∷ ks) ≡ None) (sym (def-kind k.kind is)) refl

pub visible-word : (v : Token) (w : List ℕ) (word : Visibility) (xs : List Token) → IsIdentifier v w → IsRow VISIBILITIES w word → sees shape.Def xs ≡ true → visibility (v ∷ xs) ≡ Some word
unfolding visibility
visible-word v w word xs is r def = subst (λ c. visibility (record { kind = c; span = v.span } ∷ xs) ≡ Some word) (sym is) (taken _ _ def (by-row VISIBILITIES (λ w word. visibility_of w ≡ Some word) (refl, (refl, (refl, (refl, tt)))) _ _ r))
