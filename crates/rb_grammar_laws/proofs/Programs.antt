-- Declarations and programs that derive are read.
use Rattle.std.proofs.Common.{◌≡◌, ℕ, zero, suc, ◌≤◌, ◌<◌, Bool, true, false, not, if◌then◌else◌, List, [], ◌∷◌, ◌++◌, length, Option, Some, None, is_some, Result, Ok, Err, inl, inr, refl, sym, ap, subst, ◌∙◌, append_assoc, append-nil, arith}
use Rattle.rb_tree.specs.Tokens.{shape_of, same_shape}
use Rattle.rb_tree.specs.Trees.{span_of}
use Rattle.rb_tree.specs.declared.syntax.PlacedName.{PlacedName}
use Rattle.rb_tree.specs.declared.syntax.Reference.{Reference}
use Rattle.rb_tree.specs.declared.syntax.Tree.{Tree}
use Rattle.rb_tree.specs.Nodes as tree
use Rattle.rb_tree.specs.declared.syntax.Visibility.{Visibility}
use Rattle.rb_tree.specs.declared.token.Token.{Token}
use Rattle.rb_tree.specs.declared.token.TokenKind.{TokenKind}
use Rattle.rb_tree.specs.declared.token.TokenKind.TheVariants as kind
use Rattle.rb_tree.specs.declared.token.Shape.{Shape}
use Rattle.rb_tree.specs.declared.token.Shape.TheVariants as shape
use Rattle.rb_expr.specs.Grammar.{parsed}
use Rattle.rb_expr.specs.Reading.{Outcome, Parser, sees, start_of, after, skip_separators}
use Rattle.rb_expr.specs.Rules.{statement}
use Rattle.rb_decl.specs.declared.item.Opening.{Opening}
use Rattle.rb_decl.specs.declared.item.Opening.TheVariants as openings
use Rattle.rb_decl.specs.declared.item.Head.{Head}
use Rattle.rb_decl.specs.declared.item.Head.TheVariants as heads
use Rattle.rb_decl.specs.Items as spec
use Rattle.rb_decl.specs.Items.{what_opens, class_head, module_head, namespace_head, end_at, tree_of, ends, statements_from, statements, namespace, item}
use Rattle.rb_decl.specs.Methods.{visibility_of, visibility, defined, method}
use Rattle.rb_decl.specs.Programs.{program}
use Rattle.rb_rules.specs.Tokens.{Is, StartsWith, IsIdentifier}
use Rattle.rb_rules.specs.Forms.{Site, Top, Member, is_top, is_open}
use Rattle.rb_rules.specs.Grammar.{IsRow, VISIBILITIES, Gap, Path, Superclass, body_of, Derives, DerivesBody, DerivesMore, DerivesStatement, DerivesDeclaration, DerivesMethod, DerivesModified, DerivesSimple, DerivesLevel}
use Rattle.rb_rules.specs.Grammar.Gap.{Closed, Wide}
use Rattle.rb_rules.specs.Grammar.Superclass.{NoSuperclass, Named, NamedFromTop}
use Rattle.rb_rules.specs.Grammar.DerivesBody.{NoStatement, Statements}
use Rattle.rb_rules.specs.Grammar.DerivesMore.{NoMore, Another}
use Rattle.rb_rules.specs.Grammar.DerivesStatement.{Declared, Simply}
use Rattle.rb_rules.specs.Grammar.DerivesDeclaration.{ClassOf, ModuleOf, Method, VisibleMethod}
use Rattle.rb_rules.specs.Grammar.DerivesModified.{Unmodified}
use Rattle.rb_rules.specs.Grammar.DerivesSimple.{Valued}
use Rattle.rb_rules.specs.Grammar.DerivesValue.{Term}
use Rattle.rb_rules.specs.Grammar.DerivesTerm.{Operated}
use Rattle.rb_rules.specs.Grammar.DerivesLevel.{Tighter, Plainly}
use Rattle.rb_rules.specs.Grammar.DerivesPrefixed.{Posted}
use Rattle.rb_rules.specs.Grammar.DerivesOperand.{Bare}
use Rattle.rb_rules.specs.Grammar.DerivesPrimary.{NameAlone}
use Rattle.rb_grammar.proofs.Steps.{shown, same, Within, within-self, within-token, within-more}
use Rattle.rb_grammar.proofs.Lists.{last-got}
use Rattle.rb_grammar_laws.specs.Begins.{SIMPLE}
use Rattle.rb_grammar_laws.specs.Ends.{Ends, STATEMENT_ENDS}
use Rattle.rb_grammar_laws.proofs.Steps.{on, taken, passed, each, not-false, is_in, any-of, expects, other, unseen, skipped, identifier, Past, past-token, past-within, past-more, past-length, within-length, gap-within, ends-by, ends-unseen, ends-wider}
use Rattle.rb_grammar_laws.proofs.Begins.{simple-begins}
use Rattle.rb_grammar_laws.proofs.Complete.{Reads, ReadsSome}
use Rattle.rb_grammar_laws.proofs.Statements.{simply-read}
use Rattle.rb_grammar_laws.proofs.Forms.{complete}
use Rattle.rb_grammar_laws.proofs.Names.{path-read, superclass-read}
use Rattle.rb_grammar_laws.proofs.Methods.{method-begins, defined-read, def-plain, visible-word}

-- ---- what statements begin with, and what follows them

abbrev ITEMS : List Shape
ITEMS = shape.Class ∷ shape.Module ∷ shape.Def ∷ SIMPLE

abbrev ITEM_ENDS : List Shape
ITEM_ENDS = shape.Separator ∷ shape.End ∷ []

sees-any : (ss : List Shape) (s : Shape) → is_in ss s ≡ true → (xs : List Token) → sees s xs ≡ true → StartsWith ss xs
sees-any ss s e [] h = absurd (cc)
sees-any ss s e (t ∷ ts) h = any-of ss s t e (same _ _ h)

declaration-begins : (at : Site) (t : Tree) (xs ys : List Token) → DerivesDeclaration at t xs ys → StartsWith ITEMS xs
unfolding same_shape
declaration-begins at t xs ys (ClassOf _ k s e names above b us ps qs _ is hn ha sep hb end) = inl is
declaration-begins at t xs ys (ModuleOf _ k s e names b us qs _ is hn sep hb end) = inr (inl is)
declaration-begins at t xs ys (Method _ _ _ _ d) = sees-any ITEMS shape.Def refl xs (method-begins None None t xs ys d)
declaration-begins at t xs ys (VisibleMethod _ v w word _ us _ is row d) = any-of ITEMS shape.Identifier v refl (identifier v w is)

simple-items : (xs : List Token) → StartsWith SIMPLE xs → StartsWith ITEMS xs
simple-items [] h = h
simple-items (t ∷ ts) h = inr (inr (inr h))

item-begins : (at : Site) (free : Bool) (t : Tree) (xs ys : List Token) → DerivesStatement at free t xs ys → StartsWith ITEMS xs
item-begins at free t xs ys (Declared _ _ _ _ _ is d) = declaration-begins at t xs ys d
item-begins at free t xs ys (Simply _ _ s _ _ ps _ d m) = simple-items xs (simple-begins (is_open at) free s xs ps d)

not-over : (xs : List Token) → StartsWith ITEMS xs → ends xs ≡ false
unfolding same_shape
not-over [] h = absurd h
not-over (t ∷ ts) h = not-false _ (each (λ c. not (same_shape c shape.End)) ITEMS refl _ h)

over : (xs : List Token) → Ends (shape.End ∷ []) true xs → ends xs ≡ true
unfolding same_shape
over [] h = refl
over (t ∷ ts) h = each (λ c. same_shape c shape.End) (shape.End ∷ []) refl _ h.0

gap-item-ends : (xs ys : List Token) → Gap xs ys → Ends (shape.End ∷ []) true ys → Ends ITEM_ENDS true xs
unfolding same_shape
gap-item-ends xs ys (Closed _) h = ends-wider (shape.End ∷ []) ITEM_ENDS refl true ys h
gap-item-ends xs ys (Wide t us _ is g) h = ends-by ITEM_ENDS shape.Separator refl refl true t us is

more-ends : (at : Site) (free : Bool) (ss : List Tree) (qs rs ys : List Token) → DerivesMore at free ss qs rs → Gap rs ys → Ends (shape.End ∷ []) true ys → Ends ITEM_ENDS true qs
unfolding same_shape
more-ends at free ss qs rs ys (NoMore _ _ _) g h = gap-item-ends qs ys g h
more-ends at free ss qs rs ys (Another _ _ t s more us ps vs _ is gap d e) g h = ends-by ITEM_ENDS shape.Separator refl refl true t us is

-- ---- rows of statements

same-body : (ss : List Tree) → spec.body_of ss ≡ body_of ss
same-body [] = refl
same-body (s ∷ ss) = ap (λ o. tree.Body (s ∷ ss) (record { start = (span_of s).start; end = end_at o })) (last-got s ss)

-- statements at the site are read of fewer tokens than this
abbrev pub ReadsItems : Site → ℕ → Parser Tree → Type 0
ReadsItems at most one = (t : Tree) (xs ys : List Token) → DerivesStatement at true t xs ys → Ends ITEM_ENDS true ys → length xs < most → Reads one t xs ys

module _ (at : Site) (most : ℕ) (one : Parser Tree) (ih : ReadsItems at most one) where
  abbrev After : ℕ → List Tree → Parser (List Tree)
  After n found = λ rest. if sees shape.Separator rest then statements_from one n found (skip_separators rest) else Ok (found, rest)

  more-read : (ss : List Tree) (qs rs ys : List Token) → DerivesMore at true ss qs rs → Gap rs ys → Ends (shape.End ∷ []) true ys → (n : ℕ) (found : List Tree) → length qs < n → length qs < most → ReadsSome (After n found) (found ++ ss) qs ys
  unfolding statements_from same_shape
  more-read ss qs rs ys d g end zero found less fits = absurd (let h : ⊥ = omega arith in h)
  more-read ss qs rs ys (NoMore _ _ _) (Closed _) end (suc n) found less fits =
      (passed _ _ (ends-unseen shape.Separator (shape.End ∷ []) refl true ys end) (ap (λ all. Ok (all, ys)) (sym (append-nil found))), within-self _)
  more-read ss qs rs ys (NoMore _ _ _) (Wide t us _ is g) end (suc n) found less fits = (
    taken _ _ (shown shape.Separator t us is) (ap (λ zs. statements_from one (suc n) found zs) (taken _ _ (shown shape.Separator t us is) (skipped us ys g (ends-unseen shape.Separator (shape.End ∷ []) refl true ys end)))
        ∙ taken _ _ (over ys end) (ap (λ all. Ok (all, ys)) (sym (append-nil found)))),
    within-token t (gap-within us ys g),
  )
  more-read ss qs rs ys (Another _ _ t next more us ps vs _ is gap d e) g end (suc n) found less fits =
      let b = item-begins at true next ps vs d in
      let w = gap-within us ps gap in
      let short = within-length w in
      let r = ih next ps vs d (more-ends at true more vs rs ys e g end) (let h : length ps < most = omega arith in h) in
      let short2 = past-length r.1 in
      let l = more-read more vs rs ys e g end n (found ++ next ∷ []) (let h : length vs < n = omega arith in h) (let h : length vs < most = omega arith in h) in (
        taken _ _ (shown shape.Separator t us is) (ap (λ zs. statements_from one (suc n) found zs) (taken _ _ (shown shape.Separator t us is) (skipped us ps gap (unseen shape.Separator ITEMS refl ps b)))
            ∙ passed _ _ (not-over ps b) (on _ r.0 (l.0 ∙ ap (λ all. Ok (all, ys)) (append_assoc found (next ∷ []) more)))),
        within-token t (within-more w (within-more (past-within r.1) l.1)),
      )

  first-read : (s : Tree) (ss : List Tree) (ps qs rs ys : List Token) → DerivesStatement at true s ps qs → DerivesMore at true ss qs rs → Gap rs ys → Ends (shape.End ∷ []) true ys → (n : ℕ) → length ps < n → length ps < most → ReadsSome (statements_from one n []) (s ∷ ss) ps ys
  unfolding statements_from
  first-read s ss ps qs rs ys d more g end zero less fits = absurd (let h : ⊥ = omega arith in h)
  first-read s ss ps qs rs ys d more g end (suc n) less fits =
      let r = ih s ps qs d (more-ends at true ss qs rs ys more g end) fits in
      let short = past-length r.1 in
      let l = more-read ss qs rs ys more g end n (s ∷ []) (let h : length qs < n = omega arith in h) (let h : length qs < most = omega arith in h) in
      (passed _ _ (not-over ps (item-begins at true s ps qs d)) (on _ r.0 l.0), within-more (past-within r.1) l.1)

  none-read : (ys : List Token) → Ends (shape.End ∷ []) true ys → (n : ℕ) → length ys < n → statements_from one n [] ys ≡ Ok ([], ys)
  unfolding statements_from
  none-read ys end zero less = absurd (let h : ⊥ = omega arith in h)
  none-read ys end (suc n) less = taken _ _ (over ys end) refl

  -- the statements of a body
  pub body-read : (d : ℕ) (t : Tree) (xs ys : List Token) → DerivesBody at true t xs ys → Ends (shape.End ∷ []) true ys → length xs < d → length xs < most → (ss : List Tree) × (statements one d xs ≡ Ok (ss, ys)) × (spec.body_of ss ≡ t) × Within xs ys
  unfolding statements same_shape
  body-read d t xs ys (NoStatement _ _ _ _ g) end less fits =
      let w = gap-within xs ys g in
      let short = within-length w in
      ([], ap (λ zs. statements_from one d [] zs) (skipped xs ys g (ends-unseen shape.Separator (shape.End ∷ []) refl true ys end)) ∙ none-read ys end d (let h : length ys < d = omega arith in h), refl, w)
  body-read d t xs ys (Statements _ _ s ss _ ps qs rs _ g h more after) end less fits =
      let w = gap-within xs ps g in
      let short = within-length w in
      let r = first-read s ss ps qs rs ys h more after end d (let k : length ps < d = omega arith in k) (let k : length ps < most = omega arith in k) in
      (s ∷ ss, ap (λ zs. statements_from one d [] zs) (skipped xs ps g (unseen shape.Separator ITEMS refl ps (item-begins at true s ps qs h))) ∙ r.0, same-body (s ∷ ss), within-more w r.1)

-- ---- classes and modules

taken-rule : {A : Type 0} {b : Bool} {r : Outcome A} (p q : Parser A) (xs : List Token) → b ≡ true → p xs ≡ r → (if b then p else q) xs ≡ r
taken-rule {A} p q xs e h = ap (λ b. rule b xs) e ∙ h
  where
    rule : Bool → Parser A
    rule b = if b then p else q

passed-rule : {A : Type 0} {b : Bool} {r : Outcome A} (p q : Parser A) (xs : List Token) → b ≡ false → q xs ≡ r → (if b then p else q) xs ≡ r
passed-rule {A} p q xs e h = ap (λ b. rule b xs) e ∙ h
  where
    rule : Bool → Parser A
    rule b = if b then p else q

superclass-begins : (above : Option Reference) (ps : List Token) (s : Token) (qs : List Token) → Superclass above ps (s ∷ qs) → Is shape.Separator s → sees shape.Scope ps ≡ false
unfolding same_shape
superclass-begins above ps s qs (NoSuperclass _) sep = other shape.Scope shape.Separator s qs sep refl
superclass-begins above ps s qs (Named l n more us _ is h) sep = other shape.Scope shape.Less l us is refl
superclass-begins above ps s qs (NamedFromTop l c n more us _ is is2 h) sep = other shape.Scope shape.Less l (c ∷ us) is refl

class-read : (d : ℕ) (long : Bool) (k : Token) (names : List PlacedName) (above : Option Reference) (us ps : List Token) (s : Token) (qs : List Token) → Is shape.Class k → Path long names us ps → Superclass above ps (s ∷ qs) → Is shape.Separator s → length us < d →
    (namespace_head d long (k ∷ us) ≡ Ok (heads.Class k.span.start names above, qs)) × Past us qs
unfolding namespace_head class_head same_shape
class-read d long k names above us ps s qs is hn ha sep less =
    let r = path-read d long names us ps hn (superclass-begins above ps s qs ha sep) less in
    let short = past-length r.1 in
    let a = superclass-read d above ps (s ∷ qs) ha (other shape.Scope shape.Separator s qs sep refl) (other shape.Less shape.Separator s qs sep refl) (let h : length ps < d = omega arith in h) in
    (taken-rule _ _ _ (shown shape.Class k us is) (on _ (on _ (expects shape.Class k us is) (on _ r.0 (on _ a.0 refl))) (on _ (expects shape.Separator s qs sep) refl)), past-more r.1 (within-more a.1 (within-token s (within-self qs))))

module-read : (d : ℕ) (long : Bool) (k : Token) (names : List PlacedName) (us : List Token) (s : Token) (qs : List Token) → Is shape.Module k → Path long names us (s ∷ qs) → Is shape.Separator s → length us < d →
    (namespace_head d long (k ∷ us) ≡ Ok (heads.Module k.span.start names, qs)) × Past us qs
unfolding namespace_head module_head same_shape
module-read d long k names us s qs is hn sep less =
    let r = path-read d long names us (s ∷ qs) hn (other shape.Scope shape.Separator s qs sep refl) less in
    (passed-rule _ _ _ (other shape.Class shape.Module k us is refl) (on _ (on _ (expects shape.Module k us is) (on _ r.0 refl)) (on _ (expects shape.Separator s qs sep) refl)), past-more r.1 (within-token s (within-self qs)))

-- a head, statements and `end`
namespace-read : (d : ℕ) (long : Bool) (one : Parser Tree) → ReadsItems Member d one → (h : Head) (b : Tree) (k : Token) (us qs : List Token) (e : Token) (ys : List Token) → namespace_head d long (k ∷ us) ≡ Ok (h, qs) → Past us qs → DerivesBody Member true b qs (e ∷ ys) → Is shape.End e → length us < d →
    Reads (namespace one d long) (tree_of h b e.span.end) (k ∷ us) ys
unfolding namespace same_shape
namespace-read d long one ih h b k us qs e ys head past hb end less =
    let short = past-length past in
    let r = body-read Member d one ih d b qs (e ∷ ys) hb (ends-by (shape.End ∷ []) shape.End refl refl true e ys end) (let h : length qs < d = omega arith in h) (let h : length qs < d = omega arith in h) in
    (on _ head (on _ r.1 (on _ (expects shape.End e ys end) (ap (λ b. Ok (tree_of h b e.span.end, ys)) r.2))), past-token k (within-more (past-within past) (within-more r.3 (within-token e (within-self ys)))))

-- ---- declarations and other statements

-- a method or another statement, by whether a visibility stands in front of a `def`
abbrev by_visible : Bool → Opening
by_visible true = openings.Method
by_visible false = openings.Statement

abbrev opening_of : Option Shape → Bool → Opening
opening_of (Some shape.Class) visible = openings.Namespace
opening_of (Some shape.Module) visible = openings.Namespace
opening_of (Some shape.Def) visible = openings.Method
opening_of _ visible = by_visible visible

is_other : Shape → Bool
is_other shape.Class = false
is_other shape.Module = false
is_other shape.Def = false
is_other s = true

other-opens : (s : Shape) (visible : Bool) → is_other s ≡ true → opening_of (Some s) visible ≡ by_visible visible
unfolding is_other
other-opens shape.Class visible e = absurd (cc)
other-opens shape.Module visible e = absurd (cc)
other-opens shape.Def visible e = absurd (cc)
other-opens s visible e = refl

opens-by : (s : Shape) (t : Token) (ts : List Token) → Is s t → what_opens (t ∷ ts) ≡ opening_of (Some s) (is_some (visibility (t ∷ ts)))
opens-by s t ts is = ap (λ s. opening_of (Some s) (is_some (visibility (t ∷ ts)))) is

-- one of three readings
abbrev by_opening : Opening → Parser Tree → Parser Tree → Parser Tree → Parser Tree
by_opening openings.Namespace a b c = a
by_opening openings.Method a b c = b
by_opening openings.Statement a b c = c

item-as : (d : ℕ) (long : Bool) (o : Opening) (xs : List Token) (r : Outcome Tree) → what_opens xs ≡ o → by_opening o (namespace (item d false) d long) (method (suc d)) (statement (suc d) true) xs ≡ r → item (suc d) long xs ≡ r
unfolding item
item-as d long o xs r e h = ap (λ o. by_opening o (namespace (item d false) d long) (method (suc d)) (statement (suc d) true) xs) e ∙ h

-- a method, with what its front says
abbrev method_by : ℕ → List Token → Option Visibility → Outcome Tree
method_by d xs o = if is_some o then defined d o (start_of xs) (after xs) else defined d o (start_of xs) xs

method-as : (d : ℕ) (o : Option Visibility) (xs : List Token) (r : Outcome Tree) → visibility xs ≡ o → method_by d xs o ≡ r → method d xs ≡ r
unfolding method
method-as d o xs r e h = ap (λ o. method_by d xs o) e ∙ h

plain-method : (d : ℕ) (long : Bool) (t : Tree) (xs ys : List Token) → DerivesMethod None None t xs ys → length xs < suc d → Reads (item (suc d) long) t xs ys
plain-method d long t [] ys m less = absurd (let e = method-begins None None t [] ys m in cc)
plain-method d long t (k ∷ ks) ys m less =
    let is = same _ _ (method-begins None None t (k ∷ ks) ys m) in
    let r = defined-read (suc d) None None t (k ∷ ks) ys m less in
    (item-as d long openings.Method (k ∷ ks) _ (opens-by shape.Def k ks is) (method-as (suc d) None (k ∷ ks) _ (def-plain k ks is) r.0), r.1)

visible-method : (d : ℕ) (long : Bool) (v : Token) (w : List ℕ) (word : Visibility) (t : Tree) (xs ys : List Token) → IsIdentifier v w → IsRow VISIBILITIES w word → DerivesMethod (Some word) (Some v) t xs ys → length (v ∷ xs) < suc d →
    Reads (item (suc d) long) t (v ∷ xs) ys
visible-method d long v w word t xs ys is row m less =
    let seen = visible-word v w word xs is row (method-begins (Some word) (Some v) t xs ys m) in
    let r = defined-read (suc d) (Some word) (Some v) t xs ys m (let h : length xs < suc d = omega arith in h) in
    (item-as d long openings.Method (v ∷ xs) _ (opens-by shape.Identifier v xs (identifier v w is) ∙ ap (λ o. by_visible (is_some o)) seen) (method-as (suc d) (Some word) (v ∷ xs) _ seen r.0), past-token v (past-within r.1))

declaration-read : (d : ℕ) (at : Site) → ReadsItems Member d (item d false) → (t : Tree) (xs ys : List Token) → DerivesDeclaration at t xs ys → length xs < suc d → Reads (item (suc d) (is_top at)) t xs ys
declaration-read d at ih t xs ys (ClassOf _ k s e names above b us ps qs _ is hn ha sep hb end) less =
    let c = class-read d (is_top at) k names above us ps s qs is hn ha sep (let h : length us < d = omega arith in h) in
    let r = namespace-read d (is_top at) (item d false) ih (heads.Class k.span.start names above) b k us qs e ys c.0 c.1 hb end (let h : length us < d = omega arith in h) in
    (item-as d (is_top at) openings.Namespace (k ∷ us) _ (opens-by shape.Class k us is) r.0, r.1)
declaration-read d at ih t xs ys (ModuleOf _ k s e names b us qs _ is hn sep hb end) less =
    let c = module-read d (is_top at) k names us s qs is hn sep (let h : length us < d = omega arith in h) in
    let r = namespace-read d (is_top at) (item d false) ih (heads.Module k.span.start names) b k us qs e ys c.0 c.1 hb end (let h : length us < d = omega arith in h) in
    (item-as d (is_top at) openings.Namespace (k ∷ us) _ (opens-by shape.Module k us is) r.0, r.1)
declaration-read d at ih t xs ys (Method _ _ _ _ m) less = plain-method d (is_top at) t xs ys m less
declaration-read d at ih t xs ys (VisibleMethod _ v w word _ us _ is row m) less = visible-method d (is_top at) v w word t us ys is row m less

-- a name alone is a statement
name-statement : (d : ℕ) (t : Token) (w : List ℕ) (ts : List Token) → IsIdentifier t w → Ends STATEMENT_ENDS true ts → length (t ∷ ts) < d → statement d true (t ∷ ts) ≡ Ok (tree.Name w t.span, ts)
unfolding statement
name-statement d t w ts is ends less =
    let nine : DerivesLevel 9 true (tree.Name w t.span) (t ∷ ts) ts = Plainly _ _ _ _ (Posted _ _ _ _ _ _ (Bare _ _ _ _ _ (NameAlone _ _ _ _ is))) in
    let zero' : DerivesLevel 0 true (tree.Name w t.span) (t ∷ ts) ts = down 9 nine (let h : 9 ≤ 9 = omega arith in h) in
    (simply-read (parsed d) d (complete d) true true (tree.Name w t.span) (tree.Name w t.span) (t ∷ ts) ts ts (Valued _ _ _ _ _ (Term _ _ _ _ _ (Operated _ _ _ _ zero'))) (Unmodified _ _ _) ends less).0
  where
    down : (n : ℕ) → DerivesLevel n true (tree.Name w t.span) (t ∷ ts) ts → n ≤ 9 → DerivesLevel 0 true (tree.Name w t.span) (t ∷ ts) ts
    down zero h le = h
    down (suc n) h le = down n (Tighter _ _ _ _ _ (let l : n < 9 = omega arith in l) h) (let l : n ≤ 9 = omega arith in l)

rest-same : (o : Outcome Tree) (t u : Tree) (xs ys : List Token) → o ≡ Ok (t, xs) → o ≡ Ok (u, ys) → xs ≡ ys
rest-same o t u xs ys e f = ap left (sym e ∙ f)
  where
    left : Outcome Tree → List Token
    left (Ok p) = p.1
    left (Err rest) = rest

def-ends : (ts : List Token) → sees shape.Def ts ≡ true → Ends STATEMENT_ENDS true ts
unfolding same_shape
def-ends [] e = absurd (cc)
def-ends (t ∷ ts) e = ends-by STATEMENT_ENDS shape.Def refl refl true t ts (same _ _ e)

-- where another statement is read, no visibility stands in front of a `def`
none-visible : (d : ℕ) (t : Token) (ts : List Token) (u : Tree) (ys : List Token) → statement d true (t ∷ ts) ≡ Ok (u, ys) → Ends ITEM_ENDS true ys → length (t ∷ ts) < d → is_some (visibility (t ∷ ts)) ≡ false
unfolding visibility same_shape
none-visible d t ts u ys e ends less = go t.kind refl
  where
    by-word : (w : List ℕ) → t.kind ≡ kind.Identifier w → (b : Bool) → sees shape.Def ts ≡ b → is_some (if b then visibility_of w else None) ≡ false
    by-word w is false f = refl
    by-word w is true f = absurd (let h = rest-same _ _ _ ts ys (name-statement d t w ts is (def-ends ts f) less) e in let g = ends-unseen shape.Def ITEM_ENDS refl true ys ends in let k : false ≡ true = sym g ∙ ap (λ us. sees shape.Def us) (sym h) ∙ f in cc)

    go : (k : TokenKind) → t.kind ≡ k → is_some (visibility (record { kind = k; span = t.span } ∷ ts)) ≡ false
    go (kind.Identifier w) is = by-word w is (sees shape.Def ts) refl
    go k is = refl

simple-read : (d : ℕ) (long : Bool) (s t : Tree) (xs ps ys : List Token) → DerivesSimple true true s xs ps → DerivesModified true s t ps ys → Ends ITEM_ENDS true ys → length xs < suc d → Reads (item (suc d) long) t xs ys
unfolding statement is_other same_shape
simple-read d long s t [] ps ys h m ends less = absurd (simple-begins true true s [] ps h)
simple-read d long s t (x ∷ xs) ps ys h m ends less =
    let r = simply-read (parsed (suc d)) (suc d) (complete (suc d)) true true s t (x ∷ xs) ps ys h m (ends-wider ITEM_ENDS STATEMENT_ENDS refl true ys ends) less in
    let o = other-opens (shape_of x.kind) (is_some (visibility (x ∷ xs))) (each is_other SIMPLE refl _ (simple-begins true true s (x ∷ xs) ps h)) in
    (item-as d long openings.Statement (x ∷ xs) _ (o ∙ ap by_visible (none-visible (suc d) x xs t ys r.0 ends less)) r.0, r.1)

item-by : (d : ℕ) (at : Site) → is_open at ≡ true → ReadsItems Member d (item d false) → ReadsItems at (suc d) (item (suc d) (is_top at))
item-by d at is ih t xs ys (Declared _ _ _ _ _ k h) ends less = declaration-read d at ih t xs ys h less
item-by d at is ih t xs ys (Simply _ _ s _ _ ps _ h m) ends less = simple-read d (is_top at) s t xs ps ys (subst (λ b. DerivesSimple b true s xs ps) is h) m ends less

pub item-read : (d : ℕ) (at : Site) → is_open at ≡ true → ReadsItems at d (item d (is_top at))
item-read zero at open' t xs ys h ends less = absurd (let k : ⊥ = omega arith in k)
item-read (suc d) at open' t xs ys h ends less = item-by d at open' (λ t xs ys h ends less. item-read d Member refl t xs ys h ends less) t xs ys h ends less

-- ---- programs

abbrev program_by : Outcome (List Tree) → Result Tree (List Token)
program_by (Ok (found, [])) = Ok (spec.body_of found)
program_by (Ok (found, t ∷ ts)) = Err (t ∷ ts)
program_by (Err rest) = Err rest

pub program-answers : (d : ℕ) (tokens : List Token) (t : Tree) → Derives tokens t → length tokens < d → program d tokens ≡ Ok t
unfolding program
program-answers d tokens t h less =
    let r = body-read Top d (item d true) (item-read d Top refl) d t tokens [] h tt less less in
    ap program_by r.1 ∙ ap Ok r.2
