-- Methods that are read derive.
use Rattle.std.proofs.Common.{◌≡◌, ℕ, zero, suc, Bool, true, false, ◌==◌, if◌then◌else◌, List, [], ◌∷◌, ◌++◌, length, Option, Some, None, is_some, Ok, Err, inl, inr, refl, sym, ap, subst, codes, bytes_eq}
use Rattle.std.proofs.lemmas.Slice.Eq.{bytes_eq-Decides}
use denote.Enum.Bare.{true_same}
use Rattle.srb_terms.specs.declared.span.Span.{Span}
use Rattle.rb_tree.specs.contracts.token.Shape.{the_type}
use Rattle.rb_tree.specs.Tokens.{shape_of, same_shape}
use Rattle.rb_tree.specs.declared.syntax.Guarded.{Guarded}
use Rattle.rb_tree.specs.declared.syntax.PlacedName.{PlacedName}
use Rattle.rb_tree.specs.declared.syntax.Tree.{Tree}
use Rattle.rb_tree.specs.declared.syntax.Visibility.{Visibility}
use Rattle.rb_tree.specs.declared.token.Token.{Token}
use Rattle.rb_tree.specs.declared.token.TokenKind.{TokenKind}
use Rattle.rb_tree.specs.declared.token.TokenKind.TheVariants as kind
use Rattle.rb_tree.specs.declared.token.Shape.{Shape}
use Rattle.rb_tree.specs.declared.token.Shape.TheVariants as shape
use Rattle.rb_expr.specs.declared.form.Form.TheVariants as form
use Rattle.rb_expr.specs.Grammar.{parsed}
use Rattle.rb_expr.specs.Reading.{sees, skip_separators}
use Rattle.rb_expr.specs.Rules.{guarded}
use Rattle.rb_expr.specs.Statements as statements
use Rattle.rb_decl.specs.declared.method.Head.{Head}
use Rattle.rb_decl.specs.Methods.{visibility_of, visibility, operator_text, operator_name, plain_name, method_name, own, method_head, tree_of, defined, method}
use Rattle.rb_rules.specs.Tokens.{Is, IsIdentifier}
use Rattle.rb_rules.specs.Spans.{across}
use Rattle.rb_rules.specs.Forms.{Site, METHODS}
use Rattle.rb_rules.specs.Grammar.{IsRow, VISIBILITIES, front_span, MethodName, Owner, DerivesGuarded, DerivesDeclaration, DerivesMethod}
use Rattle.rb_rules.specs.Grammar.MethodName.{Plain, Writer, Capital, Operator}
use Rattle.rb_rules.specs.Grammar.Owner.{Other, Own}
use Rattle.rb_rules.specs.Grammar.DerivesMethod.{Def}
use Rattle.rb_rules.specs.Grammar.DerivesDeclaration.{Method, VisibleMethod}
use Rattle.rb_grammar.proofs.Steps.{Holds, answered, refused, step, weaker, choosing, taking, taking-this, follow, testing, Within, within-self, within-token, within-more}
use Rattle.rb_grammar.proofs.Branches as branches
use Rattle.rb_grammar.proofs.Forms.{sound}
use Rattle.rb_grammar.proofs.Parameters.{Links, parameters-holds}

-- ---- the name

-- what the table of operators says of a spelling
abbrev Spelled : Shape → List ℕ → Type 0
Spelled s [] = Unit {0}
Spelled s (c ∷ cs) = IsRow METHODS s (c ∷ cs)

spelled : (s : Shape) → Spelled s (operator_text s)
unfolding operator_text
spelled shape.Plus = inl (refl, refl)
spelled shape.Minus = inr (inl (refl, refl))
spelled shape.Star = inr (inr (inl (refl, refl)))
spelled shape.Slash = inr (inr (inr (inl (refl, refl))))
spelled shape.Percent = inr (inr (inr (inr (inl (refl, refl)))))
spelled shape.Power = inr (inr (inr (inr (inr (inl (refl, refl))))))
spelled shape.Equal = inr (inr (inr (inr (inr (inr (inl (refl, refl)))))))
spelled shape.CaseEqual = inr (inr (inr (inr (inr (inr (inr (inl (refl, refl))))))))
spelled shape.Compare = inr (inr (inr (inr (inr (inr (inr (inr (inl (refl, refl)))))))))
spelled shape.Less = inr (inr (inr (inr (inr (inr (inr (inr (inr (inl (refl, refl))))))))))
spelled shape.Greater = inr (inr (inr (inr (inr (inr (inr (inr (inr (inr (inl (refl, refl)))))))))))
spelled shape.LessEqual = inr (inr (inr (inr (inr (inr (inr (inr (inr (inr (inr (inl (refl, refl))))))))))))
spelled shape.GreaterEqual = inr (inr (inr (inr (inr (inr (inr (inr (inr (inr (inr (inr (inl (refl, refl)))))))))))))
spelled shape.ShiftLeft = inr (inr (inr (inr (inr (inr (inr (inr (inr (inr (inr (inr (inr (inl (refl, refl))))))))))))))
spelled shape.ShiftRight = inr (inr (inr (inr (inr (inr (inr (inr (inr (inr (inr (inr (inr (inr (inl (refl, refl)))))))))))))))
spelled shape.Ampersand = inr (inr (inr (inr (inr (inr (inr (inr (inr (inr (inr (inr (inr (inr (inr (inl (refl, refl))))))))))))))))
spelled shape.Pipe = inr (inr (inr (inr (inr (inr (inr (inr (inr (inr (inr (inr (inr (inr (inr (inr (inl (refl, refl)))))))))))))))))
spelled shape.Caret = inr (inr (inr (inr (inr (inr (inr (inr (inr (inr (inr (inr (inr (inr (inr (inr (inr (inl (refl, refl))))))))))))))))))
spelled shape.Not = inr (inr (inr (inr (inr (inr (inr (inr (inr (inr (inr (inr (inr (inr (inr (inr (inr (inr (inl (refl, refl)))))))))))))))))))
spelled shape.Tilde = inr (inr (inr (inr (inr (inr (inr (inr (inr (inr (inr (inr (inr (inr (inr (inr (inr (inr (inr (inl (refl, refl))))))))))))))))))))
spelled shape.Index = inr (inr (inr (inr (inr (inr (inr (inr (inr (inr (inr (inr (inr (inr (inr (inr (inr (inr (inr (inr (inl (refl, refl)))))))))))))))))))))
spelled shape.IndexAssign = inr (inr (inr (inr (inr (inr (inr (inr (inr (inr (inr (inr (inr (inr (inr (inr (inr (inr (inr (inr (inr (inl (refl, refl))))))))))))))))))))))
spelled shape.UnaryMinus = inr (inr (inr (inr (inr (inr (inr (inr (inr (inr (inr (inr (inr (inr (inr (inr (inr (inr (inr (inr (inr (inr (inl (refl, refl)))))))))))))))))))))))
spelled shape.UnaryPlus = inr (inr (inr (inr (inr (inr (inr (inr (inr (inr (inr (inr (inr (inr (inr (inr (inr (inr (inr (inr (inr (inr (inr (inl (refl, refl))))))))))))))))))))))))
spelled s = tt

abbrev AName : List Token → PlacedName → List Token → Type 0
AName xs n ys = MethodName n.name n.span xs ys × Within xs ys

operator-holds : (t : Token) (ts : List Token) → Holds (operator_name (shape_of t.kind) t.span (t ∷ ts) ts) (AName (t ∷ ts))
operator-holds t ts = go (operator_text (shape_of t.kind)) (spelled (shape_of t.kind))
  where
    go : (w : List ℕ) → Spelled (shape_of t.kind) w → Holds (if length w == 0 then Err (t ∷ ts) else Ok (record { name = w; span = t.span }, ts)) (AName (t ∷ ts))
    go [] row = refused _ _
    go (c ∷ cs) row = choosing (length (c ∷ cs) == 0) (λ e. refused _ _) (λ e. answered (AName (t ∷ ts)) (record { name = c ∷ cs; span = t.span }) ts (Operator _ _ _ row, within-token t (within-self _)))

plain-holds : (t : Token) (w : List ℕ) (ts : List Token) → IsIdentifier t w → Holds (plain_name w t.span ts) (AName (t ∷ ts))
unfolding plain_name
plain-holds t w ts is = choosing (sees shape.Assign ts)
    (λ e. taking shape.Assign (λ us. AName (t ∷ us)) _ ts (λ a as' assign. answered (AName (t ∷ a ∷ as')) (record { name = w ++ codes "="; span = across t.span a.span }) as' (Writer _ _ _ _ is assign, within-token t (within-token a (within-self _)))))
    (λ e. answered (AName (t ∷ ts)) (record { name = w; span = t.span }) ts (Plain _ _ _ is, within-token t (within-self _)))

name-at : (k : TokenKind) (s : Span) (ts : List Token) → Holds (method_name (record { kind = k; span = s } ∷ ts)) (AName (record { kind = k; span = s } ∷ ts))
unfolding method_name
name-at (kind.Identifier w) s ts = plain-holds (record { kind = kind.Identifier w; span = s }) w ts refl
name-at (kind.Constant w) s ts = answered (AName (record { kind = kind.Constant w; span = s } ∷ ts)) (record { name = w; span = s }) ts (Capital (record { kind = kind.Constant w; span = s }) w ts refl, within-token (record { kind = kind.Constant w; span = s }) (within-self _))
name-at k s ts = operator-holds (record { kind = k; span = s }) ts

name-holds : (xs : List Token) → Holds (method_name xs) (AName xs)
unfolding method_name
name-holds [] = refused _ _
name-holds (t ∷ ts) = name-at t.kind t.span ts

abbrev AnOwner : List Token → Bool → List Token → Type 0
AnOwner xs b ys = Owner b xs ys × Within xs ys

own-holds : (xs : List Token) → Holds (own xs) (AnOwner xs)
unfolding own
own-holds [] = answered (AnOwner []) false [] (Other _, within-self _)
own-holds (s ∷ ss) = testing
    (λ is. taking shape.Dot (λ us. AnOwner (s ∷ us)) _ ss (λ d ds dot. answered (AnOwner (s ∷ d ∷ ds)) true ds (Own _ _ _ is dot, within-token s (within-token d (within-self _)))))
    (λ other. answered (AnOwner (s ∷ ss)) false (s ∷ ss) (Other _, within-self _))

-- ---- the whole

abbrev ABody : ℕ → List Token → Tree → List Token → Type 0
ABody d zs t ys = branches.ABody (parsed d) (sound d) d true zs t ys

abbrev AGuarded : ℕ → List Token → Guarded Tree → List Token → Type 0
AGuarded d zs g ys = branches.AGuarded (parsed d) (sound d) d true zs g ys

-- one more separator before a body is passed over
separator-after : (d : ℕ) (s : Token) (zs : List Token) → Is shape.Separator s → Holds (parsed d form.Body true zs) (ABody d zs) → Holds (parsed d form.Body true (s ∷ zs)) (ABody d zs)
unfolding parsed statements.body same_shape
separator-after zero s zs is h = refused _ _
separator-after (suc d) s zs is h =
    let separator : same_shape (shape_of s.kind) shape.Separator ≡ true = true_same the_type _ _ is in
    let skips : skip_separators (s ∷ zs) ≡ skip_separators zs = ap (λ b. if b then skip_separators zs else s ∷ zs) separator in
    subst (λ us. Holds (statements.statements (parsed d) d true false us) (ABody (suc d) zs)) (sym skips) h

body-after : (d : ℕ) (zs ys : List Token) → Links zs ys → Holds (parsed d form.Body true ys) (ABody d zs)
body-after d zs ys (inl e) = subst (λ us. Holds (parsed d form.Body true us) (ABody d zs)) (sym e) ((sound d).body true zs)
body-after d zs ys (inr h) = subst (λ us. Holds (parsed d form.Body true us) (ABody d zs)) (sym h.2) (separator-after d h.0 zs h.1 ((sound d).body true zs))

guarded-after : (d : ℕ) (zs ys : List Token) → Links zs ys → Holds (guarded d ys) (AGuarded d zs)
unfolding guarded
guarded-after d zs ys l = branches.guarded-after (parsed d) (sound d) d true zs ys (body-after d zs ys l)

within-links : (zs ys us : List Token) → Links zs ys → Within zs us → Within ys us
within-links zs ys us (inl e) w = subst (λ qs. Within qs us) (sym e) w
within-links zs ys us (inr h) w = subst (λ qs. Within qs us) (sym h.2) (within-token h.0 w)

-- what stands before the body, so that with a body and its `end` it is a method
abbrev AHead : Option Visibility → Option Token → Token → List Token → Head → List Token → Type 0
AHead shown front k ks h ys = (zs : List Token) × Links zs ys × Within ks ys × ((g : Guarded Tree) (e : Token) (us : List Token) → DerivesGuarded true g zs (e ∷ us) → Is shape.End e → DerivesMethod shown front (tree_of h g e.span.end) (k ∷ ks) us)

head-holds : (d : ℕ) (shown : Option Visibility) (front : Option Token) (k : Token) (ks : List Token) → Holds (method_head d shown (front_span k front).start (k ∷ ks)) (AHead shown front k ks)
unfolding method_head
head-holds d shown front k ks = taking-this shape.Def (AHead shown front k ks) _ k ks (λ is. step (own-holds ks) (λ o ps ho. step (name-holds ps) (λ n qs hn. step (parameters-holds d qs) (λ found ys hp.
    answered (AHead shown front k ks) (record { visibility = shown; start = (front_span k front).start; own = o; name = n; parameters = found }) ys
    (hp.0, hp.4, within-more ho.1 (within-more hn.1 hp.5), λ g e us hg ends. Def _ _ _ _ _ _ _ _ _ _ _ _ _ _ is ho.0 hn.0 hp.1 hp.2 hp.3 hg ends)))))

abbrev AMethod : Option Visibility → Option Token → List Token → Tree → List Token → Type 0
AMethod shown front xs t ys = DerivesMethod shown front t xs ys × Within xs ys

defined-holds : (d : ℕ) (shown : Option Visibility) (front : Option Token) (k : Token) (ks : List Token) → Holds (defined d shown (front_span k front).start (k ∷ ks)) (AMethod shown front (k ∷ ks))
unfolding defined
defined-holds d shown front k ks = step (head-holds d shown front k ks) (λ h ps hh. step (guarded-after d hh.0 ps hh.1) (λ g qs hg.
    follow shape.End (λ us. AGuarded d hh.0 g us) _ _ _ hg (λ e ys ends hg. answered (AMethod shown front (k ∷ ks)) (tree_of h g e.span.end) ys
    (hh.3 g e ys hg.0 ends, within-token k (within-more hh.2 (within-more (within-links hh.0 ps (e ∷ ys) hh.1 hg.1) (within-token e (within-self ys))))))))

-- ---- the visibility

choice : {X : Type 0} (P : X → Type 0) (b : Bool) {x y : X} → (b ≡ true → P x) → (b ≡ false → P y) → P (if b then x else y)
choice P true h k = h refl
choice P false h k = k refl

-- what a visibility says of the token that gives it
abbrev Shown : Token → List ℕ → Option Visibility → Type 0
Shown v w None = Unit {0}
Shown v w (Some word) = IsIdentifier v w × IsRow VISIBILITIES w word

is-spelled : (w v : List ℕ) → bytes_eq w v ≡ true → w ≡ v
is-spelled w v e = (bytes_eq-Decides w v).0 e

shown-word : (v : Token) (w : List ℕ) → IsIdentifier v w → Shown v w (visibility_of w)
shown-word v w is = choice (Shown v w) (bytes_eq w (codes "private")) (λ e. (is, inl (is-spelled _ _ e, refl)))
    (λ e. choice (Shown v w) (bytes_eq w (codes "protected")) (λ e. (is, inr (inl (is-spelled _ _ e, refl))))
    (λ e. choice (Shown v w) (bytes_eq w (codes "public")) (λ e. (is, inr (inr (inl (is-spelled _ _ e, refl)))))
    (λ e. choice (Shown v w) (bytes_eq w (codes "private_class_method")) (λ e. (is, inr (inr (inr (inl (is-spelled _ _ e, refl)))))) (λ e. tt))))

-- for some spelling
abbrev Shows : Token → Option Visibility → Type 0
Shows v o = (w : List ℕ) × Shown v w o

shows-at : (k : TokenKind) (s : Span) (vs : List Token) → Shows (record { kind = k; span = s }) (visibility (record { kind = k; span = s } ∷ vs))
unfolding visibility
shows-at (kind.Identifier w) s vs = choice (Shows (record { kind = kind.Identifier w; span = s })) (sees shape.Def vs) (λ e. (w, shown-word (record { kind = kind.Identifier w; span = s }) w refl)) (λ e. (w, tt))
shows-at k s vs = ([], tt)

abbrev pub ADeclared : List Token → Tree → List Token → Type 0
ADeclared xs t ys = ((at : Site) → DerivesDeclaration at t xs ys) × Within xs ys

method-by : (d : ℕ) (v : Token) (vs : List Token) (o : Option Visibility) → Shows v o → Holds (if is_some o then defined d o v.span.start vs else defined d o v.span.start (v ∷ vs)) (ADeclared (v ∷ vs))
unfolding defined method_head
method-by d v vs None h = weaker (defined-holds d None None v vs) (λ t ys k. ((λ at. Method _ _ _ _ k.0), k.1))
method-by d v [] (Some word) h = refused _ _
method-by d v (k ∷ ks) (Some word) h = weaker (defined-holds d (Some word) (Some v) k ks) (λ t ys m. ((λ at. VisibleMethod _ _ _ _ _ _ _ h.1.0 h.1.1 m.0), within-token v m.1))

pub method-holds : (d : ℕ) (xs : List Token) → Holds (method d xs) (ADeclared xs)
unfolding method visibility defined method_head
method-holds d [] = refused _ _
method-holds d (v ∷ vs) = method-by d v vs (visibility (v ∷ vs)) (shows-at v.kind v.span vs)
