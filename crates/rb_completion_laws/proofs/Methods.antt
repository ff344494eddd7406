-- Methods that are begun can be completed.
use Rattle.std.proofs.Common.{◌≡◌, ℕ, suc, ◌==◌, Bool, true, false, if◌then◌else◌, List, [], ◌∷◌, length, Option, Some, None, is_some, Ok, Err, codes, inl, inr, refl, sym, ap, subst, bytes_eq}
use Rattle.std.proofs.lemmas.Slice.Eq.{bytes_eq-Decides}
use denote.Enum.Bare.{true_same}
use Rattle.srb_terms.specs.declared.span.Span.{Span}
use Rattle.rb_tree.specs.contracts.token.Shape.{the_type}
use Rattle.rb_tree.specs.Tokens.{shape_of, same_shape}
use Rattle.rb_tree.specs.declared.syntax.Guarded.{Guarded}
use Rattle.rb_tree.specs.declared.syntax.PlacedName.{PlacedName}
use Rattle.rb_tree.specs.declared.syntax.Tree.{Tree}
use Rattle.rb_tree.specs.declared.syntax.Visibility.{Visibility}
use Rattle.rb_tree.specs.declared.token.Token.{Token}
use Rattle.rb_tree.specs.declared.token.TokenKind.{TokenKind}
use Rattle.rb_tree.specs.declared.token.TokenKind.TheVariants as kind
use Rattle.rb_tree.specs.declared.token.Shape.{Shape}
use Rattle.rb_tree.specs.declared.token.Shape.TheVariants as shape
use Rattle.rb_expr.specs.Grammar.{parsed}
use Rattle.rb_expr.specs.Reading.{Outcome, and_then, sees, skip_separators}
use Rattle.rb_expr.specs.Rules.{guarded}
use Rattle.rb_expr.specs.Branches as branches
use Rattle.rb_expr.specs.Statements as statements
use Rattle.rb_decl.specs.declared.method.Head.{Head}
use Rattle.rb_decl.specs.Methods.{visibility, visibility_of, operator_text, operator_name, plain_name, method_name, own, method_head, defined, method}
use Rattle.rb_rules.specs.Tokens.{Is, IsIdentifier}
use Rattle.rb_rules.specs.Forms.{Site, METHODS}
use Rattle.rb_rules.specs.Grammar.{IsRow, VISIBILITIES, MethodName, Owner, DerivesGuarded, DerivesMethod, DerivesDeclaration}
use Rattle.rb_rules.specs.Grammar.MethodName.{Plain as PlainName, Writer, Capital, Operator}
use Rattle.rb_rules.specs.Grammar.Owner.{Other, Own}
use Rattle.rb_rules.specs.Grammar.DerivesMethod.{Def}
use Rattle.rb_rules.specs.Grammar.DerivesDeclaration.{Method, VisibleMethod}
use Rattle.rb_grammar.proofs.Parameters.{Links}
use Rattle.rb_completion_laws.proofs.Steps.{Rel, Reach, Completes, Stands, Seq, seq-stands, reach-as, reach-more, reach-this, complete-as, complete-then, complete-after, Goes, bind, goes-as, choosing, Plain, plainly, seq, done, refusing, answering, headed, One, new_token, one-stands, expecting, if-seen, Perhaps, nothing, something, before-one}
use Rattle.rb_completion_laws.proofs.Branches.{end-stands, guarded-stands}
use Rattle.rb_completion_laws.proofs.Forms.{viable, a-guarded-goes}
use Rattle.rb_completion_laws.proofs.Parameters.{assign-one, Parameters, parameters-stand, parameters-go}

-- ---- the name

-- what the table of operators says of a spelling
abbrev Spelled : Shape → List ℕ → Type 0
Spelled s [] = Unit {0}
Spelled s (c ∷ cs) = IsRow METHODS s (c ∷ cs)

spelled : (s : Shape) → Spelled s (operator_text s)
unfolding operator_text
spelled shape.Plus = inl (refl, refl)
spelled shape.Minus = inr (inl (refl, refl))
spelled shape.Star = inr (inr (inl (refl, refl)))
spelled shape.Slash = inr (inr (inr (inl (refl, refl))))
spelled shape.Percent = inr (inr (inr (inr (inl (refl, refl)))))
spelled shape.Power = inr (inr (inr (inr (inr (inl (refl, refl))))))
spelled shape.Equal = inr (inr (inr (inr (inr (inr (inl (refl, refl)))))))
spelled shape.CaseEqual = inr (inr (inr (inr (inr (inr (inr (inl (refl, refl))))))))
spelled shape.Compare = inr (inr (inr (inr (inr (inr (inr (inr (inl (refl, refl)))))))))
spelled shape.Less = inr (inr (inr (inr (inr (inr (inr (inr (inr (inl (refl, refl))))))))))
spelled shape.Greater = inr (inr (inr (inr (inr (inr (inr (inr (inr (inr (inl (refl, refl)))))))))))
spelled shape.LessEqual = inr (inr (inr (inr (inr (inr (inr (inr (inr (inr (inr (inl (refl, refl))))))))))))
spelled shape.GreaterEqual = inr (inr (inr (inr (inr (inr (inr (inr (inr (inr (inr (inr (inl (refl, refl)))))))))))))
spelled shape.ShiftLeft = inr (inr (inr (inr (inr (inr (inr (inr (inr (inr (inr (inr (inr (inl (refl, refl))))))))))))))
spelled shape.ShiftRight = inr (inr (inr (inr (inr (inr (inr (inr (inr (inr (inr (inr (inr (inr (inl (refl, refl)))))))))))))))
spelled shape.Ampersand = inr (inr (inr (inr (inr (inr (inr (inr (inr (inr (inr (inr (inr (inr (inr (inl (refl, refl))))))))))))))))
spelled shape.Pipe = inr (inr (inr (inr (inr (inr (inr (inr (inr (inr (inr (inr (inr (inr (inr (inr (inl (refl, refl)))))))))))))))))
spelled shape.Caret = inr (inr (inr (inr (inr (inr (inr (inr (inr (inr (inr (inr (inr (inr (inr (inr (inr (inl (refl, refl))))))))))))))))))
spelled shape.Not = inr (inr (inr (inr (inr (inr (inr (inr (inr (inr (inr (inr (inr (inr (inr (inr (inr (inr (inl (refl, refl)))))))))))))))))))
spelled shape.Tilde = inr (inr (inr (inr (inr (inr (inr (inr (inr (inr (inr (inr (inr (inr (inr (inr (inr (inr (inr (inl (refl, refl))))))))))))))))))))
spelled shape.Index = inr (inr (inr (inr (inr (inr (inr (inr (inr (inr (inr (inr (inr (inr (inr (inr (inr (inr (inr (inr (inl (refl, refl)))))))))))))))))))))
spelled shape.IndexAssign = inr (inr (inr (inr (inr (inr (inr (inr (inr (inr (inr (inr (inr (inr (inr (inr (inr (inr (inr (inr (inr (inl (refl, refl))))))))))))))))))))))
spelled shape.UnaryMinus = inr (inr (inr (inr (inr (inr (inr (inr (inr (inr (inr (inr (inr (inr (inr (inr (inr (inr (inr (inr (inr (inr (inl (refl, refl)))))))))))))))))))))))
spelled shape.UnaryPlus = inr (inr (inr (inr (inr (inr (inr (inr (inr (inr (inr (inr (inr (inr (inr (inr (inr (inr (inr (inr (inr (inr (inr (inl (refl, refl))))))))))))))))))))))))
spelled s = tt

abbrev AName : Rel
AName us zs = (w : List ℕ) × (s : Span) × MethodName w s us zs

name-stands : Stands AName
unfolding shape_of
name-stands zs c = record { whole = new_token (kind.Identifier []) ∷ zs; clear = refl; derives = ([], _, PlainName (new_token (kind.Identifier [])) [] _ refl) }

-- a name that is one token
alone : {A : Type 0} (a : A) (t : Token) (ts : List Token) → ((zs : List Token) → AName (t ∷ zs) zs) → Plain (t ∷ ts) (Ok (a, ts)) AName
alone a t ts d = record { told = reach-as (reach-this t ts) (λ us zs h. subst (λ v. AName v zs) (sym h) (d zs)) }

operator-goes : (t : Token) (ts : List Token) → Plain (t ∷ ts) (operator_name (shape_of t.kind) t.span (t ∷ ts) ts) AName
operator-goes t ts = go (operator_text (shape_of t.kind)) (spelled (shape_of t.kind))
  where
    go : (w : List ℕ) → Spelled (shape_of t.kind) w → Plain {A = PlacedName} (t ∷ ts) (if length w == 0 then Err (t ∷ ts) else Ok (record { name = w; span = t.span }, ts)) AName
    go [] row = refusing _ name-stands
    go (c ∷ cs) row = choosing (length (c ∷ cs) == 0) (λ e. refusing _ name-stands) (λ e. alone (record { name = c ∷ cs; span = t.span }) t ts (λ zs. (c ∷ cs, t.span, Operator _ _ _ row)))

plain-made : (t : Token) (w : List ℕ) → IsIdentifier t w → (us zs : List Token) → Perhaps (One shape.Assign) us zs → AName (t ∷ us) zs
plain-made t w is us zs (inl e) = subst (λ v. AName (t ∷ us) v) e (w, t.span, PlainName _ _ _ is)
plain-made t w is us zs (inr h) = subst (λ v. AName (t ∷ v) zs) (sym h.2) (_, _, Writer _ _ _ _ is h.1)

plain-goes : (t : Token) (w : List ℕ) (ts : List Token) → IsIdentifier t w → Plain (t ∷ ts) (plain_name w t.span ts) AName
unfolding plain_name
plain-goes t w ts is = headed t (plainly (choosing (sees shape.Assign ts) (λ e. something (answering _ (expecting shape.Assign assign-one ts))) (λ e. nothing _ ts)) (plain-made t w is))

name-at : (k : TokenKind) (s : Span) (ts : List Token) → Plain (record { kind = k; span = s } ∷ ts) (method_name (record { kind = k; span = s } ∷ ts)) AName
unfolding method_name
name-at (kind.Identifier w) s ts = plain-goes (record { kind = kind.Identifier w; span = s }) w ts refl
name-at (kind.Constant w) s ts = alone _ (record { kind = kind.Constant w; span = s }) ts (λ zs. (w, s, Capital (record { kind = kind.Constant w; span = s }) w zs refl))
name-at k s ts = operator-goes (record { kind = k; span = s }) ts

name-goes : (xs : List Token) → Plain xs (method_name xs) AName
unfolding method_name
name-goes [] = refusing [] name-stands
name-goes (t ∷ ts) = name-at t.kind t.span ts

abbrev AnOwner : Rel
AnOwner us zs = (b : Bool) × Owner b us zs

owner-stands : Stands AnOwner
owner-stands zs c = record { whole = zs; clear = c; derives = (false, Other _) }

dot-one : Stands (One shape.Dot)
unfolding shape_of
dot-one = one-stands kind.Dot shape.Dot refl (λ zs. refl)

own-goes : (xs : List Token) → Plain xs (own xs) AnOwner
unfolding own
own-goes xs = if-seen shape.SelfWord (λ ts. _) xs
    (λ s ss is. plainly (answering (λ _. true) (expecting shape.Dot dot-one ss)) (λ us zs h. subst (λ v. AnOwner (s ∷ v) zs) (sym h.2) (true, Own _ _ _ is h.1)))
    (done false xs (λ zs. (false, Other _)))

-- ---- the whole

abbrev AGuarded : Rel
AGuarded us zs = (g : Guarded Tree) × DerivesGuarded true g us zs

-- what is read after a body
abbrev after_body : ℕ → Outcome Tree → Outcome (Guarded Tree)
after_body d o = and_then o (λ body. λ ps. and_then (branches.rescues (parsed (suc d)) (suc d) true ps) (λ clauses. λ qs. and_then (branches.otherwise_after (parsed (suc d)) (suc d) true clauses qs) (λ other. λ rs.
    and_then (branches.ensure (parsed (suc d)) (suc d) true rs) (λ last. λ us. Ok (record { body = body; rescues = clauses; otherwise = other; ensure = last }, us)))))

-- one more separator before a body is passed over
skips : (d : ℕ) (s : Token) (ws : List Token) → Is shape.Separator s → guarded (suc d) (s ∷ ws) ≡ guarded (suc d) ws
unfolding guarded branches.guarded parsed statements.body same_shape
skips d s ws is =
    let separator : same_shape (shape_of s.kind) shape.Separator ≡ true = true_same the_type _ _ is in
    ap (λ b. after_body d (statements.statements (parsed d) d true false (if b then skip_separators ws else s ∷ ws))) separator

guarded-after : (d : ℕ) (ws ys : List Token) → Links ws ys → Plain ws (guarded (suc d) ys) AGuarded
guarded-after d ws ys (inl e) = subst (λ us. Plain ws (guarded (suc d) us) AGuarded) (sym e) (a-guarded-goes (suc d) ws)
guarded-after d ws ys (inr h) = subst (λ us. Plain ws (guarded (suc d) us) AGuarded) (sym h.2) (subst (λ o. Plain ws o AGuarded) (sym (skips d h.0 ws h.1)) (a-guarded-goes (suc d) ws))

-- what stands before the body
abbrev AHead : Rel
AHead = Seq (One shape.Def) (Seq AnOwner (Seq AName Parameters))

def-one : Stands (One shape.Def)
unfolding shape_of
def-one = one-stands kind.Def shape.Def refl (λ zs. refl)

abbrev Heading : List Token → Outcome Head → Type 0
Heading xs o = Goes o (λ h ys. (ws : List Token) × Links ws ys × Reach xs ws AHead) (λ rest. Completes xs rest AHead)

head-goes : (d : ℕ) (shown : Option Visibility) (start : ℕ) (xs : List Token) → Heading xs (method_head d shown start xs)
unfolding method_head
head-goes d shown start xs =
    let n = seq-stands name-stands parameters-stand in
    let o = seq-stands owner-stands n in
    bind (expecting shape.Def def-one xs) (λ rest q. complete-then q o) (λ _ ks rd. bind (own-goes ks) (λ rest q. complete-after rd (complete-then q n)) (λ own' ps ro. bind (name-goes ps) (λ rest q. complete-after rd (complete-after ro (complete-then q parameters-stand)))
    (λ name qs rn. bind (parameters-go d qs) (λ rest q. complete-after rd (complete-after ro (complete-after rn q))) (λ found ys m. record { told = (m.0, m.1, reach-more rd (reach-more ro (reach-more rn m.2))) }))))

abbrev AMethod : Option Visibility → Option Token → Rel
AMethod shown front us zs = (t : Tree) × DerivesMethod shown front t us zs

method-made : (shown : Option Visibility) (front : Option Token) (us zs : List Token) → Seq AHead (Seq AGuarded (One shape.End)) us zs → AMethod shown front us zs
method-made shown front us zs h =
    let b = before-one h.second in
    let m = h.first.second.second.second in
    subst (λ v. AMethod shown front v zs) (sym h.first.first.2) (_, Def _ _ _ _ _ _ _ _ _ _ _ _ _ _ h.first.first.1 h.first.second.first.1 h.first.second.second.first.2 m.1 m.2 m.3 b.1 h.second.second.1)

defined-goes : (d : ℕ) (shown : Option Visibility) (front : Option Token) (start : ℕ) (xs : List Token) → Plain xs (defined (suc d) shown start xs) (AMethod shown front)
unfolding defined
defined-goes d shown front start xs =
    let e = seq-stands (guarded-stands (parsed d) (viable d) d true) end-stands in
    bind (head-goes (suc d) shown start xs) (λ rest q. complete-as (complete-then q e) (method-made shown front)) (λ h ps m.
    goes-as (seq (guarded-after d m.0 ps m.1) end-stands (λ b qs. answering _ (expecting shape.End end-stands qs)))
    (λ t ys k. reach-as (reach-more m.2 k) (method-made shown front)) (λ rest q. complete-as (complete-after m.2 q) (method-made shown front)))

-- ---- the visibility

choice : {X : Type 0} (P : X → Type 0) (b : Bool) {x y : X} → (b ≡ true → P x) → (b ≡ false → P y) → P (if b then x else y)
choice P true h k = h refl
choice P false h k = k refl

-- what a visibility says of the token that gives it
abbrev Shown : Token → List ℕ → Option Visibility → Type 0
Shown v w None = Unit {0}
Shown v w (Some word) = IsIdentifier v w × IsRow VISIBILITIES w word

is-spelled : (w v : List ℕ) → bytes_eq w v ≡ true → w ≡ v
is-spelled w v e = (bytes_eq-Decides w v).0 e

shown-word : (v : Token) (w : List ℕ) → IsIdentifier v w → Shown v w (visibility_of w)
shown-word v w is = choice (Shown v w) (bytes_eq w (codes "private")) (λ e. (is, inl (is-spelled _ _ e, refl)))
    (λ e. choice (Shown v w) (bytes_eq w (codes "protected")) (λ e. (is, inr (inl (is-spelled _ _ e, refl))))
    (λ e. choice (Shown v w) (bytes_eq w (codes "public")) (λ e. (is, inr (inr (inl (is-spelled _ _ e, refl)))))
    (λ e. choice (Shown v w) (bytes_eq w (codes "private_class_method")) (λ e. (is, inr (inr (inr (inl (is-spelled _ _ e, refl)))))) (λ e. tt))))

-- for some spelling
abbrev Shows : Token → Option Visibility → Type 0
Shows v o = (w : List ℕ) × Shown v w o

shows-at : (k : TokenKind) (s : Span) (vs : List Token) → Shows (record { kind = k; span = s }) (visibility (record { kind = k; span = s } ∷ vs))
unfolding visibility
shows-at (kind.Identifier w) s vs = choice (Shows (record { kind = kind.Identifier w; span = s })) (sees shape.Def vs) (λ e. (w, shown-word (record { kind = kind.Identifier w; span = s }) w refl)) (λ e. (w, tt))
shows-at k s vs = ([], tt)

abbrev pub Declared : Rel
Declared us zs = (at : Site) → (t : Tree) × DerivesDeclaration at t us zs

declared-alone : (us zs : List Token) → AMethod None None us zs → Declared us zs
declared-alone us zs m at = (_, Method _ _ _ _ m.1)

method-by : (d : ℕ) (v : Token) (vs : List Token) (o : Option Visibility) → Shows v o → Plain (v ∷ vs) (if is_some o then defined (suc d) o v.span.start vs else defined (suc d) o v.span.start (v ∷ vs)) Declared
method-by d v vs None h = plainly (defined-goes d None None v.span.start (v ∷ vs)) declared-alone
method-by d v vs (Some word) h = headed v (plainly (defined-goes d (Some word) (Some v) v.span.start vs) (λ us zs m at. (_, VisibleMethod _ _ _ _ _ _ _ h.1.0 h.1.1 m.1)))

pub method-goes : (d : ℕ) (xs : List Token) → Plain xs (method (suc d) xs) Declared
unfolding method visibility
method-goes d [] = plainly (defined-goes d None None 0 []) declared-alone
method-goes d (v ∷ vs) = method-by d v vs (visibility (v ∷ vs)) (shows-at v.kind v.span vs)
