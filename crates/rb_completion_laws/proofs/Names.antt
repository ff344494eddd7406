-- Paths of constants and superclasses that are begun can be completed.
use Rattle.std.proofs.Common.{◌≡◌, ℕ, zero, suc, Bool, true, false, List, [], ◌∷◌, ◌++◌, Option, Some, None, ◌⊎◌, inl, inr, refl, sym, subst}
use Rattle.srb_terms.specs.declared.span.Span.{Span}
use Rattle.rb_tree.specs.Tokens.{shape_of, same_shape}
use Rattle.rb_tree.specs.declared.syntax.PlacedName.{PlacedName}
use Rattle.rb_tree.specs.declared.syntax.Reference.{Reference}
use Rattle.rb_tree.specs.declared.token.Token.{Token}
use Rattle.rb_tree.specs.declared.token.TokenKind.{TokenKind}
use Rattle.rb_tree.specs.declared.token.TokenKind.TheVariants as kind
use Rattle.rb_tree.specs.declared.token.Shape.TheVariants as shape
use Rattle.rb_decl.specs.Names as spec
use Rattle.rb_decl.specs.Names.{path_from, path, reference, superclass}
use Rattle.rb_rules.specs.Tokens.{Is, IsConstant}
use Rattle.rb_rules.specs.Grammar.{Path, Superclass}
use Rattle.rb_rules.specs.Grammar.Path.{LastName, MoreNames}
use Rattle.rb_rules.specs.Grammar.Superclass.{NoSuperclass, Named, NamedFromTop}
use Rattle.rb_grammar.proofs.Steps.{same}
use Rattle.rb_completion_laws.proofs.Steps.{Rel, Stands, Seq, stands-as, reach-as, reach-this, Plain, plainly, seq, done, refusing, answering, headed, choosing, One, new_token, if-seen, Perhaps, perhaps-stands, nothing, taken}

abbrev AConstant : Rel
AConstant us zs = (t : Token) × (w : List ℕ) × IsConstant t w × (us ≡ t ∷ zs)

constant-stands : Stands AConstant
unfolding shape_of
constant-stands zs c = record { whole = new_token (kind.Constant []) ∷ zs; clear = refl; derives = (new_token (kind.Constant []), [], refl, refl) }

constant-at : (k : TokenKind) (s : Span) (ts : List Token) → Plain (record { kind = k; span = s } ∷ ts) (spec.constant (record { kind = k; span = s } ∷ ts)) AConstant
unfolding spec.constant
constant-at (kind.Constant words) s ts = record { told = reach-as (reach-this (record { kind = kind.Constant words; span = s }) ts) (λ us zs h. (record { kind = kind.Constant words; span = s }, words, refl, h)) }
constant-at k s ts = refusing _ constant-stands

constant-goes : (xs : List Token) → Plain xs (spec.constant xs) AConstant
unfolding spec.constant
constant-goes [] = refusing [] constant-stands
constant-goes (t ∷ ts) = constant-at t.kind t.span ts

-- one name at least
abbrev pub APath : Bool → Rel
APath long us zs = (n : PlacedName) × (more : List PlacedName) × Path long (n ∷ more) us zs

one-name : (long : Bool) (us zs : List Token) → AConstant us zs → APath long us zs
one-name long us zs h = subst (λ v. APath long v zs) (sym h.3) (_, _, LastName _ _ _ _ h.2)

pub path-stands : (long : Bool) → Stands (APath long)
path-stands long = stands-as constant-stands (one-name long)

more-names : (us zs : List Token) → Seq AConstant (Perhaps (Seq (One shape.Scope) (APath true))) us zs → APath true us zs
more-names us zs h = subst (λ v. APath true v zs) (sym h.first.3) (by h.mid h.second)
  where
    by : (ms : List Token) → Perhaps (Seq (One shape.Scope) (APath true)) ms zs → APath true (h.first.0 ∷ ms) zs
    by ms (inl e) = subst (λ v. APath true (h.first.0 ∷ ms) v) e (_, _, LastName _ _ _ _ h.first.2)
    by ms (inr k) = subst (λ v. APath true (h.first.0 ∷ v) zs) (sym k.first.2) (_, _, MoreNames _ _ _ _ _ _ h.first.2 k.first.1 k.second.2)

path-by : (long : Bool) (n : ℕ) (found : List PlacedName) (xs : List Token) → Plain xs (path_from long n found xs) (APath long)
unfolding path_from
path-by long zero found xs = refusing xs (path-stands long)
path-by false (suc n) found xs = plainly (answering _ (constant-goes xs)) (one-name false)
path-by true (suc n) found xs = plainly (seq (constant-goes xs) perhaps-stands (λ x ps. if-seen shape.Scope (path_from true n (found ++ x ∷ [])) ps
    (λ c cs is. plainly (path-by true n (found ++ x ∷ []) cs) (λ us zs h. inr (record { mid = us; first = (c, is, refl); second = h })))
    (nothing _ ps))) more-names

pub path-goes : (d : ℕ) (long : Bool) (xs : List Token) → Plain xs (path d long xs) (APath long)
unfolding path
path-goes d long xs = path-by long d [] xs

-- a path, perhaps from the top
abbrev AReference : Rel
AReference us zs = APath true us zs ⊎ Seq (One shape.Scope) (APath true) us zs

reference-goes : (d : ℕ) (xs : List Token) → Plain xs (reference d xs) AReference
unfolding reference
reference-goes d [] = plainly (answering _ (path-goes d true [])) (λ us zs h. inl h)
reference-goes d (t ∷ ts) = choosing (same_shape (shape_of t.kind) shape.Scope)
    (λ e. let is = same _ _ e in taken shape.Scope _ t ts is (headed t (plainly (answering _ (path-goes d true ts)) (λ us zs h. inr (record { mid = us; first = (t, is, refl); second = h })))))
    (λ e. plainly (answering _ (path-goes d true (t ∷ ts))) (λ us zs h. inl h))

abbrev pub ASuperclass : Rel
ASuperclass us zs = (o : Option Reference) × Superclass o us zs

pub superclass-stands : Stands ASuperclass
superclass-stands zs c = record { whole = zs; clear = c; derives = (None, NoSuperclass _) }

above : (l : Token) → Is shape.Less l → (us zs : List Token) → AReference us zs → ASuperclass (l ∷ us) zs
above l is us zs (inl h) = (_, Named _ _ _ _ _ is h.2)
above l is us zs (inr h) = subst (λ v. ASuperclass (l ∷ v) zs) (sym h.first.2) (_, NamedFromTop _ _ _ _ _ _ is h.first.1 h.second.2)

pub superclass-goes : (d : ℕ) (xs : List Token) → Plain xs (superclass d xs) ASuperclass
unfolding superclass
superclass-goes d xs = if-seen shape.Less (λ ts. _) xs (λ t ts is. plainly (answering Some (reference-goes d ts)) (above t is)) (done None xs (λ zs. (None, NoSuperclass _)))
