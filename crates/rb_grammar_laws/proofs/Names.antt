-- Paths of constants and superclasses that derive are read.
use Rattle.std.proofs.Common.{◌≡◌, ℕ, zero, suc, ◌<◌, Bool, true, false, ◌&&◌, List, [], ◌∷◌, ◌++◌, length, Option, Ok, refl, sym, ap, subst, ◌∙◌, append_assoc, arith}
use Rattle.rb_tree.specs.Tokens.{same_shape}
use Rattle.rb_tree.specs.declared.syntax.PlacedName.{PlacedName}
use Rattle.rb_tree.specs.declared.syntax.Reference.{Reference}
use Rattle.rb_tree.specs.declared.token.Token.{Token}
use Rattle.rb_tree.specs.declared.token.Shape.TheVariants as shape
use Rattle.rb_expr.specs.Reading.{sees}
use Rattle.rb_decl.specs.Names as spec
use Rattle.rb_decl.specs.Names.{goes_on, path_from, path, end_at, end_of, short_reference, top_reference, reference, superclass}
use Rattle.rb_rules.specs.Tokens.{IsConstant}
use Rattle.rb_rules.specs.Spans.{across, last_of}
use Rattle.rb_rules.specs.Grammar.{named, Path, Superclass}
use Rattle.rb_rules.specs.Grammar.Path.{LastName, MoreNames}
use Rattle.rb_rules.specs.Grammar.Superclass.{NoSuperclass, Named, NamedFromTop}
use Rattle.rb_grammar.proofs.Steps.{shown, within-self, within-token}
use Rattle.rb_grammar.proofs.Lists.{last-got}
use Rattle.rb_grammar_laws.proofs.Steps.{on, taken, passed, expects, other, constant, past-token, past-within}
use Rattle.rb_grammar_laws.proofs.Complete.{Reads, ReadsSome}

constant-read : (t : Token) (w : List ℕ) (ts : List Token) → IsConstant t w → spec.constant (t ∷ ts) ≡ Ok (named t w, ts)
unfolding spec.constant
constant-read t w ts is = subst (λ k. spec.constant (record { kind = k; span = t.span } ∷ ts) ≡ Ok (named t w, ts)) (sym is) refl

path-from-read : (long : Bool) (given : List PlacedName) (xs ys : List Token) → Path long given xs ys → sees shape.Scope ys ≡ false → (n : ℕ) (found : List PlacedName) → length xs < n → Reads (path_from long n found) (found ++ given) xs ys
unfolding path_from
path-from-read long given xs ys d none zero found less = absurd (let h : ⊥ = omega arith in h)
path-from-read long given xs ys (LastName _ t w _ is) none (suc n) found less = (on _ (constant-read t w ys is) (passed _ _ (and-false long _ none) refl), past-token t (within-self _))
  where
    and-false : (a b : Bool) → b ≡ false → (a && b) ≡ false
    and-false true b e = e
    and-false false b e = refl
path-from-read long given xs ys (MoreNames t c w more us _ is is2 d) none (suc n) found less =
    let r = path-from-read true more us ys d none n (found ++ named t w ∷ []) (let h : length us < n = omega arith in h) in
    (on _ (constant-read t w (c ∷ us) is) (taken _ _ (shown shape.Scope c us is2) (r.0 ∙ ap (λ found. Ok (found, ys)) (append_assoc found (named t w ∷ []) more))), past-token t (within-token c (past-within r.1)))

pub path-read : (d : ℕ) (long : Bool) (given : List PlacedName) (xs ys : List Token) → Path long given xs ys → sees shape.Scope ys ≡ false → length xs < d → Reads (path d long) given xs ys
unfolding path
path-read d long given xs ys h none less = path-from-read long given xs ys h none d [] less

path-begins : (long : Bool) (given : List PlacedName) (xs ys : List Token) → Path long given xs ys → sees shape.Scope xs ≡ false
unfolding same_shape
path-begins long given xs ys (LastName _ t w _ is) = other shape.Scope shape.Constant t ys (constant t w is) refl
path-begins long given xs ys (MoreNames t c w more us _ is is2 d) = other shape.Scope shape.Constant t (c ∷ us) (constant t w is) refl

end-same : (n : PlacedName) (more : List PlacedName) → end_of (n ∷ more) ≡ ((last_of n more).span).end
end-same n more = ap end_at (last-got n more)

short-same : (n : PlacedName) (more : List PlacedName) → short_reference (n ∷ more) ≡ record { top = false; path = n ∷ more; span = across n.span ((last_of n more).span) }
short-same n more = ap (λ end. of end) (end-same n more)
  where
    of : ℕ → Reference
    of end = record { top = false; path = n ∷ more; span = record { start = n.span.start; end = end } }

top-same : (c : Token) (n : PlacedName) (more : List PlacedName) → top_reference c.span (n ∷ more) ≡ record { top = true; path = n ∷ more; span = across c.span ((last_of n more).span) }
top-same c n more = ap (λ end. of end) (end-same n more)
  where
    of : ℕ → Reference
    of end = record { top = true; path = n ∷ more; span = record { start = c.span.start; end = end } }

pub superclass-read : (d : ℕ) (given : Option Reference) (xs ys : List Token) → Superclass given xs ys → sees shape.Scope ys ≡ false → sees shape.Less ys ≡ false → length xs < d → ReadsSome (superclass d) given xs ys
unfolding superclass reference same_shape
superclass-read d given xs ys (NoSuperclass _) none bare less = (passed _ _ bare refl, within-self _)
superclass-read d given xs ys (Named l n more us _ is h) none bare less =
    let r = path-read d true (n ∷ more) us ys h none (let k : length us < d = omega arith in k) in
    (taken _ _ (shown shape.Less l us is) (on _ (passed _ _ (path-begins true (n ∷ more) us ys h) (on _ r.0 (ap (λ x. Ok (x, ys)) (short-same n more)))) refl), within-token l (past-within r.1))
superclass-read d given xs ys (NamedFromTop l c n more us _ is is2 h) none bare less =
    let r = path-read d true (n ∷ more) us ys h none (let k : length us < d = omega arith in k) in
    (taken _ _ (shown shape.Less l (c ∷ us) is) (on _ (taken _ _ (shown shape.Scope c us is2) (on _ (expects shape.Scope c us is2) (on _ r.0 (ap (λ x. Ok (x, ys)) (top-same c n more))))) refl), within-token l (within-token c (past-within r.1)))
