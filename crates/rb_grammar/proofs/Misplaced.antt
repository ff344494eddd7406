-- Trees with a place that is none of tokens stand nowhere.
use Rattle.std.proofs.Common.{◌≡◌, ◌≢◌, ◌⊎◌, ℕ, List, [], ◌∷◌, codes, None, inl, inr, ap, ◌∙◌, arith}
use Rattle.srb_terms.specs.declared.span.Span.{Span}
use Rattle.rb_tree.specs.declared.token.Token.{Token}
use Rattle.rb_tree.specs.Nodes as tree
use Rattle.rb_tree.specs.declared.syntax.Node.TheVariants.{rolls-Body, rolls-Binary, rolls-Post, rolls-Whole}
use Rattle.rb_rules.specs.Tokens.{IsOneOf}
use Rattle.rb_grammar.specs.Places.{Each, AreInOrder, IsPlaced, StandsAt}
use Rattle.rb_grammar.specs.Examples.{from_to, SUM, CALL, call_tree, LateStandsNot, LateArgumentStandsNot, ReversedArgumentStandsNot}
use Rattle.rb_grammar.proofs.Nodes.{taken-apart}

-- no token that begins at the first place has one from it on that ends at the second
abbrev NoneIs : List Token → Span → Type 0
NoneIs [] s = Unit {0}
NoneIs (x ∷ xs) s = (s.start ≢ x.span.start ⊎ Each (λ t. s.end ≢ t.span.end) (x ∷ xs)) × NoneIs xs s

no-end : (tokens : List Token) (n : ℕ) → Each (λ t. n ≢ t.span.end) tokens → (t : Token) → IsOneOf tokens t → n ≢ t.span.end
no-end [] n all t h e = h
no-end (x ∷ xs) n all t (inl is) e = all.0 (e ∙ ap (λ u. u.span.end) is)
no-end (x ∷ xs) n all t (inr h) e = no-end xs n all.1 t h e

none-here : (xs : List Token) (x : Token) (s : Span) → (s.start ≢ x.span.start ⊎ Each (λ t. s.end ≢ t.span.end) xs) → (a b : Token) → a ≡ x → IsOneOf xs b → s.start ≡ a.span.start → s.end ≡ b.span.end → ⊥
none-here xs x s (inl other) a b is h begins ends = other (begins ∙ ap (λ u. u.span.start) is)
none-here xs x s (inr all) a b is h begins ends = no-end xs s.end all b h ends

none-in-order : (tokens : List Token) (s : Span) → NoneIs tokens s → (a b : Token) → AreInOrder tokens a b → s.start ≡ a.span.start → s.end ≡ b.span.end → ⊥
none-in-order [] s none a b h begins ends = h
none-in-order (x ∷ xs) s none a b (inl h) begins ends = none-here (x ∷ xs) x s none.0 a b h.0 h.1 begins ends
none-in-order (x ∷ xs) s none a b (inr h) begins ends = none-in-order xs s none.1 a b h begins ends

misplaced : (tokens : List Token) (s : Span) → NoneIs tokens s → ¬ IsPlaced tokens s
misplaced tokens s none p = none-in-order tokens s none p.first p.last p.in_order p.starts p.ends

pub late-stands-not : LateStandsNot
late-stands-not h =
    let body = taken-apart SUM _ _ (rolls-Body _ _) h in
    let sum = taken-apart SUM _ _ (rolls-Binary _ _ _ _ _) body.1.0 in
    let product = taken-apart SUM _ _ (rolls-Binary _ _ _ _ _) sum.3 in
    let digit = taken-apart SUM _ _ (rolls-Whole _ _ _) product.3 in
    misplaced SUM (from_to 8 10) (inl (λ e. omega arith), (inl (λ e. omega arith), (inl (λ e. omega arith), (inl (λ e. omega arith), (inr ((λ e. omega arith), tt), tt))))) digit

argument-of : (s : Span) → StandsAt CALL (call_tree (tree.Whole None (codes "1") s)) → IsPlaced CALL s
argument-of s h =
    let body = taken-apart CALL _ _ (rolls-Body _ _) h in
    let post = taken-apart CALL _ _ (rolls-Post _ _ _) body.1.0 in
    taken-apart CALL _ _ (rolls-Whole _ _ _) post.2.0.2.0

pub late-argument-stands-not : LateArgumentStandsNot
late-argument-stands-not h = misplaced CALL (from_to 4 7)
    (inl (λ e. omega arith), (inl (λ e. omega arith), (inl (λ e. omega arith), (inl (λ e. omega arith), (inr ((λ e. omega arith), ((λ e. omega arith), tt)), (inl (λ e. omega arith), tt))))))
    (argument-of (from_to 4 7) h)

pub reversed-argument-stands-not : ReversedArgumentStandsNot
reversed-argument-stands-not h = misplaced CALL (from_to 5 5)
    (inl (λ e. omega arith), (inl (λ e. omega arith), (inl (λ e. omega arith), (inl (λ e. omega arith), (inl (λ e. omega arith), (inr ((λ e. omega arith), tt), tt))))))
    (argument-of (from_to 5 5) h)
