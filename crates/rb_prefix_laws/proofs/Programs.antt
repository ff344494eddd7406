-- What is read alike is answered and refused alike.
use Rattle.std.proofs.Common.{◌≡◌, ℕ, suc, ◌≤◌, ◌<◌, true, List, [], ◌∷◌, ◌++◌, length, Result, Ok, Err, refl, sym, ap, subst, ◌∙◌, arith}
use Rattle.rb_tree.specs.declared.syntax.Tree.{Tree}
use Rattle.rb_tree.specs.declared.token.Token.{Token}
use Rattle.rb_expr.specs.Reading.{Outcome, Parser}
use Rattle.rb_decl.specs.Items.{item, statements, body_of}
use Rattle.rb_decl.specs.Programs.{program}
use Rattle.rb_prefix_laws.proofs.Steps.{Alike, first, rest_of, instead, same-front, fits-turns}
use Rattle.rb_prefix_laws.proofs.Steps.{Amount}
use Rattle.rb_prefix_laws.proofs.Steps.Amount.{any}
use Rattle.rb_prefix_laws.proofs.Items.{item-alike, statements-alike}

-- the same is read again of the same tokens
pub again-same : {A : Type 0} {K : Amount} (k : ℕ) (xs : List Token) (o : Outcome A) (q : Parser A) → Alike k K xs o q → length xs < k → q xs ≡ o
again-same {A = A} {K = K} k xs o q h small =
    let r = h.runs small in
    let small' : length (r.front ++ rest_of o) < k = subst (λ us. length us < k) r.reads small in
    ap q r.reads ∙ r.again (rest_of o) refl small' ∙ own o
  where
    own : (o : Outcome A) → instead o (rest_of o) ≡ o
    own (Ok p) = refl
    own (Err rest) = refl

-- and of others that differ after the next token
pub again-other : {A : Type 0} {K : Amount} (k : ℕ) (before : List Token) (next : Token) (after others : List Token) (o : Outcome A) (q : Parser A) → Alike k K (before ++ next ∷ after) o q → length (before ++ next ∷ after) < k → length (before ++ next ∷ others) < k →
    rest_of o ≡ next ∷ after → q (before ++ next ∷ others) ≡ instead o (next ∷ others)
again-other k before next after others o q h small little e =
    let r = h.runs small in
    let front : r.front ≡ before = same-front r.front before (next ∷ after) (ap (λ us. r.front ++ us) (sym e) ∙ sym r.reads) in
    let little' : length (r.front ++ next ∷ others) < k = subst (λ c. length (c ++ next ∷ others) < k) (sym front) little in
    ap (λ c. q (c ++ next ∷ others)) (sym front) ∙ r.again (next ∷ others) (ap first e) little'

-- ---- programs

abbrev program_of : Outcome (List Tree) → Result Tree (List Token)
program_of (Ok (found, [])) = Ok (body_of found)
program_of (Ok (found, t ∷ ts)) = Err (t ∷ ts)
program_of (Err rest) = Err rest

all-alike : (k d e : ℕ) → k ≤ d → k ≤ e → (xs : List Token) → Alike k (any 0) xs (statements (item d true) d xs) (statements (item e true) e)
all-alike k d e a b xs = statements-alike d e (item d true) (item e true) (item-alike d e true) k (fits-turns a b) xs

pub same-program : (d e : ℕ) (xs : List Token) → length xs < d → length xs < e → program d xs ≡ program e xs
unfolding program
same-program d e xs a b = ap program_of (sym (again-same (suc (length xs)) xs (statements (item d true) d xs) (statements (item e true) e) (all-alike (suc (length xs)) d e (omega arith) (omega arith) xs) (omega arith)))

refused-rest : (o : Outcome (List Tree)) (t : Token) (ts us : List Token) → program_of o ≡ Err (t ∷ ts) → (rest_of o ≡ t ∷ ts) × (program_of (instead o (t ∷ us)) ≡ Err (t ∷ us))
refused-rest (Ok (found, [])) t ts us e = absurd (cc)
refused-rest (Ok (found, u ∷ vs)) t ts us e = (cc, refl)
refused-rest (Err rest) t ts us e = (cc, refl)

pub refused-alike : (d : ℕ) (before : List Token) (bad : Token) (after others : List Token) → length (before ++ bad ∷ after) < d → length (before ++ bad ∷ others) < d → program d (before ++ bad ∷ after) ≡ Err (bad ∷ after) → program d (before ++ bad ∷ others) ≡ Err (bad ∷ others)
unfolding program
refused-alike d before bad after others a b e =
    let r = refused-rest (statements (item d true) d (before ++ bad ∷ after)) bad after others e in
    ap program_of (again-other d before bad after others (statements (item d true) d (before ++ bad ∷ after)) (statements (item d true) d) (all-alike d d d (omega arith) (omega arith) (before ++ bad ∷ after)) a b r.0) ∙ r.1
