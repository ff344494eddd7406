-- The two readers, and the facts of each.
use Rattle.std.proofs.Common.{◌≡◌, ◌⊎◌, inl, inr, ⊎_elim, ℕ, ◌+◌, ◌<◌, ◌≤◌, Bool, true, List, [], ◌∷◌, ◌++◌, length, Ok, Err, refl, sym, ap, subst, ◌∙◌, append-nil, length-append, arith}
use Rattle.rb_tree.specs.declared.syntax.Tree.{Tree}
use Rattle.rb_tree.specs.Tokens.{shape_of}
use Rattle.rb_tree.specs.declared.token.Token.{Token}
use Rattle.rb_tree.specs.declared.token.Shape.TheVariants as shape
use Rattle.rb_expr.specs.declared.answers.Rule.{Rule}
use Rattle.rb_expr.specs.declared.answers.Rule.TheVariants as rule
use Rattle.rb_expr.specs.Answers.{ruled}
use Rattle.rb_expr.specs.Grammar.{parsed}
use Rattle.rb_expr.specs.Reading.{Outcome}
use Rattle.rb_expr.specs.Rules as rules
use Rattle.rb_rules.specs.Tokens.{Is}
use Rattle.rb_rules.specs.Grammar.{Parted}
use Rattle.rb_grammar.proofs.Steps.{Holds}
use Rattle.rb_grammar_laws.specs.Ends.{Ends, BODY_ENDS, TERM_ENDS}
use Rattle.rb_grammar.proofs.Forms.{sound, terms-derive}
use Rattle.rb_grammar_laws.proofs.Forms.{complete}
use Rattle.rb_grammar_laws.proofs.Operators.{tern-read}
use Rattle.rb_prefix_laws.specs.Laws.{usual}
use Rattle.rb_prefix_laws.proofs.Steps.{Alike, fits-turns, rest_of, instead}
use Rattle.rb_prefix_laws.proofs.Cuts.{Cut, weaker}
use Rattle.rb_prefix_laws.proofs.Steps.Amount.{any}
use Rattle.rb_prefix_laws.proofs.Forms.{nests}
use Rattle.rb_prefix_laws.proofs.Operators.{tern-alike}
use Rattle.rb_prefix_laws.proofs.Statements.{body-alike}
use Rattle.rb_prefix_laws.proofs.Programs.{again-same, again-other}
use Rattle.rb_completion_laws.proofs.Steps.{Rel, Plain, Reach, Completes}
use Rattle.rb_completion_laws.proofs.Steps.Fits.{Quiet}
use Rattle.rb_completion_laws.proofs.Forms.{a-term-goes, viable}
use Rattle.rb_expr_laws.specs.Bodies.{IsParted, PlainBody}
use Rattle.rb_expr_laws.specs.Forms.{Form, IsForm, MayPrecede, Stands}
use Rattle.rb_expr_laws.proofs.Facts.{Facts}
use Rattle.rb_expr_laws.proofs.Sound.{body-holds}
use Rattle.rb_expr_laws.proofs.Complete.{body-read, rescued-read}
use Rattle.rb_expr_laws.proofs.Raised.{ONE, body-raised, raises}
use Rattle.rb_expr_laws.proofs.Begun.{body-goes}

abbrev pub rule_of : Form → Rule
rule_of (Form.Body constants) = rule.Body constants
rule_of Form.Term = rule.Tern

-- no token is next, or one that such a form is always read up to
abbrev pub Follows : Form → List Token → Type 0
Follows (Form.Body constants) rest = Ends BODY_ENDS true rest
Follows Form.Term rest = Ends TERM_ENDS true rest

-- what is read of a form at the first of these tokens
abbrev pub reads : Form → List Token → Outcome Tree
reads form tokens = ruled (rule_of form) tokens

-- the same, with other forms nested in it at most so deep
abbrev read_at : Form → ℕ → List Token → Outcome Tree
read_at (Form.Body constants) d tokens = rules.longest_body d constants tokens
read_at Form.Term d tokens = rules.tern d tokens

read-here : (form : Form) (tokens : List Token) → reads form tokens ≡ read_at form (length tokens + 2) tokens
unfolding ruled
read-here (Form.Body constants) tokens = refl
read-here Form.Term tokens = refl

-- ---- what is read derives

told : (Q : Tree → List Token → Type 0) (o : Outcome Tree) (t : Tree) (rest : List Token) → o ≡ Ok (t, rest) → Holds o Q → Q t rest
told Q o t rest e h = got (subst (λ o. Holds o Q) e h)
  where
    got : Holds {A = Tree} (Ok (t, rest)) Q → Q t rest
    got h = h.told

sounds : (form : Form) (d : ℕ) (tokens rest : List Token) (t : Tree) → read_at form d tokens ≡ Ok (t, rest) → IsForm form t tokens rest
unfolding rules.longest_body
sounds (Form.Body constants) d tokens rest t e = (told (λ t ys. PlainBody constants t tokens ys × IsParted constants tokens ys) _ t rest e (body-holds (parsed d) (sound d) d constants tokens)).0
sounds Form.Term d tokens rest t e = terms-derive d tokens rest t e

may-precede : (form : Form) (d : ℕ) (tokens rest : List Token) (t : Tree) → read_at form d tokens ≡ Ok (t, rest) → MayPrecede form tokens rest
unfolding rules.longest_body
may-precede (Form.Body constants) d tokens rest t e = (told (λ t ys. PlainBody constants t tokens ys × IsParted constants tokens ys) _ t rest e (body-holds (parsed d) (sound d) d constants tokens)).1
may-precede Form.Term d tokens rest t e = tt

-- what is read stands there
pub stands : (form : Form) (tokens rest : List Token) (t : Tree) → reads form tokens ≡ Ok (t, rest) → Stands form t tokens rest
stands form tokens rest t e = let e' = sym (read-here form tokens) ∙ e in (sounds form (length tokens + 2) tokens rest t e', may-precede form (length tokens + 2) tokens rest t e')

-- ---- what derives is read

is-read : (form : Form) (d : ℕ) (tokens rest : List Token) (t : Tree) → length tokens < d → IsForm form t tokens rest → Follows form rest → read_at form d tokens ≡ Ok (t, rest)
unfolding rules.longest_body rules.tern
is-read (Form.Body constants) d tokens rest t fits derives ends = body-read (parsed d) d (complete d) (sound d) constants t tokens rest derives ends fits
is-read Form.Term d tokens rest t fits derives ends = (tern-read (parsed d) d (complete d) true t tokens rest derives ends fits).0

pub followed-read : (form : Form) (tokens rest : List Token) (t : Tree) → IsForm form t tokens rest → Follows form rest → reads form tokens ≡ Ok (t, rest)
followed-read form tokens rest t d follows = read-here form tokens ∙ is-read form (length tokens + 2) tokens rest t (let h : length tokens < length tokens + 2 = omega arith in h) d follows

nothing-follows : (form : Form) → Follows form []
nothing-follows (Form.Body constants) = tt
nothing-follows Form.Term = tt

-- a body that is parted from a `rescue`
pub rescued : (constants : Bool) (tokens ps rest : List Token) (k : Token) (t : Tree) → PlainBody constants t tokens ps → Parted t ps (k ∷ rest) → Is shape.Rescue k → reads (Form.Body constants) tokens ≡ Ok (t, k ∷ rest)
unfolding rules.longest_body
rescued constants tokens ps rest k t d parted is =
    let n = length tokens + 2 in
    read-here (Form.Body constants) tokens ∙ rescued-read (parsed n) n (complete n) (sound n) constants t tokens ps rest k d parted is (let h : length tokens < n = omega arith in h)

-- a body before `**`, with which it doesn't go on
pub before-power : (constants : Bool) (tokens : List Token) (power : Token) (t : Tree) → (is : Is shape.Power power) → PlainBody constants t tokens (power ∷ ONE ∷ []) → ((u : Tree) × PlainBody constants u tokens []) ⊎ (reads (Form.Body constants) tokens ≡ Ok (t, power ∷ ONE ∷ []))
unfolding rules.longest_body
before-power constants tokens power t is d =
    let n = length tokens + 2 in
    ⊎_elim (λ u. inl u) (λ e. inr (read-here (Form.Body constants) tokens ∙ e)) (body-raised power is (parsed n) n (complete n) (raises power is n) (sound n) constants t tokens d (let h : length tokens < n = omega arith in h))

-- ---- it is read alike whatever stands after the next token

read-cut : (form : Form) (k d e : ℕ) → k ≤ d → k ≤ e → (tokens : List Token) → Cut k (any 0) tokens (read_at form d tokens) (read_at form e)
unfolding rules.longest_body rules.tern
read-cut (Form.Body constants) k d e a b tokens = body-alike (parsed d) (parsed e) d e (nests d e) true k (fits-turns a b) constants tokens
read-cut Form.Term k d e a b tokens = weaker (tern-alike (parsed d) (parsed e) d e (nests d e) true k (fits-turns a b) tokens)

read-alike : (form : Form) (k d e : ℕ) → k ≤ d → k ≤ e → (tokens : List Token) → Alike k (any 0) tokens (read_at form d tokens) (read_at form e)
read-alike form k d e a b tokens = (read-cut form k d e a b tokens).alike

same-depth : (form : Form) (d e : ℕ) (tokens : List Token) → length tokens < d → length tokens < e → read_at form d tokens ≡ read_at form e tokens
same-depth form d e tokens a b = sym (again-same (length tokens + 1) tokens (read_at form d tokens) (read_at form e) (read-alike form (length tokens + 1) d e (omega arith) (omega arith) tokens) (omega arith))

other-rest : (form : Form) (before : List Token) (next : Token) (after others : List Token) (o : Outcome Tree) → reads form (before ++ next ∷ after) ≡ o → rest_of o ≡ next ∷ after → reads form (before ++ next ∷ others) ≡ instead o (next ∷ others)
other-rest form before next after others o e r =
    let xs = before ++ next ∷ after in
    let ys = before ++ next ∷ others in
    let d = length xs + length ys + 2 in
    let x : read_at form d xs ≡ o = same-depth form d (length xs + 2) xs (omega arith) (omega arith) ∙ sym (read-here form xs) ∙ e in
    read-here form ys ∙ same-depth form (length ys + 2) d ys (omega arith) (omega arith)
    ∙ again-other d before next after others (read_at form d xs) (read_at form d) (read-alike form d d d (omega arith) (omega arith) xs) (omega arith) (omega arith) (ap rest_of x ∙ r)
    ∙ ap (λ o. instead o (next ∷ others)) x

-- what is refused at a usual token is refused at the end of those before it
pub cut-short : (form : Form) (before : List Token) (next : Token) (after : List Token) → reads form (before ++ next ∷ after) ≡ Err (next ∷ after) → usual (shape_of next.kind) ≡ true → reads form before ≡ Err []
cut-short form before next after e u =
    let xs = before ++ next ∷ after in
    let d = length xs + 2 in
    let x : read_at form d xs ≡ Err (next ∷ after) = sym (read-here form xs) ∙ e in
    let h : Cut d (any 0) xs (Err (next ∷ after)) (read_at form d) = subst (λ o. Cut d (any 0) xs o (read_at form d)) x (read-cut form d d d (omega arith) (omega arith) xs) in
    let sum : length xs ≡ length before + length (next ∷ after) = length-append before (next ∷ after) in
    read-here form before ∙ same-depth form (length before + 2) d before (omega arith) (omega arith) ∙ h.cut before (omega arith) refl u

-- ---- it is such by itself, or can be completed

abbrev AForm : Form → Rel
AForm form us zs = (t : Tree) × IsForm form t us zs

goes : (form : Form) (d : ℕ) (tokens : List Token) → Plain tokens (read_at form d tokens) (AForm form)
unfolding rules.longest_body
goes (Form.Body constants) d tokens = body-goes (parsed d) (viable d) d constants tokens
goes Form.Term d tokens = a-term-goes d tokens

answer-told : (E : Rel) (tokens : List Token) (o : Outcome Tree) (t : Tree) (rest : List Token) → o ≡ Ok (t, rest) → Plain tokens o E → Reach tokens rest E
answer-told E tokens o t rest e h = got (subst (λ o. Plain tokens o E) e h)
  where
    got : Plain {A = Tree} tokens (Ok (t, rest)) E → Reach tokens rest E
    got h = h.told

refusal-told : (E : Rel) (tokens : List Token) (o : Outcome Tree) (rest : List Token) → o ≡ Err rest → Plain tokens o E → Completes tokens rest E
refusal-told E tokens o rest e h = got (subst (λ o. Plain tokens o E) e h)
  where
    got : Plain {A = Tree} tokens (Err rest) E → Completes tokens rest E
    got h = h.told

stands-alone : (form : Form) (tokens rest : List Token) (t : Tree) → reads form tokens ≡ Ok (t, rest) → (before : List Token) × (tokens ≡ before ++ rest) × (u : Tree) × IsForm form u before []
stands-alone form tokens rest t e =
    let r = answer-told (AForm form) tokens _ t rest (sym (read-here form tokens) ∙ e) (goes form (length tokens + 2) tokens) [] (Quiet rest [] refl) in
    let front = r.swapped in
    (front.0, front.1, r.derives.0, subst (λ us. IsForm form r.derives.0 us []) (front.2 ∙ append-nil front.0) r.derives.1)

begins : (form : Form) (tokens rest : List Token) → reads form tokens ≡ Err rest → (before : List Token) × (tokens ≡ before ++ rest) × (more : List Token) × (t : Tree) × IsForm form t (before ++ more) []
begins form tokens rest e =
    let c = refusal-told (AForm form) tokens _ rest (sym (read-here form tokens) ∙ e) (goes form (length tokens + 2) tokens) [] refl in
    let front = c.swapped in
    (front.0, front.1, c.more, c.derives.0, subst (λ us. IsForm form c.derives.0 us []) front.2 c.derives.1)

-- ---- the facts

pub facts : (form : Form) → Facts (IsForm form) (reads form)
facts form = record {
  sound = λ tokens rest t e. (stands form tokens rest t e).0;
  complete = λ tokens t d. followed-read form tokens [] t d (nothing-follows form);
  alone = stands-alone form;
  ended = λ t before next after others e. other-rest form before next after others (Ok (t, next ∷ after)) e refl;
  refused = λ before bad after others e. other-rest form before bad after others (Err (bad ∷ after)) e refl;
  begun = begins form;
}
