-- What `expr` and `tern` answer, in the words of the grammar.
use Rattle.std.specs.Prelude.{◌≡◌, ◌⊎◌, ℕ, ◌+◌, ◌≤◌, List, [], ◌∷◌, ◌++◌, length, take, drop, Result, Ok, Err}
use Rattle.rb_tree.specs.declared.syntax.Tree.{Tree}
use Rattle.rb_tree.specs.declared.token.Token.{Token}
use Rattle.rb_tree.specs.declared.token.Shape.TheVariants as shape
use Rattle.rb_weight.specs.Limits.{MOST}
use Rattle.rb_weight.specs.Weights.{DeepAt}
use Rattle.rb_rules.specs.Tokens.{Is}
use Rattle.rb_expr.specs.declared.ParseEnd.{ParseEnd}
use Rattle.rb_expr.specs.declared.ParseEnd.TheVariants.{Bad, TooDeep, NoMemory}
use Rattle.rb_expr.specs.Answers.{Answers, bad_at, expr_of, start_at, tern_of}
use Rattle.rb_expr_laws.specs.Forms.{Form, BeginsForm, IsBarred, IsForm, IsPowered, NoneDeepAmong, Reaches, Stands}

-- what is answered of the form that begins at a token
abbrev pub answer_of : Form → List Token → ℕ → ℕ → ℕ → Result (Tree × ℕ) ParseEnd
answer_of (Form.Body constants) tokens from weight here = expr_of tokens from weight here constants
answer_of Form.Term tokens from weight here = tern_of tokens from weight here

-- ---- where a form ends

-- A form that begins at a list's first token reaches over some number of its tokens.
abbrev pub FormsReach : Type 0
FormsReach = (form : Form) (tokens : List Token) → (n : ℕ) × Reaches form tokens n

-- It is the only such number.
abbrev pub OneReach : Type 0
OneReach = (form : Form) (tokens : List Token) (m n : ℕ) → Reaches form tokens m → Reaches form tokens n → m ≡ n

-- No form that begins there has more tokens.
abbrev pub NoneIsLonger : Type 0
NoneIsLonger = (form : Form) (tokens xs ys : List Token) (n : ℕ) (t : Tree) → Reaches form tokens n → tokens ≡ xs ++ ys → IsForm form t xs [] → length xs ≤ n

-- ---- forms before other tokens

-- What is a form before some tokens is the same one by itself, where those don't begin with `**`.
abbrev pub StandingAreLone : Type 0
StandingAreLone = (form : Form) (t : Tree) (before rest : List Token) → IsForm form t (before ++ rest) rest → ¬ IsPowered rest → IsForm form t before []

-- It is the same one before any others too, where `**` is next in both places or in neither.
abbrev pub StandElsewhere : Type 0
StandElsewhere =
    (form : Form) (t : Tree) (before rest others : List Token) → IsForm form t (before ++ rest) rest → (IsPowered rest → IsPowered others) → (IsPowered others → IsPowered rest) → IsForm form t (before ++ others) others

-- A term before `**` goes on with it, so the longest one stands before none.
abbrev pub TermsGoOn : Type 0
TermsGoOn = (t : Tree) (before after : List Token) (power : Token) → Is shape.Power power → IsForm Form.Term t (before ++ power ∷ after) (power ∷ after) → BeginsForm Form.Term (before ++ power ∷ [])

-- Where the longest form ends, it has one tree.
abbrev pub OneStands : Type 0
OneStands = (form : Form) (tokens : List Token) (n : ℕ) (t u : Tree) → (r : Reaches form tokens n) → Stands form t tokens r.rest → Stands form u tokens r.rest → t ≡ u

-- ---- what is answered

-- What an answer says of the tokens from this one on. A tree is that of the longest form there is, where it stands, and its tokens are
-- such a form by themselves too. Where a token is bad, none stands there. Want of memory says nothing.
abbrev pub Says : Form → List Token → ℕ → ℕ → ℕ → Result (Tree × ℕ) ParseEnd → Type 0
Says form tokens from weight here (Ok (t, place)) =
    (n : ℕ) × (place ≡ from + n) × (r : Reaches form (drop from tokens) n) × Stands form t (drop from tokens) r.rest × ((u : Tree) × IsForm form u r.before [])
    × NoneDeepAmong (drop from tokens) weight here n
Says form tokens from weight here (Err (Bad at)) =
    (n : ℕ) × (r : Reaches form (drop from tokens) n) × (at ≡ bad_at tokens r.rest) × ((t : Tree) → ¬ Stands form t (drop from tokens) r.rest) × NoneDeepAmong (drop from tokens) weight here n
Says form tokens from weight here (Err (TooDeep at)) =
    (turn : ℕ) × (at ≡ start_at tokens (from + turn)) × DeepAt (drop from tokens) weight here turn × BeginsForm form (take (turn + 1) (drop from tokens))
Says form tokens from weight here (Err NoMemory) = Unit {0}

-- Whatever is answered, by the contracts of `expr` and `tern`, says this.
abbrev pub AnswersSay : Type 0
AnswersSay =
    (form : Form) (tokens : List Token) (from weight here : ℕ) (answer : Result (Tree × ℕ) ParseEnd) → from ≤ length tokens → here ≤ weight → weight ≤ MOST →
    Answers answer (answer_of form tokens from weight here) → Says form tokens from weight here answer

-- Where no token of it is too deep, the tree of the longest form is answered with the place after it, or it is refused there.
abbrev pub FormsEndThere : Type 0
FormsEndThere =
    (form : Form) (tokens : List Token) (from weight here n : ℕ) → from ≤ length tokens → here ≤ weight → weight ≤ MOST → (r : Reaches form (drop from tokens) n) →
    NoneDeepAmong (drop from tokens) weight here n → ((t : Tree) × (answer_of form tokens from weight here ≡ Ok (t, from + n))) ⊎ (answer_of form tokens from weight here ≡ Err (Bad (bad_at tokens r.rest)))

-- The longest form is answered, if it stands where it ends and no token of it is too deep.
abbrev pub FormsAreRead : Type 0
FormsAreRead =
    (form : Form) (tokens : List Token) (from weight here n : ℕ) (t : Tree) → from ≤ length tokens → here ≤ weight → weight ≤ MOST → (r : Reaches form (drop from tokens) n) →
    Stands form t (drop from tokens) r.rest → NoneDeepAmong (drop from tokens) weight here n → answer_of form tokens from weight here ≡ Ok (t, from + n)

-- Whatever is next, but for `**` and `rescue`: a form is answered, if the tokens over which the longest form reaches are one by themselves
-- and no token of it is too deep.
abbrev pub LoneFormsAreRead : Type 0
LoneFormsAreRead =
    (form : Form) (tokens : List Token) (from weight here n : ℕ) (t : Tree) → from ≤ length tokens → here ≤ weight → weight ≤ MOST → (r : Reaches form (drop from tokens) n) →
    IsForm form t r.before [] → ¬ IsBarred r.rest → NoneDeepAmong (drop from tokens) weight here n → answer_of form tokens from weight here ≡ Ok (t, from + n)

-- It is refused where it goes no further, if none stands there and no token of it is too deep.
abbrev pub NoFormsAreRefused : Type 0
NoFormsAreRefused =
    (form : Form) (tokens : List Token) (from weight here n : ℕ) → from ≤ length tokens → here ≤ weight → weight ≤ MOST → (r : Reaches form (drop from tokens) n) →
    ((t : Tree) → ¬ Stands form t (drop from tokens) r.rest) → NoneDeepAmong (drop from tokens) weight here n → answer_of form tokens from weight here ≡ Err (Bad (bad_at tokens r.rest))

-- It is refused at the first token that is too deep, if a form begins with the tokens up to and with that.
abbrev pub DeepFormsAreRefused : Type 0
DeepFormsAreRefused =
    (form : Form) (tokens : List Token) (from weight here turn : ℕ) → from ≤ length tokens → here ≤ weight → weight ≤ MOST → DeepAt (drop from tokens) weight here turn →
    BeginsForm form (take (turn + 1) (drop from tokens)) → answer_of form tokens from weight here ≡ Err (TooDeep (start_at tokens (from + turn)))
