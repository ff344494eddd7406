-- What a program is parsed to.
use Rattle.std.proofs.Common.{◌≡◌, ℕ, ◌+◌, ◌<◌, List, length, Option, Some, None, Ok, refl, ap, ◌∙◌, arith}
use Rattle.rb_tree.specs.declared.syntax.Tree.{Tree}
use Rattle.rb_tree.specs.declared.token.Token.{Token}
use Rattle.rb_weight.specs.Scans.{first_too_deep}
use Rattle.rb_weight.specs.Weights.{IsFirstDeep}
use Rattle.rb_weight.proofs.Alike.{first-deep}
use Rattle.rb_decl.specs.Programs.{whole, whole_of, parsed, parsed_by}
use Rattle.rb_rules.specs.Grammar.{Derives}
use Rattle.rb_grammar.proofs.Programs.{programs-derive}
use Rattle.rb_grammar_laws.specs.Laws.{IsLight, ProgramsAnswer, ParsedExactly}
use Rattle.rb_grammar_laws.proofs.Programs.{program-answers}

pub programs-answer : ProgramsAnswer
programs-answer tokens t d = program-answers (length tokens + 2) tokens t d (let h : length tokens < length tokens + 2 = omega arith in h)

whole-answers : (tokens : List Token) (t : Tree) → Derives tokens t → whole tokens ≡ Ok t
unfolding whole
whole-answers tokens t d = ap (whole_of tokens) (programs-answer tokens t d)

-- tokens that nest too deep nowhere are parsed whole
light-whole : (tokens : List Token) → IsLight tokens → (place : Option ℕ) → IsFirstDeep tokens 0 0 0 place → parsed_by tokens place ≡ whole tokens
light-whole tokens light None first = refl
light-whole tokens light (Some place) first = absurd (light first.0 first.2)

parsed-whole : (tokens : List Token) → IsLight tokens → parsed tokens ≡ whole tokens
parsed-whole tokens light = light-whole tokens light (first_too_deep tokens 0 0 0) (first-deep tokens 0 0 0 (omega arith) (omega arith))

parsed-answers : (tokens : List Token) (t : Tree) → Derives tokens t → IsLight tokens → parsed tokens ≡ Ok t
parsed-answers tokens t d light = parsed-whole tokens light ∙ whole-answers tokens t d

light-by : (tokens : List Token) (t : Tree) (place : Option ℕ) → IsFirstDeep tokens 0 0 0 place → parsed_by tokens place ≡ Ok t → IsLight tokens
light-by tokens t None first e = first
light-by tokens t (Some place) first e = absurd (cc)

parsed-light : (tokens : List Token) (t : Tree) → parsed tokens ≡ Ok t → IsLight tokens
parsed-light tokens t e = light-by tokens t (first_too_deep tokens 0 0 0) (first-deep tokens 0 0 0 (omega arith) (omega arith)) e

pub parsed-exactly : ParsedExactly
parsed-exactly tokens t = ((λ e. (programs-derive tokens t e, parsed-light tokens t e)), λ h. parsed-answers tokens t h.0 h.1)
