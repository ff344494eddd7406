-- The examples, computed.
use Rattle.std.proofs.Common.{◌≡◌, ℕ, zero, suc, ◌+◌, List, [], ◌∷◌, codes, replicate, Result, Ok, Err, inl, inr, refl, subst, sym, arith}
use lib.Utf8.{encode}
use Rattle.rb_tree.specs.Tokens.{shape_of, same_shape, plain_kind}
use Rattle.rb_tree.specs.Trees as trees
use Rattle.rb_tree.specs.Nodes as tree
use Rattle.rb_tree.specs.declared.syntax.Binary.TheVariants as binary
use Rattle.rb_tree.specs.declared.syntax.Node as node
use denote.Hole.Carrier as carrier
use Rattle.rb_tree.specs.declared.syntax.Tree.{Tree}
use Rattle.rb_tree.specs.declared.token.Token.{Token}
use Rattle.rb_tree.specs.declared.token.TokenKind.TheVariants as kind
use Rattle.rb_weight.specs.Sorts as sorts
use Rattle.rb_weight.specs.Effects as effects
use Rattle.rb_weight.specs.Scans as scans
use Rattle.rb_expr.specs.Shapes as shapes
use Rattle.rb_expr.specs.Calls as calls
use Rattle.rb_expr.specs.Grammar as grammar
use Rattle.rb_expr.specs.Operands as operands
use Rattle.rb_expr.specs.Operators as operators
use Rattle.rb_expr.specs.Statements as statements
use Rattle.rb_expr.specs.Rules as rules
use Rattle.rb_expr.specs.declared.ParseEnd.{ParseEnd}
use Rattle.rb_expr.specs.declared.ParseEnd.TheVariants as parse
use Rattle.rb_decl.specs.Methods as methods
use Rattle.rb_decl.specs.Items as items
use Rattle.rb_decl.specs.Programs.{program, parsed, whole, cut}
use Rattle.rb_lex.specs.Cuts as cuts
use Rattle.rb_lex.specs.Lexed as lexed
use Rattle.rb_lex.specs.Lexed.{lexed_text}
use Rattle.rb_lex.specs.Numbers as numbers
use Rattle.rb_lex.specs.Operators as signs
use Rattle.rb_lex.specs.Words as words
use Rattle.rb_lex.specs.declared.LexEnd.{LexEnd}
use Rattle.rb_lex.specs.declared.LexEnd.TheVariants as lex
use Rattle.rb_grammar.specs.Examples.{token, from_to, digit}
use Rattle.rb_rules.specs.Tokens.{IsOneOf}
use Rattle.rb_text_laws.specs.Examples.{SumIsAProgram, BracketIsNoRuby, CallIsNoRuby, MinusIsNoRuby, GlobalIsOutside, LetterIsOutside, LastIsTooDeep}
use Rattle.rb_text_laws.specs.Texts.{Verdict, Is}
use Rattle.rb_text_laws.proofs.Answers.{OfLexed, OfParsed}
use Rattle.rb_text_laws.proofs.Verdicts.{judged-as}

-- what is lexed to this is that
by-characters : (text : List ℕ) (r : Result (List Token) LexEnd) (v : Verdict) → lexed_text text ≡ r → OfLexed text r v → Is text v
by-characters text r v e h = judged-as text v (subst (λ x. OfLexed text x v) (sym e) h)

-- what is lexed to tokens that are parsed to this is that
by-tokens : (text : List ℕ) (tokens : List Token) (r : Result Tree ParseEnd) (v : Verdict) → lexed_text text ≡ Ok tokens → parsed tokens ≡ r → OfParsed text tokens r v → Is text v
by-tokens text tokens r v e f h = by-characters text (Ok tokens) v e (subst (λ x. OfParsed text tokens x v) (sym f) h)

-- ---- tokens

abbrev SUM : List Token
SUM = token (kind.Whole (codes "1")) 0 1 ∷ token kind.Plus 1 2 ∷ token (kind.Whole (codes "2")) 2 3 ∷ []

abbrev SUM_TREE : Tree
SUM_TREE = tree.Body (tree.Binary binary.Plus (from_to 1 2) (digit (codes "1") 0) (digit (codes "2") 2) (from_to 0 3) ∷ []) (from_to 0 3)

abbrev CLOSED : List Token
CLOSED = token (kind.Whole (codes "1")) 0 1 ∷ token kind.CloseParen 2 3 ∷ []

abbrev CALL : List Token
CALL = token (kind.Identifier (codes "f")) 0 1 ∷ token kind.OpenParen 1 2 ∷ []

-- so many `!`, the first of them at this offset
nots_from : ℕ → ℕ → List Token
nots_from at zero = []
nots_from at (suc n) = token kind.Not at (at + 1) ∷ nots_from (at + 1) n

all-lexed :
    (lexed_text (codes "$x") ≡ Err (lex.Outside 0))
    × (lexed_text (codes "f -1") ≡ Err (lex.Bad 2))
    × (lexed_text (codes "1+2") ≡ Ok SUM)
    × (lexed_text (codes "1 )") ≡ Ok CLOSED)
    × (lexed_text (codes "f(") ≡ Ok CALL)
    × (lexed_text (replicate 201 33) ≡ Ok (nots_from 0 201))
    × (lexed_text (233 ∷ []) ≡ Err (lex.Outside 0))
unfolding nots_from encode shape_of same_shape plain_kind
    lexed.lexed lexed.step lexed.code_step lexed.accepted lexed.kind_of
    cuts.cut_of cuts.name cuts.number cuts.mark cuts.sign cuts.sign_at cuts.judged cuts.ends_program
    numbers.spelling_of numbers.is_foreign signs.operator words.word_of
all-lexed = (refl, refl, refl, refl, refl, refl, refl)

all-parsed :
    (parsed SUM ≡ Ok SUM_TREE)
    × (parsed CLOSED ≡ Err (parse.Bad 2))
    × (parsed CALL ≡ Err (parse.Bad 2))
    × (parsed (nots_from 0 201) ≡ Err (parse.TooDeep 200))
unfolding nots_from shape_of same_shape trees.span_of trees.span_of_node node.out-Node carrier.out
    sorts.sort_of effects.effect_of effects.after effects.after_plain scans.done
    whole cut program items.statements items.statements_from items.item methods.visibility rules.statement grammar.parsed
    statements.statement statements.simple statements.value statements.from_operand statements.followed statements.ending_of statements.follower_of
    statements.modifiers statements.modifiers_from statements.modifier_after
    shapes.has_prefix shapes.is_negation shapes.prefix_of shapes.is_sign shapes.is_signed shapes.sees_number shapes.operator_between
    calls.optional_brackets calls.brackets calls.in_brackets calls.listed calls.listed_from calls.one_argument calls.positional
    operands.post operands.primary operands.number operands.called operands.suffixes operands.suffixes_from operands.a_suffix
    operators.tern operators.tern_after operators.operation operators.negated operators.power operators.powered operators.prefixed
    operators.unary_operation operators.binary_operation operators.across operators.climb operators.climb_from operators.chosen
all-parsed = (refl, refl, refl, refl)

-- ---- the examples

pub sum-is-a-program : SumIsAProgram
sum-is-a-program = by-tokens (codes "1+2") SUM (Ok SUM_TREE) (Verdict.Program SUM_TREE) all-lexed.2 all-parsed.0 refl

pub bracket-is-no-ruby : BracketIsNoRuby
bracket-is-no-ruby =
    by-tokens (codes "1 )") CLOSED (Err (parse.Bad 2)) (Verdict.NoRuby (from_to 2 3)) all-lexed.3 all-parsed.1
    (from_to 2 3, refl, inl (record { token = token kind.CloseParen 2 3; is_one = inr (inl refl); begins = refl; some = omega arith; span_is = refl }))

pub call-is-no-ruby : CallIsNoRuby
call-is-no-ruby = by-tokens (codes "f(") CALL (Err (parse.Bad 2)) (Verdict.NoRuby (from_to 2 2)) all-lexed.4 all-parsed.2 (from_to 2 2, refl, inr (refl, refl))

pub minus-is-no-ruby : MinusIsNoRuby
minus-is-no-ruby =
    by-characters (codes "f -1") (Err (lex.Bad 2)) (Verdict.NoRuby (from_to 2 3)) all-lexed.1
    (from_to 2 3, refl, inl (record { before = codes "f "; character = 45; after = codes "1"; whole = refl; begins = refl; span_is = refl }))

pub global-is-outside : GlobalIsOutside
global-is-outside =
    by-characters (codes "$x") (Err (lex.Outside 0)) (Verdict.Outside (from_to 0 1)) all-lexed.0
    (from_to 0 1, refl, inl (record { before = []; character = 36; after = codes "x"; whole = refl; begins = refl; span_is = refl }))

pub letter-is-outside : LetterIsOutside
letter-is-outside =
    by-characters (233 ∷ []) (Err (lex.Outside 0)) (Verdict.Outside (from_to 0 2)) all-lexed.6
    (from_to 0 2, refl, inl (record { before = []; character = 233; after = []; whole = refl; begins = refl; span_is = refl }))

-- the last of these tokens
last-one : (at n : ℕ) → IsOneOf (nots_from at (suc n)) (token kind.Not (at + n) (at + n + 1))
unfolding nots_from
last-one at zero = let e : at + zero ≡ at = omega arith in inl (subst (λ k. token kind.Not (at + zero) (at + zero + 1) ≡ token kind.Not k (k + 1)) e refl)
last-one at (suc n) =
    let e : at + 1 + n ≡ at + suc n = omega arith in
    inr (subst (λ k. IsOneOf (nots_from (at + 1) (suc n)) (token kind.Not k (k + 1))) e (last-one (at + 1) n))

pub last-is-too-deep : LastIsTooDeep
last-is-too-deep =
    by-tokens (replicate 201 33) (nots_from 0 201) (Err (parse.TooDeep 200)) (Verdict.TooDeep (from_to 200 201)) all-lexed.5 all-parsed.3
    (from_to 200 201, refl, record { token = token kind.Not 200 201; is_one = last-one 0 200; begins = refl; some = omega arith; span_is = refl })
