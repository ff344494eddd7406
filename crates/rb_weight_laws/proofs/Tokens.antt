-- What the pass tells of a single token, by its sort.
use Rattle.std.proofs.Common.{◌≡◌, Bool, false, List, [], ◌∷◌, ap, subst}
use Rattle.std.specs.Prelude.{if◌then◌else◌}
use Rattle.rb_tree.specs.Tokens.{shape_of}
use Rattle.rb_tree.specs.declared.token.Token.{Token}
use Rattle.rb_tree.specs.declared.token.TokenKind.{TokenKind}
use Rattle.rb_tree.specs.declared.token.Shape.{Shape}
use Rattle.rb_rules.specs.Tokens.{Is}
use Rattle.rb_weight.specs.Sorts.{sort_of}
use Rattle.rb_weight.specs.Effects.{effect_of, after, after_plain, is_condition, separated}
use Rattle.rb_weight.specs.declared.sort.Sort.{Sort}
use Rattle.rb_weight.specs.declared.sort.Sort.TheVariants as sort
use Rattle.rb_weight.specs.declared.effect.Before.{Before}
use Rattle.rb_weight.specs.declared.effect.Before.TheVariants as before
use Rattle.rb_weight.specs.declared.effect.Level.{Level}
use Rattle.rb_weight.specs.declared.effect.Level.TheVariants as level
use Rattle.rb_weight_laws.specs.Roles.Role.{Opens, Closes, Counts, LoopDo, Separates, Divides, Stands}
use Rattle.rb_weight_laws.specs.Laws.{role_of}
use Rattle.rb_weight_laws.proofs.Steps.{kinds_within, Run, Sorted, token, Ready, Usual, Starts}
use Rattle.rb_weight_laws.proofs.Steps.Ready.{Fresh, Opened}
use Rattle.rb_weight_laws.proofs.Steps.Usual.{AtPlain, AtBlock, AtOperand, AtName}
use Rattle.rb_weight_laws.proofs.Steps.Starts.{First, After}

-- ---- the sorts of tokens

pub shaped : {s : Shape} (t : Token) → Is s t → Sorted (sort_of s) t
shaped t is = ap sort_of is

pub kinded : {k : TokenKind} (t : Token) → t.kind ≡ k → Sorted (sort_of (shape_of k)) t
kinded t is = ap (λ (k : TokenKind). sort_of (shape_of k)) is

-- ---- operands and words

pub operand : {b : Before} {l : Level} {ls : List Level} {xs : List Token} (t : Token) → Sorted sort.Operand t → Usual b → Run b (l ∷ ls) (t ∷ xs) (Stands ∷ []) before.Operand (l ∷ ls) xs
unfolding effect_of after after_plain role_of kinds_within
operand t is AtPlain = token sort.Operand t is
operand t is AtBlock = token sort.Operand t is
operand t is AtOperand = token sort.Operand t is
operand t is AtName = token sort.Operand t is

pub self-word : {b : Before} {l : Level} {ls : List Level} {xs : List Token} (t : Token) → Sorted sort.SelfWord t → Usual b → Run b (l ∷ ls) (t ∷ xs) (Stands ∷ []) before.Operand (l ∷ ls) xs
unfolding effect_of after after_plain role_of kinds_within
self-word t is AtPlain = token sort.SelfWord t is
self-word t is AtBlock = token sort.SelfWord t is
self-word t is AtOperand = token sort.SelfWord t is
self-word t is AtName = token sort.SelfWord t is

-- a label, `=>` or `::`
pub other : {b : Before} {l : Level} {ls : List Level} {xs : List Token} (t : Token) → Sorted sort.Other t → Usual b → Run b (l ∷ ls) (t ∷ xs) (Stands ∷ []) before.Plain (l ∷ ls) xs
unfolding effect_of after after_plain role_of kinds_within
other t is AtPlain = token sort.Other t is
other t is AtBlock = token sort.Other t is
other t is AtOperand = token sort.Other t is
other t is AtName = token sort.Other t is

-- ---- operators

pub operator : {b : Before} {l : Level} {ls : List Level} {xs : List Token} (t : Token) → Sorted sort.Operator t → Usual b → Run b (l ∷ ls) (t ∷ xs) (Counts ∷ []) before.Plain (l ∷ ls) xs
unfolding effect_of after after_plain role_of kinds_within
operator t is AtPlain = token sort.Operator t is
operator t is AtBlock = token sort.Operator t is
operator t is AtOperand = token sort.Operator t is
operator t is AtName = token sort.Operator t is

-- the sorts that count after an operand
pub data Counting : Sort → Type 0 where
  ByOperator : Counting sort.Operator
  ByDot : Counting sort.Dot
  ByAssign : Counting sort.Assign
  ByPipe : Counting sort.Pipe

pub counts : {s : Sort} {l : Level} {ls : List Level} {xs : List Token} (t : Token) → Sorted s t → Counting s → Run before.Operand (l ∷ ls) (t ∷ xs) (Counts ∷ []) before.Plain (l ∷ ls) xs
unfolding effect_of after after_plain role_of kinds_within
counts t is ByOperator = token sort.Operator t is
counts t is ByDot = token sort.Dot t is
counts t is ByAssign = token sort.Assign t is
counts t is ByPipe = token sort.Pipe t is

-- ---- separators

pub divides : {b : Before} {l : Level} {ls : List Level} {xs : List Token} (t : Token) → Sorted sort.Divider t → Usual b → Run b (l ∷ ls) (t ∷ xs) (Divides ∷ []) before.Plain (l ∷ ls) xs
unfolding effect_of after after_plain role_of kinds_within
divides t is AtPlain = token sort.Divider t is
divides t is AtBlock = token sort.Divider t is
divides t is AtOperand = token sort.Divider t is
divides t is AtName = token sort.Divider t is

separates-to : {b : Before} {l : Level} {ls : List Level} {xs : List Token} (t : Token) → Sorted sort.Separator t → Usual b → Run b (l ∷ ls) (t ∷ xs) (Separates ∷ []) before.Plain (separated l ∷ ls) xs
unfolding effect_of after after_plain role_of kinds_within
separates-to t is AtPlain = token sort.Separator t is
separates-to t is AtBlock = token sort.Separator t is
separates-to t is AtOperand = token sort.Separator t is
separates-to t is AtName = token sort.Separator t is

-- not in the condition of a loop
pub separates : {b : Before} {l : Level} {ls : List Level} {xs : List Token} (t : Token) → Sorted sort.Separator t → Usual b → is_condition l ≡ false → Run b (l ∷ ls) (t ∷ xs) (Separates ∷ []) before.Plain (l ∷ ls) xs
separates {b = b} {l = l} {ls = ls} {xs = xs} t is u no_condition =
    let same : separated l ≡ l = ap (λ (c : Bool). if c then level.Plain else l) no_condition in
    subst (λ (m : Level). Run b (l ∷ ls) (t ∷ xs) (Separates ∷ []) before.Plain (m ∷ ls) xs) same (separates-to t is u)

-- after the condition of a loop
pub ends-condition : {ls : List Level} {xs : List Token} (t : Token) → Sorted sort.Separator t → Run before.Operand (level.Condition ∷ ls) (t ∷ xs) (Separates ∷ []) before.Plain (level.Plain ∷ ls) xs
ends-condition t is = separates-to t is AtOperand

pub loop-do : {ls : List Level} {xs : List Token} (t : Token) → Sorted sort.Do t → Run before.Operand (level.Condition ∷ ls) (t ∷ xs) (LoopDo ∷ []) before.Block (level.Plain ∷ ls) xs
unfolding effect_of after after_plain role_of kinds_within
loop-do t is = token sort.Do t is

-- ---- levels

pub opens : {b : Before} {l : Level} {ls : List Level} {xs : List Token} (t : Token) → Sorted sort.Open t → Usual b → Run b (l ∷ ls) (t ∷ xs) (Opens ∷ []) before.Plain (level.Plain ∷ l ∷ ls) xs
unfolding effect_of after after_plain role_of kinds_within
opens t is AtPlain = token sort.Open t is
opens t is AtBlock = token sort.Open t is
opens t is AtOperand = token sort.Open t is
opens t is AtName = token sort.Open t is

pub brace : {b : Before} {l : Level} {ls : List Level} {xs : List Token} (t : Token) → Sorted sort.Brace t → Usual b → Run b (l ∷ ls) (t ∷ xs) (Opens ∷ []) before.Block (level.Plain ∷ l ∷ ls) xs
unfolding effect_of after after_plain role_of kinds_within
brace t is AtPlain = token sort.Brace t is
brace t is AtBlock = token sort.Brace t is
brace t is AtOperand = token sort.Brace t is
brace t is AtName = token sort.Brace t is

pub paren : {b : Before} {l : Level} {ls : List Level} {xs ys : List Token} (t : Token) → Sorted sort.Paren t → Starts b ys → Run b (l ∷ ls) (t ∷ xs) (Opens ∷ []) before.Plain (level.Plain ∷ l ∷ ls) xs
unfolding effect_of after after_plain role_of kinds_within
paren t is (First _ _ Fresh) = token sort.Paren t is
paren t is (First _ _ Opened) = token sort.Paren t is
paren t is (After _ _) = token sort.Paren t is

pub paren-after : {l : Level} {ls : List Level} {xs : List Token} (t : Token) → Sorted sort.Paren t → Run before.Operand (l ∷ ls) (t ∷ xs) (Opens ∷ []) before.Plain (level.Plain ∷ l ∷ ls) xs
unfolding effect_of after after_plain role_of kinds_within
paren-after t is = token sort.Paren t is

-- after the name of a method
pub parameter-paren : {l : Level} {ls : List Level} {xs : List Token} (t : Token) → Sorted sort.Paren t → Run before.Name (l ∷ ls) (t ∷ xs) (Opens ∷ []) before.Plain (level.Parameters ∷ l ∷ ls) xs
unfolding effect_of after after_plain role_of kinds_within
parameter-paren t is = token sort.Paren t is

pub closes : {b : Before} {ls : List Level} {xs : List Token} (t : Token) → Sorted sort.Close t → Usual b → Run b (level.Plain ∷ ls) (t ∷ xs) (Closes ∷ []) before.Operand ls xs
unfolding effect_of after after_plain role_of kinds_within
closes t is AtPlain = token sort.Close t is
closes t is AtBlock = token sort.Close t is
closes t is AtOperand = token sort.Close t is
closes t is AtName = token sort.Close t is

pub closes-parameters : {b : Before} {ls : List Level} {xs : List Token} (t : Token) → Sorted sort.Close t → Usual b → Run b (level.Parameters ∷ ls) (t ∷ xs) (Closes ∷ []) before.Plain ls xs
unfolding effect_of after after_plain role_of kinds_within
closes-parameters t is AtPlain = token sort.Close t is
closes-parameters t is AtBlock = token sort.Close t is
closes-parameters t is AtOperand = token sort.Close t is
closes-parameters t is AtName = token sort.Close t is

-- the `do` of a block
pub block-do : {l : Level} {ls : List Level} {xs : List Token} (t : Token) → Sorted sort.Do t → is_condition l ≡ false → Run before.Operand (l ∷ ls) (t ∷ xs) (Opens ∷ []) before.Block (level.Plain ∷ l ∷ ls) xs
unfolding effect_of after after_plain role_of kinds_within
block-do {l = level.Plain} t is no_condition = token sort.Do t is
block-do {l = level.Condition} t is no_condition = absurd (cc)
block-do {l = level.Parameters} t is no_condition = token sort.Do t is

-- a word that is no modifier
pub choice : {b : Before} {l : Level} {ls : List Level} {xs : List Token} (t : Token) → Sorted sort.Choice t → Ready b → Run b (l ∷ ls) (t ∷ xs) (Opens ∷ []) before.Plain (level.Plain ∷ l ∷ ls) xs
unfolding effect_of after after_plain role_of kinds_within
choice t is Fresh = token sort.Choice t is
choice t is Opened = token sort.Choice t is

pub loop : {b : Before} {l : Level} {ls : List Level} {xs : List Token} (t : Token) → Sorted sort.Loop t → Ready b → Run b (l ∷ ls) (t ∷ xs) (Opens ∷ []) before.Plain (level.Condition ∷ l ∷ ls) xs
unfolding effect_of after after_plain role_of kinds_within
loop t is Fresh = token sort.Loop t is
loop t is Opened = token sort.Loop t is

-- the sorts of the words that are modifiers after an operand
pub data Modifying : Sort → Type 0 where
  ByChoice : Modifying sort.Choice
  ByLoop : Modifying sort.Loop

pub modifier : {s : Sort} {l : Level} {ls : List Level} {xs : List Token} (t : Token) → Sorted s t → Modifying s → Run before.Operand (l ∷ ls) (t ∷ xs) (Counts ∷ []) before.Plain (l ∷ ls) xs
unfolding effect_of after after_plain role_of kinds_within
modifier t is ByChoice = token sort.Choice t is
modifier t is ByLoop = token sort.Loop t is

-- ---- the head of a method

pub def-word : {b : Before} {l : Level} {ls : List Level} {xs : List Token} (t : Token) → Sorted sort.Def t → Usual b → Run b (l ∷ ls) (t ∷ xs) (Opens ∷ []) before.Def (level.Plain ∷ l ∷ ls) xs
unfolding effect_of after after_plain role_of kinds_within
def-word t is AtPlain = token sort.Def t is
def-word t is AtBlock = token sort.Def t is
def-word t is AtOperand = token sort.Def t is
def-word t is AtName = token sort.Def t is

-- the name of a method is expected
pub data Heads : Before → Type 0 where
  AfterDef : Heads before.Def
  AfterDot : Heads before.DefDot

pub def-self : {l : Level} {ls : List Level} {xs : List Token} (t : Token) → Sorted sort.SelfWord t → Run before.Def (l ∷ ls) (t ∷ xs) (Stands ∷ []) before.DefSelf (l ∷ ls) xs
unfolding effect_of after role_of kinds_within
def-self t is = token sort.SelfWord t is

pub def-dot : {l : Level} {ls : List Level} {xs : List Token} (t : Token) → Sorted sort.Dot t → Run before.DefSelf (l ∷ ls) (t ∷ xs) (Counts ∷ []) before.DefDot (l ∷ ls) xs
unfolding effect_of after role_of kinds_within
def-dot t is = token sort.Dot t is

pub plain-name : {b : Before} {l : Level} {ls : List Level} {xs : List Token} (t : Token) → Sorted sort.Operand t → Heads b → Run b (l ∷ ls) (t ∷ xs) (Stands ∷ []) before.Name (l ∷ ls) xs
unfolding effect_of after role_of kinds_within
plain-name t is AfterDef = token sort.Operand t is
plain-name t is AfterDot = token sort.Operand t is

pub operator-name : {s : Sort} {b : Before} {l : Level} {ls : List Level} {xs : List Token} (t : Token) → Sorted s t → Counting s → Heads b → Run b (l ∷ ls) (t ∷ xs) (Counts ∷ []) before.Name (l ∷ ls) xs
unfolding effect_of after role_of kinds_within
operator-name t is ByOperator AfterDef = token sort.Operator t is
operator-name t is ByOperator AfterDot = token sort.Operator t is
operator-name t is ByDot AfterDef = token sort.Dot t is
operator-name t is ByDot AfterDot = token sort.Dot t is
operator-name t is ByAssign AfterDef = token sort.Assign t is
operator-name t is ByAssign AfterDot = token sort.Assign t is
operator-name t is ByPipe AfterDef = token sort.Pipe t is
operator-name t is ByPipe AfterDot = token sort.Pipe t is

-- the `=` of a method's name
pub writer-sign : {l : Level} {ls : List Level} {xs : List Token} (t : Token) → Sorted sort.Assign t → Run before.Name (l ∷ ls) (t ∷ xs) (Counts ∷ []) before.Name (l ∷ ls) xs
unfolding effect_of after role_of kinds_within
writer-sign t is = token sort.Assign t is

-- ---- block parameters

pub opens-bars : {l : Level} {ls : List Level} {xs : List Token} (t : Token) → Sorted sort.Pipe t → Run before.Block (l ∷ ls) (t ∷ xs) (Stands ∷ []) before.Bars (l ∷ ls) xs
unfolding effect_of after after_plain role_of kinds_within
opens-bars t is = token sort.Pipe t is

pub bar-name : {l : Level} {ls : List Level} {xs : List Token} (t : Token) → Sorted sort.Operand t → Run before.Bars (l ∷ ls) (t ∷ xs) (Stands ∷ []) before.Bars (l ∷ ls) xs
unfolding effect_of after role_of kinds_within
bar-name t is = token sort.Operand t is

pub bar-comma : {l : Level} {ls : List Level} {xs : List Token} (t : Token) → Sorted sort.Divider t → Run before.Bars (l ∷ ls) (t ∷ xs) (Divides ∷ []) before.Bars (l ∷ ls) xs
unfolding effect_of after role_of kinds_within
bar-comma t is = token sort.Divider t is

pub closes-bars : {l : Level} {ls : List Level} {xs : List Token} (t : Token) → Sorted sort.Pipe t → Run before.Bars (l ∷ ls) (t ∷ xs) (Stands ∷ []) before.Plain (l ∷ ls) xs
unfolding effect_of after role_of kinds_within
closes-bars t is = token sort.Pipe t is
