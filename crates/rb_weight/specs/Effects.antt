-- What a token does to the weight, by what stands before it.
use Rattle.std.specs.Prelude.{Bool, true, false, ◌||◌, if◌then◌else◌}
use Rattle.rb_weight.specs.declared.sort.Sort.{Sort}
use Rattle.rb_weight.specs.declared.sort.Sort.TheVariants as sort
use Rattle.rb_weight.specs.declared.effect.Before.{Before}
use Rattle.rb_weight.specs.declared.effect.Before.TheVariants as before
use Rattle.rb_weight.specs.declared.effect.Level.{Level}
use Rattle.rb_weight.specs.declared.effect.Level.TheVariants as level
use Rattle.rb_weight.specs.declared.effect.Effect.{Effect}
use Rattle.rb_weight.specs.declared.effect.Effect.TheVariants as effect

abbrev pub is_operand : Before → Bool
is_operand before.Operand = true
is_operand _ = false

abbrev pub is_block : Before → Bool
is_block before.Block = true
is_block _ = false

abbrev pub is_bars : Before → Bool
is_bars before.Bars = true
is_bars _ = false

abbrev pub is_name : Before → Bool
is_name before.Name = true
is_name _ = false

abbrev pub is_condition : Level → Bool
is_condition level.Condition = true
is_condition _ = false

abbrev pub is_parameters : Level → Bool
is_parameters level.Parameters = true
is_parameters _ = false

-- an `if`, `unless`, `while` or `until` counts as a modifier, or opens a level
abbrev pub conditional : Bool → Level → Effect
conditional is_modifier l = if is_modifier then effect.Counts else effect.Opens l

-- `(`
abbrev pub paren : Before → Effect
paren b = effect.Opens (if is_name b then level.Parameters else level.Plain)

-- `do`, which opens no level where it is that of a `while` or `until`
abbrev pub do_word : Level → Effect
do_word l = if is_condition l then effect.Enters else effect.Opens level.Plain

-- `|`, which is no operator around block parameters
abbrev pub pipe : Before → Effect
pipe b = if is_block b || is_bars b then effect.Nothing else effect.Counts

-- what a token does, by the token before it and the innermost open level
unfoldable pub effect_of : Before → Level → Sort → Effect
effect_of b l sort.Operand = effect.Nothing
effect_of b l sort.SelfWord = effect.Nothing
effect_of b l sort.Other = effect.Nothing
effect_of b l sort.Close = effect.Closes
effect_of b l sort.Open = effect.Opens level.Plain
effect_of b l sort.Brace = effect.Opens level.Plain
effect_of b l sort.Def = effect.Opens level.Plain
effect_of b l sort.Paren = paren b
effect_of b l sort.Do = do_word l
effect_of b l sort.Choice = conditional (is_operand b) level.Plain
effect_of b l sort.Loop = conditional (is_operand b) level.Condition
effect_of b l sort.Separator = effect.Separates
effect_of b l sort.Divider = effect.Divides
effect_of b l sort.Operator = effect.Counts
effect_of b l sort.Dot = effect.Counts
effect_of b l sort.Assign = effect.Counts
effect_of b l sort.Pipe = pipe b

-- What a token says about the next one, outside of a method's head and of block parameters. An `if` is a modifier after an
-- operand's end and after `return`, `break` and `next`, but not after the `)` that closes the parameters of a method.
unfoldable pub after_plain : Before → Level → Sort → Before
after_plain b l sort.Operand = before.Operand
after_plain b l sort.SelfWord = before.Operand
after_plain b l sort.Close = (if is_parameters l then before.Plain else before.Operand)
after_plain b l sort.Brace = before.Block
after_plain b l sort.Do = before.Block
after_plain b l sort.Def = before.Def
after_plain b l sort.Pipe = (if is_block b then before.Bars else before.Plain)
after_plain b l sort.Open = before.Plain
after_plain b l sort.Paren = before.Plain
after_plain b l sort.Choice = before.Plain
after_plain b l sort.Loop = before.Plain
after_plain b l sort.Separator = before.Plain
after_plain b l sort.Divider = before.Plain
after_plain b l sort.Operator = before.Plain
after_plain b l sort.Dot = before.Plain
after_plain b l sort.Assign = before.Plain
after_plain b l sort.Other = before.Plain

-- after `def`: `self`, or a method's name
abbrev pub after_def : Sort → Before
after_def sort.SelfWord = before.DefSelf
after_def _ = before.Name

-- after the `self` of `def self`
abbrev pub after_self : Sort → Before
after_self sort.Dot = before.DefDot
after_self _ = before.Plain

-- in block parameters, which the next `|` closes
abbrev pub after_bar : Sort → Before
after_bar sort.Pipe = before.Plain
after_bar _ = before.Bars

abbrev pub is_assign : Sort → Bool
is_assign sort.Assign = true
is_assign _ = false

-- after a method's name, of which a `=` is a part
abbrev pub after_name : Level → Sort → Before
after_name l s = if is_assign s then before.Name else after_plain before.Name l s

-- what a token says about the next one
unfoldable pub after : Before → Level → Sort → Before
after before.Def l s = after_def s
after before.DefSelf l s = after_self s
after before.DefDot l s = before.Name
after before.Name l s = after_name l s
after before.Bars l s = after_bar s
after before.Plain l s = after_plain before.Plain l s
after before.Operand l s = after_plain before.Operand l s
after before.Block l s = after_plain before.Block l s

-- a separator ends the condition of a `while` or `until`
abbrev pub separated : Level → Level
separated l = if is_condition l then level.Plain else l
