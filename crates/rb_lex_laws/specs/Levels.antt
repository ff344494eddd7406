-- The level of a text.
use Rattle.std.specs.Prelude.{◌≡◌, ℕ, ◌↔◌, List, Some}
use Rattle.srb_terms.specs.declared.level.Level.{Level}
use Rattle.rb_lex.specs.Levels.{level_in, level_of_text}
use Rattle.rb_rules.specs.Levels.{Gives, Asks}

-- the level that is found in a comment is the one that it gives
abbrev pub GivenLevelsAreFound : Type 0
GivenLevelsAreFound = (text : List ℕ) (level : Level) → Gives text level → level_in text ≡ Some level

-- the level of a text is the one that it asks for
abbrev pub LevelIsThatOfTheText : Type 0
LevelIsThatOfTheText = (text : List ℕ) (level : Level) → (level_of_text text ≡ level) ↔ Asks text level
