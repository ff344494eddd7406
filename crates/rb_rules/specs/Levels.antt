-- The level of a text in words.
use Rattle.std.specs.Prelude.{◌≡◌, ℕ, true, List, [], ◌∷◌, ◌++◌, codes}
use Rattle.std.specs.List.{list_all}
use Rattle.srb_terms.specs.declared.level.Level.{Level}
use Rattle.srb_terms.specs.declared.level.Level.TheVariants.{Ignore, False, True, Strict, Strong}
use Rattle.rb_rules.specs.Letters.{is_blank}
use Rattle.rb_rules.specs.Spellings.{Begins, Holds}
use Rattle.rb_rules.specs.Lexes.{IsBlank, EndsLine}

-- the word of a level
abbrev pub word_of_level : Level → List ℕ
word_of_level Ignore = codes "ignore"
word_of_level False = codes "false"
word_of_level True = codes "true"
word_of_level Strict = codes "strict"
word_of_level Strong = codes "strong"

-- spaces and tabs alone, or nothing
abbrev pub AreBlank : List ℕ → Type 0
AreBlank w = list_all is_blank w ≡ true

-- the text of a comment gives the level: it is blanks, `typed:`, blanks, the level's word, and blanks
pub record Gives (text : List ℕ) (level : Level) : Type 0 where
  pub before : List ℕ
  pub between : List ℕ
  pub after : List ℕ
  pub whole : text ≡ before ++ (codes "typed:" ++ (between ++ (word_of_level level ++ after)))
  pub blank_before : AreBlank before
  pub blank_between : AreBlank between
  pub blank_after : AreBlank after

-- ---- the level of a text

-- the characters of a comment after its `#`, before its line's end or the text's: a `\r` directly before `\n` is not of the comment
pub record IsLine (w rest : List ℕ) : Type 0 where
  pub plain : ¬ Holds 10 w
  pub ended : EndsLine rest
  pub whole : (v : List ℕ) → w ≡ v ++ 13 ∷ [] → ¬ Begins 10 rest

-- The text asks for the level: past blanks, line ends and comments that give none stands a comment that gives it. Where another character
-- or the text's end comes first, it asks for `false`.
pub data Asks : List ℕ → Level → Type 0 where
  PastBlank : (w rest : List ℕ) (level : Level) → IsBlank w rest → Asks rest level → Asks (w ++ rest) level
  PastLine : (rest : List ℕ) (level : Level) → Asks rest level → Asks (10 ∷ rest) level
  PastComment : (w rest : List ℕ) (level : Level) → IsLine w rest → ((other : Level) → ¬ Gives w other) → Asks rest level → Asks (35 ∷ w ++ rest) level
  Given : (w rest : List ℕ) (level : Level) → IsLine w rest → Gives w level → Asks (35 ∷ w ++ rest) level
  Otherwise : (z : List ℕ) → ((w rest : List ℕ) → w ++ rest ≡ z → ¬ IsBlank w rest) → ¬ Begins 10 z → ¬ Begins 35 z → Asks z False
