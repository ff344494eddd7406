-- What a word is by its spelling, against the lists of words.
use Rattle.std.specs.Prelude.{◌≡◌, ℕ, List}
use Rattle.rb_tree.specs.declared.token.Shape.{Shape}
use Rattle.rb_lex.specs.Words.{word_of}
use Rattle.rb_lex.specs.declared.word.Word.TheVariants.{Keyword, Foreign}
use Rattle.rb_rules.specs.Spellings.{Holds, KEYWORDS, FOREIGN_WORDS}

-- each keyword is known, with its shape
abbrev pub KeywordsAreKnown : Type 0
KeywordsAreKnown = (s : Shape) (w : List ℕ) → Holds (s, w) KEYWORDS → word_of w ≡ Keyword s

-- each word of Ruby outside the profile is known as one
abbrev pub ForeignWordsAreKnown : Type 0
ForeignWordsAreKnown = (w : List ℕ) → Holds w FOREIGN_WORDS → word_of w ≡ Foreign

-- each word that is known as a keyword is one, with its shape
abbrev pub KnownKeywordsAreListed : Type 0
KnownKeywordsAreListed = (s : Shape) (w : List ℕ) → word_of w ≡ Keyword s → Holds (s, w) KEYWORDS

-- each word that is known as foreign is one
abbrev pub KnownForeignWordsAreListed : Type 0
KnownForeignWordsAreListed = (w : List ℕ) → word_of w ≡ Foreign → Holds w FOREIGN_WORDS
