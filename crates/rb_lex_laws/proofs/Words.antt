-- The lists of words, against what is computed of a word.
use Rattle.std.proofs.Common.{◌≡◌, ℕ, List, refl}
use Rattle.rb_tree.specs.declared.token.Shape.{Shape}
use Rattle.rb_lex.specs.Words.{word_of}
use Rattle.rb_lex.specs.declared.word.Word.TheVariants.{Keyword, Foreign}
use Rattle.rb_rules.specs.Spellings.{KEYWORDS, FOREIGN_WORDS}
use Rattle.rb_lex_laws.specs.Words.{KeywordsAreKnown, ForeignWordsAreKnown}
use Rattle.rb_lex_laws.proofs.Rows.{EachRow, at-row}

keywords : EachRow (λ (row : Shape × List ℕ). word_of row.1 ≡ Keyword row.0) KEYWORDS
unfolding word_of
keywords = (refl, (refl, (refl, (refl, (refl, (refl, (refl, (refl, (refl, (refl, (refl, (refl, (refl, (refl, (refl, (refl, (refl, (refl, (refl, (refl, (refl, (refl, (refl, (refl, (refl, (refl, tt))))))))))))))))))))))))))

foreign : EachRow (λ (w : List ℕ). word_of w ≡ Foreign) FOREIGN_WORDS
unfolding word_of
foreign = (refl, (refl, (refl, (refl, (refl, (refl, (refl, (refl, (refl, (refl, (refl, (refl, (refl, (refl, (refl, tt)))))))))))))))

pub keywords-known : KeywordsAreKnown
keywords-known s w held = at-row (λ (row : Shape × List ℕ). word_of row.1 ≡ Keyword row.0) (s, w) KEYWORDS keywords held

pub foreign-known : ForeignWordsAreKnown
foreign-known w held = at-row (λ (v : List ℕ). word_of v ≡ Foreign) w FOREIGN_WORDS foreign held
