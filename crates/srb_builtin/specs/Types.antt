-- The types of the table's texts.
--
-- `u` is `T.untyped` and `b` is `T::Boolean`. The letters E, K, V, B and N and `self` stand for types that a call puts in their places:
-- they are constants whose names begin with `%`. Everything else is spelled as in Ruby.
use Rattle.std.specs.Prelude.{ℕ, zero, suc, List, [], ◌∷◌, codes, bytes_eq, if◌then◌else◌}
use Rattle.srb_terms.specs.declared.outline.Outline.{Outline}
use Rattle.srb_builtin.specs.Marks.{before, after, round_open, round_close, square_open, square_close, comma}
use Rattle.srb_builtin.specs.Outlines.{constant, t_word, t_boolean, t_nilable, t_array, t_hash}

-- the name of the constant for a word: that of a letter, or the word itself
abbrev pub constant_name : List ℕ → List ℕ
constant_name word =
    if bytes_eq word (codes "E") then codes "%E"
    else (if bytes_eq word (codes "K") then codes "%K"
    else (if bytes_eq word (codes "V") then codes "%V"
    else (if bytes_eq word (codes "B") then codes "%B"
    else (if bytes_eq word (codes "N") then codes "%N"
    else (if bytes_eq word (codes "self") then codes "%self"
    else (if bytes_eq word (codes "E without NilClass") then codes "%C"
    else word))))))

-- the type of a word
abbrev pub word_type : List ℕ → Outline
word_type word =
    if bytes_eq word (codes "u") then t_word (codes "untyped")
    else (if bytes_eq word (codes "T.noreturn") then t_word (codes "noreturn")
    else (if bytes_eq word (codes "b") then t_boolean
    else constant (constant_name word)))

-- the word with which a text begins: what stands before each comma and each closing bracket
abbrev pub first_word : List ℕ → List ℕ
first_word text = before round_close (before square_close (before comma text))

-- the type with which a text begins, where `inner` is that in its brackets; what follows it doesn't matter
abbrev pub type_over : (List ℕ → Outline) → List ℕ → Outline
type_over inner text =
    if bytes_eq (before round_open text) (codes "T.nilable") then t_nilable (inner (after round_open text))
    else (if bytes_eq (before square_open text) (codes "T::Array") then t_array (inner (after square_open text))
    else (if bytes_eq (before square_open text) (codes "T::Hash") then t_hash (inner (after square_open text)) (inner (after comma text))
    else word_type (first_word text)))

-- the type with which a text begins, of brackets at most as deep as the number says
abbrev pub type_within : ℕ → List ℕ → Outline
type_within zero text = word_type (first_word text)
type_within (suc depth) text = type_over (type_within depth) text

-- the type with which a text begins
unfoldable pub type_in : List ℕ → Outline
type_in text = type_within 2 text
