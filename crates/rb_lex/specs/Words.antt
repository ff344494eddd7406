-- Names and the words of the language.
use Rattle.std.specs.Prelude.{ℕ, ◌+◌, Bool, not, ◌||◌, ◌&&◌, ◌==◌, if◌then◌else◌, List, [], ◌∷◌, length, slice_index, codes, bytes_eq}
use Rattle.rb_tree.specs.declared.token.Shape.TheVariants as shape
use Rattle.rb_lex.specs.Chars.{run_len, is_upper, begins_name}
use Rattle.rb_lex.specs.declared.chars.Set.TheVariants as set
use Rattle.rb_lex.specs.declared.word.Word.{Word}
use Rattle.rb_lex.specs.declared.word.Word.TheVariants.{Free, Keyword, Foreign}

-- the keywords, and the words of Ruby that are outside the profile, by their lengths
abbrev pub OF_TWO : List (List ℕ × Word)
OF_TWO =
    (codes "if", Keyword shape.If) ∷ (codes "do", Keyword shape.Do) ∷ (codes "or", Foreign) ∷ (codes "in", Foreign) ∷ []

abbrev pub OF_THREE : List (List ℕ × Word)
OF_THREE =
    (codes "def", Keyword shape.Def) ∷ (codes "end", Keyword shape.End) ∷ (codes "nil", Keyword shape.Nil)
    ∷ (codes "and", Foreign) ∷ (codes "not", Foreign) ∷ (codes "for", Foreign) ∷ (codes "END", Foreign) ∷ []

abbrev pub OF_FOUR : List (List ℕ × Word)
OF_FOUR =
    (codes "self", Keyword shape.SelfWord) ∷ (codes "true", Keyword shape.True) ∷ (codes "else", Keyword shape.Else)
    ∷ (codes "case", Keyword shape.Case) ∷ (codes "when", Keyword shape.When) ∷ (codes "then", Keyword shape.Then)
    ∷ (codes "next", Keyword shape.Next) ∷ (codes "redo", Foreign) ∷ []

abbrev pub OF_FIVE : List (List ℕ × Word)
OF_FIVE =
    (codes "class", Keyword shape.Class) ∷ (codes "elsif", Keyword shape.Elsif) ∷ (codes "while", Keyword shape.While)
    ∷ (codes "until", Keyword shape.Until) ∷ (codes "break", Keyword shape.Break) ∷ (codes "false", Keyword shape.False)
    ∷ (codes "yield", Keyword shape.Yield) ∷ (codes "super", Keyword shape.Super) ∷ (codes "begin", Keyword shape.Begin)
    ∷ (codes "retry", Foreign) ∷ (codes "alias", Foreign) ∷ (codes "undef", Foreign) ∷ (codes "BEGIN", Foreign) ∷ []

abbrev pub OF_SIX : List (List ℕ × Word)
OF_SIX =
    (codes "module", Keyword shape.Module) ∷ (codes "return", Keyword shape.Return)
    ∷ (codes "unless", Keyword shape.Unless) ∷ (codes "rescue", Keyword shape.Rescue)
    ∷ (codes "ensure", Keyword shape.Ensure) ∷ []

abbrev pub OF_EIGHT : List (List ℕ × Word)
OF_EIGHT =
    (codes "defined?", Foreign) ∷ (codes "__FILE__", Foreign) ∷ (codes "__LINE__", Foreign) ∷ []

abbrev pub OF_TWELVE : List (List ℕ × Word)
OF_TWELVE =
    (codes "__ENCODING__", Foreign) ∷ []

-- what a table says of a word
abbrev pub lookup : List (List ℕ × Word) → List ℕ → Word
lookup [] word = Free
lookup (entry ∷ entries) word = if bytes_eq entry.0 word then entry.1 else lookup entries word

-- What a word is by its spelling: a keyword, a word of Ruby that is outside the profile, or neither. The tables hold the words by
-- their lengths.
unfoldable pub word_of : List ℕ → Word
word_of word =
    let n = length word in
    if n == 2 then lookup OF_TWO word
    else (if n == 3 then lookup OF_THREE word
    else (if n == 4 then lookup OF_FOUR word
    else (if n == 5 then lookup OF_FIVE word
    else (if n == 6 then lookup OF_SIX word
    else (if n == 8 then lookup OF_EIGHT word
    else (if n == 12 then lookup OF_TWELVE word
    else Free))))))

-- How long the identifier is with which the text begins: letters, digits and `_`, with one `?` or `!` directly after if the next
-- character is not `=`.
abbrev pub identifier_len : List ℕ → ℕ
identifier_len z =
    let end = run_len set.Word z in
    let mark = slice_index z end in
    if (mark == 63 || mark == 33) && not (slice_index z (end + 1) == 61) then end + 1 else end

-- whether one `:` that no `:` follows stands at a place
abbrev pub is_labelled : List ℕ → ℕ → Bool
is_labelled z end = slice_index z end == 58 && not (slice_index z (end + 1) == 58)

-- whether `=` stands at a place and no `=`, `~` or `>` follows
abbrev pub ends_with_equals : List ℕ → ℕ → Bool
ends_with_equals z end =
    let next = slice_index z (end + 1) in
    slice_index z end == 61 && not (next == 61 || next == 126 || next == 62)

-- How long the name of the symbol is with which the text begins: a constant, or an identifier with an optional `=` that is not
-- followed by `=`, `~` or `>`. It is 0 where there is none.
unfoldable pub symbol_len : List ℕ → ℕ
symbol_len z =
    let b = slice_index z 0 in
    if is_upper b then run_len set.Word z
    else (if begins_name b then (let end = identifier_len z in if ends_with_equals z end then end + 1 else end) else 0)
