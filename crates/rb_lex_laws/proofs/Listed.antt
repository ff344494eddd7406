-- Of a word that is known the lists of words hold it.
use Rattle.std.proofs.Common.{◌≡◌, ℕ, ◌==◌, Bool, true, false, if◌then◌else◌, List, [], ◌∷◌, length, inl, inr, refl, sym, ap, subst, ◌∙◌, codes}
use Rattle.std.specs.Prelude.{bytes_eq}
use Rattle.std.proofs.lemmas.Slice.Eq.{bytes_eq-Decides}
use Rattle.rb_tree.specs.declared.token.Shape.{Shape}
use Rattle.rb_tree.specs.declared.token.Shape.TheVariants as shape
use Rattle.rb_lex.specs.Words.{OF_TWO, OF_THREE, OF_FOUR, OF_FIVE, OF_SIX, OF_EIGHT, OF_TWELVE, lookup, word_of}
use Rattle.rb_lex.specs.declared.word.Word.{Word}
use Rattle.rb_lex.specs.declared.word.Word.TheVariants.{Free, Keyword, Foreign}
use Rattle.rb_rules.specs.Spellings.{Holds, KEYWORDS, FOREIGN_WORDS}
use Rattle.rb_lex_laws.specs.Words.{KnownKeywordsAreListed, KnownForeignWordsAreListed}
use Rattle.rb_lex_laws.proofs.Rows.{EachRow, at-row}

abbrev Row : Type 0
Row = List ℕ × Word

pair-path : {A B : Type 0} {a b : A} {c d : B} → a ≡ b → c ≡ d → let P : A × B = (a, c) in let Q : A × B = (b, d) in P ≡ Q
pair-path {A} {B} {a} {b} {c} {d} e f = ap (λ x. let r : A × B = (x, c) in r) e ∙ ap (λ y. let r : A × B = (b, y) in r) f

one-row : (row : Row) (rows : List Row) (w : List ℕ) (x : Word) (t : Bool) → bytes_eq row.0 w ≡ t → (lookup rows w ≡ x → Holds (w, x) rows) → (if t then row.1 else lookup rows w) ≡ x → Holds (w, x) (row ∷ rows)
one-row row rows w x true same rest e = let is : row.0 ≡ w = (bytes_eq-Decides row.0 w).0 same in inl (pair-path (sym is) (sym e))
one-row row rows w x false other rest e = inr (rest e)

-- what a table answers, if not `Free`, is one of its rows
looked-up : (rows : List Row) (w : List ℕ) (x : Word) → (Free ≡ x → ⊥) → lookup rows w ≡ x → Holds (w, x) rows
looked-up [] w x known e = known e
looked-up (row ∷ rows) w x known e =
    one-row row rows w x (bytes_eq row.0 w) refl (looked-up rows w x known) e

-- a row speaks of a keyword of the list, and of a foreign word of the list
shape_in : Shape → Word → Shape
shape_in s Free = s
shape_in s (Keyword t) = t
shape_in s Foreign = s

abbrev IsListed : Row → Type 0
IsListed row = (s : Shape) → row.1 ≡ Keyword s → Holds (s, row.0) KEYWORDS

abbrev IsListedForeign : Row → Type 0
IsListedForeign row = row.1 ≡ Foreign → Holds row.0 FOREIGN_WORDS

listed : (t : Shape) (w : List ℕ) → Holds (t, w) KEYWORDS → (s : Shape) → Keyword t ≡ Keyword s → Holds (s, w) KEYWORDS
unfolding shape_in
listed t w held s e = let P : Shape → Type 0 = λ u. Holds (u, w) KEYWORDS in subst P (ap (shape_in t) e) held

listed-TWO : EachRow IsListed OF_TWO
listed-TWO = (listed shape.If (codes "if") (inr (inr (inr (inr (inl refl))))), (listed shape.Do (codes "do") (inr (inr (inr (inr (inr (inr (inr (inr (inr (inr (inl refl))))))))))), (λ s e. absurd (cc), (λ s e. absurd (cc), tt))))

foreign-TWO : EachRow IsListedForeign OF_TWO
foreign-TWO = (λ e. absurd (cc), (λ e. absurd (cc), (λ e. inr (inl refl), (λ e. inr (inr (inr (inr (inr (inr (inr (inr (inr (inl refl))))))))), tt))))

listed-THREE : EachRow IsListed OF_THREE
listed-THREE = (listed shape.Def (codes "def") (inr (inr (inl refl))), (listed shape.End (codes "end") (inr (inr (inr (inl refl)))), (listed shape.Nil (codes "nil") (inr (inr (inr (inr (inr (inr (inr (inr (inr (inr (inr (inr (inr (inr (inr (inr (inr (inr (inl refl))))))))))))))))))), (λ s e. absurd (cc), (λ s e. absurd (cc), (λ s e. absurd (cc), (λ s e. absurd (cc), tt)))))))

foreign-THREE : EachRow IsListedForeign OF_THREE
foreign-THREE = (λ e. absurd (cc), (λ e. absurd (cc), (λ e. absurd (cc), (λ e. inl refl, (λ e. inr (inr (inl refl)), (λ e. inr (inr (inr (inr (inr (inr (inr (inr (inl refl)))))))), (λ e. inr (inr (inr (inr (inr (inr (inr (inr (inr (inr (inr (inl refl))))))))))), tt)))))))

listed-FOUR : EachRow IsListed OF_FOUR
listed-FOUR = (listed shape.SelfWord (codes "self") (inr (inr (inr (inr (inr (inr (inr (inr (inr (inr (inr (inr (inr (inr (inr (inr (inr (inl refl)))))))))))))))))), (listed shape.True (codes "true") (inr (inr (inr (inr (inr (inr (inr (inr (inr (inr (inr (inr (inr (inr (inr (inr (inr (inr (inr (inl refl)))))))))))))))))))), (listed shape.Else (codes "else") (inr (inr (inr (inr (inr (inr (inl refl))))))), (listed shape.Case (codes "case") (inr (inr (inr (inr (inr (inr (inr (inr (inr (inr (inr (inl refl)))))))))))), (listed shape.When (codes "when") (inr (inr (inr (inr (inr (inr (inr (inr (inr (inr (inr (inr (inl refl))))))))))))), (listed shape.Then (codes "then") (inr (inr (inr (inr (inr (inr (inr (inr (inr (inr (inr (inr (inr (inl refl)))))))))))))), (listed shape.Next (codes "next") (inr (inr (inr (inr (inr (inr (inr (inr (inr (inr (inr (inr (inr (inr (inr (inr (inl refl))))))))))))))))), (λ s e. absurd (cc), tt))))))))

foreign-FOUR : EachRow IsListedForeign OF_FOUR
foreign-FOUR = (λ e. absurd (cc), (λ e. absurd (cc), (λ e. absurd (cc), (λ e. absurd (cc), (λ e. absurd (cc), (λ e. absurd (cc), (λ e. absurd (cc), (λ e. inr (inr (inr (inr (inl refl)))), tt))))))))

listed-FIVE : EachRow IsListed OF_FIVE
listed-FIVE = (listed shape.Class (codes "class") (inl refl), (listed shape.Elsif (codes "elsif") (inr (inr (inr (inr (inr (inl refl)))))), (listed shape.While (codes "while") (inr (inr (inr (inr (inr (inr (inr (inr (inl refl))))))))), (listed shape.Until (codes "until") (inr (inr (inr (inr (inr (inr (inr (inr (inr (inl refl)))))))))), (listed shape.Break (codes "break") (inr (inr (inr (inr (inr (inr (inr (inr (inr (inr (inr (inr (inr (inr (inr (inl refl)))))))))))))))), (listed shape.False (codes "false") (inr (inr (inr (inr (inr (inr (inr (inr (inr (inr (inr (inr (inr (inr (inr (inr (inr (inr (inr (inr (inl refl))))))))))))))))))))), (listed shape.Yield (codes "yield") (inr (inr (inr (inr (inr (inr (inr (inr (inr (inr (inr (inr (inr (inr (inr (inr (inr (inr (inr (inr (inr (inl refl)))))))))))))))))))))), (listed shape.Super (codes "super") (inr (inr (inr (inr (inr (inr (inr (inr (inr (inr (inr (inr (inr (inr (inr (inr (inr (inr (inr (inr (inr (inr (inl refl))))))))))))))))))))))), (listed shape.Begin (codes "begin") (inr (inr (inr (inr (inr (inr (inr (inr (inr (inr (inr (inr (inr (inr (inr (inr (inr (inr (inr (inr (inr (inr (inr (inl refl)))))))))))))))))))))))), (λ s e. absurd (cc), (λ s e. absurd (cc), (λ s e. absurd (cc), (λ s e. absurd (cc), tt)))))))))))))

foreign-FIVE : EachRow IsListedForeign OF_FIVE
foreign-FIVE = (λ e. absurd (cc), (λ e. absurd (cc), (λ e. absurd (cc), (λ e. absurd (cc), (λ e. absurd (cc), (λ e. absurd (cc), (λ e. absurd (cc), (λ e. absurd (cc), (λ e. absurd (cc), (λ e. inr (inr (inr (inl refl))), (λ e. inr (inr (inr (inr (inr (inl refl))))), (λ e. inr (inr (inr (inr (inr (inr (inl refl)))))), (λ e. inr (inr (inr (inr (inr (inr (inr (inr (inr (inr (inl refl)))))))))), tt)))))))))))))

listed-SIX : EachRow IsListed OF_SIX
listed-SIX = (listed shape.Module (codes "module") (inr (inl refl)), (listed shape.Return (codes "return") (inr (inr (inr (inr (inr (inr (inr (inr (inr (inr (inr (inr (inr (inr (inl refl))))))))))))))), (listed shape.Unless (codes "unless") (inr (inr (inr (inr (inr (inr (inr (inl refl)))))))), (listed shape.Rescue (codes "rescue") (inr (inr (inr (inr (inr (inr (inr (inr (inr (inr (inr (inr (inr (inr (inr (inr (inr (inr (inr (inr (inr (inr (inr (inr (inl refl))))))))))))))))))))))))), (listed shape.Ensure (codes "ensure") (inr (inr (inr (inr (inr (inr (inr (inr (inr (inr (inr (inr (inr (inr (inr (inr (inr (inr (inr (inr (inr (inr (inr (inr (inr (inl refl)))))))))))))))))))))))))), tt)))))

foreign-SIX : EachRow IsListedForeign OF_SIX
foreign-SIX = (λ e. absurd (cc), (λ e. absurd (cc), (λ e. absurd (cc), (λ e. absurd (cc), (λ e. absurd (cc), tt)))))

listed-EIGHT : EachRow IsListed OF_EIGHT
listed-EIGHT = (λ s e. absurd (cc), (λ s e. absurd (cc), (λ s e. absurd (cc), tt)))

foreign-EIGHT : EachRow IsListedForeign OF_EIGHT
foreign-EIGHT = (λ e. inr (inr (inr (inr (inr (inr (inr (inl refl))))))), (λ e. inr (inr (inr (inr (inr (inr (inr (inr (inr (inr (inr (inr (inl refl)))))))))))), (λ e. inr (inr (inr (inr (inr (inr (inr (inr (inr (inr (inr (inr (inr (inl refl))))))))))))), tt)))

listed-TWELVE : EachRow IsListed OF_TWELVE
listed-TWELVE = (λ s e. absurd (cc), tt)

foreign-TWELVE : EachRow IsListedForeign OF_TWELVE
foreign-TWELVE = (λ e. inr (inr (inr (inr (inr (inr (inr (inr (inr (inr (inr (inr (inr (inr (inl refl)))))))))))))), tt)

keyword-row : (rows : List Row) → EachRow IsListed rows → (s : Shape) (w : List ℕ) → lookup rows w ≡ Keyword s → Holds (s, w) KEYWORDS
keyword-row rows each s w e = at-row IsListed (w, Keyword s) rows each (looked-up rows w (Keyword s) (λ h. cc) e) s refl

foreign-row : (rows : List Row) → EachRow IsListedForeign rows → (w : List ℕ) → lookup rows w ≡ Foreign → Holds w FOREIGN_WORDS
foreign-row rows each w e = at-row IsListedForeign (w, Foreign) rows each (looked-up rows w Foreign (λ h. cc) e) refl

by-length : (t : Bool) (one : Word) (other : Word) (x : Word) (P : Type 0) → (one ≡ x → P) → (other ≡ x → P) → (if t then one else other) ≡ x → P
by-length true one other x P f g e = f e
by-length false one other x P f g e = g e

pub keywords-listed : KnownKeywordsAreListed
unfolding word_of
keywords-listed s w = (by-length (length w == 2) _ _ (Keyword s) (Holds (s, w) KEYWORDS) (keyword-row OF_TWO listed-TWO s w) (by-length (length w == 3) _ _ (Keyword s) (Holds (s, w) KEYWORDS) (keyword-row OF_THREE listed-THREE s w) (by-length (length w == 4) _ _ (Keyword s) (Holds (s, w) KEYWORDS) (keyword-row OF_FOUR listed-FOUR s w) (by-length (length w == 5) _ _ (Keyword s) (Holds (s, w) KEYWORDS) (keyword-row OF_FIVE listed-FIVE s w) (by-length (length w == 6) _ _ (Keyword s) (Holds (s, w) KEYWORDS) (keyword-row OF_SIX listed-SIX s w) (by-length (length w == 8) _ _ (Keyword s) (Holds (s, w) KEYWORDS) (keyword-row OF_EIGHT listed-EIGHT s w) (by-length (length w == 12) _ _ (Keyword s) (Holds (s, w) KEYWORDS) (keyword-row OF_TWELVE listed-TWELVE s w) (λ e. absurd (cc)))))))))

pub foreign-listed : KnownForeignWordsAreListed
unfolding word_of
foreign-listed w = (by-length (length w == 2) _ _ (Foreign) (Holds w FOREIGN_WORDS) (foreign-row OF_TWO foreign-TWO w) (by-length (length w == 3) _ _ (Foreign) (Holds w FOREIGN_WORDS) (foreign-row OF_THREE foreign-THREE w) (by-length (length w == 4) _ _ (Foreign) (Holds w FOREIGN_WORDS) (foreign-row OF_FOUR foreign-FOUR w) (by-length (length w == 5) _ _ (Foreign) (Holds w FOREIGN_WORDS) (foreign-row OF_FIVE foreign-FIVE w) (by-length (length w == 6) _ _ (Foreign) (Holds w FOREIGN_WORDS) (foreign-row OF_SIX foreign-SIX w) (by-length (length w == 8) _ _ (Foreign) (Holds w FOREIGN_WORDS) (foreign-row OF_EIGHT foreign-EIGHT w) (by-length (length w == 12) _ _ (Foreign) (Holds w FOREIGN_WORDS) (foreign-row OF_TWELVE foreign-TWELVE w) (λ e. absurd (cc)))))))))
