-- The names and the texts of the generated files.
use Rattle.std.specs.Prelude.{ℕ, ◌+◌, ◌-◌, ◌/◌, ◌%◌, ◌==◌, List, [], ◌∷◌, ◌++◌, codes, if◌then◌else◌}
use Rattle.std.specs.List.{concat}

-- a number in four decimal digits
abbrev pub four_digits : ℕ → List ℕ
four_digits i = (48 + i / 1000 % 10) ∷ (48 + i / 100 % 10) ∷ (48 + i / 10 % 10) ∷ (48 + i % 10) ∷ []

-- the path of the file of this number
abbrev pub file_path : ℕ → List ℕ
file_path i = codes "g" ++ four_digits i ++ codes ".rb"

-- the class that it declares
abbrev pub class_name : ℕ → List ℕ
class_name i = codes "G" ++ four_digits i

-- the text of a file: a class of this name, with one method that is said to return this type and returns this expression
abbrev pub file_text : (name type expression : List ℕ) → List ℕ
file_text name type expression = concat (
    codes "# typed: true\n"
    ∷ codes "class " ∷ name ∷ codes "\n"
    ∷ codes "  extend T::Sig\n"
    ∷ codes "  sig { params(x: Integer).returns(" ∷ type ∷ codes ") }\n"
    ∷ codes "  def run(x)\n"
    ∷ codes "    " ∷ expression ∷ codes "\n"
    ∷ codes "  end\n"
    ∷ codes "end\n"
    ∷ [])

-- the expression at the start: the first file counts up, and each other one calls the method of the file before it
abbrev pub first_expression : ℕ → List ℕ
first_expression i = if i == 0 then codes "x + 1" else class_name (i - 1) ++ codes ".new.run(x)"

-- the text of the file of this number at the start
abbrev pub first_text : ℕ → List ℕ
first_text i = file_text (class_name i) (codes "Integer") (first_expression i)

-- its text after the session: of each three files the first returns a text, the second is said to return one, and the third
-- returns the length of a text
abbrev pub last_text : ℕ → List ℕ
last_text i =
    if i % 3 == 0 then file_text (class_name i) (codes "Integer") (codes "\"a\"")
    else (if i % 3 == 1 then file_text (class_name i) (codes "String") (first_expression i)
    else file_text (class_name i) (codes "Integer") (codes "\"b\".length"))
