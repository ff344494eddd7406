-- Which errors of the judgement a level shows.
use Rattle.std.specs.Prelude.{◌≡◌, ℕ, List, [], ◌∷◌}
use Rattle.std.specs.List.{filter}
use Rattle.srb_terms.specs.declared.level.Level.{Level}
use Rattle.srb_terms.specs.declared.level.Level.TheVariants.{Ignore, False, True, Strict, Strong}
use Rattle.srb_judgement.specs.Errors.{is_shown}

-- the numbers of the judgement's errors
abbrev pub NUMBERS : List ℕ
NUMBERS = 6002 ∷ 7001 ∷ 7002 ∷ 7003 ∷ 7004 ∷ 7005 ∷ 7006 ∷ 7007 ∷ 7014 ∷ 7017 ∷ 7018 ∷ []

abbrev pub shown_of : Level → List ℕ
shown_of level = filter (is_shown level) NUMBERS

-- below `true` none is shown
abbrev pub ShownFromTrue : Type 0
ShownFromTrue =
    (shown_of Ignore ≡ []) × (shown_of False ≡ [])
    × (shown_of True ≡ 7001 ∷ 7002 ∷ 7003 ∷ 7004 ∷ 7005 ∷ 7006 ∷ 7007 ∷ 7014 ∷ [])

-- 6002 and 7017 are shown from `strict`, and 7018 from `strong`
abbrev pub ShownFromStrict : Type 0
ShownFromStrict = shown_of Strict ≡ 6002 ∷ 7001 ∷ 7002 ∷ 7003 ∷ 7004 ∷ 7005 ∷ 7006 ∷ 7007 ∷ 7014 ∷ 7017 ∷ []

abbrev pub ShownFromStrong : Type 0
ShownFromStrong = shown_of Strong ≡ NUMBERS
