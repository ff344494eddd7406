-- Each text is a program or refused, and only one of these.
use Rattle.std.specs.Prelude.{◌≡◌, ℕ, List}
use Rattle.rb_text_laws.specs.Texts.{Verdict, Is}

-- Each text has a tree, or is refused for a reason at a place.
abbrev pub EachTextIsJudged : Type 0
EachTextIsJudged = (text : List ℕ) → (verdict : Verdict) × Is text verdict

-- None has two trees, nor two places or reasons, nor a tree and one of these.
abbrev pub OneVerdict : Type 0
OneVerdict = (text : List ℕ) (verdict other : Verdict) → Is text verdict → Is text other → verdict ≡ other
