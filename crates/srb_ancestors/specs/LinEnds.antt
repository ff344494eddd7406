-- Why there are no linearizations.
use Rattle.std.specs.Prelude.{◌≡◌, ℕ, List, [], ◌∷◌, ◌++◌}
use Rattle.srb_rules.specs.declared.link.Link.{Link}
use Rattle.srb_rules.specs.Links.{Reaches}
use Rattle.srb_ancestors.specs.declared.lin_end.LinEnd.{LinEnd}
use Rattle.srb_ancestors.specs.declared.lin_end.LinEnd.TheVariants.{Circular, NoMemory}

-- no name reaches itself at which one of these links begins
abbrev pub NoneBegins : List Link → List Link → Type 0
NoneBegins ls [] = Unit {0}
NoneBegins ls (l ∷ some) = (¬ Reaches ls l.of l.of) × NoneBegins ls some

-- The class is the first one that reaches itself: it does, a link begins at it, and no name reaches itself at which an earlier link
-- begins.
pub record IsFirstCircular (ls : List Link) (class : List ℕ) : Type 0 where
  pub before : List Link
  pub link : Link
  pub after : List Link
  pub parts : ls ≡ before ++ link ∷ after
  pub begins : link.of ≡ class
  pub circular : Reaches ls class class
  pub first : NoneBegins ls before

-- the class that is named is the first one that reaches itself; of memory nothing is said
abbrev pub IsLinEnd : List Link → LinEnd → Type 0
IsLinEnd ls (Circular class) = IsFirstCircular ls class
IsLinEnd ls NoMemory = Unit {0}
