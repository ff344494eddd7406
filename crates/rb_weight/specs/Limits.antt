-- How heavy a program may be.
use Rattle.std.specs.Prelude.{ℕ}

-- the greatest weight that a program may have
abbrev pub MOST : ℕ
MOST = 200
