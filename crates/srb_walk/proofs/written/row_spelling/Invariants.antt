use Rattle.std.proofs.Common.{◌≡◌, drop}
use Rattle.srb_judgement.specs.Views.{seen_spelling}
use Rattle.srb_walk.specs.Written.{row_spelling}
use Rattle.srb_walk.proofs.written.row_spelling.Given as goal

abbrev pub invariant-suffixes : goal.invariant-suffixes
invariant-suffixes l =
    row_spelling (seen_spelling l.so_far) (drop l.suffix-index l.suffixes) ≡ row_spelling (seen_spelling l.fn.spelling) l.suffixes
