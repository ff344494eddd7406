use Rattle.std.proofs.Common.{rules}
use Rattle.srb_terms.proofs.Rooms.{same_second}
use Rattle.srb_terms.proofs.spelling.are_same.Goals as goal

-- the first words are equal
pub returns-then-word : goal.returns-then-word
returns-then-word c =
    let w = c.word.ensures in
    let v = c.word-2.ensures in
    let y = c.word-then-word.ensures in
    let z = c.word-then-word-2.ensures in
    same_second c.args.a.now c.args.b.now _ _ _ _ (search rules) (search rules) c.if-word.true w.bytes v.bytes y.bytes z.bytes y.value z.value
