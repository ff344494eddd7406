use Rattle.std.proofs.Common.{arith}
use Rattle.srb_cli.proofs.folder.read_file.Goals as goal

pub returns-then-len-room-clause-unread : goal.returns-then-len-room-clause-unread
returns-then-len-room-clause-unread g c =
    c.too_large.ensures (g.F.Files.told c.args.files.now c.args.dir.now) c.in-Ok.bytes.items c.args.room (g.F.Files.faults c.args.files.now) (g.F.Files.faults c.read.new.self)
    c.in-Ok.ensures.first (omega (arith, c.if-len-room.true, c.len.ensures)) c.in-Ok.ensures.cause
