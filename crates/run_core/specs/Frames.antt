-- Messages as they are written.
use Rattle.std.specs.Prelude.{ℕ, List, map}
use Rattle.lsp_frame.specs.Written.{frames}
use Rattle.lsp_msg.specs.Written.{body_of}
use Rattle.lsp_msg.specs.declared.out.Out.{Out}

-- the frames of the bodies of messages, in order
abbrev pub written_as : List Out → List ℕ
written_as outs = frames (map body_of outs)
