use Rattle.rb_lex.proofs.Boundaries.{piece-quoted, piece-interpolated}
use Rattle.rb_lex.proofs.state.State.string_step.Goals as goal

pub quoted-requires-clause-text : goal.quoted-requires-clause-text
quoted-requires-clause-text c =
    piece-quoted c.args.opened.quote c.args.z.now c.piece_of-piece.result c.piece_of-piece.ensures.value c.piece_of-piece.ensures.within c.requires.quote c.requires.text c.in-Quote.is

pub interpolated-requires-clause-text : goal.interpolated-requires-clause-text
interpolated-requires-clause-text c =
    piece-interpolated c.args.opened.quote c.args.z.now c.piece_of-piece.result c.piece_of-piece.ensures.value c.piece_of-piece.ensures.within c.requires.quote c.requires.text c.in-Interpolation.is
