use Rattle.lsp_msg.specs.Written.{position_object}
use Rattle.lsp_msg.proofs.Puts.{more, token, put}
use Rattle.lsp_msg.proofs.ReadBack.{position-read}
use Rattle.lsp_msg.proofs.lists.put_position.Goals as goal

pub returns : goal.returns
unfolding position_object
returns c =
    put (λ last. more (token c.in_ok-begin_object.ensures) (more c.in_ok-put_number.ensures.adds (more c.in_ok-put_number-2.ensures.adds last))) c.end_object.ensures
    (position-read c.args.position c.put_number.ensures.small c.put_number-2.ensures.small)
