use Rattle.lsp_msg.specs.Written.{range_object}
use Rattle.lsp_msg.proofs.Puts.{more, token, put}
use Rattle.lsp_msg.proofs.ReadBack.{range-read}
use Rattle.lsp_msg.proofs.lists.put_range.Goals as goal

pub returns : goal.returns
unfolding range_object
returns c =
    let end = c.in_ok-put_position.ensures in
    let start = c.in_ok-put_position-2.ensures in
    put
    (λ last. more (token c.in_ok-begin_object.ensures) (more (token c.in_ok-key.ensures) (more end.adds (more (token c.in_ok-key-2.ensures) (more start.adds last)))))
    c.end_object.ensures
    (range-read _ _ start.read end.read)
