use Rattle.lsp_msg.specs.Written.{item_object}
use Rattle.lsp_msg.proofs.Puts.{more, token, put}
use Rattle.lsp_msg.proofs.ReadBack.{item-read}
use Rattle.lsp_msg.proofs.lists.put_item.Goals as goal

pub returns : goal.returns
unfolding item_object
returns c =
    let number = c.in_ok-put_number.ensures in
    let range = c.in_ok-put_range.ensures in
    put
    (λ last. more (token c.in_ok-begin_object.ensures) (more number.adds (more c.in_ok-put_text.ensures (more (token c.in_ok-key.ensures) (more range.adds
    (more c.in_ok-put_number-2.ensures.adds (more (token c.in_ok-key-2.ensures) (more (token c.in_ok-string.ensures) last))))))))
    c.end_object.ensures
    (item-read _ number.small range.read)
