use Rattle.lsp_msg.specs.Written.{notification, list_object}
use Rattle.lsp_msg.proofs.Puts.{more, token, put}
use Rattle.lsp_msg.proofs.ReadBack.{notification-read}
use Rattle.lsp_msg.proofs.lists.put_list.Goals as goal

pub returns : goal.returns
unfolding notification list_object
returns c =
    let params = c.in_ok-put_params.ensures in
    put
    (λ last. more (token c.in_ok-begin_object.ensures) (more (token c.in_ok-key.ensures) (more (token c.in_ok-string.ensures)
    (more (token c.in_ok-key-2.ensures) (more (token c.in_ok-string-2.ensures) (more (token c.in_ok-key-3.ensures) (more params.adds last)))))))
    c.end_object.ensures
    (notification-read _ _ params.read)
