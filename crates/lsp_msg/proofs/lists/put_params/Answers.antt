use Rattle.lsp_msg.specs.Written.{list_params}
use Rattle.lsp_msg.proofs.Puts.{more, token, put}
use Rattle.lsp_msg.proofs.ReadBack.{params-read}
use Rattle.lsp_msg.proofs.lists.put_params.Goals as goal

pub returns : goal.returns
unfolding list_params
returns c =
    let items = c.in_ok-put_array.ensures in
    let epoch = c.in_ok-put_number.ensures in
    put
    (λ last. more (token c.in_ok-begin_object.ensures) (more (token c.in_ok-key.ensures) (more items.adds (more epoch.adds (more c.in_ok-put_text.ensures last)))))
    c.end_object.ensures
    (params-read _ _ _ epoch.small items.read)
