use Rattle.std.proofs.Common.{◌∷◌, sym, subst}
use Rattle.json.specs.Token as token_of
use Rattle.lsp_msg.specs.Tokens.{Adds}
use Rattle.lsp_msg.proofs.Puts.{more, token, put, items-whole}
use Rattle.lsp_msg.proofs.ReadBack.{items-read}
use Rattle.lsp_msg.proofs.lists.put_array.Goals as goal

pub returns : goal.returns
returns c =
    let items = c.in_ok-put_items.ensures in
    put
    (λ last. subst (λ ts. Adds c.args.to.now c.end_array.new.self (token_of.begin_array ∷ ts)) (sym (items-whole c.args.items.now)) (more (token c.in_ok-begin_array.ensures) (more items.adds last)))
    c.end_array.ensures
    (items-read c.args.items.now items.read)
