use Rattle.std.proofs.Common.{◌<◌, length, subst, arith}
use Rattle.std.proofs.lemmas.List.Elements.{All-more}
use Rattle.lsp_msg.specs.declared.placed.Placed.{Placed}
use Rattle.lsp_msg.specs.Tokens.{IsReadBack}
use Rattle.lsp_msg.specs.Written.{item_object}
use Rattle.lsp_msg.proofs.Puts.{item-more}
use Rattle.lsp_msg.proofs.lists.put_items.Goals as goal

pub items-preserved : goal.items-preserved
items-preserved c =
    let items = c.args.items.now in
    let i = c.items.item-index in
    let item = c.in_ok-put_item.ensures in
    let in_range : i < length items = omega arith in
    let IsRead : Placed → Type 0 = λ placed. IsReadBack (item_object placed) in (
      item-more items i c.item-item.result in_range c.item-item.is c.items.invariant.0 item.adds,
      All-more IsRead items i c.item-item.result in_range c.items.invariant.1 (subst IsRead c.item-item.is item.read),
    )
