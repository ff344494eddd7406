use Rattle.std.proofs.Common.{◌++◌, ap, ◌∙◌}
use Rattle.json.specs.Lex.{tokens}
use Rattle.json.specs.Print.{print}
use Rattle.serde_json.proofs.Texts.{print-outline}
use Rattle.lsp_msg.proofs.Puts.{alone}
use Rattle.lsp_msg.proofs.ReadBack.{list-read}
use Rattle.lsp_msg.proofs.lists.list_body.Goals as goal

pub returns-clause-body : goal.returns-clause-body
returns-clause-body c =
    let put = alone (c.new-to.ensures.before ∙ c.in_ok-with_capacity.ensures.items) c.new-to.ensures.tokens c.in_ok-put_list.ensures.adds in
    c.into_inner.ensures.items ∙ (λ i. put.0 i ++ print (put.1 i)) ∙ print-outline _

pub returns-clause-reads_back : goal.returns-clause-reads_back
returns-clause-reads_back c =
    let put = alone (c.new-to.ensures.before ∙ c.in_ok-with_capacity.ensures.items) c.new-to.ensures.tokens c.in_ok-put_list.ensures.adds in
    let text = c.into_inner.ensures.items ∙ ap (λ before. before ++ print c.put_list.new.to.tokens) put.0 in
    list-read c.args.uri.now c.args.epoch c.args.items.now _ (ap tokens text ∙ c.into_inner.ensures.reads_back ∙ put.1) c.in_ok-put_list.ensures.read
