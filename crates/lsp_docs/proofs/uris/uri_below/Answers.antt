use Rattle.std.proofs.Common.{◌≡◌, ◌++◌, ◌∷◌, [], List, ℕ, ap, ap₂, ◌∙◌, append_assoc, lit<}
use Rattle.std.proofs.lemmas.Result.{IfOk-weaker}
use Rattle.percent_encoding.specs.Percent.{percent_encode}
use Rattle.lsp_docs.specs.declared.uris.TheConstants.{ESCAPED}
use Rattle.lsp_docs.specs.Uris.{escaped}
use Rattle.lsp_docs.proofs.UriLemmas.{AreBytes-IsUtf8, percent_encode_is}
use Rattle.lsp_docs.proofs.uris.uri_below.Goals as goal

pub returns : goal.returns
returns c =
    let path = c.args.path.now in
    let slash = c.in_ok-push.ensures.ascii (lit< tt) in
    let tail : percent_encode ESCAPED c.as_bytes.result.now ≡ escaped path = ap (percent_encode ESCAPED) c.as_bytes.ensures.bytes ∙ percent_encode_is path (AreBytes-IsUtf8 path c.as_bytes.ensures.utf8) in
    IfOk-weaker c.from_string.result _ _
    (λ w made. made ∙ c.in_ok-append_to.ensures.ok
    ∙ ap₂ (λ (xs ys : List ℕ). xs ++ ys) (c.in_ok-push.ensures.bytes ∙ ap₂ (λ (xs ys : List ℕ). xs ++ ys) c.in_ok-uri.ensures.ok slash) (c.percent_encode.ensures.text ∙ tail)
    ∙ append_assoc c.args.root.now (47 ∷ []) (escaped path))
    c.from_string.ensures
