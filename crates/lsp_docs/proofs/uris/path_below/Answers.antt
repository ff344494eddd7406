use Rattle.std.proofs.Common.{◌≡◌, ◌++◌, ◌∷◌, [], List, ℕ, sym, ap, ap₂, ◌∙◌, subst}
use Rattle.std.specs.Prelude.{Some, IsUtf8}
use Rattle.percent_encoding.specs.Percent.{percent_decode}
use Rattle.lsp_docs.specs.Uris.{ruby_after}
use Rattle.lsp_docs.proofs.UriLemmas.{path_none, path_some}
use Rattle.lsp_docs.proofs.uris.path_below.Goals as goal

pub returns-in_default : goal.returns-in_default
returns-in_default c =
    let bytes : c.as_slice.result.now ≡ percent_decode c.args.uri.now =
    c.as_slice.ensures.value ∙ c.in_ok-append_to-2.ensures.ok ∙ ap₂ (λ (xs ys : List ℕ). xs ++ ys) c.new-bytes.ensures.items (c.percent_decode-2.ensures.bytes ∙ ap percent_decode c.as_bytes-2.ensures.value) in
    sym (path_none c.args.root.now c.args.uri.now (λ text. c.in_default.ensures.cases.0 (subst IsUtf8 (sym bytes) text)))

pub returns-in-Some : goal.returns-in-Some
returns-in-Some c =
    let bytes : c.as_slice.result.now ≡ percent_decode c.args.uri.now =
    c.as_slice.ensures.value ∙ c.in_ok-append_to-2.ensures.ok ∙ ap₂ (λ (xs ys : List ℕ). xs ++ ys) c.new-bytes.ensures.items (c.percent_decode-2.ensures.bytes ∙ ap percent_decode c.as_bytes-2.ensures.value) in
    let front : c.as_slice-2.result.now ≡ percent_decode c.args.root.now ++ 47 ∷ [] =
    c.as_slice-2.ensures.value ∙ c.in_ok-push.ensures.items
    ∙ ap (λ (xs : List ℕ). xs ++ 47 ∷ []) (c.in_ok-append_to.ensures.ok ∙ ap₂ (λ (xs ys : List ℕ). xs ++ ys) c.new-front.ensures.items (c.percent_decode.ensures.bytes ∙ ap percent_decode c.as_bytes.ensures.value)) in
    ap Some c.in_ok-from_str-in-Some.ensures ∙ c.in-Some.ensures
    ∙ ap₂ ruby_after front (c.in-Ok.ensures.cases.0 ∙ bytes)
    ∙ sym (path_some c.args.root.now c.args.uri.now (subst IsUtf8 bytes c.in-Ok.ensures.cases.1))
