use Rattle.std.proofs.Common.{◌≡◌, [], map, refl, sym, ap, ◌∙◌}
use Rattle.std.specs.Prelude.{unwrap_or, encode_utf8_all}
use Rattle.srb_text.specs.declared.Encoding.{Encoding}
use Rattle.srb_terms.specs.Projects.{bytes_at}
use Rattle.lsp_docs.specs.Documents.{Documents, placed}
use Rattle.lsp_docs.proofs.ApplyLemmas.{bytes_open}
use Rattle.lsp_docs.proofs.TextLemmas.{copied_or, length_copied, if_ok_map, placed_again}
use Rattle.lsp_docs.proofs.docs.Docs.placed.Goals as goal

pub text_of-requires : goal.text_of-requires
text_of-requires c = length_copied c.bytes.result _ c.unwrap_or.result c.unwrap_or.ensures refl c.bytes.ensures.small

pub returns-in-Some : goal.returns-in-Some
returns-in-Some c =
    let bytes : unwrap_or (bytes_at c.args.path.now c.args.self.now.project) [] ≡ encode_utf8_all c.in-Some.text.now =
    ap (λ o. unwrap_or o []) (ap (λ (d : Documents). bytes_at c.args.path.now d.project) (sym c.self.view_is)
    ∙ bytes_open c.args.path.now c.self.inside.rows c.in-Some.field-0-0 c.in-Some.text.now c.find_open.ensures.rows c.in-Some.ensures.«open») in
    let units = ap (λ (d : Documents). d.agreed.encoding) c.self.view_is in
    if_ok_map c.placed.result _ _ (λ list is. is
    ∙ ap (λ t. map (placed c.self.inside.encoding (encode_utf8_all t)) c.args.errors.now) c.lines.ensures
    ∙ ap (λ (x : Encoding). map (placed x (encode_utf8_all c.in-Some.text.now)) c.args.errors.now) units
    ∙ ap (λ b. map (placed c.args.self.now.agreed.encoding b) c.args.errors.now) (sym bytes)) c.placed.ensures

pub returns-in_ok-text-in-None : goal.returns-in_ok-text-in-None
returns-in_ok-text-in-None c =
    let bytes : c.unwrap_or.result.now ≡ unwrap_or (bytes_at c.args.path.now c.args.self.now.project) [] =
    ap (λ b. b.now) c.unwrap_or.ensures ∙ copied_or c.bytes.result _ ∙ ap (λ o. unwrap_or o []) c.bytes.ensures.bytes in
    let units = ap (λ (d : Documents). d.agreed.encoding) c.self.view_is in
    if_ok_map c.placed-in-None.result _ _ (λ list is. is
    ∙ ap (λ t. map (placed c.self.inside.encoding (encode_utf8_all t)) c.args.errors.now) c.lines-in-None.ensures
    ∙ ap (λ (x : Encoding). map (placed x (encode_utf8_all c.in_ok-text-in-None.text)) c.args.errors.now) units
    ∙ placed_again c.args.self.now.agreed.encoding c.unwrap_or.result.now c.in_ok-text-in-None.text c.args.errors.now c.in_ok-text-in-None.ensures
    ∙ ap (λ b. map (placed c.args.self.now.agreed.encoding b) c.args.errors.now) bytes) c.placed-in-None.ensures
