-- The changes of one text, beside the other texts of the project, which have so many bytes.
use Rattle.std.specs.Prelude.{ℕ, ◌+◌, nat_lt, List, [], ◌∷◌, length, encode_utf8_all, Result, Ok, Err, if◌then◌else◌}
use Rattle.lsp_msg.specs.declared.change.Change.{Change}
use Rattle.lsp_docs.specs.declared.doc_end.DocEnd.{DocEnd}
use Rattle.lsp_docs.specs.declared.doc_end.DocEnd.TheVariants.{TooBig}
use Rattle.lsp_docs.specs.Documents.{after_change}
use Rattle.srb_text.specs.declared.Encoding.{Encoding}
use Rattle.srb_text.specs.Limits.{MOST_BYTES}

-- the bytes of all texts, where this one has the text
abbrev pub sum_with : ℕ → List ℕ → ℕ
sum_with others text = others + length (encode_utf8_all text)

-- the text, unless there are too many bytes with it
abbrev pub sized_text : ℕ → Result (List ℕ) DocEnd → Result (List ℕ) DocEnd
sized_text others (Err e) = Err e
sized_text others (Ok new) =
    if nat_lt MOST_BYTES (sum_with others new) then Err (TooBig (sum_with others new)) else Ok new

-- the text after one change, unless there are too many bytes with it
abbrev pub after_sized : Encoding → ℕ → List ℕ → Change → Result (List ℕ) DocEnd
after_sized encoding others text c = sized_text others (after_change encoding text c)

-- the text after the changes, in order
abbrev pub after_changes : Encoding → ℕ → List ℕ → List Change → Result (List ℕ) DocEnd
after_changes encoding others text [] = Ok text
after_changes encoding others text (c ∷ cs) = elim (after_sized encoding others text c) [
  | Err e ↦ Err e
  | Ok new ↦ after_changes encoding others new cs
]
