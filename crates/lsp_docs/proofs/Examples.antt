-- Small documents and URIs, computed.
use Rattle.std.proofs.Common.{◌≡◌, ℕ, List, [], ◌∷◌, ◌++◌, replicate, refl}
use Rattle.std.specs.Prelude.{Option, Some, None, Result, Ok, Err, codes}
use Rattle.std.specs.Str.{is_utf8, chars}
use lib.Utf8.{encode}
use Rattle.percent_encoding.specs.Percent.{percent_decode}
use Rattle.srb_text.specs.declared.Encoding.{Encoding}
use Rattle.srb_text.specs.declared.Encoding.TheVariants.{Utf8, Utf16, Utf32}
use Rattle.srb_text.specs.declared.Pos.{Pos}
use Rattle.lsp_msg.specs.declared.msg.Msg.{Msg}
use Rattle.lsp_msg.specs.declared.msg.Msg.TheVariants.{Changed, Saved, Closed, Exit}
use Rattle.lsp_docs.specs.declared.doc_end.DocEnd.{DocEnd}
use Rattle.lsp_docs.specs.declared.doc_end.DocEnd.TheVariants.{Foreign, Unknown, TooMany, Backwards}
use Rattle.lsp_docs.specs.Paths.{Bytes}
use Rattle.lsp_docs.specs.Uris.{root_of, uri_below, path_below}
use Rattle.lsp_docs.specs.Documents.{placed, Documents, Deed, after_deed, agreed_by, opens, applied}

-- ---- URIs

slashes_dropped : root_of (Some (codes "file:///p//")) ≡ codes "file:///p"
slashes_dropped = refl

slashes_after_colon : root_of (Some (codes "file:///")) ≡ codes "file://"
slashes_after_colon = refl

no_root : root_of None ≡ codes "file://"
no_root = refl

blank_escaped : uri_below (codes "file:///p") (codes "a b.rb") ≡ codes "file:///p/a%20b.rb"
blank_escaped = refl

percent_escaped : uri_below (codes "file:///p") (codes "d/50%.rb") ≡ codes "file:///p/d/50%25.rb"
percent_escaped = refl

blank_read : path_below (codes "file:///p") (codes "file:///p/a%20b.rb") ≡ Some (codes "a b.rb")
unfolding percent_decode is_utf8 chars encode
blank_read = refl

-- a percent sign that no two digits follow stays
percent_read : path_below (codes "file:///p") (codes "file:///p/a%2.rb") ≡ Some (codes "a%2.rb")
unfolding percent_decode is_utf8 chars encode
percent_read = refl

other_root : path_below (codes "file:///p") (codes "file:///q/a.rb") ≡ None
unfolding percent_decode is_utf8 chars encode
other_root = refl

other_ending : path_below (codes "file:///p") (codes "file:///p/a.txt") ≡ None
unfolding percent_decode is_utf8 chars encode
other_ending = refl

no_text : path_below (codes "file:///p") (codes "file:///p/%FF.rb") ≡ None
unfolding percent_decode is_utf8 chars encode
no_text = refl

-- ---- changes

-- `a😀b` and a line feed
abbrev smile : Bytes
smile = 97 ∷ 240 ∷ 159 ∷ 152 ∷ 128 ∷ 98 ∷ 10 ∷ []

abbrev a_uri : List ℕ
a_uri = codes "file:///p/a.rb"

abbrev open_smile : Documents
open_smile = record {
  agreed = record { root = codes "file:///p"; encoding = Utf16 };
  project = (codes "a.rb", smile) ∷ [];
  saved = [];
  opened = codes "a.rb" ∷ [];
}

abbrev at : ℕ → ℕ → Pos
at line unit = record { line = line; unit = unit }

abbrev one_change : Pos → Pos → Bytes → Msg
one_change from to new = Changed a_uri (record { range = Some (from, to); text = new } ∷ [])

abbrev edited_to : Bytes → Option (Result Deed DocEnd)
edited_to bytes = Some (Ok (Deed.Edits (record { path = codes "a.rb"; now = Some bytes }) (codes "a.rb" ∷ [])))

after_pair : applied open_smile (one_change (at 0 3) (at 0 4) (codes "c")) ≡ edited_to (97 ∷ 240 ∷ 159 ∷ 152 ∷ 128 ∷ 99 ∷ 10 ∷ [])
unfolding percent_decode is_utf8 chars encode
after_pair = refl

-- a position inside a pair is where the character starts
inside_pair : applied open_smile (one_change (at 0 2) (at 0 3) []) ≡ edited_to (codes "ab\n")
unfolding percent_decode is_utf8 chars encode
inside_pair = refl

-- by bytes and by characters
abbrev open_in : Encoding → Documents
open_in encoding = record open_smile { agreed = record { root = codes "file:///p"; encoding = encoding } }

by_bytes : applied (open_in Utf8) (one_change (at 0 5) (at 0 6) (codes "c")) ≡ edited_to (97 ∷ 240 ∷ 159 ∷ 152 ∷ 128 ∷ 99 ∷ 10 ∷ [])
unfolding percent_decode is_utf8 chars encode
by_bytes = refl

by_characters : applied (open_in Utf32) (one_change (at 0 2) (at 0 3) (codes "c")) ≡ edited_to (97 ∷ 240 ∷ 159 ∷ 152 ∷ 128 ∷ 99 ∷ 10 ∷ [])
unfolding percent_decode is_utf8 chars encode
by_characters = refl

past_the_line : applied open_smile (one_change (at 0 99) (at 0 99) (codes "z")) ≡ edited_to (97 ∷ 240 ∷ 159 ∷ 152 ∷ 128 ∷ 98 ∷ 122 ∷ 10 ∷ [])
unfolding percent_decode is_utf8 chars encode
past_the_line = refl

past_the_text : applied open_smile (one_change (at 9 0) (at 9 0) (codes "q")) ≡ edited_to (smile ++ codes "q")
unfolding percent_decode is_utf8 chars encode
past_the_text = refl

backwards : applied open_smile (one_change (at 0 4) (at 0 1) []) ≡ Some (Err (Backwards 6 1))
unfolding percent_decode is_utf8 chars encode
backwards = refl

-- the changes are applied in order
in_order : applied open_smile (Changed a_uri (record { range = None; text = codes "xy" } ∷ record { range = Some (at 0 0, at 0 1); text = codes "z" } ∷ []))
    ≡ edited_to (codes "zy")
unfolding percent_decode is_utf8 chars encode
in_order = refl

-- no change is an edit too
no_change : applied open_smile (Changed a_uri []) ≡ edited_to smile
unfolding percent_decode is_utf8 chars encode
no_change = refl

-- ---- refusals

foreign : applied open_smile (Saved (codes "untitled:1")) ≡ Some (Err Foreign)
unfolding percent_decode is_utf8 chars encode
foreign = refl

not_open : applied open_smile (Closed (codes "file:///p/z.rb")) ≡ Some (Err Unknown)
unfolding percent_decode is_utf8 chars encode
not_open = refl

-- a message that is about no document does nothing to them
no_document : applied open_smile Exit ≡ None
no_document = refl

-- a full project takes no new file
abbrev full : Documents
full = record open_smile { project = replicate 4096 (codes "a.rb", []) }

too_many : opens full [] (codes "b.rb") ≡ Err (TooMany 4096)
too_many = refl

-- ---- what was saved comes back

abbrev saved_smile : Documents
saved_smile = after_deed open_smile (Deed.Saves (codes "a.rb"))

comes_back : applied (record saved_smile { project = (codes "a.rb", codes "new") ∷ [] }) (Closed a_uri)
    ≡ Some (Ok (Deed.Edits (record { path = codes "a.rb"; now = Some smile }) []))
unfolding percent_decode is_utf8 chars encode
comes_back = refl

goes_away : applied open_smile (Closed a_uri) ≡ Some (Ok (Deed.Edits (record { path = codes "a.rb"; now = None }) []))
unfolding percent_decode is_utf8 chars encode
goes_away = refl

-- ---- places

placed_after_pair : placed Utf16 smile (record { span = record { start = 5; end = 6 }; number = 5002; text = [] })
    ≡ record { start = at 0 3; end = at 0 4; number = 5002; text = [] }
unfolding chars is_utf8 encode
placed_after_pair = refl

placed_by_bytes : placed Utf8 smile (record { span = record { start = 5; end = 6 }; number = 5002; text = [] })
    ≡ record { start = at 0 5; end = at 0 6; number = 5002; text = [] }
unfolding chars is_utf8 encode
placed_by_bytes = refl

placed_by_characters : placed Utf32 smile (record { span = record { start = 5; end = 6 }; number = 5002; text = [] })
    ≡ record { start = at 0 2; end = at 0 3; number = 5002; text = [] }
unfolding chars is_utf8 encode
placed_by_characters = refl

-- ---- what is agreed on

first_known : agreed_by None (codes "latin1" ∷ codes "utf-32" ∷ codes "utf-16" ∷ []) ≡ record { root = codes "file://"; encoding = Utf32 }
first_known = refl

none_known : agreed_by None (codes "latin1" ∷ []) ≡ record { root = codes "file://"; encoding = Utf16 }
none_known = refl

-- the start of a file has a position also where the file is no text
placed_at_start : placed Utf16 (255 ∷ []) (record { span = record { start = 0; end = 0 }; number = 9009; text = [] })
    ≡ record { start = at 0 0; end = at 0 0; number = 9009; text = [] }
unfolding chars is_utf8
placed_at_start = refl
