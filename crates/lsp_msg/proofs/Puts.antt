-- Tokens that are written one after another.
use Rattle.std.proofs.Common.{◌≡◌, ℕ, ◌+◌, ◌<◌, List, [], ◌∷◌, ◌++◌, length, map, take, get_or, Result, Ok, Err, OnOk, ap, sym, subst, refl, ◌∙◌, append_assoc}
use Rattle.std.proofs.lemmas.List.{flat_map_more, take_more}
use Rattle.json.specs.Token.{Token}
use Rattle.json.specs.Written.{Written, Writes}
use Rattle.serde_json.specs.Data.{Data}
use Rattle.serde_json.specs.View.{items_of}
use Rattle.serde_json.specs.Written.{items_outline}
use Rattle.json.specs.Tree.{items_tokens}
use Rattle.lsp_msg.specs.declared.placed.Placed.{Placed}
use Rattle.lsp_msg.specs.Tokens.{tokens_of, tokens_of_items, IsReadBack, Adds, Puts}
use Rattle.lsp_msg.specs.Written.{item_object}

-- what is written after xs comes after both
pub more : {a b c : Written} {xs ys : List Token} → Adds a b xs → Adds b c ys → Adds a c (xs ++ ys)
more {a} {b} {c} {xs} {ys} first second =
    record { before = second.before ∙ first.before; tokens = second.tokens ∙ ap (λ l. l ++ ys) first.tokens ∙ append_assoc a.tokens xs ys }

module _ {E : Type 0} where
  -- one token
  pub token : {u : Unit {0}} {a b : Written} {t : Token} → Writes {E = E} (Ok u) a b t → Adds a b (t ∷ [])
  token w = record { before = w.room.0; tokens = w.ok }

  -- a value, by its last token
  pub put : {r : Result (Unit {0}) E} {a b c : Written} {t : Token} {d : Data} → (Adds b c (t ∷ []) → Adds a c (tokens_of d)) → Writes {E = E} r b c t → IsReadBack d → OnOk r (Puts a c d)
  put {r = Ok u} whole last read = record { adds = whole (token last); read = read }
  put {r = Err e} whole last read = tt

-- the tokens of an array after its opening bracket
pub items-whole : (items : List Placed) → items_tokens (items_outline (items_of (map item_object items))) ≡ tokens_of_items items ++ Token.end_array ∷ []
items-whole [] = refl
items-whole (placed ∷ items) = ap (λ ts. tokens_of (item_object placed) ++ ts) (items-whole items) ∙ sym (append_assoc (tokens_of (item_object placed)) (tokens_of_items items) _)

-- one more item
pub item-more : {a b c : Written} (items : List Placed) (i : ℕ) (x : Placed) → i < length items → x ≡ get_or items i x → Adds a b (tokens_of_items (take i items)) → Adds b c (tokens_of (item_object x))
    → Adds a c (tokens_of_items (take (i + 1) items))
item-more {a} {b} {c} items i x in_range is first item =
    let next : take i items ++ x ∷ [] ≡ take (i + 1) items = ap (λ y. take i items ++ y ∷ []) is ∙ sym (take_more items i x in_range) in
    subst (Adds a c) (flat_map_more (λ placed. tokens_of (item_object placed)) [] (take i items) x ∙ ap tokens_of_items next) (more first item)

-- what is written to nothing stands alone
pub alone : {a b : Written} {ts : List Token} → a.before ≡ [] → a.tokens ≡ [] → Adds a b ts → (b.before ≡ []) × (b.tokens ≡ ts)
alone {ts = ts} before tokens adds = (adds.before ∙ before, adds.tokens ∙ ap (λ l. l ++ ts) tokens)
