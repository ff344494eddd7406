-- The objects that are written have no float and aren't deep.
use Rattle.std.proofs.Common.{◌≡◌, ◌≤◌, ℤ, pos, negsuc, List, [], ◌∷◌, map, false, Option, Some, None, refl, arith}
use Rattle.serde_json.specs.Data.{depth, items_depth}
use Rattle.serde_json.specs.Find.{of_integer, is_float}
use Rattle.serde_json.specs.View.{items_of}
use Rattle.serde_json.specs.Written.{has_float, items_have_float}
use Rattle.lsp_msg.specs.declared.id.Id.{Id}
use Rattle.lsp_msg.specs.declared.id.Id.TheVariants.{Number, Text}
use Rattle.lsp_msg.specs.declared.out.Out.{Out}
use Rattle.lsp_msg.specs.declared.out.Out.TheVariants.{Initialized, Null, Error, Log, List as Publish}
use Rattle.lsp_msg.specs.declared.placed.Placed.{Placed}
use Rattle.lsp_msg.specs.Written.{id_data, optional_id, error_object, result_message, error_message, notification, sync_options, capabilities, initialize_result, log_params, position_object, range_object, item_object, list_params, list_object, object_of}

integer_is_no_float : (z : ℤ) → is_float (of_integer z) ≡ false
integer_is_no_float (pos n) = refl
integer_is_no_float (negsuc n) = refl

id_has_no_float : (id : Id) → has_float (id_data id) ≡ false
id_has_no_float (Number z) = integer_is_no_float z
id_has_no_float (Text s) = refl

optional_id_has_no_float : (id : Option Id) → has_float (optional_id id) ≡ false
optional_id_has_no_float None = refl
optional_id_has_no_float (Some id) = id_has_no_float id

items_have_no_float : (items : List Placed) → items_have_float (items_of (map item_object items)) ≡ false
unfolding item_object range_object position_object
items_have_no_float [] = refl
items_have_no_float (placed ∷ items) = items_have_no_float items

-- no object has a float
pub object_has_no_float : (out : Out) → has_float (object_of out) ≡ false
unfolding object_of error_object result_message error_message notification sync_options capabilities initialize_result log_params list_params list_object
object_has_no_float (Initialized id encoding) = rw (id_has_no_float id)
object_has_no_float (Null id) = rw (id_has_no_float id)
object_has_no_float (Error id code) = rw (integer_is_no_float code, optional_id_has_no_float id)
object_has_no_float (Log method reason) = refl
object_has_no_float (Publish uri epoch items) = rw (items_have_no_float items)

id_is_flat : (id : Id) → depth (id_data id) ≡ 0
id_is_flat (Number z) = refl
id_is_flat (Text s) = refl

optional_id_is_flat : (id : Option Id) → depth (optional_id id) ≡ 0
optional_id_is_flat None = refl
optional_id_is_flat (Some id) = id_is_flat id

items_are_shallow : (items : List Placed) → items_depth (items_of (map item_object items)) ≤ 3
unfolding item_object range_object position_object
items_are_shallow [] = omega arith
items_are_shallow (placed ∷ items) = let rest = items_are_shallow items in omega arith

-- no object is deeper than what is read back
pub object_is_shallow : (out : Out) → depth (object_of out) ≤ 127
unfolding object_of error_object result_message error_message notification sync_options capabilities initialize_result log_params list_params list_object
object_is_shallow (Initialized id encoding) = rw (id_is_flat id) (omega arith)
object_is_shallow (Null id) = rw (id_is_flat id) (omega arith)
object_is_shallow (Error id code) = rw (optional_id_is_flat id) (omega arith)
object_is_shallow (Log method reason) = omega arith
object_is_shallow (Publish uri epoch items) = let shallow = items_are_shallow items in omega arith
