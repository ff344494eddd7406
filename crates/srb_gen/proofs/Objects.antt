-- The objects of the session have no float and aren't deep, and what they say.
use Rattle.std.proofs.Common.{◌≡◌, ◌≤◌, ℕ, pos, List, [], ◌∷◌, false, None, Some, refl, arith}
use Rattle.serde_json.specs.Data.{depth}
use Rattle.serde_json.specs.Written.{has_float}
use Rattle.lsp_msg.specs.Decoded.{message_of, has_readable_id, message_id, initialize_of, request_of, opened_of, changed_of, notification_of, said_by, is_message}
use Rattle.lsp_msg.specs.Params.{change_of, content_changes, document_text, object_params, root_of, folder_of, listed_encodings, encodings_of}
use Rattle.lsp_msg.specs.Written.{notification}
use Rattle.lsp_msg.specs.declared.id.Id.TheVariants.{Number}
use Rattle.lsp_msg.specs.declared.msg.Msg.TheVariants.{Initialize, Opened, Changed, Shutdown, Exit}
use Rattle.srb_gen.specs.Messages.{root_uri, initialize_params, initialize_object, opened_params, opened_object, changed_params, changed_object, shutdown_object, exit_object}

pub initialize_plain : has_float initialize_object ≡ false
unfolding initialize_object initialize_params
initialize_plain = refl

pub opened_plain : (uri content : List ℕ) → has_float (opened_object uri content) ≡ false
unfolding notification opened_params
opened_plain uri content = refl

pub changed_plain : (uri content : List ℕ) → has_float (changed_object uri content) ≡ false
unfolding notification changed_params
changed_plain uri content = refl

pub shutdown_plain : has_float shutdown_object ≡ false
unfolding shutdown_object
shutdown_plain = refl

pub exit_plain : has_float exit_object ≡ false
unfolding exit_object
exit_plain = refl

pub initialize_shallow : depth initialize_object ≤ 127
unfolding initialize_object initialize_params
initialize_shallow = omega arith

pub opened_shallow : (uri content : List ℕ) → depth (opened_object uri content) ≤ 127
unfolding notification opened_params
opened_shallow uri content = omega arith

pub changed_shallow : (uri content : List ℕ) → depth (changed_object uri content) ≤ 127
unfolding notification changed_params
changed_shallow uri content = omega arith

pub shutdown_shallow : depth shutdown_object ≤ 127
unfolding shutdown_object
shutdown_shallow = omega arith

pub exit_shallow : depth exit_object ≤ 127
unfolding exit_object
exit_shallow = omega arith

-- ---- what they say

pub initialize_says : message_of initialize_object ≡ Initialize (Number (pos 1)) (Some root_uri) []
unfolding initialize_object initialize_params message_of is_message has_readable_id message_id said_by request_of initialize_of object_params root_of folder_of encodings_of listed_encodings
initialize_says = refl

pub opened_says : (uri content : List ℕ) → message_of (opened_object uri content) ≡ Opened uri content
unfolding notification opened_params message_of is_message has_readable_id message_id said_by notification_of opened_of document_text
opened_says uri content = refl

pub changed_says : (uri content : List ℕ) → message_of (changed_object uri content) ≡ Changed uri (record { range = None; text = content } ∷ [])
unfolding notification changed_params message_of is_message has_readable_id message_id said_by notification_of changed_of content_changes change_of document_text
changed_says uri content = refl

pub shutdown_says : message_of shutdown_object ≡ Shutdown (Number (pos 2))
unfolding shutdown_object message_of is_message has_readable_id message_id said_by request_of
shutdown_says = refl

pub exit_says : message_of exit_object ≡ Exit
unfolding exit_object message_of is_message has_readable_id message_id said_by notification_of
exit_says = refl
