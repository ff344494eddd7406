-- A body is JSON in UTF-8 or isn't.
use Rattle.std.proofs.Common.{◌≡◌, ℕ, List, Bool, true, false, Some, None, cond, refl}
use Rattle.std.proofs.lemmas.Str.{IsUtf8-from_is_utf8, is_utf8-from_IsUtf8}
use Rattle.std.specs.Str.{IsUtf8, is_utf8}
use Rattle.serde_json.specs.Data.{Data}
use Rattle.serde_json.specs.Read.{read}
use Rattle.lsp_msg.specs.declared.msg.Msg.TheVariants.{Bad}
use Rattle.lsp_msg.specs.ErrorCodes.{parse_error}
use Rattle.lsp_msg.specs.Decoded.{json_of, message_of, decoded}

-- a body that is read says what its value says
pub says_its_value : (body : List ℕ) (d : Data) → IsUtf8 body × (read body ≡ Some d) → message_of d ≡ decoded body
unfolding decoded json_of
says_its_value body d h = rw (is_utf8-from_IsUtf8 body h.0, h.1)

unread_at : (body : List ℕ) (b : Bool) → is_utf8 body ≡ b → (IsUtf8 body → read body ≡ None) → cond b (read body) None ≡ None
unread_at body true is none = none (IsUtf8-from_is_utf8 body is)
unread_at body false is none = refl

-- a body that isn't read is a parse error
pub says_no_value : (body : List ℕ) → (IsUtf8 body → read body ≡ None) → Bad parse_error None ≡ decoded body
unfolding decoded json_of
says_no_value body none = rw (unread_at body (is_utf8 body) refl none)
