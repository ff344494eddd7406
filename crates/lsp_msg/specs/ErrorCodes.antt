-- The codes of errors (JSON-RPC 2.0, section 5.1; LSP 3.17, "ErrorCodes").
use Rattle.std.specs.Prelude.{ℤ, pos, neg_ℤ}

-- the body is no JSON in UTF-8, or is nested too deeply
abbrev pub parse_error : ℤ
parse_error = neg_ℤ (pos 32700)

-- the body is no message, or the request isn't allowed at this time
abbrev pub invalid_request : ℤ
invalid_request = neg_ℤ (pos 32600)

-- the method isn't served
abbrev pub method_not_found : ℤ
method_not_found = neg_ℤ (pos 32601)

-- the parameters can't be read
abbrev pub invalid_params : ℤ
invalid_params = neg_ℤ (pos 32602)

-- the request came before the accepted `initialize`
abbrev pub server_not_initialized : ℤ
server_not_initialized = neg_ℤ (pos 32002)
