-- What a text is read to: its tree, or the one error of a text that has none.
use Rattle.std.specs.Prelude.{ℕ, Bool, ◌&&◌, ◌==◌, nat_lt, if◌then◌else◌, List, [], ◌∷◌, length, Result, Ok, Err}
use Rattle.std.specs.Str.{encode_utf8_all}
use Rattle.srb_terms.specs.declared.diag.Diag.{Diag}
use Rattle.srb_terms.specs.declared.span.Span.{Span}
use Rattle.rb_tree.specs.declared.token.Token.{Token}
use Rattle.rb_tree.specs.declared.syntax.Tree.{Tree}
use Rattle.rb_lex.specs.Lexed.{lexed_text}
use Rattle.rb_lex.specs.declared.LexEnd.{LexEnd}
use Rattle.rb_lex.specs.declared.LexEnd.TheVariants as lex
use Rattle.rb_expr.specs.declared.ParseEnd.{ParseEnd}
use Rattle.rb_expr.specs.declared.ParseEnd.TheVariants as parse
use Rattle.rb_decl.specs.Programs.{parsed}
use Rattle.srb_check.specs.declared.reading.Reading.{Reading}
use Rattle.srb_check.specs.declared.reading.Reading.TheVariants.{Program, Refused}
use Rattle.srb_check.specs.Characters.{character_at}
use Rattle.srb_check.specs.Messages.{syntax_error, outside, too_deep}

-- whether a token begins at an offset; an empty piece of a string doesn't count, since another token begins where it does
abbrev pub begins_at : ℕ → Span → Bool
begins_at at span = span.start == at && nat_lt at span.end

-- the place of the token that begins at an offset, and the text's end where there is none
abbrev pub token_place : List Token → ℕ → ℕ → Span
token_place [] size at = record { start = size; end = size }
token_place (t ∷ ts) size at = if begins_at at t.span then t.span else token_place ts size at

-- the error of a text, given by its bytes, that has no tokens: at one character. No text lacks them because memory ran out.
abbrev pub lex_error : List ℕ → LexEnd → Diag
lex_error bytes (lex.Bad at) = syntax_error (character_at bytes at)
lex_error bytes (lex.Outside at) = outside (character_at bytes at)
lex_error bytes lex.NoMemory = syntax_error (character_at bytes 0)

-- the error of tokens, in a text of so many bytes, that have no tree: at one of them, or at the text's end where more tokens would be
-- wanted. No tokens lack a tree because memory ran out.
abbrev pub parse_error : List Token → ℕ → ParseEnd → Diag
parse_error tokens size (parse.Bad at) = syntax_error (token_place tokens size at)
parse_error tokens size (parse.TooDeep at) = too_deep (token_place tokens size at)
parse_error tokens size parse.NoMemory = syntax_error (token_place tokens size 0)

abbrev pub parsed_reading : List Token → ℕ → Result Tree ParseEnd → Reading
parsed_reading tokens size (Ok tree) = Program tree
parsed_reading tokens size (Err end) = Refused (parse_error tokens size end)

-- what a text of so many bytes with these tokens is read to
abbrev pub tokens_reading : List Token → ℕ → Reading
tokens_reading tokens size = parsed_reading tokens size (parsed tokens)

abbrev pub lexed_reading : List ℕ → Result (List Token) LexEnd → Reading
lexed_reading bytes (Ok tokens) = tokens_reading tokens (length bytes)
lexed_reading bytes (Err end) = Refused (lex_error bytes end)

-- what a text is read to
unfoldable pub read : List ℕ → Reading
read text = lexed_reading (encode_utf8_all text) (lexed_text text)
