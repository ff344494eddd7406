-- The bodies of the session are within the limit of frames.
use Rattle.std.proofs.Common.{ℕ, zero, suc, ◌+◌, ◌*◌, ◌%◌, ◌≤◌, Bool, true, false, List, [], ◌∷◌, ◌++◌, length, cond, length-append, arith}
use Rattle.std.specs.Prelude.{codes, ◌==◌, ◌-◌, ◌/◌, nat_lt, flat_map, if◌then◌else◌}
use Rattle.std.specs.Fmt.{digits}
use Rattle.std.specs.Char.{digit_char}
use Rattle.json.specs.Print.{escape_letter, escape_byte}
use Rattle.lsp_frame.specs.Written.{AreWithin}
use Rattle.lsp_msg.specs.Written.{notification}
use Rattle.srb_gen.specs.Texts.{class_name, file_text, first_expression, first_text, last_text}
use Rattle.srb_gen.specs.Messages.{file_uri, initialize_params, initialize_object, initialize_body, opened_params, opened_body, changed_params, changed_body, shutdown_object, shutdown_body, exit_object, exit_body}
use Rattle.srb_gen.specs.Generated.{edit_bodies, generated_bodies}
use Rattle.srb_gen.proofs.Projects.{length_expression, length_file_text, length_first_text}

-- a byte is written with six at most
length_escape_byte : (x : ℕ) → length (escape_byte x) ≤ 6
unfolding escape_byte
length_escape_byte x = by (nat_lt 0 (escape_letter x)) (nat_lt x 32)
  where
    by : (a b : Bool) → length (cond a (92 ∷ escape_letter x ∷ []) (cond b (92 ∷ 117 ∷ 48 ∷ 48 ∷ digit_char (x / 16) ∷ digit_char (x % 16) ∷ []) (x ∷ []))) ≤ 6
    by true b = omega arith
    by false true = omega arith
    by false false = omega arith

length_escaped : (s : List ℕ) → length (flat_map escape_byte s) ≤ 6 * length s
length_escaped [] = omega arith
length_escaped (x ∷ xs) =
    let first = length_escape_byte x in
    let rest = length_escaped xs in
    omega (arith, first, rest, length-append (escape_byte x) (flat_map escape_byte xs))

length_opened : (uri content : List ℕ) → length (opened_body uri content) ≤ 1000 + 6 * length uri + 6 * length content
unfolding notification opened_params escape_byte digits
length_opened uri content = simp length-append (omega (arith, length_escaped uri, length_escaped content))

length_changed : (uri content : List ℕ) → length (changed_body uri content) ≤ 1000 + 6 * length uri + 6 * length content
unfolding notification changed_params escape_byte digits
length_changed uri content = simp length-append (omega (arith, length_escaped uri, length_escaped content))

length_initialize : length initialize_body ≤ 1000
unfolding initialize_object initialize_params escape_byte digits
length_initialize = omega arith

length_shutdown : length shutdown_body ≤ 1000
unfolding shutdown_object escape_byte digits
length_shutdown = omega arith

length_exit : length exit_body ≤ 1000
unfolding exit_object escape_byte digits
length_exit = omega arith

length_last_text : (i : ℕ) → length (last_text i) ≤ 1000
length_last_text i = by (i % 3 == 0) (i % 3 == 1)
  where
    by : (a b : Bool) → length (if a then file_text (class_name i) (codes "Integer") (codes "\"a\"")
        else (if b then file_text (class_name i) (codes "String") (first_expression i)
        else file_text (class_name i) (codes "Integer") (codes "\"b\".length"))) ≤ 1000
    by true b = omega (arith, length_file_text (class_name i) (codes "Integer") (codes "\"a\""))
    by false true = let e = length_expression (i == 0) (i - 1) in omega (arith, length_file_text (class_name i) (codes "String") (first_expression i))
    by false false = omega (arith, length_file_text (class_name i) (codes "Integer") (codes "\"b\".length"))

opened_within : (i : ℕ) → length (opened_body (file_uri i) (first_text i)) ≤ 16777216
opened_within i = omega (arith, length_opened (file_uri i) (first_text i), length_first_text i)

changed_within : (i : ℕ) → length (changed_body (file_uri i) (last_text i)) ≤ 16777216
changed_within i = omega (arith, length_changed (file_uri i) (last_text i), length_last_text i)

within-append : (xs ys : List (List ℕ)) → AreWithin xs → AreWithin ys → AreWithin (xs ++ ys)
within-append [] ys p q = q
within-append (x ∷ xs) ys p q = (p.0, within-append xs ys p.1 q)

edits_within : (n : ℕ) → AreWithin (edit_bodies n)
edits_within zero = tt
edits_within (suc i) = within-append (edit_bodies i) _ (edits_within i) (opened_within i, (changed_within i, tt))

pub all_within : (n : ℕ) → AreWithin (generated_bodies n)
all_within n =
    let first = length_initialize in
    let third = length_shutdown in
    let last = length_exit in
    (omega (arith, first), within-append (edit_bodies n) _ (edits_within n) (omega (arith, third), (omega (arith, last), tt)))
