-- The frames of the generated session, file by file.
use Rattle.std.proofs.Common.{◌≡◌, ℕ, ◌+◌, List, [], ◌∷◌, ◌++◌, refl, sym, ap, ◌∙◌, append-nil, append_assoc, add-one}
use Rattle.lsp_frame.specs.Written.{frame, frames}
use Rattle.srb_gen.specs.Texts.{first_text, last_text}
use Rattle.srb_gen.specs.Messages.{file_uri, initialize_body, opened_body, changed_body, shutdown_body, exit_body}
use Rattle.srb_gen.specs.Generated.{edit_bodies, generated_session}

pub frames-append : (xs ys : List (List ℕ)) → frames (xs ++ ys) ≡ frames xs ++ frames ys
frames-append [] ys = refl
frames-append (x ∷ xs) ys = ap (λ l. frame x ++ l) (frames-append xs ys) ∙ sym (append_assoc (frame x) (frames xs) (frames ys))

-- what is written before the messages about the file of this number
abbrev pub front : ℕ → List ℕ
front i = frames (initialize_body ∷ edit_bodies i)

-- two frames after some bytes
pub two_frames : (old mid new body change first second : List ℕ) → body ≡ first → change ≡ second → mid ≡ old ++ frame body → new ≡ mid ++ frame change
    → new ≡ old ++ frame first ++ frame second
two_frames old mid new body change first second b c m n =
    n ∙ ap (λ l. l ++ frame change) m ∙ ap (λ x. old ++ frame x ++ frame change) b ∙ ap (λ x. old ++ frame first ++ frame x) c

frames-two : (first second : List ℕ) → frames (first ∷ second ∷ []) ≡ frame first ++ frame second
frames-two first second = ap (λ l. frame first ++ l) (append-nil (frame second))

-- the messages about one more file
pub one_more_front : (i : ℕ) → front i ++ frame (opened_body (file_uri i) (first_text i)) ++ frame (changed_body (file_uri i) (last_text i)) ≡ front (i + 1)
one_more_front i =
    let opens = opened_body (file_uri i) (first_text i) in
    let change = changed_body (file_uri i) (last_text i) in
    append_assoc (front i) (frame opens) (frame change)
    ∙ ap (λ l. front i ++ l) (sym (frames-two opens change))
    ∙ sym (frames-append (initialize_body ∷ edit_bodies i) (opens ∷ change ∷ []))
    ∙ ap front (sym (add-one i))

-- the whole session
pub whole_session : (n : ℕ) → front n ++ frame shutdown_body ++ frame exit_body ≡ generated_session n
whole_session n =
    append_assoc (front n) (frame shutdown_body) (frame exit_body)
    ∙ ap (λ l. front n ++ l) (sym (frames-two shutdown_body exit_body))
    ∙ sym (frames-append (initialize_body ∷ edit_bodies n) (shutdown_body ∷ exit_body ∷ []))
