-- What a call answers of the bytes of a stream, those that the source has left among them.
use Rattle.std.proofs.Common.{◌≡◌, ◌⊎◌, ℕ, ◌-◌, ◌≤◌, List, [], ◌++◌, length, take, drop, None, Some, Ok, Err, sym, ap, ◌∙◌, subst, inl, inr, arith, append-nil, append_assoc}
use Rattle.std.proofs.lemmas.List.{take-append-le, drop-append-le, length-drop}
use Rattle.std.specs.List.{slice_range}
use Rattle.std.specs.declared.option.Option.{Option}
use Rattle.std.specs.declared.result.Result.{Result}
use Rattle.std.specs.Io.KnownBytes.{prepend_known}
use Rattle.lsp_frame.specs.declared.first.First.TheVariants.{More, Refused, Oversized, Frame}
use Rattle.lsp_frame.specs.declared.reading.Input.{Input}
use Rattle.lsp_frame.specs.declared.reading.Input.TheVariants.{Body, End}
use Rattle.lsp_frame.specs.declared.reading.FrameEnd.{FrameEnd}
use Rattle.lsp_frame.specs.declared.reading.FrameEnd.TheVariants.{Broken, TooLong, Fault, NoMemory}
use Rattle.lsp_frame.specs.First.{first_of}
use Rattle.lsp_frame.specs.Bodies.{place_after, bodies_at, with_body, ends}
use Rattle.lsp_frame.specs.Bodies.Ending.{Torn, Malformed, PastLimit}
use Rattle.lsp_frame.specs.Stream.{Stream, Gives, Breaks, Answers, IsNext, GivesBodies}
use Rattle.lsp_frame.proofs.FirstLemmas.{first_of-append, first_of-frame}
use Rattle.lsp_frame.proofs.BodiesLemmas.{bodies_at-frame, bodies_at-refused, bodies_at-long, bodies_at-torn}

-- a part of the first bytes
slice_range-append : (xs ys : List ℕ) (from to : ℕ) → from ≤ to → to ≤ length xs → slice_range (xs ++ ys) from to ≡ slice_range xs from to
slice_range-append xs ys from to ordered within =
    let begins : from ≤ length xs = omega arith in
    let fits : to - from ≤ length (drop from xs) = omega (arith, length-drop from xs) in
    ap (take (to - from)) (drop-append-le from xs ys begins) ∙ take-append-le (to - from) (drop from xs) ys fits

-- a frame that was read is the first one of all bytes
pub given_body : (at : ℕ) (all rest body : List ℕ) (new : Stream) → Gives all at new body
    → bodies_at at (all ++ rest) ≡ with_body body (bodies_at new.at (new.pending ++ rest))
given_body at all rest body new gives =
    let from = gives.0 in
    let to = gives.1 in
    let first : first_of all ≡ Frame from to = gives.2 in
    let decided : first_of all ≡ More → ⊥ = λ e. let wrong : Frame from to ≡ More = sym first ∙ e in cc in
    let stands = first_of-frame all from to first in
    let same : first_of (all ++ rest) ≡ Frame from to = first_of-append all rest decided ∙ first in
    let the_body : slice_range (all ++ rest) from to ≡ body = slice_range-append all rest from to stands.1 stands.2 ∙ sym gives.3 in
    let the_rest : drop to (all ++ rest) ≡ new.pending ++ rest = drop-append-le to all rest stands.2 ∙ ap (λ l. l ++ rest) (sym (ap (λ s. s.pending) gives.4)) in
    let the_place : place_after at to ≡ new.at = sym (ap (λ s. s.at) gives.4) in
    bodies_at-frame at (all ++ rest) from to same ∙ ap (λ b. with_body b (bodies_at (place_after at to) (drop to (all ++ rest)))) the_body ∙ ap (λ a. with_body body (bodies_at a (drop to (all ++ rest)))) the_place ∙ ap (λ l. with_body body (bodies_at new.at l)) the_rest

-- a break that was read is that of all bytes
given_break : (at place : ℕ) (all rest : List ℕ) → Breaks all at place (Some rest)
    → (bodies_at at (all ++ rest) ≡ ends (Malformed place)) ⊎ (bodies_at at (all ++ rest) ≡ ends (Torn place))
given_break at place all rest (inl (size, first, is)) =
    let decided : first_of all ≡ More → ⊥ = λ e. let wrong : Refused size ≡ More = sym first ∙ e in cc in
    inl (bodies_at-refused at (all ++ rest) size (first_of-append all rest decided ∙ first) ∙ ap (λ p. ends (Malformed p)) (sym is))
given_break at place all rest (inr (first, some, over, is)) =
    let none : all ++ rest ≡ all = ap (λ l. all ++ l) over ∙ append-nil all in
    inr (ap (bodies_at at) none ∙ bodies_at-torn at all first some ∙ ap (λ p. ends (Torn p)) (sym is))

-- the same of a length past the limit
given_length : (at n : ℕ) (all rest : List ℕ) → first_of all ≡ Oversized n → bodies_at at (all ++ rest) ≡ ends (PastLimit n)
given_length at n all rest first =
    let decided : first_of all ≡ More → ⊥ = λ e. let wrong : Oversized n ≡ More = sym first ∙ e in cc in
    bodies_at-long at (all ++ rest) n (first_of-append all rest decided ∙ first)

answered : (at : ℕ) (all rest : List ℕ) (new : Stream) (before now : ℕ) (result : Result Input FrameEnd)
    → Answers all at new (Some rest) before now result → GivesBodies (Some (all ++ rest)) at (Some (new.pending ++ rest)) new.at result
answered at all rest new before now (Ok (Body body)) answers = given_body at all rest body.items new answers.0
answered at all rest new before now (Ok End) answers =
    let none : all ++ rest ≡ [] = ap (λ l. l ++ rest) answers.0 ∙ answers.1 in ap (bodies_at at) none
answered at all rest new before now (Err (Broken place)) answers = given_break at place all rest answers.0
answered at all rest new before now (Err (TooLong n)) answers = given_length at n all rest answers.0
answered at all rest new before now (Err Fault) answers = tt
answered at all rest new before now (Err NoMemory) answers = tt

pub gives_bodies : (old new : Stream) (left left' : Option (List ℕ)) (before now : ℕ) (result : Result Input FrameEnd)
    → IsNext old new left left' before now result → GivesBodies (prepend_known old.pending left) old.at (prepend_known new.pending left') new.at result
gives_bodies old new None left' before now result is = tt
gives_bodies old new (Some xs) None before now result is = absurd is.1.1
gives_bodies old new (Some xs) (Some ys) before now result is =
    let all = is.0 in
    let whole : all ++ ys ≡ old.pending ++ xs = ap (λ l. l ++ ys) is.1.2 ∙ append_assoc old.pending is.1.0 ys ∙ ap (λ l. old.pending ++ l) (sym is.1.1) in
    subst (λ l. GivesBodies (Some l) old.at (Some (new.pending ++ ys)) new.at result) whole (answered old.at all ys new before now result is.2)
