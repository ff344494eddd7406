-- Frames that are written are read back.
use Rattle.std.proofs.Common.{◌≡◌, ℕ, ◌+◌, ◌-◌, ◌*◌, ◌/◌, ◌%◌, ◌^◌, ◌<◌, ◌≤◌, nat_lt, Bool, true, false, if◌then◌else◌, List, [], ◌∷◌, ◌++◌, length, take, drop, None, Some, refl, sym, ap, ◌∙◌, inl, inr, arith, append-nil, append_assoc, length-append, codes}
use Rattle.std.specs.List.{slice_range}
use Rattle.std.specs.Char.{is_ascii_digit}
use Rattle.std.specs.Fmt.{decimal}
use Rattle.std.proofs.lemmas.Fmt.{decimal_by_steps, length-decimal-le}
use Rattle.std.proofs.lemmas.Bool.Decides.{nat_tests}
use Rattle.std.proofs.Math.Seq.{take-append_seam, drop-append_seam}
use Rattle.std.specs.declared.option.Option.{Option}
use Rattle.lsp_frame.specs.declared.head.Scan.{Scan}
use Rattle.lsp_frame.specs.declared.head.Scan.TheVariants.{Line, Done}
use Rattle.lsp_frame.specs.declared.head.Head.TheVariants.{Broken, Gives}
use Rattle.lsp_frame.specs.declared.first.First.TheVariants.{More, Oversized, Frame}
use Rattle.lsp_frame.specs.Head.{go_on, step_of, head_at, head_from, head_of}
use Rattle.lsp_frame.specs.First.{first_from, first_of}
use Rattle.lsp_frame.specs.Bodies.{place_after, bodies_at, bodies_of, with_body, with_bodies, IsReadTo}
use Rattle.lsp_frame.specs.Bodies.Ending.{Closed}
use Rattle.lsp_frame.specs.Stream.{Stream, Gives as GivesBody}
use Rattle.lsp_frame.specs.Written.{head, frame, frames, AreWithin}
use Rattle.lsp_frame.specs.Grammar.{Each, number_after, IsLengthLine, LengthLines, IsHead}
use Rattle.lsp_frame.proofs.ScanLemmas.{Each-push, number_after-push}
use Rattle.lsp_frame.proofs.RunLemmas.{run_on, runs, head_runs}
use Rattle.lsp_frame.proofs.SaysLemmas.{done_cases, unended_cases, unended_is}
use Rattle.lsp_frame.proofs.BodiesLemmas.{bodies_at-frame}
use Rattle.lsp_frame.proofs.GivesLemmas.{given_body}

-- ---- decimal digits

record IsDecimal (n : ℕ) (digits : List ℕ) : Type 0 where
  some : 0 < length digits
  each : Each is_ascii_digit digits
  number : number_after 0 digits ≡ n

digit_is : (n : ℕ) → n < 10 → is_ascii_digit (48 + n) ≡ true
digit_is n small = grind (arith, nat_tests)

one_digit : (n : ℕ) → n < 10 → IsDecimal n ((48 + n) ∷ [])
one_digit n small = record { some = omega arith; each = (digit_is n small, tt); number = omega arith }

more_digits : (n : ℕ) (digits : List ℕ) → 10 ≤ n → IsDecimal (n / 10) digits → IsDecimal n (digits ++ ((48 + n % 10) ∷ []))
more_digits n digits large is =
    let small : n % 10 < 10 = omega arith in
    let value : number_after 0 digits * 10 + (48 + n % 10 - 48) ≡ n = omega (arith, is.number) in
    record {
      some = omega (arith, length-append digits ((48 + n % 10) ∷ []));
      each = Each-push is_ascii_digit digits (48 + n % 10) is.each (digit_is (n % 10) small);
      number = number_after-push 0 digits (48 + n % 10) ∙ value;
    }

decimal_is : (n : ℕ) → n < 2 ^ 64 → IsDecimal n (decimal n)
decimal_is n fits = decimal_by_steps IsDecimal one_digit more_digits n fits

-- ---- a written head

written_line : (n : ℕ) → n ≤ 16777216 → IsLengthLine (codes "Content-Length: " ++ (decimal n ++ (13 ∷ 10 ∷ []))) n
written_line n within =
    let fits : n < 2 ^ 64 = omega arith in
    let is = decimal_is n fits in
    let eight : 0 < 8 = omega arith in
    let below : n < 10 ^ 8 = omega arith in
    let short : length (decimal n) ≤ 8 = length-decimal-le 8 n eight below fits in
    record {
      name = codes "Content-Length";
      front = 32 ∷ [];
      digits = decimal n;
      back = [];
      is = refl;
      named = record { some = omega arith; bytes = (refl, (refl, (refl, (refl, (refl, (refl, (refl, (refl, (refl, (refl, (refl, (refl, (refl, (refl, tt)))))))))))))) };
      the_length = refl;
      blank_front = (refl, tt);
      some = is.some;
      few = omega arith;
      decimal = is.each;
      blank_back = tt;
      number = sym is.number;
    }

written_head : (n : ℕ) → n ≤ 16777216 → IsHead (head n) n
written_head n within =
    let line = codes "Content-Length: " ++ (decimal n ++ (13 ∷ 10 ∷ [])) in
    let lines : LengthLines line n = ([], line, [], ([], tt, refl), written_line n within, ([], tt, refl), sym (append-nil line)) in
    (line, lines, append_assoc (codes "Content-Length: ") (decimal n) (codes "\r\n\r\n") ∙ ap (λ l. codes "Content-Length: " ++ l) (sym (append_assoc (decimal n) (13 ∷ 10 ∷ []) (13 ∷ 10 ∷ []))))

head_short : (n : ℕ) → n ≤ 16777216 → length (head n) ≤ 4096
head_short n within =
    let fits : n < 2 ^ 64 = omega arith in
    let eight : 0 < 8 = omega arith in
    let below : n < 10 ^ 8 = omega arith in
    let short : length (decimal n) ≤ 8 = length-decimal-le 8 n eight below fits in
    omega (arith, short, length-append (codes "Content-Length: " ++ decimal n) (codes "\r\n\r\n"), length-append (codes "Content-Length: ") (decimal n))

-- ---- a head that is scanned to its end is found

done_from : (size n : ℕ) (rest : List ℕ) → head_from size (Done n) rest ≡ Gives n size
done_from size n [] = refl
done_from size n (b ∷ rest) = refl

go_on-run : (next : Option Scan) (size n k : ℕ) (xs rest : List ℕ) → run_on next (λ t. runs t xs) ≡ Some (Done n)
    → ((t : Scan) → runs t xs ≡ Some (Done n) → head_from (size + 1) t (xs ++ rest) ≡ Gives n k)
    → go_on next (Broken size) (λ t. head_from (size + 1) t (xs ++ rest)) ≡ Gives n k
go_on-run None size n k xs rest e later = absurd (let wrong : None ≡ Some (Done n) = e in cc)
go_on-run (Some t) size n k xs rest e later = later t e

run_gives : (size : ℕ) (s : Scan) (n : ℕ) (xs rest : List ℕ) → runs s xs ≡ Some (Done n) → size + length xs ≤ 4096 → head_from size s (xs ++ rest) ≡ Gives n (size + length xs)
run_gives size s n [] rest e short =
    let is : s ≡ Done n = cc in
    let none : size + 0 ≡ size = omega arith in
    ap (λ t. head_from size t rest) is ∙ done_from size n rest ∙ ap (λ k. Gives n k) (sym none)
run_gives size s n (x ∷ xs) rest e short =
    elim (done_cases size s) [
      | inl d ↦ absurd (let stuck : runs s (x ∷ xs) ≡ None = ap (λ t. runs t (x ∷ xs)) d.1 in let wrong : None ≡ Some (Done n) = sym stuck ∙ e in cc)
      | inr u ↦ elim (unended_cases size) [
        | inl p ↦ absurd (omega (arith, p.0, short))
        | inr q ↦
            let fits : size + 1 + length xs ≤ 4096 = omega arith in
            let total : size + 1 + length xs ≡ size + length (x ∷ xs) = omega arith in
            unended_is (head_at size s) _ (u.0 ∙ q.1) ∙ go_on-run (step_of s x) size n (size + 1 + length xs) xs rest e (λ t h. run_gives (size + 1) t n xs rest h fits) ∙ ap (λ k. Gives n k) total
      ]
    ]

written_gives : (n : ℕ) (rest : List ℕ) → n ≤ 16777216 → head_of (head n ++ rest) ≡ Gives n (length (head n))
written_gives n rest within =
    let short : 0 + length (head n) ≤ 4096 = omega (arith, head_short n within) in
    let none : 0 + length (head n) ≡ length (head n) = omega arith in
    run_gives 0 (Line None) n (head n) rest (head_runs (head n) n (written_head n within)) short ∙ ap (λ k. Gives n k) none

-- ---- a written frame

is_not_less : (a b : ℕ) → b ≤ a → nat_lt a b ≡ false
is_not_less a b h = grind (arith, nat_tests)

two_false : (long short : Bool) (n size : ℕ) → long ≡ false → short ≡ false → (if long then Oversized n else (if short then More else Frame size (size + n))) ≡ Frame size (size + n)
two_false true short n size p q = absurd (let wrong : true ≡ false = p in cc)
two_false false true n size p q = absurd (let wrong : true ≡ false = q in cc)
two_false false false n size p q = refl

written_first : (body more : List ℕ) → length body ≤ 16777216 → first_of (frame body ++ more) ≡ Frame (length (head (length body))) (length (head (length body)) + length body)
written_first body more within =
    let h = head (length body) in
    let whole : frame body ++ more ≡ h ++ (body ++ more) = append_assoc h body more in
    let gives : head_of (frame body ++ more) ≡ Gives (length body) (length h) = ap head_of whole ∙ written_gives (length body) (body ++ more) within in
    let there : length h + length body ≤ length (frame body ++ more) = omega (arith, length-append (frame body) more, length-append h body) in
    ap (λ x. first_from x (length (frame body ++ more))) gives ∙ two_false _ _ (length body) (length h) (is_not_less 16777216 (length body) within) (is_not_less _ _ there)

-- the first body of written frames is the one that was written
pub written_body : (at : ℕ) (body more : List ℕ) → length body ≤ 16777216
    → bodies_at at (frame body ++ more) ≡ with_body body (bodies_at (place_after at (length (frame body))) more)
written_body at body more within =
    let h = head (length body) in
    let from = length h in
    let to = length h + length body in
    let whole : frame body ++ more ≡ h ++ (body ++ more) = append_assoc h body more in
    let span : to - from ≡ length body = omega arith in
    let the_body : slice_range (frame body ++ more) from to ≡ body =
    ap (λ k. take k (drop from (frame body ++ more))) span ∙ ap (λ l. take (length body) (drop from l)) whole ∙ ap (take (length body)) (drop-append_seam h (body ++ more)) ∙ take-append_seam body more in
    let long : to ≡ length (frame body) = sym (length-append h body) in
    let the_rest : drop to (frame body ++ more) ≡ more = ap (λ k. drop k (frame body ++ more)) long ∙ drop-append_seam (frame body) more in
    bodies_at-frame at (frame body ++ more) from to (written_first body more within) ∙ ap (λ b. with_body b (bodies_at (place_after at to) (drop to (frame body ++ more)))) the_body ∙ ap (λ k. with_body body (bodies_at (place_after at k) (drop to (frame body ++ more)))) long ∙ ap (λ l. with_body body (bodies_at (place_after at (length (frame body))) l)) the_rest

-- written frames have the bodies that were written
pub written_bodies : (at : ℕ) (bodies : List (List ℕ)) → AreWithin bodies → bodies_at at (frames bodies) ≡ record { list = bodies; end = Closed }
written_bodies at [] within = refl
written_bodies at (body ∷ bodies) within =
    written_body at body (frames bodies) within.0 ∙ ap (with_body body) (written_bodies (place_after at (length (frame body))) bodies within.1)

-- ---- what was read

pub read_none : IsReadTo [] [] [] 0
read_none = λ more. refl

-- a call that gives a body reads on
pub read_on : (read : List ℕ) (given : List (List ℕ)) (pending : List ℕ) (at : ℕ) (new body : List ℕ) (after : Stream)
    → IsReadTo read given pending at → GivesBody (pending ++ new) at after body → IsReadTo (read ++ new) (given ++ (body ∷ [])) after.pending after.at
read_on read given pending at new body after is gives =
    λ more.
    let later : bodies_at at ((pending ++ new) ++ more) ≡ with_body body (bodies_at after.at (after.pending ++ more)) = given_body at (pending ++ new) more body after gives in
    ap bodies_of (append_assoc read new more) ∙ is (new ++ more) ∙ ap (λ l. with_bodies given (bodies_at at l)) (sym (append_assoc pending new more)) ∙ ap (with_bodies given) later ∙ ap (λ l. record { list = l; end = (bodies_at after.at (after.pending ++ more)).end }) (sym (append_assoc given (body ∷ []) (bodies_at after.at (after.pending ++ more)).list))

-- a call that ends otherwise has read what it found
pub read_more : (read : List ℕ) (given : List (List ℕ)) (pending : List ℕ) (at : ℕ) (new : List ℕ) → IsReadTo read given pending at → IsReadTo (read ++ new) given (pending ++ new) at
read_more read given pending at new is =
    λ more. ap bodies_of (append_assoc read new more) ∙ is (new ++ more) ∙ ap (λ l. with_bodies given (bodies_at at l)) (sym (append_assoc pending new more))
