-- The lines of a text: they are its lines, and what the first of them is.
use Rattle.std.proofs.Common.{◌≡◌, ℕ, zero, suc, Bool, true, false, not, ◌&&◌, ◌==◌, if◌then◌else◌, List, [], ◌∷◌, ◌++◌, take, refl, sym, subst, ap, ◌∙◌, inl, inr, ⊎_elim, append_assoc}
use Rattle.std.proofs.lemmas.Bool.{or_cases, or_parts, or_from, and_parts, not-true, not-false, eqb-true, false≢true, cases_Bool}
use Rattle.std.specs.List.{list_any}
use Rattle.srb_text.specs.Lines.{Line, LINE_FEED, CARRIAGE_RETURN, is_line_end, begins_with_line_feed, ends_line, lines, with_content, with_ending, HasNoLineEnd, IsLineEnding, IsLastLine, IsFirstLine, AreLines}
use Rattle.srb_text.specs.LineStarts.{first_content}

-- a character that ends a line by itself
ends_alone : (c : ℕ) (rest : List ℕ) → ends_line c rest ≡ true → IsLineEnding (c ∷ []) rest
ends_alone c rest e =
    ⊎_elim (λ h. inl (ap (λ x. x ∷ []) (eqb-true c LINE_FEED h)))
    (λ h. let parts = and_parts (c == CARRIAGE_RETURN) (not (begins_with_line_feed rest)) h in
    inr (inr (ap (λ x. x ∷ []) (eqb-true c CARRIAGE_RETURN parts.0), not-true _ parts.1)))
    (or_cases (c == LINE_FEED) (c == CARRIAGE_RETURN && not (begins_with_line_feed rest)) e)

end_step : (c : ℕ) (cs : List ℕ) (ls : List Line) → ends_line c cs ≡ true → AreLines cs ls → AreLines (c ∷ cs) (record { content = []; ending = c ∷ [] } ∷ ls)
end_step c cs [] e h = absurd h
end_step c cs (m ∷ ls) e h = (cs, record { whole = refl; plain = refl; ended = ends_alone c cs e }, h)

content_step : (c : ℕ) (cs : List ℕ) (ls : List Line) → is_line_end c ≡ false → AreLines cs ls → AreLines (c ∷ cs) (with_content c ls)
content_step c cs [] e h = absurd h
content_step c cs (l ∷ []) e h =
    record { whole = ap (λ (v : List ℕ). c ∷ v) h.whole; plain = or_from _ _ e h.plain; endless = h.endless }
content_step c cs (l ∷ m ∷ ls) e h =
    (h.0, record { whole = ap (λ (v : List ℕ). c ∷ v) h.1.whole; plain = or_from _ _ e h.1.plain; ended = h.1.ended }, h.2)

-- a carriage return before a line feed
both_step : (cs : List ℕ) (ls : List Line) → AreLines cs ls → AreLines (CARRIAGE_RETURN ∷ LINE_FEED ∷ cs) (record { content = []; ending = CARRIAGE_RETURN ∷ LINE_FEED ∷ [] } ∷ ls)
both_step cs [] h = absurd h
both_step cs (m ∷ ls) h = (cs, record { whole = refl; plain = refl; ended = inr (inl refl) }, h)

both_case : (c d : ℕ) (cs : List ℕ) → c ≡ CARRIAGE_RETURN → d ≡ LINE_FEED → AreLines cs (lines cs) → AreLines (c ∷ d ∷ cs) (with_ending c (lines (d ∷ cs)))
both_case c d cs e f h =
    subst (λ (x : ℕ). AreLines (x ∷ d ∷ cs) (with_ending x (lines (d ∷ cs)))) (sym e)
    (subst (λ (y : ℕ). AreLines (CARRIAGE_RETURN ∷ y ∷ cs) (with_ending CARRIAGE_RETURN (lines (y ∷ cs)))) (sym f) (both_step cs (lines cs) h))

cut : (c : ℕ) (cs : List ℕ) (ls : List Line) → AreLines cs ls → (ends_line c cs ≡ false → (c == CARRIAGE_RETURN) ≡ true → AreLines (c ∷ cs) (with_ending c ls)) →
    AreLines (c ∷ cs) (if ends_line c cs then record { content = []; ending = c ∷ [] } ∷ ls else (if c == CARRIAGE_RETURN then with_ending c ls else with_content c ls))
cut c cs ls h both =
    ⊎_elim (λ (e : ends_line c cs ≡ true). rw e (end_step c cs ls e h))
    (λ (e : ends_line c cs ≡ false). ⊎_elim (λ (r : (c == CARRIAGE_RETURN) ≡ true). rw (e, r) (both e r))
    (λ (r : (c == CARRIAGE_RETURN) ≡ false). rw (e, r) (content_step c cs ls (or_from _ _ (or_parts (c == LINE_FEED) _ e).0 r) h))
    (cases_Bool (c == CARRIAGE_RETURN)))
    (cases_Bool (ends_line c cs))

-- a carriage return that ends no line stands before a line feed
before_feed : (c : ℕ) (rest : List ℕ) → ends_line c rest ≡ false → (c == CARRIAGE_RETURN) ≡ true → begins_with_line_feed rest ≡ true
before_feed c rest e r =
    let second = (or_parts (c == LINE_FEED) (c == CARRIAGE_RETURN && not (begins_with_line_feed rest)) e).1 in
    not-false _ (rw r at second)

pub AreLines-lines : (text : List ℕ) → AreLines text (lines text)
AreLines-lines [] = record { whole = refl; plain = refl; endless = refl }
AreLines-lines (c ∷ []) = cut c [] (lines []) (AreLines-lines []) (λ e r. absurd (false≢true (before_feed c [] e r)))
AreLines-lines (c ∷ d ∷ cs) =
    cut c (d ∷ cs) (lines (d ∷ cs)) (AreLines-lines (d ∷ cs))
    (λ e r. both_case c d cs (eqb-true c CARRIAGE_RETURN r) (eqb-true d LINE_FEED (before_feed c (d ∷ cs) e r)) (AreLines-lines cs))

-- the first line's characters
pub first_content_plain : (xs : List ℕ) → HasNoLineEnd xs → first_content xs ≡ xs
first_content_plain [] h = refl
first_content_plain (x ∷ xs) h = let parts = or_parts (is_line_end x) (list_any is_line_end xs) h in let no = parts.0 in rw no (ap (λ (v : List ℕ). x ∷ v) (first_content_plain xs parts.1))

first_content_before : (xs rest : List ℕ) (e : ℕ) → HasNoLineEnd xs → is_line_end e ≡ true → first_content (xs ++ e ∷ rest) ≡ xs
first_content_before [] rest e h ends = rw ends
first_content_before (x ∷ xs) rest e h ends = let parts = or_parts (is_line_end x) (list_any is_line_end xs) h in let no = parts.0 in rw no (ap (λ (v : List ℕ). x ∷ v) (first_content_before xs rest e parts.1 ends))

first_content_by : (xs end rest : List ℕ) (e : ℕ) (more : List ℕ) → HasNoLineEnd xs → end ≡ e ∷ more → is_line_end e ≡ true → first_content (xs ++ end ++ rest) ≡ xs
first_content_by xs end rest e more h same ends =
    ap (λ (v : List ℕ). first_content (xs ++ v ++ rest)) same ∙ ap first_content (append_assoc xs (e ∷ more) rest) ∙ first_content_before xs (more ++ rest) e h ends

first_content_ended : (xs end rest : List ℕ) → HasNoLineEnd xs → IsLineEnding end rest → first_content (xs ++ end ++ rest) ≡ xs
first_content_ended xs end rest h ended =
    ⊎_elim (λ (e : end ≡ LINE_FEED ∷ []). first_content_by xs end rest LINE_FEED [] h e refl)
    (λ other. ⊎_elim (λ (e : end ≡ CARRIAGE_RETURN ∷ LINE_FEED ∷ []). first_content_by xs end rest CARRIAGE_RETURN (LINE_FEED ∷ []) h e refl)
    (λ (p : (end ≡ CARRIAGE_RETURN ∷ []) × (begins_with_line_feed rest ≡ false)). first_content_by xs end rest CARRIAGE_RETURN [] h p.0 refl) other)
    ended

pub first_content_last : (text : List ℕ) (l : Line) → IsLastLine text l → first_content text ≡ l.content
first_content_last text l h = ap first_content h.whole ∙ first_content_plain l.content h.plain

pub first_content_first : (text rest : List ℕ) (l : Line) → IsFirstLine text l rest → first_content text ≡ l.content
first_content_first text rest l h = ap first_content h.whole ∙ first_content_ended l.content l.ending rest h.plain h.ended

take_step : (t : Bool) (k x : ℕ) (a b : List ℕ) → a ≡ take k b → (if t then [] else x ∷ a) ≡ take (suc k) (if t then [] else x ∷ b)
take_step true k x a b e = refl
take_step false k x a b e = ap (λ (v : List ℕ). x ∷ v) e

pub first_content_take : (k : ℕ) (xs : List ℕ) → first_content (take k xs) ≡ take k (first_content xs)
first_content_take zero xs = refl
first_content_take (suc k) [] = refl
first_content_take (suc k) (x ∷ xs) = take_step (is_line_end x) k x _ _ (first_content_take k xs)
