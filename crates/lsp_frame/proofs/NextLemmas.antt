-- What one call answers, by the way in which it ends.
use Rattle.std.proofs.Common.{◌≡◌, ℕ, ◌+◌, ◌<◌, List, [], ◌∷◌, ◌++◌, length, None, Some, Ok, Err, refl, sym, ap, ◌∙◌, subst, inl, inr, arith}
use Rattle.std.specs.declared.option.Option.{Option}
use Rattle.std.specs.declared.result.Result.{Result}
use Rattle.std.specs.Io.KnownBytes.{Consumes, Keeps, IsAtEnd}
use Rattle.std.proofs.KnownBytes.{Consumes-trans, Consumes-kept}
use Rattle.std.proofs.Common.{append_assoc, append-nil}
use Rattle.lsp_frame.specs.declared.first.First.TheVariants.{More, Refused, Oversized, Frame}
use Rattle.lsp_frame.specs.declared.reading.Input.{Input}
use Rattle.lsp_frame.specs.declared.reading.Input.TheVariants.{Body, End}
use Rattle.lsp_frame.specs.declared.reading.FrameEnd.{FrameEnd}
use Rattle.lsp_frame.specs.declared.reading.FrameEnd.TheVariants.{Broken, TooLong, Fault, NoMemory}
use Rattle.lsp_frame.specs.First.{first_of}
use Rattle.lsp_frame.specs.Bodies.{place_after}
use Rattle.lsp_frame.specs.Stream.{Stream, stream, Reads, Answers, IsTaken, Fills}

-- a refusal with an answer that is known
refused_so : (all : List ℕ) (at : ℕ) (new : Stream) (left : Option (List ℕ)) (before now : ℕ) (result : Result Input FrameEnd)
    (end : FrameEnd) → result ≡ Err end → Answers all at new left before now (Err end) → Answers all at new left before now result
refused_so all at new left before now result end is holds = subst (λ r. Answers all at new left before now r) (sym is) holds

-- the stream that a refusal leaves
left_so : (all : List ℕ) (at at0 : ℕ) (new : Stream) (end end0 : FrameEnd) → new ≡ stream all at (Some end) → at ≡ at0 → end ≡ end0
    → new ≡ stream all at0 (Some end0)
left_so all at at0 new end end0 is same ended =
    is ∙ ap (λ a. stream all a (Some end)) same ∙ ap (λ e. stream all at0 (Some e)) ended

-- the pending bytes break
pub broken_next : (all : List ℕ) (at at0 size : ℕ) (new : Stream) (left : Option (List ℕ)) (before now : ℕ) (result : Result Input FrameEnd)
    (end : FrameEnd) → first_of all ≡ Refused size → end ≡ Broken (place_after at size) → at ≡ at0 → result ≡ Err end
    → new ≡ stream all at (Some end) → now ≡ before → Answers all at0 new left before now result
broken_next all at at0 size new left before now result end first ended same is after unfailed =
    let named : end ≡ Broken (place_after at0 size) = ended ∙ ap (λ a. Broken (place_after a size)) same in
    refused_so all at0 new left before now result (Broken (place_after at0 size)) (is ∙ ap Err named)
    (inl (size, first, refl), left_so all at at0 new end _ after same named, unfailed)

-- a head passes the limit
pub long_next : (all : List ℕ) (at at0 size : ℕ) (new : Stream) (left : Option (List ℕ)) (before now : ℕ) (result : Result Input FrameEnd)
    → first_of all ≡ Oversized size → at ≡ at0 → result ≡ Err (TooLong size)
    → new ≡ stream all at (Some (TooLong size)) → now ≡ before → Answers all at0 new left before now result
long_next all at at0 size new left before now result first same is after unfailed =
    refused_so all at0 new left before now result (TooLong size) is
    (first, left_so all at at0 new _ _ after same refl, unfailed)

-- the pending bytes end inside a frame
pub torn_next : (all : List ℕ) (at at0 : ℕ) (new : Stream) (left : Option (List ℕ)) (before now : ℕ) (result : Result Input FrameEnd)
    (end : FrameEnd) → first_of all ≡ More → 0 < length all → IsAtEnd left → end ≡ Broken (place_after at (length all)) → at ≡ at0
    → result ≡ Err end → new ≡ stream all at (Some end) → now ≡ before → Answers all at0 new left before now result
torn_next all at at0 new left before now result end first some over ended same is after unfailed =
    let named : end ≡ Broken (place_after at0 (length all)) = ended ∙ ap (λ a. Broken (place_after a (length all))) same in
    refused_so all at0 new left before now result (Broken (place_after at0 (length all))) (is ∙ ap Err named)
    (inr (first, some, over, refl), left_so all at at0 new end _ after same named, unfailed)

-- a frame is there
pub taken_next : (at0 from to : ℕ) (old new : Stream) (left : Option (List ℕ)) (before now : ℕ)
    (result : Result Input FrameEnd) → first_of old.pending ≡ Frame from to → old.at ≡ at0 → old.ended ≡ None
    → IsTaken old new from to result → now ≡ before → Answers old.pending at0 new left before now result
taken_next at0 from to old new left before now (Ok (Body body)) first same going taken unfailed =
    ((from, to, first, taken.0, rw (taken.1, same, going) refl), unfailed)
taken_next at0 from to old new left before now (Ok End) first same going taken unfailed = absurd taken
taken_next at0 from to old new left before now (Err end) first same going taken unfailed =
    refused_so old.pending at0 new left before now (Err end) NoMemory (ap Err taken.0)
    (ap (λ s. s.ended) taken.1, unfailed)

-- more bytes were read
Reads-more : (a b c : Option (List ℕ)) (pending all read : List ℕ) → Reads a b pending all → Consumes b c read → Reads a c pending (all ++ read)
Reads-more a b c pending all read first more =
    (first.0 ++ read, Consumes-trans a b c _ _ first.1 more, ap (λ l. l ++ read) first.2 ∙ append_assoc pending first.0 read)

-- no more bytes were read
Reads-kept : (a b c : Option (List ℕ)) (pending all : List ℕ) → Reads a b pending all → Keeps b c → Reads a c pending all
Reads-kept a b c pending all first kept = (first.0, Consumes-kept a b c _ first.1 kept, first.2)

empty_of : (l : List ℕ) → length l ≡ 0 → l ≡ []
empty_of [] e = refl
empty_of (x ∷ xs) e = absurd (omega (arith, e))

-- no byte came
none_filled : (old mid : Stream) (left left' : Option (List ℕ)) (before now n : ℕ) → Fills old mid left left' before now (Ok n) → n ≡ 0
    → (mid.pending ≡ old.pending) × (mid.at ≡ old.at) × Consumes left left' [] × IsAtEnd left' × (now ≡ before)
none_filled old mid left left' before now n fills none =
    let empty : fills.0.0 ≡ [] = empty_of fills.0.0 (fills.0.2 ∙ none) in (
      ap (λ s. s.pending) fills.0.3 ∙ ap (λ l. old.pending ++ l) empty ∙ append-nil old.pending,
      ap (λ s. s.at) fills.0.3,
      subst (λ l. Consumes left left' l) empty fills.0.1,
      fills.1 none,
      fills.2,
    )

-- the input ends inside a frame
pub closed_next : (p0 : List ℕ) (at0 : ℕ) (old mid new : Stream) (left0 left left' : Option (List ℕ)) (before0 before now n : ℕ)
    (result : Result Input FrameEnd) (end : FrameEnd) → Reads left0 left p0 old.pending → first_of old.pending ≡ More → old.at ≡ at0
    → before ≡ before0 → Fills old mid left left' before now (Ok n) → n ≡ 0 → 0 < length mid.pending
    → end ≡ Broken (place_after mid.at (length mid.pending)) → result ≡ Err end → new ≡ stream mid.pending mid.at (Some end)
    → (all : List ℕ) × Reads left0 left' p0 all × Answers all at0 new left' before0 now result
closed_next p0 at0 old mid new left0 left left' before0 before now n result end reads first same counts fills none some ended is after =
    let kept = none_filled old mid left left' before now n fills none in
    let more : Reads left0 left' p0 (old.pending ++ []) = Reads-more left0 left left' p0 old.pending [] reads kept.2 in
    let there : Reads left0 left' p0 mid.pending = subst (Reads left0 left' p0) (append-nil old.pending ∙ sym kept.0) more in
    (mid.pending, there, torn_next mid.pending mid.at at0 new left' before0 now result end (ap first_of kept.0 ∙ first) some kept.3 ended (kept.1 ∙ same) is after (kept.4 ∙ counts))

-- a read failed, or memory was wanting
pub failed_next : (p0 : List ℕ) (at0 : ℕ) (old mid new : Stream) (left0 left left' : Option (List ℕ)) (before0 before now : ℕ)
    (result : Result Input FrameEnd) (end : FrameEnd) → Reads left0 left p0 old.pending → first_of old.pending ≡ More → old.at ≡ at0
    → before ≡ before0 → Fills old mid left left' before now (Err end) → result ≡ Err end → new ≡ stream mid.pending mid.at (Some end)
    → (all : List ℕ) × Reads left0 left' p0 all × Answers all at0 new left' before0 now result
failed_next p0 at0 old mid new left0 left left' before0 before now result (Broken place) reads first same counts fills is after = absurd fills
failed_next p0 at0 old mid new left0 left left' before0 before now result (TooLong size) reads first same counts fills is after = absurd fills
failed_next p0 at0 old mid new left0 left left' before0 before now result Fault reads first same counts fills is after =
    let left_it : new ≡ stream old.pending old.at (Some Fault) = after ∙ ap (λ s. stream s.pending s.at (Some Fault)) fills.1 in (
      old.pending,
      Reads-kept left0 left left' p0 old.pending reads fills.0,
      refused_so old.pending at0 new left' before0 now result Fault is
          (first, left_so old.pending old.at at0 new Fault Fault left_it same refl, fills.2 ∙ ap (λ k. k + 1) counts),
    )
failed_next p0 at0 old mid new left0 left left' before0 before now result NoMemory reads first same counts fills is after = (
  old.pending ++ fills.0.0,
  Reads-more left0 left left' p0 old.pending fills.0.0 reads fills.0.1,
  refused_so (old.pending ++ fills.0.0) at0 new left' before0 now result NoMemory is (ap (λ s. s.ended) after, fills.1 ∙ counts),
)
