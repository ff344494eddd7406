-- What a reader put of what it heard.
use Rattle.std.proofs.Common.{◌≡◌, inl, inr, ℕ, Bool, true, false, List, [], ◌∷◌, ◌++◌, map, refl, sym, ap, ◌∙◌, subst, append_assoc, append-nil}
use Rattle.std.specs.Prelude.{Option, None}
use Rattle.std.specs.Io.KnownBytes.{Consumes}
use Rattle.std.proofs.KnownBytes.{Consumes-nil}
use Rattle.std.proofs.lemmas.List.{map-append}
use Rattle.lsp_frame.specs.Stream.{Stream}
use Rattle.lsp_msg.specs.declared.msg.Msg.{Msg as Message}
use Rattle.run_watch.specs.declared.end_cause.EndCause.TheVariants as end
use Rattle.run_watch.specs.declared.inp.Inp.{Inp}
use Rattle.run_watch.specs.declared.inp.Inp.TheVariants.{Msg, End}
use Rattle.run_core.specs.Inputs.{messages_of}
use Rattle.run_serve.specs.Hearing.{AreSent, Heard, HeardAll, HeardFront, IsGiven, IsHeard, IsReading, ends_messages, is_end, is_exit}
use Rattle.run_serve.proofs.Hearing.{heard_none, more_heard}

module _ (left_before left : Option (List ℕ)) (before now : ℕ) where
  heard_front : (stream : Stream) (exited : Bool) (ms : List Message) → Heard left_before left before now stream exited ms → HeardFront left_before left ms
  heard_front stream exited ms heard = more_heard left_before left left before now now stream stream exited ms heard [] (Consumes-nil left)

  -- the messages but for the last one
  fewer : (ms : List Message) (m : Message) → HeardFront left_before left (ms ++ m ∷ []) → HeardFront left_before left ms
  fewer ms m heard = record { read = heard.read; more = m ∷ heard.more; gave = heard.gave; same = heard.same ∙ append_assoc ms (m ∷ []) heard.more }

  all_front : (ms : List Message) (cause : _) → HeardAll left_before left before now ms cause → HeardFront left_before left ms
  all_front ms cause heard = record { read = heard.read; more = []; gave = heard.gave; same = heard.same ∙ sym (append-nil ms) }

  given_front : (stream : Stream) (ms : List Message) (inp : Inp) → IsGiven left_before left before now stream ms inp → HeardFront left_before left ms
  given_front stream ms (Msg m) (inl heard) = fewer ms m (heard_front stream (is_exit m) (ms ++ m ∷ []) heard)
  given_front stream ms (End e) (inl heard) = all_front ms e heard
  given_front stream ms inp (inr lost) = lost.1

  sent_front : (sent : List Inp) (ms : List Message) → sent ≡ map Msg ms → HeardFront left_before left ms → AreSent left_before left before now sent
  sent_front sent ms is heard = record { messages = ms; ending = []; put = is ∙ sym (append-nil (map Msg ms)); ends = inr (inl refl, heard) }

  -- the reader stops before its next input
  pub stops : (stream : Stream) (exited : Bool) (sent : List Inp) → IsReading left_before left before now stream exited sent → AreSent left_before left before now sent
  stops stream exited sent reading = sent_front sent reading.messages reading.put (heard_front stream exited reading.messages reading.heard)

  -- the inbox is refused memory for the input
  pub refused : (stream : Stream) (ms : List Message) (inp : Inp) (sent : List Inp) → IsGiven left_before left before now stream ms inp → sent ≡ map Msg ms
      → AreSent left_before left before now sent
  refused stream ms inp sent given is = sent_front sent ms is (given_front stream ms inp given)

  -- the input was the last
  pub sent_last : (stream : Stream) (ms : List Message) (inp : Inp) (sent new : List Inp) → IsGiven left_before left before now stream ms inp → is_end inp ≡ true
      → sent ≡ map Msg ms → new ≡ sent ++ inp ∷ [] → AreSent left_before left before now new
  sent_last stream ms (Msg m) sent new given last is put = absurd (let wrong : false ≡ true = last in cc)
  sent_last stream ms (End e) sent new (inl heard) last is put =
      record { messages = ms; ending = End e ∷ []; put = put ∙ ap (λ k. k ++ End e ∷ []) is; ends = inl (e, refl, heard) }
  sent_last stream ms (End e) sent new (inr lost) last is put =
      record { messages = ms; ending = End end.NoMemory ∷ []; put = put ∙ ap (λ k. k ++ End e ∷ []) is ∙ ap (λ k. map Msg ms ++ k ∷ []) lost.0; ends = inr (inr refl, lost.1) }

  -- the input was a message
  pub reads_on : (stream : Stream) (ms : List Message) (inp : Inp) (sent new : List Inp) (exited : Bool) → IsGiven left_before left before now stream ms inp → is_end inp ≡ false
      → sent ≡ map Msg ms → new ≡ sent ++ inp ∷ [] → exited ≡ ends_messages inp → IsReading left_before left before now stream exited new
  reads_on stream ms (End e) sent new exited given more is put ends = absurd (let wrong : true ≡ false = more in cc)
  reads_on stream ms (Msg m) sent new exited (inr lost) more is put ends = absurd (let wrong : Msg m ≡ End end.NoMemory = lost.0 in cc)
  reads_on stream ms (Msg m) sent new exited (inl heard) more is put ends = record {
    messages = ms ++ m ∷ [];
    heard = subst (λ b. Heard left_before left before now stream b (ms ++ m ∷ [])) (sym ends) heard;
    put = put ∙ ap (λ k. k ++ Msg m ∷ []) is ∙ sym (map-append Msg ms (m ∷ []));
  }

-- nothing was read and nothing put
pub unread : (left left' : Option (List ℕ)) (reads reads' : ℕ) (sent : List Inp) → left' ≡ left → sent ≡ [] → AreSent left left' reads reads' sent
unread left left' reads reads' sent same none =
    let gave : Consumes left left' [] = subst (λ l. Consumes left l []) (sym same) (Consumes-nil left) in
    sent_front left left' reads reads' sent [] none (record { read = []; more = messages_of []; gave = gave; same = refl })

-- before the first input
pub starts : (left : Option (List ℕ)) (reads : ℕ) (stream : Stream) (sent : List Inp) → stream.pending ≡ [] → stream.at ≡ 0 → stream.ended ≡ None → sent ≡ []
    → IsReading left left reads reads stream false sent
starts left reads stream sent pending at going none = record {
  messages = [];
  heard = heard_none left reads stream pending at going (Consumes-nil left);
  put = none;
}
