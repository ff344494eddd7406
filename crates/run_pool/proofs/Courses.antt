-- How the ends of workers come together.
use Rattle.std.proofs.Common.{◌≡◌, ℕ, ◌+◌, ◌<◌, ◌^◌, Bool, true, false, ◌||◌, ◌==◌, List, [], ◌∷◌, ◌++◌, length, cond, Result, Ok, Err, OnErr, refl, ap, sym, ◌∙◌, subst, arith, append-nil, append_assoc, length-append}
use Rattle.std.proofs.Math.Bool.{or_comm}
use Rattle.std.proofs.lemmas.Bool.Decides.{nat_tests}
use Rattle.std.proofs.lemmas.List.Elements.{All-nil}
use Rattle.std.proofs.lemmas.List.Sums.{sum_by-append, sum_by-cons, sum_by_push}
use Rattle.std.specs.declared.alloc.AllocError.{AllocError}
use Rattle.srb_check.specs.Jobs.{Known}
use Rattle.run_gate.specs.declared.gate.Gate.{Gate}
use Rattle.run_gate.specs.Shows.{SeatView}
use Rattle.run_gate.specs.Tickets.{AreJustBelow, once_below, times}
use Rattle.run_queues.specs.declared.item.Item.{Item}
use Rattle.run_queues.specs.Handing.{EachIsRight}
use Rattle.run_queues.specs.Showings.{Places, Showing}
use Rattle.run_pool.specs.declared.path.Course.{Course}
use Rattle.run_pool.specs.declared.path.Place.{Place}
use Rattle.run_pool.specs.declared.worker_end.Why.{Why}
use Rattle.run_pool.specs.declared.worker_end.Why.TheVariants.{Drained, Stopped, NoMemory}
use Rattle.run_pool.specs.Found.{IsFoundBy}
use Rattle.run_pool.specs.Working.{Leaves, WorksAt, file_count, is_short, numbers_of}
use Rattle.run_pool.specs.Dealt.{EachNew, IsNew, Leads}
use Rattle.run_pool.specs.Paths.{DrewPast, ShowsEnd, ShowsEnds, WorkersEnded, any_short}

-- the last of new places is new, and so are the others
pub EachNew-last : (job : Known) (gate : Gate) (queue : Places) (places : List Place) (place : Place) → EachNew job gate queue (places ++ place ∷ [])
    → EachNew job gate queue places × IsNew job gate queue place.seat place.pass
EachNew-last job gate queue [] place each = (tt, each.0)
EachNew-last job gate queue (p ∷ places) place each = let rest = EachNew-last job gate queue places place each.1 in ((each.0, rest.0), rest.1)

pub EachNew-push : (job : Known) (gate : Gate) (queue : Places) (places : List Place) (place : Place) → EachNew job gate queue places
    → IsNew job gate queue place.seat place.pass → EachNew job gate queue (places ++ place ∷ [])
EachNew-push job gate queue [] place each new = (new, tt)
EachNew-push job gate queue (p ∷ places) place each new = (each.0, EachNew-push job gate queue places place each.1 new)

-- a seat that only raised
abbrev pub OnlyRaised : SeatView → SeatView → Type 0
OnlyRaised before after = (after.raised ≡ true) × (after.gate ≡ before.gate) × (after.drawn ≡ before.drawn) × (after.left ≡ before.left)

-- a worker that was out of memory before it drew a number
pub short_at_once : (job : Known) (seat seat' : SeatView) (pass pass' : Showing Known) → seat.raised ≡ false → OnlyRaised seat seat' → pass' ≡ pass
    → WorksAt job seat seat' pass pass' NoMemory
short_at_once job seat seat' pass pass' unraised (raised, gate, drawn, left) same = record {
  hands = record {
    items = [];
    rest = [];
    drew = drawn ∙ sym (append-nil seat.drawn);
    gives = ap (λ (p : Showing Known). p.gave) same ∙ sym (append-nil pass.gave);
    files = All-nil (λ n. n < file_count job);
    right = tt;
    leaves = (omega arith, All-nil (λ n. n < file_count job));
  };
  stopped = tt;
  raised = raised ∙ ap (λ b. b || true) (sym unraised);
  keeps_seat = (gate, ([], drawn ∙ sym (append-nil seat.drawn)), ap (λ d. length d + seat'.left) drawn ∙ ap (λ n. length seat.drawn + n) left);
  keeps_pass = (
    ap (λ (p : Showing Known). p.queue) same,
    ap (λ (p : Showing Known). p.view) same,
    ([], ap (λ (p : Showing Known). p.gave) same ∙ sym (append-nil pass.gave)),
    ([], ap (λ (p : Showing Known). p.got) same ∙ sym (append-nil pass.got)),
    ap (λ (p : Showing Known). length p.gave + length p.got + p.left) same,
  );
}

-- ---- a seat into which another is joined

DrewPast-front : (files : ℕ) (xs ys : List ℕ) → DrewPast files xs → DrewPast files (xs ++ ys)
DrewPast-front files xs ys past =
    (past.0, past.1, past.2 ++ ys, ap (λ ns. ns ++ ys) past.3 ∙ append_assoc past.0 (past.1 ∷ past.2) ys, past.4)

DrewPast-back : (files : ℕ) (xs ys : List ℕ) → DrewPast files ys → DrewPast files (xs ++ ys)
DrewPast-back files xs ys past =
    (xs ++ past.0, past.1, past.2, ap (λ ns. xs ++ ns) past.3 ∙ sym (append_assoc xs past.0 (past.1 ∷ past.2)), past.4)

-- one seat was joined to another
pub record Joined (a b c : SeatView) : Type 0 where
  pub drawn : c.drawn ≡ a.drawn ++ b.drawn
  pub saw : c.saw ≡ (a.saw || b.saw)
  pub raised : c.raised ≡ (a.raised || b.raised)
  pub left : c.left ≡ a.left + b.left
  pub gate : c.gate ≡ a.gate

or_front : (a b : Bool) → a ≡ true → (a || b) ≡ true
or_front a b is = ap (λ x. x || b) is

or_back : (a b : Bool) → b ≡ true → (a || b) ≡ true
or_back a b is = or_comm a b ∙ ap (λ x. x || a) is

ShowsEnd-front : (files : ℕ) (a b c : SeatView) → Joined a b c → (why : Why) → ShowsEnd files a why → ShowsEnd files c why
ShowsEnd-front files a b c is Drained shown = subst (DrewPast files) (sym is.drawn) (DrewPast-front files a.drawn b.drawn shown)
ShowsEnd-front files a b c is Stopped shown = is.saw ∙ or_front a.saw b.saw shown
ShowsEnd-front files a b c is NoMemory shown = is.raised ∙ or_front a.raised b.raised shown

ShowsEnd-back : (files : ℕ) (a b c : SeatView) → Joined a b c → (why : Why) → ShowsEnd files b why → ShowsEnd files c why
ShowsEnd-back files a b c is Drained shown = subst (DrewPast files) (sym is.drawn) (DrewPast-back files a.drawn b.drawn shown)
ShowsEnd-back files a b c is Stopped shown = is.saw ∙ or_back a.saw b.saw shown
ShowsEnd-back files a b c is NoMemory shown = is.raised ∙ or_back a.raised b.raised shown

ShowsEnds-front : (files : ℕ) (a b c : SeatView) → Joined a b c → (ends : List Why) → ShowsEnds files a ends → ShowsEnds files c ends
ShowsEnds-front files a b c is [] shown = tt
ShowsEnds-front files a b c is (why ∷ ends) shown = (ShowsEnd-front files a b c is why shown.0, ShowsEnds-front files a b c is ends shown.1)

-- a worker's own seat shows how it ended
shown_by : (job : Known) (s s' : SeatView) (p p' : Showing Known) (why : Why) → s.raised ≡ false → WorksAt job s s' p p' why → ShowsEnd (file_count job) s' why
shown_by job s s' p p' Drained new works =
    let h = works.hands in
    let rest : Leaves Drained (file_count job) h.rest = h.leaves in (
      s.drawn ++ numbers_of h.items,
      rest.0,
      [],
      h.drew ∙ ap (λ ns. s.drawn ++ (numbers_of h.items ++ ns)) rest.1 ∙ sym (append_assoc s.drawn (numbers_of h.items) (rest.0 ∷ [])),
      rest.2,
    )
shown_by job s s' p p' Stopped new works = works.stopped
shown_by job s s' p p' NoMemory new works = works.raised ∙ or_back s.raised true refl

-- ---- one more place

EachIsRight-append : {W : Type 0} (right : W → Item → Type 0) (w : W) (xs ys : List Item) → EachIsRight right w xs → EachIsRight right w ys
    → EachIsRight right w (xs ++ ys)
EachIsRight-append right w [] ys each more = more
EachIsRight-append right w (x ∷ xs) ys each more = (each.0, EachIsRight-append right w xs ys each.1 more)

or_three : (a b c : Bool) → ((a || b) || c) ≡ (a || (c || b))
or_three true b c = refl
or_three false b c = or_comm b c

-- where a worker is run beside all at other places, and is then joined, all is as at one place more
pub one_more : {C : Type 0} (led : C → Bool → Result (Unit {0}) AllocError → C → Type 0) (job : Known) (gate : Gate) (queue : Places) (places : List Place) (place : Place)
    (old new : C) (s s' s'' w : SeatView) (p p' p'' q : Showing Known) (why : Why) (course : Course) (short : Bool)
    → IsNew job gate queue place.seat place.pass → WorksAt job place.seat w place.pass q why
    → Leads led job places old new s s' p p' course
    → Joined s' w s''
    → p'' ≡ record p' { gave = p'.gave ++ q.gave; got = p'.got ++ q.got; left = p'.left + q.left }
    → short ≡ (is_short why || course.short)
    → Leads led job (places ++ place ∷ []) old new s s'' p p'' (record { answer = course.answer; called = course.called; short = short })
one_more led job gate queue places place old new s s' s'' w p p' p'' q why course short is works leads joined put said =
    let files = file_count job in
    let e = leads.ended in
    let unraised : place.seat.raised ≡ false = ap (λ (v : SeatView). v.raised) is.seat_is in
    let none : length place.seat.drawn ≡ 0 = ap (λ (v : SeatView). length v.drawn) is.seat_is in
    let gave_none : length place.pass.gave ≡ 0 = ap (λ (v : Showing Known). length v.gave) is.pass_is in
    let got_none : length place.pass.got ≡ 0 = ap (λ (v : Showing Known). length v.got) is.pass_is in
    let raised : w.raised ≡ is_short why = works.raised ∙ ap (λ b. b || is_short why) unraised in
    record {
      chief = leads.chief;
      ended = record {
        ends = why ∷ e.ends;
        count = let n = length-append places (place ∷ []) in let m = e.count in omega arith;
        shown = (
          ShowsEnd-back files s' w s'' joined why (shown_by job place.seat w place.pass q why unraised works),
          ShowsEnds-front files s' w s'' joined e.ends e.shown,
        );
        is = said ∙ ap (λ b. is_short why || b) e.is;
      };
      raised = joined.raised ∙ ap (λ b. b || w.raised) leads.raised ∙ ap (λ b. (course.called || course.short) || b) raised
          ∙ or_three course.called course.short (is_short why) ∙ ap (λ b. course.called || b) (sym said);
      gate = joined.gate ∙ leads.gate;
      seats =
          let drew : length s''.drawn ≡ length s'.drawn + length w.drawn = ap length joined.drawn ∙ length-append s'.drawn w.drawn in
          let left = joined.left in
          let before = leads.seats in
          let one = works.keeps_seat.2 in
          let sum = sum_by_push (λ (x : Place). x.seat.left) places place in
          omega arith;
      queue = ap (λ (v : Showing Known). v.queue) put ∙ leads.queue;
      view = ap (λ (v : Showing Known). v.view) put ∙ leads.view;
      passes =
          let gave : length p''.gave ≡ length p'.gave + length q.gave = ap (λ (v : Showing Known). length v.gave) put ∙ length-append p'.gave q.gave in
          let got : length p''.got ≡ length p'.got + length q.got = ap (λ (v : Showing Known). length v.got) put ∙ length-append p'.got q.got in
          let left : p''.left ≡ p'.left + q.left = ap (λ (v : Showing Known). v.left) put in
          let before = leads.passes in
          let one = works.keeps_pass.4 in
          let sum = sum_by_push (λ (x : Place). x.pass.left) places place in
          omega arith;
      right = λ all.
          let h = works.hands in
          let items : q.gave ≡ h.items = h.gives ∙ ap (λ (is : List Item). is ++ h.items) (ap (λ (v : Showing Known). v.gave) is.pass_is) in
          subst (λ (is : List Item). EachIsRight IsFoundBy job is) (sym (ap (λ (v : Showing Known). v.gave) put ∙ ap (λ (is : List Item). p'.gave ++ is) items))
          (EachIsRight-append IsFoundBy job p'.gave h.items (leads.right all) h.right);
    }

-- ---- the end of a path

looked_end : (files : ℕ) (a b : SeatView) (r : Bool) → b.drawn ≡ a.drawn → b.saw ≡ (a.saw || r) → b.raised ≡ a.raised → (why : Why) → ShowsEnd files a why → ShowsEnd files b why
looked_end files a b r drawn saw raised Drained shown = subst (DrewPast files) (sym drawn) shown
looked_end files a b r drawn saw raised Stopped shown = saw ∙ or_front a.saw r shown
looked_end files a b r drawn saw raised NoMemory shown = raised ∙ shown

looked_ends : (files : ℕ) (a b : SeatView) (r : Bool) → b.drawn ≡ a.drawn → b.saw ≡ (a.saw || r) → b.raised ≡ a.raised → (ends : List Why) → ShowsEnds files a ends
    → ShowsEnds files b ends
looked_ends files a b r drawn saw raised [] shown = tt
looked_ends files a b r drawn saw raised (why ∷ ends) shown =
    (looked_end files a b r drawn saw raised why shown.0, looked_ends files a b r drawn saw raised ends shown.1)

-- a look keeps what the seat shows of workers
pub WorkersEnded-looked : (n workers files : ℕ) (a b : SeatView) (r short : Bool) → b.drawn ≡ a.drawn → b.saw ≡ (a.saw || r) → b.raised ≡ a.raised → n ≡ workers → WorkersEnded n files a short
    → WorkersEnded workers files b short
WorkersEnded-looked n workers files a b r short drawn saw raised count ended = record {
  ends = ended.ends;
  count = ended.count ∙ count;
  shown = looked_ends files a b r drawn saw raised ended.ends ended.shown;
  is = ended.is;
}

once_some : (n bound : ℕ) → 0 < once_below n bound → n < bound
once_some n bound some_there = grind (arith, nat_tests)

abbrev flag : Bool → ℕ
flag b = cond b 1 0

counts_itself : (n : ℕ) → flag (n == n) ≡ 1
counts_itself n = grind (arith, nat_tests)

-- where the numbers are just those below a bound, and among them is one that is no file's, the bound is greater than the file count
past_bound : (files bound : ℕ) (drawn : List ℕ) → AreJustBelow bound drawn → DrewPast files drawn → files < bound
past_bound files bound drawn just past =
    let n = past.1 in
    let f : ℕ → ℕ = λ m. flag (m == n) in
    let sum : times n drawn ≡ times n past.0 + times n (n ∷ past.2) = ap (λ ns. times n ns) past.3 ∙ sum_by-append f past.0 (n ∷ past.2) in
    let here : times n (n ∷ past.2) ≡ 1 + times n past.2 = sum_by-cons f n past.2 ∙ ap (λ m. m + times n past.2) (counts_itself n) in
    let found : 0 < times n drawn = omega arith in
    let below : n < bound = once_some n bound (subst (λ m. 0 < m) (just n) found) in
    let at_least = past.4 in
    omega arith

end_past : (files bound : ℕ) (a : SeatView) (why : Why) (others r : Bool) → ShowsEnd files a why → AreJustBelow bound a.drawn → ((a.saw || a.raised) ≡ true → r ≡ true)
    → r ≡ false → (is_short why || others) ≡ false → files < bound
end_past files bound a Drained others r shown just stays unseen unshort = past_bound files bound a.drawn just shown
end_past files bound a Stopped others r shown just stays unseen unshort =
    absurd (let seen : r ≡ true = stays (or_front a.saw a.raised shown) in cc)
end_past files bound a NoMemory others r shown just stays unseen unshort = absurd (let wrong : true ≡ false = unshort in cc)

-- what a seat drew and may still draw is all, once all that it dealt out came back
pub all_back : (drew now drawn left sum : ℕ) → drew + now ≡ (drawn + left) + sum → drawn ≡ 0 → left + sum ≡ 2 ^ 63 → drew + now ≡ 2 ^ 63
all_back drew now drawn left sum same none all = omega arith

-- where no worker was out of memory and the stop word is 0, all files were drawn, and more
pub all_drawn : (n workers files bound : ℕ) (a : SeatView) (short r : Bool) → n ≡ workers → WorkersEnded n files a short → AreJustBelow bound a.drawn → ((a.saw || a.raised) ≡ true → r ≡ true)
    → 0 < workers → r ≡ false → short ≡ false → files < bound
all_drawn n workers files bound a short r count ended just stays some unseen unshort =
    from_ends ended.ends (subst (λ m. 0 < m) (sym (ended.count ∙ count)) some) ended.shown (sym ended.is ∙ unshort)
  where
    from_ends : (ends : List Why) → 0 < length ends → ShowsEnds files a ends → any_short ends ≡ false → files < bound
    from_ends [] absent shown short_none = absurd (omega arith)
    from_ends (why ∷ ends) there shown short_none = end_past files bound a why (any_short ends) r shown.0 just stays unseen short_none

pub OnErr-lift : {T E P : Type 0} (r : Result T E) → P → OnErr r P
OnErr-lift (Ok v) p = tt
OnErr-lift (Err e) p = p
