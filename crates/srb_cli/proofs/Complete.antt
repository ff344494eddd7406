-- Where nothing failed and all is within the limits, files are checked and a session is served.
use Rattle.std.proofs.Common.{◌≡◌, inl, inr, ℕ, ◌+◌, ◌≤◌, nat_lt, Bool, true, false, ◌||◌, if◌then◌else◌, List, [], ◌∷◌, ◌++◌, length, map, None, Some, refl, sym, ap, ◌∙◌, subst, arith, append-nil, bytes_eq}
use Rattle.std.specs.Prelude.{Option, IfSome, ◌<◌, unwrap_or}
use Rattle.std.specs.Io.KnownBytes.{Consumes, IsAtEnd}
use Rattle.std.specs.Cmp.Lexicographic.{slice_cmp, nat_list_cmp_total, texts_ties}
use Rattle.std.specs.Ordering.{nat_cmp, is_eq, ordering_reverse}
use Rattle.std.specs.declared.cmp.Ordering.{Ordering}
use Rattle.std.specs.declared.cmp.Ordering.TheVariants.{Less, Equal, Greater}
use Rattle.std.proofs.lemmas.Bool.Decides.{nat_tests}
use Rattle.std.proofs.lemmas.Slice.Eq.{bytes_eq-Decides}
use Rattle.srb_io.specs.Files.{FolderFile, IsBeforeEach, AreInOrder, is_among, bytes_at}
use Rattle.srb_terms.specs.declared.cause.Cause.{Cause}
use Rattle.srb_terms.specs.declared.cause.Cause.TheVariants.{Done, Errors, NoShutdown, Usage, ReadFault, WriteFault, Broken, TooLong, TooMany, TooBig, NoMemory}
use Rattle.lsp_frame.specs.Bodies.{bodies_of, Ending}
use Rattle.lsp_frame.specs.Bodies.Ending.{Closed, Torn, Malformed, PastLimit}
use Rattle.lsp_msg.specs.Decoded.{decoded}
use Rattle.lsp_docs.specs.Projects.{Project, paths_of, total_bytes}
use Rattle.run_watch.specs.declared.end_cause.EndCause.TheVariants as end
use Rattle.run_serve.specs.Course.{Course, NoReadFailed, NoWriteFailed}
use Rattle.run_serve.specs.Projects.{IsWithin}
use Rattle.run_serve.specs.Recorded.{Tracing}
use Rattle.srb_cli.specs.Folders.{IsTold, AreTold, IsFolder, IsPastFiles, IsPastBytes, IsUnread}
use Rattle.run_core.specs.Inputs.{messages_of, has_exit, end_of, end_after, GoesOn}
use Rattle.run_serve.specs.Causes.{cause_of}
use Rattle.run_serve.specs.Served.{ServesWhole, Serves, has_failed, is_shut}
use Rattle.srb_cli.specs.Ends.{Checks, EndsText}
use Rattle.srb_cli.specs.Generating.{EndsGenerating}
use Rattle.srb_cli.specs.Laws.{IsChecked, IsServed, IsGenerating, TextsAreChecked, FoldersAreChecked, SessionsAreServed, SessionsAreGenerated}
use Rattle.srb_text.specs.Limits.{MOST_BYTES}
use Rattle.srb_cli.proofs.Folders.{length-paths_of, total_bytes-append}
use Rattle.srb_cli.proofs.Lasting.{end_lasts}

-- ---- the paths of a folder are one list

differs : (p q : List ℕ) → slice_cmp nat_cmp p q ≡ Less → bytes_eq p q ≡ false
differs p q is = texts_ties p q ∙ ap is_eq is

same_path : (p q : List ℕ) → slice_cmp nat_cmp p q ≡ Equal → p ≡ q
same_path p q is = (bytes_eq-Decides p q).0 (texts_ties p q ∙ ap is_eq is)

itself : (p : List ℕ) → bytes_eq p p ≡ true
itself p = (bytes_eq-Decides p p).1 refl

-- a path before each of these isn't among them
not_among : (p : List ℕ) (qs : List (List ℕ)) → IsBeforeEach p qs → is_among p qs ≡ false
not_among p [] each = refl
not_among p (q ∷ qs) each = ap (λ b. b || is_among p qs) (differs p q each.0) ∙ not_among p qs each.1

before_each : (p q : List ℕ) (qs : List (List ℕ)) → slice_cmp nat_cmp p q ≡ Less → IsBeforeEach q qs → IsBeforeEach p qs
before_each p q [] less each = tt
before_each p q (r ∷ rs) less each = (nat_list_cmp_total.trans p q r less each.0, before_each p q rs less each.1)

first_among : (p : List ℕ) (ps : List (List ℕ)) → is_among p (p ∷ ps) ≡ true
first_among p ps = ap (λ b. b || is_among p ps) (itself p)

-- the first of two lists of the same paths isn't before that of the other
not_before : (p q : List ℕ) (ps qs : List (List ℕ)) → IsBeforeEach q qs → is_among p (p ∷ ps) ≡ is_among p (q ∷ qs) → slice_cmp nat_cmp p q ≡ Less → ⊥
not_before p q ps qs each same less =
    let none : is_among p (q ∷ qs) ≡ false = not_among p (q ∷ qs) (less, before_each p q qs less each) in
    let wrong : true ≡ false = sym (first_among p ps) ∙ same ∙ none in
    cc

same_rest : (b x y : Bool) → (b || x) ≡ (b || y) → (b ≡ true → x ≡ y) → x ≡ y
same_rest true x y e here = here refl
same_rest false x y e here = e

pub same_paths : (ps qs : List (List ℕ)) → AreInOrder ps → AreInOrder qs → ((p : List ℕ) → is_among p ps ≡ is_among p qs) → ps ≡ qs
same_paths [] [] o o' same = refl
same_paths [] (q ∷ qs) o o' same = absurd (let wrong : false ≡ true = same q ∙ first_among q qs in cc)
same_paths (p ∷ ps) [] o o' same = absurd (let wrong : true ≡ false = sym (first_among p ps) ∙ same p in cc)
same_paths (p ∷ ps) (q ∷ qs) o o' same = by (slice_cmp nat_cmp p q) refl (same_paths ps qs o.1 o'.1)
  where
    by : (c : Ordering) → slice_cmp nat_cmp p q ≡ c → (((x : List ℕ) → is_among x ps ≡ is_among x qs) → ps ≡ qs) → p ∷ ps ≡ q ∷ qs
    by Less is rest = absurd (not_before p q ps qs o'.0 (same p) is)
    by Greater is rest =
        let less : slice_cmp nat_cmp q p ≡ Less = nat_list_cmp_total.antisymm q p ∙ ap ordering_reverse is in
        absurd (not_before q p qs ps o.0 (sym (same q)) less)
    by Equal is rest =
        let one : p ≡ q = same_path p q is in
        let here : (x : List ℕ) → bytes_eq x p ≡ true → is_among x ps ≡ is_among x qs = λ x e.
        let at : x ≡ p = (bytes_eq-Decides x p).0 e in
        ap (λ r. is_among r ps) at ∙ not_among p ps o.0 ∙ sym (ap (λ r. is_among r qs) (at ∙ one) ∙ not_among q qs o'.0) in
        let tails : (x : List ℕ) → is_among x ps ≡ is_among x qs = λ x.
        same_rest (bytes_eq x p) (is_among x ps) (is_among x qs) (same x ∙ ap (λ r. bytes_eq x r || is_among x qs) (sym one)) (here x) in
        ap (λ r. r ∷ ps) one ∙ ap (λ rs. q ∷ rs) (rest tails)

pub some_same : {X : Type 0} (x y : X) → Some x ≡ Some y → x ≡ y
some_same x y same = ap (λ o. unwrap_or o x) same

first_same : (p q : List ℕ) (ps qs : List (List ℕ)) → p ∷ ps ≡ q ∷ qs → (p ≡ q) × (ps ≡ qs)
first_same p q ps qs e = (cc, cc)

told_once : (told : List FolderFile) (p q : List ℕ) (a b : List ℕ) → p ≡ q → bytes_at p told ≡ Some a → bytes_at q told ≡ Some b → a ≡ b
told_once told p q a b same x y = some_same a b (sym x ∙ ap (λ r. bytes_at r told) same ∙ y)

-- the files of the folder up to one of them have no more bytes than all
up_to : (told : List FolderFile) (front : List FolderFile) (path bytes : List ℕ) (later : List (List ℕ)) (base : List FolderFile) → paths_of front ++ path ∷ later ≡ paths_of base
    → AreTold (Some told) front → IsTold (Some told) (path, bytes) → AreTold (Some told) base → total_bytes front + length bytes ≤ total_bytes base
up_to told [] path bytes later [] e f t b = absurd (let wrong : path ∷ later ≡ [] = e in cc)
up_to told [] path bytes later (file ∷ files) e f t b =
    let one = first_same path file.0 later (paths_of files) e in
    let same : bytes ≡ file.1 = told_once told path file.0 bytes file.1 one.0 t b.0 in
    let long : length bytes ≡ length file.1 = ap length same in
    let sum : total_bytes (file ∷ files) ≡ (0 + length file.1) + total_bytes files = total_bytes-append (file ∷ []) files in
    omega (arith, long, sum)
up_to told (x ∷ xs) path bytes later [] e f t b = absurd (let wrong : x.0 ∷ (paths_of xs ++ path ∷ later) ≡ [] = e in cc)
up_to told (x ∷ xs) path bytes later (file ∷ files) e f t b =
    let one = first_same x.0 file.0 (paths_of xs ++ path ∷ later) (paths_of files) e in
    let same : x.1 ≡ file.1 = told_once told x.0 file.0 x.1 file.1 one.0 f.0 b.0 in
    let long : length x.1 ≡ length file.1 = ap length same in
    let rest : total_bytes xs + length bytes ≤ total_bytes files = up_to told xs path bytes later files one.1 f.1 t b.1 in
    let sum : total_bytes (file ∷ files) ≡ (0 + length file.1) + total_bytes files = total_bytes-append (file ∷ []) files in
    let front : total_bytes (x ∷ xs) ≡ (0 + length x.1) + total_bytes xs = total_bytes-append (x ∷ []) xs in
    omega (arith, long, rest, sum, front)

not_many : (told : List FolderFile) (base : Project) (n : ℕ) → IsFolder (Some told) base → IsWithin base → IsPastFiles (Some told) n → ⊥
not_many told base n folder within past =
    let same : past.paths ≡ paths_of base = same_paths past.paths (paths_of base) past.ordered folder.ordered (λ p. past.listed p ∙ sym (folder.listed p)) in
    let many : length past.paths ≡ length base = ap length same ∙ length-paths_of base in
    absurd (omega (arith, many, past.counted, past.past, within.files))

not_big : (told : List FolderFile) (base : Project) (path : List ℕ) → IsFolder (Some told) base → IsWithin base → IsPastBytes (Some told) path → ⊥
not_big told base path folder within past =
    let all = paths_of past.front ++ path ∷ past.later in
    let same : all ≡ paths_of base = same_paths all (paths_of base) past.ordered folder.ordered (λ p. past.listed p ∙ sym (folder.listed p)) in
    let fits : total_bytes past.front + length past.bytes ≤ total_bytes base = up_to told past.front path past.bytes past.later base same past.read past.there folder.read in
    absurd (omega (arith, fits, past.past, within.bytes))

-- where nothing failed, a folder within the limits gives no project because memory ran out alone
unread : (told : List FolderFile) (base : Project) (cause : Cause) (before after : ℕ) → IsFolder (Some told) base → IsWithin base → after ≡ before
    → IsUnread cause (Some told) before after → cause ≡ NoMemory
unread told base ReadFault before after folder within same u = absurd (omega (arith, same, u))
unread told base (TooMany n) before after folder within same u = absurd (not_many told base n folder within u.0)
unread told base (TooBig path) before after folder within same u = absurd (not_big told base path folder within u.0)
unread told base NoMemory before after folder within same u = refl
unread told base Done before after folder within same u = absurd u
unread told base Errors before after folder within same u = absurd u
unread told base NoShutdown before after folder within same u = absurd u
unread told base Usage before after folder within same u = absurd u
unread told base WriteFault before after folder within same u = absurd u
unread told base (Broken at) before after folder within same u = absurd u
unread told base (TooLong size) before after folder within same u = absurd u

-- ---- the end of a session

served_exit : (accepted : Bool) → IsServed (cause_of end.Exit accepted)
served_exit true = tt
served_exit false = tt

served_after : (ending : Ending) (accepted : Bool) → ending ≡ Closed → IsServed (cause_of (end_after ending false) accepted)
served_after Closed accepted e = tt
served_after (Torn at) accepted e = absurd (let wrong : Torn at ≡ Closed = e in cc)
served_after (Malformed at) accepted e = absurd (let wrong : Malformed at ≡ Closed = e in cc)
served_after (PastLimit size) accepted e = absurd (let wrong : PastLimit size ≡ Closed = e in cc)

-- the end of what was read is that of all bytes
same_end : (read left : List ℕ) (ending : Ending) → (bodies_of read).end ≡ ending → (GoesOn (bodies_of read).end → left ≡ []) → (bodies_of (read ++ left)).end ≡ Closed → (bodies_of read).end ≡ Closed
same_end read left ending is to_end closed = by ending is
  where
    whole : (GoesOn (bodies_of read).end) → (bodies_of read).end ≡ Closed
    whole goes = ap (λ l. (bodies_of l).end) (sym (ap (λ l. read ++ l) (to_end goes) ∙ append-nil read)) ∙ closed

    stays : (GoesOn (bodies_of read).end → ⊥) → (bodies_of read).end ≡ Closed
    stays none = sym (end_lasts read left none) ∙ closed

    by : (e : Ending) → (bodies_of read).end ≡ e → (bodies_of read).end ≡ Closed
    by Closed is = is
    by (Torn at) is = whole (subst GoesOn (sym is) tt)
    by (Malformed at) is = stays (λ g. subst GoesOn is g)
    by (PastLimit size) is = stays (λ g. subst GoesOn is g)

served_end : (read left : List ℕ) (accepted : Bool)
    → (has_exit (map decoded (bodies_of read).list) ≡ false → GoesOn (bodies_of read).end → left ≡ []) → (bodies_of (read ++ left)).end ≡ Closed
    → IsServed (cause_of (end_of read false) accepted)
served_end read left accepted to_end closed = by (has_exit (map decoded (bodies_of read).list)) refl
  where
    by : (b : Bool) → has_exit (map decoded (bodies_of read).list) ≡ b → IsServed (cause_of (if b then end.Exit else end_after (bodies_of read).end false) accepted)
    by true is = served_exit accepted
    by false is = served_after (bodies_of read).end accepted (same_end read left (bodies_of read).end refl (to_end is) closed)

not_failed : (a b : ℕ) → b ≡ a → nat_lt a b ≡ false
not_failed a b same = grind (arith, nat_tests)

whole_served : (base : Project) (cause : Cause) (c : Course) (bytes : List ℕ) (before after : Option (List ℕ)) → c.left_before ≡ before → c.left_after ≡ after
    → before ≡ Some bytes → (bodies_of bytes).end ≡ Closed → NoReadFailed c → ServesWhole base cause c → IsServed cause
whole_served base cause c bytes before after is_before is_after told closed unfailed w =
    by after (subst (λ o. Consumes o after w.read) (is_before ∙ told) (subst (λ o. Consumes c.left_before o w.read) is_after w.reads)) is_after
  where
    by : (o : Option (List ℕ)) → Consumes (Some bytes) o w.read → c.left_after ≡ o → IsServed cause
    by None gave is = absurd gave
    by (Some left) gave is =
        let quiet : has_failed c ≡ false = not_failed c.reads_before c.reads_after unfailed in
        let accepted = is_shut base (messages_of w.read) in
        let done = served_end w.read left accepted (λ none goes. subst IsAtEnd is (w.to_end none goes unfailed)) (ap (λ l. (bodies_of l).end) (sym gave) ∙ closed) in
        subst IsServed (sym (w.ended ∙ ap (λ f. cause_of (end_of w.read f) accepted) quiet)) done

serves : (base : Project) (cause : Cause) (c : Course) (bytes : List ℕ) → c.left_before ≡ Some bytes → (bodies_of bytes).end ≡ Closed → NoReadFailed c → NoWriteFailed c
    → Serves base cause c → IsServed cause
serves base Done c bytes told closed reads writes s = tt
serves base NoShutdown c bytes told closed reads writes s = tt
serves base NoMemory c bytes told closed reads writes s = tt
serves base ReadFault c bytes told closed reads writes s = whole_served base ReadFault c bytes (Some bytes) c.left_after told refl refl closed reads s
serves base (Broken at) c bytes told closed reads writes s = whole_served base (Broken at) c bytes (Some bytes) c.left_after told refl refl closed reads s
serves base (TooLong size) c bytes told closed reads writes s = whole_served base (TooLong size) c bytes (Some bytes) c.left_after told refl refl closed reads s
serves base WriteFault c bytes told closed reads writes s = absurd (omega (arith, writes, s.failed))
serves base Errors c bytes told closed reads writes s = absurd s
serves base Usage c bytes told closed reads writes s = absurd s
serves base (TooMany files) c bytes told closed reads writes s = absurd s
serves base (TooBig path) c bytes told closed reads writes s = absurd s

pub sessions_are_served : SessionsAreServed
sessions_are_served cause dir workers o (inl before) listed bytes left closed reads writes =
    let f = o.listing in
    let none : cause ≡ NoMemory =
    unread listed.files listed.base cause f.failed_before f.failed_after listed.folder listed.within listed.unfailed
    (subst (λ k. IsUnread cause k f.failed_before f.failed_after) listed.told before.0.1) in
    subst IsServed (sym none) tt
sessions_are_served cause dir workers o (inr (b, given, s)) listed bytes left closed reads writes = serves b cause o.course bytes left closed reads writes s.0

-- ---- the end of a check

checked : (base : Project) (cause : Cause) (c : Course) → NoWriteFailed c → Checks base cause c → IsChecked cause
checked base Done c writes s = tt
checked base Errors c writes s = tt
checked base NoMemory c writes s = tt
checked base WriteFault c writes s = absurd (omega (arith, writes, s.1))
checked base NoShutdown c writes s = absurd s
checked base Usage c writes s = absurd s
checked base ReadFault c writes s = absurd s
checked base (Broken at) c writes s = absurd s
checked base (TooLong size) c writes s = absurd s
checked base (TooMany files) c writes s = absurd s
checked base (TooBig path) c writes s = absurd s

pub folders_are_checked : FoldersAreChecked
folders_are_checked cause dir o (inl before, quiet) listed writes =
    let f = o.listing in
    let none : cause ≡ NoMemory =
    unread listed.files listed.base cause f.failed_before f.failed_after listed.folder listed.within listed.unfailed
    (subst (λ k. IsUnread cause k f.failed_before f.failed_after) listed.told before.1) in
    subst IsChecked (sym none) tt
folders_are_checked cause dir o (inr (b, given, nothing, s), quiet) listed writes = checked b cause o.course writes s

-- ---- the end of `text`

text_checked : (cause : Cause) (c : Course) (bytes : List ℕ) → c.left_before ≡ Some bytes → length bytes ≤ MOST_BYTES → NoReadFailed c → NoWriteFailed c
    → EndsText cause c → IsChecked cause
text_checked Done c bytes told small reads writes e = tt
text_checked Errors c bytes told small reads writes e = tt
text_checked NoMemory c bytes told small reads writes e = tt
text_checked ReadFault c bytes told small reads writes e = absurd (omega (arith, reads, e.0))
text_checked WriteFault c bytes told small reads writes e = absurd (omega (arith, writes, e.3))
text_checked (TooBig path) c bytes told small reads writes e =
    let big = subst (λ o. IfSome o (λ b. MOST_BYTES < length b)) told e.1 in
    absurd (omega (arith, small, big))
text_checked NoShutdown c bytes told small reads writes e = absurd e
text_checked Usage c bytes told small reads writes e = absurd e
text_checked (Broken at) c bytes told small reads writes e = absurd e
text_checked (TooLong size) c bytes told small reads writes e = absurd e
text_checked (TooMany files) c bytes told small reads writes e = absurd e

pub texts_are_checked : TextsAreChecked
texts_are_checked cause o ends bytes told small reads writes = text_checked cause o.course bytes told small reads writes ends.0

-- ---- the end of `gen`

generated : (cause : Cause) (n : ℕ) (c : Course) (t : Tracing) → NoWriteFailed c → EndsGenerating n cause c t → IsGenerating cause
generated Done n c t writes e = tt
generated NoMemory n c t writes e = tt
generated WriteFault n c t writes e = absurd (omega (arith, writes, e.2))
generated Errors n c t writes e = absurd e
generated NoShutdown n c t writes e = absurd e
generated Usage n c t writes e = absurd e
generated ReadFault n c t writes e = absurd e
generated (Broken at) n c t writes e = absurd e
generated (TooLong size) n c t writes e = absurd e
generated (TooMany files) n c t writes e = absurd e
generated (TooBig path) n c t writes e = absurd e

pub sessions_are_generated : SessionsAreGenerated
sessions_are_generated cause n o ends writes = generated cause n o.course o.tracing writes ends.0
