-- The laws of lists of written messages.
use Rattle.std.proofs.Common.{◌≡◌, ℕ, ◌≤◌, false, ◌||◌, List, [], ◌∷◌, ◌++◌, refl, sym, ap, ◌∙◌, inl, inr, arith, append_assoc}
use Rattle.std.specs.Prelude.{if◌then◌else◌, bytes_eq}
use Rattle.std.proofs.lemmas.List.{append-nil}
use Rattle.lsp_msg.specs.declared.out.Out.{Out}
use Rattle.lsp_msg.specs.declared.out.Out.TheVariants as out
use Rattle.lsp_msg.specs.declared.placed.Placed.{Placed}
use Rattle.run_core.specs.Histories.{listed}
use Rattle.run_core.specs.Sessions.{Told, Nothing, Failed, Logged, Began, Edited, Kept, Ended, answer_of}
use Rattle.run_core.specs.Legal.{Begins, answers_in, has_greeting, has_farewell, NoneNewer}
use Rattle.run_core.specs.Settled.{last_items, HasListSince}

pub Begins-refl : (xs : List Out) → Begins xs xs
Begins-refl xs = ([], sym (append-nil xs))

pub Begins-nil : (xs : List Out) → Begins [] xs
Begins-nil xs = (xs, refl)

pub Begins-more : (xs ys zs : List Out) → Begins xs ys → Begins xs (ys ++ zs)
Begins-more xs ys zs b = (b.0 ++ zs, ap (λ t. t ++ zs) b.1 ∙ append_assoc xs b.0 zs)

pub answers_in-append : (xs ys : List Out) → answers_in (xs ++ ys) ≡ answers_in xs ++ answers_in ys
answers_in-append [] ys = refl
answers_in-append (out.List u n i ∷ xs) ys = answers_in-append xs ys
answers_in-append (out.Null id ∷ xs) ys = answers_in-append xs ys
answers_in-append (x ∷ xs) ys = ap (λ t. x ∷ t) (answers_in-append xs ys)

pub has_greeting-append : (xs ys : List Out) → has_greeting (xs ++ ys) ≡ (has_greeting xs || has_greeting ys)
has_greeting-append [] ys = refl
has_greeting-append (out.Initialized id encoding ∷ xs) ys = refl
has_greeting-append (x ∷ xs) ys = has_greeting-append xs ys

pub has_farewell-append : (xs ys : List Out) → has_farewell (xs ++ ys) ≡ (has_farewell xs || has_farewell ys)
has_farewell-append [] ys = refl
has_farewell-append (out.Null id ∷ xs) ys = refl
has_farewell-append (x ∷ xs) ys = has_farewell-append xs ys

pub NoneNewer-append : (n : ℕ) (xs ys : List Out) → NoneNewer n xs → NoneNewer n ys → NoneNewer n (xs ++ ys)
NoneNewer-append n [] ys p q = q
NoneNewer-append n (out.List u k i ∷ xs) ys p q = (p.0, NoneNewer-append n xs ys p.1 q)
NoneNewer-append n (x ∷ xs) ys p q = NoneNewer-append n xs ys p q

pub NoneNewer-more : (n k : ℕ) (xs : List Out) → n ≤ k → NoneNewer n xs → NoneNewer k xs
NoneNewer-more n k [] le p = tt
NoneNewer-more n k (out.List u j i ∷ xs) le p = (omega (arith, p.0), NoneNewer-more n k xs le p.1)
NoneNewer-more n k (x ∷ xs) le p = NoneNewer-more n k xs le p

pub last_items-append : (u : List ℕ) (b : List Placed) (xs ys : List Out) → last_items u b (xs ++ ys) ≡ last_items u (last_items u b xs) ys
last_items-append u b [] ys = refl
last_items-append u b (out.List v n i ∷ xs) ys = last_items-append u (if bytes_eq u v then i else b) xs ys
last_items-append u b (x ∷ xs) ys = last_items-append u b xs ys

pub HasListSince-append : (u : List ℕ) (n : ℕ) (xs ys : List Out) → HasListSince u n xs → HasListSince u n (xs ++ ys)
HasListSince-append u n [] ys p = absurd p
HasListSince-append u n (out.List v k i ∷ xs) ys (inl p) = inl p
HasListSince-append u n (out.List v k i ∷ xs) ys (inr p) = inr (HasListSince-append u n xs ys p)
HasListSince-append u n (x ∷ xs) ys p = HasListSince-append u n xs ys p

pub HasListSince-after : (u : List ℕ) (n : ℕ) (xs ys : List Out) → HasListSince u n ys → HasListSince u n (xs ++ ys)
HasListSince-after u n [] ys p = p
HasListSince-after u n (out.List v k i ∷ xs) ys p = inr (HasListSince-after u n xs ys p)
HasListSince-after u n (x ∷ xs) ys p = HasListSince-after u n xs ys p

-- ---- an answer among them

pub answers_in-answer : (t : Told) → answers_in (listed (answer_of t)) ≡ listed (answer_of t)
answers_in-answer Nothing = refl
answers_in-answer (Failed id code) = refl
answers_in-answer (Logged method reason) = refl
answers_in-answer (Began id agreed) = refl
answers_in-answer (Edited e opened) = refl
answers_in-answer (Kept f) = refl
answers_in-answer (Ended id) = refl

pub has_farewell-answer : (t : Told) → has_farewell (listed (answer_of t)) ≡ false
has_farewell-answer Nothing = refl
has_farewell-answer (Failed id code) = refl
has_farewell-answer (Logged method reason) = refl
has_farewell-answer (Began id agreed) = refl
has_farewell-answer (Edited e opened) = refl
has_farewell-answer (Kept f) = refl
has_farewell-answer (Ended id) = refl

pub NoneNewer-answer : (n : ℕ) (t : Told) → NoneNewer n (listed (answer_of t))
NoneNewer-answer n Nothing = tt
NoneNewer-answer n (Failed id code) = tt
NoneNewer-answer n (Logged method reason) = tt
NoneNewer-answer n (Began id agreed) = tt
NoneNewer-answer n (Edited e opened) = tt
NoneNewer-answer n (Kept f) = tt
NoneNewer-answer n (Ended id) = tt

pub last_items-answer : (u : List ℕ) (b : List Placed) (t : Told) → last_items u b (listed (answer_of t)) ≡ b
last_items-answer u b Nothing = refl
last_items-answer u b (Failed id code) = refl
last_items-answer u b (Logged method reason) = refl
last_items-answer u b (Began id agreed) = refl
last_items-answer u b (Edited e opened) = refl
last_items-answer u b (Kept f) = refl
last_items-answer u b (Ended id) = refl
