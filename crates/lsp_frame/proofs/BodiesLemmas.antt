-- The bodies of bytes, of which some are read.
use Rattle.std.proofs.Common.{◌≡◌, ℕ, ◌-◌, ◌<◌, zero, suc, List, [], ◌∷◌, length, drop, refl, ap, ◌∙◌, arith}
use Rattle.std.specs.List.{slice_range}
use Rattle.lsp_frame.specs.declared.first.First.TheVariants.{More, Refused, Oversized, Frame}
use Rattle.lsp_frame.specs.First.{first_of}
use Rattle.lsp_frame.specs.Bodies.{place_after, bodies_after, bodies_at, with_body, ends, first_bodies}
use Rattle.lsp_frame.specs.Bodies.Ending.{Torn, Malformed, PastLimit}
use Rattle.lsp_frame.proofs.FirstLemmas.{first_of-frame}

-- the bytes of a frame that was read are passed over
bodies_after-drop : (skip at : ℕ) (bytes : List ℕ) → bodies_after skip at bytes ≡ bodies_at at (drop skip bytes)
bodies_after-drop zero at bytes = refl
bodies_after-drop (suc skip) at [] = refl
bodies_after-drop (suc skip) at (byte ∷ rest) = bodies_after-drop skip at rest

drop_more : (to : ℕ) (byte : ℕ) (rest : List ℕ) → 0 < to → drop (to - 1) rest ≡ drop to (byte ∷ rest)
drop_more zero byte rest some = absurd (omega arith)
drop_more (suc to) byte rest some = let e : suc to - 1 ≡ to = omega arith in ap (λ k. drop k rest) e

-- ---- the bodies by the first frame

pub bodies_at-frame : (at : ℕ) (bytes : List ℕ) (from to : ℕ) → first_of bytes ≡ Frame from to
    → bodies_at at bytes ≡ with_body (slice_range bytes from to) (bodies_at (place_after at to) (drop to bytes))
bodies_at-frame at [] from to e = absurd (let wrong : More ≡ Frame from to = e in cc)
bodies_at-frame at (byte ∷ rest) from to e =
    let stands = first_of-frame (byte ∷ rest) from to e in
    let some : 0 < to = omega (arith, stands.0, stands.1) in
    ap (λ f. first_bodies f at (byte ∷ rest) (λ end. bodies_after (end - 1) (place_after at end) rest)) e ∙ ap (with_body (slice_range (byte ∷ rest) from to)) (bodies_after-drop (to - 1) (place_after at to) rest ∙ ap (bodies_at (place_after at to)) (drop_more to byte rest some))

pub bodies_at-refused : (at : ℕ) (bytes : List ℕ) (size : ℕ) → first_of bytes ≡ Refused size → bodies_at at bytes ≡ ends (Malformed (place_after at size))
bodies_at-refused at [] size e = absurd (let wrong : More ≡ Refused size = e in cc)
bodies_at-refused at (byte ∷ rest) size e = ap (λ f. first_bodies f at (byte ∷ rest) (λ end. bodies_after (end - 1) (place_after at end) rest)) e

pub bodies_at-long : (at : ℕ) (bytes : List ℕ) (n : ℕ) → first_of bytes ≡ Oversized n → bodies_at at bytes ≡ ends (PastLimit n)
bodies_at-long at [] n e = absurd (let wrong : More ≡ Oversized n = e in cc)
bodies_at-long at (byte ∷ rest) n e = ap (λ f. first_bodies f at (byte ∷ rest) (λ end. bodies_after (end - 1) (place_after at end) rest)) e

pub bodies_at-torn : (at : ℕ) (bytes : List ℕ) → first_of bytes ≡ More → 0 < length bytes → bodies_at at bytes ≡ ends (Torn (place_after at (length bytes)))
bodies_at-torn at [] e some = absurd (omega (arith, some))
bodies_at-torn at (byte ∷ rest) e some = ap (λ f. first_bodies f at (byte ∷ rest) (λ end. bodies_after (end - 1) (place_after at end) rest)) e
