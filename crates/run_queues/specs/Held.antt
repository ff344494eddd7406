-- What an answer tells of the queue at one step of the call.
use Rattle.std.specs.Prelude.{◌≡◌, ℕ, ◌+◌, ◌^◌, List, length}
use mathlib.Core.Option.{some}
use lib.ListN.{get_elem?}
use Rattle.run_queues.specs.declared.item.Item.{Item}
use Rattle.run_queues.specs.declared.entry.Shown.{Shown}
use Rattle.run_queues.specs.Handing.{working, Keeps}
use Rattle.run_queues.specs.Showings.{Showing}

-- at one step the queue held n items, and the rule of the queue held of these items and of all passes, of which one showed this
pub record HeldAtAStep {W : Type 0} (right : W → Item → Type 0) (n : ℕ) (pass : Showing W) : Type 0 where
  pub view : W
  pub content : List Item
  pub views : List (Shown W)
  pub port : ℕ
  pub holds : length content ≡ n
  pub kept : Keeps right view content views
  pub shows : get_elem? views port ≡ some (working pass.view pass.gave pass.got pass.left)

-- what the pass gave and got, and may still put and take, makes 2^63: no other pass shows an item or may still put or take
abbrev pub IsWhole : {W : Type 0} → Showing W → Type 0
IsWhole pass = length pass.gave + length pass.got + pass.left ≡ 2 ^ 63
