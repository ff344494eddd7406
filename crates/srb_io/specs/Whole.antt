-- How reading a source to its end stops short.
use Rattle.std.specs.Prelude.{◌≡◌, ℕ, ◌+◌, List}
use Rattle.std.specs.declared.option.Option.{Option}
use Rattle.srb_io.specs.declared.whole.ReadAllEnd.{ReadAllEnd}
use Rattle.srb_io.specs.declared.whole.ReadAllEnd.TheVariants.{TooBig, Fault, NoMemory}
use Rattle.srb_io.specs.Told.{IsPast, ConsumesWithin, ConsumesLength}

-- why reading stopped, what it had read by then, and the count of faults:
-- a source with more bytes than the limit gave one more than the limit, and no count rose;
-- a fault raised the count by one, and the source had given no more than the limit;
-- because memory ran out no count rose, and the source had given at most one byte more than the limit
abbrev pub StopsShort : ReadAllEnd → (most : ℕ) → (old new : Option (List ℕ)) → (before now : ℕ) → Type 0
StopsShort TooBig most old new before now = IsPast most old × ConsumesLength old new (most + 1) × (now ≡ before)
StopsShort Fault most old new before now = ConsumesWithin old new most × (now ≡ before + 1)
StopsShort NoMemory most old new before now = ConsumesWithin old new (most + 1) × (now ≡ before)
