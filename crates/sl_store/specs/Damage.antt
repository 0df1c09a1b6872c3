-- meaning: why bytes with the mark of a packed file are none.
use Rattle.std.specs.Prelude.{ℕ, List}
use Rattle.sl_store_format.specs.Packed.{IsPackable, mark, pack}
use Rattle.sl_store_bytes.specs.Verdicts.{AreCut, AreDamagedAt, HasMark}

-- The mark is at the front, and the bytes begin a packed file and aren't a whole one.
abbrev pub IsCut : List ℕ → Type 0
IsCut bytes = HasMark mark bytes × AreCut pack IsPackable bytes

-- The mark is at the front, and the byte at the place is the first after which no packed file goes on.
abbrev pub IsDamagedAt : List ℕ → ℕ → Type 0
IsDamagedAt bytes at = HasMark mark bytes × AreDamagedAt pack IsPackable bytes at
