-- law: the lowest bytes of a varnode, as a varnode, have its value, cut to them.
use Rattle.std.specs.Prelude.{◌≡◌, ℕ, ◌%◌, ◌^◌, ◌<◌, ◌≤◌, List}
use Rattle.sl_faithful_code.specs.Faithful.{AreBytes}
use Rattle.sl_faithful_code.specs.Operations.{narrow}
use Rattle.sl_pcode.specs.Machine.{Temporaries, value_of}
use Rattle.sl_pcode.specs.declared.varnode.Varnode.{Varnode}
use Rattle.sl_word.specs.Memories.{Memory}
use Rattle.sl_word.specs.declared.word.Endian.{Endian}
use Rattle.sl_word.specs.declared.word.Size.{Size}

abbrev pub NarrowHasLowestBytes : Type 0
NarrowHasLowestBytes = (endian : Endian) (sizes : List ℕ) (v : Varnode) (n : Size) (m : Memory)
    (u : Temporaries) → n.bytes ≤ v.size.bytes → AreBytes m → ((offset : ℕ) → u offset < 256)
    → value_of endian sizes (narrow endian sizes v n) m u
    ≡ value_of endian sizes v m u % 256 ^ n.bytes
