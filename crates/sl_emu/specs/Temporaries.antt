-- view: the temporary bytes of a run, by offset.
use Rattle.std.specs.Prelude.{ℕ}
use Rattle.sl_word.specs.declared.word.Endian.{Endian}
use Rattle.sl_emu.specs.Blocks.{bytes_in}
use Rattle.sl_emu.specs.declared.temporaries.Temporaries.{Temporaries}

unfoldable pub temporary_bytes : Temporaries → ℕ → ℕ
temporary_bytes t = bytes_in t.blocks.items

unfoldable pub order_of : Temporaries → Endian
order_of t = t.endian
