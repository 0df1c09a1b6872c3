-- view: what a specification with an image beside it has.
use Rattle.std.specs.Prelude.{◌+◌, ◌^◌, ◌≤◌, length}
use Rattle.sl_bind_compile.specs.Compiled.{IsCompiled}
use Rattle.sl_decode_meaning.specs.Actions.{address_bytes}
use Rattle.sl_step_run.specs.Running.{HasRoom}
use Rattle.sl_tool_stages.specs.declared.loaded.Loaded.{Loaded}

-- The specification was compiled, and the image fits its default space.
pub record IsLoaded (l : Loaded) : Type 0 where
  pub compiled : IsCompiled l.compiled.specification
  pub room : HasRoom (256 ^ address_bytes l.compiled.specification.bound.tables) l.image.base (length l.image.bytes)
  pub fits : l.image.base + length l.image.bytes ≤ 2 ^ 64
