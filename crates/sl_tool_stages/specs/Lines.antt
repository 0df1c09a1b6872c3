-- meaning: points and lines of files, as they are printed.
use Rattle.std.specs.Prelude.{ℕ, List, ◌++◌, codes}
use Rattle.std.specs.Int.{w64, w128, to_be_bytes}
use Rattle.std.specs.Fmt.{decimal}
use Rattle.hex.specs.Hex.{encode_lower}
use Rattle.sl_cube.specs.declared.Point.{Point}

-- the sixteen bytes of a point, and its context
abbrev pub point_text : Point → List ℕ
point_text p = encode_lower (to_be_bytes w128 p.bytes) ++ (codes " " ++ encode_lower (to_be_bytes w64 p.context))

-- a file, and a line of it
abbrev pub place_text : List ℕ → ℕ → List ℕ
place_text file line = file ++ (codes ":" ++ decimal line)
