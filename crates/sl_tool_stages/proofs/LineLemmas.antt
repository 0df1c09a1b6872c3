-- Lines built piece by piece.
use Rattle.std.proofs.Common.{◌≡◌, ℕ, List, ◌++◌, Result, Ok, Err, append_assoc}
use Rattle.std.specs.Prelude.{OnOk, codes}
use Rattle.std.specs.Int.{w64, w128, to_be_bytes}
use Rattle.hex.specs.Hex.{encode_lower}
use Rattle.sl_cube.specs.declared.Point.{Point}
use Rattle.sl_tool_stages.specs.Lines.{point_text}
use Rattle.sl_tool_stages.specs.Problems.{point_line, apart_lines}
use Rattle.sl_cube_sets.specs.declared.report.Apart.{Apart}
use Rattle.sl_cube_sets.specs.declared.report.Apart.TheVariants.{Two}

-- three pieces after a text, of which the last came with a result
three_pieces : {T E : Type 0} (r : Result T E) (start one two whole a b c : List ℕ)
    → one ≡ start ++ a → two ≡ one ++ b → OnOk r (whole ≡ two ++ c) → OnOk r (whole ≡ start ++ (a ++ (b ++ c)))
three_pieces (Ok x) start one two whole a b c first second third = rw (third, second, first) (simp append_assoc)
three_pieces (Err e) start one two whole a b c first second third = third

pub point_pieces : {T E : Type 0} (r : Result T E) (p : Point) (start one two whole bytes context : List ℕ)
    → bytes ≡ to_be_bytes w128 p.bytes → context ≡ to_be_bytes w64 p.context
    → one ≡ start ++ encode_lower bytes → two ≡ one ++ codes " " → OnOk r (whole ≡ two ++ encode_lower context)
    → OnOk r (whole ≡ start ++ point_text p)
point_pieces r p start one two whole bytes context bytes_are context_is first second third =
    rw (← bytes_are, ← context_is) (three_pieces r start one two whole (encode_lower bytes) (codes " ") (encode_lower context) first second third)

pub two_points : {T E : Type 0} (r : Result T E) (told : Apart) (p q : Point) (start one whole : List ℕ)
    → told ≡ Two p q → one ≡ start ++ point_line (codes "first") p → OnOk r (whole ≡ one ++ point_line (codes "second") q)
    → OnOk r (whole ≡ start ++ apart_lines told)
two_points (Ok x) told p q start one whole are first second = rw (second, first, are) (append_assoc start (point_line (codes "first") p) (point_line (codes "second") q))
two_points (Err e) told p q start one whole are first second = second
