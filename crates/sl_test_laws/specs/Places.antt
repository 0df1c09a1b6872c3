-- law: the law of the places of an expanded text.
use Rattle.std.specs.Prelude.{◌≡◌, ◌==◌, ℕ, ◌+◌, ◌≤◌, List, ◌++◌, length, count_by, Some, slice_get}
use Rattle.sl_preproc.specs.Expanded.{Text, place_at}
use Rattle.sl_preproc.specs.declared.places.Place.{Place}

-- how many lines end among these bytes: a line feed is 10
abbrev pub ended : List ℕ → ℕ
ended bytes = count_by (λ b. b == 10) bytes

-- Each byte of a line, and what stands behind its last one, has the place of that line: the one with as many places in
-- front of it as lines end before.
abbrev pub BytesHaveTheirLinesPlace : Type 0
BytesHaveTheirLinesPlace = (t : Text) (before line after : List ℕ) (i : ℕ) (place : Place)
    → t.bytes ≡ before ++ (line ++ after) → ended line ≡ 0 → i ≤ length line
    → slice_get t.places (ended before) ≡ Some place
    → place_at t (length before + i) ≡ place
