-- step: where the texts of table operands are in a buffer.
use Rattle.std.specs.Prelude.{◌≡◌, ℕ, ◌≤◌, List, [], Option, Some}
use Rattle.std.specs.Prelude.{get_or, length, slice_range}
use Rattle.std.specs.Map.{lookup}
use Rattle.sl_show.specs.declared.spans.Span.{Span}
use Rattle.sl_spec.specs.Numbers.{is_number}

-- where the text of the operand of a number is
abbrev pub span_of : List (ℕ × Span) → ℕ → Option Span
span_of spans n = lookup (is_number n) spans

-- All spans are within the buffer.
abbrev pub AreWithin : List (ℕ × Span) → List ℕ → Type 0
AreWithin spans buffer = (n : ℕ) (s : Span) → span_of spans n ≡ Some s
    → (s.start ≤ s.end) × (s.end ≤ length buffer)

-- Each span of the buffer has the text of its operand.
abbrev pub AreTexts : List (List ℕ) → List (ℕ × Span) → List ℕ → Type 0
AreTexts operands spans buffer = (n : ℕ) (s : Span) → span_of spans n ≡ Some s
    → slice_range buffer s.start s.end ≡ get_or operands n []
