-- Spans of a buffer that grows.
use Rattle.std.proofs.Common.{◌≡◌, ℕ, ◌-◌, ◌≤◌, ◌⊎◌, cond, List, [], ◌++◌, length, take, drop, get_or, slice_range, Option, Some, inl, inr, sym, ap, ◌∙◌, arith, length-append, length-drop, take_all}
use Rattle.std.proofs.Math.Seq.{drop-append_seam}
use Rattle.std.proofs.lemmas.List.{drop-append-le, take-append-le}
use Rattle.sl_show.specs.Spans.{AreTexts, AreWithin, span_of}
use Rattle.sl_show.specs.declared.spans.Span.{Span}
use Rattle.sl_spec.specs.Numbers.{is_number}

-- ---- a buffer that grows

-- a span stays as it is
span_stays : (old more : List ℕ) (start end : ℕ) → start ≤ end → end ≤ length old → slice_range (old ++ more) start end ≡ slice_range old start end
span_stays old more start end ordered within =
    ap (take (end - start)) (drop-append-le start old more (omega (arith, ordered, within)))
    ∙ take-append-le (end - start) (drop start old) more (omega (arith, length-drop start old, ordered, within))

pub still_within : (spans : List (ℕ × Span)) (old new : List ℕ) → length old ≤ length new → AreWithin spans old → AreWithin spans new
still_within spans old new longer within n s is = let here = within n s is in (here.0, omega (arith, here.1, longer))

pub still_texts : (operands : List (List ℕ)) (spans : List (ℕ × Span)) (old new more : List ℕ) → new ≡ old ++ more → AreWithin spans old → AreTexts operands spans old → AreTexts operands spans new
still_texts operands spans old new more grown within texts n s is =
    let here = within n s is in
    ap (λ buffer. slice_range buffer s.start s.end) grown ∙ span_stays old more s.start s.end here.0 here.1 ∙ texts n s is

-- what was appended is behind the old buffer
span_behind : (old new more : List ℕ) → new ≡ old ++ more → slice_range new (length old) (length new) ≡ more
span_behind old new more grown =
    ap (λ buffer. slice_range buffer (length old) (length new)) grown
    ∙ ap (take (length new - length old)) (drop-append_seam old more)
    ∙ take_all (length new - length old) more (let k = ap length grown in omega (arith, k, length-append old more))

-- ---- a span that is put

-- what is found then is the span that was put, or was there before
put_or_old : (k n : ℕ) (v w : Span) (old : Option Span) → cond (is_number k n) (Some v) old ≡ Some w → ((k ≡ n) × (v ≡ w)) ⊎ (old ≡ Some w)
put_or_old k n v w old is = grind arith

pub put_text : (operands : List (List ℕ)) (old new : List (ℕ × Span)) (before buffer : List ℕ) (k : ℕ) (v : Span) → ((n : ℕ) → span_of new n ≡ cond (is_number k n) (Some v) (span_of old n))
    → v.start ≡ length before → v.end ≡ length buffer → buffer ≡ before ++ get_or operands k [] → AreWithin old before → AreTexts operands old before → AreTexts operands new buffer
put_text operands old new before buffer k v put from to grown within texts n w found = elim (put_or_old k n v w (span_of old n) (sym (put n) ∙ found)) [
  | inl same ↦ ap (λ (s : Span). slice_range buffer s.start s.end) (sym same.1) ∙ ap (λ i. slice_range buffer i v.end) from ∙ ap (slice_range buffer (length before)) to
      ∙ span_behind before buffer (get_or operands k []) grown ∙ ap (λ m. get_or operands m []) same.0
  | inr there ↦ still_texts operands old before buffer (get_or operands k []) grown within texts n w there
]

-- ---- no spans

pub none_within : (spans : List (ℕ × Span)) (buffer : List ℕ) → spans ≡ [] → AreWithin spans buffer
none_within spans buffer none n s is = absurd (cc (none, is))

pub none_texts : (operands : List (List ℕ)) (spans : List (ℕ × Span)) (buffer : List ℕ) → spans ≡ [] → AreTexts operands spans buffer
none_texts operands spans buffer none n s is = absurd (cc (none, is))
