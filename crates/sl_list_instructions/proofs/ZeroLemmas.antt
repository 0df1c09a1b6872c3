-- The bytes of an image with zeros after them.
use Rattle.std.proofs.Common.{◌≡◌, ℕ, ◌+◌, ◌-◌, ◌≤◌, List, ◌++◌, length, take, drop, replicate, min, append-nil, length-drop, arith, sym, ◌∙◌, ap, inl, inr, subst}
use Rattle.std.proofs.Math.Seq.{take-append-add}
use Rattle.std.proofs.lemmas.Bool.{cases_lt}
use Rattle.std.proofs.lemmas.List.{take-append-le, take-replicate, drop-replicate, take-take, take_all}
use Rattle.sl_list_instructions.specs.Lines.{bytes_at}

past_end : (count most : ℕ) (xs : List ℕ) (more : ℕ) → length xs + more ≡ count → more ≤ most
    → take count (xs ++ replicate most 0) ≡ xs ++ replicate more 0
past_end count most xs more is fits =
    ap (λ (n : ℕ). take n (xs ++ replicate most 0)) (sym is) ∙ take-append-add xs (replicate most 0) more
    ∙ ap (λ (ys : List ℕ). xs ++ ys) (take-replicate more most 0 fits)

-- no more zeros are needed than bytes are taken
enough_zeros : (count most : ℕ) (xs : List ℕ) → count ≤ most → take count (xs ++ replicate most 0) ≡ take count (xs ++ replicate count 0)
enough_zeros count most xs fits = elim (cases_lt (length xs) count) [
  | inl short ↦
      let is : length xs + (count - length xs) ≡ count = omega arith in
      past_end count most xs (count - length xs) is (omega arith) ∙ sym (past_end count count xs (count - length xs) is (omega arith))
  | inr long ↦ take-append-le count xs (replicate most 0) long ∙ sym (take-append-le count xs (replicate count 0) long)
]

-- zeros of which a front is written over
front_written : (n : ℕ) (xs : List ℕ) (count : ℕ) → count ≡ min (length xs) n
    → take count xs ++ drop count (replicate n 0) ≡ take n (xs ++ replicate n 0)
front_written n xs count is = elim (cases_lt (length xs) n) [
  | inl short ↦
      let all : take count xs ≡ xs = take_all count xs (omega (arith, is)) in
      let more : length xs + (n - count) ≡ n = omega (arith, is) in
      rw (all, drop-replicate) (sym (past_end n n xs (n - count) more (omega arith)))
  | inr long ↦
      let whole : count ≡ n = omega (arith, is) in
      let none : n - n ≡ 0 = omega arith in
      rw (whole, drop-replicate, none) (append-nil (take n xs) ∙ sym (take-append-le n xs (replicate n 0) long))
]

pub window_is : (n : ℕ) (image : List ℕ) (at count : ℕ) (copied : List ℕ) → count ≡ min (length (take (length image - at) (drop at image))) n
    → copied ≡ take count (take (length image - at) (drop at image)) → copied ++ drop count (replicate n 0) ≡ bytes_at image at n
window_is n image at count copied is are =
    let rest : take (length image - at) (drop at image) ≡ drop at image = take_all _ _ (omega (arith, length-drop at image)) in
    rw are (subst (λ (xs : List ℕ). take count xs ++ drop count (replicate n 0) ≡ bytes_at image at n) (sym rest)
    (front_written n (drop at image) count (is ∙ ap (λ (xs : List ℕ). min (length xs) n) rest)))

pub shown_bytes : (n : ℕ) (image : List ℕ) (at count : ℕ) → count ≤ n → take count (bytes_at image at n) ≡ bytes_at image at count
shown_bytes n image at count fits =
    take-take count n (drop at image ++ replicate n 0) fits ∙ enough_zeros count n (drop at image) fits

pub whole_window : (n : ℕ) (image : List ℕ) (at : ℕ) → n ≤ length (take (length image - at) (drop at image))
    → take n (take (length image - at) (drop at image)) ≡ bytes_at image at n
whole_window n image at long =
    let rest : take (length image - at) (drop at image) ≡ drop at image = take_all _ _ (omega (arith, length-drop at image)) in
    ap (λ (xs : List ℕ). take n xs) rest
    ∙ sym (take-append-le n (drop at image) (replicate n 0) (subst (λ (xs : List ℕ). n ≤ length xs) rest long))
