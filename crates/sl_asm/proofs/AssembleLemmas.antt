-- What the nodes at the front of an encoding say of it, and the lengths in turn.
use Rattle.std.proofs.Common.{◌≡◌, ℕ, zero, suc, ◌+◌, ◌-◌, ◌<◌, ◌≤◌, List, [], ◌∷◌, ◌++◌, length, get_or, take, replicate, below_more, Option, Some, None, true, false, inl, inr, refl, arith, sym, ap, append_assoc, subst, ◌∙◌}
use Rattle.std.specs.Prelude.{MatchOption}
use Rattle.std.specs.Option.{is_some}
use Rattle.std.proofs.lemmas.Bool.{cases_lt}
use Rattle.std.proofs.lemmas.List.{length-append, length-replicate}
use Rattle.std.proofs.lemmas.List.Elements.{All-append, All-replicate}
use Rattle.sl_asm.specs.Assembling.{HasNone, HasNoneIf, HasNoneIn, HasNoneOf, KeepsPassing, Passes, PassesAs, PassesShortest}
use Rattle.sl_asm_known.specs.declared.Bit.{Bit}
use Rattle.sl_decode_contexts.proofs.SeenLemmas.{bit_cases}
use Rattle.sl_asm.specs.declared.wanted.Wanted.{Wanted}
use Rattle.sl_asm_bounds.specs.Bounds.{Fits, Holds, IsWithin, unbounded}
use Rattle.sl_asm_bounds.specs.declared.bounds.Bounds.{Bounds}
use Rattle.sl_asm_encodings.proofs.ReadingLemmas.{decode_is_read_back}
use Rattle.sl_asm_encodings.specs.Readings.{Reads, node}
use Rattle.sl_asm_fit.specs.Regions.{IsOf, IsOpen}
use Rattle.sl_asm_fit.specs.Windows.{window, with_zeros}
use Rattle.sl_asm_fit.specs.declared.Cell.{Cell}
use Rattle.sl_asm_narrow.specs.Candidates.{Candidate, Says}
use Rattle.sl_asm_narrow.specs.Nodes.{BoundsTable}
use Rattle.sl_asm_narrow.specs.Readers.{tables_of, written_of}
use Rattle.sl_asm_narrow.specs.declared.reader.Setting.{Setting}
use Rattle.sl_decode_meaning.specs.Actions.{address_in}
use Rattle.sl_decode_meaning.specs.Laws.{input}
use Rattle.sl_decode_meaning.specs.Meanings.{says}
use Rattle.sl_list_instructions.specs.Lines.{bytes_at}

-- ---- zeros after a list are those of the window

some_zeros : (a n m : ℕ) → n ≤ m → take n (replicate a 0 ++ replicate m 0) ≡ replicate {A = ℕ} n 0
some_zeros a zero m few = refl
some_zeros zero (suc n) zero few = absurd (omega (arith, few))
some_zeros zero (suc n) (suc m) few = ap (λ (l : List ℕ). 0 ∷ l) (some_zeros zero n m (omega (arith, few)))
some_zeros (suc a) (suc n) m few = ap (λ (l : List ℕ). 0 ∷ l) (some_zeros a n m (omega (arith, few)))

more_zeros : (xs : List ℕ) (a n m : ℕ) → n ≤ m → take n (xs ++ (replicate a 0 ++ replicate m 0)) ≡ take n (xs ++ replicate m 0)
more_zeros [] a n m few = some_zeros a n m few ∙ sym (some_zeros zero n m few)
more_zeros (x ∷ xs) a zero m few = refl
more_zeros (x ∷ xs) a (suc n) m few = ap (λ (l : List ℕ). x ∷ l) (more_zeros xs a n m (omega (arith, few)))

filled : (xs : List ℕ) (a : ℕ) → with_zeros (xs ++ replicate a 0) ≡ with_zeros xs
filled xs a = ap (λ (l : List ℕ). take window l) (append_assoc xs (replicate a 0) (replicate window 0)) ∙ more_zeros xs a window window (omega arith)

-- ---- encodings as candidates

module _ (w : Wanted) (s : Setting) (start_is : s.start ≡ w.address) (bytes : List ℕ) (pass : Passes w bytes) (known : Fits s.next (address_in (tables_of w.reader.now) (w.address + length bytes))) where
  -- an encoding, in a list that is the same with zeros after it, is within what is known of its first node
  pub within_bounds : (region : List Cell) (found : Option Bounds) (xs : List ℕ) → with_zeros xs ≡ with_zeros bytes → IsOf region xs
      → BoundsTable w.reader.now s region 0 (record { at = 0; context = Some w.context; text = Some w.text }) found
      → (after : ℕ) × Holds found xs (length bytes) after
  within_bounds region found xs same inside bounds =
      let e = pass.encoding in
      let t = tables_of w.reader.now in
      let cs = written_of w.reader.now in
      let read = decode_is_read_back t cs pass.choose (bytes_at bytes 0 window) w.address w.context e.told e.is in
      let next = address_in t (w.address + length bytes) in
      let c : Candidate w.reader.now s = record { bytes = xs; choose = pass.choose; is_choice = pass.is_choice; next = next; known = known } in
      let at_next : Reads t cs (input pass.choose (says t cs) (with_zeros bytes) w.address) next (node 0 0 w.context (length bytes) w.text.now read.0) =
      subst (λ (text : List ℕ). Reads t cs (input pass.choose (says t cs) (with_zeros bytes) w.address) next (node 0 0 w.context (length bytes) text read.0)) e.shows
      (subst (λ (n : ℕ). Reads t cs (input pass.choose (says t cs) (with_zeros bytes) w.address) (address_in t (w.address + n)) (node 0 0 w.context n e.told.text read.0)) e.long read.1) in
      let at_start = subst (λ (a : ℕ). Reads t cs (input pass.choose (says t cs) (with_zeros bytes) a) next (node 0 0 w.context (length bytes) w.text.now read.0)) (sym start_is) at_next in
      let in_list : Says c (node 0 0 w.context (length bytes) w.text.now read.0) =
      subst (λ (l : List ℕ). Reads t cs (input pass.choose (says t cs) l s.start) next (node 0 0 w.context (length bytes) w.text.now read.0)) (sym same) at_start in
      (read.0, bounds c inside w.context (length bytes) w.text.now read.0 refl refl in_list)

-- the length of a node is among those of its bounds
pub among : (bytes : List ℕ) (b : Bounds) (xs : List ℕ) (after : ℕ) → length bytes ≤ 255 → IsWithin b xs (length bytes) after
    → (b.least ≤ length bytes) × (length bytes ≤ b.most)
among bytes b xs after most within = (
  within.least,
  elim (cases_lt b.most unbounded) [
    | inl below ↦ within.most below
    | inr above ↦ omega (arith, most, above)
  ],
)

-- an encoding with zeros after it is a list of the greatest length
pub fill : (w : Wanted) (bytes : List ℕ) → Passes w bytes → (region : List Cell) → IsOpen 255 region
    → (xs : List ℕ) × (with_zeros xs ≡ with_zeros bytes) × IsOf region xs
fill w bytes pass region all_open =
    let most = pass.encoding.most in
    let rest = 255 - length bytes in
    let xs = bytes ++ replicate rest 0 in
    let long : length xs ≡ 255 = omega (arith, most, length-append bytes (replicate rest 0), length-replicate {A = ℕ} rest 0) in
    (xs, filled bytes rest, all_open.all xs long (All-append (λ (b : ℕ). b < 256) bytes (replicate rest 0) pass.encoding.are_bytes (All-replicate (λ (b : ℕ). b < 256) rest 0 (omega arith))))

-- ---- lengths in turn

-- no list of up to n bytes is an encoding
abbrev pub NoneUpTo : Wanted → ℕ → Type 0
NoneUpTo w n = (k : ℕ) → k < n → HasNoneOf w (k + 1)

pub none_yet : (w : Wanted) → NoneUpTo w 0
none_yet w = λ k below. absurd (omega (arith, below))

pub none_longer : (w : Wanted) (n : ℕ) → HasNoneOf w (n + 1) → NoneUpTo w n → NoneUpTo w (n + 1)
none_longer w n none f = below_more (λ k. HasNoneOf w (k + 1)) n f none

pub none_at_all : (w : Wanted) (n : ℕ) → 255 ≤ n → NoneUpTo w n → HasNone w
none_at_all w n whole f = λ bytes pass.
    let some = pass.encoding.some in
    let most = pass.encoding.most in
    f (length bytes - 1) (omega (arith, some, most, whole)) bytes (omega (arith, some)) pass

-- the first length that an encoding has is the least
pub first_is_shortest : (w : Wanted) (n : ℕ) → NoneUpTo w n → (bytes : List ℕ) → PassesAs w (n + 1) bytes → PassesShortest w bytes
first_is_shortest w n none bytes found = record {
  encodes = found.passes;
  shortest = λ other pass. elim (cases_lt (length other) (n + 1)) [
    | inl less ↦
        let some = pass.encoding.some in
        absurd (none (length other - 1) (omega (arith, some, less)) other (omega (arith, some)) pass)
    | inr most ↦ omega (arith, most, found.long)
  ];
}

-- ---- answers

pub found_some : {X : Type 0} (items : X → List ℕ) (found : Option X) (P Q : Type 0) (R S : List ℕ → Type 0) → true ≡ is_some found
    → ((xs : List ℕ) → R xs → S xs) → MatchOption found P (λ x. R (items x)) → MatchOption found Q (λ x. S (items x))
found_some items None P Q R S some so h = absurd cc
found_some items (Some x) P Q R S some so h = so (items x) h

pub found_none : {X : Type 0} (items : X → List ℕ) (found : Option X) (P : Type 0) (R : List ℕ → Type 0) → false ≡ is_some found
    → MatchOption found P (λ x. R (items x)) → P
found_none items None P R none h = h
found_none items (Some x) P R none h = absurd cc

-- ---- halves

-- where neither half of a narrowed region has an encoding, the region has none
pub either_half : {X : Type 0} (items : X → List ℕ) (found : Option X) (w : Wanted) (region cells : List Cell) (b : Bit) → KeepsPassing w region cells → HasNoneIf w cells b 0
    → MatchOption found (HasNoneIf w cells b 1) (λ x. PassesAs w (length cells) (items x)) → MatchOption found (HasNoneIn w region) (λ x. PassesAs w (length region) (items x))
either_half items None w region cells b keeps clear set = λ bytes inside pass.
    let there = keeps.stays bytes inside pass in
    elim (bit_cases (get_or bytes b.index 0) b.place) [
      | inl zero_is ↦ clear bytes there zero_is pass
      | inr one_is ↦ set bytes there one_is pass
    ]
either_half items (Some x) w region cells b keeps clear set = record { passes = set.passes; long = set.long ∙ keeps.long }
