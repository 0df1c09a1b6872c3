-- What is shown at a position, as a line tells it.
use Rattle.std.proofs.Common.{◌≡◌, ℕ, ◌+◌, ◌-◌, ◌^◌, ◌<◌, ◌≤◌, ◌%◌, List, [], take, Result, Ok, Err, sym, ap, subst, ◌∙◌, arith}
use Rattle.std.specs.Prelude.{codes}
use Rattle.sl_decode_contexts.specs.Commits.{IsContextAt}
use Rattle.sl_decode_contexts.specs.declared.commits.Commit.{Commit}
use Rattle.sl_decode_meaning.specs.declared.faults.Fault.{Fault}
use Rattle.sl_list_instructions.specs.Instructions.{Listed, Subject, Told, instruction, line_at, mark_of, misaligned, told_at, told_by, undecoded}
use Rattle.sl_list_instructions.specs.Lines.{bytes_at, listed_line}
use Rattle.sl_list_instructions.proofs.ZeroLemmas.{shown_bytes}

module _ (s : Subject) (at : ℕ) (cs : List Commit) where
  -- the same, told by equal values
  moved : (line other : List ℕ) (n m : ℕ) (ds es : List Commit) → line ≡ other → n ≡ m → ds ≡ es → Listed s at cs other m es → Listed s at cs line n ds
  moved line other n m ds es l e d shown =
      subst (λ (text : List ℕ). Listed s at cs text n ds) (sym l) (subst (λ (k : ℕ). Listed s at cs other k ds) (sym e) (subst (λ (fs : List Commit). Listed s at cs other m fs) (sym d) shown))

  module _ (line window : List ℕ) (is : window ≡ bytes_at s.image at 272) where
    line_is : (count : ℕ) (text : List ℕ) → count ≤ 272 → listed_line s.address_bytes (s.base + at) (take count window) text ≡ line_at s at count text
    line_is count text fits = ap (λ (shown : List ℕ). listed_line s.address_bytes (s.base + at) shown text) (ap (take count) is ∙ shown_bytes 272 s.image at count fits)

    -- the instruction's bytes, and its address no multiple of the alignment
    pub shows_beyond : (n m : ℕ) (ds : List Commit) → n ≡ s.alignment → m ≡ s.alignment → n ≤ 272 → 1 ≤ (s.base + at) % m
        → line ≡ listed_line s.address_bytes (s.base + at) (take (n - (s.base + at) % m) window) (codes "?align") → ds ≡ [] → Listed s at cs line (n - (s.base + at) % m) ds
    shows_beyond n m ds e f fits some l d =
        let same : (s.base + at) % m ≡ (s.base + at) % s.alignment = ap (λ (k : ℕ). (s.base + at) % k) f in
        let count : n - (s.base + at) % m ≡ s.alignment - (s.base + at) % m = ap (λ (k : ℕ). k - (s.base + at) % m) e in
        moved line _ (n - (s.base + at) % m) (s.alignment - (s.base + at) % m) ds []
        (l ∙ line_is (n - (s.base + at) % m) (codes "?align") (omega (arith, fits)) ∙ ap (λ (k : ℕ). line_at s at k (codes "?align")) count) count d
        (misaligned (sym same) some)

    module _ (context m : ℕ) (f : m ≡ s.alignment) (aligned : (s.base + at) % m ≤ 0) (most : context < 2 ^ 64) (of : IsContextAt s.start cs (s.base + at) context) where
      multiple : (s.base + at) % s.alignment ≡ 0
      multiple = sym (ap (λ (k : ℕ). (s.base + at) % k) f) ∙ omega (arith, aligned)

      tells_is : (r : Result ℕ Fault) (text : List ℕ) (ds : List Commit) → told_by r text ds ≡ s.tells window (s.base + at) context → told_at s at context ≡ told_by r text ds
      tells_is r text ds told = ap (λ (bytes : List ℕ). s.tells bytes (s.base + at) context) (sym is) ∙ sym told

      pub shows_instruction : (r : Result ℕ Fault) (length count : ℕ) (text : List ℕ) (ds : List Commit) → r ≡ Ok length → told_by r text ds ≡ s.tells window (s.base + at) context
          → count ≡ length → count ≤ 272 → line ≡ listed_line s.address_bytes (s.base + at) (take count window) text → Listed s at cs line count ds
      shows_instruction r length count text ds e told c fits l =
          let this : Told = record { text = text; length = length; commits = ds } in
          let here : told_at s at context ≡ Ok this = tells_is r text ds told ∙ ap (λ (q : Result ℕ Fault). told_by q text ds) e in
          let shown : Listed s at cs (line_at s at length text) length ds = instruction {told = this} multiple most of here in
          moved line _ count length ds ds (l ∙ line_is count text fits ∙ ap (λ (k : ℕ). line_at s at k text) c) c (λ i. ds) shown

      pub shows_mark : (r : Result ℕ Fault) (fault : Fault) (text mark : List ℕ) (n : ℕ) (ds es : List Commit) → r ≡ Err fault → told_by r text ds ≡ s.tells window (s.base + at) context
          → n ≡ s.alignment → n ≤ 272 → mark ≡ mark_of fault → line ≡ listed_line s.address_bytes (s.base + at) (take n window) mark → es ≡ [] → Listed s at cs line n es
      shows_mark r fault text mark n ds es e told a fits k l d =
          let here : told_at s at context ≡ Err fault = tells_is r text ds told ∙ ap (λ (q : Result ℕ Fault). told_by q text ds) e in
          moved line _ n s.alignment es []
          (l ∙ line_is n mark fits ∙ ap (λ (t : List ℕ). line_at s at n t) k ∙ ap (λ (j : ℕ). line_at s at j (mark_of fault)) a) a d (undecoded multiple most of here)
