-- The first line of a text.
use Rattle.std.proofs.Common.{◌≡◌, ℕ, ◌+◌, ◌<◌, ◌-◌, suc, Bool, true, false, List, [], ◌∷◌, take, drop, length, arith, refl, sym, ◌∙◌, ◌==◌, ap₂}
use Rattle.std.specs.Prelude.{if◌then◌else◌, not}
use Rattle.std.specs.List.{prefix_len}
use Rattle.std.proofs.lemmas.Grind.{common_steps}
use Rattle.sl_preproc_directives.specs.Bytes.{is_on_line}
use Rattle.sl_preproc_directives.specs.Parts.{run, behind}
use Rattle.sl_preproc_directives.specs.Lines.{lines, on_first_line}

one_more : (n : ℕ) → 1 + n ≡ suc n
one_more n = omega arith

-- what is said of the first line, where the test of its first byte gives same
abbrev Cut : ℕ → List ℕ → Bool → Type 0
Cut b s same =
    let n = if not same then 1 + prefix_len is_on_line s else 0 in
    (if same then [] ∷ lines s else on_first_line b (lines s)) ≡ take n (b ∷ s) ∷ lines (drop 1 (drop n (b ∷ s)))

cut_at : (b : ℕ) (s : List ℕ) (same : Bool) → (0 < length s → lines s ≡ run is_on_line s ∷ lines (drop 1 (behind is_on_line s))) → Cut b s same
cut_at b s true h = refl
cut_at b [] false h = refl
cut_at b (c ∷ s) false h = rw (h (omega arith)) (simp one_more)

cut : (s : List ℕ) → 0 < length s → lines s ≡ run is_on_line s ∷ lines (drop 1 (behind is_on_line s))
cut [] h = absurd (omega arith)
cut (b ∷ s) h = cut_at b s (b == 10) (cut s)

pub line_cut : (s line rest : List ℕ) → 0 < length s → line ≡ run is_on_line s → rest ≡ behind is_on_line s → lines s ≡ line ∷ lines (drop 1 rest)
line_cut s line rest some e f = cut s some ∙ ap₂ (λ l r. l ∷ lines (drop 1 r)) (sym e) (sym f)

pub no_more : (rest : List ℕ) → length rest < 1 → drop 1 rest ≡ rest
no_more [] h = refl
no_more (b ∷ s) h = absurd (omega arith)

pub all_taken : (rest : List ℕ) → take (length rest - 1) (drop 1 rest) ≡ drop 1 rest
all_taken rest = grind (arith, common_steps)

pub some_bytes : (s : List ℕ) (empty : Bool) → empty ≡ (length s == 0) → empty ≡ false → 0 < length s
some_bytes [] empty e f = absurd (cc)
some_bytes (b ∷ s) empty e f = omega arith
