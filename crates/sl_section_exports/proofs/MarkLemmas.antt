-- Marks on numbers.
use Rattle.std.proofs.Common.{◌≡◌, ℕ, zero, suc, ◌+◌, ◌<◌, ◌≤◌, ◌==◌, ◌||◌, inl, inr, Bool, true, false, List, [], ◌∷◌, ◌++◌, length, get_or, set, take, refl, sym, ap, ◌∙◌, arith}
use Rattle.std.specs.List.{list_any}
use Rattle.std.proofs.lemmas.Bool.{cases_eq}
use Rattle.std.proofs.lemmas.List.{get_or-set_same, get_or-set_other}
use Rattle.std.proofs.lemmas.List.Folds.{list_any_more}
use Rattle.sl_section_exports.specs.Spreading.{is_one_of}
use Rattle.sl_section_exports.specs.Spreads.{Marks, mark_of}

or_false : (b : Bool) → (b || false) ≡ b
or_false true = refl
or_false false = refl

or_true : (b : Bool) → (b || true) ≡ true
or_true true = refl
or_true false = refl

is_it : (v : ℕ) → (v == v) ≡ true
is_it v = grind arith

is_other : (v w : ℕ) → (w ≡ v → ⊥) → (v == w) ≡ false
is_other v w d = grind arith

pub more_room : (marks : List Bool) (w : ℕ) → mark_of (marks ++ false ∷ []) w ≡ mark_of marks w
more_room [] zero = refl
more_room [] (suc w) = refl
more_room (m ∷ marks) zero = refl
more_room (m ∷ marks) (suc w) = more_room marks w

pub set_mark : (marks : List Bool) (v : ℕ) → v < length marks → Marks marks v (set marks v true)
set_mark marks v below w = elim (cases_eq w v) [
  | inl e ↦ ap (mark_of (set marks v true)) e ∙ get_or-set_same marks v true false below ∙ sym (ap (λ b. mark_of marks w || b) (ap (λ x. v == x) e ∙ is_it v) ∙ or_true (mark_of marks w))
  | inr d ↦ get_or-set_other marks v w true false d ∙ sym (ap (λ b. mark_of marks w || b) (is_other v w d) ∙ or_false (mark_of marks w))
]

pub push_mark : (marks : List Bool) (v : ℕ) → v ≡ length marks → Marks marks v (marks ++ true ∷ [])
push_mark [] v e zero = let z : (v == 0) ≡ true = grind arith in sym z
push_mark [] v e (suc w) = let z : (v == suc w) ≡ false = grind arith in sym z
push_mark (m ∷ marks) zero e w = absurd (omega arith)
push_mark (m ∷ marks) (suc v) e zero = let z : (suc v == 0) ≡ false = grind arith in sym (ap (λ b. m || b) z ∙ or_false m)
push_mark (m ∷ marks) (suc v) e (suc w) = push_mark marks v (omega arith) w ∙ ap (λ b. mark_of marks w || b) (let z : (v == w) ≡ (suc v == suc w) = grind arith in z)

-- ---- marks on some numbers

abbrev pub AreMarked : List Bool → List ℕ → Type 0
AreMarked marks ns = (v : ℕ) → mark_of marks v ≡ is_one_of ns v

pub marks_more : (old new : List Bool) (ns : List ℕ) (i : ℕ) → i < length ns → Marks old (get_or ns i 0) new → AreMarked old (take i ns) → AreMarked new (take (i + 1) ns)
marks_more old new ns i below m are v = m v ∙ ap (λ b. b || (get_or ns i 0 == v)) (are v) ∙ sym (list_any_more (λ n. n == v) ns i 0 below)
