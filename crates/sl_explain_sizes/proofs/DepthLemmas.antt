-- An expression that has tokens, with one operator or bracket more; and calls of macros, with one level more.
use Rattle.std.proofs.Common.{◌≡◌, ℕ, zero, suc, ◌-◌, List, [], ◌∷◌, take, length, ap, arith, ◌∙◌, refl}
use Rattle.std.proofs.lemmas.List.{length-map}
use Rattle.std.specs.Prelude.{Option, Some, None}
use Rattle.sl_explain_heads.specs.Words.{text_at}
use Rattle.sl_explain_names.specs.declared.names.Mention.{Mention}
use Rattle.sl_explain_sizes.specs.Faults.{fault_by, fault_in, operator_fault, or_else, single_fault}
use Rattle.sl_explain_sizes.specs.Operators.{class_of, main_of}
use Rattle.sl_explain_sizes.specs.Sections.{call_in, called_by, section_by, too_deep}
use Rattle.sl_explain_sizes.specs.Slices.{beyond}
use Rattle.sl_explain_sizes.specs.Values.{combined, inside, single, value_by, value_in, value_of, value_with}
use Rattle.sl_explain_sizes.specs.Widths.{Scope}
use Rattle.sl_explain_sizes.specs.declared.faults.Wanted.{Wanted}
use Rattle.sl_explain_sizes.specs.declared.widths.Width.TheVariants.{Untold}
use Rattle.sl_lex.specs.Reading.{Token}
use Rattle.sl_lex.specs.Views.{view, views}
use Rattle.sl_lex.specs.declared.Tok.{Tok}

some_tokens : (ts : List Tok) → (length ts ≡ 0 → ⊥) → length (views ts) ≡ 0 → ⊥
some_tokens ts some none = some (omega (arith, length-map ts view, none))

-- ---- values

pub value_out : (depth : ℕ) (s : Scope) (ts : List Token) → depth ≡ 0 → value_in depth s ts ≡ value_with ts Untold
unfolding value_in
value_out depth s ts h = rw h refl

empty_value : (depth : ℕ) (s : Scope) (ts : List Token) → length ts ≡ 0 → value_in depth s ts ≡ value_with ts Untold
unfolding value_in
empty_value zero s ts h = refl
empty_value (suc depth) s [] h = refl
empty_value (suc depth) s (t ∷ ts) h = absurd (omega (arith, h))

pub value_none : (depth : ℕ) (s : Scope) (ts : List Tok) → length ts ≡ 0 → value_in depth s (views ts) ≡ value_with (views ts) Untold
value_none depth s ts h = empty_value depth s (views ts) (length-map ts view ∙ h)

value_more : (depth : ℕ) (s : Scope) (ts : List Token) → (length ts ≡ 0 → ⊥)
    → value_in (suc depth) s ts ≡ value_by (value_in depth s) s ts (main_of ts)
unfolding value_in
value_more depth s [] some = absurd (some refl)
value_more depth s (t ∷ ts) some = refl

value_step : (depth : ℕ) (s : Scope) (ts : List Tok) → (depth ≡ 0 → ⊥) → (length ts ≡ 0 → ⊥)
    → value_in depth s (views ts) ≡ value_by (value_in (depth - 1) s) s (views ts) (main_of (views ts))
value_step depth s ts deep some =
    let k : depth ≡ suc (depth - 1) = omega (arith, deep) in
    ap (λ (n : ℕ). value_in n s (views ts)) k ∙ value_more (depth - 1) s (views ts) (some_tokens ts some)

pub value_two : (depth : ℕ) (s : Scope) (ts : List Tok) (m : ℕ) → (depth ≡ 0 → ⊥) → (length ts ≡ 0 → ⊥) → main_of (views ts) ≡ Some m
    → value_in depth s (views ts)
    ≡ combined (class_of (text_at (views ts) m)) (value_in (depth - 1) s (take m (views ts))) (value_in (depth - 1) s (beyond m (views ts)))
value_two depth s ts m deep some h =
    value_step depth s ts deep some ∙ ap (λ (o : Option ℕ). value_by (value_in (depth - 1) s) s (views ts) o) h

pub value_one : (depth : ℕ) (s : Scope) (ts : List Tok) → (depth ≡ 0 → ⊥) → (length ts ≡ 0 → ⊥) → main_of (views ts) ≡ None
    → value_in depth s (views ts) ≡ single s (views ts) (value_in (depth - 1) s (inside (views ts)))
value_one depth s ts deep some h =
    value_step depth s ts deep some ∙ ap (λ (o : Option ℕ). value_by (value_in (depth - 1) s) s (views ts) o) h

-- ---- faults

pub fault_out : (depth : ℕ) (w : Wanted) (s : Scope) (ts : List Token) → depth ≡ 0 → fault_in depth w s ts ≡ None
unfolding fault_in
fault_out depth w s ts h = rw h refl

no_fault : (depth : ℕ) (w : Wanted) (s : Scope) (ts : List Token) → length ts ≡ 0 → fault_in depth w s ts ≡ None
unfolding fault_in
no_fault zero w s ts h = refl
no_fault (suc depth) w s [] h = refl
no_fault (suc depth) w s (t ∷ ts) h = absurd (omega (arith, h))

pub fault_none : (depth : ℕ) (w : Wanted) (s : Scope) (ts : List Tok) → length ts ≡ 0 → fault_in depth w s (views ts) ≡ None
fault_none depth w s ts h = no_fault depth w s (views ts) (length-map ts view ∙ h)

fault_more : (depth : ℕ) (w : Wanted) (s : Scope) (ts : List Token) → (length ts ≡ 0 → ⊥)
    → fault_in (suc depth) w s ts ≡ fault_by (fault_in depth w s) w s ts (main_of ts)
unfolding fault_in
fault_more depth w s [] some = absurd (some refl)
fault_more depth w s (t ∷ ts) some = refl

fault_step : (depth : ℕ) (w : Wanted) (s : Scope) (ts : List Tok) → (depth ≡ 0 → ⊥) → (length ts ≡ 0 → ⊥)
    → fault_in depth w s (views ts) ≡ fault_by (fault_in (depth - 1) w s) w s (views ts) (main_of (views ts))
fault_step depth w s ts deep some =
    let k : depth ≡ suc (depth - 1) = omega (arith, deep) in
    ap (λ (n : ℕ). fault_in n w s (views ts)) k ∙ fault_more (depth - 1) w s (views ts) (some_tokens ts some)

pub fault_two : (depth : ℕ) (w : Wanted) (s : Scope) (ts : List Tok) (m : ℕ) → (depth ≡ 0 → ⊥) → (length ts ≡ 0 → ⊥)
    → main_of (views ts) ≡ Some m
    → fault_in depth w s (views ts)
    ≡ or_else (fault_in (depth - 1) w s (take m (views ts))) (or_else (fault_in (depth - 1) w s (beyond m (views ts)))
    (operator_fault w (class_of (text_at (views ts) m)) (views ts) (take m (views ts)) (beyond m (views ts))
    (value_of s (take m (views ts))) (value_of s (beyond m (views ts)))))
fault_two depth w s ts m deep some h =
    fault_step depth w s ts deep some ∙ ap (λ (o : Option ℕ). fault_by (fault_in (depth - 1) w s) w s (views ts) o) h

pub fault_one : (depth : ℕ) (w : Wanted) (s : Scope) (ts : List Tok) → (depth ≡ 0 → ⊥) → (length ts ≡ 0 → ⊥) → main_of (views ts) ≡ None
    → fault_in depth w s (views ts)
    ≡ or_else (fault_in (depth - 1) w s (inside (views ts))) (single_fault w s (views ts) (value_of s (inside (views ts))))
fault_one depth w s ts deep some h =
    fault_step depth w s ts deep some ∙ ap (λ (o : Option ℕ). fault_by (fault_in (depth - 1) w s) w s (views ts) o) h

-- ---- calls

pub call_out : (w : Wanted) (levels : ℕ) (s : Scope) (ts : List Token) (m : Mention) → levels ≡ 0 → call_in w levels s ts m ≡ too_deep w ts
unfolding call_in
call_out w levels s ts m h = rw h refl

pub call_step : (w : Wanted) (levels : ℕ) (s : Scope) (ts : List Token) (m : Mention) → (levels ≡ 0 → ⊥)
    → call_in w levels s ts m ≡ called_by w (section_by w (call_in w (levels - 1))) s ts m
unfolding call_in
call_step w levels s ts m some =
    let k : levels ≡ suc (levels - 1) = omega (arith, some) in
    ap (λ (n : ℕ). call_in w n s ts m) k
