-- What has no place anywhere, and what has its place.
use Rattle.std.proofs.Common.{◌≡◌, ◌<◌, ◌-◌, arith, ℕ, suc, Bool, true, false, if◌then◌else◌, List, [], Option, None, Some, Ok, Err, refl, ap, sym, ◌∙◌}
use Rattle.sl_ast.specs.Operators.{Kind}
use Rattle.sl_ast.specs.Trees.{integer, bare}
use Rattle.sl_store_format.specs.Expressions.{expression}
use Rattle.sl_store_format.specs.Forms.{pattern_forms}
use Rattle.sl_store_format.specs.StatementForms.{expression_forms}
use Rattle.sl_store_format.specs.Patterns.{pattern}
use Rattle.sl_store_bytes.specs.Reader.{Outcome, Reader, pure, and_then, ◌>>=◌, stop_at, picked, first, choose}
use Rattle.sl_store_bytes.specs.Reads.{IsFault, Stops}
use Rattle.sl_store_bytes.specs.Tables.{got, kept, coded_if}
use Rattle.sl_store_bytes.specs.declared.bytes.Stop as s
use Rattle.sl_store_phrases.specs.Within.{form_of, pattern_form_of}
use Rattle.sl_store_bytes.specs.declared.bytes.Stop.TheVariants as sv

kept_none : {K : Type 0} (o : Option K) → kept (λ k. false) o ≡ None
kept_none None = refl
kept_none (Some k) = refl

-- where nothing has its place, the byte that comes next is refused
pub none_fits : {K A : Type 0} (table : List K) (go : K → Reader A) (xs : List ℕ) → (coded_if (λ k. false) table >>= go) xs ≡ Err (stop_at xs)
unfolding choose
none_fits table go xs = ap (λ o. and_then (picked o xs) go) (kept_none (got table (first xs)))

pub fault_stops : {A : Type 0} (o : Outcome A) (xs : List ℕ) (e : s.Stop) → o ≡ Err (stop_at xs) → IsFault (stop_at xs) e → Stops o e
fault_stops o xs sv.NoMemory same h = tt
fault_stops o xs sv.Cut same h = same ∙ ap (λ f. Err f) h
fault_stops o xs (sv.Damaged n) same h = same ∙ ap (λ f. Err f) h

abbrev value_or : {K : Type 0} → K → Outcome K → K
value_or k (Ok p) = p.0
value_or k (Err e) = k

passes_by : {K : Type 0} (test : K → Bool) (o : Option K) (k : K) (xs rest : List ℕ) → picked (kept test o) xs ≡ Ok (k, rest) → test k ≡ true
passes_by test None k xs rest e = absurd (cc)
passes_by test (Some j) k xs rest e = by (test j) refl e
  where
    by : (b : Bool) → test j ≡ b → picked (if b then Some j else None) xs ≡ Ok (k, rest) → test k ≡ true
    by true on h = ap test (sym (ap (value_or k) h)) ∙ on
    by false on h = absurd (cc)

-- what is taken has its place
pub passes : {K : Type 0} (test : K → Bool) (table : List K) (k : K) (xs rest : List ℕ) → coded_if test table xs ≡ Ok (k, rest) → test k ≡ true
unfolding choose
passes test table k xs rest e = passes_by test (got table (first xs)) k xs rest e

-- ---- depth

pub no_depth : (kind : Kind) (depth room n : ℕ) (xs : List ℕ) (e : s.Stop) → depth ≡ 0 → IsFault (stop_at xs) e → Stops (expression kind depth room n xs) e
unfolding expression
no_depth kind depth room n xs e none h =
    fault_stops _ xs e (ap (λ d. expression kind d room n xs) none ∙ none_fits expression_forms (λ form. pure (integer 0)) xs) h

pub deeper : (kind : Kind) (depth room n : ℕ) (xs : List ℕ) → 0 < depth → expression kind depth room n xs ≡ form_of n kind (expression kind (depth - 1)) room xs
unfolding expression
deeper kind depth room n xs some = let e : depth ≡ suc (depth - 1) = omega arith in ap (λ d. expression kind d room n xs) e

pub no_pattern_depth : (depth room n : ℕ) (xs : List ℕ) (e : s.Stop) → depth ≡ 0 → IsFault (stop_at xs) e → Stops (pattern depth room n xs) e
unfolding pattern
no_pattern_depth depth room n xs e none h =
    fault_stops _ xs e (ap (λ d. pattern d room n xs) none ∙ none_fits pattern_forms (λ form. pure (bare [])) xs) h

pub pattern_deeper : (depth room n : ℕ) (xs : List ℕ) → 0 < depth → pattern depth room n xs ≡ pattern_form_of n (depth - 1) (pattern (depth - 1)) room xs
unfolding pattern
pattern_deeper depth room n xs some = let e : depth ≡ suc (depth - 1) = omega arith in ap (λ d. pattern d room n xs) e
