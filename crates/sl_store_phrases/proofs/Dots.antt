-- What three dots may follow, with them.
use Rattle.std.proofs.Common.{◌≡◌, ◌-◌, ℕ, List, Ok, refl, ap, sym, ◌∙◌}
use Rattle.sl_ast.specs.Trees.{Pattern, ellipsis}
use Rattle.sl_store_format.specs.Forms.{pattern_forms}
use Rattle.sl_store_format.specs.Patterns.{pattern, ellipsis_fits, simple_pattern, before_ellipsis, with_ellipsis}
use Rattle.sl_store_format.specs.declared.forms.PatternForm.{PatternForm}
use Rattle.sl_store_bytes.specs.Reader.{and_then, pure}
use Rattle.sl_store_bytes.specs.Reads.{Stops}
use Rattle.sl_store_bytes.specs.Tables.{coded_if}
use Rattle.sl_store_bytes.specs.declared.bytes.Stop.{Stop}
use Rattle.sl_store_phrases.proofs.Rounds.{stops_along, stops_then}

module _ (depth room less : ℕ) (xs two : List ℕ) (form : PatternForm) (same : less ≡ room - 1) (taken : coded_if (ellipsis_fits less) pattern_forms xs ≡ Ok (form, two)) where
  pub ellipsis_stops : (e : Stop) → Stops (simple_pattern depth (pattern depth) less form two) e → Stops (with_ellipsis depth (pattern depth) room xs) e
  unfolding with_ellipsis before_ellipsis
  ellipsis_stops e h =
      stops_along _ _ e
      (ap (λ r. and_then (and_then (coded_if (ellipsis_fits r) pattern_forms xs) (λ f. simple_pattern depth (pattern depth) r f)) (λ p. pure (ellipsis p))) (sym same))
      (rw taken (stops_then (simple_pattern depth (pattern depth) less form two) (λ p. pure (ellipsis p)) e h))

  pub ellipsis_reads : (p : Pattern) (left : List ℕ) → simple_pattern depth (pattern depth) less form two ≡ Ok (p, left)
      → with_ellipsis depth (pattern depth) room xs ≡ Ok (ellipsis p, left)
  unfolding with_ellipsis before_ellipsis
  ellipsis_reads p left read =
      ap (λ r. and_then (and_then (coded_if (ellipsis_fits r) pattern_forms xs) (λ f. simple_pattern depth (pattern depth) r f)) (λ q. pure (ellipsis q))) (sym same)
      ∙ rw (taken, read) refl
