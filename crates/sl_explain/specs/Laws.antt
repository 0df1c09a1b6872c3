-- law: all that more is said of a refusal is whole lines, whatever bytes the text has.
use Rattle.std.specs.Prelude.{ℕ, List, Option}
use Rattle.sl_bind_compile.specs.Ambiguity.{Ambiguity}
use Rattle.sl_bind_compile.specs.declared.error.Flaw.{Flaw}
use Rattle.sl_cube_sets.specs.declared.report.Apart.{Apart}
use Rattle.sl_explain.specs.Facts.{ambiguity_facts, byte_facts, cause_facts, flaw_facts, item_facts, settling_facts, token_facts}
use Rattle.sl_explain_lines.specs.Laws.{AreLines}
use Rattle.sl_lex.specs.Faults.{Fault}
use Rattle.sl_lex.specs.Reading.{Token}
use Rattle.sl_parse_faults.specs.Causes.{Reason}
use Rattle.sl_preproc.specs.Expanded.{Text}
use Rattle.sl_preproc_directives.specs.declared.fault.Cause.{Cause}

-- The facts of each kind of refusal are lines without a control byte.
pub record FactsAreLines : Type 0 where
  pub of_causes : (cause : Cause) → AreLines (cause_facts cause)
  pub of_bytes : (t : Text) (fault : Fault) (at : ℕ) → AreLines (byte_facts t fault at)
  pub of_tokens : (t : Text) (ts : List Token) (reason : Reason) (at : ℕ) → AreLines (token_facts t ts reason at)
  pub of_flaws : (ts : List Token) (flaw : Flaw) (index : Option ℕ) → AreLines (flaw_facts ts flaw index)
  pub of_items : (t : Text) (ts : List Token) (flaw : Flaw) (index : Option ℕ) → AreLines (item_facts t ts flaw index)
  pub of_tables : (t : Text) (ts : List Token) (a : Ambiguity) → AreLines (ambiguity_facts t ts a)
  pub of_points : (a : Apart) → AreLines (settling_facts a)
