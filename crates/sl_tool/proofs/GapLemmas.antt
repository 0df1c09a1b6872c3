-- The text of a report, line by line, and that a specification has one.
use Rattle.std.proofs.Common.{◌≡◌, ℕ, ◌+◌, ◌<◌, ◌≤◌, List, [], ◌++◌, length, get_or, drop, Option, refl, sym, ap, ◌∙◌, append_assoc, append-nil}
use Rattle.std.proofs.lemmas.List.{drop_more}
use Rattle.std.proofs.Math.ListN.{drop_of_length-le}
use Rattle.sl_base_surely.proofs.SurelyLemmas.{surely_map}
use Rattle.sl_base_surely.specs.Surely.{Surely}
use Rattle.sl_bind_compile.specs.Outcomes.{all_constructors, name_of}
use Rattle.sl_cube.specs.declared.Point.{Point}
use Rattle.sl_gap.proofs.OneReport.{one_report}
use Rattle.sl_gap.proofs.SomeReport.{a_report}
use Rattle.sl_gap.specs.Reports.{IsReport, Report}
use Rattle.sl_spec.specs.declared.tables.Tables.{Tables}
use Rattle.sl_tool.specs.GapText.{IsGapText, gap_text, report_text, table_lines}
use Rattle.sl_tool_stages.specs.Values.{Compiled}

-- ---- lines of tables

module _ (t : Tables) (gaps : List (Option Point)) (start : List ℕ) where
  -- what is there behind some of them, and what the rest adds, is all
  abbrev pub AreWritten : List ℕ → ℕ → Type 0
  AreWritten now i = now ++ table_lines t i (drop i gaps) ≡ start ++ table_lines t 0 gaps

  pub table_written : (now next : List ℕ) (i : ℕ) (any : Option Point) → i < length gaps → next ≡ now ++ (name_of t i ++ gap_text (get_or gaps i any)) → AreWritten now i
      → AreWritten next (i + 1)
  unfolding table_lines
  table_written now next i any below is so_far =
      let line = name_of t i ++ gap_text (get_or gaps i any) in
      let later = table_lines t (i + 1) (drop (i + 1) gaps) in
      let here : now ++ table_lines t i (drop i gaps) ≡ (now ++ line) ++ later = rw (drop_more gaps i any below) (sym (append_assoc now line later)) in
      ap (λ (l : List ℕ). l ++ later) is ∙ sym here ∙ so_far

  pub tables_written : (now : List ℕ) (i : ℕ) → length gaps ≤ i → AreWritten now i → now ≡ start ++ table_lines t 0 gaps
  unfolding table_lines
  tables_written now i end so_far =
      let none : drop i gaps ≡ [] = drop_of_length-le gaps end in
      let here : now ++ table_lines t i (drop i gaps) ≡ now = ap (λ (l : List (Option Point)). now ++ table_lines t i l) none ∙ append-nil now in
      sym here ∙ so_far

-- ---- the text

pub gap_text_is_one : (c : Compiled) (text other : List ℕ) → IsGapText c text → IsGapText c other → text ≡ other
gap_text_is_one c text other h k =
    h.is_text ∙ ap (λ (r : Report). report_text c r) (one_report c.tables (all_constructors c.tree.items) h.report k.report h.is_report k.is_report) ∙ sym k.is_text

pub some_gap_text : (c : Compiled) → Surely ((text : List ℕ) × IsGapText c text)
some_gap_text c =
    surely_map (λ (r : (r : Report) × IsReport c.tables (all_constructors c.tree.items) r).
    (report_text c r.0, record { report = r.0; is_report = r.1; is_text = refl })) (a_report c.tables (all_constructors c.tree.items))
