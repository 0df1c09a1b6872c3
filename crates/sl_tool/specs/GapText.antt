-- meaning: the text of the report on what a specification leaves unmatched.
use Rattle.std.specs.Prelude.{◌≡◌, ℕ, ◌+◌, ◌++◌, Bool, true, false, List, [], ◌∷◌, Option, Some, None, codes}
use Rattle.sl_bind_compile.specs.Outcomes.{all_constructors, name_of}
use Rattle.sl_cube.specs.declared.Point.{Point}
use Rattle.sl_gap.specs.Reports.{IsReport, Report}
use Rattle.sl_gap.specs.declared.report.Hole.{Hole}
use Rattle.sl_spec.specs.declared.tables.Tables.{Tables}
use Rattle.sl_spec_rules.specs.Gathered.{gathered}
use Rattle.sl_tool_stages.specs.Lines.{place_text, point_text}
use Rattle.sl_tool_stages.specs.Places.{place_of_ctor}
use Rattle.sl_tool_stages.specs.Values.{Compiled}

-- that a table leaves no point, or the least one that it leaves
abbrev pub gap_text : Option Point → List ℕ
gap_text None = codes ": complete\n"
gap_text (Some p) = codes ": gap " ++ (point_text p ++ codes "\n")

-- the lines of tables, the first of which has this number
unfoldable pub table_lines : Tables → ℕ → List (Option Point) → List ℕ
table_lines t table [] = []
table_lines t table (gap ∷ gaps) = (name_of t table ++ gap_text gap) ++ table_lines t (table + 1) gaps

-- the operand's table, and the point at which its parent is chosen
abbrev pub operand_text : Tables → Hole → List ℕ
operand_text t h = codes " in " ++ (name_of t h.operand ++ (codes " " ++ (point_text h.parent ++ codes "\n")))

-- whether no decode can end for want of a constructor
abbrev pub sure_line : Bool → List ℕ
sure_line true = codes "sure\n"
sure_line false = codes "not sure\n"

module _ (c : Compiled) where
  -- the place of a constructor
  abbrev pub ctor_text : ℕ → List ℕ
  ctor_text ctor = place_text (place_of_ctor c ctor).file (place_of_ctor c ctor).line

  -- the line of a constructor that is chosen at no point
  abbrev pub shadowed_line : ℕ → List ℕ
  shadowed_line ctor = codes "shadowed " ++ (ctor_text ctor ++ codes "\n")

  -- the line of a hole
  abbrev pub hole_line : Hole → List ℕ
  hole_line h = codes "hole " ++ (ctor_text h.ctor ++ operand_text c.tables h)

  -- the lines of all tables, of the constructors that are never chosen, and of the holes, and the last line
  abbrev pub report_text : Report → List ℕ
  report_text r = table_lines c.tables 0 r.tables ++ (gathered shadowed_line r.shadowed ++ (gathered hole_line r.holes ++ sure_line r.sure))

  -- It is the text of the specification's report.
  pub record IsGapText (text : List ℕ) : Type 0 where
    pub report : Report
    pub is_report : IsReport c.tables (all_constructors c.tree.items) report
    pub is_text : text ≡ report_text report
