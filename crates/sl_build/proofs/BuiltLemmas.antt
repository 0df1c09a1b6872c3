-- The list that is made is that of the instruction.
use Rattle.std.proofs.Common.{◌≡◌, ℕ, ℤ, ◌<◌, ◌≤◌, ◌^◌, List, length, refl, sym, ap, subst, ◌∙◌, Option}
use Rattle.std.specs.Prelude.{pos, slice_index}
use Rattle.std.proofs.lemmas.List.{length-map}
use Rattle.sl_build.specs.Built.{IsListOf}
use Rattle.sl_build.specs.Pieces.{Making, first_code, pieces, section_list}
use Rattle.sl_build.specs.Stands.{StandsFor}
use Rattle.sl_build.specs.Views.{gives_in, list_in, rows_in, section_in, setting_in}
use Rattle.sl_build.specs.declared.work.Work.{Work}
use Rattle.sl_build.proofs.SiteLemmas.{address_fits}
use Rattle.sl_build.proofs.StandLemmas.{gives_are, lists_are, sections_are, setting_is}
use Rattle.sl_build.proofs.TreeLemmas.{first_list_is, length_rows}
use Rattle.sl_faithful_code.specs.Nodes.{node_code, top_of}
use Rattle.sl_faithful_code.proofs.Nodes.{code_is_faithful}
use Rattle.sl_decode_meaning.specs.Flat.{all_values, entries}
use Rattle.sl_decode_meaning.specs.TreeCounts.{count}
use Rattle.sl_decode_meaning.specs.Trees.{Node, Trees}
use Rattle.sl_decode_meaning.specs.declared.entries.Entry.{Entry}
use Rattle.sl_build_emit.specs.Views.{number_of, operations_of}
use Rattle.sl_meaning_instruction.specs.Instructions.{Specification, first_node, given_at, instruction, nodes_by, section_by, setting_of}
use Rattle.sl_meaning_sections.specs.Nodes as m
use Rattle.sl_meaning_sections.specs.References.{Reference, Setting}
use Rattle.sl_spec_operators.specs.Operators.{wrapped}
use Rattle.sl_pcode.specs.WellFormed.{IsWellFormed}
use Rattle.sl_pcode.specs.declared.operation.Op.{Op}
use Rattle.sl_show.specs.Entries.{Row, row_of, rows, rows_of}
use Rattle.sl_show.proofs.FlatLemmas.{whole_rows}
use Rattle.sl_word.specs.Sizes.{byte_counts}

-- the nodes of a row are those of its trees
count_is : (values : List ℤ) (nodes : List Entry) (f : Trees Node) → rows_of values nodes ≡ rows f → length nodes ≡ count f
count_is values nodes f e = sym (length-map nodes (row_of values)) ∙ ap (λ (rs : List Row). length rs) e ∙ length_rows f

instruction_by : (s : Specification) (bytes : List ℕ) (f : Trees Node) → first_node (nodes_by (section_by s.sections s.sizes) (given_at s bytes) 0 f) ≡ instruction s bytes f
unfolding instruction
instruction_by s bytes f = refl

module _ (w : Work) (s : Specification) (stands : StandsFor w.of.now s) (bytes : List ℕ) (address after : ℕ) (nodes : List Entry) (f : Trees Node)
    (same : w.bytes.now ≡ bytes) (start : number_of w.start ≡ wrapped (pos address)) (next : number_of w.next ≡ wrapped (pos after))
    (top : w.top ≡ top_of (length nodes)) (row : nodes ≡ entries 0 f) (values : w.values.now ≡ all_values f) where
  abbrev g : Setting
  g = setting_of s.tables address after

  setting_there : setting_in w ≡ g
  setting_there = setting_is w s stands address after start next

  rows_there : rows_in w nodes ≡ rows f
  rows_there = whole_rows f w.values.now nodes row values

  top_there : w.top ≡ top_of (count f)
  top_there = top ∙ ap top_of (count_is w.values.now nodes f rows_there)

  code_there : (ops : List Op) → operations_of ops ≡ first_code (pieces (section_in w) (setting_in w) (list_in w) (gives_in w) 0 (rows_in w nodes))
      → operations_of ops ≡ node_code (top_of (count f)) g (instruction s bytes f)
  code_there ops e =
      let rs = rows_in w nodes in
      let section = section_by s.sections s.sizes in
      e
      ∙ ap (λ (list : Making). first_code (pieces (section_in w) (setting_in w) list (gives_in w) 0 rs)) (lists_are w s stands)
      ∙ ap (λ (sec : ℕ → m.Section). first_code (pieces sec (setting_in w) (section_list sec (setting_in w) w.top) (gives_in w) 0 rs)) (sections_are w s stands)
      ∙ ap (λ (h : Setting). first_code (pieces section h (section_list section h w.top) (gives_in w) 0 rs)) setting_there
      ∙ ap (λ t. first_code (pieces section g (section_list section g t) (gives_in w) 0 rs)) top_there
      ∙ ap (λ (gives : Node → List ℕ → List (Option Reference)). first_code (pieces section g (section_list section g (top_of (count f))) gives 0 rs)) (gives_are w s stands bytes same)
      ∙ first_list_is section g (top_of (count f)) (given_at s bytes) f rs rows_there
      ∙ ap (node_code (top_of (count f)) g) (instruction_by s bytes f)

  narrow : slice_index g.sizes g.default ≤ 8
  narrow = subst (λ (h : Setting). slice_index h.sizes h.default ≤ 8) setting_there (address_fits w.of.now.spaces.items w.of.now.default.0)

  pub is_list : (ops : List Op) → operations_of ops ≡ first_code (pieces (section_in w) (setting_in w) (list_in w) (gives_in w) 0 (rows_in w nodes))
      → IsWellFormed (byte_counts w.of.now.spaces.items) ops → length ops < 2 ^ 31 → IsListOf g (count f) (instruction s bytes f) ops
  is_list ops e well short =
      let code = code_there ops e in
      let here : IsWellFormed g.sizes ops = subst (λ (h : Setting). IsWellFormed h.sizes ops) setting_there well in
      record {
        code = code;
        well_formed = here;
        short = short;
        faithful = λ sizes fits. code_is_faithful g (instruction s bytes f) (count f) sizes ops fits narrow code here.each short;
      }
