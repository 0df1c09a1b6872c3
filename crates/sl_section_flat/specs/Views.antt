-- view: the program's sections as those of the definitions.
use Rattle.std.specs.Prelude.{ℕ, List, map, option_map}
use Rattle.sl_word.specs.declared.word.SpaceId.{SpaceId}
use Rattle.sl_section_flat.specs.Sections as s
use Rattle.sl_section_flat.specs.declared.symbol.Symbol.{Symbol}
use Rattle.sl_section_flat.specs.declared.symbol.Symbol.TheVariants as y
use Rattle.sl_section_flat.specs.declared.term.Term.{Term, fold-Term}
use Rattle.sl_section_flat.specs.declared.term.Term.TheOpen.{Term-F}
use Rattle.sl_section_flat.specs.declared.step.Direct.{Direct}
use Rattle.sl_section_flat.specs.declared.step.Direct.TheVariants as d
use Rattle.sl_section_flat.specs.declared.step.Export.{Export}
use Rattle.sl_section_flat.specs.declared.step.Export.TheVariants as e
use Rattle.sl_section_flat.specs.declared.step.Label.{Label}
use Rattle.sl_section_flat.specs.declared.step.Step.{Step}
use Rattle.sl_section_flat.specs.declared.step.Step.TheVariants as v
use Rattle.sl_section_flat.specs.Chains.{bytes_of, chain}

abbrev pub number_of : SpaceId → ℕ
number_of space = space.0

abbrev pub symbol_of : Symbol → s.Symbol
symbol_of (y.Register r) = s.register r.space.0 r.offset r.size.bytes
symbol_of (y.BitRange r b) = s.bit_range r.space.0 r.offset r.size.bytes b.low b.count
symbol_of (y.Local x) = s.local x
symbol_of (y.Table i) = s.table i
symbol_of (y.Attached i n) = s.attached i n.bytes
symbol_of (y.Value i) = s.value i
symbol_of y.Start = s.start
symbol_of y.Next = s.next
symbol_of (y.Integer v) = s.integer v

-- one level, with each expression inside already seen
abbrev pub term_step : Term-F s.Term → s.Term
term_step (Term-F.Number v x) = s.number v x
term_step (Term-F.Sized v n x) = s.sized v n.bytes x
term_step (Term-F.Name a x) = s.name (symbol_of a) x
term_step (Term-F.Paren t x) = s.paren t.value x
term_step (Term-F.Kept t n x) = s.kept t.value n.bytes x
term_step (Term-F.Dropped t n x) = s.dropped t.value n x
term_step (Term-F.Bits t b x) = s.bits t.value b.low b.count x
term_step (Term-F.Load p n t x) = s.load (option_map number_of p) (option_map bytes_of n) t.value x
term_step (Term-F.One f t x) = s.one f t.value x
term_step (Term-F.Two f o a b x) = s.two f o a.value b.value x
term_step (Term-F.User u ts x) = s.user u.0 (chain ts.items) x

abbrev pub term_of : Term → s.Term
term_of = fold-Term s.Term term_step

abbrev pub terms_of : List Term → List s.Term
terms_of ts = map term_of ts

abbrev pub label_of : Label → s.Label
label_of l = record { call = l.call; name = l.name.now }

abbrev pub direct_of : Direct → s.Direct
direct_of (d.Label l) = s.to_label (label_of l)
direct_of (d.Place a) = s.to_place (symbol_of a)

abbrev pub export_of : Export → s.Export
export_of (e.Name a x) = s.exports (symbol_of a) x
export_of (e.Constant n t x) = s.exports_constant n.bytes (term_of t) x
export_of (e.Memory p n t x) = s.exports_memory (option_map number_of p) n.bytes (term_of t) x

abbrev pub step_of : Step → s.Step
step_of (v.Declare x n) = s.declare x (option_map bytes_of n)
step_of (v.Set a t) = s.set (symbol_of a) (term_of t)
step_of (v.SetBits a b t) = s.set_bits (symbol_of a) b.low b.count (term_of t)
step_of (v.Store p n pointer x t) =
    s.store (option_map number_of p) (option_map bytes_of n) (term_of pointer) x (term_of t)
step_of (v.User u ts) = s.run_user u.0 (terms_of ts.items)
step_of (v.Build i) = s.build i
step_of (v.Label l) = s.label (label_of l)
step_of (v.Branch to) = s.branch (direct_of to)
step_of (v.BranchIf t to) = s.branch_if (term_of t) (direct_of to)
step_of (v.BranchTo t) = s.branch_to (term_of t)
step_of (v.Call a) = s.call (symbol_of a)
step_of (v.CallTo t) = s.call_to (term_of t)
step_of (v.Return t) = s.return (term_of t)
step_of (v.Export what) = s.export (export_of what)

abbrev pub steps_of : List Step → List s.Step
steps_of xs = map step_of xs
