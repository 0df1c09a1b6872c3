-- What sections export, and sizes of addresses.
use Rattle.std.proofs.Common.{◌≡◌, ℕ, ℤ, zero, suc, ◌≤◌, List, [], ◌∷◌, refl, arith}
use Rattle.std.specs.Prelude.{slice_index}
use Rattle.sl_build.specs.Exports.{exported_or, exports_in}
use Rattle.sl_faithful_code.specs.Operations.{Operation}
use Rattle.sl_build_emit.specs.Views.{references_of}
use Rattle.sl_build_emit.specs.declared.reference.Reference.{Reference}
use Rattle.sl_meaning_sections.specs.Nodes.{exported}
use Rattle.sl_meaning_sections.specs.References.{Setting}
use Rattle.sl_meaning_sections.specs.Values.{Frame}
use Rattle.sl_section_flat.specs.Sections as s
use Rattle.sl_section_flat.specs.Sections.{Step}
use Rattle.sl_build_template.specs.Pieces.{Part}
use Rattle.sl_build_template.specs.Placed.{placed}
use Rattle.sl_build_template.specs.Views.{size_in}
use Rattle.sl_word.specs.Sizes.{byte_counts}
use Rattle.sl_word.specs.declared.word.AddressSize.{AddressSize}
use Rattle.sl_word.specs.declared.word.Endian.{Endian}
use Rattle.sl_word.specs.declared.word.Size.{Size}

pub exported_next : (g : Setting) (f : Frame) (a : Step) (ss : List Step) → exported g f (a ∷ ss) ≡ exported_or g f (exports_in a) (exported g f ss)
exported_next g f (s.declare x n) ss = refl
exported_next g f (s.set a t) ss = refl
exported_next g f (s.set_bits a low count t) ss = refl
exported_next g f (s.store space n pointer x t) ss = refl
exported_next g f (s.run_user op ts) ss = refl
exported_next g f (s.build i) ss = refl
exported_next g f (s.label l) ss = refl
exported_next g f (s.branch to) ss = refl
exported_next g f (s.branch_if t to) ss = refl
exported_next g f (s.branch_to t) ss = refl
exported_next g f (s.call a) ss = refl
exported_next g f (s.call_to t) ss = refl
exported_next g f (s.return t) ss = refl
exported_next g f (s.export what) ss = refl

-- an address has at most 8 bytes
pub address_fits : (sizes : List AddressSize) (i : ℕ) → slice_index (byte_counts sizes) i ≤ 8
address_fits [] i = omega arith
address_fits (n ∷ ns) zero = n.at_most_8
address_fits (n ∷ ns) (suc i) = address_fits ns i

-- ---- where a section is made

pub placed_same : (top : ℕ) (g h : Setting) (f e : Frame) (ls ks : List (List Operation)) (ps qs : List Part) → g ≡ h → f ≡ e → ls ≡ ks → ps ≡ qs
    → placed top g f ls ps ≡ placed top h e ks qs
placed_same top g h f e ls ks ps qs p q r t = λ i. placed top (p i) (q i) (r i) (t i)

pub export_same : (g h : Setting) (f e : Frame) (ss ts : List Step) → g ≡ h → f ≡ e → ss ≡ ts → exported g f ss ≡ exported h e ts
export_same g h f e ss ts p q t = λ i. exported (p i) (q i) (t i)

pub setting_same : (endian : Endian) (ms ns : List AddressSize) (default : ℕ) (start next : ℤ) → ms ≡ ns
    → ◌≡◌ {A = Setting} (record { endian = endian; sizes = byte_counts ms; default = default; start = start; next = next })
    (record { endian = endian; sizes = byte_counts ns; default = default; start = start; next = next })
setting_same endian ms ns default start next e = λ i. record { endian = endian; sizes = byte_counts (e i); default = default; start = start; next = next }

pub frame_same : (k : ℕ) (ms ns : List Size) (rs qs : List Reference) → ms ≡ ns → rs ≡ qs
    → ◌≡◌ {A = Frame} (record { node = k; size = size_in ms; refs = references_of rs }) (record { node = k; size = size_in ns; refs = references_of qs })
frame_same k ms ns rs qs p q = λ i. record { node = k; size = size_in (p i); refs = references_of (q i) }
