-- What the program keeps stands for the specification.
use Rattle.std.proofs.Common.{◌≡◌, ℕ, ℤ, List, refl, ap, ◌∙◌, map}
use Rattle.std.specs.Prelude.{pos}
use Rattle.std.proofs.Math.Path.{fun_ext}
use Rattle.sl_build.specs.Pieces.{section_list}
use Rattle.sl_build.specs.Stands.{StandsFor}
use Rattle.sl_build.specs.Views.{gives_in, list_in, section_in, setting_in}
use Rattle.sl_build.specs.declared.work.Work.{Work}
use Rattle.sl_build_emit.specs.Views.{number_of}
use Rattle.sl_ast.specs.Trees.{Constructor}
use Rattle.sl_ast.specs.Unfolding.{Placed}
use Rattle.sl_section_all.specs.FlatSections.{Flat, flat_sections, sections_by}
use Rattle.sl_section_all.specs.Scopes.{Scopes}
use Rattle.sl_meaning_instruction.specs.Instructions.{Specification, default_space, given_at, section_by, setting_of}
use Rattle.sl_meaning_sections.specs.Nodes.{frame_of}
use Rattle.sl_meaning_sections.specs.References.{Setting}
use Rattle.sl_spec_operators.specs.Operators.{wrapped}
use Rattle.sl_section_sizes.specs.Sizings.{lists_of}
use Rattle.sl_spec.specs.declared.tables.Tables.{Tables}
use Rattle.sl_word.specs.declared.word.Endian.{Endian}
use Rattle.sl_word.specs.declared.word.Size.{Size}

setting : Endian → List ℕ → ℕ → ℤ → ℤ → Setting
setting endian sizes default start next = record { endian = endian; sizes = sizes; default = default; start = start; next = next }

setting_made : (t : Tables) (address after : ℕ) → setting t.endian (map (λ z. z.size) t.spaces) (default_space t) (wrapped (pos address)) (wrapped (pos after)) ≡ setting_of t address after
unfolding setting setting_of
setting_made t address after = refl

module _ (w : Work) (s : Specification) (stands : StandsFor w.of.now s) where
  pub sections_are : section_in w ≡ section_by s.sections s.sizes
  sections_are =
      ap (λ (fs : List Flat). section_by fs (lists_of w.of.now.sizes.now)) stands.sections
      ∙ ap (λ (ns : List (List Size)). section_by s.sections ns) stands.sizes

  -- the templates make the lists of the sections
  pub lists_are : list_in w ≡ section_list (section_in w) (setting_in w) w.top
  lists_are = fun_ext (λ ctor. fun_ext (λ k. fun_ext (λ refs. fun_ext (λ lists.
      stands.templates ctor w.top (setting_in w) (frame_of k (section_in w ctor) refs) lists refl refl refl))))

  pub gives_are : (bytes : List ℕ) → w.bytes.now ≡ bytes → gives_in w ≡ given_at s bytes
  gives_are bytes e =
      fun_ext (λ n. fun_ext (λ lengths. stands.gives w.bytes.now n lengths))
      ∙ ap (λ (bs : List ℕ). given_at s bs) e

  setting_by : (start next : ℤ) → number_of w.start ≡ start → number_of w.next ≡ next
      → setting_in w ≡ setting s.tables.endian (map (λ z. z.size) s.tables.spaces) (default_space s.tables) start next
  unfolding setting
  setting_by start next p q = λ i. record {
    endian = (ap (λ (t : Tables). t.endian) stands.tables) i;
    sizes = stands.spaces i;
    default = stands.default i;
    start = p i;
    next = q i;
  }

  pub setting_is : (address after : ℕ) → number_of w.start ≡ wrapped (pos address) → number_of w.next ≡ wrapped (pos after)
      → setting_in w ≡ setting_of s.tables address after
  setting_is address after p q = setting_by (wrapped (pos address)) (wrapped (pos after)) p q ∙ setting_made s.tables address after

-- the flat sections of all constructors
pub all_flat : (t : Tables) (s : Scopes) (cs : List (Placed Constructor)) → sections_by t s.macros cs s.reaches ≡ flat_sections t s cs
unfolding flat_sections
all_flat t s cs = refl
