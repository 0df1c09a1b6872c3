-- view: which specification sections are made of.
use Rattle.std.specs.Prelude.{◌≡◌, ℕ, List, map}
use Rattle.sl_build.specs.Views.{AreTemplates, gives_by, templates_of}
use Rattle.sl_build.specs.declared.sections.Sections.{Sections}
use Rattle.sl_decode_meaning.specs.Trees.{Node}
use Rattle.sl_section_all.specs.Views.{flats_of}
use Rattle.sl_meaning_instruction.specs.Instructions.{Specification, default_space, given_at, is_unimpl}
use Rattle.sl_section_sizes.specs.Sizings.{lists_of}
use Rattle.sl_word.specs.Sizes.{byte_counts}

-- They are the sections of this specification.
pub record StandsFor (x : Sections) (s : Specification) : Type 0 where
  pub tables : x.tables.now ≡ s.tables
  pub sections : flats_of x.sections.items ≡ s.sections
  pub sizes : lists_of x.sizes.now ≡ s.sizes
  pub gives : (bytes : List ℕ) (n : Node) (lengths : List ℕ)
      → gives_by x.tables.now x.slots.items bytes n lengths ≡ given_at s bytes n lengths
  pub marks : x.marks.items ≡ map (λ c. is_unimpl c.1.section) s.constructors
  pub spaces : byte_counts x.spaces.items ≡ map (λ z. z.size) s.tables.spaces
  pub default : x.default.0 ≡ default_space s.tables
  pub templates : AreTemplates (byte_counts x.spaces.items) x.default.0
      (flats_of x.sections.items) (lists_of x.sizes.now) (templates_of x.templates.items)
