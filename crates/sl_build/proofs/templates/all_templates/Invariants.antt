use Rattle.sl_build.proofs.TemplateLemmas.{AreFirstOf}
use Rattle.sl_build.specs.Views.{templates_of}
use Rattle.sl_section_all.specs.Views.{flats_of}
use Rattle.sl_section_sizes.specs.Sizings.{lists_of}
use Rattle.sl_word.specs.Sizes.{byte_counts}
use Rattle.sl_build.proofs.templates.all_templates.Given as goal

abbrev pub invariant-sections : goal.invariant-sections
invariant-sections l = AreFirstOf (byte_counts l.spaces) l.default.0 (flats_of l.sections) (lists_of l.sizes) (templates_of l.all.items) l.index
