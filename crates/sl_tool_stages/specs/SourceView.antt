-- view: the expanded text as a value of the first stage.
use Rattle.sl_preproc.specs.Expanded.{seen}
use Rattle.sl_tool_stages.specs.Values as values
use Rattle.sl_tool_stages.specs.declared.source.Source.{Source}

abbrev pub source_view : Source → values.Source
source_view s = values.source s.name.now (seen s.expanded)
