-- view: the expanded text as the program keeps it.
use Rattle.sl_preproc_directives.specs.Replacement as spec
use Rattle.sl_preproc_directives.specs.declared.page.Page.{Page}

abbrev pub page_of : Page → spec.Page
page_of page = record { text = page.text.items; part = page.part }
