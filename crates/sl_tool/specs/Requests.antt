-- step: a request as the program keeps it.
use Rattle.sl_tool_request.specs.Views.{assembly, patch, spec_file, target}
use Rattle.sl_tool.specs.Request as spec
use Rattle.sl_tool.specs.declared.request.Request.{Request}
use Rattle.sl_tool.specs.declared.request.Request.TheVariants.{Assemble, Check, Gaps, Generate, Pack, Patch, Show as ShowImage}
use Rattle.sl_tool.specs.declared.request.Show.{Show}
use Rattle.sl_tool.specs.declared.request.Show.TheVariants.{Listing, Operations, Run}

abbrev pub show_of : Show → spec.Show
show_of Listing = spec.Listing
show_of Operations = spec.Operations
show_of (Run steps) = spec.Run steps

abbrev pub request : Request → spec.Request
request (Check file explains) = spec.CheckSpec (spec_file file) explains
request (ShowImage t what) = spec.ShowImage (target t) (show_of what)
request (Gaps file) = spec.ReportGaps (spec_file file)
request (Generate size) = spec.Generate size
request (Pack name) = spec.PackSpec name.now
request (Assemble a) = spec.AssembleText (assembly a)
request (Patch p) = spec.PatchListing (patch p)
