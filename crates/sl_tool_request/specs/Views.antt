-- view: a request as the program keeps it
use Rattle.std.specs.Prelude.{map, option_map}
use Rattle.sl_tool_request.specs.Requests as spec
use Rattle.sl_tool_request.specs.declared.request.Assembly.{Assembly}
use Rattle.sl_tool_request.specs.declared.request.FieldValue.{FieldValue}
use Rattle.sl_tool_request.specs.declared.request.Patch.{Patch}
use Rattle.sl_tool_request.specs.declared.request.Request.{Request}
use Rattle.sl_tool_request.specs.declared.request.Request.TheVariants.{Asm, Check, List, Pcode, Run, Gen, Gaps, Pack}
use Rattle.sl_tool_request.specs.declared.request.Request.TheVariants as kind
use Rattle.sl_tool_request.specs.declared.request.SpecFile.{SpecFile}
use Rattle.sl_tool_request.specs.declared.request.SpecFile.TheVariants.{Text, Packed}
use Rattle.sl_tool_request.specs.declared.request.Target.{Target}
use Rattle.sl_tool_request.specs.declared.request.Arguments.{Arguments}

abbrev pub field : FieldValue → spec.Field
field f = record { name = f.field.now; value = f.value }

abbrev pub spec_file : SpecFile → spec.SpecFile
spec_file (Text name) = spec.TextFile name.now
spec_file (Packed name) = spec.PackedFile name.now

abbrev pub target : Target → spec.Target
target t = record {
  spec = spec_file t.spec;
  image = t.image.now;
  base = t.base;
  is_hex = t.is_hex;
  context = map field t.context.items;
}

abbrev pub assembly : Assembly → spec.Assembly
assembly a = record {
  spec = spec_file a.spec;
  text = a.text.now;
  base = a.base;
  context = map field a.context.items;
  takes_actions = a.takes_actions;
}

abbrev pub patch : Patch → spec.Patch
patch p = record {
  spec = spec_file p.spec;
  listing = p.listing.now;
  context = map field p.context.items;
  takes_actions = p.takes_actions;
}

abbrev pub request : Request → spec.Asked
request (Check file explains) = spec.Checks (spec_file file) explains
request (List t) = spec.Lists (target t)
request (Pcode t) = spec.Prints (target t)
request (Run t steps) = spec.Runs (target t) steps
request (Gen size) = spec.Generates size
request (Gaps file) = spec.Reports (spec_file file)
request (Pack name) = spec.Packs name.now
request (Asm a) = spec.Assembles (assembly a)
request (kind.Patch p) = spec.Patches (patch p)

abbrev pub arguments : Arguments → spec.Arguments
arguments s = record {
  words = map (λ w. w.now) s.words.items;
  base = option_map (λ w. w.now) s.base;
  steps = option_map (λ w. w.now) s.steps;
  is_hex = s.is_hex;
  is_packed = s.is_packed;
  takes_actions = s.takes_actions;
  by_lines = s.by_lines;
  explains = s.explains;
}
