use Rattle.std.proofs.Common.{List, ℕ, Some, ap, ◌∙◌, if◌then◌else◌, codes}
use Rattle.std.proofs.Math.Path.{fun_ext}
use Rattle.std.specs.Str.{bytes_eq}
use Rattle.sl_tool_generator.specs.Specification.{specification}
use Rattle.sl_outside.specs.Folder.{Folder}
use Rattle.sl_outside.specs.Memory.{folder_of}
use Rattle.sl_tool.proofs.generated.folder.Goals as goal

pub returns : goal.returns
returns c =
    let before = folder_of c.new-files.result in
    let text = c.as_slice.ensures.value ∙ c.in_ok-text.ensures in
    fun_ext (λ name.
    c.in_ok-add.ensures.added name
    ∙ ap (λ (bytes : List ℕ). if bytes_eq (codes "gen") name then Some bytes else before name) text
    ∙ ap (λ (folder : Folder). if bytes_eq (codes "gen") name then Some specification else folder name) c.new-files.ensures.empty)
