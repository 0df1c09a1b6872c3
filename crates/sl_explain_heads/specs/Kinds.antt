-- step: what an item is.
use Rattle.sl_explain_heads.specs.Heads as spec
use Rattle.sl_explain_heads.specs.declared.heads.Kind.{Kind}
use Rattle.sl_explain_heads.specs.declared.heads.Kind.TheVariants.{Constructor, Macro, Other}

abbrev pub kind_view : Kind → spec.Kind
kind_view Constructor = spec.constructor
kind_view Macro = spec.macro
kind_view Other = spec.other
