-- meaning: where `build` and `export` stand, parts of rules 30 and 31 (SLEIGH manual, "The Semantic
-- Section", "P-code Macros").
use Rattle.std.specs.Prelude.{◌-◌, ◌&&◌, Bool, true, false, not, List, length, take}
use Rattle.std.specs.List.{list_all}
use Rattle.sl_ast.specs.Trees.{Statement, build, export}

abbrev pub is_export : Statement → Bool
is_export (export what) = true
is_export _ = false

abbrev pub is_build : Statement → Bool
is_build (build w) = true
is_build _ = false

-- 30: `export` stands at most once in a section, as its last statement
abbrev pub exports_last : List Statement → Bool
exports_last body = list_all (λ x. not (is_export x)) (take (length body - 1) body)

-- 30, of `instruction`, and 31 of a macro: no `export`
abbrev pub exports_nothing : List Statement → Bool
exports_nothing body = list_all (λ x. not (is_export x)) body

-- 31: a macro has no `build` and no `export`
abbrev pub is_macro_body : List Statement → Bool
is_macro_body body = list_all (λ x. not (is_build x) && not (is_export x)) body
