-- meaning: what a definition or an attached list adds, with all rules that it is judged by.
use Rattle.std.specs.Prelude.{ℕ, List, [], ◌∷◌, Result, Ok}
use Rattle.sl_ast.specs.Trees.{Definition, endian, alignment, space, bit_ranges, pcode_ops, token}
use Rattle.sl_ast.specs.Trees.{context, registers, Names, one, several}
use Rattle.sl_ast.specs.Trees.{Item, define, attach_list, attach_one}
use Rattle.sl_spec_rules.specs.Demands.{◌>>=◌}
use Rattle.sl_spec_rules.specs.Names.{Name}
use Rattle.sl_spec.specs.declared.tables.Tables.{Tables}
use Rattle.sl_spec_registers.specs.RegisterRules.{bit_range_step, register_step}
use Rattle.sl_spec_registers.specs.SpaceRules.{space_step}
use Rattle.sl_spec_registers.specs.UserOps.{userop_step}
use Rattle.sl_spec_definitions.specs.AttachRules.{attach_step}
use Rattle.sl_spec_definitions.specs.Beginning.{alignment_step, begin, is_endian, with_endian}
use Rattle.sl_spec_definitions.specs.FieldRules.{context_step, token_step}
use Rattle.sl_spec_definitions.specs.declared.known.Known.{Known}

-- one name, or those in brackets
abbrev pub all_names : Names → List Name
all_names (one name) = name ∷ []
all_names (several names) = names

-- what is known once the tables are these
abbrev pub with_tables : Known → Result Tables ℕ → Result Known ℕ
with_tables k tables = tables >>= λ t. Ok (record k { tables = t })

-- what follows `define`, but for rule 1
abbrev pub defined : Known → Definition → Result Known ℕ
defined k (endian order) = with_tables k (Ok (with_endian k.tables order))
defined k (alignment n) = alignment_step k n
defined k (space name given) = with_tables k (space_step k.tables name given)
defined k (bit_ranges first more) = with_tables k (bit_range_step k.tables (first ∷ more))
defined k (pcode_ops names) = with_tables k (userop_step k.tables (all_names names))
defined k (token name bits order fields) =
    with_tables k (token_step k.tables name bits order fields)
defined k (context register fields) = with_tables k (context_step k.tables register fields)
defined k (registers place offset size names) =
    with_tables k (register_step k.tables place offset size (all_names names))

-- a definition or an attached list, but for rule 1; a single member is a list of one
abbrev pub taken : Known → Item → Result Known ℕ
taken k (define d) = defined k d
taken k (attach_list kind names members) =
    with_tables k (attach_step k.tables kind (all_names names) members)
taken k (attach_one kind names member) =
    with_tables k (attach_step k.tables kind (all_names names) (member ∷ []))
taken k _ = Ok k

-- an item with rule 1, and the other rules of definitions and attached lists
unfoldable pub definition_step : Known → Item → Result Known ℕ
definition_step k item = begin k (is_endian item) >>= λ next. taken next item
