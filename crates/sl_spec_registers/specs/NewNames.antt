-- meaning: rule 3, new names.
use Rattle.std.specs.Prelude.{Bool, not, ◌&&◌, ◌||◌, List, [], ◌∷◌, codes}
use Rattle.std.specs.List.{list_all}
use Rattle.sl_spec_rules.specs.Names.{Name, are_distinct, is_among}
use Rattle.sl_spec.specs.Named.{has_name}
use Rattle.sl_spec.specs.declared.tables.Tables.{Tables}

-- Words that no definition may take: the names that are there from the start, the words of the
-- grammar, and the functions.
unfoldable pub reserved_words : List Name
reserved_words =
    codes "const" ∷ codes "unique" ∷ codes "instruction" ∷ codes "inst_start" ∷ codes "inst_next"
    ∷ codes "inst_next2" ∷ codes "epsilon"
    ∷ codes "define" ∷ codes "attach" ∷ codes "endian" ∷ codes "big" ∷ codes "little"
    ∷ codes "alignment" ∷ codes "space" ∷ codes "type" ∷ codes "size" ∷ codes "wordsize"
    ∷ codes "default" ∷ codes "bitrange" ∷ codes "pcodeop" ∷ codes "token" ∷ codes "context"
    ∷ codes "offset" ∷ codes "signed" ∷ codes "hex" ∷ codes "dec" ∷ codes "noflow"
    ∷ codes "variables" ∷ codes "names" ∷ codes "values" ∷ codes "macro" ∷ codes "is"
    ∷ codes "unimpl" ∷ codes "globalset" ∷ codes "with" ∷ codes "local" ∷ codes "goto" ∷ codes "if"
    ∷ codes "call" ∷ codes "return" ∷ codes "build" ∷ codes "export"
    ∷ codes "carry" ∷ codes "scarry" ∷ codes "sborrow" ∷ codes "zext" ∷ codes "sext"
    ∷ codes "popcount" ∷ codes "lzcount" ∷ codes "nan" ∷ codes "abs" ∷ codes "sqrt"
    ∷ codes "int2float" ∷ codes "float2float" ∷ codes "trunc" ∷ codes "ceil" ∷ codes "floor"
    ∷ codes "round" ∷ codes "cpool" ∷ codes "newobject" ∷ []

-- whether the name is one of a space, a register, a bit range, a user operation, a token, a field, a
-- macro or a table
abbrev pub is_defined : Tables → Name → Bool
is_defined t name =
    has_name (λ s. s.name) name t.spaces || (has_name (λ r. r.name) name t.registers
    || (has_name (λ r. r.name) name t.bitranges || (has_name (λ u. u.name) name t.userops
    || (has_name (λ k. k.name) name t.tokens || (has_name (λ f. f.name) name t.fields
    || (has_name (λ m. m.name) name t.macros || has_name (λ b. b.name) name t.tables))))))

-- 3: a defined name is new, and no reserved word
abbrev pub is_new : Tables → Name → Bool
is_new t name = not (is_among reserved_words name) && not (is_defined t name)

-- 3, of several names of one item: each is new, and no two are the same
unfoldable pub are_new : Tables → List Name → Bool
are_new t names = list_all (is_new t) names && are_distinct names
