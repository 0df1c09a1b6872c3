-- meaning: what the names of a text are, as its definitions before an item and all its tables tell.
use Rattle.std.specs.Prelude.{ℕ, ◌+◌, ◌-◌, ◌&&◌, ◌||◌, List, [], ◌∷◌, ◌++◌, codes, drop, find, nat_lt}
use Rattle.std.specs.Prelude.{Bool, true, false, not, Option, Some, None, if◌then◌else◌}
use Rattle.std.specs.List.{list_any}
use Rattle.std.specs.Str.{bytes_eq}
use Rattle.sl_explain_names.specs.TokenKinds.{has_after, has_before, has_here, is_word_at}
use Rattle.sl_explain_names.specs.declared.names.Kind.{Kind}
use Rattle.sl_explain_names.specs.declared.names.Kind.TheVariants as kind
use Rattle.sl_explain_names.specs.declared.names.Mention.{Mention}
use Rattle.sl_explain_names.specs.declared.names.Role.{Role}
use Rattle.sl_explain_names.specs.declared.names.Role.TheVariants as role
use Rattle.sl_lex.specs.Modes.{next_mode}
use Rattle.sl_lex.specs.Reading.{Token}
use Rattle.sl_lex.specs.declared.mode.Mode.{Mode}
use Rattle.sl_lex.specs.declared.mode.Mode.TheVariants as mode

-- ---- the tokens that say what a name is

-- how many of these tokens stand before one with these bytes
abbrev pub steps_to : (text : List ℕ) → List Token → ℕ
steps_to text [] = 0
steps_to text (t ∷ ts) = if bytes_eq t.text text then 0 else 1 + steps_to text ts

-- how many stand from this index on before one
abbrev pub count_up_to : List Token → (index : ℕ) → (text : List ℕ) → ℕ
count_up_to ts index text = steps_to text (drop index ts)

-- whether a token with these bytes stands from the first index on before the second
abbrev pub stands_between : List Token → (text : List ℕ) → (index behind : ℕ) → Bool
stands_between ts text index behind = nat_lt index behind && nat_lt (count_up_to ts index text) (behind - index)

-- whether NAME `=` `(` begins here, as a field does
abbrev pub begins_field : List Token → (index : ℕ) → Bool
begins_field ts index = has_after ts index 1 (codes "=") && has_after ts index 2 (codes "(")

-- the registers of a definition: each name behind the size but `_`
abbrev pub is_register_name : List Token → (head index : ℕ) → Bool
is_register_name ts head index =
    has_after ts head 2 (codes "offset") && (is_word_at ts index && (not (has_before ts index 1 (codes "define"))
    && (not (has_here ts index (codes "offset")) && (not (has_here ts index (codes "size")) && not (has_here ts index (codes "_"))))))

abbrev pub role_if : Bool → Role → Option Role
role_if b role = if b then Some role else None

abbrev pub token_role : List Token → (index : ℕ) → Option Role
token_role ts index =
    if has_before ts index 1 (codes "token") then Some (role.Defines kind.Token) else role_if (begins_field ts index) (role.Defines kind.Field)

abbrev pub context_role : List Token → (index : ℕ) → Option Role
context_role ts index =
    if has_before ts index 1 (codes "context") then Some role.Context
    else role_if (begins_field ts index) (role.Defines kind.ContextField)

-- what the token of an index is in a space's definition: its name, or `default`
abbrev pub space_role : List Token → (index : ℕ) → Option Role
space_role ts index =
    if has_before ts index 1 (codes "space") then Some (role.Defines kind.Space) else role_if (has_here ts index (codes "default")) role.Default

abbrev pub operation_role : List Token → (index : ℕ) → Option Role
operation_role ts index =
    role_if (is_word_at ts index && not (has_here ts index (codes "pcodeop"))) (role.Defines kind.UserOperation)

-- by the word after `define`
abbrev pub defined_role : List Token → (head index : ℕ) → Option Role
defined_role ts head index =
    if has_after ts head 1 (codes "space") then space_role ts index
    else if has_after ts head 1 (codes "bitrange") then role_if (has_after ts index 1 (codes "=")) (role.Defines kind.BitRange)
    else if has_after ts head 1 (codes "pcodeop") then operation_role ts index
    else if has_after ts head 1 (codes "token") then token_role ts index
    else if has_after ts head 1 (codes "context") then context_role ts index
    else if has_after ts head 1 (codes "alignment") then role_if (has_here ts index (codes "alignment")) role.Alignment
    else role_if (is_register_name ts head index) (role.Defines kind.Register)

-- the fields to which an item attaches: the name behind the kind, or those in the first brackets
abbrev pub is_attached : List Token → (head index : ℕ) → Bool
is_attached ts head index =
    is_word_at ts index && (has_before ts index 2 (codes "attach")
    || (has_after ts head 2 (codes "[") && (not (has_before ts index 1 (codes "attach"))
    && not (stands_between ts (codes "]") head index))))

abbrev pub attached_role : List Token → (head index : ℕ) → Option Role
attached_role ts head index =
    role_if (is_attached ts head index) (if has_after ts head 1 (codes "variables") then role.AttachedToRegisters else role.Attached)

-- in an item that ends with a semicolon, by its first word
abbrev pub plain_role : List Token → (head index : ℕ) → Option Role
plain_role ts head index =
    if has_here ts head (codes "attach") then attached_role ts head index else defined_role ts head index

-- between items: a name with a colon after it is a table
abbrev pub top_role : List Token → (index : ℕ) → Option Role
top_role ts index =
    role_if (is_word_at ts index && (has_after ts index 1 (codes ":") && not (has_here ts index (codes "with")))) (role.Defines kind.Table)

-- in the head of a block: a name after `with` is a table
abbrev pub head_role : List Token → (index : ℕ) → Option Role
head_role ts index = role_if (is_word_at ts index && has_before ts index 1 (codes "with")) (role.Defines kind.Table)

abbrev pub body_role : List Token → (index : ℕ) → Option Role
body_role ts index = role_if (has_before ts index 1 (codes "macro")) (role.Defines kind.Macro)

-- by the mode of the token
abbrev pub role_in : Mode → List Token → (head index : ℕ) → Option Role
role_in mode.Top ts head index = top_role ts index
role_in mode.Head ts head index = head_role ts index
role_in mode.Plain ts head index = plain_role ts head index
role_in mode.Body ts head index = body_role ts index
role_in mode.Display ts head index = None
role_in mode.Pattern ts head index = None

-- the first token of the item in which a token of this mode is, where the one before it was in the item of this first token
abbrev pub head_in : Mode → (head index : ℕ) → ℕ
head_in mode.Top head index = index
head_in mode.Head head index = head
head_in mode.Plain head index = head
head_in mode.Body head index = head
head_in mode.Display head index = head
head_in mode.Pattern head index = head

abbrev pub mentioned : (head index : ℕ) → Option Role → List Mention
mentioned head index None = []
mentioned head index (Some role) = record { index = index; head = head; role = role } ∷ []

-- the tokens that say what names are, from this index on, where these tokens are left of all
abbrev pub mentions_from : List Token → Mode → (head index : ℕ) → List Token → List Mention
mentions_from ts m head index [] = []
mentions_from ts m head index (t ∷ left) =
    mentioned (head_in m head index) index (role_in m ts (head_in m head index) index)
    ++ mentions_from ts (next_mode m t.text) (head_in m head index) (index + 1) left

abbrev pub mentions : List Token → List Mention
mentions ts = mentions_from ts mode.Top 0 0 ts

-- ---- what a name is

-- Words that no definition may take: the names that are there from the start, the words of the grammar, and the functions.
unfoldable pub reserved_words : List (List ℕ)
reserved_words =
    codes "const" ∷ codes "unique" ∷ codes "instruction" ∷ codes "inst_start" ∷ codes "inst_next"
    ∷ codes "inst_next2" ∷ codes "epsilon"
    ∷ codes "define" ∷ codes "attach" ∷ codes "endian" ∷ codes "big" ∷ codes "little"
    ∷ codes "alignment" ∷ codes "space" ∷ codes "type" ∷ codes "size" ∷ codes "wordsize"
    ∷ codes "default" ∷ codes "bitrange" ∷ codes "pcodeop" ∷ codes "token" ∷ codes "context"
    ∷ codes "offset" ∷ codes "signed" ∷ codes "hex" ∷ codes "dec" ∷ codes "noflow"
    ∷ codes "variables" ∷ codes "names" ∷ codes "values" ∷ codes "macro" ∷ codes "is"
    ∷ codes "unimpl" ∷ codes "globalset" ∷ codes "with" ∷ codes "local" ∷ codes "goto" ∷ codes "if"
    ∷ codes "call" ∷ codes "return" ∷ codes "build" ∷ codes "export"
    ∷ codes "carry" ∷ codes "scarry" ∷ codes "sborrow" ∷ codes "zext" ∷ codes "sext"
    ∷ codes "popcount" ∷ codes "lzcount" ∷ codes "nan" ∷ codes "abs" ∷ codes "sqrt"
    ∷ codes "int2float" ∷ codes "float2float" ∷ codes "trunc" ∷ codes "ceil" ∷ codes "floor"
    ∷ codes "round" ∷ codes "cpool" ∷ codes "newobject" ∷ []

unfoldable pub is_reserved : List ℕ → Bool
is_reserved name = list_any (λ w. bytes_eq name w) reserved_words

abbrev pub is_definition : Role → Bool
is_definition (role.Defines kind) = true
is_definition _ = false

abbrev pub is_table_role : Role → Bool
is_table_role (role.Defines kind.Table) = true
is_table_role _ = false

-- a name is defined here, and it is one that is known in an item which begins at this index: the definition stands before it,
-- or the name is that of a table
abbrev pub is_known : List Token → (start : ℕ) → (name : List ℕ) → Mention → Bool
is_known ts start name m =
    is_definition m.role && (has_here ts m.index name && (nat_lt m.index start || is_table_role m.role))

abbrev pub kind_by : Role → Kind
kind_by (role.Defines kind) = kind
kind_by _ = kind.Nothing

abbrev pub kind_in : Option Mention → Kind
kind_in None = kind.Nothing
kind_in (Some m) = kind_by m.role

-- what a name is in an item which begins at this index
abbrev pub kind_known : List Token → List Mention → (start : ℕ) → (name : List ℕ) → Kind
kind_known ts names start name =
    if bytes_eq name (codes "instruction") then kind.Table
    else if is_reserved name then kind.Reserved
    else kind_in (find (is_known ts start name) names)
