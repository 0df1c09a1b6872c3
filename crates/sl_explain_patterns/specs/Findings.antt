-- meaning: the part of a pattern that has its fault, as far as the tokens of a text tell: a value that its field never has, and
-- fields of two tokens that are joined by `&`.
use Rattle.std.specs.Prelude.{ℕ, ◌+◌, ◌-◌, ◌^◌, ◌==◌, ◌&&◌, ◌||◌, List, [], ◌∷◌, codes, drop, find, min, nat_lt}
use Rattle.std.specs.Prelude.{Bool, not, Option, Some, None, if◌then◌else◌, slice_get}
use Rattle.std.specs.Str.{bytes_eq}
use Rattle.sl_explain_heads.specs.Words.{text_at}
use Rattle.sl_explain_names.specs.Culprits.{item_at}
use Rattle.sl_explain_names.specs.Definitions.{times_in}
use Rattle.sl_explain_names.specs.Items.{Item, is_context_field, is_pattern_name, is_token_field, kind_of, name_at}
use Rattle.sl_explain_names.specs.Names.{is_known}
use Rattle.sl_explain_names.specs.TokenKinds.{has_after, has_before, has_kind, is_integer, number_after, text_after}
use Rattle.sl_explain_names.specs.declared.names.Kind.{Kind}
use Rattle.sl_explain_names.specs.declared.names.Mention.{Mention}
use Rattle.sl_explain_names.specs.declared.places.Place.{Place}
use Rattle.sl_explain_patterns.specs.declared.findings.Chain.{Chain}
use Rattle.sl_explain_patterns.specs.declared.findings.Chain.TheVariants as chain
use Rattle.sl_explain_patterns.specs.declared.findings.Culprit.{Culprit}
use Rattle.sl_explain_patterns.specs.declared.findings.Finding.{Finding}
use Rattle.sl_explain_patterns.specs.declared.findings.Finding.TheVariants as finding
use Rattle.sl_lex.specs.Reading.{Token}

-- the definition of a name, as it is known in an item
abbrev pub definition_of : Item → (name : List ℕ) → Option Mention
definition_of i name = find (is_known i.tokens i.start name) i.names

-- ---- a value that a field never has

-- the bits of the field that is defined at this index, less 1
abbrev pub width_at : List Token → (index : ℕ) → ℕ
width_at ts index = number_after ts index 5 - number_after ts index 3

abbrev pub is_signed_at : List Token → (index : ℕ) → Bool
is_signed_at ts index = nat_lt 0 (times_in (codes "signed") (drop 7 (drop index ts)))

-- the bits of its greatest value, 2^64 - 1 at most: one less where it is signed
abbrev pub value_bits : List Token → (index : ℕ) → ℕ
value_bits ts index = if is_signed_at ts index then width_at ts index else min (width_at ts index + 1) 18446744073709551615

-- of fields with 2^64 values or more nothing is told
abbrev pub is_past : (bits value : ℕ) → Bool
is_past bits value = nat_lt bits 64 && not (nat_lt value (2 ^ bits))

-- `NAME = INTEGER`, and then the constraint ends
abbrev pub ends_constraint : (text : List ℕ) → Bool
ends_constraint text =
    bytes_eq text (codes "&") || (bytes_eq text (codes ";") || (bytes_eq text (codes "|") || (bytes_eq text (codes ")")
    || (bytes_eq text (codes "...") || (bytes_eq text (codes "[") || (bytes_eq text (codes "{") || bytes_eq text (codes "unimpl")))))))

abbrev pub has_value : Item → Place → Bool
has_value i p =
    is_pattern_name i p && (has_after i.tokens p.index 1 (codes "=")
    && (has_kind is_integer (slice_get (drop p.index i.tokens) 2) && ends_constraint (text_after i.tokens p.index 3)))

abbrev pub value_finding : List Token → (value : ℕ) → Option Mention → Option Finding
value_finding ts value None = None
value_finding ts value (Some m) =
    if is_past (value_bits ts m.index) value then Some (finding.Values (value_bits ts m.index) (is_signed_at ts m.index)) else None

abbrev pub never_finding : Item → Place → Option Finding
never_finding i p =
    if has_value i p then value_finding i.tokens (number_after i.tokens p.index 2) (definition_of i (name_at i p)) else None

abbrev pub culprit_by : (index : ℕ) → Option Finding → (later : Option Culprit) → Option Culprit
culprit_by index None later = later
culprit_by index (Some f) later = Some (record { index = index; finding = f })

-- the first of these places with such a value
abbrev pub never_in : Item → List Place → Option Culprit
never_in i [] = None
never_in i (p ∷ ps) = culprit_by p.index (never_finding i p) (never_in i ps)

-- ---- fields of two tokens joined by `&`

-- after a name of this kind, which is a field of the token that is defined from this index on, where it is one
abbrev pub chain_after : Chain → Kind → Option Mention → Chain
chain_after c k None = chain.Unknown
chain_after c k (Some m) =
    if is_token_field k then chain.Of m.head else if is_context_field k then c else chain.Unknown

-- the parts joined by `&` so far hold a field of another token
abbrev pub differs : Chain → Kind → Option Mention → Option Finding
differs (chain.Of left) k (Some m) =
    if is_token_field k && not (left == m.head) then Some (finding.Tokens left m.head) else None
differs _ k m = None

-- brackets, `;`, `|` and `...` end what is joined by `&`, and so does a part's beginning
abbrev pub ends_chain : (text : List ℕ) → Bool
ends_chain text =
    bytes_eq text (codes ";") || (bytes_eq text (codes "|") || (bytes_eq text (codes "is") || bytes_eq text (codes ":")))

abbrev pub hides_chain : (text : List ℕ) → Bool
hides_chain text = bytes_eq text (codes "(") || (bytes_eq text (codes ")") || bytes_eq text (codes "..."))

abbrev pub chain_at_mark : Chain → (text : List ℕ) → Chain
chain_at_mark c text = if ends_chain text then chain.Empty else if hides_chain text then chain.Unknown else c

abbrev pub chain_at : Item → Chain → Place → Chain
chain_at i c p =
    if is_pattern_name i p then chain_after c (kind_of i (name_at i p)) (definition_of i (name_at i p))
    else chain_at_mark c (text_at i.tokens p.index)

abbrev pub joined_finding : Item → Chain → Place → Option Finding
joined_finding i c p =
    if is_pattern_name i p && has_before i.tokens p.index 1 (codes "&")
    then differs c (kind_of i (name_at i p)) (definition_of i (name_at i p)) else None

-- the first `&` that joins fields of two tokens, among these places
abbrev pub joined_in : Item → Chain → List Place → Option Culprit
joined_in i c [] = None
joined_in i c (p ∷ ps) = culprit_by (p.index - 1) (joined_finding i c p) (joined_in i (chain_at i c p) ps)

-- ---- the culprit

-- The part of the pattern of the item whose first token has this index that nothing matches.
unfoldable pub never_culprit : List Token → (start : ℕ) → Option Culprit
never_culprit ts start = never_in (item_at ts start) (item_at ts start).places

-- The operator that joins two tokens in it.
unfoldable pub joined_culprit : List Token → (start : ℕ) → Option Culprit
joined_culprit ts start = joined_in (item_at ts start) chain.Empty (item_at ts start).places
