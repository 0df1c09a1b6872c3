-- meaning: the first part of a section whose sizes are at fault, the macros that it calls taken out call by call.
use Rattle.std.specs.Prelude.{ℕ, zero, suc, ◌==◌, ◌&&◌, ◌||◌, List, [], ◌∷◌, ◌++◌, codes, drop, find, length, take}
use Rattle.std.specs.Prelude.{Bool, true, false, not, Option, Some, None, if◌then◌else◌}
use Rattle.sl_explain_heads.specs.Words.{text_at}
use Rattle.sl_explain_names.specs.Culprits.{item_at}
use Rattle.sl_explain_names.specs.Items.{Item, begins_statement, is_assigned, is_declared, is_free, is_macro, is_operand, is_parameter}
use Rattle.sl_explain_names.specs.Items.{is_parameter_place, is_section, kind_of, name_at}
use Rattle.sl_explain_names.specs.Names.{is_known}
use Rattle.sl_explain_names.specs.TokenKinds.{has_after, number_after}
use Rattle.sl_explain_names.specs.declared.names.Mention.{Mention}
use Rattle.sl_explain_names.specs.declared.places.Place.{Place}
use Rattle.sl_explain_sizes.specs.Faults.{fault_of, if_so, or_else, statement_fault}
use Rattle.sl_explain_sizes.specs.Slices.{beyond, extent_of, outside, up_to}
use Rattle.sl_explain_sizes.specs.Values.{inside, is_call, value_of}
use Rattle.sl_explain_sizes.specs.Widths.{Scope, is_bytes, is_untold, named, told}
use Rattle.sl_explain_sizes.specs.declared.faults.Culprit.{Culprit}
use Rattle.sl_explain_sizes.specs.declared.faults.Finding.TheVariants as finding
use Rattle.sl_explain_sizes.specs.declared.faults.Inside.{Inside}
use Rattle.sl_explain_sizes.specs.declared.faults.Wanted.{Wanted}
use Rattle.sl_explain_sizes.specs.declared.faults.Wanted.TheVariants as wanted
use Rattle.sl_explain_sizes.specs.declared.faults.Why.TheVariants as why
use Rattle.sl_explain_sizes.specs.declared.widths.NamedWidth.{NamedWidth}
use Rattle.sl_explain_sizes.specs.declared.widths.Width.{Width}
use Rattle.sl_explain_sizes.specs.declared.widths.Width.TheVariants as width
use Rattle.sl_lex.specs.Reading.{Token}

-- ---- locals

abbrev pub scope_of : Item → List NamedWidth → Scope
scope_of i known = record { item = i; known = known }

-- the value behind the `=` that stands after the name which begins these tokens
abbrev pub value_after : List Token → List Token
value_after ts = up_to (codes ";") (drop 2 ts)

-- the size that a local has by this place: the written one, or that of its value
abbrev pub local_width : Scope → List Token → Width
local_width s ts =
    if has_after ts 0 1 (codes ":") then told (number_after ts 0 2)
    else if has_after ts 0 1 (codes "=") then (value_of s (value_after ts)).width
    else width.Untold

abbrev pub makes_local : Item → Place → Bool
makes_local i p = is_declared i p || is_assigned i p

-- the width that the name of this place gets here, where nothing before tells it
abbrev pub new_width : Scope → Place → Width
new_width s p =
    if makes_local s.item p && is_untold (named s (name_at s.item p)) then local_width s (drop p.index s.item.tokens) else width.Untold

abbrev pub named_at : Place → Width → List NamedWidth
named_at p w = if is_bytes w then record { index = p.index; width = w } ∷ [] else []

abbrev pub local_at : Scope → Place → List NamedWidth
local_at s p = named_at p (new_width s p)

-- the names that are known, and behind them the locals that these places give a size
abbrev pub known_from : Item → List NamedWidth → List Place → List NamedWidth
known_from i known [] = known
known_from i known (p ∷ ps) = known_from i (known ++ local_at (scope_of i known) p) ps

abbrev pub section_scope : Item → (given : List NamedWidth) → Scope
section_scope i given = scope_of i (known_from i given i.places)

-- ---- calls of macros

abbrev pub first_argument : List Token → List Token
first_argument ts = take (outside (codes ",") ts) ts

abbrev pub later_arguments : List Token → List Token
later_arguments ts = beyond (outside (codes ",") ts) ts

-- An argument that isn't a name or an integer is a local of the call.
abbrev pub argument_width : Width → Width
argument_width (width.Bytes size) = width.Bytes size
argument_width width.Number = width.Number
argument_width width.Open = width.Untold
argument_width width.Untold = width.Untold

-- the parameters among these places of a macro, with the widths of the arguments
abbrev pub given_from : Scope → (macro : Item) → (arguments : List Token) → List Place → List NamedWidth
given_from s m ts [] = []
given_from s m ts (p ∷ ps) =
    if is_parameter_place m p
    then record { index = p.index; width = argument_width (value_of s (first_argument ts)).width } ∷ given_from s m (later_arguments ts) ps
    else given_from s m ts ps

-- the macro that a statement calls
abbrev pub macro_of : Item → List Token → Option Mention
macro_of i ts =
    if is_call ts && is_macro (kind_of i (text_at ts 0)) then find (is_known i.tokens i.start (text_at ts 0)) i.names else None

abbrev pub is_none : Option Culprit → Bool
is_none None = true
is_none (Some c) = false

-- Where a call is told: at its arguments, and where there are none at its name.
abbrev pub call_tokens : List Token → List Token
call_tokens ts = if length (inside ts) == 0 then take 1 ts else inside ts

-- the innermost macro, with the byte
abbrev pub inside_by : Option Inside → (of byte : ℕ) → Inside
inside_by None of byte = record { of = of; byte = byte }
inside_by (Some i) of byte = i

abbrev pub called : (of : ℕ) → List Token → Option Culprit → Option Culprit
called of ts None = None
called of ts (Some c) = Some (record {
  extent = extent_of (call_tokens ts);
  finding = c.finding;
  inside = Some (inside_by c.inside of c.extent.byte);
})

-- What isn't looked at may tie anything.
abbrev pub too_deep : Wanted → List Token → Option Culprit
too_deep (wanted.Ties size) ts = if_so true (extent_of ts) finding.Tied
too_deep wanted.Clash ts = None
too_deep wanted.Unfixed ts = None

-- ---- sections

-- the statement that begins at an index
abbrev pub statement_at : Item → (index : ℕ) → List Token
statement_at i index = up_to (codes ";") (drop index i.tokens)

abbrev pub begins_in_section : Item → Place → Bool
begins_in_section i p = is_section p.part && begins_statement i p

module _ (w : Wanted) where
  -- what a statement does, where this says what a macro's section does with its arguments
  abbrev pub called_by : (Item → List NamedWidth → Option Culprit) → Scope → List Token → Mention → Option Culprit
  called_by section s ts m =
      called m.index ts (section (item_at s.item.tokens m.head)
      (given_from s (item_at s.item.tokens m.head) (inside ts) (item_at s.item.tokens m.head).places))

  abbrev pub statement_by : (Scope → List Token → Mention → Option Culprit) → Scope → List Token → Option Mention → Option Culprit
  statement_by call s ts None = statement_fault w s ts
  statement_by call s ts (Some m) = or_else (fault_of w s (inside ts)) (call s ts m)

  abbrev pub place_by : (Scope → List Token → Mention → Option Culprit) → Scope → Place → Option Culprit
  place_by call s p =
      if begins_in_section s.item p
      then statement_by call s (statement_at s.item p.index) (macro_of s.item (statement_at s.item p.index)) else None

  -- the first of these places at which a statement begins that is at fault
  abbrev pub places_by : (Scope → List Token → Mention → Option Culprit) → Scope → List Place → Option Culprit
  places_by call s [] = None
  places_by call s (p ∷ ps) = or_else (place_by call s p) (places_by call s ps)

  -- the first statement at fault of a section or of a macro whose parameters have these widths
  abbrev pub section_by : (Scope → List Token → Mention → Option Culprit) → Item → (given : List NamedWidth) → Option Culprit
  section_by call i given = places_by call (section_scope i given) i.places

  -- calls of macros in one another, at most so many levels
  unfoldable pub call_in : (levels : ℕ) → Scope → List Token → Mention → Option Culprit
  call_in zero s ts m = too_deep w ts
  call_in (suc levels) s ts m = called_by (section_by (call_in levels)) s ts m

-- No macro is looked into that is deeper in calls.
abbrev pub most_levels : ℕ
most_levels = 16

abbrev pub section_fault : Wanted → Item → (given : List NamedWidth) → Option Culprit
section_fault w i given = section_by w (call_in w most_levels) i given

-- ---- locals whose size nothing says

-- No part of the section ties the name of this place, with so many bytes, to what has another size or may have.
abbrev pub is_loose : Item → Place → (size : ℕ) → Bool
is_loose i p size = is_none (section_fault (wanted.Ties size) i (record { index = p.index; width = width.Bytes size } ∷ []))

-- It is that of a local which may have one of two sizes that nothing else has.
abbrev pub is_unsaid_local : Scope → Place → Bool
is_unsaid_local s p =
    makes_local s.item p && (is_untold (named s (name_at s.item p)) && (is_free (kind_of s.item (name_at s.item p))
    && (not (is_operand s.item (name_at s.item p)) && not (is_parameter s.item (name_at s.item p)))))

abbrev pub is_loose_local : Item → Scope → Place → Bool
is_loose_local i s p = is_unsaid_local s p && (is_loose i p 13 && is_loose i p 15)

abbrev pub name_tokens : Item → Place → List Token
name_tokens i p = take 1 (drop p.index i.tokens)

-- the first of these places with such a local
abbrev pub loose_in : Item → Scope → List Place → Option Culprit
loose_in i s [] = None
loose_in i s (p ∷ ps) =
    or_else (if_so (is_loose_local i s p) (extent_of (name_tokens i p)) (finding.Unsaid (extent_of (name_tokens i p)) why.Local))
    (loose_in i s ps)

-- ---- the culprit

abbrev pub clash_in : Item → Option Culprit
clash_in i = section_fault wanted.Clash i []

abbrev pub unfixed_in : Item → Option Culprit
unfixed_in i = or_else (loose_in i (section_scope i []) i.places) (section_fault wanted.Unfixed i [])

-- The part of the section of the item whose first token has this index whose sizes clash, where one can be told.
unfoldable pub clash_culprit : List Token → (start : ℕ) → Option Culprit
clash_culprit ts start = clash_in (item_at ts start)

-- The part of it of which nothing says the size.
unfoldable pub unfixed_culprit : List Token → (start : ℕ) → Option Culprit
unfixed_culprit ts start = unfixed_in (item_at ts start)
