-- meaning: the word of an item that breaks a rule: the first in the text's order with which something is wrong.
use Rattle.std.specs.Prelude.{ℕ, ◌==◌, List, [], ◌∷◌, if◌then◌else◌, Option, Some, None}
use Rattle.sl_explain_heads.specs.Heads.{table_of}
use Rattle.sl_explain_heads.specs.Words.{blocks_round}
use Rattle.sl_explain_names.specs.Arguments as arguments
use Rattle.sl_explain_names.specs.Definitions as definitions
use Rattle.sl_explain_names.specs.Items.{Item}
use Rattle.sl_explain_names.specs.Names.{mentions}
use Rattle.sl_explain_names.specs.Patterns as patterns
use Rattle.sl_explain_names.specs.Places.{places_of}
use Rattle.sl_explain_names.specs.Ranges as ranges
use Rattle.sl_explain_names.specs.Sections as sections
use Rattle.sl_explain_names.specs.Sections.{is_of_root}
use Rattle.sl_explain_names.specs.declared.culprits.Culprit.{Culprit}
use Rattle.sl_explain_names.specs.declared.culprits.Test.{Test}
use Rattle.sl_explain_names.specs.declared.culprits.Test.TheVariants as test
use Rattle.sl_explain_names.specs.declared.findings.Finding.{Finding}
use Rattle.sl_explain_names.specs.declared.places.Form.{Form}
use Rattle.sl_explain_names.specs.declared.places.Form.TheVariants as form
use Rattle.sl_explain_names.specs.declared.places.Place.{Place}
use Rattle.sl_lex.specs.Reading.{Token}

-- ---- what each test finds at a place

abbrev pub finding : Item → Test → Place → Option Finding
finding i test.Order p = definitions.order_finding i p
finding i test.Alignment p = definitions.alignment_finding i p
finding i test.NewName p = definitions.new_finding i p
finding i test.SpaceAttributes p = definitions.space_finding i p
finding i test.SecondDefault p = definitions.default_finding i p
finding i test.Registers p = definitions.registers_finding i p
finding i test.RegisterPlaces p = ranges.places_finding i p
finding i test.BitRanges p = ranges.bit_range_finding i p
finding i test.TokenWidth p = definitions.token_finding i p
finding i test.FieldBits p = definitions.field_finding i p
finding i test.ContextParts p = definitions.context_finding i p
finding i test.FieldAttributes p = definitions.attributes_finding i p
finding i test.AttachedFields p = definitions.attached_finding i p
finding i test.Members p = definitions.members_finding i p
finding i test.MemberCount p = definitions.count_finding i p
finding i test.DisplayWords p = patterns.display_finding i p
finding i test.PatternNames p = patterns.pattern_finding i p
finding i test.BareNames p = patterns.twice_finding i p
finding i test.OperandCount p = patterns.operand_finding i p
finding i test.InsideOr p = patterns.inside_finding i p
finding i test.ZeroDivisors p = patterns.zero_finding i p
finding i test.OnlyDivision p = patterns.division_finding i p
finding i test.ActionNames p = patterns.left_finding i p
finding i test.UsedNames p = patterns.used_finding i p
finding i test.ContextSources p = patterns.context_finding i p
finding i test.CommittedFields p = patterns.set_finding i p
finding i test.Addresses p = patterns.address_finding i p
finding i test.ParameterNames p = sections.parameter_finding i p
finding i test.Sizes p = sections.size_finding i p
finding i test.SectionNames p = sections.section_finding i p
finding i test.LeftSides p = sections.left_finding i p
finding i test.AssignedArguments p = arguments.argument_finding i p
finding i test.Labels p = sections.label_finding i p
finding i test.BuiltTwice p = sections.built_finding i p
finding i test.BuiltTables p = sections.build_finding i p
finding i test.LastStatement p = sections.last_finding i p
finding i test.RootExports p = sections.root_finding i p
finding i test.ExportedNames p = sections.export_finding i p
finding i test.ExportedStars p = sections.star_finding i p
finding i test.MacroStatements p = sections.macro_finding i p
finding i test.Calls p = sections.call_finding i p
finding i test.OwnTable p = patterns.itself_finding i p
finding i test.NoBytes p = patterns.start_finding i p

-- The tests of each rule, by its number; one that asks several things has several, in their order.
abbrev pub rule_tests : List (ℕ × Test)
rule_tests =
    (1, test.Order)
    ∷ (2, test.Alignment)
    ∷ (3, test.NewName)
    ∷ (4, test.SpaceAttributes)
    ∷ (5, test.SecondDefault)
    ∷ (6, test.Registers)
    ∷ (7, test.RegisterPlaces)
    ∷ (8, test.BitRanges)
    ∷ (9, test.TokenWidth)
    ∷ (10, test.FieldBits)
    ∷ (11, test.ContextParts)
    ∷ (12, test.FieldAttributes)
    ∷ (13, test.AttachedFields)
    ∷ (14, test.Members)
    ∷ (15, test.MemberCount)
    ∷ (16, test.DisplayWords)
    ∷ (17, test.PatternNames)
    ∷ (18, test.BareNames)
    ∷ (18, test.OperandCount)
    ∷ (19, test.InsideOr)
    ∷ (20, test.ZeroDivisors)
    ∷ (20, test.OnlyDivision)
    ∷ (21, test.ActionNames)
    ∷ (22, test.UsedNames)
    ∷ (23, test.ContextSources)
    ∷ (24, test.CommittedFields)
    ∷ (25, test.Addresses)
    ∷ (26, test.ParameterNames)
    ∷ (26, test.Sizes)
    ∷ (26, test.SectionNames)
    ∷ (27, test.LeftSides)
    ∷ (27, test.AssignedArguments)
    ∷ (28, test.Labels)
    ∷ (29, test.BuiltTwice)
    ∷ (29, test.BuiltTables)
    ∷ (30, test.LastStatement)
    ∷ (30, test.RootExports)
    ∷ (30, test.ExportedNames)
    ∷ (30, test.ExportedStars)
    ∷ (31, test.MacroStatements)
    ∷ (31, test.Calls)
    ∷ (34, test.OwnTable)
    ∷ (35, test.NoBytes)
    ∷ []

-- ---- the culprit

abbrev pub culprit_by : Place → Option Finding → (later : Option Culprit) → Option Culprit
culprit_by p None later = later
culprit_by p (Some f) later = Some (record { index = p.index; finding = f })

-- the first of these places at which a test finds something
abbrev pub first_in : Item → Test → List Place → Option Culprit
first_in i t [] = None
first_in i t (p ∷ ps) = culprit_by p (finding i t p) (first_in i t ps)

abbrev pub or_else : Option Culprit → Option Culprit → Option Culprit
or_else None later = later
or_else (Some c) later = Some c

abbrev pub culprit_in : Item → (rule : ℕ) → List (ℕ × Test) → Option Culprit
culprit_in i rule [] = None
culprit_in i rule (row ∷ rows) =
    if row.0 == rule then or_else (first_in i row.1 i.places) (culprit_in i rule rows) else culprit_in i rule rows

-- the first place at which one of the rule's tests finds something, the tests in their order
unfoldable pub rule_culprit : Item → (rule : ℕ) → Option Culprit
rule_culprit i rule = culprit_in i rule rule_tests

-- ---- the item

-- A constructor of `instruction` has a display that begins with a mnemonic.
abbrev pub form_of : (table : List ℕ) → Form
form_of table = if is_of_root table then form.Root else form.Table

abbrev pub item_with : List Token → (start : ℕ) → (table : List ℕ) → Item
item_with ts start table = record {
  tokens = ts;
  start = start;
  table = table;
  names = mentions ts;
  places = places_of (form_of table) ts (blocks_round ts start) start;
}

-- the item whose first token has this index
unfoldable pub item_at : List Token → (start : ℕ) → Item
item_at ts start = item_with ts start (table_of ts start)

-- the word of the item whose first token has this index that breaks the rule of this number, where one can be told
unfoldable pub culprit : List Token → (start rule : ℕ) → Option Culprit
culprit ts start rule = rule_culprit (item_at ts start) rule
