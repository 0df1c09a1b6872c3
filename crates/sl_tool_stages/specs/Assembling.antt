-- meaning: the stages from a sound specification to where an instruction, or an edited listing, is
-- assembled.
use Rattle.std.specs.Prelude.{◌≡◌, ℕ, ◌%◌, ◌^◌, ◌<◌, ◌≤◌, ◌⊎◌, Bool, false, List, Ok, Err}
use Rattle.sl_asm_encodings.specs.Encodings.{HasNoActions, IsFirstWithAction}
use Rattle.sl_bind_compile.specs.Outcomes.{all_constructors}
use Rattle.sl_decode_meaning.specs.Actions.{address_bytes}
use Rattle.sl_tool_contexts.specs.Words.{starting_context}
use Rattle.sl_tool_request.specs.Requests.{Assembly, Field, Patch}
use Rattle.sl_tool_stages.specs.Places.{place_of_ctor}
use Rattle.sl_tool_stages.specs.Problems.{refusal_at, refusal_of_base}
use Rattle.sl_tool_stages.specs.Stage.{Stage, Then}
use Rattle.sl_tool_stages.specs.Stages.{opened}
use Rattle.sl_tool_stages.specs.Values.{Compiled}
use Rattle.sl_tool_stages.specs.declared.problem.Problem.TheVariants.{HasActions, Misaligned, ValueOutOfRange}
use Rattle.sl_tool_stages.specs.declared.refusal.Refusal.{Refusal}

-- No constructor has an action where none may have one, or the first that has one is refused.
abbrev pub Permits : (takes_actions : Bool) → Stage Refusal Compiled Compiled
Permits takes_actions c (Ok same) = (same ≡ c) × (takes_actions ≡ false → HasNoActions (all_constructors c.tree.items))
Permits takes_actions c (Err x) = (ctor : ℕ) × (takes_actions ≡ false) × IsFirstWithAction (all_constructors c.tree.items) ctor
    × (x ≡ refusal_at (place_of_ctor c ctor) HasActions)

-- how many addresses the default space has
abbrev pub addresses_of : Compiled → ℕ
addresses_of c = 256 ^ address_bytes c.tables

-- The base is an address of the default space and a multiple of the alignment, or the first of these that it isn't is told.
abbrev pub Bases : Assembly → Stage Refusal Compiled Compiled
Bases a c (Ok same) = (same ≡ c) × (a.base < addresses_of c) × (a.base % c.tables.alignment ≡ 0)
Bases a c (Err x) = ((addresses_of c ≤ a.base) × (x ≡ refusal_of_base ValueOutOfRange))
    ⊎ ((a.base < addresses_of c) × (1 ≤ a.base % c.tables.alignment) × (x ≡ refusal_of_base Misaligned))

-- The context there, which the words give.
abbrev pub Opens : (context : List Field) → Stage Refusal Compiled ℕ
Opens context c r = r ≡ opened (starting_context c.tables context)

-- The context in which an instruction is assembled, where it is to be.
abbrev pub Begins : Assembly → Stage Refusal Compiled ℕ
Begins a = Then (Then (Permits a.takes_actions) (Bases a)) (Opens a.context)

-- The context where no commit of an edited listing counts, where that is to be assembled.
abbrev pub BeginsLines : Patch → Stage Refusal Compiled ℕ
BeginsLines p = Then (Permits p.takes_actions) (Opens p.context)
