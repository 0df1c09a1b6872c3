-- step: how a condition is read without recursion: what has been read of each level of parentheses, and what is still to come.
use Rattle.std.specs.Prelude.{◌≡◌, ℕ, ◌<◌, Bool, true, false, not, List, [], ◌∷◌, reverse, length, Option, Some, None, codes}
use Rattle.std.specs.Global.{Vec}
use Rattle.sl_preproc_directives.specs.Parts.{◌>>=◌, mark_at}
use Rattle.sl_preproc_directives.specs.Definitions.{Values}
use Rattle.sl_preproc_directives.specs.Conditions.{Verdict, turned, joined, tight_at, loose_at, chain_at, level_at, unary_at}
use Rattle.sl_preproc_directives.specs.declared.condition.Level.{Level}
use Rattle.sl_preproc_directives.specs.declared.condition.Step.{Step}
use Rattle.sl_preproc_directives.specs.declared.condition.Step.TheVariants.{Operand, Whole, Malformed}
use Rattle.sl_preproc_directives.specs.declared.condition.Operator.{Operator}
use Rattle.sl_preproc_directives.specs.declared.condition.Operator.TheVariants.{And, Or}

-- what a reader of the definition gives: what a part says, and what stands behind it
abbrev pub Read : Type 0
Read = Option (Verdict × List ℕ)

-- a level of which nothing has been read: `false ||` and `true &&` in front change nothing
abbrev pub new_level : Level
new_level = record { either = Some false; left = Some true; operator = And; negated = false }

-- one `!` more
abbrev pub flipped : Level → Level
flipped l = record { either = l.either; left = l.left; operator = l.operator; negated = not l.negated }

abbrev pub signed : Bool → Verdict → Verdict
signed true v = turned v
signed false v = v

-- what an operand says with the `!` and the tight operators in front of it
abbrev pub product : Level → Verdict → Verdict
product l v = joined l.operator l.left (signed l.negated v)

-- and with the `||` in front of that
abbrev pub whole : Level → Verdict → Verdict
whole l v = joined Or l.either (product l v)

-- the level behind an operand and a tight operator, and behind an operand and `||`
abbrev pub tight_next : Level → Verdict → Operator → Level
tight_next l v operator = record { either = l.either; left = product l v; operator = operator; negated = false }

abbrev pub loose_next : Level → Verdict → Level
loose_next l v = record { either = whole l v; left = Some true; operator = And; negated = false }

-- the levels round the one that is read, the innermost first
abbrev pub levels_of : Vec Level → List Level
levels_of v = reverse v.items

-- How many parts the definition still counts: round one another, and in a row of either kind of operator.
pub record Room : Type 0 where
  pub depth : ℕ
  pub tight : ℕ
  pub loose : ℕ

-- more than there are bytes
pub record IsEnough (bytes : ℕ) (room : Room) : Type 0 where
  pub depth : bytes < room.depth
  pub tight : bytes < room.tight
  pub loose : bytes < room.loose

-- what a level gives, from what its next operand gives
abbrev pub onward : Values → Room → Level → Read → Read
onward defs room l read =
    (read >>= λ u. chain_at tight_at (unary_at defs room.depth) room.tight (product l u.0) u.1)
    >>= λ t. chain_at loose_at (level_at tight_at (unary_at defs room.depth) room.depth) room.loose (joined Or l.either t.0) t.1

-- a closing parenthesis behind a condition
abbrev pub closed : Read → Read
closed read = read >>= λ v. mark_at (codes ")") v.1 >>= λ rest. Some (v.0, rest)

-- Where the innermost level gives this, and so many bytes are left, the whole condition gives the total.
unfoldable pub Resumes : Values → List Level → ℕ → Read → Read → Type 0
Resumes defs [] bytes read total = read ≡ total
Resumes defs (l ∷ ls) bytes read total = (room : Room) × IsEnough bytes room × Resumes defs ls bytes (onward defs room l (closed read)) total

-- the next operand is read
pub record IsReading (defs : Values) (l : Level) (ls : List Level) (text : List ℕ) (total : Read) : Type 0 where
  pub room : Room
  pub depth : ℕ
  pub deep : length text < depth
  pub enough : IsEnough (length text) room
  pub resumes : Resumes defs ls (length text) (onward defs room l (unary_at defs depth text)) total

-- an operand has been read, and says this
pub record IsBehind (defs : Values) (l : Level) (ls : List Level) (verdict : Verdict) (text : List ℕ) (total : Read) : Type 0 where
  pub room : Room
  pub enough : IsEnough (length text) room
  pub resumes : Resumes defs ls (length text) (onward defs room l (Some (verdict, text))) total

-- no operator follows an operand
abbrev pub EndsLevel : Level → Verdict → List ℕ → Type 0
EndsLevel l verdict text = (defs : Values) (ls : List Level) (total : Read) → IsBehind defs l ls verdict text total
    → Resumes defs ls (length text) (Some (whole l verdict, text)) total

-- an operator follows, and this level and text are read behind it
abbrev pub GoesOn : Level → Verdict → List ℕ → Level → List ℕ → Type 0
GoesOn l verdict text next rest = (defs : Values) (ls : List Level) (total : Read) → IsBehind defs l ls verdict text total → IsReading defs next ls rest total

-- what a step leaves to be read, or the total
abbrev pub Leaves : Values → List Level → List ℕ → Read → Step → Type 0
Leaves defs ls text total (Operand l rest) = IsReading defs l ls rest.now total × (length rest.now < length text)
Leaves defs ls text total (Whole verdict rest) = total ≡ Some (verdict, rest.now)
Leaves defs ls text total Malformed = total ≡ None
