-- law: nesting by counting over the symbols alone, and the laws of limits by it.
use Rattle.std.specs.Prelude.{◌≡◌, ℕ, zero, suc, nat_lt, Bool, true, false, if◌then◌else◌, List, [], ◌∷◌, ◌++◌, Option, None, Some}
use Rattle.sl_ast.specs.Spelling.{spell}
use Rattle.sl_ast.specs.Symbols.{quoted, Sym, word, mark}
use Rattle.sl_ast.specs.Trees.{Item}
use Rattle.sl_ast.specs.Validity.{AreItems, AreItemsWithin, heaviest, deepest}
use Rattle.sl_ast.specs.declared.symbols.Keyword.TheVariants as k
use Rattle.sl_ast.specs.declared.symbols.Mark.TheVariants as m
use Rattle.sl_parse_grammar.specs.Reasons.{too_deep}
use Rattle.sl_parse_faults.specs.Causes.{Causes}
use Rattle.sl_parse_faults.specs.Forms.{BeginsATree, BeginsAnyTree}

-- Where a count stands among the symbols. A pattern and what follows it have true in the head of a block.
pub data Mode : Type 0 where
  -- between items, in a block too
  Items : Mode
  -- in a definition or an attached list, up to its `;`
  Definition : Mode
  -- behind `macro`, up to its `{`
  Parameters : Mode
  -- behind `with`, up to its `:`
  Head : Mode
  -- up to the word `is`
  Display : Mode
  -- in an outermost pattern that has spent so many, or behind it, up to `[`, `{` or `unimpl`
  Pattern : Bool → ℕ → Mode
  -- in actions, up to `]`
  Actions : Bool → Mode
  -- in an action's expression that has spent so many, up to `;`
  Value : Bool → ℕ → Mode
  -- in a statement, but in no expression of it
  Statement : Mode
  -- behind `goto`, `call` or `return`
  Jump : Mode
  -- behind the star of a statement, in its `[`..`]`, and behind its `:`
  Star : Mode
  Space : Mode
  Size : Mode
  -- in an outermost expression of a statement, inside so many brackets, that has spent so many
  Expression : ℕ → ℕ → Mode

-- how many `with` blocks are open, and where the count stands
abbrev pub State : Type 0
State = ℕ × Mode

-- one more operator or opening bracket, unless 256 are spent
abbrev pub spend : ℕ → ℕ → (ℕ → Mode) → Option State
spend blocks spent mode = if nat_lt spent heaviest then Some (blocks, mode (suc spent)) else None

-- one more `with`, unless it stands inside sixteen
abbrev pub enter_block : ℕ → Option State
enter_block blocks = if nat_lt blocks (suc deepest) then Some (suc blocks, Head) else None

abbrev pub less_one : ℕ → ℕ
less_one zero = zero
less_one (suc n) = n

-- ---- by the mode

abbrev pub in_items : ℕ → Sym → Option State
in_items blocks (word (quoted k.Define)) = Some (blocks, Definition)
in_items blocks (word (quoted k.Attach)) = Some (blocks, Definition)
in_items blocks (word (quoted k.Macro)) = Some (blocks, Parameters)
in_items blocks (word (quoted k.With)) = enter_block blocks
in_items blocks (mark m.Colon) = Some (blocks, Display)
in_items blocks (mark m.CloseBrace) = Some (less_one blocks, Items)
in_items blocks x = Some (blocks, Items)

-- In a pattern all marks count but `)`; its expressions have no others that don't.
abbrev pub in_pattern : ℕ → Bool → ℕ → Sym → Option State
in_pattern blocks head spent (mark m.OpenBracket) = Some (blocks, Actions head)
in_pattern blocks head spent (mark m.OpenBrace) = Some (blocks, if head then Items else Statement)
in_pattern blocks head spent (mark m.Close) = Some (blocks, Pattern head spent)
in_pattern blocks head spent (mark other) = spend blocks spent (Pattern head)
in_pattern blocks head spent (word (quoted k.Unimpl)) = Some (blocks, Items)
in_pattern blocks head spent x = Some (blocks, Pattern head spent)

abbrev pub in_actions : ℕ → Bool → Sym → Option State
in_actions blocks head (mark m.Equals) = Some (blocks, Value head 0)
in_actions blocks head (mark m.CloseBracket) = Some (blocks, Pattern head 0)
in_actions blocks head x = Some (blocks, Actions head)

abbrev pub in_value : ℕ → Bool → ℕ → Sym → Option State
in_value blocks head spent (mark m.Semicolon) = Some (blocks, Actions head)
in_value blocks head spent (mark m.Close) = Some (blocks, Value head spent)
in_value blocks head spent (mark other) = spend blocks spent (Value head)
in_value blocks head spent x = Some (blocks, Value head spent)

-- behind a `,` between arguments of a user operation or a macro another expression begins
abbrev pub behind_comma : ℕ → ℕ → ℕ → Option State
behind_comma blocks zero spent = Some (blocks, Expression 0 0)
behind_comma blocks (suc inside) spent = Some (blocks, Expression (suc inside) spent)

abbrev pub in_expression : ℕ → ℕ → ℕ → Sym → Option State
in_expression blocks inside spent (mark m.Semicolon) = Some (blocks, Statement)
in_expression blocks inside spent (mark m.Equals) = Some (blocks, Expression 0 0)
in_expression blocks inside spent (mark m.Comma) = behind_comma blocks inside spent
in_expression blocks inside spent (mark m.Colon) = Some (blocks, Expression inside spent)
in_expression blocks inside spent (mark m.Close) = Some (blocks, Expression (less_one inside) spent)
in_expression blocks inside spent (mark m.CloseBracket) = Some (blocks, Expression (less_one inside) spent)
in_expression blocks inside spent (mark m.Open) = spend blocks spent (Expression (suc inside))
in_expression blocks inside spent (mark m.OpenBracket) = spend blocks spent (Expression (suc inside))
in_expression blocks inside spent (mark other) = spend blocks spent (Expression inside)
in_expression blocks inside spent (word (quoted k.Goto)) = Some (blocks, Jump)
in_expression blocks inside spent x = Some (blocks, Expression inside spent)

-- Behind `=`, `if` and the `(` of arguments an expression begins.
abbrev pub in_statement : ℕ → Sym → Option State
in_statement blocks (mark m.Equals) = Some (blocks, Expression 0 0)
in_statement blocks (mark m.Open) = Some (blocks, Expression 0 0)
in_statement blocks (mark m.Star) = Some (blocks, Star)
in_statement blocks (mark m.CloseBrace) = Some (blocks, Items)
in_statement blocks (word (quoted k.If)) = Some (blocks, Expression 0 0)
in_statement blocks (word (quoted k.Goto)) = Some (blocks, Jump)
in_statement blocks (word (quoted k.Call)) = Some (blocks, Jump)
in_statement blocks (word (quoted k.Return)) = Some (blocks, Jump)
in_statement blocks x = Some (blocks, Statement)

-- an expression in brackets, or a label or an operand
abbrev pub in_jump : ℕ → Sym → Option State
in_jump blocks (mark m.OpenBracket) = Some (blocks, Expression 0 0)
in_jump blocks x = Some (blocks, Statement)

-- behind the space and the size an expression begins
abbrev pub in_star : ℕ → Sym → Option State
in_star blocks (mark m.OpenBracket) = Some (blocks, Space)
in_star blocks (mark m.Colon) = Some (blocks, Size)
in_star blocks x = in_expression blocks 0 0 x

abbrev pub in_space : ℕ → Sym → Option State
in_space blocks (mark m.CloseBracket) = Some (blocks, Star)
in_space blocks x = Some (blocks, Space)

abbrev pub in_definition : ℕ → Sym → Option State
in_definition blocks (mark m.Semicolon) = Some (blocks, Items)
in_definition blocks x = Some (blocks, Definition)

abbrev pub in_parameters : ℕ → Sym → Option State
in_parameters blocks (mark m.OpenBrace) = Some (blocks, Statement)
in_parameters blocks x = Some (blocks, Parameters)

abbrev pub in_head : ℕ → Sym → Option State
in_head blocks (mark m.Colon) = Some (blocks, Pattern true 0)
in_head blocks x = Some (blocks, Head)

abbrev pub in_display : ℕ → Sym → Option State
in_display blocks (word (quoted k.Is)) = Some (blocks, Pattern false 0)
in_display blocks x = Some (blocks, Display)

-- ---- one symbol, and many

-- the state behind a symbol; there is none where the symbol goes past a limit
abbrev pub step : ℕ → Mode → Sym → Option State
step blocks Items x = in_items blocks x
step blocks Definition x = in_definition blocks x
step blocks Parameters x = in_parameters blocks x
step blocks Head x = in_head blocks x
step blocks Display x = in_display blocks x
step blocks (Pattern head spent) x = in_pattern blocks head spent x
step blocks (Actions head) x = in_actions blocks head x
step blocks (Value head spent) x = in_value blocks head spent x
step blocks Statement x = in_statement blocks x
step blocks Jump x = in_jump blocks x
step blocks Star x = in_star blocks x
step blocks Space x = in_space blocks x
step blocks Size x = Some (blocks, Star)
step blocks (Expression inside spent) x = in_expression blocks inside spent x

abbrev pub going_on : Option State → (State → Option State) → Option State
going_on None go = None
going_on (Some state) go = go state

abbrev pub counted_from : ℕ → Mode → List Sym → Option State
counted_from blocks mode [] = Some (blocks, mode)
counted_from blocks mode (x ∷ xs) = going_on (step blocks mode x) (λ state. counted_from state.0 state.1 xs)

-- the state behind all of them
abbrev pub counted : List Sym → Option State
counted symbols = counted_from 0 Items symbols

-- The symbols are within the limits, and the next one isn't: it counts in an expression or pattern that has spent 256, or
-- is a `with` inside sixteen.
pub record GoesPast (before : List Sym) (x : Sym) : Type 0 where
  pub blocks : ℕ
  pub mode : Mode
  pub is : counted before ≡ Some (blocks, mode)
  pub past : step blocks mode x ≡ None

-- ---- the laws

-- No symbol of a tree within the limits goes past one.
abbrev pub TreesKeepTheCount : Type 0
TreesKeepTheCount = (items : List Item) → AreItems items → counted (spell items) ≡ Some (0, Items)

-- A tree of any limits none of whose symbols goes past one is within the limits.
abbrev pub CountedTreesAreWithin : Type 0
CountedTreesAreWithin = (most deep : ℕ) (items : List Item) (state : State) → AreItemsWithin most deep items
    → counted (spell items) ≡ Some state → AreItems items

-- Where a symbol goes past a limit by counting and some tree goes on with it, that is its fault.
abbrev pub CountedNestingIsAFault : Type 0
CountedNestingIsAFault = (before after : List Sym) (x : Sym) → GoesPast before x → BeginsAnyTree (before ++ x ∷ [])
    → Causes before too_deep (x ∷ after)

-- A symbol that is a fault of nesting, the first one, goes past a limit by counting.
abbrev pub NestingIsCounted : Type 0
NestingIsCounted = (before after : List Sym) (x : Sym) → BeginsATree before → Causes before too_deep (x ∷ after) → GoesPast before x
