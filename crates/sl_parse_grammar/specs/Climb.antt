-- law: operators between operands, from the left.
use Rattle.std.specs.Prelude.{ℕ, zero, suc, Option, None, Some}
use Rattle.sl_ast.specs.Symbols.{Sym}
use Rattle.sl_parse_grammar.specs.Reader.{Reader, ◌>>=◌, ◌>>◌, pure, peek, enter}

-- what an operator that may follow does
abbrev pub turned : {A Op : Type 0} → (Op → Reader A) → A → Option Op → Reader A
turned go l None = pure l
turned go l (Some op) = go op

-- `turn l o` is the operator that o is, if it may follow l here.
module _ {A Op : Type 0} (turn : A → Option Sym → Option Op) (right : Op → ℕ) (join : Op → A → A → A) (inner : ℕ → Reader A) where
  unfoldable pub climb : ℕ → A → Reader A
  climb zero l = pure l
  climb (suc m) l = peek >>= (λ o. turned (λ op. enter >> (inner (right op) >>= (λ r. climb m (join op l r)))) l (turn l o))

  -- The rounds are more than the operators that there is room for.
  abbrev pub grown : A → Reader A
  grown l = λ i. climb (suc i.room) l i
