-- What a table names is meant by an operand of one of its constructors.
use Rattle.std.proofs.Common.{◌≡◌, ℕ, zero, suc, ◌==◌, inl, inr, Bool, true, false, List, [], ◌∷◌, length, refl, ap, subst, arith}
use Rattle.std.specs.Prelude.{if◌then◌else◌}
use Rattle.std.specs.List.{Contains}
use Rattle.std.proofs.lemmas.Bool.{cases_lt}
use Rattle.std.proofs.lemmas.List.{get_or_past}
use Rattle.std.proofs.lemmas.List.Elements.{Contains-append_cases}
use Rattle.std.proofs.lemmas.List.FromFn.{get_or-map-range_with_len, length-map-range_with_len}
use Rattle.sl_base_graphs.specs.Reaching.{successors}
use Rattle.sl_spec_order.specs.Orders.{graph, named_by, table_of, tables_in}
use Rattle.sl_spec.specs.Tables.{Ctor, Operand}
use Rattle.sl_spec.specs.declared.constructors.Means.{Means}
use Rattle.sl_spec.specs.declared.constructors.Means.TheVariants.{Field, Table, Action}

-- One of the operands means the table.
abbrev pub MeansTable : List Operand → ℕ → Type 0
MeansTable os table = (o : Operand) × Contains os o × (o.means ≡ Table table)

-- A constructor of the first table has an operand that means the second.
abbrev pub NamesTable : List Ctor → ℕ → ℕ → Type 0
NamesTable ctors table other = (c : Ctor) × Contains ctors c × (c.table ≡ table) × MeansTable c.operands other

meant_by : (m : Means) (w : ℕ) → Contains (table_of m) w → m ≡ Table w
meant_by (Table id) w (zero, below, is) = ap Table is
meant_by (Table id) w (suc k, below, is) = absurd (omega arith)
meant_by (Field id) w c = absurd (omega (arith, c.1))
meant_by (Action n) w c = absurd (omega (arith, c.1))

meant : (os : List Operand) (w : ℕ) → Contains (tables_in os) w → MeansTable os w
meant [] w c = absurd (omega (arith, c.1))
meant (o ∷ os) w c = elim (Contains-append_cases (table_of o.means) (tables_in os) w c) [
  | inl d ↦ (o, (0, omega arith, refl), meant_by o.means w d)
  | inr d ↦ let r = meant os w d in (r.0, (suc r.1.0, omega (arith, r.1.1), r.1.2), r.2)
]

its_by : (c : Ctor) (v w : ℕ) (b : Bool) → (c.table == v) ≡ b → Contains (if b then tables_in c.operands else []) w → (c.table ≡ v) × MeansTable c.operands w
its_by c v w true is h = (same c.table v is, meant c.operands w h)
  where
    same : (a b : ℕ) → (a == b) ≡ true → a ≡ b
    same a b h = grind arith
its_by c v w false is h = absurd (omega (arith, h.1))

named : (ctors : List Ctor) (v w : ℕ) → Contains (named_by ctors v) w → NamesTable ctors v w
named [] v w c = absurd (omega (arith, c.1))
named (c ∷ ctors) v w h = elim (Contains-append_cases (if c.table == v then tables_in c.operands else []) (named_by ctors v) w h) [
  | inl d ↦ let i = its_by c v w (c.table == v) refl d in (c, (0, omega arith, refl), i.0, i.1)
  | inr d ↦ let r = named ctors v w d in (r.0, (suc r.1.0, omega (arith, r.1.1), r.1.2), r.2, r.3)
]

pub successors_are_meant : (count : ℕ) (ctors : List Ctor) (v w : ℕ) → Contains (successors (graph count ctors) v) w → NamesTable ctors v w
successors_are_meant count ctors v w c = elim (cases_lt v count) [
  | inl below ↦ named ctors v w (subst (λ (l : List ℕ). Contains l w) (get_or-map-range_with_len (named_by ctors) 0 count v v [] below (omega arith)) c)
  | inr past ↦
      let none : successors (graph count ctors) v ≡ [] = get_or_past (graph count ctors) v [] (omega (arith, length-map-range_with_len (named_by ctors) 0 count)) in
      absurd (omega (arith, ap length none, c.1))
]
