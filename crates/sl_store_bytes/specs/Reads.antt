-- view: a reading function has the outcome of the reader, unless memory runs out.
use Rattle.std.specs.Prelude.{◌≡◌, ℕ, List, map, Result, Ok, Err, Vec}
use denote.Ref.{Bor}
use Rattle.std.specs.declared.alloc.Global.{Global}
use Rattle.sl_store_bytes.specs.Reader.{Fault, cut, damaged, Outcome}
use Rattle.sl_store_bytes.specs.declared.bytes.Stop as s
use Rattle.sl_store_bytes.specs.declared.bytes.Stop.TheVariants as sv

abbrev pub Plain : {A : Type 0} → A → A
Plain a = a

-- the bytes behind a reference
abbrev pub now_of : Bor (List ℕ) → List ℕ
now_of w = w.now

abbrev pub Stops : {A : Type 0} → Outcome A → s.Stop → Type 0
Stops outcome sv.NoMemory = Unit {0}
Stops outcome sv.Cut = outcome ≡ Err cut
Stops outcome (sv.Damaged n) = outcome ≡ Err (damaged n)

-- the fault, and no want of memory
abbrev pub IsFault : Fault → s.Stop → Type 0
IsFault fault sv.NoMemory = ⊥
IsFault fault sv.Cut = fault ≡ cut
IsFault fault (sv.Damaged n) = fault ≡ damaged n

abbrev pub Reads : {A B : Type 0} → (B → A) → Outcome A → Result B s.Stop → List ℕ → Type 0
Reads view outcome (Ok b) new = outcome ≡ Ok (view b, new)
Reads view outcome (Err e) new = Stops outcome e

-- a list of trees
abbrev pub seen_by : {A B : Type 0} → (B → A) → Vec B Global → List A
seen_by view found = map view found.items
