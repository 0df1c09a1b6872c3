-- Stages that stop.
use Rattle.std.proofs.Common.{ℕ, List, Option, Result, Ok, Err}
use Rattle.sl_outside.specs.Folder.{Folder}
use Rattle.sl_outside.specs.Uses.{Names, UsesFiles}
use Rattle.sl_tool_stages.specs.Outcomes.{Gives, IsReadFault, Obtains, StopsEarly}
use Rattle.sl_tool_stages.specs.Stage.{Stage, Then}
use Rattle.sl_tool_stages.specs.Stage.Then.{stops, goes}
use Rattle.sl_tool_stages.specs.declared.halt.Halt.{Halt}
use Rattle.sl_tool_stages.specs.declared.halt.Halt.TheVariants.{Refused, ReadFault, WriteFault, NoMemory}
use Rattle.sl_tool_stages.specs.declared.refusal.Refusal.{Refusal}

pub gives_obtains : {T B : Type 0} (S : Result B Refusal → Type 0) (view : T → B) (h : Halt) → Gives S view (Err h) → Obtains S view (Err h)
gives_obtains S view (Refused x) g = g
gives_obtains S view ReadFault g = absurd g
gives_obtains S view WriteFault g = g
gives_obtains S view NoMemory g = g

-- ---- two stages that neither read nor write

pub gives_stops : {T U A B C : Type 0} (S : Stage Refusal A B) (R : Stage Refusal B C) (a : A) (view : T → B) (later : U → C) (h : Halt)
    → Gives (S a) view (Err h) → Gives (Then S R a) later (Err h)
gives_stops S R a view later (Refused x) g = stops g
gives_stops S R a view later ReadFault g = g
gives_stops S R a view later WriteFault g = g
gives_stops S R a view later NoMemory g = g

pub gives_goes : {U A B C : Type 0} (S : Stage Refusal A B) (R : Stage Refusal B C) (a : A) (b : B) (later : U → C) (h : Halt)
    → S a (Ok b) → Gives (R b) later (Err h) → Gives (Then S R a) later (Err h)
gives_goes S R a b later (Refused x) s g = goes s g
gives_goes S R a b later ReadFault s g = g
gives_goes S R a b later WriteFault s g = g
gives_goes S R a b later NoMemory s g = g

-- ---- stages and files

-- a stage that stops and reads nothing
pub stop_unread : {T B : Type 0} (S : Result B Refusal → Type 0) (view : T → B) (h : Halt) → Gives S view (Err h) → IsReadFault h → ⊥
stop_unread S view (Refused x) g f = f
stop_unread S view ReadFault g f = g
stop_unread S view WriteFault g f = f
stop_unread S view NoMemory g f = f

-- files were read, and what follows reads nothing
pub reads_on : {T B F : Type 0} (told : F → Option Folder) (faults : F → ℕ) (asked : F → Names) (old new : F) (names : List (List ℕ)) (S : Result B Refusal → Type 0) (view : T → B)
    (h : Halt) → Gives S view (Err h) → UsesFiles told faults asked old new names ⊥ ⊥ → UsesFiles told faults asked old new names (StopsEarly h) (IsReadFault h)
reads_on told faults asked old new names S view h g v = record {
  same_folder = v.same_folder;
  never_falls = v.never_falls;
  failed = λ f. absurd (stop_unread S view h g f);
  asks_front = v.asks_front;
  asks_all = λ n. v.asks_all (λ e. e);
}
