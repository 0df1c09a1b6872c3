-- What stands written after what was gathered is handed on.
use Rattle.std.proofs.Common.{◌≡◌, ℕ, ◌⊎◌, inl, inr, List, [], Option, Some, None, length, take, arith, sym, subst, ◌∙◌}
use Rattle.std.proofs.lemmas.List.{take_all}
use Rattle.std.specs.Io.KnownBytes.{Appends, Keeps}
use Rattle.sl_outside.specs.Folder.{Folder}
use Rattle.sl_tool.specs.Ends.{Ends, WritesFirst, WritesWhole}
use Rattle.sl_tool.specs.Request.{Request}
use Rattle.sl_tool.specs.declared.status.Status.{Status}
use Rattle.sl_tool.specs.declared.status.Status.TheVariants.{Done, Refused, Usage, ReadFault, WriteFault, NoMemory, Stopped}
use Rattle.sl_outside.proofs.Counts.{rose_more}
use Rattle.sl_outside.specs.Uses.{Names, UsesSink}
use Rattle.sl_tool.specs.Ends.{RunsFor}
use Rattle.sleigh.specs.Handed.{HasWhole, IsHanded}

-- what was appended stands on
pub appends_on : (old mid new : Option (List ℕ)) (text : List ℕ) → Appends old mid text → Keeps mid new → Appends old new text
appends_on None mid new text a k = tt
appends_on (Some xs) None new text a k = absurd a
appends_on (Some xs) (Some ys) None text a k = absurd k
appends_on (Some xs) (Some ys) (Some zs) text a k = k ∙ a

module _ (told : Option Folder) (r : Option Request) (old mid new : Option (List ℕ)) (Grown : ℕ → Type 0) (kept : Keeps mid new) where
  whole_on : (s : Status) → WritesWhole told r old mid Grown s → WritesWhole told r old new Grown s
  whole_on s w = (w.0, w.1, w.2, appends_on old mid new w.0 w.3 kept, w.4)

  first_on : WritesFirst told r old mid Grown → WritesFirst told r old new Grown
  first_on w = (w.0, w.1, w.2, w.3, w.4, appends_on old mid new (take w.3 w.1) w.5 kept, w.6)

  -- the end of the call stays what it is
  pub ends_on : (s : Status) → Ends told r old mid Grown s → Ends told r old new Grown s
  ends_on Done w = whole_on Done w
  ends_on Refused w = whole_on Refused w
  ends_on Usage w = whole_on Usage w
  ends_on ReadFault w = (w.0, appends_on old mid new [] w.1 kept, w.2)
  ends_on WriteFault w = first_on w
  ends_on NoMemory (inl w) = inl (appends_on old mid new [] w kept)
  ends_on NoMemory (inr w) = inr (first_on w)
  ends_on Stopped w = whole_on Stopped w

-- a whole text is a first part of itself
whole_first : (told : Option Folder) (r : Option Request) (old new : Option (List ℕ)) (Grown : ℕ → Type 0) (s : Status) → WritesWhole told r old new Grown s → WritesFirst told r old new Grown
whole_first told r old new Grown s w = (s, w.0, w.1, length w.0, w.2, subst (λ (text : List ℕ). Appends old new text) (sym (take_all (length w.0) w.0 (omega arith))) w.3, w.4)

pub ends_first : (told : Option Folder) (r : Option Request) (old new : Option (List ℕ)) (Grown : ℕ → Type 0) (s : Status) → HasWhole s → Ends told r old new Grown s → WritesFirst told r old new Grown
ends_first told r old new Grown Done h w = whole_first told r old new Grown Done w
ends_first told r old new Grown Refused h w = whole_first told r old new Grown Refused w
ends_first told r old new Grown Usage h w = whole_first told r old new Grown Usage w
ends_first told r old new Grown ReadFault h w = absurd h
ends_first told r old new Grown WriteFault h w = absurd h
ends_first told r old new Grown NoMemory h w = absurd h
ends_first told r old new Grown Stopped h w = whole_first told r old new Grown Stopped w

pub whole_of : (s : Status) → (s ≡ Done) ⊎ ((s ≡ Refused) ⊎ ((s ≡ Usage) ⊎ (s ≡ Stopped))) → HasWhole s
whole_of s (inl e) = subst HasWhole (sym e) tt
whole_of s (inr (inl e)) = subst HasWhole (sym e) tt
whole_of s (inr (inr (inl e))) = subst HasWhole (sym e) tt
whole_of s (inr (inr (inr e))) = subst HasWhole (sym e) tt

pub whole_not : (s q : Status) → HasWhole s → (HasWhole q → ⊥) → s ≡ q → ⊥
whole_not s q h n e = n (subst HasWhole e h)

-- ---- after a whole text was handed on, or wasn't

module _ (s q : Status) (Done : Type 0) (whole : HasWhole s) (handed : IsHanded s q Done) where
  pub handed_ends : (told : Option Folder) (r : Option Request) (old mid new : Option (List ℕ)) (Grown : ℕ → Type 0)
      → Ends told r old mid Grown s → Keeps mid new → Ends told r old new Grown q
  handed_ends told r old mid new Grown ends kept = elim handed [
    | inl (same, all) ↦ subst (λ (z : Status). Ends told r old new Grown z) (sym same) (ends_on told r old mid new Grown kept s ends)
    | inr (inl fault) ↦ subst (λ (z : Status). Ends told r old new Grown z) (sym fault) (ends_first told r old new Grown s whole (ends_on told r old mid new Grown kept s ends))
    | inr (inr memory) ↦ subst (λ (z : Status). Ends told r old new Grown z) (sym memory) (inr (ends_first told r old new Grown s whole (ends_on told r old mid new Grown kept s ends)))
  ]

  pub handed_all : HasWhole q → Done
  handed_all h = elim handed [
    | inl (same, all) ↦ all
    | inr (inl fault) ↦ absurd (subst HasWhole fault h)
    | inr (inr memory) ↦ absurd (subst HasWhole memory h)
  ]

  pub handed_reads : q ≡ ReadFault → ⊥
  handed_reads e = elim handed [
    | inl (same, all) ↦ whole_not s ReadFault whole (λ n. n) (sym same ∙ e)
    | inr (inl fault) ↦ (let clash : WriteFault ≡ ReadFault = sym fault ∙ e in absurd (cc))
    | inr (inr memory) ↦ (let clash : NoMemory ≡ ReadFault = sym memory ∙ e in absurd (cc))
  ]

  pub handed_files : {F : Type 0} (told : F → Option Folder) (faults : F → ℕ) (asked : F → Names) (r : Option Request) (old new : F)
      → RunsFor told faults asked r old new s → RunsFor told faults asked r old new q
  handed_files told faults asked None old new u = record {
    same_folder = u.same_folder;
    never_falls = u.never_falls;
    failed = λ e. absurd (handed_reads e);
    asks_front = u.asks_front;
    asks_all = u.asks_all;
  }
  handed_files told faults asked (Some r) old new u = record {
    same_folder = u.same_folder;
    never_falls = u.never_falls;
    failed = λ e. absurd (handed_reads e);
    asks_front = u.asks_front;
    asks_all = λ late. u.asks_all (λ early. early_not early);
  }
    where
      early_not : (s ≡ ReadFault) ⊎ (s ≡ NoMemory) → ⊥
      early_not (inl e) = whole_not s ReadFault whole (λ n. n) e
      early_not (inr e) = whole_not s NoMemory whole (λ n. n) e

-- ---- the sink

-- a use after another one, of which only the later one may fail
pub uses_on : {K : Type 0} (faults calls : K → ℕ) (old mid new : K) (some fails : Type 0) → UsesSink faults calls old mid some → UsesSink faults calls mid new fails
    → UsesSink faults calls old new fails
uses_on faults calls old mid new some fails u v = record {
  never_falls = omega (arith, u.never_falls, v.never_falls);
  failed = λ f. rose_more (faults old) (faults mid) (faults new) u.never_falls (v.failed f);
  goes_on = omega (arith, u.goes_on, v.goes_on);
}
