-- view: ways to cut a text into the parts of a display.
use Rattle.std.specs.Prelude.{◌≡◌, ℕ, ◌≤◌, List, ◌++◌, Contains, Vec, map}
use Rattle.std.specs.List.{flat_map}
use Rattle.std.specs.declared.alloc.Global.{Global}
use denote.Ref.{Bor}
use Rattle.sl_show.specs.declared.templates.Part.{Part}
use Rattle.sl_show.specs.declared.templates.Part.TheVariants as p

-- Parts that are texts stand for themselves.
abbrev pub KeepsTexts : (Part → List ℕ) → Type 0
KeepsTexts shows = (text : Vec ℕ Global) → shows (p.Text text) ≡ text.items

-- A length is between these.
abbrev pub IsBetween : ℕ → ℕ → ℕ → Type 0
IsBetween least most long = (least ≤ long) × (long ≤ most)

-- pieces of a text, as lists of bytes
abbrev pub pieces : List (Bor (List ℕ)) → List (List ℕ)
pieces split = map (λ s. s.now) split

-- Among the splits is one with these pieces.
abbrev pub HasSplit : List (List ℕ) → List (Vec (Bor (List ℕ)) Global) → Type 0
HasSplit texts splits =
    (split : Vec (Bor (List ℕ)) Global) × Contains splits split × (pieces split.items ≡ texts)

-- The old splits stay; and wherever the parts are shown as the text, their texts behind the front are
-- one of the new ones.
pub record AddsSplits (parts : List Part) (text : List ℕ) (front : List (List ℕ))
    (old new : List (Vec (Bor (List ℕ)) Global)) : Type 0 where
  pub kept : (split : Vec (Bor (List ℕ)) Global) → Contains old split → Contains new split
  pub all : (shows : Part → List ℕ) → KeepsTexts shows → flat_map shows parts ≡ text
      → HasSplit (front ++ map shows parts) new
