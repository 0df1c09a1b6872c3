-- meaning: what is surely so, though nothing may decide it.

-- It can't be that this isn't so.
abbrev pub Surely : Type 0 → Type 0
Surely P = (P → ⊥) → ⊥
