-- meaning: what operands of a node stand for, and what is read and written there (SLEIGH manual,
-- "The Semantic Section", "Export").
use Rattle.std.specs.Prelude.{ℕ, ℤ, ◌==◌, ◌&&◌, if◌then◌else◌, List}
use Rattle.sl_section_equations.specs.Equations.{size_at}
use Rattle.sl_word.specs.Memories.{Memory, loaded, stored}
use Rattle.sl_word.specs.Numbers.{residue}
use Rattle.sl_word.specs.declared.word.Endian.{Endian}
use Rattle.sl_word.specs.declared.word.Size.{Size}

-- The machine's order of bytes, how many bytes an address has in each space, the default space, and
-- `inst_start` and `inst_next` in 64-bit two's complement.
pub record Setting : Type 0 where
  pub endian : Endian
  pub sizes : List ℕ
  pub default : ℕ
  pub start : ℤ
  pub next : ℤ

-- Storage; a local of a node, by its size variable; a number in 64-bit two's complement, which has
-- the size that its reader wants; or memory at a pointer, which is read at each use.
pub data Reference : Type 0 where
  storage : (space offset : ℕ) → (size : Size) → Reference
  local : (node x : ℕ) → (size : Size) → Reference
  number : (v : ℤ) → Reference
  memory : (space : ℕ) → (size : Size) → (pointer : Reference) → (width : Size) → Reference

abbrev pub reference_size : Reference → Size
reference_size (storage space offset size) = size
reference_size (local node x size) = size
reference_size (number v) = size_at 8
reference_size (memory space size pointer width) = size

-- Locals by node and size variable; one that was never set is 0.
abbrev pub Locals : Type 0
Locals = ℕ → ℕ → ℕ

abbrev pub with_local : ℕ → ℕ → ℕ → Locals → Locals
with_local node x v l k y = if (k == node) && (y == x) then v else l k y

-- The memory, the locals, and how many jumps to labels are left to the instruction.
pub record State : Type 0 where
  pub memory : Memory
  pub locals : Locals
  pub left : ℕ

module _ (g : Setting) where
  abbrev pub load : Memory → (space offset n : ℕ) → ℕ
  load m space offset n = loaded g.endian g.sizes m space offset n

  abbrev pub put_bytes : (space offset n v : ℕ) → State → State
  put_bytes space offset n v st =
      record st { memory = stored g.endian g.sizes st.memory space offset n v }

  -- what stands there, read at n bytes
  abbrev pub read : Memory → Locals → Reference → (n : ℕ) → ℕ
  read m l (storage space offset size) n = load m space offset n
  read m l (local node x size) n = l node x
  read m l (number v) n = residue n v
  read m l (memory space size pointer width) n = load m space (read m l pointer width.bytes) n

  -- a value of n bytes is put there; nothing is put into a number
  abbrev pub put : Reference → (n v : ℕ) → State → State
  put (storage space offset size) n v st = put_bytes space offset n v st
  put (local node x size) n v st = record st { locals = with_local node x v st.locals }
  put (number z) n v st = st
  put (memory space size pointer width) n v st =
      put_bytes space (read st.memory st.locals pointer width.bytes) n v st
