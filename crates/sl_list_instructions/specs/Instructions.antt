-- meaning: what `list` shows at a position.
use Rattle.std.specs.Prelude.{◌≡◌, ℕ, ◌+◌, ◌-◌, ◌^◌, ◌<◌, ◌≤◌, ◌%◌, List, [], codes, Result, Ok, Err}
use Rattle.sl_decode_contexts.specs.Commits.{IsContextAt}
use Rattle.sl_decode_contexts.specs.declared.commits.Commit.{Commit}
use Rattle.sl_decode_meaning.specs.declared.faults.Fault.{Fault}
use Rattle.sl_decode_meaning.specs.declared.faults.Fault.TheVariants.{NoConstructor, NoEntry, ActionDivide}
use Rattle.sl_list_instructions.specs.Lines.{bytes_at, listed_line}

-- what is told of an instruction: its text, its length, and its commits
pub record Told : Type 0 where
  pub text : List ℕ
  pub length : ℕ
  pub commits : List Commit

-- the same by its parts, or why the bytes don't decode
abbrev pub told_by : Result ℕ Fault → List ℕ → List Commit → Result Told Fault
told_by (Ok length) text commits =
    Ok (record { text = text; length = length; commits = commits })
told_by (Err fault) text commits = Err fault

-- what bytes at an address decode to, from a context
abbrev pub DecodeFunction : Type 0
DecodeFunction = List ℕ → ℕ → ℕ → Result Told Fault

-- the number of bytes that a decode is told
abbrev pub listing_window : ℕ
listing_window = 272

-- the mark of an instruction that doesn't decode
abbrev pub mark_of : Fault → List ℕ
mark_of (NoConstructor table at) = codes "??"
mark_of (NoEntry field value) = codes "?entry"
mark_of (ActionDivide constructor) = codes "?divide"

-- what a listing is of: how bytes decode, the image, the address of its first byte, the size of
-- addresses, the alignment, and the context where no commit counts
pub record Subject : Type 0 where
  pub tells : DecodeFunction
  pub image : List ℕ
  pub base : ℕ
  pub address_bytes : ℕ
  pub alignment : ℕ
  pub start : ℕ

module _ (s : Subject) where
  -- a line at a position, which counts bytes of the image
  abbrev pub line_at : ℕ → ℕ → List ℕ → List ℕ
  line_at at count text =
      listed_line s.address_bytes (s.base + at) (bytes_at s.image at count) text

  -- the instruction at a position, from a context
  abbrev pub told_at : ℕ → ℕ → Result Told Fault
  told_at at context = s.tells (bytes_at s.image at listing_window) (s.base + at) context

  -- A position whose address is no multiple of the alignment is marked up to the next one. At each
  -- other one stands the instruction, which is decoded from the context at its address, or the mark of
  -- why there is none with as many bytes as the alignment.
  pub data Listed : ℕ → List Commit → List ℕ → ℕ → List Commit → Type 0 where
    instruction : {at context : ℕ} {cs : List Commit} {told : Told}
        → (s.base + at) % s.alignment ≡ 0
        → context < 2 ^ 64 → IsContextAt s.start cs (s.base + at) context
        → told_at at context ≡ Ok told
        → Listed at cs (line_at at told.length told.text) told.length told.commits
    undecoded : {at context : ℕ} {cs : List Commit} {fault : Fault}
        → (s.base + at) % s.alignment ≡ 0
        → context < 2 ^ 64 → IsContextAt s.start cs (s.base + at) context
        → told_at at context ≡ Err fault
        → Listed at cs (line_at at s.alignment (mark_of fault)) s.alignment []
    misaligned : {at beyond : ℕ} {cs : List Commit}
        → (s.base + at) % s.alignment ≡ beyond → 1 ≤ beyond
        → Listed at cs (line_at at (s.alignment - beyond) (codes "?align")) (s.alignment - beyond) []
