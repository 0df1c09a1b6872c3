-- step: the bytes that an instruction is decoded from.
use Rattle.std.specs.Prelude.{ℕ, ◌+◌, ◌%◌, ◌^◌, List, map}
use Rattle.std.specs.List.{range_with_len}
use Rattle.sl_step_meaning.specs.Steps.{step_window}
use Rattle.sl_word.specs.Bytes.{address_size, byte_at}
use Rattle.sl_word.specs.declared.state.State.{State}

-- So many bytes of a space from an address on, round its end.
abbrev pub bytes_in : State → (space address count : ℕ) → List ℕ
bytes_in state space address count =
    map (λ i. byte_at state space ((address + i) % 256 ^ address_size state space)) (range_with_len 0 count)

-- As many as a decode is told.
unfoldable pub window_in : State → (space address : ℕ) → List ℕ
window_in state space address = bytes_in state space address step_window
