use Rattle.std.proofs.Common.{◌≡◌, ℕ, ◌^◌, ◌≤◌, List, get_or, ap, sym, subst, ◌∙◌, arith}
use Rattle.sl_word.specs.Bytes.{address_size}
use Rattle.sl_test_cases.proofs.tests.word.a_state_keeps_what_is_written.Goals as goal

pub load_image-requires-clause-room : goal.load_image-requires-clause-room
load_image-requires-clause-room g c =
    let two : address_size c.in_ok-state.state 0 ≡ 2 = ap (λ (sizes : List ℕ). get_or sizes 0 0) c.in_ok-state.ensures.sizes ∙ c.in_ok-address_size.ensures in
    subst (λ (bytes : ℕ). 65536 ≤ 256 ^ bytes) (sym two) (omega arith)
