-- Numbers of bytes between bounds.
use Rattle.std.proofs.Common.{◌≡◌, ℕ, ◌-◌, ◌<◌, ◌≤◌, ◌^◌, min, List, get_or, arith}
use Rattle.sl_asm_bounds.specs.Bounds.{AreBetween, IsUpTo, unbounded}
use Rattle.sl_decode_leaves.specs.Extents.{extent}
use Rattle.sl_decode_leaves.specs.declared.extents.Extent.{Extent}
use Rattle.sl_decode_leaves.specs.declared.extents.Extent.TheVariants.{Fixed, Operand, Sum', Greater'}

pub extent_least : (e : Extent) (leasts lengths : List ℕ) → ((k : ℕ) → get_or leasts k 0 ≤ get_or lengths k 0) → extent e leasts ≤ extent e lengths
extent_least (Fixed n) leasts lengths h = omega arith
extent_least (Operand index) leasts lengths h = h index
extent_least (Sum' p a q b) leasts lengths h =
    let first = extent_least a leasts lengths h in
    let second = extent_least b leasts lengths h in
    omega (arith, first, second)
extent_least (Greater' p a q b) leasts lengths h =
    let first = extent_least a leasts lengths h in
    let second = extent_least b leasts lengths h in
    omega (arith, first, second)

pub extent_most : (e : Extent) (mosts lengths : List ℕ) → ((k : ℕ) → IsUpTo (get_or mosts k 0) (get_or lengths k 0)) → IsUpTo (extent e mosts) (extent e lengths)
extent_most (Fixed n) mosts lengths h = λ below. omega arith
extent_most (Operand index) mosts lengths h = h index
extent_most (Sum' p a q b) mosts lengths h = λ below.
    let first : extent a lengths ≤ extent a mosts = extent_most a mosts lengths h (omega (arith, below)) in
    let second : extent b lengths ≤ extent b mosts = extent_most b mosts lengths h (omega (arith, below)) in
    omega (arith, first, second)
extent_most (Greater' p a q b) mosts lengths h = λ below.
    let first : extent a lengths ≤ extent a mosts = extent_most a mosts lengths h (omega (arith, below)) in
    let second : extent b lengths ≤ extent b mosts = extent_most b mosts lengths h (omega (arith, below)) in
    omega (arith, first, second)

pub told_least : (e : Extent) (leasts mosts lengths : List ℕ) (r : ℕ) → r ≡ min (min (extent e leasts) (2 ^ 64 - 1)) unbounded → AreBetween leasts mosts lengths
    → r ≤ extent e lengths
told_least e leasts mosts lengths r is between =
    let low = extent_least e leasts lengths between.least in
    omega (arith, low, is)

pub told_most : (e : Extent) (leasts mosts lengths : List ℕ) (r : ℕ) → r ≡ min (min (extent e mosts) (2 ^ 64 - 1)) unbounded → AreBetween leasts mosts lengths
    → IsUpTo r (extent e lengths)
told_most e leasts mosts lengths r is between = λ below.
    let small : extent e mosts < unbounded = omega (arith, below, is) in
    let high = extent_most e mosts lengths between.most small in
    omega (arith, high, is, small)

pub same_place : (least most n : ℕ) → least ≤ n → IsUpTo most n → least ≡ most → least ≤ 255 → n ≡ least
same_place least most n low high same few =
    let within : n ≤ most = high (omega (arith, same, few)) in
    omega (arith, low, within, same)
