-- The number of addresses, and stages that stop as a part of a longer one.
use Rattle.std.proofs.Common.{◌≡◌, ℕ, ◌+◌, ◌*◌, ◌%◌, ◌^◌, ◌<◌, ◌≤◌, List, length, map, Result, Err, ap, ◌∙◌, sym, arith}
use Rattle.std.proofs.Math.Nat.{mod-eq_of_lt}
use Rattle.std.proofs.Math.Pow.{pow_mono}
use Rattle.sl_word.proofs.Powers.{bytes-bits, bytes_mono}
use Rattle.sl_spec.specs.declared.tables.Tables.{Tables}
use Rattle.sl_tool_contexts.specs.Words.{starting_context}
use Rattle.sl_tool_request.specs.Requests.{Field, Target}
use Rattle.sl_tool_request.specs.Views.{field}
use Rattle.sl_tool_request.specs.declared.request.FieldValue.{FieldValue}
use Rattle.sl_tool_stages.specs.Outcomes.{Gives, Obtains}
use Rattle.sl_tool_stages.specs.Stages.{Starts, opened, started}
use Rattle.sl_step_run.specs.Running.{HasRoom}
use Rattle.sl_tool_stages.specs.declared.halt.Halt.{Halt}
use Rattle.sl_tool_stages.specs.declared.halt.Halt.TheVariants.{Refused, ReadFault, WriteFault, NoMemory}
use Rattle.sl_tool_stages.specs.declared.refusal.Refusal.{Refusal}

-- the number of addresses of so many bytes
pub addresses_is : (bytes : ℕ) → bytes ≤ 8 → 1 * 2 ^ (8 * bytes) % 340282366920938463463374607431768211456 ≡ 256 ^ bytes
addresses_is bytes h =
    let small : 2 ^ (8 * bytes) ≤ 2 ^ 64 = pow_mono {i = 8 * bytes} {j = 64} (omega arith) in
    let below : 1 * 2 ^ (8 * bytes) < 340282366920938463463374607431768211456 = omega (arith, small) in
    let once : 1 * 2 ^ (8 * bytes) ≡ 2 ^ (8 * bytes) = omega arith in
    mod-eq_of_lt below ∙ once ∙ sym (bytes-bits bytes)

module _ {T U B C : Type 0} (S : Result B Refusal → Type 0) (R : Result C Refusal → Type 0) (view : T → B) (seen : U → C) where
  -- a part that stops is the end of the whole
  pub gives_err : (h : Halt) → ((x : Refusal) → S (Err x) → R (Err x)) → Gives S view (Err h) → Gives R seen (Err h)
  gives_err (Refused x) f g = f x g
  gives_err ReadFault f g = g
  gives_err WriteFault f g = g
  gives_err NoMemory f g = g

  pub obtains_err : (h : Halt) → ((x : Refusal) → S (Err x) → R (Err x)) → Obtains S view (Err h) → Obtains R seen (Err h)
  obtains_err (Refused x) f g = f x g
  obtains_err ReadFault f g = g
  obtains_err WriteFault f g = g
  obtains_err NoMemory f g = g

-- an image that fits so many addresses has addresses below 2^64
pub image_fits : (bytes base : ℕ) (image : List ℕ) → bytes ≤ 8 → HasRoom (256 ^ bytes) base (length image) → base + length image ≤ 2 ^ 64
image_fits bytes base image within room =
    let most = bytes_mono bytes 8 within in
    omega (arith, most, room.ends)

-- ---- contexts

-- the context that words give
abbrev pub Opening : Tables → List FieldValue → Result ℕ Refusal → Type 0
Opening tables words r = r ≡ opened (starting_context tables (map field words))

abbrev pub context : ℕ → ℕ
context start = start

-- is that of an image, where these are the words of its target
pub opening_starts : (tables : Tables) (words : List FieldValue) (t : Target) (bytes : List ℕ) (r : Result ℕ Refusal) → map field words ≡ t.context
    → Opening tables words r → Starts tables t bytes (started bytes t.base r)
opening_starts tables words t bytes r is e =
    ap (started bytes t.base) (e ∙ ap (λ (l : List Field). opened (starting_context tables l)) is)
