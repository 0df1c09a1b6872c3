-- There is surely a count, and an end of what is bounded.
use Rattle.std.proofs.Common.{◌≡◌, ℕ, zero, suc, ◌+◌, ◌-◌, ◌*◌, ◌/◌, ◌<◌, max, List, [], ◌∷◌, ◌++◌, length, Option, Some, None, refl, subst, inl, inr, arith}
use Rattle.sl_shape_blocks.specs.Blocks.{AllSatisfy, IsShortest, block}
use Rattle.sl_shape_blocks.specs.declared.Block.{Block}
use Rattle.sl_shape_blocks.proofs.BlockLemmas.{least_full, least_halves, least_none, none_single}
use Rattle.sl_shape_constraints.specs.Counts.{HasCount}
use Rattle.sl_shape_constraints.specs.Values.{Constraint, HoldsOf, width}
use Rattle.sl_shape_constraints.specs.Windows.{Constrains, HasBitOfField, IsEnd, byte_of}
use Rattle.sl_base_surely.specs.Surely.{Surely}
use Rattle.sl_base_surely.proofs.SurelyLemmas.{surely, surely_either, surely_map, surely_then}
use Rattle.sl_spec.specs.FieldValues.{token_of}
use Rattle.sl_spec.specs.Tables as spec
use Rattle.sl_word.specs.declared.word.Endian.{Endian}
use Rattle.sl_word.specs.declared.word.Endian.TheVariants.{Little, Big}

-- There is a shortest cut of the block.
abbrev HasShortest : (ℕ → Type 0) → ℕ → ℕ → Type 0
HasShortest P index size = (blocks : List Block) × IsShortest P (block index size) blocks

module _ (P : ℕ → Type 0) where
  some_shortest : (size index : ℕ) → Surely (HasShortest P index size)
  some_shortest zero index = surely_map {B = HasShortest P index zero} (λ found. elim found [
    | inl all ↦ (block index 0 ∷ [], least_full P (block index 0) all)
    | inr not_all ↦ ([], least_none P (block index 0) (none_single P index 0 refl not_all))
  ]) (surely_either (AllSatisfy P (block index 0)))
  some_shortest (suc size) index = surely_then {B = HasShortest P index (suc size)} (surely_either (AllSatisfy P (block index (suc size)))) (λ found. elim found [
    | inl all ↦ surely (block index (suc size) ∷ [], least_full P (block index (suc size)) all)
    | inr not_all ↦ surely_then {B = HasShortest P index (suc size)} (some_shortest size (2 * index)) (λ low.
        surely_map {B = HasShortest P index (suc size)} (λ high. (low.0 ++ high.0, least_halves P index size low.0 high.0 not_all low.1 high.1))
        (some_shortest size (2 * index + 1)))
  ])

  pub some_end : (bound : ℕ) → ((i : ℕ) → P i → i < bound) → Surely ((n : ℕ) × IsEnd P n)
  some_end zero within = surely (0, record { all = within; last = λ pos. absurd (omega (arith, pos)) })
  some_end (suc bound) within = surely_then {B = (n : ℕ) × IsEnd P n} (surely_either (P bound)) (λ found. elim found [
    | inl last ↦ surely (suc bound, record { all = within; last = λ pos. let at : bound ≡ suc bound - 1 = omega arith in subst P at last })
    | inr not_last ↦ some_end bound (λ i p.
        let below = within i p in
        let other : i ≡ bound → ⊥ = λ (e : i ≡ bound). not_last (subst P e p) in
        omega (arith, below, other))
  ])

pub some_count : (c : Constraint) → Surely ((n : ℕ) × HasCount c n)
some_count c = surely_map {B = (n : ℕ) × HasCount c n} (λ cut. (max (length cut.0) 1, (cut.0, cut.1, refl))) (some_shortest (HoldsOf c) (width c.field) 0)

-- ---- the bytes of a token are bounded

below_bytes : (order : Endian) (bytes bit i : ℕ) → bit / 8 < bytes → i ≡ byte_of order bytes bit → i < bytes
below_bytes Little bytes bit i below at = omega (arith, below, at)
below_bytes Big bytes bit i below at = omega (arith, below, at)

abbrev pub bytes_in : Option spec.Token → ℕ
bytes_in None = 0
bytes_in (Some t) = t.bits / 8

field_within : (token : Option spec.Token) (f : spec.Field) (i : ℕ) → HasBitOfField token f i → i < bytes_in token
field_within None f i h = absurd h
field_within (Some t) f i h = below_bytes t.endian (t.bits / 8) h.0 i h.3 h.4

pub constrains_within : (c : Constraint) (i : ℕ) → Constrains c i → i < bytes_in (token_of c.tokens c.field)
constrains_within c i h = field_within (token_of c.tokens c.field) c.field i h.1
