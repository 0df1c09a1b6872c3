-- The last byte of a token that has some of its bits.
use Rattle.std.proofs.Common.{◌≡◌, ℕ, ◌+◌, ◌-◌, ◌*◌, ◌/◌, ◌<◌, ◌≤◌, min, Option, None, Some, sym, subst, arith, inl, inr}
use Rattle.std.proofs.lemmas.Bool.{cases_lt}
use Rattle.sl_spec.specs.FieldValues.{token_of}
use Rattle.sl_spec.specs.Tables as spec
use Rattle.sl_word.specs.declared.word.Endian.TheVariants.{Little}
use Rattle.sl_shape_constraints.specs.Codes.{AreBitsOf, HasBitOf, HasBitInByte}
use Rattle.sl_shape_constraints.specs.Homes.{home_of}
use Rattle.sl_shape_constraints.specs.Windows.{Constrains, HasBitOfField, HoldsOfAll, IsEnd}
use Rattle.sl_shape_constraints.specs.Values.{Constraint}
use Rattle.sl_shape_constraints.specs.declared.bits.Bits.{Bits}
use Rattle.sl_shape_constraints.specs.declared.homes.Home.{Home}
use Rattle.sl_shape_constraints.specs.declared.homes.Home.TheVariants.{Token}

pub little_end : (bytes low high n : ℕ) → low ≤ high → low / 8 < bytes → n ≡ min (high / 8) (bytes - 1) + 1
    → IsEnd (HasBitOf (Token Little bytes) low high) n
little_end bytes low high n some within is = record {
  all = λ i h. omega (arith, is, h.2, h.3, h.4, within);
  last = λ pos. elim (cases_lt (high / 8) bytes) [
    | inl below ↦ (high, some, omega arith, below, omega (arith, is, below))
    | inr above ↦ (8 * bytes - 1, omega (arith, within), omega (arith, above, within), omega (arith, within), omega (arith, is, above, within))
  ];
}

-- ---- of a constraint

byte_of_field : (token : Option spec.Token) (f : spec.Field) (low high i : ℕ) → low ≡ f.low → high ≡ f.high
    → HasBitOf (home_of token) low high i → HasBitOfField token f i
byte_of_field None f low high i l h x = x
byte_of_field (Some t) f low high i l h x = (x.0, omega (arith, l, x.1), omega (arith, h, x.2), x.3, x.4)

field_byte : (token : Option spec.Token) (f : spec.Field) (low high i : ℕ) → low ≡ f.low → high ≡ f.high
    → HasBitOfField token f i → HasBitOf (home_of token) low high i
field_byte None f low high i l h x = x
field_byte (Some t) f low high i l h x = (x.0, omega (arith, l, x.1), omega (arith, h, x.2), x.3, x.4)

module _ (c : Constraint) (bits : Bits) (are : AreBitsOf c bits) where
  to_field : (i : ℕ) → HasBitInByte bits i → HasBitOfField (token_of c.tokens c.field) c.field i
  to_field i x = byte_of_field (token_of c.tokens c.field) c.field bits.low bits.high i are.low are.high
      (subst (λ (h : Home). HasBitOf h bits.low bits.high i) are.home x)

  from_field : (i : ℕ) → HasBitOfField (token_of c.tokens c.field) c.field i → HasBitInByte bits i
  from_field i x = subst (λ (h : Home). HasBitOf h bits.low bits.high i) (sym are.home)
      (field_byte (token_of c.tokens c.field) c.field bits.low bits.high i are.low are.high x)

  pub constrains_end : (n : ℕ) → (HoldsOfAll c → ⊥) → IsEnd (HasBitInByte bits) n → IsEnd (Constrains c) n
  constrains_end n some e = record {
    all = λ i x. e.all i (from_field i x.1);
    last = λ pos. (some, to_field (n - 1) (e.last pos));
  }

pub no_end : (c : Constraint) → HoldsOfAll c → IsEnd (Constrains c) 0
no_end c all = record { all = λ i x. absurd (x.0 all); last = λ pos. absurd (omega (arith, pos)) }
