-- view: what the commits at one address give, as a run.
use Rattle.std.specs.Prelude.{ℕ, Bool, true, false, bit_and, bit_or, bit_xor}
use Rattle.sl_decode_contexts.specs.declared.commits.Commit.{Commit}
use Rattle.sl_decode_contexts.specs.declared.runs.Run.{Run}

-- ---- bits

-- the bits under the mask from the second number, the others from the first
abbrev pub put : ℕ → ℕ → ℕ → ℕ
put old mask new = bit_xor old (bit_and (bit_xor old new) mask)

-- the bits of the first that the second lacks
abbrev pub without : ℕ → ℕ → ℕ
without a b = bit_xor a (bit_and a b)

-- ---- what a run tells

-- what flows on from a run, where so much flows up to it
abbrev pub passed : ℕ → Run → ℕ
passed before r = put before r.fixed r.flow

-- the context at a run's address
abbrev pub merged : ℕ → Run → ℕ
merged before r = put (passed before r) r.own r.own_value

-- ---- one more commit

-- a run that tells nothing yet
abbrev pub fresh : ℕ → Run
fresh address = record { address = address; fixed = 0; flow = 0; own = 0; own_value = 0 }

-- a run with one more commit at its address, a flowing one or another
abbrev pub given_more : Bool → ℕ → ℕ → Run → Run
given_more true mask value r = record {
  address = r.address;
  fixed = bit_or r.fixed mask;
  flow = put r.flow mask value;
  own = without r.own mask;
  own_value = r.own_value;
}
given_more false mask value r = record {
  address = r.address;
  fixed = r.fixed;
  flow = r.flow;
  own = bit_or r.own mask;
  own_value = put r.own_value mask value;
}

abbrev pub with_commit : Commit → Run → Run
with_commit c r = given_more c.flows c.mask c.value r
