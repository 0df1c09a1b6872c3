use Rattle.std.proofs.Common.{◌≡◌, ℕ, List, ap, ◌∙◌, get_or, min, arith}
use Rattle.sl_spec_tables.specs.Lengths.{table_amount}
use Rattle.sl_spec_tables.specs.Views.{groups_of}
use Rattle.sl_spec_tables.specs.declared.quantities.Quantity.TheVariants.{Greatest}
use Rattle.sl_spec_tables.proofs.JudgeLemmas.{exceeds, short, fits}
use Rattle.sl_spec_tables.proofs.judge.Ordered.bytes_place.Goals as goal

pub returns-then-known-le-MOST_BYTES : goal.returns-then-known-le-MOST_BYTES
returns-then-known-le-MOST_BYTES c =
    let t = c.args.self.now.t.now in
    let gs = groups_of c.args.self.now.groups.now in
    let n : c.known.result ≡ min (table_amount Greatest t gs 0) 1025 = c.known.ensures ∙ ap (λ (l : List ℕ). get_or l 0 0) c.as_slice.ensures.value ∙ c.in_ok-values.ensures 0 in
    fits _ c.known.result 256 _ (short t gs c.known.result n) (let h = c.if-known-le-MOST_BYTES.true in omega arith)

pub returns : goal.returns
returns c =
    let t = c.args.self.now.t.now in
    let gs = groups_of c.args.self.now.groups.now in
    let n : c.known.result ≡ min (table_amount Greatest t gs 0) 1025 = c.known.ensures ∙ ap (λ (l : List ℕ). get_or l 0 0) c.as_slice.ensures.value ∙ c.in_ok-values.ensures 0 in
    c.first_of_instruction-place.ensures ∙ exceeds _ c.known.result 256 _ (short t gs c.known.result n) (let h = c.if-known-le-MOST_BYTES.false in omega arith)
