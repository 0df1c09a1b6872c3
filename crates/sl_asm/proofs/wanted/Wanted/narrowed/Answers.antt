use Rattle.std.proofs.lemmas.Bool.{false≢true}
use Rattle.std.proofs.Common.{ℕ, ◌+◌, ◌≤◌, Option, length, ap, refl, subst, sym, ◌∙◌}
use Rattle.sl_asm.proofs.AssembleLemmas.{among, within_bounds}
use Rattle.sl_asm_bounds.specs.Bounds.{AreAsLong, Holds}
use Rattle.sl_asm_bounds.specs.declared.bounds.Bounds.{Bounds}
use Rattle.sl_asm_narrow.specs.Readers.{tables_of}
use Rattle.sl_decode_meaning.specs.Actions.{address_in}
use Rattle.sl_asm.proofs.wanted.Wanted.narrowed.Goals as goal

pub returns-in_default : goal.returns-in_default
returns-in_default c = λ bytes inside pass.
    let w = c.args.self.now in
    let region = c.args.region.now in
    let next = rw c.tables.ensures at c.address_after-next.ensures in
    let known = next ∙ ap (λ (n : ℕ). address_in (tables_of w.reader.now) (w.address + n)) (sym inside.long) in
    let within = within_bounds w _ refl bytes pass known region c.in_ok-found.found bytes refl inside c.in_ok-found.ensures.bounds in
    subst (λ (o : Option Bounds). Holds o bytes (length bytes) within.0) c.in_default.is within.1

pub returns-then-not-has : goal.returns-then-not-has
returns-then-not-has c = λ bytes inside pass.
    let w = c.args.self.now in
    let region = c.args.region.now in
    let next = rw c.tables.ensures at c.address_after-next.ensures in
    let known = next ∙ ap (λ (n : ℕ). address_in (tables_of w.reader.now) (w.address + n)) (sym inside.long) in
    let within = within_bounds w _ refl bytes pass known region c.in_ok-found.found bytes refl inside c.in_ok-found.ensures.bounds in
    let both = among bytes c.in-Some.bounds bytes within.0 pass.encoding.most (subst (λ (o : Option Bounds). Holds o bytes (length bytes) within.0) c.in-Some.is within.1) in
    false≢true (c.if-not-has.ensures.1 (subst (λ (n : ℕ). (c.in-Some.bounds.least ≤ n) × (n ≤ c.in-Some.bounds.most)) inside.long both))

pub returns : goal.returns
returns c =
    let w = c.args.self.now in
    let region = c.args.region.now in
    let next = rw c.tables.ensures at c.address_after-next.ensures in
    record {
      long = subst (λ (o : Option Bounds). AreAsLong (length region) o) c.in-Some.is c.in_ok-found.ensures.long;
      stays = λ bytes inside pass.
          let known = next ∙ ap (λ (n : ℕ). address_in (tables_of w.reader.now) (w.address + n)) (sym inside.long) in
          let within = within_bounds w _ refl bytes pass known region c.in_ok-found.found bytes refl inside c.in_ok-found.ensures.bounds in
          (subst (λ (o : Option Bounds). Holds o bytes (length bytes) within.0) c.in-Some.is within.1).region;
    }
