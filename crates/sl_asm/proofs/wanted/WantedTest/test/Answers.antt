use Rattle.std.proofs.Common.{◌<◌, ◌≤◌, ℕ, length, get_or, ap, arith, sym, subst, ◌∙◌}
use Rattle.std.specs.List.{All}
use Rattle.std.proofs.lemmas.Bool.{false≢true}
use Rattle.std.proofs.lemmas.List.{get_or_default}
use Rattle.std.proofs.lemmas.Slice.Eq.{bytes_eq-Decides}
use Rattle.sl_asm.proofs.WantedLemmas.{encodes_from, from_own, has_text, not_a_fault, not_other_bytes, own_choice, own_tables, own_written, to_own}
use Rattle.sl_decode_choices.specs.Choosers.{chosen}
use Rattle.sl_list_instructions.specs.Instructions.{Told, told_by}
use Rattle.sl_asm_narrow.specs.Readers.{tables_of, written_of}
use Rattle.sl_asm.proofs.wanted.WantedTest.test.Goals as goal

pub returns-in_default : goal.returns-in_default
returns-in_default c =
    let r = c.args.self.now.reader.now in
    let d = r.disassembly.now in
    let stands = c.requires.stands in
    let move = from_own d (tables_of r) (written_of r) stands c.args.self.now.address c.args.self.now.context c.args.self.now.text.now c.args.bytes.now in
    let back = to_own d (tables_of r) (written_of r) stands c.args.self.now.address c.args.self.now.context c.args.self.now.text.now c.args.bytes.now in
    let is = sym (rw (c.deref-2.ensures.value, c.window_at-window.ensures) at c.in_ok-told.ensures)
    ∙ ap (λ r. told_by r c.tell.new.text.items c.tell.new.commits.items) c.in_default.is in (
      λ t. absurd (false≢true t),
      λ e. absurd (not_a_fault (own_tables d (tables_of r) (written_of r) stands) (own_written d (tables_of r) (written_of r) stands) c.args.self.now.address c.args.self.now.context c.args.self.now.text.now c.args.bytes.now
          (chosen d.disassembler.choosers) (own_choice d (tables_of r) (written_of r) stands) c.in_default.field-0 is (back e)),
    )

pub returns-then-length-count : goal.returns-then-length-count
returns-then-length-count c =
    let r = c.args.self.now.reader.now in
    let d = r.disassembly.now in
    let stands = c.requires.stands in
    let move = from_own d (tables_of r) (written_of r) stands c.args.self.now.address c.args.self.now.context c.args.self.now.text.now c.args.bytes.now in
    let back = to_own d (tables_of r) (written_of r) stands c.args.self.now.address c.args.self.now.context c.args.self.now.text.now c.args.bytes.now in
    let told : Told = record { text = c.tell.new.text.items; length = c.in-Ok.length; commits = c.tell.new.commits.items } in
    let is = sym (rw (c.deref-2.ensures.value, c.window_at-window.ensures) at c.in_ok-told.ensures)
    ∙ ap (λ r. told_by r c.tell.new.text.items c.tell.new.commits.items) c.in-Ok.is in (
      λ t. absurd (false≢true t),
      λ e. absurd (not_other_bytes (own_tables d (tables_of r) (written_of r) stands) (own_written d (tables_of r) (written_of r) stands) c.args.self.now.address c.args.self.now.context c.args.self.now.text.now c.args.bytes.now
          (chosen d.disassembler.choosers) (own_choice d (tables_of r) (written_of r) stands) told is c.if-length-count.true (back e)),
    )

pub returns : goal.returns
returns c =
    let r = c.args.self.now.reader.now in
    let d = r.disassembly.now in
    let stands = c.requires.stands in
    let move = from_own d (tables_of r) (written_of r) stands c.args.self.now.address c.args.self.now.context c.args.self.now.text.now c.args.bytes.now in
    let back = to_own d (tables_of r) (written_of r) stands c.args.self.now.address c.args.self.now.context c.args.self.now.text.now c.args.bytes.now in
    let bytes = c.args.bytes.now in
    let text = c.args.self.now.text.now in
    let told : Told = record { text = c.tell.new.text.items; length = c.in-Ok.length; commits = c.tell.new.commits.items } in
    let is = sym (rw (c.deref-2.ensures.value, c.window_at-window.ensures) at c.in_ok-told.ensures)
    ∙ ap (λ r. told_by r c.tell.new.text.items c.tell.new.commits.items) c.in-Ok.is in
    let same = rw c.as_slice.ensures.value at c.eq.ensures in
    let some : 1 ≤ length bytes = omega arith in
    let most : length bytes ≤ 255 = omega arith in
    let are : All (λ b. b < 256) bytes = λ k e below.
    let byte : get_or bytes k 0 < 256 = omega (arith, c.type_inv.bytes k) in
    subst (λ (x : ℕ). x < 256) (get_or_default bytes k 0 e below) byte in (
      λ t. move (encodes_from (own_tables d (tables_of r) (written_of r) stands) (own_written d (tables_of r) (written_of r) stands) c.args.self.now.address c.args.self.now.context text bytes
          (chosen d.disassembler.choosers) (own_choice d (tables_of r) (written_of r) stands) told some most are is c.if-length-count.false ((bytes_eq-Decides told.text text).0 (sym same ∙ t))),
      λ e. same ∙ (bytes_eq-Decides told.text text).1 (has_text (own_tables d (tables_of r) (written_of r) stands) (own_written d (tables_of r) (written_of r) stands) c.args.self.now.address c.args.self.now.context text bytes
          (chosen d.disassembler.choosers) (own_choice d (tables_of r) (written_of r) stands) told is (back e)),
    )
