use Rattle.std.proofs.Common.{◌≡◌, ◌≤◌, ℕ, length}
use Rattle.sl_section_exports.specs.Spreads.{mark_of}
use Rattle.sl_section_exports.proofs.marks.widen.Given as goal

abbrev pub invariant-room : goal.invariant-room
invariant-room l = record {
  kept : (w : ℕ) → mark_of l.marks.items w ≡ mark_of l.initial.marks.items w;
  long : l._room ≤ length l.marks.items;
}
