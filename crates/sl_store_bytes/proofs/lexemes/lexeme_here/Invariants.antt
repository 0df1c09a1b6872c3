use Rattle.std.proofs.Common.{◌≡◌, ◌≤◌, ◌-◌, [], take, drop}
use Rattle.sl_store_bytes.specs.Lexemes.{letters}
use Rattle.sl_store_bytes.specs.Lists.{collected}
use Rattle.sl_store_bytes.proofs.lexemes.lexeme_here.Given as goal

abbrev pub invariant-letters : goal.invariant-letters
invariant-letters g l = record {
  within : l.at ≤ l.count;
  same : letters g.L.Lexeme.follow l.count [] l.text ≡ collected (take l.at l.text) (letters g.L.Lexeme.follow (l.count - l.at) (take l.at l.text) (drop l.at l.text));
}
