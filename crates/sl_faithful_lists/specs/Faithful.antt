-- meaning: when a list of operations is faithful to a decoded instruction.
use Rattle.std.specs.Prelude.{◌≡◌, ℕ, false, List, length}
use Rattle.sl_decode_meaning.specs.Decoding.{Decoded}
use Rattle.sl_faithful_lists.specs.Targets.{AllCallUserOps, AllLeadToDefault}
use Rattle.sl_faithful_lists.specs.Useful.{AllAreUseful}
use Rattle.sl_faithful_keeping.specs.Translations.{IsTranslation}
use Rattle.sl_meaning_instruction.specs.Instructions.{Specification, default_space, instruction}
use Rattle.sl_meaning_instruction.specs.Instructions.{is_unimplemented, setting_of}
use Rattle.sl_pcode.specs.declared.operation.Op.{Op}

-- No node of the decode is `unimpl`; the list is well formed and does what the instruction does,
-- from each memory; each target in a space is one in the default space, and the number of each
-- CALLOTHER is that of a user operation of the specification; and no operation extends a value to
-- its own size, takes all bytes of one, shifts by 0 or adds 0.
pub record IsFaithfulList (s : Specification) (bytes : List ℕ) (address : ℕ) (d : Decoded)
    (ops : List Op) : Type 0 where
  pub implemented : is_unimplemented s.constructors d.tree ≡ false
  pub translation : IsTranslation (setting_of s.tables address d.after)
      (instruction s bytes d.tree) ops
  pub targets : AllLeadToDefault (default_space s.tables) ops
  pub user_operations : AllCallUserOps (length s.tables.userops) ops
  pub useful : AllAreUseful ops
