-- A listing that is ready, and what was written by it.
use Rattle.std.proofs.Common.{ℕ, ◌≤◌, List, length, Option, Result, sym, subst}
use Rattle.std.specs.Prelude.{OnErr, OnOk}
use Rattle.sl_faithful_accepted.specs.Laws.{IsShort}
use Rattle.sl_decode_choices.specs.Choosers.{chosen}
use Rattle.sl_bind_compile.specs.Compiled.{IsCompiled}
use Rattle.sl_bind_compile.specs.declared.compiled.Compiled.{Compiled}
use Rattle.sl_list_instructions.specs.Fronts.{IsBegun, IsListed}
use Rattle.sl_list_instructions.specs.declared.listings.ListError.{ListError}
use Rattle.sl_list_instructions.proofs.AcceptedLemmas.{aligned}
use Rattle.sl_list_instructions.specs.Listing.{Image}
use Rattle.sl_list_pcode.proofs.WrittenLemmas.{listed_written}
use Rattle.sl_list_pcode.specs.Ready.{IsReady, IsTranslatorOf, items_of_compiled, shows_by, sizes_of_compiled}
use Rattle.sl_list_pcode.specs.Writing.{Writes}
use Rattle.sl_list_pcode.specs.declared.shown.PcodeListing.{PcodeListing}
use Rattle.sl_list_pcode.specs.declared.translator.Translator.{Translator}

module _ (x : Translator) (c : Compiled) (is : IsTranslatorOf c x) where
  own : IsTranslatorOf x.compiled.now x
  own = subst (λ (k : Compiled). IsTranslatorOf k x) (sym is.compiled) is

  pub written : {T : Type 0} (i : Image) (old new : Option (List ℕ)) (r : Result T ListError)
      → OnOk r (IsListed (shows_by x i) (length i.bytes) old new)
      → OnErr r (IsBegun (shows_by x i) (length i.bytes) old new)
      → Writes (items_of_compiled c) c.bound.tables (sizes_of_compiled c) i old new r
  written i old new r whole front =
      let k = x.compiled.now in
      subst (λ (k : Compiled). Writes (items_of_compiled k) k.bound.tables (sizes_of_compiled k) i old new r)
      is.compiled
      (listed_written (items_of_compiled k) k.bound.tables (sizes_of_compiled k) i old new
      (chosen x.disassembly.disassembler.choosers) own.disassembles.chooses x.names own.names r whole front)

module _ (l : PcodeListing) (c : Compiled) (is : IsTranslatorOf c l.translator.now) where
  pub ready : IsShort (items_of_compiled c) → IsCompiled c → IsReady l
  ready short compiled = record {
    short = subst (λ (k : Compiled). IsShort (items_of_compiled k)) (sym is.compiled) short;
    compiled = subst (λ (k : Compiled). IsCompiled k) (sym is.compiled) compiled;
    aligned = subst (λ (k : Compiled). 1 ≤ k.bound.tables.alignment) (sym is.compiled)
        (aligned (items_of_compiled c) c.bound.tables compiled.compiles);
    translates = own l.translator.now c is;
  }
