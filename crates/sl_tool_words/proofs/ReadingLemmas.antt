-- The ways out of a parse.
use Rattle.std.proofs.Common.{◌≡◌, ◌⊎◌, ⊎_elim, List, [], Option, Some, None, option_map, unwrap_or, sym, ap, subst}
use Rattle.std.specs.Prelude.{Box}
use Rattle.std.specs.Box.{box_value}
use Rattle.clap.specs.Kinds.{IsAmong, Kinds}
use Rattle.clap.specs.Simple.{subcommand_rows}
use Rattle.clap.specs.Walk.{Row, Text}
use Rattle.clap.specs.declared.error.kind.ErrorKind.{ErrorKind}
use Rattle.clap.specs.declared.error.kind.ErrorKind.TheVariants.{OutOfMemory}
use Rattle.clap.specs.declared.parser.matches.ArgMatches.TheViews.{out-SubCommand}
use Rattle.clap.specs.declared.parser.matches.SubCommand.{SubCommand}

-- the subcommand is the one whose name and rows are known
pub subcommand_is : {Z : Type 0} (o : Option (Box SubCommand Z)) (name : Text) (rows : List Row) → Some name ≡ option_map (λ b. (out-SubCommand (box_value b)).name.now) o
    → Some rows ≡ option_map (λ (p : Text × List Row). p.1) (subcommand_rows o) → subcommand_rows o ≡ Some (name, rows)
subcommand_is None name rows n r = absurd (cc)
subcommand_is (Some b) name rows n r =
    let is_name : name ≡ (out-SubCommand (box_value b)).name.now = cc in
    let is_rows = ap (λ o. unwrap_or o rows) r in
    λ i. Some (sym is_name i, sym is_rows i)

-- an error that isn't for want of memory has a kind
pub has_kind : (k : ErrorKind) (kinds : Kinds) → (k ≡ OutOfMemory) ⊎ IsAmong k kinds → (k ≡ OutOfMemory → ⊥) → kinds ≡ [] → ⊥
has_kind k kinds h not_memory none = ⊎_elim (λ m. not_memory m) (λ among. let bad : IsAmong k [] = subst (IsAmong k) none among in bad) h
