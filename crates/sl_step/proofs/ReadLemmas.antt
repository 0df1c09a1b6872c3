-- From what was decoded and built to what is read.
use Rattle.std.proofs.Common.{◌≡◌, ℕ, List, [], map, Result, Ok, Err, refl, sym, ap, subst}
use Rattle.std.specs.Prelude.{ℤ}
use Rattle.sl_ast.specs.Views.{items_of}
use Rattle.sl_build.specs.Accepted.{IsDecodeOf, IsFaithfullyBuilt}
use Rattle.sl_build.specs.declared.built.Built.{Built}
use Rattle.sl_build.specs.declared.built.Built.TheVariants.{Ops, Unimplemented}
use Rattle.sl_decode_contexts.specs.declared.commits.Commit.{Commit}
use Rattle.sl_decode.specs.Walks.{Walked, walk_of, walked}
use Rattle.sl_decode_meaning.specs.Decoding.{Decoded, decoded}
use Rattle.sl_decode_meaning.specs.Flat.{all_values, entries}
use Rattle.sl_decode_meaning.specs.declared.entries.Entry.{Entry}
use Rattle.sl_decode_meaning.specs.declared.faults.Fault.{Fault}
use Rattle.sl_pcode.specs.Operations.{operations}
use Rattle.sl_pcode.specs.declared.list.OpList.{OpList}
use Rattle.sl_step.specs.Stages.{IsRead, IsUnimplemented}
use Rattle.sl_step.specs.Stands.{StandsFor, choice_in, specification_in}
use Rattle.sl_step.specs.declared.stepper.Stepper.{Stepper}

-- ---- a walk is that of an instruction

record IsWalked (r : Result Decoded Fault) (after : ℕ) (nodes : List Entry) (values : List ℤ)
    (commits : List Commit) : Type 0 where
  told : Decoded
  decodes : r ≡ Ok told
  after_is : after ≡ told.after
  nodes_are : nodes ≡ entries 0 told.tree
  values_are : values ≡ all_values told.tree
  commits_are : commits ≡ told.commits

abbrev after_in : Result Walked Fault → ℕ
after_in (Ok (walked n after nodes values commits)) = after
after_in (Err fault) = 0

abbrev nodes_in : Result Walked Fault → List Entry
nodes_in (Ok (walked n after nodes values commits)) = nodes
nodes_in (Err fault) = []

abbrev values_in : Result Walked Fault → List ℤ
values_in (Ok (walked n after nodes values commits)) = values
values_in (Err fault) = []

abbrev commits_in : Result Walked Fault → List Commit
commits_in (Ok (walked n after nodes values commits)) = commits
commits_in (Err fault) = []

walked_by : (r : Result Decoded Fault) (n after : ℕ) (nodes : List Entry) (values : List ℤ) (commits : List Commit)
    → walk_of r ≡ Ok (walked n after nodes values commits) → IsWalked r after nodes values commits
walked_by (Ok d) n after nodes values commits is = record {
  told = d;
  decodes = refl;
  after_is = ap after_in (sym is);
  nodes_are = ap nodes_in (sym is);
  values_are = ap values_in (sym is);
  commits_are = ap commits_in (sym is);
}
walked_by (Err fault) n after nodes values commits is = absurd (cc)

-- ---- what is built of it

-- what was built of these nodes is what is built of their decode
abbrev pub BuiltTo : (x : Stepper) (bytes : List ℕ) (address after : ℕ) (nodes : List Entry) (values : List ℤ) → Built
    → Type 0
BuiltTo x bytes address after nodes values built = (d : Decoded)
    → IsDecodeOf (items_of x.compiled.now.bound.spec) (specification_in x).tables (specification_in x).sizes bytes address d
    → after ≡ d.after → nodes ≡ entries 0 d.tree → values ≡ all_values d.tree
    → IsFaithfullyBuilt (specification_in x) bytes address d built

module _ (x : Stepper) (stands : StandsFor x) (bytes : List ℕ) (address context n after : ℕ) (nodes : List Entry)
    (values : List ℤ) (commits : List Commit)
    (is : walk_of (decoded (specification_in x).tables (specification_in x).constructors (choice_in x) bytes address
    context) ≡ Ok (walked n after nodes values commits)) where
  w : IsWalked (decoded (specification_in x).tables (specification_in x).constructors (choice_in x) bytes address
      context) after nodes values commits
  w = walked_by _ n after nodes values commits is

  built_of : (built : Built) → BuiltTo x bytes address after nodes values built
      → IsFaithfullyBuilt (specification_in x) bytes address w.told built
  built_of built builds = builds w.told (record {
    short = stands.short;
    binds = stands.compiled.binds;
    choose = choice_in x;
    chooses = stands.chooses;
    context = context;
    decodes = w.decodes;
  }) w.after_is w.nodes_are w.values_are

  pub read_list : (list : OpList) → BuiltTo x bytes address after nodes values (Ops list)
      → (read : IsRead (specification_in x) (choice_in x) bytes address context commits after (operations list))
      × (nodes ≡ entries 0 read.told.tree)
  unfolding w
  read_list list builds =
      let faithful = built_of (Ops list) builds in (
        record {
          told = w.told;
          decodes = w.decodes;
          after_is = w.after_is;
          commits_are = w.commits_are;
          implemented = faithful.implemented;
          faithful = faithful;
        },
        w.nodes_are,
      )

  pub read_unimplemented : BuiltTo x bytes address after nodes values Unimplemented
      → IsUnimplemented (specification_in x) (choice_in x) bytes address context
  unfolding w
  read_unimplemented builds = record {
    told = w.told;
    decodes = w.decodes;
    marked = built_of Unimplemented builds;
  }
