-- What a constructor says looks within the reach of its nodes.
use Rattle.std.proofs.Common.{◌≡◌, ℕ, ◌+◌, ◌≤◌, List, [], take, Option, Some, None, subst, arith}
use Rattle.std.specs.Prelude.{slice_get}
use Rattle.std.proofs.lemmas.Option.{same_Some}
use Rattle.sl_ast.specs.Trees.{Action, Constructor, Pattern}
use Rattle.sl_ast.specs.Unfolding.{Placed, written}
use Rattle.sl_decode_meaning.specs.Actions.{Changed, Own, look, tell}
use Rattle.sl_decode_meaning.specs.Decoding.{Input, site_at}
use Rattle.sl_decode_meaning.specs.Laws.{input}
use Rattle.sl_decode_meaning.specs.Choices.{Choice}
use Rattle.sl_decode_meaning.specs.Meanings.{Meaning, leaves_by, said, said_by, says}
use Rattle.sl_decode_meaning.specs.Outcomes.{in_turn}
use Rattle.sl_decode_meaning.specs.Places.{Leaf, length_in, length_of}
use Rattle.sl_decode_meaning.specs.Values.{Site}
use Rattle.sl_faithful_reach.proofs.LeafLemmas.{EndWithin, first_ends, leaves_end, longer, none_known}
use Rattle.sl_faithful_reach.proofs.OutcomeLemmas.{then_alike}
use Rattle.sl_faithful_reach.proofs.SiteLemmas.{Sees, acts_alike, field_fits, looks_alike, over, tells_alike}
use Rattle.sl_faithful_reach.specs.DecodeLaws.{TokensAreShort}
use Rattle.sl_faithful_reach.specs.Sight.{reach}
use Rattle.sl_spec.specs.Tables.{Ctor, Operand}
use Rattle.sl_spec.specs.declared.tables.Tables.{Tables}

module _ (i j : Input) (n : ℕ) where
  -- What is done at a node comes to the same from both, where the node's reach is within n.
  pub record LooksAlike (m : Meaning) : Type 0 where
    pub early : (ctor at context : ℕ) (lengths : List ℕ) (c : Changed)
        → reach at (m.length lengths) ≤ n
        → m.early (site_at i ctor at [] context 0) c ≡ m.early (site_at j ctor at [] context 0) c
    pub late : (ctor at context next : ℕ) (lengths : List ℕ) (c : Own)
        → reach at (m.length lengths) ≤ n
        → m.late (site_at i ctor at lengths context next) c
        ≡ m.late (site_at j ctor at lengths context next) c

module _ (t : Tables) (short : TokensAreShort t) (choose : Choice) (own : ℕ → Option Meaning)
    (one other : List ℕ) (address n : ℕ) (alike : take n one ≡ take n other) where
  abbrev before : Input
  before = input choose own one address

  abbrev after : Input
  after = input choose own other address

  module _ (os : List Operand) (p : Pattern) where
    abbrev all_by : List ℕ → List Leaf
    all_by lengths = leaves_by t os p lengths

    abbrev bytes_by : List ℕ → ℕ
    bytes_by lengths = length_in t os (length_of os lengths) p

    all_end : (lengths : List ℕ)
        → EndWithin t os (length_of os lengths) (0 + bytes_by lengths) (all_by lengths)
    all_end lengths = leaves_end t os (length_of os lengths) 0 p

    sees : (s : Site) (known lengths : List ℕ) → bytes_by known ≤ bytes_by lengths
        → reach s.at (bytes_by lengths) ≤ n → Sees t n os (all_by known) s
    sees s known lengths less within name id is =
        let e = first_ends t os (length_of os known) name id (0 + bytes_by known) is
        (field_fits t short (slice_get t.fields id)) (all_by known) (all_end known) in
        omega arith

    pub said_alike : (as' : List Action) → LooksAlike before after n (said t os p as')
    said_alike as' = record {
      early = λ ctor at context lengths c within.
          let s = site_at before ctor at [] context 0 in
          acts_alike t n one other alike os (all_by []) s
          (sees s [] lengths (longer t os (length_of os []) (length_of os lengths)
          (none_known os lengths) p) within) as' c;
      late = λ ctor at context next lengths c within.
          let s = site_at before ctor at lengths context next in
          let fits : s.at + (0 + bytes_by lengths) ≤ n = omega arith in
          then_alike (in_turn (look t os (over one s)) (all_by lengths) c)
          (in_turn (look t os (over other s)) (all_by lengths) c)
          (in_turn (tell t os (all_by lengths) (over one s)) as')
          (in_turn (tell t os (all_by lengths) (over other s)) as')
          (looks_alike t n one other alike os s (length_of os lengths) (0 + bytes_by lengths) fits
          (all_by lengths) c (all_end lengths))
          (tells_alike t n one other alike os (all_by lengths) s
          (sees s lengths lengths (omega arith) within) as');
    }

-- what the constructors of a specification say
module _ (t : Tables) (cs : List (Placed Constructor)) (short : TokensAreShort t) (choose : Choice)
    (one other : List ℕ) (address n : ℕ) (alike : take n one ≡ take n other) where
  abbrev pub Alike : Meaning → Type 0
  Alike m = LooksAlike (input choose (says t cs) one address)
      (input choose (says t cs) other address) n m

  said_by_alike : (m : Meaning) (c : Option Ctor) (placed : Option (Placed Constructor))
      → said_by t c placed ≡ Some m → Alike m
  said_by_alike m (Some c) (Some placed) is =
      let its = said t c.operands placed.1.pattern (written placed.1.actions) in
      subst Alike (same_Some its m is)
      (said_alike t short choose (says t cs) one other address n alike c.operands placed.1.pattern
      (written placed.1.actions))
  said_by_alike m (Some c) None is = absurd (cc)
  said_by_alike m None placed is = absurd (cc)

  pub says_alike : (number : ℕ) (m : Meaning) → says t cs number ≡ Some m → Alike m
  says_alike number m is = said_by_alike m (slice_get t.constructors number)
      (slice_get cs number) is
