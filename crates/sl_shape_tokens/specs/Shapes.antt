-- meaning: the shapes of patterns: a list of tokens, and whether a pattern has just these tokens, may be followed by more
-- bytes, or has a length that varies (SLEIGH manual, "The Bit Pattern Section").
use Rattle.std.specs.Prelude.{ℕ, Bool, true, false, ◌&&◌, ◌||◌, List, [], ◌∷◌, ◌++◌, Option, Some, None, fold, map, if◌then◌else◌}
use Rattle.std.specs.List.{list_all}
use Rattle.sl_shape_tokens.specs.Comparing.{common_prefix, compared}
use Rattle.sl_shape_tokens.specs.declared.shapes.Compared.{Compared}
use Rattle.sl_shape_tokens.specs.declared.shapes.Compared.TheVariants.{Same, FirstShorter, SecondShorter, Apart}
use Rattle.sl_shape_tokens.specs.declared.shapes.Kind.{Kind}
use Rattle.sl_shape_tokens.specs.declared.shapes.Kind.TheVariants.{Fixed, Trailing, Varying}

-- tokens by their numbers
pub record Shape : Type 0 where
  pub kind : Kind
  pub tokens : List ℕ

abbrev pub is_fixed : Kind → Bool
is_fixed Fixed = true
is_fixed Trailing = false
is_fixed Varying = false

abbrev pub is_empty : List ℕ → Bool
is_empty [] = true
is_empty (t ∷ ts) = false

abbrev pub is_same : Compared → Bool
is_same Same = true
is_same FirstShorter = false
is_same SecondShorter = false
is_same Apart = false

-- ---- leaves

-- a field of a token
abbrev pub of_token : ℕ → Shape
of_token t = record { kind = Fixed; tokens = t ∷ [] }

-- a field of the context, and `epsilon`
abbrev pub of_nothing : Shape
of_nothing = record { kind = Fixed; tokens = [] }

-- ---- `P ...`

abbrev pub extended_kind : Kind → Kind
extended_kind Fixed = Trailing
extended_kind Trailing = Trailing
extended_kind Varying = Varying

abbrev pub extended : Shape → Shape
extended p = record { kind = extended_kind p.kind; tokens = p.tokens }

-- ---- `P ; Q`

abbrev pub followed_by : Kind → Shape → Shape → Shape
followed_by Fixed p q = record { kind = q.kind; tokens = p.tokens ++ q.tokens }
followed_by Trailing p q = record { kind = Varying; tokens = p.tokens }
followed_by Varying p q = record { kind = Varying; tokens = p.tokens }

abbrev pub followed : Shape → Shape → Shape
followed p q = followed_by p.kind p q

-- ---- `P & Q`; none where their tokens differ

-- the kind of two patterns with the same list
abbrev pub same_kind : Kind → Kind → Kind
same_kind Varying k = Varying
same_kind Fixed Varying = Varying
same_kind Fixed Fixed = Fixed
same_kind Fixed Trailing = Fixed
same_kind Trailing Varying = Varying
same_kind Trailing Fixed = Fixed
same_kind Trailing Trailing = Trailing

-- the kind of two patterns, the first of which has the shorter list
abbrev pub longer_kind : Kind → Kind → Kind
longer_kind Varying long = Varying
longer_kind Fixed long = long
longer_kind Trailing long = long

-- a shorter list has no token, or its pattern isn't fixed
abbrev pub beside : Shape → Shape → Option Shape
beside short long = if is_empty short.tokens || (if is_fixed short.kind then false else true)
    then Some (record { kind = longer_kind short.kind long.kind; tokens = long.tokens })
    else None

abbrev pub both_where : Compared → Shape → Shape → Option Shape
both_where Same p q = Some (record { kind = same_kind p.kind q.kind; tokens = p.tokens })
both_where FirstShorter p q = beside p q
both_where SecondShorter p q = beside q p
both_where Apart p q = None

abbrev pub both : Shape → Shape → Option Shape
both p q = both_where (compared p.tokens q.tokens) p q

-- ---- `P | Q`; none where their tokens differ

-- the shape, if the other one has no token
abbrev pub or_empty : Shape → Shape → Option Shape
or_empty shape other = if is_empty other.tokens then Some shape else None

-- where both are fixed: their lists are the same, or one has no token
abbrev pub either_where : Compared → Shape → Shape → Option Shape
either_where Same p q = Some p
either_where FirstShorter p q = or_empty q p
either_where SecondShorter p q = or_empty p q
either_where Apart p q = None

abbrev pub either : Shape → Shape → Option Shape
either p q = if is_fixed p.kind && is_fixed q.kind then either_where (compared p.tokens q.tokens) p q else None

-- ---- tables

-- whether a shape is fixed and has this list
abbrev pub is_fixed_as : List ℕ → Shape → Bool
is_fixed_as tokens s = is_fixed s.kind && is_same (compared tokens s.tokens)

-- the shape of a table from those of its constructors: the common list where all are fixed and have the same list, and
-- else their longest common beginning; without constructors it has no token
abbrev pub of_table : List Shape → Shape
of_table [] = of_nothing
of_table (s ∷ ss) = if is_fixed s.kind && list_all (is_fixed_as s.tokens) ss
    then s
    else record { kind = Varying; tokens = fold common_prefix s.tokens (map (λ t. t.tokens) ss) }
