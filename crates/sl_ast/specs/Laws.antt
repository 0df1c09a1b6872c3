-- law: what the tree without blocks comes to.
use Rattle.std.specs.Prelude.{◌≡◌, List, [], ◌∷◌, ◌++◌, Option, None, Some}
use Rattle.sl_ast.specs.Trees.{Name, Pattern, group, joined, Action, Piece, Section, Constructor, Head, nothing, constructor_then, block_then, constructor, block}
use Rattle.sl_ast.specs.Unfolding.{unfolded}
use Rattle.sl_ast.specs.declared.patterns.PatternOp.TheVariants.{And}

abbrev pub written_constructor : Option Name → List Piece → Pattern → List Action → Section → Constructor
written_constructor table display p acts section = record { table = table; display = display; pattern = p; actions = Some acts; section = section }

abbrev pub written_head : Name → Pattern → List Action → Head
written_head t p acts = record { table = Some t; pattern = Some p; actions = Some acts }

-- a block that gives nothing
abbrev pub bare_head : Head
bare_head = record { table = None; pattern = None; actions = None }

-- A constructor in two blocks that write all: the inner table's name, `(H1) & ((H2) & (P))`, the outer actions first.
abbrev pub BothBlocksGive : Type 0
BothBlocksGive = (t u : Name) (h g p : Pattern) (outer inner own : List Action) (display : List Piece) (section : Section)
    → unfolded (block (written_head t h outer) (block_then (written_head u g inner) (constructor_then (written_constructor None display p own section) nothing) nothing) ∷ [])
    ≡ (2, constructor (written_constructor (Some u) display (joined And (group h) (group (joined And (group g) (group p)))) (outer ++ (inner ++ own)) section)) ∷ []

-- A table of its own stays, whatever the block writes.
abbrev pub OwnTableStays : Type 0
OwnTableStays = (t w : Name) (h p : Pattern) (outer own : List Action) (display : List Piece) (section : Section)
    → unfolded (block (written_head t h outer) (constructor_then (written_constructor (Some w) display p own section) nothing) ∷ [])
    ≡ (1, constructor (written_constructor (Some w) display (joined And (group h) (group p)) (outer ++ own) section)) ∷ []

-- Blocks that write nothing leave constructors as they are, each with its number, a block counting as one.
abbrev pub BareBlocksGiveNothing : Type 0
BareBlocksGiveNothing = (c d e : Constructor)
    → unfolded (constructor c ∷ block bare_head (block_then bare_head (constructor_then d nothing) nothing) ∷ constructor e ∷ [])
    ≡ (0, constructor c) ∷ (3, constructor d) ∷ (4, constructor e) ∷ []
