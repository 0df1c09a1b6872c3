-- Symbols up to where the reader finds a fault begin a tree, and none goes on past it.
use Rattle.std.proofs.Common.{◌≡◌, ℕ, suc, ◌+◌, ◌<◌, inl, inr, Bool, true, false, nat_le, List, [], ◌∷◌, ◌++◌, length, Err, refl, ap, sym, ◌∙◌, subst, arith, append_assoc}
use Rattle.sl_ast.specs.Spelling.{spell_item, spell_all}
use Rattle.sl_ast.specs.Symbols.{Sym}
use Rattle.sl_ast.specs.Validity.{AreItemsWithin, heaviest, deepest}
use Rattle.sl_parse_grammar.specs.Items.{item, is_there, specification_within, specification}
use Rattle.sl_parse_grammar.specs.Lists.{many}
use Rattle.sl_parse_grammar.specs.Reader.{Form, nesting, Fault, fault, at}
use Rattle.sl_parse_grammar.proofs.Faults.{refused, none_begins_within}
use Rattle.sl_parse_grammar.proofs.Steps.{le_is}
use Rattle.sl_parse_faults.proofs.Closes.{Mended}
use Rattle.sl_parse_faults.proofs.Fronts.{front_of, gt_is}
use Rattle.sl_parse_faults.proofs.Goes.{Goes, at_place, there, hint, StandsAt}
use Rattle.sl_parse_faults.proofs.MendItems.{whole_items}
use Rattle.sl_parse_faults.proofs.RaisedItems.{more_room}
use Rattle.sl_parse_faults.proofs.Wider.{wider_items}
use Rattle.sl_parse_faults.specs.Forms.{BeginsWithin, BeginsATree, BeginsAnyTree}
use Rattle.sl_parse_faults.specs.Laws.{IsNesting}

-- ---- symbols in two parts at a place

-- what goes together, in parts
pub record Split (extra : ℕ) (g : Form) (n : ℕ) (xs ys : List Sym) : Type 0 where
  pub before : List Sym
  pub after : List Sym
  pub parts : xs ≡ before ++ after
  pub counted : length after ≡ n
  pub rest : List Sym
  pub goes : ys ≡ before ++ (hint extra g after ++ rest)
  pub stands : StandsAt extra g after

pub split : {extra : ℕ} {g : Form} {n : ℕ} {xs ys : List Sym} → Goes extra g n xs ys → Split extra g n xs ys
split {xs = xs} (at_place counted starts stands) = record { before = []; after = xs; parts = refl; counted = counted; rest = starts.0; goes = starts.1; stands = stands }
split (there {x = x} h) =
    let s = split h in
    record { before = x ∷ s.before; after = s.after; parts = ap (λ ys. x ∷ ys) s.parts; counted = s.counted; rest = s.rest; goes = ap (λ ys. x ∷ ys) s.goes; stands = s.stands }

-- ---- no tree goes on past a fault

abbrev pub Finds : List Sym → Form → ℕ → Type 0
Finds symbols g n = specification_within heaviest deepest symbols ≡ Err (fault g n)

is_no_limit : (symbols : List Sym) (g : Form) (n : ℕ) → Finds symbols g n → (g ≡ nesting → ⊥) → IsNesting (specification_within heaviest deepest symbols) → ⊥
is_no_limit symbols g n finds other_form h = other_form (subst IsNesting finds h)

pub never : (symbols : List Sym) (g : Form) (n : ℕ) → Finds symbols g n → (g ≡ nesting → ⊥) → (x : Sym) (xs ys : List Sym) → symbols ≡ xs ++ x ∷ ys → n ≡ suc (length ys) → BeginsAnyTree (xs ++ x ∷ []) → ⊥
never symbols g n finds other_form x xs ys parts counted begins =
    let most = begins.0 in
    let deep = begins.1 in
    let b = begins.2 in
    elim (more_room heaviest deepest most deep symbols) [
      | inl h ↦ is_no_limit symbols g n finds other_form h
      | inr same ↦
          let found : specification_within (most + heaviest) (deep + deepest) (xs ++ x ∷ ys) ≡ Err (fault g (suc (length ys))) =
          ap (specification_within (most + heaviest) (deep + deepest)) (sym parts) ∙ sym same ∙ finds ∙ ap (λ l. Err (fault g l)) counted in
          none_begins_within (most + heaviest) (deep + deepest) g x xs ys b.rest b.items found (wider_items most (most + heaviest) deep (deep + deepest) b.items (omega arith) (omega arith) b.good)
          (b.spells ∙ append_assoc xs (x ∷ []) b.rest)
    ]

pub none_within : (symbols : List Sym) (g : Form) (n : ℕ) → Finds symbols g n → (x : Sym) (xs ys : List Sym) → symbols ≡ xs ++ x ∷ ys → n ≡ suc (length ys) → BeginsATree (xs ++ x ∷ []) → ⊥
none_within symbols g n finds x xs ys parts counted b =
    let found : specification_within heaviest deepest (xs ++ x ∷ ys) ≡ Err (fault g (suc (length ys))) =
    ap (specification_within heaviest deepest) (sym parts) ∙ finds ∙ ap (λ l. Err (fault g l)) counted in
    none_begins_within heaviest deepest g x xs ys b.rest b.items found b.good (b.spells ∙ append_assoc xs (x ∷ []) b.rest)

-- ---- up to a fault

-- a tree of a whole list
pub begun : (extra : ℕ) (xs : List Sym) (e : Fault) → many is_there (item heaviest deepest) (at xs 0) ≡ Err e → Mended extra (spell_all spell_item) (AreItemsWithin (extra + heaviest) (extra + deepest)) xs e
begun extra xs e h = (whole_items extra heaviest deepest).mends (at xs 0) tt e h

-- what begins a tree begins one with fewer symbols
pub shorter : (most deep : ℕ) (xs ys : List Sym) → BeginsWithin most deep (xs ++ ys) → BeginsWithin most deep xs
shorter most deep xs ys b = record { items = b.items; good = b.good; rest = ys ++ b.rest; spells = b.spells ∙ append_assoc xs ys b.rest }

-- the symbols before the one where the fault was found begin a tree
pub begins_up_to : (symbols : List Sym) (e : Fault) → specification symbols ≡ Err e → (xs : List Sym) × (ys : List Sym) × (symbols ≡ xs ++ ys) × (length ys ≡ e.left) × BeginsATree xs
unfolding specification specification_within
begins_up_to symbols e h =
    let plain = begun 0 symbols e (refused (many is_there (item heaviest deepest) (at symbols 0)) e h) in
    let s = split (plain.goes []) in (
      s.before,
      s.after,
      s.parts,
      s.counted,
      record {
        items = plain.tree;
        good = wider_items (0 + heaviest) heaviest (0 + deepest) deepest plain.tree (omega arith) (omega arith) plain.good;
        rest = s.rest;
        spells = s.goes;
      },
    )

-- Symbols that begin no tree go on to where the fault was found.
pub reaches : (symbols : List Sym) (e : Fault) → specification symbols ≡ Err e → (front written rest : List Sym) → symbols ≡ (front ++ written) ++ rest → (BeginsAnyTree (front ++ written) → ⊥)
    → length rest < e.left
reaches symbols e h front written rest parts never = by_order (nat_le e.left (length rest)) refl
  where
    by_order : (b : Bool) → nat_le e.left (length rest) ≡ b → length rest < e.left
    by_order false is = gt_is e.left (length rest) is
    by_order true is =
        let less = le_is e.left (length rest) is in
        let up = begins_up_to symbols e h in
        let counted = up.3 in
        let more = front_of up.0 up.1 (front ++ written) rest (sym up.2 ∙ parts) (omega (arith, counted, less)) in
        absurd (never (heaviest, deepest, shorter heaviest deepest (front ++ written) more.0 (subst BeginsATree more.1 up.4)))
