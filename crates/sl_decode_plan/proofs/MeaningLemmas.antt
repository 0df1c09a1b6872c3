-- Parts that come to the same for all lengths and sites are the same part.
use Rattle.std.proofs.Common.{◌≡◌, ℕ, ◌<◌, ◌≤◌, ◌+◌, List, [], ◌∷◌, ◌++◌, length, drop, get_or}
use Rattle.std.proofs.Common.{drop-cons, add-one, map, Bool, true, false, refl, sym, ap, ◌∙◌, Result}
use Rattle.std.proofs.Common.{append-nil, append_assoc, cond}
use Rattle.std.proofs.Math.ListN.{drop_of_length-le}
use Rattle.std.proofs.Math.Path.{fun_ext}
use Rattle.sl_decode_meaning.specs.Actions.{Changed, Own}
use Rattle.sl_decode_meaning.specs.Meanings.{Meaning, Slot, leaves_by, said, slot}
use Rattle.sl_decode_meaning.specs.Places.{Leaf, leaves, length_in, length_of, means_table}
use Rattle.sl_decode_meaning.specs.Places.{table_operands}
use Rattle.sl_decode_meaning.specs.Values.{Site}
use Rattle.sl_decode_meaning.specs.declared.faults.Fault.{Fault}
use Rattle.sl_decode_plan.specs.Plans.{said_by_leaves}
use Rattle.sl_ast.specs.Trees.{Action, Pattern}
use Rattle.sl_spec.specs.Tables.{Operand}
use Rattle.sl_spec.specs.declared.tables.Tables.{Tables}

pub slots_alike : (t u : ℕ) (f g : List ℕ → ℕ) → t ≡ u → ((lengths : List ℕ) → f lengths ≡ g lengths)
    → slot t f ≡ slot u g
slots_alike t u f g h k = ap (λ n. slot n f) h ∙ ap (slot u) (fun_ext k)

pub meanings_alike : (e f : Site → Changed → Result Changed Fault) (os ps : List Slot)
    (l m : List ℕ → ℕ) (u v : Site → Own → Result Own Fault)
    → ((s : Site) (c : Changed) → e s c ≡ f s c) → os ≡ ps
    → ((lengths : List ℕ) → l lengths ≡ m lengths) → ((s : Site) (c : Own) → u s c ≡ v s c)
    → ◌≡◌ {A = Meaning} (record { early = e; slots = os; length = l; late = u })
    (record { early = f; slots = ps; length = m; late = v })
meanings_alike e f os ps l m u v h i j k =
    ap (λ z. record { early = z; slots = os; length = l; late = u }) (fun_ext (λ s. fun_ext (h s)))
    ∙ ap (λ z. record { early = f; slots = z; length = l; late = u }) i
    ∙ ap (λ z. record { early = f; slots = ps; length = z; late = u }) (fun_ext j)
    ∙ ap (λ z. record { early = f; slots = ps; length = m; late = z }) (fun_ext (λ s. fun_ext (k s)))

pub said_as : (t : Tables) (os : List Operand) (p : Pattern) (as' bs : List Action)
    (f : List ℕ → List Leaf) (l : List ℕ → ℕ)
    → ((lengths : List ℕ) → f lengths ≡ leaves t os (length_of os lengths) 0 p)
    → ((lengths : List ℕ) → l lengths ≡ length_in t os (length_of os lengths) p) → as' ≡ bs
    → said_by_leaves t os f l as' ≡ said t os p bs
said_as t os p as' bs f l h k e =
    ap (λ ls. said_by_leaves t os ls l as') (fun_ext h)
    ∙ ap (λ n. said_by_leaves t os (leaves_by t os p) n as') (fun_ext k)
    ∙ ap (said t os p) e

operand_first : {M : Type 0} (f : Operand → M) (o : Operand) (rest : List Operand) (b : Bool)
    → map f (cond b (o ∷ rest) rest) ≡ map f (cond b (o ∷ []) []) ++ map f rest
operand_first f o rest true = refl
operand_first f o rest false = refl

module _ {M : Type 0} (f : Operand → M) (os : List Operand) (i : ℕ) (made : List M) where
  -- one more operand
  pub operand_next : (o : Operand) (more : List M) → i < length os → o ≡ get_or os i o
      → more ≡ made ++ map f (table_operands (o ∷ []))
      → more ++ map f (table_operands (drop (i + 1) os))
      ≡ made ++ map f (table_operands (drop i os))
  operand_next o more within is e =
      let rest = table_operands (drop (i + 1) os) in
      let cut : drop i os ≡ o ∷ drop (i + 1) os =
      rw add-one (drop-cons os i o within) ∙ ap (λ x. x ∷ drop (i + 1) os) (sym is) in
      ap (λ l. l ++ map f rest) e
      ∙ append_assoc made (map f (table_operands (o ∷ []))) (map f rest)
      ∙ ap (λ l. made ++ l) (sym (operand_first f o rest (means_table o.means)))
      ∙ sym (ap (λ l. made ++ map f (table_operands l)) cut)

  pub operands_end : length os ≤ i → made ++ map f (table_operands (drop i os)) ≡ made
  operands_end end =
      ap (λ l. made ++ map f (table_operands l)) (drop_of_length-le os end) ∙ append-nil made
