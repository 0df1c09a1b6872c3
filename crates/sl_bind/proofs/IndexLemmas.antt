-- The first tokens of what stands in blocks.
use Rattle.std.proofs.Common.{◌≡◌, ℕ, List, [], ◌∷◌, ◌++◌, Vec, map, refl, sym, ap, ◌∙◌, append_assoc, Option, subst, Result, Ok, Err}
use Rattle.std.specs.Prelude.{IfOk}
use Rattle.std.specs.declared.alloc.Global.{Global}
use Rattle.sl_ast.specs.Views.{inner_indexes, inner_indexes_step, joined_lists}
use Rattle.sl_ast.specs.declared.constructors.Head.{Head}
use Rattle.sl_ast.specs.declared.constructors.Inner as n
use Rattle.sl_ast.specs.declared.constructors.Inner.{Inner}
use Rattle.sl_ast.specs.declared.constructors.Inner.TheFolds.{fold-roll-Inner}
use Rattle.sl_ast.specs.declared.constructors.Inner.TheOpen.{Inner-F}
use Rattle.sl_ast.specs.declared.constructors.Inner.TheVariants.{rolls-With}
use Rattle.sl_ast.specs.Views.{indexes_of, item_indexes, items_of}
use Rattle.sl_ast.specs.declared.items.Item.{Item}
use Rattle.sl_ast.specs.declared.items.Spec.{Spec}
use Rattle.sl_bind.specs.Indexes.{indexes_in}
use Rattle.sl_bind.specs.Binding.{Binds}
use Rattle.sl_bind.specs.Refusals.{IsErrorOf, Refuses, TellsFault}
use Rattle.sl_bind.specs.BindFaults.{HasFault, token_of}
use Rattle.sl_bind.specs.declared.bound.BindError.{BindError}
use Rattle.sl_bind.specs.declared.bound.BindError.TheVariants as be
use Rattle.sl_bind.specs.declared.fault.BindFault.{BindFault}
use Rattle.sl_bind.specs.declared.fault.BindFault.TheVariants as fault
use Rattle.sl_spec_rules.specs.Gathered.{gathered}

pub joined_is_gathered : {X : Type 0} (f : X → List ℕ) (xs : List X) → joined_lists (map f xs) ≡ gathered f xs
unfolding gathered
joined_is_gathered f [] = refl
joined_is_gathered f (x ∷ xs) = ap (λ (l : List ℕ). f x ++ l) (joined_is_gathered f xs)

-- a block, by its shape
pub block_indexes : (first : ℕ) (h : Head) (inside : Vec Inner Global) → indexes_in (n.With first h inside) ≡ first ∷ gathered indexes_in inside.items
block_indexes first h inside =
    ap indexes_in (sym (rolls-With first h inside)) ∙ fold-roll-Inner (List ℕ) inner_indexes_step (Inner-F.With first h inside)
    ∙ ap (λ (l : List ℕ). first ∷ l) (joined_is_gathered indexes_in inside.items)

-- a block's first token and then those inside it were added
pub adds_block : (first : ℕ) (h : Head) (inside : Vec Inner Global) (parts : List Inner) (old new : List ℕ) → parts ≡ inside.items
    → new ≡ (old ++ first ∷ []) ++ gathered indexes_in parts → new ≡ old ++ indexes_in (n.With first h inside)
adds_block first h inside parts old new listed is =
    is ∙ append_assoc old (first ∷ []) (gathered indexes_in parts)
    ∙ ap (λ (ps : List Inner). old ++ first ∷ gathered indexes_in ps) listed
    ∙ ap (λ (l : List ℕ). old ++ l) (sym (block_indexes first h inside))

-- an item's first token and then those inside it were added
pub adds_item : {A E : Type 0} (first : ℕ) (inside parts : List Inner) (old between new : List ℕ) (r : Result A E) → parts ≡ inside
    → between ≡ old ++ first ∷ [] → IfOk r (λ _. new ≡ between ++ gathered indexes_in parts) → IfOk r (λ _. new ≡ old ++ first ∷ inner_indexes inside)
adds_item first inside parts old between new (Ok x) listed pushed is =
    is ∙ ap (λ (l : List ℕ). l ++ gathered indexes_in parts) pushed
    ∙ append_assoc old (first ∷ []) (gathered indexes_in parts)
    ∙ ap (λ (ps : List Inner). old ++ first ∷ gathered indexes_in ps) listed
    ∙ ap (λ (l : List ℕ). old ++ first ∷ l) (sym (joined_is_gathered indexes_in inside))
adds_item first inside parts old between new (Err e) listed pushed is = tt

-- ---- what an error tells

-- the first tokens of all items
indexes_are : (spec : Spec) → indexes_of spec ≡ gathered item_indexes spec.items.items
indexes_are spec = joined_is_gathered item_indexes spec.items.items

pub refuses : (spec : Spec) (items : List Item) (f : BindFault) (item : Option ℕ) (error : BindError) → items ≡ spec.items.items
    → Binds (items_of spec) (Err (f, item)) → TellsFault (gathered item_indexes items) f item error → Refuses spec error
refuses spec items f item error are binds tells = by error tells
  where
    fits : (g : BindFault) (token : Option ℕ) → f ≡ g → token ≡ token_of (gathered item_indexes items) item → HasFault spec g token
    fits g token is told = record {
      item = item;
      binds = subst (λ (x : BindFault). Binds (items_of spec) (Err (x, item))) is binds;
      token_is = told ∙ ap (λ (is : List Item). token_of (gathered item_indexes is) item) are ∙ ap (λ (l : List ℕ). token_of l item) (sym (indexes_are spec));
    }

    by : (e : BindError) → TellsFault (gathered item_indexes items) f item e → Refuses spec e
    by be.NoMemory told = tt
    by (be.Rule number token) told = fits (fault.Rule number) token told.0 told.1
    by (be.SizeClash token) told = fits fault.SizeClash token told.0 told.1
    by (be.SizeUnfixed token) told = fits fault.SizeUnfixed token told.0 told.1

pub tells_fault : (indexes : List ℕ) (f : BindFault) (item token : Option ℕ) (error : BindError) → token ≡ token_of indexes item → IsErrorOf f token error → TellsFault indexes f item error
tells_fault indexes f item token be.NoMemory is told = tt
tells_fault indexes f item token (be.Rule number given) is told = (told.0, told.1 ∙ is)
tells_fault indexes f item token (be.SizeClash given) is told = (told.0, told.1 ∙ is)
tells_fault indexes f item token (be.SizeUnfixed given) is told = (told.0, told.1 ∙ is)
