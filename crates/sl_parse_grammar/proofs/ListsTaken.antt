-- What the readers of lists took.
use Rattle.std.proofs.Common.{◌≡◌, ℕ, zero, suc, inl, inr, Bool, false, List, [], ◌∷◌, ◌++◌, Option, Ok, refl, ap, sym, ◌∙◌, append_assoc, append-nil}
use Rattle.sl_ast.specs.Spelling.{Spelling, spell_all, spell_commas}
use Rattle.sl_ast.specs.Symbols.{Sym, mark}
use Rattle.sl_ast.specs.Validity.{Each}
use Rattle.sl_ast.specs.declared.symbols.Mark.TheVariants as m
use Rattle.sl_parse_grammar.specs.Lists.{many_from, separated_from}
use Rattle.sl_parse_grammar.specs.Reader.{Input, first, Reader, is_mark, next}
use Rattle.sl_parse_grammar.proofs.Taken.{then_ok, along, look_ok, mark_first, took_next}

-- the room before a list, from the room behind it
abbrev pub cost_all : {A : Type 0} → (A → ℕ → ℕ) → List A → ℕ → ℕ
cost_all cost [] s = s
cost_all cost (x ∷ xs) s = cost x (cost_all cost xs s)

-- what a reader of one part took
pub record TookPart {A : Type 0} (spell : Spelling A) (cost : A → ℕ → ℕ) (Good : A → Type 0) (i : Input) (a : A) (j : Input) : Type 0 where
  pub tokens : i.rest ≡ spell a j.rest
  pub room : i.room ≡ cost a j.room
  pub good : Good a

-- one part or more with commas between, behind those that were found
pub record TookParts {A : Type 0} (spell : Spelling A) (cost : A → ℕ → ℕ) (Good : A → Type 0) (found : List A) (i : Input) (as' : List A) (j : Input) : Type 0 where
  pub head : A
  pub tail : List A
  pub whole : found ++ (head ∷ tail) ≡ as'
  pub tokens : i.rest ≡ spell head (spell_commas spell tail j.rest)
  pub room : i.room ≡ cost head (cost_all cost tail j.room)
  pub good : Good head
  pub goods : Each Good tail

pub separated_ok : {A : Type 0} (spell : Spelling A) (cost : A → ℕ → ℕ) (Good : A → Type 0) (p : Reader A)
    → ((i j : Input) (a : A) → p i ≡ Ok (a, j) → TookPart spell cost Good i a j) → (n : ℕ) (found : List A) (i j : Input) (as' : List A)
    → separated_from p n found i ≡ Ok (as', j) → TookParts spell cost Good found i as' j
unfolding separated_from
separated_ok spell cost Good p sound zero found i j as' e = absurd (cc)
separated_ok spell cost Good p sound (suc n) found i j as' e =
    let a = then_ok (p i) _ as' j e in
    let x = a.0 in
    let k = a.1 in
    let part = sound i k x a.2 in
    elim (look_ok (is_mark m.Comma) _ _ k (Ok (as', j)) a.3) [
      | inl h ↦
          let comma = took_next k (mark m.Comma) (mark_first m.Comma (first k.rest) h.0) in
          let more = separated_ok spell cost Good p sound n (found ++ x ∷ []) (next k) j as' h.1 in
          record {
            head = x;
            tail = more.head ∷ more.tail;
            whole = sym (append_assoc found (x ∷ []) (more.head ∷ more.tail)) ∙ more.whole;
            tokens = part.tokens ∙ ap (spell x) (comma.tokens ∙ ap (λ xs. mark m.Comma ∷ xs) more.tokens);
            room = part.room ∙ ap (cost x) more.room;
            good = part.good;
            goods = (more.good, more.goods);
          }
      | inr h ↦ along (λ bs l. TookParts spell cost Good found i bs l) (found ++ x ∷ []) as' k j h.1 (record {
        head = x;
        tail = [];
        whole = refl;
        tokens = part.tokens;
        room = part.room;
        good = part.good;
        goods = tt;
      })
    ]

-- parts one behind the other
pub record TookMany {A : Type 0} (spell : Spelling A) (Good : A → Type 0) (goes : Option Sym → Bool) (found : List A) (i : Input) (as' : List A) (j : Input) : Type 0 where
  pub new : List A
  pub whole : found ++ new ≡ as'
  pub tokens : i.rest ≡ spell_all spell new j.rest
  pub goods : Each Good new
  pub ended : goes (first j.rest) ≡ false

-- what a reader outside expressions took
pub record Takes {A : Type 0} (spell : Spelling A) (Good : A → Type 0) (i : Input) (a : A) (j : Input) : Type 0 where
  pub tokens : i.rest ≡ spell a j.rest
  pub good : Good a

pub many_ok : {A : Type 0} (spell : Spelling A) (Good : A → Type 0) (goes : Option Sym → Bool) (p : Reader A)
    → ((i j : Input) (a : A) → p i ≡ Ok (a, j) → Takes spell Good i a j) → (n : ℕ) (found : List A) (i j : Input) (as' : List A)
    → many_from goes p n found i ≡ Ok (as', j) → TookMany spell Good goes found i as' j
unfolding many_from
many_ok spell Good goes p sound zero found i j as' e = absurd (cc)
many_ok spell Good goes p sound (suc n) found i j as' e =
    elim (look_ok goes _ _ i (Ok (as', j)) e) [
      | inl h ↦
          let a = then_ok (p i) _ as' j h.1 in
          let part = sound i a.1 a.0 a.2 in
          let more = many_ok spell Good goes p sound n (found ++ a.0 ∷ []) a.1 j as' a.3 in
          record {
            new = a.0 ∷ more.new;
            whole = sym (append_assoc found (a.0 ∷ []) more.new) ∙ more.whole;
            tokens = part.tokens ∙ ap (spell a.0) more.tokens;
            goods = (part.good, more.goods);
            ended = more.ended;
          }
      | inr h ↦ along (λ bs l. TookMany spell Good goes found i bs l) found as' i j h.1 (record { new = []; whole = append-nil found; tokens = refl; goods = tt; ended = h.0 })
    ]
