-- Lists of changes, as they grow.
use Rattle.std.proofs.Common.{◌≡◌, ◌≢◌, ℕ, ◌+◌, ◌^◌, ◌<◌, ◌≤◌, List, [], ◌∷◌, ◌++◌, length, refl, sym, ◌∙◌, ap, subst, inl, inr, arith}
use Rattle.std.specs.List.{Contains}
use Rattle.std.specs.Option.{option_map_or}
use Rattle.std.proofs.lemmas.Bool.{cases_lt}
use Rattle.std.proofs.lemmas.Option.{slice_get_past}
use Rattle.std.proofs.lemmas.List.{length-map}
use Rattle.std.proofs.lemmas.List.Elements.{All-push, Contains-append_left, Contains-push}
use Rattle.std.proofs.lemmas.List.Quantifiers.{all_pairs_push}
use Rattle.sl_word.specs.declared.space.Space.{Space}
use Rattle.sl_word.specs.declared.state.Change.{Change}
use Rattle.sl_word.specs.declared.state.State.{State}
use Rattle.sl_word.specs.Bytes.{byte_among, byte_at, address_sizes, endian_of}
use Rattle.sl_word.specs.Pages.{byte_in}
use Rattle.sl_word.specs.Changes.{Precedes, change_of, IsChange, ListsChanges}
use Rattle.sl_word.specs.Differences.{ListsChangesBefore}

later : (s o k from to : ℕ) → from ≤ to → Precedes s o k from → Precedes s o k to
later s o k from to h before =
    elim before [ inl less ↦ inl less | inr same ↦ inr (same.0, omega (arith, same.1)) ]

-- one more change, the first from a place on
pub changes_more : (opening now : State) (k from d : ℕ) (list : List Change) → ListsChangesBefore opening now k from list → from ≤ d → byte_at opening k d ≢ byte_at now k d → ((o : ℕ) → from ≤ o → o < d → byte_at opening k o ≡ byte_at now k o) → ListsChangesBefore opening now k (d + 1) (list ++ change_of k d (byte_at now k d) ∷ [])
changes_more opening now k from d list before h differs same =
    let c : Change = change_of k d (byte_at now k d) in
    record {
      each =
          let P : Change → Type 0 = λ change. IsChange opening now change × Precedes change.space.0 change.offset k (d + 1) in
          All-push P list c
          (λ i x inside. let old = before.each i x inside in (old.0, later _ _ k from (d + 1) (omega arith) old.1))
          ((differs, refl), inr (refl, omega arith));
      all = λ space offset below at ne. elim at [
        | inl less ↦ Contains-append_left list (c ∷ []) _ (before.all space offset below (inl less) ne)
        | inr here ↦ elim (cases_lt offset from) [
          | inl early ↦ Contains-append_left list (c ∷ []) _ (before.all space offset below (inr (here.0, early)) ne)
          | inr late ↦ elim (cases_lt offset d) [
            | inl between ↦
                absurd (ne (subst (λ (s : ℕ). byte_at opening s offset ≡ byte_at now s offset) (sym here.0) (same offset late between)))
            | inr last ↦
                let it : offset ≡ d = omega (arith, here.1) in
                subst (λ (s : ℕ). Contains (list ++ c ∷ []) (change_of s offset (byte_at now s offset))) (sym here.0)
                (subst (λ (o : ℕ). Contains (list ++ c ∷ []) (change_of k o (byte_at now k o))) (sym it) (Contains-push list c))
          ]
        ]
      ];
      ordered =
          all_pairs_push (λ first second. Precedes first.space.0 first.offset second.space.0 second.offset) list c before.ordered
          (λ i x inside. later _ _ k from d h (before.each i x inside).1);
    }

-- past all offsets of a space comes the next one
pub changes_next : (opening now : State) (k from : ℕ) (list : List Change) → 2 ^ 64 ≤ from → ListsChangesBefore opening now k from list → ListsChangesBefore opening now (k + 1) 0 list
changes_next opening now k from list end before =
    record {
      each = λ i x inside.
          let old = before.each i x inside in
          (old.0, elim old.1 [ inl less ↦ inl (omega (arith, less)) | inr here ↦ inl (omega (arith, here.0)) ]);
      all = λ space offset below at ne. elim at [
        | inl less ↦ elim (cases_lt space k) [
          | inl earlier ↦ before.all space offset below (inl earlier) ne
          | inr last ↦ before.all space offset below (inr (omega (arith, less), omega arith)) ne
        ]
        | inr none ↦ absurd (omega (arith, none.1))
      ];
      ordered = before.ordered;
    }

byte_past : (spaces : List Space) (k offset : ℕ) → length spaces ≤ k → byte_among spaces k offset ≡ 0
byte_past spaces k offset past = ap (λ r. option_map_or (λ one. byte_in one offset) r 0) (slice_get_past spaces k past)

-- past all spaces nothing differs
pub changes_end : (opening now : State) (list : List Change) → address_sizes opening ≡ address_sizes now → ListsChangesBefore opening now (length now.spaces.items) 0 list → ListsChanges opening now list
unfolding byte_at address_sizes endian_of
changes_end opening now list sizes before =
    let count : length opening.spaces.items ≡ length now.spaces.items =
    sym (length-map opening.spaces.items (λ one. one.size.bytes)) ∙ ap length sizes ∙ length-map now.spaces.items (λ one. one.size.bytes)
    in
    record {
      each = λ i x inside. (before.each i x inside).0;
      all = λ space offset below ne. elim (cases_lt space (length now.spaces.items)) [
        | inl less ↦ before.all space offset below (inl less) ne
        | inr past ↦
            absurd (ne (byte_past opening.spaces.items space offset (omega (arith, count, past)) ∙ sym (byte_past now.spaces.items space offset past)))
      ];
      ordered = before.ordered;
    }
