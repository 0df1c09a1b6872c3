-- Each name that a text has is a word, and lacks what tells the parts of an operation apart.
use Rattle.std.proofs.Common.{◌≡◌, ℕ, true, false, List, [], ◌∷◌, Option, None, Some, All, slice_get, refl, sym, ap, subst, ◌∙◌}
use Rattle.std.specs.List.{list_all}
use Rattle.std.proofs.lemmas.Bool.{false≢true}
use Rattle.std.proofs.lemmas.List.Elements.{All-get_or}
use Rattle.std.proofs.lemmas.Option.{get_or_from_slice_get, slice_get_within}
use Rattle.sl_ast.specs.Spelling.{name, spell}
use Rattle.sl_ast.specs.Symbols.{Sym, keyword_of, plain, word_by, word_of}
use Rattle.sl_ast.specs.Trees.{Item}
use Rattle.sl_ast.specs.declared.symbols.Keyword.{Keyword}
use Rattle.sl_emu.specs.Readable.{IsPlain, Lacks}
use Rattle.sl_faithful_accepted.proofs.Flats.{of_map}
use Rattle.sl_lex.proofs.KindLemmas.{lexemes, word_of as word_bytes}
use Rattle.sl_lex.proofs.RunLemmas.{both_true}
use Rattle.sl_lex.specs.Bytes.{is_word_byte}
use Rattle.sl_lex.specs.Laws.{IsSomeLexeme}
use Rattle.sl_lex.specs.Reading.{ReadsAs, Token}
use Rattle.sl_lex.specs.declared.TokKind.{TokKind}
use Rattle.sl_lex.specs.declared.TokKind.TheVariants.{Word, Integer, Text, Mark, Blank, Caret, Char}
use Rattle.sl_parse_terminals.specs.Symbols.{symbol_by, symbol_of, symbols_of}
use Rattle.sl_spec_rules.specs.Names.{Name}

-- ---- bytes that words lack

-- It has bytes of words alone.
abbrev pub HasWordBytes : Name → Type 0
HasWordBytes w = list_all is_word_byte w ≡ true

pub lacking : (d : ℕ) → is_word_byte d ≡ false → (w : Name) → HasWordBytes w → Lacks d w
lacking d other [] all = tt
lacking d other (x ∷ w) all =
    let both = both_true (is_word_byte x) (list_all is_word_byte w) all in
    ((λ same. false≢true (sym other ∙ ap is_word_byte (sym same) ∙ both.0)), lacking d other w both.1)

pub is_plain : (w : Name) → HasWordBytes w → IsPlain w
is_plain w is = record {
  blank = lacking 32 refl w is;
  comma = lacking 44 refl w is;
  colon = lacking 58 refl w is;
  bracket = lacking 91 refl w is;
}

-- ---- tokens that are names

plain_by : (o : Option Keyword) (bytes w : List ℕ) → word_by o bytes ≡ plain w → bytes ≡ w
plain_by None bytes w e = cc
plain_by (Some keyword) bytes w e = absurd (cc)

named_by : (kind : TokKind) (bytes w : List ℕ) → symbol_by kind bytes ≡ name w → (kind ≡ Word) × (bytes ≡ w)
unfolding word_of
named_by Word bytes w e =
    let is : word_by (keyword_of bytes) bytes ≡ plain w = cc in (refl, plain_by (keyword_of bytes) bytes w is)
named_by (Integer n) bytes w e = absurd (cc)
named_by Text bytes w e = absurd (cc)
named_by Mark bytes w e = absurd (cc)
named_by Blank bytes w e = absurd (cc)
named_by Caret bytes w e = absurd (cc)
named_by Char bytes w e = absurd (cc)

at_index : {X : Type 0} (P : X → Type 0) (xs : List X) (k : ℕ) (x : X) → All P xs → slice_get xs k ≡ Some x → P x
at_index P xs k x each e =
    subst P (get_or_from_slice_get xs k x x e) (All-get_or P xs k x (slice_get_within xs k x e) each)

module _ (text : List ℕ) (tokens : List Token) (reads : ReadsAs text tokens) where
  named_at : (k : ℕ) (w : Name) (t : Token) → slice_get tokens k ≡ Some t → symbol_of t ≡ name w → HasWordBytes w
  named_at k w t at is =
      let named = named_by t.kind t.text w is in
      let word = word_bytes t (at_index IsSomeLexeme tokens k t (lexemes text tokens None reads) at) named.0 in
      subst HasWordBytes named.1 word.1

  pub names_are_words : (items : List Item) → symbols_of tokens ≡ spell items
      → (k : ℕ) (w : Name) → slice_get (spell items) k ≡ Some (name w) → HasWordBytes w
  names_are_words items spelled = λ k w e.
      let at = of_map symbol_of tokens k (name w)
      (subst (λ (symbols : List Sym). slice_get symbols k ≡ Some (name w)) (sym spelled) e) in
      named_at k w at.0 at.1 at.2
