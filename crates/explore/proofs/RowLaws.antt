-- From reached keys to situations: where the keys of lawful records obey the laws of keys, what the search leaves in the tables is the sheet's
-- situations, counted exactly, or shows that there are more than the limit. From the laws of searches (automaton).
use Prim.Native.Nat.{ℕ, ◌<◌}
use native.Mathlib.Omega.{arith}
use mathlib.Core.Path.{◌≡◌, refl, sym, ◌∙◌, ap, subst}
use mathlib.Core.Bool.{Bool, true, false, cond}
use mathlib.Core.List.Memᴰ
use mathlib.Core.List.{List, [], ◌∷◌, ◌++◌, map-append}
use lib.Dec.{T}
use Rattle.std.specs.Prelude.{is_some}
use Rattle.outcome.proofs.RecordNumbers.{letter_numbers_of, letter_numbers_of_record, letter_numbers_of_below}
use Rattle.basics.proofs.Tests.{T-of_true}
use Rattle.basics.proofs.Tests.{true_of_T}
use Rattle.automaton.specs.Words.{AllBelow}
use Rattle.automaton.specs.ReachedRows.{IsThing, KeysStand}
use Rattle.automaton.proofs.ReachedRows.{searched-rows, searched_things, searched-more_things}
use Rattle.meaning.specs.Expression.{Stream, Sheet}
use Rattle.meaning.specs.Letter.{IsLetter, OfLetters, letter_count, letter_of, record_of}
use Rattle.meaning.specs.Situation.{Situation, lawful, situation, IsSituation}
use Rattle.meaning.specs.Evaluation.{all_done}
use Rattle.meaning.proofs.Lawful.{lawful-short, lawful-beginning}
use Rattle.meaning.proofs.Letter.{letter_of-letter}
use Rattle.prepare.specs.Key.{digit, key_of}
use Rattle.extend.specs.Step.{Store, judged_after, key_after}
use Rattle.explore.specs.Search.{start_key, flag_of, key_system, Searched}
use Rattle.explore.specs.Rows.{is_lawful, situation_of, letter_numbers, ExploreOutcome}

-- ---- letters in range

pub below-letters : (ss : List Stream) (r : List ℕ) → AllBelow (letter_count ss) r → OfLetters ss (record_of ss r)
below-letters ss [] h l m = absurd (Memᴰ.not-nil m)
below-letters ss (a ∷ r) h l (Memᴰ.head e) = subst (IsLetter ss) (sym e) (letter_of-letter ss a h.0)
below-letters ss (a ∷ r) h l (Memᴰ.tail m) = below-letters ss r h.1 l m

same_bit : (b c : Bool) → ◌≡◌ {A = ℕ} (cond b 1 0) (cond c 1 0) → b ≡ c
same_bit true true e = refl
same_bit true false e = absurd (omega arith)
same_bit false true e = absurd (omega arith)
same_bit false false e = refl

module _ (s : Sheet) where
  -- The situation of the record of a row.
  abbrev ss : List Stream
  ss = s.streams

  shown-situation : (r : List ℕ) → AllBelow (letter_numbers s) r → is_lawful s r ≡ true → IsSituation s (situation_of s r)
  shown-situation r h e = record { lawful_record = record_of ss r; letters = below-letters ss r h; is_lawful = T-of_true (is_lawful s r) e; same = refl }

  abbrev lawful_numbers : List ℕ → Type 0
  lawful_numbers r = is_lawful s r ≡ true

  -- the situations are the things of lawful records of letter numbers

  thing_situation : (t : Situation) → IsThing (letter_numbers s) lawful_numbers (situation_of s) t → IsSituation s t
  thing_situation t x = subst (IsSituation s) x.same (shown-situation x.shown x.letters x.is_lawful)

  situation_thing : (t : Situation) → IsSituation s t → IsThing (letter_numbers s) lawful_numbers (situation_of s) t
  situation_thing t x =
      let e = letter_numbers_of_record ss x.lawful_record x.letters in
      record {
        shown = letter_numbers_of ss x.lawful_record;
        letters = letter_numbers_of_below ss x.lawful_record x.letters;
        is_lawful = true_of_T _ (subst (λ r. T (lawful s.constraints r)) (sym e) x.is_lawful);
        same = ap (situation s.constraints) e ∙ x.same;
      }

  -- ---- from keys to situations

  -- What is asked of the keys of lawful records of letters in range, where K is the stored sheet: one more letter leads from key to key, keys
  -- are equal exactly if situations are, and a key tells whether every until is done.
  pub record KeyLaws (K : Store) (every : ℕ) : Type 0 where
    pub empty : key_of s [] ≡ start_key
    pub allows : (r : List ℕ) → AllBelow (letter_numbers s) r → is_lawful s r ≡ true → (a : ℕ) → a < letter_numbers s → is_some (judged_after K (key_of s r) a) ≡ is_lawful s (r ++ (a ∷ []))
    pub leads : (r : List ℕ) → AllBelow (letter_numbers s) r → is_lawful s r ≡ true → (a : ℕ) → a < letter_numbers s → is_lawful s (r ++ (a ∷ [])) ≡ true
        → key_after K (key_of s r) a ≡ key_of s (r ++ (a ∷ []))
    pub key_situation : (r t : List ℕ) → AllBelow (letter_numbers s) r → AllBelow (letter_numbers s) t → key_of s r ≡ key_of s t → situation_of s r ≡ situation_of s t
    pub situation_key : (r t : List ℕ) → AllBelow (letter_numbers s) r → AllBelow (letter_numbers s) t → situation_of s r ≡ situation_of s t → key_of s r ≡ key_of s t
    pub flagged : (r : List ℕ) → AllBelow (letter_numbers s) r → flag_of every (key_of s r) ≡ digit (all_done s.constraints (situation_of s r))

  module _ (K : Store) (every : ℕ) (laws : KeyLaws K every) where
    keys_read : KeysStand (key_system K (letter_numbers s) every) lawful_numbers (key_of s) (situation_of s) (all_done s.constraints)
    keys_read =
        record {
          start_lawful = true_of_T (is_lawful s []) (lawful-short s.constraints [] (omega arith));
          beginning = λ r a e.
              true_of_T (is_lawful s r)
              (lawful-beginning s.constraints (record_of ss r) (letter_of ss a ∷ [])
              (subst (λ z. T (lawful s.constraints z)) (map-append (letter_of ss) r (a ∷ [])) (T-of_true (is_lawful s (r ++ (a ∷ []))) e)));
          empty = laws.empty;
          allows = λ r h l a b. let q = laws.allows r h l a b in (λ e. sym q ∙ e, λ w. q ∙ w);
          leads = laws.leads;
          key_thing = λ r t h g l m. laws.key_situation r t h g;
          thing_key = λ r t h g l m. laws.situation_key r t h g;
          flagged = λ r h l. same_bit _ _ (laws.flagged r h);
        }

    -- What the search leaves is the exploration of the sheet.
    pub searched_outcome : {limit n : ℕ} {keys entries flags : List ℕ} (full : Bool) → Searched K (letter_numbers s) limit every keys entries flags full n → ExploreOutcome s full limit n entries flags
    searched_outcome true z = let m = searched-more_things keys_read z.searched in record { list = m.list; distinct = m.distinct; found = λ t k. thing_situation t (m.found t k); longer = m.longer }
    searched_outcome false z =
        let c = searched_things keys_read z.searched in (
          z.searched.within,
          record { list = c.list; distinct = c.distinct; found = λ t k. thing_situation t (c.found t k); every = λ t k. c.every t (situation_thing t k); count = c.count },
          record { rows = searched-rows keys_read z.searched },
        )
