-- Two lawful records in range with the same situation leave the same set of endless continuations. From the beginnings of a solution
-- (proofs/SolutionRecords), which stay lawful and done alike after both records (proofs/Congruence).
use Prim.Native.Nat.{ℕ, ◌+◌, ◌-◌, ◌≤◌, ◌<◌}
use native.Mathlib.Omega.{arith}
use native.Mathlib.Decide.{dec_lt}
use mathlib.Core.Path.{◌≡◌, sym, ◌∙◌, ap, subst, fun_ext}
use mathlib.Core.Logic.{◌↔◌}
use mathlib.Core.List.Memᴰ
use mathlib.Core.List.{List, [], ◌++◌, map, Memᴰ}
use lib.Dec.{T}
use lib.ListN.{length, get_or, length-append}
use lib.IntN.{pos}
use Rattle.meaning.specs.Value.{Streams}
use Rattle.meaning.specs.Arithmetic.{Within}
use Rattle.meaning.specs.Expression.{Constraint, Stream, Sheet, range_of, Meets, Solution}
use Rattle.meaning.specs.Letter.{Letter, Record, IsLetter, OfLetters, letter_count, letter_of, spell, record_of, SolutionWord}
use Rattle.meaning.specs.Situation.{lawful, situation}
use Rattle.meaning.specs.Evaluation.{all_done}
use Rattle.meaning.specs.Scope.{AgreeBelow, NamesKnown}
use Rattle.meaning.proofs.Scope.{AgreeBelow-sym, Solution-agree}
use Rattle.meaning.proofs.Letter.{letter-within, letter_of-letter}
use Rattle.meaning.proofs.Facts.{get_or-member}
use Rattle.meaning.proofs.Beginning.{beginning, append_word, length-beginning, append_word-left, append_word-right, beginning-append_word, map-append_word}
use Rattle.meaning.proofs.Lawful.{BeginsStreams}
use Rattle.meaning.proofs.Congruence.{lawful_congruence_append, situation_congruence_append}
use Rattle.meaning.proofs.SolutionRecords.{meets_beginnings, done_beginnings, streams_of_letters, beginning-begins, letters_of, letters_of-agrees}

module _ (cs : List Constraint) (y : ℕ → Letter) where
  -- The beginnings, of the record r and then y, that hold the record.
  long : (r : Record) (n : ℕ) → n ≤ length (r ++ beginning y n)
  long r n = omega (arith, length-append r (beginning y n), length-beginning y n)

  begins : (r : Record) (n : ℕ) → BeginsStreams (streams_of_letters (append_word r y)) (r ++ beginning y n)
  begins r n = subst (BeginsStreams (streams_of_letters (append_word r y))) (beginning-append_word r y n) (beginning-begins (append_word r y) (length r + n))

  meets_continuation : (r t : Record) → T (lawful cs r) → T (lawful cs t) → situation cs r ≡ situation cs t
      → ((c : Constraint) → Memᴰ c cs → Meets (streams_of_letters (append_word r y)) c)
      → (c : Constraint) → Memᴰ c cs → Meets (streams_of_letters (append_word t y)) c
  meets_continuation r t lr lt e h =
      let g = (meets_beginnings cs (streams_of_letters (append_word r y)) (λ n. r ++ beginning y n) (long r) (begins r)).0 h in
      let d = (done_beginnings cs (streams_of_letters (append_word r y)) (λ n. r ++ beginning y n) (long r) (begins r)).0 g.1 in
      (meets_beginnings cs (streams_of_letters (append_word t y)) (λ n. t ++ beginning y n) (long t) (begins t)).1 (
        (λ n. lawful_congruence_append cs (beginning y n) r t lr lt e (g.0 n)),
        (done_beginnings cs (streams_of_letters (append_word t y)) (λ n. t ++ beginning y n) (long t) (begins t)).1
            (d.0, subst (λ z. T (all_done cs z)) (situation_congruence_append cs (beginning y d.0) r t e) d.1),
      )

ranged_continuation : (ss : List Stream) (y : ℕ → Letter) (r t : Record) → OfLetters ss t
    → ((k i : ℕ) → k < length ss → Within (range_of ss k) (streams_of_letters (append_word r y) k i))
    → (k i : ℕ) → k < length ss → Within (range_of ss k) (streams_of_letters (append_word t y) k i)
ranged_continuation ss y r t ot h k i l = go (dec_lt i (length t))
  where
    go : Dec (i < length t) → Within (range_of ss k) (streams_of_letters (append_word t y) k i)
    go (yes m) = rw (append_word-left t y i [] m) (letter-within (ot (get_or t i []) (get_or-member t i [] m)) k l)
    go (no m) =
        let e : i ≡ length t + (i - length t) = omega arith in
        let z = append_word-right r y (i - length t) ∙ sym (append_word-right t y (i - length t)) ∙ sym (ap (append_word t y) e) in
        subst (λ x. Within (range_of ss k) (get_or x k (pos 0))) z (h k (length r + (i - length t)) l)

module _ (s : Sheet) where
  -- The records r and t are lawful, their letters are in range, and they have the same situation.
  pub record SameSituation (r t : Record) : Type 0 where
    pub letters : OfLetters s.streams r
    pub letters' : OfLetters s.streams t
    pub is_lawful : T (lawful s.constraints r)
    pub is_lawful' : T (lawful s.constraints t)
    pub same : situation s.constraints r ≡ situation s.constraints t

  -- Followed by the word y of letters.
  pub same_continuations_letters : (r t : Record) → SameSituation r t → (y : ℕ → Letter)
      → Solution s (streams_of_letters (append_word r y)) ↔ Solution s (streams_of_letters (append_word t y))
  same_continuations_letters r t g y = (
    λ h. record {
      ranged = ranged_continuation s.streams y r t g.letters' h.ranged;
      meets = meets_continuation s.constraints y r t g.is_lawful g.is_lawful' g.same h.meets;
    },
    λ h. record {
      ranged = ranged_continuation s.streams y t r g.letters h.ranged;
      meets = meets_continuation s.constraints y t r g.is_lawful' g.is_lawful (sym g.same) h.meets;
    },
  )

  spell-append_word : (ns : List ℕ) (y : ℕ → ℕ)
      → spell s.streams (append_word ns y) ≡ streams_of_letters (append_word (record_of s.streams ns) (λ i. letter_of s.streams (y i)))
  spell-append_word ns y = fun_ext (λ k. fun_ext (λ i. ap (λ l. get_or l k (pos 0)) (map-append_word (letter_of s.streams) ns y i)))

  -- A word of letter numbers after a record of letter numbers.
  pub same_continuations_words : (ns ms : List ℕ) → SameSituation (record_of s.streams ns) (record_of s.streams ms) → (y : ℕ → ℕ)
      → SolutionWord s (append_word ns y) ↔ SolutionWord s (append_word ms y)
  same_continuations_words ns ms g y =
      let c = same_continuations_letters (record_of s.streams ns) (record_of s.streams ms) g (λ i. letter_of s.streams (y i)) in (
        λ h. record { solves = subst (Solution s) (sym (spell-append_word ms y)) (c.0 (subst (Solution s) (spell-append_word ns y) h.solves)) },
        λ h. record { solves = subst (Solution s) (sym (spell-append_word ns y)) (c.1 (subst (Solution s) (spell-append_word ms y) h.solves)) },
      )

-- The letters with numbers below the letter count are in range.
pub record_of-letters : (ss : List Stream) (ns : List ℕ) → ((n : ℕ) → Memᴰ n ns → n < letter_count ss) → OfLetters ss (record_of ss ns)
record_of-letters ss ns h l m = let o = Memᴰ.of_map (letter_of ss) ns m in subst (IsLetter ss) o.2 (letter_of-letter ss o.0 (h o.0 o.1))

-- The record, and then the streams.
abbrev pub append_streams : Record → Streams → Streams
append_streams r y k i = append_word (map (λ l. get_or l k (pos 0)) r) (y k) i

append_streams-agrees : (K : ℕ) (r : Record) (y : Streams) → AgreeBelow K (append_streams r y) (streams_of_letters (append_word r (letters_of K y)))
append_streams-agrees K r y =
    record {
      same = λ k i h.
          ap (λ z. append_word (map (λ l. get_or l k (pos 0)) r) z i) (fun_ext (λ i. (letters_of-agrees K y).same k i h))
          ∙ sym (map-append_word (λ l. get_or l k (pos 0)) r (letters_of K y) i);
    }

-- Streams after a record, for a sheet whose constraints name only its streams.
pub same_continuations_streams : (s : Sheet) → NamesKnown s → (r t : Record) → SameSituation s r t → (y : Streams)
    → Solution s (append_streams r y) ↔ Solution s (append_streams t y)
same_continuations_streams s known r t g y =
    let K = length s.streams in
    let c = same_continuations_letters s r t g (letters_of K y) in
    let to : (r : Record) → Solution s (append_streams r y) → Solution s (streams_of_letters (append_word r (letters_of K y))) =
    λ r. Solution-agree known (append_streams-agrees K r y) in
    let back : (r : Record) → Solution s (streams_of_letters (append_word r (letters_of K y))) → Solution s (append_streams r y) =
    λ r. Solution-agree known (AgreeBelow-sym (append_streams-agrees K r y)) in
    (λ h. back t (c.0 (to r h)), λ h. back r (c.1 (to t h)))
