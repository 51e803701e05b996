-- A solution is told by its beginnings: streams in range solve a sheet exactly if every beginning of them is a lawful record and each until is
-- done at some time. From what each constraint asks at all times (proofs/Meets), of which a beginning shows the times judged of it.
use Prim.Native.Nat.{ℕ, suc, ◌+◌, ◌-◌, ◌≤◌, ◌<◌}
use native.Mathlib.Omega.{arith}
use native.Mathlib.Nat.{le_refl}
use mathlib.Core.Path.{◌≡◌, sym, ap, subst}
use mathlib.Core.Logic.Iff
use mathlib.Core.Logic.{◌↔◌}
use mathlib.Core.List.{List, [], ◌++◌, Memᴰ}
use lib.Dec.{T}
use lib.ListN.{length, get_or, length-append, length-map}
use lib.IntN.{pos}
use Rattle.meaning.specs.Value.{truth, Streams}
use Rattle.meaning.specs.Arithmetic.{Within}
use Rattle.meaning.specs.Expression.{Constraint, right_side, Stream, Sheet, range_of, Meets, Solution}
use Rattle.meaning.specs.Letter.{Letter, Record, letter_count, letter_of, spell, streams_of, record_of, SolutionWord}
use Rattle.meaning.specs.Window.{D, all_untils}
use Rattle.meaning.specs.Situation.{done, permits, lawful, situation}
use Rattle.meaning.specs.Evaluation.{all_done}
use Rattle.meaning.specs.Scope.{AgreeBelow, NamesKnown}
use Rattle.meaning.proofs.Scope.{AgreeBelow-sym, value-agree, Meets-agree}
use Rattle.meaning.proofs.Letter.{letter-within, letter_of-letter}
use Rattle.meaning.proofs.Facts.{all-at, all_of, every_before-at, every_before-of, some_before_cong}
use Rattle.meaning.proofs.Bounds.{until-member}
use Rattle.meaning.proofs.Lawful.{BeginsStreams, append-begins, done-begins, lawful-begins}
use Rattle.meaning.proofs.Congruence.{all_done-situation}
use Rattle.meaning.proofs.Meets.{done_stays, meets-permits, done-together}
use Rattle.meaning.proofs.Beginning.{beginning, length-beginning, get_or-beginning, map-beginning}

-- Constraints

module _ (cs : List Constraint) where
  -- An until that is done in a record is done in every longer one.
  pub done-stays-append : (r u : Record) (c : Constraint) → Memᴰ c cs → T (done (streams_of r) c (length r - D cs)) → T (done (streams_of (r ++ u)) c (length (r ++ u) - D cs))
  done-stays-append r u c m t =
      done_stays (streams_of (r ++ u)) c (length r - D cs) (length (r ++ u) - D cs) (omega (arith, length-append r u))
      (subst T (done-begins cs (streams_of (r ++ u)) r (append-begins r u) c m (length r - D cs) (le_refl _)) t)

  pub all_done-stays : (r u : Record) → T (all_done cs (situation cs r)) → T (all_done cs (situation cs (r ++ u)))
  all_done-stays r u t =
      rw (all_done-situation cs (r ++ u))
      (all_of _ (all_untils cs) (λ c m. done-stays-append r u c ((until-member cs c).0 m).0 (all-at _ (all_untils cs) (rw all_done-situation at t) c m)))

  -- Beginnings of w: for each n one of at least n letters.
  module _ (w : Streams) (b : ℕ → Record) (long : (n : ℕ) → n ≤ length (b n)) (begins : (n : ℕ) → BeginsStreams w (b n)) where
    lawful-permits : ((n : ℕ) → T (lawful cs (b n))) ↔ ((c : Constraint) → Memᴰ c cs → (i : ℕ) → T (permits w c i))
    lawful-permits = (
      λ h c m i.
          let n = suc i + D cs in
          every_before-at _ (length (b n) - D cs) (all-at _ cs (subst T (lawful-begins cs w (b n) (begins n)) (h n)) c m) i (omega (arith, long n)),
      λ h n. subst T (sym (lawful-begins cs w (b n) (begins n))) (all_of _ cs (λ c m. every_before-of _ (length (b n) - D cs) (λ i l. h c m i))),
    )

    -- Streams meet the constraints exactly if their beginnings are lawful and each until is done at some time.
    pub meets_beginnings : ((c : Constraint) → Memᴰ c cs → Meets w c)
        ↔ (((n : ℕ) → T (lawful cs (b n))) × ((c : Constraint) → Memᴰ c (all_untils cs) → (n : ℕ) × T (done w c n)))
    meets_beginnings = (
      λ h. (
        lawful-permits.1 (λ c m. ((meets-permits w c).0 (h c m)).0),
        λ c u. let m = (until-member cs c).0 u in ((meets-permits w c).0 (h c m.0)).1 m.1,
      ),
      λ h c m. (meets-permits w c).1 (lawful-permits.0 h.0 c m, λ u. h.1 c ((until-member cs c).1 (m, u))),
    )

    done_at : (n : ℕ) (c : Constraint) → Memᴰ c (all_untils cs) → done (streams_of (b n)) c (length (b n) - D cs) ≡ done w c (length (b n) - D cs)
    done_at n c m = done-begins cs w (b n) (begins n) c ((until-member cs c).0 m).0 (length (b n) - D cs) (le_refl _)

    -- Each until is done at some time exactly if all are done in one of the beginnings.
    pub done_beginnings : ((c : Constraint) → Memᴰ c (all_untils cs) → (n : ℕ) × T (done w c n)) ↔ ((n : ℕ) × T (all_done cs (situation cs (b n))))
    done_beginnings = (
      λ h.
          let d = done-together w (all_untils cs) h in
          let n = d.0 + D cs in
          let later : d.0 ≤ length (b n) - D cs = omega (arith, long n) in
          (n, rw (all_done-situation cs (b n)) (all_of _ (all_untils cs) (λ c m. subst T (sym (done_at n c m)) (done_stays w c d.0 (length (b n) - D cs) later (d.1 c m))))),
      λ h c m.
          let n = h.0 in
          (length (b n) - D cs, subst T (done_at n c m) (all-at _ (all_untils cs) (rw all_done-situation at h.1) c m)),
    )

-- Words of letters, and of letter numbers

-- The streams with these letters; 0 beyond the letters' values.
abbrev pub streams_of_letters : (ℕ → Letter) → Streams
streams_of_letters x k i = get_or (x i) k (pos 0)

pub beginning-begins : (x : ℕ → Letter) (n : ℕ) → BeginsStreams (streams_of_letters x) (beginning x n)
beginning-begins x n =
    record { letters = λ k t h. let l : t < n = omega (arith, length-beginning x n) in ap (λ y. get_or y k (pos 0)) (get_or-beginning x n t [] l) }

spell-begins : (ss : List Stream) (x : ℕ → ℕ) (n : ℕ) → BeginsStreams (spell ss x) (record_of ss (beginning x n))
spell-begins ss x n = subst (BeginsStreams (spell ss x)) (sym (map-beginning (letter_of ss) x n)) (beginning-begins (λ i. letter_of ss (x i)) n)

module _ (s : Sheet) (x : ℕ → ℕ) (below : (i : ℕ) → x i < letter_count s.streams) where
  abbrev records : ℕ → Record
  records n = record_of s.streams (beginning x n)

  long : (n : ℕ) → n ≤ length (records n)
  long n = omega (arith, length-map (beginning x n) (letter_of s.streams), length-beginning x n)

  -- A word is a solution exactly if each of its beginnings is lawful and each until is done at some time.
  pub solution-word-records : SolutionWord s x
      ↔ (((n : ℕ) → T (lawful s.constraints (record_of s.streams (beginning x n))))
      × ((c : Constraint) → Memᴰ c (all_untils s.constraints) → (n : ℕ) × T (done (spell s.streams x) c n)))
  solution-word-records =
      let judged = meets_beginnings s.constraints (spell s.streams x) records long (spell-begins s.streams x) in (
        λ h. judged.0 h.solves.meets,
        λ h. record { solves = record { ranged = λ k i l. letter-within (letter_of-letter s.streams (x i) (below i)) k l; meets = judged.1 h } },
      )

  -- A word is a solution exactly if each of its beginnings is lawful and every until is done in one of them, by its situation.
  pub solution-word-situations : SolutionWord s x
      ↔ (((n : ℕ) → T (lawful s.constraints (record_of s.streams (beginning x n))))
      × ((n : ℕ) × T (all_done s.constraints (situation s.constraints (record_of s.streams (beginning x n))))))
  solution-word-situations =
      Iff.trans solution-word-records (Iff.and Iff.rfl (done_beginnings s.constraints (spell s.streams x) records long (spell-begins s.streams x)))

-- Streams

-- The letters of the first K streams.
abbrev pub letters_of : ℕ → Streams → ℕ → Letter
letters_of K w i = beginning (λ k. w k i) K

pub letters_of-agrees : (K : ℕ) (w : Streams) → AgreeBelow K w (streams_of_letters (letters_of K w))
letters_of-agrees K w = record { same = λ k i h. sym (get_or-beginning (λ k. w k i) K k (pos 0) h) }

module _ (s : Sheet) (known : NamesKnown s) (w : Streams) where
  abbrev letters : ℕ → Letter
  letters = letters_of (length s.streams) w

  agrees : AgreeBelow (length s.streams) w (streams_of_letters letters)
  agrees = letters_of-agrees (length s.streams) w

  meets-letters : ((c : Constraint) → Memᴰ c s.constraints → Meets w c) ↔ ((c : Constraint) → Memᴰ c s.constraints → Meets (streams_of_letters letters) c)
  meets-letters = (
    λ h c m. Meets-agree agrees c (known.sides c m) (h c m),
    λ h c m. Meets-agree (AgreeBelow-sym agrees) c (known.sides c m) (h c m),
  )

  done-letters : (c : Constraint) → Memᴰ c (all_untils s.constraints) → (n : ℕ) → done (streams_of_letters letters) c n ≡ done w c n
  unfolding done
  done-letters c m n =
      some_before_cong _ _ n (λ i l. ap truth (sym (value-agree agrees (right_side c) (known.sides c ((until-member s.constraints c).0 m).0).right i)))

  -- Streams are a solution exactly if they are in range, each of their beginnings is lawful and each until is done at some time.
  pub solution-records : Solution s w
      ↔ (((k i : ℕ) → k < length s.streams → Within (range_of s.streams k) (w k i))
      × ((n : ℕ) → T (lawful s.constraints (beginning (letters_of (length s.streams) w) n)))
      × ((c : Constraint) → Memᴰ c (all_untils s.constraints) → (n : ℕ) × T (done w c n)))
  solution-records =
      let judged = meets_beginnings s.constraints (streams_of_letters letters) (beginning letters) (λ n. omega (arith, length-beginning letters n)) (beginning-begins letters) in (
        λ h.
            let j = judged.0 (meets-letters.0 h.meets) in
            (h.ranged, j.0, λ c m. let d = j.1 c m in (d.0, subst T (done-letters c m d.0) d.1)),
        λ h. record {
          ranged = h.0;
          meets = meets-letters.1 (judged.1 (h.1, λ c m. let d = h.2 c m in (d.0, subst T (sym (done-letters c m d.0)) d.1)));
        },
      )
