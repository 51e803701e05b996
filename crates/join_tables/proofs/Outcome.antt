-- What a join gives is one, and there always is one; with refusal 0 the used rows are a well_formed table. From the same of two tables together (pair_outcome),
-- and the decisions of tables that fit (given_tables) and of shared names that are alike.
use Prim.Native.Nat.{ℕ, ◌+◌, ◌*◌, ◌≤◌, ◌<◌}
use native.Mathlib.Omega.{arith}
use native.Mathlib.Decide.{ℕ_discrete, dec_le, map_dec}
use mathlib.Core.Path.{◌≡◌, refl, sym, ap, subst, ◌∙◌}
use mathlib.Core.HLevel.{Discrete}
use mathlib.Core.Logic.Dec
use mathlib.Core.List.{List, List-discrete}
use lib.IntN.{ℤ_discrete}
use lib.ListN.{length, take}
use Rattle.basics.proofs.Lists.{below_decided}
use Rattle.meaning.specs.Arithmetic.{Interval}
use Rattle.meaning.specs.Expression.{Stream}
use Rattle.meaning.specs.Letter.{letter_count}
use Rattle.sheet.specs.Refusal.{stream_bound, letter_bound}
use Rattle.automaton.specs.WellFormed.{IsWellFormed}
use Rattle.automaton.proofs.WellFormed.{used_well_formed}
use Rattle.streams.specs.Description.{stream_in, description_of}
use Rattle.streams.specs.declared.StreamsDescription.{StreamsDescription}
use Rattle.streams.proofs.Fit.{stream_origin, stream-member}
use Rattle.outcome.specs.Compile.{CompileAnswer, Room, Tables, too_many_situations, too_few_rows, no_solution, compiled}
use Rattle.given_tables.specs.Given.{GivenTable, IsFitTable}
use Rattle.given_tables.proofs.Fit.{table_decided, kind_discrete}
use Rattle.joined_streams.specs.Joined.{IsAlike, SharedAlike, WithinBounds}
use Rattle.pair_outcome.specs.Outcome.{PairTableOutcome, unsettled, given}
use Rattle.pair_outcome.proofs.Continuing.{states-at-most-pairs}
use Rattle.pair_outcome.proofs.Unique.{pair_unique}
use Rattle.pair_outcome.proofs.Total.{pair-total}
use Rattle.join_tables.specs.declared.JoinAnswer.{JoinAnswer}
use Rattle.join_tables.specs.Outcome.{river_streams, tables_together, CanJoin, told_of, JoinOutcome, unfit, clash, over_bounds, together}
use Rattle.join_tables.proofs.Fit.{states-below}

-- the used rows of a table that is told
abbrev pub UsedRows : JoinAnswer → Tables → Type 0
UsedRows x t = IsWellFormed x.letters (take (x.states * x.letters) t.entries) (take x.states t.finals)

-- ---- one outcome

module _ {a b : GivenTable} {room : Room} where
  pub join_unique : {x y : JoinAnswer} {t u : Tables} → JoinOutcome a b room x t → JoinOutcome a b room y u → (x ≡ y) × (t ≡ u)
  join_unique (unfit n) (unfit m) = (refl, refl)
  join_unique (unfit n) (clash f g c) = absurd (n (f, g))
  join_unique (unfit n) (over_bounds f g s w) = absurd (n (f, g))
  join_unique (unfit n) (together j o) = absurd (n (j.left_fit, j.right_fit))
  join_unique (clash f g c) (unfit m) = absurd (m (f, g))
  join_unique (clash f g c) (clash h i d) = (refl, refl)
  join_unique (clash f g c) (over_bounds h i s w) = absurd (c s)
  join_unique (clash f g c) (together j o) = absurd (c j.shared)
  join_unique (over_bounds f g s w) (unfit m) = absurd (m (f, g))
  join_unique (over_bounds f g s w) (clash h i d) = absurd (d s)
  join_unique (over_bounds f g s w) (over_bounds h i r v) = (refl, refl)
  join_unique (over_bounds f g s w) (together j o) = absurd (w j.bounds)
  join_unique (together j o) (unfit m) = absurd (m (j.left_fit, j.right_fit))
  join_unique (together j o) (clash h i d) = absurd (d j.shared)
  join_unique (together j o) (over_bounds h i r v) = absurd (v j.bounds)
  join_unique (together j o) (together k p) = let e = pair_unique o p in (ap (λ c. told_of c (river_streams a b)) e.0, e.1)

-- ---- the used rows

used_rows : (a b : GivenTable) {room : Room} {c : CompileAnswer} {t : Tables} → PairTableOutcome (tables_together a b) room c t → (told_of c (river_streams a b)).refusal ≡ 0 → UsedRows (told_of c (river_streams a b)) t
used_rows a b (unsettled c n) e = absurd (omega arith)
used_rows a b (given f (too_many_situations h x)) e = absurd (omega arith)
used_rows a b (given f (too_few_rows h x)) e = absurd (omega arith)
used_rows a b (given f (no_solution c n)) e = absurd (omega arith)
used_rows a b (given f (compiled {m} c h)) e = used_well_formed h.table (let states = states-at-most-pairs (f m c) h.table.table c.counted in let few = c.within_bound in omega arith)

-- A joined table is well formed, so that it can be followed, and joined again.
pub joined-well_formed : {a b : GivenTable} {room : Room} {x : JoinAnswer} {t : Tables} → JoinOutcome a b room x t → x.refusal ≡ 0 → UsedRows x t
joined-well_formed (unfit n) e = absurd (omega arith)
joined-well_formed (clash f g c) e = absurd (omega arith)
joined-well_formed (over_bounds f g s w) e = absurd (omega arith)
joined-well_formed {a} {b} (together j o) e = used_rows a b o e

-- ---- shared names

range_discrete : Discrete Interval
range_discrete I J = by (ℤ_discrete I.low J.low) (ℤ_discrete I.high J.high)
  where
    by : Dec (I.low ≡ J.low) → Dec (I.high ≡ J.high) → Dec (I ≡ J)
    by (yes p) (yes q) = yes (λ i. record { low = p i; high = q i })
    by (yes p) (no n) = no (λ e. n (ap (λ (K : Interval). K.high) e))
    by (no n) q = no (λ e. n (ap (λ (K : Interval). K.low) e))

alike_decided : (s t : Stream) → Dec (s.name ≡ t.name → IsAlike s t)
alike_decided s t = by (List-discrete ℕ_discrete s.name t.name) (kind_discrete s.kind t.kind) (range_discrete s.range t.range)
  where
    by : Dec (s.name ≡ t.name) → Dec (s.kind ≡ t.kind) → Dec (s.range ≡ t.range) → Dec (s.name ≡ t.name → IsAlike s t)
    by (no n) k r = yes (λ e. absurd (n e))
    by (yes e) (yes k) (yes r) = yes (λ p. record { same_kind = k; same_range = r })
    by (yes e) (yes k) (no r) = no (λ f. r (f e).same_range)
    by (yes e) (no k) r = no (λ f. k (f e).same_kind)

shared_decided : (left right : StreamsDescription) → Dec (SharedAlike (description_of left) (description_of right))
shared_decided left right = map_dec (λ all. record { alike = λ s t m n. by s t (stream_origin left 0 left.count s m) (stream_origin right 0 right.count t n) all }) back
    (below_decided (λ i. below_decided (λ k. alike_decided (stream_in left i) (stream_in right k)) right.count) left.count)
  where
    Each : Type 0
    Each = (i : ℕ) → i < left.count → (k : ℕ) → k < right.count → (stream_in left i).name ≡ (stream_in right k).name → IsAlike (stream_in left i) (stream_in right k)

    by : (s t : Stream) → (i : ℕ) × (0 ≤ i) × (i < 0 + left.count) × (s ≡ stream_in left i) → (k : ℕ) × (0 ≤ k) × (k < 0 + right.count) × (t ≡ stream_in right k)
        → Each → s.name ≡ t.name → IsAlike s t
    by s t (i, _, hi, p) (k, _, hk, q) all e =
        subst (λ x. IsAlike x t) (sym p) (subst (IsAlike (stream_in left i)) (sym q) (all i (omega arith) k (omega arith) (sym (ap (λ (x : Stream). x.name) p) ∙ e ∙ ap (λ (x : Stream). x.name) q)))

    back : SharedAlike (description_of left) (description_of right) → Each
    back shared i hi k hk e = shared.alike (stream_in left i) (stream_in right k) (stream-member left 0 left.count i (omega arith) (omega arith)) (stream-member right 0 right.count k (omega arith) (omega arith)) e

bounds_decided : (js : List Stream) → Dec (WithinBounds js)
bounds_decided js = map_dec (λ x. record { few_streams = x.0; few_letters = x.1 }) (λ w. (w.few_streams, w.few_letters)) (Dec.and (dec_le (length js) stream_bound) (dec_le (letter_count js) letter_bound))

-- ---- and always one

module _ (a b : GivenTable) (room : Room) where
  pub record HasJoinOutcome : Type 0 where
    pub answer : JoinAnswer
    pub tables : Tables
    pub outcome : JoinOutcome a b room answer tables

  pub join_total : HasJoinOutcome
  join_total = fits (table_decided a) (table_decided b)
    where
      within : IsFitTable a → IsFitTable b → SharedAlike (description_of a.streams) (description_of b.streams) → Dec (WithinBounds (river_streams a b)) → HasJoinOutcome
      within f g s (yes w) =
          let j : CanJoin a b = record { left_fit = f; right_fit = g; shared = s; bounds = w } in
          let o = pair-total (states-below j) room in
          record { answer = told_of o.answer (river_streams a b); tables = o.tables; outcome = together j o.outcome }
      within f g s (no w) = record { answer = _; tables = _; outcome = over_bounds f g s w }

      alike : IsFitTable a → IsFitTable b → Dec (SharedAlike (description_of a.streams) (description_of b.streams)) → HasJoinOutcome
      alike f g (yes s) = within f g s (bounds_decided (river_streams a b))
      alike f g (no c) = record { answer = _; tables = _; outcome = clash f g c }

      fits : Dec (IsFitTable a) → Dec (IsFitTable b) → HasJoinOutcome
      fits (yes f) (yes g) = alike f g (shared_decided a.streams b.streams)
      fits (yes f) (no n) = record { answer = _; tables = _; outcome = unfit (λ x. n x.1) }
      fits (no n) d = record { answer = _; tables = _; outcome = unfit (λ x. n x.0) }
