-- No smaller table would do (document 02, S-14): the file to open for it. For every accepted sheet, any machine that takes exactly its solutions, with any
-- entries, any start and any final states, has at least as many states as its compile reports; and the table given is such a machine. States have different
-- sets of continuations, and a machine is in different states after records that leave over different sets. From the definition of a table, and what a
-- compile gives (`Demands`). The same of joined tables is in `Joins`.
use Prim.Native.Nat.{ℕ, zero, suc, ◌≤◌, ◌<◌}
use native.Mathlib.Omega.{arith}
use mathlib.Core.Path.{◌≡◌, sym, subst}
use mathlib.Core.Logic.{◌↔◌}
use mathlib.Core.List.{List, [], ◌∷◌}
use Rattle.automaton.specs.Words.{Word, cons, append, InRange}
use Rattle.automaton.specs.Solutions.{Settles}
use Rattle.automaton.specs.Table.{walk, run, IsTable}
use Rattle.automaton.specs.Stored.{StoredTable, entry_at, final_at}
use Rattle.automaton.proofs.Words.{in_range-append}
use Rattle.automaton.proofs.Pigeonhole.{pigeonhole}
use Rattle.automaton.proofs.Acceptance.{solution↔accepted}
use Rattle.meaning.specs.Value.{Streams}
use Rattle.meaning.specs.Expression.{Stream, Sheet}
use Rattle.meaning.specs.Letter.{letter_count, SolutionWord}
use Rattle.outcome.specs.Compile.{CompileAnswer, Room, Tables, CompileCall}
use Rattle.outcome.proofs.SheetWords.{solutions_settle}
use Rattle.theorems.specs.Following.{SolvesByWord}
use Rattle.theorems.specs.Machines.{MetAgain, MetAlways, IsTailTest, TakesWord, TakesStreams}
use Rattle.theorems.proofs.Following.{solution-by-word, words↔streams}
use Rattle.theorems.proofs.Demands.{ReadAs, Solves, table-stored, read_known}

-- ---- both readings of "for ever" do not depend on the first state

pub again-tail : (final : ℕ → ℕ) → IsTailTest (MetAgain final)
again-tail final = record { drops = λ q. ((λ h t. let g = h (suc t) in go q t g), λ h t. let g = h t in (suc g.0, omega (arith, g.1), g.2)) }
  where
    go : (q : ℕ → ℕ) (t : ℕ) → (u : ℕ) × (suc t ≤ u) × (final (q u) ≡ 1) → (u : ℕ) × (t ≤ u) × (final (q (suc u)) ≡ 1)
    go q t (zero, l, e) = absurd (omega arith)
    go q t (suc u, l, e) = (u, omega arith, e)

pub always-tail : (final : ℕ → ℕ) → IsTailTest (MetAlways final)
always-tail final = record { drops = λ q. ((λ h. (h.0, λ u l. h.1 (suc u) (omega arith))), λ h. (suc h.0, λ u l. go q h.0 h.1 u l)) }
  where
    go : (q : ℕ → ℕ) (t : ℕ) → ((u : ℕ) → t ≤ u → final (q (suc u)) ≡ 1) → (u : ℕ) → suc t ≤ u → final (q u) ≡ 1
    go q t h zero l = absurd (omega arith)
    go q t h (suc u) l = h u (omega arith)

-- ---- machines over words

module _ {m : ℕ} {entry : ℕ → ℕ → ℕ} {meets : (ℕ → ℕ) → Type 0} (test : IsTailTest meets) where
  takes-tail : {s a : ℕ} {w : Word} → TakesWord m entry meets s (cons a w) → TakesWord m entry meets (entry s a) w
  takes-tail {s} {a} {w} x = record { follows = λ t. x.follows (suc t); met = (test.drops (run entry s (cons a w))).0 x.met }

  takes_cons : {s a : ℕ} {w : Word} → s < m → TakesWord m entry meets (entry s a) w → TakesWord m entry meets s (cons a w)
  takes_cons {s} {a} {w} h x = record { follows = go; met = (test.drops (run entry s (cons a w))).1 x.met }
    where
      go : (t : ℕ) → run entry s (cons a w) t < m
      go zero = h
      go (suc t) = x.follows t

  takes-after : (r : List ℕ) {s : ℕ} {w : Word} → TakesWord m entry meets s (append r w) → TakesWord m entry meets (walk entry s r) w
  takes-after [] x = x
  takes-after (a ∷ r) x = takes-after r (takes-tail x)

  -- After a record that begins one word that is taken, what is taken depends on the state alone.
  takes-append : (r : List ℕ) {s : ℕ} (v : Word) {w : Word} → TakesWord m entry meets s (append r v) → TakesWord m entry meets (walk entry s r) w → TakesWord m entry meets s (append r w)
  takes-append [] v x y = y
  takes-append (a ∷ r) v x y = takes_cons (x.follows 0) (takes-append r v (takes-tail x) y)

  module _ {Sol : Word → Type 0} {k n : ℕ} {table : ℕ → ℕ → ℕ} {final : ℕ → ℕ} (A : IsTable Sol k n table final) (start : ℕ)
      (same : (w : Word) → InRange k w → Sol w ↔ TakesWord m entry meets start w) where
    -- the machine's state after the record that stands for a state of the table
    state : ℕ → ℕ
    state i = walk entry start (A.representative i)

    begun : (i : ℕ) (h : i < n) → TakesWord m entry meets start (append (A.representative i) (A.not_empty i h).word)
    begun i h = let b = A.not_empty i h in (same _ (in_range-append (A.representative i) (A.letters i h) b.in_range)).0 b.continues.solves

    -- Where two such states are equal, what continues one record continues the other.
    onward : (i j : ℕ) → i < n → j < n → state i ≡ state j → (w : Word) → InRange k w → Sol (append (A.representative i) w) → Sol (append (A.representative j) w)
    unfolding state
    onward i j hi hj e w b x =
        let y = takes-after (A.representative i) ((same _ (in_range-append (A.representative i) (A.letters i hi) b)).0 x) in
        (same _ (in_range-append (A.representative j) (A.letters j hj) b)).1
        (takes-append (A.representative j) (A.not_empty j hj).word (begun j hj) (subst (λ q. TakesWord m entry meets q w) e y))

    -- A machine that takes the words of a set has at least as many states as the set's table.
    pub no_fewer_states : n ≤ m
    unfolding state
    no_fewer_states =
        pigeonhole n m state (λ i h. (takes-after (A.representative i) (begun i h)).follows 0) λ i j hi hj e.
        A.distinct i j hi hj (record {
          to = λ w b x. record { solves = onward i j hi hj e w b x.solves };
          from = λ w b x. record { solves = onward j i hj hi (sym e) w b x.solves };
        })

-- ---- machines over streams

module _ {ss : List Stream} {Sol : Word → Type 0} {Solves : Streams → Type 0} (x : SolvesByWord ss Sol Solves) where
  module _ (m : ℕ) (entry : ℕ → ℕ → ℕ) (meets : (ℕ → ℕ) → Type 0) (start : ℕ) where
    abbrev Taken : Word → Type 0
    Taken = TakesWord m entry meets start

    taken-by-word : SolvesByWord ss Taken (TakesStreams ss m entry meets start)
    taken-by-word = record { ranged = λ w h. h.ranged; word = λ w ranged. (λ h. record { ranged = ranged; takes = h }, λ h. h.takes) }

    -- Taking exactly the streams that solve is taking exactly their words.
    pub streams→words : ((w : Streams) → Solves w ↔ TakesStreams ss m entry meets start w) → (a : Word) → InRange (letter_count ss) a → Sol a ↔ Taken a
    streams→words same a b =
        let e = (words↔streams x taken-by-word).1 ((λ w. (same w).0), λ w. (same w).1) in
        (e.to a b, e.from a b)

    pub words→streams : ((a : Word) → InRange (letter_count ss) a → Sol a ↔ Taken a) → (w : Streams) → Solves w ↔ TakesStreams ss m entry meets start w
    words→streams same w =
        let e = (words↔streams x taken-by-word).0 (record { to = λ a b. (same a b).0; from = λ a b. (same a b).1 }) in
        (e.0 w, e.1 w)

  module _ {n : ℕ} {entries finals : List ℕ} (stored : StoredTable Sol (letter_count ss) n entries finals) where
    -- A machine that takes exactly the streams that solve has at least as many states as their table.
    pub no_fewer_rows : (m : ℕ) (entry : ℕ → ℕ → ℕ) {meets : (ℕ → ℕ) → Type 0} → IsTailTest meets → (start : ℕ) → ((w : Streams) → Solves w ↔ TakesStreams ss m entry meets start w) → n ≤ m
    no_fewer_rows m entry {meets} test start same = no_fewer_states test stored.table start (streams→words m entry meets start same)

    -- The used rows are such a machine, where the set settles.
    pub used_rows-take : Settles Sol (letter_count ss) → (w : Streams) → Solves w ↔ TakesStreams ss n (entry_at (letter_count ss) entries) (MetAgain (final_at finals)) 0 w
    used_rows-take settles = words→streams n (entry_at (letter_count ss) entries) (MetAgain (final_at finals)) 0 λ a b.
        let own = solution↔accepted stored.table settles a b in (
          λ h. let g = own.0 h in record { follows = g.follows; met = g.again },
          λ h. own.1 (record { follows = h.follows; again = h.met }),
        )

-- ---- a call of the compile

module _ {text : List ℕ} {room : Room} {a : CompileAnswer} {t : Tables} (call : CompileCall text room a t) {s : Sheet} (read : ReadAs text s) (accepted : a.refusal ≡ 0) where
  by_word : SolvesByWord s.streams (SolutionWord s) (Solves s)
  by_word = solution-by-word s (read_known read)

  module _ (m : ℕ) (entry : ℕ → ℕ → ℕ) (final : ℕ → ℕ) (start : ℕ) where
    -- "no table with fewer states, numbered in any manner, with any choice of final states, followed as ours is and met in final states for ever, has the
    -- same solutions": met again and again,
    pub no_smaller_table : ((w : Streams) → Solves s w ↔ TakesStreams s.streams m entry (MetAgain final) start w) → a.states ≤ m
    no_smaller_table = no_fewer_rows by_word (table-stored call read accepted) m entry (again-tail final) start

    -- and from some time on always.
    pub no_smaller_table_always : ((w : Streams) → Solves s w ↔ TakesStreams s.streams m entry (MetAlways final) start w) → a.states ≤ m
    no_smaller_table_always = no_fewer_rows by_word (table-stored call read accepted) m entry (always-tail final) start

  -- The used rows are such a machine, so that the least number of states is the one reported.
  pub own-table-takes : (w : Streams) → Solves s w ↔ TakesStreams s.streams a.states (entry_at (letter_count s.streams) t.entries) (MetAgain (final_at t.finals)) 0 w
  own-table-takes = used_rows-take by_word (table-stored call read accepted) (solutions_settle s)
