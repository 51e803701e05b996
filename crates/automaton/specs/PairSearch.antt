-- The search for the pairs of states that two tables reach together. The key of the pair of p and q is the number p * m + q, where every state is
-- below m.
use Rattle.std.specs.Prelude.{ℕ, ◌+◌, ◌*◌, ◌/◌, ◌%◌, ◌<◌, ◌≡◌, ◌⊎◌, Bool, ◌&&◌, List, eqb, ltb}
use Rattle.automaton.specs.Table.{no_state}
use Rattle.automaton.specs.Reachable.{System}
use Rattle.automaton.specs.Join.{TwoTables, left_state, right_state}

module _ (T : TwoTables) (m : ℕ) where
  -- The entries of the pair with a key, for a joined letter. An entry that is not below m names no state.
  abbrev pub left_next : ℕ → ℕ → ℕ
  left_next x a = T.left_entry (x / m) (T.left a)

  abbrev pub right_next : ℕ → ℕ → ℕ
  right_next x a = T.right_entry (x % m) (T.right a)

  abbrev pub pair_system : System
  pair_system =
      record {
        Key = ℕ;
        letters = T.letters;
        start = 0;
        ok = λ x a. ltb (left_next x a) m && ltb (right_next x a) m;
        after = λ x a. left_next x a * m + right_next x a;
        flag = λ x. eqb (T.left_final (x / m)) 1 && eqb (T.right_final (x % m)) 1;
      }

  -- the key of the pair that a record leads to
  abbrev pub pair_key : List ℕ → ℕ
  pair_key r = left_state T r * m + right_state T r

  -- every entry of a state below m is a state below m, or none
  pub record StatesBelow : Type 0 where
    pub room : m < no_state
    pub some_state : 0 < m
    pub left_entries : (p a : ℕ) → p < m → a < T.letters → (T.left_entry p (T.left a) < m) ⊎ (T.left_entry p (T.left a) ≡ no_state)
    pub right_entries : (q a : ℕ) → q < m → a < T.letters → (T.right_entry q (T.right a) < m) ⊎ (T.right_entry q (T.right a) ≡ no_state)

-- whether both states of a pair are final
abbrev pub pair_final : TwoTables → ℕ × ℕ → Bool
pair_final T x = eqb (T.left_final x.0) 1 && eqb (T.right_final x.1) 1
