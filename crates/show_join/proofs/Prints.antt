-- What `join` prints for two sheets is there for every two sheets, and is one text. From the one outcome of a compile in the rows lent (lend), and the one outcome
-- of a join (join_tables).
use Prim.Native.Nat.{ℕ}
use native.Mathlib.Omega.{arith}
use native.Mathlib.Decide.{ℕ_discrete}
use mathlib.Core.Path.{◌≡◌, ap, transport}
use mathlib.Core.List.{List}
use Rattle.meaning.specs.Letter.{letter_count}
use Rattle.outcome.specs.Compile.{Tables}
use Rattle.lend.specs.Lend.{HasOutcome, is_refused, is_compiled}
use Rattle.lend.proofs.Outcome.{compiled_unique, refused_unique, refused-not-compiled, lent_total}
use Rattle.print.specs.Text.{refusal_line}
use Rattle.table_text.specs.Table.{printed}
use Rattle.given_tables.specs.Given.{GivenTable}
use Rattle.join_tables.specs.Outcome.{river_streams}
use Rattle.join_tables.specs.declared.JoinAnswer.{JoinAnswer}
use Rattle.join_tables.proofs.Outcome.{join_unique, join_total}
use Rattle.opened_tables.specs.Used.{compiled_given}
use Rattle.show_join.specs.Prints.{join_lent_room, JoinedLent, PrintsTables, turned_away, joined, PrintsJoin, refused_first, refused_second, together, HasJoinOutput}

pub tables_unique : {a b : GivenTable} {x y : List ℕ} → PrintsTables a b x → PrintsTables a b y → x ≡ y
tables_unique (turned_away j h) (turned_away k g) = ap (λ r. refusal_line r.refusal) (join_unique j k).0
tables_unique (turned_away j h) (joined k z) = absurd (omega (arith, ap (λ r. r.refusal) (join_unique j k).0))
tables_unique (joined j z) (turned_away k g) = absurd (omega (arith, ap (λ r. r.refusal) (join_unique j k).0))
tables_unique {a} {b} (joined j z) (joined k y) = let e = join_unique j k in λ i. printed (river_streams a b) (e.0 i).states (e.1 i).entries (e.1 i).finals

pub prints_unique : {first second x y : List ℕ} → PrintsJoin first second x → PrintsJoin first second y → x ≡ y
prints_unique (refused_first r) (refused_first q) = ap refusal_line (refused_unique r q)
prints_unique (refused_first r) (refused_second c z q) = absurd (refused-not-compiled r c z)
prints_unique (refused_first r) (together c z d y p) = absurd (refused-not-compiled r c z)
prints_unique (refused_second c z r) (refused_first q) = absurd (refused-not-compiled q c z)
prints_unique (refused_second c z r) (refused_second d y q) = ap refusal_line (refused_unique r q)
prints_unique (refused_second c z r) (together c' z' d y p) = absurd (refused-not-compiled r d y)
prints_unique (together c z d y p) (refused_first q) = absurd (refused-not-compiled q c z)
prints_unique (together c z d y p) (refused_second c' z' q) = absurd (refused-not-compiled q d y)
prints_unique (together {bytes = x} c z d y p) (together c' z' d' y' q) =
    let same = compiled_unique c c' in
    let same' = compiled_unique d d' in
    tables_unique (transport (λ i. PrintsTables (compiled_given (same.0 i) (same.1.0 i) (same.1.1 i)) (compiled_given (same'.0 i) (same'.1.0 i) (same'.1.1 i)) x) p) q

-- ---- and always one

tables_print : (a b : GivenTable) → (bytes : List ℕ) × PrintsTables a b bytes
tables_print a b = let o = join_total a b (join_lent_room (letter_count (river_streams a b))) in by o.outcome (ℕ_discrete o.answer.refusal 0)
  where
    by : {r : JoinAnswer} {u : Tables} → JoinedLent a b r u → Dec (r.refusal ≡ 0) → (bytes : List ℕ) × PrintsTables a b bytes
    by j (yes z) = (_, joined j z)
    by j (no n) = (_, turned_away j (omega arith))

pub prints-total : (first second : List ℕ) → HasJoinOutput first second
prints-total first second = go (lent_total first) (lent_total second)
  where
    go : HasOutcome first → HasOutcome second → HasJoinOutput first second
    go (is_refused r) o = record { bytes = _; prints = refused_first r }
    go (is_compiled c z) (is_refused r) = record { bytes = _; prints = refused_second c z r }
    go (is_compiled {s} {a} {t} c z) (is_compiled {s = q} {a = b} {t = u} d y) =
        let p = tables_print (compiled_given s a t) (compiled_given q b u) in
        record { bytes = p.0; prints = together c z d y p.1 }
