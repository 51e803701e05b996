-- What a call for a play table gives (document 02, S-7): the file to open for it. A call has the sheet's bytes `text`, the room lent and the size of the play
-- table, the answer and the contents of the tables and of the play table afterwards; `ForceCall` (crate outcome) is what the public function `force` (crate
-- game) ensures. The compile's own refusals come first, with the play table among the lent tables; else 16 is given exactly if the river has a way to choose,
-- from the record so far, that defeats every play of the keeper, and the table with a play table exactly if the keeper has a way to answer, from the record
-- so far, that makes every play a solution; never both. From a state whose row holds letters, however the river plays, the play table never meets a missing
-- entry, reaches a final state within as many letters as there are states, and the streams are a solution; from each other state the river can prevent one.
-- From the laws of strategies and play tables (automaton) and of the outcome (outcome).
use Prim.Native.Nat.{ℕ, ◌<◌}
use native.Mathlib.Omega.{arith}
use mathlib.Core.Path.{◌≡◌, refl, sym, ◌∙◌, ap, subst}
use mathlib.Core.Logic.{◌↔◌, ◌⊎◌, inl, inr, ◌≢◌}
use mathlib.Core.List.{List, [], ◌∷◌, ◌++◌, Memᴰ}
use Rattle.automaton.specs.Words.{Word, prefix, InRange}
use Rattle.automaton.specs.Table.{walk, run, PathFrom, IsTable}
use Rattle.automaton.specs.Stored.{entry_at, final_at}
use Rattle.automaton.specs.Strategies.{AreChoices, Environment, ChosenBy}
use Rattle.automaton.specs.PlayTable.{LeadsTo, KeepsRow, LacksRow, ForcedRow, PreventedRow, IsPlayTable}
use Rattle.automaton.proofs.Course.{walk-append, path-append}
use Rattle.automaton.proofs.Paths.{run-walk, start-begins, follows↔paths}
use Rattle.automaton.proofs.States.{leads-same, representative-path, representative-leads}
use Rattle.automaton.proofs.Strategies.{made_word, made-in_range, made-played, made-chosen, not-both, one-choice_open}
use Rattle.automaton.proofs.PlayTable.{IsPlayable, FollowsPlay, play_followed, play_final, follower, follower_plays, play_solves, kept_forced, play_table_playable}
use Rattle.meaning.specs.Expression.{Stream, Sheet, set_kind}
use Rattle.meaning.specs.Letter.{letter_count, letter_of, SolutionWord}
use Rattle.meaning.specs.Choice.{read_streams, read_values, choice_count, choice_of}
use Rattle.meaning.proofs.Choice.{read-letter, choice-below, one_choice}
use Rattle.meaning.proofs.Letter.{letter_of-letter, letter_of-letter_number}
use Rattle.sheet.specs.Refusal.{refused, sheet, AnswerTo}
use Rattle.sheet.proofs.Accepted.{accepted_facts}
use Rattle.outcome.specs.Room.{zeros}
use Rattle.outcome.specs.Compile.{CompileAnswer, refused_answer, Room, Tables, all_zero, HoldsSheetTable, SheetOutcome, too_many_situations, too_few_rows, no_solution, compiled, CompileCall, unread, read}
use Rattle.outcome.specs.Force.{KeeperForces, RiverPrevents, sheet_game, with_play, with_zero_play, HoldsPlay, unread, not_compiled, prevented, forced, SamePlayRows, ForceCall}
use Rattle.outcome.proofs.Answers.{one_number, one-sheet, refused≢sheet}
use Rattle.outcome.proofs.CompileUnique.{words_unique}
use Rattle.outcome.proofs.Leaves.{refused_words_zero}
use Rattle.outcome.proofs.ForceUnique.{sheet-choices, compiled-table, force_unique}
use Rattle.theorems.specs.Strategies.{state_after, FollowsPlayTable, PlaysOut}
use Rattle.theorems.proofs.Demands.{ReadAs}

-- "never both": after no record can both players have their way.
pub never_both : (s : Sheet) (r : List ℕ) → KeeperForces s r → ¬ RiverPrevents s r
never_both s r f p = not-both f p

module _ {text : List ℕ} {room : Room} {size : ℕ} {a : CompileAnswer} {t : Tables} {play : List ℕ} (call : ForceCall text room size a t play) where
  -- "every lent table is then zero", and the play table: after 16 and after every other refusal.
  pub refused-play-zero : 0 < a.refusal → (a ≡ refused_answer a.refusal) × (t ≡ all_zero room) × (play ≡ zeros size)
  refused-play-zero h = go call h
    where
      go : {b : CompileAnswer} {u : Tables} {p : List ℕ} → ForceCall text room size b u p → 0 < b.refusal → (b ≡ refused_answer b.refusal) × (u ≡ all_zero room) × (p ≡ zeros size)
      go (unread r) h = (refl, refl, refl)
      go (not_compiled r o n) h = ((refused_words_zero o n).0, refl, refl)
      go (prevented r o z p) h = (refl, refl, refl)
      go (forced r o z f p) h = absurd (omega (arith, z))

  -- Answer and tables are settled, and of the play table which rows hold letters: a call with the same bytes and the same room gives the same.
  pub one_force_outcome : {b : CompileAnswer} {u : Tables} {p : List ℕ} → ForceCall text room size b u p → (a ≡ b) × (t ≡ u) × SamePlayRows text a.states play p
  one_force_outcome c = force_unique text room size call c

  -- "after the compile's own numbers": 1 to 7 of the text,
  pub unread-first : {n : ℕ} → AnswerTo text (refused n) → a ≡ refused_answer n
  unread-first {n} x = go call
    where
      go : {b : CompileAnswer} {u : Tables} {p : List ℕ} → ForceCall text room size b u p → b ≡ refused_answer n
      go (unread r) = ap refused_answer (one_number r x)
      go (not_compiled r o h) = absurd (refused≢sheet x r)
      go (prevented r o z p) = absurd (refused≢sheet x r)
      go (forced r o z f p) = absurd (refused≢sheet x r)

  module _ {s : Sheet} (reads : ReadAs text s) where
    -- ---- which answer is given

    -- what is compiled of the sheet in the room with the play table
    compiled_as : {b : CompileAnswer} {u : Tables} → CompileCall text (with_play s size room) b u → SheetOutcome s (with_play s size room) b u
    compiled_as (unread r) = absurd (refused≢sheet r reads)
    compiled_as {b} {u} (read r o) = subst (λ q. SheetOutcome q (with_play s size room) b u) (one-sheet r reads) o

    -- two outcomes of the compile in that room
    same_answer : {q : Sheet} {b c : CompileAnswer} {u v : Tables} → AnswerTo text (sheet q) → SheetOutcome q (with_play q size room) b u → SheetOutcome s (with_play s size room) c v → b ≡ c
    same_answer {b = b} {u = u} r o o' = (words_unique (subst (λ q. SheetOutcome q (with_play q size room) b u) (one-sheet r reads) o) o').0

    module _ {b : CompileAnswer} {u : Tables} (compile : CompileCall text (with_play s size room) b u) where
      -- and 8 to 10, which count the play table among the lent tables
      pub compile_first : 0 < b.refusal → a ≡ b
      compile_first h = go call
        where
          go : {c : CompileAnswer} {v : Tables} {p : List ℕ} → ForceCall text room size c v p → c ≡ b
          go (unread r) = absurd (refused≢sheet r reads)
          go (not_compiled r o n) = same_answer r o (compiled_as compile)
          go (prevented r o z p) = absurd (omega (arith, z, ap (λ x. x.refusal) (same_answer r o (compiled_as compile))))
          go (forced r o z f p) = absurd (omega (arith, z, ap (λ x. x.refusal) (same_answer r o (compiled_as compile))))

      module _ (accepted : b.refusal ≡ 0) where
        -- One of the players has a way, and the answer says which.
        pub which_player : ((a.refusal ≡ 16) × RiverPrevents s []) ⊎ ((a ≡ b) × KeeperForces s [])
        which_player = go call
          where
            go : {c : CompileAnswer} {v : Tables} {p : List ℕ} → ForceCall text room size c v p → ((c.refusal ≡ 16) × RiverPrevents s []) ⊎ ((c ≡ b) × KeeperForces s [])
            go (unread r) = absurd (refused≢sheet r reads)
            go (not_compiled r o n) = absurd (omega (arith, n, accepted, ap (λ x. x.refusal) (same_answer r o (compiled_as compile))))
            go (prevented r o z p) = inl (refl, subst (λ q. RiverPrevents q []) (one-sheet r reads) p)
            go (forced r o z f p) = inr (same_answer r o (compiled_as compile), subst (λ q. KeeperForces q []) (one-sheet r reads) f)

        -- "16, exactly when the river can prevent a solution from state 0": it has a way to choose, from the record so far, that defeats every play of the keeper.
        pub sixteen↔prevents : (a.refusal ≡ 16) ↔ RiverPrevents s []
        sixteen↔prevents = go which_player
          where
            go : ((a.refusal ≡ 16) × RiverPrevents s []) ⊎ ((a ≡ b) × KeeperForces s []) → (a.refusal ≡ 16) ↔ RiverPrevents s []
            go (inl x) = (λ e. x.1, λ p. x.0)
            go (inr x) = (λ e. absurd (omega (arith, e, accepted, ap (λ y. y.refusal) x.0)), λ p. absurd (never_both s [] x.1 p))

        -- No refusal, and the compile's own numbers, exactly if the keeper can make every endless play a solution.
        pub accepted↔forces : (a ≡ b) ↔ KeeperForces s []
        accepted↔forces = go which_player
          where
            go : ((a.refusal ≡ 16) × RiverPrevents s []) ⊎ ((a ≡ b) × KeeperForces s []) → (a ≡ b) ↔ KeeperForces s []
            go (inl x) = (λ e. absurd (omega (arith, x.0, accepted, ap (λ y. y.refusal) e)), λ f. absurd (never_both s [] f x.1))
            go (inr x) = (λ e. x.1, λ f. x.0)

    -- Where every stream is set the river has nothing to choose, so 16 is never given.
    pub all-set-forced : ((x : Stream) → Memᴰ x s.streams → x.kind ≡ set_kind) → a.refusal ≢ 16
    all-set-forced set e = go call e
      where
        possible : {q : Sheet} {b : CompileAnswer} {u : Tables} → q ≡ s → SheetOutcome q (with_play q size room) b u → b.refusal ≡ 0 → ¬ RiverPrevents q []
        possible {q} same o z p =
            let first = start-begins (compiled-table o z) in
            one-choice_open (ap (λ x. choice_count x.streams) same ∙ one_choice s.streams set) (choice-below q.streams) first.word first.in_range first.continues p

        small : {q : Sheet} {b : CompileAnswer} {u : Tables} → SheetOutcome q (with_play q size room) b u → b.refusal ≢ 16
        small (too_many_situations h x) e = omega arith
        small (too_few_rows h x) e = omega arith
        small (no_solution f x) e = omega arith
        small (compiled f h) e = omega arith

        go : {c : CompileAnswer} {v : Tables} {p : List ℕ} → ForceCall text room size c v p → c.refusal ≢ 16
        go (unread r) e = refused≢sheet r reads
        go (not_compiled r o n) e = small o e
        go (prevented r o z p) e = possible (one-sheet r reads) o z p
        go (forced r o z f p) e = omega (arith, z)

    -- ---- the table and the play table

    module _ (accepted : a.refusal ≡ 0) where
      -- what a call without a refusal gives
      given : SheetOutcome s (with_play s size room) a (with_zero_play size t) × KeeperForces s [] × HoldsPlay s a.states t size play
      given = go call accepted
        where
          go : {c : CompileAnswer} {v : Tables} {p : List ℕ} → ForceCall text room size c v p → c.refusal ≡ 0 → SheetOutcome s (with_play s size room) c (with_zero_play size v) × KeeperForces s [] × HoldsPlay s c.states v size p
          go (unread r) e = absurd (refused≢sheet r reads)
          go (not_compiled r o n) e = absurd (omega (arith, n, e))
          go (prevented r o z p) e = absurd (omega (arith, e))
          go {c} {v} {p} (forced r o z f h) e = subst (λ q. SheetOutcome q (with_play q size room) c (with_zero_play size v) × KeeperForces q [] × HoldsPlay q c.states v size p) (one-sheet r reads) (o, f, h)

      -- The call gives the compile's table in the room with the play table.
      pub compile_table : CompileCall text (with_play s size room) a (with_zero_play size t)
      compile_table = read reads given.0

      -- The play table, with zeros behind its used rows.
      pub held-play : HoldsPlay s a.states t size play
      held-play = given.2

      abbrev k : ℕ
      k = letter_count s.streams

      abbrev held_letter : ℕ → ℕ → ℕ
      held_letter = entry_at (choice_count s.streams) play

      -- r leads to the state i
      abbrev Leads : ℕ → List ℕ → Type 0
      Leads i r = LeadsTo (sheet_game s a.states t) i r

      table : IsTable (SolutionWord s) k a.states (entry_at k t.entries) (final_at t.finals)
      table = compiled-table given.0 accepted

      choices : AreChoices k (choice_count s.streams) (choice_of s.streams)
      choices = sheet-choices s (accepted_facts reads).some_letter

      -- Every state is led to by some record.
      pub state-led : (i : ℕ) → i < a.states → (r : List ℕ) × Leads i r
      state-led i h = (table.representative i, record { letters = table.letters i h; path = representative-path table i h; ends = representative-leads table i h })

      -- A letter has the read values of its choice: "one letter with the values chosen".
      pub choice-read-values : (b : ℕ) → b < k → read_values s.streams (letter_of s.streams b) ≡ letter_of (read_streams s.streams) (choice_of s.streams b)
      unfolding choice_of
      choice-read-values b h = sym (letter_of-letter_number (read-letter (letter_of-letter s.streams b h)))

      -- ---- each state: "from which states the keeper can make every endless play a solution"

      -- Each row of a state holds letters or 65,535 throughout.
      pub rows_either : (i : ℕ) → i < a.states → KeepsRow (choice_count s.streams) held_letter i ⊎ LacksRow (choice_count s.streams) held_letter i
      rows_either i h = go (held-play.is_play_table.row i h)
        where
          go : ForcedRow (sheet_game s a.states t) (SolutionWord s) held_letter i ⊎ PreventedRow (sheet_game s a.states t) (SolutionWord s) held_letter i → KeepsRow (choice_count s.streams) held_letter i ⊎ LacksRow (choice_count s.streams) held_letter i
          go (inl x) = inl λ c hc e. omega (arith, (x.moves c hc).letter, (accepted_facts reads).letters)
          go (inr x) = inr x.lacks

      -- From a state whose row holds letters the keeper can force a solution, whatever record led there,
      pub row-forced : (i : ℕ) → i < a.states → KeepsRow (choice_count s.streams) held_letter i → (r : List ℕ) → Leads i r → KeeperForces s r
      row-forced i h keeps r l = (kept_forced table choices held-play.is_play_table i h keeps).forces r l

      -- and from each other state the river can prevent one.
      pub row-prevented : (i : ℕ) → i < a.states → LacksRow (choice_count s.streams) held_letter i → (r : List ℕ) → Leads i r → RiverPrevents s r
      row-prevented i h lacks r l = go (held-play.is_play_table.row i h)
        where
          go : ForcedRow (sheet_game s a.states t) (SolutionWord s) held_letter i ⊎ PreventedRow (sheet_game s a.states t) (SolutionWord s) held_letter i → RiverPrevents s r
          go (inl x) = absurd (omega (arith, (x.moves 0 choices.some_choice).letter, (accepted_facts reads).letters, lacks 0 choices.some_choice))
          go (inr x) = x.prevents r l

      -- State 0 is one of the former.
      pub start-kept : KeepsRow (choice_count s.streams) held_letter 0
      start-kept = go (rows_either 0 table.some_state)
        where
          go : KeepsRow (choice_count s.streams) held_letter 0 ⊎ LacksRow (choice_count s.streams) held_letter 0 → KeepsRow (choice_count s.streams) held_letter 0
          go (inl x) = x
          go (inr x) = absurd (never_both s [] given.1 (row-prevented 0 table.some_state x [] (record { letters = tt; path = tt; ends = refl })))

      -- ---- following the play table from a state whose row holds letters

      module _ {i : ℕ} (h : i < a.states) (keeps : KeepsRow (choice_count s.streams) held_letter i) {r : List ℕ} (leads : Leads i r) where
        abbrev entry : ℕ → ℕ → ℕ
        entry = entry_at k t.entries

        playable : IsPlayable (sheet_game s a.states t) held_letter
        playable = play_table_playable table choices held-play.is_play_table

        -- the state after the record and a prefix of a word
        state-run : (w : Word) (n : ℕ) → state_after s t (r ++ prefix w n) ≡ run entry i w n
        state-run w n = walk-append entry 0 r (prefix w n) ∙ ap (λ j. walk entry j (prefix w n)) leads.ends ∙ sym (run-walk entry n i w)

        -- "however the river plays": every word that follows the play table reaches a final state within as many letters as there are states, never meets a
        -- missing entry, and with the record spells a solution.
        pub play_out : (w : Word) → InRange k w → FollowsPlayTable s t play r w → PlaysOut s t a.states r w
        play_out w b f =
            let follows : FollowsPlay (sheet_game s a.states t) held_letter i w = λ n. f n ∙ ap (λ j. held_letter j (choice_of s.streams (w n))) (state-run w n) in
            let path = (follows↔paths table i w h b).0 (play_followed choices playable (h, keeps) w b follows) in
            let reached = play_final choices playable i h keeps w b follows in
            let solves = (leads-same table r leads.letters leads.path leads.ends).from w b (play_solves table choices playable i h keeps w b follows) in
            record {
              never_missing = λ n. path-append entry 0 r (prefix w n) leads.path (subst (λ j. PathFrom entry j (prefix w n)) (sym leads.ends) (path n));
              letters_to_final = reached.0;
              within_states = reached.1;
              is_final = ap (final_at t.finals) (state-run w reached.0) ∙ reached.2;
              is_solution = solves.solves.solves;
            }

        -- And there is such a word for every way of the river to choose, from the record so far.
        pub play_against : (E : Environment k (choice_count s.streams) (choice_of s.streams))
            → (w : Word) × InRange k w × ChosenBy k (choice_count s.streams) (choice_of s.streams) E w × FollowsPlayTable s t play r w × PlaysOut s t a.states r w
        play_against E =
            let K = follower choices playable i in
            let w = made_word K E in
            let b = made-in_range K E in
            let follows = follower_plays choices playable i h keeps w b (made-played K E) in
            let f : FollowsPlayTable s t play r w = λ n. follows n ∙ ap (λ j. held_letter j (choice_of s.streams (w n))) (sym (state-run w n)) in
            (w, b, made-chosen K E, f, play_out w b f)
