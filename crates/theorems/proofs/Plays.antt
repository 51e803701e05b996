-- Lines of a record that are played along the entries of a table: what is printed of them, what a cut leaves of it, and that lines play through
-- exactly if they are letters that are a path of the table. From the definitions alone, for any streams and any entries.
use Prim.Native.Nat.{ℕ, zero, suc, ◌+◌, ◌≤◌, ◌<◌}
use native.Mathlib.Omega.{arith}
use mathlib.Core.Path.{◌≡◌, refl, sym, ◌∙◌, ap, subst}
use mathlib.Core.Logic.{◌↔◌, ◌⊎◌, ◌≢◌, inl, inr}
use mathlib.Core.Bool.{Bool, true, false, cond}
use mathlib.Core.List.{List, [], ◌∷◌, ◌++◌, append_assoc, append-nil}
use mathlib.Core.Option.{none, some}
use lib.Dec.{eqb}
use lib.ListN.{length, take, get_or}
use Rattle.basics.proofs.Lists.{All-append}
use Rattle.basics.proofs.Reflects.{eqb_reflects, from_true, from_false, to_false}
use Rattle.meaning.specs.Expression.{Stream}
use Rattle.meaning.specs.Letter.{letter_count, letter_number}
use Rattle.meaning.proofs.Letter.{letter_number-bound}
use Rattle.automaton.specs.Table.{no_state, walk, PathFrom}
use Rattle.automaton.specs.Stored.{entry_at}
use Rattle.sheet.specs.Form.{names_of}
use Rattle.print.specs.Text.{refusal_line}
use Rattle.records.proofs.Letters.{letter-line}
use Rattle.records.specs.Line.{ValueLine, malformed, outside, letter, line_values, value_line, IsLetterLine, AreLetters, letters_of}
use Rattle.record_names.specs.Line.{is_names_line}
use Rattle.replaying.specs.Replay.{replay_heading, state_line, LineOutcome, reaches, refuses, entered, line_then, outcome_from, replayed, replayed_lines}
use Rattle.theorems.specs.Replaying.{state_lines, refusal_text, states_then, refusal_then, states_reached, refusal_met, PlaysThrough, ends, goes_on, Fault, fault13, fault14, fault12, FirstFault}

-- ---- one line

-- The state that an entry leads to, or none.
entered-cases : (e : ℕ) → ((e ≡ no_state) × (entered e ≡ refuses 12)) ⊎ ((e ≢ no_state) × (entered e ≡ reaches e))
entered-cases e = go (eqb e no_state) refl
  where
    go : (b : Bool) → eqb e no_state ≡ b → ((e ≡ no_state) × (cond b (refuses 12) (reaches e) ≡ refuses 12)) ⊎ ((e ≢ no_state) × (cond b (refuses 12) (reaches e) ≡ reaches e))
    go true q = inl (from_true (eqb_reflects e no_state) q, refl)
    go false q = inr (from_false (eqb_reflects e no_state) q, refl)

entered-state : (e : ℕ) → e ≢ no_state → entered e ≡ reaches e
entered-state e some_state = ap (λ b. cond b (refuses 12) (reaches e)) (to_false (eqb_reflects e no_state) some_state)

reaches≢refuses : {X : Type 0} {next n : ℕ} {o : LineOutcome} → o ≡ reaches next → o ≡ refuses n → X
reaches≢refuses p q = let z : ◌≡◌ {A = ℕ} 0 1 = cc in absurd (omega arith)

same_state : {m n : ℕ} {o : LineOutcome} → o ≡ reaches m → o ≡ reaches n → m ≡ n
same_state p q = cc

same-refusal : {m n : ℕ} {o : LineOutcome} → o ≡ refuses m → o ≡ refuses n → m ≡ n
same-refusal p q = cc

-- ---- the lines printed

pub state_lines-append : (xs ys : List ℕ) (number : ℕ) → state_lines number (xs ++ ys) ≡ state_lines number xs ++ state_lines (number + length xs) ys
unfolding state_lines
state_lines-append [] ys number = let z : number + 0 ≡ number = omega arith in rw z
state_lines-append (x ∷ xs) ys number =
    let z : number + suc (length xs) ≡ suc number + length xs = omega arith in
    rw z
    (ap (state_line number x ++◌) (state_lines-append xs ys (suc number))
    ∙ sym (append_assoc (state_line number x) (state_lines (suc number) xs) (state_lines (suc number + length xs) ys)))

module _ (ss : List Stream) (entries : List ℕ) where
  abbrev entry : ℕ → ℕ → ℕ
  entry = entry_at (letter_count ss) entries

  abbrev letter_in : List ℕ → ℕ
  letter_in l = letter_number ss (line_values l)

  abbrev outcome : ℕ → List ℕ → LineOutcome
  outcome state l = outcome_from ss entries state (value_line ss l)

  -- A line leads on exactly if it is a letter and its entry is a state.
  line-reaches : (state next : ℕ) (l : List ℕ) → outcome state l ≡ reaches next
      → IsLetterLine ss l × (entry state (letter_in l) ≢ no_state) × (next ≡ entry state (letter_in l))
  line-reaches state next l e = go (value_line ss l) refl e
    where
      by : {a : ℕ} → value_line ss l ≡ letter a → entered (entry state (letter_in l)) ≡ reaches next
          → IsLetterLine ss l × (entry state (letter_in l) ≢ no_state) × (next ≡ entry state (letter_in l))
      by q r =
          elim (entered-cases (entry state (letter_in l))) [
            | inl x ↦ reaches≢refuses r x.1
            | inr x ↦ (q ∙ ap letter (letter-line ss l q).1, x.0, same_state r x.1)
          ]

      go : (v : ValueLine) → value_line ss l ≡ v → outcome_from ss entries state v ≡ reaches next
          → IsLetterLine ss l × (entry state (letter_in l) ≢ no_state) × (next ≡ entry state (letter_in l))
      go malformed q r = reaches≢refuses r refl
      go outside q r = reaches≢refuses r refl
      go (letter a) q r = by q (ap (λ b. entered (entry state b)) (sym (letter-line ss l q).1) ∙ r)

  reaches-line : (state : ℕ) (l : List ℕ) → IsLetterLine ss l → entry state (letter_in l) ≢ no_state → outcome state l ≡ reaches (entry state (letter_in l))
  reaches-line state l q some_state = ap (outcome_from ss entries state) q ∙ entered-state (entry state (letter_in l)) some_state

  -- A line is refused exactly if it has a fault.
  pub fault↔refused : (state : ℕ) (l : List ℕ) (n : ℕ) → Fault ss entries state l n ↔ (outcome state l ≡ refuses n)
  fault↔refused state l n = (to, λ e. go (value_line ss l) refl e)
    where
      to : {m : ℕ} → Fault ss entries state l m → outcome state l ≡ refuses m
      to (fault13 e) = ap (outcome_from ss entries state) e
      to (fault14 e) = ap (outcome_from ss entries state) e
      to (fault12 e missing) = ap (outcome_from ss entries state) e ∙ ap entered missing

      go : (v : ValueLine) → value_line ss l ≡ v → outcome_from ss entries state v ≡ refuses n → Fault ss entries state l n
      go malformed q r = subst (Fault ss entries state l) (same-refusal refl r) (fault13 q)
      go outside q r = subst (Fault ss entries state l) (same-refusal refl r) (fault14 q)
      go (letter a) q r =
          elim (entered-cases (entry state a)) [
            | inl x ↦ subst (Fault ss entries state l) (same-refusal x.1 r) (fault12 q x.0)
            | inr x ↦ reaches≢refuses x.1 r
          ]

  -- Refused with 12: the line is a letter without an entry.
  pub refused_12↔letter : (state : ℕ) (l : List ℕ) → Fault ss entries state l 12 ↔ (IsLetterLine ss l × (entry state (letter_in l) ≡ no_state))
  refused_12↔letter state l = (λ f. to f refl, λ x. fault12 x.0 x.1)
    where
      to : {n : ℕ} → Fault ss entries state l n → n ≡ 12 → IsLetterLine ss l × (entry state (letter_in l) ≡ no_state)
      to (fault13 e) q = absurd (omega (arith, q))
      to (fault14 e) q = absurd (omega (arith, q))
      to (fault12 e missing) q = let h = (letter-line ss l e).1 in (e ∙ ap letter h, ap (entry state) (sym h) ∙ missing)

  -- ---- all lines

  pub lines-printed : (ls : List (List ℕ)) (number state : ℕ)
      → replayed ss entries number state ls ≡ state_lines number (states_reached ss entries state ls) ++ refusal_text (refusal_met ss entries state ls)
  unfolding replayed state_lines states_reached refusal_met
  lines-printed [] number state = refl
  lines-printed (l ∷ ls) number state = go (outcome state l) (lines-printed ls (suc number))
    where
      go : (o : LineOutcome)
          → ((next : ℕ) → replayed ss entries (suc number) next ls ≡ state_lines (suc number) (states_reached ss entries next ls) ++ refusal_text (refusal_met ss entries next ls))
          → line_then number (λ next. replayed ss entries (suc number) next ls) o
          ≡ state_lines number (states_then (λ next. states_reached ss entries next ls) o) ++ refusal_text (refusal_then (λ next. refusal_met ss entries next ls) o)
      go (reaches next) rest =
          ap (state_line number next ++◌) (rest next)
          ∙ sym (append_assoc (state_line number next) (state_lines (suc number) (states_reached ss entries next ls)) (refusal_text (refusal_met ss entries next ls)))
      go (refuses n) rest = refl

  -- ---- lines that play through, and lines behind them

  module _ (second : List (List ℕ)) where
    pub states-cut : {state last : ℕ} {first : List (List ℕ)} → PlaysThrough ss entries state first last
        → states_reached ss entries state (first ++ second) ≡ states_reached ss entries state first ++ states_reached ss entries last second
    unfolding states_reached
    states-cut ends = refl
    states-cut (goes_on {next = next} e p) = rw e (ap (next ∷◌) (states-cut p))

    pub refusal-cut : {state last : ℕ} {first : List (List ℕ)} → PlaysThrough ss entries state first last
        → refusal_met ss entries state (first ++ second) ≡ refusal_met ss entries last second
    unfolding refusal_met
    refusal-cut ends = refl
    refusal-cut (goes_on e p) = rw e (refusal-cut p)

  pub through_states : {state last : ℕ} {ls : List (List ℕ)} → PlaysThrough ss entries state ls last → length (states_reached ss entries state ls) ≡ length ls
  unfolding states_reached
  through_states ends = refl
  through_states (goes_on e p) = rw e (ap suc (through_states p))

  pub through_unrefused : {state last : ℕ} {ls : List (List ℕ)} → PlaysThrough ss entries state ls last → refusal_met ss entries state ls ≡ none
  unfolding refusal_met
  through_unrefused ends = refl
  through_unrefused (goes_on e p) = rw e (through_unrefused p)

  -- The line with the first fault prints no state, and nothing behind it is looked at.
  pub fault-states : {state n : ℕ} {ls : List (List ℕ)} (f : FirstFault ss entries state ls n) → states_reached ss entries state ls ≡ states_reached ss entries state f.before
  unfolding states_reached
  fault-states {state} f =
      ap (states_reached ss entries state) f.split
      ∙ states-cut (f.line ∷ f.after) f.plays
      ∙ ap (λ o. states_reached ss entries state f.before ++ states_then (λ next. states_reached ss entries next f.after) o) ((fault↔refused f.reached f.line _).0 f.fault)
      ∙ append-nil (states_reached ss entries state f.before)

  pub fault-refusal : {state n : ℕ} {ls : List (List ℕ)} → FirstFault ss entries state ls n → refusal_met ss entries state ls ≡ some n
  unfolding refusal_met
  fault-refusal {state} f =
      ap (refusal_met ss entries state) f.split
      ∙ refusal-cut (f.line ∷ f.after) f.plays
      ∙ ap (refusal_then (λ next. refusal_met ss entries next f.after)) ((fault↔refused f.reached f.line _).0 f.fault)

  abbrev Ends : ℕ → List (List ℕ) → Type 0
  Ends state ls = ((last : ℕ) × PlaysThrough ss entries state ls last) ⊎ ((n : ℕ) × FirstFault ss entries state ls n)

  ends-later : {state next : ℕ} {l : List ℕ} {ls : List (List ℕ)} → outcome state l ≡ reaches next → Ends next ls → Ends state (l ∷ ls)
  ends-later e (inl x) = inl (x.0, goes_on e x.1)
  ends-later {l = l} e (inr x) =
      let f = x.1 in
      inr (x.0, record { before = l ∷ f.before; line = f.line; after = f.after; split = ap (l ∷◌) f.split; reached = f.reached; plays = goes_on e f.plays; fault = f.fault })

  pub plays_or_fault : (ls : List (List ℕ)) (state : ℕ) → ((last : ℕ) × PlaysThrough ss entries state ls last) ⊎ ((n : ℕ) × FirstFault ss entries state ls n)
  plays_or_fault [] state = inl (state, ends)
  plays_or_fault (l ∷ ls) state = go (outcome state l) refl (plays_or_fault ls)
    where
      go : (o : LineOutcome) → outcome state l ≡ o → ((next : ℕ) → Ends next ls) → Ends state (l ∷ ls)
      go (reaches next) e rest = ends-later e (rest next)
      go (refuses n) e rest =
          inr (n, record { before = []; line = l; after = ls; split = refl; reached = state; plays = ends; fault = (fault↔refused state l n).1 e })

  pub unrefused↔through : (ls : List (List ℕ)) (state : ℕ) → (refusal_met ss entries state ls ≡ none) ↔ ((last : ℕ) × PlaysThrough ss entries state ls last)
  unrefused↔through ls state = (λ e. go e (plays_or_fault ls state), λ p. through_unrefused p.1)
    where
      go : refusal_met ss entries state ls ≡ none → Ends state ls → (last : ℕ) × PlaysThrough ss entries state ls last
      go e (inl p) = p
      go e (inr f) = let q = fault-refusal f.1 in let z : ◌≡◌ {A = ℕ} 0 1 = cc in absurd (omega arith)

  pub refusal↔fault : (ls : List (List ℕ)) (state n : ℕ) → (refusal_met ss entries state ls ≡ some n) ↔ FirstFault ss entries state ls n
  refusal↔fault ls state n = (λ e. go e (plays_or_fault ls state), fault-refusal)
    where
      go : refusal_met ss entries state ls ≡ some n → Ends state ls → FirstFault ss entries state ls n
      go e (inl p) = let q = through_unrefused p.1 in let z : ◌≡◌ {A = ℕ} 0 1 = cc in absurd (omega arith)
      go e (inr f) = let q = fault-refusal f.1 in let z : f.0 ≡ n = cc in subst (FirstFault ss entries state ls) z f.1

  -- A line that is a letter can only be refused with 12.
  pub letters-fault : {ls : List (List ℕ)} {state n : ℕ} → AreLetters ss ls → FirstFault ss entries state ls n → n ≡ 12
  letters-fault h f = go f.fault ((All-append (IsLetterLine ss) f.before (f.line ∷ f.after)).0 (subst (AreLetters ss) f.split h)).1.0
    where
      go : {i m : ℕ} {l : List ℕ} → Fault ss entries i l m → IsLetterLine ss l → m ≡ 12
      go (fault13 e) q = let z : ◌≡◌ {A = ℕ} 0 1 = cc in absurd (omega arith)
      go (fault14 e) q = let z : ◌≡◌ {A = ℕ} 0 1 = cc in absurd (omega arith)
      go (fault12 e missing) q = refl

  -- The first lines play through exactly if as many states are reached, and they lead to the last of these.
  pub prefix↔states : (j : ℕ) (ls : List (List ℕ)) (state last : ℕ) → j ≤ length ls
      → PlaysThrough ss entries state (take j ls) last ↔ ((j ≤ length (states_reached ss entries state ls)) × (last ≡ get_or (state ∷ states_reached ss entries state ls) j 0))
  unfolding states_reached
  prefix↔states zero ls state last h = (λ p. (omega arith, stayed p), λ x. subst (PlaysThrough ss entries state []) (sym x.1) ends)
    where
      stayed : {i : ℕ} → PlaysThrough ss entries i [] last → last ≡ i
      stayed ends = refl
  prefix↔states (suc j) [] state last h = absurd (omega arith)
  prefix↔states (suc j) (l ∷ ls) state last h = go (outcome state l) refl (λ next. prefix↔states j ls next last (omega arith))
    where
      behind : {i next : ℕ} {ms : List (List ℕ)} → outcome i l ≡ reaches next → PlaysThrough ss entries i (l ∷ ms) last → PlaysThrough ss entries next ms last
      behind {ms = ms} e (goes_on q p) = subst (λ m. PlaysThrough ss entries m ms last) (same_state q e) p

      stopped : {X : Type 0} {i n : ℕ} {ms : List (List ℕ)} → outcome i l ≡ refuses n → PlaysThrough ss entries i (l ∷ ms) last → X
      stopped e (goes_on q p) = reaches≢refuses q e

      go : (o : LineOutcome) → outcome state l ≡ o
          → ((next : ℕ) → PlaysThrough ss entries next (take j ls) last ↔ ((j ≤ length (states_reached ss entries next ls)) × (last ≡ get_or (next ∷ states_reached ss entries next ls) j 0)))
          → PlaysThrough ss entries state (l ∷ take j ls) last
          ↔ ((suc j ≤ length (states_then (λ next. states_reached ss entries next ls) o)) × (last ≡ get_or (state ∷ states_then (λ next. states_reached ss entries next ls) o) (suc j) 0))
      go (reaches next) e rest = (
        (λ p. let r = (rest next).0 (behind e p) in (omega (arith, r.0), r.1)),
        λ x. goes_on e ((rest next).1 (omega (arith, x.0), x.1)),
      )
      go (refuses n) e rest = (λ p. stopped e p, λ x. absurd (omega (arith, x.0)))

  -- ---- lines as a path

  pub through↔path : (ls : List (List ℕ)) (state last : ℕ)
      → PlaysThrough ss entries state ls last ↔ (AreLetters ss ls × (PathFrom entry state (letters_of ss ls) × (last ≡ walk entry state (letters_of ss ls))))
  through↔path ls state last = (to, from ls state)
    where
      to : {i : ℕ} {ms : List (List ℕ)} → PlaysThrough ss entries i ms last → AreLetters ss ms × (PathFrom entry i (letters_of ss ms) × (last ≡ walk entry i (letters_of ss ms)))
      to ends = (tt, (tt, refl))
      to (goes_on {state = i} {next = next} {l = l} {ls = ms} e p) =
          let h = line-reaches i next l e in
          let r = subst (λ m. PathFrom entry m (letters_of ss ms) × (last ≡ walk entry m (letters_of ss ms))) h.2 (to p).1 in
          ((h.0, (to p).0), ((h.1, r.0), r.1))

      from : (ms : List (List ℕ)) (i : ℕ) → AreLetters ss ms × (PathFrom entry i (letters_of ss ms) × (last ≡ walk entry i (letters_of ss ms))) → PlaysThrough ss entries i ms last
      from [] i x = subst (PlaysThrough ss entries i []) (sym x.1.1) ends
      from (l ∷ ms) i x = goes_on (reaches-line i l x.0.0 x.1.0.0) (from ms (entry i (letter_in l)) (x.0.1, (x.1.0.1, x.1.1)))

-- ---- two tables with the same rows

module _ (ss : List Stream) (entries entries' : List ℕ) {n : ℕ}
    (same : (i a : ℕ) → i < n → a < letter_count ss → entry_at (letter_count ss) entries i a ≡ entry_at (letter_count ss) entries' i a)
    (closed : (i a : ℕ) → i < n → a < letter_count ss → entry_at (letter_count ss) entries i a ≢ no_state → entry_at (letter_count ss) entries i a < n) where
  rows-replayed : (ls : List (List ℕ)) (number state : ℕ) → state < n → replayed ss entries number state ls ≡ replayed ss entries' number state ls
  unfolding replayed
  rows-replayed [] number state inside = refl
  rows-replayed (l ∷ ls) number state inside = go (value_line ss l) refl (rows-replayed ls (suc number))
    where
      rest : List ℕ → ℕ → List ℕ
      rest table next = replayed ss table (suc number) next ls

      go : (v : ValueLine) → value_line ss l ≡ v → ((next : ℕ) → next < n → rest entries next ≡ rest entries' next)
          → line_then number (rest entries) (outcome_from ss entries state v) ≡ line_then number (rest entries') (outcome_from ss entries' state v)
      go malformed q later = refl
      go outside q later = refl
      go (letter a) q later =
          let x = entry_at (letter_count ss) entries state a in
          let h = letter-line ss l q in
          let is_letter : a < letter_count ss = rw h.1 (letter_number-bound h.0) in
          let e : entered (entry_at (letter_count ss) entries' state a) ≡ entered x = ap entered (sym (same state a inside is_letter)) in
          elim (entered-cases x) [
            | inl y ↦ ap (line_then number (rest entries)) y.1 ∙ sym (ap (line_then number (rest entries')) (e ∙ y.1))
            | inr y ↦
                ap (line_then number (rest entries)) y.1
                ∙ ap (state_line number x ++◌) (later x (closed state a inside is_letter y.0))
                ∙ sym (ap (line_then number (rest entries')) (e ∙ y.1))
          ]

  -- What is printed is read from the rows of the states alone.
  pub rows-printed : (ls : List (List ℕ)) (state : ℕ) → state < n → replayed_lines ss entries state ls ≡ replayed_lines ss entries' state ls
  unfolding replayed_lines
  rows-printed [] state inside = refl
  rows-printed (l ∷ ls) state inside = ap (λ printed. cond (is_names_line (names_of ss) l) (replay_heading ++ printed) (refusal_line 13)) (rows-replayed ls 1 state inside)
