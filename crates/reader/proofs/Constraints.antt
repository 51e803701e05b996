-- How the constraint lines are read one after the other: what the lines before a place gave, and one line more.
use Prim.Native.Nat.{ℕ, ◌+◌, ◌-◌, ◌≤◌, ◌<◌}
use mathlib.Core.Path.{◌≡◌, refl, sym, ap, ap₂, subst, ◌∙◌}
use mathlib.Core.Bool.{Bool, true, false, cond, ◌||◌}
use mathlib.Core.List.{List, ◌++◌}
use mathlib.Core.Option.{some, none}
use native.Mathlib.Omega.{arith}
use lib.Dec.{T, eqb}
use lib.ListN.{length, drop, set, length-append}
use Rattle.basics.proofs.Tests.{bit-most}
use Rattle.nodes.specs.Evaluate.{Nodes}
use Rattle.text.specs.Bytes.{lines, tokens}
use Rattle.meaning.specs.Expression.{Constraint, left_side, right_side}
use Rattle.meaning.specs.Window.{firsts, side_firsts}
use Rattle.nodes.specs.Postfix.{postfix, side_nodes, stored_constraint}
use Rattle.sheet.specs.Refusal.{token_count}
use Rattle.sheet.specs.Parser.{and_then, parse_constraint}
use Rattle.scan.specs.Place.{between, LineAt}
use Rattle.scan.specs.declared.LineSpan.{LineSpan}
use Rattle.scan.proofs.Lines.{line-within}
use Rattle.parse.specs.Stored.{store}
use Rattle.parse.specs.Bounded.{bounded_constraint}
use Rattle.parse.specs.Reading.{constraint_read, Fits, ConstraintOutcome, is_too_long, is_no_constraint, is_read}
use Rattle.parse.specs.declared.ConstraintRead.{ConstraintRead}
use Rattle.parse.proofs.Outcome.{Few, constraint-few}
use Rattle.reader.specs.Constraints.{State, state, counts, with_constraint, read_all, LinesFit, ConstraintsOutcome, no_form, are_read}
use Rattle.refusals.proofs.Lines.{line-lines, lines-past}

-- ---- one line

pub record LineRead (names line : List ℕ) (n f : ℕ) (old new : Nodes) (r : ConstraintRead) : Type 0 where
  pub tree : Constraint
  pub parsed : parse_constraint (tokens names) (tokens line) ≡ some tree
  pub gives : r ≡ constraint_read n f tree
  pub stored : new ≡ store old n (side_nodes n f (bounded_constraint tree))

pub line_read : {names line : List ℕ} {n f : ℕ} {old new : Nodes} {r : ConstraintRead} → ConstraintOutcome names line n f old new r → r.ok ≡ true → LineRead names line n f old new r
line_read (is_too_long x e y) h = absurd (subst T (sym h ∙ ap (λ z. z.ok) e) tt)
line_read (is_no_constraint x p e y) h = absurd (subst T (sym h ∙ ap (λ z. z.ok) e) tt)
line_read (is_read {c} x p e y) h = record { tree = c; parsed = p; gives = e; stored = y }

pub line-missing : {names line : List ℕ} {n f : ℕ} {old new : Nodes} {r : ConstraintRead} → ConstraintOutcome names line n f old new r → Fits line n f → r.ok ≡ false → parse_constraint (tokens names) (tokens line) ≡ none
line-missing (is_too_long x e y) k h = absurd (x k)
line-missing (is_no_constraint x p e y) k h = p
line-missing (is_read x p e y) k h = absurd (subst T (sym (ap (λ z. z.ok) e) ∙ h) tt)

-- ---- the lines before a place

pub record SoFar (names text : List ℕ) (old s : State) (at : ℕ) : Type 0 where
  pub within : at ≤ length text
  pub same : read_all (tokens names) old (lines text) ≡ read_all (tokens names) s (lines (drop at text))
  pub nodes : s.counts.nodes + token_count (lines (drop at text)) ≤ 1024
  pub firsts : s.counts.firsts + token_count (lines (drop at text)) ≤ 1024
  pub count : s.counts.count + length (lines (drop at text)) ≤ 32
  pub untils : s.counts.untils ≤ s.counts.count

pub sofar_start : (names text : List ℕ) (a : Nodes) (p l r : List ℕ) → LinesFit (lines text) → SoFar names text (state a p l r (counts 0 0 0 0 false)) (state a p l r (counts 0 0 0 0 false)) 0
sofar_start names text a p l r h =
    let t = h.tokens in
    let c = h.count in
    record { within = omega arith; same = refl; nodes = omega arith; firsts = omega arith; count = omega arith; untils = omega arith }

pub at_most_one : (b : Bool) {u : ℕ} → u ≡ cond b 1 0 → u ≤ 1
at_most_one b e = let o = bit-most b in omega arith

module _ {names text : List ℕ} {old s : State} {at : ℕ} {l : LineSpan} (k : SoFar names text old s at) (h : at < length text) (found : LineAt text at l) where
  abbrev line : List ℕ
  line = between text at l.end

  abbrev rest : List (List ℕ)
  rest = lines (drop l.next text)

  abbrev n : ℕ
  n = s.counts.nodes

  abbrev f : ℕ
  f = s.counts.firsts

  pub line-fits : Fits line n f
  line-fits =
      let z = ap token_count (line-lines found h) in
      let a = k.nodes in
      let b = k.firsts in
      record { nodes = omega arith; firsts = omega arith }

  pub count_low : s.counts.count < 32
  count_low = let z = ap length (line-lines found h) in let a = k.count in omega arith

  pub sofar_missing : {new : State} → parse_constraint (tokens names) (tokens line) ≡ none → new.counts.ok ≡ false → ConstraintsOutcome (tokens names) (lines text) old new
  unfolding read_all
  sofar_missing p e =
      no_form (k.same ∙ ap (read_all (tokens names) s) (line-lines found h) ∙ ap (λ o. and_then o (λ c. read_all (tokens names) (with_constraint s c) rest)) p) e

  module _ {new : Nodes} {r : ConstraintRead} (d : LineRead names line n f s.nodes new r) where
    abbrev c : Constraint
    c = d.tree

    few : Few (tokens line) n f c
    few = constraint-few names line n f d.parsed

    pub sides-low : (r.left < 1024) × (r.right < 1024)
    sides-low =
        let a = few.nodes in
        let z = ap token_count (line-lines found h) in
        let m = k.nodes in
        let x = postfix n f (left_side (bounded_constraint c)) in
        let y = postfix (n + length x) (f + length (firsts (left_side (bounded_constraint c)))) (right_side (bounded_constraint c)) in
        let w : length (x ++ y) ≡ length x + length y = length-append x y in
        let p : r.left ≡ n + length x - 1 = ap (λ q. q.left) d.gives in
        let q : r.right ≡ n + length x + length y - 1 = ap (λ q. q.right) d.gives in
        (omega arith, omega arith)

    module _ {ps ls rs : List ℕ} {u : ℕ} {b : Bool} (pe : ps ≡ set s.relations s.counts.count r.relation) (le : ls ≡ set s.lefts s.counts.count r.left)
        (re : rs ≡ set s.rights s.counts.count r.right) (ue : u ≡ cond (eqb r.relation 7) 1 0) (be : b ≡ s.counts.beyond || r.beyond) where
      abbrev after : State
      after = state new ps ls rs (counts (s.counts.count + 1) r.next r.firsts (s.counts.untils + u) b)

      after_is : after ≡ with_constraint s c
      unfolding with_constraint
      after_is =
          let g = d.gives in
          let t = stored_constraint n f (bounded_constraint c) in
          let k₀ = counts (s.counts.count + 1) r.next r.firsts (s.counts.untils + u) b in
          let a₁ = store s.nodes n (side_nodes n f (bounded_constraint c)) in
          let p₁ = set s.relations s.counts.count t.relation in
          let l₁ = set s.lefts s.counts.count t.left in
          let r₁ = set s.rights s.counts.count t.right in
          ap (λ a. state a ps ls rs k₀) d.stored
          ∙ ap (λ p. state a₁ p ls rs k₀) (pe ∙ ap (λ x. set s.relations s.counts.count x.relation) g)
          ∙ ap (λ p. state a₁ p₁ p rs k₀) (le ∙ ap (λ x. set s.lefts s.counts.count x.left) g)
          ∙ ap (λ p. state a₁ p₁ l₁ p k₀) (re ∙ ap (λ x. set s.rights s.counts.count x.right) g)
          ∙ ap (λ p. state a₁ p₁ l₁ r₁ p) (ap₂ (λ v w. counts (s.counts.count + 1) r.next r.firsts (s.counts.untils + v) w) ue be
          ∙ ap (λ x. counts (s.counts.count + 1) x.next x.firsts (s.counts.untils + cond (eqb x.relation 7) 1 0) (s.counts.beyond || x.beyond)) g)

      pub sofar_step : SoFar names text old after l.next
      unfolding read_all
      sofar_step =
          let a = few.nodes in
          let e = few.firsts in
          let z = ap token_count (line-lines found h) in
          let y = ap length (line-lines found h) in
          let p : r.next ≡ n + length (side_nodes n f (bounded_constraint c)) = ap (λ q. q.next) d.gives in
          let q : r.firsts ≡ f + length (side_firsts (bounded_constraint c)) = ap (λ q. q.firsts) d.gives in
          let o = bit-most (eqb r.relation 7) in
          let kn = k.nodes in
          let kf = k.firsts in
          let kc = k.count in
          let ku = k.untils in
          record {
            within = (line-within found k.within).within;
            same = k.same ∙ ap (read_all (tokens names) s) (line-lines found h) ∙ ap (λ o. and_then o (λ c. read_all (tokens names) (with_constraint s c) rest)) d.parsed ∙ ap (λ x. read_all (tokens names) x rest) (sym after_is);
            nodes = omega arith;
            firsts = omega arith;
            count = omega arith;
            untils = omega arith;
          }

pub sofar_end : {names text : List ℕ} {old s : State} {at : ℕ} → SoFar names text old s at → length text ≤ at → ConstraintsOutcome (tokens names) (lines text) old s
unfolding read_all
sofar_end {names} {text} {old} {s} {at} k h = are_read (k.same ∙ ap (read_all (tokens names) s) (lines-past text at h))
