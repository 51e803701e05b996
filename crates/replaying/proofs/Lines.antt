-- A line of a record in a chunk, as the code reads it: its bytes to the end of the chunk, or the line whole and what its end prints. From the laws
-- of parts (Plays) and of the machine (Steps).
use Prim.Native.Nat.{ℕ, ◌+◌, ◌-◌, ◌≤◌, ◌<◌}
use native.Mathlib.Omega.{arith}
use mathlib.Core.Path.{◌≡◌, refl, sym, ◌∙◌, ap, ap₂, subst}
use mathlib.Core.Bool.{Bool, true, false, cond}
use mathlib.Core.List.{List, [], ◌++◌}
use lib.ListN.{length, take, drop, length-drop, take-append-drop}
use lib.Seq.{slice, sets}
use Rattle.text.specs.Fold.{run_bytes}
use Rattle.print.specs.Append.{Appends}
use Rattle.print.specs.Text.{refusal_line}
use Rattle.print.proofs.Lengths.{refusal-length}
use Rattle.records.specs.Machine.{line_start, line_byte}
use Rattle.record_names.specs.Machine.{names_start, names_byte}
use Rattle.records.specs.declared.LineState.{LineState}
use Rattle.record_names.specs.declared.NamesState.{NamesState}
use Rattle.replaying.specs.Replay.{LineOutcome, reaches, refuses, replay_heading}
use Rattle.record_lines.specs.Runs.{one_more, RunsLine}
use Rattle.replaying.specs.Machine.{PlayedSheet, playing, names_replay, values_replay, ended_replay, advanced_to, is_refused, led_to, HoldsOutcome, stored_streams, name_at, byte_read, line_outcome, after_outcome, is_names, PlaysChunk}
use Rattle.replaying.specs.declared.Stage.TheVariants.{Names, Values}
use Rattle.replaying.specs.declared.Replay.{Replay}
use Rattle.replaying.specs.declared.Advanced.{Advanced}
use Rattle.replaying.specs.declared.LinePlayed.{LinePlayed}
use Rattle.record_lines.proofs.Runs.{begun_by, begun-part}
use Rattle.replaying.proofs.Outcomes.{written-line}
use Rattle.replaying.proofs.Steps.{names-run, values-run}
use Rattle.replaying.proofs.Plays.{lent-rest, plays-bytes, plays-line, plays_then, plays_on}

-- ---- the line of names

pub names-replay : (r : Replay) → r.stage ≡ Names → names_replay r.begun r.names r.line r.number r.state ≡ r
names-replay r e = ap (λ k. record { stage = k; begun = r.begun; names = r.names; line = r.line; number = r.number; state = r.state }) (sym e)

abbrev names_text : Bool → List ℕ
names_text same = cond same replay_heading (refusal_line 13)

abbrev after_names : Replay → Bool → Replay
after_names r same = cond same (values_replay false names_start r.line r.number r.state) (ended_replay false)

module _ (s : PlayedSheet) (chunk : List ℕ) (replay : Replay) (e : replay.stage ≡ Names) {from next : ℕ} (out : List ℕ) (h : 32 ≤ length out)
    (l : RunsLine chunk from next) {x : NamesState} (r : x ≡ run_bytes (names_byte (name_at s)) replay.names (slice from next chunk)) where
  abbrev names_read : Bool → Replay
  names_read g = names_replay g x replay.line replay.number replay.state

  run : run_bytes (byte_read s) (playing replay []) (slice from next chunk) ≡ playing (names_read (begun_by replay.begun (slice from next chunk))) []
  run =
      ap (λ p. run_bytes (byte_read s) (playing p []) (slice from next chunk)) (sym (names-replay replay e))
      ∙ names-run s (slice from next chunk) replay.begun replay.names replay.line replay.number replay.state []
      ∙ ap (λ n. playing (names_replay (begun_by replay.begun (slice from next chunk)) n replay.line replay.number replay.state) []) (sym r)

  pub names-bytes : from < next → PlaysChunk s replay chunk from out out (advanced_to (names_read true) next 0)
  names-bytes k =
      let i : next ≤ length chunk = omega (arith, l.inside) in
      subst (λ g. PlaysChunk s replay chunk from out out (advanced_to (names_read g) next 0)) (begun-part replay.begun chunk from next k i)
      (plays-bytes s chunk replay out l h run i)

  module _ (k : next < length chunk) {out' : List ℕ} {size : ℕ} where
    names-end : {same : Bool} → is_names s x ≡ same → size ≡ length (names_text same) → size ≤ length out → out' ≡ sets out 0 (names_text same)
        → PlaysChunk s replay chunk from out out' (advanced_to (after_names replay same) (next + 1) size)
    names-end n a f b =
        subst (λ t. PlaysChunk s replay chunk from out out' (advanced_to (after_names replay t) (next + 1) size)) n
        (plays-line s chunk replay out l h run k (a ∙ ap (λ t. length (names_text t)) (sym n)) f (b ∙ ap (λ t. sets out 0 (names_text t)) (sym n)))

    -- "names that differ, print no heading"
    pub names-differ : {r' : Advanced} → r' ≡ advanced_to (ended_replay false) (next + 1) size → is_names s x ≡ false → Appends 0 (refusal_line 13) out out' size → PlaysChunk s replay chunk from out out' r'
    names-differ z n a = let w = written-line h (refusal-length 13 (omega arith)) a in subst (PlaysChunk s replay chunk from out out') (sym z) (names-end n w.0 w.1 w.2)

    pub names_same : {start : NamesState} {r' : Advanced} → start ≡ names_start → r' ≡ advanced_to (values_replay false start replay.line replay.number replay.state) (next + 1) size
        → is_names s x ≡ true → Appends 0 replay_heading out out' size → PlaysChunk s replay chunk from out out' r'
    names_same y z n a =
        let w = written-line h (omega arith) a in
        subst (PlaysChunk s replay chunk from out out') (sym (z ∙ ap (λ t. advanced_to (values_replay false t replay.line replay.number replay.state) (next + 1) size) y)) (names-end n w.0 w.1 w.2)

-- ---- a line of values

pub from-values : {s : PlayedSheet} {chunk out out' : List ℕ} {from : ℕ} {a b : Advanced} (r : Replay) → r.stage ≡ Values → a ≡ b
    → PlaysChunk s (values_replay r.begun r.names r.line r.number r.state) chunk from out out' b → PlaysChunk s r chunk from out out' a
from-values {s} {chunk} {out} {out'} {from} {a} {b} r e z p =
    subst (λ k. PlaysChunk s (record { stage = k; begun = r.begun; names = r.names; line = r.line; number = r.number; state = r.state }) chunk from out out' a) (sym e)
    (subst (PlaysChunk s (values_replay r.begun r.names r.line r.number r.state) chunk from out out') (sym z) p)

after-state : (s : PlayedSheet) (r : Replay) (o : LineOutcome) → is_refused o ≡ false → after_outcome s r o ≡ values_replay false r.names line_start (one_more r.number) (led_to o).state
after-state s r (reaches state) e = refl
after-state s r (refuses n) e = let z : ◌≡◌ {A = ℕ} 0 1 = cc in absurd (omega arith)

after-refusal : (s : PlayedSheet) (r : Replay) (o : LineOutcome) → is_refused o ≡ true → after_outcome s r o ≡ ended_replay false
after-refusal s r (reaches state) e = let z : ◌≡◌ {A = ℕ} 0 1 = cc in absurd (omega arith)
after-refusal s r (refuses n) e = refl

module _ (s : PlayedSheet) (chunk : List ℕ) {first : Replay} {from : ℕ} {out₀ out : List ℕ} {g : Bool} {x : NamesState} {y : LineState} {m q at size : ℕ}
    (p : PlaysChunk s first chunk from out₀ out (advanced_to (values_replay g x y m q) at size)) (h : 32 ≤ length out - size) {next : ℕ}
    (l : RunsLine chunk at next) {y' : LineState} (e : y' ≡ run_bytes (line_byte (stored_streams s)) y (slice at next chunk)) where
  abbrev values_read_lem : Bool → Replay
  values_read_lem b = values_replay b x y' m q

  values-step : run_bytes (byte_read s) (playing (values_replay g x y m q) []) (slice at next chunk) ≡ playing (values_read_lem (begun_by g (slice at next chunk))) []
  values-step = values-run s (slice at next chunk) g x y m q [] ∙ ap (λ z. playing (values_replay (begun_by g (slice at next chunk)) x z m q) []) (sym e)

  room : 32 ≤ length (drop size out)
  room = let d = length-drop size out in omega arith

  pub values-bytes : at < next → PlaysChunk s first chunk from out₀ out (advanced_to (values_read_lem true) next size)
  values-bytes k =
      let i : next ≤ length chunk = omega (arith, l.inside) in
      let more = plays-bytes s chunk (values_replay g x y m q) (drop size out) l room values-step i in
      let none : size + 0 ≡ size = omega arith in
      subst (λ n. PlaysChunk s first chunk from out₀ out (advanced_to (values_read_lem true) next n)) none
      (subst (λ b. PlaysChunk s first chunk from out₀ out (advanced_to (values_read_lem b) next (size + 0))) (begun-part g chunk at next k i)
      (plays_then s chunk p more (sym (take-append-drop size out))))

  -- The line whole: the bytes behind those that are written are lent to the call that ends it.
  module _ (k : next < length chunk) {out₂ : List ℕ} {r : LinePlayed} (o : HoldsOutcome m (line_outcome s y' q) (take (length out - size) (drop size out)) out₂ r) where
    abbrev out₃ : List ℕ
    out₃ = take size out ++ (out₂ ++ drop (length out - size) (drop size out))

    values-end : PlaysChunk s first chunk from out₀ out₃ (advanced_to (after_outcome s (values_read_lem (begun_by g (slice at next chunk))) (line_outcome s y' q)) (next + 1) (size + r.size))
    values-end =
        plays_on s chunk p
        (plays-line s chunk (values_replay g x y m q) (take (length out - size) (drop size out)) l (subst (λ z. 32 ≤ length z) (sym (lent-rest out size)) room) values-step k o.size o.fits o.bytes)

    -- "one such line per value line, counted from 1, with the state reached"
    pub values-state : r.ended ≡ false → {start : LineState} → start ≡ line_start → {number : ℕ} → number ≡ one_more m
        → PlaysChunk s first chunk from out₀ out₃ (advanced_to (values_replay false x start number r.state) (next + 1) (size + r.size))
    values-state n a b =
        subst (λ z. PlaysChunk s first chunk from out₀ out₃ (advanced_to z (next + 1) (size + r.size)))
        (after-state s (values_read_lem (begun_by g (slice at next chunk))) (line_outcome s y' q) (sym o.ended ∙ n) ∙ ap (values_replay false x line_start (one_more m)) (sym o.state)
        ∙ ap₂ (λ z k. values_replay false x z k r.state) (sym a) (sym b)) values-end

    pub values-refused : r.ended ≡ true → PlaysChunk s first chunk from out₀ out₃ (advanced_to (ended_replay false) (next + 1) (size + r.size))
    values-refused n =
        subst (λ z. PlaysChunk s first chunk from out₀ out₃ (advanced_to z (next + 1) (size + r.size)))
        (after-refusal s (values_read_lem (begun_by g (slice at next chunk))) (line_outcome s y' q) (sym o.ended ∙ n)) values-end
