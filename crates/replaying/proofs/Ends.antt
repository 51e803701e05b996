-- The end of a record: a line that is begun ends with it, by one byte 10 more, and a record without lines has no names. From the definitions.
use Prim.Native.Nat.{ℕ, ◌≤◌, ◌<◌}
use native.Mathlib.Omega.{arith}
use mathlib.Core.Path.{◌≡◌, refl, sym, ◌∙◌, ap}
use mathlib.Core.Bool.{Bool, true, false, cond}
use mathlib.Core.List.{List, [], ◌∷◌}
use lib.ListN.{length}
use lib.Seq.{sets, length-sets}
use borrow.Author.Tests.{le-leb, lt-leb}
use Rattle.record_names.specs.Machine.{names_start}
use Rattle.replaying.specs.Replay.{LineOutcome, reaches, refuses}
use Rattle.replaying.specs.Machine.{PlayedSheet, Playing, playing, values_replay, ended_replay, line_outcome, after_outcome, is_names, end_text, end_in, line_ended, last_line, closed_in, closed_replay, played, Advances, last_text, Finishes}
use Rattle.replaying.specs.declared.Stage.{Stage}
use Rattle.replaying.specs.declared.Stage.TheVariants.{Names, Values, Ended}
use Rattle.replaying.specs.declared.Replay.{Replay}
use Rattle.replaying.specs.declared.Advanced.{Advanced}
use Rattle.replaying.proofs.Steps.{play-end}
use Rattle.replaying.proofs.Plays.{advances_onward}

module _ (s : PlayedSheet) where
  -- Behind the end of a line no names are read.
  closed_in_lem : (k : Stage) (r : Replay) (p : Playing) → closed_in s (end_in s k r).stage p ≡ p
  closed_in_lem Names r p = by (is_names s r.names)
    where
      by : (t : Bool) → closed_in s (cond t (values_replay false names_start r.line r.number r.state) (ended_replay false)).stage p ≡ p
      by true = refl
      by false = refl
  closed_in_lem Values r p = by (line_outcome s r.line r.state)
    where
      by : (o : LineOutcome) → closed_in s (after_outcome s r o).stage p ≡ p
      by (reaches state) = refl
      by (refuses n) = refl
  closed_in_lem Ended r p = refl

  pub closed-end : (p : Playing) → closed_replay s (line_ended s p) ≡ line_ended s p
  closed-end p = closed_in_lem p.replay.stage p.replay (line_ended s p)

  module _ (replay : Replay) (room : ℕ) where
    pub no_text : room < 32 → [] ≡ last_text s replay room
    unfolding last_text
    no_text h = ap (λ t. cond t (closed_replay s (last_line s (playing replay []))).printed []) (sym (lt-leb 32 room h))

    with_room : 32 ≤ room → (closed_replay s (last_line s (playing replay []))).printed ≡ last_text s replay room
    unfolding last_text
    with_room h = ap (λ t. cond t (closed_replay s (last_line s (playing replay []))).printed []) (sym (le-leb 32 room h))

    -- A last line.
    pub last-line-text : 32 ≤ room → replay.begun ≡ true → end_text s replay.stage replay ≡ last_text s replay room
    last-line-text h e =
        sym (ap (λ t. (closed_replay s (cond t (line_ended s (playing replay [])) (playing replay []))).printed) e ∙ ap (λ p. p.printed) (closed-end (playing replay []))) ∙ with_room h

    -- No last line.
    pub closing-text : 32 ≤ room → replay.begun ≡ false → (k : Stage) → replay.stage ≡ k → (closed_in s k (playing replay [])).printed ≡ last_text s replay room
    closing-text h e k p =
        sym (ap (λ t. (closed_replay s (cond t (line_ended s (playing replay [])) (playing replay []))).printed) e ∙ ap (λ k'. (closed_in s k' (playing replay [])).printed) p) ∙ with_room h

  -- A text that is written whole.
  pub text-ends : {replay : Replay} {out out' text : List ℕ} {r : ℕ} → text ≡ last_text s replay (length out) → r ≡ length text → r ≤ length out → out' ≡ sets out 0 text → Finishes s replay out out' r
  text-ends {replay} {out} {out'} {text} {r} e n f b = record { size = n ∙ ap length e; fits = f; bytes = b ∙ ap (sets out 0) e }

  -- The lent bytes stay as many.
  pub finish_room : {replay : Replay} {out out' : List ℕ} {r : ℕ} → Finishes s replay out out' r → length out' ≡ length out
  finish_room {replay} {out} {out'} {r} f = ap length f.bytes ∙ length-sets out 0 (last_text s replay (length out))

  -- One byte 10 more ends the last line.
  module _ {replay : Replay} {out out' : List ℕ} {r : Advanced} (a : Advances s replay (10 ∷ []) 0 out out' r) (h : 32 ≤ length out) (e : replay.begun ≡ true) where
    ended : (played s replay (10 ∷ []) 0 r.next).printed ≡ last_text s replay (length out)
    ended =
        let o = advances_onward s (10 ∷ []) a (omega arith) h in
        let i = a.plays.inside in
        let one : r.next ≡ 1 = omega arith in
        ap (λ n. (played s replay (10 ∷ []) 0 n).printed) one ∙ ap (λ p. p.printed) (play-end s (playing replay []) 10 refl) ∙ last-line-text replay (length out) h e

    pub line-ends : Finishes s replay out out' r.size
    line-ends = record { size = a.plays.size ∙ ap length ended; fits = a.plays.fits; bytes = a.plays.bytes ∙ ap (sets out 0) ended }
