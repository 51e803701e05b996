-- The machine that plays a record, byte by byte: the bytes of a line, its end, what is behind a refusal, and what was printed before, on which
-- nothing depends. From the definitions, by induction over the bytes.
use Prim.Native.Nat.{ℕ, ◌+◌}
use native.Mathlib.Omega.{arith}
use mathlib.Core.Path.{◌≡◌, refl, sym, ◌∙◌, ap, subst}
use mathlib.Core.Bool.{Bool, true, false, not}
use mathlib.Core.List.{List, [], ◌∷◌, ◌++◌, append_assoc, append-nil}
use lib.Dec.{eqb}
use lib.ListN.{length, length-append}
use Rattle.text.specs.Fold.{run_bytes}
use Rattle.records.specs.Machine.{line_byte}
use Rattle.record_names.specs.Machine.{names_byte}
use Rattle.records.specs.declared.LineState.{LineState}
use Rattle.record_names.specs.declared.NamesState.{NamesState}
use Rattle.record_lines.specs.Runs.{NoLineEnd}
use Rattle.record_lines.proofs.Runs.{begun_by, begun-stays, text-end, text-other, run-other as run-line}
use Rattle.replaying.specs.Machine.{PlayedSheet, Playing, playing, names_replay, values_replay, ended_replay, stored_streams, name_at, read_in, byte_read, end_text, end_in, line_ended, play_byte, HasLineRoom, HasOutputRoom}
use Rattle.replaying.specs.declared.Stage.TheVariants.{Ended}
use Rattle.replaying.specs.declared.Replay.{Replay}

-- The same, with a text printed before.
abbrev pub behind : List ℕ → Playing → Playing
behind t p = playing p.replay (t ++ p.printed)

module _ (s : PlayedSheet) where
  -- ---- one byte

  pub play-end : (p : Playing) (b : ℕ) → eqb b 10 ≡ true → play_byte s p b ≡ line_ended s p
  unfolding play_byte
  play-end = text-end (byte_read s) (line_ended s)

  pub play-other : (p : Playing) (b : ℕ) → eqb b 10 ≡ false → play_byte s p b ≡ byte_read s p b
  unfolding play_byte
  play-other = text-other (byte_read s) (line_ended s)

  -- ---- the bytes of a line

  pub run-other : (l : List ℕ) → NoLineEnd l → (p : Playing) → run_bytes (play_byte s) p l ≡ run_bytes (byte_read s) p l
  unfolding play_byte
  run-other = run-line (byte_read s) (line_ended s)

  pub names-run : (l : List ℕ) (g : Bool) (x : NamesState) (y : LineState) (m q : ℕ) (t : List ℕ)
      → run_bytes (byte_read s) (playing (names_replay g x y m q) t) l ≡ playing (names_replay (begun_by g l) (run_bytes (names_byte (name_at s)) x l) y m q) t
  names-run [] g x y m q t = refl
  names-run (b ∷ l) g x y m q t =
      names-run l true (names_byte (name_at s) x b) y m q t ∙ ap (λ g'. playing (names_replay g' (run_bytes (names_byte (name_at s)) (names_byte (name_at s) x b) l) y m q) t) (begun-stays l)

  pub values-run : (l : List ℕ) (g : Bool) (x : NamesState) (y : LineState) (m q : ℕ) (t : List ℕ)
      → run_bytes (byte_read s) (playing (values_replay g x y m q) t) l ≡ playing (values_replay (begun_by g l) x (run_bytes (line_byte (stored_streams s)) y l) m q) t
  values-run [] g x y m q t = refl
  values-run (b ∷ l) g x y m q t =
      values-run l true x (line_byte (stored_streams s) y b) m q t ∙ ap (λ g'. playing (values_replay g' x (run_bytes (line_byte (stored_streams s)) (line_byte (stored_streams s) y b) l) m q) t) (begun-stays l)

  -- ---- behind a refusal

  pub play-ended : (r : Replay) (t : List ℕ) (b : ℕ) → r.stage ≡ Ended → play_byte s (playing r t) b ≡ playing (ended_replay (not (eqb b 10))) t
  play-ended r t b e = by (eqb b 10) refl
    where
      by : (g : Bool) → eqb b 10 ≡ g → play_byte s (playing r t) b ≡ playing (ended_replay (not g)) t
      by true p = play-end (playing r t) b p ∙ ap (λ k. playing (end_in s k r) (t ++ end_text s k r)) e ∙ ap (playing (ended_replay false)) (append-nil t)
      by false p = play-other (playing r t) b p ∙ ap (λ k. playing (read_in s k r b) t) e

  -- A last byte, after any others.
  pub run-ended : (l : List ℕ) (r : Replay) (t : List ℕ) (b : ℕ) → r.stage ≡ Ended → run_bytes (play_byte s) (playing r t) (l ++ (b ∷ [])) ≡ playing (ended_replay (not (eqb b 10))) t
  run-ended [] r t b e = play-ended r t b e
  run-ended (a ∷ l) r t b e = ap (λ p. run_bytes (play_byte s) p (l ++ (b ∷ []))) (play-ended r t a e) ∙ run-ended l (ended_replay (not (eqb a 10))) t b refl

  -- ---- room

  pub room-other : (room : ℕ) (l : List ℕ) → NoLineEnd l → (p : Playing) → HasLineRoom s room p → HasOutputRoom s room p l
  room-other room [] h p k = tt
  room-other room (b ∷ l) h p k = (k, subst (λ q. HasOutputRoom s room q l) (sym (play-other p b h.0)) (room-other room l h.1 (byte_read s p b) k))

  pub room-ended : (room : ℕ) (l : List ℕ) (r : Replay) (t : List ℕ) → r.stage ≡ Ended → HasLineRoom s room (playing r t) → HasOutputRoom s room (playing r t) l
  room-ended room [] r t e k = tt
  room-ended room (b ∷ l) r t e k = (k, subst (λ q. HasOutputRoom s room q l) (sym (play-ended r t b e)) (room-ended room l (ended_replay (not (eqb b 10))) t refl k))

  pub room-append : (room : ℕ) (l m : List ℕ) (p : Playing) → HasOutputRoom s room p l → HasOutputRoom s room (run_bytes (play_byte s) p l) m → HasOutputRoom s room p (l ++ m)
  room-append room [] m p h k = k
  room-append room (b ∷ l) m p h k = (h.0, room-append room l m (play_byte s p b) h.1 k)

  -- Before a byte that is played there is room.
  pub room-before : (room : ℕ) (l m : List ℕ) (b : ℕ) (p : Playing) → HasOutputRoom s room p (l ++ (b ∷ m)) → HasLineRoom s room (run_bytes (play_byte s) p l)
  room-before room [] m b p h = h.0
  room-before room (a ∷ l) m b p h = room-before room l m b (play_byte s p a) h.1

  -- ---- what was printed before

  byte-behind : (t : List ℕ) (p : Playing) (b : ℕ) → play_byte s (behind t p) b ≡ behind t (play_byte s p b)
  byte-behind t p b = by (eqb b 10) refl
    where
      by : (g : Bool) → eqb b 10 ≡ g → play_byte s (behind t p) b ≡ behind t (play_byte s p b)
      by true e =
          play-end (behind t p) b e ∙ ap (playing (end_in s p.replay.stage p.replay)) (append_assoc t p.printed (end_text s p.replay.stage p.replay))
          ∙ ap (behind t) (sym (play-end p b e))
      by false e = play-other (behind t p) b e ∙ ap (behind t) (sym (play-other p b e))

  pub run-behind : (t l : List ℕ) (p : Playing) → run_bytes (play_byte s) (behind t p) l ≡ behind t (run_bytes (play_byte s) p l)
  run-behind t [] p = refl
  run-behind t (b ∷ l) p = ap (λ q. run_bytes (play_byte s) q l) (byte-behind t p b) ∙ run-behind t l (play_byte s p b)

  pub room-behind : (room : ℕ) (t l : List ℕ) (p : Playing) → HasOutputRoom s room p l → HasOutputRoom s (length t + room) (behind t p) l
  room-behind room t [] p h = tt
  room-behind room t (b ∷ l) p h =
      let a = length-append t p.printed in
      let k = h.0 in
      (omega arith, subst (λ q. HasOutputRoom s (length t + room) q l) (sym (byte-behind t p b)) (room-behind room t l (play_byte s p b) h.1))
