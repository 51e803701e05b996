-- The bytes of a chunk that are played part by part: none, the bytes of a line, its end, the rest behind a refusal, and one part after another.
-- From the laws of the machine (Steps) and of parts of a list (Slices).
use Prim.Native.Nat.{ℕ, suc, ◌+◌, ◌-◌, ◌≤◌, ◌<◌}
use native.Mathlib.Omega.{arith}
use mathlib.Core.Path.{◌≡◌, refl, sym, ◌∙◌, ap, ap₂, subst}
use mathlib.Core.Logic.{inl, inr, ⊎_elim}
use mathlib.Core.Bool.{Bool, true, false, not}
use mathlib.Core.List.{List, [], ◌∷◌, ◌++◌, append_assoc, append-nil}
use lib.Dec.{ltb, eqb}
use lib.ListN.{length, get_or, take, drop, length-append, length-drop, drop_of_length-le}
use lib.Seq.{sets, length-sets, sets-eq, slice, slice_empty, drop-drop, take_all}
use borrow.Author.Tests.{ltb-true, ltb-false, eq-eqb}
use Rattle.basics.proofs.Lists.{sets_append}
use Rattle.text.specs.Fold.{run_bytes}
use Rattle.text.proofs.Lines.{run-append}
use Rattle.record_lines.specs.Runs.{RunsLine}
use Rattle.replaying.specs.Machine.{PlayedSheet, playing, ended_replay, advanced_to, byte_read, end_text, end_in, play_byte, played, HasLineRoom, HasOutputRoom, PlaysChunk, Advances}
use Rattle.replaying.specs.declared.Stage.TheVariants.{Ended}
use Rattle.replaying.specs.declared.Replay.{Replay}
use Rattle.replaying.specs.declared.Advanced.{Advanced}
use Rattle.record_lines.proofs.Slices.{slice_split, slice_more, slice_first}
use Rattle.replaying.proofs.Steps.{play-end, run-other, run-ended, room-other, room-ended, room-append, room-before, behind, run-behind, room-behind}

-- A text that is stored from a place on is stored at the front of what stands there.
sets_part : (l : List ℕ) (n : ℕ) (t : List ℕ) → n + length t ≤ length l → sets l n t ≡ take n l ++ sets (drop n l) 0 t
sets_part l n t h =
    let d = length-drop n l in
    let k : length t ≡ 0 + length t = omega arith in
    sets-eq t l n h ∙ append_assoc (take n l) t (drop (n + length t) l)
    ∙ ap (λ m. take n l ++ m) (ap (λ m. t ++ m) (sym (drop-drop (length t) n l) ∙ ap (λ e. drop e (drop n l)) k) ∙ sym (sets-eq t (drop n l) 0 (omega arith)))

-- All that stands from a place on, as it is lent to a call, and as it is put back.
pub lent-rest : (out : List ℕ) (size : ℕ) → take (length out - size) (drop size out) ≡ drop size out
lent-rest out size = let d = length-drop size out in take_all (length out - size) (drop size out) (omega arith)

pub put_rest : (out : List ℕ) (size : ℕ) (rest : List ℕ) → take size out ++ (rest ++ drop (length out - size) (drop size out)) ≡ take size out ++ rest
put_rest out size rest =
    let d = length-drop size out in
    ap (λ m. take size out ++ m) (ap (λ m. rest ++ m) (drop_of_length-le (drop size out) {i = length out - size} (omega arith)) ∙ append-nil rest)

module _ (s : PlayedSheet) (chunk : List ℕ) where
  -- ---- nothing

  pub plays-nothing : (replay : Replay) (from : ℕ) (out : List ℕ) → PlaysChunk s replay chunk from out out (advanced_to replay from 0)
  plays-nothing replay from out =
      let e = slice_empty from chunk in
      let same = ap (run_bytes (play_byte s) (playing replay [])) e in
      record {
        onward = omega arith;
        inside = omega arith;
        run = sym (ap (λ p. p.replay) same);
        room = subst (HasOutputRoom s (length out) (playing replay [])) (sym e) tt;
        size = sym (ap (λ p. length p.printed) same);
        fits = omega arith;
        bytes = sym (ap (λ p. sets out 0 p.printed) same);
      }

  -- ---- a part that is known whole: where the reading stands behind it, and what it prints

  module _ {replay replay' : Replay} {from next : ℕ} {out text : List ℕ} (o : from ≤ next) (i : next ≤ length chunk)
      (e : run_bytes (play_byte s) (playing replay []) (slice from next chunk) ≡ playing replay' text)
      (k : HasOutputRoom s (length out) (playing replay []) (slice from next chunk)) where
    pub plays-part : {size : ℕ} {out' : List ℕ} → size ≡ length text → size ≤ length out → out' ≡ sets out 0 text → PlaysChunk s replay chunk from out out' (advanced_to replay' next size)
    plays-part n f b =
        record {
          onward = o;
          inside = omega arith;
          run = sym (ap (λ p. p.replay) e);
          room = k;
          size = n ∙ sym (ap (λ p. length p.printed) e);
          fits = f;
          bytes = b ∙ sym (ap (λ p. sets out 0 p.printed) e);
        }

  module _ (replay : Replay) {replay' : Replay} {from next : ℕ} (out : List ℕ) (l : RunsLine chunk from next) (h : 32 ≤ length out)
      (e : run_bytes (byte_read s) (playing replay []) (slice from next chunk) ≡ playing replay' []) where
    line-run : run_bytes (play_byte s) (playing replay []) (slice from next chunk) ≡ playing replay' []
    line-run = run-other s (slice from next chunk) l.bytes (playing replay []) ∙ e

    line-room : HasOutputRoom s (length out) (playing replay []) (slice from next chunk)
    line-room = room-other s (length out) (slice from next chunk) l.bytes (playing replay []) (omega arith)

    -- The bytes of a line print nothing.
    pub plays-bytes : next ≤ length chunk → PlaysChunk s replay chunk from out out (advanced_to replay' next 0)
    plays-bytes i = plays-part l.onward i line-run line-room refl (omega arith) refl

    -- A line and its byte 10 print what the line's end does.
    pub plays-line : next < length chunk → {size : ℕ} {out' : List ℕ} → size ≡ length (end_text s replay'.stage replay') → size ≤ length out → out' ≡ sets out 0 (end_text s replay'.stage replay')
        → PlaysChunk s replay chunk from out out' (advanced_to (end_in s replay'.stage replay') (next + 1) size)
    plays-line k n f b =
        let o = l.onward in
        let m = slice_more from next chunk o k in
        let last = eq-eqb (get_or chunk next 0) 10 (l.stops k) in
        let run =
        ap (run_bytes (play_byte s) (playing replay [])) m ∙ run-append (play_byte s) (playing replay []) (slice from next chunk) (get_or chunk next 0 ∷ [])
        ∙ ap (λ p. play_byte s p (get_or chunk next 0)) line-run ∙ play-end s (playing replay' []) (get_or chunk next 0) last in
        let room =
        subst (HasOutputRoom s (length out) (playing replay [])) (sym m)
        (room-append s (length out) (slice from next chunk) (get_or chunk next 0 ∷ []) (playing replay []) line-room
        (subst (λ p. HasOutputRoom s (length out) p (get_or chunk next 0 ∷ [])) (sym line-run) (omega arith, tt))) in
        plays-part (omega arith) (omega arith) run room n f b

  -- ---- behind a refusal

  pub plays-rest : {replay : Replay} {from : ℕ} {out : List ℕ} → replay.stage ≡ Ended → from < length chunk → 32 ≤ length out
      → PlaysChunk s replay chunk from out out (advanced_to (ended_replay (not (eqb (get_or chunk (length chunk - 1) 0) 10))) (length chunk) 0)
  plays-rest {replay} {from} {out} e k h =
      let last = length chunk - 1 in
      let b = get_or chunk last 0 in
      let whole : last + 1 ≡ length chunk = omega arith in
      let m : slice from (length chunk) chunk ≡ slice from last chunk ++ (b ∷ []) = ap (λ n. slice from n chunk) (sym whole) ∙ slice_more from last chunk (omega arith) (omega arith) in
      plays-part (omega arith) (omega arith) (ap (run_bytes (play_byte s) (playing replay [])) m ∙ run-ended s (slice from last chunk) replay [] b e)
      (room-ended s (length out) (slice from (length chunk) chunk) replay [] e (omega arith)) refl (omega arith) refl

  -- ---- one part after another

  -- What is played from a place on depends on nothing but where the reading stands.
  pub played_then : (replay : Replay) {from at next : ℕ} → from ≤ at → at ≤ next
      → played s replay chunk from next ≡ behind (played s replay chunk from at).printed (played s (played s replay chunk from at).replay chunk at next)
  played_then replay {from} {at} {next} o i =
      let p = played s replay chunk from at in
      ap (run_bytes (play_byte s) (playing replay [])) (sym (slice_split from at next chunk o i))
      ∙ run-append (play_byte s) (playing replay []) (slice from at chunk) (slice at next chunk)
      ∙ ap (λ t. run_bytes (play_byte s) (playing p.replay t) (slice at next chunk)) (sym (append-nil p.printed))
      ∙ run-behind s p.printed (slice at next chunk) (playing p.replay [])

  module _ {replay : Replay} {from : ℕ} {out out₁ : List ℕ} {r₁ : Advanced} (p : PlaysChunk s replay chunk from out out₁ r₁) where
    pub same-room : length out₁ ≡ length out
    same-room = ap length p.bytes ∙ length-sets out 0 (played s replay chunk from r₁.next).printed

    module _ {out₂ : List ℕ} {r₂ : Advanced} (q : PlaysChunk s r₁.replay chunk r₁.next (drop r₁.size out₁) out₂ r₂) where
      t₁ : List ℕ
      t₁ = (played s replay chunk from r₁.next).printed

      t₂ : List ℕ
      t₂ = (played s r₁.replay chunk r₁.next r₂.next).printed

      first : run_bytes (play_byte s) (playing replay []) (slice from r₁.next chunk) ≡ behind t₁ (playing r₁.replay [])
      unfolding t₁
      first = ap₂ playing (sym p.run) (sym (append-nil (played s replay chunk from r₁.next).printed))

      parts : slice from r₂.next chunk ≡ slice from r₁.next chunk ++ slice r₁.next r₂.next chunk
      parts = sym (slice_split from r₁.next r₂.next chunk p.onward q.onward)

      both : played s replay chunk from r₂.next ≡ playing r₂.replay (t₁ ++ t₂)
      unfolding t₁ t₂
      both =
          played_then replay p.onward q.onward
          ∙ ap (λ x. behind t₁ (played s x chunk r₁.next r₂.next)) (sym p.run)
          ∙ ap (λ x. playing x (t₁ ++ t₂)) (sym q.run)

      left : length t₁ + length (drop r₁.size out₁) ≡ length out
      unfolding t₁
      left = let n = p.size in let f = p.fits in let e = same-room in let d = length-drop r₁.size out₁ in omega arith

      enough : HasOutputRoom s (length out) (playing replay []) (slice from r₂.next chunk)
      enough =
          subst (HasOutputRoom s (length out) (playing replay [])) (sym parts)
          (room-append s (length out) (slice from r₁.next chunk) (slice r₁.next r₂.next chunk) (playing replay []) p.room
          (subst (λ x. HasOutputRoom s (length out) x (slice r₁.next r₂.next chunk)) (sym first)
          (subst (λ n. HasOutputRoom s n (behind t₁ (playing r₁.replay [])) (slice r₁.next r₂.next chunk)) left
          (room-behind s (length (drop r₁.size out₁)) t₁ (slice r₁.next r₂.next chunk) (playing r₁.replay []) q.room))))

      stored : {out₃ : List ℕ} → out₃ ≡ take r₁.size out₁ ++ out₂ → out₃ ≡ sets out 0 (t₁ ++ t₂)
      unfolding t₁ t₂
      stored e =
          let n = p.size in
          let m = q.size in
          let f = p.fits in
          let g = q.fits in
          let d = length-drop r₁.size out₁ in
          let l = same-room in
          let z : r₁.size ≡ 0 + length t₁ = omega arith in
          e ∙ ap (λ x. take r₁.size out₁ ++ x) q.bytes ∙ sym (sets_part out₁ r₁.size t₂ (omega arith))
          ∙ ap₂ (λ x y. sets x y t₂) p.bytes z ∙ sets_append out 0 t₁ t₂

      pub plays_then : {out₃ : List ℕ} → out₃ ≡ take r₁.size out₁ ++ out₂ → PlaysChunk s replay chunk from out out₃ (advanced_to r₂.replay r₂.next (r₁.size + r₂.size))
      unfolding t₁ t₂
      plays_then e =
          let a = p.onward in
          let b = q.onward in
          let c = p.inside in
          let d = q.inside in
          let n = p.size in
          let m = q.size in
          let f = p.fits in
          let g = q.fits in
          let l = same-room in
          let x = length-drop r₁.size out₁ in
          let y = length-append t₁ t₂ in
          record {
            onward = omega arith;
            inside = omega arith;
            run = sym (ap (λ z. z.replay) both);
            room = enough;
            size = let z : r₁.size + r₂.size ≡ length (t₁ ++ t₂) = omega arith in z ∙ sym (ap (λ w. length w.printed) both);
            fits = omega arith;
            bytes = stored e ∙ sym (ap (λ w. sets out 0 w.printed) both);
          }

    -- The bytes behind those that are written are lent to the call that plays the next part.
    pub plays_on : {out₂ : List ℕ} {r₂ : Advanced} → PlaysChunk s r₁.replay chunk r₁.next (take (length out₁ - r₁.size) (drop r₁.size out₁)) out₂ r₂
        → PlaysChunk s replay chunk from out (take r₁.size out₁ ++ (out₂ ++ drop (length out₁ - r₁.size) (drop r₁.size out₁))) (advanced_to r₂.replay r₂.next (r₁.size + r₂.size))
    plays_on {out₂} {r₂} q =
        plays_then (subst (λ z. PlaysChunk s r₁.replay chunk r₁.next z out₂ r₂) (lent-rest out₁ r₁.size) q) (put_rest out₁ r₁.size out₂)

    -- ---- where it stops

    pub stops-at-end : length chunk ≤ r₁.next → Advances s replay chunk from out out₁ r₁
    stops-at-end h = record { plays = p; stops = inl h }

    pub stops-without-room : length out₁ - r₁.size < 32 → Advances s replay chunk from out out₁ r₁
    stops-without-room h = record { plays = p; stops = inr (λ k. let n = p.size in let f = p.fits in let l = same-room in omega arith) }

  -- Where there is a byte to play and room for a line, it goes on.
  pub advances_onward : {replay : Replay} {from : ℕ} {out out' : List ℕ} {r : Advanced} → Advances s replay chunk from out out' r → from < length chunk → 32 ≤ length out → from < r.next
  advances_onward {replay} {from} {out} {out'} {r} a h k = by (ltb from r.next) refl
    where
      by : (t : Bool) → ltb from r.next ≡ t → from < r.next
      by true e = ltb-true from r.next e
      by false e =
          let o = a.plays.onward in
          let same : r.next ≡ from = let z = ltb-false from r.next e in omega arith in
          let none : played s replay chunk from r.next ≡ playing replay [] = ap (played s replay chunk from) same ∙ ap (run_bytes (play_byte s) (playing replay [])) (slice_empty from chunk) in
          ⊎_elim (λ z. absurd (omega arith)) (λ z. absurd (z (subst (HasLineRoom s (length out)) (sym none) (omega arith)))) a.stops

  -- ---- one answer

  module _ {replay : Replay} {from : ℕ} {out : List ℕ} where
    -- One that goes further has room where the other stops.
    no_further : {out₁ out₂ : List ℕ} {r q : Advanced} → Advances s replay chunk from out out₁ r → PlaysChunk s replay chunk from out out₂ q → r.next < q.next → ⊥
    no_further {out₁} {out₂} {r} {q} a p h =
        let o = a.plays.onward in
        let i = p.inside in
        let k : q.next ≤ length chunk = omega arith in
        let m = sym (slice_split from r.next q.next chunk o (omega arith)) ∙ ap (λ z. slice from r.next chunk ++ z) (slice_first r.next q.next chunk h k) in
        let room = room-before s (length out) (slice from r.next chunk) (slice (suc r.next) q.next chunk) (get_or chunk r.next 0) (playing replay []) (subst (HasOutputRoom s (length out) (playing replay [])) m p.room) in
        ⊎_elim (λ z. omega arith) (λ z. z room) a.stops

    pub advances_unique : {out₁ out₂ : List ℕ} {r q : Advanced} → Advances s replay chunk from out out₁ r → Advances s replay chunk from out out₂ q → (r ≡ q) × (out₁ ≡ out₂)
    advances_unique {out₁} {out₂} {r} {q} a b = by (ltb r.next q.next) refl (ltb q.next r.next) refl
      where
        by : (t : Bool) → ltb r.next q.next ≡ t → (u : Bool) → ltb q.next r.next ≡ u → (r ≡ q) × (out₁ ≡ out₂)
        by true e u f = absurd (no_further a b.plays (ltb-true r.next q.next e))
        by false e true f = absurd (no_further b a.plays (ltb-true q.next r.next f))
        by false e false f =
            let x = ltb-false r.next q.next e in
            let y = ltb-false q.next r.next f in
            let n : r.next ≡ q.next = omega arith in
            let reached : Advanced = advanced_to (played s replay chunk from r.next).replay r.next (length (played s replay chunk from r.next).printed) in
            let first : r ≡ reached = ap₂ (λ z k. advanced_to z r.next k) a.plays.run a.plays.size in
            let second : q ≡ advanced_to (played s replay chunk from q.next).replay q.next (length (played s replay chunk from q.next).printed) = ap₂ (λ z k. advanced_to z q.next k) b.plays.run b.plays.size in
            (first ∙ ap (λ k. advanced_to (played s replay chunk from k).replay k (length (played s replay chunk from k).printed)) n ∙ sym second, a.plays.bytes ∙ ap (λ k. sets out 0 (played s replay chunk from k).printed) n ∙ sym b.plays.bytes)
