-- A chunk that is played by several calls, each from the place where the one before it stopped, and what writes took of it. From the laws of `replaying`
-- (Plays).
use Prim.Native.Nat.{ℕ, ◌+◌, ◌≤◌, ◌<◌, min}
use native.Mathlib.Omega.{arith}
use mathlib.Core.Path.{◌≡◌, refl, sym, ◌∙◌, ap}
use mathlib.Core.Bool.{Bool, true, false}
use mathlib.Core.List.{List}
use lib.ListN.{length, take, length-append}
use lib.Seq.{length-take-le}
use Rattle.output.specs.Output.{Hands}
use Rattle.replaying.specs.Machine.{PlayedSheet, played, Advances}
use Rattle.replaying.specs.declared.Replay.{Replay}
use Rattle.replaying.specs.declared.Advanced.{Advanced}
use Rattle.replaying.proofs.Plays.{played_then, advances_onward, same-room}
use Rattle.playback.specs.Written.{highest_count, chunk_text, WritesChunk}

module _ (s : PlayedSheet) (replay : Replay) (chunk out₀ : List ℕ) where
  -- What the bytes before a place print.
  abbrev printed_to : ℕ → List ℕ
  printed_to at = (played s replay chunk 0 at).printed

  -- What is printed from a place on comes behind what is printed before it.
  printed_then : {at next : ℕ} → at ≤ next → length (printed_to next) ≡ length (printed_to at) + length (played s (played s replay chunk 0 at).replay chunk at next).printed
  printed_then {at} {next} h =
      let later = (played s (played s replay chunk 0 at).replay chunk at next).printed in
      ap (λ p. length p.printed) (played_then s chunk replay {from = 0} {at = at} {next = next} (omega arith) h) ∙ length-append (printed_to at) later

  -- The bytes before a place are played, and the writes took what they print, up to one that failed.
  pub record PlayedTo (out : List ℕ) (playing : Replay) (at size : ℕ) (whole : Bool) : Type 0 where
    pub inside : at ≤ length chunk
    pub run : playing ≡ (played s replay chunk 0 at).replay
    pub taken : ℕ
    pub count : size ≡ min taken highest_count
    pub same : length out ≡ length out₀
    pub going : whole ≡ true → (32 ≤ length out₀) × (taken ≡ length (printed_to at))
    pub failed : whole ≡ false → 32 ≤ length out₀ → taken < length (chunk_text s replay chunk)
    pub no_room : length out₀ < 32 → (at ≡ 0) × (taken ≡ 0) × (whole ≡ false) × (out ≡ out₀)

  pub played-none : {whole : Bool} → (whole ≡ true → 32 ≤ length out₀) → (whole ≡ false → length out₀ < 32) → PlayedTo out₀ replay 0 0 whole
  played-none {whole} h k =
      record {
        inside = omega arith;
        run = refl;
        taken = 0;
        count = refl;
        same = refl;
        going = λ e. (h e, refl);
        failed = λ e room. absurd (omega (arith, k e));
        no_room = λ short. (refl, refl, by whole short refl, refl);
      }
    where
      by : (b : Bool) → length out₀ < 32 → whole ≡ b → whole ≡ false
      by true short e = absurd (omega (arith, h e))
      by false short e = e

  module _ {out : List ℕ} {playing : Replay} {at size : ℕ} {whole : Bool} (p : PlayedTo out playing at size whole) where
    -- A chunk that is played to its end, or to a write that failed.
    pub chunk_written : (whole ≡ true → length chunk ≤ at) → WritesChunk s replay chunk out₀ out (record { replay = playing; size = size; whole = whole })
    chunk_written end =
        let i = p.inside in
        let whole_chunk : whole ≡ true → at ≡ length chunk = λ e. omega (arith, end e) in
        record {
          reached = at;
          inside = p.inside;
          run = p.run;
          ends = whole_chunk;
          taken = p.taken;
          count = p.count;
          hands = λ room. record { all = λ e. (p.going e).1 ∙ ap (λ n. length (printed_to n)) (whole_chunk e); cut = λ e. p.failed e room };
          no_room = λ short.
              let n = p.no_room short in
              let start = p.run ∙ ap (λ k. (played s replay chunk 0 k).replay) n.0 in
              let counted = p.count ∙ ap (λ k. min k highest_count) n.1 in
              (λ i. record { replay = start i; size = counted i; whole = n.2 i }, n.3);
          left = p.same;
        }

    module _ (w : whole ≡ true) (h : at < length chunk) {out' : List ℕ} {r : Advanced} (a : Advances s playing chunk at out out' r) where
      pub goes_on : at < r.next
      goes_on = let k = (p.going w).0 in let e = p.same in advances_onward s chunk a h (omega arith)

      -- One part more is handed to a write.
      pub played-more : {handed more : ℕ} {whole' : Bool} → Hands (take r.size out') handed whole' → more ≡ min (size + handed) highest_count → PlayedTo out' r.replay r.next more whole'
      played-more {handed} {more} {whole'} hands sum =
          let o = a.plays.onward in
          let i = a.plays.inside in
          let before = p.going w in
          let room = same-room s chunk a.plays in
          let part : length (take r.size out') ≡ r.size = length-take-le _ _ (omega (arith, a.plays.fits)) in
          let next : length (printed_to r.next) ≡ p.taken + r.size = omega (arith, printed_then o, before.1, a.plays.size, ap (λ x. length (played s x chunk at r.next).printed) p.run) in
          let inside : r.next ≤ length chunk = omega arith in
          record {
            inside = inside;
            run =
                a.plays.run ∙ ap (λ x. (played s x chunk at r.next).replay) p.run
                ∙ sym (ap (λ x. x.replay) (played_then s chunk replay {from = 0} {at = at} {next = r.next} (omega arith) o));
            taken = p.taken + handed;
            count = omega (arith, p.count);
            same = room ∙ p.same;
            going = λ e. (before.0, omega (arith, hands.all e));
            failed = λ e enough. omega (arith, hands.cut e, printed_then inside);
            no_room = λ short. absurd (omega arith);
          }
