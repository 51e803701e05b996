-- `prepare::add_letter` meets its contract: if the letter's values are there, they are copied after those of the letters that are held.
use Prim.Native.Nat.{ℕ, ◌+◌, ◌-◌, ◌*◌, ◌≤◌, min}
use mathlib.Core.Path.{◌≡◌, refl, sym, ◌∙◌, ap₂, subst}
use mathlib.Core.Bool.{Bool, true, false}
use mathlib.Core.List.{List}
use native.Mathlib.Omega.{arith}
use lib.IntN.{ℤ}
use lib.ListN.{length}
use lib.ListN.{take, drop}
use lib.Seq.{paste}
use borrow.Rule.Slice.PartMut.{put_mid}
use Rattle.std.proofs.lemmas.Slice.{put_mid-paste}
use Rattle.basics.specs.Answers.{Says}
use Rattle.basics.proofs.Answers.{says_yes, says_no}
use Rattle.sheet.specs.Refusal.{stream_bound, window_bound}
use Rattle.sizes.specs.Room.{window_room}
use Rattle.prepare.specs.Prepared.{with_letter_after}
use Rattle.prepare.proofs.Parts.{part-long}
use Rattle.prepare.proofs.PreparedLaws.{copy_room, all-streams, letter-missing, letter-copied}
use Rattle.prepare.proofs.add_letter.Goals as goal

-- with so few streams
module _ {few : ℕ} (l : few ≤ stream_bound) where
  -- there is room for the values behind those of the letters that are held
  room : {at : ℕ} → at ≤ window_bound → at * few + stream_bound ≤ window_room
  room {at} h = copy_room {n = at} l h

  module _ (values : List ℤ) (letter : ℕ) where
    -- the letter's values are there, or not
    there : {r : Bool} → r ≡ true → Says r (letter * min few stream_bound + stream_bound ≤ length values) → letter * few + stream_bound ≤ length values
    there t s = subst (λ n. letter * n + stream_bound ≤ length values) (all-streams l) (says_yes t s)

    missing : {r : Bool} → r ≡ false → Says r (letter * min few stream_bound + stream_bound ≤ length values) → ¬ (letter * few + stream_bound ≤ length values)
    missing f s = subst (λ n. ¬ (letter * n + stream_bound ≤ length values)) (all-streams l) (says_no f s)

-- the smaller of a number and a bound
few_streams : (n : ℕ) {few : ℕ} → few ≡ min n stream_bound → few ≤ stream_bound
few_streams n e = omega (arith, e)

few_letters : (n : ℕ) {few : ℕ} → few ≡ min n window_bound → few ≤ window_bound
few_letters n e = omega (arith, e)

pub slice_bounds-copy_from_slice-end : goal.slice_bounds-copy_from_slice-end
slice_bounds-copy_from_slice-end c =
    let a = c.args in
    omega (arith, room (few_streams a.streams c.min-few.ensures) (few_letters a.held c.min.ensures), c.if-window-lt-WINDOW_ROOM.false)

pub returns-then-has_values : goal.returns-then-has_values
returns-then-has_values c =
    let a = c.args in
    let e = c.min-few.ensures in
    let f = c.min.ensures in
    let h = there (few_streams a.streams e) a.letter_values.now a.letter c.if-has_values.true c.has_values.ensures in
    let few = c.min-few.result in
    let held = c.min.result in
    let from = a.letter * few in
    let part = take (from + 8 - from) (drop from a.letter_values.now) in
    let long : length part ≡ 8 = part-long a.letter_values.now from 8 h in
    let wide : length part ≡ held * few + 8 - held * few = omega (arith, long) in
    let copied : put_mid (held * few) (held * few + 8 - held * few) a.window.now c.copy_from_slice.new.self ≡ paste a.window.now (held * few) part (length part) =
    put_mid-paste (held * few) (held * few + 8 - held * few) a.window.now c.copy_from_slice.new.self part (length part) c.copy_from_slice.ensures.after wide refl in
    record {
      done = λ r. copied ∙ sym (letter-copied few a.letter_values.now held a.letter a.window.now h)
          ∙ ap₂ (λ s n. with_letter_after s a.letter_values.now n a.letter a.window.now) e f;
      refused = λ n. absurd (omega (arith, n, c.if-window-lt-WINDOW_ROOM.false));
    }

pub returns-else-has_values : goal.returns-else-has_values
returns-else-has_values c =
    let a = c.args in
    let e = c.min-few.ensures in
    let f = c.min.ensures in
    let n = missing (few_streams a.streams e) a.letter_values.now a.letter c.if-has_values.false c.has_values.ensures in
    let few = c.min-few.result in
    let held = c.min.result in
    record {
      done = λ r. sym (letter-missing few a.letter_values.now held a.letter a.window.now (omega (arith, n)))
          ∙ ap₂ (λ s m. with_letter_after s a.letter_values.now m a.letter a.window.now) e f;
      refused = λ m. refl;
    }
