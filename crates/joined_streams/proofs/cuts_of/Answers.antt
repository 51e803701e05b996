-- `cuts_of` meets its contract: before each turn the cuts of the letters before it are listed, and behind them the list is 0.
use Prim.Native.Nat.{ℕ, ◌<◌}
use mathlib.Core.Path.{◌≡◌, ◌∙◌}
use native.Mathlib.Omega.{arith}
use lib.ListN.{length, length-set, length-replicate}
use lib.Seq.{get_or-set_other}
use Rattle.basics.proofs.Clearing.{zeros}
use Rattle.streams.specs.Description.{description_of}
use Rattle.joined_streams.specs.Joined.{cut_number}
use Rattle.joined_streams.proofs.Places.{set_below}
use Rattle.joined_streams.proofs.Cuts.{cut_below}
use Rattle.joined_streams.proofs.cuts_of.Goals as goal

pub loop-letter-init : goal.loop-letter-init
loop-letter-init c = (length-replicate {A = ℕ} 1024 0, (λ a l. absurd (omega arith)), λ a l. zeros 1024 a)

pub overflow_cast-cuts : goal.overflow_cast-cuts
overflow_cast-cuts c =
    let known : c.loop-letter.letter < c.args.letters = c.loop-letter-test.true in
    let below = cut_below c.requires.0.covers c.loop-letter.letter (omega (arith, known, c.requires.1)) in
    omega (arith, c.cut_of.ensures, below, c.requires.0.own_letters)

pub loop-letter-preserved : goal.loop-letter-preserved
loop-letter-preserved c =
    let known : c.loop-letter.letter < c.args.letters = c.loop-letter-test.true in
    let loop = c.loop-letter in
    let room : loop.letter < length loop.cuts = omega (arith, known, c.requires.1, c.requires.0.joined_letters, loop.invariant.0) in (
      length-set loop.cuts loop.letter c.cut_of.result ∙ loop.invariant.0,
      set_below (λ a v. v ≡ cut_number (description_of c.args.joined.now) (description_of c.args.own.now) a) loop.cuts loop.letter c.cut_of.result room c.cut_of.ensures loop.invariant.1,
      λ a l. get_or-set_other loop.cuts loop.letter a c.cut_of.result 0 (omega arith) ∙ loop.invariant.2 a (omega arith),
    )

pub returns : goal.returns
returns c =
    let loop = c.loop-letter in
    let letters = c.requires.1 in
    record { long = loop.invariant.0; cuts = λ a h. loop.invariant.1 a (omega (arith, c.loop-letter-test.false, letters)); beyond = λ a h. loop.invariant.2 a (omega (arith, letters)) }
