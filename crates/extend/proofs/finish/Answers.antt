-- `finish` meets its contract: the longer record is judged, and its key is written from its parts.
use Prim.Native.Nat.{ℕ, ◌+◌, ◌-◌, ◌≤◌}
use mathlib.Core.Path.{◌≡◌, refl, ◌∙◌, sym, ap}
use mathlib.Core.List.{List, [], ◌∷◌, ◌++◌}
use native.Mathlib.Omega.{arith}
use lib.ListN.{length, length-append, length-take}
use lib.Seq.{length-take-le}
use Rattle.std.specs.Prelude.{Option, Some, None, is_some, unwrap_or, true, false, drop}
use Rattle.sheet.specs.Refusal.{window_bound}
use Rattle.basics.proofs.Tests.{not-both}
use Rattle.nodes.specs.Evaluate.{View}
use Rattle.prepare.specs.Key.{encoded_key}
use Rattle.extend.specs.Step.{Store, judged_in, firsts_from, Finished}
use Rattle.extend.proofs.StepLaws.{some-kept, none_kept, last-letters}
use Rattle.extend.proofs.finish.Goals as goal

-- What is judged where as many letters are there as before the newest one is what is judged of the longer record.
module _ (K : Store) (W : View) (size marks : ℕ) (letters : List ℕ) (letter : ℕ) (numbers fresh : List ℕ) {r : Option ℕ} (judged : r ≡ judged_in K W (length letters) marks) where
  all-long : length (letters ++ (letter ∷ [])) ≡ length letters + 1
  all-long = length-append letters (letter ∷ [])

  judged-there : r ≡ judged_in K W (length (letters ++ (letter ∷ [])) - 1) marks
  judged-there =
      let before : length letters ≡ length (letters ++ (letter ∷ [])) - 1 = omega (arith, all-long) in
      judged ∙ ap (λ n. judged_in K W n marks) before

  finished-no : r ≡ None → Finished K W size (letters ++ (letter ∷ [])) marks numbers fresh false fresh
  finished-no none = record { answer = ap is_some (sym none ∙ judged-there); new = λ e. not-both e; kept = λ e. refl }

  finished-yes : {told : ℕ} {last firsts fresh' : List ℕ} → r ≡ Some told → last ≡ drop (length (letters ++ (letter ∷ [])) - K.width) (letters ++ (letter ∷ [])) → firsts ≡ firsts_from K W size numbers
      → fresh' ≡ encoded_key (length letters + 1) last firsts told → Finished K W size (letters ++ (letter ∷ [])) marks numbers fresh true fresh'
  finished-yes some last firsts new =
      record {
        answer = ap is_some (sym some ∙ judged-there);
        new = λ e. new ∙ (λ i. encoded_key (sym all-long i) (last i) (firsts i) (unwrap_or ((sym some ∙ judged-there) i) 0));
        kept = λ e. not-both (sym e);
      }

pub returns-in_default : goal.returns-in_default
returns-in_default c = finished-no _ _ _ _ _ _ _ _ c.judge_letter.ensures c.in_default.is

pub overflow_cast-count : goal.overflow_cast-count
overflow_cast-count c =
    let few : length c.args.letters.now ≤ window_bound = omega (arith, c.requires.ready.few_letters, c.requires.letters_len_bound.0) in
    omega (arith, few)

pub offset_bounds-letters-from : goal.offset_bounds-letters-from
offset_bounds-letters-from c =
    let few : length c.args.letters.now ≤ window_bound = omega (arith, c.requires.ready.few_letters, c.requires.letters_len_bound.0) in
    omega (arith, few)

pub slice_bounds-write_key-end-2 : goal.slice_bounds-write_key-end-2
slice_bounds-write_key-end-2 c =
    let after = c.firsts_after-filled in
    sym (length-take-le after.result after.new.numbers (omega (arith, after.ensures.upper_bound, after.auto.numbers)))

pub write_key-requires : goal.write_key-requires
write_key-requires c =
    let start = c in
    let after = c.firsts_after-filled in
    let kept = c.min-kept in
    let from = c.min-from in
    let letters = start.args.letters.now in
    let width = start.args.dimensions.width in (
      c.requires.letters_len_bound.2,
      omega (arith, kept.ensures, c.requires.ready.few_letters),
      omega (arith, length-take after.result after.new.numbers, after.ensures.upper_bound),
      some-kept letters start.args.letter width kept.result from.result c.requires.letters_len_bound.0 kept.ensures from.ensures,
      none_kept letters start.args.letter width kept.result from.result c.requires.letters_len_bound.0 kept.ensures from.ensures,
    )

pub returns : goal.returns
returns c =
    let args = c.args in
    let kept = c.min-kept in
    let from = c.min-from in
    let last = last-letters args.letters.now args.letter args.dimensions.width kept.result from.result c.requires.letters_len_bound.0 kept.ensures from.ensures in
    finished-yes _ _ _ _ _ _ _ _ c.judge_letter.ensures c.in-Some.is last c.firsts_after-filled.ensures.numbers_after c.write_key.ensures
