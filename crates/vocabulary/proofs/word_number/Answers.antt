-- `vocabulary::word_number` meets its contract: the number is that of the bytes from the loop's place on.
use Prim.Native.Nat.{◌-◌, ◌+◌, ◌*◌, ◌<◌}
use mathlib.Core.Path.{◌≡◌, sym, ap, ap₂, subst, ◌∙◌}
use mathlib.Core.List.{◌∷◌}
use native.Mathlib.Omega.{arith}
use lib.ListN.{drop, get_or, length-drop}
use lib.Seq.{get_or-drop}
use Rattle.vocabulary.specs.Word.{word_number, TellsWord}
use Rattle.scan.proofs.Tokens.{drop_at, drop-end}
use Rattle.vocabulary.proofs.Words.{AreBytes, word_below, tells-word, tells-long}
use Rattle.vocabulary.proofs.word_number.Goals as goal

pub returns-then-token-gt7 : goal.returns-then-token-gt7
returns-then-token-gt7 c = tells-long c.args.token.now c.if-token-gt7.true

pub loop-i-init : goal.loop-i-init
unfolding word_number
loop-i-init c = (omega arith, sym (ap word_number (drop-end c.args.token.now)))

pub overflow_mul-number : goal.overflow_mul-number
overflow_mul-number c =
    let room : c.loop-i.number < 72057594037927936 = (let token = c.args.token.now in
    let i = c.loop-i.i in
    let bytes : AreBytes (drop i token) = λ k. subst (λ b. b < 256) (sym (get_or-drop i token k 0)) (c.type_inv.token (i + k)).fits in
    let z = word_below (drop i token) 6 (let l = length-drop i token in omega arith) bytes in
    omega arith) in
    let z = room in omega arith

pub overflow_add-number : goal.overflow_add-number
overflow_add-number c =
    let room : c.loop-i.number < 72057594037927936 = (let token = c.args.token.now in
    let i = c.loop-i.i in
    let bytes : AreBytes (drop i token) = λ k. subst (λ b. b < 256) (sym (get_or-drop i token k 0)) (c.type_inv.token (i + k)).fits in
    let z = word_below (drop i token) 6 (let l = length-drop i token in omega arith) bytes in
    omega arith) in
    let z = room in let b = c.type_inv.token (c.loop-i.i - 1) in omega arith

pub loop-i-preserved : goal.loop-i-preserved
unfolding word_number
loop-i-preserved c =
    let token = c.args.token.now in
    let i = c.loop-i.i in
    let back : i - 1 + 1 ≡ i = omega arith in
    let rest = drop_at token (i - 1) (omega arith) ∙ ap (λ n. get_or token (i - 1) 0 ∷ drop n token) back in
    (omega arith, ap₂ (λ n b. n * 256 + b) c.loop-i.invariant.1 c.from.ensures ∙ sym (ap word_number rest))

pub returns : goal.returns
returns c =
    let none : c.loop-i.i ≡ 0 = omega arith in
    subst (TellsWord c.args.token.now) (sym (c.loop-i.invariant.1 ∙ ap (λ n. word_number (drop n c.args.token.now)) none)) (tells-word c.args.token.now (λ k. (c.type_inv.token k).fits))
