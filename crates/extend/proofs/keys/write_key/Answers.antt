-- `keys::write_key` meets its contract: over zeros the letters and the firsts are put, and the numbers before and after them are set.
use Prim.Native.Nat.{ℕ, ◌+◌, ◌≤◌}
use mathlib.Core.Path.{◌≡◌, ap, ◌∙◌}
use mathlib.Core.List.{List, [], ◌∷◌, ◌++◌}
use native.Mathlib.Omega.{arith}
use lib.ListN.{length, take, set, replicate, length-set, length-take}
use lib.Seq.{paste}
use borrow.Author.Rules.{rules}
use Rattle.sheet.specs.Refusal.{window_bound}
use Rattle.sizes.specs.Room.{key_size}
use Rattle.prepare.proofs.KeyLists.{key-over-zeros, few_letters, letter-written, none_written}
use Rattle.extend.proofs.keys.write_key.Goals as goal
use Rattle.extend.proofs.keys.write_key.Goals.{then-count-ne0, else-count-ne0}

pub bounds-key-0 : goal.bounds-key-0
bounds-key-0 c =
    let same : length c.put.new.list ≡ key_size = c.put.auto.list ∙ c.fill.auto.self ∙ c.requires.0 in
    let key-long : length c.if-count-ne0.key ≡ key_size = elim c.if-count-ne0.branch [ then-count-ne0 w ↦ ap length w.key-is ∙ simp length-set same | else-count-ne0 w ↦ ap length w.key-is ∙ same ] in
    omega (arith, c.put-2.auto.list, key-long)

pub bounds-key-15 : goal.bounds-key-15
bounds-key-15 c =
    let same : length c.put.new.list ≡ key_size = c.put.auto.list ∙ c.fill.auto.self ∙ c.requires.0 in
    let key-long : length c.if-count-ne0.key ≡ key_size = elim c.if-count-ne0.branch [ then-count-ne0 w ↦ ap length w.key-is ∙ simp length-set same | else-count-ne0 w ↦ ap length w.key-is ∙ same ] in
    simp length-set (omega (arith, c.put-2.auto.list, key-long))

pub returns : goal.returns
returns c =
    let same : length c.put.new.list ≡ key_size = c.put.auto.list ∙ c.fill.auto.self ∙ c.requires.0 in
    let key-long : length c.if-count-ne0.key ≡ key_size = elim c.if-count-ne0.branch [ then-count-ne0 w ↦ ap length w.key-is ∙ simp length-set same | else-count-ne0 w ↦ ap length w.key-is ∙ same ] in
    let args = c.args in
    let all : List ℕ = args.letters.now ++ (args.letter ∷ []) in
    let held : List ℕ = take args.count all in
    let few : length args.letters.now ≤ window_bound = few_letters args.letters.now args.letter args.count c.requires.1 c.requires.3 c.requires.4 in
    let put-fits : 1 + length args.letters.now ≤ length c.fill.new.self = omega (arith, few, c.fill.auto.self, c.requires.0) in
    let filled : c.fill.new.self ≡ replicate (length c.args.key.now) 0 = c.fill.ensures.after (search rules) in
    let blank = filled ∙ ap (λ n. replicate {A = ℕ} n 0) c.requires.0 in
    let copied = c.put.ensures.copied put-fits ∙ ap (λ (k : List ℕ). paste k 1 args.letters.now (length args.letters.now)) blank in
    let written : c.if-count-ne0.key ≡ paste (replicate key_size 0) 1 held (length held) = elim c.if-count-ne0.branch [
      | then-count-ne0 w ↦ w.key-is ∙ ap (λ k. set k args.count args.letter) copied ∙ letter-written args.letters.now args.letter args.count c.requires.1 (c.requires.3 (omega (arith, w.if-count-ne0.true)))
      | else-count-ne0 w ↦ w.key-is ∙ copied ∙ none_written args.letters.now args.letter args.count (omega (arith, w.if-count-ne0.false)) (c.requires.4 (omega (arith, w.if-count-ne0.false)))
    ] in
    ap (λ (k : List ℕ). set (set k 0 args.size) 15 args.marks)
    (c.put-2.ensures.copied (omega (arith, key-long, c.requires.2)) ∙ ap (λ (k : List ℕ). paste k 7 args.firsts.now (length args.firsts.now)) written)
    ∙ key-over-zeros held args.firsts.now args.size args.marks (omega (arith, length-take args.count all, c.requires.1)) c.requires.2
