-- `extend` meets its contract: what is too long is cut, so that each step is safe; the letter's values are put after what is prepared, and `finish` does
-- the rest for the parts of the key and of the list.
use Prim.Native.Nat.{ℕ, ◌+◌, ◌*◌, ◌≤◌, min}
use mathlib.Core.Path.{◌≡◌, refl, sym, ap, ◌∙◌, subst}
use mathlib.Core.List.{[], ◌∷◌, ◌++◌}
use native.Mathlib.Omega.{arith}
use lib.ListN.{length, take, drop}
use lib.Seq.{length-take-le}
use Rattle.basics.proofs.Answers.{says_yes, says_no}
use Rattle.sheet.specs.Refusal.{window_bound, stream_bound, first_bound}
use Rattle.sizes.specs.Room.{window_room, prepared_size}
use Rattle.prepare.specs.Key.{firsts_in}
use Rattle.prepare.specs.Prepared.{with_letter_after}
use Rattle.extend.specs.Step.{Store, store_of, IsReady, constraints_within, within_bounds, SizesFit, Continues}
use Rattle.prepare.proofs.Parts.{part-size}
use Rattle.prepare.proofs.PreparedLaws.{added-within, one_more, window-room, letters-is, letters-part-long, firsts-is, firsts-part-long}
use Rattle.extend.proofs.ExtendLaws.{within-ready, part-ready, finished-parts}
use Rattle.extend.proofs.extend.Goals as goal

-- A stored sheet that is cut to what the bounds allow is the stored sheet within the bounds.
cut-within : (K : Store) {count firsts streams ahead width : ℕ} → count ≡ constraints_within K → firsts ≡ min (length K.first_nodes) first_bound
    → (streams ≡ min K.streams stream_bound) × (ahead ≡ K.ahead) × (width ≡ min K.width window_bound)
    → store_of K.nodes.kinds K.nodes.values K.nodes.starts (take count K.relations) (take count K.lefts) (take count K.rights) (take firsts K.first_nodes) K.letter_values streams ahead width ≡ within_bounds K
unfolding within_bounds
cut-within K counts firsts few =
    λ i. store_of K.nodes.kinds K.nodes.values K.nodes.starts (take (counts i) K.relations) (take (counts i) K.lefts) (take (counts i) K.rights) (take (firsts i) K.first_nodes) K.letter_values (few.0 i) (few.1 i) (few.2 i)

pub returns-then-not-has_sizes : goal.returns-then-not-has_sizes
returns-then-not-has_sizes c =
    record {
      done = λ fit. absurd (says_no c.if-not-has_sizes.true c.has_sizes.ensures fit);
      refused = λ misfit. (refl, refl, refl);
    }

pub bounds-key-0 : goal.bounds-key-0
bounds-key-0 c =
    let room : SizesFit (length c.args.key.now) (length c.args.prepared.now) (length c.args.fresh.now) = says_yes c.if-not-has_sizes.false c.has_sizes.ensures in
    omega (arith, room.0)

pub overflow_cast-size : goal.overflow_cast-size
overflow_cast-size c =
    omega (arith, c.type_inv.key 0)

pub overflow_mul-window_end : goal.overflow_mul-window_end
overflow_mul-window_end c =
    let room : SizesFit (length c.args.key.now) (length c.args.prepared.now) (length c.args.fresh.now) = says_yes c.if-not-has_sizes.false c.has_sizes.ensures in
    let count : ℕ = c.min-count.result in
    let firsts_count : ℕ = c.min-firsts_count.result in
    let store : Store = let a = c.args in store_of a.kinds.now a.values.now a.starts.now a.relations.now a.lefts.now a.rights.now a.first_nodes.now a.letter_values.now a.dimensions.streams a.dimensions.ahead a.dimensions.width in
    let cut : Store = let a = c.args in let few = c.bounded-few.result in store_of a.kinds.now a.values.now a.starts.now (take count a.relations.now) (take count a.lefts.now) (take count a.rights.now) (take firsts_count a.first_nodes.now) a.letter_values.now few.streams few.ahead few.width in
    let cut-is : cut ≡ within_bounds store = cut-within store (c.min-count.ensures ∙ (λ i. min (c.min.ensures i) (c.min-2.ensures i))) c.min-firsts_count.ensures c.bounded-few.ensures in
    let ready : IsReady cut = subst IsReady (sym cut-is) (within-ready store) in
    let held : ℕ = c.min-held.result in
    let few-held : held ≤ window_bound = omega (arith, c.min-held.ensures, ready.few_letters) in
    let known-long : length c.add_letter.new.window ≡ prepared_size = c.add_letter.auto.window ∙ room.1 in
    let window-fits : (held + 1) * cut.streams ≤ length c.add_letter.new.window = omega (arith, one_more held cut.streams, window-room {n = held} ready.few_streams few-held, known-long) in
    omega (arith, window-fits, known-long)

pub bounds-key-15 : goal.bounds-key-15
bounds-key-15 c =
    let room : SizesFit (length c.args.key.now) (length c.args.prepared.now) (length c.args.fresh.now) = says_yes c.if-not-has_sizes.false c.has_sizes.ensures in
    omega (arith, room.0)

pub slice_bounds-finish-end : goal.slice_bounds-finish-end
slice_bounds-finish-end c =
    let count : ℕ = c.min-count.result in
    let counted : (count ≤ length c.args.relations.now) × (count ≤ length c.args.lefts.now) × (count ≤ length c.args.rights.now) × (count ≤ 32) = (omega arith, omega arith, omega arith, omega arith) in
    sym (length-take-le count c.args.relations.now counted.0)

pub slice_bounds-finish-end-2 : goal.slice_bounds-finish-end-2
slice_bounds-finish-end-2 c =
    let count : ℕ = c.min-count.result in
    let counted : (count ≤ length c.args.relations.now) × (count ≤ length c.args.lefts.now) × (count ≤ length c.args.rights.now) × (count ≤ 32) = (omega arith, omega arith, omega arith, omega arith) in
    sym (length-take-le count c.args.lefts.now counted.1)

pub slice_bounds-finish-end-3 : goal.slice_bounds-finish-end-3
slice_bounds-finish-end-3 c =
    let count : ℕ = c.min-count.result in
    let counted : (count ≤ length c.args.relations.now) × (count ≤ length c.args.lefts.now) × (count ≤ length c.args.rights.now) × (count ≤ 32) = (omega arith, omega arith, omega arith, omega arith) in
    sym (length-take-le count c.args.rights.now counted.2)

pub slice_bounds-finish-end-4 : goal.slice_bounds-finish-end-4
slice_bounds-finish-end-4 c =
    let firsts_count : ℕ = c.min-firsts_count.result in
    let firsts-counted : (firsts_count ≤ length c.args.first_nodes.now) × (firsts_count ≤ first_bound) = (omega arith, omega arith) in
    sym (length-take-le firsts_count c.args.first_nodes.now firsts-counted.0)

pub slice_bounds-finish-end-5 : goal.slice_bounds-finish-end-5
slice_bounds-finish-end-5 c =
    let room : SizesFit (length c.args.key.now) (length c.args.prepared.now) (length c.args.fresh.now) = says_yes c.if-not-has_sizes.false c.has_sizes.ensures in
    let count : ℕ = c.min-count.result in
    let firsts_count : ℕ = c.min-firsts_count.result in
    let store : Store = let a = c.args in store_of a.kinds.now a.values.now a.starts.now a.relations.now a.lefts.now a.rights.now a.first_nodes.now a.letter_values.now a.dimensions.streams a.dimensions.ahead a.dimensions.width in
    let cut : Store = let a = c.args in let few = c.bounded-few.result in store_of a.kinds.now a.values.now a.starts.now (take count a.relations.now) (take count a.lefts.now) (take count a.rights.now) (take firsts_count a.first_nodes.now) a.letter_values.now few.streams few.ahead few.width in
    let cut-is : cut ≡ within_bounds store = cut-within store (c.min-count.ensures ∙ (λ i. min (c.min.ensures i) (c.min-2.ensures i))) c.min-firsts_count.ensures c.bounded-few.ensures in
    let ready : IsReady cut = subst IsReady (sym cut-is) (within-ready store) in
    let held : ℕ = c.min-held.result in
    let few-held : held ≤ window_bound = omega (arith, c.min-held.ensures, ready.few_letters) in
    let known-long : length c.add_letter.new.window ≡ prepared_size = c.add_letter.auto.window ∙ room.1 in
    let window-fits : (held + 1) * cut.streams ≤ length c.add_letter.new.window = omega (arith, one_more held cut.streams, window-room {n = held} ready.few_streams few-held, known-long) in
    sym (length-take-le ((held + 1) * cut.streams) c.add_letter.new.window window-fits)

pub slice_bounds-finish-end-6 : goal.slice_bounds-finish-end-6
slice_bounds-finish-end-6 c =
    let room : SizesFit (length c.args.key.now) (length c.args.prepared.now) (length c.args.fresh.now) = says_yes c.if-not-has_sizes.false c.has_sizes.ensures in
    let firsts_count : ℕ = c.min-firsts_count.result in
    let firsts-counted : (firsts_count ≤ length c.args.first_nodes.now) × (firsts_count ≤ first_bound) = (omega arith, omega arith) in
    let known-long : length c.add_letter.new.window ≡ prepared_size = c.add_letter.auto.window ∙ room.1 in
    omega (arith, known-long, firsts-counted.1)

pub slice_bounds-finish-end-7 : goal.slice_bounds-finish-end-7
slice_bounds-finish-end-7 c =
    let room : SizesFit (length c.args.key.now) (length c.args.prepared.now) (length c.args.fresh.now) = says_yes c.if-not-has_sizes.false c.has_sizes.ensures in
    let count : ℕ = c.min-count.result in
    let firsts_count : ℕ = c.min-firsts_count.result in
    let store : Store = let a = c.args in store_of a.kinds.now a.values.now a.starts.now a.relations.now a.lefts.now a.rights.now a.first_nodes.now a.letter_values.now a.dimensions.streams a.dimensions.ahead a.dimensions.width in
    let cut : Store = let a = c.args in let few = c.bounded-few.result in store_of a.kinds.now a.values.now a.starts.now (take count a.relations.now) (take count a.lefts.now) (take count a.rights.now) (take firsts_count a.first_nodes.now) a.letter_values.now few.streams few.ahead few.width in
    let cut-is : cut ≡ within_bounds store = cut-within store (c.min-count.ensures ∙ (λ i. min (c.min.ensures i) (c.min-2.ensures i))) c.min-firsts_count.ensures c.bounded-few.ensures in
    let ready : IsReady cut = subst IsReady (sym cut-is) (within-ready store) in
    let held : ℕ = c.min-held.result in
    let few-held : held ≤ window_bound = omega (arith, c.min-held.ensures, ready.few_letters) in
    omega (arith, few-held, room.0)

pub slice_bounds-finish-end-8 : goal.slice_bounds-finish-end-8
slice_bounds-finish-end-8 c =
    let room : SizesFit (length c.args.key.now) (length c.args.prepared.now) (length c.args.fresh.now) = says_yes c.if-not-has_sizes.false c.has_sizes.ensures in
    let firsts_count : ℕ = c.min-firsts_count.result in
    let firsts-counted : (firsts_count ≤ length c.args.first_nodes.now) × (firsts_count ≤ first_bound) = (omega arith, omega arith) in
    omega (arith, firsts-counted.1, room.0)

pub finish-requires : goal.finish-requires
finish-requires c =
    let room : SizesFit (length c.args.key.now) (length c.args.prepared.now) (length c.args.fresh.now) = says_yes c.if-not-has_sizes.false c.has_sizes.ensures in
    let count : ℕ = c.min-count.result in
    let firsts_count : ℕ = c.min-firsts_count.result in
    let store : Store = let a = c.args in store_of a.kinds.now a.values.now a.starts.now a.relations.now a.lefts.now a.rights.now a.first_nodes.now a.letter_values.now a.dimensions.streams a.dimensions.ahead a.dimensions.width in
    let cut : Store = let a = c.args in let few = c.bounded-few.result in store_of a.kinds.now a.values.now a.starts.now (take count a.relations.now) (take count a.lefts.now) (take count a.rights.now) (take firsts_count a.first_nodes.now) a.letter_values.now few.streams few.ahead few.width in
    let firsts-counted : (firsts_count ≤ length c.args.first_nodes.now) × (firsts_count ≤ first_bound) = (omega arith, omega arith) in
    let cut-is : cut ≡ within_bounds store = cut-within store (c.min-count.ensures ∙ (λ i. min (c.min.ensures i) (c.min-2.ensures i))) c.min-firsts_count.ensures c.bounded-few.ensures in
    let ready : IsReady cut = subst IsReady (sym cut-is) (within-ready store) in
    let held : ℕ = c.min-held.result in
    let key = c.args.key.now in
    let fewer = c.min-held in
    record {
      ready = part-ready cut ready;
      letters_len_bound = (
        omega (arith, letters-part-long key room.0 cut.width held fewer.ensures ready.few_letters, fewer.ensures),
        omega (arith, firsts-part-long key room.0 firsts_count firsts-counted.1, firsts-counted.1),
        room.2,
      );
    }

pub returns : goal.returns
returns c =
    let room : SizesFit (length c.args.key.now) (length c.args.prepared.now) (length c.args.fresh.now) = says_yes c.if-not-has_sizes.false c.has_sizes.ensures in
    let count : ℕ = c.min-count.result in
    let firsts_count : ℕ = c.min-firsts_count.result in
    let store : Store = let a = c.args in store_of a.kinds.now a.values.now a.starts.now a.relations.now a.lefts.now a.rights.now a.first_nodes.now a.letter_values.now a.dimensions.streams a.dimensions.ahead a.dimensions.width in
    let cut : Store = let a = c.args in let few = c.bounded-few.result in store_of a.kinds.now a.values.now a.starts.now (take count a.relations.now) (take count a.lefts.now) (take count a.rights.now) (take firsts_count a.first_nodes.now) a.letter_values.now few.streams few.ahead few.width in
    let firsts-counted : (firsts_count ≤ length c.args.first_nodes.now) × (firsts_count ≤ first_bound) = (omega arith, omega arith) in
    let firsts-left : length (take firsts_count c.args.first_nodes.now) ≡ firsts_count = length-take-le firsts_count c.args.first_nodes.now firsts-counted.0 in
    let cut-is : cut ≡ within_bounds store = cut-within store (c.min-count.ensures ∙ (λ i. min (c.min.ensures i) (c.min-2.ensures i))) c.min-firsts_count.ensures c.bounded-few.ensures in
    let ready : IsReady cut = subst IsReady (sym cut-is) (within-ready store) in
    let held : ℕ = c.min-held.result in
    let few-held : held ≤ window_bound = omega (arith, c.min-held.ensures, ready.few_letters) in
    let a = c.args in
    let key = a.key.now in
    let fewer = c.min-held in
    let put = c.add_letter in
    record {
      done = λ fit. subst (λ K. Continues K key a.letter a.prepared.now a.fresh.now put.new.window c.finish.new.fresh c.finish.result) cut-is
          (record {
            put = added-within ready.few_streams few-held (omega (arith, room.1)) put.ensures ∙ ap (λ n. with_letter_after cut.streams a.letter_values.now n a.letter a.prepared.now) fewer.ensures;
            finished = finished-parts cut key a.letter put.new.window
                (ap (λ n. take ((n + 1) * cut.streams) put.new.window) fewer.ensures)
                (ap (λ n. take n (drop window_room put.new.window)) (part-size window_room firsts_count ∙ sym firsts-left))
                (ap (◌++ (a.letter ∷ [])) (letters-is key room.0 cut.width held fewer.ensures ready.few_letters))
                (firsts-is key room.0 firsts_count firsts-counted.1 ∙ ap (λ n. firsts_in n key) (sym firsts-left))
                c.finish.ensures;
          });
      refused = λ misfit. absurd (misfit room);
    }
