-- Constraints judged by the nodes that are written from their sides' residues, over the newest letter alone, are judged as in the whole window. Which
-- letters a written side has the same value at, and that one constraint that fails is enough.
use Prim.Native.Nat.{ℕ, zero, suc, ◌+◌, ◌-◌, ◌*◌, ◌/◌, ◌≤◌, ◌<◌}
use native.Mathlib.Omega.{arith}
use native.Mathlib.Nat.{add-zero, not-suc-le-zero, div-eq_of_eq-mul_left}
use mathlib.Core.Path.{◌≡◌, refl, sym, ◌∙◌, ap, subst}
use mathlib.Core.Bool.{Bool, true, false, cond, ◌||◌}
use mathlib.Core.List.{List, [], ◌∷◌, map}
use lib.Dec.{leb, eqb}
use lib.IntN.{ℤ, pos}
use lib.ListN.{length, get_or, drop, length-append, length-drop, get_or-append}
use lib.Seq.{length-take-le}
use borrow.Author.Tests.{le-leb, lt-ltb}
use Rattle.std.specs.Prelude.{Option, Some, None, is_some}
use Rattle.meaning.specs.Value.{Value, truth}
use Rattle.meaning.specs.Expression.{holds}
use Rattle.nodes.specs.Bounded.{value_in}
use Rattle.nodes.specs.Code.{sign_at}
use Rattle.nodes.specs.Evaluate.{Nodes, has_node, View, view, places, node_value}
use Rattle.evaluate.proofs.Recursion.{HasArrays}
use Rattle.sides.specs.Mark.{odd}
use Rattle.prepare.specs.Key.{lowered, size_in, letters_in, firsts_in, marks_in}
use Rattle.prepare.specs.Prepared.{letter_at, window_of}
use Rattle.prepare.proofs.KeyLists.{window_of-snoc, window_of-long}
use Rattle.extend.specs.Step.{Store, unlawful, with_digit, until_permitted, until_done, sign_holds, judged_from, view_after, letters_after, judged_in, judged_after, IsReady, IsKey, HasValues}
use Rattle.extend.proofs.StepLaws.{after-values}
use Rattle.residue.specs.Residue.{tree_of, tree_level, with_letter, letter_view}
use Rattle.residue.proofs.Residue.{Awaits, node_residue_value, tree_agree}
use Rattle.residue.proofs.Written.{written_node}
use Rattle.residue.proofs.Size.{length-written}
use Rattle.write_sides.specs.Sides.{side_residue, SideWritten, SidesWritten, sides_within, WritesSides}

-- ---- what is judged depends only on the values of the sides

-- The sides of the constraints from j on, n of them, have the same values.
pub record SameSides (lefts rights new_lefts new_rights : List ℕ) (value new_value : ℕ → Value) (j n : ℕ) : Type 0 where
  pub left : (i : ℕ) → i < j + n → new_value (get_or new_lefts i 0) ≡ value (get_or lefts i 0)
  pub right : (i : ℕ) → i < j + n → new_value (get_or new_rights i 0) ≡ value (get_or rights i 0)

module _ (relations lefts rights new_lefts new_rights : List ℕ) (value new_value : ℕ → Value) where
  pub judged_from_same : (n j marks : ℕ) → SameSides lefts rights new_lefts new_rights value new_value j n
      → judged_from relations new_lefts new_rights new_value j n marks ≡ judged_from relations lefts rights value j n marks
  unfolding judged_from
  judged_from_same zero j marks s = refl
  judged_from_same (suc n) j marks s =
      let later : SameSides lefts rights new_lefts new_rights value new_value (suc j) n = record { left = λ i h. s.left i (omega arith); right = λ i h. s.right i (omega arith) } in
      let l = s.left j (omega arith) in
      let r = s.right j (omega arith) in
      let until_rest = judged_from_same n (suc j) (marks / 2) later in
      let sign_rest = judged_from_same n (suc j) marks later in
      λ i.
      cond (eqb (get_or relations j 0) 7)
      (cond ((odd marks || truth (r i)) || truth (l i)) (with_digit (odd marks || truth (r i)) (until_rest i)) unlawful)
      (cond (holds (sign_at (get_or relations j 0)) (l i) (r i)) (sign_rest i) unlawful)

-- ---- judged by what is written

module _ {N : Nodes} {U : View} {p : ℕ} {M : Nodes} (arrays : HasArrays M) (h : p ≤ places U) where
  -- A written side at the letter alone.
  pub side_evaluates : {end root last : ℕ} → SideWritten N U (places U) p M end root last → end ≤ 1024 → (letter : List ℤ) → Awaits U (places U) letter
      → node_value M (letter_view U.streams letter) last 0 ≡ node_value N (with_letter U letter) root p
  side_evaluates {end} {root} {last} w e letter awaits =
      let t = tree_of (side_residue N U (places U) p root) in
      let here : has_node M last ≡ true =
      simp (lt-ltb last (length M.kinds) (omega (arith, arrays.kinds, w.within)), lt-ltb last (length M.values) (omega (arith, arrays.values, w.within)), lt-ltb last (length M.starts) (omega (arith, arrays.starts, w.within)))
      in
      written_node N U (places U) letter awaits M w.start last root p h here (omega (arith, w.ends, length-written w.start t)) w.holds

  -- The law: judged by the written sides, over the letter alone.
  pub judged_written : {end n : ℕ} (relations lefts rights new_lefts new_rights : List ℕ) → SidesWritten N U (places U) p lefts rights M end n new_lefts new_rights → end ≤ 1024
      → (letter : List ℤ) → Awaits U (places U) letter → (marks : ℕ)
      → judged_from relations new_lefts new_rights (λ node. value_in (node_value M (letter_view U.streams letter) node 0)) 0 n marks
      ≡ judged_from relations lefts rights (λ node. value_in (node_value N (with_letter U letter) node p)) 0 n marks
  judged_written {n = n} relations lefts rights new_lefts new_rights w e letter awaits marks =
      judged_from_same relations lefts rights new_lefts new_rights (λ node. value_in (node_value N (with_letter U letter) node p)) (λ node. value_in (node_value M (letter_view U.streams letter) node 0)) n 0 marks
      (record { left = λ j b. ap value_in (side_evaluates (w.left j (omega arith)) e letter awaits); right = λ j b. ap value_in (side_evaluates (w.right j (omega arith)) e letter awaits) })

  -- Two letters that agree on the streams below l give a written side that reads only those the same value.
  pub side_block : {end root last : ℕ} → SideWritten N U (places U) p M end root last → end ≤ 1024 → (l : ℕ) → tree_level (tree_of (side_residue N U (places U) p root)) ≤ l
      → (x y : List ℤ) → Awaits U (places U) x → Awaits U (places U) y → ((i : ℕ) → i < l → get_or x i (pos 0) ≡ get_or y i (pos 0))
      → node_value M (letter_view U.streams x) last 0 ≡ node_value M (letter_view U.streams y) last 0
  side_block {root = root} w e l level x y ax ay same =
      let t = tree_of (side_residue N U (places U) p root) in
      side_evaluates w e x ax ∙ node_residue_value N U (places U) x ax root p h
      ∙ tree_agree U.streams l x y same t level
      ∙ sym (side_evaluates w e y ay ∙ node_residue_value N U (places U) y ay root p h)

-- ---- one more letter after a key

-- What is known before the letter: the values of the key's letters, and of the firsts.
module _ (K : Store) (key : List ℕ) where
  abbrev pub view_before : View
  view_before = view (window_of K.streams K.letter_values (letters_in K.width key)) K.streams (map lowered (firsts_in (length K.first_nodes) key)) (leb (size_in key) K.width)

  view_after_letter : (a : ℕ) → view_after K key a ≡ with_letter view_before (letter_at K.streams K.letter_values a)
  view_after_letter a =
      ap (λ w. view w K.streams (map lowered (firsts_in (length K.first_nodes) key)) (leb (size_in key) K.width)) (window_of-snoc K.streams K.letter_values (letters_in K.width key) a)

module _ (K : Store) (key : List ℕ) (k : IsKey K key) (ready : IsReady K) (some : 0 < K.streams) where
  abbrev held : ℕ
  held = length (letters_in K.width key)

  awaits_held : (a : ℕ) → HasValues K a → Awaits (view_before K key) held (letter_at K.streams K.letter_values a)
  awaits_held a h =
      record {
        some_stream = some;
        window_long = window_of-long K.streams K.letter_values (letters_in K.width key) values;
        letter_long = length-take-le K.streams (drop (a * K.streams) K.letter_values) (omega (arith, length-drop (a * K.streams) K.letter_values, h.inside, ready.few_streams));
      }
    where
      values : (p : ℕ) → p < held → get_or (letters_in K.width key) p 0 * K.streams + K.streams ≤ length K.letter_values
      values p b =
          let e = get_or-append (letters_in K.width key) (a ∷ []) 0 p b in
          let v = (subst (HasValues K) e (after-values K key a k ready.few_letters h p (omega (arith, length-append (letters_in K.width key) (a ∷ []))))).inside in
          omega (arith, ready.few_streams)

  places_held : (a : ℕ) → HasValues K a → places (view_before K key) ≡ held
  places_held a h = div-eq_of_eq-mul_left some (awaits_held a h).window_long

  -- The key's window awaits a letter.
  pub key_awaits : (a : ℕ) → HasValues K a → Awaits (view_before K key) (places (view_before K key)) (letter_at K.streams K.letter_values a)
  key_awaits a h = subst (λ n. Awaits (view_before K key) n (letter_at K.streams K.letter_values a)) (sym (places_held a h)) (awaits_held a h)

  -- The law: the constraints are judged by the residues of their sides at the time that is newly judged, for every letter.
  pub judged_after_written : {M : Nodes} {new_lefts new_rights : List ℕ} → HasArrays M
      → SidesWritten K.nodes (view_before K key) (places (view_before K key)) (held - K.ahead) K.lefts K.rights M 1024 (length K.relations) new_lefts new_rights
      → K.ahead ≤ held → (a : ℕ) → HasValues K a
      → judged_from K.relations new_lefts new_rights (λ node. value_in (node_value M (letter_view K.streams (letter_at K.streams K.letter_values a)) node 0)) 0 (length K.relations) (marks_in key)
      ≡ judged_after K key a
  unfolding judged_after
  judged_after_written {new_lefts = new_lefts} {new_rights = new_rights} arrays w judged a h =
      let long : length (letters_after K key a) - 1 ≡ held = omega (arith, length-append (letters_in K.width key) (a ∷ [])) in
      let b : held - K.ahead ≤ places (view_before K key) = omega (arith, places_held a h) in
      judged_written arrays b K.relations K.lefts K.rights new_lefts new_rights w (omega arith) (letter_at K.streams K.letter_values a) (key_awaits a h) (marks_in key)
      ∙ sym
      (ap (λ n. judged_in K (view_after K key a) n (marks_in key)) long
      ∙ ap (λ W. judged_in K W held (marks_in key)) (view_after_letter K key a)
      ∙ simp (le-leb K.ahead held judged))

  -- The same from what `write_sides` promises, over what is prepared for the key.
  pub judged_after_sides : {M : Nodes} {new_lefts new_rights : List ℕ} → WritesSides K.nodes (view_before K key) (held - K.ahead) K.lefts K.rights M new_lefts new_rights true
      → K.ahead ≤ held → (a : ℕ) → HasValues K a
      → judged_from K.relations new_lefts new_rights (λ node. value_in (node_value M (letter_view K.streams (letter_at K.streams K.letter_values a)) node 0)) 0 (length K.relations) (marks_in key)
      ≡ judged_after K key a
  judged_after_sides {M} {new_lefts} {new_rights} w judged a h =
      let n : sides_within K.lefts K.rights ≡ length K.relations = omega (arith, ready.lefts_long, ready.rights_long, ready.few_constraints) in
      judged_after_written w.arrays
      (subst (λ k. SidesWritten K.nodes (view_before K key) (places (view_before K key)) (held - K.ahead) K.lefts K.rights M 1024 k new_lefts new_rights) n (w.sides refl)) judged a h

-- ---- a constraint that fails

fails-here : {a c : Bool} (x y : Option ℕ) → a ≡ false → c ≡ false → is_some (cond a x (cond c y unlawful)) ≡ false
fails-here {a} {c} x y p q = ap (λ a. is_some (cond a x (cond c y unlawful))) p ∙ ap (λ c. is_some (cond c y unlawful)) q

fails-digit : (d : Bool) (x : Option ℕ) → is_some x ≡ false → is_some (with_digit d x) ≡ false
fails-digit d None h = refl
fails-digit d (Some marks) h = h

fails-later : (a b c d : Bool) (x y : Option ℕ) → is_some x ≡ false → is_some y ≡ false → is_some (cond a (cond b (with_digit d x) unlawful) (cond c y unlawful)) ≡ false
fails-later true true c d x y h k = fails-digit d x h
fails-later true false c d x y h k = refl
fails-later false b true d x y h k = k
fails-later false b false d x y h k = refl

-- A constraint that fails, whichever it is, makes the letter unlawful: one that reads only the first streams refuses a whole block.
module _ (relations lefts rights : List ℕ) (value : ℕ → Value) where
  pub judged_from-fails : (n j marks i : ℕ) → i < n → eqb (get_or relations (j + i) 0) 7 ≡ false → sign_holds relations lefts rights value (j + i) ≡ false
      → is_some (judged_from relations lefts rights value j n marks) ≡ false
  unfolding judged_from
  judged_from-fails zero j marks i h r f = absurd (not-suc-le-zero h)
  judged_from-fails (suc n) j marks zero h r f =
      let r' = subst (λ x. eqb (get_or relations x 0) 7 ≡ false) (add-zero j) r in
      let f' = subst (λ x. sign_holds relations lefts rights value x ≡ false) (add-zero j) f in
      fails-here
      (cond (until_permitted relations lefts rights value j marks) (with_digit (until_done relations lefts rights value j marks) (judged_from relations lefts rights value (suc j) n (marks / 2))) unlawful)
      (judged_from relations lefts rights value (suc j) n marks) r' f'
  judged_from-fails (suc n) j marks (suc i) h r f =
      let e : j + suc i ≡ suc j + i = omega arith in
      let r' = subst (λ x. eqb (get_or relations x 0) 7 ≡ false) e r in
      let f' = subst (λ x. sign_holds relations lefts rights value x ≡ false) e f in
      fails-later (eqb (get_or relations j 0) 7) (until_permitted relations lefts rights value j marks) (sign_holds relations lefts rights value j) (until_done relations lefts rights value j marks)
      (judged_from relations lefts rights value (suc j) n (marks / 2)) (judged_from relations lefts rights value (suc j) n marks)
      (judged_from-fails n (suc j) (marks / 2) i (omega arith) r' f') (judged_from-fails n (suc j) marks i (omega arith) r' f')
