-- The laws of keys for an accepted sheet and its stored form: one more letter leads from the key of a lawful record to that of the longer record,
-- keys are equal exactly if situations are, and a key tells whether every until is done. So what the search leaves in the tables is the
-- exploration of the sheet. From the constraints as they are judged (KeyStep) and the parts of a key (KeyDecoding).
use Prim.Native.Nat.{ℕ, suc, ◌+◌, ◌-◌, ◌≤◌, ◌<◌}
use native.Mathlib.Omega.{arith}
use native.Mathlib.Decide.{dec_lt}
use mathlib.Core.Path.{◌≡◌, refl, sym, ◌∙◌, ap, ap₂, subst}
use mathlib.Core.Bool.{Bool, true, false, cond}
use mathlib.Core.List.{List, [], ◌∷◌, ◌++◌, map, map-append, map-map}
use lib.Dec.{ltb}
use lib.IntN.{ℤ}
use lib.ListN.{length, drop, length-map, length-drop}
use lib.Seq.{drop-append-le, drop-drop}
use borrow.Author.Tests.{le-leb, lt-leb, lt-ltb, le-ltb}
use Rattle.std.specs.Prelude.{is_some, unwrap_or}
use Rattle.automaton.specs.Words.{AllBelow}
use Rattle.automaton.proofs.ReachedRows.{below-snoc}
use Rattle.meaning.specs.Expression.{Constraint, Stream, Sheet, value}
use Rattle.meaning.specs.Letter.{Record, letter_of, record_of, streams_of}
use Rattle.meaning.specs.Window.{all_firsts, all_untils}
use Rattle.meaning.specs.Situation.{first_values, until_marks}
use Rattle.meaning.proofs.Facts.{length-snoc}
use Rattle.meaning.proofs.Lawful.{first_values-append}
use Rattle.sheet.specs.Accepted.{Accepted}
use Rattle.nodes.specs.Postfix.{Node}
use Rattle.nodes.specs.Bounded.{value_in}
use Rattle.nodes.specs.Evaluate.{View, node_value}
use Rattle.prepare.specs.Key.{encoded_key, raised, marks_number, size_in, firsts_in, width, key_of}
use Rattle.extend.specs.Step.{Store, unlawful, lawful_with, view_after, letters_after, firsts_from, judged_after, key_after}
use Rattle.explore.specs.Search.{every_mark, Searched}
use Rattle.explore.specs.Rows.{is_lawful, letter_numbers, ExploreOutcome}
use Rattle.nodes.specs.FirstPlaces.{all_first_places}
use Rattle.explore.specs.StoredSheet.{store_for, HasLetters, IsStored}
use Rattle.explore.proofs.KeySituations.{key-whole, key-cut, key_situation, situation_key}
use Rattle.explore.proofs.KeyMarks.{ones, every_mark_ones, key-flag, key-empty}
use Rattle.explore.proofs.KeyDecoding.{key-size, key-firsts, after_letters, view-whole}
use Rattle.explore.proofs.KeyStep.{judged-after}
use Rattle.explore.proofs.StoredSides.{stored-relations}
use Rattle.explore.proofs.StoredFirsts.{firsts-bounded}
use Rattle.explore.proofs.StoredFirstNodes.{first-nodes}
use Rattle.explore.proofs.RowLaws.{KeyLaws, searched_outcome, below-letters}

answer_ok : (b : Bool) (m : ℕ) → is_some (cond b (lawful_with m) unlawful) ≡ b
answer_ok true m = refl
answer_ok false m = refl

-- ---- one more letter

module _ (s : Sheet) (accepted : Accepted s) (behind : List Node) (values : List ℤ) (has : HasLetters s values)
    (r : List ℕ) (a : ℕ) (below : AllBelow (letter_numbers s) r) (here : a < letter_numbers s) (kept : is_lawful s r ≡ true) where
  abbrev ss : List Stream
  ss = s.streams

  abbrev cs : List Constraint
  cs = s.constraints

  abbrev w : ℕ
  w = width s

  abbrev K : Store
  K = store_for s behind values

  abbrev key : List ℕ
  key = key_of s r

  abbrev more : List ℕ
  more = r ++ (a ∷ [])

  abbrev longer : Record
  longer = record_of ss more

  abbrev W : View
  W = view_after K key a

  abbrev numbers : List ℕ
  numbers = firsts_in (length (all_first_places 0 cs)) key

  pub key-allows : is_some (judged_after K key a) ≡ is_lawful s more
  key-allows = ap is_some (judged-after s accepted behind values has r a below here kept) ∙ answer_ok (is_lawful s more) (marks_number (until_marks cs longer))

  module _ (more-lawful : is_lawful s more ≡ true) where
    new-marks : unwrap_or (judged_after K key a) 0 ≡ marks_number (until_marks cs longer)
    new-marks =
        ap (λ x. unwrap_or x 0) (judged-after s accepted behind values has r a below here kept)
        ∙ ap (λ b. unwrap_or (cond b (lawful_with (marks_number (until_marks cs longer))) unlawful) 0) more-lawful

    -- The new key, from its letters and the numbers of its firsts.
    new-key : (letters firsts : List ℕ) → letters_after K key a ≡ letters → firsts_from K W (size_in key) numbers ≡ firsts
        → key_after K key a ≡ encoded_key (length letters) (drop (length letters - w) letters) firsts (marks_number (until_marks cs longer))
    unfolding key_after judged_after
    new-key letters firsts l f = λ i. encoded_key (length (l i)) (drop (length (l i) - w) (l i)) (f i) (new-marks i)

    whole-letters : length r ≤ w → letters_after K key a ≡ more
    whole-letters h = let e : length r - w ≡ 0 = omega arith in after_letters s accepted behind values has r a below here ∙ ap (λ n. drop n r ++ (a ∷ [])) e

    leads-whole : length r < w → key_after K key a ≡ key_of s more
    leads-whole h =
        let size = key-size s accepted behind values has r in
        let none : firsts_from K W (size_in key) numbers ≡ [] =
        (λ i. cond (le-leb (size_in key) w (omega (arith, size)) i) (cond (lt-ltb (size_in key) w (omega (arith, size)) i) [] (map (λ node. raised (value_in (node_value K.nodes W node 0))) K.first_nodes)) numbers) in
        let e : length more - w ≡ 0 = omega (arith, length-snoc r a) in
        new-key more [] (whole-letters (omega arith)) none
        ∙ ap (λ n. encoded_key (length more) (drop n more) [] (marks_number (until_marks cs longer))) e
        ∙ sym (key-whole s more (omega (arith, length-snoc r a)))

    leads-first : length r ≡ w → key_after K key a ≡ key_of s more
    unfolding first_values
    leads-first h =
        let size = key-size s accepted behind values has r in
        let long : length longer ≡ suc (length r) = length-map more (letter_of ss) ∙ length-snoc r a in
        let stored : firsts_from K W (size_in key) numbers ≡ map raised (first_values cs longer) =
        (λ i. cond (le-leb (size_in key) w (omega (arith, size)) i) (cond (le-ltb (size_in key) w (omega (arith, size)) i) [] (map (λ node. raised (value_in (node_value K.nodes (view-whole s accepted behind values has r a below here (omega arith) i) node 0))) K.first_nodes)) numbers)
        ∙ first-nodes s accepted longer (below-letters ss more (below-snoc (letter_numbers s) r a below here)) (omega (arith, long)) behind W.firsts raised
        ∙ sym (map-map raised (λ e. value (streams_of longer) e 0) (all_firsts cs)) in
        let e : length more ≡ suc w = omega (arith, length-snoc r a) in
        new-key more (map raised (first_values cs longer)) (whole-letters (omega arith)) stored
        ∙ ap (λ n. encoded_key n (drop (length more - w) more) (map raised (first_values cs longer)) (marks_number (until_marks cs longer))) e
        ∙ sym (key-cut s more (omega (arith, length-snoc r a)))

    leads-cut : w < length r → key_after K key a ≡ key_of s more
    leads-cut h =
        let size = key-size s accepted behind values has r in
        let recent = drop (length r - w) r in
        let kept : firsts_from K W (size_in key) numbers ≡ map raised (first_values cs longer) =
        (λ i. cond (lt-leb (size_in key) w (omega (arith, size)) i) (cond (ltb (size_in key) w) [] (map (λ node. raised (value_in (node_value K.nodes W node 0))) K.first_nodes)) numbers)
        ∙ key-firsts s accepted behind values has r h
        ∙ ap (map raised) (sym (first_values-append cs (record_of ss r) (letter_of ss a ∷ []) (omega (arith, length-map r (letter_of ss)))) ∙ ap (first_values cs) (sym (map-append (letter_of ss) r (a ∷ [])))) in
        let long : length (recent ++ (a ∷ [])) ≡ suc w = omega (arith, length-snoc recent a, length-drop (length r - w) r) in
        let one : length (recent ++ (a ∷ [])) - w ≡ 1 = omega arith in
        let back : length r - w + 1 ≡ length more - w = omega (arith, length-snoc r a) in
        let letters : drop (length (recent ++ (a ∷ [])) - w) (recent ++ (a ∷ [])) ≡ drop (length more - w) more =
        ap₂ drop one (sym (drop-append-le (length r - w) r (a ∷ []) (omega arith))) ∙ drop-drop 1 (length r - w) more ∙ ap (λ n. drop n more) back in
        new-key (recent ++ (a ∷ [])) (map raised (first_values cs longer)) (after_letters s accepted behind values has r a below here) kept
        ∙ (λ i. encoded_key (long i) (letters i) (map raised (first_values cs longer)) (marks_number (until_marks cs longer)))
        ∙ sym (key-cut s more (omega (arith, length-snoc r a)))

    pub key-leads : key_after K key a ≡ key_of s more
    key-leads = by (dec_lt (length r) w) (dec_lt w (length r))
      where
        by : Dec (length r < w) → Dec (w < length r) → key_after K key a ≡ key_of s more
        by (yes h) d = leads-whole h
        by (no h) (yes k) = leads-cut k
        by (no h) (no k) = leads-first (omega arith)

-- ---- the laws of keys

every-mark : (s : Sheet) → every_mark 0 (store_for s [] []).relations ≡ ones (length (all_untils s.constraints))
unfolding ones
every-mark s =
    let e : 0 + length (all_untils s.constraints) ≡ length (all_untils s.constraints) = omega arith in
    ap (every_mark 0) (stored-relations 0 0 s.constraints) ∙ every_mark_ones s.constraints 0 ∙ ap ones e

module _ {s : Sheet} (accepted : Accepted s) where
  sheet_laws : (behind : List Node) (values : List ℤ) → HasLetters s values → KeyLaws s (store_for s behind values) (every_mark 0 (store_for s behind values).relations)
  sheet_laws behind values has =
      record {
        empty = key-empty s;
        allows = λ r h l a b. key-allows s accepted behind values has r a h b l;
        leads = λ r h l a b m. key-leads s accepted behind values has r a h b l m;
        key_situation = key_situation s accepted.window accepted.firsts (firsts-bounded s accepted);
        situation_key = situation_key s;
        flagged = λ r h. key-flag s (every_mark 0 (store_for s behind values).relations) (every-mark s) r;
      }

  pub key_laws : {K : Store} → IsStored s K → KeyLaws s K (every_mark 0 K.relations)
  key_laws {K} k = subst (λ x. KeyLaws s x (every_mark 0 x.relations)) (sym k.same) (sheet_laws k.behind K.letter_values k.letters)

  -- What the search leaves is the exploration of the sheet.
  pub stored-outcome : {K : Store} {limit n : ℕ} {keys entries flags : List ℕ} → IsStored s K → (full : Bool)
      → Searched K (letter_numbers s) limit (every_mark 0 K.relations) keys entries flags full n → ExploreOutcome s full limit n entries flags
  stored-outcome {K} k full z = searched_outcome s K (every_mark 0 K.relations) (key_laws k) full z

-- ---- lists that are a stored sheet

-- A store is the stored form of a sheet if each of its parts is that part of it.
pub parts-stored : (s : Sheet) (behind : List Node) (K : Store) → (K.nodes ≡ (store_for s behind []).nodes) → (K.relations ≡ (store_for s behind []).relations) → (K.lefts ≡ (store_for s behind []).lefts) → (K.rights ≡ (store_for s behind []).rights)
    → (K.first_nodes ≡ (store_for s behind []).first_nodes) → (K.streams ≡ (store_for s behind []).streams) → (K.ahead ≡ (store_for s behind []).ahead) → (K.width ≡ (store_for s behind []).width) → HasLetters s K.letter_values → IsStored s K
parts-stored s behind K nodes relations lefts rights first_nodes streams ahead width letters =
    record {
      behind = behind;
      same = λ i. record { nodes = nodes i; relations = relations i; lefts = lefts i; rights = rights i; first_nodes = first_nodes i; letter_values = K.letter_values; streams = streams i; ahead = ahead i; width = width i };
      letters = letters;
    }
