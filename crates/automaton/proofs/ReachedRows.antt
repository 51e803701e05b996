-- From reached keys to the things that they stand for: the rows of a search are the things, counted exactly, or there are more than the limit;
-- the rows make a graph, whose language from the first row is that of the lawful records. From explored graphs.
use Prim.Native.Nat.{ℕ, zero, suc, ◌≤◌, ◌<◌}
use native.Mathlib.Omega.{arith}
use native.Mathlib.Decide.{dec_lt}
use mathlib.Core.Path.{◌≡◌, refl, sym, ◌∙◌, ap, subst}
use mathlib.Core.Bool.{Bool, true, false, cond}
use mathlib.Core.Logic.{◌↔◌, ◌⊎◌, inl, inr}
use mathlib.Core.List.{List, [], ◌∷◌, ◌++◌, append-nil}
use lib.Dec.{T, eqb}
use lib.Seq.{append_snoc}
use Rattle.basics.proofs.Count.{InRows, rows_count, rows_more}
use Rattle.basics.specs.Count.{CountOf, MoreThan}
use Rattle.automaton.specs.Words.{AllBelow}
use Rattle.automaton.specs.Solutions.{SameSolutions, ByPrefixes}
use Rattle.automaton.specs.Table.{no_state}
use Rattle.automaton.specs.Graph.{Graph, Language}
use Rattle.automaton.specs.Situations.{IsCongruence, IsExplored}
use Rattle.automaton.specs.Reachable.{System, Reach, Reach.start, Reach.step, IsRow, IsRow.no_row, IsRow.row, SearchedKeys, FlagStays, key_along, GoesFrom, KeyFollowed, Flagged, SameKey}
use Rattle.automaton.specs.ReachedRows.{IsThing, IsThingRow, IsThingRow.no_row, IsThingRow.row, RowsOf, Marks, KeysStand}
use Rattle.automaton.proofs.Situations.{explored_solutions}
use Rattle.automaton.proofs.Reachable.{reached-row}

pub below-snoc : (k : ℕ) (r : List ℕ) (a : ℕ) → AllBelow k r → a < k → AllBelow k (r ++ (a ∷ []))
below-snoc k [] a h l = (l, tt)
below-snoc k (b ∷ r) a h l = (h.0, below-snoc k r a h.1 l)

pub true_false : {b : Bool} → b ≡ true → b ≡ false → ⊥
true_false e f = let z : ◌≡◌ {A = Bool} true false = sym e ∙ f in let u : ◌≡◌ {A = ℕ} 0 1 = cc in omega arith

-- ---- reached keys are the keys of lawful records

module _ {S : System} {lawful : List ℕ → Type 0} {key_of : List ℕ → S.Key} {X : Type 0} {thing : List ℕ → X} {done : X → Bool} (R : KeysStand S lawful key_of thing done) where
  -- a lawful record whose key it is
  record Shows (x : S.Key) : Type 0 where
    shown : List ℕ
    letters : AllBelow S.letters shown
    is_lawful : lawful shown
    key_is : key_of shown ≡ x

  reach-shows : {x : S.Key} → Reach S x → Shows x
  reach-shows start = record { shown = []; letters = tt; is_lawful = R.start_lawful; key_is = R.empty }
  reach-shows (step {x} a l h g) =
      let w = reach-shows h in
      let more = (R.allows w.shown w.letters w.is_lawful a l).0 (ap (λ k. S.ok k a) w.key_is ∙ g) in
      record {
        shown = w.shown ++ (a ∷ []);
        letters = below-snoc S.letters w.shown a w.letters l;
        is_lawful = more;
        key_is = sym (R.leads w.shown w.letters w.is_lawful a l more) ∙ ap (λ k. S.after k a) w.key_is;
      }

  beginnings : (u r : List ℕ) → lawful (r ++ u) → lawful r
  beginnings [] r h = rw append-nil at h
  beginnings (a ∷ u) r h = R.beginning r a (beginnings u (r ++ (a ∷ [])) (rw append_snoc h))

  reach-from : (u r : List ℕ) → AllBelow S.letters r → AllBelow S.letters u → lawful (r ++ u) → Reach S (key_of r) → Reach S (key_of (r ++ u))
  reach-from [] r h g l p = rw append-nil p
  reach-from (a ∷ u) r h g l p =
      let l' : lawful ((r ++ (a ∷ [])) ++ u) = rw append_snoc l in
      let more = beginnings u (r ++ (a ∷ [])) l' in
      let here = R.beginning r a more in
      let q = subst (Reach S) (R.leads r h here a g.0 more) (step a g.0 p ((R.allows r h here a g.0).1 more)) in
      rw append_snoc at (reach-from u (r ++ (a ∷ [])) (below-snoc S.letters r a h g.0) g.1 l' q)

  pub lawful-reached : (r : List ℕ) → AllBelow S.letters r → lawful r → Reach S (key_of r)
  lawful-reached r h l = reach-from r [] tt h l (subst (Reach S) (sym R.empty) start)

  module _ {limit : ℕ} {key : ℕ → S.Key} {entry : ℕ → ℕ → ℕ} {byte : ℕ → ℕ} {full : Bool} {n : ℕ} (z : SearchedKeys S limit key entry byte full n) where
    -- the record of a row; that of the first row is the empty one
    pick : (i : ℕ) → Dec (i < n) → List ℕ
    pick zero d = []
    pick (suc i) (yes h) = (reach-shows (z.known.reached (suc i) h)).shown
    pick (suc i) (no h) = []

    pick_shows : (i : ℕ) → i < n → (d : Dec (i < n)) → (AllBelow S.letters (pick i d)) × lawful (pick i d) × (key_of (pick i d) ≡ key i)
    unfolding pick
    pick_shows zero h d = (tt, R.start_lawful, R.empty ∙ sym z.known.first)
    pick_shows (suc i) h (yes d) = let x = reach-shows (z.known.reached (suc i) d) in (x.letters, x.is_lawful, x.key_is)
    pick_shows (suc i) h (no d) = absurd (d h)

    shown : ℕ → List ℕ
    shown i = pick i (dec_lt i n)

    shown-shows : (i : ℕ) → i < n → (AllBelow S.letters (shown i)) × lawful (shown i) × (key_of (shown i) ≡ key i)
    unfolding shown
    shown-shows i h = pick_shows i h (dec_lt i n)

    start-shown : shown 0 ≡ []
    unfolding shown pick
    start-shown = refl

    things_key : (i j : ℕ) → i < n → j < n → thing (shown i) ≡ thing (shown j) → key i ≡ key j
    things_key i j h k e =
        let x = shown-shows i h in
        let y = shown-shows j k in
        sym x.2 ∙ R.thing_key (shown i) (shown j) x.0 y.0 x.1 y.1 e ∙ y.2

    things_differ : (i j : ℕ) → i < j → j < n → thing (shown i) ≡ thing (shown j) → ⊥
    things_differ i j h k e = z.known.distinct i j h k (things_key i j (omega arith) k e)

    things_distinct : (i j : ℕ) → i < n → j < n → thing (shown i) ≡ thing (shown j) → i ≡ j
    things_distinct i j h k e = by (dec_lt i j) (dec_lt j i)
      where
        by : Dec (i < j) → Dec (j < i) → i ≡ j
        by (yes l) d = absurd (things_differ i j l k e)
        by (no l) (yes m) = absurd (things_differ j i m h (sym e))
        by (no l) (no m) = omega arith

    in_rows : InRows (IsThing S.letters lawful thing) (λ i. thing (shown i)) n
    in_rows = record { distinct = things_differ; holds = λ i h. let x = shown-shows i h in record { shown = shown i; letters = x.0; is_lawful = x.1; same = refl } }

    thing_row : (i a v : ℕ) → i < n → a < S.letters → IsRow S key n (key i) a v → IsThingRow S.letters lawful thing n shown (shown i ++ (a ∷ [])) v
    thing_row i a v h l (no_row e g) =
        let x = shown-shows i h in no_row e (λ w. true_false (ap (λ k. S.ok k a) (sym x.2) ∙ (R.allows (shown i) x.0 x.1 a l).1 w) g)
    thing_row i a v h l (row b g e) =
        let x = shown-shows i h in
        let y = shown-shows v b in
        let more = (R.allows (shown i) x.0 x.1 a l).0 (ap (λ k. S.ok k a) x.2 ∙ g) in
        row b more (R.key_thing (shown i ++ (a ∷ [])) (shown v) (below-snoc S.letters (shown i) a x.0 l) y.0 more y.1
        (sym (R.leads (shown i) x.0 x.1 a l more) ∙ ap (λ k. S.after k a) x.2 ∙ sym e ∙ sym y.2))

  module _ {limit : ℕ} {key : ℕ → S.Key} {entry : ℕ → ℕ → ℕ} {byte : ℕ → ℕ} {n : ℕ} where
    -- The rows stand for the things, each once.
    pub searched-rows : SearchedKeys S limit key entry byte false n → RowsOf S.letters lawful thing done n entry byte
    searched-rows z =
        record {
          shown = shown z;
          some_row = z.known.some_row;
          start = start-shown z;
          letters = λ i h. (shown-shows z i h).0;
          is_lawful = λ i h. (shown-shows z i h).1;
          distinct = things_distinct z;
          entries = λ i a h l. thing_row z i a (entry i a) h l (z.outcome i a h l);
          flag = λ i h. let x = shown-shows z i h in z.known.flagged i h ∙ ap (λ b. cond b 1 0) (ap S.flag (sym x.2) ∙ R.flagged (shown z i) x.0 x.1);
          first_met = z.first_met;
        }

    -- n is the number of the things.
    pub searched_things : SearchedKeys S limit key entry byte false n → CountOf (IsThing S.letters lawful thing) n
    searched_things z =
        rows_count (in_rows z) (λ x p.
        let o = reached-row S z (lawful-reached p.shown p.letters p.is_lawful) in
        let y = shown-shows z o.0 o.1 in
        (o.0, o.1, R.key_thing (shown z o.0) p.shown y.0 p.letters y.1 p.is_lawful (y.2 ∙ o.2) ∙ p.same))

    -- Where rows run out, there are more things than the limit.
    pub searched-more_things : SearchedKeys S limit key entry byte true n → MoreThan (IsThing S.letters lawful thing) limit
    searched-more_things z =
        let w = reach-shows z.outcome.reached in
        subst (MoreThan (IsThing S.letters lawful thing)) z.outcome.full
        (rows_more (in_rows z) (thing w.shown) (record { shown = w.shown; letters = w.letters; is_lawful = w.is_lawful; same = refl })
        (λ i h e.
        let y = shown-shows z i h in
        z.outcome.new i h (sym y.2 ∙ R.thing_key (shown z i) w.shown y.0 w.letters y.1 w.is_lawful e ∙ w.key_is)))

-- ---- the graph of the rows

byte_one : (b : Bool) (v : ℕ) → v ≡ cond b 1 0 → eqb v 1 ≡ b
byte_one true v e = ap (λ x. eqb x 1) e
byte_one false v e = ap (λ x. eqb x 1) e

byte-bit : (b : Bool) (v : ℕ) → v ≡ cond b 1 0 → v ≤ 1
byte-bit true v e = omega arith
byte-bit false v e = omega arith

module _ {k : ℕ} {lawful : List ℕ → Type 0} {X : Type 0} {thing : List ℕ → X} {done : X → Bool} {n : ℕ} {entry : ℕ → ℕ → ℕ} {byte : ℕ → ℕ} (x : RowsOf k lawful thing done n entry byte) where
  pub rows-targets : (i a : ℕ) → i < n → a < k → (entry i a ≡ no_state) ⊎ (entry i a < n)
  rows-targets i a h l = by (x.entries i a h l)
    where
      by : {r : List ℕ} {v : ℕ} → IsThingRow k lawful thing n x.shown r v → (v ≡ no_state) ⊎ (v < n)
      by (no_row e f) = inl e
      by (row b f e) = inr b

  pub rows-bits : (i : ℕ) → i < n → byte i ≤ 1
  rows-bits i h = byte-bit (done (thing (x.shown i))) (byte i) (x.flag i h)

  -- the same rows, where the same records are lawful
  pub rows-lawful : {lawful' : List ℕ → Type 0} → ((r : List ℕ) → lawful r ↔ lawful' r) → RowsOf k lawful' thing done n entry byte
  rows-lawful {lawful'} same =
      record {
        shown = x.shown;
        some_row = x.some_row;
        start = x.start;
        letters = x.letters;
        is_lawful = λ i h. (same (x.shown i)).0 (x.is_lawful i h);
        distinct = x.distinct;
        entries = λ i a h l. by (x.entries i a h l);
        flag = x.flag;
        first_met = x.first_met;
      }
    where
      by : {r : List ℕ} {v : ℕ} → IsThingRow k lawful thing n x.shown r v → IsThingRow k lawful' thing n x.shown r v
      by {r} (no_row e f) = no_row e (λ w. f ((same r).1 w))
      by {r} (row b f e) = row b ((same r).0 f) e

module _ {k : ℕ} {lawful : List ℕ → Type 0} {X : Type 0} {thing : List ℕ → X} {done : X → Bool} {is_done : List ℕ → Type 0} {alike : List ℕ → List ℕ → Type 0} {n : ℕ} {entry : ℕ → ℕ → ℕ} {byte : ℕ → ℕ}
    (M : Marks k lawful thing done is_done alike) (x : RowsOf k lawful thing done n entry byte) (room : n ≤ no_state) where
  flag_is : (i : ℕ) → i < n → eqb (byte i) 1 ≡ done (thing (x.shown i))
  flag_is i h = byte_one _ (byte i) (x.flag i h)

  edge : (i a : ℕ) → i < n → a < k → entry i a < n → lawful (x.shown i ++ (a ∷ [])) × (thing (x.shown i ++ (a ∷ [])) ≡ thing (x.shown (entry i a)))
  edge i a h l g = by (x.entries i a h l)
    where
      by : IsThingRow k lawful thing n x.shown (x.shown i ++ (a ∷ [])) (entry i a) → lawful (x.shown i ++ (a ∷ [])) × (thing (x.shown i ++ (a ∷ [])) ≡ thing (x.shown (entry i a)))
      by (no_row e f) = absurd (omega arith)
      by (row b f e) = (f, e)

  pub flags-stay : (i a : ℕ) → i < n → a < k → entry i a < n → T (eqb (byte i) 1) → T (eqb (byte (entry i a)) 1)
  flags-stay i a h l g t =
      let e = edge i a h l g in
      let r = x.shown i in
      let d = (M.done↔done r (x.letters i h) (x.is_lawful i h)).0 (subst T (flag_is i h) t) in
      let d' = M.stays r a (x.letters i h) l (x.is_lawful i h) e.0 d in
      let f = (M.done↔done (r ++ (a ∷ [])) (below-snoc k r a (x.letters i h) l) e.0).1 d' in
      subst T (sym (flag_is (entry i a) g)) (subst (λ y. T (done y)) e.1 f)

  unfoldable pub row-graph : Graph
  row-graph = record { nodes = n; letters = k; successor = entry; done = λ i. eqb (byte i) 1; done_stays = flags-stay }

  pub rows-explored : IsExplored row-graph lawful is_done alike x.shown 0
  unfolding row-graph
  rows-explored =
      record {
        start_inside = x.some_row;
        start_lawful = subst lawful x.start (x.is_lawful 0 x.some_row);
        start_alike = M.same_alike [] (x.shown 0) tt (x.letters 0 x.some_row) (subst lawful x.start (x.is_lawful 0 x.some_row)) (x.is_lawful 0 x.some_row) (ap thing (sym x.start));
        shown_lawful = x.is_lawful;
        edge↔lawful = λ i a h l. (λ g. (edge i a h l g).0, λ w. back w (x.entries i a h l));
        edge_alike = λ i a h l g.
            let e = edge i a h l g in
            M.same_alike (x.shown i ++ (a ∷ [])) (x.shown (entry i a)) (below-snoc k (x.shown i) a (x.letters i h) l) (x.letters (entry i a) g) e.0 (x.is_lawful (entry i a) g) e.1;
        done↔done = λ i h.
            let d = M.done↔done (x.shown i) (x.letters i h) (x.is_lawful i h) in
            (λ t. d.0 (subst T (flag_is i h) t), λ t. subst T (sym (flag_is i h)) (d.1 t));
      }
    where
      back : {r : List ℕ} {v : ℕ} → lawful r → IsThingRow k lawful thing n x.shown r v → v < n
      back w (no_row e f) = absurd (f w)
      back w (row b f e) = b

  -- The graph's language from the first row is that of the lawful records that are done at some time.
  pub rows_language : IsCongruence k lawful is_done alike → SameSolutions k (Language row-graph 0) (ByPrefixes lawful is_done)
  unfolding row-graph
  rows_language C = explored_solutions C rows-explored

-- ---- keys that stand for themselves

module _ (S : System) where
  goes-snoc : (x : S.Key) (r : List ℕ) (a : ℕ) → GoesFrom S x r → S.ok (key_along S x r) a ≡ true → GoesFrom S x (r ++ (a ∷ []))
  goes-snoc x [] a h e = (e, tt)
  goes-snoc x (b ∷ r) a h e = (h.0, goes-snoc (S.after x b) r a h.1 e)

  goes-beginning : (x : S.Key) (r : List ℕ) (a : ℕ) → GoesFrom S x (r ++ (a ∷ [])) → GoesFrom S x r × (S.ok (key_along S x r) a ≡ true)
  goes-beginning x [] a h = (tt, h.0)
  goes-beginning x (b ∷ r) a h = let w = goes-beginning (S.after x b) r a h.1 in ((h.0, w.0), w.1)

  key-snoc : (x : S.Key) (r : List ℕ) (a : ℕ) → S.after (key_along S x r) a ≡ key_along S x (r ++ (a ∷ []))
  key-snoc x [] a = refl
  key-snoc x (b ∷ r) a = key-snoc (S.after x b) r a

  pub keys_read : KeysStand S (KeyFollowed S) (key_along S S.start) (key_along S S.start) S.flag
  keys_read =
      record {
        start_lawful = record { goes = tt };
        beginning = λ r a h. record { goes = (goes-beginning S.start r a h.goes).0 };
        empty = refl;
        allows = λ r h l a b. (λ e. record { goes = goes-snoc S.start r a l.goes e }, λ w. (goes-beginning S.start r a w.goes).1);
        leads = λ r h l a b w. key-snoc S.start r a;
        key_thing = λ r t h g l m e. e;
        thing_key = λ r t h g l m e. e;
        flagged = λ r h l. refl;
      }

  -- Records that lead to one key go on alike.
  pub keys_congruence : IsCongruence S.letters (KeyFollowed S) (Flagged S) (SameKey S)
  keys_congruence =
      record {
        symmetric = λ r s e. record { same = sym e.same };
        transitive = λ r s u e f. record { same = e.same ∙ f.same };
        lawful_extend = λ r s a h e l m w. record { goes = goes-snoc S.start s a m.goes (ap (λ x. S.ok x a) (sym e.same) ∙ (goes-beginning S.start r a w.goes).1) };
        alike_extend = λ r s a h e l m. record { same = sym (key-snoc S.start r a) ∙ ap (λ x. S.after x a) e.same ∙ key-snoc S.start s a };
        done_alike = λ r s e l m d. record { is_flagged = subst (λ x. T (S.flag x)) e.same d.is_flagged };
      }

  pub keys-marks : FlagStays S → Marks S.letters (KeyFollowed S) (key_along S S.start) S.flag (Flagged S) (SameKey S)
  keys-marks f =
      record {
        same_alike = λ r t h g l m e. record { same = e };
        done↔done = λ r h l. (λ d. record { is_flagged = d }, λ d. d.is_flagged);
        stays = λ r a h b l m d.
            record {
              is_flagged = subst (λ x. T (S.flag x)) (key-snoc S.start r a)
                  (f.stays (key_along S S.start r) (lawful-reached keys_read r h l) a b (goes-beginning S.start r a m.goes).1 d.is_flagged);
            };
      }

  module _ (f : FlagStays S) {limit : ℕ} {key : ℕ → S.Key} {entry : ℕ → ℕ → ℕ} {byte : ℕ → ℕ} {n : ℕ} (z : SearchedKeys S limit key entry byte false n) (room : n ≤ no_state) where
    unfoldable pub searched-graph : Graph
    searched-graph = row-graph (keys-marks f) (searched-rows keys_read z) room

    -- The language of the rows' graph: the words that can be followed from the start for ever, and reach a key with the flag.
    pub searched_language : SameSolutions S.letters (Language searched-graph 0) (ByPrefixes (KeyFollowed S) (Flagged S))
    unfolding searched-graph
    searched_language = rows_language (keys-marks f) (searched-rows keys_read z) room keys_congruence
