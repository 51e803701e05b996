-- What `extend` makes of its arguments: a stored sheet that keeps the bounds is not cut; what `finish` makes of the parts of a key is the answer for the
-- key; and for a key, a letter and what is prepared as they should be, that is the key's step. From the laws of lists and of what is prepared.
use Prim.Native.Nat.{ℕ, ◌+◌, ◌-◌, ◌*◌, min}
use native.Mathlib.Omega.{arith}
use mathlib.Core.Path.{◌≡◌, refl, sym, ◌∙◌, ap, subst}
use mathlib.Core.Bool.{Bool}
use mathlib.Core.List.{List, []}
use lib.Dec.{leb}
use lib.IntN.{ℤ}
use lib.ListN.{length, take, drop}
use lib.Seq.{length-take-le, take_all}
use Rattle.std.specs.Prelude.{is_some}
use Rattle.nodes.specs.Evaluate.{view}
use Rattle.sizes.specs.Room.{key_size, window_room, prepared_size}
use Rattle.prepare.specs.Key.{size_in, firsts_in, marks_in}
use Rattle.prepare.specs.Prepared.{IsPreparable}
use Rattle.extend.specs.Step.{Store, letters_after, view_after, view_in, judged_in, key_from, judged_after, key_after, IsReady, within_bounds, constraints_within, HasValues, IsKey, PreparedFor, Finished, Extended, Continues, Extends}
use Rattle.prepare.proofs.PreparedLaws.{values-after, firsts_after, prepared_again}

-- For a key of a stored sheet within the bounds, what its letters need can be prepared.
pub key_preparable : {K : Store} {key : List ℕ} → IsReady K → IsKey K key → IsPreparable (length K.letter_values) K.streams K.width (length K.first_nodes) key prepared_size
key_preparable r k = record { sizes = (r.few_letters, r.few_streams, r.few_firsts, k.long, refl); letters = λ p h. (k.letters p h).inside }

-- ---- the stored sheet within the bounds

module _ (K : Store) where
  abbrev count : ℕ
  count = constraints_within K

  abbrev firsts_count : ℕ
  firsts_count = min (length K.first_nodes) 8

  relations-left : length (take count K.relations) ≡ count
  relations-left = length-take-le count K.relations (omega arith)

  pub within-ready : IsReady (within_bounds K)
  unfolding within_bounds
  within-ready =
      record {
        few_letters = omega arith;
        few_streams = omega arith;
        lefts_long = length-take-le count K.lefts (omega arith) ∙ sym relations-left;
        rights_long = length-take-le count K.rights (omega arith) ∙ sym relations-left;
        few_constraints = omega (arith, relations-left);
        few_firsts = omega (arith, length-take-le firsts_count K.first_nodes (omega arith));
      }

  -- A stored sheet that keeps the bounds is not cut.
  pub within_same : IsReady K → within_bounds K ≡ K
  unfolding within_bounds
  within_same r =
      let relations = take_all count K.relations (omega (arith, r.lefts_long, r.rights_long, r.few_constraints)) in
      let lefts = take_all count K.lefts (omega (arith, r.lefts_long, r.rights_long, r.few_constraints)) in
      let rights = take_all count K.rights (omega (arith, r.lefts_long, r.rights_long, r.few_constraints)) in
      let firsts = take_all firsts_count K.first_nodes (omega (arith, r.few_firsts)) in
      let streams : min K.streams 8 ≡ K.streams = omega (arith, r.few_streams) in
      let width : min K.width 6 ≡ K.width = omega (arith, r.few_letters) in
      λ i. record {
        nodes = K.nodes;
        relations = relations i;
        lefts = lefts i;
        rights = rights i;
        first_nodes = firsts i;
        letter_values = K.letter_values;
        streams = streams i;
        ahead = K.ahead;
        width = width i;
      }

-- ---- what `finish` makes of the parts of a key

-- `finish` knows no letters' values but those of the window.
abbrev pub without_values : Store → Store
without_values K =
    record {
      nodes = K.nodes;
      relations = K.relations;
      lefts = K.lefts;
      rights = K.rights;
      first_nodes = K.first_nodes;
      letter_values = [];
      streams = K.streams;
      ahead = K.ahead;
      width = K.width;
    }

module _ (K : Store) where
  pub part-ready : IsReady K → IsReady (without_values K)
  part-ready r =
      record {
        few_letters = r.few_letters;
        few_streams = r.few_streams;
        lefts_long = r.lefts_long;
        rights_long = r.rights_long;
        few_constraints = r.few_constraints;
        few_firsts = r.few_firsts;
      }

  pub finished-parts : (key : List ℕ) (a : ℕ) (prepared : List ℤ) {window firsts : List ℤ} {letters numbers fresh fresh' : List ℕ} {ok : Bool}
      → window ≡ take ((min (size_in key) K.width + 1) * K.streams) prepared → firsts ≡ take (length K.first_nodes) (drop window_room prepared)
      → letters ≡ letters_after K key a → numbers ≡ firsts_in (length K.first_nodes) key
      → Finished (without_values K) (view window K.streams firsts (leb (size_in key) K.width)) (size_in key) letters (marks_in key) numbers fresh ok fresh'
      → Finished K (view_in K key prepared) (size_in key) (letters_after K key a) (marks_in key) (firsts_in (length K.first_nodes) key) fresh ok fresh'
  finished-parts key a prepared {fresh = fresh} {fresh' = fresh'} {ok = ok} ew ef el en f =
      let g = subst (λ T. T) (λ i. Finished (without_values K) (view (ew i) K.streams (ef i) (leb (size_in key) K.width)) (size_in key) (el i) (marks_in key) (en i) fresh ok fresh') f in
      record { answer = g.answer; new = g.new; kept = g.kept }

-- ---- for a key, a letter and what is prepared as they should be

module _ {K : Store} {key : List ℕ} {a : ℕ} {prepared : List ℤ} {fresh : List ℕ} {prepared' : List ℤ} {fresh' : List ℕ} {ok : Bool} (e : Extends K key a prepared fresh prepared' fresh' ok)
    (ready : IsReady K) (k : IsKey K key) (h : HasValues K a) (long : length fresh ≡ key_size) (p : PreparedFor K key prepared) where
  continues : Continues K key a prepared fresh prepared' fresh' ok
  continues = subst (λ s. Continues s key a prepared fresh prepared' fresh' ok) (within_same K ready) (e.done (k.long, p.long, long))

  -- The list holds the values that the longer record needs.
  view-is : view_in K key prepared' ≡ view_after K key a
  view-is =
      let put = continues.put in
      let window = ap (take ((min (size_in key) K.width + 1) * K.streams)) put ∙ values-after p a ready.few_letters ready.few_streams h.inside in
      let firsts = ap (λ l. take (length K.first_nodes) (drop window_room l)) put ∙ firsts_after p a ready.few_letters ready.few_streams h.inside in
      λ i. view (window i) K.streams (firsts i) (leb (size_in key) K.width)

  step : Extended K key a fresh ok fresh'
  unfolding judged_after key_after
  step =
      let f = continues.finished in
      record {
        answer = f.answer ∙ ap (λ W. is_some (judged_in K W (length (letters_after K key a) - 1) (marks_in key))) view-is;
        new = λ yes. f.new yes ∙ ap (λ W. key_from K W (size_in key) (letters_after K key a) (marks_in key) (firsts_in (length K.first_nodes) key)) view-is;
        kept = f.kept;
      }

  -- The answer and the new key are those of the key's step, and what is prepared for the key stays so.
  pub extends-extended : Extended K key a fresh ok fresh' × PreparedFor K key prepared'
  extends-extended = (step, subst (PreparedFor K key) (sym continues.put) (prepared_again p a ready.few_letters ready.few_streams h.inside))
