-- What the rows of a search stand for. Records are lawful or not, and a lawful record stands for a thing: a situation, a pair of states. Where
-- keys stand for those things, the rows do.
use Rattle.std.specs.Prelude.{ℕ, ◌<◌, ◌≡◌, ◌↔◌, Bool, true, cond, List, [], ◌∷◌, ◌++◌, T}
use Rattle.automaton.specs.Words.{AllBelow}
use Rattle.automaton.specs.Table.{no_state, FirstMet}
use Rattle.automaton.specs.Reachable.{System}

module _ (k : ℕ) (lawful : List ℕ → Type 0) {X : Type 0} (thing : List ℕ → X) where
  -- x is the thing of a lawful record
  pub record IsThing (x : X) : Type 0 where
    pub shown : List ℕ
    pub letters : AllBelow k shown
    pub is_lawful : lawful shown
    pub same : thing shown ≡ x

  -- v is the row of the thing of r, or 65,535 where r is not lawful
  pub data IsThingRow (n : ℕ) (shown : ℕ → List ℕ) (r : List ℕ) (v : ℕ) : Type 0 where
    no_row : v ≡ no_state → (lawful r → ⊥) → IsThingRow n shown r v
    row : v < n → lawful r → thing r ≡ thing (shown v) → IsThingRow n shown r v

  -- The first n rows stand for the things, each once: row i for that of the record `shown i`.
  pub record RowsOf (done : X → Bool) (n : ℕ) (entry : ℕ → ℕ → ℕ) (byte : ℕ → ℕ) : Type 0 where
    pub shown : ℕ → List ℕ
    pub some_row : 0 < n
    pub start : shown 0 ≡ []
    pub letters : (i : ℕ) → i < n → AllBelow k (shown i)
    pub is_lawful : (i : ℕ) → i < n → lawful (shown i)
    pub distinct : (i j : ℕ) → i < n → j < n → thing (shown i) ≡ thing (shown j) → i ≡ j
    pub entries : (i a : ℕ) → i < n → a < k → IsThingRow n shown (shown i ++ (a ∷ [])) (entry i a)
    pub flag : (i : ℕ) → i < n → byte i ≡ cond (done (thing (shown i))) 1 0
    pub first_met : (j : ℕ) → 0 < j → j < n → FirstMet k entry j

  -- Records of one thing are alike, a thing tells whether its records are done, and a lawful record stays done.
  pub record Marks (done : X → Bool) (is_done : List ℕ → Type 0) (alike : List ℕ → List ℕ → Type 0) : Type 0 where
    pub same_alike : (r t : List ℕ) → AllBelow k r → AllBelow k t → lawful r → lawful t → thing r ≡ thing t → alike r t
    pub done↔done : (r : List ℕ) → AllBelow k r → lawful r → T (done (thing r)) ↔ is_done r
    pub stays : (r : List ℕ) (a : ℕ) → AllBelow k r → a < k → lawful r → lawful (r ++ (a ∷ [])) → is_done r → is_done (r ++ (a ∷ []))

-- Keys stand for the things: `key_of` gives the key of a lawful record, one more letter leads from key to key, keys are equal exactly if things
-- are, and a key's flag says whether its thing is done.
pub record KeysStand (S : System) (lawful : List ℕ → Type 0) (key_of : List ℕ → S.Key) {X : Type 0} (thing : List ℕ → X) (done : X → Bool) : Type 0 where
  pub start_lawful : lawful []
  pub beginning : (r : List ℕ) (a : ℕ) → lawful (r ++ (a ∷ [])) → lawful r
  pub empty : key_of [] ≡ S.start
  pub allows : (r : List ℕ) → AllBelow S.letters r → lawful r → (a : ℕ) → a < S.letters → (S.ok (key_of r) a ≡ true) ↔ lawful (r ++ (a ∷ []))
  pub leads : (r : List ℕ) → AllBelow S.letters r → lawful r → (a : ℕ) → a < S.letters → lawful (r ++ (a ∷ [])) → S.after (key_of r) a ≡ key_of (r ++ (a ∷ []))
  pub key_thing : (r t : List ℕ) → AllBelow S.letters r → AllBelow S.letters t → lawful r → lawful t → key_of r ≡ key_of t → thing r ≡ thing t
  pub thing_key : (r t : List ℕ) → AllBelow S.letters r → AllBelow S.letters t → lawful r → lawful t → thing r ≡ thing t → key_of r ≡ key_of t
  pub flagged : (r : List ℕ) → AllBelow S.letters r → lawful r → S.flag (key_of r) ≡ done (thing r)
