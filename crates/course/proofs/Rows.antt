-- Storing a row of costs: the costs behind its letters one after the other, and then the least of each letter in the row's part of the list. From the places
-- of rows in a list, and the laws of costs.
use mathlib.Core.Path.{◌≡◌, refl, sym, ap, ◌∙◌, subst}
use mathlib.Core.Logic.{◌≢◌}
use mathlib.Core.List.{List, ◌++◌}
use Prim.Native.Nat.{ℕ, ◌+◌, ◌-◌, ◌*◌, ◌/◌, ◌<◌, ◌≤◌}
use native.Mathlib.Omega.{arith}
use native.Mathlib.Decide.{ℕ_discrete, dec_lt}
use borrow.Rule.Slice.PartMut.{mid_of, put_mid, same_len_mid, mid_len}
use lib.Arith.{digits_lt, digits_div}
use lib.ListN.{length, set, take, drop, length-set, get_or-append}
use lib.Seq.{length-take-le, get_or-set_same, get_or-set_other, get_or-take, get_or-drop, get_or-append-add}
use Rattle.basics.specs.Lists.{at}
use Rattle.basics.proofs.Lists.{row_fits}
use Rattle.automaton.specs.Table.{no_state}
use Rattle.automaton.specs.Stored.{entry_at}
use Rattle.changes.specs.Axes.{letter_total, axes_in}
use Rattle.changes.specs.Least.{IsLeastFrom, LowersCosts}
use Rattle.changes.specs.declared.Shape.{Shape}
use Rattle.changes.proofs.Passes.{least-same}
use Rattle.course.specs.Costs.{Layered, behind, LoadsRow, FindsRow}
use Rattle.course.proofs.Costs.{behind-missing, behind_aside, behind-next, cost_same}

-- two rows have no place in common
pub rows_apart : (j i : ℕ) {k a b : ℕ} → a < k → b < k → j ≢ i → j * k + a ≢ i * k + b
rows_apart j i {k} ha hb ne e = ne (sym (digits_div j ha) ∙ ap (λ x. x / k) e ∙ digits_div i hb)

module _ (t : Layered) (i : ℕ) where
  pub load_start : (costs : List ℕ) → LoadsRow t i 0 costs costs
  load_start costs = record { same_length = refl; inside = λ a h. absurd (omega arith); outside = λ j a ne h. refl }

  -- The row's own places are not read, since a row of the next layer is another one.
  behind-same : {m : ℕ} {costs cur : List ℕ} → m < t.letters → LoadsRow t i m costs cur → behind t cur i m ≡ behind t costs i m
  behind-same {m} {costs} {cur} letter done = go (ℕ_discrete (t.entry i m) no_state) (ℕ_discrete (t.layer (t.entry i m)) (t.layer i + 1))
    where
      go : Dec (t.entry i m ≡ no_state) → Dec (t.layer (t.entry i m) ≡ t.layer i + 1) → behind t cur i m ≡ behind t costs i m
      go (yes q) d = behind-missing t cur (t.layer i + 1) (t.entry i m) m q ∙ sym (behind-missing t costs (t.layer i + 1) (t.entry i m) m q)
      go (no some) (no aside) = behind_aside t cur (t.layer i + 1) (t.entry i m) m some aside ∙ sym (behind_aside t costs (t.layer i + 1) (t.entry i m) m some aside)
      go (no some) (yes q) =
          behind-next t cur (t.layer i + 1) (t.entry i m) m some q
          ∙ cost_same t costs cur (t.entry i m) m (done.outside (t.entry i m) m (λ z. let f = ap t.layer z in omega arith) letter)
          ∙ sym (behind-next t costs (t.layer i + 1) (t.entry i m) m some q)

  pub load_next : {m v : ℕ} {costs cur : List ℕ} → m < t.letters → i * t.letters + m < length cur → LoadsRow t i m costs cur → v ≡ behind t cur i m
      → LoadsRow t i (m + 1) costs (set cur (i * t.letters + m) v)
  load_next {m} {v} {costs} {cur} letter place done e = record {
    same_length = length-set cur (i * t.letters + m) v ∙ done.same_length;
    inside = λ a h. at_letter a h (ℕ_discrete a m);
    outside = λ j a ne h. get_or-set_other cur (i * t.letters + m) (j * t.letters + a) v 0 (rows_apart j i h letter ne) ∙ done.outside j a ne h;
  }
    where
      at_letter : (a : ℕ) → a < m + 1 → Dec (a ≡ m) → entry_at t.letters (set cur (i * t.letters + m) v) i a ≡ behind t costs i a
      at_letter a h (yes q) = rw q (get_or-set_same cur (i * t.letters + m) v 0 place ∙ e ∙ behind-same letter done)
      at_letter a h (no ne) = get_or-set_other cur (i * t.letters + m) (i * t.letters + a) v 0 (omega arith) ∙ done.inside a (omega arith)

-- ---- the row's part of the list

module _ (start k : ℕ) (list part : List ℕ) (fits : start + k ≤ length list) (same : length part ≡ k) where
  -- the list with other numbers in the place of the k from `start` on
  abbrev replaced : List ℕ
  replaced = put_mid start (start + k - start) list part

  front : length (take start list) ≡ start
  front = length-take-le start list (omega arith)

  put-inside : (p : ℕ) → p < k → at replaced (start + p) ≡ at part p
  put-inside p h =
      ap (λ n. at replaced (n + p)) (sym front) ∙ get_or-append-add (take start list) (part ++ drop (start + k - start) (drop start list)) p 0
      ∙ get_or-append part (drop (start + k - start) (drop start list)) 0 p (omega arith)

  put-before : (q : ℕ) → q < start → at replaced q ≡ at list q
  put-before q h = get_or-append (take start list) (part ++ drop (start + k - start) (drop start list)) 0 q (omega (arith, front)) ∙ get_or-take start list q 0 h

  put-behind : (q : ℕ) → start + k ≤ q → at replaced q ≡ at list q
  put-behind q h =
      let rest = drop (start + k - start) (drop start list) in
      let j = q - start - k in
      let there : q ≡ length (take start list) + (length part + j) = omega (arith, front) in
      let here : start + (start + k - start + j) ≡ q = omega arith in
      ap (at replaced) there ∙ get_or-append-add (take start list) (part ++ rest) (length part + j) 0 ∙ get_or-append-add part rest j 0
      ∙ get_or-drop (start + k - start) (drop start list) j 0 ∙ get_or-drop start list (start + k - start + j) 0 ∙ ap (at list) here

-- the row is found: its part has the least of each letter, and the other rows stay
pub row-found : (t : Layered) (i : ℕ) {shape : Shape} {costs loaded part : List ℕ} → letter_total (axes_in shape) ≡ t.letters
    → i * t.letters + t.letters ≤ length loaded → LoadsRow t i t.letters costs loaded
    → LowersCosts shape (mid_of (i * t.letters) (i * t.letters + t.letters - i * t.letters) loaded) part
    → FindsRow (axes_in shape) t i costs (put_mid (i * t.letters) (i * t.letters + t.letters - i * t.letters) loaded part)
row-found t i {shape} {costs} {loaded} {part} letters fits done low = record {
  same_length = same_len_mid (i * t.letters) (i * t.letters + t.letters - i * t.letters) loaded part low.same_length ∙ done.same_length;
  inside = λ p h. subst (IsLeastFrom (axes_in shape) (behind t costs i) p) (sym (put-inside (i * t.letters) t.letters loaded part fits long p h))
      (least-same (λ b l. loaded_at b (subst (λ n. b < n) letters l)) (low.lowered (letters ∙ sym wide) p (omega (arith, wide))));
  outside = λ j a ne h. other j a ne h (dec_lt j i) ∙ done.outside j a ne h;
}
  where
    wide : length (mid_of (i * t.letters) (i * t.letters + t.letters - i * t.letters) loaded) ≡ t.letters
    wide = mid_len (i * t.letters) (i * t.letters + t.letters) loaded fits ∙ (let e : i * t.letters + t.letters - i * t.letters ≡ t.letters = omega arith in e)

    long : length part ≡ t.letters
    long = low.same_length ∙ wide

    loaded_at : (b : ℕ) → b < t.letters → at (mid_of (i * t.letters) (i * t.letters + t.letters - i * t.letters) loaded) b ≡ behind t costs i b
    loaded_at b h =
        get_or-take (i * t.letters + t.letters - i * t.letters) (drop (i * t.letters) loaded) b 0 (omega arith) ∙ get_or-drop (i * t.letters) loaded b 0 ∙ done.inside b h

    other : (j a : ℕ) → j ≢ i → a < t.letters → Dec (j < i)
        → entry_at t.letters (put_mid (i * t.letters) (i * t.letters + t.letters - i * t.letters) loaded part) j a ≡ entry_at t.letters loaded j a
    other j a ne h (yes l) = put-before (i * t.letters) t.letters loaded part fits long (j * t.letters + a) (digits_lt l h)
    other j a ne h (no l) = put-behind (i * t.letters) t.letters loaded part fits long (j * t.letters + a) (let f = row_fits i j t.letters (j * t.letters) (omega arith) (omega arith) in omega arith)
