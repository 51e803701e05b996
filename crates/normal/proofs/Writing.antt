-- Rows written one after the other: stores in a row are one store, and what the parts of an expression write is what the expression writes.
use Prim.Native.Nat.{ℕ, suc, ◌+◌, ◌*◌, ◌≤◌}
use native.Mathlib.Omega.{arith}
use mathlib.Core.Path.{◌≡◌, refl, sym, ◌∙◌, ap, subst}
use mathlib.Core.List.{List, [], ◌∷◌, ◌++◌, append_assoc}
use lib.IntN.{ℤ}
use lib.ListN.{length, set, length-append}
use lib.Seq.{sets}
use Rattle.basics.proofs.Lists.{sets_append}
use Rattle.normal_entries.specs.Row.{Row}
use Rattle.normal.specs.Rows.{Rewriting, equation_row, nothing_added, both_rewritings, next_entries, next_rewriting, fby_entries, fby_rewriting, until_row, until_entries}
use Rattle.normal_entries.specs.Entries.{row_bound}
use Rattle.normal.specs.Table.{stream_limit, numbers_of, flat, put_rows, RewritingFits, Wrote}
use Rattle.normal.specs.declared.RowsWritten.{RowsWritten}

-- ---- stores

-- Seven stores from a place on.
pub seven_stores : (t : List ℕ) (a p q r s u v w : ℕ)
    → set (set (set (set (set (set (set t a p) (a + 1) q) (a + 2) r) (a + 3) s) (a + 4) u) (a + 5) v) (a + 6) w ≡ sets t a (p ∷ q ∷ r ∷ s ∷ u ∷ v ∷ w ∷ [])
seven_stores t a p q r s u v w =
    let e1 : a + 1 ≡ suc a = omega arith in
    let e2 : a + 2 ≡ suc (suc a) = omega arith in
    let e3 : a + 3 ≡ suc (suc (suc a)) = omega arith in
    let e4 : a + 4 ≡ suc (suc (suc (suc a))) = omega arith in
    let e5 : a + 5 ≡ suc (suc (suc (suc (suc a)))) = omega arith in
    let e6 : a + 6 ≡ suc (suc (suc (suc (suc (suc a))))) = omega arith in
    λ i. set (set (set (set (set (set (set t a p) (e1 i) q) (e2 i) r) (e3 i) s) (e4 i) u) (e5 i) v) (e6 i) w

pub two_stores : (t : List ℤ) (a : ℕ) (x y : ℤ) → set (set t a x) (a + 1) y ≡ sets t a (x ∷ y ∷ [])
two_stores t a x y = let e : a + 1 ≡ suc a = omega arith in λ i. set (set t a x) (e i) y

-- ---- rows

pub flat_append : (a b : List Row) → flat (a ++ b) ≡ flat a ++ flat b
flat_append [] b = refl
flat_append (r ∷ a) b = ap (λ l. numbers_of r ++ l) (flat_append a b)

pub length-flat : (a : List Row) → length (flat a) ≡ length a * 7
length-flat [] = refl
length-flat (r ∷ a) = let h = length-flat a in omega arith

pub put-append : (t : List ℕ) (r : ℕ) (a b : List Row) → put_rows (put_rows t r a) (r + length a) b ≡ put_rows t r (a ++ b)
put-append t r a b =
    let at : (r + length a) * 7 ≡ r * 7 + length (flat a) = omega (arith, length-flat a) in
    ap (λ k. sets (sets t (r * 7) (flat a)) k (flat b)) at ∙ sets_append t (r * 7) (flat a) (flat b) ∙ ap (sets t (r * 7)) (sym (flat_append a b))

-- Rows written behind rows.
pub put-more : (t : List ℕ) {u v : List ℕ} (r : ℕ) {k : ℕ} (a b : List Row) → u ≡ put_rows t r a → k ≡ r + length a → v ≡ put_rows u k b → v ≡ put_rows t r (a ++ b)
put-more t r a b p q e = e ∙ (λ i. put_rows (p i) (q i) b) ∙ put-append t r a b

-- A row whose numbers the code gives.
abbrev pub row_of : ℕ → ℕ → ℕ → ℕ → ℕ → ℕ → ℕ → Row
row_of k p l m r n e = record { kind = k; relation = p; left = l; left_added = m; right = r; right_added = n; source = e }

one_more : (n : ℕ) → n + 1 ≡ suc n
one_more n = omega arith

two_more : (n : ℕ) → n + 2 ≡ suc (suc n)
two_more n = omega arith

three-more : (n : ℕ) → n + 3 ≡ suc (suc (suc n))
three-more n = omega arith

-- The entries of one operator, one after the other.
pub next-stored : (t : List ℕ) {u v : List ℕ} (row n e : ℕ) → u ≡ put_rows t row (equation_row (n + 1) e (n + 2) ∷ []) → v ≡ put_rows u (row + 1) (row_of 4 2 n 0 (n + 1) 0 (e + 1) ∷ [])
    → v ≡ put_rows t row (next_entries e n)
next-stored t row n e p q =
    put-more t row (equation_row (n + 1) e (n + 2) ∷ []) (row_of 4 2 n 0 (n + 1) 0 (e + 1) ∷ []) p refl q
    ∙ (λ i. put_rows t row (equation_row (one_more n i) e (two_more n i) ∷ row_of 4 2 n 0 (one_more n i) 0 (one_more e i) ∷ []))

pub fby-stored : (t : List ℕ) {u v w x : List ℕ} (row n l r m : ℕ) → u ≡ put_rows t row (equation_row (n + 1) l m ∷ []) → v ≡ put_rows u (row + 1) (equation_row (n + 2) r (n + 3) ∷ [])
    → w ≡ put_rows v (row + 2) (row_of 5 2 n 0 (n + 1) 0 (r + 1) ∷ []) → x ≡ put_rows w (row + 3) (row_of 4 2 (n + 2) 0 n 0 r ∷ []) → x ≡ put_rows t row (fby_entries l r m n)
fby-stored t row n l r m p q s y =
    let a = equation_row (n + 1) l m in
    let b = equation_row (n + 2) r (n + 3) in
    let c = row_of 5 2 n 0 (n + 1) 0 (r + 1) in
    put-more t row (a ∷ b ∷ c ∷ []) (row_of 4 2 (n + 2) 0 n 0 r ∷ []) (put-more t row (a ∷ b ∷ []) (c ∷ []) (put-more t row (a ∷ []) (b ∷ []) p refl q) refl s) refl y
    ∙ (λ i. put_rows t row (equation_row (one_more n i) l m ∷ equation_row (two_more n i) r (three-more n i) ∷ row_of 5 2 n 0 (one_more n i) 0 (one_more r i) ∷ row_of 4 2 (two_more n i) 0 n 0 r ∷ []))

pub until-stored : (t : List ℕ) {u v w : List ℕ} (own row n l r m : ℕ) → u ≡ put_rows t own (row_of 2 7 n 0 (n + 1) 0 l ∷ []) → v ≡ put_rows u row (equation_row n l m ∷ [])
    → w ≡ put_rows v (row + 1) (equation_row (n + 1) r (n + 2) ∷ []) → w ≡ put_rows (put_rows t own (until_row n l ∷ [])) row (until_entries l r m n)
until-stored t {u} own row n l r m p q s =
    put-more u row (equation_row n l m ∷ []) (equation_row (n + 1) r (n + 2) ∷ []) q refl s
    ∙ ap (λ z. put_rows z row (equation_row n l m ∷ equation_row (n + 1) r (n + 2) ∷ [])) p
    ∙ (λ i. put_rows (put_rows t own (row_of 2 7 n 0 (one_more n i) 0 l ∷ [])) row (equation_row n l m ∷ equation_row (one_more n i) r (two_more n i) ∷ []))

-- ---- what the parts of an expression write

abbrev pub written : ℕ → ℕ → RowsWritten
written r n = record { row = r; stream = n }

module _ {w a : Rewriting} (is : w ≡ a) {row n : ℕ} where
  pub room-same : RewritingFits w row n → RewritingFits a row n
  room-same h = subst (λ x. RewritingFits x row n) is h

  pub wrote-same : {t u : List ℕ} {r : RowsWritten} → Wrote a row n t u r → Wrote w row n t u r
  wrote-same {t} {u} {r} x = subst (λ z. Wrote z row n t u r) (sym is) x

pub wrote_nothing : {w : Rewriting} → w ≡ nothing_added → (row n : ℕ) (t : List ℕ) → Wrote w row n t t (written row n)
wrote_nothing is row n t = wrote-same is (record { rows = omega arith; streams = omega arith; table = refl })

-- Of w, which is what two parts add one after the other.
module _ (a b : Rewriting) {w : Rewriting} (is : w ≡ both_rewritings a b) {row n : ℕ} where
  joined-room : RewritingFits w row n → RewritingFits (both_rewritings a b) row n
  joined-room h = subst (λ x. RewritingFits x row n) is h

  pub room-left : RewritingFits w row n → RewritingFits a row n
  room-left h = let g = joined-room h in let e = length-append (a.rows n) (b.rows (n + a.added)) in record { rows = omega (arith, g.rows); streams = omega (arith, g.streams) }

  module _ {t u : List ℕ} {r : RowsWritten} (x : Wrote a row n t u r) where
    pub room-right : RewritingFits w row n → RewritingFits b r.row r.stream
    room-right h =
        let g = joined-room h in
        let e = length-append (a.rows n) (b.rows (n + a.added)) in
        let f = ap (λ k. length (b.rows k)) x.streams in
        record { rows = omega (arith, g.rows, x.rows); streams = omega (arith, g.streams, x.streams) }

    pub wrote-joined : {v : List ℕ} {q : RowsWritten} → Wrote b r.row r.stream u v q → Wrote w row n t v q
    wrote-joined {v} {q} y =
        let e = length-append (a.rows n) (b.rows (n + a.added)) in
        let f = ap (λ k. length (b.rows k)) x.streams in
        subst (λ z. Wrote z row n t v q) (sym is)
        (record {
          rows = omega (arith, y.rows, x.rows);
          streams = omega (arith, y.streams, x.streams);
          table = put-more t row (a.rows n) (b.rows (n + a.added)) x.table x.rows (y.table ∙ ap (λ k. put_rows u r.row (b.rows k)) x.streams);
        })

-- Of w, which is what a `next` adds.
module _ (e : ℕ) (b : Rewriting) {w : Rewriting} (is : w ≡ next_rewriting e b) {row n : ℕ} where
  pub room-own-next : RewritingFits w row n → (row + 2 ≤ row_bound) × (n + 2 ≤ stream_limit)
  room-own-next h =
      let g : RewritingFits (next_rewriting e b) row n = subst (λ x. RewritingFits x row n) is h in
      (omega (arith, g.rows), omega (arith, g.streams))

  pub room_next : RewritingFits w row n → RewritingFits b (row + 2) (n + 2)
  room_next h =
      let g : RewritingFits (next_rewriting e b) row n = subst (λ x. RewritingFits x row n) is h in
      let f = ap (λ k. length (b.rows k)) (two_more n) in
      record { rows = omega (arith, g.rows); streams = omega (arith, g.streams) }

  pub wrote-next : {t u v : List ℕ} {q : RowsWritten} → u ≡ put_rows t row (next_entries e n) → Wrote b (row + 2) (n + 2) u v q → Wrote w row n t v q
  wrote-next {t} {u} {v} {q} p x =
      let f = ap (λ k. length (b.rows k)) (two_more n) in
      subst (λ z. Wrote z row n t v q) (sym is)
      (record {
        rows = omega (arith, x.rows);
        streams = omega (arith, x.streams);
        table = put-more t row (next_entries e n) (b.rows (suc (suc n))) p refl (x.table ∙ ap (λ k. put_rows u (row + 2) (b.rows k)) (two_more n));
      })

fby-length : (l e : ℕ) (a b : Rewriting) (n : ℕ) → length ((fby_rewriting l e a b).rows n) ≡ length (a.rows n) + (4 + length (b.rows (suc (suc (suc (n + a.added))))))
fby-length l e a b n = length-append (a.rows n) (fby_entries l e n (n + a.added) ++ b.rows (suc (suc (suc (n + a.added))))) ∙ omega arith

-- Of w, which is what an `fby` adds.
module _ (l e : ℕ) (a b : Rewriting) {w : Rewriting} (is : w ≡ fby_rewriting l e a b) {row n : ℕ} where
  fby-room : RewritingFits w row n → RewritingFits (fby_rewriting l e a b) row n
  fby-room h = subst (λ x. RewritingFits x row n) is h

  pub room-fby-left : RewritingFits w row n → RewritingFits a row n
  room-fby-left h = let g = fby-room h in let k = fby-length l e a b n in record { rows = omega (arith, g.rows); streams = omega (arith, g.streams) }

  module _ {t u : List ℕ} {r : RowsWritten} (x : Wrote a row n t u r) where
    behind : r.stream + 3 ≡ suc (suc (suc (n + a.added)))
    behind = omega (arith, x.streams)

    pub room-fby-own : RewritingFits w row n → (r.row + 4 ≤ row_bound) × (r.stream + 3 ≤ stream_limit) × (n ≤ stream_limit)
    room-fby-own h =
        let g = fby-room h in
        let k = fby-length l e a b n in
        (omega (arith, g.rows, x.rows), omega (arith, g.streams, x.streams), omega (arith, g.streams))

    pub room-fby-right : RewritingFits w row n → RewritingFits b (r.row + 4) (r.stream + 3)
    room-fby-right h =
        let g = fby-room h in
        let k = fby-length l e a b n in
        let f = ap (λ k. length (b.rows k)) behind in
        record { rows = omega (arith, g.rows, x.rows); streams = omega (arith, g.streams, x.streams) }

    pub wrote-fby : {v z : List ℕ} {q : RowsWritten} → v ≡ put_rows u r.row (fby_entries l e n r.stream) → Wrote b (r.row + 4) (r.stream + 3) v z q
        → Wrote w row n t z q
    wrote-fby {v} {z} {q} p y =
        let k = fby-length l e a b n in
        let f = ap (λ k. length (b.rows k)) behind in
        let own = fby_entries l e n (n + a.added) in
        let d = length-append (a.rows n) own in
        subst (λ z'. Wrote z' row n t z q) (sym is)
        (record {
          rows = omega (arith, y.rows, x.rows);
          streams = omega (arith, y.streams, x.streams);
          table =
              put-more t row (a.rows n ++ own) (b.rows (suc (suc (suc (n + a.added)))))
              (put-more t row (a.rows n) own x.table x.rows (p ∙ ap (λ j. put_rows u r.row (fby_entries l e n j)) x.streams))
              (omega (arith, x.rows))
              (y.table ∙ ap (λ k. put_rows v (r.row + 4) (b.rows k)) behind)
              ∙ ap (put_rows t row) (append_assoc (a.rows n) own (b.rows (suc (suc (suc (n + a.added))))));
        })
