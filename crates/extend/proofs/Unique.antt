-- The contract of `extend` leaves nothing open: two outcomes for the same arguments are equal. From the definitions, whose conditions can be
-- decided.
use Prim.Native.Nat.{ℕ, ◌-◌}
use native.Mathlib.Decide.{ℕ_discrete, map_dec}
use mathlib.Core.Path.{◌≡◌, refl, sym, ◌∙◌, ap}
use mathlib.Core.Bool.{Bool, true, false}
use mathlib.Core.Logic.Dec
use mathlib.Core.List.{List}
use lib.IntN.{ℤ}
use lib.ListN.{length}
use Rattle.std.specs.Prelude.{is_some}
use Rattle.sizes.specs.Room.{key_size, prepared_size}
use Rattle.prepare.specs.Key.{size_in, firsts_in, marks_in}
use Rattle.extend.specs.Step.{Store, letters_after, view_in, judged_in, key_from, SizesFit, Continues, Extends}

-- ---- the condition can be decided

fit_dec : (key prepared fresh : ℕ) → Dec (SizesFit key prepared fresh)
fit_dec key prepared fresh =
    map_dec (λ p. (p.0, p.1.0, p.1.1)) (λ p. (p.0, (p.1, p.2))) (Dec.and (ℕ_discrete key key_size) (Dec.and (ℕ_discrete prepared prepared_size) (ℕ_discrete fresh key_size)))

-- ---- two outcomes

module _ {key : List ℕ} {a : ℕ} {prepared : List ℤ} {fresh : List ℕ} {prepared' prepared'' : List ℤ} {fresh' fresh'' : List ℕ} {ok ok' : Bool} where
  continues_unique : {K : Store} → Continues K key a prepared fresh prepared' fresh' ok → Continues K key a prepared fresh prepared'' fresh'' ok' → (ok ≡ ok') × (prepared' ≡ prepared'') × (fresh' ≡ fresh'')
  continues_unique {K} x y = (answers, lists, by ok refl)
    where
      lists : prepared' ≡ prepared''
      lists = x.put ∙ sym y.put

      answers : ok ≡ ok'
      answers = x.finished.answer ∙ ap (λ l. is_some (judged_in K (view_in K key l) (length (letters_after K key a) - 1) (marks_in key))) lists ∙ sym y.finished.answer

      by : (b : Bool) → ok ≡ b → fresh' ≡ fresh''
      by false e = x.finished.kept e ∙ sym (y.finished.kept (sym answers ∙ e))
      by true e =
          x.finished.new e ∙ ap (λ l. key_from K (view_in K key l) (size_in key) (letters_after K key a) (marks_in key) (firsts_in (length K.first_nodes) key)) lists
          ∙ sym (y.finished.new (sym answers ∙ e))

  pub extends_unique : {K : Store} → Extends K key a prepared fresh prepared' fresh' ok → Extends K key a prepared fresh prepared'' fresh'' ok' → (ok ≡ ok') × (prepared' ≡ prepared'') × (fresh' ≡ fresh'')
  extends_unique x y = by (fit_dec (length key) (length prepared) (length fresh))
    where
      by : Dec (SizesFit (length key) (length prepared) (length fresh)) → (ok ≡ ok') × (prepared' ≡ prepared'') × (fresh' ≡ fresh'')
      by (yes fit) = continues_unique (x.done fit) (y.done fit)
      by (no misfit) =
          let s = x.refused misfit in
          let t = y.refused misfit in
          (s.0 ∙ sym t.0, s.1 ∙ sym t.1, s.2 ∙ sym t.2)
